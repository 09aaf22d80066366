-- What a line's JSON is read as.
use Rattle.std.proofs.Common.{◌≡◌, ◌∙◌, sym, ap, subst, refl, ℕ, List, Option, Some, None, option_map, option_and_then}
use Rattle.serde_json.specs.Data.{Data}
use Rattle.serde_json.specs.Read.{read}
use Rattle.serde_json.specs.View.{view}
use Rattle.serde_json.specs.declared.value.Value.{Value}
use Rattle.jl_session.specs.Jsons.{IsReadAs}

as_it_is : (o : Option Data) → option_and_then Some o ≡ o
as_it_is None = refl
as_it_is (Some d) = refl

of_data : {X : Type 0} (meaning : Data → Option X) (line : List ℕ) (d : Data) (o : Option X) → IsReadAs Some line (Some d)
    → o ≡ meaning d → IsReadAs meaning line o
of_data meaning line d None h is = λ utf8. ap (option_and_then meaning) (sym (as_it_is (read line)) ∙ h.1) ∙ sym is
of_data meaning line d (Some x) h is = (h.0, ap (option_and_then meaning) (sym (as_it_is (read line)) ∙ h.1) ∙ sym is)

-- what the JSON means that the line is
pub read_as : {X : Type 0} (meaning : Data → Option X) (line : List ℕ) (value : Value) (found : Option Value) (o : Option X)
    → IsReadAs Some line (option_map view found) → found ≡ Some value → o ≡ meaning (view value) → IsReadAs meaning line o
read_as meaning line value found o h one is =
    of_data meaning line (view value) o (subst (λ (v : Option Value). IsReadAs Some line (option_map view v)) one h) is
