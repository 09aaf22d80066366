use Rattle.std.proofs.Common.{◌≡◌, ◌==◌, ◌&&◌, ℕ, take}
use Rattle.std.specs.Prelude.{not}
use Rattle.jl_types.specs.declared.key.Key.{Key}
use Rattle.jl_types.specs.Events.Footprints.{has_key}
use Rattle.jl_deps.specs.Indexes.{form_eq}
use Rattle.jl_deps.specs.ForProofs.Lists.{listed}
use Rattle.jl_deps.specs.declared.form.Form.{Form}
use Rattle.jl_deps.proofs.lists.unlist_others.Given as goal

-- the site isn't listed any more under the keys so far that aren't to stay
abbrev pub invariant-loop-key : goal.invariant-loop-key
invariant-loop-key l = (k : Key) (f : Form) (s : ℕ) → listed l.lists k f s
    ≡ (not (((l.site == s) && form_eq l.form f) && (has_key (take l.key-index l.gone) k && not (has_key l.kept k))) && listed l.fn.lists k f s)
