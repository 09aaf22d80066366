-- What a clause sees of a list in pages.
use Rattle.std.specs.Prelude.{nat_lt, Bool, List, Vec, refl}
use Rattle.std.specs.Vec.{vec_len, vec_capacity}
use Rattle.std.specs.Coded.{Coded, code_by, coded×, coded_bool, coded_list}

-- the elements in order, and whether there is room for one more without memory
pub record Listed (T : Type 0) : Type 0 where
  pub items : List T
  pub room : Bool

-- a list is stored as the pair of its fields
abbrev pub listed_code : {T : Type 0} → Coded T → Coded (Listed T)
listed_code {T} code =
    code_by (List T × Bool) (coded× (coded_list code) coded_bool) (λ l. (l.items, l.room))
    (λ p. record { items = p.0; room = p.1 }) (λ _. refl)

abbrev pub has_room : {A T : Type 0} → Vec A T → Bool
has_room v = nat_lt (vec_len v) (vec_capacity v)
