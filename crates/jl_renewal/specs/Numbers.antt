-- The numbers that what stays has in the fresh core.
use Rattle.std.specs.Prelude.{ℕ, ◌+◌, Bool, true, false, List, [], ◌∷◌, length, filter, slice_get, Option, Some, None, option_and_then}
use Rattle.std.specs.Option.{unwrap_or}
use Rattle.jl_types.specs.Values.Target.{Target, Method, Guard, Invoker}

-- of each old loader, class, site, call site and switch point its new number, or none if it is gone
pub record Numbers : Type 0 where
  pub loaders : List (Option ℕ)
  pub classes : List (Option ℕ)
  pub sites : List (Option ℕ)
  pub call_sites : List (Option ℕ)
  pub switches : List (Option ℕ)

-- what stays is numbered from this number on, in order
abbrev pub numbered_from : ℕ → List Bool → List (Option ℕ)
numbered_from n [] = []
numbered_from n (true ∷ stays) = Some n ∷ numbered_from (n + 1) stays
numbered_from n (false ∷ stays) = None ∷ numbered_from n stays

-- what stays is numbered from 0 upward, in order
abbrev pub numbered : List Bool → List (Option ℕ)
numbered stays = numbered_from 0 stays

-- what stays of a list
abbrev pub staying : {A : Type 0} → List Bool → List A → List A
staying [] xs = []
staying (stays ∷ rest) [] = []
staying (true ∷ rest) (x ∷ xs) = x ∷ staying rest xs
staying (false ∷ rest) (x ∷ xs) = staying rest xs

-- how many stay
abbrev pub how_many : List Bool → ℕ
how_many stays = length (filter (λ stay. stay) stays)

-- the new number of what had this one, if it stays
abbrev pub new_number : List (Option ℕ) → ℕ → Option ℕ
new_number numbers k = option_and_then (λ number. number) (slice_get numbers k)

-- the new number of what stays; of what goes, 0
abbrev pub renumbered : List (Option ℕ) → ℕ → ℕ
renumbered numbers k = unwrap_or (new_number numbers k) 0

-- the target under new numbers
abbrev pub renumbered_target : Numbers → Target → Target
renumbered_target n (Method m) = Method (record m { class = renumbered n.classes m.class })
renumbered_target n (Guard p first fallback) =
    Guard (renumbered n.switches p) (renumbered_target n first) (renumbered_target n fallback)
renumbered_target n (Invoker c) = Invoker (renumbered n.call_sites c)
