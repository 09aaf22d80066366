-- Lists that are copied into an array.
use Rattle.std.specs.Prelude.{◌≡◌, ℕ, Bool, nat_le, List, ◌++◌, drop, length, if◌then◌else◌}
use Rattle.jl_host.specs.Numbers.{done, too_short}

abbrev pub fits : {A : Type 0} → List A → List A → Bool
fits items array = nat_le (length items) (length array)

-- at the front of the array, if they fit there; the length is told in any case
pub record IsCopied {A : Type 0} (items before : List A) (status : ℕ) (after : List A) (count : ℕ) : Type 0 where
  pub status_is : status ≡ (if fits items before then done else too_short)
  pub array_is : after ≡ (if fits items before then items ++ drop (length items) before else before)
  pub count_is : count ≡ length items
