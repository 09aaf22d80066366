-- What is below a class is the same under new numbers: the classes that objects may be of.
use Rattle.std.specs.Prelude.{◌≡◌, ℕ, ◌<◌, ◌&&◌, Bool, true, not, map, All, length}
use Rattle.std.specs.List.{range_with_len}
use Rattle.std.proofs.lemmas.Bool.{and_parts}
use Rattle.std.proofs.lemmas.List.Elements.{All-weaker, filter_passes}
use Rattle.jl_types.specs.Values.World.{Class, Classes}
use Rattle.jl_types.specs.Values.Members.{is_present, is_retired, is_concrete, is_concrete_row, class_test}
use Rattle.jl_types.specs.Values.Ancestry.{is_ancestor, receivers}
use Rattle.jl_types.proofs.Lists.{passes_within}
use Rattle.jl_renewal.specs.Numbers.{Numbers, renumbered}
use Rattle.jl_renewal.proofs.Alike.{Embeds}
use Rattle.jl_renewal.proofs.AlikeClasses.{present_alike, concrete_alike}
use Rattle.jl_renewal.proofs.AlikeAbove.{ancestor_alike, filtered_alike}

-- what is concrete is present
concrete_present : (cs : Classes) (c : ℕ) → is_concrete cs c ≡ true → is_present cs c ≡ true
concrete_present cs c h = (and_parts (is_present cs c) (class_test is_concrete_row cs c) h).0

-- what is present has a number
present_within : (cs : Classes) (c : ℕ) → is_present cs c ≡ true → c < length cs.rows
present_within cs c present = passes_within (λ (row : Class). not (is_retired cs row.loader)) cs.rows c present

module _ (n : Numbers) (cs ds : Classes) (e : Embeds n cs ds) where
  abbrev ren : ℕ → ℕ
  ren c = renumbered n.classes c

  -- objects that are a c may be of the class x
  abbrev receives : Classes → ℕ → ℕ → Bool
  receives ks c x = is_concrete ks x && is_ancestor ks c x

  -- objects are of classes that are present
  receiver_present : (ks : Classes) (c x : ℕ) → receives ks c x ≡ true → is_present ks x ≡ true
  receiver_present ks c x h = concrete_present ks x (and_parts (is_concrete ks x) (is_ancestor ks c x) h).0

  -- the classes that objects may be of are the same
  pub below_alike : (c : ℕ) → is_present cs c ≡ true → receivers ds (ren c) ≡ map ren (receivers cs c)
  below_alike c present =
      filtered_alike n cs ds e (receives cs c) (receives ds (ren c)) (length cs.rows) (length ds.rows) (receiver_present cs c)
      (λ x px. λ i. concrete_alike n cs ds e x px i && ancestor_alike n cs ds e c x present px i)
      (λ x h. present_within ds (ren x) (present_alike n cs ds e x (receiver_present cs c x h)))
      (λ j h. let x = e.onto j (receiver_present ds (ren c) j h) in (x.0, x.1, x.2, present_within cs x.0 x.1))

  -- all of them are present
  pub below_present : (c : ℕ) → All (λ d. is_present cs d ≡ true) (receivers cs c)
  below_present c =
      All-weaker (λ x. receives cs c x ≡ true) (λ d. is_present cs d ≡ true) (receiver_present cs c) (receivers cs c)
      (filter_passes (receives cs c) (range_with_len 0 (length cs.rows)))
