-- Marks of classes, which are set class by class.
use Rattle.std.specs.Prelude.{◌≡◌, ℕ, ◌<◌, Bool, ◌||◌, List, length}
use Rattle.std.specs.List.{list_any}
use Rattle.jl_report.specs.Made.{is_marked}

-- those below the end are marked that were, and those that one of these reaches
pub record AreMarked (reaches : ℕ → ℕ → Bool) (reached : List ℕ) (old new : List Bool) : Type 0 where
  pub many : length new ≡ length old
  pub each : (c : ℕ) → c < length old → is_marked new c ≡ (is_marked old c || list_any (reaches c) reached)
