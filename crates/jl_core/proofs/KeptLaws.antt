-- Which installed links stay, and that none is lost where each stays.
use Rattle.std.specs.Prelude.{◌≡◌, Bool, true, false, Option, Some, None, is_some, Result, Ok, Err, if◌then◌else◌}
use Rattle.std.proofs.Common.{refl, ap, sym, ◌∙◌}
use Rattle.jl_types.specs.declared.link.Link.{Link}
use Rattle.jl_types.specs.declared.answer.Unlinked.{Unlinked}
use Rattle.jl_types.specs.Linkage.Links.{same_link}
use Rattle.jl_types.specs.ForProofs.SameLink.{link_decides}
use Rattle.jl_types.specs.Events.History.{kept}
use Rattle.jl_types.proofs.Installed.{kept_none, kept_link}

-- where the link is still the one from scratch, it stays
pub kept_same : (before : Option Link) (r : Result Link Unlinked) → ((l : Link) → before ≡ Some l → r ≡ Ok l) → kept false before r ≡ before
kept_same None r h = kept_none r
kept_same (Some l) r h = ap (kept false (Some l)) (h l refl) ∙ kept_link l

-- an installed link that is the one from scratch stays, whether it is installed again or not
pub kept_once : (b : Bool) (before : Option Link) (r : Result Link Unlinked) (l : Link) → before ≡ Some l → r ≡ Ok l → kept b before r ≡ Some l
kept_once b before r l e f = (λ i. kept b (e i) (f i)) ∙ by_flag b
  where
    by_flag : (b : Bool) → kept b (Some l) (Ok l) ≡ Some l
    by_flag true = refl
    by_flag false = kept_link l

pub kept_if : (l : Link) (r : Result Link Unlinked) → is_some (kept false (Some l) r) ≡ true → kept false (Some l) r ≡ Some l
kept_if l (Err reason) e = cc
kept_if l (Ok now) e = by_test (same_link l now) refl e
  where
    by_test : (b : Bool) → same_link l now ≡ b → is_some (if b then Some now else None) ≡ true → (if b then Some now else None) ≡ Some l
    by_test true is e = ap Some (sym ((link_decides l now).0 is))
    by_test false is e = cc
