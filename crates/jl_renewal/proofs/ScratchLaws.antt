-- Linking commutes with renumbering, and so no call's answer changes.
use Rattle.std.specs.Prelude.{◌≡◌, ℕ, Bool, true, Ok}
use Rattle.std.proofs.Common.{refl, ap, ◌∙◌}
use Rattle.jl_types.specs.declared.answer.Recv.{Recv}
use Rattle.jl_types.specs.Values.World.{World, Classes}
use Rattle.jl_types.specs.Linkage.Stages.{Stage, Waits, Fails, Calls, Selects, stage}
use Rattle.jl_types.specs.Linkage.Links.{link_of, scratch}
use Rattle.jl_types.specs.Linkage.Calls.{answer_of, dispatch}
use Rattle.jl_renewal.specs.Numbers.{Numbers, renumbered}
use Rattle.jl_renewal.specs.Staying.{is_alive}
use Rattle.jl_renewal.specs.Renewed.{renumbered_result, renumbered_answer, renumbered_receiver, IsPresentReceiver}
use Rattle.jl_renewal.proofs.Alike.{AreAlike}
use Rattle.jl_renewal.proofs.AlikeSites.{SitesAlike}
use Rattle.jl_renewal.proofs.StageLaws.{IsStageThere, renumbered_stage, stage_same, stage_there}
use Rattle.jl_renewal.proofs.CallLaws.{link_same, selected_same}

module _ (n : Numbers) (w v : World) (stays : ℕ → Bool) (same : SitesAlike n w v stays) (s : ℕ) (alive : is_alive w s ≡ true) where
  abbrev ds : Classes
  ds = v.classes

  abbrev alike : AreAlike n w.classes v.classes
  alike = same.alike

  link_of_same : (t : Stage) → IsStageThere w.classes t → link_of ds (renumbered_stage n t) ≡ renumbered_result n (link_of w.classes t)
  link_of_same (Waits reason) there = refl
  link_of_same (Fails throwable) there = refl
  link_of_same (Calls m) there = refl
  link_of_same (Selects i) there = ap Ok (link_same n w.classes ds alike i there)

  pub scratch_same : scratch v (renumbered n.sites s) ≡ renumbered_result n (scratch w s)
  scratch_same =
      ap (link_of ds) (stage_same n w v stays same s alive)
      ∙ link_of_same (stage w s) (stage_there n w v stays same s)

  answer_of_same : (recv : Recv) → IsPresentReceiver w.classes recv → (t : Stage) → IsStageThere w.classes t
      → answer_of ds (renumbered_stage n t) (renumbered_receiver n recv) ≡ renumbered_answer n (answer_of w.classes t recv)
  answer_of_same recv at (Waits reason) there = refl
  answer_of_same recv at (Fails throwable) there = refl
  answer_of_same recv at (Calls m) there = refl
  answer_of_same recv at (Selects i) there = selected_same n w.classes ds alike i there recv at

  pub dispatch_same : (recv : Recv) → IsPresentReceiver w.classes recv
      → dispatch v (renumbered n.sites s) (renumbered_receiver n recv) ≡ renumbered_answer n (dispatch w s recv)
  dispatch_same recv at =
      ap (λ (t : Stage). answer_of ds t (renumbered_receiver n recv)) (stage_same n w v stays same s alive)
      ∙ answer_of_same recv at (stage w s) (stage_there n w v stays same s)
