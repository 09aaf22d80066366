-- A seat that isn't refreshed, since there is no memory, and a call at a number that no site has.
use Rattle.std.specs.Prelude.{◌≡◌, ℕ, List, Option, Some, None, get_or, slice_get, unwrap_or}
use Rattle.std.proofs.Common.{refl, sym, ap, subst, ◌∙◌, inr}
use Rattle.std.proofs.lemmas.Option.{unwrap_or-slice_get}
use Rattle.jl_types.specs.declared.link.Link.{Link}
use Rattle.jl_types.specs.declared.answer.Recv.{Recv}
use Rattle.jl_types.specs.declared.answer.Fast.TheVariants.{Miss}
use Rattle.jl_types.specs.Events.Fast.{fast_answer}
use Rattle.jl_memo.specs.declared.set.Set.{Set}
use Rattle.jl_memo.specs.Answers.{answer_with}
use Rattle.jl_host.specs.Numbers.{memory}
use Rattle.jl_host.specs.Linkers.{Opened}
use Rattle.jl_host.specs.Seats.{SeatView, IsRefresh}

pub unrefreshed : (had : Option SeatView) (linker : Option Opened) (opened : Opened) (new : Option Opened) → linker ≡ Some opened → new ≡ linker
    → IsRefresh had linker memory had new
unrefreshed had linker opened new is same =
    subst (λ old. IsRefresh had old memory had new) (sym is) (same ∙ is, inr (refl, refl))

pub no_slot : (seen : SeatView) (s : ℕ) (recv : Recv) → slice_get seen.links s ≡ None → Miss ≡ fast_answer (get_or seen.links s None) seen.classes recv
no_slot seen s recv e =
    ap (λ (o : Option (Option Link)). fast_answer (unwrap_or o None) seen.classes recv) (sym e)
    ∙ ap (λ (o : Option Link). fast_answer o seen.classes recv) (unwrap_or-slice_get seen.links s None)

pub no_slot_with : (sets : List Set) (seen : SeatView) (s : ℕ) (recv : Recv) → slice_get seen.links s ≡ None
    → Miss ≡ answer_with sets (get_or seen.links s None) seen.classes s recv
no_slot_with sets seen s recv e =
    ap (λ (o : Option (Option Link)). answer_with sets (unwrap_or o None) seen.classes s recv) (sym e)
    ∙ ap (λ (o : Option Link). answer_with sets o seen.classes s recv) (unwrap_or-slice_get seen.links s None)
