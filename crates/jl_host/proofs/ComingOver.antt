-- What there was at the begin of a renewal comes over by its numbers.
use Rattle.std.specs.Prelude.{◌≡◌, ℕ, true, List, length, Option}
use Rattle.std.specs.List.{list_all}
use Rattle.std.proofs.Common.{sym, ap, subst, ◌∙◌}
use Rattle.jl_types.specs.declared.limits.Limits.{Limits}
use Rattle.jl_types.specs.declared.link.Link.{Link}
use Rattle.jl_types.specs.Values.World.{World}
use Rattle.jl_types.specs.Events.History.{world_after}
use Rattle.jl_relink.specs.Laws.{AreAccepted, has_read_file}
use Rattle.jl_core.specs.State.{State, empty_core, events, world_of, links_of, AreAnswered}
use Rattle.jl_core.specs.Logs.{Entry, shown}
use Rattle.jl_renewal.specs.declared.released.Released.{Released}
use Rattle.jl_renewal.specs.Numbers.{Numbers}
use Rattle.jl_renewal.specs.Renewal.{fresh_rows}
use Rattle.jl_renewal.specs.Renewed.{renewed, renumbered_links}
use Rattle.jl_renewal.specs.Told.{told_renewal, IsFilledFrom}
use Rattle.jl_renewal.proofs.ComeOver.{renewal_world}
use Rattle.jl_renewal.proofs.NumberedLinks.{links_few, come_over}
use Rattle.jl_renewal.proofs.RenewalPhases.{all_accepted}
use Rattle.jl_host.specs.ForProofs.Starts.{ComesOver}
use Rattle.jl_host.specs.Seats.{seen_of}
use Rattle.jl_host.specs.Renewing.{listed}
use Rattle.jl_host.proofs.UnderWayLinks.{listed_links}
use Rattle.jl_host.proofs.UnderWayMade.{told_is}

-- of a core whose events were accepted
comes : (core : State) (released : Released) (log : List Entry) → AreAccepted core.limits (events core)
    → shown (world_of core).classes.rows log ≡ core.log → ComesOver (world_of core) log released (links_of core)
comes core released log accepted logged = (
  ap world_after (told_is core released log logged) ∙ renewal_world core released accepted,
  come_over core released accepted,
  links_few core,
)

-- as it is shared at the begin
pub comes_over : (core : State) (released : Released) (w : World) (past log : List Entry) (links : List (Option Link)) (sites : ℕ)
    → AreAnswered core → list_all has_read_file (events core) ≡ true → shown (world_of core).classes.rows log ≡ core.log
    → w ≡ world_of core → past ≡ log → links ≡ (seen_of core).links → sites ≡ length (world_of core).places
    → ComesOver w past released (listed links sites)
comes_over core released w past log links sites answered files logged world same are count =
    let accepted : AreAccepted core.limits (events core) = record { each = all_accepted core answered; files = files } in
    let rows : listed links sites ≡ links_of core = (λ i. listed (are i) (count i)) ∙ listed_links core accepted in
    subst (λ (v : World). ComesOver v past released (listed links sites)) (sym world)
    (subst (λ (entries : List Entry). ComesOver (world_of core) entries released (listed links sites)) (sym same)
    (subst (ComesOver (world_of core) log released) (sym rows) (comes core released log accepted logged)))

-- then its links under new numbers are those from scratch in the fresh core
pub rows_over : (w : World) (past : List Entry) (released : Released) (linked there rows : List (ℕ × Link)) (n : Numbers) (limits : Limits) (between : State)
    → ComesOver w past released linked → IsFilledFrom w past released n (empty_core limits) between → rows ≡ renumbered_links n there → there ≡ linked
    → rows ≡ fresh_rows (world_of between) n there
rows_over w past released linked there rows n limits between over filled are is =
    let told : world_of between ≡ world_after (told_renewal w n past) = ap world_after filled.adds.events in
    let world : world_of between ≡ renewed w released =
    told ∙ (ap (λ (m : Numbers). world_after (told_renewal w m past)) filled.numbers ∙ over.0) in
    are ∙ ((λ i. renumbered_links (filled.numbers i) (is i)) ∙ (sym over.1 ∙ sym (λ i. fresh_rows (world i) (filled.numbers i) (is i))))
