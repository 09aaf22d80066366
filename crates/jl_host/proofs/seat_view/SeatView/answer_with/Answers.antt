use Rattle.std.proofs.Common.{◌∙◌, ap, sym}
use Rattle.std.specs.Prelude.{slice_get, option_copied}
use Rattle.jl_host.specs.Seats.{SeatView}
use Rattle.jl_host.proofs.SeatLaws.{no_slot_with}
use Rattle.jl_host.proofs.seat_view.SeatView.answer_with.Goals as goal

pub returns-in-None : goal.returns-in-None
returns-in-None c =
    no_slot_with c.args.rows.now c.args.self.now c.args.site c.args.recv
    (ap (λ (s : SeatView). slice_get s.links c.args.site) (sym c.self.view_is) ∙ ap (λ xs. slice_get xs c.args.site) (sym c.deref.ensures)
    ∙ sym c.slot_at.ensures ∙ ap option_copied c.in-None.is)
