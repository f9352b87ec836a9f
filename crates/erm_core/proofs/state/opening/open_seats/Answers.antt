use Rattle.std.proofs.Common.{◌∙◌, sym}
use Rattle.erm_core.proofs.Seats.{all_new}
use Rattle.erm_core.proofs.state.opening.open_seats.Goals as goal

pub returns-clause-new : goal.returns-clause-new
returns-clause-new c =
    let inv = c.loop-seat.invariant in
    all_new c.loop-seat.seats.items c.loop-seat.seat (sym inv.0 ∙ c.loop-seat.seats.ok.0) inv.2 inv.3
