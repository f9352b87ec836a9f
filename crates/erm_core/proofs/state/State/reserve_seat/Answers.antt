use Rattle.erm_core.proofs.Rooms.{need_kept}
use Rattle.erm_core.proofs.state.State.reserve_seat.Goals as goal

pub returns-clause-ok : goal.returns-clause-ok
returns-clause-ok c =
    need_kept c.args.self.now c.reserve_ranges.new.self c.args.seat c.args.need c.reserve_own.new.self.seats.items c.reserve_own.result c.reserve_ranges.ensures.core c.reserve_own.ensures.ok
