use Rattle.erm_core.proofs.Rooms.{call_serves, on_ok}
use Rattle.erm_core.proofs.state.State.room_for.Goals as goal

pub returns-in-Some : goal.returns-in-Some
returns-in-Some c = record {
  ok = on_ok c.room.result c.room.ensures.ok (λ room. call_serves c.room.new.self c.args.event.seat c.in-Some.need room c.args.event.kind c.in-Some.ensures);
  core = c.room.ensures.core;
}
