use Rattle.std.proofs.Common.{sym}
use Rattle.erm_shared_session.specs.Stands.{own_of, seat_of}
use Rattle.erm_client_cases.proofs.Handed.{new_idle, new_ready}
use Rattle.erm_client_cases.proofs.clients.client.Goals as goal

pub new-requires-clause-stands : goal.new-requires-clause-stands
new-requires-clause-stands c = c.requires.new.1.stands

pub new-requires-clause-seat : goal.new-requires-clause-seat
new-requires-clause-seat c = sym c.requires.new.1.seat_is

pub new-requires-clause-ready : goal.new-requires-clause-ready
new-requires-clause-ready c = new_ready c.requires.new.0 (seat_of c.args.session) (own_of c.args.session) c.requires.new.1.own

pub new-requires-clause-idle : goal.new-requires-clause-idle
new-requires-clause-idle c = new_idle c.requires.new.0 (seat_of c.args.session) (own_of c.args.session) c.requires.new.1.own
