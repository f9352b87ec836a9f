use Rattle.std.proofs.Common.{Some}
use Rattle.std.proofs.lemmas.List.Elements.{All-pop}
use Rattle.erm_model.specs.RowTransaction.{any_law}
use Rattle.erm_shared_session.specs.Stands.{Stands}
use Rattle.erm_beside_cases.proofs.RunAgain.{all_stand}
use Rattle.erm_beside_cases.proofs.races.give_up.Goals as goal

pub loop-session-init : goal.loop-session-init
loop-session-init g c = all_stand any_law c.args.table.now c.args.sessions.items c.requires.done

pub rest-requires : goal.rest-requires
rest-requires g c = record { stands = (All-pop (Stands any_law c.args.table.now) c.loop-session.sessions.items c.pop.new.self.items (Some c.in-Some.session) c.in-Some.ensures.items c.loop-session.invariant).1 }

pub loop-session-preserved : goal.loop-session-preserved
loop-session-preserved g c = (All-pop (Stands any_law c.args.table.now) c.loop-session.sessions.items c.pop.new.self.items (Some c.in-Some.session) c.in-Some.ensures.items c.loop-session.invariant).0
