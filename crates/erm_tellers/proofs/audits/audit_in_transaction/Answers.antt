use Rattle.std.proofs.Common.{Err, Ok}
use Rattle.erm_tellers.proofs.Behind.{gave_up, tracked_done, tracked_kept}
use Rattle.erm_tellers.proofs.audits.audit_in_transaction.Goals as goal

pub returns-in-Ok-clause-kept : goal.returns-in-Ok-clause-kept
returns-in-Ok-clause-kept g c = tracked_kept c.args.low c.args.high (Ok c.in-Ok.both) (g.X.Transactions.transcript c.args.client.now) (g.X.Transactions.transcript c.track.new.client) c.in-Ok.ensures.did c.requires.kept

pub returns-in-Ok-clause-done : goal.returns-in-Ok-clause-done
returns-in-Ok-clause-done g c = tracked_done c.args.low c.args.high (Ok c.in-Ok.both) (g.X.Transactions.transcript c.args.client.now) (g.X.Transactions.transcript c.track.new.client) c.in-Ok.ensures.did

pub returns-in-Err-clause-ended : goal.returns-in-Err-clause-ended
returns-in-Err-clause-ended g c = gave_up c.in-Err.ensures.held_up c.give_up.ensures.went c.give_up.ensures.aborts

pub returns-in-Err-clause-kept : goal.returns-in-Err-clause-kept
returns-in-Err-clause-kept g c =
    tracked_kept c.args.low c.args.high (Err c.in-Err.why) (g.X.Transactions.transcript c.args.client.now) (g.X.Transactions.transcript c.give_up.new.client)
    (gave_up c.in-Err.ensures.held_up c.give_up.ensures.went c.give_up.ensures.aborts) c.requires.kept
