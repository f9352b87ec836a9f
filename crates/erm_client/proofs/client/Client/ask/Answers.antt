use Rattle.std.proofs.Common.{IfErr, refl, subst}
use Rattle.erm_beside.specs.Onward.{onward_itself}
use Rattle.erm_client.proofs.client.Client.ask.Goals as goal
use Rattle.erm_client.proofs.Steps.{if_refused, same_goes}
use Rattle.erm_client.specs.declared.refusal.Refusal.{Refusal}
use Rattle.erm_client.specs.Transcripts.{IsRefused}
use Rattle.erm_script.specs.declared.script.Command.{Command}

pub returns-then-is_err-clause-on : goal.returns-then-is_err-clause-on
returns-then-is_err-clause-on g c =
    same_goes g.S.SharedSession.stands g.S.SharedSession.seat g.S.SharedSession.own g.S.SharedSession.ends g.T.Turns.told c.args.self.now _
    c.requires.client c.in-Open.is refl c.requires.client.stands_so (onward_itself (g.S.SharedSession.seat c.args.self.now.session) (g.S.SharedSession.ends c.args.self.now.session))
    refl refl c.make_room.ensures.same c.make_room.ensures.kept

pub run-requires-clause-client : goal.run-requires-clause-client
run-requires-clause-client g c =
    (same_goes g.S.SharedSession.stands g.S.SharedSession.seat g.S.SharedSession.own g.S.SharedSession.ends g.T.Turns.told c.args.self.now
    (record { alloc = c.args.self.now.alloc; session = c.args.self.now.session; shared = c.args.self.now.shared; turns = c.args.self.now.turns; receipt = c.args.self.now.receipt; transcript = c.make_room.new.self })
    c.requires.client c.in-Open.is refl c.requires.client.stands_so (onward_itself (g.S.SharedSession.seat c.args.self.now.session) (g.S.SharedSession.ends c.args.self.now.session))
    refl refl c.make_room.ensures.same c.make_room.ensures.kept).client

pub returns-clause-err : goal.returns-clause-err
returns-clause-err g c = if_refused c.args.self.now.transcript c.make_room.new.self c.run.new.self.transcript c.make_room.ensures.same c.make_room.ensures.kept c.args.command c.run.result
    (subst (λ (asked : Command). IfErr c.run.result (λ (why : Refusal). IsRefused c.make_room.new.self asked why c.run.new.self.transcript)) c.next_line-line.ensures.asked c.run.ensures.err)
