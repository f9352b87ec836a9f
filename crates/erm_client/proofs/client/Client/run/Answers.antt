use Rattle.std.proofs.Common.{◌≡◌, ℕ, true, Option, Some, IfNone, IfSome, refl, sym, ap, ◌∙◌, subst}
use Rattle.erm_client.proofs.client.Client.run.Goals as goal
use Rattle.erm_client.proofs.Steps.{aborted_rests, answered_goes, ends_asked, more_asked, rests_idle, room_left, room_now, starved_goes, stopped_goes}
use Rattle.erm_client.proofs.Told.{line_tells}
use Rattle.erm_client.proofs.Watched.{comes_alone, line_ends, lines_leave}
use Rattle.erm_client.specs.Clients.{IsInPhase}
use Rattle.erm_client.specs.Dealings.{dealings_of}
use Rattle.erm_client.specs.Refusals.{MayTell}
use Rattle.erm_client.specs.Transcripts.{stopped}
use Rattle.erm_good_report.specs.Phases.{phase_after}
use Rattle.erm_lines.specs.Whole.{is_snapshot}
use Rattle.erm_report.specs.declared.answer.Answer.{Answer}
use Rattle.erm_worker.specs.Work.{IsReady, RanLine}
use Rattle.erm_world.specs.World.{View, phase_at}

pub returns-in-Ok-Some-clause-on : goal.returns-in-Ok-Some-clause-on
returns-in-Ok-Some-clause-on g c =
    let seat = g.S.SharedSession.seat c.args.self.now.session in
    let v = g.S.SharedSession.own c.args.self.now.session in
    let t = g.S.SharedSession.own c.run_next.new.session in
    let ready : IsReady t seat c.run_next.new.receipt =
    subst (λ (o : Option Answer). IfSome o (λ _. IsReady t seat c.run_next.new.receipt)) c.in-Ok-Some.field-0-is c.in-Ok-Some.ensures.ready in
    answered_goes g.S.SharedSession.stands g.S.SharedSession.seat g.S.SharedSession.own g.S.SharedSession.ends g.T.Turns.told c.args.self.now _
    c.requires.client c.requires.opened refl c.run_next.ensures.stands c.run_next.ensures.onward
    (lines_leave c.begun_transactions_are_runs.ensures c.answers_stay.ensures) c.args.line c.in-Ok-Some.answer c.requires.line
    (λ f end. subst (λ (o : Option Answer). RanLine f c.args.line o v t) c.in-Ok-Some.field-0-is (c.in-Ok-Some.ensures.ran f end))
    (g.met.S.SharedSession.some c.args.self.now.shared.now c.run_next.new.session c.run_next.ensures.stands) ready c.add.ensures.more
    (room_left c.args.line.command c.args.self.now.transcript c.add.new.self c.requires.room c.add.ensures.left)

pub returns-in-Ok-Some-clause-ok : goal.returns-in-Ok-Some-clause-ok
returns-in-Ok-Some-clause-ok g c =
    let v = g.S.SharedSession.own c.args.self.now.session in
    let t = g.S.SharedSession.own c.run_next.new.session in
    let some = g.met.S.SharedSession.some c.args.self.now.shared.now c.run_next.new.session c.run_next.ensures.stands in
    let line = c.args.line in
    let answer = c.in-Ok-Some.answer in
    let dealings = dealings_of c.args.self.now.transcript in
    let did = subst (λ (o : Option Answer). RanLine some.0 line o v t) c.in-Ok-Some.field-0-is (c.in-Ok-Some.ensures.ran some.0 some.1) in
    let tells : MayTell line.command answer = line_tells some.0 line answer v t c.requires.line.of_client did in
    let stands : IsInPhase (phase_at v line.session) dealings = subst (λ (n : ℕ). IsInPhase (phase_at v n) dealings) (sym c.requires.line.own) (c.requires.client.in_phase c.requires.opened) in
    let leaves = lines_leave c.begun_transactions_are_runs.ensures c.answers_stay.ensures some.0 line answer v t did in
    record {
      answer = answer;
      answered = record {
        opened = c.requires.opened;
        number = line.line;
        more = more_asked c.args.self.now.transcript c.add.new.self line answer (c.requires.line.own ∙ sym c.requires.client.seat_is) c.add.ensures.more;
        tells = tells;
        comes = comes_alone line.command answer (phase_at v line.session) dealings c.requires.line.of_client tells did.fits stands;
      };
      ends = λ has asks. line_ends some.0 line answer v t did (subst (λ (n : ℕ). is_snapshot (phase_at v n) ≡ true) (sym c.requires.line.own) has) asks;
      leaves = ap (λ (n : ℕ). phase_at t n) (c.run_next.ensures.onward.seat_is ∙ sym c.requires.line.own) ∙ leaves
          ∙ ap (λ (n : ℕ). phase_after (Some line.command) answer (phase_at v n)) c.requires.line.own;
    }

pub returns-in-Ok-Some-clause-rests : goal.returns-in-Ok-Some-clause-rests
returns-in-Ok-Some-clause-rests g c asks =
    let seat = g.S.SharedSession.seat c.args.self.now.session in
    let v = g.S.SharedSession.own c.args.self.now.session in
    let t = g.S.SharedSession.own c.run_next.new.session in
    let ready : IsReady t seat c.run_next.new.receipt =
    subst (λ (o : Option Answer). IfSome o (λ _. IsReady t seat c.run_next.new.receipt)) c.in-Ok-Some.field-0-is c.in-Ok-Some.ensures.ready in
    let leave = lines_leave c.begun_transactions_are_runs.ensures c.answers_stay.ensures in
    let ran : (f : View) → g.S.SharedSession.ends c.run_next.new.session f → RanLine f c.args.line (Some c.in-Ok-Some.answer) v t = λ f end. subst (λ (o : Option Answer). RanLine f c.args.line o v t) c.in-Ok-Some.field-0-is (c.in-Ok-Some.ensures.ran f end) in
    let some = g.met.S.SharedSession.some c.args.self.now.shared.now c.run_next.new.session c.run_next.ensures.stands in
    let on = answered_goes g.S.SharedSession.stands g.S.SharedSession.seat g.S.SharedSession.own g.S.SharedSession.ends g.T.Turns.told c.args.self.now _
    c.requires.client c.requires.opened refl c.run_next.ensures.stands c.run_next.ensures.onward leave c.args.line c.in-Ok-Some.answer c.requires.line ran some ready c.add.ensures.more
    (room_left c.args.line.command c.args.self.now.transcript c.add.new.self c.requires.room c.add.ensures.left) in
    rests_idle g.S.SharedSession.stands g.S.SharedSession.seat g.S.SharedSession.own _ on.client
    (aborted_rests g.S.SharedSession.stands g.S.SharedSession.seat g.S.SharedSession.own g.S.SharedSession.ends g.T.Turns.told c.args.self.now
    (record { alloc = c.args.self.now.alloc; session = c.run_next.new.session; shared = c.args.self.now.shared; turns = c.run_next.new.turns; receipt = c.run_next.new.receipt; transcript = c.add.new.self })
    c.requires.client c.requires.opened refl c.run_next.ensures.stands c.run_next.ensures.onward leave c.args.line c.in-Ok-Some.answer c.requires.line ran some asks)

pub returns-in-Ok-None-clause-on : goal.returns-in-Ok-None-clause-on
returns-in-Ok-None-clause-on g c =
    let v = g.S.SharedSession.own c.args.self.now.session in
    let t = g.S.SharedSession.own c.run_next.new.session in
    stopped_goes g.S.SharedSession.stands g.S.SharedSession.seat g.S.SharedSession.own g.S.SharedSession.ends g.T.Turns.told c.args.self.now _
    c.requires.client c.requires.opened refl c.run_next.ensures.stands c.run_next.ensures.onward c.args.line c.requires.line
    (λ f end. subst (λ (o : Option Answer). RanLine f c.args.line o v t) c.in-Ok-None.field-0-is (c.in-Ok-None.ensures.ran f end))
    (g.met.S.SharedSession.some c.args.self.now.shared.now c.run_next.new.session c.run_next.ensures.stands)
    (subst (λ (o : Option Answer). IfNone o (g.T.Turns.told c.run_next.new.turns)) c.in-Ok-None.field-0-is c.in-Ok-None.ensures.told) c.stop.ensures.ends

pub returns-in-Ok-None-clause-err : goal.returns-in-Ok-None-clause-err
returns-in-Ok-None-clause-err g c =
    stopped c.args.line.line c.requires.opened refl (ends_asked c.args.self.now.transcript c.stop.new.self c.args.line (c.requires.line.own ∙ sym c.requires.client.seat_is) c.stop.ensures.ends)

pub returns-in-Err-clause-on : goal.returns-in-Err-clause-on
returns-in-Err-clause-on g c =
    starved_goes g.S.SharedSession.stands g.S.SharedSession.seat g.S.SharedSession.own g.S.SharedSession.ends g.T.Turns.told c.args.self.now _
    c.requires.client c.requires.opened refl c.run_next.ensures.stands c.run_next.ensures.onward
    (λ f end. let within = g.met.S.SharedSession.within c.args.self.now.session f end in (within.tail, within.flushed)) c.in-Err.ensures.grown c.starve.ensures.starves

pub add-requires : goal.add-requires
add-requires g c = record { room = room_now c.args.line.command c.args.self.now.transcript c.requires.room }

pub stop-requires : goal.stop-requires
stop-requires g c = record { room = room_now c.args.line.command c.args.self.now.transcript c.requires.room }
