use Rattle.std.proofs.Common.{◌≡◌, ◌∙◌, ◌<◌, ◌-◌, ◌^◌, false, Ok, Err, inl, inr, refl, subst, arith}
use Rattle.erm_desk.proofs.Chained.{ends_low, goes_further, last_now, one_more}
use Rattle.erm_ckpt.specs.declared.slot.Slots.{Slots}
use Rattle.erm_desk.proofs.Stepped.{no_steps, steps_both}
use Rattle.erm_desk.proofs.Turned.{DeskLaws}
use Rattle.erm_desk_checkpoint.specs.Turns.{MayTurn, TurnsOn}
use Rattle.erm_desk_checkpoint.proofs.Behind.{all_behind, one_more as one_flushed}
use Rattle.erm_world.specs.Log.{Log}
use Rattle.erm_desk_checkpoint.proofs.desk.CheckpointDesk.turn_all.Goals as goal

pub loop-end-init : goal.loop-end-init
loop-end-init g c = record { turns = refl; few = omega arith; last = inl refl; steps = no_steps g.L.RowLaw.law c.args.self.now.desk.book; known = inl refl; same = refl; slots = refl }

pub overflow_add-turns : goal.overflow_add-turns
overflow_add-turns g c =
    let further = goes_further g.L.RowLaw.law g.B.Naming.start c.loop-end.flushed c.in-Ok.end c.loop-end.self.desk c.turn.new.self.desk c.loop-end.invariant.last c.in-Ok.ensures.turns in
    let few = c.loop-end.invariant.few in
    let low = ends_low g.L.RowLaw.law g.B.Naming.start c.in-Ok.end c.loop-end.self.desk c.turn.new.self.desk c.in-Ok.ensures.turns in
    omega (arith, few, further, low)

pub loop-end-smaller : goal.loop-end-smaller
loop-end-smaller g c =
    let further = goes_further g.L.RowLaw.law g.B.Naming.start c.loop-end.flushed c.in-Ok.end c.loop-end.self.desk c.turn.new.self.desk c.loop-end.invariant.last c.in-Ok.ensures.turns in
    let low = ends_low g.L.RowLaw.law g.B.Naming.start c.in-Ok.end c.loop-end.self.desk c.turn.new.self.desk c.in-Ok.ensures.turns in
    let less : 2 ^ 64 - c.in-Ok.end < 2 ^ 64 - c.loop-end.flushed = omega (arith, further, low) in
    less

pub loop-end-preserved : goal.loop-end-preserved
loop-end-preserved g c =
    let law = g.L.RowLaw.law in
    let start = g.B.Naming.start in
    let did = c.in-Ok.ensures.turns in
    let few = c.loop-end.invariant.few in
    let laws : DeskLaws law = record {
      stay = c.decided_blocks_stay.ensures.event;
      short = c.stored_words_tell_the_row.ensures.short;
      whole = c.stored_words_tell_the_row.ensures.whole;
      keep = c.flushes_keep.ensures;
      go = c.moments_go_on.ensures;
      held = c.flushed_logs_are_held.ensures;
      begin = c.kept_logs_begin.ensures;
      meet = c.flushed_logs_meet_more.ensures;
      join = c.writes_join.ensures;
    } in
    let slots = c.loop-end.invariant.slots in
    let known = subst (λ (x : Slots). c.loop-end.self.desk.failed ≡ false → (l : Log) × MayTurn law start x l c.loop-end.self.desk) slots c.turn.ensures.known in
    let turn = subst (λ (x : Slots). (l : Log) → MayTurn law start x l c.loop-end.self.desk → TurnsOn law x (Ok c.in-Ok.end) l c.loop-end.self.desk c.turn.new.self.desk) slots c.in-Ok.ensures.writes in
    let further = goes_further law start c.loop-end.flushed c.in-Ok.end c.loop-end.self.desk c.turn.new.self.desk c.loop-end.invariant.last did in
    record {
      turns = one_more law start c.loop-end.turns c.in-Ok.end c.args.self.now.desk c.loop-end.self.desk c.turn.new.self.desk c.loop-end.invariant.turns did;
      few = omega (arith, few, further);
      last = last_now law start c.in-Ok.end c.loop-end.self.desk c.turn.new.self.desk did;
      steps = steps_both law c.args.self.now.desk.book c.loop-end.self.desk.book c.turn.new.self.desk.book c.loop-end.invariant.steps c.turn.ensures.steps;
      known = inr (one_flushed law laws start c.args.self.now.slots c.args.self.now.desk c.loop-end.self.desk c.turn.new.self.desk known c.in-Ok.end c.loop-end.invariant.known did.0 turn);
      same = did.2 ∙ c.loop-end.invariant.same;
      slots = c.turn.ensures.slots ∙ c.loop-end.invariant.slots;
    }

pub returns-in-Err-clause-writes : goal.returns-in-Err-clause-writes
returns-in-Err-clause-writes g c =
    let law = g.L.RowLaw.law in
    let start = g.B.Naming.start in
    let laws : DeskLaws law = record {
      stay = c.decided_blocks_stay.ensures.event;
      short = c.stored_words_tell_the_row.ensures.short;
      whole = c.stored_words_tell_the_row.ensures.whole;
      keep = c.flushes_keep.ensures;
      go = c.moments_go_on.ensures;
      held = c.flushed_logs_are_held.ensures;
      begin = c.kept_logs_begin.ensures;
      meet = c.flushed_logs_meet_more.ensures;
      join = c.writes_join.ensures;
    } in
    let slots = c.loop-end.invariant.slots in
    let known = subst (λ (x : Slots). c.loop-end.self.desk.failed ≡ false → (l : Log) × MayTurn law start x l c.loop-end.self.desk) slots c.turn.ensures.known in
    let turn = subst (λ (x : Slots). (l : Log) → MayTurn law start x l c.loop-end.self.desk → TurnsOn law x (Err c.in-Err.stop) l c.loop-end.self.desk c.turn.new.self.desk) slots c.in-Err.ensures.writes in
    λ fine.
    all_behind law laws start c.args.self.now.slots c.args.self.now.desk c.loop-end.self.desk c.turn.new.self.desk known c.in-Err.stop c.loop-end.invariant.known fine turn
