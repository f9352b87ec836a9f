use Rattle.std.proofs.Common.{ℕ, Result, Ok, Err, ap, ◌∙◌, subst, arith}
use Rattle.erm_desk.proofs.Turned.{DeskLaws}
use Rattle.erm_desk_checkpoint.specs.Kept.{sees_of}
use Rattle.erm_desk_checkpoint.proofs.Flushed.{both_on}
use Rattle.erm_desk_checkpoint.proofs.Past.{Passes, Stands}
use Rattle.erm_desk_checkpoint.proofs.Turning.{Turns, ended, failed, further, further_may, nothing_on, opened_below, opened_past, reached}
use Rattle.erm_flush.specs.declared.stops.FlushStop.{FlushStop}
use Rattle.erm_flush.specs.declared.stops.FlushStop.TheVariants as stop
use Rattle.erm_rule.specs.Books.{book}
use Rattle.erm_desk_checkpoint.proofs.flushing.flush_past.Goals as goal

pub loop-end-init : goal.loop-end-init
loop-end-init g c =
    let law = g.L.RowLaw.law in
    let laws : DeskLaws law = record {
      stay = c.decided_blocks_stay.ensures.event;
      short = c.stored_words_tell_the_row.ensures.short;
      whole = c.stored_words_tell_the_row.ensures.whole;
      keep = c.flushes_keep.ensures;
      go = c.moments_go_on.ensures;
      held = c.flushed_logs_are_held.ensures;
      begin = c.kept_logs_begin.ensures;
      meet = c.flushed_logs_meet_more.ensures;
      join = c.writes_join.ensures;
    } in
    let from = sees_of (book c.args.pass.now) (g.D.Disk.told c.args.disk.now) (g.D.Disk.faults c.args.disk.now) c.args.flusher.now in
    let held = c.requires.held in
    record {
      fits = c.requires.fits;
      may = c.requires.may;
      last = (held.0, held.1, held.2, held.3, omega arith);
      goes = λ k slots has may. (k, nothing_on law laws slots k from has, has, may);
    }

pub loop-end-smaller : goal.loop-end-smaller
loop-end-smaller g c =
    let law = g.L.RowLaw.law in
    let laws : DeskLaws law = record {
      stay = c.decided_blocks_stay.ensures.event;
      short = c.stored_words_tell_the_row.ensures.short;
      whole = c.stored_words_tell_the_row.ensures.whole;
      keep = c.flushes_keep.ensures;
      go = c.moments_go_on.ensures;
      held = c.flushed_logs_are_held.ensures;
      begin = c.kept_logs_begin.ensures;
      meet = c.flushed_logs_meet_more.ensures;
      join = c.writes_join.ensures;
    } in
    let from = sees_of (book c.args.pass.now) (g.D.Disk.told c.args.disk.now) (g.D.Disk.faults c.args.disk.now) c.args.flusher.now in
    let s = sees_of (book c.loop-end.pass) (g.D.Disk.told c.loop-end.disk) (g.D.Disk.faults c.loop-end.disk) c.loop-end.flusher in
    let t = sees_of (book c.turn_pass.new.pass) (g.D.Disk.told c.turn_pass.new.disk) (g.D.Disk.faults c.turn_pass.new.disk) c.turn_pass.new.flusher in
    let turn : Turns law (Ok c.in-Ok.end) s t = record { did = c.in-Ok.ensures.turn; counts = c.in-Ok.ensures.counts; known = c.in-Ok.ensures.known; may = c.in-Ok.ensures.may } in
    let (m, slots, held, may, low) = c.loop-end.invariant.last in
    let up = (further law laws slots m s held c.args.place may c.in-Ok.end t turn).up in
    let below = c.if-place-end.false in
    omega (arith, low, up, below)

pub loop-end-preserved : goal.loop-end-preserved
loop-end-preserved g c =
    let law = g.L.RowLaw.law in
    let laws : DeskLaws law = record {
      stay = c.decided_blocks_stay.ensures.event;
      short = c.stored_words_tell_the_row.ensures.short;
      whole = c.stored_words_tell_the_row.ensures.whole;
      keep = c.flushes_keep.ensures;
      go = c.moments_go_on.ensures;
      held = c.flushed_logs_are_held.ensures;
      begin = c.kept_logs_begin.ensures;
      meet = c.flushed_logs_meet_more.ensures;
      join = c.writes_join.ensures;
    } in
    let from = sees_of (book c.args.pass.now) (g.D.Disk.told c.args.disk.now) (g.D.Disk.faults c.args.disk.now) c.args.flusher.now in
    let s = sees_of (book c.loop-end.pass) (g.D.Disk.told c.loop-end.disk) (g.D.Disk.faults c.loop-end.disk) c.loop-end.flusher in
    let t = sees_of (book c.turn_pass.new.pass) (g.D.Disk.told c.turn_pass.new.disk) (g.D.Disk.faults c.turn_pass.new.disk) c.turn_pass.new.flusher in
    let turn : Turns law (Ok c.in-Ok.end) s t = record { did = c.in-Ok.ensures.turn; counts = c.in-Ok.ensures.counts; known = c.in-Ok.ensures.known; may = c.in-Ok.ensures.may } in
    let (m, slots, held, may, low) = c.loop-end.invariant.last in
    let next = further law laws slots m s held c.args.place may c.in-Ok.end t turn in
    let at = next.flushed in
    let below = c.if-place-end.false in
    record {
      fits = c.in-Ok.ensures.fits;
      may = c.in-Ok.ensures.may;
      last = (next.log, slots, next.held, further_may law laws slots m s held c.args.place may c.in-Ok.end t next (omega (arith, below)), omega (arith, at));
      goes = λ k first has begins.
          let had = c.loop-end.invariant.goes k first has begins in
          let on = further law laws first had.0 s had.2 c.args.place had.3 c.in-Ok.end t turn in (
            on.log,
            both_on law laws k had.0 on.log from s t had.1 on.on,
            on.held,
            further_may law laws first had.0 s had.2 c.args.place had.3 c.in-Ok.end t on (omega (arith, below)),
          );
    }

pub returns-then-place-end-clause-past : goal.returns-then-place-end-clause-past
returns-then-place-end-clause-past g c =
    let law = g.L.RowLaw.law in
    let laws : DeskLaws law = record {
      stay = c.decided_blocks_stay.ensures.event;
      short = c.stored_words_tell_the_row.ensures.short;
      whole = c.stored_words_tell_the_row.ensures.whole;
      keep = c.flushes_keep.ensures;
      go = c.moments_go_on.ensures;
      held = c.flushed_logs_are_held.ensures;
      begin = c.kept_logs_begin.ensures;
      meet = c.flushed_logs_meet_more.ensures;
      join = c.writes_join.ensures;
    } in
    let from = sees_of (book c.args.pass.now) (g.D.Disk.told c.args.disk.now) (g.D.Disk.faults c.args.disk.now) c.args.flusher.now in
    let s = sees_of (book c.loop-end.pass) (g.D.Disk.told c.loop-end.disk) (g.D.Disk.faults c.loop-end.disk) c.loop-end.flusher in
    let t = sees_of (book c.turn_pass.new.pass) (g.D.Disk.told c.turn_pass.new.disk) (g.D.Disk.faults c.turn_pass.new.disk) c.turn_pass.new.flusher in
    let passes : Passes law = c.checkpoints_below_hold_logs.ensures.flushed in
    let stands : Stands law = c.checkpoints_below_hold_logs.ensures.here in
    let turn : Turns law (Ok c.in-Ok.end) s t = record { did = c.in-Ok.ensures.turn; counts = c.in-Ok.ensures.counts; known = c.in-Ok.ensures.known; may = c.in-Ok.ensures.may } in
    λ l slots k may.
    let had = c.loop-end.invariant.goes l slots k may in
    reached law laws slots had.0 s had.2 c.args.place had.3 l from had.1 passes stands c.in-Ok.end t turn c.if-place-end.true

pub returns-in-Err-Empty-clause-past : goal.returns-in-Err-Empty-clause-past
returns-in-Err-Empty-clause-past g c =
    let law = g.L.RowLaw.law in
    let laws : DeskLaws law = record {
      stay = c.decided_blocks_stay.ensures.event;
      short = c.stored_words_tell_the_row.ensures.short;
      whole = c.stored_words_tell_the_row.ensures.whole;
      keep = c.flushes_keep.ensures;
      go = c.moments_go_on.ensures;
      held = c.flushed_logs_are_held.ensures;
      begin = c.kept_logs_begin.ensures;
      meet = c.flushed_logs_meet_more.ensures;
      join = c.writes_join.ensures;
    } in
    let from = sees_of (book c.args.pass.now) (g.D.Disk.told c.args.disk.now) (g.D.Disk.faults c.args.disk.now) c.args.flusher.now in
    let s = sees_of (book c.loop-end.pass) (g.D.Disk.told c.loop-end.disk) (g.D.Disk.faults c.loop-end.disk) c.loop-end.flusher in
    let t = sees_of (book c.turn_pass.new.pass) (g.D.Disk.told c.turn_pass.new.disk) (g.D.Disk.faults c.turn_pass.new.disk) c.turn_pass.new.flusher in
    let passes : Passes law = c.checkpoints_below_hold_logs.ensures.flushed in
    let stands : Stands law = c.checkpoints_below_hold_logs.ensures.here in
    let raw : Turns law c.turn_pass.result s t = record { did = c.turn_pass.ensures.turn; counts = c.turn_pass.ensures.counts; known = c.turn_pass.ensures.known; may = c.turn_pass.ensures.may } in
    let turn : Turns law (Err (stop.Empty c.in-Err-Empty.field-0-0)) s t = subst (λ (r : Result ℕ FlushStop). Turns law r s t) (c.in-Err-Empty.is ∙ ap (λ (w : FlushStop). Err w) c.in-Err-Empty.field-0-is) raw in
    λ l slots k may.
    let had = c.loop-end.invariant.goes l slots k may in
    ended law laws slots had.0 s had.2 c.args.place had.3 l from had.1 passes stands c.in-Err-Empty.field-0-0 t turn

pub returns-then-place-at-clause-past : goal.returns-then-place-at-clause-past
returns-then-place-at-clause-past g c =
    let law = g.L.RowLaw.law in
    let laws : DeskLaws law = record {
      stay = c.decided_blocks_stay.ensures.event;
      short = c.stored_words_tell_the_row.ensures.short;
      whole = c.stored_words_tell_the_row.ensures.whole;
      keep = c.flushes_keep.ensures;
      go = c.moments_go_on.ensures;
      held = c.flushed_logs_are_held.ensures;
      begin = c.kept_logs_begin.ensures;
      meet = c.flushed_logs_meet_more.ensures;
      join = c.writes_join.ensures;
    } in
    let from = sees_of (book c.args.pass.now) (g.D.Disk.told c.args.disk.now) (g.D.Disk.faults c.args.disk.now) c.args.flusher.now in
    let s = sees_of (book c.loop-end.pass) (g.D.Disk.told c.loop-end.disk) (g.D.Disk.faults c.loop-end.disk) c.loop-end.flusher in
    let t = sees_of (book c.turn_pass.new.pass) (g.D.Disk.told c.turn_pass.new.disk) (g.D.Disk.faults c.turn_pass.new.disk) c.turn_pass.new.flusher in
    let passes : Passes law = c.checkpoints_below_hold_logs.ensures.flushed in
    let stands : Stands law = c.checkpoints_below_hold_logs.ensures.here in
    let raw : Turns law c.turn_pass.result s t = record { did = c.turn_pass.ensures.turn; counts = c.turn_pass.ensures.counts; known = c.turn_pass.ensures.known; may = c.turn_pass.ensures.may } in
    let turn : Turns law (Err (stop.Unfilled c.in-Err-Unfilled.at)) s t = subst (λ (r : Result ℕ FlushStop). Turns law r s t) (c.in-Err-Unfilled.is ∙ ap (λ (w : FlushStop). Err w) c.in-Err-Unfilled.field-0-is) raw in
    λ l slots k may.
    let had = c.loop-end.invariant.goes l slots k may in
    opened_past law laws slots had.0 s had.2 c.args.place had.3 l from had.1 passes stands c.in-Err-Unfilled.at t turn c.if-place-at.true

pub returns-in-Err-Unfilled-clause-past : goal.returns-in-Err-Unfilled-clause-past
returns-in-Err-Unfilled-clause-past g c =
    let law = g.L.RowLaw.law in
    let laws : DeskLaws law = record {
      stay = c.decided_blocks_stay.ensures.event;
      short = c.stored_words_tell_the_row.ensures.short;
      whole = c.stored_words_tell_the_row.ensures.whole;
      keep = c.flushes_keep.ensures;
      go = c.moments_go_on.ensures;
      held = c.flushed_logs_are_held.ensures;
      begin = c.kept_logs_begin.ensures;
      meet = c.flushed_logs_meet_more.ensures;
      join = c.writes_join.ensures;
    } in
    let from = sees_of (book c.args.pass.now) (g.D.Disk.told c.args.disk.now) (g.D.Disk.faults c.args.disk.now) c.args.flusher.now in
    let s = sees_of (book c.loop-end.pass) (g.D.Disk.told c.loop-end.disk) (g.D.Disk.faults c.loop-end.disk) c.loop-end.flusher in
    let t = sees_of (book c.turn_pass.new.pass) (g.D.Disk.told c.turn_pass.new.disk) (g.D.Disk.faults c.turn_pass.new.disk) c.turn_pass.new.flusher in
    let passes : Passes law = c.checkpoints_below_hold_logs.ensures.flushed in
    let stands : Stands law = c.checkpoints_below_hold_logs.ensures.here in
    let raw : Turns law c.turn_pass.result s t = record { did = c.turn_pass.ensures.turn; counts = c.turn_pass.ensures.counts; known = c.turn_pass.ensures.known; may = c.turn_pass.ensures.may } in
    let turn : Turns law (Err (stop.Unfilled c.in-Err-Unfilled.at)) s t = subst (λ (r : Result ℕ FlushStop). Turns law r s t) (c.in-Err-Unfilled.is ∙ ap (λ (w : FlushStop). Err w) c.in-Err-Unfilled.field-0-is) raw in
    let below = c.if-place-at.false in
    λ l slots k may.
    let had = c.loop-end.invariant.goes l slots k may in
    opened_below law laws slots had.0 s had.2 c.args.place had.3 l from had.1 passes stands c.in-Err-Unfilled.at t turn (omega (arith, below))

pub returns-in-Err-DiskFault-clause-past : goal.returns-in-Err-DiskFault-clause-past
returns-in-Err-DiskFault-clause-past g c =
    let law = g.L.RowLaw.law in
    let laws : DeskLaws law = record {
      stay = c.decided_blocks_stay.ensures.event;
      short = c.stored_words_tell_the_row.ensures.short;
      whole = c.stored_words_tell_the_row.ensures.whole;
      keep = c.flushes_keep.ensures;
      go = c.moments_go_on.ensures;
      held = c.flushed_logs_are_held.ensures;
      begin = c.kept_logs_begin.ensures;
      meet = c.flushed_logs_meet_more.ensures;
      join = c.writes_join.ensures;
    } in
    let from = sees_of (book c.args.pass.now) (g.D.Disk.told c.args.disk.now) (g.D.Disk.faults c.args.disk.now) c.args.flusher.now in
    let s = sees_of (book c.loop-end.pass) (g.D.Disk.told c.loop-end.disk) (g.D.Disk.faults c.loop-end.disk) c.loop-end.flusher in
    let t = sees_of (book c.turn_pass.new.pass) (g.D.Disk.told c.turn_pass.new.disk) (g.D.Disk.faults c.turn_pass.new.disk) c.turn_pass.new.flusher in
    let passes : Passes law = c.checkpoints_below_hold_logs.ensures.flushed in
    let stands : Stands law = c.checkpoints_below_hold_logs.ensures.here in
    let raw : Turns law c.turn_pass.result s t = record { did = c.turn_pass.ensures.turn; counts = c.turn_pass.ensures.counts; known = c.turn_pass.ensures.known; may = c.turn_pass.ensures.may } in
    let turn : Turns law (Err stop.DiskFault) s t = subst (λ (r : Result ℕ FlushStop). Turns law r s t) (c.in-Err-DiskFault.is ∙ ap (λ (w : FlushStop). Err w) c.in-Err-DiskFault.field-0-is) raw in
    λ l slots k may.
    let had = c.loop-end.invariant.goes l slots k may in
    failed law laws slots had.0 s had.2 c.args.place had.3 l from had.1 passes stands t turn
