use Rattle.std.proofs.Common.{◌≡◌, false, subst}
use Rattle.atomic_table.specs.Seated.{TableId}
use Rattle.erm_desk.specs.Desk.{TurnsTo}
use Rattle.erm_desk.specs.Turns.{FlushSteps}
use Rattle.erm_desk.proofs.Turned.{DeskLaws}
use Rattle.erm_desk_checkpoint.specs.Kept.{SeesSlots, sees_of}
use Rattle.erm_desk_checkpoint.proofs.Desks.{turn_kept}
use Rattle.erm_desk_checkpoint.specs.Turns.{MayTurn, TurnsOn}
use Rattle.erm_desk_checkpoint.proofs.Turning.{Turns, turned_on}
use Rattle.erm_world.specs.Log.{Log}
use Rattle.erm_rule.specs.Books.{book}
use Rattle.erm_rule.specs.Steps.{Fits}
use Rattle.erm_desk_checkpoint.proofs.desk.CheckpointDesk.turn.Goals as goal

pub invariant_of-self : goal.invariant_of-self
invariant_of-self g c =
    let law = g.L.RowLaw.law in
    let laws : DeskLaws law = record {
      stay = c.decided_blocks_stay.ensures.event;
      short = c.stored_words_tell_the_row.ensures.short;
      whole = c.stored_words_tell_the_row.ensures.whole;
      keep = c.flushes_keep.ensures;
      go = c.moments_go_on.ensures;
      held = c.flushed_logs_are_held.ensures;
      begin = c.kept_logs_begin.ensures;
      meet = c.flushed_logs_meet_more.ensures;
      join = c.writes_join.ensures;
    } in
    let s = sees_of (book c.self.inside.pass) (g.D.Disk.told c.self.inside.disk) (g.D.Disk.faults c.self.inside.disk) c.self.inside.flusher in
    let t = sees_of (book c.turn_pass.new.pass) (g.D.Disk.told c.turn_pass.new.disk) (g.D.Disk.faults c.turn_pass.new.disk) c.turn_pass.new.flusher in
    let turn : Turns law c.turn_pass.result s t = record { did = c.turn_pass.ensures.turn; counts = c.turn_pass.ensures.counts; known = c.turn_pass.ensures.known; may = c.turn_pass.ensures.may } in
    let all = turn_kept law laws g.B.Naming.start g.B.Naming.began g.B.Naming.faults c.self.inside.slots c.turn_pass.result s t c.self.invariant.3 c.self.invariant.1 turn in
    (subst (λ (i : TableId). Fits i c.turn_pass.new.pass) c.requires.table c.turn_pass.ensures.fits, all.unpinned, c.self.invariant.2, all.kept)

pub returns-clause-turns : goal.returns-clause-turns
returns-clause-turns g c =
    let law = g.L.RowLaw.law in
    let laws : DeskLaws law = record {
      stay = c.decided_blocks_stay.ensures.event;
      short = c.stored_words_tell_the_row.ensures.short;
      whole = c.stored_words_tell_the_row.ensures.whole;
      keep = c.flushes_keep.ensures;
      go = c.moments_go_on.ensures;
      held = c.flushed_logs_are_held.ensures;
      begin = c.kept_logs_begin.ensures;
      meet = c.flushed_logs_meet_more.ensures;
      join = c.writes_join.ensures;
    } in
    let s = sees_of (book c.self.inside.pass) (g.D.Disk.told c.self.inside.disk) (g.D.Disk.faults c.self.inside.disk) c.self.inside.flusher in
    let t = sees_of (book c.turn_pass.new.pass) (g.D.Disk.told c.turn_pass.new.disk) (g.D.Disk.faults c.turn_pass.new.disk) c.turn_pass.new.flusher in
    let turn : Turns law c.turn_pass.result s t = record { did = c.turn_pass.ensures.turn; counts = c.turn_pass.ensures.counts; known = c.turn_pass.ensures.known; may = c.turn_pass.ensures.may } in
    let all = turn_kept law laws g.B.Naming.start g.B.Naming.began g.B.Naming.faults c.self.inside.slots c.turn_pass.result s t c.self.invariant.3 c.self.invariant.1 turn in
    subst (λ (x : SeesSlots). TurnsTo law g.B.Naming.start c.turn_pass.result x.desk t) c.self.view_is all.turns

pub returns-clause-steps : goal.returns-clause-steps
returns-clause-steps g c =
    let law = g.L.RowLaw.law in
    let laws : DeskLaws law = record {
      stay = c.decided_blocks_stay.ensures.event;
      short = c.stored_words_tell_the_row.ensures.short;
      whole = c.stored_words_tell_the_row.ensures.whole;
      keep = c.flushes_keep.ensures;
      go = c.moments_go_on.ensures;
      held = c.flushed_logs_are_held.ensures;
      begin = c.kept_logs_begin.ensures;
      meet = c.flushed_logs_meet_more.ensures;
      join = c.writes_join.ensures;
    } in
    let s = sees_of (book c.self.inside.pass) (g.D.Disk.told c.self.inside.disk) (g.D.Disk.faults c.self.inside.disk) c.self.inside.flusher in
    let t = sees_of (book c.turn_pass.new.pass) (g.D.Disk.told c.turn_pass.new.disk) (g.D.Disk.faults c.turn_pass.new.disk) c.turn_pass.new.flusher in
    let turn : Turns law c.turn_pass.result s t = record { did = c.turn_pass.ensures.turn; counts = c.turn_pass.ensures.counts; known = c.turn_pass.ensures.known; may = c.turn_pass.ensures.may } in
    let all = turn_kept law laws g.B.Naming.start g.B.Naming.began g.B.Naming.faults c.self.inside.slots c.turn_pass.result s t c.self.invariant.3 c.self.invariant.1 turn in
    subst (λ (x : SeesSlots). FlushSteps law x.desk.book t.book) c.self.view_is all.steps

pub returns-clause-known : goal.returns-clause-known
returns-clause-known g c =
    let law = g.L.RowLaw.law in
    let laws : DeskLaws law = record {
      stay = c.decided_blocks_stay.ensures.event;
      short = c.stored_words_tell_the_row.ensures.short;
      whole = c.stored_words_tell_the_row.ensures.whole;
      keep = c.flushes_keep.ensures;
      go = c.moments_go_on.ensures;
      held = c.flushed_logs_are_held.ensures;
      begin = c.kept_logs_begin.ensures;
      meet = c.flushed_logs_meet_more.ensures;
      join = c.writes_join.ensures;
    } in
    let s = sees_of (book c.self.inside.pass) (g.D.Disk.told c.self.inside.disk) (g.D.Disk.faults c.self.inside.disk) c.self.inside.flusher in
    let t = sees_of (book c.turn_pass.new.pass) (g.D.Disk.told c.turn_pass.new.disk) (g.D.Disk.faults c.turn_pass.new.disk) c.turn_pass.new.flusher in
    let turn : Turns law c.turn_pass.result s t = record { did = c.turn_pass.ensures.turn; counts = c.turn_pass.ensures.counts; known = c.turn_pass.ensures.known; may = c.turn_pass.ensures.may } in
    let all = turn_kept law laws g.B.Naming.start g.B.Naming.began g.B.Naming.faults c.self.inside.slots c.turn_pass.result s t c.self.invariant.3 c.self.invariant.1 turn in
    subst (λ (x : SeesSlots). x.desk.failed ≡ false → (log : Log) × MayTurn law g.B.Naming.start x.slots log x.desk) c.self.view_is all.known

pub returns-clause-writes : goal.returns-clause-writes
returns-clause-writes g c =
    let law = g.L.RowLaw.law in
    let laws : DeskLaws law = record {
      stay = c.decided_blocks_stay.ensures.event;
      short = c.stored_words_tell_the_row.ensures.short;
      whole = c.stored_words_tell_the_row.ensures.whole;
      keep = c.flushes_keep.ensures;
      go = c.moments_go_on.ensures;
      held = c.flushed_logs_are_held.ensures;
      begin = c.kept_logs_begin.ensures;
      meet = c.flushed_logs_meet_more.ensures;
      join = c.writes_join.ensures;
    } in
    let s = sees_of (book c.self.inside.pass) (g.D.Disk.told c.self.inside.disk) (g.D.Disk.faults c.self.inside.disk) c.self.inside.flusher in
    let t = sees_of (book c.turn_pass.new.pass) (g.D.Disk.told c.turn_pass.new.disk) (g.D.Disk.faults c.turn_pass.new.disk) c.turn_pass.new.flusher in
    let turn : Turns law c.turn_pass.result s t = record { did = c.turn_pass.ensures.turn; counts = c.turn_pass.ensures.counts; known = c.turn_pass.ensures.known; may = c.turn_pass.ensures.may } in
    subst (λ (x : SeesSlots). (log : Log) → MayTurn law g.B.Naming.start x.slots log x.desk → TurnsOn law x.slots c.turn_pass.result log x.desk t) c.self.view_is
    (λ log may. turned_on law laws c.self.inside.slots log s may.holds may.behind c.turn_pass.result t turn)
