use Rattle.erm_desk.proofs.Turned.{DeskLaws, knows_now, log_now, pin_turned, ready_now, turned}
use Rattle.erm_desk.proofs.Stepped.{turn_steps}
use Rattle.erm_desk.proofs.laws.turns_keep_desks.Goals as goal

pub returns : goal.returns
returns g c o began first s t answer desk did counts known =
    let law = g.L.RowLaw.law in
    let laws : DeskLaws law = record {
      stay = c.decided_blocks_stay.ensures.event;
      short = c.stored_words_tell_the_row.ensures.short;
      whole = c.stored_words_tell_the_row.ensures.whole;
      keep = c.flushes_keep.ensures;
      go = c.moments_go_on.ensures;
      held = c.flushed_logs_are_held.ensures;
      begin = c.kept_logs_begin.ensures;
      meet = c.flushed_logs_meet_more.ensures;
      join = c.writes_join.ensures;
    } in
    let both = turned law laws o began first s desk answer t.book t.told t.faults t.failed did counts
    (known (log_now law o began first s desk) (knows_now law o began first s desk) (ready_now law o began first s desk)) in
    (both.0, both.1, pin_turned law laws o began first s desk answer t.book t.told t.failed did, turn_steps law answer s.failed t.failed s.book t.book s.told t.told did)
