use Rattle.erm_rule.specs.Books.{book}
use Rattle.erm_desk.proofs.Pins.{pinned_at, reads_on, row_at, unpinned_at, waits_on}
use Rattle.erm_desk_checkpoint.proofs.seat.StepSeatPinnedLog.pins_are_known.Goals as goal

pub returns-clause-pinned : goal.returns-clause-pinned
returns-clause-pinned g c s t place l stands knows did = pinned_at c.decided_blocks_stay.ensures.event g.L.RowLaw.law (book s.seat.pass.now) (book t.seat.pass.now) l knows place did

pub returns-clause-row : goal.returns-clause-row
returns-clause-row g c s t oid row l stands knows object did =
    let law = g.L.RowLaw.law in
    let after = reads_on c.decided_blocks_stay.ensures.event law (book s.seat.pass.now) (book t.seat.pass.now) l knows oid row did in (
      after,
      row_at law c.blocks_are_a_log_list.ensures c.logs_go_on.ensures.more c.one_spelling.ensures c.stored_words_tell_the_row.ensures.short c.commits_are_certified.ensures
          c.commits_are_a_snapshot_history.ensures (book s.seat.pass.now) (book t.seat.pass.now) l after oid row did knows.end.pin,
    )

pub returns-clause-same : goal.returns-clause-same
returns-clause-same g c s t oid wait l stands knows did = waits_on c.decided_blocks_stay.ensures.event g.L.RowLaw.law (book s.seat.pass.now) (book t.seat.pass.now) l knows oid wait did

pub returns-clause-unpinned : goal.returns-clause-unpinned
returns-clause-unpinned g c s t l stands knows did = unpinned_at c.decided_blocks_stay.ensures.event g.L.RowLaw.law (book s.seat.pass.now) (book t.seat.pass.now) l knows did
