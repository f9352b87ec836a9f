use Rattle.std.proofs.Common.{◌≤◌, ◌⊎◌}
use Rattle.erm_core_flush.specs.Turns.{IsOpenAt}
use Rattle.erm_desk.proofs.Looking.{sees, stops, stored}
use Rattle.erm_desk_checkpoint.specs.declared.seat.StepSeat.{StepSeat}
use Rattle.erm_machine.specs.Core.{Core}
use Rattle.erm_rule.specs.Books.{book}
use Rattle.erm_rule.proofs.Courses.{seen_before}
use Rattle.erm_desk_checkpoint.proofs.seat.StepSeatLogView.gathers_are_known.Goals as goal

pub returns-clause-sees : goal.returns-clause-sees
returns-clause-sees g c s t a words l stands stays knows look =
    sees g.L.RowLaw.law c.blocks_are_a_log_list.ensures c.logs_go_on.ensures.more c.one_spelling.ensures c.stored_words_tell_the_row.ensures.short c.decided_blocks_stay.ensures.event c.decided_blocks_stay.ensures.behind
    (λ (x : StepSeat g.row.L.Denot). book x.seat.pass.now) s t a words l stands.1 knows look

pub returns-clause-stops : goal.returns-clause-stops
returns-clause-stops g c s t a words stands look = stops g.L.RowLaw.law (λ (x : StepSeat g.row.L.Denot). book x.seat.pass.now) a s t words stands.1 look

pub returns-clause-flushed : goal.returns-clause-flushed
returns-clause-flushed g c s t end l awaits to store =
    stored g.L.RowLaw.law c.blocks_are_a_log_list.ensures c.logs_go_on.ensures.more c.one_spelling.ensures c.stored_words_tell_the_row.ensures.short c.decided_blocks_stay.ensures.event c.decided_blocks_stay.ensures.behind
    (book s.seat.pass.now) (book t.seat.pass.now) end l awaits to store

pub returns-clause-stays : goal.returns-clause-stays
returns-clause-stays g c s t u place end stopped store =
    seen_before (book s.seat.pass.now) (λ (d : Core). (d.shared.tail ≤ place) ⊎ IsOpenAt d.seats place) (book t.seat.pass.now) (book u.seat.pass.now) stopped store.clears.goes
