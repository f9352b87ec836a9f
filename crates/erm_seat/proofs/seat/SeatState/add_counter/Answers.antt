use Rattle.std.proofs.Common.{◌≡◌, ℕ, ap, ◌∙◌}
use Rattle.erm_machine.specs.declared.event.Counter.{Counter}
use Rattle.erm_machine.specs.declared.event.Counter.TheVariants.{Objects, Cells}
use Rattle.erm_machine.specs.declared.part.Part.{Part}
use Rattle.erm_machine.specs.declared.task.Task.{Task}
use Rattle.erm_machine.specs.declared.task.Task.TheVariants.{Numbers, Pool}
use Rattle.erm_machine.specs.Reading.{add_counter}
use Rattle.erm_seat.specs.Parts.{part_of}
use Rattle.erm_seat.proofs.seat.SeatState.add_counter.Goals as goal

-- the part after, by the counter and the task
by_kind : (cells seat found : ℕ) (x : Part) (a b : Counter) (t u : Task) → a ≡ b → t ≡ u → add_counter cells seat a found x t ≡ add_counter cells seat b found x u
by_kind cells seat found x a b t u counter task =
    ap (λ (k : Counter). add_counter cells seat k found x t) counter ∙ ap (λ (v : Task). add_counter cells seat b found x v) task

pub returns-in-Objects-Numbers-clause-turn : goal.returns-in-Objects-Numbers-clause-turn
returns-in-Objects-Numbers-clause-turn c =
    by_kind c.args.cells c.args.seat c.args.found (part_of c.args.self.now) c.args.counter Objects c.args.self.now.task Numbers c.in-Objects-Numbers.is-0 c.in-Objects-Numbers.is-1
    ∙ c.add_object.ensures.turn c.args.cells

pub returns-in-Cells-Pool-clause-turn : goal.returns-in-Cells-Pool-clause-turn
returns-in-Cells-Pool-clause-turn c =
    by_kind c.args.cells c.args.seat c.args.found (part_of c.args.self.now) c.args.counter Cells c.args.self.now.task Pool c.in-Cells-Pool.is-0 c.in-Cells-Pool.is-1
    ∙ c.add_cell.ensures.turn c.args.seat
