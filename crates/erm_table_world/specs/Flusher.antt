-- The flush seat of a pass with all seats.
use Rattle.std.specs.Prelude.{ℕ, Option}
use Rattle.erm_core_view.specs.Views.{pin_of}
use Rattle.erm_machine.specs.declared.limits.TheConstants.{FLUSH_SEAT}
use Rattle.erm_machine.specs.declared.task.Task.{Task}
use Rattle.erm_rule.specs.declared.view.Book.{Book}
use Rattle.erm_rule.specs.Went.{core_of}

-- the place that it has pinned, and how far it has come in its call
abbrev pub pin_in : Book → Option ℕ
pin_in b = pin_of ((core_of b).seats FLUSH_SEAT).place ((core_of b).seats FLUSH_SEAT).current

abbrev pub task_in : Book → Task
task_in b = ((core_of b).seats FLUSH_SEAT).task
