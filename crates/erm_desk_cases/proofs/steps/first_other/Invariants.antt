use Rattle.std.specs.Prelude.{None}
use Rattle.erm_rule.specs.Openings.{start_of}
use Rattle.erm_desk_cases.proofs.steps.first_other.Given as goal

abbrev pub ghosts-take : goal.ghosts-take
ghosts-take a = record { table = a.opened.table.words.shared.table_id; start = start_of a._opening.now; began = None; faults = a.disk.disk.calls.faults }
