use Rattle.erm_rule.specs.Openings.{start_of}
use Rattle.erm_client_beside.proofs.run.run_programs.Given as goal

abbrev pub ghosts-run_opened_programs-B-Naming : goal.ghosts-run_opened_programs-B-Naming
ghosts-run_opened_programs-B-Naming g a = record { table = a.opened.table.words.shared.table_id; start = start_of a.opening.now; began = g.D.Disk.told a.disk; faults = g.D.Disk.faults a.disk }

abbrev pub ghosts-run_opened_programs-B-Ledger : goal.ghosts-run_opened_programs-B-Ledger
ghosts-run_opened_programs-B-Ledger g a = record { name = a.blank.name; parts = a.blank.parts }
