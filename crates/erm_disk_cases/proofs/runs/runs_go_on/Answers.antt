use Rattle.erm_disk_cases.proofs.runs.runs_go_on.Goals as goal

pub tells-requires : goal.tells-requires
tells-requires g c = record { script = c.writes.ensures c.unwrap.result }

pub tells-requires-3 : goal.tells-requires-3
tells-requires-3 g c = record { script = c.reads.ensures c.unwrap.result }
