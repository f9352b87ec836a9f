use Rattle.erm_disk_cases.proofs.runs.an_undone_put_leaves_no_value.Goals as goal

pub tells-requires : goal.tells-requires
tells-requires g c = record { script = c.writes.ensures c.unwrap.result }

pub tells-requires-2 : goal.tells-requires-2
tells-requires-2 g c = record { script = c.goes_back.ensures c.unwrap.result }

pub tells-requires-3 : goal.tells-requires-3
tells-requires-3 g c = record { script = c.reads.ensures c.unwrap.result }
