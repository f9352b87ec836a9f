use Rattle.erm_disk_cases.proofs.runs.stopped.Goals as goal

pub run_on_disk-ended-requires-clause-script : goal.run_on_disk-ended-requires-clause-script
run_on_disk-ended-requires-clause-script c = c.writes.ensures c.unwrap.result
