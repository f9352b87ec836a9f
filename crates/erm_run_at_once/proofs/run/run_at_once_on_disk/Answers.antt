use Rattle.erm_run_at_once.proofs.run.run_at_once_on_disk.Goals as goal

pub returns-in-Ok-clause-ended : goal.returns-in-Ok-clause-ended
returns-in-Ok-clause-ended g c = let was = c.in-Ok.ensures.opened in c.run_opened_log.ensures.ended (g.D.Disk.told c.args.disk) was.0 was.1

pub returns-in-Ok-clause-untold : goal.returns-in-Ok-clause-untold
returns-in-Ok-clause-untold g c = let was = c.in-Ok.ensures.opened in c.run_opened_log.ensures.untold (g.D.Disk.told c.args.disk) was.0 was.1
