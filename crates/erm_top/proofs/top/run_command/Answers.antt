use Rattle.erm_top.proofs.top.run_command.Goals as goal

pub returns-in-Ship : goal.returns-in-Ship
returns-in-Ship g c = rw c.in-Ship.is (c.ship_log.ensures (g.S.Source.left c.args.source.now) (g.S.Source.faults c.args.source.now))

pub returns-in-Follow : goal.returns-in-Follow
returns-in-Follow g c = rw c.in-Follow.is (c.follow_stream.ensures (g.D.Disk.told c.args.disk) (g.D.Disk.faults c.args.disk))

pub returns-in-Replica : goal.returns-in-Replica
returns-in-Replica g c = rw c.in-Replica.is (c.replicate_stream.ensures (g.D.Disk.told c.args.disk) (g.D.Disk.faults c.args.disk))
