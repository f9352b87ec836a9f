use Rattle.std.proofs.Common.{length, take}
use Rattle.erm_log.proofs.Looking.{lies_told}
use Rattle.erm_log.proofs.behind.look_behind.Goals as goal

pub returns-clause-lies : goal.returns-clause-lies
returns-clause-lies g c =
    lies_told (g.D.Disk.told c.args.disk.now) c.args.end (length c.args.words.now) (take c.in_ok-count.count c.read_log.new.words) c.first_block.result c.requires.words
    c.in_ok-count.ensures.words c.first_block.ensures
