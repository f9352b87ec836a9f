use Rattle.std.proofs.Common.{◌≡◌, length, take, arith}
use Rattle.std.proofs.lemmas.List.{length-take}
use Rattle.erm_log_disk.proofs.Readings.{all_read}
use Rattle.erm_log_disk.proofs.read.read_log.Goals as goal

pub returns-clause-words : goal.returns-clause-words
returns-clause-words g c =
    let same : length (take c.min-count.result c.args.words.now) ≡ c.min-count.result = omega (arith, length-take c.min-count.result c.args.words.now) in
    all_read c.read_run.result _ _ _ c.min-count.result _ c.read_run.new.words _ (omega arith) (omega (arith, same)) same c.read_run.ensures.count c.read_run.ensures.words
