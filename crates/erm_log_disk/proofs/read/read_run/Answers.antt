use Rattle.std.proofs.Common.{◌≡◌, ◌+◌, ◌-◌, length, refl, arith}
use Rattle.erm_log_disk.proofs.Readings.{joined_read, run_of, short_read, told_of}
use Rattle.erm_log_disk.proofs.read.read_run.Goals as goal

pub returns-then-read-first-clause-words : goal.returns-then-read-first-clause-words
returns-then-read-first-clause-words g c =
    let size : length c.split_at_mut-front.result.0.now ≡ c.min-first.result = omega arith in
    short_read _ _ c.min-first.result _ _ _ c.split_at_mut-front.result.1.now (omega arith) (omega arith) (omega arith)
    (run_of _ _ _ _ _ _ c.read_piece.new.words size refl c.in_ok-read.ensures.words)

pub returns-clause-words : goal.returns-clause-words
returns-clause-words g c =
    let size : length c.split_at_mut-front.result.0.now ≡ c.min-first.result = omega arith in
    let rest : length c.split_at_mut-front.result.1.now ≡ length c.args.words.now - c.min-first.result = omega arith in
    let whole : c.in_ok-read.read ≡ c.min-first.result = omega (arith, c.in_ok-read.ensures.count) in
    joined_read _ _ c.min-first.result _ _ c.read_piece.new.words c.read_piece-2.new.words (omega arith) (omega arith)
    (run_of _ _ _ _ _ _ c.read_piece.new.words size whole c.in_ok-read.ensures.words)
    (run_of _ _ _ _ _ _ c.read_piece-2.new.words rest refl (told_of _ _ _ _ c.in_ok-more.more c.read_piece-2.new.words c.in_ok-read.ensures.told c.in_ok-more.ensures.words))
