use Rattle.std.proofs.Common.{ap, ◌∙◌, suc, take, drop, get_or, List, ◌∷◌, Option}
use Rattle.std.proofs.lemmas.List.{take_all}
use Rattle.std.specs.Option.{option_map}
use Rattle.erm_outside.specs.Disk.{Step}
use Rattle.erm_outside.specs.Disk.Change.{Wrote}
use Rattle.erm_log_disk.specs.Pieces.{piece_bytes, TriesPieces, written}
use Rattle.erm_log_disk.proofs.Exits.{cut_at, no_piece, on_err}
use Rattle.erm_log_disk.proofs.Written.{more_written}
use Rattle.erm_log_disk.proofs.write.write_pieces.Goals as goal

pub returns-in_err-write-clause-tried : goal.returns-in_err-write-clause-tried
returns-in_err-write-clause-tried g c =
    let n = c.loop-piece.piece-index in
    let ps = c.args.pieces.now in
    let bytes = c.args.bytes.now in
    on_err c.from_residual.result (TriesPieces bytes ps (g.D.Disk.told c.args.disk.now) (g.D.Disk.told c.write.new.self))
    (record {
      done = take n ps;
      piece = get_or ps n no_piece;
      rest = drop (suc n) ps;
      split = cut_at ps n c.loop-piece-test.true;
      tried = rw c.loop-piece.invariant.wrote at c.in_err-write.ensures.tried;
    })

pub loop-piece-preserved : goal.loop-piece-preserved
loop-piece-preserved g c =
    let n = c.loop-piece.piece-index in
    let ps = c.args.pieces.now in
    let bytes = c.args.bytes.now in
    let piece = get_or ps n no_piece in
    record {
      wrote = c.in_ok-write.ensures.told
          ∙ ap (λ (before : Option (List Step)). option_map (λ (steps : List Step). record { file = piece.file; change = Wrote piece.at (piece_bytes bytes piece) } ∷ steps) before) c.loop-piece.invariant.wrote
          ∙ more_written bytes ps n no_piece (g.D.Disk.told c.args.disk.now) c.loop-piece-test.true;
      sound = c.in_ok-write.ensures.sound ∙ c.loop-piece.invariant.sound;
    }

pub returns-clause-wrote : goal.returns-clause-wrote
returns-clause-wrote g c =
    c.loop-piece.invariant.wrote ∙ ap (λ qs. option_map (written c.args.bytes.now qs) (g.D.Disk.told c.args.disk.now)) (take_all c.loop-piece.piece-index c.args.pieces.now c.loop-piece-test.false)
