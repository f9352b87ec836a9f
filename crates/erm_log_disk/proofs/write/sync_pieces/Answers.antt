use Rattle.std.proofs.Common.{sym, ap, ◌∙◌, take, drop, get_or, List, ◌∷◌, Option}
use Rattle.std.proofs.lemmas.List.{take_all, take-append-drop}
use Rattle.std.specs.Option.{option_map}
use Rattle.erm_outside.specs.Disk.{Step}
use Rattle.erm_outside.specs.Disk.Change.{Synced}
use Rattle.erm_log_disk.specs.Pieces.{SyncsFront, synced}
use Rattle.erm_log_disk.proofs.Exits.{no_piece, on_err}
use Rattle.erm_log_disk.proofs.Written.{more_synced}
use Rattle.erm_log_disk.proofs.write.sync_pieces.Goals as goal

pub returns-in_err-sync-clause-tried : goal.returns-in_err-sync-clause-tried
returns-in_err-sync-clause-tried g c =
    on_err c.from_residual.result (SyncsFront c.args.pieces.now (g.D.Disk.told c.args.disk.now) (g.D.Disk.told c.sync.new.self))
    (record {
      done = take c.loop-piece.piece-index c.args.pieces.now;
      rest = drop c.loop-piece.piece-index c.args.pieces.now;
      split = sym (take-append-drop c.loop-piece.piece-index c.args.pieces.now);
      synced_are = c.in_err-sync.ensures.tried ∙ c.loop-piece.invariant.synced_are;
    })

pub loop-piece-preserved : goal.loop-piece-preserved
loop-piece-preserved g c =
    let n = c.loop-piece.piece-index in
    let ps = c.args.pieces.now in
    record {
      synced_are = c.in_ok-sync.ensures.told
          ∙ ap (λ (before : Option (List Step)). option_map (λ (steps : List Step). record { file = (get_or ps n no_piece).file; change = Synced } ∷ steps) before) c.loop-piece.invariant.synced_are
          ∙ more_synced ps n no_piece (g.D.Disk.told c.args.disk.now) c.loop-piece-test.true;
      sound = c.in_ok-sync.ensures.sound ∙ c.loop-piece.invariant.sound;
    }

pub returns-clause-synced : goal.returns-clause-synced
returns-clause-synced g c =
    c.loop-piece.invariant.synced_are ∙ ap (λ qs. option_map (synced qs) (g.D.Disk.told c.args.disk.now)) (take_all c.loop-piece.piece-index c.args.pieces.now c.loop-piece-test.false)
