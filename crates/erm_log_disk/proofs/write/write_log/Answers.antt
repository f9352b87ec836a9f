use Rattle.std.proofs.Common.{◌≡◌, ◌<◌, ◌^◌, length, ap, ◌∙◌, sym, arith}
use Rattle.std.specs.Option.{option_map}
use Rattle.std.proofs.lemmas.List.Elements.{All-from_get_or}
use Rattle.std.proofs.lemmas.Result.{on_ok_weaker}
use Rattle.erm_bytes.specs.Bytes.{AreWords, bytes_of}
use Rattle.erm_segment.specs.Pieces.{IsRun}
use Rattle.erm_log_disk.specs.Pieces.{synced, TriesPieces, written}
use Rattle.erm_log_disk.proofs.Logged.{lasts_after, run_has, syncs_only, tries_only, written_only}
use Rattle.erm_log_disk.proofs.write.write_log.Goals as goal

pub write_pieces-requires : goal.write_pieces-requires
write_pieces-requires g c =
    let run : IsRun c.args.at (length c.args.words.now) c.as_slice.result.now = rw (sym c.as_slice.ensures.value) at c.pieces-pieces.ensures.run in
    run_has c.args.at c.args.words.now c.write_words.new.out c.as_slice.result.now c.write_words.ensures run

pub returns-in_err-write_pieces-clause-writes : goal.returns-in_err-write_pieces-clause-writes
returns-in_err-write_pieces-clause-writes g c =
    let run : IsRun c.args.at (length c.args.words.now) c.as_slice.result.now = rw (sym c.as_slice.ensures.value) at c.pieces-pieces.ensures.run in
    let tries : TriesPieces (bytes_of c.args.words.now) c.as_slice.result.now (g.D.Disk.told c.args.disk.now) (g.D.Disk.told c.write_pieces.new.disk) = rw c.write_words.ensures at c.in_err-write_pieces.ensures.tried in
    tries_only c.args.at c.args.words.now c.as_slice.result.now (g.D.Disk.told c.args.disk.now) (g.D.Disk.told c.write_pieces.new.disk) run tries

pub returns-clause-writes : goal.returns-clause-writes
returns-clause-writes g c =
    let run : IsRun c.args.at (length c.args.words.now) c.as_slice.result.now = rw (sym c.as_slice.ensures.value) at c.pieces-pieces.ensures.run in
    let wrote : g.D.Disk.told c.write_pieces.new.disk ≡ option_map (written (bytes_of c.args.words.now) c.as_slice.result.now) (g.D.Disk.told c.args.disk.now) = rw c.write_words.ensures at c.in_ok-write_pieces.ensures.wrote in
    syncs_only c.args.at c.args.words.now c.as_slice-2.result.now c.sync_pieces.result (g.D.Disk.told c.args.disk.now) (g.D.Disk.told c.write_pieces.new.disk) (g.D.Disk.told c.sync_pieces.new.disk)
    (written_only c.args.at c.args.words.now c.as_slice.result.now (g.D.Disk.told c.args.disk.now) (g.D.Disk.told c.write_pieces.new.disk) run wrote)
    c.sync_pieces.ensures.synced c.sync_pieces.ensures.tried

pub returns-clause-lasts : goal.returns-clause-lasts
returns-clause-lasts g c =
    let run : IsRun c.args.at (length c.args.words.now) c.as_slice.result.now = rw (sym c.as_slice.ensures.value) at c.pieces-pieces.ensures.run in
    let wrote : g.D.Disk.told c.write_pieces.new.disk ≡ option_map (written (bytes_of c.args.words.now) c.as_slice.result.now) (g.D.Disk.told c.args.disk.now) = rw c.write_words.ensures at c.in_ok-write_pieces.ensures.wrote in
    let same = c.as_slice-2.ensures.value ∙ sym c.as_slice.ensures.value in
    let are : AreWords c.args.words.now = All-from_get_or (λ w. w < 2 ^ 64) c.args.words.now 0 (λ i _. omega (arith, c.type_inv.words i)) in
    on_ok_weaker c.sync_pieces.result
    (λ done. lasts_after c.args.at c.args.words.now c.as_slice.result.now (g.D.Disk.told c.args.disk.now) (g.D.Disk.told c.write_pieces.new.disk) (g.D.Disk.told c.sync_pieces.new.disk)
    are run c.requires.settled wrote
    (done ∙ ap (λ ps. option_map (synced ps) (g.D.Disk.told c.write_pieces.new.disk)) same))
    c.sync_pieces.ensures.synced
