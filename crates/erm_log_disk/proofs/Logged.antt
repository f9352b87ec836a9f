-- What a disk tells after words of the log were written to it and synced, as far as it tells.
use Rattle.std.proofs.Common.{◌≡◌, ℕ, ◌*◌, ◌++◌, List, [], ◌∷◌, length, Option, Some, None, Result, Ok, Err, OnOk, OnErr, IfSome, refl, ap, ◌∙◌, inl, inr, subst, arith}
use Rattle.std.specs.List.{All}
use Rattle.std.specs.Option.{option_map}
use Rattle.std.proofs.lemmas.List.Elements.{All-nil, All-cons}
use Rattle.erm_bytes.specs.Bytes.{AreWords, bytes_of}
use Rattle.erm_bytes.proofs.Words.{length-bytes_of}
use Rattle.erm_outside.specs.Disk.{changes_of, contents, IsImage, IsSettled, MayTry, Step}
use Rattle.erm_outside.specs.Disk.Change.{Tried}
use Rattle.erm_outside.proofs.Images.{reads_may_be}
use Rattle.erm_segment.specs.declared.Piece.{Piece}
use Rattle.erm_segment.specs.Pieces.{IsRun}
use Rattle.erm_log_disk.specs.Pieces.{HasPiece, piece_bytes, synced, SyncsFront, TriesPieces, written}
use Rattle.erm_log_disk.specs.Writes.{Holds, Lasts, OnlyWrites}
use Rattle.erm_log_disk.proofs.Trail.{images_spare}
use Rattle.erm_log_disk.proofs.Written.{AreParts, has_written, is_piece, IsPart, part_at, parts_front, parts_of, settled_after, Writes, writes_pieces, writes_syncs}

-- bytes of a run have those of each of its pieces
has_parts : (at : ℕ) (words : List ℕ) (bytes : List ℕ) (ps : List Piece) → length bytes ≡ 8 * length words → AreParts at (length words) ps → All (HasPiece bytes) ps
has_parts at words bytes [] size parts = All-nil (HasPiece bytes)
has_parts at words bytes (p ∷ ps) size (first, others) =
    let within = first.within in
    All-cons (HasPiece bytes) p ps (omega arith) (has_parts at words bytes ps size others)

pub run_has : (at : ℕ) (words bytes : List ℕ) (ps : List Piece) → bytes ≡ bytes_of words → IsRun at (length words) ps → All (HasPiece bytes) ps
run_has at words bytes ps e run = has_parts at words bytes ps (ap length e ∙ length-bytes_of words) (parts_of at (length words) ps run)

-- all pieces were written
pub written_only : (at : ℕ) (words : List ℕ) (ps : List Piece) (before after : Option (List Step)) → IsRun at (length words) ps
    → after ≡ option_map (written (bytes_of words) ps) before → OnlyWrites at words before after
written_only at words ps None after run e = e
written_only at words ps (Some old) after run e =
    (written (bytes_of words) ps old, e, writes_pieces at words ps old old (parts_of at (length words) ps run) ([], refl, tt))

-- the write of one failed
tried_only : (at : ℕ) (words : List ℕ) (done : List Piece) (p : Piece) (before after : Option (List Step)) → AreParts at (length words) done → IsPart at (length words) p
    → MayTry p.file p.at (piece_bytes (bytes_of words) p) (option_map (written (bytes_of words) done) before) after → OnlyWrites at words before after
tried_only at words done p None after parts part (inl e) = e
tried_only at words done p None after parts part (inr tried) = tried.2
tried_only at words done p (Some old) after parts part (inl e) =
    (written (bytes_of words) done old, e, writes_pieces at words done old old parts ([], refl, tt))
tried_only at words done p (Some old) after parts part (inr tried) =
    let step : Step = record { file = p.file; change = Tried p.at (piece_bytes (bytes_of words) p) tried.0 } in
    let writes = writes_pieces at words done old old parts ([], refl, tt) in
    (step ∷ written (bytes_of words) done old, tried.2, (step ∷ writes.0, ap (λ (steps : List Step). step ∷ steps) writes.1, ((is_piece at words p part, tried.1), writes.2)))

pub tries_only : (at : ℕ) (words : List ℕ) (ps : List Piece) (before after : Option (List Step)) → IsRun at (length words) ps
    → TriesPieces (bytes_of words) ps before after → OnlyWrites at words before after
tries_only at words ps before after run tries =
    let all : AreParts at (length words) (tries.done ++ tries.piece ∷ tries.rest) = rw tries.split at (parts_of at (length words) ps run) in
    tried_only at words tries.done tries.piece before after (parts_front at (length words) tries.done (tries.piece ∷ tries.rest) all) (part_at at (length words) tries.done tries.piece tries.rest all) tries.tried

-- and then some files were synced
synced_only : (at : ℕ) (words : List ℕ) (done : List Piece) (before mid after : Option (List Step)) → OnlyWrites at words before mid → after ≡ option_map (synced done) mid → OnlyWrites at words before after
synced_only at words done None mid after writes e = e ∙ ap (option_map (synced done)) writes
synced_only at words done (Some old) mid after writes e =
    (synced done writes.0, e ∙ ap (option_map (synced done)) writes.1, writes_syncs at words done old writes.0 writes.2)

pub syncs_only : {T E : Type 0} (at : ℕ) (words : List ℕ) (ps : List Piece) (r : Result T E) (before mid after : Option (List Step)) → OnlyWrites at words before mid
    → OnOk r (after ≡ option_map (synced ps) mid) → OnErr r (SyncsFront ps mid after) → OnlyWrites at words before after
syncs_only at words ps (Ok x) before mid after writes ok err = synced_only at words ps before mid after writes ok
syncs_only at words ps (Err x) before mid after writes ok err = synced_only at words err.done before mid after writes err.synced_are

-- all were written and synced
holds_after : (at : ℕ) (words : List ℕ) (ps : List Piece) (old : List Step) → AreWords words → IsRun at (length words) ps → IsSettled old
    → Holds at words old (synced ps (written (bytes_of words) ps old))
holds_after at words ps old are run settled =
    let new = synced ps (written (bytes_of words) ps old) in
    let writes : Writes at words old new = writes_syncs at words ps old (written (bytes_of words) ps old) (writes_pieces at words ps old old (parts_of at (length words) ps run) ([], refl, tt)) in
    let reads : IsImage new (contents new) = λ file. reads_may_be (changes_of file new) in
    record {
      settled = settled_after (bytes_of words) ps old settled;
      has = has_written at words ps old are run;
      others = images_spare at words old writes.0 (contents new) settled writes.2 (subst (λ (steps : List Step). IsImage steps (contents new)) writes.1 reads);
    }

pub lasts_after : (at : ℕ) (words : List ℕ) (ps : List Piece) (before mid after : Option (List Step)) → AreWords words → IsRun at (length words) ps → IfSome before IsSettled
    → mid ≡ option_map (written (bytes_of words) ps) before → after ≡ option_map (synced ps) mid → Lasts at words before after
lasts_after at words ps None mid after are run settled wrote synced_are = synced_are ∙ ap (option_map (synced ps)) wrote
lasts_after at words ps (Some old) mid after are run settled wrote synced_are =
    (synced ps (written (bytes_of words) ps old), synced_are ∙ ap (option_map (synced ps)) wrote, holds_after at words ps old are run settled)
