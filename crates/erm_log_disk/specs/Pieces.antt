-- What is done to a disk where the pieces of a run of words are written, and their files synced.
use Rattle.std.specs.Prelude.{◌≡◌, ℕ, ◌+◌, ◌*◌, ◌≤◌, List, [], ◌∷◌, ◌++◌, length, slice_range, Option}
use Rattle.std.specs.Option.{option_map}
use Rattle.erm_bytes.specs.declared.bytes.TheConstants.{WORD_BYTES}
use Rattle.erm_outside.specs.Disk.{MayTry, Step}
use Rattle.erm_outside.specs.Disk.Change.{Wrote, Synced}
use Rattle.erm_segment.specs.declared.Piece.{Piece}

-- the bytes of a piece, out of those of the run
abbrev pub piece_bytes : List ℕ → Piece → List ℕ
piece_bytes bytes piece = slice_range bytes (WORD_BYTES * piece.from) (WORD_BYTES * (piece.from + piece.count))

-- the bytes have those of a piece
abbrev pub HasPiece : List ℕ → Piece → Type 0
HasPiece bytes piece = WORD_BYTES * (piece.from + piece.count) ≤ length bytes

-- the steps after each of these pieces was written
abbrev pub written : List ℕ → List Piece → List Step → List Step
written bytes [] steps = steps
written bytes (piece ∷ pieces) steps = written bytes pieces (record { file = piece.file; change = Wrote piece.at (piece_bytes bytes piece) } ∷ steps)

-- the steps after the file of each of these pieces was synced
abbrev pub synced : List Piece → List Step → List Step
synced [] steps = steps
synced (piece ∷ pieces) steps = synced pieces (record { file = piece.file; change = Synced } ∷ steps)

-- the first of these pieces were written, and the write of the next failed
pub record TriesPieces (bytes : List ℕ) (pieces : List Piece) (before after : Option (List Step)) : Type 0 where
  pub done : List Piece
  pub piece : Piece
  pub rest : List Piece
  pub split : pieces ≡ done ++ piece ∷ rest
  pub tried : MayTry piece.file piece.at (piece_bytes bytes piece) (option_map (written bytes done) before) after

-- the files of the first of these pieces were synced
pub record SyncsFront (pieces : List Piece) (before after : Option (List Step)) : Type 0 where
  pub done : List Piece
  pub rest : List Piece
  pub split : pieces ≡ done ++ rest
  pub synced_are : after ≡ option_map (synced done) before
