-- A run of words of the log, cut where a segment ends.
use Rattle.std.specs.Prelude.{◌≡◌, ℕ, ◌+◌, ◌%◌, ◌<◌, ◌≤◌, List, [], ◌∷◌}
use Rattle.std.specs.List.{All}
use Rattle.erm_segment.specs.declared.Piece.{Piece}
use Rattle.erm_model.specs.declared.limits.TheConstants.{SEGMENT_WORDS}
use Rattle.erm_segment.specs.Place.{place_of}

-- each piece begins where the one before ends: the first at word `from` of the run, and the last ends before word `end`
abbrev pub EndToEnd : ℕ → List Piece → ℕ → Type 0
EndToEnd from [] end = from ≡ end
EndToEnd from (piece ∷ pieces) end = (piece.from ≡ from) × EndToEnd (from + piece.count) pieces end

-- a piece of the run that begins at word `at` of the log is a part of one segment
pub record IsInOneSegment (at : ℕ) (piece : Piece) : Type 0 where
  -- it isn't empty
  pub some : 0 < piece.count
  -- behind the front of the run it begins where its segment does
  pub border : 0 < piece.from → piece.at ≡ 0
  -- no segment ends within it
  pub whole : (at + piece.from) % SEGMENT_WORDS + piece.count ≤ SEGMENT_WORDS
  -- it begins in the file and at the byte of its first word
  pub place : (piece.file, piece.at) ≡ place_of (at + piece.from)

-- these pieces are the run of words from `at` on
pub record IsRun (at count : ℕ) (pieces : List Piece) : Type 0 where
  -- end to end they are its words, each once
  pub covers : EndToEnd 0 pieces count
  -- each lies in one segment
  pub each : All (IsInOneSegment at) pieces
