-- Streams over a reader or a writer, as their callers see them.
use Rattle.std.specs.Prelude.{ℕ, Bool, true, false, List, Option, None}

-- the bytes that the reader has left, where it tells them, and how often it failed
pub record ReaderState : Type 0 where
  pub remaining : Option (List ℕ)
  pub faults : ℕ

-- the bytes that the writer holds, where it tells them, and how often it failed
pub record WriterState : Type 0 where
  pub contents : Option (List ℕ)
  pub faults : ℕ

-- what is known, of one that tells
abbrev pub known_if : Bool → Option (List ℕ) → Option (List ℕ)
known_if true known = known
known_if false known = None
