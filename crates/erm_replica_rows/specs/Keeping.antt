-- What a replica keeps from one piece of a stream to the next.
use Rattle.std.specs.Prelude.{◌≡◌, ℕ, Bool, true, false, if◌then◌else◌, List, [], ◌++◌, length, Option, None, IfSome, vec_len}
use Rattle.std.specs.List.{All}
use Rattle.erm_model.specs.declared.limits.TheConstants.{OID_LIMIT}
use Rattle.erm_model.specs.Member.{◌∈◌}
use Rattle.erm_model.specs.Rows.{rows_of}
use Rattle.erm_model.specs.RowTransaction.{SameRows}
use Rattle.erm_ckpt.specs.Checkpoint.{Checkpoint, zero_rows}
use Rattle.erm_node.specs.Sound.{IsSound}
use Rattle.erm_replica.specs.declared.stream.TheConstants.{ITEM_WORDS}
use Rattle.erm_replica.specs.Cuts.{Reads}
use Rattle.erm_replica.specs.Ready.{last_place}
use Rattle.erm_replica.specs.Stream.{IsShort, Part, Streamed, fed, start}
use Rattle.erm_replica.specs.Stream.Part.{base}
use Rattle.erm_replica_rows.specs.declared.feed_stop.FeedStop.{FeedStop}
use Rattle.erm_replica_rows.specs.declared.feed_stop.FeedStop.TheVariants as stop
use Rattle.erm_replica_rows.specs.declared.reader.Reader.{Reader}
use Rattle.erm_replica_rows.specs.declared.snapshot.Snapshot.{Snapshot}
use Rattle.erm_replica_rows.specs.Moving.{IsFrom}
use Rattle.erm_replica_rows.specs.Reading.{CanRead, HasLawful, seen}
use Rattle.erm_replica_rows.specs.Replica.{AreSound, IsBad, IsSafeOf, Shown, is_below, rows_behind}

-- what a replica keeps
pub record Kept : Type 0 where
  -- the stream from the next item on, and the rows before it
  pub stream : Streamed
  pub rows : List (List ℕ)
  -- the stream from the first item on that isn't below the safe stamp, and the rows before it
  pub since : Streamed
  pub safe_rows : List (List ℕ)
  -- the place of the checkpoint in front
  pub base : ℕ
  pub safe : Option ℕ

-- what is known of a replica: what it keeps, and whether what stands next is no item
pub record Replicated : Type 0 where
  pub kept : Kept
  pub is_bad : Bool

-- what two readers of the same bytes keep
abbrev pub kept_of : Reader → Snapshot → List ℕ → Kept
kept_of end snapshot bytes = record {
  stream = seen end bytes;
  rows = end.rows.items;
  since = seen snapshot.reader bytes;
  safe_rows = snapshot.reader.rows.items;
  base = snapshot.base;
  safe = snapshot.safe;
}

-- what a replica answers
abbrev pub shown : Replicated → Shown
shown r = record {
  stamp = last_place r.kept.stream.log;
  safe = r.kept.safe;
  rest = if r.is_bad then 0 else length r.kept.stream.rest;
  rows = rows_of r.kept.safe_rows;
}

-- with more bytes
abbrev pub with_more : Kept → List ℕ → Kept
with_more k more = record k { stream = fed k.stream more; since = fed k.since more }

-- Of these bytes the parts below the safe stamp were read, and then others, up to some item; the rows are those after them.
pub record Holds (bytes : List ℕ) (k : Kept) : Type 0 where
  pub below : List Part
  pub others : List Part
  pub reads : Reads (fed start bytes) below k.since
  pub goes_on : Reads k.since others k.stream
  pub sound : AreSound zero_rows (below ++ others)
  pub rows : IfSome k.stream.log (λ _. SameRows (rows_of k.rows) (rows_behind (below ++ others)))
  pub safe_rows : IfSome k.since.log (λ _. SameRows (rows_of k.safe_rows) (rows_behind below))
  pub base_is : (checkpoint : Checkpoint) → base checkpoint ∈ (below ++ others) → k.base ≡ checkpoint.slot.stamp
  pub safe : IsSafeOf (below ++ others) k.safe
  -- just the parts below the safe stamp are in its rows; with no such stamp none are
  pub are_below : IfSome k.safe (λ safe. All (λ part. is_below safe part ≡ true) below)
  pub from : IfSome k.safe (λ safe. IsFrom safe k.since.log)
  pub none : k.safe ≡ None → below ≡ []

-- A replica keeps what these bytes tell: all items in front were read; what follows isn't all there yet, or is none, and then bytes behind are
-- passed over.
pub record Keeps (bytes : List ℕ) (r : Replicated) : Type 0 where
  pub taken : List ℕ
  pub passed : List ℕ
  pub bytes_are : bytes ≡ taken ++ passed
  pub holds : Holds taken r.kept
  pub good : r.is_bad ≡ false → (passed ≡ []) × IsShort r.kept.stream.log r.kept.stream.rest
  pub bad : r.is_bad ≡ true → IsBad (holds.below ++ holds.others) r.kept.stream

-- from one to the other, whatever bytes were read
abbrev pub GoesOn : Kept → Kept → Type 0
GoesOn k n = (bytes : List ℕ) → Holds bytes k → Holds bytes n

-- a piece was fed: whatever bytes were kept, these and the piece are now
abbrev pub TakesPiece : Replicated → List ℕ → Replicated → Type 0
TakesPiece r piece n = (bytes : List ℕ) → Keeps bytes r → Keeps (bytes ++ piece) n

-- why there is an end: what stands at a place is no item, or memory ran out and nothing of the piece was taken
abbrev pub StopsFor : Replicated → List ℕ → FeedStop → Replicated → Type 0
StopsFor r piece (stop.Bad place) n = (n.is_bad ≡ true) × (place ≡ n.kept.stream.place) × TakesPiece r piece n
StopsFor r piece stop.Memory n = n ≡ r

-- the fields of a replica fit one another, and it is one of some bytes
pub record Fits (bytes words : ℕ) (end : Reader) (snapshot : Snapshot) (k : Kept) : Type 0 where
  pub words_are : words ≡ ITEM_WORDS
  pub end_reads : CanRead end bytes
  pub since_reads : CanRead snapshot.reader bytes
  pub sound : HasLawful IsSound end
  pub some : (taken : List ℕ) × Holds taken k

-- a reader stands at the stream's begin, with room for rows
pub record IsFirst (reader : Reader) : Type 0 where
  pub index : reader.index ≡ 0
  pub place : reader.place ≡ 0
  pub log : reader.log ≡ None
  pub rows : vec_len reader.rows ≡ OID_LIMIT
