-- How the printing of a replica ends.
use Rattle.std.specs.Prelude.{◌≡◌, ◌≢◌, ℕ, ◌+◌, ◌<◌, ◌≤◌, ◌⊎◌, false, List, length, Option}
use Rattle.erm_outside.specs.Faults.{Rose}
use Rattle.erm_outside.specs.Sink.{Puts, PutsFront}
use Rattle.erm_report.specs.Texts.{line_text}
use Rattle.erm_report.specs.declared.line.Line.TheVariants as line
use Rattle.erm_follow_run.specs.declared.following.TheConstants.{CHUNK_BYTES, STREAM_BYTES}
use Rattle.erm_follow_run.specs.Ends.{Prints, PrintsStarved, TakesAtMost, TookAll, TookFront, Ways}
use Rattle.erm_follow_run.specs.Texts.{bad_text}
use Rattle.erm_replica_rows.specs.Keeping.{Keeps, Replicated}
use Rattle.erm_replica_rows.specs.Replica.{IsBadAt, Shown}
use Rattle.erm_replica_run.specs.Texts.{IsGood, IsGoodBut, TellsReplica, TellsShown}

-- the whole stream was read, and a text has what its replica answers
pub record TellsWhole (a : Ways) (text : List ℕ) : Type 0 where
  pub bytes : List ℕ
  pub all : TookAll bytes a.left_before a.left_after
  pub few : length bytes ≤ STREAM_BYTES
  pub tells : TellsReplica bytes text

-- of bytes in front, which may be items, a line alone was printed
pub record PrintsBehind (a : Ways) (bytes : List ℕ) (text : List ℕ) : Type 0 where
  pub front : TookFront bytes a.left_before a.left_after
  pub good : IsGood bytes
  pub printed : Prints text a

-- Memory ran out, and this alone was printed. Nothing that is no item was met before the piece that was taken last.
pub record PrintsNoMemory (a : Ways) : Type 0 where
  pub bytes : List ℕ
  pub front : TookFront bytes a.left_before a.left_after
  pub before : IsGoodBut CHUNK_BYTES bytes
  pub printed : Prints (line_text line.NoMemory) a

-- What stands at a place of the stream is no item, and this alone was printed. Nothing was taken behind the piece that shows it.
pub record PrintsBad (a : Ways) : Type 0 where
  pub bytes : List ℕ
  pub front : TookFront bytes a.left_before a.left_after
  pub before : IsGoodBut CHUNK_BYTES bytes
  pub place : ℕ
  pub bad : IsBadAt bytes place
  pub printed : Prints (bad_text place) a

-- what each status means
pub record ReplicaEnds (status : ℕ) (a : Ways) : Type 0 where
  pub known : (status ≡ 0) ⊎ (status ≡ 4) ⊎ (status ≡ 5) ⊎ (status ≡ 8) ⊎ (status ≡ 9) ⊎ (status ≡ 11)
  pub success : status ≡ 0 → (text : List ℕ) × TellsWhole a text × Puts text a.written_before a.written_after
  pub read_fault : status ≡ 4 → Rose a.source_before a.source_after × ((bytes : List ℕ) × PrintsBehind a bytes (line_text line.ReadFault))
  pub sink_fault : status ≡ 5 → Rose a.sink_before a.sink_after × ((text : List ℕ) × TellsWhole a text × PutsFront text a.written_before a.written_after)
  pub no_memory : status ≡ 8 → PrintsNoMemory a
  pub too_long : status ≡ 9 → (bytes : List ℕ) × (STREAM_BYTES < length bytes) × PrintsBehind a bytes (line_text line.TooLong)
  pub bad : status ≡ 11 → PrintsBad a
  -- No more bytes are taken than one more than a stream may have; and the source did not fail with another status.
  pub taken : TakesAtMost (STREAM_BYTES + 1) a.left_before a.left_after
  pub source_sound : status ≢ 4 → a.source_after ≡ a.source_before
  pub sink_sound : status ≡ 0 → a.sink_after ≡ a.sink_before

-- the end came before a whole piece more was taken behind these bytes in front
abbrev pub EndsNear : List ℕ → Ways → Type 0
EndsNear front a = (bytes : List ℕ) × TookFront bytes a.left_before a.left_after × (length bytes < length front + CHUNK_BYTES)

-- what a replica answers was put, whole or its front; or memory ran out for it
abbrev pub Finishes : Shown → ℕ → Option (List ℕ) → Option (List ℕ) → ℕ → ℕ → Type 0
Finishes shown status before after faults now =
    ((status ≡ 0) × ((text : List ℕ) × TellsShown shown text × Puts text before after) × (now ≡ faults))
    ⊎ ((status ≡ 5) × ((text : List ℕ) × TellsShown shown text × PutsFront text before after) × Rose faults now)
    ⊎ ((status ≡ 8) × PrintsStarved before after faults now)

-- what is kept from one piece to the next: bytes were taken, and a replica keeps what they tell
pub record Runs (left_before left_now : Option (List ℕ)) (taken : ℕ) (r : Replicated) : Type 0 where
  pub bytes : List ℕ
  pub front : TookFront bytes left_before left_now
  pub count : length bytes ≡ taken
  pub keeps : Keeps bytes r
  pub good : r.is_bad ≡ false
