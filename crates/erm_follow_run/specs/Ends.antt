-- How following ends.
use Rattle.std.specs.Prelude.{◌≡◌, ◌≢◌, ℕ, ◌+◌, ◌<◌, ◌≤◌, ◌⊎◌, ◌++◌, List, [], length, Option, Some, IfSome}
use Rattle.erm_model.specs.declared.history.Commit.{Commit}
use Rattle.erm_outside.specs.Faults.{Rose}
use Rattle.erm_outside.specs.Sink.{Puts, PutsFront}
use Rattle.erm_report.specs.Texts.{line_text}
use Rattle.erm_report.specs.declared.line.Line.TheVariants as line
use Rattle.erm_follow.specs.declared.seen.Broken.{Broken}
use Rattle.erm_follow.specs.Follow.{Followed}
use Rattle.erm_replica.specs.Stream.{IsShort, IsUnreadable, Streamed}
use Rattle.erm_follow_run.specs.Draining.{HasFront, IsBroken, Leads}
use Rattle.erm_follow_run.specs.Following.{Following}
use Rattle.erm_follow_run.specs.declared.halt.Halt.{Halt}
use Rattle.erm_follow_run.specs.declared.halt.Halt.TheVariants as halt
use Rattle.erm_follow_run.specs.Texts.{bad_text, broken_text, end_text, lines_text}
use Rattle.erm_follow_run.specs.declared.following.TheConstants.{CHUNK_BYTES, STREAM_BYTES}

-- what a source and a sink tell before and after, and how often each has failed
pub record Ways : Type 0 where
  pub left_before : Option (List ℕ)
  pub left_after : Option (List ℕ)
  pub source_before : ℕ
  pub source_after : ℕ
  pub written_before : Option (List ℕ)
  pub written_after : Option (List ℕ)
  pub sink_before : ℕ
  pub sink_after : ℕ

-- these bytes were taken from the front of a source, as far as it tells
abbrev pub TookFront : List ℕ → Option (List ℕ) → Option (List ℕ) → Type 0
TookFront bytes before after = IfSome before (λ left. (rest : List ℕ) × (left ≡ bytes ++ rest) × (after ≡ Some rest))

-- so many at most were taken
abbrev pub TakesAtMost : ℕ → Option (List ℕ) → Option (List ℕ) → Type 0
TakesAtMost most before after = (bytes : List ℕ) × TookFront bytes before after × (length bytes ≤ most)

-- and they were all that was left
abbrev pub TookAll : List ℕ → Option (List ℕ) → Option (List ℕ) → Type 0
TookAll bytes before after = IfSome before (λ left. (left ≡ bytes) × (after ≡ Some []))

-- Of the bytes that were taken so far all items were read that there are, and the lines of the commits that are due are put together.
pub record TellsSoFar (bytes : List ℕ) (s : Streamed) (f : Followed) (text : List ℕ) : Type 0 where
  pub lines : List Commit
  pub following : Following bytes s f lines
  pub text_is : text ≡ lines_text lines

-- the same of some in front of them
pub record TellsFront (bytes : List ℕ) (text : List ℕ) : Type 0 where
  pub s : Streamed
  pub f : Followed
  pub lines : List Commit
  pub following : Following bytes s f lines
  pub front : HasFront lines [] text

-- A text was put, or its front, and then the sink failed.
abbrev pub PrintsTo : List ℕ → Option (List ℕ) → Option (List ℕ) → ℕ → ℕ → Type 0
PrintsTo text before after faults now = (Puts text before after × (now ≡ faults)) ⊎ (PutsFront text before after × Rose faults now)

abbrev pub Prints : List ℕ → Ways → Type 0
Prints text a = PrintsTo text a.written_before a.written_after a.sink_before a.sink_after

-- The whole stream was read, and a text has the lines of the commits that are due, how many wait, and how many bytes are left.
pub record TellsWhole (a : Ways) (text : List ℕ) : Type 0 where
  pub bytes : List ℕ
  pub all : TookAll bytes a.left_before a.left_after
  pub few : length bytes ≤ STREAM_BYTES
  pub s : Streamed
  pub f : Followed
  pub told : List ℕ
  pub so_far : TellsSoFar bytes s f told
  pub short : IsShort s.log s.rest
  pub text_is : text ≡ told ++ end_text (length f.waiting) (length s.rest)

-- All items in front of the last of these bytes were read, and there are at most so many behind them: what stands next is one that isn't
-- all there, so none before is no item, and none breaks a safe stamp.
pub record WasReadBut (most : ℕ) (bytes : List ℕ) : Type 0 where
  pub earlier : List ℕ
  pub last : List ℕ
  pub bytes_are : bytes ≡ earlier ++ last
  pub few : length last ≤ most
  pub s : Streamed
  pub f : Followed
  pub lines : List Commit
  pub following : Following earlier s f lines
  pub short : IsShort s.log s.rest

-- the sink failed on the way, or at the end: at the piece that was taken last
pub record TellsCut (a : Ways) (text : List ℕ) : Type 0 where
  pub bytes : List ℕ
  pub front : TookFront bytes a.left_before a.left_after
  pub before : WasReadBut CHUNK_BYTES bytes
  pub told : TellsFront bytes text

-- Memory ran out, which is told behind lines of commits that are due. Nothing was taken behind the piece for which it ran out.
pub record TellsStarved (a : Ways) : Type 0 where
  pub bytes : List ℕ
  pub front : TookFront bytes a.left_before a.left_after
  pub before : WasReadBut CHUNK_BYTES bytes
  pub text : List ℕ
  pub told : TellsFront bytes text
  pub printed : Prints (text ++ line_text line.NoMemory) a

-- the source failed, or has too many bytes, which is told behind the lines of all commits that are due
pub record TellsLine (a : Ways) (bytes : List ℕ) (l : List ℕ) : Type 0 where
  pub front : TookFront bytes a.left_before a.left_after
  pub s : Streamed
  pub f : Followed
  pub text : List ℕ
  pub told : TellsSoFar bytes s f text
  pub short : IsShort s.log s.rest
  pub printed : Prints (text ++ l) a

-- What stands at a place of the stream is no item, and nothing was taken behind the piece that shows it.
pub record TellsBad (a : Ways) : Type 0 where
  pub bytes : List ℕ
  pub front : TookFront bytes a.left_before a.left_after
  pub before : WasReadBut CHUNK_BYTES bytes
  pub s : Streamed
  pub f : Followed
  pub text : List ℕ
  pub told : TellsSoFar bytes s f text
  pub bad : IsUnreadable s.log s.rest
  pub printed : Prints (text ++ bad_text s.place) a

-- The next commit or safe stamp shows that a safe stamp is broken, and nothing was taken behind the piece that shows it.
pub record TellsBroken (a : Ways) : Type 0 where
  pub bytes : List ℕ
  pub front : TookFront bytes a.left_before a.left_after
  pub before : WasReadBut CHUNK_BYTES bytes
  pub s : Streamed
  pub f : Followed
  pub text : List ℕ
  pub told : TellsSoFar bytes s f text
  pub by : Broken
  pub broken : IsBroken s f by
  pub printed : Prints (text ++ broken_text by.safe by.stamp) a

-- what each status of following means
pub record FollowEnds (status : ℕ) (a : Ways) : Type 0 where
  pub known : (status ≡ 0) ⊎ (status ≡ 4) ⊎ (status ≡ 5) ⊎ (status ≡ 8) ⊎ (status ≡ 9) ⊎ (status ≡ 11) ⊎ (status ≡ 12)
  pub success : status ≡ 0 → (text : List ℕ) × TellsWhole a text × Puts text a.written_before a.written_after
  pub read_fault : status ≡ 4 → Rose a.source_before a.source_after × ((bytes : List ℕ) × TellsLine a bytes (line_text line.ReadFault))
  pub sink_fault : status ≡ 5 → Rose a.sink_before a.sink_after
      × ((text : List ℕ) × (TellsWhole a text ⊎ TellsCut a text) × PutsFront text a.written_before a.written_after)
  pub no_memory : status ≡ 8 → TellsStarved a
  pub too_long : status ≡ 9 → (bytes : List ℕ) × (STREAM_BYTES < length bytes) × TellsLine a bytes (line_text line.TooLong)
  pub bad : status ≡ 11 → TellsBad a
  pub broken : status ≡ 12 → TellsBroken a
  -- No more bytes are taken than one more than a stream may have; and the source did not fail with another status.
  pub taken : TakesAtMost (STREAM_BYTES + 1) a.left_before a.left_after
  pub source_sound : status ≢ 4 → a.source_after ≡ a.source_before
  pub sink_sound : status ≡ 0 → a.sink_after ≡ a.sink_before

-- memory ran out before a byte was taken
pub record StarvesAtOnce (a : Ways) : Type 0 where
  pub left : a.left_after ≡ a.left_before
  pub sound : a.source_after ≡ a.source_before
  pub printed : Prints (line_text line.NoMemory) a

-- ---- a piece that is heard

-- the line for want of memory was printed
abbrev pub PrintsStarved : Option (List ℕ) → Option (List ℕ) → ℕ → ℕ → Type 0
PrintsStarved before after faults now = PrintsTo (line_text line.NoMemory) before after faults now

-- a text was printed, with this status; or memory ran out for it
abbrev pub EndsWith : ℕ → List ℕ → ℕ → Option (List ℕ) → Option (List ℕ) → ℕ → ℕ → Type 0
EndsWith own text status before after faults now =
    ((status ≡ own) × PrintsTo text before after faults now) ⊎ ((status ≡ 8) × PrintsStarved before after faults now)

-- why no more is told was printed, with its status; or memory ran out for it
abbrev pub EndsHalt : Halt → ℕ → Option (List ℕ) → Option (List ℕ) → ℕ → ℕ → Type 0
EndsHalt (halt.NotYet bytes) status before after faults now = ⊥
EndsHalt (halt.Bad place) status before after faults now = EndsWith 11 (bad_text place) status before after faults now
EndsHalt (halt.Broken b) status before after faults now = EndsWith 12 (broken_text b.safe b.stamp) status before after faults now
EndsHalt halt.Memory status before after faults now = (status ≡ 8) × PrintsStarved before after faults now

-- the end was put, whole or its front; or memory ran out for it
abbrev pub Finishes : List ℕ → ℕ → Option (List ℕ) → Option (List ℕ) → ℕ → ℕ → Type 0
Finishes text status before after faults now = ((status ≡ 0) × Puts text before after × (now ≡ faults))
    ⊎ ((status ≡ 5) × PutsFront text before after × Rose faults now)
    ⊎ ((status ≡ 8) × PrintsStarved before after faults now)

-- a piece was fed; all items were read that there are then, and the lines of the commits that are due were put
pub record HearsPiece (s : Streamed) (f : Followed) (rest : ℕ) (t : Streamed) (g : Followed) (before after : Option (List ℕ)) (faults now : ℕ) : Type 0 where
  pub new : List Commit
  pub leads : Leads s f new t g
  pub short : IsShort t.log t.rest
  pub rest_is : rest ≡ length t.rest
  pub put : Puts (lines_text new) before after
  pub sound : now ≡ faults

-- Or there was an end before: the sink failed, or memory ran out, or what stands there is no item, or it breaks a safe stamp.
pub record EndsPiece (s : Streamed) (f : Followed) (status : ℕ) (before after : Option (List ℕ)) (faults now : ℕ) : Type 0 where
  pub new : List Commit
  pub t : Streamed
  pub g : Followed
  pub leads : Leads s f new t g
  pub text : List ℕ
  pub front : HasFront new [] text
  pub how : ((status ≡ 5) × PutsFront text before after × Rose faults now)
      ⊎ ((status ≡ 8) × PrintsTo (text ++ line_text line.NoMemory) before after faults now)
      ⊎ ((status ≡ 11) × (text ≡ lines_text new) × IsUnreadable t.log t.rest × PrintsTo (text ++ bad_text t.place) before after faults now)
      ⊎ ((status ≡ 12) × (text ≡ lines_text new) × ((b : Broken) × IsBroken t g b × PrintsTo (text ++ broken_text b.safe b.stamp) before after faults now))

-- what following keeps true from one piece to the next
pub record Runs (left_before left_now written_before written_now : Option (List ℕ)) (taken rest : ℕ) (s : Streamed) (f : Followed) : Type 0 where
  pub bytes : List ℕ
  pub front : TookFront bytes left_before left_now
  pub count : length bytes ≡ taken
  pub lines : List Commit
  pub following : Following bytes s f lines
  pub short : IsShort s.log s.rest
  pub rest_is : rest ≡ length s.rest
  pub put : Puts (lines_text lines) written_before written_now
