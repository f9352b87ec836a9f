-- What a report owes of its snapshots that only read: where they begin, that they are safe there, what they are replied, and why one waits or
-- isn't safe.
use Rattle.std.specs.Prelude.{◌≡◌, ◌≢◌, ℕ, ◌+◌, ◌<◌, ◌≤◌, ◌⊎◌, true, List, take, Some, None, IfSome}
use Rattle.std.specs.List.{slice_get}
use Rattle.erm_model.specs.declared.limits.TheConstants.{LEAST_BLOCK, STOP}
use Rattle.erm_model.specs.Committed.{Committed, HasSnapshotReplies}
use Rattle.erm_model.specs.Member.{◌∈◌}
use Rattle.erm_report.specs.declared.answer.Answer.{Answer}
use Rattle.erm_report.specs.declared.answer.Answer.TheVariants as answer
use Rattle.erm_script.specs.declared.script.Command.TheVariants as command
use Rattle.erm_script.specs.declared.script.ScriptLine.{ScriptLine}
use Rattle.erm_good_report.specs.Opening.{InTurn, Opening, is_before}
use Rattle.erm_good_report.specs.Refusals.{Moment, WasOver, current_of, most_end}
use Rattle.erm_good_report.specs.Stamps.{DrawsUntold, LiesBelow, begin_told, stamp_drawn, stamp_printed}
use Rattle.erm_good_report.specs.Transactions.{Commits, HasSnapshot, Said, Snapshot, Transaction, history_of, looks_of, next_number, own_snapshot, progress_of, said_of}

-- the answers to a `safe` that has its snapshot
abbrev pub IsOfSnapshot : Answer → Type 0
IsOfSnapshot (answer.Safe begin) = Unit {0}
IsOfSnapshot (answer.WaitSeat seat seen) = Unit {0}
IsOfSnapshot (answer.Unsafe seat stamp) = Unit {0}
IsOfSnapshot a = ⊥

-- The line at this place begins a session's snapshot, which takes this number: it asks for one, there is none, and it isn't refused.
pub record BeginsSnapshot (said : List Said) (i session number : ℕ) : Type 0 where
  pub line : Said
  pub at : slice_get said i ≡ Some line
  pub of : line.session ≡ session
  pub asks : line.asked ≡ Some command.Safe
  pub answered : IsOfSnapshot line.answer
  pub none : (progress_of session (take i said)).snapshot ≡ None
  pub next : number ≡ next_number (progress_of session (take i said))

-- what a line before that one tells lies at or below the snapshot's begin stamp, and below it the commit stamps that it prints
pub record IsToldBefore (s : Said) (begin : ℕ) : Type 0 where
  pub printed : IfSome (stamp_printed s.answer) (λ stamp. stamp < begin)
  pub lies : LiesBelow s begin

-- what a line behind it tells lies at the begin stamp or above it: its begin, and a stamp that it draws
pub record IsToldBehind (s : Said) (begin : ℕ) : Type 0 where
  pub begin_is : IfSome (begin_told s.answer) (λ later. begin ≤ later)
  pub drawn : IfSome (stamp_drawn s.asked s.answer) (λ stamp. begin ≤ stamp)

-- A snapshot that a line begins at this moment and place, at this begin stamp: it is within the log, in turn not where the log stops, and no
-- further on than the lines so far can have moved the log. It lies above what the lines before tell, at or below what those behind do, and at or
-- below where a later snapshot begins. So it does beside a stamp that a commit which waits draws and doesn't tell.
pub record BeginsRightly (m : Moment) (said : List Said) (begins : ℕ → ℕ → ℕ) (i begin : ℕ) : Type 0 where
  pub least : m.opening.stamp + LEAST_BLOCK ≤ begin
  pub stops : m.mode ≡ InTurn → begin < STOP
  pub reach : begin ≤ most_end m
  pub before : (j : ℕ) (s : Said) → j < i → slice_get said j ≡ Some s → is_before m.mode s.session m.session ≡ true → IsToldBefore s begin
  pub behind : (j : ℕ) (s : Said) → i < j → slice_get said j ≡ Some s → is_before m.mode m.session s.session ≡ true → IsToldBehind s begin
  pub ascends : (j session number : ℕ) → i < j → BeginsSnapshot said j session number → is_before m.mode m.session session ≡ true → begin ≤ begins session number
  pub untold_before : (j stamp : ℕ) (drawn : DrawsUntold m.all said j stamp) → j < i → is_before m.mode drawn.line.session m.session ≡ true → stamp + LEAST_BLOCK ≤ begin
  pub untold_behind : (j stamp : ℕ) (drawn : DrawsUntold m.all said j stamp) → i < j → is_before m.mode m.session drawn.line.session ≡ true → begin ≤ stamp

-- the begin stamp of the session's snapshot, or of the one that it begins with this line
abbrev pub own_begin : (begins : ℕ → ℕ → ℕ) → Moment → ℕ
own_begin begins m = begins m.session (own_snapshot (progress_of m.session m.before)).number

-- that session has a transaction, or a snapshot, that begins at this stamp or above it
abbrev pub BeginsFrom : (begins : ℕ → ℕ → ℕ) → Moment → (session seen : ℕ) → Type 0
BeginsFrom begins m session seen =
    ((t : Transaction) × (current_of m session ≡ Some t) × (seen ≤ t.begin))
    ⊎ ((s : Snapshot) × ((progress_of session m.before).snapshot ≡ Some s) × (seen ≤ begins session s.number))

-- A snapshot waits for another session, whose transaction or snapshot isn't over: its begin word was seen below the own begin stamp.
pub record WaitsToBeSafe (begins : ℕ → ℕ → ℕ) (m : Moment) (seat seen : ℕ) : Type 0 where
  pub in_turn : m.mode ≡ InTurn
  pub another : seat ≢ m.session
  pub from : BeginsFrom begins m seat seen
  pub below : seen < own_begin begins m

-- A snapshot at this begin stamp isn't known to be safe: another session's commit, at or above it, has its turn before its own stamp; in turn it
-- was over before.
pub record IsUnsafeBy (m : Moment) (begin seat stamp : ℕ) : Type 0 where
  pub by : Transaction
  pub of : by ∈ m.all
  pub another : seat ≢ m.session
  pub session : by.session ≡ seat
  pub succ : ℕ
  pub pred : ℕ
  pub commits : by.ending ≡ Commits stamp succ pred
  pub early : WasOver m by
  pub back : succ < stamp
  pub above : begin ≤ stamp

-- A snapshot at this begin stamp is safe: in turn no transaction that isn't over begins below it.
pub record IsSafeThere (m : Moment) (begin : ℕ) : Type 0 where
  pub rest : m.mode ≡ InTurn → (session : ℕ) (t : Transaction) → current_of m session ≡ Some t → begin ≤ t.begin

-- the cause of an answer to a `safe`, where the snapshots have these begin stamps
abbrev pub HasSafeCause : (begins : ℕ → ℕ → ℕ) → Moment → Answer → Type 0
HasSafeCause begins m (answer.Safe begin) = (begin ≡ own_begin begins m) × IsSafeThere m begin
HasSafeCause begins m (answer.WaitSeat seat seen) = WaitsToBeSafe begins m seat seen
HasSafeCause begins m (answer.Unsafe seat stamp) = IsUnsafeBy m (own_begin begins m) seat stamp
HasSafeCause begins m a = Unit {0}

-- a stamp is safe among commits: those that have theirs there or above it have their turn there or behind it
abbrev pub IsSafeAmong : List Committed → ℕ → Type 0
IsSafeAmong commits begin = (c : Committed) → c ∈ commits → begin ≤ c.stamp → begin ≤ c.succ

-- Snapshots agree. There are begin stamps of them all, by session and number, of which the report tells those of the safe ones: each lies where
-- its snapshot begins, and each `safe` has the cause of its answer with them. A begin stamp told is safe, and its snapshot is replied as on the
-- state below it.
pub record SnapshotsAgree (moment : ℕ → ScriptLine → Moment) (opening : Opening) (script : List ScriptLine) (answers : List Answer) (told : List Transaction) : Type 0 where
  pub begins : ℕ → ℕ → ℕ
  pub begun : (i number : ℕ) (l : ScriptLine) → slice_get script i ≡ Some l → BeginsSnapshot (said_of script answers) i l.session number
      → BeginsRightly (moment i l) (said_of script answers) begins i (begins l.session number)
  pub causes : (i : ℕ) (l : ScriptLine) (a : Answer) → slice_get script i ≡ Some l → slice_get answers i ≡ Some a → l.command ≡ command.Safe → HasSafeCause begins (moment i l) a
  pub safe : (session begin : ℕ) (s : Snapshot) → HasSnapshot (said_of script answers) session s → s.begin ≡ Some begin → IsSafeAmong (history_of told) begin
  pub replies : (session begin : ℕ) (s : Snapshot) → HasSnapshot (said_of script answers) session s → s.begin ≡ Some begin
      → HasSnapshotReplies (history_of told) opening.map begin (looks_of s)
