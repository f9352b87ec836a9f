-- What is pending while a log is opened or flushed, and while a checkpoint is saved.
use Rattle.std.proofs.Common.{◌≡◌, ◌≢◌, ℕ, ◌+◌, ◌/◌, ◌<◌, ◌≤◌, ◌⊎◌, ◌++◌, List, [], ◌∷◌, length, true, false, Bool, refl, sym, ap, subst, arith, inl, inr}
use Rattle.std.specs.Prelude.{if◌then◌else◌}
use Rattle.std.proofs.lemmas.Bool.Decides.{nat_tests}
use Rattle.erm_model.specs.declared.limits.TheConstants.{RING_WORDS, SEGMENT_WORDS}
use Rattle.erm_log_disk.specs.Writes.{AllWriteWords, IsPiece, WritesWords}
use Rattle.erm_outside.specs.declared.disk.File.{File}
use Rattle.erm_outside.specs.declared.disk.File.TheVariants.{Segment}
use Rattle.erm_outside.specs.Disk.{Change, Image, IsFileSettled, IsSettled, Step, changes_of, same_file}
use Rattle.erm_outside.specs.Disk.Change.{Removed, Synced, Tried, Wrote}
use Rattle.erm_ckpt.specs.Recovered.{Pair}
use Rattle.erm_checkpoint.specs.Phases.{other_file}
use Rattle.erm_checkpoint.specs.Steps.{RemovesAll, RemovesPart, WritesPart, did, removals, slot_written}
use Rattle.erm_checkpoint.proofs.Phases.{other_is_slot}
use Rattle.erm_recover.specs.Waiting.{IsSettledBeyond, IsSettledOrRemoved}
use Rattle.erm_recover.proofs.Waits.{file_stays, one_wait}
use Rattle.erm_crash.specs.Moments.{AtMoments}
use Rattle.erm_crash.specs.Stops.{MayStop}
use Rattle.erm_crash.proofs.Moments.{at_both, at_once, joined}

-- ---- what an opening waits for

-- where recovery begins no later and comes as far, an opening waits for as much
pub beyond_wider : (base lower place later : ℕ) (now : List Step) → lower ≤ base → place ≤ later → IsSettledBeyond base place now → IsSettledBeyond lower later now
beyond_wider base lower place later now low high beyond n out = beyond n (by out)
  where
    by : (n < lower / SEGMENT_WORDS) ⊎ (later / SEGMENT_WORDS + 1 < n) → (n < base / SEGMENT_WORDS) ⊎ (place / SEGMENT_WORDS + 1 < n)
    by (inl below) = inl (omega (arith, low, below))
    by (inr above) = inr (omega (arith, high, above))

pub stop_wider : (base place later : ℕ) (now : List Step) → place ≤ later → MayStop base place now → MayStop base later now
stop_wider base place later now high stops = beyond_wider base base place later now (omega arith) high stops

-- ---- words of the log

-- a segment is neither that of a place nor the next one
abbrev IsOff : ℕ → ℕ → Type 0
IsOff at n = (n < at / SEGMENT_WORDS) ⊎ (at / SEGMENT_WORDS + 1 < n)

apart : (at from n : ℕ) → from ≤ RING_WORDS → IsOff at n → (at + from) / SEGMENT_WORDS ≢ n
apart at from n few (inl below) = λ same. absurd (omega (arith, few, below, same))
apart at from n few (inr above) = λ same. absurd (omega (arith, few, above, same))

other_segment : (a b : ℕ) → a ≢ b → same_file (Segment a) (Segment b) ≡ false
other_segment a b ne = grind (arith, nat_tests)

piece_off : (at : ℕ) (words : List ℕ) (n : ℕ) (file : File) (byte : ℕ) (bytes : List ℕ) (change : Change) (before : List Step) → length words ≤ RING_WORDS → IsOff at n → IsPiece at words file byte bytes
    → IsFileSettled (changes_of (Segment n) before) → IsFileSettled (changes_of (Segment n) (did file change before))
piece_off at words n file byte bytes change before few off p settled =
    let within = p.within in
    let ne = apart at p.from n (omega (arith, few, within)) off in
    let is : file ≡ Segment ((at + p.from) / SEGMENT_WORDS) = ap (λ (x : File × ℕ). x.0) p.place in
    rw (is, other_segment ((at + p.from) / SEGMENT_WORDS) n ne) settled

step_off : (at : ℕ) (words : List ℕ) (n : ℕ) (file : File) (change : Change) (before : List Step) → length words ≤ RING_WORDS → IsOff at n → WritesWords at words file change
    → IsFileSettled (changes_of (Segment n) before) → IsFileSettled (changes_of (Segment n) (did file change before))
step_off at words n file (Wrote byte bytes) before few off piece settled = piece_off at words n file byte bytes (Wrote byte bytes) before few off piece settled
step_off at words n file (Tried byte bytes left) before few off piece settled = piece_off at words n file byte bytes (Tried byte bytes left) before few off piece.0 settled
step_off at words n file Synced before few off writes settled = file_stays before (did file Synced before) (one_wait file before) (Segment n) settled
step_off at words n file Removed before few off writes settled = absurd writes

words_off : (at : ℕ) (words : List ℕ) (n : ℕ) (old more : List Step) → length words ≤ RING_WORDS → IsOff at n → AllWriteWords at words more → IsFileSettled (changes_of (Segment n) old)
    → IsFileSettled (changes_of (Segment n) (more ++ old))
words_off at words n old [] few off writes settled = settled
words_off at words n old (step ∷ more) few off (here, others) settled = step_off at words n step.file step.change (more ++ old) few off here (words_off at words n old more few off others settled)

-- where nothing was pending, and a few words were written from a place on, what is pending is of its segment and the next one
pub words_stop : (at : ℕ) (words : List ℕ) (old more : List Step) → length words ≤ RING_WORDS → AllWriteWords at words more → IsSettled old → IsSettledBeyond at at (more ++ old)
words_stop at words old more few writes settled = λ n off. inl (words_off at words n old more few off writes (settled (Segment n)))

-- ---- checkpoints

-- nothing of the log is pending
abbrev pub IsStill : List Step → Type 0
IsStill now = (n : ℕ) → IsFileSettled (changes_of (Segment n) now)

-- or only removals are
abbrev pub IsCalm : List Step → Type 0
IsCalm now = (n : ℕ) → IsSettledOrRemoved (changes_of (Segment n) now)

pub calm_stops : (base place : ℕ) (now : List Step) → IsCalm now → MayStop base place now
calm_stops base place now calm = λ n off. calm n

pub still_stops : (base place : ℕ) (now : List Step) → IsStill now → MayStop base place now
still_stops base place now still = λ n off. inl (still n)

pub settled_stops : (base place : ℕ) (now : List Step) → IsSettled now → MayStop base place now
settled_stops base place now settled = λ n off. inl (settled (Segment n))

abbrev pub Still : List Step → Image → Type 0
Still now image = IsStill now

abbrev pub Calm : List Step → Image → Type 0
Calm now image = IsCalm now

-- a slot is no segment
slot_still : (pair : Pair) (change : Change) (steps : List Step) → IsStill steps → IsStill (did (other_file pair) change steps)
slot_still pair change steps still n =
    subst (λ (same : Bool). IsFileSettled (if same then (change ∷ changes_of (Segment n) steps) else changes_of (Segment n) steps)) (sym (other_is_slot pair.slot0 pair.slot1 n)) (still n)

pub part_still : (pair : Pair) (bytes : List ℕ) (mid new : List Step) → IsStill mid → WritesPart (other_file pair) bytes mid new → AtMoments Still mid new
part_still pair bytes mid new still (inl none) = subst (AtMoments Still mid) (sym none) (at_once Still mid (λ image is. still))
part_still pair bytes mid new still (inr (inl (left, short, tried))) =
    subst (AtMoments Still mid) (sym tried)
    (at_both Still (record { file = other_file pair; change = Tried 0 bytes left }) mid (λ image is. still) (λ image is. slot_still pair (Tried 0 bytes left) mid still))
part_still pair bytes mid new still (inr (inr wrote)) =
    subst (AtMoments Still mid) (sym wrote)
    (at_both Still (record { file = other_file pair; change = Wrote 0 bytes }) mid (λ image is. still) (λ image is. slot_still pair (Wrote 0 bytes) mid still))

pub written_still : (pair : Pair) (bytes : List ℕ) (mid : List Step) → IsStill mid → IsStill (slot_written (other_file pair) bytes mid)
written_still pair bytes mid still = slot_still pair Synced (did (other_file pair) (Wrote 0 bytes) mid) (slot_still pair (Wrote 0 bytes) mid still)

pub moments_still : (pair : Pair) (bytes : List ℕ) (mid : List Step) → IsStill mid → AtMoments Still mid (slot_written (other_file pair) bytes mid)
moments_still pair bytes mid still =
    let wrote : List Step = did (other_file pair) (Wrote 0 bytes) mid in
    joined Still mid wrote (slot_written (other_file pair) bytes mid) (part_still pair bytes mid wrote still (inr (inr refl)))
    (at_both Still (record { file = other_file pair; change = Synced }) wrote (λ image is. slot_still pair (Wrote 0 bytes) mid still) (λ image is. written_still pair bytes mid still))

-- a removal that was waited for
removal_settled : (segment n : ℕ) (steps : List Step) → IsFileSettled (changes_of (Segment n) steps) → IsFileSettled (changes_of (Segment n) (did (Segment segment) Synced (did (Segment segment) Removed steps)))
removal_settled segment n steps settled = cases (same_file (Segment segment) (Segment n)) (changes_of (Segment n) steps) settled
  where
    cases : (same : Bool) (changes : List Change) → IsFileSettled changes
        → IsFileSettled (if same then (Synced ∷ (if same then (Removed ∷ changes) else changes)) else (if same then (Removed ∷ changes) else changes))
    cases true changes settled = λ left is. is
    cases false changes settled = settled

removed_still : (segment : ℕ) (steps : List Step) → IsStill steps → IsStill (did (Segment segment) Synced (did (Segment segment) Removed steps))
removed_still segment steps still n = removal_settled segment n steps (still n)

still_calm : (now : List Step) → IsStill now → IsCalm now
still_calm now still n = inl (still n)

-- behind a removal
removal_calm : (segment : ℕ) (steps : List Step) → IsStill steps → IsCalm (did (Segment segment) Removed steps)
removal_calm segment steps still n = cases (same_file (Segment segment) (Segment n)) (changes_of (Segment n) steps) (still n)
  where
    cases : (same : Bool) (changes : List Change) → IsFileSettled changes → IsSettledOrRemoved (if same then (Removed ∷ changes) else changes)
    cases true changes settled = inr tt
    cases false changes settled = inl settled

begun_calm : (segment : ℕ) (steps : List Step) → IsStill steps → AtMoments Calm steps (did (Segment segment) Removed steps)
begun_calm segment steps still =
    at_both Calm (record { file = Segment segment; change = Removed }) steps (λ image is. still_calm steps still) (λ image is. removal_calm segment steps still)

removals_still : (segments : List ℕ) (steps : List Step) → IsStill steps → IsStill (removals segments steps)
removals_still [] steps still = still
removals_still (s ∷ ss) steps still = removed_still s (removals ss steps) (removals_still ss steps still)

removals_calm : (segments : List ℕ) (steps : List Step) → IsStill steps → AtMoments Calm steps (removals segments steps)
removals_calm [] steps still = at_once Calm steps (λ image is. still_calm steps still)
removals_calm (s ∷ ss) steps still =
    let rest : List Step = removals ss steps in
    let here : IsStill rest = removals_still ss steps still in
    let begun : List Step = did (Segment s) Removed rest in
    joined Calm steps rest (removals (s ∷ ss) steps) (removals_calm ss steps still)
    (joined Calm rest begun (removals (s ∷ ss) steps) (begun_calm s rest here)
    (at_both Calm (record { file = Segment s; change = Synced }) begun (λ image is. removal_calm s rest here) (λ image is. still_calm (removals (s ∷ ss) steps) (removed_still s rest here))))

all_removed : (first from : ℕ) (old new : List Step) → IsStill old → RemovesAll first from old new → AtMoments Calm old new × IsStill new
all_removed first from old new still all = (
  subst (AtMoments Calm old) (sym all.steps) (removals_calm all.segments old still),
  subst IsStill (sym all.steps) (removals_still all.segments old still),
)

some_removed : (first end : ℕ) (old new : List Step) → IsStill old → RemovesPart first end old new → AtMoments Calm old new
some_removed first end old new still p =
    let whole = all_removed first p.from old p.mid still p.all in
    joined Calm old p.mid new whole.0 (elim p.part [
      | inl none ↦ subst (AtMoments Calm p.mid) (sym none) (at_once Calm p.mid (λ image is. still_calm p.mid whole.1))
      | inr (segment, next, begun) ↦ subst (AtMoments Calm p.mid) (sym begun) (begun_calm segment p.mid whole.1)
    ])

-- where segments are removed
pub removed_calm : (first end : ℕ) (old new : List Step) → IsStill old → RemovesPart first end old new ⊎ RemovesAll first end old new → AtMoments Calm old new
removed_calm first end old new still (inl part) = some_removed first end old new still part
removed_calm first end old new still (inr all) = (all_removed first end old new still all).0
