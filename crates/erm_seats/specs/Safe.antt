-- What the begin of a snapshot that only reads, and its look at the other sessions, leave of a pass's view; and their steps.
use Rattle.std.specs.Prelude.{◌≡◌, ◌≢◌, ℕ, ◌<◌, ◌≤◌, Bool, true, false, ◌||◌, ◌==◌, nat_le}
use Rattle.erm_model.specs.Member.{◌∈◌}
use Rattle.erm_model.specs.RowTransaction.{Law}
use Rattle.erm_machine.specs.declared.attempt.Attempt.{Attempt}
use Rattle.erm_machine.specs.declared.event.Kind.TheVariants.{LoadBack, LoadBegin, StoreBegin}
use Rattle.erm_machine.specs.declared.part.Part.{Part}
use Rattle.erm_machine.specs.declared.place.Place.TheVariants.{Active}
use Rattle.erm_machine.specs.declared.task.Task.TheVariants as task
use Rattle.erm_machine.specs.Core.{Core, begun}
use Rattle.erm_machine.specs.Life.{after_passed, next_number}
use Rattle.erm_machine.specs.Seat.{with_task}
use Rattle.erm_machine.specs.Sound.{Sound}
use Rattle.erm_machine.specs.Words.{begin_of, is_session}
use Rattle.erm_rule.specs.declared.view.Book.{Book}
use Rattle.erm_rule.specs.declared.view.View.{View}
use Rattle.erm_rule.specs.Books.{WasSeen}
use Rattle.erm_rule.specs.Hands.{IsKnown}
use Rattle.erm_rule.specs.Steps.{Booked}
use Rattle.erm_rule.specs.Views.{part_of, with_part, IsView}
use Rattle.erm_rule.specs.Went.{IsLoadStep, Went}
use Rattle.erm_seats.specs.declared.answer.SafeStop.{SafeStop}
use Rattle.erm_seats.specs.declared.answer.SafeStop.TheVariants as stop
use Rattle.erm_seats.specs.Calls.{IsPastSeen}
use Rattle.erm_seats.specs.Took.{TookBegin}

-- the part of a seat that has begun a snapshot: its begin word is its begin stamp, and it is to look at the sessions, from the first on
abbrev pub pending_part : ℕ → ℕ → Part → Part
pending_part who begin x = record x {
  place = Active begin;
  task = task.Surveys 1;
  seen = begin;
  number = next_number who x.number;
  current = begun (next_number who x.number) begin;
}

-- BEGIN of a snapshot: its begin stamp is above each stamp of the seat's own earlier transactions, and at least each tail that a seat of
-- the pass had seen.
pub record DidBeginSafe (v : View) (who begin : ℕ) (w : View) : Type 0 where
  pub positive : 0 < begin
  pub view_is : w ≡ with_part who (pending_part who begin (part_of v who)) v
  pub above : (t : Attempt) → t ∈ (part_of v who).over → t.stamp < begin
  pub past : IsPastSeen v begin
  pub known : IsKnown w

-- The seat began a transaction, and then raised its begin word to its begin stamp.
pub record TookBeginSafe (law : Law) (who begin : ℕ) (b e : Book) : Type 0 where
  pub begun : Book
  pub begins : TookBegin law who begin b begun
  pub word : ℕ
  pub raises : Booked law begun who (StoreBegin begin) word e

-- a begin word that is 0, or not below the begin stamp: nothing is in progress at its seat that had begun before
abbrev pub sees_late : ℕ → ℕ → Bool
sees_late begin found = (found == 0) || nat_le begin found

-- in some sound state with the view's parts the begin word of a seat was this one
pub record FindsBegin (v : View) (seat found : ℕ) : Type 0 where
  pub core : Core
  pub sound : Sound core
  pub is_view : IsView v core
  pub begin_is : begin_of (core.seats seat).place ≡ found

-- and its back word this one
pub record FindsBack (v : View) (seat found : ℕ) : Type 0 where
  pub core : Core
  pub sound : Sound core
  pub is_view : IsView v core
  pub back_is : (core.seats seat).back ≡ found

-- one more session is passed
pub record DidPass (v : View) (who seat : ℕ) (w : View) : Type 0 where
  pub view_is : w ≡ with_part who (with_task (after_passed seat) (part_of v who)) v
  pub known : IsKnown w

-- SURVEY. All sessions are passed: the snapshot is safe.
pub record DidSurvey (v : View) (who : ℕ) (w : View) : Type 0 where
  pub view_is : w ≡ with_part who (with_task task.Safe (part_of v who)) v
  pub known : IsKnown w

-- Or the survey has come to this other session, whose begin word was found standing below the begin stamp: it goes on there.
pub record WaitsFor (v : View) (who seat seen : ℕ) (w : View) : Type 0 where
  pub session : is_session seat ≡ true
  pub another : seat ≢ who
  pub view_is : w ≡ with_part who (with_task (task.Surveys seat) (part_of v who)) v
  pub finds : FindsBegin w seat seen
  pub early : sees_late (part_of v who).current.begin seen ≡ false
  pub known : IsKnown w

-- Or to this one, whose back word was found at or above the begin stamp: it goes no further.
pub record IsUnsafeBy (v : View) (who seat stamp : ℕ) (w : View) : Type 0 where
  pub session : is_session seat ≡ true
  pub another : seat ≢ who
  pub view_is : w ≡ with_part who (with_task (task.Behind seat) (part_of v who)) v
  pub finds : FindsBack w seat stamp
  pub above : (part_of v who).current.begin ≤ stamp
  pub known : IsKnown w

abbrev pub DidNotSurvey : View → ℕ → SafeStop → View → Type 0
DidNotSurvey v who (stop.NotYet seat seen) w = WaitsFor v who seat seen w
DidNotSurvey v who (stop.Unsafe seat stamp) w = IsUnsafeBy v who seat stamp w

-- between two books a seat's begin word was this, or its back word
abbrev pub WasBegin : Book → (seat seen : ℕ) → Book → Type 0
WasBegin b seat seen e = WasSeen b (λ s. begin_of (s.seats seat).place ≡ seen) e

abbrev pub WasBack : Book → (seat stamp : ℕ) → Book → Type 0
WasBack b seat stamp e = WasSeen b (λ s. (s.seats seat).back ≡ stamp) e

-- between the book before the survey and the one after it, the word that is told was there
abbrev pub WasStopMet : Book → SafeStop → Book → Type 0
WasStopMet b (stop.NotYet seat seen) e = WasBegin b seat seen e
WasStopMet b (stop.Unsafe seat stamp) e = WasBack b seat stamp e

-- After some loads the survey was to look at this session, and the last step was the load of its begin word, which stood below the begin
-- stamp.
pub record TookWaitFor (law : Law) (who seat seen : ℕ) (b e : Book) : Type 0 where
  pub at : Book
  pub loads : Went law who IsLoadStep b at
  pub looks : (part_of at.view who).task ≡ task.Surveys seat
  pub another : seat ≢ who
  pub early : sees_late (part_of at.view who).current.begin seen ≡ false
  pub step : Booked law at who (LoadBegin seat) seen e

-- After some loads the last step was the load of its back word, which wasn't below the begin stamp.
pub record TookUnsafe (law : Law) (who seat stamp : ℕ) (b e : Book) : Type 0 where
  pub at : Book
  pub loads : Went law who IsLoadStep b at
  pub looks : (part_of at.view who).task ≡ task.Behind seat
  pub above : (part_of at.view who).current.begin ≤ stamp
  pub step : Booked law at who (LoadBack seat) stamp e

abbrev pub TookNoSurvey : Law → ℕ → SafeStop → Book → Book → Type 0
TookNoSurvey law who (stop.NotYet seat seen) b e = TookWaitFor law who seat seen b e
TookNoSurvey law who (stop.Unsafe seat stamp) b e = TookUnsafe law who seat stamp b e
