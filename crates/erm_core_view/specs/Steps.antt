-- What a step of a seat shows in the view.
use Rattle.std.specs.Prelude.{◌≡◌, ◌≢◌, ℕ, ◌+◌, ◌<◌, true, false, List, [], ◌∷◌, ◌++◌, length, map, slice_set}
use Rattle.erm_model.specs.declared.history.VersionWritten.{VersionWritten}
use Rattle.erm_machine.specs.declared.attempt.Attempt.{Attempt}
use Rattle.erm_machine.specs.declared.attempt.Claim.{Claim}
use Rattle.erm_machine.specs.declared.attempt.Read.{Read}
use Rattle.erm_machine.specs.declared.event.Counter.TheVariants.{Objects}
use Rattle.erm_machine.specs.declared.event.Event.{Event}
use Rattle.erm_machine.specs.declared.event.Kind.{Kind}
use Rattle.erm_machine.specs.declared.event.Kind.TheVariants as kind
use Rattle.erm_machine.specs.declared.event.TailUse.TheVariants as purpose
use Rattle.erm_machine.specs.declared.limits.TheConstants.{FLUSH_SEAT}
use Rattle.erm_machine.specs.declared.part.Part.{Part}
use Rattle.erm_machine.specs.declared.place.Place.{Place}
use Rattle.erm_machine.specs.declared.task.Task.{Task}
use Rattle.erm_machine.specs.declared.task.Task.TheVariants as task
use Rattle.erm_machine.specs.declared.version.CellWord.TheVariants as word
use Rattle.erm_machine.specs.Core.{Core, claim_at}
use Rattle.erm_machine.specs.Seat.{is_active, is_own, is_safe, is_snapshot, may_start}
use Rattle.erm_world.specs.World.{Session, View}
use Rattle.erm_world.specs.World as world
use Rattle.erm_core_view.specs.Views.{finished_of}

-- how far a step of this kind moves the end of the log on
abbrev pub drawn_by : Kind → ℕ
drawn_by (kind.AddTail size) = size
drawn_by k = 0

-- the place flushed after a step of this kind
abbrev pub flushed_by : Kind → ℕ → ℕ
flushed_by (kind.StoreFlushed value) flushed = value
flushed_by k flushed = flushed

-- no session but the seat's changes; the opening stays, and the log as the step's kind says; the flush seat alone pins
pub record ChangesOne (seat : ℕ) (k : Kind) (v t : View) : Type 0 where
  pub others : (q : ℕ) → q ≢ seat → t.session q ≡ v.session q
  pub opening : t.opening ≡ v.opening
  pub tail : t.tail ≡ v.tail + drawn_by k
  pub flushed : t.flushed ≡ flushed_by k v.flushed
  pub pinned : seat ≢ FLUSH_SEAT → t.pinned ≡ v.pinned

-- kinds that meet one word, or a device: all but splits and joins
abbrev pub MeetsOne : Kind → Type 0
MeetsOne (kind.Split other) = ⊥
MeetsOne (kind.Join other) = ⊥
MeetsOne k = Unit {0}

-- Kinds of steps whose seat's session shows nothing of them, wherever it stands; of two kinds it shows nothing where its task is none of a
-- snapshot.
abbrev pub IsCalm : Kind → Task → Type 0
IsCalm (kind.LoadTail purpose.Begin) u = ⊥
IsCalm (kind.AddTail size) u = ⊥
IsCalm (kind.StoreBegin value) u = ⊥
IsCalm (kind.StoreState value) u = ⊥
IsCalm (kind.LoadBegin other) u = is_snapshot u ≡ false
IsCalm (kind.LoadBack other) u = ⊥
IsCalm (kind.ClearReader version) u = is_snapshot u ≡ false
IsCalm (kind.Decide at header) u = ⊥
IsCalm (kind.SetReader version) u = ⊥
IsCalm (kind.Claim oid entry number) u = ⊥
IsCalm (kind.Install oid head) u = ⊥
IsCalm (kind.StoreCell claim cell word value) u = ⊥
IsCalm (kind.AddCounter Objects) u = ⊥
IsCalm (kind.Split other) u = ⊥
IsCalm (kind.Join other) u = ⊥
IsCalm (kind.Unset claim) u = ⊥
IsCalm k u = Unit {0}

-- a claim is released, and not dropped for want of a cell; a snapshot has none
abbrev pub IsEnding : Task → Type 0
IsEnding task.Refused = ⊥
IsEnding t = is_snapshot t ≡ false

-- the seat stands there, between two calls
pub record RestsAt (seat : ℕ) (there : Place) (c : Core) : Type 0 where
  pub place : (c.seats seat).place ≡ there
  pub rests : (c.seats seat).task ≡ task.Rest

-- a row of which a write has set one word
abbrev pub with_word : ℕ → ℕ → VersionWritten → VersionWritten
with_word k value w = record w { row = slice_set w.row k value; is_set = true }

-- no row of a version overwritten is copied
abbrev pub IsWriting : Task → Type 0
IsWriting (task.Copies word) = ⊥
IsWriting t = Unit {0}

-- a write of the claim at this place, whose own cell is this one, may start
pub record MayWrite (x : Part) (place cell : ℕ) : Type 0 where
  pub active : is_active x.place ≡ true
  pub starts : may_start x.task ≡ true
  pub claimed : place < length x.current.writes
  pub own : is_own cell (claim_at x.current place).own ≡ true

-- the steps of a write: the row's words from the k-th on are stored, in order
abbrev pub stores_from : (seat place cell k : ℕ) → List ℕ → List Event
stores_from seat place cell k [] = []
stores_from seat place cell k (value ∷ values) =
    record { seat = seat; kind = kind.StoreCell place cell (word.Row k) value } ∷ stores_from seat place cell (k + 1) values

-- the steps of a session's begin at this tail
abbrev pub begin_steps : (seat tail : ℕ) → List Event
begin_steps seat tail =
    record { seat = seat; kind = kind.LoadTail purpose.Begin } ∷ record { seat = seat; kind = kind.StoreBegin tail }
    ∷ record { seat = seat; kind = kind.LoadTail purpose.Begin } ∷ []

-- the steps of a seal that draws a range of this size at this tail
abbrev pub seal_steps : (seat size tail : ℕ) → List Event
seal_steps seat size tail =
    record { seat = seat; kind = kind.StoreState 1 } ∷ record { seat = seat; kind = kind.AddTail size }
    ∷ record { seat = seat; kind = kind.StoreState tail } ∷ []

-- the steps that release claims: each entry is stored with its old head
abbrev pub release_steps : ℕ → List Claim → List Event
release_steps seat [] = []
release_steps seat (w ∷ ws) = record { seat = seat; kind = kind.Install w.version.oid w.version.cell } ∷ release_steps seat ws

-- the steps that clear the own bits of the versions read
abbrev pub clear_steps : ℕ → List Read → List Event
clear_steps seat [] = []
clear_steps seat (r ∷ rs) = record { seat = seat; kind = kind.ClearReader r.version } ∷ clear_steps seat rs

-- the steps of an abort, of which none is taken yet
abbrev pub end_steps : ℕ → Attempt → List Event
end_steps seat t = release_steps seat t.writes ++ (clear_steps seat t.reads ++ record { seat = seat; kind = kind.StoreBegin 0 } ∷ [])

-- a seat's session that shows the snapshot which this task is of
abbrev pub snapshot_session : Part → Task → Session
snapshot_session x u = record {
  over = map finished_of x.over;
  stand = world.snapshot (record { number = x.current.number; begin = x.current.begin; is_safe = is_safe u });
}
