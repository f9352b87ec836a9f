-- Who waits for whom, and whose next event isn't a wait.
use Rattle.std.specs.Prelude.{◌≡◌, ◌≢◌, ◌⊎◌, ℕ, zero, suc, ◌+◌, ◌-◌, ◌*◌, ◌<◌, ◌≤◌, true, false, nat_lt, if◌then◌else◌, Some}
use Rattle.erm_machine.specs.declared.attempt.Decision.TheVariants.{Undecided}
use Rattle.erm_machine.specs.declared.event.Kind.{Kind}
use Rattle.erm_machine.specs.declared.event.Kind.TheVariants as kind
use Rattle.erm_machine.specs.declared.event.TailUse.TheVariants as purpose
use Rattle.erm_machine.specs.declared.limits.TheConstants.{FLUSH_SEAT, OBJECT_LIMIT}
use Rattle.erm_machine.specs.declared.part.Flushing.{Flushing}
use Rattle.erm_machine.specs.declared.part.Flushing.TheVariants as flushing
use Rattle.erm_machine.specs.declared.place.Place.{Place}
use Rattle.erm_machine.specs.declared.place.Place.TheVariants.{Vacant, Idle, Active, Sealing, Drawn, Sealed, Decided, Leaving}
use Rattle.erm_machine.specs.declared.task.Task.{Task}
use Rattle.erm_machine.specs.declared.task.Task.TheVariants as task
use Rattle.erm_machine.specs.Core.{Core}
use Rattle.erm_machine.specs.Seat.{is_active, is_sealed}
use Rattle.erm_machine.specs.Settling.{has_room}
use Rattle.erm_machine.specs.Step.{after_event}
use Rattle.erm_machine.specs.Words.{begin_of, is_clear, is_least_bit, is_session, state_of}
use Rattle.erm_core_calls.specs.Ending.{Ahead, IsLess, ahead_by}
use Rattle.erm_core_calls.specs.Going.{IsInCall, IsUnsafe, MayWrite, MovesOn, Written, next_kind}
use Rattle.erm_core_flush.specs.Turns.{turn_of}

-- A transaction, or a pin, isn't over: from the first load of its begin on.
abbrev pub IsUnfinished : Place → Type 0
IsUnfinished Vacant = ⊥
IsUnfinished Idle = ⊥
IsUnfinished _ = Unit {0}

-- its state word is 1
abbrev pub IsSealing : Place → Type 0
IsSealing (Sealing tail) = Unit {0}
IsSealing (Drawn tail stamp) = Unit {0}
IsSealing _ = ⊥

-- its state word is this stamp: it is sealed, and maybe decided
abbrev pub IsSealedAt : ℕ → Place → Type 0
IsSealedAt s (Sealed tail stamp) = s ≡ stamp
IsSealedAt s (Decided tail stamp) = s ≡ stamp
IsSealedAt s (Leaving stamp) = s ≡ stamp
IsSealedAt s _ = ⊥

-- Who has next events: a seat's transaction, and the flush seat's turn, which goes on beside its pin.
pub data Actor : Type 0 where
  seat_of : ℕ → Actor
  flush_turn : Actor

-- The one waits for the other: a transaction for the owner of the entry that it reads, for the one that may overwrite a version
-- that it has read, for a reader of a version that it overwrites, or for the turn that makes room in the ring for its block; a
-- snapshot that looks whether it is safe for a transaction that has begun below its begin stamp; the turn for a transaction whose
-- range begins at the place flushed, and isn't decided.
pub data WaitsFor (c : Core) (a b : Actor) : Type 0 where
  for_owner : (p oid owner : ℕ) → a ≡ seat_of p → b ≡ seat_of owner → (c.seats p).task ≡ task.Owned oid owner
      → is_clear (state_of (c.seats owner).place) (c.seats p).current.begin ≡ false → WaitsFor c a b
  for_overwriter : (p read owner : ℕ) → a ≡ seat_of p → b ≡ seat_of owner → (c.seats p).task ≡ task.ReadOwned read owner
      → is_clear (state_of (c.seats owner).place) (c.seats p).current.stamp ≡ false → WaitsFor c a b
  for_reader : (p write bits reader : ℕ) → a ≡ seat_of p → b ≡ seat_of reader → (c.seats p).task ≡ task.ReadersLeft write bits → is_least_bit bits reader ≡ true
      → is_clear (state_of (c.seats reader).place) (c.seats p).current.stamp ≡ false → WaitsFor c a b
  for_ring : (p : ℕ) → a ≡ seat_of p → b ≡ flush_turn → is_sealed (c.seats p).place ≡ true → (c.seats p).task ≡ task.Rest
      → has_room c.shared.flushed (c.seats p).current ≡ false → WaitsFor c a b
  for_begin : (p other : ℕ) → a ≡ seat_of p → b ≡ seat_of other → (c.seats p).task ≡ task.Surveys other → other ≢ p
      → 0 < begin_of (c.seats other).place → begin_of (c.seats other).place < (c.seats p).current.begin → WaitsFor c a b
  for_block : (q : ℕ) → a ≡ flush_turn → b ≡ seat_of q → (c.seats q).current.stamp ≡ c.shared.flushed
      → (c.seats q).current.decision ≡ Undecided → WaitsFor c a b

-- the one waits for the other through so many in between
abbrev pub Chain : Core → ℕ → Actor → Actor → Type 0
Chain c zero a b = WaitsFor c a b
Chain c (suc n) a b = (m : Actor) × WaitsFor c a m × Chain c n m b

-- 0 where it seals, twice its stamp where it is sealed, twice the tail elsewhere; a snapshot that looks whether it is safe stands
-- above all others, by its begin stamp
abbrev pub level_at : (tail begin : ℕ) → Place → Task → ℕ
level_at now begin (Active tail) (task.Surveys next) = 2 * now + begin
level_at now begin (Active tail) (task.Behind next) = 2 * now + begin
level_at now begin (Sealing tail) u = 0
level_at now begin (Drawn tail stamp) u = 0
level_at now begin (Sealed tail stamp) u = 2 * stamp
level_at now begin (Decided tail stamp) u = 2 * stamp
level_at now begin (Leaving stamp) u = 2 * stamp
level_at now begin pl u = 2 * now

-- The level of a transaction; that of a turn is above those of the stamps up to the place flushed, and below the others. Waits lead
-- down.
abbrev pub level : Core → Actor → ℕ
level c (seat_of p) = level_at c.shared.tail (c.seats p).current.begin (c.seats p).place (c.seats p).task
level c flush_turn = 2 * c.shared.flushed + 1

-- The flush seat's next step in a turn: it loads the tail, and the place flushed, where something is to be flushed; it gathers the
-- first block; it clears the ring's words, and stores the new place flushed.
abbrev pub next_turn : (flushed : ℕ) → Flushing → Kind
next_turn flushed flushing.Still = kind.LoadTail purpose.Gather
next_turn flushed (flushing.Tail tail) = if nat_lt flushed tail then kind.LoadFlushed else kind.LoadTail purpose.Gather
next_turn flushed (flushing.Gathers tail from block next end) =
    if nat_lt next end then kind.LoadRing next
    else if nat_lt from end then kind.ClearRing from
    else if nat_lt from tail then kind.LoadRing next
    else kind.LoadTail purpose.Gather
next_turn flushed (flushing.Clears next to) = if nat_lt next to then kind.ClearRing next else kind.StoreFlushed to

-- What lies ahead in a turn: the loads of tail and flushed, of a header, of the block's other words, and the clearing.
abbrev pub turn_ahead : (flushed : ℕ) → Flushing → Ahead
turn_ahead flushed flushing.Still = ahead_by 5 0
turn_ahead flushed (flushing.Tail tail) = if nat_lt flushed tail then ahead_by 4 0 else ahead_by 5 0
turn_ahead flushed (flushing.Gathers tail from block next end) = if nat_lt from end then ahead_by 2 (end - next) else if nat_lt from tail then ahead_by 3 0 else ahead_by 5 0
turn_ahead flushed (flushing.Clears next to) = ahead_by 1 (to - next)

-- The turn goes on: its next step is taken, and flushes more, or leaves less ahead.
pub record TurnsOn (c : Core) : Type 0 where
  pub after : Core
  pub taken : after_event c FLUSH_SEAT (next_turn c.shared.flushed (turn_of c)) ≡ Some after
  pub nearer : (c.shared.flushed < after.shared.flushed)
      ⊎ IsLess (turn_ahead c.shared.flushed (turn_of after)) (turn_ahead c.shared.flushed (turn_of c))

-- Between the calls of an active transaction its caller chooses; the flush seat, which makes no objects, also where it has seen how
-- many there are.
abbrev pub MayChoose : ℕ → Task → Type 0
MayChoose seat task.Rest = Unit {0}
MayChoose seat (task.Found version stamp head) = Unit {0}
MayChoose seat (task.Rated version) = Unit {0}
MayChoose seat task.Numbers = is_session seat ≡ false
MayChoose seat _ = ⊥

-- A snapshot looks whether it is safe.
abbrev pub IsPending : Task → Type 0
IsPending (task.Surveys next) = Unit {0}
IsPending (task.Behind next) = Unit {0}
IsPending _ = ⊥

-- Between the calls of a safe snapshot its caller may read, or end it.
abbrev pub MayRead : Task → Type 0
MayRead task.Safe = Unit {0}
MayRead (task.SafeFound version) = Unit {0}
MayRead _ = ⊥

-- The seat's next event isn't a wait: in a call its next step moves it on, whatever it is to write; a sealed one begins to settle;
-- an active one between calls may read any object, and a session seal; a safe snapshot may read any object, and end; and one that
-- was found unsafe ends.
pub data GoesOn (c : Core) (seat : ℕ) : Type 0 where
  in_call : IsInCall (c.seats seat).place (c.seats seat).task
      → ((b : Written) → MayWrite b (c.seats seat) → MovesOn c seat (next_kind b (c.seats seat))) → GoesOn c seat
  to_settle : is_sealed (c.seats seat).place ≡ true → (c.seats seat).task ≡ task.Rest → MovesOn c seat kind.LoadFlushed → GoesOn c seat
  between_calls : is_active (c.seats seat).place ≡ true → MayChoose seat (c.seats seat).task
      → ((oid : ℕ) → oid < OBJECT_LIMIT → MovesOn c seat (kind.LoadEntry oid))
      → (is_session seat ≡ true → MovesOn c seat (kind.StoreState 1)) → GoesOn c seat
  reads_safely : is_active (c.seats seat).place ≡ true → MayRead (c.seats seat).task
      → ((oid : ℕ) → oid < OBJECT_LIMIT → MovesOn c seat (kind.LoadEntry oid)) → MovesOn c seat (kind.StoreBegin 0) → GoesOn c seat
  ends_unsafe : IsUnsafe c seat → MovesOn c seat (kind.StoreBegin 0) → GoesOn c seat

-- whose next event isn't a wait
abbrev pub ActsOn : Core → Actor → Type 0
ActsOn c (seat_of p) = GoesOn c p
ActsOn c flush_turn = TurnsOn c

-- no seat seals; none is sealed
abbrev pub NoneSeals : Core → Type 0
NoneSeals c = (q : ℕ) → IsSealing (c.seats q).place → ⊥

abbrev pub NoneSealed : Core → Type 0
NoneSealed c = (q stamp : ℕ) → IsSealedAt stamp (c.seats q).place → ⊥

-- the seat is the one sealed with the least stamp, this one
pub record IsLeastSealed (c : Core) (seat stamp : ℕ) : Type 0 where
  pub sealed : IsSealedAt stamp (c.seats seat).place
  pub least : (q s : ℕ) → IsSealedAt s (c.seats q).place → stamp ≤ s

-- whoever isn't over looks whether its snapshot is safe
abbrev pub OnlyPending : Core → Type 0
OnlyPending c = (q : ℕ) → IsUnfinished (c.seats q).place → IsPending (c.seats q).task

-- the seat has the one with the least begin stamp, and of equal ones it is the lowest
pub record IsLeastPending (c : Core) (seat : ℕ) : Type 0 where
  pub unfinished : IsUnfinished (c.seats seat).place
  pub least : (q : ℕ) → IsUnfinished (c.seats q).place → (c.seats seat).current.begin ≤ (c.seats q).current.begin
  pub lowest : (q : ℕ) → IsUnfinished (c.seats q).place → (c.seats q).current.begin ≡ (c.seats seat).current.begin → seat ≤ q

-- from one state to the next the flush seat takes the next step of its turn
abbrev pub TakesTurn : Core → Core → Type 0
TakesTurn c d = (t : TurnsOn c) × (t.after ≡ d)

-- A run of states in which the flush seat takes the next steps of its turns again and again, and no more is flushed. Between them
-- its turn is as it was, as events of other seats leave it.
pub record TurnsForEver (run : ℕ → Core) : Type 0 where
  pub flushed : (n : ℕ) → (run (n + 1)).shared.flushed ≡ (run n).shared.flushed
  pub each : (n : ℕ) → TakesTurn (run n) (run (n + 1)) ⊎ (turn_of (run (n + 1)) ≡ turn_of (run n))
  pub again : (n : ℕ) → (k : ℕ) × (n ≤ k) × TakesTurn (run k) (run (k + 1))
