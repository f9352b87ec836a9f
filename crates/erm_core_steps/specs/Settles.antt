-- What a settle has come to, and whom it waits for.
use Rattle.std.specs.Int.{bit_at}
use Rattle.std.specs.Prelude.{◌≡◌, ◌≤◌, ℕ, Bool, true, false, length}
use Rattle.erm_machine.specs.declared.attempt.Attempt.{Attempt}
use Rattle.erm_machine.specs.declared.event.Kind.{Kind}
use Rattle.erm_machine.specs.declared.event.Kind.TheVariants as kind
use Rattle.erm_machine.specs.declared.part.Part.{Part}
use Rattle.erm_machine.specs.declared.task.Task.{Task}
use Rattle.erm_machine.specs.declared.task.Task.TheVariants as task
use Rattle.erm_machine.specs.declared.version.VersionAt.{VersionAt}
use Rattle.erm_machine.specs.Core.{Core, Shared, claim_at, version_at}
use Rattle.erm_machine.specs.Seat.{is_sealed, read_at}
use Rattle.erm_machine.specs.Words.{head_of, is_clear, is_least_bit, owner_of, state_of}
use Rattle.erm_core_calls.specs.Going.{Written, next_settle}
use Rattle.erm_world.specs.declared.stops.Wait.{Wait}
use Rattle.erm_world.specs.declared.stops.Wait.TheVariants as wait

-- settle is at a version read or overwritten, or has passed all of them
abbrev pub is_passing : Task → Bool
is_passing (task.Settles reads writes) = true
is_passing (task.ReadOwned read owner) = true
is_passing (task.ReadClear read) = true
is_passing (task.ReadOvertaken read overwriter) = true
is_passing (task.ReadersLeft write bits) = true
is_passing (task.WriteClear write) = true
is_passing (task.WriteMade write) = true
is_passing u = false

-- the version is the head of its object's chain, whose entry this seat owns
pub record IsOwnedHead (s : Shared) (v : VersionAt) (owner : ℕ) : Type 0 where
  pub owner_is : owner_of (s.objects v.oid).entry ≡ owner
  pub head : head_of (s.objects v.oid).entry ≡ v.cell

-- all these bits are among the version's reader bits
abbrev pub AreReaders : Shared → VersionAt → ℕ → Type 0
AreReaders s v bits = (q : ℕ) → bit_at bits q ≡ 1 → bit_at (version_at (s.objects v.oid) v.place).words.readers q ≡ 1

-- what settle has found of the version that it is at still stands
abbrev pub Stays : Shared → Attempt → Task → Type 0
Stays s t (task.ReadOwned read owner) = IsOwnedHead s (read_at t read).version owner
Stays s t (task.ReadersLeft write bits) = AreReaders s (claim_at t write).version bits
Stays s t u = Unit {0}

-- a sealed transaction passes its versions
pub record IsPassing (s : Shared) (x : Part) : Type 0 where
  pub sealed : is_sealed x.place ≡ true
  pub passing : is_passing x.task ≡ true
  pub stays : Stays s x.current x.task

-- it has passed all of them
abbrev pub HasPassed : Part → Type 0
HasPassed x = x.task ≡ task.Settles (length x.current.reads) (length x.current.writes)

-- the versions that settle would come to are behind it
abbrev pub AreAllBehind : Attempt → Task → Type 0
AreAllBehind t (task.Settles reads writes) = (length t.reads ≤ reads) × (length t.writes ≤ writes)
AreAllBehind t u = ⊥

-- settle isn't past all versions, and its next step is of this kind
pub record PassesBy (t : Attempt) (u : Task) (k : Kind) : Type 0 where
  pub next : (b : Written) → k ≡ next_settle b t u
  pub some : AreAllBehind t u → ⊥

-- a look has found the other seat clear for its bound; or not, and this is whom the seat waits for
abbrev pub IsClearFor : Kind → ℕ → Type 0
IsClearFor (kind.LoadState other bound) seen = is_clear seen bound ≡ true
IsClearFor k seen = Unit {0}

abbrev pub StopsAt : Kind → ℕ → Wait → Type 0
StopsAt (kind.LoadState other bound) seen w = (w ≡ wait.Seat other seen) × (is_clear seen bound ≡ false)
StopsAt k seen w = ⊥

-- the seat that settle looks at next
pub data LooksAt (x : Part) (other : ℕ) : Type 0 where
  at_owner : (read : ℕ) → x.task ≡ task.ReadOwned read other → LooksAt x other
  at_reader : (write bits : ℕ) → x.task ≡ task.ReadersLeft write bits → is_least_bit bits other ≡ true → LooksAt x other

-- it looks at this seat, which has this state word and isn't clear for the own stamp
abbrev pub IsWaiting : Core → ℕ → Wait → Type 0
IsWaiting c seat (wait.Ring flushed) = ⊥
IsWaiting c seat (wait.Seat other seen) = LooksAt (c.seats seat) other × (seen ≡ state_of (c.seats other).place)
    × (is_clear seen (c.seats seat).current.stamp ≡ false)
