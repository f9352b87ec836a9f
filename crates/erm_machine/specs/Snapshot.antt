-- Snapshot: a version read or overwritten is, and stays, the newest one below the begin stamp.
use Rattle.std.specs.Prelude.{◌≡◌, ◌≢◌, ℕ, ◌+◌, ◌<◌, ◌≤◌, true, length}
use Rattle.erm_model.specs.Member.{◌∈◌}
use Rattle.erm_machine.specs.declared.attempt.Attempt.{Attempt}
use Rattle.erm_machine.specs.declared.attempt.Claim.{Claim}
use Rattle.erm_machine.specs.declared.attempt.Read.{Read}
use Rattle.erm_machine.specs.declared.part.Part.{Part}
use Rattle.erm_machine.specs.declared.task.Task.{Task}
use Rattle.erm_machine.specs.declared.task.Task.TheVariants as task
use Rattle.erm_machine.specs.declared.version.VersionAt.{VersionAt}
use Rattle.erm_machine.specs.Chains.{IsNamed}
use Rattle.erm_machine.specs.Core.{Object, Shared, version_at}
use Rattle.erm_machine.specs.Facts.{all_of, HoldsBelow}
use Rattle.erm_machine.specs.Seat.{read_at}

-- all versions newer than this one have stamps at or above the bound
abbrev pub NewerFrom : Object → ℕ → ℕ → Type 0
NewerFrom o place bound = (k : ℕ) → place < k → k < length o.versions → bound ≤ (version_at o k).words.stamp

-- this is the newest version below the bound
pub record IsNewestAt (o : Object) (place bound stamp : ℕ) : Type 0 where
  pub within : place < length o.versions
  pub stamp_is : (version_at o place).words.stamp ≡ stamp
  pub below : stamp < bound
  pub newer : NewerFrom o place bound

-- a registered read: the newest version below the begin stamp, with its row
pub record ReadFits (s : Shared) (begin : ℕ) (r : Read) : Type 0 where
  pub named : IsNamed s r.version
  pub newest : IsNewestAt (s.objects r.version.oid) r.version.place begin r.stamp
  pub row : (version_at (s.objects r.version.oid) r.version.place).words.row ≡ r.row

-- the version in hand of a read in progress: all newer ones have stamps at or above the begin stamp
abbrev pub InHand : Shared → ℕ → Task → Type 0
InHand s begin (task.Walks version head) = NewerFrom (s.objects version.oid) version.place begin
InHand s begin (task.Passed version) =
    NewerFrom (s.objects version.oid) version.place begin × (begin ≤ (version_at (s.objects version.oid) version.place).words.stamp)
InHand s begin (task.Found version stamp head) = IsNewestAt (s.objects version.oid) version.place begin stamp
InHand s begin (task.SafeWalks version) = NewerFrom (s.objects version.oid) version.place begin
InHand s begin (task.SafePassed version) =
    NewerFrom (s.objects version.oid) version.place begin × (begin ≤ (version_at (s.objects version.oid) version.place).words.stamp)
InHand s begin (task.SafeFound version) =
    IsNewestAt (s.objects version.oid) version.place begin (version_at (s.objects version.oid) version.place).words.stamp
InHand s begin _ = Unit {0}

-- a begin stamp is at most the tail, and at most the own stamp drawn since
pub record IsPast (now drawn begin : ℕ) : Type 0 where
  pub past : begin ≤ now
  pub drawn_later : 0 < drawn → begin ≤ drawn

-- a claim: of the versions newer than the one that it overwrites none lies below the begin stamp
abbrev pub ClaimStays : Shared → ℕ → Claim → Type 0
ClaimStays s begin w = NewerFrom (s.objects w.version.oid) w.version.place begin

-- the reads and claims of all of a seat's transactions, those that are over too, and the read in progress
pub record OwnSnapshot (s : Shared) (x : Part) : Type 0 where
  pub past : (t : Attempt) → t ∈ all_of x → IsPast s.tail x.current.stamp t.begin
  pub reads : (t : Attempt) (r : Read) → t ∈ all_of x → r ∈ t.reads → ReadFits s t.begin r
  pub claims : (t : Attempt) (w : Claim) → t ∈ all_of x → w ∈ t.writes → ClaimStays s t.begin w
  pub in_hand : InHand s x.current.begin x.task

-- No range of the other seat below the bound holds a claim on the object of the read in progress; where another owner is
-- still to be looked at, none of a seat but that one's.
abbrev pub NoneInHand : ℕ → Task → ℕ → Part → Type 0
NoneInHand begin (task.Owned oid owner) q y = q ≢ owner → HoldsBelow y oid begin → ⊥
NoneInHand begin (task.Cleared oid) q y = HoldsBelow y oid begin → ⊥
NoneInHand begin (task.Walks version head) q y = HoldsBelow y version.oid begin → ⊥
NoneInHand begin (task.Passed version) q y = HoldsBelow y version.oid begin → ⊥
NoneInHand begin (task.Found version stamp head) q y = HoldsBelow y version.oid begin → ⊥
NoneInHand begin (task.SafeWalks version) q y = HoldsBelow y version.oid begin → ⊥
NoneInHand begin (task.SafePassed version) q y = HoldsBelow y version.oid begin → ⊥
NoneInHand begin (task.SafeFound version) q y = HoldsBelow y version.oid begin → ⊥
NoneInHand begin _ q y = Unit {0}

-- the other seat has a range below the bound and holds a claim that overwrites this version
abbrev pub Overwriting : Part → VersionAt → ℕ → Type 0
Overwriting y v bound = (0 < y.current.stamp) × (y.current.stamp < bound)
    × ((w : Claim) × (w ∈ y.current.writes) × (w.held ≡ true) × (w.version.oid ≡ v.oid) × (w.version.place ≡ v.place))

-- how many of the versions read settle has passed, and the one that it has come to
abbrev pub passed_of : Task → ℕ → ℕ
passed_of (task.Settles reads writes) all = reads
passed_of (task.ReadOwned read owner) all = read
passed_of (task.ReadClear read) all = read + 1
passed_of (task.ReadOvertaken read overwriter) all = read + 1
passed_of (task.ReadersLeft write bits) all = all
passed_of (task.WriteClear write) all = all
passed_of (task.WriteMade write) all = all
passed_of (task.Fills words) all = all
passed_of _ all = 0

-- where settle has come to a version read whose object another seat owns, no other seat overwrites it below the own stamp
abbrev pub NoneLeft : Part → Task → ℕ → Part → Type 0
NoneLeft x (task.ReadOwned read owner) q y = q ≢ owner → Overwriting y (read_at x.current read).version x.current.stamp → ⊥
NoneLeft x _ q y = Unit {0}

-- No range of the other seat below a begin stamp holds a claim on an object that a transaction has read or claimed, or is
-- about to read. In settle none below the own stamp overwrites a version that is passed.
pub record Snapshot (x : Part) (q : ℕ) (y : Part) : Type 0 where
  pub reads : (t : Attempt) (r : Read) → t ∈ all_of x → r ∈ t.reads → HoldsBelow y r.version.oid t.begin → ⊥
  pub claims : (t : Attempt) (w : Claim) → t ∈ all_of x → w ∈ t.writes → HoldsBelow y w.version.oid t.begin → ⊥
  pub in_hand : NoneInHand x.current.begin x.task q y
  pub passed : (k : ℕ) → k < passed_of x.task (length x.current.reads) → k < length x.current.reads
      → Overwriting y (read_at x.current k).version x.current.stamp → ⊥
  pub left : NoneLeft x x.task q y
