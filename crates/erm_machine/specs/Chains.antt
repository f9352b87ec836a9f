-- Chains: links name cells, and so do the versions in hand.
use Rattle.std.specs.Prelude.{◌≡◌, ℕ, ◌+◌, ◌-◌, ◌<◌, ◌≤◌, length, Option, Some, None}
use Rattle.erm_model.specs.Member.{◌∈◌}
use Rattle.erm_machine.specs.declared.attempt.OwnCell.{OwnCell}
use Rattle.erm_machine.specs.declared.limits.TheConstants.{OBJECT_LIMIT}
use Rattle.erm_machine.specs.declared.part.Part.{Part}
use Rattle.erm_machine.specs.declared.task.Task.{Task}
use Rattle.erm_machine.specs.declared.task.Task.TheVariants as task
use Rattle.erm_machine.specs.declared.version.VersionAt.{VersionAt}
use Rattle.erm_machine.specs.Core.{Object, Shared, version_at, newest}
use Rattle.erm_machine.specs.Facts.{Holds}
use Rattle.erm_machine.specs.Words.{head_of, owner_of}

-- the links of the versions from one place to another name the cells of the next older ones
abbrev pub LinksFrom : Object → ℕ → ℕ → Type 0
LinksFrom o from to = (k : ℕ) → from < k → k < to → (version_at o k).words.link ≡ (version_at o (k - 1)).cell + 1

-- The links of a chain name the cells of the next older versions, and the oldest one's is 0. A chain isn't empty.
pub record Linked (o : Object) : Type 0 where
  pub attached : o.cut < length o.versions
  pub older : LinksFrom o o.cut (length o.versions)
  pub oldest : (version_at o o.cut).words.link ≡ 0

pub record Chains (s : Shared) : Type 0 where
  pub linked : (oid : ℕ) → oid < OBJECT_LIMIT → Linked (s.objects oid)

-- the name of a version is true
pub record IsNamed (s : Shared) (v : VersionAt) : Type 0 where
  pub object : v.oid < OBJECT_LIMIT
  pub within : v.place < length (s.objects v.oid).versions
  pub cell : (version_at (s.objects v.oid) v.place).cell ≡ v.cell

-- the version in hand has the cell that its name says
abbrev pub NamedInHand : Shared → Task → Type 0
NamedInHand s (task.Owned oid owner) = oid < OBJECT_LIMIT
NamedInHand s (task.Cleared oid) = oid < OBJECT_LIMIT
NamedInHand s (task.Walks version head) = IsNamed s version
NamedInHand s (task.Passed version) = IsNamed s version
NamedInHand s (task.Found version stamp head) = IsNamed s version
NamedInHand s (task.Registered version) = IsNamed s version
NamedInHand s (task.Overtaken version overwriter) = IsNamed s version
NamedInHand s (task.Rated version) = IsNamed s version
NamedInHand s (task.Claimed version) = IsNamed s version
NamedInHand s (task.Horizon version least next) = IsNamed s version
NamedInHand s (task.CutWalks version horizon) = IsNamed s version
NamedInHand s (task.CutPassed version horizon) = IsNamed s version
NamedInHand s (task.CutFound version horizon) = IsNamed s version
NamedInHand s (task.Detaches version) = IsNamed s version
NamedInHand s (task.SafeWalks version) = IsNamed s version
NamedInHand s (task.SafePassed version) = IsNamed s version
NamedInHand s (task.SafeFound version) = IsNamed s version
NamedInHand s _ = Unit {0}

-- the version in hand of a cut: it is attached, and its object is claimed
pub record IsAttached (s : Shared) (x : Part) (v : VersionAt) : Type 0 where
  pub claimed : Holds x v.oid
  pub attached : (s.objects v.oid).cut ≤ v.place

-- the cell of the version at a place of an object is one of the seat's spare ones, and has the version's link
pub record IsSpare (s : Shared) (x : Part) (oid place : ℕ) : Type 0 where
  pub own : OwnCell
  pub spare : own ∈ x.spare
  pub cell : own.cell ≡ (version_at (s.objects oid) place).cell
  pub link : own.words.link ≡ (version_at (s.objects oid) place).words.link

-- The version in hand of those that a cut has taken off: the links from it on name older ones, and the last one's is 0. Their
-- cells are the seat's spare ones.
pub record IsDetached (s : Shared) (x : Part) (v : VersionAt) : Type 0 where
  pub claimed : Holds x v.oid
  pub last : ℕ
  pub below : last ≤ v.place
  pub links : LinksFrom (s.objects v.oid) last (v.place + 1)
  pub ends : (version_at (s.objects v.oid) last).words.link ≡ 0
  pub off : v.place < (s.objects v.oid).cut
  pub spare : (k : ℕ) → last ≤ k → k ≤ v.place → IsSpare s x v.oid k

-- the version in hand of a cut
abbrev pub CutInHand : Shared → Part → Task → Type 0
CutInHand s x (task.Claimed version) = IsAttached s x version
CutInHand s x (task.Horizon version least next) = IsAttached s x version
CutInHand s x (task.CutWalks version horizon) = IsAttached s x version
CutInHand s x (task.CutPassed version horizon) = IsAttached s x version
CutInHand s x (task.CutFound version horizon) = IsAttached s x version × ((version_at (s.objects version.oid) version.place).words.stamp < horizon)
CutInHand s x (task.Detaches version) = IsDetached s x version
CutInHand s x _ = Unit {0}

-- the entry that was loaded without an owner, if it still is the object's, has this version for its head
abbrev pub IsHead : Object → VersionAt → Option ℕ → Type 0
IsHead o v None = Unit {0}
IsHead o v (Some entry) = (owner_of entry ≡ 0) × (v.cell ≡ head_of entry) × (o.entry ≡ entry → v.place ≡ newest o)

-- the version in hand, to be claimed
abbrev pub HeadInHand : Shared → Task → Type 0
HeadInHand s (task.Walks version head) = IsHead (s.objects version.oid) version head
HeadInHand s (task.Found version stamp head) = IsHead (s.objects version.oid) version head
HeadInHand s _ = Unit {0}

-- a seat's version in hand
pub record OwnChains (s : Shared) (x : Part) : Type 0 where
  pub named : NamedInHand s x.task
  pub cut : CutInHand s x x.task
  pub head : HeadInHand s x.task
