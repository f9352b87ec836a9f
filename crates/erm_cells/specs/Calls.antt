-- What finding a head and taking an entry leave of a pass's view, and when a cell is one seat's alone.
use Rattle.std.specs.Prelude.{◌≡◌, ◌≢◌, ℕ, ◌<◌, ◌≤◌, Bool, false, nat_lt, if◌then◌else◌, List, [], ◌∷◌, ◌++◌, length, Some}
use Rattle.erm_model.specs.Member.{◌∈◌}
use Rattle.erm_machine.specs.declared.attempt.OwnCell.{OwnCell}
use Rattle.erm_machine.specs.declared.limits.TheConstants.{ANNOUNCERS, OBJECT_LIMIT}
use Rattle.erm_machine.specs.declared.part.Part.{Part}
use Rattle.erm_machine.specs.declared.task.Task.{Task}
use Rattle.erm_machine.specs.declared.task.Task.TheVariants as task
use Rattle.erm_machine.specs.declared.version.VersionAt.{VersionAt}
use Rattle.erm_machine.specs.Core.{Core, Object, version_at, claim_at}
use Rattle.erm_machine.specs.Reading.{entered, lost, new_claim}
use Rattle.erm_machine.specs.Seat.{with_task, may_start}
use Rattle.erm_machine.specs.Words.{head_of, owner_of, claimed}
use Rattle.erm_rule.specs.declared.view.View.{View}
use Rattle.erm_rule.specs.Hands.{IsKnown}
use Rattle.erm_rule.specs.Views.{part_of, with_part}
use Rattle.erm_cells.specs.declared.answer.Head.{Head}
use Rattle.erm_cells.specs.declared.answer.Head.TheVariants.{Owned, Walked}

-- a call may start there with the load of an entry whose owner is to be looked at
abbrev pub starts_anew : Task → Bool
starts_anew (task.Cleared oid) = false
starts_anew t = may_start t

-- An entry was loaded, and left as it is: what is in hand follows from it, and from an object whose newest version has its head's
-- cell.
pub record DidEnter (v : View) (who oid entry : ℕ) (w : View) : Type 0 where
  pub object : Object
  pub view_is : w ≡ with_part who (with_task (entered who oid entry object) (part_of v who)) v
  pub known : IsKnown w
  pub met : (known.core.shared.objects oid).entry ≡ entry

-- the task once the stamp of a head is loaded that nobody owns
abbrev pub walked : VersionAt → ℕ → ℕ → Part → Task
walked version entry stamp x = if nat_lt stamp x.current.begin then task.Found version stamp (Some entry) else task.Passed version

-- The head of an object's chain is in hand, by an entry that nobody owns and so is the head's cell alone. The head's stamp was
-- loaded, and left as it is.
pub record DidWalk (v : View) (who oid entry stamp : ℕ) (w : View) : Type 0 where
  pub version : VersionAt
  pub oid_is : version.oid ≡ oid
  pub cell_is : version.cell ≡ head_of entry
  pub unowned : owner_of entry ≡ 0
  pub plain : entry ≡ head_of entry
  pub view_is : w ≡ with_part who (with_task (walked version entry stamp (part_of v who)) (part_of v who)) v
  pub known : IsKnown w
  pub stamp_is : (version_at (known.core.shared.objects version.oid) version.place).words.stamp ≡ stamp

-- the head was found, or the entry has an owner
abbrev pub DidFind : View → ℕ → ℕ → Head → View → Type 0
DidFind v who oid (Owned entry) w = (owner_of entry ≢ 0) × DidEnter v who oid entry w
DidFind v who oid (Walked entry stamp) w = DidWalk v who oid entry stamp w

-- the head of this object is in hand, to be claimed by this entry
abbrev pub IsFoundHead : Task → ℕ → ℕ → Type 0
IsFoundHead (task.Found version stamp (Some seen)) oid entry = (version.oid ≡ oid) × (seen ≡ entry)
IsFoundHead t oid entry = ⊥

-- the part of a seat that has taken an entry: it claims the object, by the version that was its head
abbrev pub taken_part : VersionAt → ℕ → List ℕ → Part → Part
taken_part version stamp base x = record x {
  task = task.Claimed version;
  current = record x.current { writes = x.current.writes ++ new_claim version stamp base ∷ [] };
}

-- An entry was taken: it is the seat's in some sound state with the parts of the view after.
pub record DidTake (v : View) (who oid seen : ℕ) (w : View) : Type 0 where
  pub version : VersionAt
  pub stamp : ℕ
  pub base : List ℕ
  pub found : (part_of v who).task ≡ task.Found version stamp (Some seen)
  pub oid_is : version.oid ≡ oid
  pub view_is : w ≡ with_part who (taken_part version stamp base (part_of v who)) v
  pub known : IsKnown w
  pub entry : (known.core.shared.objects oid).entry ≡ claimed seen who (part_of v who).current.number

-- An exchange met another entry than the one seen, and left it as it is: the head of one without owner, where it is in another cell,
-- is passed, and any other is as if loaded.
pub record DidLose (v : View) (who oid seen entry : ℕ) (w : View) : Type 0 where
  pub version : VersionAt
  pub stamp : ℕ
  pub object : Object
  pub found : (part_of v who).task ≡ task.Found version stamp (Some seen)
  pub cell_is : version.cell ≡ head_of seen
  pub view_is : w ≡ with_part who (with_task (lost who oid entry version object) (part_of v who)) v
  pub known : IsKnown w
  pub met : (known.core.shared.objects oid).entry ≡ entry

-- the cell is in no chain
abbrev pub IsUnchained : Core → ℕ → Type 0
IsUnchained c cell = (oid place : ℕ) → oid < OBJECT_LIMIT → (c.shared.objects oid).cut ≤ place → place < length (c.shared.objects oid).versions
    → (version_at (c.shared.objects oid) place).cell ≢ cell

-- The cell is one seat's alone: it is in no chain, no other seat has it for a claim or among its spare ones, and of its own it is
-- one claim's.
pub record IsAlone (c : Core) (p cell : ℕ) : Type 0 where
  pub unchained : IsUnchained c cell
  pub claims : (q k : ℕ) (own : OwnCell) → q < ANNOUNCERS → q ≢ p → (claim_at (c.seats q).current k).own ≡ Some own → own.cell ≢ cell
  pub spares : (q : ℕ) (own : OwnCell) → q < ANNOUNCERS → own ∈ (c.seats q).spare → own.cell ≢ cell
  pub once : (j k : ℕ) (own also : OwnCell) → (claim_at (c.seats p).current j).own ≡ Some own → (claim_at (c.seats p).current k).own ≡ Some also
      → own.cell ≡ cell → also.cell ≡ cell → j ≡ k
