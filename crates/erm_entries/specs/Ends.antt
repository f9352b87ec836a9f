-- How claims end, and what that leaves of a pass's view.
use Rattle.std.specs.Prelude.{◌≡◌, ℕ, ◌+◌, ◌<◌, true, false, ◌||◌, length, unwrap_or, IsSome}
use Rattle.erm_cells.specs.Hands.{newest_claimed, ended_by, cleared_by}
use Rattle.erm_machine.specs.declared.attempt.Claim.{Claim}
use Rattle.erm_machine.specs.declared.part.Part.{Part}
use Rattle.erm_machine.specs.declared.task.Task.TheVariants as task
use Rattle.erm_machine.specs.declared.version.Version.{Version}
use Rattle.erm_machine.specs.Core.{Core, newest, version_at, claim_at, own_words}
use Rattle.erm_machine.specs.Seat.{with_task, is_active, is_decided, is_own, end_of}
use Rattle.erm_machine.specs.Settling.{adds_version, given_back, without_entry, without_newest}
use Rattle.erm_machine.specs.Words.{owner_of}
use Rattle.erm_rule.specs.declared.view.View.{View}
use Rattle.erm_rule.specs.Hands.{IsKnown}
use Rattle.erm_rule.specs.Views.{part_of, with_part}

-- the newest version of an object
abbrev pub newest_version : Core → ℕ → Version
newest_version c oid = version_at (c.shared.objects oid) (newest (c.shared.objects oid))

-- an object's entry is this cell, without owner, and its newest version is in it
pub record HasFreeHead (c : Core) (oid head : ℕ) : Type 0 where
  pub entry : (c.shared.objects oid).entry ≡ head
  pub unowned : owner_of head ≡ 0
  pub cell : (newest_version c oid).cell ≡ head

-- CLAIM: there is no cell for the newest claim, which is of this object and overwrites the version in this cell.
pub record IsRefused (x : Part) (oid head : ℕ) : Type 0 where
  pub task_is : x.task ≡ task.Refused
  pub oid_is : (newest_claimed x).oid ≡ oid
  pub cell_is : (newest_claimed x).cell ≡ head

-- the part of a seat whose newest claim is given up
abbrev pub unclaimed_part : Part → Part
unclaimed_part x = record x { task = task.Rest; current = without_newest x.current }

-- The newest claim was given up.
pub record DidUnclaim (v : View) (who oid head : ℕ) (w : View) : Type 0 where
  pub view_is : w ≡ with_part who (unclaimed_part (part_of v who)) v
  pub known : IsKnown w
  pub is_head : HasFreeHead known.core oid head

-- END of a commit: the next claim to be installed
abbrev pub next_install : Part → Claim
next_install x = claim_at x.current (ended_by x.task)

-- The next claim to be installed is of this object and has this own cell, and all but its last step, the store of the entry, is
-- done.
pub record IsNextInstall (x : Part) (oid head : ℕ) : Type 0 where
  pub commits : adds_version x ≡ true
  pub task_is : x.task ≡ task.Ends (length x.current.reads) (ended_by x.task) 8 (cleared_by x.task)
  pub within : ended_by x.task < length x.current.writes
  pub oid_is : (next_install x).version.oid ≡ oid
  pub own : is_own head (next_install x).own ≡ true

-- the part of a seat that has installed its next claim
abbrev pub installed_part : Part → Part
installed_part x = record x {
  task = task.Ends (length x.current.reads) (ended_by x.task + 1) 0 (cleared_by x.task);
  current = without_entry (ended_by x.task) x.current;
}

-- A claim was installed: the object's newest version is the one in the own cell.
pub record DidInstall (v : View) (who oid head : ℕ) (w : View) : Type 0 where
  pub view_is : w ≡ with_part who (installed_part (part_of v who)) v
  pub known : IsKnown w
  pub is_head : HasFreeHead known.core oid head
  pub words : (newest_version known.core oid).words ≡ own_words (next_install (part_of v who)).own

-- END of another transaction: how far it has come, or where it begins
abbrev pub end_from : Part → ℕ × ℕ × ℕ × ℕ
end_from x = unwrap_or (end_of x.task) (0, 0, 0, 0)

-- the next claim to be released
abbrev pub next_release : Part → Claim
next_release x = claim_at x.current (end_from x).1

-- The next claim to be released is of this object and overwrites the version in this cell, and the transaction was excluded, or
-- may abort there.
pub record IsNextRelease (x : Part) (oid head : ℕ) : Type 0 where
  pub excluded : adds_version x ≡ false
  pub place : (is_decided x.place || is_active x.place) ≡ true
  pub ends : IsSome (end_of x.task)
  pub within : (end_from x).1 < length x.current.writes
  pub oid_is : (next_release x).version.oid ≡ oid
  pub cell_is : (next_release x).version.cell ≡ head

-- the part of a seat that has released its next claim, whose cell is a spare one now
abbrev pub released_part : Part → Part
released_part x = with_task (task.Ends (end_from x).0 ((end_from x).1 + 1) 0 (end_from x).3) (given_back (end_from x).1 x)

-- A claim was released.
pub record DidRelease (v : View) (who oid head : ℕ) (w : View) : Type 0 where
  pub view_is : w ≡ with_part who (released_part (part_of v who)) v
  pub known : IsKnown w
  pub is_head : HasFreeHead known.core oid head
