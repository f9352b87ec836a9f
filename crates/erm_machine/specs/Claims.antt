-- Claims: who owns an entry, what it overwrites, and the marks of an overwriter.
use Rattle.std.specs.Prelude.{◌≡◌, ◌≢◌, ℕ, ◌+◌, ◌^◌, ◌<◌, ◌≤◌, true, false, length, ◌==◌, if◌then◌else◌, None}
use Rattle.erm_machine.specs.declared.limits.TheConstants.{OBJECT_LIMIT}
use Rattle.erm_machine.specs.declared.attempt.Attempt.{Attempt}
use Rattle.erm_machine.specs.declared.attempt.Claim.{Claim}
use Rattle.erm_machine.specs.declared.part.Part.{Part}
use Rattle.erm_machine.specs.declared.task.Task.{Task}
use Rattle.erm_machine.specs.declared.task.Task.TheVariants as task
use Rattle.erm_machine.specs.Core.{Object, Shared, version_at, newest, claim_at, own_words}
use Rattle.erm_machine.specs.Facts.{Holds, over_of}
use Rattle.erm_machine.specs.Words.{head_of, owner_of, number_of}

-- An object has versions whose stamps ascend and lie below the tail; the entry names the newest one's cell, and without an
-- owner nothing else. The version before another is marked with that one's stamp; the newest one of an entry without owner
-- isn't marked, and has no overwriter's successor stamp.
pub record ObjectFits (now : ℕ) (o : Object) : Type 0 where
  pub some : 0 < length o.versions
  pub ascend : (i j : ℕ) → i < j → j < length o.versions → (version_at o i).words.stamp < (version_at o j).words.stamp
  pub below : (i : ℕ) → i < length o.versions → (version_at o i).words.stamp < now
  pub cells : (i : ℕ) → i < length o.versions → (version_at o i).cell < 2 ^ 24
  pub head : head_of o.entry ≡ (version_at o (newest o)).cell
  pub plain : owner_of o.entry ≡ 0 → o.entry ≡ head_of o.entry
  pub marked : (i : ℕ) → i + 1 < length o.versions → (version_at o i).words.overwriter ≡ (version_at o (i + 1)).words.stamp
  pub unmarked : owner_of o.entry ≡ 0 → (version_at o (newest o)).words.overwriter ≡ 0
  pub unset : owner_of o.entry ≡ 0 → (version_at o (newest o)).words.overwriter_succ ≡ 0

pub record Claims (s : Shared) : Type 0 where
  pub objects : (oid : ℕ) → oid < OBJECT_LIMIT → ObjectFits s.tail (s.objects oid)

-- a held claim: its entry is the seat's transaction's; what it overwrites is the head, below the begin stamp
pub record ClaimFits (seat number begin : ℕ) (o : Object) (w : Claim) : Type 0 where
  pub owner : owner_of o.entry ≡ seat
  pub numbered : number_of o.entry ≡ number
  pub place : w.version.place ≡ newest o
  pub cell : w.version.cell ≡ head_of o.entry
  pub stamp : w.stamp ≡ (version_at o w.version.place).words.stamp
  pub base : w.base ≡ (version_at o w.version.place).words.row
  pub first : w.stamp < begin

-- the steps of an install in progress have left the own cell and the overwritten one so
pub record InstallFits (t : Attempt) (o : Object) (w : Claim) (step : ℕ) : Type 0 where
  pub stamp : 0 < step → (own_words w.own).stamp ≡ t.stamp
  pub link : 1 < step → (own_words w.own).link ≡ w.version.cell + 1
  pub unread : 2 < step → (own_words w.own).readers ≡ 0
  pub reader_stamp : 3 < step → (own_words w.own).reader_stamp ≡ t.stamp
  pub unmarked : 4 < step → (own_words w.own).overwriter ≡ 0
  pub unset : 5 < step → (own_words w.own).overwriter_succ ≡ 0
  pub succ : 6 < step → (version_at o w.version.place).words.overwriter_succ ≡ t.succ
  pub mark : 7 < step → (version_at o w.version.place).words.overwriter ≡ t.stamp
  pub no_succ : step < 7 → (version_at o w.version.place).words.overwriter_succ ≡ 0
  pub no_mark : step < 8 → (version_at o w.version.place).words.overwriter ≡ 0

-- how far the install of the claim at a place has come: 0 for those that wait for their turn
abbrev pub step_of : Task → ℕ → ℕ
step_of (task.Ends raised ended step cleared) place = if place == ended then step else 0
step_of _ place = 0

-- how many claims of the current transaction are over
abbrev pub claims_over : Part → ℕ
claims_over x = over_of x.place x.task (length x.current.writes)

-- A seat's claims, of different objects: those that are over are no longer held, and have no cell; the others are. An entry
-- that the seat owns is one that it claims.
pub record OwnClaims (s : Shared) (seat : ℕ) (x : Part) : Type 0 where
  pub objects : (k : ℕ) → k < length x.current.writes → (claim_at x.current k).version.oid < OBJECT_LIMIT
  pub over : (k : ℕ) → k < length x.current.writes → k < claims_over x → (claim_at x.current k).held ≡ false
  pub none : (k : ℕ) → k < length x.current.writes → k < claims_over x → (claim_at x.current k).own ≡ None
  pub held : (k : ℕ) → k < length x.current.writes → claims_over x ≤ k → (claim_at x.current k).held ≡ true
  pub fit : (k : ℕ) → k < length x.current.writes → (claim_at x.current k).held ≡ true
      → ClaimFits seat x.current.number x.current.begin (s.objects (claim_at x.current k).version.oid) (claim_at x.current k)
  pub install : (k : ℕ) → k < length x.current.writes → (claim_at x.current k).held ≡ true
      → InstallFits x.current (s.objects (claim_at x.current k).version.oid) (claim_at x.current k) (step_of x.task k)
  pub once : (j k : ℕ) → j < k → k < length x.current.writes → (claim_at x.current j).version.oid ≢ (claim_at x.current k).version.oid
  pub owned : (oid : ℕ) → 0 < seat → oid < OBJECT_LIMIT → owner_of (s.objects oid).entry ≡ seat → Holds x oid
