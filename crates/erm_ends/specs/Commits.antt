-- What the end of a commit asks of a seat's part, and what it leaves of a pass's view.
use Rattle.std.specs.Prelude.{◌≡◌, ℕ, ◌<◌, true, if◌then◌else◌, List, length}
use Rattle.erm_machine.specs.declared.attempt.Attempt.{Attempt}
use Rattle.erm_machine.specs.declared.attempt.Decision.TheVariants.{Commit}
use Rattle.erm_machine.specs.declared.part.Part.{Part}
use Rattle.erm_machine.specs.declared.task.Task.TheVariants as task
use Rattle.erm_machine.specs.Back.{goes_back}
use Rattle.erm_machine.specs.Core.{claim_at, own_words}
use Rattle.erm_machine.specs.Seat.{is_decided, with_task}
use Rattle.erm_cells.specs.Heads.{with_own_head}
use Rattle.erm_entries.specs.Ends.{HasFreeHead, installed_part, newest_version, next_install}
use Rattle.erm_precommit.specs.declared.pre.KeptClaim.{KeptClaim}
use Rattle.erm_precommit.specs.declared.pre.KeptRead.{KeptRead}
use Rattle.erm_precommit.specs.Pre.{IsClaimKept}
use Rattle.erm_rule.specs.declared.view.View.{View}
use Rattle.erm_rule.specs.Hands.{IsKnown}
use Rattle.erm_rule.specs.Views.{part_of, with_part}
use Rattle.erm_ends.specs.Ends.{AreClaims, AreReads, claims_over, left_part}

-- The transaction is committed with this stamp, its end may begin, and these are all versions that it has read.
pub record MayRaiseReads (kept : List KeptRead) (stamp : ℕ) (x : Part) : Type 0 where
  pub decided : is_decided x.place ≡ true
  pub committed : x.current.decision ≡ Commit
  pub ends : x.task ≡ task.Ends 0 0 0 0
  pub reads : AreReads kept x.current
  pub stamp_is : x.current.stamp ≡ stamp

-- all reader stamps are raised
pub record DidRaiseReads (v : View) (who : ℕ) (w : View) : Type 0 where
  pub view_is : w ≡ with_part who (with_task (task.Ends (length (part_of v who).current.reads) 0 0 0) (part_of v who)) v
  pub known : IsKnown w

-- The transaction is committed with this stamp and this successor stamp, all reader stamps are raised, and this is the next claim to be
-- installed.
pub record IsNextCommit (kept : KeptClaim) (stamp succ : ℕ) (x : Part) : Type 0 where
  pub ended : ℕ
  pub cleared : ℕ
  pub decided : is_decided x.place ≡ true
  pub committed : x.current.decision ≡ Commit
  pub ends : x.task ≡ task.Ends (length x.current.reads) ended 0 cleared
  pub within : ended < length x.current.writes
  pub claim : IsClaimKept kept (claim_at x.current ended)
  pub stamp_is : x.current.stamp ≡ stamp
  pub succ_is : x.current.succ ≡ succ

-- The claim was installed: in the state that is known the object's newest version is in the own cell, with the claim's words and those of
-- a new version of the transaction.
pub record DidInstallClaim (v : View) (who oid own : ℕ) (w : View) : Type 0 where
  pub view_is : w ≡ with_part who (installed_part (part_of v who)) v
  pub known : IsKnown w
  pub is_head : HasFreeHead known.core oid own
  pub words : (newest_version known.core oid).words ≡ own_words (with_own_head (part_of v who).current (next_install (part_of v who)) (next_install (part_of v who)).own)

-- The transaction is committed with this stamp and this successor stamp, all reader stamps are raised, and these are all its claims, of
-- which none is installed.
pub record MayInstallClaims (kept : List KeptClaim) (stamp succ : ℕ) (x : Part) : Type 0 where
  pub decided : is_decided x.place ≡ true
  pub committed : x.current.decision ≡ Commit
  pub ends : x.task ≡ task.Ends (length x.current.reads) 0 0 0
  pub claims : AreClaims kept x.current
  pub stamp_is : x.current.stamp ≡ stamp
  pub succ_is : x.current.succ ≡ succ

-- the part of a seat that has installed so many claims, or all
abbrev pub installed_to : ℕ → Part → Part
installed_to n x = record x { current = record x.current { writes = claims_over n x.current.writes } }

abbrev pub installed_all : Part → Part
installed_all x = installed_to (length x.current.writes) x

-- all claims are installed
pub record DidInstallClaims (v : View) (who : ℕ) (w : View) : Type 0 where
  pub view_is : w ≡ with_part who (with_task (task.Ends (length (part_of v who).current.reads) (length (part_of v who).current.writes) 0 0) (installed_all (part_of v who))) v
  pub known : IsKnown w

-- the back word of a seat once its commit has stored it, where it goes back
abbrev pub back_then : Attempt → ℕ → ℕ
back_then t back = if goes_back t then t.stamp else back

abbrev pub with_back : Part → Part
with_back x = record x { back = back_then x.current x.back }

-- the transaction is committed with this stamp and this successor stamp
pub record MayGoBack (stamp succ : ℕ) (x : Part) : Type 0 where
  pub decided : is_decided x.place ≡ true
  pub committed : x.current.decision ≡ Commit
  pub stamp_is : x.current.stamp ≡ stamp
  pub succ_is : x.current.succ ≡ succ

-- where it goes back its stamp was stored in the own back word
pub record DidGoBack (v : View) (who : ℕ) (w : View) : Type 0 where
  pub view_is : w ≡ with_part who (with_back (part_of v who)) v
  pub known : IsKnown w

-- END. The transaction was decided as a commit, and its end may begin.
pub record MayCommit (x : Part) : Type 0 where
  pub decided : is_decided x.place ≡ true
  pub committed : x.current.decision ≡ Commit
  pub ends : x.task ≡ task.Ends 0 0 0 0

-- The transaction is over, as a commit. Where it goes back its stamp stands in the back word.
pub record DidCommit (v : View) (who : ℕ) (w : View) : Type 0 where
  pub view_is : w ≡ with_part who (left_part Commit (with_back (installed_all (part_of v who)))) v
  pub known : IsKnown w
