-- What the ends of transactions ask of a seat's part, and what they leave of a pass's view.
use Rattle.std.specs.Prelude.{◌≡◌, ℕ, zero, suc, ◌<◌, true, false, ◌||◌, List, [], ◌∷◌, ◌++◌, length, slice_index_or, None, Some}
use Rattle.erm_machine.specs.declared.attempt.Attempt.{Attempt}
use Rattle.erm_machine.specs.declared.attempt.Claim.{Claim}
use Rattle.erm_machine.specs.declared.attempt.Decision.{Decision}
use Rattle.erm_machine.specs.declared.attempt.Decision.TheVariants.{Abort, Commit}
use Rattle.erm_machine.specs.declared.attempt.OwnCell.{OwnCell}
use Rattle.erm_machine.specs.declared.part.Part.{Part}
use Rattle.erm_machine.specs.declared.place.Place.TheVariants.{Idle}
use Rattle.erm_machine.specs.declared.task.Task.{Task}
use Rattle.erm_machine.specs.declared.task.Task.TheVariants as task
use Rattle.erm_machine.specs.Back.{GoesBack}
use Rattle.erm_machine.specs.Core.{claim_at}
use Rattle.erm_machine.specs.Seat.{cells_of, end_of, is_active, is_decided, over, read_at, with_task}
use Rattle.erm_machine.specs.Settling.{adds_version}
use Rattle.erm_precommit.specs.declared.pre.KeptClaim.{KeptClaim}
use Rattle.erm_precommit.specs.declared.pre.KeptRead.{KeptRead}
use Rattle.erm_precommit.specs.Pre.{IsClaimKept, IsReadKept, no_claim_kept, no_read_kept}
use Rattle.erm_rule.specs.declared.view.View.{View}
use Rattle.erm_rule.specs.Hands.{IsKnown}
use Rattle.erm_rule.specs.Views.{part_of, with_part}

-- these are the versions that the transaction has read, in order
pub record AreReads (kept : List KeptRead) (t : Attempt) : Type 0 where
  pub count : length kept ≡ length t.reads
  pub each : (k : ℕ) → k < length t.reads → IsReadKept (slice_index_or kept k no_read_kept) (read_at t k)

-- these are the transaction's claims, in order
pub record AreClaims (kept : List KeptClaim) (t : Attempt) : Type 0 where
  pub count : length kept ≡ length t.writes
  pub each : (k : ℕ) → k < length t.writes → IsClaimKept (slice_index_or kept k no_claim_kept) (claim_at t k)

-- so many of these claims, from the first on, are over
abbrev pub claims_over : ℕ → List Claim → List Claim
claims_over zero ws = ws
claims_over (suc n) [] = []
claims_over (suc n) (w ∷ ws) = record w { held = false; own = None } ∷ claims_over n ws

-- their own cells
abbrev pub cells_over : ℕ → List Claim → List OwnCell
cells_over zero ws = []
cells_over (suc n) [] = []
cells_over (suc n) (w ∷ ws) = cells_of w.own ++ cells_over n ws

-- the part of a seat that has released so many claims, whose cells are spare ones
abbrev pub released_to : ℕ → Part → Part
released_to n x = record x {
  current = record x.current { writes = claims_over n x.current.writes };
  spare = x.spare ++ cells_over n x.current.writes;
}

-- and that has released all
abbrev pub released_all : Part → Part
released_all x = released_to (length x.current.writes) x

-- An end has come so far: so many reader stamps are raised, claims over, steps of the next claim taken, and own bits cleared.
-- But for the call in progress the seat's part is this one.
pub record HasCome (v : View) (who : ℕ) (y : Part) (e : ℕ × ℕ × ℕ × ℕ) (w : View) : Type 0 where
  pub task : Task
  pub ends : end_of task ≡ Some e
  pub view_is : w ≡ with_part who (with_task task y) v
  pub known : IsKnown w

-- The end of the claims may begin: these are all claims of a transaction that was excluded or is active.
pub record MayReleaseClaims (kept : List KeptClaim) (x : Part) : Type 0 where
  pub excluded : adds_version x ≡ false
  pub place : (is_decided x.place || is_active x.place) ≡ true
  pub ends : end_of x.task ≡ Some (0, 0, 0, 0)
  pub claims : AreClaims kept x.current

-- all claims were released
pub record DidReleaseClaims (v : View) (who : ℕ) (w : View) : Type 0 where
  pub come : HasCome v who (released_all (part_of v who)) (0, length (part_of v who).current.writes, 0, 0) w

-- All claims are over, and a committed transaction has raised all reader stamps: the own bits may be cleared at these versions, which
-- are all that were read.
pub record MayClearReads (kept : List KeptRead) (x : Part) : Type 0 where
  pub raised : ℕ
  pub step : ℕ
  pub place : (is_decided x.place || is_active x.place) ≡ true
  pub ends : end_of x.task ≡ Some (raised, length x.current.writes, step, 0)
  pub all_raised : x.current.decision ≡ Commit → raised ≡ length x.current.reads
  pub reads : AreReads kept x.current

-- all own bits were cleared
pub record DidClearReads (v : View) (who : ℕ) (w : View) : Type 0 where
  pub raised : ℕ
  pub step : ℕ
  pub come : HasCome v who (part_of v who) (raised, length (part_of v who).current.writes, step, length (part_of v who).current.reads) w

-- the part of a seat whose transaction is over, and that is idle
abbrev pub left_part : Decision → Part → Part
left_part d x = over d (record x { place = Idle; task = task.Rest })

-- the transaction is decided, all claims are over, and all own bits cleared; where it goes back its stamp stands in the back word
pub record MayLeave (x : Part) : Type 0 where
  pub raised : ℕ
  pub step : ℕ
  pub decided : is_decided x.place ≡ true
  pub ends : end_of x.task ≡ Some (raised, length x.current.writes, step, length x.current.reads)
  pub back : GoesBack x.current → x.back ≡ x.current.stamp

-- the transaction is over, as it was decided
pub record DidLeave (v : View) (who : ℕ) (w : View) : Type 0 where
  pub view_is : w ≡ with_part who (left_part (part_of v who).current.decision (part_of v who)) v
  pub known : IsKnown w

-- ABORT. The transaction is active and has read and claimed this, and its end may begin.
pub record MayAbort (reads : List KeptRead) (claims : List KeptClaim) (x : Part) : Type 0 where
  pub active : is_active x.place ≡ true
  pub ends : end_of x.task ≡ Some (0, 0, 0, 0)
  pub reads_kept : AreReads reads x.current
  pub claims_kept : AreClaims claims x.current

-- The transaction is over, aborted: its claims were released, and their cells are spare ones.
pub record DidAbort (v : View) (who : ℕ) (w : View) : Type 0 where
  pub view_is : w ≡ with_part who (left_part Abort (released_all (part_of v who))) v
  pub known : IsKnown w

-- END. The transaction was decided and excluded, and its end may begin.
pub record MaySkip (x : Part) : Type 0 where
  pub decided : is_decided x.place ≡ true
  pub excluded : adds_version x ≡ false
  pub ends : x.task ≡ task.Ends 0 0 0 0

-- The transaction is over, as it was decided: its claims were released, and their cells are spare ones.
pub record DidSkip (v : View) (who : ℕ) (w : View) : Type 0 where
  pub view_is : w ≡ with_part who (left_part (part_of v who).current.decision (released_all (part_of v who))) v
  pub known : IsKnown w
