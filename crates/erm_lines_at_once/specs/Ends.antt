-- The world in which sessions that run at once end.
use Rattle.std.specs.Prelude.{ℕ, zero, suc, ◌+◌, ◌*◌, ◌<◌, ◌≤◌, nat_lt, if◌then◌else◌, sum_by, Option, Some, None}
use Rattle.erm_model.specs.declared.history.TransactionRecord.{TransactionRecord}
use Rattle.erm_model.specs.declared.history.VersionWritten.{VersionWritten}
use Rattle.erm_model.specs.declared.limits.TheConstants.{GREATEST_BLOCK, LOG_END}
use Rattle.erm_model.specs.History.{IsPredecessorStamp, IsSuccessorStamp, Makes}
use Rattle.erm_model.specs.Member.{◌∈◌}
use Rattle.erm_node.specs.Sound.{sound_law}
use Rattle.erm_world.specs.Laws.{IsSerializable}
use Rattle.erm_world.specs.World.{HasStamp, IsSession, Session, Stand, View, Work, history_of, record_of, stamp_of}
use Rattle.erm_world.specs.World as world

-- one where the stamp is below the bound
abbrev pub one_below : ℕ → Option ℕ → ℕ
one_below bound None = 0
one_below bound (Some stamp) = if nat_lt stamp bound then 1 else 0

-- the stamp of one that isn't decided
abbrev pub stamp_now : Stand → Option ℕ
stamp_now world.idle = None
stamp_now (world.active w) = None
stamp_now (world.sealed w stamp) = Some stamp
stamp_now (world.snapshot s) = None

-- how many of a session's transactions were sealed below a place of the log
abbrev pub sealed_in : ℕ → Session → ℕ
sealed_in bound s = sum_by (λ f. one_below bound (stamp_of f.fate)) s.over + one_below bound (stamp_now s.stand)

-- how many of those of the sessions up to a number
unfoldable pub sealed_upto : ℕ → (ℕ → Session) → ℕ → ℕ
sealed_upto zero session bound = 0
sealed_upto (suc n) session bound = sealed_upto n session bound + sealed_in bound (session (suc n))

-- how many of those of all sessions
abbrev pub sealed_below : View → ℕ → ℕ
sealed_below v bound = sealed_upto v.opening.sessions v.session bound

-- Its transactions are serializable; one that was excluded after its seal has the definitions' numbers over the whole history, and of what it had
-- claimed no commit made a version from its begin up to its stamp; and the blocks of those that were sealed, each of the most words at most, lie
-- one behind another from the opening on, within the log.
pub record IsEnd (f : View) : Type 0 where
  pub serializable : IsSerializable sound_law f
  pub excluded : (seat : ℕ) (w : Work) (stamp succ pred : ℕ) → IsSession f seat → record { work = w; fate = world.excluded stamp succ pred } ∈ (f.session seat).over
      → IsSuccessorStamp (history_of f) (λ u. u.succ) (record_of seat w stamp succ pred)
      × IsPredecessorStamp (history_of f) pred (record_of seat w stamp succ pred) × (succ ≤ pred)
  pub alone : (seat : ℕ) (w : Work) (stamp succ pred : ℕ) (c : VersionWritten) (u : TransactionRecord) → IsSession f seat
      → record { work = w; fate = world.excluded stamp succ pred } ∈ (f.session seat).over → c ∈ w.claims → u ∈ history_of f → Makes u c.oid → u.stamp < stamp
      → u.stamp < w.begin
  pub reach : (seat : ℕ) (w : Work) (stamp : ℕ) → IsSession f seat → HasStamp f seat w stamp → stamp ≤ f.opening.tail + GREATEST_BLOCK * sealed_below f stamp
  pub tail : f.tail ≤ f.opening.tail + GREATEST_BLOCK * sealed_below f f.tail
  pub within : (seat : ℕ) (w : Work) (stamp : ℕ) → IsSession f seat → HasStamp f seat w stamp → stamp < LOG_END
