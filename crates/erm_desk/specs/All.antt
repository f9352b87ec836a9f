-- Turns of a desk one after another.
use Rattle.std.specs.Prelude.{◌≡◌, ℕ, zero, suc, Ok, Err}
use Rattle.erm_flush.specs.declared.stops.FlushStop.{FlushStop}
use Rattle.erm_flush.specs.Turns.{Counts}
use Rattle.erm_model.specs.RowTransaction.{Law}
use Rattle.erm_rule.specs.declared.view.Start.{Start}
use Rattle.erm_desk.specs.Desk.{Sees, TurnsTo}
use Rattle.erm_desk.specs.Turns.{FlushSteps}

-- so many turns one after another lead from one desk to another, and each flushed
abbrev pub FlushTurns : Law → Start → ℕ → Sees → Sees → Type 0
FlushTurns law o zero s t = t ≡ s
FlushTurns law o (suc turns) s t = (last : Sees) × FlushTurns law o turns s last × ((end : ℕ) × TurnsTo law o (Ok end) last t)

-- So many turns flushed, one after another, and the next one didn't, for this cause. The disk's count of faults rose exactly where that is
-- that the disk failed. The pass took steps of its flush seat alone.
pub record TurnsAll (law : Law) (o : Start) (turns : ℕ) (stop : FlushStop) (s t : Sees) : Type 0 where
  pub last : Sees
  pub flushed : FlushTurns law o turns s last
  pub stops : TurnsTo law o (Err stop) last t
  pub counts : Counts (Err stop) s.faults t.faults
  pub before : FlushSteps law s.book last.book
  pub behind : FlushSteps law last.book t.book
