-- A desk whose disk has failed stays so.
use Rattle.std.proofs.Common.{◌≡◌, ℕ, zero, suc, Bool, true, false, Result, Ok, Err, sym, ap, ◌∙◌}
use Rattle.erm_flush.specs.declared.stops.FlushStop.{FlushStop}
use Rattle.erm_flush.specs.declared.stops.FlushStop.TheVariants as stop
use Rattle.erm_model.specs.RowTransaction.{Law}
use Rattle.erm_rule.specs.declared.view.Start.{Start}
use Rattle.erm_desk.specs.All.{FlushTurns, TurnsAll}
use Rattle.erm_desk.specs.Desk.{Sees, TurnsTo}

pub not_both : (b : Bool) → b ≡ true → b ≡ false → ⊥
not_both b is isnt = let same : true ≡ false = sym is ∙ isnt in cc

-- at one turn
pub stop_stays : (law : Law) (o : Start) (cause : FlushStop) (s t : Sees) → TurnsTo law o (Err cause) s t → s.failed ≡ true → t.failed ≡ true
stop_stays law o (stop.Empty at) s t turn failed = absurd (not_both s.failed failed turn.0)
stop_stays law o (stop.Unfilled at) s t turn failed = absurd (not_both s.failed failed turn.0)
stop_stays law o stop.DiskFault s t turn failed = turn.1
stop_stays law o stop.Failed s t turn failed = ap (λ (x : Sees). x.failed) turn.1 ∙ failed

-- whatever the turn answers
pub turn_stays : (law : Law) (o : Start) (r : Result ℕ FlushStop) (s t : Sees) → TurnsTo law o r s t → s.failed ≡ true → t.failed ≡ true
turn_stays law o (Ok end) s t turn failed = absurd (not_both s.failed failed turn.0)
turn_stays law o (Err cause) s t turn failed = stop_stays law o cause s t turn failed

-- no turn flushes then
flushes_stay : (law : Law) (o : Start) (turns : ℕ) (s t : Sees) → FlushTurns law o turns s t → s.failed ≡ true → t.failed ≡ true
flushes_stay law o zero s t same failed = ap (λ (x : Sees). x.failed) same ∙ failed
flushes_stay law o (suc turns) s t went failed = let last = went.0 in absurd (not_both last.failed (flushes_stay law o turns s last went.1 failed) went.2.1.0)

-- at all turns until one stops
pub all_stay : (law : Law) (o : Start) (turns : ℕ) (cause : FlushStop) (s t : Sees) → TurnsAll law o turns cause s t → s.failed ≡ true → t.failed ≡ true
all_stay law o turns cause s t all failed = stop_stays law o cause all.last t all.stops (flushes_stay law o turns s all.last all.flushed failed)
