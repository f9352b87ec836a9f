use Rattle.std.proofs.Common.{◌≡◌, ℕ, ◌<◌, Some, false}
use Rattle.std.specs.List.{slice_get}
use Rattle.erm_run_beside.specs.declared.work.SessionWork.{SessionWork}
use Rattle.erm_run_at_once.proofs.report.has_lacked.Given as goal

-- none of those passed lacked memory
abbrev pub invariant-loop-work : goal.invariant-loop-work
invariant-loop-work l = (k : ℕ) (w : SessionWork) → k < l.work-index → slice_get l.works k ≡ Some w → w.lacked ≡ false
