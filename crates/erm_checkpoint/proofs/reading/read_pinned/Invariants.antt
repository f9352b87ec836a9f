use Rattle.std.proofs.Common.{◌≡◌, ℕ, ◌<◌, length}
use Rattle.erm_log_view.specs.Views.{IsPinned}
use Rattle.erm_model.specs.declared.limits.TheConstants.{OID_LIMIT}
use Rattle.erm_model.specs.Rows.{rows_of}
use Rattle.erm_world.specs.Log.{IsRowAt, Log}
use Rattle.erm_checkpoint.proofs.reading.read_pinned.Given as goal

-- the rows so far are read
abbrev pub invariant-loop-oid : goal.invariant-loop-oid
invariant-loop-oid g l = record {
  stands : g.V.LogView.stands l.log;
  keeps : g.V.LogView.keeps l.fn.log l.log;
  pinned : IsPinned g.V.LogView.knows l.log;
  same : (m : Log) → g.V.LogView.knows l.fn.log m → g.V.LogView.knows l.log m;
  count : length l.rows ≡ OID_LIMIT;
  read : (m : Log) → g.V.LogView.knows l.fn.log m → (k : ℕ) → k < l.oid → IsRowAt m k (rows_of l.rows k);
}
