-- The laws of lower crates, as the proofs here cite them.
use Rattle.std.proofs.Common.{◌≡◌, ℕ, ◌<◌, List}
use Rattle.erm_model.specs.History.{HasNewestRows, History, IsCertified, IsNewestBelow, IsSnapshot, IsVersion, RunsSerially, below, rank_of, rows_after}
use Rattle.erm_model.specs.Rows.{Rows}
use Rattle.erm_model.specs.SerialOrder.{IsSerialOrder}
use Rattle.erm_node.specs.Sound.{sound_law}
use Rattle.erm_world.specs.World.{history_of}
use Rattle.erm_maps.proofs.Lawful.{begins_above}
use Rattle.erm_told_limits.proofs.Arrays.{HaveRowsBelow}
use Rattle.erm_told_limits.proofs.Holds.{Laws}
use Rattle.erm_told_limits.proofs.Reached.{Ways}
use Rattle.erm_told_limits.proofs.Turns.{BegunAreRuns}

-- what is so of histories
pub record HistoryLaws : Type 0 where
  pub certified : (h : History) → IsCertified h → (bound : ℕ) → IsCertified (below bound h)
  pub snapshot : (h : History) (opening : Rows) → IsSnapshot h opening → (bound : ℕ) → IsSnapshot (below bound h) opening
  pub exists : (h : History) → IsCertified h → (order : History) × IsSerialOrder rank_of h order
  pub run_below : (h : History) (opening : Rows) → IsSnapshot h opening → IsCertified h → (bound : ℕ) (order : History) → IsSerialOrder rank_of (below bound h) order
      → RunsSerially (below bound h) opening opening order
  pub newest_below : (h : History) (opening : Rows) → IsSnapshot h opening → IsCertified h → (bound : ℕ) (order : History) → IsSerialOrder rank_of (below bound h) order
      → 0 < bound → HasNewestRows h opening bound (rows_after order opening)
  pub row : (h : History) (opening : Rows) → IsSnapshot h opening → IsCertified h → (oid stamp : ℕ) (one other : List ℕ)
      → IsVersion h opening oid stamp one → IsVersion h opening oid stamp other → one ≡ other
  pub newest : (h : History) (opening : Rows) → IsSnapshot h opening → IsCertified h → (oid bound stamp other_stamp : ℕ) (row other_row : List ℕ)
      → IsNewestBelow h opening oid bound stamp row → IsNewestBelow h opening oid bound other_stamp other_row → (stamp ≡ other_stamp) × (row ≡ other_row)

module _ (laws : HistoryLaws) where
  rows_below : HaveRowsBelow
  rows_below v holds seat w session has =
      let certified = laws.certified (history_of v) holds.certified w.begin in
      let found = laws.exists (below w.begin (history_of v)) certified in
      record {
        order = found.0;
        runs = record {
          serial = found.1;
          run = laws.run_below (history_of v) v.opening.rows holds.snapshots holds.certified w.begin found.0 found.1;
          one_row = laws.row (below w.begin (history_of v)) v.opening.rows (laws.snapshot (history_of v) v.opening.rows holds.snapshots w.begin) certified;
        };
        leaves = record {
          newest = laws.newest_below (history_of v) v.opening.rows holds.snapshots holds.certified w.begin found.0 found.1 (begins_above sound_law v holds seat w session has);
          one = λ oid stamp other_stamp row other first second.
              (laws.newest (history_of v) v.opening.rows holds.snapshots holds.certified oid w.begin stamp other_stamp row other first second).1;
        };
      }

  pub given : Ways → BegunAreRuns → Laws
  given ways start = record { rows_below = rows_below; ways = ways; start = start }
