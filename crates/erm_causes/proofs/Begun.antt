-- The rows on which a transaction began: sound ones, that fit it, and of which each object is of its table.
use Rattle.std.proofs.Common.{◌≡◌, ℕ, ◌<◌, Some, refl, ap, subst, sym}
use Rattle.std.proofs.lemmas.List.Sorted.{IsPermutation-sym}
use Rattle.erm_model.specs.declared.history.TransactionRecord.{TransactionRecord}
use Rattle.erm_model.specs.History.{below, rows_after}
use Rattle.erm_model.specs.Member.{◌∈◌}
use Rattle.erm_model.specs.Rows.{Rows}
use Rattle.erm_core_ssn.proofs.Members.{∈-permutation}
use Rattle.erm_core_ssn.proofs.Prefixes.{in_below}
use Rattle.erm_node.specs.Sound.{IsSound, sound_law}
use Rattle.erm_world.specs.Laws.{FitsWork, IsCommitOf, IsSerializable}
use Rattle.erm_world.specs.World.{Finished, Has, IsSession, View, Work, history_of, stamp_of}
use Rattle.erm_world.specs.World as world
use Rattle.erm_world.proofs.Commits.{tells_commits}
use Rattle.erm_maps.proofs.Histories.{work_in}
use Rattle.erm_maps.proofs.Lawful.{LeavesNewest, RunsBelow, begins_above, fits_below, lawful_below}
use Rattle.erm_causes.specs.Touched.{AreOfTables}
use Rattle.erm_causes.proofs.Coloured.{KeepsTables, after_commits}
use Rattle.erm_told_limits.proofs.Given.{HistoryLaws}

-- rows on which a transaction may have begun, of which each object is of its table
pub record BeganOn (table : ℕ → ℕ) (w : Work) : Type 0 where
  pub rows : Rows
  pub sound : IsSound rows
  pub fits : FitsWork sound_law w rows
  pub are : AreOfTables table rows

-- what the commits of a world leave stays with its tables
abbrev pub CommitsKeep : (ℕ → ℕ) → View → Type 0
CommitsKeep table v = (seat : ℕ) (f : Finished) (stamp : ℕ) → IsSession v seat → f ∈ (v.session seat).over → stamp_of f.fate ≡ Some stamp → KeepsTables table f.work

-- the same of the commits below a bound
abbrev pub KeepBelow : (ℕ → ℕ) → View → ℕ → Type 0
KeepBelow table v bound = (seat : ℕ) (f : Finished) (stamp : ℕ) → IsSession v seat → f ∈ (v.session seat).over → stamp_of f.fate ≡ Some stamp → stamp < bound → KeepsTables table f.work

module _ (laws : HistoryLaws) (table : ℕ → ℕ) (v : View) (holds : IsSerializable sound_law v) (opened : AreOfTables table v.opening.rows) where
  keeps_of : (bound : ℕ) → KeepBelow table v bound → (t : TransactionRecord) → t ∈ history_of v → t.stamp < bound → KeepsTables table (work_in t)
  keeps_of bound keep t within less =
      let own : IsCommitOf v t = (tells_commits v).only t within in
      subst (λ (w : Work). KeepsTables table w) (ap work_in (sym own.is))
      (keep own.seat (record { work = own.work; fate = world.commits own.stamp own.succ own.pred }) own.stamp own.session own.over refl
      (subst (λ (r : TransactionRecord). r.stamp < bound) own.is less))

  pub began_below : (seat : ℕ) (w : Work) → IsSession v seat → Has v seat w → KeepBelow table v w.begin → BeganOn table w
  began_below seat w session has keep =
      let certified = laws.certified (history_of v) holds.certified w.begin in
      let found = laws.exists (below w.begin (history_of v)) certified in
      let order = found.0 in
      let runs : RunsBelow v w.begin order = record {
        serial = found.1;
        run = laws.run_below (history_of v) v.opening.rows holds.snapshots holds.certified w.begin order found.1;
        one_row = laws.row (below w.begin (history_of v)) v.opening.rows (laws.snapshot (history_of v) v.opening.rows holds.snapshots w.begin) certified;
      } in
      let leaves : LeavesNewest v w.begin order = record {
        newest = laws.newest_below (history_of v) v.opening.rows holds.snapshots holds.certified w.begin order found.1 (begins_above sound_law v holds seat w session has);
        one = λ oid stamp other_stamp row other first second.
            (laws.newest (history_of v) v.opening.rows holds.snapshots holds.certified oid w.begin stamp other_stamp row other first second).1;
      } in
      let fits : FitsWork sound_law w (rows_after order v.opening.rows) = fits_below sound_law v holds seat w session has order runs leaves in
      record {
        rows = rows_after order v.opening.rows;
        sound = fits.meets;
        fits = fits;
        are = after_commits table order v.opening.rows (lawful_below sound_law v holds w.begin order runs).0
            (λ t m.
            let there = in_below (history_of v) w.begin t (∈-permutation t order (below w.begin (history_of v)) (IsPermutation-sym (below w.begin (history_of v)) order found.1.same) m) in
            keeps_of w.begin keep t there.0 there.1)
            opened;
      }

  pub began_on : CommitsKeep table v → (seat : ℕ) (w : Work) → IsSession v seat → Has v seat w → BeganOn table w
  began_on keep seat w session has = began_below seat w session has (λ q f stamp of within is less. keep q f stamp of within is)
