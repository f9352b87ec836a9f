-- A key that was put has its record in the rows that the commits below a stamp leave.
use Rattle.std.proofs.Common.{◌≡◌, ℕ, ◌<◌, true, List, [], ◌∷◌, Some, inl, inr, sym, subst}
use Rattle.std.proofs.lemmas.List.Sorted.{IsPermutation-sym}
use Rattle.erm_model.specs.declared.history.TransactionRecord.{TransactionRecord}
use Rattle.erm_model.specs.History.{History, after_writes, below, rows_after}
use Rattle.erm_model.specs.Member.{◌∈◌}
use Rattle.erm_model.specs.Rows.{Rows}
use Rattle.erm_model.proofs.Members.{none_in_nil, ∈-behind}
use Rattle.erm_machine.proofs.Listed.{∈-cons, ∈-head}
use Rattle.erm_core_ssn.proofs.Members.{∈-permutation}
use Rattle.erm_core_ssn.proofs.Prefixes.{in_below, in_below_from}
use Rattle.erm_core_ssn.proofs.Turns.{FitInTurn}
use Rattle.erm_node.specs.Sound.{IsSound, sound_law}
use Rattle.erm_node.specs.TreeMap.{record_in}
use Rattle.erm_world.specs.Laws.{FitsWork, IsSerializable}
use Rattle.erm_world.specs.Works.{is_claimed}
use Rattle.erm_world.specs.World.{Has, IsSession, View, Work, history_of}
use Rattle.erm_maps.proofs.Histories.{work_in}
use Rattle.erm_maps.proofs.Lawful.{LeavesNewest, RunsBelow, fits_below, lawful_below}
use Rattle.erm_good_report.specs.Transactions.{Exchange}
use Rattle.erm_tight.proofs.Calls.{KeepsRecords}
use Rattle.erm_tight.proofs.Marks.{HasPut, Marks, OnFit, Puts}
use Rattle.erm_told_limits.proofs.Given.{HistoryLaws}

-- a commit's lines tell what it touched
abbrev pub IsTold : TransactionRecord → Type 0
IsTold t = (lines : List Exchange) × Marks lines (work_in t)

-- commits in turn keep each key's record
pub kept_in_turn : (order : History) (rows : Rows) → FitInTurn sound_law rows order → ((t : TransactionRecord) → t ∈ order → IsTold t) → KeepsRecords rows (rows_after order rows)
kept_in_turn [] rows fit told table key x below_tables is = is
kept_in_turn (t ∷ order) rows fit told table key x below_tables is =
    let fits : FitsWork sound_law (work_in t) rows = record { meets = fit.0.meets; reads = fit.0.reads; claims = fit.0.claims; unreached = fit.0.unreached } in
    kept_in_turn order (after_writes t.writes rows) fit.1 (λ u m. told u (∈-behind t order u m)) table key x below_tables
    ((told t (∈-head t order)).1.kept rows fit.0.meets fits table key x below_tables is)

-- a key's record that a commit has claimed
abbrev pub PutBy : TransactionRecord → ℕ → ℕ → ℕ → Rows → Type 0
PutBy u table key x rows = (record_in rows table key ≡ Some x) × (is_claimed u.writes x ≡ true)

pub put_in_turn : (order : History) (rows : Rows) → FitInTurn sound_law rows order → ((t : TransactionRecord) → t ∈ order → IsTold t) → (u : TransactionRecord) → u ∈ order
    → (table key : ℕ) (put : Puts (work_in u) table key) → PutBy u table key put.1.0 (rows_after order rows)
put_in_turn [] rows fit told u within table key put = absurd (none_in_nil u within)
put_in_turn (t ∷ order) rows fit told u within table key put =
    let later : (r : TransactionRecord) → r ∈ order → IsTold r = λ r m. told r (∈-behind t order r m) in
    elim (∈-cons u t order within) as (λ _. PutBy u table key put.1.0 (rows_after order (after_writes t.writes rows))) [
      | inl here ↦
          let put_t : OnFit (work_in t) (HasPut (work_in t) table key put.1.0) = subst (λ (r : TransactionRecord). OnFit (work_in r) (HasPut (work_in r) table key put.1.0)) (sym here) put.1.1 in
          let fits : FitsWork sound_law (work_in t) rows = record { meets = fit.0.meets; reads = fit.0.reads; claims = fit.0.claims; unreached = fit.0.unreached } in
          let has = put_t rows fit.0.meets fits in
          (kept_in_turn order (after_writes t.writes rows) fit.1 later table key put.1.0 put.0 has.0, subst (λ (r : TransactionRecord). is_claimed r.writes put.1.0 ≡ true) here has.1)
      | inr there ↦ put_in_turn order (after_writes t.writes rows) fit.1 later u there table key put
    ]

-- The rows that the commits below a stamp leave.
pub record RowsBelow (v : View) (bound : ℕ) : Type 0 where
  pub rows : Rows
  pub sound : IsSound rows
  pub fits : (seat : ℕ) (w : Work) → IsSession v seat → Has v seat w → w.begin ≡ bound → FitsWork sound_law w rows
  pub put : (u : TransactionRecord) → u ∈ history_of v → u.stamp < bound → (table key : ℕ) (put : Puts (work_in u) table key) → PutBy u table key put.1.0 rows

module _ (laws : HistoryLaws) (v : View) (holds : IsSerializable sound_law v) (told : (t : TransactionRecord) → t ∈ history_of v → IsTold t) where
  pub rows_below : (bound : ℕ) → 0 < bound → RowsBelow v bound
  rows_below bound above =
      let certified = laws.certified (history_of v) holds.certified bound in
      let found = laws.exists (below bound (history_of v)) certified in
      let order = found.0 in
      let runs : RunsBelow v bound order = record {
        serial = found.1;
        run = laws.run_below (history_of v) v.opening.rows holds.snapshots holds.certified bound order found.1;
        one_row = laws.row (below bound (history_of v)) v.opening.rows (laws.snapshot (history_of v) v.opening.rows holds.snapshots bound) certified;
      } in
      let leaves : LeavesNewest v bound order = record {
        newest = laws.newest_below (history_of v) v.opening.rows holds.snapshots holds.certified bound order found.1 above;
        one = λ oid stamp other_stamp row other first second.
            (laws.newest (history_of v) v.opening.rows holds.snapshots holds.certified oid bound stamp other_stamp row other first second).1;
      } in
      let turn = lawful_below sound_law v holds bound order runs in
      let member : (t : TransactionRecord) → t ∈ order → IsTold t = λ t m.
      told t (in_below (history_of v) bound t (∈-permutation t order (below bound (history_of v)) (IsPermutation-sym (below bound (history_of v)) order found.1.same) m)).0 in
      record {
        rows = rows_after order v.opening.rows;
        sound = turn.1;
        fits = λ seat w session has is.
            fits_below sound_law v holds seat w session has order (subst (λ (n : ℕ). RunsBelow v n order) (sym is) runs) (subst (λ (n : ℕ). LeavesNewest v n order) (sym is) leaves);
        put = λ u within less table key puts.
            put_in_turn order v.opening.rows turn.0 member u (∈-permutation u (below bound (history_of v)) order found.1.same (in_below_from (history_of v) bound u within less)) table key puts;
      }
