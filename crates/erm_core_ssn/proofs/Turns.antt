-- The rows in a serial run of lawful transactions: at its turn each transaction fits them, and so they meet the law.
use Rattle.std.proofs.Common.{◌≡◌, ℕ, ◌+◌, ◌<◌, ◌≤◌, List, [], ◌∷◌, nat_lt, sym, subst, arith}
use Rattle.std.proofs.Math.Path.{fun_ext}
use Rattle.std.proofs.lemmas.Bool.{cond_both}
use Rattle.std.proofs.lemmas.List.Sorted.{IsPermutation-sym, sum_by-IsPermutation}
use Rattle.std.proofs.lemmas.List.Sums.{sum_by-cons}
use Rattle.erm_model.specs.declared.history.TransactionRecord.{TransactionRecord}
use Rattle.erm_model.specs.declared.history.VersionWritten.{VersionWritten}
use Rattle.erm_model.specs.History.{FindsItsRows, HasNewestRows, History, IsCertified, IsSnapshot, IsVersion, RunsSerially, after_writes, below, rank_of, rows_after}
use Rattle.erm_model.specs.Lawful.{Fits, IsLawfulRecord, times_made}
use Rattle.erm_model.specs.Member.{◌∈◌}
use Rattle.erm_model.specs.RowTransaction.{Law}
use Rattle.erm_model.specs.Rows.{Rows}
use Rattle.erm_model.specs.SerialOrder.{IsSerialOrder}
use Rattle.erm_model.proofs.Members.{∈-behind}
use Rattle.erm_machine.proofs.Listed.{∈-head}
use Rattle.erm_core_ssn.specs.Laws.{KeepsLaw, made_in_history}
use Rattle.erm_core_ssn.proofs.Members.{∈-permutation}
use Rattle.erm_core_ssn.proofs.Prefixes.{in_below, version_below}
use Rattle.erm_core_ssn.proofs.RowsRun.{one_newest}

-- each transaction fits the rows that those before it leave
abbrev pub FitInTurn : Law → Rows → History → Type 0
FitInTurn law rows [] = Unit {0}
FitInTurn law rows (t ∷ ts) = Fits law t rows × FitInTurn law (after_writes t.writes rows) ts

-- The rows reach no object that these transactions will make, and none that is made besides; and each is made once.
abbrev pub AreNew : Law → (ℕ → ℕ) → History → Rows → Type 0
AreNew law more rest rows = (x : ℕ) → 0 < made_in_history rest x + more x → law.reach rows x + (made_in_history rest x + more x) ≤ 1

-- a transaction keeps the law, and what its claims found are versions of the history
pub record IsKept (law : Law) (h : History) (opening : Rows) (t : TransactionRecord) : Type 0 where
  pub lawful : IsLawfulRecord law t
  pub bases : (c : VersionWritten) → c ∈ t.writes → IsVersion h opening c.oid c.stamp c.base

-- what the first one made, and the others
made_first : (t : TransactionRecord) (rest : History) (x : ℕ) → made_in_history (t ∷ rest) x ≡ times_made t.made x + made_in_history rest x
made_first t rest x = sum_by-cons (λ (u : TransactionRecord). times_made u.made x) t rest

module _ (law : Law) (h : History) (opening : Rows) (one_row : (oid stamp : ℕ) (row other : List ℕ) → IsVersion h opening oid stamp row → IsVersion h opening oid stamp other → row ≡ other) (more : ℕ → ℕ) where
  -- at its turn a transaction fits the rows, and what the later ones make stays new
  fits : (t : TransactionRecord) (rest : History) (rows : Rows) → FindsItsRows h opening rows t → IsKept law h opening t → law.meets rows → AreNew law more (t ∷ rest) rows → Fits law t rows
  fits t rest rows finds kept meets new = record {
    meets = meets;
    reads = finds.reads;
    claims = λ c m. one_row c.oid c.stamp (rows c.oid) c.base (finds.writes c m) (kept.bases c m);
    unreached = λ x made.
        let first = made_first t rest x in
        let all : law.reach rows x + (made_in_history (t ∷ rest) x + more x) ≤ 1 = new x (omega (arith, first, made)) in
        omega (arith, first, made, all);
  }

  still_new : (t : TransactionRecord) (rest : History) (rows : Rows) → Fits law t rows → IsKept law h opening t → AreNew law more (t ∷ rest) rows → AreNew law more rest (after_writes t.writes rows)
  still_new t rest rows fit kept new x made =
      let first = made_first t rest x in
      let all : law.reach rows x + (made_in_history (t ∷ rest) x + more x) ≤ 1 = new x (omega (arith, first, made)) in
      let grown : law.reach (after_writes t.writes rows) x ≤ law.reach rows x + times_made t.made x = kept.lawful.reach rows x fit in
      omega (arith, first, all, grown)

  -- one after another, each fits
  pub turns : (rest : History) (rows : Rows) → RunsSerially h opening rows rest → ((t : TransactionRecord) → t ∈ rest → IsKept law h opening t) → law.meets rows → AreNew law more rest rows → FitInTurn law rows rest × law.meets (rows_after rest rows) × AreNew law more [] (rows_after rest rows)
  turns [] rows run kept meets new = (tt, meets, new)
  turns (t ∷ rest) rows run kept meets new =
      let own = kept t (∈-head t rest) in
      let fit = fits t rest rows run.0 own meets new in
      let next = turns rest (after_writes t.writes rows) run.1 (λ u m. kept u (∈-behind t rest u m)) (own.lawful.meets rows fit) (still_new t rest rows fit own new) in
      ((fit, next.0), next.1, next.2)

-- what commits below a stamp made is no more than what all made
below_made : (bound : ℕ) (h : History) (x : ℕ) → made_in_history (below bound h) x ≤ made_in_history h x
below_made bound [] x = omega arith
below_made bound (t ∷ h) x =
    let rest = below_made bound h x in
    let all = made_first t h x in
    cond_both (nat_lt t.stamp bound) (t ∷ below bound h) (below bound h) (λ l. made_in_history l x ≤ made_in_history (t ∷ h) x)
    (λ _. let one = made_first t (below bound h) x in omega (arith, one, all, rest))
    (λ _. omega (arith, all, rest))

-- what the laws of histories say of what a history has below a stamp, in its serial order
pub record RunsBelow (h : History) (opening : Rows) (bound : ℕ) (order : History) : Type 0 where
  pub serial : IsSerialOrder rank_of (below bound h) order
  pub run : RunsSerially (below bound h) opening opening order
  pub newest : HasNewestRows h opening bound (rows_after order opening)
  pub one_row : (oid stamp : ℕ) (row other : List ℕ) → IsVersion (below bound h) opening oid stamp row → IsVersion (below bound h) opening oid stamp other → row ≡ other

module _ (law : Law) (h : History) (opening : Rows) (snapshot : IsSnapshot h opening) (certified : IsCertified h) (keeps : KeepsLaw law h opening) where
  kept_below : (bound : ℕ) (t : TransactionRecord) → t ∈ below bound h → IsKept law (below bound h) opening t
  kept_below bound t m =
      let there = in_below h bound t m in
      record {
        lawful = keeps.lawful t there.0;
        bases = λ w of_w.
            let first = ((snapshot t there.0).writes w of_w).first in
            let sealed = (snapshot t there.0).sealed in
            let low = there.1 in
            version_below h bound opening w.oid w.stamp w.base (keeps.bases t w there.0 of_w) (omega (arith, first, sealed, low));
      }

  lawful_order : (bound : ℕ) (order : History) → RunsBelow h opening bound order → law.meets (rows_after order opening)
  lawful_order bound order runs =
      (turns law (below bound h) opening runs.one_row (λ _. 0) order opening runs.run
      (λ t m. kept_below bound t (∈-permutation t order (below bound h) (IsPermutation-sym (below bound h) order runs.serial.same) m)) keeps.meets
      (λ x made.
      let same : made_in_history order x ≡ made_in_history (below bound h) x = sum_by-IsPermutation (λ (t : TransactionRecord). times_made t.made x) (below bound h) order runs.serial.same in
      let within = below_made bound h x in
      let new = keeps.new x (omega (arith, made, same, within)) in
      omega (arith, same, within, new))).1

  -- the newest rows below a stamp are those that this run leaves
  pub newest_lawful : (bound : ℕ) (rows : Rows) (order : History) → RunsBelow h opening bound order → HasNewestRows h opening bound rows → law.meets rows
  newest_lawful bound rows order runs holds =
      let same : rows ≡ rows_after order opening =
      fun_ext (λ oid.
      (one_newest h opening snapshot certified oid bound (holds oid).0 (runs.newest oid).0 (rows oid) (rows_after order opening oid) (holds oid).1 (runs.newest oid).1).1)
      in
      subst law.meets (sym same) (lawful_order bound order runs)
