-- What is safe of those that had begun is safe of all.
use Rattle.std.proofs.Common.{◌≡◌, ℕ, zero, suc, ◌+◌, ◌<◌, ◌≤◌, ⊎_elim, arith}
use Rattle.std.proofs.lemmas.Bool.{cases_lt}
use Rattle.erm_model.specs.declared.history.TransactionRecord.{TransactionRecord}
use Rattle.erm_model.specs.History.{CountsForSucc, History, IsCertified, IsSnapshot, Makes, Overwrites}
use Rattle.erm_model.specs.Member.{◌∈◌}
use Rattle.erm_model.specs.Rows.{Rows}
use Rattle.erm_core_ssn.proofs.Forward.{overwrite_below}
use Rattle.erm_model.specs.Safe.{IsSafeAt}
use Rattle.erm_safe_laws.specs.Safe.{AreLate}

-- who overwrites a version makes one of its object
makes_there : (u : TransactionRecord) (oid stamp : ℕ) → Overwrites u oid stamp → Makes u oid
makes_there u oid stamp over = (over.0, over.1, over.2)

module _ (h : History) (opening : Rows) (snapshot : IsSnapshot h opening) (certified : IsCertified h) (b : ℕ) (safe : IsSafeAt h b) where
  -- who overwrote what a transaction read committed at or above its begin stamp
  counts_above : (t u : TransactionRecord) → t ∈ h → CountsForSucc h t u → t.begin ≤ u.stamp
  counts_above t u of_t counts =
      let over = counts.2 in
      let read = (snapshot t of_t).reads over.0 over.1 in
      let above = overwrite_below h opening snapshot certified u over.0.oid over.0.stamp counts.0 over.2 in
      ⊎_elim
      (λ (early : u.stamp < t.begin). let upto = read.newest u counts.0 (makes_there u over.0.oid over.0.stamp over.2) early in absurd (omega (arith, above, upto)))
      (λ (late : t.begin ≤ u.stamp). late)
      (cases_lt u.stamp t.begin)

  late_below : (n : ℕ) (t : TransactionRecord) → t ∈ h → t.stamp < n → b ≤ t.stamp → b ≤ t.succ
  late_below zero t of_t low above = absurd (omega (arith, low))
  late_below (suc n) t of_t low above =
      ⊎_elim
      (λ (early : t.begin < b). safe t of_t early above)
      (λ (later : b ≤ t.begin).
      ⊎_elim
      (λ (own : t.succ ≡ t.stamp). omega (arith, own, above))
      (λ (by : (u : TransactionRecord) × CountsForSucc h t u × (t.succ ≡ u.succ)).
      let up = counts_above t by.0 of_t by.1 in
      let less = by.1.1 in
      let same = by.2 in
      let rest = late_below n by.0 by.1.0 (omega (arith, less, low)) (omega (arith, later, up)) in
      omega (arith, same, rest))
      (certified.succ t of_t).attained)
      (cases_lt t.begin b)

  pub are_late : AreLate h b
  are_late t of_t above = late_below (t.stamp + 1) t of_t (omega arith) above
