-- Dependencies go forward in the serial order.
use Rattle.std.proofs.Common.{◌≡◌, ℕ, ◌<◌, ◌≤◌, ◌⊎◌, ⊎_elim, Some, slice_get, inl, inr, refl, arith}
use Rattle.std.proofs.lemmas.List.Sorted.{IsPermutation-sym}
use Rattle.std.proofs.lemmas.Bool.{cases_order}
use Rattle.erm_model.specs.declared.history.TransactionRecord.{TransactionRecord}
use Rattle.erm_model.specs.declared.history.VersionRead.{VersionRead}
use Rattle.erm_model.specs.Member.{◌∈◌}
use Rattle.erm_model.specs.SerialOrder.{ComesBefore, IsSerialOrder}
use Rattle.erm_model.specs.History.{History, IsSnapshot, IsCertified, Depends, ReadsFrom, OverwritesFrom, OverwritesReadOf, Overwrites, rank_of}
use Rattle.erm_model.specs.Rows.{Rows}
use Rattle.erm_core_ssn.specs.Laws.{StandsAfterItsDependencies}
use Rattle.erm_core_ssn.proofs.Members.{∈-permutation}
use Rattle.erm_core_ssn.proofs.Orders.{place_before}

-- T read the version of this object that has this stamp
abbrev pub Reads : TransactionRecord → ℕ → ℕ → Type 0
Reads t oid stamp = (r : VersionRead) × (r ∈ t.reads) × (r.oid ≡ oid) × (r.stamp ≡ stamp)

module _ (h : History) (opening : Rows) (snapshot : IsSnapshot h opening) (certified : IsCertified h) where
  -- whoever counts for a predecessor stamp comes before
  counts_before : (t u : TransactionRecord) → t ∈ h → u ∈ h → t.stamp < u.stamp → (ReadsFrom u t ⊎ OverwritesFrom u t ⊎ OverwritesReadOf u t) → ComesBefore (rank_of t) (rank_of u)
  counts_before t u of_t of_u below how =
      inl (omega (arith, (certified.succ t of_t).at_most_own, (certified.pred u of_u).at_least_each t (of_t, below, how), certified.window u of_u))

  -- a version read or overwritten has a smaller stamp than the reader or overwriter
  pub read_below : (u : TransactionRecord) (oid stamp : ℕ) → u ∈ h → Reads u oid stamp → stamp < u.begin
  read_below u oid stamp of_u read = omega (arith, ((snapshot u of_u).reads read.0 read.1).below, read.3)

  pub overwrite_below : (u : TransactionRecord) (oid stamp : ℕ) → u ∈ h → Overwrites u oid stamp → stamp < u.stamp
  overwrite_below u oid stamp of_u over = omega (arith, ((snapshot u of_u).writes over.0 over.1).newest.below, over.3)

  -- a reader comes before another transaction that overwrote what it read, whichever of the two committed first
  reader_before : (t u : TransactionRecord) → t ∈ h → u ∈ h → (t.stamp ≡ u.stamp → ⊥) → OverwritesReadOf u t → ComesBefore (rank_of t) (rank_of u)
  reader_before t u of_t of_u other how =
      ⊎_elim
      (λ (same : t.stamp ≡ u.stamp). absurd (other same))
      (⊎_elim
      (λ (below : t.stamp < u.stamp). counts_before t u of_t of_u below (inr (inr how)))
      (λ (above : u.stamp < t.stamp).
      let at_most : t.succ ≤ u.succ = (certified.succ t of_t).at_most_each u (of_u, above, how) in
      grind arith))
      (cases_order t.stamp u.stamp)

  -- a transaction comes before each one that depends on it
  pub goes_forward : (t u : TransactionRecord) → t ∈ h → u ∈ h → Depends t u → ComesBefore (rank_of t) (rank_of u)
  goes_forward t u of_t of_u depends =
      ⊎_elim
      (λ (read : ReadsFrom u t).
      counts_before t u of_t of_u (omega (arith, read_below u read.0.oid t.stamp of_u (read.0, read.1, refl, read.2), (snapshot u of_u).sealed)) (inl read))
      (⊎_elim
      (λ (over : OverwritesFrom u t). counts_before t u of_t of_u (overwrite_below u over.0.oid t.stamp of_u (over.0, over.1, refl, over.2)) (inr (inl over)))
      (λ (over : OverwritesReadOf u t). reader_before t u of_t of_u depends.0 over))
      depends.1

  -- in each serial order a transaction stands behind each one that it depends on
  pub goes_forward_by_place : (order : History) → IsSerialOrder rank_of h order → StandsAfterItsDependencies order
  goes_forward_by_place order serial i j t u at_i at_j depends =
      place_before rank_of order serial.ascends i j t u at_i at_j (goes_forward t u (came_from t i at_i) (came_from u j at_j) depends)
    where
      came_from : (x : TransactionRecord) (k : ℕ) → slice_get order k ≡ Some x → x ∈ h
      came_from x k at_k = ∈-permutation x order h (IsPermutation-sym h order serial.same) (k, at_k)
