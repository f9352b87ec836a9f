-- Scans of a history for the transactions that count for a successor or predecessor stamp.
use Rattle.std.proofs.Common.{◌≡◌, ℕ, zero, suc, ◌+◌, ◌<◌, ◌≤◌, ◌⊎◌, ⊎_elim, inl, inr, min, max, [], ◌∷◌, Some, slice_get, length, refl, ap, ◌∙◌, subst, arith}
use Rattle.std.proofs.lemmas.Bool.{cases_eq, cases_lt}
use Rattle.std.proofs.lemmas.Option.{slice_get_within}
use Rattle.erm_model.specs.declared.history.TransactionRecord.{TransactionRecord}
use Rattle.erm_model.specs.Member.{◌∈◌}
use Rattle.erm_model.specs.History.{History, ReadsFrom, OverwritesFrom, OverwritesReadOf, CountsForSucc, CountsForPred, IsSuccessorStamp, IsPredecessorStamp}
use Rattle.erm_core_ssn.specs.Laws.{AreSuccessorStamps}
use Rattle.erm_slow.specs.Slow.{HasSuccessorStamp}
use Rattle.erm_core_ssn.proofs.Successors.{one_numbering}

-- the stamp of the transaction at a place, which falls from one call to the next
abbrev pub stamp_at : History → ℕ → ℕ
stamp_at [] k = 0
stamp_at (t ∷ h) zero = t.stamp
stamp_at (t ∷ h) (suc k) = stamp_at h k

pub stamp_at-Some : (h : History) (k : ℕ) (t : TransactionRecord) → slice_get h k ≡ Some t → stamp_at h k ≡ t.stamp
stamp_at-Some [] k t at = cc
stamp_at-Some (u ∷ h) zero t at =
    let e : u ≡ t = cc in ap (λ (x : TransactionRecord). x.stamp) e
stamp_at-Some (u ∷ h) (suc k) t at = stamp_at-Some h k t at

-- the least number so far, over the transactions before a place
pub record IsLeastSoFar (h : History) (succ : TransactionRecord → ℕ) (t : TransactionRecord) (place least : ℕ) : Type 0 where
  pub at_most_own : least ≤ t.stamp
  pub at_most_each : (k : ℕ) (u : TransactionRecord) → k < place → slice_get h k ≡ Some u → u.stamp < t.stamp → OverwritesReadOf u t → least ≤ succ u
  pub attained : (least ≡ t.stamp) ⊎ ((u : TransactionRecord) × CountsForSucc h t u × (least ≡ succ u))

pub least_of_none : (h : History) (succ : TransactionRecord → ℕ) (t : TransactionRecord) → IsLeastSoFar h succ t 0 t.stamp
least_of_none h succ t = record {
  at_most_own = omega arith;
  at_most_each = λ k u low _ _ _. absurd (omega (arith, low));
  attained = inl refl;
}

-- the transaction at the place counts
pub least_with : (h : History) (succ : TransactionRecord → ℕ) (t : TransactionRecord) (place least : ℕ) (u : TransactionRecord) (n : ℕ) → IsLeastSoFar h succ t place least → slice_get h place ≡ Some u → u.stamp < t.stamp → OverwritesReadOf u t → n ≡ succ u → IsLeastSoFar h succ t (place + 1) (min least n)
least_with h succ t place least u n before at low over is = record {
  at_most_own = omega (arith, before.at_most_own);
  at_most_each = λ k v less at_k low_v over_v.
      ⊎_elim
      (λ (e : k ≡ place).
      let one : u ≡ v = cc in
      subst (λ (x : TransactionRecord). min least n ≤ succ x) one (omega (arith, is)))
      (λ (other : k ≡ place → ⊥). omega (arith, before.at_most_each k v (omega (arith, less, other)) at_k low_v over_v))
      (cases_eq k place);
  attained =
      ⊎_elim
      (λ (less : n < least). inr (u, ((place, at), low, over), omega (arith, is, less)))
      (λ (more : least ≤ n).
      ⊎_elim
      (λ (own : least ≡ t.stamp). inl (omega (arith, own, more)))
      (λ (of : (v : TransactionRecord) × CountsForSucc h t v × (least ≡ succ v)). inr (of.0, of.1, omega (arith, of.2, more)))
      before.attained)
      (cases_lt n least);
}

-- the transaction at the place does not count
pub least_without : (h : History) (succ : TransactionRecord → ℕ) (t : TransactionRecord) (place least : ℕ) (u : TransactionRecord) → IsLeastSoFar h succ t place least → slice_get h place ≡ Some u → (u.stamp < t.stamp → OverwritesReadOf u t → ⊥) → IsLeastSoFar h succ t (place + 1) least
least_without h succ t place least u before at none = record {
  at_most_own = before.at_most_own;
  at_most_each = λ k v less at_k low_v over_v.
      ⊎_elim
      (λ (e : k ≡ place).
      let one : v ≡ u = cc in
      absurd (none (subst (λ (x : TransactionRecord). x.stamp < t.stamp) one low_v) (subst (λ (x : TransactionRecord). OverwritesReadOf x t) one over_v)))
      (λ (other : k ≡ place → ⊥). before.at_most_each k v (omega (arith, less, other)) at_k low_v over_v)
      (cases_eq k place);
  attained = before.attained;
}

-- after all places it is the successor stamp
pub least_of_all : (h : History) (succ : TransactionRecord → ℕ) (t : TransactionRecord) (place least : ℕ) → length h ≤ place → IsLeastSoFar h succ t place least → IsSuccessorStamp h succ t → least ≡ succ t
least_of_all h succ t place least whole so_far stamp =
    let upto : least ≤ succ t =
    ⊎_elim
    (λ (own : succ t ≡ t.stamp). omega (arith, own, so_far.at_most_own))
    (λ (of : (u : TransactionRecord) × CountsForSucc h t u × (succ t ≡ succ u)).
    omega (arith, of.2, so_far.at_most_each of.1.0.0 of.0 (omega (arith, whole, slice_get_within h of.1.0.0 of.0 of.1.0.1)) of.1.0.1 of.1.1 of.1.2))
    stamp.attained
    in
    let from : succ t ≤ least =
    ⊎_elim
    (λ (own : least ≡ t.stamp). omega (arith, own, stamp.at_most_own))
    (λ (of : (u : TransactionRecord) × CountsForSucc h t u × (least ≡ succ u)). omega (arith, of.2, stamp.at_most_each of.0 of.1))
    so_far.attained
    in
    omega arith

-- the number that some successor stamps give a transaction, all give it
pub number_by : (h : History) (succ : TransactionRecord → ℕ) → AreSuccessorStamps h succ → (t : TransactionRecord) (n : ℕ) → t ∈ h → HasSuccessorStamp h t n → n ≡ succ t
number_by h succ stamps t n there has = has.2 ∙ one_numbering h has.0 succ has.1 stamps t there

-- the greatest stamp so far, over the transactions before a place
abbrev pub Follows : TransactionRecord → TransactionRecord → Type 0
Follows t u = ReadsFrom t u ⊎ OverwritesFrom t u ⊎ OverwritesReadOf t u

pub record IsGreatestSoFar (h : History) (t : TransactionRecord) (place greatest : ℕ) : Type 0 where
  pub at_least_each : (k : ℕ) (u : TransactionRecord) → k < place → slice_get h k ≡ Some u → u.stamp < t.stamp → Follows t u → u.stamp ≤ greatest
  pub attained : (greatest ≡ 0) ⊎ ((u : TransactionRecord) × CountsForPred h t u × (greatest ≡ u.stamp))

pub greatest_of_none : (h : History) (t : TransactionRecord) → IsGreatestSoFar h t 0 0
greatest_of_none h t = record {
  at_least_each = λ k u low _ _ _. absurd (omega (arith, low));
  attained = inl refl;
}

pub greatest_with : (h : History) (t : TransactionRecord) (place greatest : ℕ) (u : TransactionRecord) → IsGreatestSoFar h t place greatest → slice_get h place ≡ Some u → u.stamp < t.stamp → Follows t u → IsGreatestSoFar h t (place + 1) (max greatest u.stamp)
greatest_with h t place greatest u before at low follows = record {
  at_least_each = λ k v less at_k low_v follows_v.
      ⊎_elim
      (λ (e : k ≡ place).
      let one : u ≡ v = cc in
      subst (λ (x : TransactionRecord). x.stamp ≤ max greatest u.stamp) one (omega arith))
      (λ (other : k ≡ place → ⊥). omega (arith, before.at_least_each k v (omega (arith, less, other)) at_k low_v follows_v))
      (cases_eq k place);
  attained =
      ⊎_elim
      (λ (more : greatest < u.stamp). inr (u, ((place, at), low, follows), omega (arith, more)))
      (λ (less : u.stamp ≤ greatest).
      ⊎_elim
      (λ (none : greatest ≡ 0). inl (omega (arith, none, less)))
      (λ (of : (v : TransactionRecord) × CountsForPred h t v × (greatest ≡ v.stamp)). inr (of.0, of.1, omega (arith, of.2, less)))
      before.attained)
      (cases_lt greatest u.stamp);
}

pub greatest_without : (h : History) (t : TransactionRecord) (place greatest : ℕ) (u : TransactionRecord) → IsGreatestSoFar h t place greatest → slice_get h place ≡ Some u → (u.stamp < t.stamp → Follows t u → ⊥) → IsGreatestSoFar h t (place + 1) greatest
greatest_without h t place greatest u before at none = record {
  at_least_each = λ k v less at_k low_v follows_v.
      ⊎_elim
      (λ (e : k ≡ place).
      let one : v ≡ u = cc in
      absurd (none (subst (λ (x : TransactionRecord). x.stamp < t.stamp) one low_v) (subst (λ (x : TransactionRecord). Follows t x) one follows_v)))
      (λ (other : k ≡ place → ⊥). before.at_least_each k v (omega (arith, less, other)) at_k low_v follows_v)
      (cases_eq k place);
  attained = before.attained;
}

pub greatest_of_all : (h : History) (t : TransactionRecord) (place greatest : ℕ) → length h ≤ place → IsGreatestSoFar h t place greatest → IsPredecessorStamp h greatest t
greatest_of_all h t place greatest whole so_far = record {
  at_least_each = λ u counts. so_far.at_least_each counts.0.0 u (omega (arith, whole, slice_get_within h counts.0.0 u counts.0.1)) counts.0.1 counts.1 counts.2;
  attained = so_far.attained;
}
