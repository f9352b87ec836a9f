-- A history is certified where each of its transactions, one after another, has a new stamp and an open window.
use Rattle.std.proofs.Common.{◌≡◌, ℕ, ◌<◌, ◌≤◌, ⊎_elim, inl, inr, Bool, IsTrue, ◌↔◌, Some, slice_get, length, refl, sym, subst, ◌∙◌, arith}
use Rattle.std.proofs.lemmas.Bool.{cases_order}
use Rattle.std.proofs.lemmas.Option.{slice_get_within}
use Rattle.erm_model.specs.declared.history.TransactionRecord.{TransactionRecord}
use Rattle.erm_model.specs.Member.{◌∈◌}
use Rattle.erm_model.specs.History.{History, CountsForSucc, CountsForPred, IsSuccessorStamp, IsPredecessorStamp, IsCertified}
use Rattle.erm_slow.specs.Slow.{HasSuccessorStamp, HasOpenWindow, IsNewStamp, IsOpenAt}
use Rattle.erm_slow.proofs.Scans.{number_by}
use Rattle.erm_core_ssn.proofs.SomeNumbers.{some_numbers}

-- the carried number is the computed one
pub same_succ : (h : History) (t : TransactionRecord) (n : ℕ) → t ∈ h → HasSuccessorStamp h t n → HasSuccessorStamp h t t.succ → t.succ ≡ n
same_succ h t n there computed carried =
    carried.2 ∙ sym (number_by h carried.0 carried.1 t n there computed)

no_greater : (h : History) (t : TransactionRecord) (p q : ℕ) → IsPredecessorStamp h p t → IsPredecessorStamp h q t → p ≤ q
no_greater h t p q first second =
    ⊎_elim
    (λ (none : p ≡ 0). omega (arith, none))
    (λ (of : (u : TransactionRecord) × CountsForPred h t u × (p ≡ u.stamp)). omega (arith, of.2, second.at_least_each of.0 of.1))
    first.attained

pub same_pred : (h : History) (t : TransactionRecord) (p q : ℕ) → IsPredecessorStamp h p t → IsPredecessorStamp h q t → p ≡ q
same_pred h t p q first second = omega (arith, no_greater h t p q first second, no_greater h t q p second first)

-- what a transaction carries leaves its window open just where it carries the computed stamps with one below the other
pub open_by_stamps : (h : History) (place : ℕ) (t : TransactionRecord) (succ pred : ℕ) (b : Bool) → slice_get h place ≡ Some t → HasSuccessorStamp h t succ → IsPredecessorStamp h pred t → (IsTrue b ↔ ((t.succ ≡ succ) × (t.pred ≡ pred) × (t.pred < t.succ))) → IsTrue b ↔ IsOpenAt h place
open_by_stamps h place t succ pred b at has_succ has_pred carries = (
  (λ holds u at_u.
      let told = carries.0 holds in
      let one : t ≡ u = cc in
      let window : HasOpenWindow h t = record {
        succ = (has_succ.0, has_succ.1, told.0 ∙ has_succ.2);
        pred = subst (λ p. IsPredecessorStamp h p t) (sym told.1) has_pred;
        window = told.2;
      }
      in
      subst (λ x. HasOpenWindow h x) one window),
  λ windows.
      let window = windows t at in
      carries.1 (same_succ h t succ (place, at) has_succ window.succ, same_pred h t t.pred pred window.pred has_pred, window.window),
)

-- numbers that agree with the successor stamps of a history are its successor stamps
agreeing : (h : History) (f g : TransactionRecord → ℕ) → ((u : TransactionRecord) → u ∈ h → g u ≡ f u) → (t : TransactionRecord) → t ∈ h → IsSuccessorStamp h f t → IsSuccessorStamp h g t
agreeing h f g agree t there stamp = record {
  at_most_own = omega (arith, agree t there, stamp.at_most_own);
  at_most_each = λ u counts. omega (arith, agree t there, agree u counts.0, stamp.at_most_each u counts);
  attained =
      ⊎_elim
      (λ (own : f t ≡ t.stamp). inl (agree t there ∙ own))
      (λ (of : (u : TransactionRecord) × CountsForSucc h t u × (f t ≡ f u)). inr (of.0, of.1, agree t there ∙ of.2 ∙ sym (agree of.0 of.1.0)))
      stamp.attained;
}

pub certified_from : (h : History) → ((k : ℕ) → k < length h → IsNewStamp h k × IsOpenAt h k) → IsCertified h
certified_from h each =
    let window : (t : TransactionRecord) → t ∈ h → HasOpenWindow h t = λ t there. (each there.0 (slice_get_within h there.0 t there.1)).1 t there.1 in
    let numbers = some_numbers h in
    record {
      differ = λ i j t u at_i at_j same.
          ⊎_elim
          (λ (e : i ≡ j). e)
          (⊎_elim
          (λ (less : i < j). absurd ((each j (slice_get_within h j u at_j)).0 i u t at_j less at_i same))
          (λ (more : j < i). absurd ((each i (slice_get_within h i t at_i)).0 j t u at_i more at_j (sym same))))
          (cases_order i j);
      succ = λ t there.
          agreeing h numbers.0 (λ u. u.succ) (λ u of_u. number_by h numbers.0 numbers.1 u u.succ of_u (window u of_u).succ) t there (numbers.1 t there);
      pred = λ t there. (window t there).pred;
      window = λ t there. (window t there).window;
    }

pub new_of_certified : (h : History) (k : ℕ) → IsCertified h → IsNewStamp h k
new_of_certified h k certified j t u at_k less at_j same = omega (arith, less, certified.differ j k u t at_j at_k same)

pub open_of_certified : (h : History) (k : ℕ) → IsCertified h → IsOpenAt h k
open_of_certified h k certified t at = record {
  succ = ((λ u. u.succ), certified.succ, refl);
  pred = certified.pred t (k, at);
  window = certified.window t (k, at);
}
