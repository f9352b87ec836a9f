-- Successor stamps: each history has them.
use Rattle.std.proofs.Common.{◌≡◌, ℕ, zero, suc, ◌+◌, ◌<◌, ◌≤◌, ◌⊎◌, ⊎_elim, inl, inr, List, [], ◌∷◌, cond, ltb, refl, sym, ◌∙◌, subst, arith}
use Rattle.std.proofs.lemmas.Bool.{cases_eq, cases_lt, lt-ltb, le-ltb, cond-true, cond-false}
use Rattle.erm_model.specs.declared.history.TransactionRecord.{TransactionRecord}
use Rattle.erm_model.specs.declared.history.VersionRead.{VersionRead}
use Rattle.erm_model.specs.declared.history.VersionWritten.{VersionWritten}
use Rattle.erm_model.specs.Member.{◌∈◌}
use Rattle.erm_model.specs.History.{History, Overwrites, OverwritesReadOf, CountsForSucc, IsSuccessorStamp}
use Rattle.erm_core_ssn.specs.Laws.{AreSuccessorStamps, AllBelow}
use Rattle.erm_model.proofs.Members.{none_in_nil, ∈-behind}
use Rattle.erm_machine.proofs.Listed.{∈-cons, ∈-head}

-- a list has an element of some kind, or it has none
abbrev HasOne : {X : Type 0} → (X → Type 0) → List X → Type 0
HasOne {X} P xs = (x : X) × (x ∈ xs) × P x

one_or_none : {X : Type 0} (P : X → Type 0) → ((x : X) → P x ⊎ (P x → ⊥)) → (xs : List X) → HasOne P xs ⊎ (HasOne P xs → ⊥)
one_or_none P decide [] = inr (λ one. none_in_nil one.0 one.1)
one_or_none P decide (y ∷ ys) =
    ⊎_elim
    (λ (here : P y). inl (y, ∈-head y ys, here))
    (λ (not_here : P y → ⊥).
    ⊎_elim
    (λ (later : HasOne P ys). inl (later.0, ∈-behind y ys later.0 later.1, later.2))
    (λ (nowhere : HasOne P ys → ⊥).
    inr (λ one. ⊎_elim (λ (e : y ≡ one.0). not_here (subst P (sym e) one.2)) (λ (h : one.0 ∈ ys). nowhere (one.0, h, one.2)) (∈-cons one.0 y ys one.1)))
    (one_or_none P decide ys))
    (decide y)

-- a write overwrote what was read
abbrev IsOver : VersionRead → VersionWritten → Type 0
IsOver r w = (w.oid ≡ r.oid) × (w.stamp ≡ r.stamp)

over_or_not : (r : VersionRead) (w : VersionWritten) → IsOver r w ⊎ (IsOver r w → ⊥)
over_or_not r w =
    ⊎_elim
    (λ (oid : w.oid ≡ r.oid).
    ⊎_elim (λ (stamp : w.stamp ≡ r.stamp). inl (oid, stamp)) (λ (other : w.stamp ≡ r.stamp → ⊥). inr (λ both. other both.1)) (cases_eq w.stamp r.stamp))
    (λ (other : w.oid ≡ r.oid → ⊥). inr (λ both. other both.0))
    (cases_eq w.oid r.oid)

overwrites_one_or_not : (u : TransactionRecord) (r : VersionRead) → Overwrites u r.oid r.stamp ⊎ (Overwrites u r.oid r.stamp → ⊥)
overwrites_one_or_not u r =
    ⊎_elim
    (λ (found : HasOne (IsOver r) u.writes). inl (found.0, found.1, found.2.0, found.2.1))
    (λ (none : HasOne (IsOver r) u.writes → ⊥). inr (λ over. none (over.0, over.1, (over.2, over.3))))
    (one_or_none (IsOver r) (over_or_not r) u.writes)

overwrites_or_not : (u t : TransactionRecord) → OverwritesReadOf u t ⊎ (OverwritesReadOf u t → ⊥)
overwrites_or_not u t =
    one_or_none (λ r. Overwrites u r.oid r.stamp) (overwrites_one_or_not u) t.reads

-- who may count for a successor stamp, wherever it stands
abbrev MayCount : TransactionRecord → TransactionRecord → Type 0
MayCount t u = (u.stamp < t.stamp) × OverwritesReadOf u t

counts_or_not : (t u : TransactionRecord) → MayCount t u ⊎ (MayCount t u → ⊥)
counts_or_not t u =
    ⊎_elim
    (λ (low : u.stamp < t.stamp).
    ⊎_elim (λ (over : OverwritesReadOf u t). inl (low, over)) (λ (none : OverwritesReadOf u t → ⊥). inr (λ both. none both.1)) (overwrites_or_not u t))
    (λ (high : t.stamp ≤ u.stamp). inr (λ both. omega (arith, both.0, high)))
    (cases_lt u.stamp t.stamp)

-- the least of a number and of the numbers of those that count
record IsLeast {X : Type 0} (own : ℕ) (value : X → ℕ) (P : X → Type 0) (xs : List X) (n : ℕ) : Type 0 where
  pub at_most_own : n ≤ own
  pub at_most_each : (x : X) → x ∈ xs → P x → n ≤ value x
  pub attained : (n ≡ own) ⊎ ((x : X) × (x ∈ xs) × P x × (n ≡ value x))

least_of : {X : Type 0} (own : ℕ) (value : X → ℕ) (P : X → Type 0) → ((x : X) → P x ⊎ (P x → ⊥)) → (xs : List X) → (n : ℕ) × IsLeast own value P xs n
least_of own value P decide [] = (
  own,
  record {
    at_most_own = omega arith;
    at_most_each = λ x there _. absurd (none_in_nil x there);
    attained = inl refl;
  },
)
least_of {X} own value P decide (y ∷ ys) =
    let n = (least_of own value P decide ys).0 in
    let least : IsLeast own value P ys n = (least_of own value P decide ys).1 in
    let later : (n ≡ own) ⊎ ((x : X) × (x ∈ (y ∷ ys)) × P x × (n ≡ value x)) =
    ⊎_elim
    (λ (e : n ≡ own). inl e)
    (λ (w : (x : X) × (x ∈ ys) × P x × (n ≡ value x)). inr (w.0, ∈-behind y ys w.0 w.1, w.2, w.3))
    least.attained
    in
    ⊎_elim
    (λ (counts : P y).
    ⊎_elim
    (λ (less : value y < n). (
      value y,
      record {
        at_most_own = omega (arith, least.at_most_own, less);
        at_most_each = λ x there holds.
            ⊎_elim
            (λ (e : y ≡ x). subst (λ v. value y ≤ value v) e (omega arith))
            (λ (h : x ∈ ys). omega (arith, less, least.at_most_each x h holds))
            (∈-cons x y ys there);
        attained = inr (y, ∈-head y ys, counts, refl);
      },
    ))
    (λ (more : n ≤ value y). (
      n,
      record {
        at_most_own = least.at_most_own;
        at_most_each = λ x there holds.
            ⊎_elim
            (λ (e : y ≡ x). subst (λ v. n ≤ value v) e more)
            (λ (h : x ∈ ys). least.at_most_each x h holds)
            (∈-cons x y ys there);
        attained = later;
      },
    ))
    (cases_lt (value y) n))
    (λ (none : P y → ⊥). (
      n,
      record {
        at_most_own = least.at_most_own;
        at_most_each = λ x there holds.
            ⊎_elim
            (λ (e : y ≡ x). absurd (none (subst P (sym e) holds)))
            (λ (h : x ∈ ys). least.at_most_each x h holds)
            (∈-cons x y ys there);
        attained = later;
      },
    ))
    (decide y)

module _ (h : History) where
  -- one more stamp: who is below keeps its number
  step : (bound : ℕ) → (TransactionRecord → ℕ) → TransactionRecord → ℕ
  step bound f t = cond (ltb t.stamp bound) (f t) (least_of t.stamp f (MayCount t) (counts_or_not t) h).0

  step-below : (bound : ℕ) (f : TransactionRecord → ℕ) (t : TransactionRecord) → t.stamp < bound → step bound f t ≡ f t
  unfolding step
  step-below bound f t low =
      cond-true (ltb t.stamp bound) (f t) (least_of t.stamp f (MayCount t) (counts_or_not t) h).0 (lt-ltb t.stamp bound low)

  step-at : (bound : ℕ) (f : TransactionRecord → ℕ) (t : TransactionRecord) → bound ≤ t.stamp → IsLeast t.stamp f (MayCount t) h (step bound f t)
  unfolding step
  step-at bound f t high =
      let least = least_of t.stamp f (MayCount t) (counts_or_not t) h in
      subst (λ n. IsLeast t.stamp f (MayCount t) h n) (sym (cond-false (ltb t.stamp bound) (f t) least.0 (le-ltb t.stamp bound high))) least.1

  -- a numbering that agrees with another below a stamp is the successor stamp there too
  same_numbers : (f g : TransactionRecord → ℕ) (t : TransactionRecord) → ((u : TransactionRecord) → u.stamp < t.stamp → g u ≡ f u) → (n : ℕ) → g t ≡ n → IsLeast t.stamp f (MayCount t) h n → IsSuccessorStamp h g t
  same_numbers f g t agree n is least = record {
    at_most_own = omega (arith, is, least.at_most_own);
    at_most_each = λ u counts. omega (arith, is, agree u counts.1, least.at_most_each u counts.0 (counts.1, counts.2));
    attained =
        ⊎_elim
        (λ (own : n ≡ t.stamp). inl (is ∙ own))
        (λ (of : (u : TransactionRecord) × (u ∈ h) × MayCount t u × (n ≡ f u)).
        inr (of.0, (of.1, of.2.0, of.2.1), is ∙ of.3 ∙ sym (agree of.0 of.2.0)))
        least.attained;
  }

  as_least : (f : TransactionRecord → ℕ) (t : TransactionRecord) → IsSuccessorStamp h f t → IsLeast t.stamp f (MayCount t) h (f t)
  as_least f t succ = record {
    at_most_own = succ.at_most_own;
    at_most_each = λ u of_u counts. succ.at_most_each u (of_u, counts.0, counts.1);
    attained =
        ⊎_elim
        (λ (own : f t ≡ t.stamp). inl own)
        (λ (of : (u : TransactionRecord) × CountsForSucc h t u × (f t ≡ f u)). inr (of.0, of.1.0, (of.1.1, of.1.2), of.2))
        succ.attained;
  }

  numbers_below : (bound : ℕ) → (f : TransactionRecord → ℕ) × ((t : TransactionRecord) → t.stamp < bound → IsSuccessorStamp h f t)
  numbers_below zero = ((λ t. t.stamp), λ t low. absurd (omega arith))
  numbers_below (suc bound) =
      let f = (numbers_below bound).0 in
      let numbers = (numbers_below bound).1 in (
        step bound f,
        λ t low.
            ⊎_elim
            (λ (less : t.stamp < bound).
            same_numbers f (step bound f) t (λ u lower. step-below bound f u (omega (arith, lower, less))) (f t) (step-below bound f t less) (as_least f t (numbers t less)))
            (λ (at : bound ≤ t.stamp).
            same_numbers f (step bound f) t (λ u lower. step-below bound f u (omega (arith, lower, low))) (step bound f t) refl (step-at bound f t at))
            (cases_lt t.stamp bound),
      )

-- some number lies above all stamps of a history
bound_of : (h : History) → (bound : ℕ) × AllBelow bound h
bound_of [] = (0, λ t there. absurd (none_in_nil t there))
bound_of (u ∷ h) =
    let bound = (bound_of h).0 in
    let above : AllBelow bound h = (bound_of h).1 in (
      suc (bound + u.stamp),
      λ t there.
          ⊎_elim
          (λ (e : u ≡ t). subst (λ (x : TransactionRecord). x.stamp < suc (bound + u.stamp)) e (omega arith))
          (λ (later : t ∈ h). omega (arith, above t later))
          (∈-cons t u h there),
    )

pub some_numbers : (h : History) → (succ : TransactionRecord → ℕ) × AreSuccessorStamps h succ
some_numbers h =
    let numbers = numbers_below h (bound_of h).0 in
    (numbers.0, λ t of_t. numbers.1 t ((bound_of h).1 t of_t))
