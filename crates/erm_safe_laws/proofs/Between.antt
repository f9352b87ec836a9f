-- A serial order is cut at a safe stamp.
use Rattle.std.proofs.Common.{◌≡◌, ℕ, ◌<◌, ◌≤◌, ⊎_elim, List, [], ◌∷◌, ◌++◌, refl, sym, ap, subst, arith}
use Rattle.std.proofs.lemmas.Bool.{cases_lt}
use Rattle.std.proofs.lemmas.List.Sorted.{IsPermutation-sym}
use Rattle.erm_model.specs.declared.history.TransactionRecord.{TransactionRecord}
use Rattle.erm_model.specs.History.{HasNewestRows, History, IsCertified, IsNewestBelow, below, rank_of, rows_after}
use Rattle.erm_model.specs.Member.{◌∈◌}
use Rattle.erm_model.specs.Rows.{Rows}
use Rattle.erm_model.specs.SerialOrder.{ComesBefore, IsSerialOrder, Rank}
use Rattle.erm_model.proofs.Members.{none_in_nil}
use Rattle.erm_machine.proofs.Listed.{∈-cons, ∈-either, ∈-first, ∈-second}
use Rattle.erm_core_ssn.proofs.Members.{∈-permutation}
use Rattle.erm_core_ssn.proofs.OneOrder.{Ascends-once}
use Rattle.erm_core_ssn.proofs.Orders.{Ascends, Ascends-from_AllPairs}
use Rattle.erm_core_ssn.proofs.Prefixes.{in_below, in_below_from}
use Rattle.erm_safe_laws.specs.Safe.{AreLate, StandsBetween}

-- a list in serial order, cut where successor stamps reach a bound
record Cut (b : ℕ) (order : History) : Type 0 where
  front : History
  rest : History
  whole : order ≡ front ++ rest
  low : (t : TransactionRecord) → t ∈ front → t.succ < b
  high : (t : TransactionRecord) → t ∈ rest → b ≤ t.succ

not_after : (t u : TransactionRecord) (b : ℕ) → ComesBefore (rank_of t) (rank_of u) → b ≤ t.succ → b ≤ u.succ
not_after t u b before high = grind arith

cut_at : (b : ℕ) (order : History) → Ascends rank_of order → Cut b order
cut_at b [] ascends = record { front = []; rest = []; whole = refl; low = λ t m. absurd (none_in_nil t m); high = λ t m. absurd (none_in_nil t m) }
cut_at b (t ∷ ts) ascends =
    ⊎_elim
    (λ (less : t.succ < b).
    let c = cut_at b ts ascends.1 in
    record {
      front = t ∷ c.front;
      rest = c.rest;
      whole = ap (λ (l : History). t ∷ l) c.whole;
      low = λ u m. ⊎_elim (λ (e : t ≡ u). subst (λ (v : TransactionRecord). v.succ < b) e less) (λ (k : u ∈ c.front). c.low u k) (∈-cons u t c.front m);
      high = c.high;
    })
    (λ (up : b ≤ t.succ).
    record {
      front = [];
      rest = t ∷ ts;
      whole = refl;
      low = λ u m. absurd (none_in_nil u m);
      high = λ u m. ⊎_elim (λ (e : t ≡ u). subst (λ (v : TransactionRecord). b ≤ v.succ) e up) (λ (k : u ∈ ts). not_after t u b (ascends.0 u k) up) (∈-cons u t ts m);
    })
    (cases_lt t.succ b)

-- the front of what ascends ascends
pub ascends_front : {X : Type 0} (rank : X → Rank) (xs ys : List X) → Ascends rank (xs ++ ys) → Ascends rank xs
ascends_front rank [] ys all = tt
ascends_front rank (x ∷ xs) ys all = (λ y m. all.0 y (∈-first xs ys y m), ascends_front rank xs ys all.1)

module _ (h : History) (opening : Rows) (order : History) (b : ℕ) (certified : IsCertified h) (late : AreLate h b) (serial : IsSerialOrder rank_of h order) (own : History)
    (own_serial : IsSerialOrder rank_of (below b h) own) where
  ascends : Ascends rank_of order
  ascends = Ascends-from_AllPairs rank_of order serial.ascends

  cut : Cut b order
  cut = cut_at b order ascends

  of_history : (t : TransactionRecord) → t ∈ order → t ∈ h
  of_history t m = ∈-permutation t order h (IsPermutation-sym h order serial.same) m

  in_front : (t : TransactionRecord) → t ∈ cut.front → (t ∈ h) × (t.stamp < b)
  in_front t m =
      let there = of_history t (subst (λ (l : History). t ∈ l) (sym cut.whole) (∈-first cut.front cut.rest t m)) in
      let low = cut.low t m in
      (there, ⊎_elim (λ (less : t.stamp < b). less) (λ (above : b ≤ t.stamp). let up = late t there above in absurd (omega (arith, up, low))) (cases_lt t.stamp b))

  in_rest : (t : TransactionRecord) → t ∈ cut.rest → b ≤ t.stamp
  in_rest t m =
      let there = of_history t (subst (λ (l : History). t ∈ l) (sym cut.whole) (∈-second cut.front cut.rest t m)) in
      let up = cut.high t m in
      let most = (certified.succ t there).at_most_own in
      omega (arith, up, most)

  from_below : (t : TransactionRecord) → t ∈ below b h → t ∈ cut.front
  from_below t m =
      let there = in_below h b t m in
      let low = there.1 in
      ⊎_elim (λ (k : t ∈ cut.front). k)
      (λ (k : t ∈ cut.rest). let up = in_rest t k in absurd (omega (arith, up, low)))
      (∈-either cut.front cut.rest t (subst (λ (l : History). t ∈ l) cut.whole (∈-permutation t h order serial.same there.0)))

  same_front : own ≡ cut.front
  same_front =
      Ascends-once rank_of own cut.front (Ascends-from_AllPairs rank_of own own_serial.ascends)
      (ascends_front rank_of cut.front cut.rest (subst (Ascends rank_of) cut.whole ascends))
      (λ t m. from_below t (∈-permutation t own (below b h) (IsPermutation-sym (below b h) own own_serial.same) m))
      (λ t m. let there = in_front t m in ∈-permutation t (below b h) own own_serial.same (in_below_from h b t there.0 there.1))

  pub stands_between : HasNewestRows h opening b (rows_after own opening) →
      ((oid stamp other_stamp : ℕ) (row other : List ℕ) → IsNewestBelow h opening oid b stamp row → IsNewestBelow h opening oid b other_stamp other → row ≡ other) → StandsBetween h opening order b
  stands_between newest one =
      let there : HasNewestRows h opening b (rows_after cut.front opening) = subst (λ (l : History). HasNewestRows h opening b (rows_after l opening)) same_front newest in
      record {
        front = cut.front;
        rest = cut.rest;
        whole = cut.whole;
        before = λ t m. ((in_front t m).1, cut.low t m);
        behind = λ t m. (in_rest t m, cut.high t m);
        serial = subst (IsSerialOrder rank_of (below b h)) same_front own_serial;
        newest = there;
        finds = λ oid stamp row is. one oid (there oid).0 stamp (rows_after cut.front opening oid) row (there oid).1 is;
      }
