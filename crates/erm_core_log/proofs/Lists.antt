-- Lists of ranges: end to end, by seat, and those that start high.
use Rattle.std.proofs.Common.{◌≡◌, ◌≢◌, ℕ, zero, suc, ◌+◌, ◌<◌, ◌≤◌, Bool, true, false, cond, eqb, ltb, leb, List, [], ◌∷◌, ◌++◌, filter, count_by, refl, sym, ap, ◌∙◌, arith, append_assoc}
use Rattle.std.proofs.lemmas.List.{append-nil}
use Rattle.std.proofs.lemmas.List.Sums.{sum_by-cons, sum_by-append, sum_by_push}
use Rattle.std.proofs.lemmas.List.Elements.{filter-append}
use Rattle.std.proofs.lemmas.Bool.{ltb-false, lt-leb, eq-eqb, ne_eqb}
use Rattle.erm_model.specs.Member.{◌∈◌}
use Rattle.erm_model.proofs.Members.{∈-behind}
use Rattle.erm_machine.specs.declared.limits.TheConstants.{STOP, LEAST_BLOCK}
use Rattle.erm_machine.specs.declared.attempt.Attempt.{Attempt}
use Rattle.erm_machine.specs.declared.part.Part.{Part}
use Rattle.erm_machine.specs.declared.version.Span.{Span}
use Rattle.erm_machine.specs.Facts.{total}
use Rattle.erm_machine.specs.Ranges.{EndToEnd, range_at, ranges_of, high, high_of}

-- ranges end to end, and one more
pub end_to_end_push : (from to : ℕ) (rs : List Span) (r : Span) → EndToEnd from rs to → r.start ≡ to → EndToEnd from (rs ++ r ∷ []) (to + r.size)
end_to_end_push from to [] r e start = (start ∙ sym e, ap (λ n. n + r.size) e)
end_to_end_push from to (q ∷ rs) r e start = (e.0, end_to_end_push (from + q.size) to rs r e.1 start)

-- they end where they begin, or behind
pub end_to_end_ascends : (from to : ℕ) (rs : List Span) → EndToEnd from rs to → from ≤ to
end_to_end_ascends from to [] e = omega (arith, e)
end_to_end_ascends from to (r ∷ rs) e = let rest = end_to_end_ascends (from + r.size) to rs e.1 in omega (arith, rest)

-- the ranges that start high
abbrev pub high_ranges : List Span → ℕ
high_ranges rs = count_by (λ r. leb STOP r.start) rs

-- none does where the tail is low
pub high_ranges_none : (from to : ℕ) (rs : List Span) → EndToEnd from rs to → ((r : Span) → r ∈ rs → LEAST_BLOCK ≤ r.size) → to < STOP → high_ranges rs ≡ 0
high_ranges_none from to [] e sizes low = refl
high_ranges_none from to (r ∷ rs) e sizes low =
    let rest = high_ranges_none (from + r.size) to rs e.1 (λ q m. sizes q (∈-behind r rs q m)) low in
    let after = end_to_end_ascends (from + r.size) to rs e.1 in
    let start : r.start ≡ from = e.0 in
    let size : LEAST_BLOCK ≤ r.size = sizes r (zero, refl) in
    let test : leb STOP r.start ≡ false = lt-leb STOP r.start (omega arith) in
    let here : high_ranges (r ∷ rs) ≡ cond (leb STOP r.start) 1 0 + high_ranges rs = sum_by-cons (λ (q : Span). cond (leb STOP q.start) 1 0) r rs in
    let none : ◌≡◌ {A = ℕ} (cond (leb STOP r.start) 1 0) 0 = ap (λ (b : Bool). cond b 1 0) test in
    omega (arith, here, none, rest)

-- a filter keeps no more of them
pub high_ranges-filter : (q : Span → Bool) (rs : List Span) → high_ranges (filter q rs) ≤ high_ranges rs
high_ranges-filter q [] = omega arith
high_ranges-filter q (r ∷ rs) = kept (q r) (high_ranges-filter q rs)
  where
    kept : (b : Bool) → high_ranges (filter q rs) ≤ high_ranges rs → high_ranges (cond b (r ∷ filter q rs) (filter q rs)) ≤ high_ranges (r ∷ rs)
    kept true h =
        let here : high_ranges (r ∷ rs) ≡ cond (leb STOP r.start) 1 0 + high_ranges rs = sum_by-cons (λ (q : Span). cond (leb STOP q.start) 1 0) r rs in
        let there : high_ranges (r ∷ filter q rs) ≡ cond (leb STOP r.start) 1 0 + high_ranges (filter q rs) = sum_by-cons (λ (u : Span). cond (leb STOP u.start) 1 0) r (filter q rs) in
        omega (arith, h, here, there)
    kept false h = let here : high_ranges (r ∷ rs) ≡ cond (leb STOP r.start) 1 0 + high_ranges rs = sum_by-cons (λ (q : Span). cond (leb STOP q.start) 1 0) r rs in omega (arith, h, here)

high_ranges-append : (rs qs : List Span) → high_ranges (rs ++ qs) ≡ high_ranges rs + high_ranges qs
high_ranges-append rs qs = sum_by-append (λ (r : Span). cond (leb STOP r.start) 1 0) rs qs

-- a transaction's range starts high where its stamp is high
pub high_range_at : (seat stamp size : ℕ) → high_ranges (range_at seat stamp size) ≡ high stamp
high_range_at seat stamp size = by_test (ltb 0 stamp) (λ f. ltb-false 0 stamp f) refl
  where
    by_test : (b : Bool) → (b ≡ false → stamp ≤ 0) → ltb 0 stamp ≡ b
        → high_ranges (cond b (record { seat = seat; start = stamp; size = size } ∷ []) []) ≡ high stamp
    by_test true f e = omega arith
    by_test false f e = let test : leb STOP stamp ≡ false = lt-leb STOP stamp (let h = f refl in omega (arith, h)) in sym (ap (λ (b : Bool). cond b 1 0) test)

-- so do the ranges of several
pub high_ranges_of : (seat : ℕ) (ts : List Attempt) → high_ranges (ranges_of seat ts) ≡ count_by (λ t. leb STOP t.stamp) ts
high_ranges_of seat [] = refl
high_ranges_of seat (t ∷ ts) =
    let rest = high_ranges_of seat ts in
    let first = high_range_at seat t.stamp t.size in
    let both = high_ranges-append (range_at seat t.stamp t.size) (ranges_of seat ts) in
    let here : count_by (λ (u : Attempt). leb STOP u.stamp) (t ∷ ts) ≡ high t.stamp + count_by (λ (u : Attempt). leb STOP u.stamp) ts = sum_by-cons (λ (u : Attempt). cond (leb STOP u.stamp) 1 0) t ts in
    omega (arith, rest, first, both, here)

-- one more transaction
pub ranges_of-push : (seat : ℕ) (ts : List Attempt) (t : Attempt) → ranges_of seat (ts ++ t ∷ []) ≡ ranges_of seat ts ++ range_at seat t.stamp t.size
ranges_of-push seat [] t = append-nil (range_at seat t.stamp t.size)
ranges_of-push seat (u ∷ ts) t =
    ap (λ rs. range_at seat u.stamp u.size ++ rs) (ranges_of-push seat ts t) ∙ sym (append_assoc (range_at seat u.stamp u.size) (ranges_of seat ts) (range_at seat t.stamp t.size))

pub high_count-push : (ts : List Attempt) (t : Attempt) → count_by (λ u. leb STOP u.stamp) (ts ++ t ∷ []) ≡ count_by (λ u. leb STOP u.stamp) ts + high t.stamp
high_count-push ts t = sum_by_push (λ (u : Attempt). cond (leb STOP u.stamp) 1 0) ts t

-- the ranges of a seat after one more of a seat
pub filter_own : (seat start size : ℕ) (rs : List Span) →
    filter (λ r. eqb r.seat seat) (rs ++ record { seat = seat; start = start; size = size } ∷ []) ≡ filter (λ r. eqb r.seat seat) rs ++ record { seat = seat; start = start; size = size } ∷ []
filter_own seat start size rs =
    filter-append (λ (r : Span). eqb r.seat seat) rs (record { seat = seat; start = start; size = size } ∷ [])
    ∙ ap (λ (b : Bool). filter (λ (r : Span). eqb r.seat seat) rs ++ cond b (record { seat = seat; start = start; size = size } ∷ []) []) (eq-eqb seat seat refl)

pub filter_other : (seat other start size : ℕ) (rs : List Span) → seat ≢ other →
    filter (λ r. eqb r.seat other) (rs ++ record { seat = seat; start = start; size = size } ∷ []) ≡ filter (λ r. eqb r.seat other) rs
filter_other seat other start size rs ne =
    filter-append (λ (r : Span). eqb r.seat other) rs (record { seat = seat; start = start; size = size } ∷ [])
    ∙ ap (λ (b : Bool). filter (λ (r : Span). eqb r.seat other) rs ++ cond b (record { seat = seat; start = start; size = size } ∷ []) []) (ne_eqb seat other ne)
    ∙ append-nil (filter (λ (r : Span). eqb r.seat other) rs)

-- where each seat has one such range at most, all have as many as there are seats
pub total_few : (n : ℕ) (f : ℕ → Part) → ((p : ℕ) → high_of (f p) ≤ 1) → total high_of n f ≤ n
unfolding total
total_few zero f few = omega arith
total_few (suc n) f few = let rest = total_few n f few in let here = few n in omega (arith, rest, here)

-- a seat's high ranges are those of the log
pub high_of-is : (seat : ℕ) (log : List Span) (x : Part) → filter (λ r. eqb r.seat seat) log ≡ ranges_of seat x.over ++ range_at seat x.current.stamp x.current.size →
    high_of x ≡ high_ranges (filter (λ r. eqb r.seat seat) log)
high_of-is seat log x e =
    let over = high_ranges_of seat x.over in
    let now = high_range_at seat x.current.stamp x.current.size in
    let both = high_ranges-append (ranges_of seat x.over) (range_at seat x.current.stamp x.current.size) in
    let all = ap high_ranges e in
    omega (arith, over, now, both, all)

-- it has drawn no more of them than there are
pub high_of-le : (seat : ℕ) (log : List Span) (x : Part) → filter (λ r. eqb r.seat seat) log ≡ ranges_of seat x.over ++ range_at seat x.current.stamp x.current.size →
    high_of x ≤ high_ranges log
high_of-le seat log x e =
    let is = high_of-is seat log x e in
    let less = high_ranges-filter (λ (r : Span). eqb r.seat seat) log in
    omega (arith, is, less)
