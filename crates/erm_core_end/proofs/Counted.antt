-- Ranges that lie end to end, counted by where they start.
use Rattle.std.proofs.Common.{◌≡◌, ℕ, suc, ◌+◌, ◌*◌, ◌<◌, ◌≤◌, ⊎_elim, Bool, true, false, cond, ◌==◌, List, [], ◌∷◌, filter, sum_by, Some, refl, ap, arith}
use Rattle.std.specs.Prelude.{nat_lt, nat_le}
use Rattle.std.proofs.lemmas.Bool.{cases_eq, cases_lt, cond-true, eq-eqb, le-leb, lt-leb, lt-ltb, ne_eqb}
use Rattle.std.proofs.lemmas.List.Sums.{sum_by-cons}
use Rattle.erm_model.specs.declared.limits.TheConstants.{GREATEST_BLOCK}
use Rattle.erm_model.specs.Member.{◌∈◌}
use Rattle.erm_model.proofs.Members.{∈-behind}
use Rattle.erm_machine.specs.declared.version.Span.{Span}
use Rattle.erm_machine.specs.Ranges.{EndToEnd}
use Rattle.erm_machine.proofs.Listed.{∈-head}
use Rattle.erm_lines_at_once.specs.Ends.{one_below}

-- how many ranges start below a place
abbrev pub starts : ℕ → List Span → ℕ
starts bound log = sum_by (λ r. one_below bound (Some r.start)) log

below_one : (bound stamp : ℕ) → stamp < bound → one_below bound (Some stamp) ≡ 1
below_one bound stamp less = cond-true (nat_lt stamp bound) 1 0 (lt-ltb stamp bound less)

-- a place of the log lies behind no more than the ranges that start below it
pub reached : (bound from to : ℕ) (log : List Span) → EndToEnd from log to → ((r : Span) → r ∈ log → r.size ≤ GREATEST_BLOCK) → bound ≤ to → bound ≤ from + GREATEST_BLOCK * starts bound log
reached bound from to [] joined sizes within = omega (arith, joined, within)
reached bound from to (r ∷ rs) joined sizes within =
    ⊎_elim
    (λ (less : from < bound).
    let size = sizes r (∈-head r rs) in
    let rest = reached bound (from + r.size) to rs joined.1 (λ s m. sizes s (∈-behind r rs s m)) within in
    let first = below_one bound r.start (omega (arith, joined.0, less)) in
    let all = sum_by-cons (λ (s : Span). one_below bound (Some s.start)) r rs in
    omega (arith, size, rest, first, all))
    (λ (most : bound ≤ from). omega (arith, most)) (cases_lt from bound)

-- the ranges of the seats up to a number, and those of one seat
abbrev pub upto : ℕ → List Span → List Span
upto n log = filter (λ r. nat_le r.seat n) log

abbrev pub of_seat : ℕ → List Span → List Span
of_seat q log = filter (λ r. r.seat == q) log

-- one more seat
counts : (bound : ℕ) (b : Bool) (r : Span) (rs : List Span) → starts bound (cond b (r ∷ rs) rs) ≡ cond b (one_below bound (Some r.start)) 0 + starts bound rs
counts bound true r rs = sum_by-cons (λ (s : Span). one_below bound (Some s.start)) r rs
counts bound false r rs = omega arith

parted : (x n m : ℕ) → cond (nat_le x (suc n)) m 0 ≡ cond (nat_le x n) m 0 + cond (x == suc n) m 0
parted x n m =
    ⊎_elim
    (λ (above : n < x).
    ⊎_elim
    (λ (next : x ≡ suc n).
    omega (arith, picks (nat_le x (suc n)) true m (le-leb x (suc n) (omega (arith, next))), picks (nat_le x n) false m (lt-leb x n above), picks (x == suc n) true m (eq-eqb x (suc n) next)))
    (λ (other : x ≡ suc n → ⊥).
    omega (arith, picks (nat_le x (suc n)) false m (lt-leb x (suc n) (omega (arith, above, other))), picks (nat_le x n) false m (lt-leb x n above), picks (x == suc n) false m (ne_eqb x (suc n) other)))
    (cases_eq x (suc n)))
    (λ (within : x ≤ n).
    omega (
      arith,
      picks (nat_le x (suc n)) true m (le-leb x (suc n) (omega (arith, within))),
      picks (nat_le x n) true m (le-leb x n within),
      picks (x == suc n) false m (ne_eqb x (suc n) (λ (next : x ≡ suc n). omega (arith, within, next))),
    ))
    (cases_lt n x)
  where
    picks : (b c : Bool) (m : ℕ) → b ≡ c → cond b m 0 ≡ cond c m 0
    picks b c m e = ap (λ (a : Bool). cond a m 0) e

pub one_more : (bound n : ℕ) (log : List Span) → starts bound (upto (suc n) log) ≡ starts bound (upto n log) + starts bound (of_seat (suc n) log)
one_more bound n [] = refl
one_more bound n (r ∷ rs) =
    let rest = one_more bound n rs in
    omega (
      arith,
      rest,
      counts bound (nat_le r.seat (suc n)) r (upto (suc n) rs),
      counts bound (nat_le r.seat n) r (upto n rs),
      counts bound (r.seat == suc n) r (of_seat (suc n) rs),
      parted r.seat n (one_below bound (Some r.start)),
    )

-- all ranges are of seats up to a number; none is of seat 0
kept_all : (x n : ℕ) → x ≤ n → nat_le x n ≡ true
kept_all x n le = le-leb x n le

pub all_upto : (bound n : ℕ) (log : List Span) → ((r : Span) → r ∈ log → r.seat ≤ n) → starts bound (upto n log) ≡ starts bound log
all_upto bound n [] few = refl
all_upto bound n (r ∷ rs) few =
    let rest = all_upto bound n rs (λ s m. few s (∈-behind r rs s m)) in
    let kept = ap (λ (b : Bool). starts bound (cond b (r ∷ upto n rs) (upto n rs))) (kept_all r.seat n (few r (∈-head r rs))) in
    omega (arith, rest, kept, sum_by-cons (λ (s : Span). one_below bound (Some s.start)) r (upto n rs), sum_by-cons (λ (s : Span). one_below bound (Some s.start)) r rs)

dropped : (x : ℕ) → 0 < x → nat_le x 0 ≡ false
dropped x positive = lt-leb x 0 positive

pub none_upto : (bound : ℕ) (log : List Span) → ((r : Span) → r ∈ log → 0 < r.seat) → starts bound (upto 0 log) ≡ 0
none_upto bound [] some = refl
none_upto bound (r ∷ rs) some =
    let rest = none_upto bound rs (λ s m. some s (∈-behind r rs s m)) in
    let gone = ap (λ (b : Bool). starts bound (cond b (r ∷ upto 0 rs) (upto 0 rs))) (dropped r.seat (some r (∈-head r rs))) in
    omega (arith, rest, gone)
