-- The stamps of a seat's transactions ascend: their ranges lie in order in the log.
use Rattle.std.proofs.Common.{◌≡◌, ℕ, zero, suc, ◌+◌, ◌<◌, ◌≤◌, Bool, true, false, List, [], ◌∷◌, ◌++◌, Some, slice_get, filter, refl, sym, ap, ◌∙◌, subst, arith}
use Rattle.std.specs.Prelude.{if◌then◌else◌, nat_lt}
use Rattle.std.proofs.lemmas.Bool.{cond_both, ltb-false}
use Rattle.std.proofs.lemmas.List.{append-nil, append_assoc}
use Rattle.std.proofs.lemmas.Option.{same_Some}
use Rattle.erm_model.specs.Member.{◌∈◌}
use Rattle.erm_model.proofs.Members.{∈-behind}
use Rattle.erm_machine.specs.declared.attempt.Attempt.{Attempt}
use Rattle.erm_machine.specs.declared.version.Span.{Span}
use Rattle.erm_machine.specs.Core.{Core}
use Rattle.erm_machine.specs.Facts.{all_of}
use Rattle.erm_machine.specs.Ranges.{EndToEnd, range_at, ranges_of}
use Rattle.erm_machine.specs.Sound.{Sound}
use Rattle.erm_machine.proofs.Listed.{∈-head}

-- ranges start at ascending places, the first at or above a bound
abbrev Ascends : ℕ → List Span → Type 0
Ascends from [] = Unit {0}
Ascends from (r ∷ rs) = (from ≤ r.start) × Ascends (r.start + 1) rs

lower : (low from : ℕ) (rs : List Span) → low ≤ from → Ascends from rs → Ascends low rs
lower low from [] le a = tt
lower low from (r ∷ rs) le a = (let h = a.0 in omega (arith, le, h), a.1)

log_ascends : (from : ℕ) (rs : List Span) (to : ℕ) → EndToEnd from rs to → ((r : Span) → r ∈ rs → 5 ≤ r.size) → Ascends from rs
log_ascends from [] to e sizes = tt
log_ascends from (r ∷ rs) to e sizes =
    let start = e.0 in
    let size = sizes r (∈-head r rs) in (
      omega (arith, start),
      lower (r.start + 1) (from + r.size) rs (omega (arith, start, size)) (log_ascends (from + r.size) rs to e.1 (λ s m. sizes s (∈-behind r rs s m))),
    )

filter_ascends : (keep : Span → Bool) (from : ℕ) (rs : List Span) → Ascends from rs → Ascends from (filter keep rs)
filter_ascends keep from [] a = tt
filter_ascends keep from (r ∷ rs) a =
    let rest = filter_ascends keep (r.start + 1) rs a.1 in
    cond_both (keep r) (r ∷ filter keep rs) (filter keep rs) (λ l. Ascends from l)
    (λ _. (a.0, rest))
    (λ _. lower from (r.start + 1) (filter keep rs) (let h = a.0 in omega (arith, h)) rest)

-- the ranges of a list of transactions with one more
ranges_push : (seat : ℕ) (ts : List Attempt) (t : Attempt) → ranges_of seat (ts ++ t ∷ []) ≡ ranges_of seat ts ++ range_at seat t.stamp t.size
ranges_push seat [] t = append-nil (range_at seat t.stamp t.size)
ranges_push seat (u ∷ ts) t =
    ap (λ (l : List Span). range_at seat u.stamp u.size ++ l) (ranges_push seat ts t)
    ∙ sym (append_assoc (range_at seat u.stamp u.size) (ranges_of seat ts) (range_at seat t.stamp t.size))

-- what the first transaction's range leaves
record Behind (from : ℕ) (stamp : ℕ) (rest : List Span) : Type 0 where
  with_range : 0 < stamp → (from ≤ stamp) × Ascends (stamp + 1) rest
  all : Ascends from rest

behind : (seat from stamp size : ℕ) (rest : List Span) → Ascends from (range_at seat stamp size ++ rest) → Behind from stamp rest
behind seat from stamp size rest a = by_test (nat_lt 0 stamp) refl a
  where
    by_test : (b : Bool) → nat_lt 0 stamp ≡ b → Ascends from ((if b then record { seat = seat; start = stamp; size = size } ∷ [] else []) ++ rest) → Behind from stamp rest
    by_test true e f = record { with_range = λ _. f; all = lower from (stamp + 1) rest (let h = f.0 in omega (arith, h)) f.1 }
    by_test false e f = record { with_range = λ positive. absurd (let h = ltb-false 0 stamp e in omega (arith, h, positive)); all = f }

-- each range of a list starts at or above the bound
at_least : (seat from : ℕ) (ts : List Attempt) (k : ℕ) (t : Attempt) → Ascends from (ranges_of seat ts) → slice_get ts k ≡ Some t → 0 < t.stamp → from ≤ t.stamp
at_least seat from [] k t a e positive = absurd (cc)
at_least seat from (u ∷ ts) zero t a e positive =
    let b = behind seat from u.stamp u.size (ranges_of seat ts) a in
    let same : u.stamp ≡ t.stamp = ap (λ (v : Attempt). v.stamp) (same_Some _ _ e) in
    let h = (b.with_range (omega (arith, positive, same))).0 in
    omega (arith, h, same)
at_least seat from (u ∷ ts) (suc k) t a e positive = at_least seat from ts k t (behind seat from u.stamp u.size (ranges_of seat ts) a).all e positive

ordered : (seat from : ℕ) (ts : List Attempt) (j k : ℕ) (t u : Attempt) → Ascends from (ranges_of seat ts) → j < k → slice_get ts j ≡ Some t → slice_get ts k ≡ Some u
    → 0 < t.stamp → 0 < u.stamp → t.stamp < u.stamp
ordered seat from [] j k t u a less at also positive too = absurd (cc)
ordered seat from (z ∷ ts) j zero t u a less at also positive too = absurd (omega (arith, less))
ordered seat from (z ∷ ts) zero (suc k) t u a less at also positive too =
    let b = behind seat from z.stamp z.size (ranges_of seat ts) a in
    let same : z.stamp ≡ t.stamp = ap (λ (v : Attempt). v.stamp) (same_Some _ _ at) in
    let h = at_least seat (z.stamp + 1) ts k u (b.with_range (omega (arith, positive, same))).1 also too in
    omega (arith, h, same)
ordered seat from (z ∷ ts) (suc j) (suc k) t u a less at also positive too =
    ordered seat from ts j k t u (behind seat from z.stamp z.size (ranges_of seat ts) a).all (omega (arith, less)) at also positive too

-- the stamps of a seat's transactions ascend
pub ascending : (c : Core) (p j k : ℕ) (t u : Attempt) → Sound c → j < k → slice_get (all_of (c.seats p)) j ≡ Some t → slice_get (all_of (c.seats p)) k ≡ Some u
    → 0 < t.stamp → 0 < u.stamp → t.stamp < u.stamp
ascending c p j k t u sound less at also positive too =
    let x = c.seats p in
    let log = log_ascends c.shared.opening c.shared.log c.shared.tail sound.common.ranges.end_to_end (λ r m. (sound.common.ranges.sizes r m).0) in
    let own = subst (λ l. Ascends c.shared.opening l) ((sound.own p).ranges.ranges ∙ sym (ranges_push p x.over x.current)) (filter_ascends _ c.shared.opening c.shared.log log) in
    ordered p c.shared.opening (all_of x) j k t u own less at also positive too
