-- Ranges that lie end to end: where they begin and end, and whose they are.
use Rattle.std.proofs.Common.{◌≡◌, ℕ, zero, ◌+◌, ◌<◌, ◌≤◌, ◌⊎◌, ⊎_elim, Bool, true, false, cond, eqb, ltb, List, [], ◌∷◌, refl, sym, ap, ◌∙◌, subst, inl, inr, arith}
use Rattle.std.proofs.lemmas.Bool.{eq-eqb, lt-ltb, ltb-true}
use Rattle.erm_model.specs.Member.{◌∈◌}
use Rattle.erm_model.proofs.Members.{none_in_nil, ∈-behind}
use Rattle.erm_machine.specs.declared.attempt.Attempt.{Attempt}
use Rattle.erm_machine.specs.declared.part.Part.{Part}
use Rattle.erm_machine.specs.declared.version.Span.{Span}
use Rattle.erm_machine.specs.Core.{Shared}
use Rattle.erm_machine.specs.Facts.{all_of}
use Rattle.erm_machine.specs.Ranges.{EndToEnd, OwnRanges, range_at, ranges_of}
use Rattle.erm_machine.proofs.Listed.{∈-head, ∈-cons, ∈-either, ∈-first, ∈-second, ∈-filter, ∈-filter_from}
use Rattle.erm_core_log.proofs.Lists.{end_to_end_ascends, ranges_of-push}

-- a place where one of these ranges ends, or where they begin
abbrev pub Ends : ℕ → List Span → ℕ → Type 0
Ends from rs place = (place ≡ from) ⊎ ((r : Span) × (r ∈ rs) × (r.start + r.size ≡ place))

-- each range lies between where they begin and end
pub span_within : (from to : ℕ) (rs : List Span) → EndToEnd from rs to → (r : Span) → r ∈ rs → (from ≤ r.start) × (r.start + r.size ≤ to)
span_within from to [] e r m = absurd (none_in_nil r m)
span_within from to (q ∷ rs) e r m =
    ⊎_elim
    (λ (same : q ≡ r).
    let rest = end_to_end_ascends (from + q.size) to rs e.1 in
    subst (λ (u : Span). (from ≤ u.start) × (u.start + u.size ≤ to)) same (let at = e.0 in omega (arith, at), let at = e.0 in omega (arith, at, rest)))
    (λ (there : r ∈ rs). let h = span_within (from + q.size) to rs e.1 r there in (let a = h.0 in omega (arith, a), h.1))
    (∈-cons r q rs m)

-- where a range ends below the last end, the next one begins
pub span_from : (from to : ℕ) (rs : List Span) → EndToEnd from rs to → (place : ℕ) → Ends from rs place → place < to → (r : Span) × (r ∈ rs) × (r.start ≡ place)
span_from from to [] e place end below = ⊎_elim (λ (first : place ≡ from). absurd (omega (arith, e, first, below))) (λ (r : (r : Span) × (r ∈ []) × (r.start + r.size ≡ place)). absurd (none_in_nil r.0 r.1)) end
span_from from to (q ∷ rs) e place end below =
    ⊎_elim
    (λ (first : place ≡ from). (q, ∈-head q rs, e.0 ∙ sym first))
    (λ (r : (r : Span) × (r ∈ (q ∷ rs)) × (r.start + r.size ≡ place)).
    let later : Ends (from + q.size) rs place =
    ⊎_elim
    (λ (same : q ≡ r.0). inl (sym r.2 ∙ sym (ap (λ (u : Span). u.start + u.size) same) ∙ ap (λ n. n + q.size) e.0))
    (λ (there : r.0 ∈ rs). inr (r.0, there, r.2))
    (∈-cons r.0 q rs r.1)
    in
    let u = span_from (from + q.size) to rs e.1 place later below in (u.0, ∈-behind q rs u.0 u.1, u.2))
    end

-- no range lies over a place where one ends
pub end_apart : (from to : ℕ) (rs : List Span) → EndToEnd from rs to → (place : ℕ) → Ends from rs place → (r : Span) → r ∈ rs → r.start < place → r.start + r.size ≤ place
end_apart from to [] e place end r m below = absurd (none_in_nil r m)
end_apart from to (q ∷ rs) e place end r m below =
    ⊎_elim
    (λ (first : place ≡ from). absurd (let h = (span_within from to (q ∷ rs) e r m).0 in omega (arith, h, first, below)))
    (λ (u : (u : Span) × (u ∈ (q ∷ rs)) × (u.start + u.size ≡ place)).
    ⊎_elim
    (λ (here : q ≡ r).
    let f = ap (λ (v : Span). v.start + v.size) here in
    ⊎_elim
    (λ (same : q ≡ u.0). let g = ap (λ (v : Span). v.start + v.size) same in let is = u.2 in omega (arith, f, g, is))
    (λ (later : u.0 ∈ rs). let h = (span_within (from + q.size) to rs e.1 u.0 later).0 in let at = e.0 in let is = u.2 in omega (arith, f, h, at, is))
    (∈-cons u.0 q rs u.1))
    (λ (behind : r ∈ rs).
    ⊎_elim
    (λ (same : q ≡ u.0).
    let g = ap (λ (v : Span). v.start + v.size) same in
    let h = (span_within (from + q.size) to rs e.1 r behind).0 in
    let at = e.0 in
    let is = u.2 in
    absurd (omega (arith, g, h, at, is, below)))
    (λ (later : u.0 ∈ rs). end_apart (from + q.size) to rs e.1 place (inr (u.0, later, u.2)) r behind below)
    (∈-cons u.0 q rs u.1))
    (∈-cons r q rs m))
    end

-- two ranges that meet are one
pub span_once : (from to : ℕ) (rs : List Span) → EndToEnd from rs to → (r q : Span) → r ∈ rs → q ∈ rs → r.start < q.start + q.size → q.start < r.start + r.size → r ≡ q
span_once from to [] e r q m n before behind = absurd (none_in_nil r m)
span_once from to (u ∷ rs) e r q m n before behind =
    ⊎_elim
    (λ (first : u ≡ r).
    ⊎_elim
    (λ (same : u ≡ q). sym first ∙ same)
    (λ (later : q ∈ rs). absurd (let f = ap (λ (v : Span). v.start + v.size) first in let h = (span_within (from + u.size) to rs e.1 q later).0 in let at = e.0 in omega (arith, f, h, at, behind)))
    (∈-cons q u rs n))
    (λ (there : r ∈ rs).
    ⊎_elim
    (λ (same : u ≡ q). absurd (let f = ap (λ (v : Span). v.start + v.size) same in let h = (span_within (from + u.size) to rs e.1 r there).0 in let at = e.0 in omega (arith, f, h, at, before)))
    (λ (later : q ∈ rs). span_once (from + u.size) to rs e.1 r q there later before behind)
    (∈-cons q u rs n))
    (∈-cons r u rs m)

-- the last end is one
pub last_end : (from to : ℕ) (rs : List Span) → EndToEnd from rs to → Ends from rs to
last_end from to [] e = inl (sym e)
last_end from to (q ∷ rs) e =
    ⊎_elim
    (λ (first : to ≡ from + q.size). inr (q, ∈-head q rs, ap (λ n. n + q.size) e.0 ∙ sym first))
    (λ (r : (r : Span) × (r ∈ rs) × (r.start + r.size ≡ to)). inr (r.0, ∈-behind q rs r.0 r.1, r.2))
    (last_end (from + q.size) to rs e.1)

-- the range of a seat's transaction
abbrev pub span_of : ℕ → Attempt → Span
span_of seat t = record { seat = seat; start = t.stamp; size = t.size }

range_if : (b : Bool) (r : Span) → b ≡ true → r ∈ (cond b (r ∷ []) [])
range_if true r e = (zero, refl)
range_if false r e = absurd (cc)

range_of : (seat : ℕ) (ts : List Attempt) (t : Attempt) → t ∈ ts → 0 < t.stamp → span_of seat t ∈ ranges_of seat ts
range_of seat [] t m drawn = absurd (none_in_nil t m)
range_of seat (u ∷ ts) t m drawn =
    ⊎_elim
    (λ (same : u ≡ t).
    ∈-first (range_at seat u.stamp u.size) (ranges_of seat ts) (span_of seat t)
    (subst (λ (v : Attempt). span_of seat t ∈ range_at seat v.stamp v.size) (sym same) (range_if (ltb 0 t.stamp) (span_of seat t) (lt-ltb 0 t.stamp drawn))))
    (λ (there : t ∈ ts). ∈-second (range_at seat u.stamp u.size) (ranges_of seat ts) (span_of seat t) (range_of seat ts t there drawn))
    (∈-cons t u ts m)

-- a transaction's range stands in the log
pub range_in : (s : Shared) (seat : ℕ) (x : Part) → OwnRanges s seat x → (t : Attempt) → t ∈ all_of x → 0 < t.stamp → span_of seat t ∈ s.log
range_in s seat x own t m drawn =
    let among = range_of seat (all_of x) t m drawn in
    let kept = subst (λ (rs : List Span). span_of seat t ∈ rs) (ranges_of-push seat x.over x.current ∙ sym own.ranges) among in
    (∈-filter (λ (r : Span). eqb r.seat seat) (span_of seat t) s.log kept).0

-- a transaction whose range is this one
pub record HasRange (x : Part) (r : Span) : Type 0 where
  pub holder : Attempt
  pub stands : holder ∈ all_of x
  pub drawn : 0 < holder.stamp
  pub starts : holder.stamp ≡ r.start
  pub long : holder.size ≡ r.size

holds : (seat : ℕ) (b : Bool) (stamp size : ℕ) (r : Span) → ltb 0 stamp ≡ b → r ∈ (cond b (record { seat = seat; start = stamp; size = size } ∷ []) [])
    → (0 < stamp) × (stamp ≡ r.start) × (size ≡ r.size)
holds seat false stamp size r e m = absurd (none_in_nil r m)
holds seat true stamp size r e m =
    ⊎_elim
    (λ (same : record { seat = seat; start = stamp; size = size } ≡ r). (ltb-true 0 stamp e, ap (λ (u : Span). u.start) same, ap (λ (u : Span). u.size) same))
    (λ (none : r ∈ []). absurd (none_in_nil r none))
    (∈-cons r (record { seat = seat; start = stamp; size = size }) [] m)

range_has : (seat : ℕ) (ts : List Attempt) (r : Span) → r ∈ ranges_of seat ts → (t : Attempt) × (t ∈ ts) × (0 < t.stamp) × (t.stamp ≡ r.start) × (t.size ≡ r.size)
range_has seat [] r m = absurd (none_in_nil r m)
range_has seat (t ∷ ts) r m =
    ⊎_elim
    (λ (first : r ∈ range_at seat t.stamp t.size). let h = holds seat (ltb 0 t.stamp) t.stamp t.size r refl first in (t, ∈-head t ts, h.0, h.1, h.2))
    (λ (later : r ∈ ranges_of seat ts). let h = range_has seat ts r later in (h.0, ∈-behind t ts h.0 h.1, h.2, h.3, h.4))
    (∈-either (range_at seat t.stamp t.size) (ranges_of seat ts) r m)

-- each range in the log is one of its seat's transactions'
pub range_held : (s : Shared) (r : Span) (x : Part) → OwnRanges s r.seat x → r ∈ s.log → HasRange x r
range_held s r x own m =
    let kept = ∈-filter_from (λ (u : Span). eqb u.seat r.seat) r s.log m (eq-eqb r.seat r.seat refl) in
    let among = subst (λ (rs : List Span). r ∈ rs) (own.ranges ∙ sym (ranges_of-push r.seat x.over x.current)) kept in
    let h = range_has r.seat (all_of x) r among in
    record { holder = h.0; stands = h.1; drawn = h.2; starts = h.3; long = h.4 }
