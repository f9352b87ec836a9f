-- What a sound state says of the tail: it lies above every stamp of a seat, and no seat has seen more.
use Rattle.std.proofs.Common.{◌≡◌, ℕ, zero, ◌+◌, ◌<◌, ◌≤◌, ⊎_elim, Bool, true, false, List, [], ◌∷◌, ◌++◌, filter, eqb, ltb, refl, sym, subst, arith}
use Rattle.std.specs.Prelude.{if◌then◌else◌}
use Rattle.erm_model.specs.Member.{◌∈◌}
use Rattle.erm_machine.specs.declared.attempt.Attempt.{Attempt}
use Rattle.erm_machine.specs.declared.part.Part.{Part}
use Rattle.erm_machine.specs.declared.version.Span.{Span}
use Rattle.erm_machine.specs.Core.{Core}
use Rattle.erm_machine.specs.Ranges.{EndToEnd, range_at, ranges_of}
use Rattle.erm_machine.specs.Sound.{Sound}
use Rattle.erm_rule.specs.declared.view.View.{View}
use Rattle.erm_rule.specs.Views.{IsView}
use Rattle.erm_rule.proofs.Parts.{here, behind, split_at, none_there}
use Rattle.erm_seats.specs.Calls.{IsPastSeen}

in_left : {X : Type 0} (xs ys : List X) (y : X) → y ∈ xs → y ∈ (xs ++ ys)
in_left [] ys y m = absurd (none_there y m)
in_left (x ∷ xs) ys y m = ⊎_elim (λ e. here x y (xs ++ ys) e) (λ later. behind x y (xs ++ ys) (in_left xs ys y later)) (split_at x y xs m)

in_right : {X : Type 0} (xs ys : List X) (y : X) → y ∈ ys → y ∈ (xs ++ ys)
in_right [] ys y m = m
in_right (x ∷ xs) ys y m = behind x y (xs ++ ys) (in_right xs ys y m)

filtered_by : {X : Type 0} (b : Bool) (q : X → Bool) (x y : X) (xs : List X) → (y ∈ filter q xs → y ∈ xs) → y ∈ (if b then x ∷ filter q xs else filter q xs) → y ∈ (x ∷ xs)
filtered_by true q x y xs rest m = ⊎_elim (λ e. here x y xs e) (λ later. behind x y xs (rest later)) (split_at x y (filter q xs) m)
filtered_by false q x y xs rest m = behind x y xs (rest m)

-- what a filter lets through stands in the list
in_filter : {X : Type 0} (q : X → Bool) (xs : List X) (y : X) → y ∈ filter q xs → y ∈ xs
in_filter q [] y m = absurd (none_there y m)
in_filter q (x ∷ xs) y m = filtered_by (q x) q x y xs (in_filter q xs y) m

up_to : (from to : ℕ) (rs : List Span) → EndToEnd from rs to → from ≤ to
up_to from to [] e = omega (arith, e)
up_to from to (r ∷ rs) e = let rest = up_to (from + r.size) to rs e.1 in omega (arith, rest)

-- a range of the log begins below the tail
range_below : (from to : ℕ) (rs : List Span) → EndToEnd from rs to → ((r : Span) → r ∈ rs → 5 ≤ r.size) → (r : Span) → r ∈ rs → r.start < to
range_below from to [] e sizes r m = absurd (none_there r m)
range_below from to (x ∷ rs) e sizes r m =
    ⊎_elim
    (λ (same : x ≡ r).
    let long = sizes x (here x x rs refl) in
    let rest = up_to (from + x.size) to rs e.1 in
    let at = e.0 in
    let low : x.start < to = omega (arith, long, rest, at) in
    subst (λ (z : Span). z.start < to) same low)
    (λ later. range_below (from + x.size) to rs e.1 (λ z n. sizes z (behind x z rs n)) r later)
    (split_at x r rs m)

abbrev span_at : ℕ → ℕ → ℕ → Span
span_at seat stamp size = record { seat = seat; start = stamp; size = size }

range_there : (seat : ℕ) (b : Bool) (stamp size : ℕ) → b ≡ true → span_at seat stamp size ∈ (if b then span_at seat stamp size ∷ [] else [])
range_there seat true stamp size e = (zero, refl)
range_there seat false stamp size e = absurd (cc)

-- a transaction with a range has it among the seat's
range_of : (seat : ℕ) (ts : List Attempt) (t : Attempt) → t ∈ ts → ltb 0 t.stamp ≡ true → span_at seat t.stamp t.size ∈ ranges_of seat ts
range_of seat [] t m positive = absurd (none_there t m)
range_of seat (u ∷ ts) t m positive =
    ⊎_elim
    (λ (same : u ≡ t).
    in_left (range_at seat u.stamp u.size) (ranges_of seat ts) _
    (subst (λ (z : Attempt). span_at seat t.stamp t.size ∈ range_at seat z.stamp z.size) (sym same) (range_there seat (ltb 0 t.stamp) t.stamp t.size positive)))
    (λ later. in_right (range_at seat u.stamp u.size) (ranges_of seat ts) _ (range_of seat ts t later positive))
    (split_at u t ts m)

below_by : (b : Bool) (stamp tail : ℕ) → ltb 0 stamp ≡ b → 0 < tail → (ltb 0 stamp ≡ true → stamp < tail) → stamp < tail
below_by true stamp tail e positive above = above e
below_by false stamp tail e positive above = grind arith

-- the tail isn't 0
pub tail_positive : (c : Core) → Sound c → 0 < c.shared.tail
tail_positive c sound =
    let r = sound.common.ranges in let low = r.positive in let up = up_to c.shared.opening c.shared.tail c.shared.log r.end_to_end in omega (arith, low, up)

-- the tail is above each stamp of a seat's transactions that are over
pub over_below : (c : Core) (p : ℕ) (x : Part) → Sound c → c.seats p ≡ x → (t : Attempt) → t ∈ x.over → t.stamp < c.shared.tail
over_below c p x sound is t m =
    let r = sound.common.ranges in
    let own = (sound.own p).ranges in
    let there : t ∈ (c.seats p).over = subst (λ (z : Part). t ∈ z.over) (sym is) m in
    below_by (ltb 0 t.stamp) t.stamp c.shared.tail refl (tail_positive c sound) (λ positive.
    let span : Span = span_at p t.stamp t.size in
    let among = in_left (ranges_of p (c.seats p).over) (range_at p (c.seats p).current.stamp (c.seats p).current.size) span (range_of p (c.seats p).over t there positive) in
    let filtered : span ∈ filter (λ (z : Span). eqb z.seat p) c.shared.log = subst (λ (l : List Span). span ∈ l) (sym own.ranges) among in
    range_below c.shared.opening c.shared.tail c.shared.log r.end_to_end (λ z n. (r.sizes z n).0) span (in_filter (λ (z : Span). eqb z.seat p) c.shared.log span filtered))

-- no seat has seen more than the tail
pub seen_below : (c : Core) (p : ℕ) (x : Part) → Sound c → c.seats p ≡ x → x.seen ≤ c.shared.tail
seen_below c p x sound is = subst (λ (z : Part). z.seen ≤ c.shared.tail) is (sound.own p).clear.seen

-- no seat of the view has seen more
pub view_below : (c : Core) (v : View) → Sound c → IsView v c → IsPastSeen v c.shared.tail
view_below c v sound sees q x has = seen_below c q x sound (sees q x has)
