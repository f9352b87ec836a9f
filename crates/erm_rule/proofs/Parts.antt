-- The seats of a view, and their parts.
use Rattle.std.proofs.Common.{◌≡◌, ◌≢◌, ℕ, zero, suc, ◌-◌, ◌<◌, ◌⊎◌, Bool, true, false, List, [], ◌∷◌, ◌++◌, length, map, take, get_or, eqb, Option, Some, refl, sym, ◌∙◌, ap, inl, inr, ⊎_elim, arith, eqb-true}
use Rattle.std.specs.Prelude.{if◌then◌else◌}
use Rattle.std.specs.List.{slice_get}
use Rattle.std.proofs.lemmas.Option.{same_Some}
use Rattle.erm_model.specs.Member.{◌∈◌}
use Rattle.erm_model.proofs.Members.{∈-at}
use Rattle.erm_machine.specs.declared.part.Part.{Part}
use Rattle.erm_machine.specs.Words.{is_seat}
use Rattle.erm_rule.specs.declared.view.Held.{Held}
use Rattle.erm_rule.specs.declared.view.View.{View}
use Rattle.erm_rule.specs.Views.{part_among, part_in, held_after, with_part, NotAmong, EachOnce, IsInOrder, of_seats}

module _ {X : Type 0} where
  -- the first of a list, and those behind it
  pub here : (x y : X) (xs : List X) → x ≡ y → y ∈ (x ∷ xs)
  here x y xs e = (zero, ap Some e)

  pub behind : (x y : X) (xs : List X) → y ∈ xs → y ∈ (x ∷ xs)
  behind x y xs m = (suc m.0, m.1)

  front_or_behind : (x y : X) (xs : List X) (k : ℕ) → slice_get (x ∷ xs) k ≡ Some y → (x ≡ y) ⊎ (y ∈ xs)
  front_or_behind x y xs zero e = inl (same_Some x y e)
  front_or_behind x y xs (suc k) e = inr (k, e)

  pub split_at : (x y : X) (xs : List X) → y ∈ (x ∷ xs) → (x ≡ y) ⊎ (y ∈ xs)
  split_at x y xs m = front_or_behind x y xs m.0 m.1

  pub none_there : (y : X) → y ∈ [] → ⊥
  none_there y m = cc (m.1)

  none_in : (y : X) (xs : List X) → length xs ≡ 0 → y ∈ xs → ⊥
  none_in y [] e m = none_there y m
  none_in y (x ∷ xs) e m = absurd (omega (arith, e))

  -- what stands in two lists, one after the other
  pub in_either : (xs ys : List X) (y : X) → y ∈ (xs ++ ys) → (y ∈ xs) ⊎ (y ∈ ys)
  in_either [] ys y m = inr m
  in_either (x ∷ xs) ys y m =
      ⊎_elim (λ e. inl (here x y xs e)) (λ later. ⊎_elim (λ a. inl (behind x y xs a)) (λ b. inr b) (in_either xs ys y later)) (split_at x y (xs ++ ys) m)

  pub in_one : (xs ys : List X) (y : X) → y ∈ xs → y ∈ (xs ++ ys)
  in_one [] ys y m = absurd (none_there y m)
  in_one (x ∷ xs) ys y m = ⊎_elim (λ e. here x y (xs ++ ys) e) (λ later. behind x y (xs ++ ys) (in_one xs ys y later)) (split_at x y xs m)

  pub in_other : (xs ys : List X) (y : X) → y ∈ ys → y ∈ (xs ++ ys)
  in_other [] ys y m = m
  in_other (x ∷ xs) ys y m = behind x y (xs ++ ys) (in_other xs ys y m)

  -- what stands in a list is its last, or stands before that
  pub last_or_front : (n : ℕ) (xs : List X) (d y : X) → length xs ≡ suc n → y ∈ xs → (get_or xs n d ≡ y) ⊎ (y ∈ take n xs)
  last_or_front n [] d y e m = absurd (none_there y m)
  last_or_front zero (x ∷ xs) d y e m = ⊎_elim (λ same. inl same) (λ later. absurd (none_in y xs (omega (arith, e)) later)) (split_at x y xs m)
  last_or_front (suc n) (x ∷ xs) d y e m =
      ⊎_elim (λ same. inr (here x y (take n xs) same))
      (λ later. ⊎_elim (λ last. inl last) (λ front. inr (behind x y (take n xs) front)) (last_or_front n xs d y (omega (arith, e)) later))
      (split_at x y xs m)

  -- what stands in a front of a list stands in the list
  pub in_front : (n : ℕ) (xs : List X) (y : X) → y ∈ take n xs → y ∈ xs
  in_front zero xs y m = absurd (none_there y m)
  in_front (suc n) [] y m = absurd (none_there y m)
  in_front (suc n) (x ∷ xs) y m =
      ⊎_elim (λ e. here x y xs e) (λ later. behind x y xs (in_front n xs y later)) (split_at x y (take n xs) m)

-- what stands among changed ones is a changed one
pub in_map : (f : Held → Held) (hs : List Held) (y : Held) → y ∈ map f hs → (g : Held) × (g ∈ hs) × (f g ≡ y)
in_map f [] y m = absurd (none_there y m)
in_map f (h ∷ hs) y m =
    ⊎_elim (λ e. (h, here h h hs refl, e)) (λ later. let old = in_map f hs y later in (old.0, behind h old.0 hs old.1, old.2)) (split_at (f h) y (map f hs) m)

pub map_in : (f : Held → Held) (hs : List Held) (h : Held) → h ∈ hs → f h ∈ map f hs
map_in f [] h m = absurd (none_there h m)
map_in f (g ∷ hs) h m =
    ⊎_elim (λ (same : g ≡ h). here (f g) (f h) (map f hs) (ap f same)) (λ later. behind (f g) (f h) (map f hs) (map_in f hs h later)) (split_at g h hs m)

found_by : (b : Bool) (q : ℕ) (h : Held) (hs : List Held) (x : Part) → eqb h.seat q ≡ b → (part_among q hs ≡ Some x → (g : Held) × (g ∈ hs) × (g.seat ≡ q) × (g.part ≡ x)) →
    (if b then Some h.part else part_among q hs) ≡ Some x → (g : Held) × (g ∈ (h ∷ hs)) × (g.seat ≡ q) × (g.part ≡ x)
found_by true q h hs x at rest e = (h, here h h hs refl, eqb-true h.seat q at, same_Some h.part x e)
found_by false q h hs x at rest e = let old = rest e in (old.0, behind h old.0 hs old.1, old.2, old.3)

-- a part that a view has is that of one of its seats
pub found_among : (q : ℕ) (hs : List Held) (x : Part) → part_among q hs ≡ Some x → (h : Held) × (h ∈ hs) × (h.seat ≡ q) × (h.part ≡ x)
found_among q [] x e = absurd (cc)
found_among q (h ∷ hs) x e = found_by (eqb h.seat q) q h hs x refl (found_among q hs x) e

after_by : (b : Bool) (q : ℕ) (x y : Part) (h : Held) (hs : List Held) → (part_among q hs ≡ Some x → part_among q (map (held_after q y) hs) ≡ Some y) →
    (if b then Some h.part else part_among q hs) ≡ Some x → (if b then Some (if b then y else h.part) else part_among q (map (held_after q y) hs)) ≡ Some y
after_by true q x y h hs rest e = refl
after_by false q x y h hs rest e = rest e

among_after : (q : ℕ) (x y : Part) (hs : List Held) → part_among q hs ≡ Some x → part_among q (map (held_after q y) hs) ≡ Some y
among_after q x y [] e = absurd (cc)
among_after q x y (h ∷ hs) e = after_by (eqb h.seat q) q x y h hs (among_after q x y hs) e

-- a seat's part, once it is set
pub part_in-same : (v : View) (q : ℕ) (x y : Part) → part_in v q ≡ Some x → part_in (with_part q y v) q ≡ Some y
part_in-same v q x y e = among_after q x y v.held e

other_by : (b c : Bool) (q r : ℕ) (y : Part) (h : Held) (old new : Option Part) → eqb h.seat q ≡ b → eqb h.seat r ≡ c → r ≢ q → new ≡ old →
    (if c then Some (if b then y else h.part) else new) ≡ (if c then Some h.part else old)
other_by true true q r y h old new at also ne e = absurd (let s = eqb-true h.seat q at in let t = eqb-true h.seat r also in ne (cc))
other_by false true q r y h old new at also ne e = refl
other_by true false q r y h old new at also ne e = e
other_by false false q r y h old new at also ne e = e

among_other : (q r : ℕ) (y : Part) (hs : List Held) → r ≢ q → part_among r (map (held_after q y) hs) ≡ part_among r hs
among_other q r y [] ne = refl
among_other q r y (h ∷ hs) ne = other_by (eqb h.seat q) (eqb h.seat r) q r y h (part_among r hs) (part_among r (map (held_after q y) hs)) refl refl ne (among_other q r y hs ne)

-- another's, which stays
pub part_in-other : (v : View) (q r : ℕ) (y : Part) → r ≢ q → part_in (with_part q y v) r ≡ part_in v r
part_in-other v q r y ne = among_other q r y v.held ne

not_among_after : (q : ℕ) (y : Part) (r : ℕ) (hs : List Held) → NotAmong r hs → NotAmong r (map (held_after q y) hs)
not_among_after q y r hs none h m e =
    let old = in_map (held_after q y) hs h m in none old.0 old.1 (let s : old.0.seat ≡ h.seat = ap (λ (z : Held). z.seat) old.2 in cc)

-- each seat still stands once where parts are set, in a front of the list, and in two lists that have no seat in common
pub once_after : (q : ℕ) (y : Part) (hs : List Held) → EachOnce hs → EachOnce (map (held_after q y) hs)
once_after q y [] once = tt
once_after q y (h ∷ hs) once = (not_among_after q y h.seat hs once.0, once_after q y hs once.1)

pub once_front : (n : ℕ) (hs : List Held) → EachOnce hs → EachOnce (take n hs)
once_front zero hs once = tt
once_front (suc n) [] once = tt
once_front (suc n) (h ∷ hs) once = (λ g m. once.0 g (in_front n hs g m), once_front n hs once.1)

pub once_both : (hs gs : List Held) → EachOnce hs → EachOnce gs → ((h g : Held) → h ∈ hs → g ∈ gs → g.seat ≢ h.seat) → EachOnce (hs ++ gs)
once_both [] gs once also apart = also
once_both (h ∷ hs) gs once also apart = (
  (λ g m. ⊎_elim (λ left. once.0 g left) (λ right. apart h g (here h h hs refl) right) (in_either hs gs g m)),
  once_both hs gs once.1 also (λ a g m. apart a g (behind h a hs m)),
)

last_at : (n : ℕ) (hs : List Held) (d : Held) → length hs ≡ suc n → EachOnce hs → NotAmong (get_or hs n d).seat (take n hs)
last_at zero hs d e once g m = absurd (none_there g m)
last_at (suc n) [] d e once g m = absurd (none_there g m)
last_at (suc n) (h ∷ hs) d e once g m =
    ⊎_elim
    (λ (same : h ≡ g). λ seats. once.0 (get_or hs n d) (∈-at hs n d (omega (arith, e))) (let s : h.seat ≡ g.seat = ap (λ (z : Held). z.seat) same in cc))
    (λ later. last_at n hs d (omega (arith, e)) once.1 g later)
    (split_at h g (take n hs) m)

-- the last seat isn't among those before it
pub last_apart : (hs : List Held) (d : Held) → 0 < length hs → EachOnce hs → NotAmong (get_or hs (length hs - 1) d).seat (take (length hs - 1) hs)
last_apart hs d some_held once = last_at (length hs - 1) hs d (omega (arith, some_held)) once

-- a view stays in order where a part is set
pub order_after : (q : ℕ) (y : Part) (v : View) → IsInOrder v → IsInOrder (with_part q y v)
order_after q y v order = record {
  once = once_after q y v.held order.once;
  seats = λ h m. let old = in_map (held_after q y) v.held h m in ap (λ (z : Held). is_seat z.seat) (sym old.2) ∙ order.seats old.0 old.1;
}

set_twice : (b : Bool) (x y z : Part) → (if b then y else (if b then x else z)) ≡ (if b then y else z)
set_twice true x y z = refl
set_twice false x y z = refl

again_among : (q : ℕ) (x y : Part) (hs : List Held) → map (held_after q y) (map (held_after q x) hs) ≡ map (held_after q y) hs
again_among q x y [] = refl
again_among q x y (h ∷ hs) =
    let part : (held_after q y (held_after q x h)).part ≡ (held_after q y h).part = set_twice (eqb h.seat q) x y h.part in
    let head : held_after q y (held_after q x h) ≡ held_after q y h = ap (λ (z : Part). record h { part = z }) part in
    let tail = again_among q x y hs in
    cc

-- a part that is set twice
pub with_part-again : (q : ℕ) (x y : Part) (v : View) → with_part q y (with_part q x v) ≡ with_part q y v
with_part-again q x y v = ap of_seats (again_among q x y v.held)

held_same : (b : Bool) (x : Part) (h : Held) → (b ≡ true → x ≡ h.part) → record h { part = if b then x else h.part } ≡ h
held_same true x h e = ap (λ (z : Part). record h { part = z }) (e refl)
held_same false x h e = refl

none_set : (q : ℕ) (x : Part) (hs : List Held) → NotAmong q hs → map (held_after q x) hs ≡ hs
none_set q x [] none = refl
none_set q x (h ∷ hs) none =
    let head : held_after q x h ≡ h = held_same (eqb h.seat q) x h (λ at. absurd (none h (here h h hs refl) (eqb-true h.seat q at))) in
    let tail = none_set q x hs (λ g m. none g (behind h g hs m)) in
    cc

same_by : (b : Bool) (q : ℕ) (x : Part) (h : Held) (hs : List Held) → eqb h.seat q ≡ b → EachOnce (h ∷ hs) → (part_among q hs ≡ Some x → map (held_after q x) hs ≡ hs) →
    (if b then Some h.part else part_among q hs) ≡ Some x → record h { part = if b then x else h.part } ∷ map (held_after q x) hs ≡ h ∷ hs
same_by true q x h hs at once rest e =
    let is : h.part ≡ x = same_Some h.part x e in
    let head : record h { part = x } ≡ h = ap (λ (z : Part). record h { part = z }) (sym is) in
    let tail = none_set q x hs (λ g m same. once.0 g m (let s = eqb-true h.seat q at in cc)) in
    cc
same_by false q x h hs at once rest e = let tail = rest e in cc

same_among : (q : ℕ) (x : Part) (hs : List Held) → EachOnce hs → part_among q hs ≡ Some x → map (held_after q x) hs ≡ hs
same_among q x [] once e = refl
same_among q x (h ∷ hs) once e = same_by (eqb h.seat q) q x h hs refl once (same_among q x hs once.1) e

-- a part that is set as it was
pub with_part-same : (q : ℕ) (x : Part) (v : View) → IsInOrder v → part_in v q ≡ Some x → with_part q x v ≡ v
with_part-same q x v order has = ap of_seats (same_among q x v.held order.once has)
