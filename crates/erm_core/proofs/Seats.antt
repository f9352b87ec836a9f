-- The lists of seats and of objects with one changed, and what a step leaves of their room.
use Rattle.std.proofs.Common.{◌≡◌, ◌≢◌, ℕ, suc, ◌+◌, ◌<◌, ◌≤◌, ⊎_elim, Bool, true, false, List, [], ◌∷◌, set, map, length, get_or, slice_get, Some, refl, sym, ap, ◌∙◌, subst, arith}
use Rattle.std.specs.Prelude.{if◌then◌else◌}
use Rattle.std.proofs.lemmas.Bool.{cases_lt, cases_eq}
use Rattle.std.proofs.lemmas.List.{get_or-set_same, get_or-set_other, get_or-map, length-set}
use Rattle.std.proofs.lemmas.List.Sums.{sum_by-set, sum_by-cons}
use Rattle.std.proofs.lemmas.Option.{slice_get-get_or, slice_get_past, slice_get_read, slice_get_within, get_or_from_slice_get, same_Some}
use Rattle.erm_machine.specs.declared.event.Kind.{Kind}
use Rattle.erm_machine.specs.declared.event.Kind.TheVariants as kind
use Rattle.erm_machine.specs.declared.limits.TheConstants.{ANNOUNCERS}
use Rattle.erm_machine.specs.Words.{is_flusher}
use Rattle.erm_seat.specs.declared.seat.SeatState.{SeatState}
use Rattle.erm_seat.specs.Needs.{one}
use Rattle.erm_seat.specs.Rooms.{no_growth, GoesOn, MayDraw, Leaves}
use Rattle.erm_seat.proofs.Rooms.{stays}
use Rattle.erm_core.specs.Cores.{AreNew}
use Rattle.erm_core.specs.Rooms.{ranges_in}
use Rattle.erm_core.specs.Seats.{promise, promised_in, AreNumbered, SeatsLeave}

-- a list with one element set, looked up
pub get_set_same : {X : Type 0} (xs : List X) (k : ℕ) (y : X) → k < length xs → slice_get (set xs k y) k ≡ Some y
get_set_same xs k y within =
    let len = length-set xs k y in
    slice_get-get_or (set xs k y) k y (omega (arith, len, within)) ∙ ap (λ z. Some z) (get_or-set_same xs k y y within)

pub get_set_other : {X : Type 0} (xs : List X) (k : ℕ) (y : X) (n : ℕ) → n ≢ k → slice_get (set xs k y) n ≡ slice_get xs n
get_set_other xs k y n ne =
    let len = length-set xs k y in
    ⊎_elim
    (λ (h : n < length xs).
    slice_get-get_or (set xs k y) n y (omega (arith, len, h)) ∙ ap (λ z. Some z) (get_or-set_other xs k n y y ne) ∙ sym (slice_get-get_or xs n y h))
    (λ (h : length xs ≤ n). slice_get_past (set xs k y) n (omega (arith, len, h)) ∙ sym (slice_get_past xs n h))
    (cases_lt n (length xs))

-- a seat's place in the list of all
pub inside : (len p n : ℕ) → len ≡ n → len ≡ ANNOUNCERS → p < ANNOUNCERS → p < n
inside len p n a b h = omega arith

-- what is looked up there
pub found_there : {X : Type 0} (xs : List X) (k : ℕ) (x z : X) → k < length xs → x ≡ get_or xs k x → slice_get xs k ≡ Some z → x ≡ z
found_there xs k x z within at there = at ∙ get_or_from_slice_get xs k z x there

module _ (xs : List SeatState) (p : ℕ) (within : p < length xs) where
  pub numbered_at : (x : SeatState) → AreNumbered xs → x ≡ get_or xs p x → x.flushes ≡ is_flusher p
  numbered_at x numbered at = numbered p x (slice_get_read xs (length xs) p x refl within at)

  pub numbered_set : (y : SeatState) → AreNumbered xs → y.flushes ≡ is_flusher p → AreNumbered (set xs p y)
  numbered_set y numbered is q x there =
      ⊎_elim
      (λ (e : q ≡ p).
      let same : y ≡ x = same_Some y x (sym (get_set_same xs p y within) ∙ subst (λ m. slice_get (set xs p y) m ≡ Some x) e there) in
      sym (ap (λ (z : SeatState). z.flushes) same) ∙ is ∙ ap is_flusher (sym e))
      (λ (ne : q ≡ p → ⊥). numbered q x (sym (get_set_other xs p y q ne) ∙ there))
      (cases_eq q p)

  pub promised_set : (x y : SeatState) → x ≡ get_or xs p x → promised_in (set xs p y) + promise x ≡ promised_in xs + promise y
  promised_set x y at = ap (λ (z : SeatState). promised_in (set xs p y) + promise z) at ∙ sum_by-set promise xs p y x within

  pub seats_leave : (k : Kind) (cells : ℕ) (done : Bool) (x y : SeatState) → x ≡ get_or xs p x → Leaves k cells done x y → SeatsLeave k cells done p xs (set xs p y)
  seats_leave k cells done x y at leaves = record {
    own = λ z w there_z there_w.
        let same_x : x ≡ z = found_there xs p x z within at there_z in
        let same_y : y ≡ w = same_Some y w (sym (get_set_same xs p y within) ∙ there_w) in
        subst (λ (v : SeatState). Leaves k cells done v w) same_x (subst (λ (v : SeatState). Leaves k cells done x v) same_y leaves);
    others = λ q ne. get_set_other xs p y q ne;
  }

  -- one seat goes on, and the others stay
  pub goes_on_set : (x y : SeatState) → x ≡ get_or xs p x → GoesOn no_growth x y → (q : ℕ) (z w : SeatState) → slice_get xs q ≡ Some z → slice_get (set xs p y) q ≡ Some w → GoesOn no_growth z w
  goes_on_set x y at goes q z w there_z there_w =
      ⊎_elim
      (λ (e : q ≡ p).
      let same_x : x ≡ z = found_there xs p x z within at (subst (λ m. slice_get xs m ≡ Some z) e there_z) in
      let same_y : y ≡ w = same_Some y w (sym (get_set_same xs p y within) ∙ subst (λ m. slice_get (set xs p y) m ≡ Some w) e there_w) in
      subst (λ (v : SeatState). GoesOn no_growth v w) same_x (subst (λ (v : SeatState). GoesOn no_growth x v) same_y goes))
      (λ (ne : q ≡ p → ⊥). subst (λ (v : SeatState). GoesOn no_growth z v) (same_Some z w (sym there_z ∙ sym (get_set_other xs p y q ne) ∙ there_w)) (stays z))
      (cases_eq q p)

-- no more ranges are promised than there are seats
promise-le : (x : SeatState) → promise x ≤ 1
promise-le x = by_test x.promised
  where
    by_test : (b : Bool) → one b ≤ 1
    by_test true = omega arith
    by_test false = omega arith

pub few_promised : (xs : List SeatState) → promised_in xs ≤ length xs
few_promised [] = omega arith
few_promised (x ∷ xs) =
    let rest = few_promised xs in
    let here = promise-le x in
    let sum : promised_in (x ∷ xs) ≡ promise x + promised_in xs = sum_by-cons promise x xs in
    omega (arith, rest, here, sum)

nothing_either : (done : Bool) → (if done then 0 else 0) ≤ 0
nothing_either true = omega arith
nothing_either false = omega arith

same_promise : (done : Bool) (x y : SeatState) → y.promised ≡ x.promised → promise y + (if done then 0 else 0) ≤ promise x
same_promise done x y e =
    let same : promise y ≡ promise x = ap one e in
    let none = nothing_either done in
    omega (arith, same, none)

-- a promise is kept until the draw
pub promise_after : (k : Kind) (cells : ℕ) (done : Bool) (x y : SeatState) → Leaves k cells done x y → promise y + (if done then ranges_in k else 0) ≤ promise x
promise_after (kind.AddTail size) cells done x y h = h.promised
promise_after (kind.StoreBegin value) cells done x y h = same_promise done x y h.promised
promise_after (kind.StoreState value) cells done x y h = same_promise done x y h.promised
promise_after k cells done x y h = same_promise done x y h.promised

-- a seat stays the flush seat, or another one
pub flushes_after : (k : Kind) (cells : ℕ) (done : Bool) (x y : SeatState) → Leaves k cells done x y → y.flushes ≡ x.flushes
flushes_after (kind.AddTail size) cells done x y h = h.seat.flushes
flushes_after (kind.StoreBegin value) cells done x y h = h.seat.flushes
flushes_after (kind.StoreState value) cells done x y h = h.seat.flushes
flushes_after k cells done x y h = h.seat.flushes

less_drawn : (done : Bool) (x y : SeatState) → MayDraw done x y → MayDraw false x y
less_drawn done x y h =
    let promised = h.promised in
    record { seat = h.seat; over = h.over; promised = omega (arith, promised); lists = h.lists; grows = h.grows }

-- what is left where it isn't said whether the step was done
pub leaves_either : (k : Kind) (cells : ℕ) (done : Bool) (x y : SeatState) → Leaves k cells done x y → Leaves k cells false x y
leaves_either (kind.AddTail size) cells done x y h = less_drawn done x y h
leaves_either (kind.StoreBegin value) cells done x y h = h
leaves_either (kind.StoreState value) cells done x y h = h
leaves_either k cells done x y h = h

-- a seat that is the same in two lists
pub stays_there : (xs ys : List SeatState) (p : ℕ) (x y : SeatState) → slice_get ys p ≡ slice_get xs p → slice_get xs p ≡ Some x → slice_get ys p ≡ Some y → GoesOn no_growth x y
stays_there xs ys p x y same there_x there_y =
    subst (λ (z : SeatState). GoesOn no_growth x z) (same_Some x y (sym there_x ∙ sym same ∙ there_y)) (stays x)

none_promised : (xs : List SeatState) → ((p : ℕ) → p < length xs → get_or (map (λ (x : SeatState). x.promised) xs) p false ≡ false) → promised_in xs ≤ 0
none_promised [] none = omega arith
none_promised (x ∷ xs) none =
    let here : promise x ≡ one false = ap one (none 0 (omega arith)) in
    let rest = none_promised xs (λ p h. none (suc p) (omega (arith, h))) in
    let sum : promised_in (x ∷ xs) ≡ promise x + promised_in xs = sum_by-cons promise x xs in
    omega (arith, here, rest, sum)

-- seats of which each is new
pub all_new : (xs : List SeatState) (n : ℕ) → n ≡ length xs → ((p : ℕ) → p < n → get_or (map (λ (x : SeatState). x.flushes) xs) p false ≡ is_flusher p) →
    ((p : ℕ) → p < n → get_or (map (λ (x : SeatState). x.promised) xs) p false ≡ false) → AreNew xs
all_new xs n len numbered promised =
    let none = none_promised xs (λ p h. promised p (omega (arith, h, len))) in
    record {
      promised = omega (arith, none);
      numbered = λ p x there.
          let low = slice_get_within xs p x there in
          let at : get_or (map (λ (z : SeatState). z.flushes) xs) p false ≡ (get_or xs p x).flushes = get_or-map (λ (z : SeatState). z.flushes) xs p x false low in
          sym (ap (λ (z : SeatState). z.flushes) (get_or_from_slice_get xs p x x there)) ∙ sym at ∙ numbered p (omega (arith, low, len));
    }
