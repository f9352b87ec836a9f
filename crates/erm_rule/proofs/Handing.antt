-- The first pass hands out the sessions one by one.
use Rattle.std.proofs.Common.{◌≡◌, ℕ, zero, suc, ◌+◌, ◌-◌, ◌<◌, ◌≤◌, Bool, true, false, List, [], ◌∷◌, length, take, get_or, refl, sym, ap, ◌∙◌, subst, arith}
use Rattle.std.specs.Prelude.{if◌then◌else◌}
use Rattle.erm_machine.specs.declared.limits.TheConstants.{ANNOUNCERS, FLUSH_SEAT, SESSIONS}
use Rattle.erm_machine.specs.declared.place.Place.TheVariants.{Vacant, Idle}
use Rattle.erm_machine.specs.Core.{fresh_part, is_taken}
use Rattle.erm_machine.specs.Seat.{is_vacant}
use Rattle.erm_rule.specs.declared.view.Held.{Held}
use Rattle.erm_rule.specs.declared.view.Opening.{Opening}
use Rattle.erm_rule.specs.Rule.{first_place, sessions_from, first_view, rest_view, HandsOut}
use Rattle.erm_rule.specs.Views.{of_seats, no_held, taken}

take_less : (n m : ℕ) (hs : List Held) → n ≤ m → take n (take m hs) ≡ take n hs
take_less zero m hs low = refl
take_less (suc n) zero hs low = absurd (omega arith)
take_less (suc n) (suc m) [] low = refl
take_less (suc n) (suc m) (h ∷ hs) low = ap (λ (gs : List Held). h ∷ gs) (take_less n m hs (omega (arith, low)))

take_all : (n : ℕ) (hs : List Held) → length hs ≤ n → take n hs ≡ hs
take_all zero [] low = refl
take_all zero (h ∷ hs) low = absurd (omega arith)
take_all (suc n) [] low = refl
take_all (suc n) (h ∷ hs) low = ap (λ (gs : List Held). h ∷ gs) (take_all n hs (omega (arith, low)))

at_taken : (n i : ℕ) (hs : List Held) → i < n → get_or (take n hs) i no_held ≡ get_or hs i no_held
at_taken zero i hs low = absurd (omega arith)
at_taken (suc n) i [] low = refl
at_taken (suc n) zero (h ∷ hs) low = refl
at_taken (suc n) (suc i) (h ∷ hs) low = at_taken n i hs (omega (arith, low))

length_taken : (n : ℕ) (hs : List Held) → n ≤ length hs → length (take n hs) ≡ n
length_taken zero hs low = refl
length_taken (suc n) [] low = absurd (omega arith)
length_taken (suc n) (h ∷ hs) low = ap suc (length_taken n hs (omega (arith, low)))

abbrev session_held : Opening → ℕ → Held
session_held o q = record { seat = q; part = fresh_part (first_place o q) o.run o.tail }

not_taken : (q : ℕ) → 1 ≤ q → q ≤ SESSIONS → is_taken 0 q ≡ false
not_taken q low high = grind arith

-- where no session is idle at opening, each is vacant
session_vacant : (o : Opening) (q : ℕ) → o.sessions ≡ 0 → 1 ≤ q → q ≤ SESSIONS → is_vacant (session_held o q).part.place ≡ true
session_vacant o q none low high =
    let untaken : is_taken o.sessions q ≡ false = subst (λ (n : ℕ). is_taken n q ≡ false) (sym none) (not_taken q low high) in ap (λ (b : Bool). is_vacant (if b then Idle else Vacant)) untaken

session_at : (o : Opening) (n i : ℕ) → i < n → get_or (sessions_from o n) i no_held ≡ session_held o (n - i)
session_at o zero i low = absurd (omega arith)
session_at o (suc n) zero low = let e : suc n ≡ suc n - 0 = omega arith in ap (session_held o) e
session_at o (suc n) (suc i) low = let e : n - i ≡ suc n - suc i = omega arith in session_at o n i (omega (arith, low)) ∙ ap (session_held o) e

length_sessions : (o : Opening) (n : ℕ) → length (sessions_from o n) ≡ n
length_sessions o zero = refl
length_sessions o (suc n) = ap suc (length_sessions o n)

module _ (o : Opening) where
  abbrev flush : Held
  flush = record { seat = FLUSH_SEAT; part = fresh_part Idle o.run o.tail }

  abbrev all : List Held
  all = flush ∷ sessions_from o SESSIONS

  -- the first so many of the seats: how many, the first and the last of them
  module _ (m q : ℕ) (two : 2 ≤ m) (at : m + q ≡ ANNOUNCERS) (some_left : 1 ≤ q) where
    many : length (take m all) ≡ m
    many = let sessions = length_sessions o SESSIONS in length_taken m all (omega (arith, sessions, at, some_left))

    first_is : get_or (take m all) 0 no_held ≡ flush
    first_is = at_taken m 0 all (omega (arith, two))

    last_is : get_or (take m all) (length (take m all) - 1) no_held ≡ session_held o q
    last_is =
        let place : length (take m all) - 1 ≡ suc (m - 2) = let n = many in omega (arith, n, two) in
        let seat : SESSIONS - (m - 2) ≡ q = omega (arith, two, at) in
        ap (λ (i : ℕ). get_or (take m all) i no_held) place
        ∙ at_taken m (suc (m - 2)) all (omega (arith, two))
        ∙ session_at o SESSIONS (m - 2) (omega (arith, two, at, some_left))
        ∙ ap (session_held o) seat

    left_is : (n : ℕ) → n + 1 ≡ m → take (length (take m all) - 1) (take m all) ≡ take n all
    left_is n less =
        let place : length (take m all) - 1 ≡ n = let k = many in omega (arith, k, less) in
        ap (λ (i : ℕ). take i (take m all)) place ∙ take_less n m all (omega (arith, less))

  pub hands_out : (given : ℕ) → o.sessions ≡ 0 → given < SESSIONS → HandsOut o given
  unfolding rest_view first_view
  hands_out given none low =
      let two : 2 ≤ FLUSH_SEAT - given = omega (arith, low) in
      let at : (FLUSH_SEAT - given) + (given + 1) ≡ ANNOUNCERS = omega (arith, low) in
      let some_left : 1 ≤ given + 1 = omega arith in
      let less : (FLUSH_SEAT - (given + 1)) + 1 ≡ FLUSH_SEAT - given = omega (arith, low) in
      let first = first_is (FLUSH_SEAT - given) (given + 1) two at some_left in
      let last = last_is (FLUSH_SEAT - given) (given + 1) two at some_left in
      record {
        may = record {
          several = let n = many (FLUSH_SEAT - given) (given + 1) two at some_left in omega (arith, n, two);
          giver = ap (λ (h : Held). is_vacant h.part.place) first;
          given = ap (λ (h : Held). is_vacant h.part.place) last ∙ session_vacant o (given + 1) none some_left (omega (arith, low));
        };
        left = ap of_seats (left_is (FLUSH_SEAT - given) (given + 1) two at some_left (FLUSH_SEAT - (given + 1)) less);
        right = ap (λ (h : Held). of_seats (taken h (get_or (take (FLUSH_SEAT - given) all) (length (take (FLUSH_SEAT - given) all) - 1) no_held) ∷ [])) first
            ∙ ap (λ (h : Held). of_seats (taken flush h ∷ [])) last;
      }

  pub none_given : rest_view o 0 ≡ first_view o
  unfolding rest_view first_view
  none_given = ap of_seats (let long = length_sessions o SESSIONS in let e : FLUSH_SEAT ≡ FLUSH_SEAT - 0 = omega arith in ap (λ (n : ℕ). take n all) (sym e) ∙ take_all FLUSH_SEAT all (omega (arith, long)))
