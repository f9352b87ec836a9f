-- Sessions that were closed, by their seats.
use Rattle.std.proofs.Common.{◌≡◌, ◌≢◌, ℕ, zero, suc, ◌+◌, ◌<◌, ◌==◌, Bool, true, false, if◌then◌else◌, List, [], ◌∷◌, ◌++◌, length, map, Option, Some, None, get_or, AllPairs, inl, inr, refl, ap, ◌∙◌, arith}
use Rattle.std.specs.List.{filter, slice_get}
use Rattle.std.proofs.lemmas.Bool.Decides.{eqb_tells}
use Rattle.std.proofs.lemmas.List.Kept.{AllPairs-cons}
use Rattle.erm_model.specs.Member.{◌∈◌}
use Rattle.erm_model.proofs.Members.{none_in_nil, ∈-at}
use Rattle.erm_report.specs.declared.answer.Answer.{Answer}
use Rattle.erm_good_report.specs.Phases.{Closed}
use Rattle.erm_lines.specs.Executions.{Move, close}
use Rattle.erm_joined.specs.Merged.{closes_from}

pub same_seat : (a b : ℕ) → a ≡ b → (a == b) ≡ true
same_seat a b is = elim (eqb_tells a b) [ inl here ↦ here.0 | inr there ↦ absurd (there.1 is) ]

pub other_seat : (a b : ℕ) → a ≢ b → (a == b) ≡ false
other_seat a b isnt = elim (eqb_tells a b) [ inl here ↦ absurd (isnt here.1) | inr there ↦ there.0 ]

-- a session that is in the list has one of the seats
pub in_closes : (from : ℕ) (closed : List (Option Answer)) (c : Closed) → c ∈ closes_from from closed → (k : ℕ) × (k < length closed) × (c.session ≡ from + k)
in_closes from [] c m = absurd (none_in_nil c m)
in_closes from (None ∷ closed) c m = let rest = in_closes (from + 1) closed c m in let few = rest.1 in let is = rest.2 in (suc rest.0, omega (arith, few), omega (arith, is))
in_closes from (Some a ∷ closed) c (zero, is) = (0, omega arith, (let seat : from ≡ c.session = the_seat a from c is in omega (arith, seat)))
  where
    the_seat : (a : Answer) (from : ℕ) (c : Closed) → ◌≡◌ {A = Option Closed} (Some (record { session = from; answer = a })) (Some c) → from ≡ c.session
    the_seat a from c is = cc
in_closes from (Some a ∷ closed) c (suc i, is) = let rest = in_closes (from + 1) closed c (i, is) in let few = rest.1 in let is = rest.2 in (suc rest.0, omega (arith, few), omega (arith, is))

-- they ascend
pub ascending : (from : ℕ) (closed : List (Option Answer)) → AllPairs (λ (a b : Closed). a.session < b.session) (closes_from from closed)
ascending from [] = λ i j d before in_it. absurd (omega (arith, in_it))
ascending from (None ∷ closed) = ascending (from + 1) closed
ascending from (Some a ∷ closed) =
    let more = closes_from (from + 1) closed in
    AllPairs-cons (λ (a b : Closed). a.session < b.session) (record { session = from; answer = a }) more
    (λ k d few. let at = in_closes (from + 1) closed (get_or more k d) (∈-at more k d few) in let is = at.2 in omega (arith, is)) (ascending (from + 1) closed)

-- the moves that close a session so
abbrev pub closing_of : ℕ → Option Answer → List Move
closing_of seat None = []
closing_of seat (Some a) = close seat a ∷ []

-- the moves that close the session, of those listed
abbrev pub closings : ℕ → List Closed → List Move
closings seat closed = map (λ (c : Closed). close c.session c.answer) (filter (λ c. c.session == seat) closed)

one_more : (seat from : ℕ) (a : Answer) (more : List Closed) (b : Bool) → (from == seat) ≡ b
    → closings seat (record { session = from; answer = a } ∷ more) ≡ (if b then close from a ∷ closings seat more else closings seat more)
one_more seat from a more true is = ap (λ (b : Bool). map (λ (c : Closed). close c.session c.answer) (if b then record { session = from; answer = a } ∷ filter (λ c. c.session == seat) more else filter (λ c. c.session == seat) more)) is
one_more seat from a more false is = ap (λ (b : Bool). map (λ (c : Closed). close c.session c.answer) (if b then record { session = from; answer = a } ∷ filter (λ c. c.session == seat) more else filter (λ c. c.session == seat) more)) is

-- none is of another seat
pub none_closed : (seat from : ℕ) (closed : List (Option Answer)) → ((k : ℕ) → k < length closed → from + k ≢ seat) → closings seat (closes_from from closed) ≡ []
none_closed seat from [] isnt = refl
none_closed seat from (None ∷ closed) isnt = none_closed seat (from + 1) closed (λ k few is. isnt (suc k) (omega (arith, few)) (omega (arith, is)))
none_closed seat from (Some a ∷ closed) isnt =
    one_more seat from a (closes_from (from + 1) closed) false (other_seat from seat (λ is. isnt 0 (omega arith) (omega (arith, is))))
    ∙ none_closed seat (from + 1) closed (λ k few is. isnt (suc k) (omega (arith, few)) (omega (arith, is)))

-- that of a seat is closed as it was noted
pub own_closed : (seat from k : ℕ) (closed : List (Option Answer)) (one : Option Answer) → from + k ≡ seat → slice_get closed k ≡ Some one → closings seat (closes_from from closed) ≡ closing_of seat one
own_closed seat from k [] one is at = absurd (let no : None ≡ Some one = at in cc)
own_closed seat from zero (None ∷ closed) one is at =
    none_closed seat (from + 1) closed (λ k few same. absurd (omega (arith, is, same))) ∙ ap (closing_of seat) (the_one None one at)
  where
    the_one : (a b : Option Answer) → Some a ≡ Some b → a ≡ b
    the_one a b is = cc
own_closed seat from zero (Some a ∷ closed) one is at =
    let here : from ≡ seat = omega (arith, is) in
    one_more seat from a (closes_from (from + 1) closed) true (same_seat from seat here)
    ∙ ap (λ (ms : List Move). close from a ∷ ms) (none_closed seat (from + 1) closed (λ k few same. absurd (omega (arith, is, same))))
    ∙ ap (λ (s : ℕ). close s a ∷ []) here ∙ ap (closing_of seat) (the_one (Some a) one at)
  where
    the_one : (a b : Option Answer) → Some a ≡ Some b → a ≡ b
    the_one a b is = cc
own_closed seat from (suc k) (None ∷ closed) one is at = own_closed seat (from + 1) k closed one (omega (arith, is)) at
own_closed seat from (suc k) (Some a ∷ closed) one is at =
    one_more seat from a (closes_from (from + 1) closed) false (other_seat from seat (λ same. omega (arith, is, same)))
    ∙ own_closed seat (from + 1) k closed one (omega (arith, is)) at

-- those behind others
pub closes_more : (from : ℕ) (closed more : List (Option Answer)) → closes_from from (closed ++ more) ≡ closes_from from closed ++ closes_from (from + length closed) more
closes_more from [] more = ap (λ (s : ℕ). closes_from s more) (omega arith)
closes_more from (None ∷ closed) more = closes_more (from + 1) closed more ∙ ap (λ (s : ℕ). closes_from (from + 1) closed ++ closes_from s more) (omega arith)
closes_more from (Some a ∷ closed) more =
    ap (λ (cs : List Closed). record { session = from; answer = a } ∷ cs) (closes_more (from + 1) closed more ∙ ap (λ (s : ℕ). closes_from (from + 1) closed ++ closes_from s more) (omega arith))
