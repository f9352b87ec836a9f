-- Where a transaction that is told stands among those of its session, by its number.
use Rattle.std.proofs.Common.{◌≡◌, ◌≢◌, ℕ, zero, suc, ◌+◌, ◌==◌, ◌<◌, ◌≤◌, Bool, cond, List, [], ◌∷◌, ◌++◌, refl, ap, ◌∙◌, inl, inr, ⊎_elim, arith, eq-eqb, ne_eqb}
use Rattle.std.specs.List.{flat_map, range_with_len}
use Rattle.std.specs.Option.{option_to_list}
use Rattle.erm_model.specs.Member.{◌∈◌}
use Rattle.erm_model.specs.Run.{Step}
use Rattle.erm_model.proofs.Members.{none_in_nil, ∈-behind}
use Rattle.erm_machine.proofs.Listed.{∈-cons, ∈-either, ∈-head}
use Rattle.erm_maps.specs.Runs.{Told}
use Rattle.erm_good_report.specs.Transactions.{Progress, Transaction, steps_of}
use Rattle.erm_told.proofs.Pairs.{Pairs}
use Rattle.erm_told.proofs.Reported.{Ascends}

-- a session's transactions, the one that isn't over last
abbrev pub all_of : Progress → List Transaction
all_of p = p.over ++ option_to_list p.current

-- the operations of the transaction with a number, where there is one
abbrev pub steps_of_number : List Transaction → ℕ → List Step
steps_of_number [] number = []
steps_of_number (t ∷ ts) number = cond (t.number == number) (steps_of t) (steps_of_number ts number)

-- the operations told of each session's transactions, by their numbers
abbrev pub told_by : (ℕ → Progress) → Told
told_by progress seat number = steps_of_number (all_of (progress seat)) number

-- those of one whose number no other has
pub steps_there : (ts : List Transaction) (t : Transaction) → Pairs Ascends ts → t ∈ ts → steps_of_number ts t.number ≡ steps_of t
steps_there [] t ascend m = absurd (none_in_nil t m)
steps_there (u ∷ ts) t ascend m =
    ⊎_elim
    (λ (here : u ≡ t). ap (λ (b : Bool). cond b (steps_of u) (steps_of_number ts t.number)) (eq-eqb u.number t.number (ap (λ (x : Transaction). x.number) here)) ∙ ap steps_of here)
    (λ (later : t ∈ ts).
    let less = ascend.0 t later in
    ap (λ (b : Bool). cond b (steps_of u) (steps_of_number ts t.number)) (ne_eqb u.number t.number (λ same. omega (arith, less, same))) ∙ steps_there ts t ascend.1 later)
    (∈-cons t u ts m)

-- and none where no transaction has the number
pub steps_none : (ts : List Transaction) (number : ℕ) → ((t : Transaction) → t ∈ ts → t.number ≢ number) → steps_of_number ts number ≡ []
steps_none [] number none = refl
steps_none (u ∷ ts) number none =
    ap (λ (b : Bool). cond b (steps_of u) (steps_of_number ts number)) (ne_eqb u.number number (none u (∈-head u ts)))
    ∙ steps_none ts number (λ t m. none t (∈-behind u ts t m))

-- what stands in the lists of some numbers stands in that of one of them
pub record StandsAt {X : Type 0} (lists : ℕ → List X) (least bound : ℕ) (x : X) : Type 0 where
  pub at : ℕ
  pub above : least ≤ at
  pub below : at < bound
  pub stands : x ∈ lists at

pub stands_at : {X : Type 0} (lists : ℕ → List X) (a n : ℕ) (x : X) → x ∈ flat_map lists (range_with_len a n) → StandsAt lists a (a + n) x
stands_at lists a zero x m = absurd (none_in_nil x m)
stands_at lists a (suc n) x m =
    elim (∈-either (lists a) (flat_map lists (range_with_len (a + 1) n)) x m) [
      | inl here ↦ record { at = a; above = omega arith; below = omega arith; stands = here }
      | inr later ↦
          let r = stands_at lists (a + 1) n x later in
          record { at = r.at; above = omega (arith, r.above); below = omega (arith, r.below); stands = r.stands }
    ]

-- some numbers, and one more
pub range_more : (a n : ℕ) → range_with_len a (suc n) ≡ range_with_len a n ++ (a + n) ∷ []
range_more a zero =
    let e : a ≡ a + 0 = omega arith in
    ap (λ b. b ∷ []) e
range_more a (suc n) =
    let e : (a + 1) + n ≡ a + suc n = omega arith in
    ap (λ rest. a ∷ rest) (range_more (a + 1) n ∙ ap (λ b. range_with_len (a + 1) n ++ b ∷ []) e)
