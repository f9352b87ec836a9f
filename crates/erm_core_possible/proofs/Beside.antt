-- What the commits below a transaction's begin stamp made, and it besides, is made once.
use Rattle.std.proofs.Common.{◌≡◌, ℕ, ◌+◌, ◌<◌, ◌≤◌, ⊎_elim, List, [], ◌∷◌, flat_map, sym, ap, ◌∙◌, subst, arith}
use Rattle.std.specs.Prelude.{nat_lt}
use Rattle.std.proofs.lemmas.Bool.{cases_eq, cond_both}
use Rattle.std.proofs.lemmas.List.Sums.{sum_by-cons}
use Rattle.erm_model.specs.declared.history.TransactionRecord.{TransactionRecord}
use Rattle.erm_model.specs.History.{History, below}
use Rattle.erm_model.specs.Lawful.{times_made}
use Rattle.erm_model.specs.Member.{◌∈◌}
use Rattle.erm_model.specs.RowTransaction.{Law}
use Rattle.erm_model.proofs.Members.{none_in_nil, ∈-behind}
use Rattle.erm_machine.specs.declared.limits.TheConstants.{ANNOUNCERS}
use Rattle.erm_machine.specs.declared.attempt.Attempt.{Attempt}
use Rattle.erm_machine.specs.declared.part.Part.{Part}
use Rattle.erm_machine.specs.Core.{Core}
use Rattle.erm_machine.specs.Decided.{history_of}
use Rattle.erm_machine.specs.Facts.{all_of}
use Rattle.erm_machine.specs.Lawful.{opening_rows}
use Rattle.erm_machine.specs.Numbers.{made_of}
use Rattle.erm_machine.proofs.Histories.{history_has}
use Rattle.erm_machine.proofs.Listed.{∈-cons, ∈-head}
use Rattle.erm_core_ssn.specs.Laws.{made_in_history}
use Rattle.erm_core_ssn.proofs.Prefixes.{in_below}
use Rattle.erm_core_view.proofs.Made.{at_most_once, made_at, none_or_some, times_both}
use Rattle.erm_log_list.proofs.Made.{made_new, made_once, made_push}
use Rattle.erm_sound.specs.Kept.{SoundUnder}

-- what the first one of a history made, and the others
made_first : (t : TransactionRecord) (rest : History) (x : ℕ) → made_in_history (t ∷ rest) x ≡ times_made t.made x + made_in_history rest x
made_first t rest x = sum_by-cons (λ (u : TransactionRecord). times_made u.made x) t rest

pub below_made : (bound : ℕ) (h : History) (x : ℕ) → made_in_history (below bound h) x ≤ made_in_history h x
below_made bound [] x = omega arith
below_made bound (t ∷ h) x =
    let rest = below_made bound h x in
    let all = made_first t h x in
    cond_both (nat_lt t.stamp bound) (t ∷ below bound h) (below bound h) (λ l. made_in_history l x ≤ made_in_history (t ∷ h) x)
    (λ _. let one = made_first t (below bound h) x in omega (arith, one, all, rest))
    (λ _. omega (arith, all, rest))

-- one of a history made an object
record MadeBy (h : History) (x : ℕ) : Type 0 where
  by : TransactionRecord
  stands : by ∈ h
  made : 0 < times_made by.made x

made_by : (h : History) (x : ℕ) → 0 < made_in_history h x → MadeBy h x
made_by [] x some = absurd (omega (arith, some))
made_by (t ∷ h) x some =
    let all = made_first t h x in
    ⊎_elim
    (λ (none : times_made t.made x ≡ 0). let r = made_by h x (omega (arith, some, all, none)) in record { by = r.by; stands = ∈-behind t h r.by r.stands; made = r.made })
    (λ (here : 0 < times_made t.made x). record { by = t; stands = ∈-head t h; made = here })
    (none_or_some (times_made t.made x))

seat_made : (p : Part) (x : ℕ) → times_made (made_of p) x ≡ times_made (flat_map (λ (t : Attempt). t.made) (all_of p)) x
seat_made p x =
    let push = made_push p.over p.current x in
    let both = times_both (flat_map (λ (t : Attempt). t.made) p.over) p.current.made x in
    omega (arith, push, both)

one_in : (ts : List Attempt) (t : Attempt) (x : ℕ) → t ∈ ts → times_made t.made x ≤ times_made (flat_map (λ (u : Attempt). u.made) ts) x
one_in [] t x m = absurd (none_in_nil t m)
one_in (y ∷ ys) t x m =
    let both = times_both y.made (flat_map (λ (u : Attempt). u.made) ys) x in
    ⊎_elim
    (λ (here : y ≡ t). let same = ap (λ (u : Attempt). times_made u.made x) here in omega (arith, both, same))
    (λ (there : t ∈ ys). let rest = one_in ys t x there in omega (arith, both, rest))
    (∈-cons t y ys m)

two_in : (ts : List Attempt) (t u : Attempt) (x : ℕ) → t ∈ ts → u ∈ ts → (t ≡ u → ⊥) → times_made t.made x + times_made u.made x ≤ times_made (flat_map (λ (v : Attempt). v.made) ts) x
two_in [] t u x m n other = absurd (none_in_nil t m)
two_in (y ∷ ys) t u x m n other =
    let both = times_both y.made (flat_map (λ (v : Attempt). v.made) ys) x in
    ⊎_elim
    (λ (here : y ≡ t).
    let same = ap (λ (v : Attempt). times_made v.made x) here in
    ⊎_elim
    (λ (also : y ≡ u). absurd (other (sym here ∙ also)))
    (λ (there : u ∈ ys). let rest = one_in ys u x there in omega (arith, both, same, rest))
    (∈-cons u y ys n))
    (λ (there : t ∈ ys).
    ⊎_elim
    (λ (here : y ≡ u). let same = ap (λ (v : Attempt). times_made v.made x) here in let rest = one_in ys t x there in omega (arith, both, same, rest))
    (λ (also : u ∈ ys). let rest = two_in ys t u x there also other in omega (arith, both, rest))
    (∈-cons u y ys n))
    (∈-cons t y ys m)

module _ (law : Law) (c : Core) (under : SoundUnder law c) (q : ℕ) (t : Attempt) (m : t ∈ all_of (c.seats q)) (x : ℕ) where
  own_made : times_made t.made x ≤ times_made (made_of (c.seats q)) x
  own_made = let all = seat_made (c.seats q) x in let one = one_in (all_of (c.seats q)) t x m in omega (arith, all, one)

  own_once : times_made t.made x ≤ 1
  own_once = let own = own_made in let once = at_most_once (made_of (c.seats q)) x (under.sound.own q).made.once in omega (arith, own, once)

  -- a commit that began to count before the transaction did didn't make what it made
  other_made : 0 < times_made t.made x → (u : TransactionRecord) → u ∈ history_of c.seats → u.stamp < t.begin → 0 < times_made u.made x → ⊥
  other_made made u of_u early also =
      let by = history_has c.seats u of_u in
      let stamp = ap (λ (r : TransactionRecord). r.stamp) by.is in
      let objects : times_made by.attempt.made x ≡ times_made u.made x = ap (λ (r : TransactionRecord). times_made r.made x) by.is in
      ⊎_elim
      (λ (same_seat : by.seat ≡ q).
      let there : by.attempt ∈ all_of (c.seats q) = subst (λ n. by.attempt ∈ all_of (c.seats n)) same_seat by.stands in
      let other : t ≡ by.attempt → ⊥ = (λ e.
      let drawn = (under.sound.own by.seat).decided.positive by.attempt by.stands by.commit in
      let own = (under.sound.own by.seat).lives.sealed by.attempt by.stands drawn in
      let late = own.1 in
      let begin = ap (λ (v : Attempt). v.begin) e in
      omega (arith, late, begin, stamp, early)) in
      let two = two_in (all_of (c.seats q)) t by.attempt x m there other in
      let all = seat_made (c.seats q) x in
      let once = at_most_once (made_of (c.seats q)) x (under.sound.own q).made.once in
      omega (arith, two, all, once, made, also, objects))
      (λ (apart : by.seat ≡ q → ⊥).
      let theirs = one_in (all_of (c.seats by.seat)) by.attempt x by.stands in
      let all = seat_made (c.seats by.seat) x in
      let own = own_made in
      let one = made_at (made_of (c.seats by.seat)) x (omega (arith, theirs, all, also, objects)) in
      let two = made_at (made_of (c.seats q)) x (omega (arith, own, made)) in
      (under.sound.both by.seat q apart).made.apart one.place two.place one.within two.within (one.is ∙ sym two.is))
      (cases_eq by.seat q)

  pub made_beside : made_in_history (below t.begin (history_of c.seats)) x + times_made t.made x ≤ 1
  made_beside =
      let h = history_of c.seats in
      let all = below_made t.begin h x in
      let once = made_once c under.sound ANNOUNCERS x in
      let own = own_once in
      ⊎_elim
      (λ (none : times_made t.made x ≡ 0). omega (arith, none, all, once))
      (λ (made : 0 < times_made t.made x).
      ⊎_elim
      (λ (no_other : made_in_history (below t.begin h) x ≡ 0). omega (arith, no_other, own))
      (λ (some : 0 < made_in_history (below t.begin h) x).
      let r = made_by (below t.begin h) x some in
      let there = in_below h t.begin r.by r.stands in
      absurd (other_made made r.by there.0 there.1 r.made))
      (none_or_some (made_in_history (below t.begin h) x)))
      (none_or_some (times_made t.made x))

  -- what is made is new
  pub opening_unreached : 0 < made_in_history (below t.begin (history_of c.seats)) x + times_made t.made x → law.reach (opening_rows c.shared) x ≡ 0
  opening_unreached some =
      let h = history_of c.seats in
      let all = below_made t.begin h x in
      ⊎_elim
      (λ (none : times_made t.made x ≡ 0). under.lawful.below x (made_new c under.sound ANNOUNCERS x (omega (arith, none, all, some))))
      (λ (made : 0 < times_made t.made x).
      let own = own_made in
      let at = made_at (made_of (c.seats q)) x (omega (arith, own, made)) in
      under.lawful.below x (subst (λ k. c.shared.first ≤ k) at.is ((under.sound.own q).made.from at.place at.within)))
      (none_or_some (times_made t.made x))
