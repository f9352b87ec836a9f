-- How often the machine's commits made an object: once at most, and a new one.
use Rattle.std.proofs.Common.{◌≡◌, ℕ, zero, suc, ◌+◌, ◌<◌, ◌≤◌, ⊎_elim, List, [], ◌∷◌, ◌++◌, filter, flat_map, map, sym, ◌∙◌, subst, arith}
use Rattle.std.proofs.lemmas.Bool.{cond_both}
use Rattle.std.proofs.lemmas.List.Sums.{sum_by-append, sum_by-cons}
use Rattle.erm_model.specs.declared.history.TransactionRecord.{TransactionRecord}
use Rattle.erm_model.specs.History.{History}
use Rattle.erm_model.specs.Lawful.{times_made}
use Rattle.erm_machine.specs.declared.attempt.Attempt.{Attempt}
use Rattle.erm_machine.specs.declared.part.Part.{Part}
use Rattle.erm_machine.specs.Core.{Core}
use Rattle.erm_machine.specs.Decided.{committed_of, history_below, record_of}
use Rattle.erm_machine.specs.Facts.{all_of}
use Rattle.erm_machine.specs.Numbers.{made_of}
use Rattle.erm_machine.specs.Seat.{is_commit}
use Rattle.erm_machine.specs.Sound.{Sound}
use Rattle.erm_core_ssn.specs.Laws.{made_in_history}
use Rattle.erm_core_view.proofs.Made.{at_most_once, made_at, none_or_some, times_both}

-- the commits among some transactions made no more than all of them
committed_made : (seat : ℕ) (ts : List Attempt) (x : ℕ)
    → made_in_history (map (record_of seat) (filter (λ (t : Attempt). is_commit t.decision) ts)) x ≤ times_made (flat_map (λ (t : Attempt). t.made) ts) x
committed_made seat [] x = omega arith
committed_made seat (t ∷ ts) x =
    let kept : List Attempt = filter (λ (u : Attempt). is_commit u.decision) ts in
    let rest = committed_made seat ts x in
    let both = times_both t.made (flat_map (λ (u : Attempt). u.made) ts) x in
    cond_both (is_commit t.decision) (t ∷ kept) kept (λ l. made_in_history (map (record_of seat) l) x ≤ times_made (t.made ++ flat_map (λ (u : Attempt). u.made) ts) x)
    (λ _. let one = sum_by-cons (λ (r : TransactionRecord). times_made r.made x) (record_of seat t) (map (record_of seat) kept) in omega (arith, one, both, rest))
    (λ _. omega (arith, both, rest))

pub made_push : (ts : List Attempt) (t : Attempt) (x : ℕ)
    → times_made (flat_map (λ (u : Attempt). u.made) (ts ++ t ∷ [])) x ≡ times_made (flat_map (λ (u : Attempt). u.made) ts) x + times_made t.made x
made_push [] t x = let both = times_both t.made [] x in omega (arith, both)
made_push (u ∷ ts) t x =
    let rest = made_push ts t x in
    let both = times_both u.made (flat_map (λ (v : Attempt). v.made) ts) x in
    let more = times_both u.made (flat_map (λ (v : Attempt). v.made) (ts ++ t ∷ [])) x in
    omega (arith, rest, both, more)

seat_made : (seat : ℕ) (p : Part) (x : ℕ) → made_in_history (committed_of seat p) x ≤ times_made (made_of p) x
seat_made seat p x =
    let commits = committed_made seat (all_of p) x in
    let all = made_push p.over p.current x in
    let both = times_both (flat_map (λ (t : Attempt). t.made) p.over) p.current.made x in
    omega (arith, commits, all, both)

joined : (xs ys : History) (x : ℕ) → made_in_history (xs ++ ys) x ≡ made_in_history xs x + made_in_history ys x
joined xs ys x = sum_by-append (λ (t : TransactionRecord). times_made t.made x) xs ys

-- a seat whose transactions made an object
record Maker (c : Core) (n x : ℕ) : Type 0 where
  seat : ℕ
  within : seat < n
  made : 0 < times_made (made_of (c.seats seat)) x

module _ (c : Core) (sound : Sound c) where
  maker : (n x : ℕ) → 0 < made_in_history (history_below n c.seats) x → Maker c n x
  unfolding history_below
  maker zero x some = absurd (omega (arith, some))
  maker (suc n) x some =
      let last = seat_made n (c.seats n) x in
      let all = joined (history_below n c.seats) (committed_of n (c.seats n)) x in
      ⊎_elim
      (λ (none : made_in_history (history_below n c.seats) x ≡ 0). record { seat = n; within = omega arith; made = omega (arith, some, none, last, all) })
      (λ (before : 0 < made_in_history (history_below n c.seats) x).
      let by = maker n x before in
      record { seat = by.seat; within = (let h = by.within in omega (arith, h)); made = by.made })
      (none_or_some (made_in_history (history_below n c.seats) x))

  -- an object that is made is a new one
  pub made_new : (n x : ℕ) → 0 < made_in_history (history_below n c.seats) x → c.shared.first ≤ x
  made_new n x some =
      let by = maker n x some in
      let at = made_at (made_of (c.seats by.seat)) x by.made in
      subst (λ k. c.shared.first ≤ k) at.is ((sound.own by.seat).made.from at.place at.within)

  -- each object is made once
  pub made_once : (n x : ℕ) → made_in_history (history_below n c.seats) x ≤ 1
  unfolding history_below
  made_once zero x = omega arith
  made_once (suc n) x =
      let last = seat_made n (c.seats n) x in
      let all = joined (history_below n c.seats) (committed_of n (c.seats n)) x in
      let own = at_most_once (made_of (c.seats n)) x (sound.own n).made.once in
      let rest = made_once n x in
      ⊎_elim
      (λ (none : made_in_history (history_below n c.seats) x ≡ 0). omega (arith, none, last, all, own))
      (λ (before : 0 < made_in_history (history_below n c.seats) x).
      ⊎_elim
      (λ (not_last : times_made (made_of (c.seats n)) x ≡ 0). omega (arith, not_last, last, all, rest))
      (λ (again : 0 < times_made (made_of (c.seats n)) x).
      let by = maker n x before in
      let one = made_at (made_of (c.seats by.seat)) x by.made in
      let two = made_at (made_of (c.seats n)) x again in
      let other : by.seat ≡ n → ⊥ = (λ e. let h = by.within in omega (arith, h, e)) in
      absurd ((sound.both by.seat n other).made.apart one.place two.place one.within two.within (one.is ∙ sym two.is)))
      (none_or_some (times_made (made_of (c.seats n)) x)))
      (none_or_some (made_in_history (history_below n c.seats) x))
