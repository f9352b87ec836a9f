-- Objects that transactions made, whatever their seats are in the middle of.
use Rattle.std.proofs.Common.{◌≡◌, ℕ, zero, suc, ◌+◌, ◌<◌, ◌≤◌, ⊎_elim, Bool, true, false, cond, eqb, List, [], ◌∷◌, map, flat_map, refl, sym, ap, ◌∙◌, subst, arith}
use Rattle.std.specs.Prelude.{sum_by}
use Rattle.std.proofs.lemmas.Bool.{cases_eq, cases_lt, eq-eqb, eqb-true}
use Rattle.std.proofs.lemmas.List.Sums.{sum_by-append, sum_by-cons}
use Rattle.erm_model.proofs.Members.{none_in_nil}
use Rattle.erm_model.specs.Lawful.{times_made}
use Rattle.erm_model.specs.Member.{◌∈◌}
use Rattle.erm_machine.specs.declared.attempt.Attempt.{Attempt}
use Rattle.erm_machine.specs.declared.attempt.Decision.{Decision}
use Rattle.erm_machine.specs.declared.limits.TheConstants.{FLUSH_SEAT, OBJECT_LIMIT}
use Rattle.erm_machine.specs.declared.part.Part.{Part}
use Rattle.erm_machine.specs.declared.place.Place.{Place}
use Rattle.erm_machine.specs.declared.place.Place.TheVariants.{Active, Announced, Begun, Decided, Drawn, Idle, Leaving, Sealed, Sealing, Vacant}
use Rattle.erm_machine.specs.declared.task.Task.{Task}
use Rattle.erm_machine.specs.declared.task.Task.TheVariants as task
use Rattle.erm_machine.specs.Core.{Core, blank}
use Rattle.erm_machine.specs.Facts.{IsCurrent}
use Rattle.erm_machine.specs.Numbers.{made_of}
use Rattle.erm_machine.specs.Sound.{Sound}
use Rattle.erm_machine.specs.Words.{is_flusher, is_session}
use Rattle.erm_machine.proofs.Listed.{∈-cons}
use Rattle.erm_world.specs.World.{Finished, Session, made_by_all, made_in, made_upto, Work}
use Rattle.erm_world.specs.World as world
use Rattle.erm_core_view.specs.Views.{finished_of, fate_of, work_of}
use Rattle.erm_core_view.proofs.Made.{at_most_once, made_at, none_made, none_or_some, times_both, vacant_made}
use Rattle.erm_core_view.proofs.Snapshots.{IsNewSnapshot, shown_work, snapshots_new}
use Rattle.erm_core_shown.specs.Shown.{HasOnly, ended_as, over_now, shown_of, shown_session, shown_stand}

abbrev made_by : ℕ → Finished → ℕ
made_by x f = times_made f.work.made x

-- the transactions that are over made what their seat's did
past_made : (ts : List Attempt) (x : ℕ) → sum_by (made_by x) (map finished_of ts) ≡ times_made (flat_map (λ (t : Attempt). t.made) ts) x
past_made [] x = refl
past_made (t ∷ ts) x =
    let first = sum_by-cons (made_by x) (finished_of t) (map finished_of ts) in
    let rest = past_made ts x in
    let both = times_both t.made (flat_map (λ (u : Attempt). u.made) ts) x in
    omega (arith, first, rest, both)

-- the current one's objects show, whether it is over or in progress
blank_made : (t : Attempt) (x : ℕ) → t ≡ blank → 0 ≡ times_made t.made x
blank_made t x none = sym (ap (λ (a : Attempt). times_made a.made x) none)

over_made : (t : Attempt) (d : Decision) (x : ℕ) → sum_by (made_by x) (record { work = work_of t; fate = fate_of d t } ∷ []) ≡ times_made t.made x
over_made t d x = let one = sum_by-cons (made_by x) (record { work = work_of t; fate = fate_of d t }) [] in omega (arith, one)

now_made : (pl : Place) (u : Task) (t : Attempt) (x : ℕ) → IsNewSnapshot u t → IsCurrent pl t
    → sum_by (made_by x) (over_now (ended_as pl u t) t) + times_made (world.work_of (shown_stand pl u t)).made x ≡ times_made t.made x
now_made Vacant u t x new current = let none = blank_made t x current in omega (arith, none)
now_made Idle u t x new current = let none = blank_made t x current in omega (arith, none)
now_made (Begun tail) u t x new current = let none = blank_made t x current in omega (arith, none)
now_made (Announced tail) u t x new current = let none = blank_made t x current in omega (arith, none)
now_made (Active tail) (task.Ends raised ended step cleared) t x new current =
    let one = sum_by-cons (made_by x) (record { work = work_of t; fate = world.aborts }) [] in omega (arith, one)
now_made (Active tail) u t x new current = omega (arith, ap (λ (w : Work). times_made w.made x) (shown_work u t new))
now_made (Sealing tail) u t x new current = omega arith
now_made (Drawn tail stamp) u t x new current = omega arith
now_made (Sealed tail stamp) u t x new current = omega arith
now_made (Decided tail stamp) u t x new current = let one = over_made t t.decision x in omega (arith, one)
now_made (Leaving stamp) u t x new current = let one = over_made t t.decision x in omega (arith, one)

pub shown_made : (p : Part) (x : ℕ) → IsNewSnapshot p.task p.current → IsCurrent p.place p.current → made_in (shown_session p) x ≡ times_made (made_of p) x
shown_made p x new current =
    let past = past_made p.over x in
    let now = now_made p.place p.task p.current x new current in
    let split = sum_by-append (made_by x) (map finished_of p.over) (over_now (ended_as p.place p.task p.current) p.current) in
    let both = times_both (flat_map (λ (t : Attempt). t.made) p.over) p.current.made x in
    omega (arith, past, now, split, both)

-- an object that stands in a list stands there once at least
stands_made : (xs : List ℕ) (x : ℕ) → x ∈ xs → 0 < times_made xs x
stands_made [] x m = absurd (none_in_nil x m)
stands_made (y ∷ ys) x m =
    let split = times_both (y ∷ []) ys x in
    ⊎_elim (λ (here : y ≡ x). let one = sum_by-cons (λ (oid : ℕ). cond (eqb oid x) 1 0) y [] in let is : cond (eqb y x) 1 0 ≡ 1 = ap {B = ℕ} (λ (b : Bool). cond b 1 0) (eq-eqb y x here) in omega (arith, split, one, is))
    (λ (there : x ∈ ys). let rest = stands_made ys x there in omega (arith, split, rest)) (∈-cons x y ys m)

-- a session that made an object
record Maker (c : Core) (n x : ℕ) : Type 0 where
  seat : ℕ
  within : seat ≤ n
  made : 0 < times_made (made_of (c.seats seat)) x

module _ (c : Core) (sound : Sound c) where
  abbrev Sessions : ℕ → Session
  Sessions q = shown_session (c.seats q)

  maker : (n x : ℕ) → 0 < made_upto n Sessions x → Maker c n x
  unfolding made_upto
  maker zero x some = absurd (omega (arith, some))
  maker (suc n) x some =
      let last = shown_made (c.seats (suc n)) x (snapshots_new c (suc n) sound) (sound.own (suc n)).ranges.current in
      ⊎_elim
      (λ (none : made_upto n Sessions x ≡ 0). record { seat = suc n; within = omega arith; made = omega (arith, some, none, last) })
      (λ (before : 0 < made_upto n Sessions x).
      let by = maker n x before in
      record { seat = by.seat; within = (let h = by.within in omega (arith, h)); made = by.made })
      (none_or_some (made_upto n Sessions x))

  -- an object that is made is a new one
  pub shown_new : (n x : ℕ) → 0 < made_upto n Sessions x → c.shared.first ≤ x
  shown_new n x some =
      let by = maker n x some in
      let at = made_at (made_of (c.seats by.seat)) x by.made in
      subst (λ k. c.shared.first ≤ k) at.is ((sound.own by.seat).made.from at.place at.within)

  -- each object is made once
  pub shown_once : (n x : ℕ) → made_upto n Sessions x ≤ 1
  unfolding made_upto
  shown_once zero x = omega arith
  shown_once (suc n) x =
      let last = shown_made (c.seats (suc n)) x (snapshots_new c (suc n) sound) (sound.own (suc n)).ranges.current in
      let own = at_most_once (made_of (c.seats (suc n))) x (sound.own (suc n)).made.once in
      let rest = shown_once n x in
      ⊎_elim
      (λ (none : made_upto n Sessions x ≡ 0). omega (arith, none, last, own))
      (λ (before : 0 < made_upto n Sessions x).
      ⊎_elim
      (λ (not_last : times_made (made_of (c.seats (suc n))) x ≡ 0). omega (arith, not_last, last, rest))
      (λ (again : 0 < times_made (made_of (c.seats (suc n))) x).
      let by = maker n x before in
      let one = made_at (made_of (c.seats by.seat)) x by.made in
      let two = made_at (made_of (c.seats (suc n))) x again in
      let other : by.seat ≡ suc n → ⊥ = (λ e. let h = by.within in omega (arith, h, e)) in
      absurd ((sound.both by.seat (suc n) other).made.apart one.place two.place one.within two.within (one.is ∙ sym two.is)))
      (none_or_some (times_made (made_of (c.seats (suc n))) x)))
      (none_or_some (made_upto n Sessions x))

  -- what a session made is made by all
  pub upto_more : (n seat x : ℕ) → 0 < seat → seat ≤ n → made_in (Sessions seat) x ≤ made_upto n Sessions x
  unfolding made_upto
  upto_more zero seat x above within = absurd (omega (arith, above, within))
  upto_more (suc n) seat x above within =
      ⊎_elim (λ (last : seat ≡ suc n). omega (arith, ap (λ q. made_in (Sessions q) x) last))
      (λ (before : seat ≡ suc n → ⊥). omega (arith, upto_more n seat x above (omega (arith, within, before)))) (cases_eq seat (suc n))

module _ (sessions : ℕ) (c : Core) (sound : Sound c) (only : HasOnly sessions c) where
  flusher_is_none : (q : ℕ) → is_flusher q ≡ true → is_session q ≡ false
  flusher_is_none q flusher = let at : q ≡ FLUSH_SEAT = eqb-true q FLUSH_SEAT flusher in ap is_session at

  no_maker : (seat x : ℕ) → (0 < seat → seat ≤ sessions → ⊥) → x ∈ made_of (c.seats seat) → ⊥
  no_maker seat x none m = by_test (is_flusher seat) refl
    where
      by_test : (b : Bool) → is_flusher seat ≡ b → ⊥
      by_test true flusher = none_in_nil x (subst (λ (ms : List ℕ). x ∈ ms) ((sound.own seat).made.maker (flusher_is_none seat flusher)) m)
      by_test false other =
          none_made (c.seats seat) x (only.unused seat none other)
          (vacant_made (c.seats seat).place (c.seats seat).current (only.vacant seat none other) (sound.own seat).ranges.current) m

  by_session : (seat x : ℕ) → x ∈ made_of (c.seats seat) → 0 < seat → seat ≤ sessions → 0 < made_by_all (shown_of sessions c) x
  by_session seat x m above within =
      let shown = shown_made (c.seats seat) x (snapshots_new c seat sound) (sound.own seat).ranges.current in
      let among = upto_more c sound sessions seat x above within in
      omega (arith, shown, among, stands_made (made_of (c.seats seat)) x m)

  -- each object whose number was drawn was made by a session
  pub drawn_shown : (x : ℕ) → c.shared.first ≤ x → x < c.shared.objects_drawn → x < OBJECT_LIMIT → 0 < made_by_all (shown_of sessions c) x
  drawn_shown x from below known =
      let (seat, m) = sound.common.counters.all_made x from below known in
      ⊎_elim
      (λ (above : 0 < seat).
      ⊎_elim (λ (past : sessions < seat). absurd (no_maker seat x (λ _ within. omega (arith, past, within)) m)) (λ (within : seat ≤ sessions). by_session seat x m above within)
      (cases_lt sessions seat))
      (λ (first : seat ≤ 0). absurd (no_maker seat x (λ above _. omega (arith, first, above)) m))
      (cases_lt 0 seat)
