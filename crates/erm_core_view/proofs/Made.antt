-- Objects that transactions made: how often, and by whom.
use Rattle.std.proofs.Common.{◌≡◌, ◌≢◌, ℕ, zero, suc, ◌+◌, ◌<◌, ◌≤◌, ⊎_elim, Bool, true, false, List, [], ◌∷◌, ◌++◌, length, map, flat_map, eqb, cond, refl, sym, ap, ◌∙◌, subst, ◌⊎◌, inl, inr, arith}
use Rattle.std.specs.Prelude.{if◌then◌else◌, slice_index, sum_by}
use Rattle.std.proofs.lemmas.Bool.{cases_eq, cases_lt, eq-eqb, ne_eqb}
use Rattle.std.proofs.lemmas.List.Sums.{sum_by-append, sum_by-cons}
use Rattle.erm_model.proofs.Members.{none_in_nil}
use Rattle.erm_model.specs.Lawful.{times_made}
use Rattle.erm_model.specs.Member.{◌∈◌}
use Rattle.erm_machine.specs.declared.attempt.Attempt.{Attempt}
use Rattle.erm_machine.specs.declared.limits.TheConstants.{OBJECT_LIMIT}
use Rattle.erm_machine.specs.declared.part.Part.{Part}
use Rattle.erm_machine.specs.declared.place.Place.{Place}
use Rattle.erm_machine.specs.declared.place.Place.TheVariants.{Active, Idle, Sealed, Vacant}
use Rattle.erm_machine.specs.declared.task.Task.{Task}
use Rattle.erm_machine.specs.Core.{Core, blank}
use Rattle.erm_machine.specs.Facts.{IsCurrent}
use Rattle.erm_machine.specs.Numbers.{made_of}
use Rattle.erm_machine.specs.Seat.{is_safe, is_snapshot}
use Rattle.erm_machine.specs.Sound.{Sound}
use Rattle.erm_machine.specs.Words.{is_flusher}
use Rattle.erm_machine.proofs.Listed.{∈-cons, ∈-either}
use Rattle.erm_world.specs.World.{Finished, Session, made_by_all, made_in, made_upto}
use Rattle.erm_world.specs.World as world
use Rattle.erm_core_view.specs.Views.{IsBetween, IsQuiet, finished_of, session_of, stand_of, view_of, work_of}
use Rattle.erm_core_view.proofs.Snapshots.{IsNewSnapshot, shown_work, snapshots_new}

-- how often an object stands in a list with one more in front, in two lists
times_cons : (y : ℕ) (ys : List ℕ) (x : ℕ) → times_made (y ∷ ys) x ≡ (cond (eqb y x) 1 0) + times_made ys x
times_cons y ys x = sum_by-cons (λ oid. cond (eqb oid x) 1 0) y ys

times_here : (y : ℕ) (ys : List ℕ) (x : ℕ) → y ≡ x → times_made (y ∷ ys) x ≡ 1 + times_made ys x
times_here y ys x e = times_cons y ys x ∙ ap (λ b. (cond b 1 0) + times_made ys x) (eq-eqb y x e)

times_behind : (y : ℕ) (ys : List ℕ) (x : ℕ) → (y ≡ x → ⊥) → times_made (y ∷ ys) x ≡ times_made ys x
times_behind y ys x ne =
    let same : times_made (y ∷ ys) x ≡ 0 + times_made ys x = times_cons y ys x ∙ ap (λ b. (cond b 1 0) + times_made ys x) (ne_eqb y x ne) in
    omega (arith, same)

pub times_both : (xs ys : List ℕ) (x : ℕ) → times_made (xs ++ ys) x ≡ times_made xs x + times_made ys x
times_both xs ys x = sum_by-append (λ oid. cond (eqb oid x) 1 0) xs ys

-- an object that stands in a list stands at a place; in a list without repetition at one alone
pub record StandsAt (xs : List ℕ) (x : ℕ) : Type 0 where
  pub place : ℕ
  pub within : place < length xs
  pub is : slice_index xs place ≡ x

pub made_at : (xs : List ℕ) (x : ℕ) → 0 < times_made xs x → StandsAt xs x
made_at [] x some = absurd (omega (arith, some))
made_at (y ∷ ys) x some =
    ⊎_elim
    (λ (here : y ≡ x). record { place = zero; within = omega arith; is = here })
    (λ (not_here : y ≡ x → ⊥).
    let same = times_behind y ys x not_here in
    let at = made_at ys x (omega (arith, some, same)) in
    record { place = suc at.place; within = (let h = at.within in omega (arith, h)); is = at.is })
    (cases_eq y x)

pub none_or_some : (n : ℕ) → (n ≡ 0) ⊎ (0 < n)
none_or_some zero = inl refl
none_or_some (suc n) = inr (omega arith)

pub at_most_once : (xs : List ℕ) (x : ℕ) → ((j k : ℕ) → j < k → k < length xs → slice_index xs j ≢ slice_index xs k) → times_made xs x ≤ 1
at_most_once [] x apart = omega arith
at_most_once (y ∷ ys) x apart =
    ⊎_elim
    (λ (here : y ≡ x).
    let same = times_here y ys x here in
    ⊎_elim
    (λ (none : times_made ys x ≡ 0). omega (arith, same, none))
    (λ (some : 0 < times_made ys x).
    let at = made_at ys x some in
    absurd (apart zero (suc at.place) (omega arith) (let h = at.within in omega (arith, h)) (here ∙ sym at.is)))
    (none_or_some (times_made ys x)))
    (λ (not_here : y ≡ x → ⊥).
    let same = times_behind y ys x not_here in
    let rest = at_most_once ys x (λ j k less within. apart (suc j) (suc k) (omega (arith, less)) (omega (arith, within))) in
    omega (arith, same, rest))
    (cases_eq y x)

-- what a session's transactions made is what its seat's did
over_made : (ts : List Attempt) (x : ℕ) → sum_by (λ (f : Finished). times_made f.work.made x) (map finished_of ts) ≡ times_made (flat_map (λ (t : Attempt). t.made) ts) x
over_made [] x = refl
over_made (t ∷ ts) x =
    sum_by-cons (λ (f : Finished). times_made f.work.made x) (finished_of t) (map finished_of ts)
    ∙ ap (λ n. times_made t.made x + n) (over_made ts x)
    ∙ sym (times_both t.made (flat_map (λ (u : Attempt). u.made) ts) x)

made_if : (b safe : Bool) (t : Attempt) (x : ℕ)
    → times_made (world.work_of (if b then world.snapshot (record { number = t.number; begin = t.begin; is_safe = safe }) else world.active (work_of t))).made x ≤ times_made t.made x
made_if true safe t x = omega arith
made_if false safe t x = omega arith

pub current_made : (pl : Place) (u : Task) (t : Attempt) (x : ℕ) → times_made (world.work_of (stand_of pl u t)).made x ≤ times_made t.made x
current_made (Active tail) u t x = made_if (is_snapshot u) (is_safe u) t x
current_made (Sealed tail stamp) u t x = omega arith
current_made _ u t x = omega arith

session_made : (p : Part) (x : ℕ) → made_in (session_of p) x ≤ times_made (made_of p) x
session_made p x =
    let over = over_made p.over x in
    let now = current_made p.place p.task p.current x in
    let both = times_both (flat_map (λ (t : Attempt). t.made) p.over) p.current.made x in
    omega (arith, over, now, both)

-- a session that made an object
record Maker (c : Core) (n x : ℕ) : Type 0 where
  seat : ℕ
  within : seat ≤ n
  made : 0 < times_made (made_of (c.seats seat)) x

module _ (c : Core) (sound : Sound c) where
  maker : (n x : ℕ) → 0 < made_upto n (λ q. session_of (c.seats q)) x → Maker c n x
  unfolding made_upto
  maker zero x some = absurd (omega (arith, some))
  maker (suc n) x some =
      let last = session_made (c.seats (suc n)) x in
      ⊎_elim
      (λ (none : made_upto n (λ q. session_of (c.seats q)) x ≡ 0). record { seat = suc n; within = omega arith; made = omega (arith, some, none, last) })
      (λ (before : 0 < made_upto n (λ q. session_of (c.seats q)) x).
      let by = maker n x before in
      record { seat = by.seat; within = (let h = by.within in omega (arith, h)); made = by.made })
      (none_or_some (made_upto n (λ q. session_of (c.seats q)) x))

  -- an object that is made is a new one
  pub made_new : (n x : ℕ) → 0 < made_upto n (λ q. session_of (c.seats q)) x → c.shared.first ≤ x
  made_new n x some =
      let by = maker n x some in
      let at = made_at (made_of (c.seats by.seat)) x by.made in
      subst (λ k. c.shared.first ≤ k) at.is ((sound.own by.seat).made.from at.place at.within)

  -- each object is made once
  pub made_once : (n x : ℕ) → made_upto n (λ q. session_of (c.seats q)) x ≤ 1
  unfolding made_upto
  made_once zero x = omega arith
  made_once (suc n) x =
      let last = session_made (c.seats (suc n)) x in
      let own = at_most_once (made_of (c.seats (suc n))) x (sound.own (suc n)).made.once in
      let rest = made_once n x in
      ⊎_elim
      (λ (none : made_upto n (λ q. session_of (c.seats q)) x ≡ 0). omega (arith, none, last, own))
      (λ (before : 0 < made_upto n (λ q. session_of (c.seats q)) x).
      ⊎_elim
      (λ (not_last : times_made (made_of (c.seats (suc n))) x ≡ 0). omega (arith, not_last, last, rest))
      (λ (again : 0 < times_made (made_of (c.seats (suc n))) x).
      let by = maker n x before in
      let one = made_at (made_of (c.seats by.seat)) x by.made in
      let two = made_at (made_of (c.seats (suc n))) x again in
      let other : by.seat ≡ suc n → ⊥ = (λ e. let h = by.within in omega (arith, h, e)) in
      absurd ((sound.both by.seat (suc n) other).made.apart one.place two.place one.within two.within (one.is ∙ sym two.is)))
      (none_or_some (times_made (made_of (c.seats (suc n))) x)))
      (none_or_some (made_upto n (λ q. session_of (c.seats q)) x))

-- ALL MADE. An object that stands in a list stands there once at least.
made_some : (xs : List ℕ) (x : ℕ) → x ∈ xs → 0 < times_made xs x
made_some [] x m = absurd (none_in_nil x m)
made_some (y ∷ ys) x m =
    ⊎_elim (λ (here : y ≡ x). omega (arith, times_here y ys x here)) (λ (there : x ∈ ys). omega (arith, times_cons y ys x, made_some ys x there)) (∈-cons x y ys m)

-- between two calls a session shows all that its seat made
made_shown_by : (pl : Place) (u : Task) (t : Attempt) (x : ℕ) → IsNewSnapshot u t → IsBetween pl u → IsCurrent pl t → times_made t.made x ≡ times_made (world.work_of (stand_of pl u t)).made x
made_shown_by Idle u t x new between none = ap (λ (a : Attempt). times_made a.made x) none
made_shown_by (Active tail) u t x new between current = ap (λ (w : world.Work). times_made w.made x) (sym (shown_work u t new))
made_shown_by (Sealed tail stamp) u t x new between current = refl
made_shown_by _ u t x new between current = absurd between

session_shown : (p : Part) (x : ℕ) → IsNewSnapshot p.task p.current → IsBetween p.place p.task → IsCurrent p.place p.current → made_in (session_of p) x ≡ times_made (made_of p) x
session_shown p x new between current =
    omega (arith, over_made p.over x, made_shown_by p.place p.task p.current x new between current, times_both (flat_map (λ (t : Attempt). t.made) p.over) p.current.made x)

made_among : (n : ℕ) (session : ℕ → Session) (seat x : ℕ) → 0 < seat → seat ≤ n → made_in (session seat) x ≤ made_upto n session x
unfolding made_upto
made_among zero session seat x above within = absurd (omega (arith, above, within))
made_among (suc n) session seat x above within =
    ⊎_elim (λ (last : seat ≡ suc n). omega (arith, ap (λ q. made_in (session q) x) last))
    (λ (before : seat ≡ suc n → ⊥). omega (arith, made_among n session seat x above (omega (arith, within, before)))) (cases_eq seat (suc n))

-- a seat that has made something, where none is over and the current transaction made nothing
pub none_made : (p : Part) (x : ℕ) → p.over ≡ [] → p.current.made ≡ [] → x ∈ made_of p → ⊥
none_made p x none unmade m =
    ⊎_elim (λ (past : x ∈ flat_map (λ (t : Attempt). t.made) p.over). none_in_nil x (subst (λ (ts : List Attempt). x ∈ flat_map (λ (t : Attempt). t.made) ts) none past))
    (λ (now : x ∈ p.current.made). none_in_nil x (subst (λ (ms : List ℕ). x ∈ ms) unmade now)) (∈-either (flat_map (λ (t : Attempt). t.made) p.over) p.current.made x m)

pub vacant_made : (pl : Place) (t : Attempt) → pl ≡ Vacant → IsCurrent pl t → t.made ≡ []
vacant_made pl t at current = let none : t ≡ blank = subst (λ (q : Place). IsCurrent q t) at current in ap (λ (a : Attempt). a.made) none

module _ (sessions : ℕ) (c : Core) (sound : Sound c) (quiet : IsQuiet sessions c) where
  -- sessions alone have made anything
  no_maker : (seat x : ℕ) → (0 < seat → seat ≤ sessions → ⊥) → x ∈ made_of (c.seats seat) → ⊥
  no_maker seat x none m = by_test (is_flusher seat) refl
    where
      by_test : (b : Bool) → is_flusher seat ≡ b → ⊥
      by_test true flusher = let still = quiet.flusher seat flusher in none_made (c.seats seat) x still.over still.made m
      by_test false other =
          none_made (c.seats seat) x (quiet.unused seat none other)
          (vacant_made (c.seats seat).place (c.seats seat).current (quiet.others seat none other) (sound.own seat).ranges.current) m

  made_shown : (seat x : ℕ) → x ∈ made_of (c.seats seat) → 0 < seat → seat ≤ sessions → 0 < made_by_all (view_of sessions c) x
  made_shown seat x m above within =
      let shown = session_shown (c.seats seat) x (snapshots_new c seat sound) (quiet.between seat above within) (sound.own seat).ranges.current in
      let among = made_among sessions (λ q. session_of (c.seats q)) seat x above within in
      omega (arith, shown, among, made_some (made_of (c.seats seat)) x m)

  -- each object whose number was drawn was made by a session
  pub drawn_made : (x : ℕ) → c.shared.first ≤ x → x < c.shared.objects_drawn → x < OBJECT_LIMIT → 0 < made_by_all (view_of sessions c) x
  drawn_made x from below known =
      let (seat, m) = sound.common.counters.all_made x from below known in
      ⊎_elim
      (λ (above : 0 < seat).
      ⊎_elim (λ (past : sessions < seat). absurd (no_maker seat x (λ _ within. omega (arith, past, within)) m)) (λ (within : seat ≤ sessions). made_shown seat x m above within)
      (cases_lt sessions seat))
      (λ (first : seat ≤ 0). absurd (no_maker seat x (λ above _. omega (arith, first, above)) m))
      (cases_lt 0 seat)
