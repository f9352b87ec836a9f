-- What an install or a release of an entry leaves: which claim it ends, and what it adds.
use Rattle.std.proofs.Common.{◌≡◌, ◌≢◌, ℕ, ◌<◌, ◌≤◌, ◌⊎◌, Bool, true, false, ◌&&◌, ◌||◌, length, Option, Some, None, refl, sym, ap, ◌∙◌, subst, inl, inr, arith}
use Rattle.std.specs.Prelude.{◌==◌}
use Rattle.std.proofs.lemmas.Bool.{and_parts, cond-true, cond-false, eq-eqb, eqb-true, ltb-true}
use Rattle.std.proofs.lemmas.Option.{same_Some}
use Rattle.erm_machine.specs.declared.attempt.Attempt.{Attempt}
use Rattle.erm_machine.specs.declared.part.Part.{Part}
use Rattle.erm_machine.specs.declared.place.Place.{Place}
use Rattle.erm_machine.specs.declared.place.Place.TheVariants.{Vacant, Active, Decided}
use Rattle.erm_machine.specs.declared.task.Task.{Task}
use Rattle.erm_machine.specs.declared.task.Task.TheVariants as task
use Rattle.erm_machine.specs.Claims.{step_of}
use Rattle.erm_machine.specs.Core.{Core, claim_at, own_words}
use Rattle.erm_machine.specs.Facts.{over_of}
use Rattle.erm_machine.specs.Seat.{end_of, is_active, is_decided, is_own, last_claim}
use Rattle.erm_machine.specs.Settling.{installs, adds_version, install_new, release_old, install_claim, unclaim, install}
use Rattle.erm_machine.specs.Sound.{Sound}
use Rattle.erm_machine.specs.Step.{added}
use Rattle.erm_machine.specs.Tasks.{InEnd, TaskFits}
use Rattle.erm_machine.proofs.Guards.{when_then, if_then}

-- the claim that an install ends
pub record Ends (c : Core) (p oid claim : ℕ) : Type 0 where
  pub within : claim < length (c.seats p).current.writes
  pub held : (claim_at (c.seats p).current claim).held ≡ true
  pub oid_is : oid ≡ (claim_at (c.seats p).current claim).version.oid
  pub taken : (c.seats p).place ≢ Vacant

-- a commit's claim is installed: its own cell becomes the head
pub record Adds (c : Core) (p oid head : ℕ) : Type 0 where
  pub claim : ℕ
  pub ends : Ends c p oid claim
  pub own : is_own head (claim_at (c.seats p).current claim).own ≡ true
  pub step : step_of (c.seats p).task claim ≡ 8
  pub is_added : added head (c.seats p) (end_of (c.seats p).task) ≡ Some (record { cell = head; words = own_words (claim_at (c.seats p).current claim).own })

-- the entry is released with its old head
pub record Releases (c : Core) (p oid head : ℕ) : Type 0 where
  pub claim : ℕ
  pub ends : Ends c p oid claim
  pub cell : head ≡ (claim_at (c.seats p).current claim).version.cell
  pub none_added : added head (c.seats p) (end_of (c.seats p).task) ≡ None

-- the claims before the one that an end has come to are over
over_end : (pl : Place) (u : Task) (n : ℕ × ℕ × ℕ × ℕ) (writes : ℕ) → (is_decided pl || is_active pl) ≡ true → end_of u ≡ Some n → over_of pl u writes ≤ n.1
over_end (Active tail) (task.Ends raised ended step cleared) n writes at is =
    let same = ap (λ (q : ℕ × ℕ × ℕ × ℕ). q.1) (same_Some (raised, ended, step, cleared) n is) in omega (arith, same)
over_end (Active tail) u n writes at is = omega arith
over_end (Decided tail stamp) (task.Ends raised ended step cleared) n writes at is =
    let same = ap (λ (q : ℕ × ℕ × ℕ × ℕ). q.1) (same_Some (raised, ended, step, cleared) n is) in omega (arith, same)
over_end (Decided tail stamp) u n writes at is = omega arith
over_end _ u n writes at is = absurd (cc)

-- how many steps of the install of that claim are taken
step_end : (t : Attempt) (u : Task) (n : ℕ × ℕ × ℕ × ℕ) → end_of u ≡ Some n → InEnd t u → step_of u n.1 ≡ n.2
step_end t (task.Ends raised ended step cleared) n is f =
    subst (λ (q : ℕ × ℕ × ℕ × ℕ). step_of (task.Ends raised ended step cleared) q.1 ≡ q.2) (same_Some (raised, ended, step, cleared) n is)
    (cond-true (ended == ended) step 0 (eq-eqb ended ended refl))
step_end t _ n is f = absurd f

decided_end : (pl : Place) (t : Attempt) (u : Task) → is_decided pl ≡ true → TaskFits pl t u → InEnd t u
decided_end (Decided tail stamp) t u at f = f
decided_end _ t u at f = absurd (cc)

decided_taken : (pl : Place) → (is_decided pl || is_active pl) ≡ true → pl ≢ Vacant
decided_taken (Active tail) at e = absurd (cc)
decided_taken (Decided tail stamp) at e = absurd (cc)
decided_taken _ at e = absurd (cc)

decided_either : (pl : Place) → is_decided pl ≡ true → (is_decided pl || is_active pl) ≡ true
decided_either (Decided tail stamp) at = refl
decided_either _ at = absurd (cc)

active_either : (pl : Place) → is_active pl ≡ true → (is_decided pl || is_active pl) ≡ true
active_either (Active tail) at = refl
active_either _ at = absurd (cc)

first : (a b : Bool) → (a && b) ≡ true → a ≡ true
first a b h = (and_parts a b h).0

second : (a b : Bool) → (a && b) ≡ true → b ≡ true
second a b h = (and_parts a b h).1

over_refused : (pl : Place) (writes : ℕ) → (is_decided pl || is_active pl) ≡ true → over_of pl task.Refused writes ≤ 0
over_refused (Active tail) writes at = omega arith
over_refused (Decided tail stamp) writes at = omega arith
over_refused _ writes at = absurd (cc)

module _ (c : Core) (p oid head : ℕ) (sound : Sound c) where
  abbrev Outcome : Part → Type 0
  Outcome y = Adds c p oid head ⊎ Releases c p oid head

  -- a claim behind those that are over is held
  ends_at : (claim : ℕ) → (is_decided (c.seats p).place || is_active (c.seats p).place) ≡ true → claim < length (c.seats p).current.writes →
      over_of (c.seats p).place (c.seats p).task (length (c.seats p).current.writes) ≤ claim → oid ≡ (claim_at (c.seats p).current claim).version.oid → Ends c p oid claim
  ends_at claim at within behind is = record {
    within = within;
    held = (sound.own p).claims.held claim within behind;
    oid_is = is;
    taken = decided_taken (c.seats p).place at;
  }

  new_adds : (n : ℕ × ℕ × ℕ × ℕ) (y : Part) → end_of (c.seats p).task ≡ Some n → adds_version (c.seats p) ≡ true → install_new oid head (c.seats p) n ≡ Some y → Adds c p oid head
  new_adds n y at adds e =
      when_then (λ _. Adds c p oid head) _ _ y e (λ g.
      let x = c.seats p in
      let inst : installs n.0 n.1 n.2 x ≡ true = first _ _ (first _ _ (first _ _ g)) in
      let decided : is_decided x.place ≡ true = first _ _ adds in
      let either = decided_either x.place decided in
      record {
        claim = n.1;
        ends = ends_at n.1 either (ltb-true _ _ (second _ _ inst)) (over_end x.place x.task n (length x.current.writes) either at) (eqb-true _ _ (second _ _ (first _ _ g)));
        own = second _ _ g;
        step = step_end x.current x.task n at (decided_end x.place x.current x.task decided (sound.own p).task.fits) ∙ eqb-true _ _ (second _ _ (first _ _ (first _ _ g)));
        is_added = ap (added head x) at ∙ cond-true (adds_version x) (Some (record { cell = head; words = own_words (claim_at x.current n.1).own })) None adds;
      })

  old_releases : (n : ℕ × ℕ × ℕ × ℕ) (y : Part) → end_of (c.seats p).task ≡ Some n → adds_version (c.seats p) ≡ false → release_old oid head (c.seats p) n ≡ Some y → Releases c p oid head
  old_releases n y at adds e =
      when_then (λ _. Releases c p oid head) _ _ y e (λ g.
      let x = c.seats p in
      let either : (is_decided x.place || is_active x.place) ≡ true = first _ _ (first _ _ (first _ _ g)) in
      record {
        claim = n.1;
        ends = ends_at n.1 either (ltb-true _ _ (second _ _ (first _ _ (first _ _ g)))) (over_end x.place x.task n (length x.current.writes) either at) (eqb-true _ _ (second _ _ (first _ _ g)));
        cell = eqb-true _ _ (second _ _ g);
        none_added = ap (added head x) at ∙ cond-false (adds_version x) (Some (record { cell = head; words = own_words (claim_at x.current n.1).own })) None adds;
      })

  claim_outcome : (o : Option (ℕ × ℕ × ℕ × ℕ)) (y : Part) → end_of (c.seats p).task ≡ o → install_claim oid head (c.seats p) o ≡ Some y → Outcome y
  claim_outcome None y at e = absurd (cc)
  claim_outcome (Some n) y at e =
      if_then (λ _. Adds c p oid head ⊎ Releases c p oid head) (adds_version (c.seats p)) (install_new oid head (c.seats p) n) (release_old oid head (c.seats p) n) y e
      (λ adds h. inl (new_adds n y at adds h)) (λ adds h. inr (old_releases n y at adds h))

  unclaims : (y : Part) → (c.seats p).task ≡ task.Refused → unclaim oid head (c.seats p) ≡ Some y → Releases c p oid head
  unclaims y at e =
      when_then (λ _. Releases c p oid head) _ _ y e (λ g.
      let x = c.seats p in
      let either = active_either x.place (first _ _ (first _ _ (first _ _ g))) in
      let some : 0 < length x.current.writes = ltb-true _ _ (second _ _ (first _ _ (first _ _ g))) in
      let none : over_of x.place x.task (length x.current.writes) ≤ 0 = subst (λ u. over_of x.place u (length x.current.writes) ≤ 0) (sym at) (over_refused x.place (length x.current.writes) either) in
      record {
        claim = last_claim x.current;
        ends = ends_at (last_claim x.current) either (omega (arith, some)) (omega (arith, none)) (eqb-true _ _ (second _ _ (first _ _ g)));
        cell = eqb-true _ _ (second _ _ g);
        none_added = ap (λ u. added head x (end_of u)) at;
      })

  outcome : (t : Task) (y : Part) → (c.seats p).task ≡ t → install oid head (c.seats p) t ≡ Some y → Outcome y
  outcome task.Refused y at e = inr (unclaims y at e)
  outcome t y at e = claim_outcome (end_of t) y (ap end_of at) e

  -- each install ends a claim
  pub install_outcome : (y : Part) → install oid head (c.seats p) (c.seats p).task ≡ Some y → Adds c p oid head ⊎ Releases c p oid head
  install_outcome y e = outcome (c.seats p).task y refl e
