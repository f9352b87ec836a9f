-- An install or a release of an entry, in a sound state: the seat owns the entry, and the head is a cell that an entry can name.
use Rattle.std.proofs.Common.{◌≡◌, ◌≢◌, ℕ, zero, suc, ◌+◌, ◌^◌, ◌<◌, ◌≤◌, Bool, true, false, cond, ◌&&◌, ◌||◌, ltb, List, [], ◌∷◌, count_by, eqb, length, get_or, Option, Some, None, refl, sym, ap, ◌∙◌, subst, arith}
use Rattle.std.proofs.lemmas.Bool.{and_parts, eqb-true, ltb-true}
use Rattle.std.proofs.lemmas.List.Sums.{sum_by-cons}
use Rattle.std.proofs.lemmas.Option.{same_Some}
use Rattle.erm_machine.specs.declared.attempt.Claim.{Claim}
use Rattle.erm_machine.specs.declared.attempt.OwnCell.{OwnCell}
use Rattle.erm_machine.specs.declared.event.Kind.TheVariants as kind
use Rattle.erm_machine.specs.declared.limits.TheConstants.{ANNOUNCERS, OBJECT_LIMIT}
use Rattle.erm_machine.specs.declared.part.Part.{Part}
use Rattle.erm_machine.specs.declared.place.Place.{Place}
use Rattle.erm_machine.specs.declared.place.Place.TheVariants.{Vacant, Active, Decided}
use Rattle.erm_machine.specs.declared.task.Task.{Task}
use Rattle.erm_machine.specs.declared.task.Task.TheVariants as task
use Rattle.erm_machine.specs.Cells.{own_times, chain_times}
use Rattle.erm_machine.specs.Claims.{ClaimFits}
use Rattle.erm_machine.specs.Core.{Core, Object, claim_at, no_claim}
use Rattle.erm_machine.specs.Facts.{over_of, total}
use Rattle.erm_machine.specs.Seat.{end_of, is_active, is_decided, is_own, last_claim}
use Rattle.erm_machine.specs.Settling.{installs, adds_version, install_new, release_old, install_claim, unclaim, install}
use Rattle.erm_machine.specs.Sound.{Sound}
use Rattle.erm_machine.specs.Step.{part_after}
use Rattle.erm_machine.specs.Words.{head_of, owner_of, is_seat}
use Rattle.erm_machine.proofs.Frames.{total_at}
use Rattle.erm_machine.proofs.Guards.{when_then, if_then}

-- what an install finds
pub record Owned (c : Core) (p oid head : ℕ) : Type 0 where
  pub owner : owner_of (c.shared.objects oid).entry ≡ p
  pub positive : 0 < p
  pub low : head < 2 ^ 24

one_of : (b : Bool) (n : ℕ) → b ≡ true → cond b n 0 ≡ n
one_of b n e = ap (λ (t : Bool). cond t n 0) e

-- a test that is met somewhere is counted
counted : {X : Type 0} (test : X → Bool) (xs : List X) (k : ℕ) (d : X) → k < length xs → test (get_or xs k d) ≡ true → 0 < count_by test xs
counted test [] k d low e = absurd (omega arith)
counted test (x ∷ xs) zero d low e =
    let here : count_by test (x ∷ xs) ≡ cond (test x) 1 0 + count_by test xs = sum_by-cons (λ y. cond (test y) 1 0) x xs in
    let one = one_of (test x) 1 e in
    omega (arith, here, one)
counted test (x ∷ xs) (suc k) d low e =
    let here : count_by test (x ∷ xs) ≡ cond (test x) 1 0 + count_by test xs = sum_by-cons (λ y. cond (test y) 1 0) x xs in
    let rest = counted test xs k d (omega (arith, low)) e in
    omega (arith, here, rest)

-- a sum that isn't 0 where it is 1 only under two tests
second_test : (a b cell drawn limit : ℕ) → a + b ≡ cond (ltb cell drawn && ltb cell limit) 1 0 → 0 < b → cell < limit
second_test a b cell drawn limit e positive = by_test (ltb cell drawn && ltb cell limit) refl e
  where
    by_test : (t : Bool) → (ltb cell drawn && ltb cell limit) ≡ t → a + b ≡ cond t 1 0 → cell < limit
    by_test true test f = ltb-true cell limit (and_parts _ _ test).1
    by_test false test f = absurd (omega (arith, f, positive))

-- a cell that stands among a seat's own is one of the cells
own_cell : (cell n m p drawn limit : ℕ) (objects : ℕ → Object) (seats : ℕ → Part) →
    total (chain_times cell) n objects + total (own_times cell) m seats ≡ cond (ltb cell drawn && ltb cell limit) 1 0 → p < m → 0 < own_times cell (seats p) → cell < limit
own_cell cell n m p drawn limit objects seats once within some =
    let all = total_at (own_times cell) m seats p within in
    second_test (total (chain_times cell) n objects) (total (own_times cell) m seats) cell drawn limit once (positive (own_times cell (seats p)) (total (own_times cell) m seats) some all)
  where
    positive : (a b : ℕ) → 0 < a → a ≤ b → 0 < b
    positive a b h le = omega arith

-- a seat that has words
seat_range : (q : ℕ) → is_seat q ≡ true → (0 < q) × (q < ANNOUNCERS)
seat_range q e = grind arith

-- the claims before the one that an end has come to are over
over_end : (pl : Place) (u : Task) (n : ℕ × ℕ × ℕ × ℕ) (writes : ℕ) → (is_decided pl || is_active pl) ≡ true → end_of u ≡ Some n → over_of pl u writes ≤ n.1
over_end (Active tail) (task.Ends raised ended step cleared) n writes at is =
    let same = ap (λ (q : ℕ × ℕ × ℕ × ℕ). q.1) (same_Some (raised, ended, step, cleared) n is) in omega (arith, same)
over_end (Active tail) u n writes at is = omega arith
over_end (Decided tail stamp) (task.Ends raised ended step cleared) n writes at is =
    let same = ap (λ (q : ℕ × ℕ × ℕ × ℕ). q.1) (same_Some (raised, ended, step, cleared) n is) in omega (arith, same)
over_end (Decided tail stamp) u n writes at is = omega arith
over_end _ u n writes at is = absurd (cc)

either_taken : (pl : Place) → (is_decided pl || is_active pl) ≡ true → pl ≢ Vacant
either_taken (Active tail) at e = absurd (cc)
either_taken (Decided tail stamp) at e = absurd (cc)
either_taken _ at e = absurd (cc)

decided_either : (pl : Place) → is_decided pl ≡ true → (is_decided pl || is_active pl) ≡ true
decided_either (Decided tail stamp) at = refl
decided_either _ at = absurd (cc)

active_either : (pl : Place) → is_active pl ≡ true → (is_decided pl || is_active pl) ≡ true
active_either (Active tail) at = refl
active_either _ at = absurd (cc)

over_refused : (pl : Place) (writes : ℕ) → (is_decided pl || is_active pl) ≡ true → over_of pl task.Refused writes ≤ 0
over_refused (Active tail) writes at = omega arith
over_refused (Decided tail stamp) writes at = omega arith
over_refused _ writes at = absurd (cc)

first : (a b : Bool) → (a && b) ≡ true → a ≡ true
first a b h = (and_parts a b h).0

second : (a b : Bool) → (a && b) ≡ true → b ≡ true
second a b h = (and_parts a b h).1

module _ (c : Core) (p oid head : ℕ) (sound : Sound c) where
  -- a seat that isn't vacant has words
  taken_seat : (c.seats p).place ≢ Vacant → is_seat p ≡ true
  taken_seat taken = by_test (is_seat p) refl
    where
      by_test : (b : Bool) → is_seat p ≡ b → is_seat p ≡ true
      by_test true e = e
      by_test false e = absurd (taken ((sound.own p).ranges.seat_of e))

  -- an own cell is one of the cells
  own_low : (k : ℕ) → (c.seats p).place ≢ Vacant → k < length (c.seats p).current.writes → is_own head (claim_at (c.seats p).current k).own ≡ true → head < c.shared.cell_limit
  own_low k taken within own =
      let mine : 0 < count_by (λ (w : Claim). is_own head w.own) (c.seats p).current.writes = counted (λ (w : Claim). is_own head w.own) (c.seats p).current.writes k no_claim within own in
      own_cell head OBJECT_LIMIT ANNOUNCERS p c.shared.cells_drawn c.shared.cell_limit c.shared.objects c.seats (sound.common.cells.once head) (seat_range p (taken_seat taken)).1
      (more (count_by (λ (own : OwnCell). eqb own.cell head) (c.seats p).spare) (count_by (λ (w : Claim). is_own head w.own) (c.seats p).current.writes) mine)
    where
      more : (a b : ℕ) → 0 < b → 0 < a + b
      more a b h = omega arith

  -- the claim fits the object that it names
  claim_fits : (k : ℕ) → k < length (c.seats p).current.writes → over_of (c.seats p).place (c.seats p).task (length (c.seats p).current.writes) ≤ k →
      oid ≡ (claim_at (c.seats p).current k).version.oid → ClaimFits p (c.seats p).current.number (c.seats p).current.begin (c.shared.objects oid) (claim_at (c.seats p).current k)
  claim_fits k within behind is =
      subst (λ n. ClaimFits p (c.seats p).current.number (c.seats p).current.begin (c.shared.objects n) (claim_at (c.seats p).current k)) (sym is)
      ((sound.own p).claims.fit k within ((sound.own p).claims.held k within behind))

  -- an entry that is released gets its old head
  released : (k : ℕ) → (is_decided (c.seats p).place || is_active (c.seats p).place) ≡ true → k < length (c.seats p).current.writes →
      over_of (c.seats p).place (c.seats p).task (length (c.seats p).current.writes) ≤ k → oid ≡ (claim_at (c.seats p).current k).version.oid →
      head ≡ (claim_at (c.seats p).current k).version.cell → Owned c p oid head
  released k at within behind is cell =
      let fits = claim_fits k within behind is in
      let same : head ≡ head_of (c.shared.objects oid).entry = cell ∙ fits.cell in
      record { owner = fits.owner; positive = (seat_range p (taken_seat (either_taken (c.seats p).place at))).0; low = omega (arith, same) }

  new_owned : (n : ℕ × ℕ × ℕ × ℕ) (y : Part) → end_of (c.seats p).task ≡ Some n → adds_version (c.seats p) ≡ true → install_new oid head (c.seats p) n ≡ Some y → Owned c p oid head
  new_owned n y at adds e =
      when_then (λ _. Owned c p oid head) _ _ y e (λ g.
      let x = c.seats p in
      let inst : installs n.0 n.1 n.2 x ≡ true = first _ _ (first _ _ (first _ _ g)) in
      let either = decided_either x.place (first _ _ adds) in
      let within = ltb-true _ _ (second _ _ inst) in
      let fits = claim_fits n.1 within (over_end x.place x.task n (length x.current.writes) either at) (eqb-true _ _ (second _ _ (first _ _ g))) in
      let taken = either_taken x.place either in
      let below = own_low n.1 taken within (second _ _ g) in
      let limit = sound.common.counters.limit in
      record { owner = fits.owner; positive = (seat_range p (taken_seat taken)).0; low = omega (arith, below, limit) })

  old_owned : (n : ℕ × ℕ × ℕ × ℕ) (y : Part) → end_of (c.seats p).task ≡ Some n → release_old oid head (c.seats p) n ≡ Some y → Owned c p oid head
  old_owned n y at e =
      when_then (λ _. Owned c p oid head) _ _ y e (λ g.
      let x = c.seats p in
      let either : (is_decided x.place || is_active x.place) ≡ true = first _ _ (first _ _ (first _ _ g)) in
      released n.1 either (ltb-true _ _ (second _ _ (first _ _ (first _ _ g)))) (over_end x.place x.task n (length x.current.writes) either at) (eqb-true _ _ (second _ _ (first _ _ g)))
      (eqb-true _ _ (second _ _ g)))

  claim_owned : (o : Option (ℕ × ℕ × ℕ × ℕ)) (y : Part) → end_of (c.seats p).task ≡ o → install_claim oid head (c.seats p) o ≡ Some y → Owned c p oid head
  claim_owned None y at e = absurd (cc)
  claim_owned (Some n) y at e =
      if_then (λ _. Owned c p oid head) (adds_version (c.seats p)) (install_new oid head (c.seats p) n) (release_old oid head (c.seats p) n) y e
      (λ adds h. new_owned n y at adds h) (λ _ h. old_owned n y at h)

  unclaim_owned : (y : Part) → (c.seats p).task ≡ task.Refused → unclaim oid head (c.seats p) ≡ Some y → Owned c p oid head
  unclaim_owned y at e =
      when_then (λ _. Owned c p oid head) _ _ y e (λ g.
      let x = c.seats p in
      let either = active_either x.place (first _ _ (first _ _ (first _ _ g))) in
      let some : 0 < length x.current.writes = ltb-true _ _ (second _ _ (first _ _ (first _ _ g))) in
      let none : over_of x.place x.task (length x.current.writes) ≤ 0 = subst (λ u. over_of x.place u (length x.current.writes) ≤ 0) (sym at) (over_refused x.place (length x.current.writes) either) in
      released (last_claim x.current) either (omega (arith, some)) (omega (arith, none)) (eqb-true _ _ (second _ _ (first _ _ g))) (eqb-true _ _ (second _ _ g)))

  by_task : (t : Task) (y : Part) → (c.seats p).task ≡ t → install oid head (c.seats p) t ≡ Some y → Owned c p oid head
  by_task task.Refused y at e = unclaim_owned y at e
  by_task t y at e = claim_owned (end_of t) y (ap end_of at) e

  -- a seat that takes the step owns the entry
  pub installs_owned : (found : ℕ) (y : Part) → part_after p (kind.Install oid head) found c.shared (c.seats p) ≡ Some y → Owned c p oid head
  installs_owned found y e = by_task (c.seats p).task y refl e
