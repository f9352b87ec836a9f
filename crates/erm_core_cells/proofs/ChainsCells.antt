-- A cell stands in one place: where a seat has it for its own it is in no chain, and it names one version of a chain.
use Rattle.std.proofs.Common.{◌≡◌, ◌≢◌, ℕ, zero, suc, ◌+◌, ◌-◌, ◌<◌, ◌≤◌, ⊎_elim, Bool, true, false, ◌&&◌, cond, List, length, drop, get_or, refl, sym, ap, arith, nat_lt}
use Rattle.std.specs.Prelude.{if◌then◌else◌, count_by, ◌==◌}
use Rattle.std.proofs.lemmas.Bool.{and_parts, and_right, or_from, lt-leb, ne_eqb, cases_eq, cases_lt, eq-eqb, ltb-true}
use Rattle.std.proofs.lemmas.List.Sums.{sum_by-drop_more}
use Rattle.erm_machine.specs.declared.attempt.Claim.{Claim}
use Rattle.erm_machine.specs.declared.limits.TheConstants.{ANNOUNCERS, FLUSH_SEAT, OBJECT_LIMIT, SESSIONS}
use Rattle.erm_machine.specs.declared.part.Part.{Part}
use Rattle.erm_machine.specs.declared.place.Place.TheVariants.{Vacant}
use Rattle.erm_machine.specs.declared.version.Version.{Version}
use Rattle.erm_machine.specs.Cells.{own_times, chain_times}
use Rattle.erm_machine.specs.Core.{Core, Object, version_at, no_version, claim_at, no_claim}
use Rattle.erm_machine.specs.Facts.{total}
use Rattle.erm_machine.specs.Seat.{is_own}
use Rattle.erm_machine.specs.Sound.{Sound}
use Rattle.erm_machine.proofs.Frames.{total_at}
use Rattle.erm_machine.specs.Words.{is_seat}

module _ {X : Type 0} (p : X → Bool) (xs : List X) (d : X) where
  one_if : (b : Bool) → b ≡ true → ◌≡◌ {A = ℕ} (cond b 1 0) 1
  one_if true e = refl
  one_if false e = absurd (cc)

  -- of a later part fewer are counted
  count_less : (n i k : ℕ) → i + n ≡ k → k ≤ length xs → count_by p (drop k xs) ≤ count_by p (drop i xs)
  count_less zero i k e within = let same : i ≡ k = omega arith in let h = ap (λ m. count_by p (drop m xs)) same in omega (arith, h)
  count_less (suc n) i k e within =
      let rest = count_less n (i + 1) k (omega arith) within in
      let step = sum_by-drop_more (λ x. cond (p x) 1 0) xs i d (omega arith) in
      omega (arith, rest, step)

  -- one that passes is counted, beside those behind it
  pub count_from : (i k : ℕ) → i ≤ k → k < length xs → p (get_or xs k d) ≡ true → 1 + count_by p (drop (k + 1) xs) ≤ count_by p (drop i xs)
  count_from i k le within passes =
      let rest = count_less (k - i) i k (omega arith) (omega arith) in
      let step = sum_by-drop_more (λ x. cond (p x) 1 0) xs k d within in
      let one = one_if (p (get_or xs k d)) passes in
      omega (arith, rest, step, one)

-- terms of two sums are at most what both come to
two_terms : {X Y : Type 0} (g : X → ℕ) (n : ℕ) (f : ℕ → X) (k : ℕ) (h : Y → ℕ) (m : ℕ) (e : ℕ → Y) (j one : ℕ) → k < n → j < m →
    total g n f + total h m e ≡ one → g (f k) + h (e j) ≤ one
two_terms g n f k h m e j one at also is =
    let a = total_at g n f k at in let b = total_at h m e j also in omega (arith, a, b, is)

-- a version that is attached counts for its cell; two of them count twice
chain_counts : (cell : ℕ) (o : Object) (k : ℕ) → o.cut ≤ k → k < length o.versions → (version_at o k).cell ≡ cell → 1 ≤ chain_times cell o
chain_counts cell o k attached within is =
    let h = count_from (λ (v : Version). v.cell == cell) o.versions no_version o.cut k attached within (eq-eqb _ _ is) in omega (arith, h)

chain_counts_twice : (cell : ℕ) (o : Object) (j k : ℕ) → o.cut ≤ j → j < k → k < length o.versions →
    (version_at o j).cell ≡ cell → (version_at o k).cell ≡ cell → 2 ≤ chain_times cell o
chain_counts_twice cell o j k attached before within is also =
    let first = count_from (λ (v : Version). v.cell == cell) o.versions no_version o.cut j attached (omega arith) (eq-eqb _ _ is) in
    let second = count_from (λ (v : Version). v.cell == cell) o.versions no_version (j + 1) k (omega arith) within (eq-eqb _ _ also) in
    omega (arith, first, second)

-- a claim's own cell counts for its seat
own_counts : (cell : ℕ) (x : Part) (k : ℕ) → k < length x.current.writes → is_own cell (claim_at x.current k).own ≡ true → 1 ≤ own_times cell x
own_counts cell x k within is =
    let h = count_from (λ (w : Claim). is_own cell w.own) x.current.writes no_claim 0 k (omega arith) within is in
    let all = ap (λ (ws : List Claim). count_by (λ (w : Claim). is_own cell w.own) ws) (drop_none x.current.writes) in
    omega (arith, h, all)
  where
    drop_none : (ws : List Claim) → drop 0 ws ≡ ws
    drop_none ws = refl

at_most_one : (b : Bool) → (if b then 1 else 0) ≤ 1
at_most_one true = omega arith
at_most_one false = omega arith

some_then_true : (b : Bool) → 1 ≤ (if b then 1 else 0) → b ≡ true
some_then_true true h = refl
some_then_true false h = absurd (omega arith)

-- how often an object's chain and a seat's own cells name a cell
times_once : (c : Core) (p oid cell : ℕ) → Sound c → p < ANNOUNCERS → oid < OBJECT_LIMIT →
    chain_times cell (c.shared.objects oid) + own_times cell (c.seats p) ≤ (if nat_lt cell c.shared.cells_drawn && nat_lt cell c.shared.cell_limit then 1 else 0)
times_once c p oid cell sound seat known =
    two_terms (chain_times cell) OBJECT_LIMIT c.shared.objects oid (own_times cell) ANNOUNCERS c.seats p _ known seat (sound.common.cells.once cell)

module _ (c : Core) (sound : Sound c) where
  -- two attached versions of an object don't have one cell
  once_in_chain : (oid j k : ℕ) → oid < OBJECT_LIMIT → (c.shared.objects oid).cut ≤ j → j < k → k < length (c.shared.objects oid).versions →
      (version_at (c.shared.objects oid) j).cell ≢ (version_at (c.shared.objects oid) k).cell
  once_in_chain oid j k known attached before within same =
      let cell = (version_at (c.shared.objects oid) k).cell in
      let twice = chain_counts_twice cell (c.shared.objects oid) j k attached before within same refl in
      let once = times_once c 0 oid cell sound (omega arith) known in
      let one = at_most_one (nat_lt cell c.shared.cells_drawn && nat_lt cell c.shared.cell_limit) in
      absurd (too_many (chain_times cell (c.shared.objects oid)) (own_times cell (c.seats 0)) _ twice once one)
    where
      too_many : (a b n : ℕ) → 2 ≤ a → a + b ≤ n → n ≤ 1 → ⊥
      too_many a b n h g f = omega arith

  pub same_place : (oid j k : ℕ) → oid < OBJECT_LIMIT → (c.shared.objects oid).cut ≤ j → (c.shared.objects oid).cut ≤ k →
      j < length (c.shared.objects oid).versions → k < length (c.shared.objects oid).versions →
      (version_at (c.shared.objects oid) j).cell ≡ (version_at (c.shared.objects oid) k).cell → j ≡ k
  same_place oid j k known at also within too same =
      ⊎_elim (λ (less : j < k). absurd (once_in_chain oid j k known at less too same))
      (λ (le : k ≤ j). ⊎_elim (λ (e : j ≡ k). e) (λ (ne : j ≡ k → ⊥). absurd (once_in_chain oid k j known also (omega (arith, le, ne)) within (sym same))) (cases_eq j k))
      (cases_lt j k)

  -- a claim's own cell was drawn, and is in no chain
  pub own_small : (p k cell : ℕ) → p < ANNOUNCERS → k < length (c.seats p).current.writes → is_own cell (claim_at (c.seats p).current k).own ≡ true → cell < c.shared.cell_limit
  own_small p k cell seat within is =
      let mine = own_counts cell (c.seats p) k within is in
      let once = times_once c p 0 cell sound seat (omega arith) in
      let drawn = some_then_true (nat_lt cell c.shared.cells_drawn && nat_lt cell c.shared.cell_limit)
      (at_least (chain_times cell (c.shared.objects 0)) (own_times cell (c.seats p)) _ mine once) in
      ltb-true _ _ (and_parts (nat_lt cell c.shared.cells_drawn) (nat_lt cell c.shared.cell_limit) drawn).1
    where
      at_least : (a b n : ℕ) → 1 ≤ b → a + b ≤ n → 1 ≤ n
      at_least a b n h g = omega arith

  pub own_in_no_chain : (p k cell oid place : ℕ) → p < ANNOUNCERS → k < length (c.seats p).current.writes → is_own cell (claim_at (c.seats p).current k).own ≡ true →
      oid < OBJECT_LIMIT → (c.shared.objects oid).cut ≤ place → place < length (c.shared.objects oid).versions → (version_at (c.shared.objects oid) place).cell ≢ cell
  own_in_no_chain p k cell oid place seat within is known attached there same =
      let mine = own_counts cell (c.seats p) k within is in
      let its = chain_counts cell (c.shared.objects oid) place attached there same in
      let once = times_once c p oid cell sound seat known in
      let one = at_most_one (nat_lt cell c.shared.cells_drawn && nat_lt cell c.shared.cell_limit) in
      absurd (too_many (chain_times cell (c.shared.objects oid)) (own_times cell (c.seats p)) _ its mine once one)
    where
      too_many : (a b n : ℕ) → 1 ≤ a → 1 ≤ b → a + b ≤ n → n ≤ 1 → ⊥
      too_many a b n h g f e = omega arith

  -- a seat with a transaction is one of those that have words
  pub seat_within : (p : ℕ) → (c.seats p).place ≢ Vacant → p < ANNOUNCERS
  seat_within p taken =
      ⊎_elim (λ (within : p < ANNOUNCERS). within)
      (λ (beyond : ANNOUNCERS ≤ p). absurd (taken ((sound.own p).ranges.seat_of (no_seat p beyond)))) (cases_lt p ANNOUNCERS)
    where
      no_seat : (p : ℕ) → ANNOUNCERS ≤ p → is_seat p ≡ false
      no_seat p beyond = or_from _ _ (and_right _ _ (lt-leb p SESSIONS (omega (arith, beyond)))) (ne_eqb p FLUSH_SEAT (omega (arith, beyond)))
