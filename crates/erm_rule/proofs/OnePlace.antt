-- A cell stands in one place: where one chain or one seat has it no other place has.
use Rattle.std.proofs.Common.{◌≡◌, ◌≢◌, ℕ, zero, suc, ◌+◌, ◌<◌, ◌≤◌, ⊎_elim, Bool, true, false, ◌&&◌, List, length, drop, get_or, Some, None, Option, refl, sym, ap, ◌∙◌, subst, arith, nat_lt}
use Rattle.std.specs.Prelude.{if◌then◌else◌, count_by, ◌==◌}
use Rattle.std.proofs.lemmas.Bool.{and_parts, cases_eq, cases_lt, eq-eqb, ltb-true}
use Rattle.std.proofs.lemmas.List.{get_or_past}
use Rattle.std.proofs.lemmas.Option.{get_or_from_slice_get, slice_get_within}
use Rattle.erm_model.specs.Member.{◌∈◌}
use Rattle.erm_machine.specs.declared.attempt.Claim.{Claim}
use Rattle.erm_machine.specs.declared.attempt.OwnCell.{OwnCell}
use Rattle.erm_machine.specs.declared.limits.TheConstants.{ANNOUNCERS, OBJECT_LIMIT}
use Rattle.erm_machine.specs.declared.part.Part.{Part}
use Rattle.erm_machine.specs.declared.version.Version.{Version}
use Rattle.erm_machine.specs.declared.version.VersionAt.{VersionAt}
use Rattle.erm_machine.specs.Cells.{Cells, own_times, chain_times}
use Rattle.erm_machine.specs.Core.{Object, Shared, version_at, no_version, claim_at, no_claim}
use Rattle.erm_machine.specs.Facts.{total}
use Rattle.erm_machine.specs.Seat.{is_own}
use Rattle.erm_machine.specs.Words.{blank_cell}
use Rattle.erm_machine.proofs.Frames.{total_at}
use Rattle.erm_core_cells.proofs.ChainsCells.{count_from}

-- two values are at most the sum in which they stand
ordered_two : {X : Type 0} (g : X → ℕ) (n : ℕ) (f : ℕ → X) (j k : ℕ) → j < k → k < n → g (f j) + g (f k) ≤ total g n f
unfolding total
ordered_two g zero f j k before within = absurd (omega arith)
ordered_two g (suc n) f j k before within =
    ⊎_elim
    (λ (same : k ≡ n). let first = total_at g n f j (omega (arith, before, same)) in let e = ap (λ m. g (f m)) same in omega (arith, first, e))
    (λ (ne : k ≡ n → ⊥). let both = ordered_two g n f j k before (omega (arith, ne, within)) in omega (arith, both))
    (cases_eq k n)

pub total_two : {X : Type 0} (g : X → ℕ) (n : ℕ) (f : ℕ → X) (j k : ℕ) → j ≢ k → j < n → k < n → g (f j) + g (f k) ≤ total g n f
total_two g n f j k ne first second =
    ⊎_elim (λ (less : j < k). ordered_two g n f j k less second)
    (λ (more : k ≤ j). let both = ordered_two g n f k j (omega (arith, more, ne)) first in omega (arith, both)) (cases_lt j k)

-- LISTS. What stands at a place is counted; what stands at two places twice.
drop_none : {X : Type 0} (xs : List X) → drop 0 xs ≡ xs
drop_none xs = refl

counted : {X : Type 0} (p : X → Bool) (xs : List X) (d : X) (k : ℕ) → k < length xs → p (get_or xs k d) ≡ true → 1 ≤ count_by p xs
counted p xs d k within passes =
    let h = count_from p xs d 0 k (omega arith) within passes in let all = ap (λ ys. count_by p ys) (drop_none xs) in omega (arith, h, all)

counted_twice : {X : Type 0} (p : X → Bool) (xs : List X) (d : X) (j k : ℕ) → j < k → k < length xs → p (get_or xs j d) ≡ true → p (get_or xs k d) ≡ true → 2 ≤ count_by p xs
counted_twice p xs d j k before within first second =
    let a = count_from p xs d 0 j (omega arith) (omega (arith, before, within)) first in
    let b = count_from p xs d (j + 1) k (omega (arith, before)) within second in
    let all = ap (λ ys. count_by p ys) (drop_none xs) in
    omega (arith, a, b, all)

-- a claim that has a cell is one of those that there are
pub claim_within : (x : Part) (k : ℕ) (own : OwnCell) → (claim_at x.current k).own ≡ Some own → k < length x.current.writes
claim_within x k own is =
    ⊎_elim (λ (within : k < length x.current.writes). within)
    (λ (past : length x.current.writes ≤ k).
    let none : (claim_at x.current k).own ≡ None = ap (λ (w : Claim). w.own) (get_or_past x.current.writes k no_claim past) in absurd (cc))
    (cases_lt k (length x.current.writes))

own_by : (o : Option OwnCell) (own : OwnCell) → o ≡ Some own → is_own own.cell o ≡ true
own_by o own is = subst (λ (q : Option OwnCell). is_own own.cell q ≡ true) (sym is) (eq-eqb own.cell own.cell refl)

pub claim_owns : (x : Part) (k : ℕ) (own : OwnCell) → (claim_at x.current k).own ≡ Some own → is_own own.cell (claim_at x.current k).own ≡ true
claim_owns x k own is = own_by (claim_at x.current k).own own is

-- SEATS. A claim's cell and a spare one are counted, two claims with one cell twice, as are a claim and a spare cell.
pub claim_counts : (cell : ℕ) (x : Part) (k : ℕ) → k < length x.current.writes → is_own cell (claim_at x.current k).own ≡ true → 1 ≤ own_times cell x
claim_counts cell x k within is = let h = counted (λ (w : Claim). is_own cell w.own) x.current.writes no_claim k within is in omega (arith, h)

spare_counted : (cell : ℕ) (x : Part) (own : OwnCell) → own ∈ x.spare → own.cell ≡ cell → 1 ≤ count_by (λ (z : OwnCell). z.cell == cell) x.spare
spare_counted cell x own m is =
    let blank : OwnCell = record { cell = 0; words = blank_cell } in
    let at : get_or x.spare m.0 blank ≡ own = get_or_from_slice_get x.spare m.0 own blank m.1 in
    counted (λ (z : OwnCell). z.cell == cell) x.spare blank m.0 (slice_get_within x.spare m.0 own m.1) (eq-eqb _ cell (ap (λ (z : OwnCell). z.cell) at ∙ is))

pub spare_counts : (cell : ℕ) (x : Part) (own : OwnCell) → own ∈ x.spare → own.cell ≡ cell → 1 ≤ own_times cell x
spare_counts cell x own m is = let h = spare_counted cell x own m is in omega (arith, h)

two_claims : (cell : ℕ) (x : Part) (j k : ℕ) → j < k → k < length x.current.writes → is_own cell (claim_at x.current j).own ≡ true → is_own cell (claim_at x.current k).own ≡ true → 2 ≤ own_times cell x
two_claims cell x j k before within first second =
    let h = counted_twice (λ (w : Claim). is_own cell w.own) x.current.writes no_claim j k before within first second in omega (arith, h)

-- CHAINS. A version that is attached counts for its cell, two with one cell twice.
pub chain_counts : (cell : ℕ) (o : Object) (k : ℕ) → o.cut ≤ k → k < length o.versions → (version_at o k).cell ≡ cell → 1 ≤ chain_times cell o
chain_counts cell o k attached within is =
    let h = count_from (λ (v : Version). v.cell == cell) o.versions no_version o.cut k attached within (eq-eqb _ _ is) in omega (arith, h)

chain_counts_twice : (cell : ℕ) (o : Object) (j k : ℕ) → o.cut ≤ j → j < k → k < length o.versions →
    (version_at o j).cell ≡ cell → (version_at o k).cell ≡ cell → 2 ≤ chain_times cell o
chain_counts_twice cell o j k attached before within first second =
    let a = count_from (λ (v : Version). v.cell == cell) o.versions no_version o.cut j attached (omega (arith, before, within)) (eq-eqb _ _ first) in
    let b = count_from (λ (v : Version). v.cell == cell) o.versions no_version (j + 1) k (omega (arith, before)) within (eq-eqb _ _ second) in
    omega (arith, a, b)

-- a version is attached to its object's chain, in the cell that its name says
pub record IsLive (s : Shared) (v : VersionAt) : Type 0 where
  pub object : v.oid < OBJECT_LIMIT
  pub attached : (s.objects v.oid).cut ≤ v.place
  pub within : v.place < length (s.objects v.oid).versions
  pub cell : (version_at (s.objects v.oid) v.place).cell ≡ v.cell

at_most_one : (b : Bool) → (if b then 1 else 0) ≤ 1
at_most_one true = omega arith
at_most_one false = omega arith

some_then_true : (b : Bool) → 1 ≤ (if b then 1 else 0) → b ≡ true
some_then_true true h = refl
some_then_true false h = absurd (omega arith)

-- plain sums
left_none : (a b n : ℕ) → 1 ≤ a → a + b ≤ n → n ≤ 1 → b ≡ 0
left_none a b n some all one = omega (arith, some, all, one)

module _ (s : Shared) (seats : ℕ → Part) (cells : Cells s seats) where
  -- the sum over chains and seats is at most 1, and where it is 1 the cell was drawn
  all_once : (cell : ℕ) → total (chain_times cell) OBJECT_LIMIT s.objects + total (own_times cell) ANNOUNCERS seats ≤ 1
  all_once cell =
      let is = cells.once cell in let few = at_most_one (nat_lt cell s.cells_drawn && nat_lt cell s.cell_limit) in fits _ _ _ is few
    where
      fits : (a b n : ℕ) → a + b ≡ n → n ≤ 1 → a + b ≤ 1
      fits a b n is few = omega (arith, is, few)

  all_drawn : (cell : ℕ) → 1 ≤ total (chain_times cell) OBJECT_LIMIT s.objects + total (own_times cell) ANNOUNCERS seats → (cell < s.cells_drawn) × (cell < s.cell_limit)
  all_drawn cell some =
      let is = cells.once cell in
      let both = some_then_true (nat_lt cell s.cells_drawn && nat_lt cell s.cell_limit) (has _ _ _ is some) in
      let parts = and_parts (nat_lt cell s.cells_drawn) (nat_lt cell s.cell_limit) both in (ltb-true _ _ parts.0, ltb-true _ _ parts.1)
    where
      has : (a b n : ℕ) → a + b ≡ n → 1 ≤ a + b → 1 ≤ n
      has a b n is some = omega (arith, is, some)

  -- A SEAT'S OWN CELL
  module _ (cell q : ℕ) (seat : q < ANNOUNCERS) (mine : 1 ≤ own_times cell (seats q)) where
    pub own_drawn : (cell < s.cells_drawn) × (cell < s.cell_limit)
    own_drawn = all_drawn cell (within _ _ _ mine (total_at (own_times cell) ANNOUNCERS seats q seat))
      where
        within : (a b n : ℕ) → 1 ≤ n → n ≤ b → 1 ≤ a + b
        within a b n some below = omega (arith, some, below)

    pub own_single : own_times cell (seats q) ≤ 1
    own_single = few _ _ _ (all_once cell) (total_at (own_times cell) ANNOUNCERS seats q seat)
      where
        few : (a b n : ℕ) → a + b ≤ 1 → n ≤ b → n ≤ 1
        few a b n all below = omega (arith, all, below)

    -- is in no chain
    pub own_unchained : (oid place : ℕ) → oid < OBJECT_LIMIT → (s.objects oid).cut ≤ place → place < length (s.objects oid).versions → (version_at (s.objects oid) place).cell ≢ cell
    own_unchained oid place known attached within same =
        let its = chain_counts cell (s.objects oid) place attached within same in
        too_many _ _ _ _ (all_once cell) its (total_at (chain_times cell) OBJECT_LIMIT s.objects oid known) mine (total_at (own_times cell) ANNOUNCERS seats q seat)
      where
        too_many : (a b m n : ℕ) → a + b ≤ 1 → 1 ≤ m → m ≤ a → 1 ≤ n → n ≤ b → ⊥
        too_many a b m n all some below also low = omega (arith, all, some, below, also, low)

    -- is no other seat's
    pub own_apart : (r : ℕ) → r ≢ q → r < ANNOUNCERS → own_times cell (seats r) ≡ 0
    own_apart r ne other = none _ _ _ _ (all_once cell) mine (total_two (own_times cell) ANNOUNCERS seats q r (λ same. ne (sym same)) seat other)
      where
        none : (a b m n : ℕ) → a + b ≤ 1 → 1 ≤ m → m + n ≤ b → n ≡ 0
        none a b m n all some both = omega (arith, all, some, both)

    -- stands there once
    pub own_claim_alone : (j k : ℕ) → j < length (seats q).current.writes → k < length (seats q).current.writes →
        is_own cell (claim_at (seats q).current j).own ≡ true → is_own cell (claim_at (seats q).current k).own ≡ true → j ≡ k
    own_claim_alone j k first second is also =
        ⊎_elim (λ (same : j ≡ k). same)
        (λ (ne : j ≡ k → ⊥).
        ⊎_elim (λ (less : j < k). absurd (twice _ own_single (two_claims cell (seats q) j k less second is also)))
        (λ (more : k ≤ j). absurd (twice _ own_single (two_claims cell (seats q) k j (omega (arith, more, ne)) first also is))) (cases_lt j k))
        (cases_eq j k)
      where
        twice : (n : ℕ) → n ≤ 1 → 2 ≤ n → ⊥
        twice n few many = omega (arith, few, many)

    pub own_not_spare : (k : ℕ) (own : OwnCell) → k < length (seats q).current.writes → is_own cell (claim_at (seats q).current k).own ≡ true → own ∈ (seats q).spare → own.cell ≢ cell
    own_not_spare k own within is m same =
        twice _ _ own_single (spare_counted cell (seats q) own m same) (counted (λ (w : Claim). is_own cell w.own) (seats q).current.writes no_claim k within is)
      where
        twice : (a b : ℕ) → a + b ≤ 1 → 1 ≤ a → 1 ≤ b → ⊥
        twice a b few some also = omega (arith, few, some, also)

  -- A VERSION'S CELL
  module _ (v : VersionAt) (live : IsLive s v) where
    its_chain : 1 ≤ total (chain_times v.cell) OBJECT_LIMIT s.objects
    its_chain = within _ _ (chain_counts v.cell (s.objects v.oid) v.place live.attached live.within live.cell) (total_at (chain_times v.cell) OBJECT_LIMIT s.objects v.oid live.object)
      where
        within : (m n : ℕ) → 1 ≤ m → m ≤ n → 1 ≤ n
        within m n some below = omega (arith, some, below)

    pub live_drawn : (v.cell < s.cells_drawn) × (v.cell < s.cell_limit)
    live_drawn = all_drawn v.cell (within _ _ its_chain)
      where
        within : (a b : ℕ) → 1 ≤ a → 1 ≤ a + b
        within a b some = omega (arith, some)

    -- is no seat's own
    pub live_unowned : (q : ℕ) → q < ANNOUNCERS → own_times v.cell (seats q) ≡ 0
    live_unowned q seat = none _ _ _ (all_once v.cell) its_chain (total_at (own_times v.cell) ANNOUNCERS seats q seat)
      where
        none : (a b n : ℕ) → a + b ≤ 1 → 1 ≤ a → n ≤ b → n ≡ 0
        none a b n all some below = omega (arith, all, some, below)

    -- is no other object's
    pub live_apart : (oid place : ℕ) → oid ≢ v.oid → oid < OBJECT_LIMIT → (s.objects oid).cut ≤ place → place < length (s.objects oid).versions → (version_at (s.objects oid) place).cell ≢ v.cell
    live_apart oid place ne known attached within same =
        let its = chain_counts v.cell (s.objects oid) place attached within same in
        let own = chain_counts v.cell (s.objects v.oid) v.place live.attached live.within live.cell in
        too_many _ _ _ _ (all_once v.cell) its own (total_two (chain_times v.cell) OBJECT_LIMIT s.objects oid v.oid ne known live.object)
      where
        too_many : (a b m n : ℕ) → a + b ≤ 1 → 1 ≤ m → 1 ≤ n → m + n ≤ a → ⊥
        too_many a b m n all some also both = omega (arith, all, some, also, both)

    chain_single : chain_times v.cell (s.objects v.oid) ≤ 1
    chain_single = few _ _ _ (all_once v.cell) (total_at (chain_times v.cell) OBJECT_LIMIT s.objects v.oid live.object)
      where
        few : (a b n : ℕ) → a + b ≤ 1 → n ≤ a → n ≤ 1
        few a b n all below = omega (arith, all, below)

    -- is no other version's
    pub live_alone : (place : ℕ) → place ≢ v.place → (s.objects v.oid).cut ≤ place → place < length (s.objects v.oid).versions → (version_at (s.objects v.oid) place).cell ≢ v.cell
    live_alone place ne attached within same =
        ⊎_elim (λ (less : place < v.place). twice _ chain_single (chain_counts_twice v.cell (s.objects v.oid) place v.place attached less live.within same live.cell))
        (λ (more : v.place ≤ place). twice _ chain_single (chain_counts_twice v.cell (s.objects v.oid) v.place place live.attached (omega (arith, more, ne)) within live.cell same))
        (cases_lt place v.place)
      where
        twice : (n : ℕ) → n ≤ 1 → 2 ≤ n → ⊥
        twice n few many = omega (arith, few, many)
