-- The objects and the cells of an opening.
use Rattle.std.proofs.Common.{◌≡◌, ℕ, zero, suc, ◌+◌, ◌^◌, ◌<◌, ◌≤◌, Bool, [], ◌∷◌, count_by, cond, ◌&&◌, eqb, ltb, refl, sym, ap, ◌∙◌, subst, arith}
use Rattle.std.specs.Prelude.{if◌then◌else◌}
use Rattle.std.proofs.lemmas.List.Sums.{sum_by-cons}
use Rattle.std.proofs.lemmas.Bool.{lt-ltb}
use Rattle.erm_model.specs.Rows.{Rows}
use Rattle.erm_machine.specs.declared.limits.TheConstants.{OBJECT_LIMIT}
use Rattle.erm_machine.specs.Cells.{chain_times}
use Rattle.erm_machine.specs.Chains.{Linked}
use Rattle.erm_machine.specs.Claims.{ObjectFits}
use Rattle.erm_machine.specs.declared.version.Version.{Version}
use Rattle.erm_machine.specs.Core.{version_at, opened_object, no_object}
use Rattle.erm_machine.specs.Facts.{total}
use Rattle.erm_machine.specs.Words.{blank_cell, owner_of}

-- an object below the limit is an opened one
pub opened_at : (rows : Rows) (oid : ℕ) → oid < OBJECT_LIMIT → (if ltb oid OBJECT_LIMIT then opened_object rows oid else no_object) ≡ opened_object rows oid
opened_at rows oid known = ap (λ (b : Bool). if b then opened_object rows oid else no_object) (lt-ltb oid OBJECT_LIMIT known)

first_alone : (i : ℕ) → i < 1 → i ≡ 0
first_alone i low = omega (arith, low)

-- an opened object has one version, of stamp 0, in the cell of its number
pub opened_fits : (rows : Rows) (tail oid : ℕ) → 0 < tail → oid < OBJECT_LIMIT → ObjectFits tail (opened_object rows oid)
opened_fits rows tail oid positive known = record {
  some = omega arith;
  ascend = λ i j less within. absurd (omega (arith, less, within));
  below = λ i within. subst (λ n. (version_at (opened_object rows oid) n).words.stamp < tail) (sym (first_alone i within)) positive;
  cells = λ i within. subst (λ n. (version_at (opened_object rows oid) n).cell < 2 ^ 24) (sym (first_alone i within)) (omega (arith, known));
  head = omega (arith, known);
  plain = λ none. omega (arith, known);
  marked = λ i within. absurd (omega (arith, within));
  unmarked = λ none. refl;
  unset = λ none. refl;
}

pub opened_linked : (rows : Rows) (oid : ℕ) → Linked (opened_object rows oid)
opened_linked rows oid = record { attached = omega arith; older = λ k above within. absurd (omega (arith, above, within)); oldest = refl }

pub opened_ownerless : (oid : ℕ) → oid < OBJECT_LIMIT → owner_of oid ≡ 0
opened_ownerless oid known = omega (arith, known)

-- a sum of zeros
pub total_zeros : {X : Type 0} (f : X → ℕ) (n : ℕ) (xs : ℕ → X) → ((k : ℕ) → f (xs k) ≡ 0) → total f n xs ≡ 0
unfolding total
total_zeros f zero xs zeros = refl
total_zeros f (suc n) xs zeros = let rest = total_zeros f n xs zeros in let here = zeros n in omega (arith, rest, here)

none_below : (cell : ℕ) → (let z : ℕ = 0 in z) ≡ cond (ltb cell 0) 1 0
none_below cell = grind arith

below_next : (cell n : ℕ) → cond (ltb cell n) 1 0 + cond (eqb n cell) 1 0 ≡ cond (ltb cell (suc n)) 1 0
below_next cell n = grind arith

-- a cell stands in the chain of the object of its number alone
cell_once : (rows : Rows) (cell n : ℕ) → n ≤ OBJECT_LIMIT → total (chain_times cell) n (λ (oid : ℕ). if ltb oid OBJECT_LIMIT then opened_object rows oid else no_object) ≡ cond (ltb cell n) 1 0
unfolding total
cell_once rows cell zero few = none_below cell
cell_once rows cell (suc n) few =
    let rest = cell_once rows cell n (omega (arith, few)) in
    let here : chain_times cell (if ltb n OBJECT_LIMIT then opened_object rows n else no_object) ≡ cond (eqb n cell) 1 0 =
    ap (chain_times cell) (opened_at rows n (omega (arith, few))) ∙ alone (record { cell = n; words = record blank_cell { row = rows n } }) in
    let next = below_next cell n in
    omega (arith, rest, here, next)
  where
    alone : (v : Version) → count_by (λ (u : Version). eqb u.cell cell) (v ∷ []) ≡ cond (eqb v.cell cell) 1 0
    alone v = let more = sum_by-cons (λ (u : Version). cond (eqb u.cell cell) 1 0) v [] in omega (arith, more)

drawn_once : (cell drawn limit : ℕ) → drawn ≤ limit → ◌≡◌ {A = ℕ} (cond (ltb cell drawn) 1 0) (if ltb cell drawn && ltb cell limit then 1 else 0)
drawn_once cell drawn limit enough = grind arith

pub opened_once : (rows : Rows) (cell cells : ℕ) → OBJECT_LIMIT ≤ cells → total (chain_times cell) OBJECT_LIMIT (λ (oid : ℕ). if ltb oid OBJECT_LIMIT then opened_object rows oid else no_object)
    ≡ (if ltb cell OBJECT_LIMIT && ltb cell cells then 1 else 0)
opened_once rows cell cells enough = cell_once rows cell OBJECT_LIMIT (omega arith) ∙ drawn_once cell OBJECT_LIMIT cells enough
