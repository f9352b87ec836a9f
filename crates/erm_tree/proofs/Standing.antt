-- Where a walk from a table's root down to a key stands.
use Rattle.std.proofs.Common.{◌≡◌, ℕ, zero, suc, ◌+◌, ◌^◌, ◌<◌, ◌≤◌, List, [], ◌∷◌, ◌++◌, Bool, true, false, cond, Some, None, refl, sym, ap, ◌∙◌, subst, inl, inr, arith}
use Rattle.std.specs.Prelude.{◌==◌, nat_eq, flat_map}
use Rattle.std.specs.Map.{lookup}
use Rattle.std.proofs.lemmas.Bool.{cases_lt}
use Rattle.std.proofs.lemmas.Bool.Decides.{nat_tests}
use Rattle.erm_model.specs.declared.limits.TheConstants.{OID_LIMIT}
use Rattle.erm_model.specs.Rows.{Rows}
use Rattle.erm_node.specs.Node.{pairs_of}
use Rattle.erm_node.specs.Tree.{Fan, first_key, total, IsTree, entries, times, same_oid}
use Rattle.erm_node.specs.Sound.{IsSound, levels_of, inner_levels, reached, reached_below}
use Rattle.erm_node.specs.TreeMap.{record_in}
use Rattle.erm_node.proofs.Levels.{inner_levels-limit}
use Rattle.erm_tree.specs.Reads.{AnyOfFan, IsMet}
use Rattle.erm_tree.specs.Walk.{IsEntry, IsLeafFor}
use Rattle.erm_tree.proofs.Fans.{Fan-back, first_key-Fan, AnyOfFan-append, Fan-each, first_key-before, total-part, IsPairFor}
use Rattle.erm_tree.proofs.Trees.{IsOutside, lookup-entries_outside, lookup-Fan_outside, lookup-Fan_inside, low_enough}

-- a tree has one level at least and twelve at most
pub levels_of-bounds : (rows : Rows) (oid : ℕ) → (n : ℕ) × (levels_of rows oid ≡ suc n) × (n ≤ 11)
unfolding levels_of
levels_of-bounds rows oid = (inner_levels rows 11 oid, refl, inner_levels-limit rows 11 oid)

reached_below-table : (rows : Rows) (n table x : ℕ) → table < n → times rows (levels_of rows table) table x ≤ reached_below rows n x
reached_below-table rows zero table x below = absurd (omega arith)
reached_below-table rows (suc n) table x below =
    elim (cases_lt table n) as (λ _. times rows (levels_of rows table) table x ≤ reached_below rows (suc n) x) [
      | inl less ↦ omega (arith, reached_below-table rows n table x less)
      | inr last ↦
          let same : table ≡ n = omega arith in
          omega (arith, ap (λ (t : ℕ). times rows (levels_of rows t) t x) same)
    ]

-- what the tree of a table reaches is reached
pub reached-table : (rows : Rows) (table x : ℕ) → table < 16 → times rows (levels_of rows table) table x ≤ reached rows x
unfolding reached
reached-table rows table x below = reached_below-table rows 16 table x below

-- A walk stands at a node on the way to a key: so many levels are behind it, and its keys go up to `to`.
pub record StandsAt (rows : Rows) (table key walked oid to : ℕ) : Type 0 where
  pub levels : ℕ
  pub least : ℕ
  pub from : ℕ
  pub counted : suc (walked + levels) ≡ levels_of rows table
  pub tree : IsTree rows (suc levels) least oid from to
  pub low : from ≤ key
  pub high : key < to
  pub top : to ≤ 2 ^ 64
  pub found : (k : ℕ) → from ≤ k → k < to → record_in rows table k ≡ lookup (nat_eq k) (entries rows (suc levels) oid from)
  pub met : (records : Bool) (l h x : ℕ) → IsMet records rows l h (suc levels) oid from to x → IsMet records rows l h (levels_of rows table) table 0 (2 ^ 64) x
  pub reaches : (x : ℕ) → times rows (suc levels) oid x ≤ reached rows x

-- the walk begins at the root
pub StandsAt-root : (rows : Rows) (table key : ℕ) → IsSound rows → table < 16 → key < 2 ^ 64 → StandsAt rows table key 0 table (2 ^ 64)
StandsAt-root rows table key sound below fits =
    let (n, many, few) = levels_of-bounds rows table in
    record {
      levels = n;
      least = 0;
      from = 0;
      counted = omega (arith, many);
      tree = subst (λ (m : ℕ). IsTree rows m 0 table 0 (2 ^ 64)) many (sound.trees table below);
      low = omega arith;
      high = fits;
      top = omega arith;
      found = λ k low high. ap (λ (m : ℕ). lookup (nat_eq k) (entries rows m table 0)) many;
      met = λ r l h x is. subst (λ (m : ℕ). IsMet r rows l h m table 0 (2 ^ 64) x) (sym many) is;
      reaches = λ x. omega (arith, reached-table rows table x below, ap (λ (m : ℕ). times rows m table x) many);
    }

same_oid-itself : (oid : ℕ) → same_oid oid oid ≡ 1
same_oid-itself oid = grind (arith, nat_tests)

-- where it stands there is an object that there may be
pub StandsAt-bounded : (rows : Rows) (table key walked oid to : ℕ) → IsSound rows → StandsAt rows table key walked oid to → oid < OID_LIMIT
StandsAt-bounded rows table key walked oid to sound at =
    elim (cases_lt oid OID_LIMIT) as (λ _. oid < OID_LIMIT) [
      | inl less ↦ less
      | inr not_less ↦ absurd (omega (arith, sound.bounded oid not_less, at.reaches oid, same_oid-itself oid))
    ]

-- it goes on at the child for the key
pub StandsAt-child : (rows : Rows) (table key walked oid to : ℕ) (child : ℕ × ℕ) (end : ℕ) → (at : StandsAt rows table key walked oid to)
    → (below : ℕ) → at.levels ≡ suc below → IsPairFor (pairs_of (rows oid)) to key child end → StandsAt rows table key (suc walked) child.1 end
StandsAt-child rows table key walked oid to child end at below deeper is =
    let P : ℕ → ℕ → ℕ → Type 0 = λ c f t. IsTree rows (suc below) 4 c f t in
    let E : ℕ → ℕ → List (ℕ × ℕ) = λ c f. entries rows (suc below) c f in
    let each : ℕ × ℕ → List (ℕ × ℕ) = λ (p : ℕ × ℕ). E p.1 p.0 in
    let tree : IsTree rows (suc (suc below)) at.least oid at.from to = subst (λ (m : ℕ). IsTree rows (suc m) at.least oid at.from to) deeper at.tree in
    let fan : Fan P (is.before ++ child ∷ is.rest) to = subst (λ (ps : List (ℕ × ℕ)). Fan P ps to) is.split tree.fan in
    let here = Fan-back P is.before (child ∷ is.rest) to fan in
    let up : first_key is.rest to ≤ to = first_key-Fan P is.rest to here.2 in
    let low = low_enough (suc below == 0) at.from (first_key (pairs_of (rows oid)) at.from) tree.starts in
    let first = first_key-before P is.before child is.rest to at.from fan in
    let down : at.from ≤ child.0 = omega (arith, ap (λ (ps : List (ℕ × ℕ)). first_key ps at.from) is.split) in
    record {
      levels = below;
      least = 4;
      from = child.0;
      counted = omega (arith, at.counted, deeper);
      tree = subst (λ (t : ℕ). P child.1 child.0 t) (sym is.end) here.0;
      low = is.low;
      high = is.high;
      top = omega (arith, is.end, at.top);
      found = λ k low high.
          at.found k (omega arith) (omega (arith, is.end))
          ∙ ap (λ (m : ℕ). lookup (nat_eq k) (entries rows (suc m) oid at.from)) deeper
          ∙ ap (λ (ps : List (ℕ × ℕ)). lookup (nat_eq k) (flat_map each ps)) is.split
          ∙ lookup-Fan_inside E P (λ c f t q inside wide out. lookup-entries_outside rows (suc below) 4 c f t q inside wide out) is.before child is.rest to k fan low (omega (arith, is.end));
      met = λ r l h x met. at.met r l h x (
        omega (arith, met.0, is.end),
        omega (arith, met.1),
        let M : ℕ → ℕ → ℕ → ℕ → Type 0 = λ m c f t. IsMet r rows l h m c f t x in
            let inside : AnyOfFan (M (suc below)) (is.before ++ child ∷ is.rest) to =
            AnyOfFan-append (M (suc below)) is.before (child ∷ is.rest) to (inl (subst (λ (t : ℕ). M (suc below) child.1 child.0 t) is.end met)) in
            let inside_node : AnyOfFan (M (suc below)) (pairs_of (rows oid)) to = subst (λ (ps : List (ℕ × ℕ)). AnyOfFan (M (suc below)) ps to) (sym is.split) inside in
            inr (subst (λ (m : ℕ). AnyOfFan (M m) (pairs_of (rows oid)) to) (sym deeper) inside_node),
      );
      reaches = λ x.
          let count : ℕ × ℕ → ℕ = λ (p : ℕ × ℕ). times rows (suc below) p.1 x in
          omega (
            arith,
            at.reaches x,
            ap (λ (m : ℕ). times rows (suc m) oid x) deeper,
            ap (λ (ps : List (ℕ × ℕ)). total count ps) is.split,
            total-part count is.before child is.rest,
          );
    }

-- pairs as entries are themselves
pub flat_map-single : (pairs : List (ℕ × ℕ)) → flat_map (λ (p : ℕ × ℕ). (p.0, p.1) ∷ []) pairs ≡ pairs
flat_map-single [] = refl
flat_map-single (p ∷ ps) = ap (λ (qs : List (ℕ × ℕ)). p ∷ qs) (flat_map-single ps)

lookup-itself : (key oid : ℕ) → lookup (nat_eq key) ((key, oid) ∷ []) ≡ Some oid
lookup-itself key oid =
    let same : nat_eq key key ≡ true = grind (arith, nat_tests) in
    ap (λ (b : Bool). cond b (Some oid) None) same

lookup-other : (k key oid : ℕ) → key < k → lookup (nat_eq k) ((key, oid) ∷ []) ≡ None
lookup-other k key oid above =
    let other : nat_eq k key ≡ false = grind (arith, nat_tests) in
    ap (λ (b : Bool). cond b (Some oid) None) other

-- at a leaf it is done
pub StandsAt-leaf : (rows : Rows) (table key walked oid to : ℕ) → IsSound rows → (at : StandsAt rows table key walked oid to) → at.levels ≡ 0 → IsLeafFor rows table key (pairs_of (rows oid)) to
StandsAt-leaf rows table key walked oid to sound at last =
    let P : ℕ → ℕ → ℕ → Type 0 = λ c f t. IsTree rows 0 4 c f t in
    let E : ℕ → ℕ → List (ℕ × ℕ) = λ c f. (f, c) ∷ [] in
    let each : ℕ × ℕ → List (ℕ × ℕ) = λ (p : ℕ × ℕ). E p.1 p.0 in
    let Q : ℕ → ℕ → ℕ → Type 0 = λ c f t. IsEntry rows table c f t in
    let pairs = pairs_of (rows oid) in
    let tree : IsTree rows 1 at.least oid at.from to = subst (λ (m : ℕ). IsTree rows (suc m) at.least oid at.from to) last at.tree in
    let low : at.from ≤ first_key pairs at.from = tree.starts in
    let found : (k : ℕ) → at.from ≤ k → k < to → record_in rows table k ≡ lookup (nat_eq k) (flat_map each pairs) =
    λ k above below. at.found k above below ∙ ap (λ (m : ℕ). lookup (nat_eq k) (entries rows (suc m) oid at.from)) last in
    let outside : (c f t k : ℕ) → P c f t → f < t → IsOutside k f t → lookup (nat_eq k) (E c f) ≡ None =
    λ c f t k inside wide out. lookup-entries_outside rows 0 4 c f t k inside wide out in
    record {
      from = at.from;
      low = at.low;
      high = at.high;
      top = at.top;
      found = λ k above below. found k above below ∙ ap (lookup (nat_eq k)) (flat_map-single pairs);
      below = λ k above under. found k above (omega (arith, first_key-Fan P pairs to tree.fan)) ∙ lookup-Fan_outside E P outside pairs to k tree.fan (record { is = inl under });
      entries = Fan-each P Q pairs [] pairs to refl tree.fan (λ before pair after is row wide.
          let fan : Fan P (before ++ pair ∷ after) to = subst (λ (ps : List (ℕ × ℕ)). Fan P ps to) is tree.fan in
          let up : first_key after to ≤ to = first_key-Fan P after to (Fan-back P before (pair ∷ after) to fan).2 in
          let first = first_key-before P before pair after to at.from fan in
          let down : at.from ≤ pair.0 = omega (arith, ap (λ (ps : List (ℕ × ℕ)). first_key ps at.from) is) in
          let here : (k : ℕ) → pair.0 ≤ k → k < first_key after to → record_in rows table k ≡ lookup (nat_eq k) ((pair.0, pair.1) ∷ []) =
          λ k above below.
          found k (omega arith) (omega arith) ∙ ap (λ (ps : List (ℕ × ℕ)). lookup (nat_eq k) (flat_map each ps)) is
          ∙ lookup-Fan_inside E P outside before pair after to k fan above below in
          let reaches : 1 ≤ reached rows pair.1 =
          let count : ℕ × ℕ → ℕ = λ (p : ℕ × ℕ). times rows 0 p.1 pair.1 in
          omega (
            arith,
            at.reaches pair.1,
            same_oid-itself pair.1,
            ap (λ (m : ℕ). times rows (suc m) oid pair.1) last,
            ap (λ (ps : List (ℕ × ℕ)). total count ps) is,
            total-part count before pair after,
          ) in
          record {
            entry = here pair.0 (omega arith) wide ∙ lookup-itself pair.0 pair.1;
            alone = λ k above below. here k (omega arith) below ∙ lookup-other k pair.0 pair.1 above;
            record_row = row;
            bounded = elim (cases_lt pair.1 OID_LIMIT) as (λ _. pair.1 < OID_LIMIT) [ inl less ↦ less | inr not_less ↦ absurd (omega (arith, sound.bounded pair.1 not_less)) ];
            met = λ l h above below. at.met true l h pair.1 (
              omega arith,
              omega arith,
              let M : ℕ → ℕ → ℕ → ℕ → Type 0 = λ m c f t. IsMet true rows l h m c f t pair.1 in
                  let inside : AnyOfFan (M 0) (before ++ pair ∷ after) to = AnyOfFan-append (M 0) before (pair ∷ after) to (inl (refl, refl, above, below)) in
                  let inside_node : AnyOfFan (M 0) pairs to = subst (λ (ps : List (ℕ × ℕ)). AnyOfFan (M 0) ps to) (sym is) inside in
                  inr (subst (λ (m : ℕ). AnyOfFan (M m) pairs to) (sym last) inside_node),
            );
          });
    }
