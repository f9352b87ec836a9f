-- A walk down a tree by reads of a transaction: what it saw so far.
use Rattle.std.proofs.Common.{◌≡◌, ℕ, zero, suc, ◌-◌, ◌^◌, ◌<◌, ◌≤◌, List, [], ◌∷◌, length, get_or, drop, Bool, true, false, ◌&&◌, Option, Some, None, refl, sym, ap, ◌∙◌, subst, inl, arith}
use Rattle.std.specs.Prelude.{◌==◌, nat_eq, nat_le, nat_lt, IfSome}
use Rattle.std.specs.Map.{lookup}
use Rattle.erm_record.specs.Record.{IsRecord}
use Rattle.std.specs.List.{list_all}
use Rattle.std.proofs.lemmas.Bool.{leb-true, false≢true}
use Rattle.std.proofs.lemmas.Bool.Decides.{nat_tests}
use Rattle.erm_model.specs.declared.limits.TheConstants.{OID_LIMIT}
use Rattle.erm_model.specs.Rows.{Rows}
use Rattle.erm_model.specs.RowTransaction.{did_read, Face, SameLaw, Does, IsLawful}
use Rattle.erm_node.specs.Node.{Shape, node_of, node_row, pairs_of, is_node, fewest_pairs, ascends}
use Rattle.erm_node.specs.Sound.{IsSound, sound_law}
use Rattle.erm_node.specs.Tree.{first_key, Starts, IsTree}
use Rattle.erm_tree.specs.Calls.{IsReady, SawIn}
use Rattle.erm_tree.specs.Reads.{IsMetIn, IsOnWay}
use Rattle.erm_tree.specs.Walk.{rank, IsEntry, IsLeafFor, IsRecordFor}
use Rattle.erm_tree.proofs.Fans.{IsPairFor, pair_for, Fan-lookup}
use Rattle.erm_tree.proofs.Standing.{StandsAt, StandsAt-root, StandsAt-bounded, StandsAt-child, StandsAt-leaf, levels_of-bounds}
use Rattle.erm_tree.proofs.Calls.{SawIn-start, SawIn-possible, SawIn-then_read, SawIn-weaker}

both_pass : (a b : Bool) → (a && b) ≡ true → (a ≡ true) × (b ≡ true)
both_pass true b e = (refl, e)
both_pass false b e = absurd (cc)

-- a node has its fewest pairs
pub is_node-fewest : (shape : Shape) → is_node shape ≡ true → fewest_pairs shape.leaf ≤ length shape.pairs
is_node-fewest shape is =
    let enough = nat_le (fewest_pairs shape.leaf) (length shape.pairs) in
    let few = nat_le (length shape.pairs) 7 in
    let ordered = ascends shape.pairs in
    let narrow = list_all (λ (pair : ℕ × ℕ). nat_lt pair.1 (2 ^ 32)) shape.pairs in
    leb-true (fewest_pairs shape.leaf) (length shape.pairs)
    (both_pass enough few (both_pass (enough && few) ordered (both_pass (enough && few && ordered) narrow is).0).0).0

-- what an array has at the node that was read
pub record IsNodeAt (rows : Rows) (table key walked oid to : ℕ) (row : List ℕ) : Type 0 where
  pub at : StandsAt rows table key walked oid to
  pub is : rows oid ≡ row

-- the node there is what was read
pub shape_at : (rows : Rows) (table key walked oid to : ℕ) (row : List ℕ) (shape : Shape) → (is : IsNodeAt rows table key walked oid to row) → node_of row ≡ Some shape
    → (shape.leaf ≡ (is.at.levels == 0)) × (shape.pairs ≡ pairs_of (rows oid))
shape_at rows table key walked oid to row shape is found =
    let same : Some (record { leaf = is.at.levels == 0; pairs = pairs_of (rows oid) }) ≡ Some shape = sym is.at.tree.node ∙ ap node_of is.is ∙ found in
    (cc, cc)

suc_isnt_zero : (n : ℕ) → (suc n == 0) ≡ false
suc_isnt_zero n = grind (arith, nat_tests)

pub levels_zero : (n : ℕ) → (n == 0) ≡ true → n ≡ 0
levels_zero zero e = refl
levels_zero (suc n) e = absurd (false≢true (sym (suc_isnt_zero n) ∙ e))

pub levels_more : (n : ℕ) → (n == 0) ≡ false → (below : ℕ) × (n ≡ suc below)
levels_more zero e = absurd (false≢true (sym e))
levels_more (suc n) e = (n, refl)

first_there : (ps : List (ℕ × ℕ)) (a b : ℕ) → 2 ≤ length ps → first_key ps a ≡ first_key ps b
first_there [] a b some = absurd (omega arith)
first_there (p ∷ ps) a b some = refl

starts_there : (levels lo key : ℕ) → Starts (levels == 0) lo key → 0 < levels → key ≡ lo
starts_there zero lo key starts some = absurd (omega arith)
starts_there (suc levels) lo key starts some = subst (λ (b : Bool). Starts b lo key) (suc_isnt_zero levels) starts

-- the child of an inner node for the key
pub record HasChild (rows : Rows) (oid to key levels : ℕ) (pairs : List (ℕ × ℕ)) : Type 0 where
  pub below : ℕ
  pub before : ℕ
  pub deeper : levels ≡ suc below
  pub many : rank key pairs ≡ suc before
  pub is_for : IsPairFor (pairs_of (rows oid)) to key (get_or pairs before (0, 0)) (first_key (drop (suc before) pairs) to)

module _ (found : (row : List ℕ) (shape : Shape) → node_of row ≡ Some shape → (is_node shape ≡ true) × (row ≡ node_row shape)) where
  -- an inner node has a child for the key
  pub child_at : (rows : Rows) (table key walked oid to : ℕ) (row : List ℕ) (shape : Shape) → (is : IsNodeAt rows table key walked oid to row) → node_of row ≡ Some shape → shape.leaf ≡ false
      → HasChild rows oid to key is.at.levels shape.pairs
  child_at rows table key walked oid to row shape is reads inner =
      let same = shape_at rows table key walked oid to row shape is reads in
      let (below, deeper) = levels_more is.at.levels (sym same.0 ∙ inner) in
      let two : 2 ≤ length shape.pairs = subst (λ (leaf : Bool). fewest_pairs leaf ≤ length shape.pairs) inner (is_node-fewest shape (found row shape reads).0) in
      let tree : IsTree rows (suc (suc below)) is.at.least oid is.at.from to = subst (λ (m : ℕ). IsTree rows (suc m) is.at.least oid is.at.from to) deeper is.at.tree in
      let starts : first_key (pairs_of (rows oid)) is.at.from ≡ is.at.from = starts_there (suc below) is.at.from (first_key (pairs_of (rows oid)) is.at.from) tree.starts (omega arith) in
      let there = first_there (pairs_of (rows oid)) is.at.from to (subst (λ (ps : List (ℕ × ℕ)). 2 ≤ length ps) same.1 two) in
      let low = is.at.low in
      let first : first_key (pairs_of (rows oid)) to ≤ key = omega arith in
      let (before, many, is_for) = pair_for (λ c f t. IsTree rows (suc below) 4 c f t) (pairs_of (rows oid)) to key tree.fan first is.at.high in
      record {
        below = below;
        before = before;
        deeper = deeper;
        many = ap (rank key) same.1 ∙ many;
        is_for = subst (λ (ps : List (ℕ × ℕ)). IsPairFor (pairs_of (rows oid)) to key (get_or ps before (0, 0)) (first_key (drop (suc before) ps) to)) (sym same.1) is_for;
      }

-- a leaf that was read is the leaf for the key
pub leaf_at : (rows : Rows) (table key walked oid to : ℕ) (row : List ℕ) (shape : Shape) → IsSound rows → (is : IsNodeAt rows table key walked oid to row) → node_of row ≡ Some shape → shape.leaf ≡ true → IsLeafFor rows table key shape.pairs to
leaf_at rows table key walked oid to row shape sound is reads leaf =
    let same = shape_at rows table key walked oid to row shape is reads in
    let last : is.at.levels ≡ 0 = levels_zero is.at.levels (sym same.0 ∙ leaf) in
    subst (λ (ps : List (ℕ × ℕ)). IsLeafFor rows table key ps to) (sym same.1) (StandsAt-leaf rows table key walked oid to sound is.at last)

-- what a leaf's pairs have for the key is the record
pub IsRecordFor-leaf : (rows : Rows) (table key : ℕ) (pairs : List (ℕ × ℕ)) (to : ℕ) → IsLeafFor rows table key pairs to → IsRecordFor rows table key (lookup (nat_eq key) pairs)
IsRecordFor-leaf rows table key pairs to leaf = record {
  is = sym (leaf.found key leaf.low leaf.high);
  there = there (lookup (nat_eq key) pairs) (Fan-lookup (λ oid from up. IsEntry rows table oid from up) pairs to key leaf.entries);
} where
  there : (found : Option ℕ) → IfSome found (λ oid. (up : ℕ) × IsEntry rows table oid key up) → IfSome found (λ oid. IsRecord (rows oid) × (oid < OID_LIMIT) × IsMetIn rows table key key oid)
  there None has = tt
  there (Some oid) (up, is) = (is.record_row, is.bounded, is.met key key (omega arith) (omega arith))

object_of : (rows : Rows) (table key : ℕ) (found : Option ℕ) → IfSome found (λ oid. IsRecord (rows oid) × (oid < OID_LIMIT) × IsMetIn rows table key key oid) → IfSome found (λ oid. oid < OID_LIMIT)
object_of rows table key None there = tt
object_of rows table key (Some oid) there = there.1

module _ {S : Type 0} (face : Face S) (goes_on : (a b c : S) → face.follows a b → face.follows b c → face.follows a c) (law : SameLaw face.law sound_law) (table key : ℕ) where
  -- it begins
  pub Walking-start : (s : S) → IsReady face s → face.follows s s → table < 16 → key < 2 ^ 64 → SawIn face (IsOnWay table key) s s (λ rows. StandsAt rows table key 0 table (2 ^ 64))
  Walking-start s ready stands below fits =
      SawIn-start face goes_on (IsOnWay table key) s (λ rows. StandsAt rows table key 0 table (2 ^ 64)) ready stands
      (λ array meets. StandsAt-root array table key ((law.meets array).0 meets) below fits)

  -- it stands at an object that there may be
  pub Walking-bounded : (s t : S) (walked oid to : ℕ) → IsLawful face s → SawIn face (IsOnWay table key) s t (λ rows. StandsAt rows table key walked oid to) → oid < OID_LIMIT
  Walking-bounded s t walked oid to lawful seen =
      let (array, meets, at) = SawIn-possible face goes_on (IsOnWay table key) s t (λ rows. StandsAt rows table key walked oid to) lawful seen in
      StandsAt-bounded array table key walked oid to ((law.meets array).0 meets) at

  -- it reads there
  pub Walking-read : (s t u : S) (walked oid to : ℕ) (row : List ℕ) → SawIn face (IsOnWay table key) s t (λ rows. StandsAt rows table key walked oid to) → Does face t (did_read oid row) u
      → SawIn face (IsOnWay table key) s u (λ rows. IsNodeAt rows table key walked oid to row)
  Walking-read s t u walked oid to row seen does =
      SawIn-weaker face goes_on (IsOnWay table key) (IsOnWay table key) s u (λ rows. StandsAt rows table key walked oid to × (rows oid ≡ row)) (λ rows. IsNodeAt rows table key walked oid to row)
      (λ array meets is. record { at = is.0; is = is.1 }) (λ array meets is x on. on)
      (SawIn-then_read face goes_on (IsOnWay table key) s t u (λ rows. StandsAt rows table key walked oid to) oid row seen does
      (λ array meets at. at.met false key key oid (at.high, at.low, inl refl)))

  -- what it reads is a node
  pub Walking-node : (s u : S) (walked oid to : ℕ) (row : List ℕ) → IsLawful face s → SawIn face (IsOnWay table key) s u (λ rows. IsNodeAt rows table key walked oid to row) → (shape : Shape) × (node_of row ≡ Some shape)
  Walking-node s u walked oid to row lawful seen =
      let (array, meets, is) = SawIn-possible face goes_on (IsOnWay table key) s u (λ rows. IsNodeAt rows table key walked oid to row) lawful seen in
      (record { leaf = is.at.levels == 0; pairs = pairs_of (array oid) }, sym (ap node_of is.is) ∙ is.at.tree.node)

  -- it ends at a leaf
  pub Walking-leaf : (s u : S) (walked oid to : ℕ) (row : List ℕ) (shape : Shape) → SawIn face (IsOnWay table key) s u (λ rows. IsNodeAt rows table key walked oid to row) → node_of row ≡ Some shape → shape.leaf ≡ true
      → SawIn face (IsOnWay table key) s u (λ rows. IsLeafFor rows table key shape.pairs to)
  Walking-leaf s u walked oid to row shape seen reads leaf =
      SawIn-weaker face goes_on (IsOnWay table key) (IsOnWay table key) s u (λ rows. IsNodeAt rows table key walked oid to row) (λ rows. IsLeafFor rows table key shape.pairs to)
      (λ array meets is. leaf_at array table key walked oid to row shape ((law.meets array).0 meets) is reads leaf) (λ array meets is x on. on) seen

  -- it isn't behind the last level that there may be
  pub Walking-end : (s t : S) (walked oid to : ℕ) → IsLawful face s → SawIn face (IsOnWay table key) s t (λ rows. StandsAt rows table key walked oid to) → walked < 12
  Walking-end s t walked oid to lawful seen =
      let (array, meets, at) = SawIn-possible face goes_on (IsOnWay table key) s t (λ rows. StandsAt rows table key walked oid to) lawful seen in
      let (n, many, few) = levels_of-bounds array table in
      omega (arith, at.counted, many, few)

  module _ (found : (row : List ℕ) (shape : Shape) → node_of row ≡ Some shape → (is_node shape ≡ true) × (row ≡ node_row shape)) where
    -- an inner node has a pair up to the key
    pub Walking-inner : (s u : S) (walked oid to : ℕ) (row : List ℕ) (shape : Shape) → IsLawful face s → SawIn face (IsOnWay table key) s u (λ rows. IsNodeAt rows table key walked oid to row) → node_of row ≡ Some shape → shape.leaf ≡ false
        → 0 < rank key shape.pairs
    Walking-inner s u walked oid to row shape lawful seen reads inner =
        let (array, meets, is) = SawIn-possible face goes_on (IsOnWay table key) s u (λ rows. IsNodeAt rows table key walked oid to row) lawful seen in
        let child = child_at found array table key walked oid to row shape is reads inner in
        omega (arith, child.many)

    -- it goes down
    pub Walking-down : (s u : S) (walked oid to : ℕ) (row : List ℕ) (shape : Shape) (child end : ℕ) → SawIn face (IsOnWay table key) s u (λ rows. IsNodeAt rows table key walked oid to row) → node_of row ≡ Some shape → shape.leaf ≡ false
        → child ≡ (get_or shape.pairs (rank key shape.pairs - 1) (0, 0)).1 → end ≡ first_key (drop (rank key shape.pairs) shape.pairs) to
        → SawIn face (IsOnWay table key) s u (λ rows. StandsAt rows table key (suc walked) child end)
    Walking-down s u walked oid to row shape child end seen reads inner child_is end_is =
        SawIn-weaker face goes_on (IsOnWay table key) (IsOnWay table key) s u (λ rows. IsNodeAt rows table key walked oid to row) (λ rows. StandsAt rows table key (suc walked) child end)
        (λ array meets is.
        let has = child_at found array table key walked oid to row shape is reads inner in
        let before : rank key shape.pairs - 1 ≡ has.before = omega (arith, has.many) in
        let next = StandsAt-child array table key walked oid to (get_or shape.pairs has.before (0, 0)) (first_key (drop (suc has.before) shape.pairs) to) is.at has.below has.deeper has.is_for in
        let same_child : child ≡ (get_or shape.pairs has.before (0, 0)).1 = child_is ∙ ap (λ (n : ℕ). (get_or shape.pairs n (0, 0)).1) before in
        let same_end : end ≡ first_key (drop (suc has.before) shape.pairs) to = end_is ∙ ap (λ (n : ℕ). first_key (drop n shape.pairs) to) has.many in
        subst (λ (t : ℕ). StandsAt array table key (suc walked) child t) (sym same_end)
        (subst (λ (c : ℕ). StandsAt array table key (suc walked) c (first_key (drop (suc has.before) shape.pairs) to)) (sym same_child) next))
        (λ array meets is x on. on) seen

  -- and finds the record there
  pub Walking-record : (s t : S) (pairs : List (ℕ × ℕ)) (to : ℕ) → SawIn face (IsOnWay table key) s t (λ rows. IsLeafFor rows table key pairs to)
      → SawIn face (IsOnWay table key) s t (λ rows. IsRecordFor rows table key (lookup (nat_eq key) pairs))
  Walking-record s t pairs to seen =
      SawIn-weaker face goes_on (IsOnWay table key) (IsOnWay table key) s t (λ rows. IsLeafFor rows table key pairs to) (λ rows. IsRecordFor rows table key (lookup (nat_eq key) pairs))
      (λ array meets leaf. IsRecordFor-leaf array table key pairs to leaf) (λ array meets leaf x on. on) seen

  -- where there is one, it is an object that there may be
  pub Walking-object : (s t : S) (found : Option ℕ) → IsLawful face s → SawIn face (IsOnWay table key) s t (λ rows. IsRecordFor rows table key found) → IfSome found (λ oid. oid < OID_LIMIT)
  Walking-object s t found lawful seen =
      let (array, meets, is) = SawIn-possible face goes_on (IsOnWay table key) s t (λ rows. IsRecordFor rows table key found) lawful seen in
      object_of array table key found is.there
