-- A walk down a tree that keeps the nodes on its way.
use Rattle.std.proofs.Common.{◌≡◌, ℕ, suc, ◌-◌, ◌^◌, ◌<◌, List, [], ◌∷◌, ◌++◌, get_or, drop, Bool, true, false, Option, Some, refl, sym, ap, ◌∙◌, subst, inl, arith, append_assoc}
use Rattle.std.specs.Prelude.{◌==◌, nat_eq}
use Rattle.std.specs.Map.{lookup}
use Rattle.erm_model.specs.declared.limits.TheConstants.{OID_LIMIT}
use Rattle.erm_model.specs.Rows.{Rows}
use Rattle.erm_model.specs.RowTransaction.{did_read, Face, SameLaw, Does, IsLawful}
use Rattle.erm_node.specs.Node.{Shape, node_of, node_row, pairs_of, is_node}
use Rattle.erm_node.specs.Sound.{IsSound, sound_law, levels_of}
use Rattle.erm_node.specs.Tree.{first_key}
use Rattle.erm_tree.specs.Calls.{IsReady, SawIn}
use Rattle.erm_tree.specs.Reads.{IsOnWay}
use Rattle.erm_tree.specs.Walk.{IsRecordFor, rank}
use Rattle.erm_tree.specs.Insert.{IsPathFor, Place, child_for, path_to}
use Rattle.erm_tree.proofs.Standing.{StandsAt, StandsAt-root, StandsAt-bounded, StandsAt-child, levels_of-bounds}
use Rattle.erm_tree.proofs.Calls.{SawIn-start, SawIn-possible, SawIn-then_read, SawIn-weaker}
use Rattle.erm_tree.proofs.Walking.{IsNodeAt, IsRecordFor-leaf, shape_at, child_at, leaf_at, levels_zero}

-- a walk stands at an object, and these are the nodes behind it
pub record IsOnPath (rows : Rows) (table key walked oid : ℕ) (places : List Place) : Type 0 where
  pub to : ℕ
  pub at : StandsAt rows table key walked oid to
  pub path : places ++ path_to rows (suc at.levels) oid key ≡ path_to rows (levels_of rows table) table key

-- and this is the row there
pub record IsNodeOnPath (rows : Rows) (table key walked oid : ℕ) (row : List ℕ) (places : List Place) : Type 0 where
  pub to : ℕ
  pub node : IsNodeAt rows table key walked oid to row
  pub path : places ++ path_to rows (suc node.at.levels) oid key ≡ path_to rows (levels_of rows table) table key

IsOnPath-root : (rows : Rows) (table key : ℕ) → IsSound rows → table < 16 → key < 2 ^ 64 → IsOnPath rows table key 0 table []
IsOnPath-root rows table key sound below fits =
    let at = StandsAt-root rows table key sound below fits in
    record { to = 2 ^ 64; at = at; path = let many : suc at.levels ≡ levels_of rows table = omega (arith, at.counted) in ap (λ (m : ℕ). path_to rows m table key) many }

-- the node there is the next of the path
place_there : (rows : Rows) (table key walked oid : ℕ) (row : List ℕ) (places : List Place) (shape : Shape) → (is : IsNodeOnPath rows table key walked oid row places) → node_of row ≡ Some shape
    → ◌≡◌ {A = Place} (record { oid = oid; shape = record { leaf = is.node.at.levels == 0; pairs = pairs_of (rows oid) } }) (record { oid = oid; shape = shape })
place_there rows table key walked oid row places shape is reads =
    let same = shape_at rows table key walked oid is.to row shape is.node reads in
    let with_leaf : Bool → Place = λ (leaf : Bool). record { oid = oid; shape = record { leaf = leaf; pairs = pairs_of (rows oid) } } in
    let with_pairs : List (ℕ × ℕ) → Place = λ (ps : List (ℕ × ℕ)). record { oid = oid; shape = record { leaf = shape.leaf; pairs = ps } } in
    ap with_leaf (sym same.0) ∙ ap with_pairs (sym same.1)

path_at_leaf : (rows : Rows) (table key walked oid : ℕ) (row : List ℕ) (places : List Place) (shape : Shape) → (is : IsNodeOnPath rows table key walked oid row places) → node_of row ≡ Some shape → shape.leaf ≡ true
    → places ++ record { oid = oid; shape = shape } ∷ [] ≡ path_to rows (levels_of rows table) table key
path_at_leaf rows table key walked oid row places shape is reads leaf =
    let same = shape_at rows table key walked oid is.to row shape is.node reads in
    let last : is.node.at.levels ≡ 0 = levels_zero is.node.at.levels (sym same.0 ∙ leaf) in
    let child = child_for key (pairs_of (rows oid)) in
    ap (λ (p : Place). places ++ p ∷ []) (sym (place_there rows table key walked oid row places shape is reads))
    ∙ ap (λ (m : ℕ). places ++ record { oid = oid; shape = record { leaf = is.node.at.levels == 0; pairs = pairs_of (rows oid) } } ∷ path_to rows m child key) (sym last)
    ∙ is.path

module _ (found : (row : List ℕ) (shape : Shape) → node_of row ≡ Some shape → (is_node shape ≡ true) × (row ≡ node_row shape)) where
  on_path_down : (rows : Rows) (table key walked oid : ℕ) (row : List ℕ) (places : List Place) (shape : Shape) (child : ℕ) → (is : IsNodeOnPath rows table key walked oid row places) → node_of row ≡ Some shape → shape.leaf ≡ false → child ≡ child_for key shape.pairs
      → IsOnPath rows table key (suc walked) child (places ++ record { oid = oid; shape = shape } ∷ [])
  on_path_down rows table key walked oid row places shape child is reads inner child_is =
      let same = shape_at rows table key walked oid is.to row shape is.node reads in
      let has = child_at found rows table key walked oid is.to row shape is.node reads inner in
      let end = first_key (drop (suc has.before) shape.pairs) is.to in
      let there = StandsAt-child rows table key walked oid is.to (get_or shape.pairs has.before (0, 0)) end is.node.at has.below has.deeper has.is_for in
      let same_child : (get_or shape.pairs has.before (0, 0)).1 ≡ child = sym (child_is ∙ ap (λ (n : ℕ). (get_or shape.pairs (n - 1) (0, 0)).1) has.many ∙ ap (λ (n : ℕ). (get_or shape.pairs n (0, 0)).1) (omega arith)) in
      let at : StandsAt rows table key (suc walked) child end = subst (λ (c : ℕ). StandsAt rows table key (suc walked) c end) same_child there in
      let levels : suc at.levels ≡ is.node.at.levels = omega (arith, at.counted, is.node.at.counted) in
      let place : Place = record { oid = oid; shape = shape } in
      let spec_child : child_for key (pairs_of (rows oid)) ≡ child = ap (child_for key) (sym same.1) ∙ sym child_is in
      record {
        to = end;
        at = at;
        path =
            append_assoc places (place ∷ []) (path_to rows (suc at.levels) child key)
            ∙ ap (λ (p : Place). places ++ p ∷ path_to rows (suc at.levels) child key) (sym (place_there rows table key walked oid row places shape is reads))
            ∙ ap (λ (c : ℕ). places ++ record { oid = oid; shape = record { leaf = is.node.at.levels == 0; pairs = pairs_of (rows oid) } } ∷ path_to rows (suc at.levels) c key) (sym spec_child)
            ∙ ap (λ (m : ℕ). places ++ record { oid = oid; shape = record { leaf = is.node.at.levels == 0; pairs = pairs_of (rows oid) } } ∷ path_to rows m (child_for key (pairs_of (rows oid))) key) levels
            ∙ is.path;
      }

module _ {S : Type 0} (face : Face S) (goes_on : (a b c : S) → face.follows a b → face.follows b c → face.follows a c) (law : SameLaw face.law sound_law) (table key : ℕ) where
  -- it begins
  pub Path-start : (s : S) → IsReady face s → face.follows s s → table < 16 → key < 2 ^ 64 → SawIn face (IsOnWay table key) s s (λ rows. IsOnPath rows table key 0 table [])
  Path-start s ready stands below fits =
      SawIn-start face goes_on (IsOnWay table key) s (λ rows. IsOnPath rows table key 0 table []) ready stands (λ array meets. IsOnPath-root array table key ((law.meets array).0 meets) below fits)

  -- it stands at an object that there may be
  pub Path-bounded : (s t : S) (walked oid : ℕ) (places : List Place) → IsLawful face s → SawIn face (IsOnWay table key) s t (λ rows. IsOnPath rows table key walked oid places) → oid < OID_LIMIT
  Path-bounded s t walked oid places lawful seen =
      let (array, meets, is) = SawIn-possible face goes_on (IsOnWay table key) s t (λ rows. IsOnPath rows table key walked oid places) lawful seen in
      StandsAt-bounded array table key walked oid is.to ((law.meets array).0 meets) is.at

  -- it reads there
  pub Path-read : (s t u : S) (walked oid : ℕ) (row : List ℕ) (places : List Place) → SawIn face (IsOnWay table key) s t (λ rows. IsOnPath rows table key walked oid places) → Does face t (did_read oid row) u
      → SawIn face (IsOnWay table key) s u (λ rows. IsNodeOnPath rows table key walked oid row places)
  Path-read s t u walked oid row places seen does =
      SawIn-weaker face goes_on (IsOnWay table key) (IsOnWay table key) s u (λ rows. IsOnPath rows table key walked oid places × (rows oid ≡ row)) (λ rows. IsNodeOnPath rows table key walked oid row places)
      (λ array meets is. record { to = is.0.to; node = record { at = is.0.at; is = is.1 }; path = is.0.path }) (λ array meets is x on. on)
      (SawIn-then_read face goes_on (IsOnWay table key) s t u (λ rows. IsOnPath rows table key walked oid places) oid row seen does
      (λ array meets is. is.at.met false key key oid (is.at.high, is.at.low, inl refl)))

  -- what it reads is a node
  pub Path-node : (s u : S) (walked oid : ℕ) (row : List ℕ) (places : List Place) → IsLawful face s → SawIn face (IsOnWay table key) s u (λ rows. IsNodeOnPath rows table key walked oid row places) → (shape : Shape) × (node_of row ≡ Some shape)
  Path-node s u walked oid row places lawful seen =
      let (array, meets, is) = SawIn-possible face goes_on (IsOnWay table key) s u (λ rows. IsNodeOnPath rows table key walked oid row places) lawful seen in
      (record { leaf = is.node.at.levels == 0; pairs = pairs_of (array oid) }, sym (ap node_of is.node.is) ∙ is.node.at.tree.node)

  -- it ends at a leaf, and finds the record there
  pub Path-leaf : (s u : S) (walked oid : ℕ) (row : List ℕ) (places : List Place) (shape : Shape) → SawIn face (IsOnWay table key) s u (λ rows. IsNodeOnPath rows table key walked oid row places) → node_of row ≡ Some shape → shape.leaf ≡ true
      → SawIn face (IsOnWay table key) s u (λ rows. IsPathFor rows table key (places ++ record { oid = oid; shape = shape } ∷ []) (lookup (nat_eq key) shape.pairs))
  Path-leaf s u walked oid row places shape seen reads leaf =
      SawIn-weaker face goes_on (IsOnWay table key) (IsOnWay table key) s u (λ rows. IsNodeOnPath rows table key walked oid row places)
      (λ rows. IsPathFor rows table key (places ++ record { oid = oid; shape = shape } ∷ []) (lookup (nat_eq key) shape.pairs))
      (λ array meets is. record {
        nodes = path_at_leaf array table key walked oid row places shape is reads leaf;
        entry = IsRecordFor-leaf array table key shape.pairs is.to (leaf_at array table key walked oid is.to row shape ((law.meets array).0 meets) is.node reads leaf);
      })
      (λ array meets is x on. on) seen

  -- what was found is the record
  pub Path-record : (s u : S) (places : List Place) (found : Option ℕ) → SawIn face (IsOnWay table key) s u (λ rows. IsPathFor rows table key places found) → SawIn face (IsOnWay table key) s u (λ rows. IsRecordFor rows table key found)
  Path-record s u places found seen =
      SawIn-weaker face goes_on (IsOnWay table key) (IsOnWay table key) s u (λ rows. IsPathFor rows table key places found) (λ rows. IsRecordFor rows table key found) (λ array meets is. is.entry) (λ array meets is x on. on) seen

  -- it isn't behind the last level that there may be
  pub Path-end : (s t : S) (walked oid : ℕ) (places : List Place) → IsLawful face s → SawIn face (IsOnWay table key) s t (λ rows. IsOnPath rows table key walked oid places) → walked < 12
  Path-end s t walked oid places lawful seen =
      let (array, meets, is) = SawIn-possible face goes_on (IsOnWay table key) s t (λ rows. IsOnPath rows table key walked oid places) lawful seen in
      let (n, many, few) = levels_of-bounds array table in
      omega (arith, is.at.counted, many, few)

  module _ (found : (row : List ℕ) (shape : Shape) → node_of row ≡ Some shape → (is_node shape ≡ true) × (row ≡ node_row shape)) where
    -- an inner node has a pair up to the key
    pub Path-inner : (s u : S) (walked oid : ℕ) (row : List ℕ) (places : List Place) (shape : Shape) → IsLawful face s → SawIn face (IsOnWay table key) s u (λ rows. IsNodeOnPath rows table key walked oid row places) → node_of row ≡ Some shape → shape.leaf ≡ false
        → 0 < rank key shape.pairs
    Path-inner s u walked oid row places shape lawful seen reads inner =
        let (array, meets, is) = SawIn-possible face goes_on (IsOnWay table key) s u (λ rows. IsNodeOnPath rows table key walked oid row places) lawful seen in
        let child = child_at found array table key walked oid is.to row shape is.node reads inner in
        omega (arith, child.many)

    -- it goes down
    pub Path-down : (s u : S) (walked oid : ℕ) (row : List ℕ) (places : List Place) (shape : Shape) (child : ℕ) → SawIn face (IsOnWay table key) s u (λ rows. IsNodeOnPath rows table key walked oid row places) → node_of row ≡ Some shape → shape.leaf ≡ false
        → child ≡ child_for key shape.pairs → SawIn face (IsOnWay table key) s u (λ rows. IsOnPath rows table key (suc walked) child (places ++ record { oid = oid; shape = shape } ∷ []))
    Path-down s u walked oid row places shape child seen reads inner child_is =
        SawIn-weaker face goes_on (IsOnWay table key) (IsOnWay table key) s u (λ rows. IsNodeOnPath rows table key walked oid row places) (λ rows. IsOnPath rows table key (suc walked) child (places ++ record { oid = oid; shape = shape } ∷ []))
        (λ array meets is. on_path_down found array table key walked oid row places shape child is reads inner child_is) (λ array meets is x on. on) seen
