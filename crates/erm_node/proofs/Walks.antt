-- A walk over trees that marks what it reaches: it goes on just where the trees are free.
use Rattle.std.proofs.Common.{◌≡◌, ℕ, zero, suc, ◌+◌, ◌-◌, ◌≤◌, ◌<◌, ◌==◌, List, [], ◌∷◌, Bool, true, false, cond, set, get_or, length, drop, Some, None, refl, sym, ap, ◌∙◌, subst, inl, inr, drop-cons, arith}
use Rattle.std.specs.Prelude.{slice_index_or, ◌↔◌, ◌⊎◌}
use Rattle.std.specs.Prelude.{IsTrue}
use Rattle.std.specs.Option.{option_map_or}
use Rattle.std.specs.Bool.{OnTrue}
use Rattle.std.proofs.lemmas.Bool.{false≢true}
use Rattle.std.proofs.lemmas.List.{get_or-set_same, get_or-set_other}
use Rattle.std.proofs.lemmas.Bool.Decides.{nat_tests, eqb_tells}
use Rattle.erm_model.specs.declared.limits.TheConstants.{OID_LIMIT}
use Rattle.erm_model.specs.Rows.{Rows}
use Rattle.erm_record.specs.Record.{IsRecord}
use Rattle.erm_node.specs.Node.{Shape, node_of, pairs_of}
use Rattle.erm_node.specs.Tree.{Fan, Starts, IsTree, first_key, same_oid, times, total}
use Rattle.erm_node.specs.Walk.{IsFreeFan, IsFreeTree, marked}

-- an object is marked once at most
pub marked-le : (marks : List Bool) (x : ℕ) → marked marks x ≤ 1
marked-le marks x = grind (arith, nat_tests)

-- an object is reached where the walk stands
pub same_oid-itself : (oid : ℕ) → same_oid oid oid ≡ 1
same_oid-itself oid = grind (arith, nat_tests)

-- and once at most
pub same_oid-le : (oid x : ℕ) → same_oid oid x ≤ 1
same_oid-le oid x = grind (arith, nat_tests)

-- another one isn't
pub same_oid-other : (oid x : ℕ) → (x ≡ oid → ⊥) → same_oid oid x ≡ 0
same_oid-other oid x other = grind (arith, nat_tests)

-- a tree reaches its root
pub times-itself : (rows : Rows) (levels oid : ℕ) → 1 ≤ times rows levels oid oid
times-itself rows zero oid = omega (arith, same_oid-itself oid)
times-itself rows (suc levels) oid = omega (arith, same_oid-itself oid)

-- what isn't marked has no mark
pub unmarked : (marks : List Bool) (x : ℕ) → marked marks x ≡ 0 → slice_index_or marks x false ≡ false
unmarked marks x none = elim (slice_index_or marks x false) as (λ (b : Bool). ◌≡◌ {A = ℕ} (cond b 1 0) 0 → b ≡ false) [ true ↦ λ e. absurd (omega (arith, e)) | false ↦ λ e. refl ] none

-- and the other way
pub marked-none : (marks : List Bool) (x : ℕ) → slice_index_or marks x false ≡ false → marked marks x ≡ 0
marked-none marks x none = ap (λ (b : Bool). cond b 1 0) none

-- one mark more
pub marked-set : (marks : List Bool) (oid x : ℕ) → oid < length marks → slice_index_or marks oid false ≡ false → marked (set marks oid true) x ≡ marked marks x + same_oid oid x
marked-set marks oid x some none = elim (eqb_tells x oid) as (λ _. marked (set marks oid true) x ≡ marked marks x + same_oid oid x) [
  | inl same ↦
      let here : marked (set marks oid true) oid ≡ 1 = ap (λ (b : Bool). cond b 1 0) (get_or-set_same marks oid true false some) in
      ap (marked (set marks oid true)) same.1 ∙ here
      ∙ sym (ap (λ (y : ℕ). marked marks y + same_oid oid y) same.1 ∙ omega (arith, marked-none marks oid none, same_oid-itself oid))
  | inr other ↦
      let there : marked (set marks oid true) x ≡ marked marks x = ap (λ (b : Bool). cond b 1 0) (get_or-set_other marks oid x true false other.1) in
      omega (arith, there, same_oid-other oid x other.1)
]

-- a free tree's root isn't reached before, and is one that there may be
pub IsFreeTree-root : (rows : Rows) (before : ℕ → ℕ) (levels least oid lo hi : ℕ) → IsFreeTree rows before levels least oid lo hi → (before oid ≡ 0) × (oid < OID_LIMIT)
IsFreeTree-root rows before levels least oid lo hi free = (
  omega (arith, free.once oid, times-itself rows levels oid),
  elim (lt_or_ge oid OID_LIMIT) as (λ _. oid < OID_LIMIT) [ inl below ↦ below | inr above ↦ absurd (omega (arith, free.bounded oid above, times-itself rows levels oid)) ],
)
  where
    lt_or_ge : (a b : ℕ) → (a < b) ⊎ (b ≤ a)
    lt_or_ge a b = grind (arith, nat_tests)

-- where the walk stands for the first time, on an object that there may be
pub record IsNew (before : ℕ → ℕ) (oid : ℕ) : Type 0 where
  pub none : before oid ≡ 0
  pub few : (x : ℕ) → before x ≤ 1
  pub below : oid < OID_LIMIT

new_once : (before : ℕ → ℕ) (oid : ℕ) → IsNew before oid → (x : ℕ) → before x + same_oid oid x ≤ 1
new_once before oid new x = elim (eqb_tells x oid) as (λ _. before x + same_oid oid x ≤ 1) [
  | inl same ↦ omega (arith, ap before same.1, new.none, same_oid-le oid x)
  | inr other ↦ omega (arith, new.few x, same_oid-other oid x other.1)
]

new_bounded : (before : ℕ → ℕ) (oid : ℕ) → IsNew before oid → (x : ℕ) → OID_LIMIT ≤ x → same_oid oid x ≡ 0
new_bounded before oid new x above = same_oid-other oid x (λ same. omega (arith, new.below, same, above))

-- a record is a free tree where it is one
pub IsFreeTree-record : (rows : Rows) (before : ℕ → ℕ) (least oid lo hi : ℕ) → IsNew before oid → IsFreeTree rows before zero least oid lo hi ↔ IsRecord (rows oid)
IsFreeTree-record rows before least oid lo hi new = (
  λ free. free.tree,
  λ is. record { tree = is; once = new_once before oid new; bounded = new_bounded before oid new },
)

-- the form of a node in a tree
pub record HasForm (shape : Shape) (levels least lo : ℕ) : Type 0 where
  pub leaf : shape.leaf ≡ (levels == 0)
  pub enough : least ≤ length shape.pairs
  pub starts : Starts shape.leaf lo (first_key shape.pairs lo)

-- the pairs of a row that is a node's
pub pairs_of-node : (row : List ℕ) (shape : Shape) → node_of row ≡ Some shape → pairs_of row ≡ shape.pairs
unfolding pairs_of
pairs_of-node row shape is = ap (λ o. option_map_or (λ (shape : Shape). shape.pairs) o []) is

module _ (rows : Rows) (before : ℕ → ℕ) (levels least oid lo hi : ℕ) (shape : Shape) (new : IsNew before oid) (is : node_of (rows oid) ≡ Some shape) where
  -- what a tree reaches with this node at its root
  pub times-node : (x : ℕ) → times rows (suc levels) oid x ≡ same_oid oid x + total (λ pair. times rows levels pair.1 x) shape.pairs
  times-node x = ap (λ (pairs : List (ℕ × ℕ)). same_oid oid x + total (λ pair. times rows levels pair.1 x) pairs) (pairs_of-node (rows oid) shape is)

  -- a free tree has a node of its form at its root, and a free fan below it
  pub IsFreeTree-down : IsFreeTree rows before (suc levels) least oid lo hi → HasForm shape levels least lo × IsFreeFan rows (λ x. before x + same_oid oid x) levels shape.pairs hi
  IsFreeTree-down free =
      let pairs = pairs_of-node (rows oid) shape is in
      let leaf : shape.leaf ≡ (levels == 0) = let same : Some shape ≡ Some (record { leaf = (levels == 0); pairs = pairs_of (rows oid) }) = sym is ∙ free.tree.node in cc in (
        record {
          leaf = leaf;
          enough = subst (λ (ps : List (ℕ × ℕ)). least ≤ length ps) pairs free.tree.enough;
          starts = subst (λ (b : Bool). Starts b lo (first_key shape.pairs lo)) (sym leaf) (subst (λ (ps : List (ℕ × ℕ)). Starts (levels == 0) lo (first_key ps lo)) pairs free.tree.starts);
        },
        record {
          fan = subst (λ (ps : List (ℕ × ℕ)). Fan (λ child from to. IsTree rows levels 4 child from to) ps hi) pairs free.tree.fan;
          once = λ x. omega (arith, free.once x, times-node x);
          bounded = λ x above. omega (arith, free.bounded x above, times-node x);
        },
      )

  -- a node of its form with a free fan below it is a free tree
  pub IsFreeTree-up : HasForm shape levels least lo → IsFreeFan rows (λ x. before x + same_oid oid x) levels shape.pairs hi → IsFreeTree rows before (suc levels) least oid lo hi
  IsFreeTree-up form fan =
      let pairs = pairs_of-node (rows oid) shape is in
      record {
        tree = record {
          node = is ∙ ap (λ (b : Bool). Some (record { leaf = b; pairs = shape.pairs })) form.leaf ∙ ap (λ (ps : List (ℕ × ℕ)). Some (record { leaf = (levels == 0); pairs = ps })) (sym pairs);
          enough = subst (λ (ps : List (ℕ × ℕ)). least ≤ length ps) (sym pairs) form.enough;
          starts = subst (λ (ps : List (ℕ × ℕ)). Starts (levels == 0) lo (first_key ps lo)) (sym pairs) (subst (λ (b : Bool). Starts b lo (first_key shape.pairs lo)) form.leaf form.starts);
          fan = subst (λ (ps : List (ℕ × ℕ)). Fan (λ child from to. IsTree rows levels 4 child from to) ps hi) (sym pairs) fan.fan;
        };
        once = λ x. omega (arith, fan.once x, times-node x);
        bounded = λ x above. omega (arith, fan.bounded x above, times-node x, new_bounded before oid new x above);
      }

-- no pairs are a free fan
pub IsFreeFan-none : (rows : Rows) (before : ℕ → ℕ) (levels hi : ℕ) → ((x : ℕ) → before x ≤ 1) → IsFreeFan rows before levels [] hi
IsFreeFan-none rows before levels hi few = record { fan = tt; once = λ x. omega (arith, few x); bounded = λ x above. refl }

-- it speaks of how often each object was reached before alone
pub IsFreeFan-same : (rows : Rows) (before now : ℕ → ℕ) (levels : ℕ) (pairs : List (ℕ × ℕ)) (hi : ℕ) → ((x : ℕ) → before x ≡ now x) → IsFreeFan rows before levels pairs hi → IsFreeFan rows now levels pairs hi
IsFreeFan-same rows before now levels pairs hi same free =
    record { fan = free.fan; once = λ x. omega (arith, free.once x, same x); bounded = free.bounded }

-- a free fan is a free tree at the first pair, and a free fan of the others
pub IsFreeFan-cons : (rows : Rows) (before : ℕ → ℕ) (levels : ℕ) (pair : ℕ × ℕ) (pairs : List (ℕ × ℕ)) (hi : ℕ) → IsFreeFan rows before levels (pair ∷ pairs) hi
    → IsFreeTree rows before levels 4 pair.1 pair.0 (first_key pairs hi) × (pair.0 < first_key pairs hi) × IsFreeFan rows (λ x. before x + times rows levels pair.1 x) levels pairs hi
IsFreeFan-cons rows before levels pair pairs hi free = (
  record { tree = free.fan.0; once = λ x. omega (arith, free.once x); bounded = λ x above. omega (arith, free.bounded x above) },
  free.fan.1,
  record { fan = free.fan.2; once = λ x. omega (arith, free.once x); bounded = λ x above. omega (arith, free.bounded x above) },
)

-- and the other way
pub cons-IsFreeFan : (rows : Rows) (before : ℕ → ℕ) (levels : ℕ) (pair : ℕ × ℕ) (pairs : List (ℕ × ℕ)) (hi : ℕ) → IsFreeTree rows before levels 4 pair.1 pair.0 (first_key pairs hi) → pair.0 < first_key pairs hi
    → IsFreeFan rows (λ x. before x + times rows levels pair.1 x) levels pairs hi → IsFreeFan rows before levels (pair ∷ pairs) hi
cons-IsFreeFan rows before levels pair pairs hi tree less rest = record {
  fan = (tree.tree, less, rest.fan);
  once = λ x. omega (arith, rest.once x);
  bounded = λ x above. omega (arith, tree.bounded x above, rest.bounded x above);
}

-- what follows where a test is true
OnTrue-then : (b : Bool) (P Q : Type 0) → (b ≡ true → P → Q) → OnTrue b P → OnTrue b Q
OnTrue-then true P Q follows told = follows refl told
OnTrue-then false P Q follows told = tt

-- a fact that is told on yes
pub told_on : (b : Bool) (P : Type 0) → b ≡ true → OnTrue b P → P
told_on true P is told = told
told_on false P is told = absurd (cc)

-- a fact that doesn't hold is told by no
pub told_no : (P : Type 0) → (P → ⊥) → IsTrue false ↔ P
told_no P none = (λ e. absurd (false≢true e), λ is. absurd (none is))

module _ (rows : Rows) (marks : List Bool) (oid : ℕ) (many : length marks ≡ OID_LIMIT) where
  -- an object that isn't marked, and that there may be, is new
  pub IsNew-unmarked : oid < OID_LIMIT → slice_index_or marks oid false ≡ false → IsNew (marked marks) oid
  IsNew-unmarked below none = record { none = marked-none marks oid none; few = marked-le marks; below = below }

  -- at an object that isn't new stands no free tree
  pub IsFreeTree-not_new : (levels least lo hi : ℕ) → ((oid < OID_LIMIT) × (slice_index_or marks oid false ≡ false) → ⊥) → IsTrue false ↔ IsFreeTree rows (marked marks) levels least oid lo hi
  IsFreeTree-not_new levels least lo hi not_new =
      told_no (IsFreeTree rows (marked marks) levels least oid lo hi) (λ free.
      let root = IsFreeTree-root rows (marked marks) levels least oid lo hi free in
      not_new (root.1, unmarked marks oid root.0))

  module _ (is_new : (oid < OID_LIMIT) × (slice_index_or marks oid false ≡ false)) (least lo hi : ℕ) where
    -- of no levels: a record
    pub IsFreeTree-leaf_of : (levels : ℕ) → levels ≡ 0 → (result : Bool) → IsTrue result ↔ IsRecord (rows oid) → IsTrue result ↔ IsFreeTree rows (marked marks) levels least oid lo hi
    IsFreeTree-leaf_of zero none result told =
        let free = IsFreeTree-record rows (marked marks) least oid lo hi (IsNew-unmarked is_new.0 is_new.1) in
        (λ yes. free.1 (told.0 yes), λ is. told.1 (free.0 is))
    IsFreeTree-leaf_of (suc levels) none result told = absurd (omega (arith, none))

    -- what a record reaches is marked
    pub marked-record : (levels : ℕ) → levels ≡ 0 → (now : List Bool) → now ≡ set marks oid true → (x : ℕ) → marked now x ≡ marked marks x + times rows levels oid x
    marked-record zero none now is x = ap (λ (m : List Bool). marked m x) is ∙ marked-set marks oid x (omega arith) is_new.1
    marked-record (suc levels) none now is x = absurd (omega (arith, none))

    -- where no node stands there is no tree with levels
    pub IsFreeTree-no_node : (levels : ℕ) → 0 < levels → node_of (rows oid) ≡ None → IsTrue false ↔ IsFreeTree rows (marked marks) levels least oid lo hi
    IsFreeTree-no_node zero some none = absurd (omega (arith, some))
    IsFreeTree-no_node (suc levels) some none =
        told_no (IsFreeTree rows (marked marks) (suc levels) least oid lo hi) (λ free.
        let both : Some (record { leaf = (levels == 0); pairs = pairs_of (rows oid) }) ≡ None = sym free.tree.node ∙ none in cc)

    module _ (levels : ℕ) (some : 0 < levels) (shape : Shape) (is : node_of (rows oid) ≡ Some shape) where
      -- what a node's form is, by its number of levels
      pub HasForm-levels : (shape.leaf ≡ (levels == 1)) → least ≤ length shape.pairs → Starts shape.leaf lo (first_key shape.pairs lo) → HasForm shape (levels - 1) least lo
      HasForm-levels leaf enough starts = record { leaf = leaf ∙ (let e : (levels == 1) ≡ (levels - 1 == 0) = grind (arith, nat_tests) in e); enough = enough; starts = starts }

      down : IsFreeTree rows (marked marks) levels least oid lo hi → HasForm shape (levels - 1) least lo × IsFreeFan rows (λ x. marked marks x + same_oid oid x) (levels - 1) shape.pairs hi
      down free =
          let suc_levels : levels ≡ suc (levels - 1) = omega arith in
          IsFreeTree-down rows (marked marks) (levels - 1) least oid lo hi shape (IsNew-unmarked is_new.0 is_new.1) is (subst (λ (n : ℕ). IsFreeTree rows (marked marks) n least oid lo hi) suc_levels free)

      -- a node of another form is no tree's
      pub IsFreeTree-no_form : ((shape.leaf ≡ (levels == 1)) × (least ≤ length shape.pairs) × Starts shape.leaf lo (first_key shape.pairs lo) → ⊥) → IsTrue false ↔ IsFreeTree rows (marked marks) levels least oid lo hi
      IsFreeTree-no_form other =
          told_no (IsFreeTree rows (marked marks) levels least oid lo hi) (λ free.
          let form = (down free).0 in
          other (form.leaf ∙ (let e : (levels - 1 == 0) ≡ (levels == 1) = grind (arith, nat_tests) in e), form.enough, form.starts))

      module _ (now : List Bool) (now_is : now ≡ set marks oid true) (pairs : List (ℕ × ℕ)) (pairs_are : pairs ≡ shape.pairs) where
        marked_now : (x : ℕ) → marked now x ≡ marked marks x + same_oid oid x
        marked_now x = ap (λ (m : List Bool). marked m x) now_is ∙ marked-set marks oid x (omega arith) is_new.1

        -- a node of its form is a free tree just where its pairs are a free fan
        pub IsFreeTree-node : HasForm shape (levels - 1) least lo → (result : Bool) → IsTrue result ↔ IsFreeFan rows (marked now) (levels - 1) pairs hi → IsTrue result ↔ IsFreeTree rows (marked marks) levels least oid lo hi
        IsFreeTree-node form result told =
            let suc_levels : levels ≡ suc (levels - 1) = omega arith in
            let before : ℕ → ℕ = λ x. marked marks x + same_oid oid x in (
              λ yes.
                  let fan = IsFreeFan-same rows (marked now) before (levels - 1) shape.pairs hi marked_now (subst (λ (ps : List (ℕ × ℕ)). IsFreeFan rows (marked now) (levels - 1) ps hi) pairs_are (told.0 yes)) in
                  subst (λ (n : ℕ). IsFreeTree rows (marked marks) n least oid lo hi) (sym suc_levels)
                  (IsFreeTree-up rows (marked marks) (levels - 1) least oid lo hi shape (IsNew-unmarked is_new.0 is_new.1) is form fan),
              λ free. told.1 (subst (λ (ps : List (ℕ × ℕ)). IsFreeFan rows (marked now) (levels - 1) ps hi) (sym pairs_are)
                  (IsFreeFan-same rows before (marked now) (levels - 1) shape.pairs hi (λ x. sym (marked_now x)) (down free).1)),
            )

        -- what it reaches is marked
        pub marked-node : (result : Bool) (later : List Bool) → OnTrue result ((x : ℕ) → marked later x ≡ marked now x + total (λ pair. times rows (levels - 1) pair.1 x) pairs)
            → OnTrue result ((x : ℕ) → marked later x ≡ marked marks x + times rows levels oid x)
        marked-node result later told =
            let suc_levels : suc (levels - 1) ≡ levels = omega arith in
            OnTrue-then result _ _ (λ yes marks_are x.
            let reached : times rows levels oid x ≡ same_oid oid x + total (λ pair. times rows (levels - 1) pair.1 x) shape.pairs =
            ap (λ (n : ℕ). times rows n oid x) (sym suc_levels) ∙ times-node rows (marked marks) (levels - 1) least oid lo hi shape (IsNew-unmarked is_new.0 is_new.1) is x in
            omega (arith, marks_are x, marked_now x, reached, ap (λ (ps : List (ℕ × ℕ)). total (λ pair. times rows (levels - 1) pair.1 x) ps) pairs_are)) told

module _ (rows : Rows) (levels : ℕ) (pairs : List (ℕ × ℕ)) (hi : ℕ) (i : ℕ) (below : i < length pairs) where
  at_drop : drop i pairs ≡ get_or pairs i (0, 0) ∷ drop (i + 1) pairs
  at_drop = drop-cons pairs i (0, 0) below ∙ ap (λ (n : ℕ). get_or pairs i (0, 0) ∷ drop n pairs) (let e : suc i ≡ i + 1 = omega arith in e)

  -- the free tree at a pair, and the rest
  pub IsFreeFan-drop : (before : ℕ → ℕ) → IsFreeFan rows before levels (drop i pairs) hi
      → IsFreeTree rows before levels 4 (get_or pairs i (0, 0)).1 (get_or pairs i (0, 0)).0 (first_key (drop (i + 1) pairs) hi) × ((get_or pairs i (0, 0)).0 < first_key (drop (i + 1) pairs) hi)
      × IsFreeFan rows (λ x. before x + times rows levels (get_or pairs i (0, 0)).1 x) levels (drop (i + 1) pairs) hi
  IsFreeFan-drop before free =
      IsFreeFan-cons rows before levels (get_or pairs i (0, 0)) (drop (i + 1) pairs) hi (subst (λ (ps : List (ℕ × ℕ)). IsFreeFan rows before levels ps hi) at_drop free)

  -- and the other way
  pub drop-IsFreeFan : (before : ℕ → ℕ) → IsFreeTree rows before levels 4 (get_or pairs i (0, 0)).1 (get_or pairs i (0, 0)).0 (first_key (drop (i + 1) pairs) hi) → (get_or pairs i (0, 0)).0 < first_key (drop (i + 1) pairs) hi
      → IsFreeFan rows (λ x. before x + times rows levels (get_or pairs i (0, 0)).1 x) levels (drop (i + 1) pairs) hi → IsFreeFan rows before levels (drop i pairs) hi
  drop-IsFreeFan before tree less rest =
      subst (λ (ps : List (ℕ × ℕ)). IsFreeFan rows before levels ps hi) (sym at_drop) (cons-IsFreeFan rows before levels (get_or pairs i (0, 0)) (drop (i + 1) pairs) hi tree less rest)

  -- how often the pairs from one on reach an object
  pub total-drop : (x : ℕ) → total (λ pair. times rows levels pair.1 x) (drop i pairs) ≡ times rows levels (get_or pairs i (0, 0)).1 x + total (λ pair. times rows levels pair.1 x) (drop (i + 1) pairs)
  total-drop x = ap (λ (ps : List (ℕ × ℕ)). total (λ (pair : ℕ × ℕ). times rows levels pair.1 x) ps) at_drop

  module _ (reached : List Bool) (end : ℕ) (end_is : end ≡ first_key (drop (i + 1) pairs) hi) where
    -- a pair with an empty range isn't part of a free fan
    pub IsFreeFan-empty_range : end ≤ (get_or pairs i (0, 0)).0 → IsFreeFan rows (marked reached) levels (drop i pairs) hi → ⊥
    IsFreeFan-empty_range empty free = omega (arith, empty, end_is, (IsFreeFan-drop (marked reached) free).1)

    -- the free tree at a pair of a free fan
    pub IsFreeFan-tree : IsFreeFan rows (marked reached) levels (drop i pairs) hi → IsFreeTree rows (marked reached) levels 4 (get_or pairs i (0, 0)).1 (get_or pairs i (0, 0)).0 end
    IsFreeFan-tree free =
        subst (λ (e : ℕ). IsFreeTree rows (marked reached) levels 4 (get_or pairs i (0, 0)).1 (get_or pairs i (0, 0)).0 e) (sym end_is) (IsFreeFan-drop (marked reached) free).0

    -- behind a free tree the others decide
    pub IsFreeFan-step : (Whole : Type 0) (later : List Bool) → Whole ↔ IsFreeFan rows (marked reached) levels (drop i pairs) hi
        → IsFreeTree rows (marked reached) levels 4 (get_or pairs i (0, 0)).1 (get_or pairs i (0, 0)).0 end → (get_or pairs i (0, 0)).0 < end
        → ((x : ℕ) → marked later x ≡ marked reached x + times rows levels (get_or pairs i (0, 0)).1 x)
        → Whole ↔ IsFreeFan rows (marked later) levels (drop (i + 1) pairs) hi
    IsFreeFan-step Whole later whole tree less marks =
        let between : ℕ → ℕ = λ x. marked reached x + times rows levels (get_or pairs i (0, 0)).1 x in (
          λ all. IsFreeFan-same rows between (marked later) levels (drop (i + 1) pairs) hi (λ x. sym (marks x)) (IsFreeFan-drop (marked reached) (whole.0 all)).2,
          λ rest. whole.1 (drop-IsFreeFan (marked reached)
              (subst (λ (e : ℕ). IsFreeTree rows (marked reached) levels 4 (get_or pairs i (0, 0)).1 (get_or pairs i (0, 0)).0 e) end_is tree)
              (omega (arith, less, end_is))
              (IsFreeFan-same rows (marked later) between levels (drop (i + 1) pairs) hi marks rest)),
        )
