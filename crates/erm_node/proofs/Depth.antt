-- Trees are low: a tree of many levels reaches more objects than there may be. And their levels are those that their first
-- children show.
use Rattle.std.proofs.Common.{◌≡◌, ℕ, zero, suc, ◌+◌, ◌-◌, ◌*◌, ◌<◌, ◌≤◌, ◌==◌, List, [], ◌∷◌, Bool, true, false, length, Some, None, refl, ap, ◌∙◌, inl, inr, arith}
use Rattle.std.proofs.lemmas.Bool.Decides.{nat_tests, eqb_tells, leb_tells}
use Rattle.erm_model.specs.declared.limits.TheConstants.{OID_LIMIT}
use Rattle.erm_model.specs.Rows.{Rows}
use Rattle.erm_node.specs.Node.{node_of, pairs_of}
use Rattle.erm_node.specs.Tree.{Fan, IsTree, first_key, same_oid, times, total}
use Rattle.erm_node.specs.Sound.{inner_levels, levels_of}
use Rattle.erm_node.proofs.Levels.{first_child-node, child_of-leaf, inner_at, levels_of-root}
use Rattle.erm_node.proofs.Shapes.{KeepsRules-is_node, node_of-found}
use Rattle.erm_node.proofs.Walks.{same_oid-itself, same_oid-other, times-itself}

-- the sum of f over the numbers below one
sum_below : (ℕ → ℕ) → ℕ → ℕ
sum_below f zero = 0
sum_below f (suc n) = sum_below f n + f n

sum_below-le : (f : ℕ → ℕ) (n : ℕ) → ((x : ℕ) → f x ≤ 1) → sum_below f n ≤ n
unfolding sum_below
sum_below-le f zero few = omega arith
sum_below-le f (suc n) few = omega (arith, few n, sum_below-le f n few)

sum_below-add : (f g : ℕ → ℕ) (n : ℕ) → sum_below (λ x. f x + g x) n ≡ sum_below f n + sum_below g n
unfolding sum_below
sum_below-add f g zero = refl
sum_below-add f g (suc n) = omega (arith, sum_below-add f g n)

sum_below-none : (n : ℕ) → sum_below (λ x. 0) n ≡ 0
unfolding sum_below
sum_below-none zero = refl
sum_below-none (suc n) = omega (arith, sum_below-none n)

sum_below-past : (oid n : ℕ) → n ≤ oid → sum_below (same_oid oid) n ≡ 0
unfolding sum_below
sum_below-past oid zero past = refl
sum_below-past oid (suc n) past = omega (arith, sum_below-past oid n (omega (arith, past)), same_oid-other oid n (λ same. omega (arith, same, past)))

sum_below-same_oid : (oid n : ℕ) → oid < n → 1 ≤ sum_below (same_oid oid) n
unfolding sum_below
sum_below-same_oid oid zero below = absurd (omega (arith, below))
sum_below-same_oid oid (suc n) below = elim (eqb_tells oid n) as (λ _. 1 ≤ sum_below (same_oid oid) n + same_oid oid n) [
  | inl same ↦ omega (arith, same_oid-itself oid, ap (same_oid oid) same.1)
  | inr other ↦ omega (arith, sum_below-same_oid oid n (omega (arith, below, other.1)))
]

sum_below-total : {X : Type 0} (f : X → ℕ → ℕ) (xs : List X) (n : ℕ) → sum_below (λ x. total (λ p. f p x) xs) n ≡ total (λ p. sum_below (f p) n) xs
sum_below-total f [] n = sum_below-none n
sum_below-total f (p ∷ ps) n = omega (arith, sum_below-add (f p) (λ x. total (λ q. f q x) ps) n, sum_below-total f ps n)

-- how many objects a tree that isn't a whole table's reaches at least
least_size : ℕ → ℕ
least_size zero = 1
least_size (suc levels) = 4 * least_size levels

least_size-le : (more levels : ℕ) → least_size levels ≤ least_size (more + levels)
unfolding least_size
least_size-le zero levels = omega (arith, ap least_size (let e : zero + levels ≡ levels = omega arith in e))
least_size-le (suc more) levels = omega (arith, least_size-le more levels, ap least_size (let e : suc more + levels ≡ suc (more + levels) = omega arith in e))

-- so many times a number
copies : ℕ → ℕ → ℕ
copies zero m = 0
copies (suc k) m = m + copies k m

copies-le : (more k m : ℕ) → copies k m ≤ copies (more + k) m
unfolding copies
copies-le zero k m = omega (arith, ap (λ (n : ℕ). copies n m) (let e : zero + k ≡ k = omega arith in e))
copies-le (suc more) k m = omega (arith, copies-le more k m, ap (λ (n : ℕ). copies n m) (let e : suc more + k ≡ suc (more + k) = omega arith in e))

copies-two : (n m : ℕ) → 2 ≤ n → 2 * m ≤ copies n m
unfolding copies
copies-two n m two =
    let is : (n - 2) + 2 ≡ n = omega arith in
    omega (arith, copies-le (n - 2) 2 m, ap (λ (k : ℕ). copies k m) is)

copies-four : (n m : ℕ) → 4 ≤ n → 4 * m ≤ copies n m
unfolding copies
copies-four n m four =
    let is : (n - 4) + 4 ≡ n = omega arith in
    omega (arith, copies-le (n - 4) 4 m, ap (λ (k : ℕ). copies k m) is)

-- a fan reaches as many objects as its trees together, each so many at least
Fan-size : (P : ℕ → ℕ → ℕ → Type 0) (f : ℕ → ℕ → ℕ) (n m : ℕ) → ((oid lo hi : ℕ) → P oid lo hi → ((x : ℕ) → n ≤ x → f oid x ≡ 0) → m ≤ sum_below (f oid) n)
    → (pairs : List (ℕ × ℕ)) (hi : ℕ) → Fan P pairs hi → ((x : ℕ) → n ≤ x → total (λ pair. f pair.1 x) pairs ≡ 0) → copies (length pairs) m ≤ sum_below (λ x. total (λ pair. f pair.1 x) pairs) n
unfolding copies
Fan-size P f n m each [] hi fan bounded = omega arith
Fan-size P f n m each (pair ∷ pairs) hi (first, less, rest) bounded =
    let here = each pair.1 pair.0 (first_key pairs hi) first (λ x above. omega (arith, bounded x above)) in
    let others = Fan-size P f n m each pairs hi rest (λ x above. omega (arith, bounded x above)) in
    omega (arith, here, others, sum_below-add (f pair.1) (λ x. total (λ (q : ℕ × ℕ). f q.1 x) pairs) n)

root_below : (rows : Rows) (levels oid n : ℕ) → ((x : ℕ) → n ≤ x → times rows levels oid x ≡ 0) → oid < n
root_below rows levels oid n bounded = elim (leb_tells n oid) as (λ _. oid < n) [
  | inl past ↦ absurd (omega (arith, bounded oid past.1, times-itself rows levels oid))
  | inr below ↦ below.1
]

-- a node's objects are its own and those of its pairs' trees
node_size : (rows : Rows) (levels oid n : ℕ) → oid < n → 1 + sum_below (λ x. total (λ pair. times rows levels pair.1 x) (pairs_of (rows oid))) n ≤ sum_below (times rows (suc levels) oid) n
node_size rows levels oid n below =
    omega (arith, sum_below-add (same_oid oid) (λ x. total (λ (pair : ℕ × ℕ). times rows levels pair.1 x) (pairs_of (rows oid))) n, sum_below-same_oid oid n below)

-- a tree of so many levels, with four pairs at least in each node, reaches so many objects
IsTree-size : (rows : Rows) (n levels oid lo hi : ℕ) → IsTree rows levels 4 oid lo hi → ((x : ℕ) → n ≤ x → times rows levels oid x ≡ 0) → least_size levels ≤ sum_below (times rows levels oid) n
unfolding least_size
IsTree-size rows n zero oid lo hi tree bounded = sum_below-same_oid oid n (root_below rows zero oid n bounded)
IsTree-size rows n (suc levels) oid lo hi tree bounded =
    let pairs = pairs_of (rows oid) in
    let fan = Fan-size (λ child from to. IsTree rows levels 4 child from to) (times rows levels) n (least_size levels) (IsTree-size rows n levels) pairs hi tree.fan (λ x above. omega (arith, bounded x above)) in
    omega (arith, fan, copies-four (length pairs) (least_size levels) tree.enough, node_size rows levels oid n (root_below rows (suc levels) oid n bounded))

-- an inner node has two pairs at least
inner_pairs : (rows : Rows) (levels least oid lo hi : ℕ) → IsTree rows (suc (suc levels)) least oid lo hi → 2 ≤ length (pairs_of (rows oid))
inner_pairs rows levels least oid lo hi tree =
    let inner : (suc levels == 0) ≡ false = grind (arith, nat_tests) in
    let is = tree.node ∙ ap (λ (b : Bool). Some (record { leaf = b; pairs = pairs_of (rows oid) })) inner in
    (KeepsRules-is_node (record { leaf = false; pairs = pairs_of (rows oid) }) (node_of-found (rows oid) (record { leaf = false; pairs = pairs_of (rows oid) }) is).0).enough

many : least_size 12 ≡ 16777216
unfolding least_size
many = refl

-- a tree that reaches no object twice and none that there may not be has twelve levels at most
pub IsTree-low : (rows : Rows) (levels least oid lo hi : ℕ) → IsTree rows levels least oid lo hi → ((x : ℕ) → times rows levels oid x ≤ 1) → ((x : ℕ) → OID_LIMIT ≤ x → times rows levels oid x ≡ 0) → levels ≤ 12
IsTree-low rows zero least oid lo hi tree once bounded = omega arith
IsTree-low rows (suc zero) least oid lo hi tree once bounded = omega arith
IsTree-low rows (suc (suc levels)) least oid lo hi tree once bounded =
    let pairs = pairs_of (rows oid) in
    let fan = Fan-size (λ child from to. IsTree rows (suc levels) 4 child from to) (times rows (suc levels)) OID_LIMIT (least_size (suc levels)) (IsTree-size rows OID_LIMIT (suc levels)) pairs hi tree.fan (λ x above. omega (arith, bounded x above)) in
    let two = copies-two (length pairs) (least_size (suc levels)) (inner_pairs rows levels least oid lo hi tree) in
    let whole = node_size rows (suc levels) oid OID_LIMIT (root_below rows (suc (suc levels)) oid OID_LIMIT bounded) in
    let all = sum_below-le (times rows (suc (suc levels)) oid) OID_LIMIT once in
    elim (leb_tells 12 (suc levels)) as (λ _. suc (suc levels) ≤ 12) [
      | inl deep ↦
          let more : (suc levels - 12) + 12 ≡ suc levels = omega (arith, deep.1) in
          absurd (omega (arith, fan, two, whole, all, least_size-le (suc levels - 12) 12, ap least_size more, many))
      | inr low ↦ omega (arith, low.1)
    ]

-- the first child of an inner node, and the tree there
first_part : (rows : Rows) (limit levels oid : ℕ) (hi : ℕ) (pairs : List (ℕ × ℕ)) → node_of (rows oid) ≡ Some (record { leaf = false; pairs = pairs }) → 2 ≤ length pairs
    → Fan (λ child from to. IsTree rows (suc levels) 4 child from to) pairs hi → ((child lo to : ℕ) → IsTree rows (suc levels) 4 child lo to → inner_levels rows limit child ≡ levels)
    → inner_levels rows (suc limit) oid ≡ suc levels
first_part rows limit levels oid hi [] is two fan part = absurd (omega (arith, two))
first_part rows limit levels oid hi (pair ∷ pairs) is two (first, less, rest) part =
    inner_at rows limit oid (Some pair.1) (first_child-node (rows oid) (record { leaf = false; pairs = pair ∷ pairs }) is)
    ∙ ap suc (part pair.1 pair.0 (first_key pairs hi) first)

-- the inner levels of a tree are those that its first children show
inner_levels-tree : (rows : Rows) (limit levels least oid lo hi : ℕ) → IsTree rows (suc levels) least oid lo hi → levels ≤ limit → inner_levels rows limit oid ≡ levels
inner_levels-tree rows zero levels least oid lo hi tree few = omega (arith, few)
inner_levels-tree rows (suc limit) zero least oid lo hi tree few =
    inner_at rows limit oid None (first_child-node (rows oid) (record { leaf = true; pairs = pairs_of (rows oid) }) tree.node ∙ child_of-leaf (pairs_of (rows oid)))
inner_levels-tree rows (suc limit) (suc levels) least oid lo hi tree few =
    let inner : (suc levels == 0) ≡ false = grind (arith, nat_tests) in
    first_part rows limit levels oid hi (pairs_of (rows oid)) (tree.node ∙ ap (λ (b : Bool). Some (record { leaf = b; pairs = pairs_of (rows oid) })) inner)
    (inner_pairs rows levels least oid lo hi tree) tree.fan (λ child from to part. inner_levels-tree rows limit levels 4 child from to part (omega (arith, few)))

-- the levels of a tree are those that its first children show
pub levels_of-tree : (rows : Rows) (levels least oid lo hi : ℕ) → IsTree rows (suc levels) least oid lo hi → levels < 12 → levels_of rows oid ≡ suc levels
levels_of-tree rows levels least oid lo hi tree few =
    levels_of-root rows oid ∙ omega (arith, inner_levels-tree rows 11 levels least oid lo hi tree (omega (arith, few)))
