-- The trees on the way to a key as it is put in, from the leaf up.
use Rattle.std.proofs.Common.{◌≡◌, ℕ, zero, suc, ◌+◌, ◌-◌, ◌^◌, ◌<◌, ◌≤◌, List, [], ◌∷◌, ◌++◌, length, take, drop, get_or, Bool, true, false, cond, Option, Some, None, refl, sym, ap, ◌∙◌, subst, arith, length-append, length-take, length-drop}
use Rattle.std.specs.Prelude.{◌==◌, nat_eq, flat_map, slice_index, option_and_then}
use Rattle.std.specs.Option.{option_map_or}
use Rattle.std.specs.Map.{lookup}
use Rattle.std.proofs.lemmas.Bool.Decides.{nat_tests}
use Rattle.std.proofs.Math.Seq.{take-suc}
use Rattle.std.proofs.Math.ListN.{take-append-drop}
use Rattle.erm_model.specs.Rows.{Rows}
use Rattle.erm_record.specs.Record.{IsRecord}
use Rattle.erm_node.specs.Node.{Shape, node_of, node_row, pairs_of, is_node, fewest_pairs}
use Rattle.erm_node.specs.Tree.{Fan, first_key, total, same_oid, Starts, IsTree, entries, times}
use Rattle.erm_tree.specs.Walk.{rank}
use Rattle.erm_tree.specs.Insert.{Place, child_for, path_to, with_pair, is_full, row_with, handed_on, node_rows, handed_up}
use Rattle.erm_tree.proofs.Fans.{first_key-append, total-append, total-part, flat_map-append, Fan-append, Fan-front, Fan-back, first_key-Fan, IsPairFor, pair_for}
use Rattle.erm_tree.proofs.Trees.{low_enough}
use Rattle.erm_tree.proofs.Standing.{flat_map-single}
use Rattle.erm_tree.proofs.Nodes.{AreNarrow, AreNarrow-append, AreNarrow-front, AreNarrow-back, is_node-parts, IsMade-row}
use Rattle.erm_node.proofs.Frames.{IsKeptFan-frame}
use Rattle.erm_tree.proofs.Insertion.{Each, Inserted, with_pair-split, cut_at}

-- how often an object is among the first ones made, as many as levels and one
abbrev pub used : List ℕ → ℕ → ℕ → ℕ
used made levels x = total (λ o. same_oid o x) (take (suc levels) made)

total_take-less : (made : List ℕ) (n x : ℕ) → total (λ o. same_oid o x) (take n made) ≤ total (λ o. same_oid o x) (take (suc n) made)
total_take-less [] zero x = omega arith
total_take-less [] (suc n) x = omega arith
total_take-less (o ∷ os) zero x = omega arith
total_take-less (o ∷ os) (suc n) x = omega (arith, total_take-less os n x)

-- one more level uses no fewer
pub used-less : (made : List ℕ) (levels x : ℕ) → used made levels x ≤ used made (suc levels) x
used-less made levels x = total_take-less made (suc levels) x

-- and one more
pub used-more : (made : List ℕ) (levels x : ℕ) → suc levels < length made → used made (suc levels) x ≡ used made levels x + same_oid (slice_index made (suc levels)) x
used-more made levels x inside =
    omega (
      arith,
      ap (total (λ o. same_oid o x)) (take-suc made (suc levels) 0 inside),
      total-append (λ o. same_oid o x) (take (suc levels) made) (slice_index made (suc levels) ∷ []),
    )

total_take-all : (made : List ℕ) (n x : ℕ) → total (λ o. same_oid o x) (take n made) ≤ total (λ o. same_oid o x) made
total_take-all [] zero x = omega arith
total_take-all [] (suc n) x = omega arith
total_take-all (o ∷ os) zero x = omega arith
total_take-all (o ∷ os) (suc n) x = omega (arith, total_take-all os n x)

-- all that are used were made
pub used-made : (made : List ℕ) (levels x : ℕ) → used made levels x ≤ total (λ o. same_oid o x) made
used-made made levels x = total_take-all made (suc levels) x

-- the first
pub used-first : (made : List ℕ) (x : ℕ) → 0 < length made → used made 0 x ≡ same_oid (slice_index made 0) x
used-first [] x some = absurd (omega arith)
used-first (o ∷ os) x some = omega arith

suc_isnt_zero : (n : ℕ) → (suc n == 0) ≡ false
suc_isnt_zero n = grind (arith, nat_tests)

-- how often an object is a node on the way to a key
abbrev pub on_path : Rows → ℕ → ℕ → ℕ → ℕ → ℕ
on_path rows key zero oid x = 0
on_path rows key (suc levels) oid x = same_oid oid x + on_path rows key levels (child_for key (pairs_of (rows oid))) x

-- the child for a key, in its place
pub record HasPairFor (rows : Rows) (key oid hi : ℕ) : Type 0 where
  pub pair : ℕ × ℕ
  pub to : ℕ
  pub is_for : IsPairFor (pairs_of (rows oid)) hi key pair to
  pub child : child_for key (pairs_of (rows oid)) ≡ pair.1

first_there : (ps : List (ℕ × ℕ)) (a b : ℕ) → 2 ≤ length ps → first_key ps a ≡ first_key ps b
first_there [] a b some = absurd (omega arith)
first_there (p ∷ ps) a b some = refl

module _ (found : (row : List ℕ) (shape : Shape) → node_of row ≡ Some shape → (is_node shape ≡ true) × (row ≡ node_row shape)) (rows : Rows) (key : ℕ) where
  -- an inner node has a child for each of its keys
  pub has_pair_for : (levels least oid lo hi : ℕ) → IsTree rows (suc (suc levels)) least oid lo hi → lo ≤ key → key < hi → HasPairFor rows key oid hi
  has_pair_for levels least oid lo hi tree low high =
      let pairs = pairs_of (rows oid) in
      let inner = suc_isnt_zero levels in
      let parts = is_node-parts (record { leaf = suc levels == 0; pairs = pairs }) (found (rows oid) (record { leaf = suc levels == 0; pairs = pairs }) tree.node).0 in
      let two : 2 ≤ length pairs = subst (λ (leaf : Bool). fewest_pairs leaf ≤ length pairs) inner parts.0 in
      let starts : first_key pairs lo ≡ lo = subst (λ (leaf : Bool). Starts leaf lo (first_key pairs lo)) inner tree.starts in
      let first : first_key pairs hi ≤ key = omega (arith, first_there pairs lo hi two) in
      let (before, many, is_for) = pair_for (λ c f t. IsTree rows (suc levels) 4 c f t) pairs hi key tree.fan first high in
      record {
        pair = get_or pairs before (0, 0);
        to = first_key (drop (suc before) pairs) hi;
        is_for = is_for;
        child = ap (λ (n : ℕ). (get_or pairs (n - 1) (0, 0)).1) many ∙ ap (λ (n : ℕ). (get_or pairs n (0, 0)).1) (omega arith);
      }

  -- the nodes on the way are reached
  pub on_path-times : (levels least oid lo hi : ℕ) → IsTree rows levels least oid lo hi → lo ≤ key → key < hi → (x : ℕ) → on_path rows key levels oid x ≤ times rows levels oid x
  on_path-times zero least oid lo hi tree low high x = omega arith
  on_path-times (suc zero) least oid lo hi tree low high x = omega arith
  on_path-times (suc (suc levels)) least oid lo hi tree low high x =
      let has = has_pair_for levels least oid lo hi tree low high in
      let is = has.is_for in
      let P : ℕ → ℕ → ℕ → Type 0 = λ c f t. IsTree rows (suc levels) 4 c f t in
      let fan : Fan P (is.before ++ has.pair ∷ is.rest) hi = subst (λ (ps : List (ℕ × ℕ)). Fan P ps hi) is.split tree.fan in
      let here = Fan-back P is.before (has.pair ∷ is.rest) hi fan in
      let count : ℕ × ℕ → ℕ = λ (p : ℕ × ℕ). times rows (suc levels) p.1 x in
      let below = on_path-times (suc levels) 4 has.pair.1 has.pair.0 (first_key is.rest hi) here.0 is.low (subst (λ (t : ℕ). key < t) is.end is.high) x in
      omega (
        arith,
        below,
        ap (λ (c : ℕ). on_path rows key (suc levels) c x) has.child,
        ap (λ (ps : List (ℕ × ℕ)). total count ps) is.split,
        total-part count is.before has.pair is.rest,
      )

-- The pair that the nodes on the way hand up, with so many levels of them.
abbrev pub hands : Rows → List ℕ → ℕ → ℕ → ℕ → Option (ℕ × ℕ)
hands rows made key zero oid = Some (key, slice_index made 0)
hands rows made key (suc levels) oid =
    option_and_then (handed_on (record { oid = oid; shape = record { leaf = levels == 0; pairs = pairs_of (rows oid) } }) (slice_index made (suc levels)))
    (hands rows made key levels (child_for key (pairs_of (rows oid))))

-- the node at so many levels, above others
abbrev pub place_at : Rows → ℕ → ℕ → Place
place_at rows levels oid = record { oid = oid; shape = record { leaf = levels == 0; pairs = pairs_of (rows oid) } }

-- a path has as many nodes as levels
pub length-path_to : (rows : Rows) (key levels oid : ℕ) → length (path_to rows levels oid key) ≡ levels
length-path_to rows key zero oid = refl
length-path_to rows key (suc levels) oid = ap suc (length-path_to rows key levels (child_for key (pairs_of (rows oid))))

-- what a path hands up
pub handed_up-path_to : (rows : Rows) (made : List ℕ) (key levels oid : ℕ) → handed_up made key (path_to rows levels oid key) ≡ hands rows made key levels oid
handed_up-path_to rows made key zero oid = refl
handed_up-path_to rows made key (suc levels) oid =
    let child = child_for key (pairs_of (rows oid)) in
    ap (λ (n : ℕ). option_and_then (handed_on (place_at rows levels oid) (slice_index made (suc n))) (handed_up made key (path_to rows levels child key))) (length-path_to rows key levels child)
    ∙ ap (option_and_then (handed_on (place_at rows levels oid) (slice_index made (suc levels)))) (handed_up-path_to rows made key levels child)

-- the pairs of a node after what was handed to it
abbrev pub pairs_with : Option (ℕ × ℕ) → List (ℕ × ℕ) → List (ℕ × ℕ)
pairs_with None ps = ps
pairs_with (Some pair) ps = with_pair pair ps

-- the pairs that a node has now, over trees with so many levels: they are those that it had, and the key besides
pub record Content (rows new : Rows) (made : List ℕ) (key levels : ℕ) (ps qs : List (ℕ × ℕ)) (lo hi : ℕ) : Type 0 where
  pub fan : Fan (λ c f t. IsTree new levels 4 c f t) qs hi
  pub starts : Starts (levels == 0) lo (first_key qs lo)
  pub narrow : AreNarrow qs
  pub entries : Inserted key (slice_index made 0) (flat_map (λ p. entries rows levels p.1 p.0) ps) (flat_map (λ p. entries new levels p.1 p.0) qs)
  pub times : (x : ℕ) → total (λ p. times new levels p.1 x) qs ≤ total (λ p. times rows levels p.1 x) ps + used made levels x

-- a tree has grown by the key, and stands where it stood
pub record Grown (rows new : Rows) (made : List ℕ) (key levels least oid lo hi : ℕ) : Type 0 where
  pub tree : IsTree new levels least oid lo hi
  pub entries : Inserted key (slice_index made 0) (entries rows levels oid lo) (entries new levels oid lo)
  pub times : (x : ℕ) → times new levels oid x ≤ times rows levels oid x + used made levels x

-- a tree has grown by the key, and was cut into two
pub record Cut (rows new : Rows) (made : List ℕ) (key levels oid lo hi mid right : ℕ) : Type 0 where
  pub low : lo < mid
  pub high : mid < hi
  pub narrow : right < 2 ^ 32
  pub left_tree : IsTree new levels 4 oid lo mid
  pub right_tree : IsTree new levels 4 right mid hi
  pub entries : Inserted key (slice_index made 0) (entries rows levels oid lo) (entries new levels oid lo ++ entries new levels right mid)
  pub times : (x : ℕ) → times new levels oid x + times new levels right x ≤ times rows levels oid x + used made levels x

-- a tree after the key was put in, by what it hands up
abbrev pub After : Rows → Rows → List ℕ → ℕ → ℕ → ℕ → ℕ → ℕ → Option (ℕ × ℕ) → Type 0
After rows new made key levels oid lo hi None = Grown rows new made key levels 4 oid lo hi
After rows new made key levels oid lo hi (Some pair) = Cut rows new made key levels oid lo hi pair.0 pair.1

-- Before: the key lies in the bounds of a tree that hasn't got it and reaches no object twice. Off the way to it every row of
-- the tree stays.
pub record Before (rows new : Rows) (key levels least oid lo hi : ℕ) : Type 0 where
  pub tree : IsTree rows levels least oid lo hi
  pub low : lo ≤ key
  pub high : key < hi
  pub absent : lookup (nat_eq key) (entries rows levels oid lo) ≡ None
  pub once : (x : ℕ) → times rows levels oid x ≤ 1
  pub same : (x : ℕ) → 0 < times rows levels oid x → on_path rows key levels oid x ≡ 0 → new x ≡ rows x

-- a node has the row that it should have, by what was handed to it; and where it is cut there is an object for its right half
pub record IsWritten (rows new : Rows) (made : List ℕ) (levels oid : ℕ) (handed : Option (ℕ × ℕ)) : Type 0 where
  pub rows_there : Each (λ (w : ℕ × List ℕ). new w.0 ≡ w.1) (option_map_or (node_rows (place_at rows levels oid) (slice_index made (suc levels))) handed [])
  pub same : handed ≡ None → new oid ≡ rows oid
  pub enough : (pair : ℕ × ℕ) → option_and_then (handed_on (place_at rows levels oid) (slice_index made (suc levels))) handed ≡ Some pair → suc levels < length made

-- so of all nodes on the way
abbrev pub AreWritten : Rows → Rows → List ℕ → ℕ → ℕ → ℕ → Type 0
AreWritten rows new made key zero oid = Unit {0}
AreWritten rows new made key (suc levels) oid =
    AreWritten rows new made key levels (child_for key (pairs_of (rows oid)))
    × IsWritten rows new made levels oid (hands rows made key levels (child_for key (pairs_of (rows oid))))

-- one pair more
pub length-with_pair_any : (pair : ℕ × ℕ) (ps : List (ℕ × ℕ)) → length (with_pair pair ps) ≡ suc (length ps)
length-with_pair_any pair ps =
    omega (arith, length-append (take (rank pair.0 ps) ps) (pair ∷ drop (rank pair.0 ps) ps), length-take (rank pair.0 ps) ps, length-drop (rank pair.0 ps) ps)

first_there_one : (ps : List (ℕ × ℕ)) (a b : ℕ) → 1 ≤ length ps → first_key ps a ≡ first_key ps b
first_there_one [] a b some = absurd (omega arith)
first_there_one (p ∷ ps) a b some = refl

-- the first key lies below the bound
pub first_key-below : (P : ℕ → ℕ → ℕ → Type 0) (ps : List (ℕ × ℕ)) (hi other : ℕ) → 1 ≤ length ps → Fan P ps hi → first_key ps other < hi
first_key-below P [] hi other some fan = absurd (omega arith)
first_key-below P (p ∷ ps) hi other some fan = omega (arith, fan.1, first_key-Fan P ps hi fan.2)

Starts-itself : (leaf : Bool) (lo key : ℕ) → key ≡ lo → Starts leaf lo key
Starts-itself true lo key same = omega arith
Starts-itself false lo key same = same

full_length : (n : ℕ) → nat_eq n 7 ≡ true → n ≡ 7
full_length n e = grind (arith, nat_tests)

room_length : (n : ℕ) → nat_eq n 7 ≡ false → n ≤ 7 → n < 7
room_length n e few = grind (arith, nat_tests)

module _ (rows new : Rows) (made : List ℕ) (key : ℕ)
    (found : (row : List ℕ) (shape : Shape) → node_of row ≡ Some shape → (is_node shape ≡ true) × (row ≡ node_row shape)) (given : (shape : Shape) → is_node shape ≡ true → node_of (node_row shape) ≡ Some shape)
    (some : 0 < length made) (small : (i : ℕ) → i < length made → slice_index made i < 2 ^ 32) (record_row : IsRecord (new (slice_index made 0))) where
  -- a node has seven pairs at most, to objects with numbers of 32 bits
  pub narrow_pairs : (levels least oid lo hi : ℕ) → IsTree rows (suc levels) least oid lo hi → (length (pairs_of (rows oid)) ≤ 7) × AreNarrow (pairs_of (rows oid))
  narrow_pairs levels least oid lo hi tree =
      let shape : Shape = record { leaf = levels == 0; pairs = pairs_of (rows oid) } in
      let parts = is_node-parts shape (found (rows oid) shape tree.node).0 in
      (parts.1, parts.2)

  starts_with : (lo key' oid' : ℕ) (xs ys : List (ℕ × ℕ)) → lo ≤ key' → lo ≤ first_key (xs ++ ys) lo → lo ≤ first_key (xs ++ (key', oid') ∷ ys) lo
  starts_with lo key' oid' [] ys low starts = low
  starts_with lo key' oid' (x ∷ xs) ys low starts = starts

  -- a leaf with the key
  pub Content-leaf : (least oid lo hi : ℕ) → Before rows new key 1 least oid lo hi → Content rows new made key 0 (pairs_of (rows oid)) (with_pair (key, slice_index made 0) (pairs_of (rows oid))) lo hi
  Content-leaf least oid lo hi before =
      let ps = pairs_of (rows oid) in
      let o = slice_index made 0 in
      let E : ℕ × ℕ → List (ℕ × ℕ) = λ (p : ℕ × ℕ). (p.0, p.1) ∷ [] in
      let tree = before.tree in
      let kept = IsKeptFan-frame rows new 0 ps hi tree.fan (λ x more. before.same x (omega arith) (let one = before.once x in omega arith)) in
      let absent : lookup (nat_eq key) ps ≡ None = ap (lookup (nat_eq key)) (sym (flat_map-single ps)) ∙ before.absent in
      let cut = cut_at (λ c. IsRecord (new c)) ps hi key kept.fan before.high absent in
      let qs = cut.before ++ (key, o) ∷ cut.rest in
      let is : with_pair (key, o) ps ≡ qs = ap (with_pair (key, o)) cut.split ∙ with_pair-split (λ c f t. IsRecord (new c)) key o cut.before cut.rest hi cut.front cut.high in
      let narrow = subst AreNarrow cut.split (narrow_pairs 0 least oid lo hi tree).1 in
      let starts : lo ≤ first_key ps lo = tree.starts in
      let content : Content rows new made key 0 ps qs lo hi = record {
        fan = Fan-append (λ c f t. IsTree new 0 4 c f t) cut.before ((key, o) ∷ cut.rest) hi cut.front (record_row, cut.high, cut.back);
        starts = starts_with lo key o cut.before cut.rest before.low (subst (λ (rs : List (ℕ × ℕ)). lo ≤ first_key rs lo) cut.split starts);
        narrow = AreNarrow-append cut.before ((key, o) ∷ cut.rest) (AreNarrow-front cut.before cut.rest narrow) (small 0 some, AreNarrow-back cut.before cut.rest narrow);
        entries = record {
          before = flat_map E cut.before;
          rest = flat_map E cut.rest;
          was = ap (flat_map E) cut.split ∙ flat_map-append E cut.before cut.rest;
          is = flat_map-append E cut.before ((key, o) ∷ cut.rest);
        };
        times = λ x.
            let f : ℕ × ℕ → ℕ = λ (p : ℕ × ℕ). same_oid p.1 x in
            omega (arith, ap (total f) cut.split, total-append f cut.before cut.rest, total-append f cut.before ((key, o) ∷ cut.rest), used-first made x some);
      } in
      subst (λ (rs : List (ℕ × ℕ)). Content rows new made key 0 ps rs lo hi) (sym is) content

  module _ (levels least oid lo hi : ℕ) (before : Before rows new key (suc levels) least oid lo hi) (wide : lo < hi) where
    -- a node that nothing was handed to
    pub After-none : Content rows new made key levels (pairs_of (rows oid)) (pairs_of (rows oid)) lo hi → new oid ≡ rows oid → Grown rows new made key (suc levels) least oid lo hi
    After-none content same =
        let tree = before.tree in
        let ps = pairs_of (rows oid) in
        let pairs : pairs_of (new oid) ≡ ps = ap pairs_of same in
        record {
          tree = record {
            node = ap node_of same ∙ tree.node ∙ ap (λ (qs : List (ℕ × ℕ)). Some (record { leaf = levels == 0; pairs = qs })) (sym pairs);
            enough = subst (λ (qs : List (ℕ × ℕ)). least ≤ length qs) (sym pairs) tree.enough;
            starts = subst (λ (qs : List (ℕ × ℕ)). Starts (levels == 0) lo (first_key qs lo)) (sym pairs) content.starts;
            fan = subst (λ (qs : List (ℕ × ℕ)). Fan (λ c f t. IsTree new levels 4 c f t) qs hi) (sym pairs) content.fan;
          };
          entries = subst (λ (qs : List (ℕ × ℕ)). Inserted key (slice_index made 0) (entries rows (suc levels) oid lo) (flat_map (λ p. entries new levels p.1 p.0) qs)) (sym pairs) content.entries;
          times = λ x. omega (arith, ap (total (λ p. times new levels p.1 x)) pairs, content.times x, used-less made levels x);
        }

    module _ (pair : ℕ × ℕ) (content : Content rows new made key levels (pairs_of (rows oid)) (with_pair pair (pairs_of (rows oid))) lo hi) where
      fewest : fewest_pairs (levels == 0) ≤ length (pairs_of (rows oid))
      fewest = (is_node-parts (record { leaf = levels == 0; pairs = pairs_of (rows oid) }) (found (rows oid) (record { leaf = levels == 0; pairs = pairs_of (rows oid) }) before.tree.node).0).0

      -- a node with room
      pub After-room : is_full (place_at rows levels oid) ≡ false → new oid ≡ row_with (place_at rows levels oid) (with_pair pair (pairs_of (rows oid))) → Grown rows new made key (suc levels) least oid lo hi
      After-room room written =
          let ps = pairs_of (rows oid) in
          let qs = with_pair pair ps in
          let many = length-with_pair_any pair ps in
          let few : length ps < 7 = room_length (length ps) room (narrow_pairs levels least oid lo hi before.tree).0 in
          let enough = before.tree.enough in
          let enough_for_kind = fewest in
          let made_node = IsMade-row given new (levels == 0) least (λ c f t. IsTree new levels 4 c f t) oid lo hi qs written content.fan content.starts (omega arith) (omega arith) (omega arith) content.narrow in
          record {
            tree = made_node.node;
            entries = subst (λ (rs : List (ℕ × ℕ)). Inserted key (slice_index made 0) (entries rows (suc levels) oid lo) (flat_map (λ p. entries new levels p.1 p.0) rs)) (sym made_node.pairs) content.entries;
            times = λ x. omega (arith, ap (total (λ p. times new levels p.1 x)) made_node.pairs, content.times x, used-less made levels x);
          }

      -- the halves of a full node, at two objects
      pub record Halves (left right mid : ℕ) : Type 0 where
        pub low : lo < mid
        pub high : mid < hi
        pub left_tree : IsTree new (suc levels) 4 left lo mid
        pub right_tree : IsTree new (suc levels) 4 right mid hi
        pub entries : entries new (suc levels) left lo ++ entries new (suc levels) right mid ≡ flat_map (λ p. entries new levels p.1 p.0) (with_pair pair (pairs_of (rows oid)))
        pub times : (x : ℕ) → times new (suc levels) left x + times new (suc levels) right x ≡ same_oid left x + same_oid right x + total (λ p. times new levels p.1 x) (with_pair pair (pairs_of (rows oid)))

      pub Halves-written : (left right : ℕ) → is_full (place_at rows levels oid) ≡ true
          → new left ≡ row_with (place_at rows levels oid) (take 4 (with_pair pair (pairs_of (rows oid)))) → new right ≡ row_with (place_at rows levels oid) (drop 4 (with_pair pair (pairs_of (rows oid))))
          → Halves left right (first_key (drop 4 (with_pair pair (pairs_of (rows oid)))) 0)
      Halves-written left right full left_row right_row =
          let ps = pairs_of (rows oid) in
          let qs = with_pair pair ps in
          let xs = take 4 qs in
          let ys = drop 4 qs in
          let mid = first_key ys 0 in
          let P : ℕ → ℕ → ℕ → Type 0 = λ c f t. IsTree new levels 4 c f t in
          let E : ℕ × ℕ → List (ℕ × ℕ) = λ (p : ℕ × ℕ). entries new levels p.1 p.0 in
          let eight : length qs ≡ 8 = omega (arith, length-with_pair_any pair ps, full_length (length ps) full) in
          let four : length xs ≡ 4 = omega (arith, length-take 4 qs) in
          let four_more : length ys ≡ 4 = omega (arith, length-drop 4 qs) in
          let halves : xs ++ ys ≡ qs = take-append-drop 4 qs in
          let fan : Fan P (xs ++ ys) hi = subst (λ (rs : List (ℕ × ℕ)). Fan P rs hi) (sym halves) content.fan in
          let mid_is : first_key ys hi ≡ mid = first_there_one ys hi 0 (omega arith) in
          let left_fan : Fan P xs mid = subst (λ (n : ℕ). Fan P xs n) mid_is (Fan-front P xs ys hi fan) in
          let right_fan : Fan P ys hi = Fan-back P xs ys hi fan in
          let narrow = subst AreNarrow (sym halves) content.narrow in
          let first : first_key qs lo ≡ first_key xs lo = ap (λ (rs : List (ℕ × ℕ)). first_key rs lo) (sym halves) ∙ first_key-append xs ys lo ∙ first_there_one xs (first_key ys lo) lo (omega arith) in
          let starts : Starts (levels == 0) lo (first_key xs lo) = subst (λ (k : ℕ). Starts (levels == 0) lo k) first content.starts in
          let right_starts : Starts (levels == 0) mid (first_key ys mid) = Starts-itself (levels == 0) mid (first_key ys mid) (first_there_one ys mid 0 (omega arith)) in
          let two : fewest_pairs (levels == 0) ≤ 4 = fewest_at_most (levels == 0) in
          let left_made = IsMade-row given new (levels == 0) 4 P left lo mid xs left_row left_fan starts (omega arith) (omega arith) (omega arith) (AreNarrow-front xs ys narrow) in
          let right_made = IsMade-row given new (levels == 0) 4 P right mid hi ys right_row right_fan right_starts (omega arith) (omega arith) (omega arith) (AreNarrow-back xs ys narrow) in
          let low_first = low_enough (levels == 0) lo (first_key xs lo) starts in
          record {
            low = omega (arith, low_first, first_key-below P xs mid lo (omega arith) left_fan);
            high = first_key-below P ys hi 0 (omega arith) right_fan;
            left_tree = left_made.node;
            right_tree = right_made.node;
            entries =
                ap (λ (es : List (ℕ × ℕ)). es ++ entries new (suc levels) right mid) (ap (flat_map E) left_made.pairs) ∙ ap (λ (es : List (ℕ × ℕ)). flat_map E xs ++ es) (ap (flat_map E) right_made.pairs)
                ∙ sym (ap (flat_map E) (sym halves) ∙ flat_map-append E xs ys);
            times = λ x.
                let f : ℕ × ℕ → ℕ = λ (p : ℕ × ℕ). times new levels p.1 x in
                omega (arith, ap (total f) left_made.pairs, ap (total f) right_made.pairs, ap (total f) halves, total-append f xs ys);
          }
        where
          fewest_at_most : (leaf : Bool) → fewest_pairs leaf ≤ 4
          fewest_at_most true = omega arith
          fewest_at_most false = omega arith

      -- a full node
      After-full : is_full (place_at rows levels oid) ≡ true → suc levels < length made
          → new oid ≡ row_with (place_at rows levels oid) (take 4 (with_pair pair (pairs_of (rows oid)))) → new (slice_index made (suc levels)) ≡ row_with (place_at rows levels oid) (drop 4 (with_pair pair (pairs_of (rows oid))))
          → Cut rows new made key (suc levels) oid lo hi (first_key (drop 4 (with_pair pair (pairs_of (rows oid)))) 0) (slice_index made (suc levels))
      After-full full inside left_row right_row =
          let halves = Halves-written oid (slice_index made (suc levels)) full left_row right_row in
          record {
            low = halves.low;
            high = halves.high;
            narrow = small (suc levels) inside;
            left_tree = halves.left_tree;
            right_tree = halves.right_tree;
            entries = subst (λ (es : List (ℕ × ℕ)). Inserted key (slice_index made 0) (entries rows (suc levels) oid lo) es) (sym halves.entries) content.entries;
            times = λ x. omega (arith, halves.times x, content.times x, used-more made levels x inside);
          }

  -- a node, by what was handed to it
  pub After-content : (levels oid lo hi : ℕ) → Before rows new key (suc levels) 4 oid lo hi → lo < hi → (handed : Option (ℕ × ℕ)) → Content rows new made key levels (pairs_of (rows oid)) (pairs_with handed (pairs_of (rows oid))) lo hi → IsWritten rows new made levels oid handed
      → After rows new made key (suc levels) oid lo hi (option_and_then (handed_on (place_at rows levels oid) (slice_index made (suc levels))) handed)
  After-content levels oid lo hi before wide None content written = After-none levels 4 oid lo hi before wide content (written.same refl)
  After-content levels oid lo hi before wide (Some pair) content written =
      let place = place_at rows levels oid in
      let right = slice_index made (suc levels) in
      let qs = with_pair pair (pairs_of (rows oid)) in
      let two : List (ℕ × List ℕ) = (oid, row_with place (take 4 qs)) ∷ (right, row_with place (drop 4 qs)) ∷ [] in
      let one : List (ℕ × List ℕ) = (oid, row_with place qs) ∷ [] in
      let up : Option (ℕ × ℕ) = Some (first_key (drop 4 qs) 0, right) in
      let none : Option (ℕ × ℕ) = None in
      elim (is_full place) as (λ b. is_full place ≡ b
      → Each (λ (w : ℕ × List ℕ). new w.0 ≡ w.1) (cond b two one)
      → ((p : ℕ × ℕ) → cond b up none ≡ Some p → suc levels < length made)
      → After rows new made key (suc levels) oid lo hi (cond b up none)) [
        | true ↦ λ full there enough. After-full levels 4 oid lo hi before wide pair content full (enough (first_key (drop 4 qs) 0, right) refl) there.0 there.1.0
        | false ↦ λ room there enough. After-room levels 4 oid lo hi before wide pair content room there.0
      ] refl written.rows_there written.enough
