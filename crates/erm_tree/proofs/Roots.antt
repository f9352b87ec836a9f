-- The root of a table as a key is put in.
use Rattle.std.proofs.Common.{◌≡◌, ℕ, suc, ◌+◌, ◌^◌, ◌<◌, ◌≤◌, List, [], ◌∷◌, ◌++◌, length, take, drop, Bool, true, false, cond, Option, Some, None, refl, sym, ap, ◌∙◌, subst, inl, inr, arith}
use Rattle.std.specs.Prelude.{◌==◌, nat_eq, flat_map, slice_index}
use Rattle.std.specs.Option.{option_map_or}
use Rattle.std.proofs.lemmas.List.{append-nil}
use Rattle.std.proofs.lemmas.Bool.{cases_lt}
use Rattle.std.proofs.lemmas.Bool.Decides.{nat_tests}
use Rattle.erm_model.specs.declared.limits.TheConstants.{OID_LIMIT}
use Rattle.erm_model.specs.Rows.{Rows}
use Rattle.erm_record.specs.Record.{IsRecord}
use Rattle.erm_node.specs.Node.{Shape, node_of, node_row, pairs_of, is_node}
use Rattle.erm_node.specs.Tree.{first_key, total, same_oid, IsNodeOver, IsTree, entries, times}
use Rattle.erm_tree.specs.Insert.{child_for, with_pair, is_full, row_with, cut_root, root_rows}
use Rattle.erm_tree.proofs.Nodes.{IsMade-row}
use Rattle.erm_tree.proofs.Depths.{quads, quads-limit, quads-twelve}
use Rattle.erm_tree.proofs.Insertion.{Each, Inserted}
use Rattle.erm_tree.proofs.Growth.{used-more, used-made, hands, place_at, pairs_with, Content, Grown, Before, AreWritten, After-none, After-room, Halves-written}
use Rattle.erm_tree.proofs.Descents.{Content-all}

-- the root has the row that it should have, by what was handed to it, and where it is cut its halves too
pub record IsRootWritten (rows new : Rows) (made : List ℕ) (levels oid : ℕ) (handed : Option (ℕ × ℕ)) : Type 0 where
  pub rows_there : Each (λ (w : ℕ × List ℕ). new w.0 ≡ w.1) (option_map_or (root_rows (place_at rows levels oid) (slice_index made (suc levels)) (slice_index made (suc (suc levels)))) handed [])
  pub same : handed ≡ None → new oid ≡ rows oid
  pub enough : (pair : ℕ × ℕ) → handed ≡ Some pair → is_full (place_at rows levels oid) ≡ true → suc (suc levels) < length made

-- the tree at the root after a key was put in, which may have one level more
pub record IsRootAfter (rows new : Rows) (made : List ℕ) (key levels oid : ℕ) : Type 0 where
  pub now : ℕ
  pub few : now ≤ 11
  pub tree : IsTree new (suc now) 0 oid 0 (2 ^ 64)
  pub entries : Inserted key (slice_index made 0) (entries rows (suc levels) oid 0) (entries new (suc now) oid 0)
  pub times : (x : ℕ) → times new (suc now) oid x ≤ times rows (suc levels) oid x + total (λ o. same_oid o x) made

suc_isnt_zero : (n : ℕ) → (suc n == 0) ≡ false
suc_isnt_zero n = grind (arith, nat_tests)

full_length : (n : ℕ) → nat_eq n 7 ≡ true → n ≡ 7
full_length n e = grind (arith, nat_tests)

module _ (rows new : Rows) (made : List ℕ) (key : ℕ)
    (found : (row : List ℕ) (shape : Shape) → node_of row ≡ Some shape → (is_node shape ≡ true) × (row ≡ node_row shape)) (given : (shape : Shape) → is_node shape ≡ true → node_of (node_row shape) ≡ Some shape)
    (some : 0 < length made) (small : (i : ℕ) → i < length made → slice_index made i < 2 ^ 32) (record_row : IsRecord (new (slice_index made 0)))
    (levels oid : ℕ) (few : levels ≤ 11) (before : Before rows new key (suc levels) 0 oid 0 (2 ^ 64)) (bounded : (x : ℕ) → OID_LIMIT ≤ x → times rows (suc levels) oid x ≡ 0) where
  after_grown : Grown rows new made key (suc levels) 0 oid 0 (2 ^ 64) → IsRootAfter rows new made key levels oid
  after_grown grown = record {
    now = levels;
    few = few;
    tree = grown.tree;
    entries = grown.entries;
    times = λ x. omega (arith, grown.times x, used-made made (suc levels) x);
  }

  -- a full root isn't as deep as a tree may be
  not_deepest : is_full (place_at rows levels oid) ≡ true → suc levels ≤ 11
  not_deepest full =
      let tree = before.tree in
      let seven : length (pairs_of (rows oid)) ≡ 7 = full_length (length (pairs_of (rows oid))) full in
      let wide : IsTree rows (suc levels) 4 oid 0 (2 ^ 64) = record { node = tree.node; enough = omega arith; starts = tree.starts; fan = tree.fan } in
      let limit = quads-limit rows OID_LIMIT (suc levels) oid 0 (2 ^ 64) wide before.once bounded in
      at_most levels few limit
    where
      at_most : (n : ℕ) → n ≤ 11 → quads (suc n) ≤ OID_LIMIT → suc n ≤ 11
      at_most n under limit = elim (cases_lt n 11) as (λ _. suc n ≤ 11) [
        | inl less ↦ omega arith
        | inr last ↦ let same : n ≡ 11 = omega arith in absurd (quads-twelve (subst (λ (m : ℕ). quads (suc m) ≤ OID_LIMIT) same limit))
      ]

  -- a full root is cut
  after_cut : (pair : ℕ × ℕ) → Content rows new made key levels (pairs_of (rows oid)) (with_pair pair (pairs_of (rows oid))) 0 (2 ^ 64) → is_full (place_at rows levels oid) ≡ true → suc (suc levels) < length made
      → new oid ≡ node_row (record { leaf = false; pairs = cut_root (place_at rows levels oid) (slice_index made (suc levels)) (slice_index made (suc (suc levels))) pair })
      → new (slice_index made (suc levels)) ≡ row_with (place_at rows levels oid) (take 4 (with_pair pair (pairs_of (rows oid)))) → new (slice_index made (suc (suc levels))) ≡ row_with (place_at rows levels oid) (drop 4 (with_pair pair (pairs_of (rows oid))))
      → IsRootAfter rows new made key levels oid
  after_cut pair content full inside root_row left_row right_row =
      let left = slice_index made (suc levels) in
      let right = slice_index made (suc (suc levels)) in
      let ps = cut_root (place_at rows levels oid) left right pair in
      let mid = first_key (drop 4 (with_pair pair (pairs_of (rows oid)))) 0 in
      let P : ℕ → ℕ → ℕ → Type 0 = λ c f t. IsTree new (suc levels) 4 c f t in
      let halves = Halves-written rows new made key found given some small record_row levels 0 oid 0 (2 ^ 64) before (omega arith) pair content left right full left_row right_row in
      let inner = suc_isnt_zero levels in
      let root = IsMade-row given new false 0 P oid 0 (2 ^ 64) ps root_row (halves.left_tree, halves.low, (halves.right_tree, halves.high, tt)) refl (omega arith) (omega arith) (omega arith) (small (suc levels) (omega arith), (small (suc (suc levels)) inside, tt)) in
      let E : ℕ × ℕ → List (ℕ × ℕ) = λ (p : ℕ × ℕ). entries new (suc levels) p.1 p.0 in
      record {
        now = suc levels;
        few = not_deepest full;
        tree = subst (λ (leaf : Bool). IsNodeOver new leaf 0 P oid 0 (2 ^ 64)) (sym inner) root.node;
        entries = subst (λ (es : List (ℕ × ℕ)). Inserted key (slice_index made 0) (entries rows (suc levels) oid 0) es)
            (sym (ap (flat_map E) root.pairs ∙ ap (λ (es : List (ℕ × ℕ)). entries new (suc levels) left 0 ++ es) (append-nil (entries new (suc levels) right mid)) ∙ halves.entries))
            content.entries;
        times = λ x.
            let f : ℕ × ℕ → ℕ = λ (p : ℕ × ℕ). times new (suc levels) p.1 x in
            omega (
              arith,
              ap (total f) root.pairs,
              halves.times x,
              content.times x,
              used-more made levels x (omega arith),
              used-more made (suc levels) x inside,
              used-made made (suc (suc levels)) x,
            );
      }

  after_handed : (handed : Option (ℕ × ℕ)) → Content rows new made key levels (pairs_of (rows oid)) (pairs_with handed (pairs_of (rows oid))) 0 (2 ^ 64) → IsRootWritten rows new made levels oid handed → IsRootAfter rows new made key levels oid
  after_handed None content written = after_grown (After-none rows new made key found given some small record_row levels 0 oid 0 (2 ^ 64) before (omega arith) content (written.same refl))
  after_handed (Some pair) content written =
      let place = place_at rows levels oid in
      let left = slice_index made (suc levels) in
      let right = slice_index made (suc (suc levels)) in
      let qs = with_pair pair (pairs_of (rows oid)) in
      let three : List (ℕ × List ℕ) = (oid, node_row (record { leaf = false; pairs = cut_root place left right pair })) ∷ (left, row_with place (take 4 qs)) ∷ (right, row_with place (drop 4 qs)) ∷ [] in
      let one : List (ℕ × List ℕ) = (oid, row_with place qs) ∷ [] in
      elim (is_full place) as (λ b. is_full place ≡ b → Each (λ (w : ℕ × List ℕ). new w.0 ≡ w.1) (cond b three one) → IsRootAfter rows new made key levels oid) [
        | true ↦ λ full there. after_cut pair content full (written.enough pair refl full) there.0 there.1.0 there.1.1.0
        | false ↦ λ room there. after_grown (After-room rows new made key found given some small record_row levels 0 oid 0 (2 ^ 64) before (omega arith) pair content room there.0)
      ] refl written.rows_there

  -- the root has the tree with the key
  pub IsRootAfter-written : AreWritten rows new made key levels (child_for key (pairs_of (rows oid))) → IsRootWritten rows new made levels oid (hands rows made key levels (child_for key (pairs_of (rows oid)))) → IsRootAfter rows new made key levels oid
  IsRootAfter-written written root_written =
      after_handed (hands rows made key levels (child_for key (pairs_of (rows oid))))
      (Content-all rows new made key found given some small record_row levels 0 oid 0 (2 ^ 64) before written) root_written
