-- All trees on the way to a key as it is put in.
use Rattle.std.proofs.Common.{◌≡◌, ℕ, zero, suc, ◌+◌, ◌^◌, ◌<◌, ◌≤◌, List, [], ◌∷◌, ◌++◌, length, true, Option, Some, None, refl, sym, ap, ◌∙◌, subst, arith, append_assoc}
use Rattle.std.specs.Prelude.{◌==◌, nat_eq, flat_map, slice_index}
use Rattle.std.specs.Map.{lookup}
use Rattle.std.proofs.lemmas.List.{append-nil}
use Rattle.erm_model.specs.Rows.{Rows}
use Rattle.erm_record.specs.Record.{IsRecord}
use Rattle.erm_node.specs.Node.{Shape, node_of, node_row, pairs_of, is_node}
use Rattle.erm_node.specs.Tree.{Fan, first_key, total, same_oid, Starts, IsTree, entries, times}
use Rattle.erm_tree.specs.Insert.{child_for, with_pair}
use Rattle.erm_tree.proofs.Fans.{total-append, flat_map-append, Fan-append, Fan-front, Fan-back}
use Rattle.erm_tree.proofs.Trees.{lookup-Fan_inside, lookup-entries_outside}
use Rattle.erm_tree.proofs.Nodes.{AreNarrow, AreNarrow-append, AreNarrow-front, AreNarrow-back}
use Rattle.erm_node.proofs.Frames.{IsKeptFan, IsKeptFan-frame}
use Rattle.erm_tree.proofs.Insertion.{Inserted, Inserted-between, with_pair-split}
use Rattle.erm_tree.proofs.Growth.{on_path, on_path-times, HasPairFor, has_pair_for, hands, pairs_with, Content, Grown, Cut, After, Before, AreWritten, narrow_pairs, Content-leaf, After-content}

module _ (rows new : Rows) (made : List ℕ) (key : ℕ)
    (found : (row : List ℕ) (shape : Shape) → node_of row ≡ Some shape → (is_node shape ≡ true) × (row ≡ node_row shape)) (given : (shape : Shape) → is_node shape ≡ true → node_of (node_row shape) ≡ Some shape)
    (some : 0 < length made) (small : (i : ℕ) → i < length made → slice_index made i < 2 ^ 32) (record_row : IsRecord (new (slice_index made 0))) where
  module _ (levels least oid lo hi : ℕ) (before : Before rows new key (suc (suc levels)) least oid lo hi) where
    -- the child for the key
    pub has : HasPairFor rows key oid hi
    has = has_pair_for found rows key levels least oid lo hi before.tree before.low before.high

    abbrev P : ℕ → ℕ → ℕ → Type 0
    P c f t = IsTree rows (suc levels) 4 c f t

    abbrev Q : ℕ → ℕ → ℕ → Type 0
    Q c f t = IsTree new (suc levels) 4 c f t

    split_fan : Fan P (has.is_for.before ++ has.pair ∷ has.is_for.rest) hi
    split_fan = subst (λ (ps : List (ℕ × ℕ)). Fan P ps hi) has.is_for.split before.tree.fan

    child_tree : IsTree rows (suc levels) 4 has.pair.1 has.pair.0 has.to
    child_tree = subst (λ (t : ℕ). P has.pair.1 has.pair.0 t) (sym has.is_for.end) (Fan-back P has.is_for.before (has.pair ∷ has.is_for.rest) hi split_fan).0

    -- what the parts of the node reach
    sum_split : (x : ℕ) → total (λ p. times rows (suc levels) p.1 x) (pairs_of (rows oid)) ≡ total (λ p. times rows (suc levels) p.1 x) has.is_for.before + (times rows (suc levels) has.pair.1 x + total (λ p. times rows (suc levels) p.1 x) has.is_for.rest)
    sum_split x =
        let f : ℕ × ℕ → ℕ = λ (p : ℕ × ℕ). times rows (suc levels) p.1 x in
        ap (total f) has.is_for.split ∙ total-append f has.is_for.before (has.pair ∷ has.is_for.rest)

    way : (x : ℕ) → on_path rows key (suc (suc levels)) oid x ≡ same_oid oid x + on_path rows key (suc levels) has.pair.1 x
    way x = ap (λ (c : ℕ). same_oid oid x + on_path rows key (suc levels) c x) has.child

    way_below : (x : ℕ) → on_path rows key (suc levels) has.pair.1 x ≤ times rows (suc levels) has.pair.1 x
    way_below x = on_path-times found rows key (suc levels) 4 has.pair.1 has.pair.0 has.to child_tree has.is_for.low has.is_for.high x

    -- the child for the key has what the node has
    pub Before-child : Before rows new key (suc levels) 4 has.pair.1 has.pair.0 has.to
    Before-child =
        let E : ℕ → ℕ → List (ℕ × ℕ) = λ c f. entries rows (suc levels) c f in
        let each : ℕ × ℕ → List (ℕ × ℕ) = λ (p : ℕ × ℕ). E p.1 p.0 in
        let high : key < first_key has.is_for.rest hi = subst (λ (t : ℕ). key < t) has.is_for.end has.is_for.high in
        record {
          tree = child_tree;
          low = has.is_for.low;
          high = has.is_for.high;
          absent =
              sym (lookup-Fan_inside E P (λ c f t q inside wide out. lookup-entries_outside rows (suc levels) 4 c f t q inside wide out) has.is_for.before has.pair has.is_for.rest hi key split_fan has.is_for.low high)
              ∙ ap (λ (ps : List (ℕ × ℕ)). lookup (nat_eq key) (flat_map each ps)) (sym has.is_for.split)
              ∙ before.absent;
          once = λ x. omega (arith, before.once x, sum_split x);
          same = λ x reached off. before.same x (omega (arith, sum_split x)) (omega (arith, way x, before.once x, sum_split x));
        }

    kept_front : IsKeptFan rows new (suc levels) has.is_for.before has.pair.0
    kept_front = IsKeptFan-frame rows new (suc levels) has.is_for.before has.pair.0 (Fan-front P has.is_for.before (has.pair ∷ has.is_for.rest) hi split_fan)
        (λ x reached. before.same x (omega (arith, sum_split x)) (omega (arith, way x, way_below x, before.once x, sum_split x)))

    kept_rest : IsKeptFan rows new (suc levels) has.is_for.rest hi
    kept_rest = IsKeptFan-frame rows new (suc levels) has.is_for.rest hi (Fan-back P has.is_for.before (has.pair ∷ has.is_for.rest) hi split_fan).2
        (λ x reached. before.same x (omega (arith, sum_split x)) (omega (arith, way x, way_below x, before.once x, sum_split x)))

    narrow : AreNarrow (has.is_for.before ++ has.pair ∷ has.is_for.rest)
    narrow = subst AreNarrow has.is_for.split (narrow_pairs rows new made key found given some small record_row (suc levels) least oid lo hi before.tree).1

    -- the child stands where it stood
    Content-grown : Grown rows new made key (suc levels) 4 has.pair.1 has.pair.0 has.to → Content rows new made key (suc levels) (pairs_of (rows oid)) (pairs_of (rows oid)) lo hi
    Content-grown grown =
        let b = has.is_for.before in
        let c = has.pair in
        let r = has.is_for.rest in
        let E : ℕ × ℕ → List (ℕ × ℕ) = λ (p : ℕ × ℕ). entries rows (suc levels) p.1 p.0 in
        let F : ℕ × ℕ → List (ℕ × ℕ) = λ (p : ℕ × ℕ). entries new (suc levels) p.1 p.0 in
        let old : flat_map E (pairs_of (rows oid)) ≡ flat_map E b ++ (E c ++ flat_map E r) = ap (flat_map E) has.is_for.split ∙ flat_map-append E b (c ∷ r) in
        let now : flat_map F (pairs_of (rows oid)) ≡ flat_map E b ++ (F c ++ flat_map E r) =
        ap (flat_map F) has.is_for.split ∙ flat_map-append F b (c ∷ r) ∙ ap (λ (es : List (ℕ × ℕ)). es ++ (F c ++ flat_map F r)) kept_front.entries ∙ ap (λ (es : List (ℕ × ℕ)). flat_map E b ++ (F c ++ es)) kept_rest.entries in
        let o = slice_index made 0 in
        let between = Inserted-between key o (E c) (F c) (flat_map E b) (flat_map E r) grown.entries in
        let tree : Q c.1 c.0 (first_key r hi) = subst (λ (t : ℕ). Q c.1 c.0 t) has.is_for.end grown.tree in
        let wide = (Fan-back P b (c ∷ r) hi split_fan).1 in
        record {
          fan = subst (λ (ps : List (ℕ × ℕ)). Fan Q ps hi) (sym has.is_for.split) (Fan-append Q b (c ∷ r) hi kept_front.fan (tree, wide, kept_rest.fan));
          starts = before.tree.starts;
          narrow = subst AreNarrow (sym has.is_for.split) narrow;
          entries = subst (λ (es : List (ℕ × ℕ)). Inserted key o es (flat_map F (pairs_of (rows oid)))) (sym old) (subst (λ (es : List (ℕ × ℕ)). Inserted key o (flat_map E b ++ (E c ++ flat_map E r)) es) (sym now) between);
          times = λ x.
              let f : ℕ × ℕ → ℕ = λ (p : ℕ × ℕ). times new (suc levels) p.1 x in
              omega (arith, ap (total f) has.is_for.split, total-append f b (c ∷ r), sum_split x, kept_front.times x, kept_rest.times x, grown.times x);
        }

    first_stays : (b r s : List (ℕ × ℕ)) (c : ℕ × ℕ) → first_key ((b ++ c ∷ []) ++ s) lo ≡ first_key (b ++ c ∷ r) lo
    first_stays [] r s c = refl
    first_stays (p ∷ ps) r s c = refl

    -- the child was cut
    Content-cut : (mid right : ℕ) → Cut rows new made key (suc levels) has.pair.1 has.pair.0 has.to mid right → Content rows new made key (suc levels) (pairs_of (rows oid)) (with_pair (mid, right) (pairs_of (rows oid))) lo hi
    Content-cut mid right cut =
        let b = has.is_for.before in
        let c = has.pair in
        let r = has.is_for.rest in
        let xs = b ++ c ∷ [] in
        let qs = xs ++ (mid, right) ∷ r in
        let E : ℕ × ℕ → List (ℕ × ℕ) = λ (p : ℕ × ℕ). entries rows (suc levels) p.1 p.0 in
        let F : ℕ × ℕ → List (ℕ × ℕ) = λ (p : ℕ × ℕ). entries new (suc levels) p.1 p.0 in
        let o = slice_index made 0 in
        let whole : pairs_of (rows oid) ≡ xs ++ r = has.is_for.split ∙ sym (append_assoc b (c ∷ []) r) in
        let high : mid < first_key r hi = subst (λ (t : ℕ). mid < t) has.is_for.end cut.high in
        let front : Fan Q xs mid = Fan-append Q b (c ∷ []) mid kept_front.fan (cut.left_tree, cut.low, tt) in
        let is : with_pair (mid, right) (pairs_of (rows oid)) ≡ qs = ap (with_pair (mid, right)) whole ∙ with_pair-split Q mid right xs r hi front high in
        let right_tree : Q right mid (first_key r hi) = subst (λ (t : ℕ). Q right mid t) has.is_for.end cut.right_tree in
        let old : flat_map E (pairs_of (rows oid)) ≡ flat_map E b ++ (E c ++ flat_map E r) = ap (flat_map E) has.is_for.split ∙ flat_map-append E b (c ∷ r) in
        let left : flat_map F xs ≡ flat_map E b ++ F c = flat_map-append F b (c ∷ []) ∙ ap (λ (es : List (ℕ × ℕ)). es ++ (F c ++ [])) kept_front.entries ∙ ap (λ (es : List (ℕ × ℕ)). flat_map E b ++ es) (append-nil (F c)) in
        let now : flat_map F qs ≡ flat_map E b ++ ((F c ++ F (mid, right)) ++ flat_map E r) =
        flat_map-append F xs ((mid, right) ∷ r)
        ∙ ap (λ (es : List (ℕ × ℕ)). es ++ (F (mid, right) ++ flat_map F r)) left
        ∙ ap (λ (es : List (ℕ × ℕ)). (flat_map E b ++ F c) ++ (F (mid, right) ++ es)) kept_rest.entries
        ∙ append_assoc (flat_map E b) (F c) (F (mid, right) ++ flat_map E r)
        ∙ ap (λ (es : List (ℕ × ℕ)). flat_map E b ++ es) (sym (append_assoc (F c) (F (mid, right)) (flat_map E r))) in
        let between = Inserted-between key o (E c) (F c ++ F (mid, right)) (flat_map E b) (flat_map E r) cut.entries in
        let content : Content rows new made key (suc levels) (pairs_of (rows oid)) qs lo hi = record {
          fan = Fan-append Q xs ((mid, right) ∷ r) hi front (right_tree, high, kept_rest.fan);
          starts = subst (λ (k : ℕ). Starts (suc levels == 0) lo k) (sym (first_stays b r ((mid, right) ∷ r) c ∙ ap (λ (ps : List (ℕ × ℕ)). first_key ps lo) (sym has.is_for.split))) before.tree.starts;
          narrow = AreNarrow-append xs ((mid, right) ∷ r) (AreNarrow-append b (c ∷ []) (AreNarrow-front b (c ∷ r) narrow) ((AreNarrow-back b (c ∷ r) narrow).0, tt)) (cut.narrow, (AreNarrow-back b (c ∷ r) narrow).1);
          entries = subst (λ (es : List (ℕ × ℕ)). Inserted key o es (flat_map F qs)) (sym old) (subst (λ (es : List (ℕ × ℕ)). Inserted key o (flat_map E b ++ (E c ++ flat_map E r)) es) (sym now) between);
          times = λ x.
              let f : ℕ × ℕ → ℕ = λ (p : ℕ × ℕ). times new (suc levels) p.1 x in
              omega (arith, total-append f xs ((mid, right) ∷ r), total-append f b (c ∷ []), sum_split x, kept_front.times x, kept_rest.times x, cut.times x);
        } in
        subst (λ (ps : List (ℕ × ℕ)). Content rows new made key (suc levels) (pairs_of (rows oid)) ps lo hi) (sym is) content

    -- by what the child hands up
    pub Content-inner : (handed : Option (ℕ × ℕ)) → After rows new made key (suc levels) has.pair.1 has.pair.0 has.to handed → Content rows new made key (suc levels) (pairs_of (rows oid)) (pairs_with handed (pairs_of (rows oid))) lo hi
    Content-inner None after = Content-grown after
    Content-inner (Some pair) after = Content-cut pair.0 pair.1 after

  -- each node on the way has the pairs that it should have
  pub Content-all : (levels least oid lo hi : ℕ) → Before rows new key (suc levels) least oid lo hi → AreWritten rows new made key levels (child_for key (pairs_of (rows oid)))
      → Content rows new made key levels (pairs_of (rows oid)) (pairs_with (hands rows made key levels (child_for key (pairs_of (rows oid)))) (pairs_of (rows oid))) lo hi
  Content-all zero least oid lo hi before written = Content-leaf rows new made key found given some small record_row least oid lo hi before
  Content-all (suc levels) least oid lo hi before written =
      let h = has levels least oid lo hi before in
      let child_before = Before-child levels least oid lo hi before in
      let child_written : AreWritten rows new made key (suc levels) h.pair.1 = subst (λ (c : ℕ). AreWritten rows new made key (suc levels) c) h.child written in
      let content = Content-all levels 4 h.pair.1 h.pair.0 h.to child_before child_written.0 in
      let wide : h.pair.0 < h.to = omega (arith, h.is_for.low, h.is_for.high) in
      let after = After-content rows new made key found given some small record_row levels h.pair.1 h.pair.0 h.to child_before wide (hands rows made key levels (child_for key (pairs_of (rows h.pair.1)))) content child_written.1 in
      subst (λ (c : ℕ). Content rows new made key (suc levels) (pairs_of (rows oid)) (pairs_with (hands rows made key (suc levels) c) (pairs_of (rows oid))) lo hi) (sym h.child)
      (Content-inner levels least oid lo hi before (hands rows made key (suc levels) h.pair.1) after)
