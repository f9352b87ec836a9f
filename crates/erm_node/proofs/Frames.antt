-- Trees whose objects all keep their rows stay as they are.
use Rattle.std.proofs.Common.{◌≡◌, ℕ, zero, suc, ◌<◌, ◌≤◌, List, [], ◌∷◌, ◌++◌, length, Some, refl, sym, ap, ◌∙◌, subst, arith}
use Rattle.std.specs.Prelude.{◌==◌, flat_map}
use Rattle.std.proofs.lemmas.Bool.Decides.{nat_tests}
use Rattle.erm_model.specs.Rows.{Rows}
use Rattle.erm_record.specs.Record.{IsRecord}
use Rattle.erm_node.specs.Node.{node_of, pairs_of}
use Rattle.erm_node.specs.Tree.{Fan, first_key, total, same_oid, Starts, IsTree, entries, times}

same_oid-itself : (oid : ℕ) → same_oid oid oid ≡ 1
same_oid-itself oid = grind (arith, nat_tests)

-- a tree is the same in other rows
pub record IsKept (rows new : Rows) (levels least oid lo hi : ℕ) : Type 0 where
  pub tree : IsTree new levels least oid lo hi
  pub entries : entries new levels oid lo ≡ entries rows levels oid lo
  pub times : (x : ℕ) → times new levels oid x ≡ times rows levels oid x

-- so are the trees of pairs
pub record IsKeptFan (rows new : Rows) (levels : ℕ) (ps : List (ℕ × ℕ)) (hi : ℕ) : Type 0 where
  pub fan : Fan (λ child from to. IsTree new levels 4 child from to) ps hi
  pub entries : flat_map (λ pair. entries new levels pair.1 pair.0) ps ≡ flat_map (λ pair. entries rows levels pair.1 pair.0) ps
  pub times : (x : ℕ) → total (λ pair. times new levels pair.1 x) ps ≡ total (λ pair. times rows levels pair.1 x) ps

module _ (rows new : Rows) where
  IsKeptFan-each : (levels : ℕ) → ((oid lo hi : ℕ) → IsTree rows levels 4 oid lo hi → ((x : ℕ) → 0 < times rows levels oid x → new x ≡ rows x) → IsKept rows new levels 4 oid lo hi)
      → (ps : List (ℕ × ℕ)) (hi : ℕ) → Fan (λ child from to. IsTree rows levels 4 child from to) ps hi → ((x : ℕ) → 0 < total (λ pair. times rows levels pair.1 x) ps → new x ≡ rows x) → IsKeptFan rows new levels ps hi
  IsKeptFan-each levels each [] hi fan same = record { fan = tt; entries = refl; times = λ x. refl }
  IsKeptFan-each levels each (p ∷ ps) hi fan same =
      let here = each p.1 p.0 (first_key ps hi) fan.0 (λ x some. same x (omega arith)) in
      let there = IsKeptFan-each levels each ps hi fan.2 (λ x some. same x (omega arith)) in
      record {
        fan = (here.tree, fan.1, there.fan);
        entries =
            ap (λ (es : List (ℕ × ℕ)). es ++ flat_map (λ pair. entries new levels pair.1 pair.0) ps) here.entries
            ∙ ap (λ (es : List (ℕ × ℕ)). entries rows levels p.1 p.0 ++ es) there.entries;
        times = λ x. omega (arith, here.times x, there.times x);
      }

  -- a tree whose objects all keep their rows
  pub IsKept-frame : (levels least oid lo hi : ℕ) → IsTree rows levels least oid lo hi → ((x : ℕ) → 0 < times rows levels oid x → new x ≡ rows x) → IsKept rows new levels least oid lo hi
  IsKept-frame zero least oid lo hi tree same = record {
    tree = subst IsRecord (sym (same oid (omega (arith, same_oid-itself oid)))) tree;
    entries = refl;
    times = λ x. refl;
  }
  IsKept-frame (suc levels) least oid lo hi tree same =
      let row = same oid (omega (arith, same_oid-itself oid)) in
      let pairs : pairs_of (new oid) ≡ pairs_of (rows oid) = ap pairs_of row in
      let kept = IsKeptFan-each levels (λ c f t is so. IsKept-frame levels 4 c f t is so) (pairs_of (rows oid)) hi tree.fan (λ x some. same x (omega arith)) in
      record {
        tree = record {
          node = ap node_of row ∙ tree.node ∙ ap (λ (ps : List (ℕ × ℕ)). Some (record { leaf = levels == 0; pairs = ps })) (sym pairs);
          enough = subst (λ (ps : List (ℕ × ℕ)). least ≤ length ps) (sym pairs) tree.enough;
          starts = subst (λ (ps : List (ℕ × ℕ)). Starts (levels == 0) lo (first_key ps lo)) (sym pairs) tree.starts;
          fan = subst (λ (ps : List (ℕ × ℕ)). Fan (λ child from to. IsTree new levels 4 child from to) ps hi) (sym pairs) kept.fan;
        };
        entries = ap (flat_map (λ pair. entries new levels pair.1 pair.0)) pairs ∙ kept.entries;
        times = λ x. omega (arith, ap (total (λ pair. times new levels pair.1 x)) pairs, kept.times x);
      }

  -- the trees of pairs whose objects all keep their rows
  pub IsKeptFan-frame : (levels : ℕ) (ps : List (ℕ × ℕ)) (hi : ℕ) → Fan (λ child from to. IsTree rows levels 4 child from to) ps hi → ((x : ℕ) → 0 < total (λ pair. times rows levels pair.1 x) ps → new x ≡ rows x) → IsKeptFan rows new levels ps hi
  IsKeptFan-frame levels ps hi fan same = IsKeptFan-each levels (λ c f t is so. IsKept-frame levels 4 c f t is so) ps hi fan same
