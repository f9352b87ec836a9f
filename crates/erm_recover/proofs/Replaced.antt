-- Sound rows in which a record takes the place of a record.
use Rattle.std.proofs.Common.{◌≡◌, ℕ, zero, suc, ◌+◌, ◌^◌, ◌<◌, ◌≤◌, Bool, true, false, List, [], ◌∷◌, length, Option, Some, None, refl, sym, ap, ◌∙◌, subst, inl, inr, arith}
use Rattle.std.specs.Prelude.{◌==◌, IsTrue, if◌then◌else◌, option_and_then}
use Rattle.std.specs.Bool.{OnTrue}
use Rattle.std.specs.Option.{option_map_or}
use Rattle.std.proofs.lemmas.Bool.{cases_eq}
use Rattle.erm_model.specs.declared.limits.TheConstants.{OID_LIMIT}
use Rattle.erm_model.specs.Rows.{Rows, set_row}
use Rattle.erm_record.specs.Record.{IsRecord}
use Rattle.erm_node.specs.Node.{Shape, child_of, first_child, node_of, pairs_of}
use Rattle.erm_node.specs.Sound.{IsSound, inner_levels, levels_of, reached, reached_below}
use Rattle.erm_node.specs.Tree.{Fan, IsTree, Starts, first_key, same_oid, times, total}
use Rattle.erm_node.proofs.Levels.{levels_of-root}
use Rattle.erm_node.proofs.Reached.{reached-is}
use Rattle.erm_recover.proofs.SetRows.{is_other, is_same}

child_levels : (f g : ℕ → ℕ) → ((x : ℕ) → f x ≡ g x) → (child : Option ℕ) → option_map_or (λ c. suc (f c)) child 0 ≡ option_map_or (λ c. suc (g c)) child 0
child_levels f g same None = refl
child_levels f g same (Some c) = ap (λ (n : ℕ). suc n) (same c)

total_same : (f g : ℕ → ℕ) → ((x : ℕ) → f x ≡ g x) → (ps : List (ℕ × ℕ)) → total (λ pair. f pair.1) ps ≡ total (λ pair. g pair.1) ps
total_same f g same [] = refl
total_same f g same (p ∷ ps) = omega (arith, same p.1, total_same f g same ps)

fan_same : (P Q : ℕ → ℕ → ℕ → Type 0) → ((oid lo hi : ℕ) → P oid lo hi → Q oid lo hi) → (ps : List (ℕ × ℕ)) (hi : ℕ) → Fan P ps hi → Fan Q ps hi
fan_same P Q each [] hi fan = tt
fan_same P Q each (p ∷ ps) hi fan = (each p.1 p.0 (first_key ps hi) fan.0, fan.1, fan_same P Q each ps hi fan.2)

module _ (rows new : Rows) (nodes : (x : ℕ) → node_of (new x) ≡ node_of (rows x)) (records : (x : ℕ) → IsRecord (rows x) → IsRecord (new x)) where
  same_pairs : (x : ℕ) → pairs_of (new x) ≡ pairs_of (rows x)
  unfolding pairs_of
  same_pairs x = ap (λ (o : Option Shape). option_map_or (λ shape. shape.pairs) o []) (nodes x)

  same_child : (x : ℕ) → first_child (new x) ≡ first_child (rows x)
  unfolding first_child
  same_child x = ap (option_and_then (λ (shape : Shape). child_of shape.leaf shape.pairs)) (nodes x)

  same_inner : (limit oid : ℕ) → inner_levels new limit oid ≡ inner_levels rows limit oid
  same_inner zero oid = refl
  same_inner (suc limit) oid =
      ap (λ (child : Option ℕ). option_map_or (λ c. suc (inner_levels new limit c)) child 0) (same_child oid)
      ∙ child_levels (inner_levels new limit) (inner_levels rows limit) (λ x. same_inner limit x) (first_child (rows oid))

  same_levels : (oid : ℕ) → levels_of new oid ≡ levels_of rows oid
  same_levels oid = omega (arith, levels_of-root new oid, levels_of-root rows oid, same_inner 11 oid)

  same_times : (levels oid x : ℕ) → times new levels oid x ≡ times rows levels oid x
  same_times zero oid x = refl
  same_times (suc levels) oid x =
      let pairs = ap (total (λ pair. times new levels pair.1 x)) (same_pairs oid) in
      let each = total_same (λ (child : ℕ). times new levels child x) (λ (child : ℕ). times rows levels child x) (λ child. same_times levels child x) (pairs_of (rows oid)) in
      omega (arith, pairs, each)

  same_tree : (levels least oid lo hi : ℕ) → IsTree rows levels least oid lo hi → IsTree new levels least oid lo hi
  same_tree zero least oid lo hi tree = records oid tree
  same_tree (suc levels) least oid lo hi tree =
      let pairs = same_pairs oid in
      let fan = fan_same (λ child from to. IsTree rows levels 4 child from to) (λ child from to. IsTree new levels 4 child from to) (λ c f t is. same_tree levels 4 c f t is) (pairs_of (rows oid)) hi tree.fan in
      record {
        node = nodes oid ∙ tree.node ∙ ap (λ (ps : List (ℕ × ℕ)). Some (record { leaf = levels == 0; pairs = ps })) (sym pairs);
        enough = subst (λ (ps : List (ℕ × ℕ)). least ≤ length ps) (sym pairs) tree.enough;
        starts = subst (λ (ps : List (ℕ × ℕ)). Starts (levels == 0) lo (first_key ps lo)) (sym pairs) tree.starts;
        fan = subst (λ (ps : List (ℕ × ℕ)). Fan (λ child from to. IsTree new levels 4 child from to) ps hi) (sym pairs) fan;
      }

  same_below : (n x : ℕ) → reached_below new n x ≡ reached_below rows n x
  same_below zero x = refl
  same_below (suc n) x = omega (arith, same_below n x, ap (λ (levels : ℕ). times new levels n x) (same_levels n), same_times (levels_of rows n) n x)

  same_reached : (x : ℕ) → reached new x ≡ reached rows x
  same_reached x = reached-is new x ∙ same_below 16 x ∙ sym (reached-is rows x)

  still_sound : IsSound rows → IsSound new
  still_sound sound = record {
    trees = λ table below. subst (λ (levels : ℕ). IsTree new levels 0 table 0 (2 ^ 64)) (sym (same_levels table)) (same_tree (levels_of rows table) 0 table 0 (2 ^ 64) (sound.trees table below));
    once = λ x. omega (arith, same_reached x, sound.once x);
    bounded = λ x above. omega (arith, same_reached x, sound.bounded x above);
  }

set_at : (P : List ℕ → Type 0) (rows : Rows) (oid x : ℕ) (row : List ℕ) → (x ≡ oid → P row) → P (rows x) → P (set_row rows oid row x)
set_at P rows oid x row here there = elim (cases_eq x oid) as (λ _. P (set_row rows oid row x)) [
  | inl same ↦ subst (λ (t : Bool). P (if t then row else rows x)) (sym (is_same x oid same)) (here same)
  | inr other ↦ subst (λ (t : Bool). P (if t then row else rows x)) (sym (is_other x oid other)) there
]

record_for : (no_node : (row : List ℕ) → IsRecord row → node_of row ≡ None) (rows : Rows) (oid : ℕ) (row : List ℕ) → IsRecord (rows oid) → IsRecord row → IsSound rows → IsSound (set_row rows oid row)
record_for no_node rows oid row was is sound =
    still_sound rows (set_row rows oid row)
    (λ x. set_at (λ (r : List ℕ). node_of r ≡ node_of (rows x)) rows oid x row (λ same. no_node row is ∙ sym (ap (λ (y : ℕ). node_of (rows y)) same ∙ no_node (rows oid) was)) refl)
    (λ x old. set_at IsRecord rows oid x row (λ same. is) old) sound

-- a record's row may take the place of a record's
pub records_replace : (no_node : (row : List ℕ) → IsRecord row → node_of row ≡ None) (test : Bool) (before now : List ℕ) → (IsTrue test → IsRecord before × IsRecord now)
    → OnTrue test ((rows : Rows) (oid : ℕ) → IsSound rows → rows oid ≡ before → IsSound (set_row rows oid now))
records_replace no_node true before now are = λ rows oid sound was. let both = are refl in record_for no_node rows oid now (subst IsRecord (sym was) both.0) both.1 sound
records_replace no_node false before now are = tt
