-- The rows that are set as a new key is put into a table: they put it there.
use Rattle.std.proofs.Common.{◌≡◌, ℕ, zero, suc, ◌+◌, ◌<◌, ◌≤◌, List, [], ◌∷◌, map, length, Bool, true, false, cond, Option, Some, None, refl, ap, ◌∙◌, subst, inl, inr, arith}
use Rattle.std.specs.Prelude.{◌⊎◌, ◌==◌, slice_index, option_and_then}
use Rattle.std.specs.Option.{option_map_or}
use Rattle.std.proofs.lemmas.Bool.Decides.{nat_tests}
use Rattle.erm_model.specs.Rows.{Rows, set_row}
use Rattle.erm_model.specs.RowTransaction.{did_write, after_all}
use Rattle.erm_node.specs.Node.{pairs_of}
use Rattle.erm_node.specs.Tree.{total, same_oid}
use Rattle.erm_tree.specs.Insert.{Place, child_for, path_to, is_full, handed_on, node_rows, root_rows, handed_up, rows_below, new_rows, full_run, objects_for}
use Rattle.erm_tree.proofs.Fans.{total-append}
use Rattle.erm_tree.proofs.Insertion.{Each, Each-front, Each-back}
use Rattle.erm_tree.proofs.Growth.{used, used-less, used-more, used-made, used-first, on_path, hands, place_at, length-path_to, handed_up-path_to, AreWritten}
use Rattle.erm_tree.proofs.Roots.{IsRootWritten}
use Rattle.erm_tree.proofs.Runs.{full_run-less, full_run-more, handed_on-some, full_run-handed_up, objects_for-some, objects_for-all}

-- how often rows are set of an object
abbrev pub set_times : List (ℕ × List ℕ) → ℕ → ℕ
set_times ws x = total (λ w. same_oid w.0 x) ws

-- the rows after these are set
abbrev pub set_all : List (ℕ × List ℕ) → Rows → Rows
set_all ws rows = after_all (map (λ w. did_write w.0 w.1) ws) rows

same_oid-itself : (oid : ℕ) → same_oid oid oid ≡ 1
same_oid-itself oid = grind (arith, nat_tests)

other_oid : (oid x : ℕ) → same_oid oid x ≡ 0 → (x == oid) ≡ false
other_oid oid x none = grind (arith, nat_tests)

-- an object whose row isn't set keeps its row
pub set_all-other : (ws : List (ℕ × List ℕ)) (rows : Rows) (x : ℕ) → set_times ws x ≡ 0 → set_all ws rows x ≡ rows x
set_all-other [] rows x none = refl
set_all-other (w ∷ ws) rows x none =
    set_all-other ws (set_row rows w.0 w.1) x (omega arith) ∙ ap (λ (b : Bool). cond b w.1 (rows x)) (other_oid w.0 x (omega arith))

-- where none is set twice, each object has the row that was set
pub set_all-each : (ws : List (ℕ × List ℕ)) (rows : Rows) → ((x : ℕ) → set_times ws x ≤ 1) → Each (λ (w : ℕ × List ℕ). set_all ws rows w.0 ≡ w.1) ws
set_all-each [] rows once = tt
set_all-each (w ∷ ws) rows once =
    let itself : (w.0 == w.0) ≡ true = grind (arith, nat_tests) in (
      set_all-other ws (set_row rows w.0 w.1) w.0 (omega (arith, once w.0, same_oid-itself w.0)) ∙ ap (λ (b : Bool). cond b w.1 (rows w.0)) itself,
      set_all-each ws (set_row rows w.0 w.1) (λ x. omega (arith, once x)),
    )

-- what a node sets
part_times : (made : List ℕ) (place : Place) (n x : ℕ) (handed : Option (ℕ × ℕ)) → ((pair : ℕ × ℕ) → handed ≡ Some pair → is_full place ≡ true → suc n < length made)
    → used made n x + set_times (option_map_or (node_rows place (slice_index made (suc n))) handed []) x ≤ same_oid place.oid x + used made (suc n) x
part_times made place n x None inside = omega (arith, used-less made n x)
part_times made place n x (Some pair) inside =
    let right = slice_index made (suc n) in
    let counts : (b : Bool) → is_full place ≡ b → (two one : List (ℕ × List ℕ)) → set_times two x ≡ same_oid place.oid x + same_oid right x → set_times one x ≡ same_oid place.oid x → used made n x + set_times (cond b two one) x ≤ same_oid place.oid x + used made (suc n) x =
    elim [
      | true ↦ λ full two one both single. omega (arith, both, used-more made n x (inside pair refl full))
      | false ↦ λ room two one both single. omega (arith, single, used-less made n x)
    ] in
    counts (is_full place) refl _ _ (omega arith) (omega arith)

-- what the root sets
root_times : (made : List ℕ) (place : Place) (n x : ℕ) (handed : Option (ℕ × ℕ)) → ((pair : ℕ × ℕ) → handed ≡ Some pair → is_full place ≡ true → suc (suc n) < length made)
    → used made n x + set_times (option_map_or (root_rows place (slice_index made (suc n)) (slice_index made (suc (suc n)))) handed []) x ≤ same_oid place.oid x + total (λ o. same_oid o x) made
root_times made place n x None inside = omega (arith, used-made made n x)
root_times made place n x (Some pair) inside =
    let left = slice_index made (suc n) in
    let right = slice_index made (suc (suc n)) in
    let counts : (b : Bool) → is_full place ≡ b → (three one : List (ℕ × List ℕ)) → set_times three x ≡ same_oid place.oid x + same_oid left x + same_oid right x → set_times one x ≡ same_oid place.oid x → used made n x + set_times (cond b three one) x ≤ same_oid place.oid x + total (λ o. same_oid o x) made =
    elim [
      | true ↦ λ full three one all single. let more = inside pair refl full in omega (arith, all, used-more made n x (omega arith), used-more made (suc n) x more, used-made made (suc (suc n)) x)
      | false ↦ λ room three one all single. omega (arith, single, used-made made n x)
    ] in
    counts (is_full place) refl _ _ (omega arith) (omega arith)

module _ (rows : Rows) (made : List ℕ) (key : ℕ) (row : List ℕ) (some : 0 < length made) where
  abbrev path : ℕ → ℕ → List Place
  path n oid = path_to rows n oid key

  -- where a pair comes up to a full node, there is an object for it
  inside_at : (n oid : ℕ) → full_run (path (suc n) oid) + 1 ≤ length made → (pair : ℕ × ℕ) → handed_up made key (path n (child_for key (pairs_of (rows oid)))) ≡ Some pair → is_full (place_at rows n oid) ≡ true → suc n < length made
  inside_at n oid enough pair handed full =
      let below = path n (child_for key (pairs_of (rows oid))) in
      omega (arith, full_run-more (place_at rows n oid) below (full_run-handed_up made key below pair handed) full, length-path_to rows key n (child_for key (pairs_of (rows oid))))

  -- the part of a node, told by its number of levels
  part : (n oid : ℕ) → option_map_or (node_rows (place_at rows n oid) (slice_index made (suc (length (path n (child_for key (pairs_of (rows oid)))))))) (handed_up made key (path n (child_for key (pairs_of (rows oid))))) []
      ≡ option_map_or (node_rows (place_at rows n oid) (slice_index made (suc n))) (handed_up made key (path n (child_for key (pairs_of (rows oid))))) []
  part n oid =
      let child = child_for key (pairs_of (rows oid)) in
      ap (λ (m : ℕ). option_map_or (node_rows (place_at rows n oid) (slice_index made (suc m))) (handed_up made key (path n child)) []) (length-path_to rows key n child)

  set_times-rows_below : (n oid x : ℕ) → full_run (path n oid) + 1 ≤ length made → set_times (rows_below made key row (path n oid)) x ≤ on_path rows key n oid x + used made n x
  set_times-rows_below zero oid x enough = omega (arith, used-first made x some)
  set_times-rows_below (suc n) oid x enough =
      let child = child_for key (pairs_of (rows oid)) in
      let below = path n child in
      let handed = handed_up made key below in
      let less : full_run below + 1 ≤ length made = omega (arith, full_run-less (place_at rows n oid) below) in
      omega (
        arith,
        total-append (λ (w : ℕ × List ℕ). same_oid w.0 x) (rows_below made key row below) (option_map_or (node_rows (place_at rows n oid) (slice_index made (suc (length below)))) handed []),
        ap (λ (ws : List (ℕ × List ℕ)). set_times ws x) (part n oid),
        part_times made (place_at rows n oid) n x handed (inside_at n oid enough),
        set_times-rows_below n child x less,
      )

  -- the record's row is among them
  record_row_set : (P : ℕ × List ℕ → Type 0) (places : List Place) → Each P (rows_below made key row places) → P (slice_index made 0, row)
  record_row_set P [] each = each.0
  record_row_set P (place ∷ below) each = record_row_set P below (Each-front P (rows_below made key row below) (option_map_or (node_rows place (slice_index made (suc (length below)))) (handed_up made key below) []) each)

  module _ (new : Rows) where
    -- Where the last nodes hand nothing up, what none of them sets stays.
    abbrev Stays : ℕ → ℕ → Type 0
    Stays n oid = handed_up made key (path n oid) ≡ None → (x : ℕ) → set_times (rows_below made key row (path n oid)) x ≡ 0 → new x ≡ rows x

    AreWritten-rows_below : (n oid : ℕ) → Each (λ (w : ℕ × List ℕ). new w.0 ≡ w.1) (rows_below made key row (path n oid)) → full_run (path n oid) + 1 ≤ length made → Stays n oid
        → ((x : ℕ) → on_path rows key n oid x ≤ 1) → ((x : ℕ) → 0 < on_path rows key n oid x → total (λ o. same_oid o x) made ≡ 0) → AreWritten rows new made key n oid
    AreWritten-rows_below zero oid each enough stays once fresh = tt
    AreWritten-rows_below (suc n) oid each enough stays once fresh =
        let child = child_for key (pairs_of (rows oid)) in
        let place = place_at rows n oid in
        let below = path n child in
        let handed = handed_up made key below in
        let told = handed_up-path_to rows made key n child in
        let last = option_map_or (node_rows place (slice_index made (suc (length below)))) handed [] in
        let less : full_run below + 1 ≤ length made = omega (arith, full_run-less place below) in
        let W : ℕ × List ℕ → Type 0 = λ (w : ℕ × List ℕ). new w.0 ≡ w.1 in
        let stays_below : Stays n child = λ none x unset.
        stays (ap (option_and_then (handed_on place (slice_index made (suc (length below))))) none) x
        (total-append (λ (w : ℕ × List ℕ). same_oid w.0 x) (rows_below made key row below) last
        ∙ omega (arith, unset, ap (λ (h : Option (ℕ × ℕ)). set_times (option_map_or (node_rows place (slice_index made (suc (length below)))) h []) x) none)) in (
          AreWritten-rows_below n child (Each-front W (rows_below made key row below) last each) less stays_below (λ x. omega (arith, once x)) (λ x on. fresh x (omega arith)),
          record {
            rows_there = subst (λ (h : Option (ℕ × ℕ)). Each W (option_map_or (node_rows place (slice_index made (suc n))) h [])) told
                (subst (λ (ws : List (ℕ × List ℕ)). Each W ws) (part n oid) (Each-back W (rows_below made key row below) last each));
            same = λ none.
                let here = same_oid-itself oid in
                stays_below (told ∙ none) oid (omega (arith, set_times-rows_below n child oid less, once oid, fresh oid (omega arith), used-made made n oid));
            enough = λ pair is.
                let (q, came, full) = handed_on-some place (slice_index made (suc n)) (hands rows made key n child) pair is in
                inside_at n oid enough q (told ∙ came) full;
          },
        )

  -- the rows that are set put the key into the table
  module _ (table n : ℕ) (many : length made ≡ objects_for (path (suc n) table)) where
    enough : full_run (path (suc n) table) + 1 ≤ length made
    enough = omega (arith, objects_for-some (path (suc n) table), many)

    inside_root : (pair : ℕ × ℕ) → handed_up made key (path n (child_for key (pairs_of (rows table)))) ≡ Some pair → is_full (place_at rows n table) ≡ true → suc (suc n) < length made
    inside_root pair handed full =
        let below = path n (child_for key (pairs_of (rows table))) in
        let run = full_run-more (place_at rows n table) below (full_run-handed_up made key below pair handed) full in
        let length_is = length-path_to rows key n (child_for key (pairs_of (rows table))) in
        omega (arith, objects_for-all (path (suc n) table) run, many, length_is)

    root_part : option_map_or (root_rows (place_at rows n table) (slice_index made (suc (length (path n (child_for key (pairs_of (rows table))))))) (slice_index made (suc (suc (length (path n (child_for key (pairs_of (rows table))))))))) (handed_up made key (path n (child_for key (pairs_of (rows table))))) []
        ≡ option_map_or (root_rows (place_at rows n table) (slice_index made (suc n)) (slice_index made (suc (suc n)))) (handed_up made key (path n (child_for key (pairs_of (rows table))))) []
    root_part =
        let child = child_for key (pairs_of (rows table)) in
        ap (λ (m : ℕ). option_map_or (root_rows (place_at rows n table) (slice_index made (suc m)) (slice_index made (suc (suc m)))) (handed_up made key (path n child)) []) (length-path_to rows key n child)

    -- no object's row is set more often than it is on the way or made
    pub set_times-new_rows : (x : ℕ) → set_times (new_rows made key row (path (suc n) table)) x ≤ on_path rows key (suc n) table x + total (λ o. same_oid o x) made
    set_times-new_rows x =
        let child = child_for key (pairs_of (rows table)) in
        let below = path n child in
        let handed = handed_up made key below in
        omega (
          arith,
          total-append (λ (w : ℕ × List ℕ). same_oid w.0 x) (rows_below made key row below) (option_map_or (root_rows (place_at rows n table) (slice_index made (suc (length below))) (slice_index made (suc (suc (length below))))) handed []),
          ap (λ (ws : List (ℕ × List ℕ)). set_times ws x) root_part,
          root_times made (place_at rows n table) n x handed inside_root,
          set_times-rows_below n child x (omega (arith, enough, full_run-less (place_at rows n table) below)),
        )

    module _ (once : (x : ℕ) → on_path rows key (suc n) table x ≤ 1) (fresh : (x : ℕ) → 0 < on_path rows key (suc n) table x → total (λ o. same_oid o x) made ≡ 0) (apart : (x : ℕ) → total (λ o. same_oid o x) made ≤ 1) where
      zero_or_more : (m : ℕ) → (m ≡ 0) ⊎ (0 < m)
      zero_or_more zero = inl refl
      zero_or_more (suc m) = inr (omega arith)

      -- nor more than once
      pub set_once : (x : ℕ) → set_times (new_rows made key row (path (suc n) table)) x ≤ 1
      set_once x = elim (zero_or_more (on_path rows key (suc n) table x)) as (λ _. set_times (new_rows made key row (path (suc n) table)) x ≤ 1) [
        | inl none ↦ omega (arith, set_times-new_rows x, apart x)
        | inr on ↦ omega (arith, set_times-new_rows x, once x, fresh x on)
      ]

      -- the nodes on the way have the rows that they should have
      pub AreWritten-new_rows : (new : Rows) → ((x : ℕ) → new x ≡ set_all (new_rows made key row (path (suc n) table)) rows x)
          → (new (slice_index made 0) ≡ row) × AreWritten rows new made key n (child_for key (pairs_of (rows table))) × IsRootWritten rows new made n table (hands rows made key n (child_for key (pairs_of (rows table))))
      AreWritten-new_rows new is =
          let child = child_for key (pairs_of (rows table)) in
          let place = place_at rows n table in
          let below = path n child in
          let handed = handed_up made key below in
          let told = handed_up-path_to rows made key n child in
          let ws = new_rows made key row (path (suc n) table) in
          let first = rows_below made key row below in
          let last = option_map_or (root_rows place (slice_index made (suc (length below))) (slice_index made (suc (suc (length below))))) handed [] in
          let less : full_run below + 1 ≤ length made = omega (arith, enough, full_run-less place below) in
          let W : ℕ × List ℕ → Type 0 = λ (w : ℕ × List ℕ). new w.0 ≡ w.1 in
          let each : Each W ws = each_same ws (set_all-each ws rows set_once) in
          let stays : Stays new n child = λ none x unset.
          is x ∙ set_all-other ws rows x
          (total-append (λ (w : ℕ × List ℕ). same_oid w.0 x) first last
          ∙ omega (arith, unset, ap (λ (h : Option (ℕ × ℕ)). set_times (option_map_or (root_rows place (slice_index made (suc (length below))) (slice_index made (suc (suc (length below))))) h []) x) none)) in (
            record_row_set W below (Each-front W first last each),
            AreWritten-rows_below new n child (Each-front W first last each) less stays (λ x. omega (arith, once x)) (λ x on. fresh x (omega arith)),
            record {
              rows_there = subst (λ (h : Option (ℕ × ℕ)). Each W (option_map_or (root_rows place (slice_index made (suc n)) (slice_index made (suc (suc n)))) h [])) told (subst (λ (us : List (ℕ × List ℕ)). Each W us) root_part (Each-back W first last each));
              same = λ none.
                  let here = same_oid-itself table in
                  stays (told ∙ none) table (omega (arith, set_times-rows_below n child table less, once table, fresh table (omega arith), used-made made n table));
              enough = λ pair came full. inside_root pair (told ∙ came) full;
            },
          )
        where
          each_same : (us : List (ℕ × List ℕ)) → Each (λ (w : ℕ × List ℕ). set_all (new_rows made key row (path (suc n) table)) rows w.0 ≡ w.1) us → Each (λ (w : ℕ × List ℕ). new w.0 ≡ w.1) us
          each_same [] each = tt
          each_same (u ∷ us) each = (is u.0 ∙ each.0, each_same us each.1)
