-- A new key was put into a table: what the calls did, as facts of the database map.
use Rattle.std.proofs.Common.{◌≡◌, ℕ, zero, suc, ◌+◌, ◌^◌, ◌<◌, ◌≤◌, List, [], ◌∷◌, ◌++◌, map, length, true, Option, Some, None, refl, sym, ap, ◌∙◌, subst, inl, inr, arith}
use Rattle.std.specs.Prelude.{◌⊎◌, slice_index, MatchOption}
use Rattle.std.specs.List.{All}
use Rattle.std.proofs.lemmas.List.Elements.{All-nil, All-cons}
use Rattle.std.proofs.lemmas.Bool.{cases_lt}
use Rattle.std.proofs.lemmas.Bool.Decides.{nat_tests}
use Rattle.erm_model.specs.declared.limits.TheConstants.{OID_LIMIT}
use Rattle.erm_model.specs.Rows.{Rows}
use Rattle.erm_model.specs.RowTransaction.{Event, did_claim, did_write, did_make, after_all, made_by_all, Law, SameLaw, TellsAll, Face}
use Rattle.erm_model.proofs.RowCalls.{after_all-append, made_by_all-append}
use Rattle.erm_record.specs.Record.{IsRecord, record_value}
use Rattle.erm_node.specs.Node.{Shape, node_of, node_row, is_node}
use Rattle.erm_node.specs.Sound.{IsSound, sound_law, levels_of, reached}
use Rattle.erm_node.specs.Tree.{total, same_oid, IsTree, times}
use Rattle.erm_node.specs.TreeMap.{record_in}
use Rattle.erm_tree.specs.Calls.{SawIn, DidBy, Ran}
use Rattle.erm_tree.specs.Change.{AreReadsThen, makes_claims_writes, IsPutOfNew, IsPut}
use Rattle.erm_tree.specs.Insert.{IsPathFor, Place, path_to, new_rows, objects_for}
use Rattle.erm_tree.specs.Reads.{IsOnWay}
use Rattle.erm_tree.proofs.Calls.{Ran-then, Runs-made_once}
use Rattle.erm_tree.proofs.Changing.{DidBy-after}
use Rattle.erm_tree.proofs.Growth.{on_path, on_path-times}
use Rattle.erm_tree.proofs.Insertion.{Each}
use Rattle.erm_tree.proofs.Phases.{AreClaims-made, AreClaims-rows}
use Rattle.erm_tree.proofs.Planted.{IsPlanted, IsSound-planted, reached-planted, IsSetAt-planted}
use Rattle.erm_tree.proofs.Plans.{set_all, set_times, set_all-other, set_times-new_rows, AreWritten-new_rows}
use Rattle.erm_tree.proofs.Runs.{objects_for-some}
use Rattle.erm_tree.proofs.Settings.{IsSetAt}
use Rattle.erm_tree.proofs.Standing.{reached-table, levels_of-bounds}

after_all-makes : (made : List ℕ) (rows : Rows) → after_all (map did_make made) rows ≡ rows
after_all-makes [] rows = refl
after_all-makes (o ∷ os) rows = after_all-makes os rows

after_all-claims : (ws : List (ℕ × List ℕ)) (rows : Rows) → after_all (map (λ w. did_claim w.0) ws) rows ≡ rows
after_all-claims [] rows = refl
after_all-claims (w ∷ ws) rows = after_all-claims ws rows

made_by_all-makes : (made : List ℕ) (x : ℕ) → made_by_all (map did_make made) x ≡ total (λ o. same_oid o x) made
made_by_all-makes [] x = refl
made_by_all-makes (o ∷ os) x = omega (arith, made_by_all-makes os x)

made_by_all-writes : (ws : List (ℕ × List ℕ)) (x : ℕ) → made_by_all (map (λ w. did_write w.0 w.1) ws) x ≡ 0
made_by_all-writes [] x = refl
made_by_all-writes (w ∷ ws) x = omega (arith, made_by_all-writes ws x)

-- the rows after all
pub after_all-put : (made : List ℕ) (ws : List (ℕ × List ℕ)) (rows : Rows) → after_all (makes_claims_writes made ws) rows ≡ set_all ws rows
after_all-put made ws rows =
    let claims = map (λ (w : ℕ × List ℕ). did_claim w.0) ws in
    let writes = map (λ (w : ℕ × List ℕ). did_write w.0 w.1) ws in
    after_all-append (map did_make made) (claims ++ writes) rows
    ∙ ap (after_all (claims ++ writes)) (after_all-makes made rows)
    ∙ after_all-append claims writes rows
    ∙ ap (after_all writes) (after_all-claims ws rows)

-- what all make
pub made_by_all-put : (made : List ℕ) (ws : List (ℕ × List ℕ)) (x : ℕ) → made_by_all (makes_claims_writes made ws) x ≡ total (λ o. same_oid o x) made
made_by_all-put made ws x =
    let claims = map (λ (w : ℕ × List ℕ). did_claim w.0) ws in
    let writes = map (λ (w : ℕ × List ℕ). did_write w.0 w.1) ws in
    omega (arith, made_by_all-append (map did_make made) (claims ++ writes) x, made_by_all-append claims writes x, made_by_all-makes made x, AreClaims-made claims x (AreClaims-rows ws), made_by_all-writes ws x)

same_number : (o x : ℕ) → 0 < same_oid o x → x ≡ o
same_number o x more = grind (arith, nat_tests)

zero_or_more : (n : ℕ) → (n ≡ 0) ⊎ (0 < n)
zero_or_more zero = inl refl
zero_or_more (suc n) = inr (omega arith)

-- what was made wasn't reached
told_makes : (law : Law) (made : List ℕ) (fs : List Event) (begun seen : Rows) → TellsAll law (map did_make made ++ fs) begun seen → (x : ℕ) → 0 < total (λ o. same_oid o x) made → law.reach begun x ≡ 0
told_makes law [] fs begun seen told x more = absurd (omega arith)
told_makes law (o ∷ os) fs begun seen told x more =
    elim (zero_or_more (same_oid o x)) as (λ _. law.reach begun x ≡ 0) [
      | inl none ↦ told_makes law os fs begun seen told.1 x (omega arith)
      | inr here ↦ ap (law.reach begun) (same_number o x here) ∙ told.0
    ]

module _ (found : (row : List ℕ) (shape : Shape) → node_of row ≡ Some shape → (is_node shape ≡ true) × (row ≡ node_row shape)) (given : (shape : Shape) → is_node shape ≡ true → node_of (node_row shape) ≡ Some shape)
    (array : Rows) (made : List ℕ) (table key : ℕ) (row : List ℕ) (sound : IsSound array) (below : table < 16) (fits : key < 2 ^ 64) (record_row : IsRecord row)
    (many : length made ≡ objects_for (path_to array (levels_of array table) table key)) (small : All (λ o. o < OID_LIMIT) made) (apart : (x : ℕ) → total (λ o. same_oid o x) made ≤ 1) (fresh : (x : ℕ) → 0 < total (λ o. same_oid o x) made → reached array x ≡ 0) where
  -- the rows after a new key was put in
  abbrev pub put_rows : Rows
  put_rows = set_all (new_rows made key row (path_to array (levels_of array table) table key)) array

  module _ (n : ℕ) (depth : levels_of array table ≡ suc n) where
    ws : List (ℕ × List ℕ)
    ws = new_rows made key row (path_to array (suc n) table key)

    many_here : length made ≡ objects_for (path_to array (suc n) table key)
    many_here = many ∙ ap (λ (m : ℕ). objects_for (path_to array m table key)) depth

    root_tree : IsTree array (suc n) 0 table 0 (2 ^ 64)
    root_tree = subst (λ (m : ℕ). IsTree array m 0 table 0 (2 ^ 64)) depth (sound.trees table below)

    way_reached : (x : ℕ) → on_path array key (suc n) table x ≤ reached array x
    way_reached x =
        omega (arith, on_path-times found array key (suc n) 0 table 0 (2 ^ 64) root_tree (omega arith) fits x, reached-table array table x below, ap (λ (m : ℕ). times array m table x) depth)

    apart_from : (x : ℕ) → 0 < reached array x → total (λ o. same_oid o x) made ≡ 0
    apart_from x there = elim (zero_or_more (total (λ o. same_oid o x) made)) as (λ _. total (λ o. same_oid o x) made ≡ 0) [
      | inl none ↦ none
      | inr more ↦ absurd (omega (arith, fresh x more))
    ]

    once : (x : ℕ) → on_path array key (suc n) table x ≤ 1
    once x = omega (arith, way_reached x, sound.once x)

    way_apart : (x : ℕ) → 0 < on_path array key (suc n) table x → total (λ o. same_oid o x) made ≡ 0
    way_apart x on = apart_from x (omega (arith, way_reached x))

    set_here : (x : ℕ) → put_rows x ≡ set_all (new_rows made key row (path_to array (suc n) table key)) array x
    set_here x = ap (λ (m : ℕ). set_all (new_rows made key row (path_to array m table key)) array x) depth

    some : 0 < length made
    some = omega (arith, objects_for-some (path_to array (suc n) table key), many_here)

    pub IsPlanted-put : IsPlanted array put_rows made table key n row
    IsPlanted-put =
        let parts = AreWritten-new_rows array made key row some table n many_here once way_apart apart put_rows set_here in
        record {
          some = some;
          bounded = λ i inside. small i 0 inside;
          apart = apart;
          fresh = fresh;
          record_there = parts.0;
          written = parts.1;
          root_written = parts.2;
          same = λ x there off.
              set_here x
              ∙ set_all-other (new_rows made key row (path_to array (suc n) table key)) array x
              (omega (arith, set_times-new_rows array made key row some table n many_here x, apart_from x there));
        }

  -- they are sound, reach besides only what was made, and have the key set
  pub put_rows-sound : record_in array table key ≡ None → IsSound put_rows × ((x : ℕ) → reached put_rows x ≤ reached array x + total (λ o. same_oid o x) made) × IsSetAt array put_rows table key (record_value row)
  put_rows-sound absent =
      let (n, depth, few) = levels_of-bounds array table in
      let planted = IsPlanted-put n depth in (
        IsSound-planted array put_rows made table key n row found given sound below fits record_row depth absent planted,
        λ x. reached-planted array put_rows made table key n row found given sound below fits record_row depth absent planted x,
        IsSetAt-planted array put_rows made table key n row found given sound below fits record_row depth absent planted,
      )

all_below : (ws : List (ℕ × List ℕ)) (limit : ℕ) → ((x : ℕ) → limit ≤ x → set_times ws x ≡ 0) → All (λ (w : ℕ × List ℕ). w.0 < limit) ws
all_below [] limit none = All-nil (λ (w : ℕ × List ℕ). w.0 < limit)
all_below (w ∷ ws) limit none =
    let first : w.0 < limit = elim (cases_lt w.0 limit) as (λ _. w.0 < limit) [
      | inl less ↦ less
      | inr not_less ↦ let itself : same_oid w.0 w.0 ≡ 1 = grind (arith, nat_tests) in absurd (omega (arith, none w.0 not_less))
    ] in
    All-cons (λ (v : ℕ × List ℕ). v.0 < limit) w ws first (all_below ws limit (λ x above. omega (arith, none x above)))

made_above : (made : List ℕ) (limit x : ℕ) → ((i : ℕ) → i < length made → slice_index made i < limit) → limit ≤ x → total (λ o. same_oid o x) made ≡ 0
made_above [] limit x small above = refl
made_above (o ∷ os) limit x small above =
    let first : o < limit = small 0 (omega arith) in
    let none : same_oid o x ≡ 0 = grind (arith, nat_tests) in
    omega (arith, none, made_above os limit x (λ i inside. small (suc i) (omega arith)) above)

-- the rows that are set are of objects that there may be
pub rows_bounded : (found : (row : List ℕ) (shape : Shape) → node_of row ≡ Some shape → (is_node shape ≡ true) × (row ≡ node_row shape)) (array : Rows) (made : List ℕ) (table key : ℕ) (row : List ℕ) (places : List Place) → IsSound array → table < 16 → key < 2 ^ 64
    → places ≡ path_to array (levels_of array table) table key → length made ≡ objects_for places → All (λ o. o < OID_LIMIT) made → All (λ (e : ℕ × List ℕ). e.0 < OID_LIMIT) (new_rows made key row places)
rows_bounded found array made table key row places sound below fits path many small =
    let (n, depth, few) = levels_of-bounds array table in
    let here : places ≡ path_to array (suc n) table key = path ∙ ap (λ (m : ℕ). path_to array m table key) depth in
    let count : length made ≡ objects_for (path_to array (suc n) table key) = many ∙ ap objects_for here in
    let some : 0 < length made = omega (arith, objects_for-some (path_to array (suc n) table key)) in
    let tree : IsTree array (suc n) 0 table 0 (2 ^ 64) = subst (λ (m : ℕ). IsTree array m 0 table 0 (2 ^ 64)) depth (sound.trees table below) in
    let none : (x : ℕ) → OID_LIMIT ≤ x → set_times (new_rows made key row (path_to array (suc n) table key)) x ≡ 0 = λ x above.
    omega (
      arith,
      set_times-new_rows array made key row some table n count x,
      on_path-times found array key (suc n) 0 table 0 (2 ^ 64) tree (omega arith) fits x,
      reached-table array table x below,
      ap (λ (m : ℕ). times array m table x) depth,
      sound.bounded x above,
      made_above made OID_LIMIT x (λ i inside. small i 0 inside) above,
    ) in
    subst (λ (ps : List Place). All (λ (e : ℕ × List ℕ). e.0 < OID_LIMIT) (new_rows made key row ps)) (sym here) (all_below (new_rows made key row (path_to array (suc n) table key)) OID_LIMIT none)

-- what holds of each by recursion holds by places
pub All-Each : {X : Type 0} (P : X → Type 0) (xs : List X) → Each P xs → All P xs
All-Each P [] each = All-nil P
All-Each P (x ∷ xs) each = All-cons P x xs each.0 (All-Each P xs each.1)

module _ {S : Type 0} (face : Face S) (goes_on : (a b c : S) → face.follows a b → face.follows b c → face.follows a c) (law : SameLaw face.law sound_law)
    (found : (row : List ℕ) (shape : Shape) → node_of row ≡ Some shape → (is_node shape ≡ true) × (row ≡ node_row shape)) (given : (shape : Shape) → is_node shape ≡ true → node_of (node_row shape) ≡ Some shape)
    (table key : ℕ) (below : table < 16) (fits : key < 2 ^ 64) where
  -- a new key was put in
  pub DidBy-put_new : (s u v w z : S) (row : List ℕ) (places : List Place) (made : List ℕ) (ws : List (ℕ × List ℕ)) (change : Rows → Rows → Type 0) → IsRecord row
      → SawIn face (IsOnWay table key) s u (λ rows. IsPathFor rows table key places None)
      → Ran face u (map did_make made) v → Ran face v (map (λ e. did_claim e.0) ws) w → Ran face w (map (λ e. did_write e.0 e.1) ws) z
      → length made ≡ objects_for places → ws ≡ new_rows made key row places → All (λ o. o < OID_LIMIT) made
      → ((rows new : Rows) → IsSound rows → IsSound new → IsSetAt rows new table key (record_value row) → change rows new)
      → DidBy face (λ rows events. IsPut rows table key row events) s z change
  DidBy-put_new s u v w z row places made ws change record_row seen makes claims writes many planned small result =
      let objects : Rows → ℕ → Type 0 = IsOnWay table key in
      let fs = makes_claims_writes made ws in
      let es = map did_make made in
      let ran = Ran-then face goes_on u v z es _ makes (Ran-then face goes_on v w z _ _ claims writes) in
      let once : (x : ℕ) → total (λ o. same_oid o x) made ≤ 1 = λ x. omega (arith, Runs-made_once face goes_on fs u z ran.goes_on.runs x, made_by_all-put made ws x) in
      DidBy-after face goes_on objects (λ rows events. IsPut rows table key row events) s u z (λ rows. IsPathFor rows table key places None) change fs seen ran.goes_on ran.follows
      (λ array meets is agrees.
      let sound = (law.meets array).0 meets in
      let fresh : (x : ℕ) → 0 < total (λ o. same_oid o x) made → reached array x ≡ 0 = λ x more.
      let none = told_makes face.law made _ array array agrees x more in omega (arith, none, law.reach array x) in
      let here = path_to array (levels_of array table) table key in
      let count : length made ≡ objects_for here = many ∙ ap objects_for is.nodes in
      let all = put_rows-sound found given array made table key row sound below fits record_row count small once fresh (sym is.entry.is) in
      let new = set_all (new_rows made key row here) array in
      let rows_are : after_all fs array ≡ new = after_all-put made ws array ∙ ap (λ (us : List (ℕ × List ℕ)). set_all us array) (planned ∙ ap (new_rows made key row) is.nodes) in (
        record {
          meets = subst face.law.meets (sym rows_are) ((law.meets new).1 all.0);
          reach = λ x. omega (arith, ap (λ (rows : Rows). face.law.reach rows x) rows_are, law.reach new x, law.reach array x, all.1 x, made_by_all-put made ws x);
        },
        subst (change array) (sym rows_are) (result array new sound all.0 all.2),
      ))
      (λ array meets is agrees ds only of.
      let here = path_to array (levels_of array table) table key in
      let same : ws ≡ new_rows made key row here = planned ∙ ap (new_rows made key row) is.nodes in
      subst (λ (r : Option ℕ). MatchOption r (IsPutOfNew array table key row (ds ++ fs)) (λ oid. AreReadsThen (IsOnWay table key array) (did_write oid row ∷ []) (ds ++ fs))) is.entry.is
      (record {
        made = made;
        many = many ∙ ap objects_for is.nodes;
        then_all = record { reads = ds; only = only; of = of; split = ap (λ (us : List (ℕ × List ℕ)). ds ++ makes_claims_writes made us) same };
      }))
