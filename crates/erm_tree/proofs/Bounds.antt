-- How much a put makes, claims and sets.
use Rattle.std.proofs.Common.{◌≡◌, ℕ, suc, ◌+◌, ◌*◌, ◌≤◌, List, [], ◌∷◌, ◌++◌, map, length, Bool, true, false, cond, Option, Some, None, refl, sym, subst, arith}
use Rattle.std.specs.Prelude.{MatchOption, slice_index}
use Rattle.std.specs.Option.{option_map_or}
use Rattle.std.proofs.lemmas.List.{length-append}
use Rattle.erm_model.specs.Rows.{Rows}
use Rattle.erm_model.specs.RowTransaction.{Event, did_read, did_claim, did_write, did_make, Face, OnlyReads}
use Rattle.erm_model.proofs.RowCalls.{Runs-agrees, Runs-fitted}
use Rattle.erm_node.specs.Sound.{levels_of}
use Rattle.erm_node.specs.TreeMap.{record_in}
use Rattle.erm_tree.specs.Change.{AreReadsThen, IsPut, IsPutOfNew, PutsAreBounded, AreFew, RefusedPutsAreBounded, count_claims, count_makes, count_writes, makes_claims_writes}
use Rattle.erm_tree.specs.Insert.{Place, handed_up, is_full, new_rows, node_rows, path_to, root_rows, rows_below}
use Rattle.erm_tree.specs.Reads.{IsOnWay}
use Rattle.erm_tree.proofs.Growth.{length-path_to}
use Rattle.erm_tree.proofs.Runs.{objects_for-most}
use Rattle.erm_tree.proofs.Standing.{levels_of-bounds}

-- how much events make, claim and set
abbrev Counts : List Event → ℕ → ℕ → ℕ → Type 0
Counts es m c w = (count_makes es ≡ m) × (count_claims es ≡ c) × (count_writes es ≡ w)

-- events in two parts
Counts-append : (es fs : List Event) → Counts (es ++ fs) (count_makes es + count_makes fs) (count_claims es + count_claims fs) (count_writes es + count_writes fs)
Counts-append [] fs = (omega arith, omega arith, omega arith)
Counts-append (did_read oid row ∷ es) fs = Counts-append es fs
Counts-append (did_claim oid ∷ es) fs = let (m, c, w) = Counts-append es fs in (m, omega (arith, c), w)
Counts-append (did_write oid row ∷ es) fs = let (m, c, w) = Counts-append es fs in (m, c, omega (arith, w))
Counts-append (did_make oid ∷ es) fs = let (m, c, w) = Counts-append es fs in (omega (arith, m), c, w)

-- events of each sort
Counts-reads : (es : List Event) → OnlyReads es → Counts es 0 0 0
Counts-reads [] only = (refl, refl, refl)
Counts-reads (did_read oid row ∷ es) only = Counts-reads es only
Counts-reads (did_claim oid ∷ es) only = absurd only
Counts-reads (did_write oid row ∷ es) only = absurd only
Counts-reads (did_make oid ∷ es) only = absurd only

Counts-makes : (made : List ℕ) → Counts (map did_make made) (length made) 0 0
Counts-makes [] = (refl, refl, refl)
Counts-makes (o ∷ os) = let (m, c, w) = Counts-makes os in (omega (arith, m), c, w)

Counts-claims : (ws : List (ℕ × List ℕ)) → Counts (map (λ w. did_claim w.0) ws) 0 (length ws) 0
Counts-claims [] = (refl, refl, refl)
Counts-claims (v ∷ vs) = let (m, c, w) = Counts-claims vs in (m, omega (arith, c), w)

Counts-writes : (ws : List (ℕ × List ℕ)) → Counts (map (λ w. did_write w.0 w.1) ws) 0 0 (length ws)
Counts-writes [] = (refl, refl, refl)
Counts-writes (v ∷ vs) = let (m, c, w) = Counts-writes vs in (m, c, omega (arith, w))

-- those by which a new key is put
Counts-put : (made : List ℕ) (ws : List (ℕ × List ℕ)) → Counts (makes_claims_writes made ws) (length made) (length ws) (length ws)
Counts-put made ws =
    let some = map did_make made in
    let first = map (λ (w : ℕ × List ℕ). did_claim w.0) ws in
    let last = map (λ (w : ℕ × List ℕ). did_write w.0 w.1) ws in
    let all = Counts-append some (first ++ last) in
    let both = Counts-append first last in
    let a = Counts-makes made in
    let b = Counts-claims ws in
    let c = Counts-writes ws in (
      omega (arith, all.0, both.0, a.0, b.0, c.0),
      omega (arith, all.1, both.1, a.1, b.1, c.1),
      omega (arith, all.2, both.2, a.2, b.2, c.2),
    )

length-two : (b : Bool) (x y z : ℕ × List ℕ) → length (cond b (x ∷ y ∷ []) (z ∷ [])) ≤ 2
length-two true x y z = omega arith
length-two false x y z = omega arith

length-three : (b : Bool) (w x y z : ℕ × List ℕ) → length (cond b (w ∷ x ∷ y ∷ []) (z ∷ [])) ≤ 3
length-three true w x y z = omega arith
length-three false w x y z = omega arith

-- how many rows a node sets
length-node : (place : Place) (right : ℕ) (handed : Option (ℕ × ℕ)) → length (option_map_or (node_rows place right) handed []) ≤ 2
length-node place right None = omega arith
length-node place right (Some pair) = length-two (is_full place) _ _ _

-- and how many the root sets
length-root : (place : Place) (left right : ℕ) (handed : Option (ℕ × ℕ)) → length (option_map_or (root_rows place left right) handed []) ≤ 3
length-root place left right None = omega arith
length-root place left right (Some pair) = length-three (is_full place) _ _ _ _

length-rows_below : (made : List ℕ) (key : ℕ) (row : List ℕ) (path : List Place) → length (rows_below made key row path) ≤ 2 * length path + 1
length-rows_below made key row [] = omega arith
length-rows_below made key row (place ∷ below) =
    let right = slice_index made (suc (length below)) in
    let handed = handed_up made key below in
    omega (arith, length-append (rows_below made key row below) (option_map_or (node_rows place right) handed []), length-rows_below made key row below, length-node place right handed)

-- how many rows are set as a key is put in at the end of a path
length-new_rows : (made : List ℕ) (key : ℕ) (row : List ℕ) (path : List Place) → length (new_rows made key row path) ≤ 2 * length path + 2
length-new_rows made key row [] = omega arith
length-new_rows made key row (root ∷ below) =
    let left = slice_index made (suc (length below)) in
    let right = slice_index made (suc (suc (length below))) in
    let handed = handed_up made key below in
    omega (arith, length-append (rows_below made key row below) (option_map_or (root_rows root left right) handed []), length-rows_below made key row below, length-root root left right handed)

-- reads and then few others
AreFew-reads_then : (P : ℕ → Type 0) (fs es : List Event) → AreReadsThen P fs es → AreFew fs → AreFew es
AreFew-reads_then P fs es is few =
    let none = Counts-reads is.reads is.only in
    let all = Counts-append is.reads fs in
    subst AreFew (sym is.split) (record {
      makes = omega (arith, all.0, none.0, few.makes);
      claims = omega (arith, all.1, none.1, few.claims);
      writes = omega (arith, all.2, none.2, few.writes);
    })

-- a whole put
AreFew-put : (rows : Rows) (table key : ℕ) (row : List ℕ) (es : List Event) → IsPut rows table key row es → AreFew es
AreFew-put rows table key row es =
    let way = IsOnWay table key rows in
    elim (record_in rows table key) as (λ r. MatchOption r (IsPutOfNew rows table key row es) (λ oid. AreReadsThen way (did_write oid row ∷ []) es) → AreFew es) [
      | None ↦ λ new.
          let path = path_to rows (levels_of rows table) table key in
          let ws = new_rows new.made key row path in
          let count = Counts-put new.made ws in
          let (n, depth, few) = levels_of-bounds rows table in
          let long = length-path_to rows key (levels_of rows table) table in
          let most = length-new_rows new.made key row path in
          AreFew-reads_then way (makes_claims_writes new.made ws) es new.then_all (record {
            makes = omega (arith, count.0, new.many, objects_for-most path, long, depth, few);
            claims = omega (arith, count.1, most, long, depth, few);
            writes = omega (arith, count.2, most, long, depth, few);
          })
      | Some oid ↦ λ set. AreFew-reads_then way (did_write oid row ∷ []) es set (record { makes = omega arith; claims = omega arith; writes = omega arith })
    ]

-- and the first events of one
pub AreFew-prefix : PutsAreBounded
AreFew-prefix rows table key row events others put =
    let all = Counts-append events others in
    let few = AreFew-put rows table key row (events ++ others) put in
    record {
      makes = omega (arith, all.0, few.makes);
      claims = omega (arith, all.1, few.claims);
      writes = omega (arith, all.2, few.writes);
    }

-- and those of one that was refused
pub AreFew-refused : {S : Type 0} (face : Face S) → RefusedPutsAreBounded face
AreFew-refused face table key row s t stop lawful stopped =
    let (begun, meets, fits) = stopped.goes_on.possible in
    let run = stopped.goes_on.runs in
    let rows = face.rows s begun in
    let before = (lawful begun meets (Runs-fitted face stopped.events s stopped.at run begun fits)).0 in
    let (others, put) = stopped.of_kind.rest rows before (Runs-agrees face stopped.events s stopped.at lawful run begun meets fits) in
    AreFew-prefix rows table key row stopped.events others put
