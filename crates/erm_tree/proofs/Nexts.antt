-- The first key of a leaf that has a value, and the next key of a table.
use Rattle.std.proofs.Common.{◌≡◌, ℕ, zero, suc, ◌-◌, ◌^◌, ◌<◌, ◌≤◌, List, [], ◌∷◌, length, get_or, drop, Option, Some, None, refl, ap, ◌∙◌, subst, inl, inr, arith}
use Rattle.std.specs.Prelude.{◌⊎◌, option_and_then}
use Rattle.std.proofs.lemmas.Bool.{cases_lt}
use Rattle.std.proofs.Math.ListN.{drop_of_length-le}
use Rattle.erm_model.specs.declared.limits.TheConstants.{OID_LIMIT}
use Rattle.erm_model.specs.declared.row_stop.RowStop.{RowStop}
use Rattle.erm_model.specs.Database.{value_at, IsNextAt}
use Rattle.erm_model.specs.Rows.{Rows}
use Rattle.erm_model.specs.RowTransaction.{did_read, Face, SameLaw, Does, IsLawful, IsStopped}
use Rattle.erm_model.proofs.RowCalls.{Runs-fitted}
use Rattle.erm_record.specs.Record.{record_value}
use Rattle.erm_node.specs.Sound.{IsSound, sound_law}
use Rattle.erm_node.specs.Tree.{Fan, first_key}
use Rattle.erm_node.specs.TreeMap.{map_of_rows, record_in, value_in}
use Rattle.erm_tree.specs.Calls.{AsksReads, IsReady, IsTold, Reads, SawIn}
use Rattle.erm_tree.specs.Reads.{IsMetIn, IsOnWay}
use Rattle.erm_tree.specs.Walk.{IsEntry, IsLeafFor, IsOfLeaf, IsFirstIn, IsMetByFirst, IsMetByNext, HasNoValueIn, bound_of, last_sought}
use Rattle.erm_tree.proofs.Fans.{first_key-Fan}
use Rattle.erm_tree.proofs.Firsts.{IsFirstIn-some, IsFirstIn-beyond, IsFirstIn-before, IsFirstIn-part}
use Rattle.erm_tree.proofs.Calls.{SawIn-start, SawIn-both, SawIn-weaker, SawIn-then_read, SawIn-possible, SawIn-ready, IsStopped-both}
use Rattle.erm_tree.proofs.Meetings.{IsMetIn-wider, IsMetIn-few, IsMetIn-node}

-- a pair in its place along a fan
pub record IsPlaced (Q : ℕ → ℕ → ℕ → Type 0) (pairs : List (ℕ × ℕ)) (hi i : ℕ) : Type 0 where
  pub is : Q (get_or pairs i (0, 0)).1 (get_or pairs i (0, 0)).0 (first_key (drop (suc i) pairs) hi)
  pub here : first_key (drop i pairs) hi ≡ (get_or pairs i (0, 0)).0
  pub wide : (get_or pairs i (0, 0)).0 < first_key (drop (suc i) pairs) hi
  pub top : first_key (drop (suc i) pairs) hi ≤ hi

pub Fan-at : (Q : ℕ → ℕ → ℕ → Type 0) (pairs : List (ℕ × ℕ)) (hi i : ℕ) → i < length pairs → Fan Q pairs hi → IsPlaced Q pairs hi i
Fan-at Q [] hi i below fan = absurd (omega arith)
Fan-at Q (p ∷ ps) hi zero below fan = record { is = fan.0; here = refl; wide = fan.1; top = first_key-Fan Q ps hi fan.2 }
Fan-at Q (p ∷ ps) hi (suc i) below fan = let at = Fan-at Q ps hi i (omega arith) fan.2 in record { is = at.is; here = at.here; wide = at.wide; top = at.top }

value_in-entry : (rows : Rows) (table key : ℕ) (found : Option ℕ) → record_in rows table key ≡ found → value_in rows table key ≡ option_and_then (λ oid. record_value (rows oid)) found
value_in-entry rows table key found is = ap (option_and_then (λ oid. record_value (rows oid))) is

cases_key : (k key : ℕ) → (k < key) ⊎ ((k ≡ key) ⊎ (key < k))
cases_key k key = elim (cases_lt k key) as (λ _. (k < key) ⊎ ((k ≡ key) ⊎ (key < k))) [
  | inl below ↦ inl below
  | inr not_below ↦ elim (cases_lt key k) as (λ _. (k < key) ⊎ ((k ≡ key) ⊎ (key < k))) [ inl above ↦ inr (inr above) | inr same ↦ inr (inl (omega arith)) ]
]

module _ (rows : Rows) (table low : ℕ) (pairs : List (ℕ × ℕ)) (to : ℕ) (leaf : IsLeafFor rows table low pairs to) where
  -- before the first pair there is no value
  none_below : HasNoValueIn rows table low (first_key pairs to)
  none_below k above under = let start = leaf.low in value_in-entry rows table k None (leaf.below k (omega arith) under)

  -- nor up to the next pair, where this one is below or has none
  none_more : (i : ℕ) → i < length pairs → HasNoValueIn rows table low (first_key (drop i pairs) to)
      → ((low ≤ (get_or pairs i (0, 0)).0) → value_in rows table (get_or pairs i (0, 0)).0 ≡ None) → HasNoValueIn rows table low (first_key (drop (suc i) pairs) to)
  none_more i inside none here k above under =
      let at = Fan-at (λ oid from up. IsEntry rows table oid from up) pairs to i inside leaf.entries in
      elim (cases_key k (get_or pairs i (0, 0)).0) as (λ _. value_in rows table k ≡ None) [
        | inl below ↦ none k above (omega (arith, at.here))
        | inr at_or_above ↦ elim at_or_above as (λ _. value_in rows table k ≡ None) [
          | inl same ↦ ap (value_in rows table) same ∙ here (omega arith)
          | inr past ↦ value_in-entry rows table k None (at.is.alone k past under)
        ]
      ]

-- along the pairs of a leaf, of the first so many: there is no value up to the next one
abbrev pub HasNoneUpTo : ℕ → List (ℕ × ℕ) → ℕ → ℕ → Rows → Type 0
HasNoneUpTo low pairs to i rows = (table : ℕ) → IsLeafFor rows table low pairs to → HasNoValueIn rows table low (first_key (drop i pairs) to)

-- the first key of the leaf that has a value isn't below such a pair's
Along-beyond : (low : ℕ) (pairs : List (ℕ × ℕ)) (to i : ℕ) → i < length pairs → (rows : Rows) → HasNoneUpTo low pairs to i rows → (table : ℕ) (found : Option (ℕ × List ℕ)) → IsLeafFor rows table low pairs to → IsFirstIn rows table low to found
    → (get_or pairs i (0, 0)).0 ≤ last_sought to found
Along-beyond low pairs to i inside rows none table found leaf first =
    let at = Fan-at (λ oid from up. IsEntry rows table oid from up) pairs to i inside leaf.entries in
    IsFirstIn-beyond rows table low (get_or pairs i (0, 0)).0 to found (subst (HasNoValueIn rows table low) at.here (none table leaf)) (omega (arith, at.wide, at.top)) first

-- the record of a pair in its place is one of the leaf's, where no key before it has a value
pub Along-read_at : (low : ℕ) (pairs : List (ℕ × ℕ)) (to i : ℕ) → i < length pairs → low ≤ (get_or pairs i (0, 0)).0 → (rows : Rows) → HasNoneUpTo low pairs to i rows → IsMetByFirst low pairs to rows (get_or pairs i (0, 0)).1
Along-read_at low pairs to i inside above rows none table found leaf first =
    let at = Fan-at (λ oid from up. IsEntry rows table oid from up) pairs to i inside leaf.entries in
    at.is.met low (last_sought to found) above (Along-beyond low pairs to i inside rows none table found leaf first)

module _ {S : Type 0} (face : Face S) (goes_on : (a b c : S) → face.follows a b → face.follows b c → face.follows a c) (low : ℕ) (pairs : List (ℕ × ℕ)) (to : ℕ) where
  -- the objects that may be read before so many pairs
  abbrev pub read_below : ℕ → Rows → ℕ → Type 0
  read_below high rows x = IsOfLeaf rows low pairs to high x

  -- a look along the pairs begins
  pub Along-start : (s : S) → IsReady face s → face.follows s s → SawIn face (read_below (first_key pairs to - 1)) s s (HasNoneUpTo low pairs to 0)
  Along-start s ready stands = SawIn-start face goes_on (read_below (first_key pairs to - 1)) s (HasNoneUpTo low pairs to 0) ready stands (λ array meets table leaf. none_below array table low pairs to leaf)

  module _ (s t : S) (i : ℕ) (inside : i < length pairs) (seen : SawIn face (read_below (first_key (drop i pairs) to - 1)) s t (HasNoneUpTo low pairs to i)) where
    -- its objects are ones that there may be
    pub Along-bounded : IsLawful face s → IsTold face s (λ rows. (table : ℕ) × IsLeafFor rows table low pairs to) → (get_or pairs i (0, 0)).1 < OID_LIMIT
    Along-bounded lawful told =
        let (begun, meets, fits) = seen.saw.goes_on.possible in
        let (table, leaf) = told begun meets (Runs-fitted face seen.saw.events s t seen.saw.goes_on.runs begun fits) in
        (Fan-at (λ oid from up. IsEntry (face.rows s begun) table oid from up) pairs to i inside leaf.entries).is.bounded

    -- the objects read so far are among those up to the first key that has a value
    pub Along-wide : SawIn face (IsMetByFirst low pairs to) s t (HasNoneUpTo low pairs to i)
    Along-wide =
        SawIn-weaker face goes_on (read_below (first_key (drop i pairs) to - 1)) (IsMetByFirst low pairs to) s t (HasNoneUpTo low pairs to i) (HasNoneUpTo low pairs to i) (λ array meets none. none)
        (λ array meets none x on table found leaf first.
        let at = Fan-at (λ oid from up. IsEntry array table oid from up) pairs to i inside leaf.entries in
        IsMetIn-wider array table low (first_key (drop i pairs) to - 1) low (last_sought to found) x (omega arith) (omega (arith, at.here, Along-beyond low pairs to i inside array none table found leaf first)) (on table leaf))
        seen

    -- it passes over a pair below
    pub Along-below : (get_or pairs i (0, 0)).0 < low → SawIn face (read_below (first_key (drop (suc i) pairs) to - 1)) s t (HasNoneUpTo low pairs to (suc i))
    Along-below below =
        SawIn-weaker face goes_on (read_below (first_key (drop i pairs) to - 1)) (read_below (first_key (drop (suc i) pairs) to - 1)) s t (HasNoneUpTo low pairs to i) (HasNoneUpTo low pairs to (suc i))
        (λ array meets none table leaf. none_more array table low pairs to leaf i inside (none table leaf) (λ above. absurd (omega arith)))
        (λ array meets none x on table leaf.
        let at = Fan-at (λ oid from up. IsEntry array table oid from up) pairs to i inside leaf.entries in
        IsMetIn-wider array table low (first_key (drop i pairs) to - 1) low (first_key (drop (suc i) pairs) to - 1) x (omega arith) (omega (arith, at.here, at.wide)) (on table leaf))
        seen

    module _ (above : low ≤ (get_or pairs i (0, 0)).0) (u : S) (row : List ℕ) (does : Does face t (did_read (get_or pairs i (0, 0)).1 row) u) where
      -- it reads a record
      Along-read : SawIn face (read_below (get_or pairs i (0, 0)).0) s u (λ rows. HasNoneUpTo low pairs to i rows × (rows (get_or pairs i (0, 0)).1 ≡ row))
      Along-read =
          SawIn-then_read face goes_on (read_below (get_or pairs i (0, 0)).0) s t u (HasNoneUpTo low pairs to i) (get_or pairs i (0, 0)).1 row
          (SawIn-weaker face goes_on (read_below (first_key (drop i pairs) to - 1)) (read_below (get_or pairs i (0, 0)).0) s t (HasNoneUpTo low pairs to i) (HasNoneUpTo low pairs to i) (λ array meets none. none)
          (λ array meets none x on table leaf.
          let at = Fan-at (λ oid from up. IsEntry array table oid from up) pairs to i inside leaf.entries in
          IsMetIn-wider array table low (first_key (drop i pairs) to - 1) low (get_or pairs i (0, 0)).0 x (omega arith) (omega (arith, at.here)) (on table leaf))
          seen)
          does
          (λ array meets none table leaf.
          let at = Fan-at (λ oid from up. IsEntry array table oid from up) pairs to i inside leaf.entries in
          at.is.met low (get_or pairs i (0, 0)).0 above (omega arith))

      value_read : (array : Rows) (table : ℕ) → IsLeafFor array table low pairs to → array (get_or pairs i (0, 0)).1 ≡ row → value_in array table (get_or pairs i (0, 0)).0 ≡ record_value row
      value_read array table leaf is =
          let at = Fan-at (λ oid from up. IsEntry array table oid from up) pairs to i inside leaf.entries in
          value_in-entry array table (get_or pairs i (0, 0)).0 (Some (get_or pairs i (0, 0)).1) at.is.entry ∙ ap record_value is

      -- one that has no value
      pub Along-none : record_value row ≡ None → SawIn face (read_below (first_key (drop (suc i) pairs) to - 1)) s u (HasNoneUpTo low pairs to (suc i))
      Along-none none_there =
          SawIn-weaker face goes_on (read_below (get_or pairs i (0, 0)).0) (read_below (first_key (drop (suc i) pairs) to - 1)) s u (λ rows. HasNoneUpTo low pairs to i rows × (rows (get_or pairs i (0, 0)).1 ≡ row)) (HasNoneUpTo low pairs to (suc i))
          (λ array meets is table leaf. none_more array table low pairs to leaf i inside (is.0 table leaf) (λ _. value_read array table leaf is.1 ∙ none_there))
          (λ array meets is x on table leaf.
          let at = Fan-at (λ oid from up. IsEntry array table oid from up) pairs to i inside leaf.entries in
          IsMetIn-wider array table low (get_or pairs i (0, 0)).0 low (first_key (drop (suc i) pairs) to - 1) x (omega arith) (omega (arith, at.wide)) (on table leaf))
          Along-read

      -- one that has a value is the first
      pub Along-some : (value : List ℕ) → record_value row ≡ Some value → SawIn face (read_below (get_or pairs i (0, 0)).0) s u (λ rows. (table : ℕ) → IsLeafFor rows table low pairs to → IsFirstIn rows table low to (Some ((get_or pairs i (0, 0)).0, value)))
      Along-some value there =
          SawIn-weaker face goes_on (read_below (get_or pairs i (0, 0)).0) (read_below (get_or pairs i (0, 0)).0) s u (λ rows. HasNoneUpTo low pairs to i rows × (rows (get_or pairs i (0, 0)).1 ≡ row))
          (λ rows. (table : ℕ) → IsLeafFor rows table low pairs to → IsFirstIn rows table low to (Some ((get_or pairs i (0, 0)).0, value)))
          (λ array meets is table leaf.
          let at = Fan-at (λ oid from up. IsEntry array table oid from up) pairs to i inside leaf.entries in (
            above,
            omega (arith, at.wide, at.top),
            value_read array table leaf is.1 ∙ there,
            λ k over under. is.0 table leaf k over (omega (arith, at.here)),
          ))
          (λ array meets is x on. on)
          Along-read

  -- at the end there is none
  pub Along-end : (s t : S) (i : ℕ) → length pairs ≤ i → SawIn face (read_below (first_key (drop i pairs) to - 1)) s t (HasNoneUpTo low pairs to i)
      → SawIn face (read_below (to - 1)) s t (λ rows. (table : ℕ) → IsLeafFor rows table low pairs to → IsFirstIn rows table low to None)
  Along-end s t i past seen =
      let end : first_key (drop i pairs) to ≡ to = ap (λ (ps : List (ℕ × ℕ)). first_key ps to) (drop_of_length-le pairs past) in
      subst (λ (b : ℕ). SawIn face (read_below (b - 1)) s t (λ rows. (table : ℕ) → IsLeafFor rows table low pairs to → HasNoValueIn rows table low b)) end seen

-- a look for the next key with a value found none below this one
pub record Seeks {S : Type 0} (face : Face S) (s t : S) (table from low : ℕ) : Type 0 where
  pub above : from ≤ low
  pub top : low ≤ 2 ^ 64
  pub seen : SawIn face (λ rows x. IsMetIn rows table from (low - 1) x) s t (λ rows. HasNoValueIn rows table from low)

module _ {S : Type 0} (face : Face S) (goes_on : (a b c : S) → face.follows a b → face.follows b c → face.follows a c) (law : SameLaw face.law sound_law) (table from : ℕ) (below : table < 16)
    (values : (rows : Rows) (t k : ℕ) → IsSound rows → t < 16 → value_at (map_of_rows rows) t k ≡ value_in rows t k) where
  -- it begins
  pub Seeks-start : (s : S) → from < 2 ^ 64 → IsReady face s → face.follows s s → Seeks face s s table from from
  Seeks-start s few ready stands = record {
    above = omega arith;
    top = omega arith;
    seen = SawIn-start face goes_on (λ rows x. IsMetIn rows table from (from - 1) x) s (λ rows. HasNoValueIn rows table from from) ready stands (λ array meets k over under. absurd (omega arith));
  }

  -- the transaction may be called on
  pub Seeks-ready : (s t : S) (low : ℕ) → IsLawful face s → Seeks face s t table from low → IsReady face t
  Seeks-ready s t low lawful seeks = SawIn-ready face goes_on (λ rows x. IsMetIn rows table from (low - 1) x) s t (λ rows. HasNoValueIn rows table from low) lawful seeks.seen

  -- the next leaf, and what was found in it
  pub record HasLooked (rows : Rows) (low : ℕ) (pairs : List (ℕ × ℕ)) (to : ℕ) (found : Option (ℕ × List ℕ)) : Type 0 where
    pub none : HasNoValueIn rows table from low
    pub leaf : IsLeafFor rows table low pairs to
    pub first : IsFirstIn rows table low to found

  sought_there : (rows : Rows) (low : ℕ) (pairs : List (ℕ × ℕ)) (to : ℕ) (found : Option (ℕ × List ℕ)) → HasLooked rows low pairs to found → low ≤ last_sought to found
  sought_there rows low pairs to None is = let high = is.leaf.high in omega arith
  sought_there rows low pairs to (Some found) is = is.first.0

  module _ (s t u : S) (low : ℕ) (pairs : List (ℕ × ℕ)) (to : ℕ) (seeks : Seeks face s t table from low) (leaf : SawIn face (IsOnWay table low) t u (λ rows. IsLeafFor rows table low pairs to)) where
    -- it reads the leaf
    Seeks-leaf : SawIn face (λ rows x. IsMetIn rows table from low x) s u (λ rows. HasNoValueIn rows table from low × IsLeafFor rows table low pairs to)
    Seeks-leaf =
        let above = seeks.above in
        SawIn-both face goes_on (λ rows x. IsMetIn rows table from (low - 1) x) (IsOnWay table low) (λ rows x. IsMetIn rows table from low x) s t u (λ rows. HasNoValueIn rows table from low) (λ rows. IsLeafFor rows table low pairs to) seeks.seen leaf
        (λ array meets none is x on. IsMetIn-wider array table from (low - 1) from low x (omega arith) (omega arith) on)
        (λ array meets none is x on. IsMetIn-wider array table low low from low x (omega arith) (omega arith) (IsMetIn-node array table low low x on))

    module _ (v : S) (found : Option (ℕ × List ℕ)) (first : SawIn face (λ rows x. IsOfLeaf rows low pairs to (last_sought to found) x) u v (λ rows. (t : ℕ) → IsLeafFor rows t low pairs to → IsFirstIn rows t low to found)) where
      -- and looks along it
      Seeks-along : SawIn face (λ rows x. IsMetIn rows table from (last_sought to found) x) s v (λ rows. HasLooked rows low pairs to found)
      Seeks-along =
          let above = seeks.above in
          let looked : (rows : Rows) → HasNoValueIn rows table from low × IsLeafFor rows table low pairs to → ((t : ℕ) → IsLeafFor rows t low pairs to → IsFirstIn rows t low to found) → HasLooked rows low pairs to found =
          λ rows is then_is. record { none = is.0; leaf = is.1; first = then_is table is.1 } in
          let objects : Rows → ℕ → Type 0 = λ rows x. IsMetIn rows table from (last_sought to found) x in
          SawIn-weaker face goes_on objects objects s v (λ rows. (HasNoValueIn rows table from low × IsLeafFor rows table low pairs to) × ((t : ℕ) → IsLeafFor rows t low pairs to → IsFirstIn rows t low to found)) (λ rows. HasLooked rows low pairs to found)
          (λ array meets is. looked array is.0 is.1) (λ array meets is x on. on)
          (SawIn-both face goes_on (λ rows x. IsMetIn rows table from low x) (λ rows x. IsOfLeaf rows low pairs to (last_sought to found) x) objects s u v
          (λ rows. HasNoValueIn rows table from low × IsLeafFor rows table low pairs to) (λ rows. (t : ℕ) → IsLeafFor rows t low pairs to → IsFirstIn rows t low to found) Seeks-leaf first
          (λ array meets is then_is x on. IsMetIn-wider array table from low from (last_sought to found) x (omega arith) (sought_there array low pairs to found (looked array is then_is)) on)
          (λ array meets is then_is x on. IsMetIn-wider array table low (last_sought to found) from (last_sought to found) x above (omega arith) (on table is.1)))

    none_up_to : (rows : Rows) (high : ℕ) → HasNoValueIn rows table from low → HasNoValueIn rows table low high → HasNoValueIn rows table from high
    none_up_to rows high none then_none k over under = elim (cases_lt k low) as (λ _. value_in rows table k ≡ None) [ inl less ↦ none k over less | inr more ↦ then_none k more under ]

    -- it found one
    pub Seeks-found : (v : S) (found : ℕ × List ℕ) → SawIn face (λ rows x. IsOfLeaf rows low pairs to found.0 x) u v (λ rows. (t : ℕ) → IsLeafFor rows t low pairs to → IsFirstIn rows t low to (Some found))
        → SawIn face (λ rows x. IsMetIn rows table from found.0 x) s v (λ rows. IsNextAt (map_of_rows rows) table from (Some found))
    Seeks-found v found first =
        let objects : Rows → ℕ → Type 0 = λ rows x. IsMetIn rows table from found.0 x in
        let above = seeks.above in
        SawIn-weaker face goes_on objects objects s v (λ rows. HasLooked rows low pairs to (Some found)) (λ rows. IsNextAt (map_of_rows rows) table from (Some found))
        (λ array meets is.
        let sound = (law.meets array).0 meets in
        let top = is.leaf.top in
        let first_is = is.first in (
          omega (arith, first_is.0),
          omega (arith, first_is.1),
          values array table found.0 sound below ∙ first_is.2,
          λ k over under. values array table k sound below ∙ none_up_to array found.0 is.none first_is.3 k over under,
        ))
        (λ array meets is x on. on)
        (Seeks-along v (Some found) first)

    -- there is none in the whole table
    pub Seeks-none : (v : S) → to ≡ 2 ^ 64 → SawIn face (λ rows x. IsOfLeaf rows low pairs to (to - 1) x) u v (λ rows. (t : ℕ) → IsLeafFor rows t low pairs to → IsFirstIn rows t low to None)
        → SawIn face (λ rows x. IsMetIn rows table from (2 ^ 64 - 1) x) s v (λ rows. IsNextAt (map_of_rows rows) table from None)
    Seeks-none v last first =
        SawIn-weaker face goes_on (λ rows x. IsMetIn rows table from (to - 1) x) (λ rows x. IsMetIn rows table from (2 ^ 64 - 1) x) s v (λ rows. HasLooked rows low pairs to None) (λ rows. IsNextAt (map_of_rows rows) table from None)
        (λ array meets is k over under. values array table k ((law.meets array).0 meets) below ∙ none_up_to array to is.none is.first k over (omega arith))
        (λ array meets is x on. IsMetIn-wider array table from (to - 1) from (2 ^ 64 - 1) x (omega arith) (omega arith) on)
        (Seeks-along v None first)

    Seeks-behind : (v : S) → IsLawful face s → SawIn face (λ rows x. IsOfLeaf rows low pairs to (to - 1) x) u v (λ rows. (t : ℕ) → IsLeafFor rows t low pairs to → IsFirstIn rows t low to None) → Seeks face s v table from to × (low < to)
    Seeks-behind v lawful first =
        let along = Seeks-along v None first in
        let (array, meets, is) = SawIn-possible face goes_on (λ rows x. IsMetIn rows table from (to - 1) x) s v (λ rows. HasLooked rows low pairs to None) lawful along in
        let more : low < to = is.leaf.high in
        let above = seeks.above in (
          record {
            above = omega arith;
            top = is.leaf.top;
            seen = SawIn-weaker face goes_on (λ rows x. IsMetIn rows table from (to - 1) x) (λ rows x. IsMetIn rows table from (to - 1) x) s v (λ rows. HasLooked rows low pairs to None) (λ rows. HasNoValueIn rows table from to)
                (λ array meets is. none_up_to array to is.none is.first) (λ array meets is x on. on) along;
          },
          more,
        )

    -- it goes on behind the leaf
    pub Seeks-on : (v : S) (found : Option (ℕ × List ℕ)) (end : Option ℕ) (next : ℕ) → IsLawful face s → found ≡ None → end ≡ Some next → to ≡ bound_of end → SawIn face (λ rows x. IsOfLeaf rows low pairs to (last_sought to found) x) u v (λ rows. (t : ℕ) → IsLeafFor rows t low pairs to → IsFirstIn rows t low to found) → Seeks face s v table from next × (low < next)
    Seeks-on v found end next lawful no_one some is first =
        let to_is : to ≡ next = is ∙ ap bound_of some in
        let first_none = subst (λ (r : Option (ℕ × List ℕ)). SawIn face (λ rows x. IsOfLeaf rows low pairs to (last_sought to r) x) u v (λ rows. (t : ℕ) → IsLeafFor rows t low pairs to → IsFirstIn rows t low to r)) no_one first in
        subst (λ (n : ℕ). Seeks face s v table from n × (low < n)) to_is (Seeks-behind v lawful first_none)

  -- the first key that has a value, in the whole table from this one on, is the next one
  next_first : (rows : Rows) → IsSound rows → (found : Option (ℕ × List ℕ)) → IsFirstIn rows table from (2 ^ 64) found → IsNextAt (map_of_rows rows) table from found
  next_first rows sound None first = λ k above under. values rows table k sound below ∙ first k above under
  next_first rows sound (Some found) first = (first.0, first.1, values rows table found.0 sound below ∙ first.2, λ k above under. values rows table k sound below ∙ first.3 k above under)

  module _ (rows : Rows) (low : ℕ) (sound : IsSound rows) (above : from ≤ low) (none : HasNoValueIn rows table from low) where
    -- what is met below a key is met by next, where no key below that one has a value
    met_below : (x : ℕ) → low ≤ 2 ^ 64 → IsMetIn rows table from (low - 1) x → IsMetByNext table from rows x
    met_below x top on =
        let (found, first) = IsFirstIn-some rows table from (2 ^ 64) (omega arith) in (
          found,
          next_first rows sound found first,
          IsMetIn-wider rows table from (low - 1) from (last_sought (2 ^ 64) found) x (omega arith) (IsFirstIn-before rows table from low (2 ^ 64) found none top first) on,
        )

    -- so is what the key meets
    met_here : (x : ℕ) → low < 2 ^ 64 → IsMetIn rows table from low x → IsMetByNext table from rows x
    met_here x few on =
        let (found, first) = IsFirstIn-some rows table from (2 ^ 64) (omega arith) in (
          found,
          next_first rows sound found first,
          IsMetIn-wider rows table from low from (last_sought (2 ^ 64) found) x (omega arith) (IsFirstIn-beyond rows table from low (2 ^ 64) found none few first) on,
        )

    -- and what a look along its leaf meets
    met_along : (pairs : List (ℕ × ℕ)) (to x : ℕ) → IsLeafFor rows table low pairs to → IsMetByFirst low pairs to rows x → IsMetByNext table from rows x
    met_along pairs to x leaf on =
        let high = leaf.high in
        let (found, first) = IsFirstIn-some rows table from (2 ^ 64) (omega (arith, leaf.top)) in
        let part = IsFirstIn-part rows table from low to (2 ^ 64) found above high leaf.top none first in
        (found, next_first rows sound found first, IsMetIn-wider rows table low (last_sought to part.found) from (last_sought (2 ^ 64) found) x above part.no_further (on table part.found leaf part.first))

  module _ (may : RowStop → Type 0) (s t u : S) (low : ℕ) (stop : RowStop) (seeks : Seeks face s t table from low) where
    -- a walk was cut off
    pub Seeks-leaf_stopped : IsStopped face may (Reads face.law (IsOnWay table low)) (AsksReads (IsOnWay table low)) t stop u → IsStopped face may (Reads face.law (IsMetByNext table from)) (AsksReads (IsMetByNext table from)) s stop u
    Seeks-leaf_stopped stopped =
        IsStopped-both face goes_on (λ rows x. IsMetIn rows table from (low - 1) x) (IsOnWay table low) (IsMetByNext table from) may s t u stop (λ rows. HasNoValueIn rows table from low) seeks.seen stopped
        (λ array meets none x on. met_below array low ((law.meets array).0 meets) seeks.above none x seeks.top on)
        (λ array meets none x on.
        let node = IsMetIn-node array table low low x on in
        met_here array low ((law.meets array).0 meets) seeks.above none x (IsMetIn-few array table low low x node) (IsMetIn-wider array table low low from low x seeks.above (omega arith) node))

    -- a look along a leaf was cut off
    pub Seeks-along_stopped : (v : S) (pairs : List (ℕ × ℕ)) (to : ℕ) → SawIn face (IsOnWay table low) t u (λ rows. IsLeafFor rows table low pairs to) → IsStopped face may (Reads face.law (IsMetByFirst low pairs to)) (AsksReads (IsMetByFirst low pairs to)) u stop v
        → IsStopped face may (Reads face.law (IsMetByNext table from)) (AsksReads (IsMetByNext table from)) s stop v
    Seeks-along_stopped v pairs to leaf stopped =
        IsStopped-both face goes_on (λ rows x. IsMetIn rows table from low x) (IsMetByFirst low pairs to) (IsMetByNext table from) may s u v stop
        (λ rows. HasNoValueIn rows table from low × IsLeafFor rows table low pairs to) (Seeks-leaf s t u low pairs to seeks leaf) stopped
        (λ array meets is x on.
        let high = is.1.high in
        let top = is.1.top in
        met_here array low ((law.meets array).0 meets) seeks.above is.0 x (omega arith) on)
        (λ array meets is x on. met_along array low ((law.meets array).0 meets) seeks.above is.0 pairs to x is.1 on)
