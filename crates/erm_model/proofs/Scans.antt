-- What a scan finds: the keys of a table that lie between two others.
use Rattle.std.proofs.Common.{◌≡◌, ℕ, ◌+◌, ◌<◌, ◌≤◌, ◌^◌, true, false, get_or, List, Some, length, map, refl, sym, ap, ◌∙◌, subst, arith}
use Rattle.std.specs.declared.cmp.Ordering.{Ordering}
use Rattle.std.specs.declared.cmp.Ordering.TheVariants.{Less, Equal, Greater}
use Rattle.std.specs.declared.ops.Bound.TheVariants.{Included}
use Rattle.std.specs.Ordering.{is_gt, is_eq}
use Rattle.std.specs.Option.{option_map}
use Rattle.std.specs.BTreeMap as tree
use Rattle.std.specs.BTreeMap.{BTreeMap, IsOrdered, is_at}
use Rattle.std.specs.BTreeMap.Range.{IsInRange, IsRangeOf, IsEntryInRange, EntryPlaces, range_contains, entries_between}
use Rattle.std.specs.FinMap.{from_entries}
use Rattle.std.specs.List.{All}
use Rattle.std.specs.Map.{keys_of, lookup}
use Rattle.std.proofs.Math.ListN.{get_or-map}
use Rattle.std.proofs.lemmas.Bool.Decides.{nat_tests}
use Rattle.std.proofs.lemmas.List.{length-map}
use Rattle.std.proofs.lemmas.List.Elements.{All-map, All-weaker}
use Rattle.std.proofs.lemmas.Map.Entries.{length-keys_of, lookup-filter-keys, place_from_lookup}
use Rattle.std.proofs.lemmas.Map.Keys.{Less-from_sorted}
use Rattle.std.proofs.lemmas.Map.Views.{by_place}
use Rattle.std.proofs.lemmas.Option.{slice_get-map}
use Rattle.erm_model.specs.declared.key.Key.{Key}
use Rattle.erm_model.specs.Database.{key_cmp, at, value_at, AreFound}
use Rattle.erm_model.specs.Member.{◌∈◌}
use Rattle.erm_model.proofs.Keys.{exact_keys, get_key}

table_in_order : (t k u l : ℕ) → is_gt (key_cmp (at t k) (at u l)) ≡ false → t ≤ u
table_in_order t k u l h = grind (arith, nat_tests)

key_in_order : (t k l : ℕ) → is_gt (key_cmp (at t k) (at t l)) ≡ false → k ≤ l
key_in_order t k l h = grind (arith, nat_tests)

key_below : (t k l : ℕ) → key_cmp (at t k) (at t l) ≡ Less → k < l
key_below t k l h = grind (arith, nat_tests)

equal : (o : Ordering) → is_eq o ≡ true → o ≡ Equal
equal Less h = absurd (cc)
equal Equal h = refl
equal Greater h = absurd (cc)

-- the keys of a table from one to another
abbrev pub Between : ℕ → ℕ → ℕ → Key → Type 0
Between table low high q = IsInRange key_cmp (Included (at table low)) (Included (at table high)) q

-- a key of that range is of that table, and lies between the two
between : (table low high : ℕ) (q : Key) → Between table low high q → (q.table ≡ table) × (low ≤ q.key) × (q.key ≤ high)
between table low high q h =
    let same : q.table ≡ table = omega (arith, table_in_order table low q.table q.key h.0, table_in_order q.table q.key table high h.1) in
    let first : low ≤ q.key = key_in_order table low q.key (subst (λ t. is_gt (key_cmp (at table low) (at t q.key)) ≡ false) same h.0) in
    let last : q.key ≤ high = key_in_order table q.key high (subst (λ t. is_gt (key_cmp (at t q.key) (at table high)) ≡ false) same h.1) in
    (same, first, last)

-- each key between the two lies in it
inside : (table low high key : ℕ) → low ≤ key → key ≤ high → range_contains key_cmp (Included (at table low)) (Included (at table high)) (at table key) ≡ true
inside table low high key first last = grind (arith, nat_tests)

-- an entry's key in its table, with its value
abbrev pub pair_of : Key × List ℕ → ℕ × List ℕ
pair_of e = (e.0.key, e.1)

module _ (m : BTreeMap Key (List ℕ)) (table low high : ℕ) (es : List (Key × List ℕ)) where
  abbrev IsWithin : ℕ × List ℕ → Type 0
  IsWithin pair = (low ≤ pair.0) × (pair.0 ≤ high) × (pair.0 < 2 ^ 64) × (value_at (from_entries m.entries) table pair.0 ≡ Some pair.1)

  within : high < 2 ^ 64 → IsRangeOf key_cmp (Included (at table low)) (Included (at table high)) m es
      → All IsWithin (map pair_of es)
  within bound range = All-map IsWithin pair_of es
      (All-weaker (IsEntryInRange key_cmp (Included (at table low)) (Included (at table high)) m) (λ e. IsWithin (pair_of e)) (λ e h.
      let place = between table low high e.0 h.0 in
      let here : tree.get key_cmp m (at table e.0.key) ≡ Some e.1 = subst (λ t. tree.get key_cmp m (at t e.0.key) ≡ Some e.1) place.0 h.1 in
      (place.1, place.2, omega arith, get_key m.entries (at table e.0.key) ∙ here)) es range.0)

  below : (d e : Key × List ℕ) → IsEntryInRange key_cmp (Included (at table low)) (Included (at table high)) m d → IsEntryInRange key_cmp (Included (at table low)) (Included (at table high)) m e
      → key_cmp d.0 e.0 ≡ Less → d.0.key < e.0.key
  below d e first second less =
      let one = between table low high d.0 first.0 in
      let other = between table low high e.0 second.0 in
      key_below table d.0.key e.0.key (subst (λ t. key_cmp (at table d.0.key) (at t e.0.key) ≡ Less) other.0 (subst (λ t. key_cmp (at t d.0.key) e.0 ≡ Less) one.0 less))

  ascend : IsRangeOf key_cmp (Included (at table low)) (Included (at table high)) m es → EntryPlaces m.entries es → IsOrdered key_cmp m
      → (i j : ℕ) (d : Key × List ℕ) → i < j → j < length es → (get_or es i d).0.key < (get_or es j d).0.key
  ascend range places ordered i j d less inside =
      let one = places.keys i d.0 by_place (omega (arith, length-keys_of es)) in
      let other = places.keys j d.0 by_place (omega (arith, length-keys_of es)) in
      let ranked = Less-from_sorted key_cmp (keys_of m.entries) (places.start + i) (places.start + j) d.0 ordered (omega arith) other.0 in
      let keys : key_cmp (get_or (keys_of es) i d.0) (get_or (keys_of es) j d.0) ≡ Less = rw (one.1, other.1) ranked in
      let entries : key_cmp (get_or es i d).0 (get_or es j d).0 ≡ Less = rw (get_or-map (λ (e : Key × List ℕ). e.0) es i d, get_or-map (λ (e : Key × List ℕ). e.0) es j d) at keys in
      below (get_or es i d) (get_or es j d) (range.0 i d (omega arith)) (range.0 j d inside) entries

  all : es ≡ entries_between key_cmp (Included (at table low)) (Included (at table high)) m.entries
      → (key : ℕ) (value : List ℕ) → low ≤ key → key ≤ high → value_at (from_entries m.entries) table key ≡ Some value → (key, value) ∈ map pair_of es
  all is key value first last some =
      let test = is_at (key_cmp (at table key)) in
      let the_key : (k : Key) → test k ≡ true → k ≡ at table key = λ k h. sym (exact_keys (at table key) k (equal (key_cmp (at table key) k) h)) in
      let stored : lookup test m.entries ≡ Some value = sym (get_key m.entries (at table key)) ∙ some in
      let kept = lookup-filter-keys test (range_contains key_cmp (Included (at table low)) (Included (at table high))) true
      (λ k h. subst (λ q. range_contains key_cmp (Included (at table low)) (Included (at table high)) q ≡ true) (sym (the_key k h)) (inside table low high key first last)) m.entries in
      let found : lookup test es ≡ Some value = ap (lookup test) is ∙ kept ∙ stored in
      let place = place_from_lookup test es value found in
      (place.0, slice_get-map pair_of es place.0 ∙ ap (option_map pair_of) place.2 ∙ ap (λ (k : Key). Some (k.key, value)) (the_key place.1 place.3))

-- the entries of a range of a table's keys are what a scan finds
pub AreFound-range : (m : BTreeMap Key (List ℕ)) (table low high : ℕ) (es : List (Key × List ℕ)) → high < 2 ^ 64
    → es ≡ entries_between key_cmp (Included (at table low)) (Included (at table high)) m.entries
    → IsRangeOf key_cmp (Included (at table low)) (Included (at table high)) m es → EntryPlaces m.entries es → IsOrdered key_cmp m
    → AreFound (from_entries m.entries) table low high (map pair_of es)
AreFound-range m table low high es bound is range places ordered = record {
  ascend = λ i j d less inside.
      let e : Key × List ℕ = (at table d.0, d.1) in
      let keys = ascend m table low high es range places ordered i j e less (omega (arith, length-map es pair_of)) in
      rw (get_or-map pair_of es i e, get_or-map pair_of es j e) keys;
  within = within m table low high es bound range;
  all = λ key value first last below some. all m table low high es is key value first last some;
}

-- the same under other names of the ends and of what was found
pub AreFound-read : (m : BTreeMap Key (List ℕ)) (table low high : ℕ) (first last : Key) (es : List (Key × List ℕ)) (found : List (ℕ × List ℕ)) → high < 2 ^ 64
    → first ≡ at table low → last ≡ at table high → es ≡ entries_between key_cmp (Included first) (Included last) m.entries
    → IsRangeOf key_cmp (Included first) (Included last) m es → EntryPlaces m.entries es → IsOrdered key_cmp m → found ≡ map pair_of es
    → AreFound (from_entries m.entries) table low high found
AreFound-read m table low high first last es found bound begins ends is range places ordered read =
    let P : Key × Key → Type 0 = λ p. es ≡ entries_between key_cmp (Included p.0) (Included p.1) m.entries in
    let Q : Key × Key → Type 0 = λ p. IsRangeOf key_cmp (Included p.0) (Included p.1) m es in
    subst (AreFound (from_entries m.entries) table low high) (sym read)
    (AreFound-range m table low high es bound (subst P (λ i. (begins i, ends i)) is) (subst Q (λ i. (begins i, ends i)) range) places ordered)
