-- What a range of a table's keys says of the next key, and the keys' order of pairs.
use Rattle.std.proofs.Common.{◌≡◌, ℕ, ◌<◌, ◌≤◌, false, ◌^◌, List, [], ◌∷◌, Option, Some, None, IsSome, length, map, refl, ap, ◌∙◌, subst, arith}
use Rattle.std.specs.declared.ops.Bound.TheVariants.{Included}
use Rattle.std.specs.Ordering.{is_gt}
use Rattle.std.specs.BTreeMap as tree
use Rattle.std.specs.BTreeMap.{BTreeMap}
use Rattle.std.specs.BTreeMap.Range.{IsInRange, IsRangeOf}
use Rattle.std.specs.FinMap.{from_entries}
use Rattle.std.specs.List.Sorted.{IsStrictlySortedBy}
use Rattle.std.specs.Map.{keys_of}
use Rattle.std.proofs.Math.ListN.{get_or-map}
use Rattle.std.proofs.lemmas.List.{length-map}
use Rattle.std.proofs.lemmas.Map.Keys.{Less-from_sorted}
use Rattle.std.proofs.lemmas.Bool.Decides.{nat_tests}
use Rattle.erm_model.specs.declared.key.Key.{Key}
use Rattle.erm_model.specs.declared.map.Pair.{Pair}
use Rattle.erm_model.specs.Database.{key_cmp, at, IsNextAt, entries_of, AscendByKey}
use Rattle.erm_model.proofs.Keys.{get_key}

none : {X : Type 0} (o : Option X) → (IsSome o → ⊥) → o ≡ None
none None h = refl
none (Some x) h = absurd (h refl)

table_in_order : (t k u l : ℕ) → is_gt (key_cmp (at t k) (at u l)) ≡ false → t ≤ u
table_in_order t k u l h = grind (arith, nat_tests)

key_in_order : (t k l : ℕ) → is_gt (key_cmp (at t k) (at t l)) ≡ false → k ≤ l
key_in_order t k l h = grind (arith, nat_tests)

in_order : (t k l : ℕ) → k ≤ l → is_gt (key_cmp (at t k) (at t l)) ≡ false
in_order t k l h = grind (arith, nat_tests)

-- the keys of a table from one on, to the last of 64 bits
abbrev pub Ahead : ℕ → ℕ → Key → Type 0
Ahead table from q = IsInRange key_cmp (Included (at table from)) (Included (at table 18446744073709551615)) q

-- a key of that range is of that table, and no less than its first
ahead : (table from : ℕ) (q : Key) → Ahead table from q → (q.table ≡ table) × (from ≤ q.key) × (q.key < 2 ^ 64)
ahead table from q h =
    let same : q.table ≡ table = omega (arith, table_in_order table from q.table q.key h.0, table_in_order q.table q.key table 18446744073709551615 h.1) in
    let first : from ≤ q.key = key_in_order table from q.key (subst (λ t. is_gt (key_cmp (at table from) (at t q.key)) ≡ false) same h.0) in
    let last : q.key ≤ 18446744073709551615 = key_in_order table q.key 18446744073709551615 (subst (λ t. is_gt (key_cmp (at t q.key) (at table 18446744073709551615)) ≡ false) same h.1) in
    (same, first, omega arith)

-- each key of the table from there on lies in it
each_ahead : (table from k : ℕ) → from ≤ k → k < 2 ^ 64 → Ahead table from (at table k)
each_ahead table from k first last = (in_order table from k first, in_order table k 18446744073709551615 (omega arith))

-- the entries of a map that lie in that range
abbrev pub IsAhead : BTreeMap Key (List ℕ) → ℕ → ℕ → List (Key × List ℕ) → Type 0
IsAhead m table from found = IsRangeOf key_cmp (Included (at table from)) (Included (at table 18446744073709551615)) m found

-- the same under other names of its ends and of what it holds
pub ahead_of : (m : BTreeMap Key (List ℕ)) (table from : ℕ) (first last : Key) (es fs : List (Key × List ℕ)) → first ≡ at table from → last ≡ at table 18446744073709551615 → es ≡ fs → IsRangeOf key_cmp (Included first) (Included last) m es → IsAhead m table from fs
ahead_of m table from first last es fs begins ends same h =
    let P : Key × Key × List (Key × List ℕ) → Type 0 = λ p. IsRangeOf key_cmp (Included p.0) (Included p.1) m p.2 in
    subst P (λ i. (begins i, ends i, same i)) h

-- where there are none, no key from there on has a value
pub IsNextAt-none : (m : BTreeMap Key (List ℕ)) (table from : ℕ) → IsAhead m table from [] → IsNextAt (from_entries m.entries) table from None
IsNextAt-none m table from h = λ k first last. get_key m.entries (at table k) ∙ h.5 refl (at table k) (each_ahead table from k first last)

-- the first of them is the next key
pub IsNextAt-first : (m : BTreeMap Key (List ℕ)) (table from : ℕ) (e : Key × List ℕ) (others : List (Key × List ℕ)) → IsAhead m table from (e ∷ others) → IsNextAt (from_entries m.entries) table from (Some (e.0.key, e.1))
IsNextAt-first m table from e others h =
    let place = ahead table from e.0 h.1.0 in
    let here : tree.get key_cmp m (at table e.0.key) ≡ Some e.1 = subst (λ t. tree.get key_cmp m (at t e.0.key) ≡ Some e.1) place.0 h.1.1 in
    let before = λ (k : ℕ) (first : from ≤ k) (less : k < e.0.key). none (tree.get key_cmp m (at table k)) (λ some.
    let above : is_gt (key_cmp e.0 (at table k)) ≡ false = h.2 (at table k) (each_ahead table from k first (omega arith)) some in
    let le : e.0.key ≤ k = key_in_order table e.0.key k (subst (λ t. is_gt (key_cmp (at t e.0.key) (at table k)) ≡ false) place.0 above) in
    absurd (omega arith)) in
    (place.1, place.2, get_key m.entries (at table e.0.key) ∙ here, λ k first less. get_key m.entries (at table k) ∙ before k first less)

keys-entries_of : (pairs : List Pair) → keys_of (entries_of pairs) ≡ map (λ pair. pair.key) pairs
keys-entries_of [] = refl
keys-entries_of (pair ∷ pairs) = ap (λ keys. pair.key ∷ keys) (keys-entries_of pairs)

-- pairs whose keys are those of a map in order ascend
pub AscendByKey-from_sorted : (pairs : List Pair) → IsStrictlySortedBy key_cmp (keys_of (entries_of pairs)) → AscendByKey pairs
AscendByKey-from_sorted pairs sorted = λ i j d less within.
    let key : Pair → Key = λ pair. pair.key in
    let keys = subst (IsStrictlySortedBy key_cmp) (keys-entries_of pairs) sorted in
    let bound : j < length (map key pairs) = omega (arith, length-map pairs key) in
    let ordered = Less-from_sorted key_cmp (map key pairs) i j d.key keys less bound in
    rw (get_or-map key pairs i d, get_or-map key pairs j d) at ordered
