-- Keys in order, and what a database map has at a key after each change.
use Rattle.std.proofs.Common.{is_some, length, ◌+◌, add-one, ◌≡◌, ◌≢◌, ℕ, true, false, cond, ◌&&◌, ◌==◌, List, [], ◌∷◌, Option, Some, None, refl, sym, ap, ◌∙◌, arith}
use Rattle.std.specs.Cmp.{IsTotalOrder, tied_itself, nat_cmp_total, eq_by_cmp_equiv}
use Rattle.std.specs.declared.cmp.Ordering.{Ordering}
use Rattle.std.specs.declared.cmp.Ordering.TheVariants.{Less, Equal, Greater}
use Rattle.std.specs.Ordering.{nat_cmp, eq_by_cmp, is_eq, ordering_then}
use Rattle.std.specs.List.{AllByRecursion}
use Rattle.std.specs.List.Sorted.{IsStrictlySortedBy}
use Rattle.std.specs.Map.{lookup, keys_of}
use Rattle.std.proofs.lemmas.Map.Keys.{sorted_head, sorted_tail}
use Rattle.std.specs.BTreeMap.{is_at}
use Rattle.std.specs.FinMap.{get, insert, remove, empty, from_entries, find, get-insert, get-remove, get-empty, get-from_entries, same_map, len, len-empty, len-insert}
use Rattle.std.proofs.lemmas.Cmp.{on_total, then_total}
use Rattle.std.proofs.lemmas.Bool.{false≢true}
use Rattle.std.proofs.lemmas.Bool.Decides.{nat_tests}
use Rattle.std.proofs.lemmas.Map.Lookups.{CmpEqualImpliesEq, exact_pairs, exact_unsigned}
use Rattle.erm_model.specs.declared.key.Key.{Key}
use Rattle.erm_model.specs.Database.{Database, key_cmp, at, value_at}

-- keys that compare alike are one
pub exact_keys : CmpEqualImpliesEq key_cmp
exact_keys a b h = ap (λ (p : ℕ × ℕ). at p.0 p.1) (exact_pairs nat_cmp nat_cmp exact_unsigned exact_unsigned (a.table, a.key) (b.table, b.key) h)

-- the keys' order is total
pub keys_total : IsTotalOrder key_cmp
keys_total = then_total (on_total (λ k. k.table) nat_cmp_total) (on_total (λ k. k.key) nat_cmp_total)

find_key : {X : Type 0} (es : List (Key × X)) (q : Key) → find key_cmp q es ≡ lookup (is_at (key_cmp q)) es
find_key [] q = refl
find_key (e ∷ es) q = ap (cond (is_at (key_cmp q) e.0) (Some e.1)) (find_key es q)

-- what the map that the entries make has at a key
pub get_key : {X : Type 0} (es : List (Key × X)) (q : Key) → get (from_entries {R = key_cmp} es) q ≡ lookup (is_at (key_cmp q)) es
get_key es q = get-from_entries keys_total es q ∙ find_key es q

-- database maps with the same value at each key are the same
pub same_database : (m n : Database) → ((table key : ℕ) → value_at m table key ≡ value_at n table key) → m ≡ n
same_database m n same = same_map keys_total exact_keys m n (λ q. same q.table q.key)

-- entries that differ at one key make maps that differ there
pub one_given : {X : Type 0} (es fs : List (Key × X)) (k : Key) (v : X) → ((q : Key) → lookup (is_at (key_cmp q)) fs ≡ cond (is_at (key_cmp k) q) (Some v) (lookup (is_at (key_cmp q)) es)) → from_entries {R = key_cmp} fs ≡ insert (from_entries es) k v
one_given es fs k v h = same_map keys_total exact_keys _ _ (λ q.
    get_key fs q ∙ h q ∙ ap (λ b. cond b (Some v) (lookup (is_at (key_cmp q)) es)) ((eq_by_cmp_equiv keys_total).symm k q)
    ∙ sym (get-insert keys_total (from_entries es) k v q ∙ ap (cond (is_at (key_cmp q) k) (Some v)) (get_key es q)))

-- entries without one key make the map without it
pub one_taken : {X : Type 0} (es fs : List (Key × X)) (k : Key) → ((q : Key) → lookup (is_at (key_cmp q)) fs ≡ cond (is_at (key_cmp k) q) None (lookup (is_at (key_cmp q)) es)) → from_entries {R = key_cmp} fs ≡ remove (from_entries es) k
one_taken es fs k h = same_map keys_total exact_keys _ _ (λ q.
    get_key fs q ∙ h q ∙ ap (λ b. cond b None (lookup (is_at (key_cmp q)) es)) ((eq_by_cmp_equiv keys_total).symm k q)
    ∙ sym (get-remove keys_total (from_entries es) k q ∙ ap (cond (is_at (key_cmp q) k) None) (get_key es q)))

-- an empty database map has no value
pub value_at-empty : (table key : ℕ) → value_at empty table key ≡ None
value_at-empty table key = get-empty key_cmp (at table key)

tied_then : (a b : Ordering) → is_eq (ordering_then a b) ≡ (is_eq a && is_eq b)
tied_then Less b = refl
tied_then Equal b = refl
tied_then Greater b = refl

tied_numbers : (x y : ℕ) → is_eq (nat_cmp x y) ≡ (x == y)
tied_numbers x y = grind (arith, nat_tests)

-- keys tie exactly where their tables and their numbers are equal
pub tied_keys : (t k table key : ℕ) → eq_by_cmp key_cmp (at t k) (at table key) ≡ ((t == table) && (k == key))
tied_keys t k table key =
    tied_then (nat_cmp t table) (nat_cmp k key)
    ∙ ap (λ b. b && is_eq (nat_cmp k key)) (tied_numbers t table)
    ∙ ap (λ b. (t == table) && b) (tied_numbers k key)

tied : (o : Ordering) → is_eq o ≡ true → o ≡ Equal
tied Less h = absurd (false≢true h)
tied Equal h = refl
tied Greater h = absurd (false≢true h)

-- keys that differ do not tie
apart : (a b : Key) → a ≢ b → eq_by_cmp key_cmp a b ≡ false
apart a b other = elim (eq_by_cmp key_cmp a b) as (λ r. eq_by_cmp key_cmp a b ≡ r → r ≡ false) [
  | true ↦ λ e. absurd (other (exact_keys a b (tied _ e)))
  | false ↦ λ e. refl
] refl

-- after a key is set, it has the value that it was given, and each other key what it had
pub value_at-insert : (m : Database) (table key : ℕ) (value : List ℕ) (t k : ℕ) → value_at (insert m (at table key) value) t k ≡ cond ((t == table) && (k == key)) (Some value) (value_at m t k)
value_at-insert m table key value t k = get-insert keys_total m (at table key) value (at t k) ∙ ap (λ b. cond b (Some value) (value_at m t k)) (tied_keys t k table key)

-- after a key is taken away, it has no value, and each other key what it had
pub value_at-remove : (m : Database) (table key t k : ℕ) → value_at (remove m (at table key)) t k ≡ cond ((t == table) && (k == key)) None (value_at m t k)
value_at-remove m table key t k = get-remove keys_total m (at table key) (at t k) ∙ ap (λ b. cond b None (value_at m t k)) (tied_keys t k table key)

-- the key that was set has the value that it was given
pub value_at-insert_same : (m : Database) (table key : ℕ) (value : List ℕ) → value_at (insert m (at table key) value) table key ≡ Some value
value_at-insert_same m table key value = get-insert keys_total m (at table key) value (at table key) ∙ ap (λ o. cond (is_eq o) (Some value) (value_at m table key)) (tied_itself keys_total (at table key))

-- each other key has what it had
pub value_at-insert_other : (m : Database) (table key : ℕ) (value : List ℕ) (t k : ℕ) → at t k ≢ at table key → value_at (insert m (at table key) value) t k ≡ value_at m t k
value_at-insert_other m table key value t k other = get-insert keys_total m (at table key) value (at t k) ∙ ap (λ b. cond b (Some value) (value_at m t k)) (apart (at t k) (at table key) other)

-- the key that was taken away has no value
pub value_at-remove_same : (m : Database) (table key : ℕ) → value_at (remove m (at table key)) table key ≡ None
value_at-remove_same m table key = get-remove keys_total m (at table key) (at table key) ∙ ap (λ o. cond (is_eq o) None (value_at m table key)) (tied_itself keys_total (at table key))

-- each other key has what it had
pub value_at-remove_other : (m : Database) (table key t k : ℕ) → at t k ≢ at table key → value_at (remove m (at table key)) t k ≡ value_at m t k
value_at-remove_other m table key t k other = get-remove keys_total m (at table key) (at t k) ∙ ap (λ b. cond b None (value_at m t k)) (apart (at t k) (at table key) other)

-- what a database map has at a key after each change
pub ruleset values = (value_at-empty, value_at-insert, value_at-remove)

missed : {X : Type 0} (k : Key) (es : List (Key × X)) → AllByRecursion (λ q. key_cmp k q ≡ Less) (keys_of es) → find key_cmp k es ≡ None
missed k [] below = refl
missed k (e ∷ es) below = ap (λ o. cond (is_eq o) (Some e.1) (find key_cmp k es)) below.0 ∙ missed k es below.1

-- entries in order make a map with as many keys
pub len-from_entries : {X : Type 0} (es : List (Key × X)) → IsStrictlySortedBy key_cmp (keys_of es) → len (from_entries {R = key_cmp} es) ≡ length es
len-from_entries {X} [] sorted = len-empty key_cmp X
len-from_entries {X} (e ∷ es) sorted =
    let absent : get (from_entries {R = key_cmp} es) e.0 ≡ None = get-from_entries keys_total es e.0 ∙ missed e.0 es (sorted_head key_cmp e.0 (keys_of es) sorted) in
    let counted = len-from_entries es (sorted_tail key_cmp e.0 (keys_of es) sorted) in
    len-insert keys_total (from_entries es) e.0 e.1
    ∙ ap (λ (o : Option X). cond (is_some o) (len (from_entries {R = key_cmp} es)) (len (from_entries {R = key_cmp} es) + 1)) absent
    ∙ ap (λ n. n + 1) counted ∙ add-one (length es)
