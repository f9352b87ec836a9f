-- How many nodes at the end of a path are full, and how many objects that takes.
use Rattle.std.proofs.Common.{◌≡◌, ℕ, suc, ◌+◌, ◌<◌, ◌≤◌, List, [], ◌∷◌, ◌++◌, length, drop, reverse, Bool, true, false, cond, Option, Some, None, refl, sym, ap, ◌∙◌, arith}
use Rattle.std.specs.Prelude.{◌==◌, map, nat_eq, slice_index, option_and_then}
use Rattle.std.specs.List.{prefix_len, suffix_len}
use Rattle.std.proofs.lemmas.List.{reverse-append, length-reverse, length-map, map-append}
use Rattle.std.proofs.lemmas.Bool.Decides.{nat_tests}
use Rattle.erm_node.specs.Tree.{first_key}
use Rattle.erm_tree.specs.declared.plan.Step.{Step}
use Rattle.erm_tree.specs.Step.{place_of, places_of}
use Rattle.erm_tree.specs.Insert.{Place, with_pair, is_full, handed_on, handed_up, full_run, objects_for}

prefix_len-append_less : {X : Type 0} (p : X → Bool) (xs ys : List X) → prefix_len p xs ≤ prefix_len p (xs ++ ys)
prefix_len-append_less p [] ys = omega arith
prefix_len-append_less p (x ∷ xs) ys =
    elim (p x) as (λ b. cond b (1 + prefix_len p xs) 0 ≤ cond b (1 + prefix_len p (xs ++ ys)) 0) [ true ↦ omega (arith, prefix_len-append_less p xs ys) | false ↦ omega arith ]

prefix_len-append_all : {X : Type 0} (p : X → Bool) (xs ys : List X) → prefix_len p xs ≡ length xs → prefix_len p (xs ++ ys) ≡ length xs + prefix_len p ys
prefix_len-append_all p [] ys all = omega arith
prefix_len-append_all p (x ∷ xs) ys all =
    elim (p x) as (λ b. cond b (1 + prefix_len p xs) 0 ≡ suc (length xs) → cond b (1 + prefix_len p (xs ++ ys)) 0 ≡ suc (length xs) + prefix_len p ys) [
      | true ↦ λ h. omega (arith, prefix_len-append_all p xs ys (omega arith))
      | false ↦ λ h. absurd (omega arith)
    ] all

prefix_len-most : {X : Type 0} (p : X → Bool) (xs : List X) → prefix_len p xs ≤ length xs
prefix_len-most p [] = omega arith
prefix_len-most p (x ∷ xs) = elim (p x) as (λ b. cond b (1 + prefix_len p xs) 0 ≤ suc (length xs)) [ true ↦ omega (arith, prefix_len-most p xs) | false ↦ omega arith ]

reverse-cons : {X : Type 0} (x : X) (xs : List X) → reverse (x ∷ xs) ≡ reverse xs ++ x ∷ []
reverse-cons x xs = reverse-append (x ∷ []) xs

-- more nodes have no fewer
pub full_run-less : (place : Place) (below : List Place) → full_run below ≤ full_run (place ∷ below)
full_run-less place below = omega (arith, prefix_len-append_less is_full (reverse below) (place ∷ []), ap (prefix_len is_full) (reverse-cons place below))

-- not more than there are
pub full_run-most : (path : List Place) → full_run path ≤ length path
full_run-most path = omega (arith, prefix_len-most is_full (reverse path), length-reverse path)

-- a full node above full ones
pub full_run-more : (place : Place) (below : List Place) → full_run below ≡ length below → is_full place ≡ true → full_run (place ∷ below) ≡ suc (length below)
full_run-more place below all full =
    let one : prefix_len is_full (place ∷ []) ≡ 1 = ap (λ (b : Bool). cond b 1 0) full in
    omega (arith, prefix_len-append_all is_full (reverse below) (place ∷ []) (all ∙ sym (length-reverse below)), length-reverse below, one, ap (prefix_len is_full) (reverse-cons place below))

some_handed : (place : Place) (right : ℕ) (pair up : ℕ × ℕ) → handed_on place right pair ≡ Some up → is_full place ≡ true
some_handed place right pair up is =
    elim (is_full place) as (λ b. (q : ℕ × ℕ) → cond b (Some q) None ≡ Some up → b ≡ true) [ true ↦ λ q e. refl | false ↦ λ q e. absurd (cc) ] (first_key (drop 4 (with_pair pair place.shape.pairs)) 0, right) is

-- where a node hands a pair up, it is full, and something was handed to it
pub handed_on-some : (place : Place) (right : ℕ) (handed : Option (ℕ × ℕ)) (up : ℕ × ℕ) → option_and_then (handed_on place right) handed ≡ Some up → (pair : ℕ × ℕ) × (handed ≡ Some pair) × (is_full place ≡ true)
handed_on-some place right None up is = absurd (cc)
handed_on-some place right (Some pair) up is = (pair, refl, some_handed place right pair up is)

-- where nodes hand a pair up, all are full
pub full_run-handed_up : (made : List ℕ) (key : ℕ) (path : List Place) (up : ℕ × ℕ) → handed_up made key path ≡ Some up → full_run path ≡ length path
full_run-handed_up made key [] up is = refl
full_run-handed_up made key (place ∷ below) up is =
    let (pair, handed, full) = handed_on-some place (slice_index made (suc (length below))) (handed_up made key below) up is in
    full_run-more place below (full_run-handed_up made key below pair handed) full

same_test : (a b : ℕ) → a ≡ b → (a == b) ≡ true
same_test a b e = grind (arith, nat_tests)

-- there is an object for each full node and one more
pub objects_for-some : (path : List Place) → full_run path + 1 ≤ objects_for path
objects_for-some path = elim (full_run path == length path) as (λ b. full_run path + 1 ≤ cond b (full_run path + 2) (full_run path + 1)) [ true ↦ omega arith | false ↦ omega arith ]

-- and one more where all are full
pub objects_for-all : (path : List Place) → full_run path ≡ length path → objects_for path ≡ length path + 2
objects_for-all path all = ap (λ (b : Bool). cond b (full_run path + 2) (full_run path + 1)) (same_test (full_run path) (length path) all) ∙ omega arith

-- not more than the nodes and two
pub objects_for-most : (path : List Place) → objects_for path ≤ length path + 2
objects_for-most path =
    let most = full_run-most path in
    elim (full_run path == length path) as (λ b. cond b (full_run path + 2) (full_run path + 1) ≤ length path + 2) [ true ↦ omega arith | false ↦ omega arith ]

-- there is an object for the right half of a full node that a pair comes to
pub object_for-full : (place : Place) (below : List Place) (made : List ℕ) (key n : ℕ) (pair : ℕ × ℕ) → full_run (place ∷ below) < n → handed_up made key below ≡ Some pair → is_full place ≡ true → length below + 1 < n
object_for-full place below made key n pair enough handed full =
    omega (arith, full_run-more place below (full_run-handed_up made key below pair handed) full)

-- fewer nodes have no more
pub full_run-below : (place : Place) (below : List Place) (n : ℕ) → full_run (place ∷ below) < n → full_run below < n
full_run-below place below n enough = omega (arith, full_run-less place below)

reverse-map : (steps : List Step) → reverse (map place_of steps) ≡ map place_of (reverse steps)
reverse-map [] = refl
reverse-map (s ∷ ss) =
    reverse-cons (place_of s) (map place_of ss) ∙ ap (λ (ps : List Place). ps ++ place_of s ∷ []) (reverse-map ss)
    ∙ sym (ap (map place_of) (reverse-cons s ss) ∙ map-append place_of (reverse ss) (s ∷ []))

prefix_len-map : (steps : List Step) → prefix_len is_full (map place_of steps) ≡ prefix_len (λ step. nat_eq (length step.pairs.items) 7) steps
prefix_len-map [] = refl
prefix_len-map (s ∷ ss) = ap (λ (n : ℕ). cond (nat_eq (length s.pairs.items) 7) (1 + n) 0) (prefix_len-map ss)

-- the full nodes at the end of a path, as the program counts them
pub full_run-steps : (steps : List Step) → suffix_len (λ step. nat_eq (length step.pairs.items) 7) steps ≡ full_run (places_of steps)
full_run-steps steps = sym (ap (prefix_len is_full) (reverse-map steps) ∙ prefix_len-map (reverse steps))

-- how many objects are made, by the full nodes as the program counts them
pub objects_for-steps_all : (steps : List Step) (n : ℕ) → n ≡ suffix_len (λ step. nat_eq (length step.pairs.items) 7) steps → n ≡ length steps → n + 2 ≡ objects_for (places_of steps)
objects_for-steps_all steps n counted all =
    omega (arith, counted, full_run-steps steps, objects_for-all (places_of steps) (omega (arith, counted, full_run-steps steps, all, length-map steps place_of)), length-map steps place_of)

pub objects_for-steps_some : (steps : List Step) (n : ℕ) → n ≡ suffix_len (λ step. nat_eq (length step.pairs.items) 7) steps → (n ≡ length steps → ⊥) → n + 1 ≡ objects_for (places_of steps)
objects_for-steps_some steps n counted some =
    let run : full_run (places_of steps) ≡ n = omega (arith, counted, full_run-steps steps) in
    let other : (full_run (places_of steps) == length (places_of steps)) ≡ false = other_test (full_run (places_of steps)) (length (places_of steps)) (λ e. some (omega (arith, e, run, length-map steps place_of))) in
    sym (ap (λ (b : Bool). cond b (full_run (places_of steps) + 2) (full_run (places_of steps) + 1)) other ∙ omega (arith, run))
  where
    other_test : (a b : ℕ) → (a ≡ b → ⊥) → (a == b) ≡ false
    other_test a b apart = grind (arith, nat_tests)

-- there are objects enough for the nodes below the root
pub objects_below : (root : Place) (below : List Place) (n : ℕ) → n ≡ objects_for (root ∷ below) → full_run below < n
objects_below root below n many = omega (arith, many, objects_for-some (root ∷ below), full_run-less root below)

-- and for a root that is cut
pub objects_root : (root : Place) (below : List Place) (made : List ℕ) (key n : ℕ) (pair : ℕ × ℕ) → n ≡ objects_for (root ∷ below) → handed_up made key below ≡ Some pair → is_full root ≡ true → length below + 1 + 1 < n
objects_root root below made key n pair many handed full =
    omega (arith, many, objects_for-all (root ∷ below) (full_run-more root below (full_run-handed_up made key below pair handed) full))
