-- The places of a node's row: words that are filled up with zeros, pairs that are zipped, and keys that ascend.
use Rattle.std.proofs.Common.{◌≡◌, ℕ, suc, ◌+◌, ◌-◌, ◌^◌, ◌<◌, ◌≤◌, List, [], ◌∷◌, ◌++◌, map, length, get_or, take, drop, set, replicate, Bool, true, false, ◌&&◌, refl, sym, ap, ◌∙◌, append_assoc, drop-cons, arith, length-append, length-drop, length-take}
use Rattle.std.specs.Prelude.{min, zip, nat_lt, slice_index}
use Rattle.std.proofs.lemmas.List.Folds.{list_all_at, list_all_more}
use Rattle.std.proofs.lemmas.List.{take_more, take_all, map-append, length-map, length-replicate, set_at, get_or-take, get_or-drop}
use Rattle.std.proofs.lemmas.Slice.Zip.{length-zip, get_or-zip}
use Rattle.std.proofs.lemmas.Bool.Decides.{nat_tests}
use Rattle.erm_node.specs.Node.{ascends, starts_above, filled, have_32_bits, keys_of, oids_of, shape_in}

-- a word in the first place that is left
set-filled : (front : List ℕ) (i word : ℕ) → length front ≡ i → i < 7 → set (front ++ replicate (7 - i) 0) i word ≡ front ++ word ∷ replicate (7 - (i + 1)) 0
set-filled front i word long room =
    ap (λ (n : ℕ). set (front ++ replicate n 0) i word) (let e : 7 - i ≡ suc (7 - (i + 1)) = omega arith in e)
    ∙ set_at front 0 (replicate (7 - (i + 1)) 0) word i long

-- one word more in its place
pub filled_more : (f : ℕ × ℕ → ℕ) (pairs : List (ℕ × ℕ)) (i : ℕ) (d : ℕ × ℕ) → i < length pairs → i < 7 → set (map f (take i pairs) ++ replicate (7 - i) 0) i (f (get_or pairs i d)) ≡ map f (take (i + 1) pairs) ++ replicate (7 - (i + 1)) 0
filled_more f pairs i d below room =
    let word = f (get_or pairs i d) in
    let more : map f (take (i + 1) pairs) ≡ map f (take i pairs) ++ word ∷ [] = ap (map f) (take_more pairs i d below) ∙ map-append f (take i pairs) (get_or pairs i d ∷ []) in
    set-filled (map f (take i pairs)) i word (omega (arith, length-map (take i pairs) f, length-take i pairs)) room
    ∙ sym (append_assoc (map f (take i pairs)) (word ∷ []) (replicate (7 - (i + 1)) 0))
    ∙ ap (λ (done : List ℕ). done ++ replicate (7 - (i + 1)) 0) (sym more)

-- all words in their places
pub filled_all : (f : ℕ × ℕ → ℕ) (pairs : List (ℕ × ℕ)) (i : ℕ) → length pairs ≡ i → map f (take i pairs) ++ replicate (7 - i) 0 ≡ filled (map f pairs)
filled_all f pairs i all =
    ap (λ (front : List (ℕ × ℕ)). map f front ++ replicate (7 - i) 0) (take_all i pairs (omega arith))
    ∙ ap (λ (n : ℕ). map f pairs ++ replicate (7 - n) 0) (omega (arith, length-map pairs f))

-- there are seven places
pub length-filled : (words : List ℕ) → length words ≤ 7 → length (filled words) ≡ 7
length-filled words few = omega (arith, length-append words (replicate (7 - length words) 0), length-replicate {A = ℕ} (7 - length words) 0)

-- keys and objects beside one another
pub zip-keys_of : (pairs : List (ℕ × ℕ)) (rest : List ℕ) → zip (keys_of pairs) (oids_of pairs ++ rest) ≡ pairs
zip-keys_of [] rest = refl
zip-keys_of (pair ∷ pairs) rest = ap (λ (others : List (ℕ × ℕ)). pair ∷ others) (zip-keys_of pairs rest)

-- how many pairs the places of a row have
pub length-pairs_in : (row : List ℕ) → length row ≡ 16 → length ((shape_in row).pairs) ≡ min (slice_index row 1) 7
length-pairs_in row whole =
    let keys = take (slice_index row 1) (take 7 (drop 2 row)) in
    let many : length (zip keys (drop 9 row)) ≡ min (slice_index row 1) 7 =
    omega (arith, length-zip keys (drop 9 row), length-take (slice_index row 1) (take 7 (drop 2 row)), length-take 7 (drop 2 row), length-drop 2 row, length-drop 9 row) in
    many

-- the pair at a place
pub get_or-pairs_in : (row : List ℕ) → length row ≡ 16 → (i : ℕ) → i < 7 → i < slice_index row 1 → get_or ((shape_in row).pairs) i (0, 0) ≡ (slice_index row (2 + i), slice_index row (9 + i))
get_or-pairs_in row whole i few below =
    let keys = take (slice_index row 1) (take 7 (drop 2 row)) in
    let some_keys : i < length keys = omega (arith, length-take (slice_index row 1) (take 7 (drop 2 row)), length-take 7 (drop 2 row), length-drop 2 row) in
    let some_oids : i < length (drop 9 row) = omega (arith, length-drop 9 row) in
    let key : get_or keys i 0 ≡ slice_index row (2 + i) =
    get_or-take (slice_index row 1) (take 7 (drop 2 row)) i 0 below ∙ get_or-take 7 (drop 2 row) i 0 few ∙ get_or-drop 2 row i 0 in
    let oid : get_or (drop 9 row) i 0 ≡ slice_index row (9 + i) = get_or-drop 9 row i 0 in
    let both : get_or (zip keys (drop 9 row)) i (0, 0) ≡ (get_or keys i 0, get_or (drop 9 row) i 0) = get_or-zip keys (drop 9 row) i (0, 0) some_keys some_oids in
    both ∙ (λ j. (key j, oid j))

ascends_pair : (pair : ℕ × ℕ) (pairs : List (ℕ × ℕ)) (next : ℕ × ℕ) (others : List (ℕ × ℕ)) → pairs ≡ next ∷ others → (b : Bool) → nat_lt pair.0 next.0 ≡ b → ascends (pair ∷ pairs) ≡ (b && ascends pairs)
ascends_pair pair pairs next others split b is = ap (λ (tested : Bool). tested && ascends pairs) (ap (starts_above pair.0) split ∙ is)

module _ (pairs : List (ℕ × ℕ)) (i : ℕ) (low : 1 ≤ i) (below : i < length pairs) where
  ascends_at : (b : Bool) → nat_lt (get_or pairs (i - 1) (0, 0)).0 (get_or pairs i (0, 0)).0 ≡ b → ascends (drop (i - 1) pairs) ≡ (b && ascends (drop i pairs))
  ascends_at b is =
      let here : drop (i - 1) pairs ≡ get_or pairs (i - 1) (0, 0) ∷ drop i pairs =
      drop-cons pairs (i - 1) (0, 0) (omega arith) ∙ ap (λ (n : ℕ). get_or pairs (i - 1) (0, 0) ∷ drop n pairs) (let e : suc (i - 1) ≡ i = omega arith in e) in
      ap ascends here ∙ ascends_pair (get_or pairs (i - 1) (0, 0)) (drop i pairs) (get_or pairs i (0, 0)) (drop (suc i) pairs) (drop-cons pairs i (0, 0) below) b is

  -- a key below the next one leaves the others
  pub ascends_more : (get_or pairs (i - 1) (0, 0)).0 < (get_or pairs i (0, 0)).0 → ascends (drop (i - 1) pairs) ≡ ascends (drop (i + 1 - 1) pairs)
  ascends_more less = ascends_at true (grind (arith, nat_tests)) ∙ ap (λ (n : ℕ). ascends (drop n pairs)) (let e : i ≡ i + 1 - 1 = omega arith in e)

  -- a key that isn't below the next one
  pub ascends_no_more : (get_or pairs i (0, 0)).0 ≤ (get_or pairs (i - 1) (0, 0)).0 → ascends (drop (i - 1) pairs) ≡ false
  ascends_no_more more = ascends_at false (grind (arith, nat_tests))

-- at most one key
pub ascends_last : (pairs : List (ℕ × ℕ)) → length pairs ≤ 1 → ascends pairs ≡ true
ascends_last [] few = refl
ascends_last (pair ∷ []) few = refl
ascends_last (pair ∷ next ∷ pairs) few = absurd (omega (arith, few))

-- a last test that fails
pub fails_last : (a b : Bool) → b ≡ false → (a && b) ≡ false
fails_last true b e = e
fails_last false b e = refl

-- an object's number that has more than 32 bits
pub have_32_bits-wide : (row : List ℕ) → length row ≡ 16 → (i : ℕ) → i < 7 → i < slice_index row 1 → 2 ^ 32 ≤ slice_index row (9 + i) → have_32_bits ((shape_in row).pairs) ≡ false
have_32_bits-wide row whole i few below wide =
    let pairs = (shape_in row).pairs in
    let narrow : ℕ × ℕ → Bool = λ pair. nat_lt pair.1 (2 ^ 32) in
    let some : i < length pairs = omega (arith, length-pairs_in row whole) in
    let here : narrow (get_or pairs i (0, 0)) ≡ false = ap narrow (get_or-pairs_in row whole i few below) ∙ (let e : nat_lt (slice_index row (9 + i)) (2 ^ 32) ≡ false = grind (arith, nat_tests) in e) in
    list_all_at narrow pairs i (0, 0) some here

-- one more object's number of 32 bits
pub have_32_bits-more : (row : List ℕ) → length row ≡ 16 → (i : ℕ) → i < 7 → i < slice_index row 1 → slice_index row (9 + i) < 2 ^ 32 → have_32_bits (take i ((shape_in row).pairs)) ≡ true → have_32_bits (take (i + 1) ((shape_in row).pairs)) ≡ true
have_32_bits-more row whole i few below small so_far =
    let pairs = (shape_in row).pairs in
    let narrow : ℕ × ℕ → Bool = λ pair. nat_lt pair.1 (2 ^ 32) in
    let some : i < length pairs = omega (arith, length-pairs_in row whole) in
    let here : narrow (get_or pairs i (0, 0)) ≡ true = ap narrow (get_or-pairs_in row whole i few below) ∙ (let e : nat_lt (slice_index row (9 + i)) (2 ^ 32) ≡ true = grind (arith, nat_tests) in e) in
    list_all_more narrow pairs i (0, 0) some ∙ ap (λ (b : Bool). b && narrow (get_or pairs i (0, 0))) so_far ∙ here
