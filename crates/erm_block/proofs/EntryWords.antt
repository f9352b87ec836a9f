-- The words of entries, one entry more at a time.
use Rattle.std.proofs.Common.{◌≡◌, ℕ, zero, suc, [], ◌∷◌, drop, ◌+◌, ◌<◌, ◌≤◌, List, ◌++◌, length, get_or, take, map, refl, sym, ap, ◌∙◌, arith, length-append}
use Rattle.std.proofs.lemmas.List.Sums.{sum_by-cons}
use Rattle.std.specs.List.{flat_map, All}
use Rattle.std.proofs.lemmas.List.{append_assoc, append-nil, length-take-le, take_at, take_more, drop_more}
use Rattle.std.proofs.lemmas.List.Elements.{All-head, All-tail}
use Rattle.std.proofs.lemmas.List.Concat.{flat_map-append}
use Rattle.erm_record.specs.Stored.{stored_length, stored_words}
use Rattle.erm_block.specs.declared.block.Form.{Form}
use Rattle.erm_block.specs.declared.block.Form.TheVariants.{Whole, Stored}
use Rattle.erm_block.specs.Block.{Entry, IsEntry, size_with}
use Rattle.erm_block.specs.Spelling.{entry_words, row_words}

-- the words of one item more stand behind those of the items before
pub take-flat_map : {X : Type 0} (f : X → List ℕ) (items : List X) (d : X) (i at size : ℕ) (out words behind post : List ℕ) → i < length items → at ≤ length out
    → size ≡ length (f (get_or items i d)) → take at out ≡ flat_map f (take i items) → words ≡ f (get_or items i d) ++ behind
    → take (at + size) (take at out ++ (words ++ post)) ≡ flat_map f (take (i + 1) items)
take-flat_map f items d i at size out words behind post below room count before is =
    let front : List ℕ = take at out in
    let one : List ℕ = f (get_or items i d) in
    let whole : front ++ (words ++ post) ≡ (front ++ one) ++ (behind ++ post) =
    ap (λ (ws : List ℕ). front ++ (ws ++ post)) is ∙ ap (λ (r : List ℕ). front ++ r) (append_assoc one behind post) ∙ sym (append_assoc front one (behind ++ post)) in
    let len : length (front ++ one) ≡ at + size = omega (arith, length-append front one, length-take-le at out room, count) in
    let more : flat_map f (take (i + 1) items) ≡ flat_map f (take i items) ++ one =
    ap (flat_map f) (take_more items i d below) ∙ flat_map-append f (take i items) _ ∙ ap (λ (r : List ℕ). flat_map f (take i items) ++ r) (append-nil one) in
    ap (take (at + size)) whole ∙ take_at (front ++ one) (behind ++ post) (at + size) len ∙ ap (λ (r : List ℕ). r ++ one) before ∙ sym more

-- the words of all items are those of the items before one, of that one, and of those behind it
pub length-flat_map_at : {X : Type 0} (f : X → List ℕ) (items : List X) (d : X) (i : ℕ) → i < length items
    → length (flat_map f items) ≡ length (flat_map f (take i items)) + (length (f (get_or items i d)) + length (flat_map f (drop (i + 1) items)))
length-flat_map_at f [] d i below = absurd (omega arith)
length-flat_map_at f (x ∷ xs) d zero below = omega (arith, length-append (f x) (flat_map f xs))
length-flat_map_at f (x ∷ xs) d (suc i) below =
    let next : drop (suc i + 1) (x ∷ xs) ≡ drop (i + 1) xs = let e : suc i + 1 ≡ suc (i + 1) = omega arith in ap (λ (k : ℕ). drop k (x ∷ xs)) e in
    let rest = length-flat_map_at f xs d i (omega (arith, below)) in
    omega (arith, rest, length-append (f x) (flat_map f xs), length-append (f x) (flat_map f (take i xs)), ap (λ (ys : List _). length (flat_map f ys)) next)

-- one item more has its own words more
pub length-flat_map_more : {X : Type 0} (f : X → List ℕ) (items : List X) (d : X) (i : ℕ) → i < length items
    → length (flat_map f (take (i + 1) items)) ≡ length (flat_map f (take i items)) + length (f (get_or items i d))
length-flat_map_more f items d i below =
    let one : List ℕ = f (get_or items i d) in
    ap (λ (ys : List _). length (flat_map f ys)) (take_more items i d below) ∙ ap length (flat_map-append f (take i items) (get_or items i d ∷ []))
    ∙ length-append (flat_map f (take i items)) (one ++ []) ∙ ap (λ (ws : List ℕ). length (flat_map f (take i items)) + length ws) (append-nil one)

-- the words from an item on begin with its own
pub flat_map-drop : {X : Type 0} (f : X → List ℕ) (items : List X) (d : X) (i : ℕ) (rest : List ℕ) → i < length items
    → flat_map f (drop i items) ++ rest ≡ f (get_or items i d) ++ (flat_map f (drop (i + 1) items) ++ rest)
flat_map-drop f items d i rest below =
    ap (λ (ys : List _). flat_map f ys ++ rest) (drop_more items i d below) ∙ append_assoc (f (get_or items i d)) (flat_map f (drop (i + 1) items)) rest

-- ---- how many words

module _ (short : (row : List ℕ) → stored_length row ≤ length row) where
  -- so many words of a row
  pub length-row_words : (row : List ℕ) → length (row_words Stored row) ≡ stored_length row
  length-row_words row = length-take-le (stored_length row) row (short row)

  pub length-row_words_le : (form : Form) (entry : Entry) → IsEntry entry → length (row_words form entry.1) ≤ 16
  length-row_words_le Whole entry is = let row = is.row in omega (arith, row)
  length-row_words_le Stored entry is = let row = is.row in omega (arith, row, length-row_words entry.1, short entry.1)

  -- the size of a block counts its entries and what stands around them
  pub length-entries : (form : Form) (entries : List Entry) → All IsEntry entries → length (flat_map (entry_words form) entries) + 5 ≡ size_with form entries
  length-entries Whole [] are = refl
  length-entries Whole (e ∷ es) are =
      let row = (All-head IsEntry e es are).row in
      let rest = length-entries Whole es (All-tail IsEntry e es are) in
      omega (arith, row, rest, length-append (entry_words Whole e) (flat_map (entry_words Whole) es))
  length-entries Stored [] are = refl
  length-entries Stored (e ∷ es) are =
      let one = length-row_words e.1 in
      let sum = sum_by-cons stored_words e.1 (map (λ (x : Entry). x.1) es) in
      let rest = length-entries Stored es (All-tail IsEntry e es are) in
      omega (arith, one, sum, rest, length-append (entry_words Stored e) (flat_map (entry_words Stored) es))
