-- No row's words begin another's, and no row's first words say two things.
use Rattle.std.proofs.Common.{◌≡◌, ℕ, ◌-◌, ◌≤◌, List, [], ◌∷◌, ◌++◌, length, get_or, take, drop, refl, sym, ap, ◌∙◌, arith}
use Rattle.std.specs.List.{flat_map, All}
use Rattle.std.proofs.lemmas.List.{append_assoc, drop_at}
use Rattle.std.proofs.lemmas.List.Elements.{All-head, All-tail}
use Rattle.erm_record.proofs.StoredRows.{stored_length-le, stored_whole}
use Rattle.erm_block.specs.declared.block.Form.{Form}
use Rattle.erm_block.specs.declared.block.Form.TheVariants.{Whole, Stored}
use Rattle.erm_block.specs.Block.{Entry, IsEntry}
use Rattle.erm_block.specs.Spelling.{entry_words, first_word, row_words}
use Rattle.erm_block.proofs.EntryWords.{length-row_words}
use Rattle.erm_block.proofs.Reading.{read_row}
use Rattle.erm_record.specs.Stored.{stored_length}
use Rattle.erm_ckpt.specs.Checkpoint.{IsSaved}

-- the first word says the object and how many words follow
record SameHead (form : Form) (a b : Entry) : Type 0 where
  pub oid : a.0 ≡ b.0
  pub count : length (row_words form a.1) ≡ length (row_words form b.1)

same_head : (form : Form) (a b : Entry) → IsEntry a → IsEntry b → first_word form a ≡ first_word form b → SameHead form a b
same_head Whole a b is_a is_b e = record { oid = e; count = is_a.row ∙ sym is_b.row }
same_head Stored a b is_a is_b e =
    let low_a = is_a.oid in
    let low_b = is_b.oid in
    let count : stored_length a.1 ≡ stored_length b.1 = omega (arith, e, low_a, low_b) in
    record {
      oid = omega (arith, e, low_a, low_b);
      count = length-row_words stored_length-le a.1 ∙ count ∙ sym (length-row_words stored_length-le b.1);
    }

-- two rows with their objects are one, and so is what stands behind them
pub record SameFront (a b : Entry) (p q : List ℕ) : Type 0 where
  pub entry : a ≡ b
  pub behind : p ≡ q

pub same_entry : (form : Form) (a b : Entry) (p q : List ℕ) → IsEntry a → IsEntry b → entry_words form a ++ p ≡ entry_words form b ++ q → SameFront a b p q
same_entry form a b p q is_a is_b e =
    let first : first_word form a ≡ first_word form b = ap (λ (ws : List ℕ). get_or ws 0 0) e in
    let head = same_head form a b is_a is_b first in
    let words : row_words form a.1 ++ p ≡ row_words form b.1 ++ q = ap (λ (ws : List ℕ). drop 1 ws) e in
    let all : List ℕ = row_words form a.1 ++ p in
    let size : ℕ = length (row_words form a.1) in
    let one = read_row stored_length-le stored_whole form a all p (take (size - 0) all) a.0 size is_a refl refl refl refl in
    let other = read_row stored_length-le stored_whole form b all q (take (size - 0) all) a.0 size is_b words head.oid head.count refl in
    let same : a ≡ b = sym one ∙ other in
    record {
      entry = same;
      behind = sym (drop_at (entry_words form a) p (length (entry_words form a)) refl)
          ∙ ap (drop (length (entry_words form a))) e
          ∙ drop_at (entry_words form b) q (length (entry_words form a)) (ap (λ (x : Entry). length (entry_words form x)) (sym same));
    }

-- of two lists of rows with the same words before others, the shorter is a front of the longer
pub record IsFront (form : Form) (xs ys : List Entry) (p q : List ℕ) : Type 0 where
  pub front : xs ≡ take (length xs) ys
  pub behind : p ≡ flat_map (entry_words form) (drop (length xs) ys) ++ q

pub is_front : (form : Form) (xs ys : List Entry) (p q : List ℕ) → All IsSaved xs → All IsSaved ys → length xs ≤ length ys
    → flat_map (entry_words form) xs ++ p ≡ flat_map (entry_words form) ys ++ q → IsFront form xs ys p q
is_front form [] ys p q each_x each_y few e = record { front = refl; behind = e }
is_front form (x ∷ xs) [] p q each_x each_y few e = absurd (omega (arith, few))
is_front form (x ∷ xs) (y ∷ ys) p q each_x each_y few e =
    let f : Entry → List ℕ = entry_words form in
    let front : f x ++ (flat_map f xs ++ p) ≡ f y ++ (flat_map f ys ++ q) =
    sym (append_assoc (f x) (flat_map f xs) p) ∙ e ∙ append_assoc (f y) (flat_map f ys) q in
    let one = same_entry form x y (flat_map f xs ++ p) (flat_map f ys ++ q) (All-head IsSaved x xs each_x).is (All-head IsSaved y ys each_y).is front in
    let rest = is_front form xs ys p q (All-tail IsSaved x xs each_x) (All-tail IsSaved y ys each_y) (omega (arith, few)) one.behind in
    record {
      front = ap (λ (z : Entry). z ∷ xs) one.entry ∙ ap (λ (zs : List Entry). y ∷ zs) rest.front;
      behind = rest.behind;
    }
