-- From words that were read to what bytes begin with.
use Rattle.std.proofs.Common.{◌≡◌, ℕ, suc, ◌+◌, ◌-◌, ◌*◌, ◌/◌, ◌≤◌, List, [], ◌∷◌, ◌++◌, length, get_or, take, drop, Option, None, Some, refl, sym, ap, ◌∙◌, arith, append_assoc, append-nil, inr}
use Rattle.std.proofs.lemmas.List.{get_or_append_left}
use Rattle.erm_bytes.specs.Bytes.{words_of}
use Rattle.erm_bytes.proofs.Words.{length-words_of}
use Rattle.erm_block.specs.declared.block.Block.{Block}
use Rattle.erm_block.specs.Spelling.{StandsAt, spelling}
use Rattle.erm_ckpt.specs.Checkpoint.{Checkpoint, slot_words}
use Rattle.erm_replica.specs.declared.item.LogPlace.{LogPlace}
use Rattle.erm_replica.specs.Stream.{IsBase, IsUnreadable, Part, StandsFirst, announced, first_word, part_words, words_in}
use Rattle.erm_replica.specs.Stream.Part.{base, block}
use Rattle.erm_replica.proofs.Words.{same_front, words_in-front}

-- the first word that was read
pub first_read : (bytes out : List ℕ) → 8 ≤ length bytes → out ≡ words_of 1 (take 8 bytes) → get_or out 0 0 ≡ first_word bytes
first_read bytes out long e =
    let more : List ℕ = words_of (length bytes / 8 - 1) (drop 8 bytes) in
    ap (λ (ws : List ℕ). get_or ws 0 0) e
    ∙ sym (get_or_append_left (words_of 1 (take 8 bytes)) more 0 0 (omega (arith, length-words_of 1 (take 8 bytes))))
    ∙ sym (ap (λ (ws : List ℕ). get_or ws 0 0) (words_in-front 1 bytes long))

-- words that were read, and those behind
pub record AreRead (bytes ws : List ℕ) (size : ℕ) : Type 0 where
  pub long : 8 * size ≤ length bytes
  pub words : ws ≡ words_of size (take (8 * size) bytes)

pub are_read : (bytes piece out : List ℕ) (n size : ℕ) → 8 * size ≤ length bytes → out ≡ words_of n piece → n ≡ size → piece ≡ take (8 * size) bytes → AreRead bytes out size
are_read bytes piece out n size long e count front = record { long = long; words = e ∙ ap (λ (k : ℕ). words_of k piece) count ∙ ap (λ (b : List ℕ). words_of size b) front }

pub read_front : (bytes ws : List ℕ) (size : ℕ) → AreRead bytes ws size → words_in bytes ≡ ws ++ words_of (length bytes / 8 - size) (drop (8 * size) bytes)
read_front bytes ws size read =
    words_in-front size bytes read.long ∙ ap (λ (front : List ℕ). front ++ words_of (length bytes / 8 - size) (drop (8 * size) bytes)) (sym read.words)

pub read_size : (bytes ws : List ℕ) (size : ℕ) → AreRead bytes ws size → length ws ≡ size
read_size bytes ws size read = ap length read.words ∙ length-words_of size (take (8 * size) bytes)

cons_drop : (ws : List ℕ) (n : ℕ) → length ws ≡ suc n → ws ≡ get_or ws 0 0 ∷ drop 1 ws
cons_drop [] n e = absurd (cc)
cons_drop (w ∷ ws) n e = refl

-- ---- a checkpoint

pub record HasBase (bytes : List ℕ) (size : ℕ) (c : Checkpoint) : Type 0 where
  pub stands : StandsFirst None bytes (base c)
  pub size_is : size ≡ length (part_words (base c))

pub has_base : (bytes ws : List ℕ) (size first : ℕ) (c : Checkpoint) → AreRead bytes ws size → get_or ws 0 0 ≡ first → size ≡ first + 1 → IsBase c → drop 1 ws ≡ slot_words c → HasBase bytes size c
has_base bytes ws size first c read head size_is is tail =
    let long : length ws ≡ suc first = omega (arith, read_size bytes ws size read, size_is) in
    let split = cons_drop ws first long in
    let count : first ≡ length (slot_words c) = omega (arith, long, ap length split, ap length tail) in
    let words : ws ≡ part_words (base c) = split ∙ ap (λ (w : ℕ). w ∷ drop 1 ws) (head ∙ count) ∙ ap (λ (rest : List ℕ). length (slot_words c) ∷ rest) tail in
    record {
      stands = record {
        may = is;
        spelled = (
          words_of (length bytes / 8 - size) (drop (8 * size) bytes),
          read_front bytes ws size read ∙ ap (λ (front : List ℕ). front ++ words_of (length bytes / 8 - size) (drop (8 * size) bytes)) words,
        );
      };
      size_is = omega (arith, size_is, count);
    }

-- the word read in front
pub read_head : (bytes ws : List ℕ) (size : ℕ) → AreRead bytes ws size → 1 ≤ size → get_or ws 0 0 ≡ first_word bytes
read_head bytes ws size read some =
    sym (get_or_append_left ws (words_of (length bytes / 8 - size) (drop (8 * size) bytes)) 0 0 (omega (arith, some, read_size bytes ws size read)))
    ∙ sym (ap (λ (ws : List ℕ). get_or ws 0 0) (read_front bytes ws size read))

-- ---- a block

pub has_block : (bytes ws : List ℕ) (size : ℕ) (log : LogPlace) (b : Block) → AreRead bytes ws size → StandsAt ws b log.at log.run → StandsFirst (Some log) bytes (block b)
has_block bytes ws size log b read stands =
    let more : List ℕ = words_of (length bytes / 8 - size) (drop (8 * size) bytes) in
    record {
      may = stands.is;
      spelled = (
        stands.spelled.0 ++ more,
        read_front bytes ws size read ∙ ap (λ (front : List ℕ). front ++ more) stands.spelled.1 ∙ append_assoc (spelling b) stands.spelled.0 more,
      );
    }

-- ---- neither

same_some : (x y : ℕ) → ◌≡◌ {A = Option ℕ} (Some x) (Some y) → x ≡ y
same_some x y e = cc

module _ (fits : (log : Option LogPlace) (bytes : List ℕ) (part : Part) → StandsFirst log bytes part
    → (announced log (first_word bytes) ≡ Some (length (part_words part))) × (8 * length (part_words part) ≤ length bytes)) where
  -- a part that stands is what was read
  same_words : (log : Option LogPlace) (bytes ws : List ℕ) (size : ℕ) (part : Part) → AreRead bytes ws size → announced log (first_word bytes) ≡ Some size
      → StandsFirst log bytes part → ws ≡ part_words part
  same_words log bytes ws size part read announces stands =
      let more : List ℕ = words_of (length bytes / 8 - size) (drop (8 * size) bytes) in
      let same : size ≡ length (part_words part) = same_some size (length (part_words part)) (sym announces ∙ (fits log bytes part stands).0) in
      same_front ws (part_words part) more stands.spelled.0 (sym (read_front bytes ws size read) ∙ stands.spelled.1) (read_size bytes ws size read ∙ same)

  pub no_base : (bytes ws : List ℕ) (size : ℕ) → AreRead bytes ws size → announced None (first_word bytes) ≡ Some size → 8 ≤ length bytes
      → ((c : Checkpoint) → IsBase c → drop 1 ws ≡ slot_words c → ⊥) → IsUnreadable None bytes
  no_base bytes ws size read announces long none = (long, inr (size, announces, read.long, no_part)) where
    no_part : (part : Part) → StandsFirst None bytes part → ⊥
    no_part (base c) stands = none c stands.may (ap (drop 1) (same_words None bytes ws size (base c) read announces stands))
    no_part (block b) stands = stands.may

  pub no_block : (bytes ws : List ℕ) (size : ℕ) (log : LogPlace) → AreRead bytes ws size → announced (Some log) (first_word bytes) ≡ Some size → 8 ≤ length bytes
      → ((b : Block) → StandsAt ws b log.at log.run → ⊥) → IsUnreadable (Some log) bytes
  no_block bytes ws size log read announces long none = (long, inr (size, announces, read.long, no_part)) where
    no_part : (part : Part) → StandsFirst (Some log) bytes part → ⊥
    no_part (base c) stands = stands.may
    no_part (block b) stands = none b (record {
      is = stands.may;
      spelled = ([], same_words (Some log) bytes ws size (block b) read announces stands ∙ sym (append-nil (spelling b)));
    })
