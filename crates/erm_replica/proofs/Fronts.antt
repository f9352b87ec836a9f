-- What bytes begin with.
use Rattle.std.proofs.Common.{◌≡◌, ℕ, ◌*◌, ◌≤◌, List, ◌++◌, length, get_or, drop, Option, None, Some, sym, ap, ◌∙◌, arith, append_assoc, length-append, inl, inr}
use Rattle.erm_block.specs.declared.block.Block.{Block}
use Rattle.erm_block.specs.Block.{IsBlock}
use Rattle.erm_block.specs.Spelling.{spelling}
use Rattle.erm_ckpt.specs.Checkpoint.{Checkpoint, IsCheckpoint, slot_words}
use Rattle.erm_replica.specs.declared.item.LogPlace.{LogPlace}
use Rattle.erm_replica.specs.Stream.{IsBase, IsShort, IsUnreadable, Part, StandsFirst, announced, first_word, part_words, start_checkpoint, words_in}
use Rattle.erm_replica.specs.Stream.Part.{base, block}
use Rattle.erm_replica.proofs.Words.{first_word-more, front_of_front, length-words_in, words_in-more}

same_some : (x y : ℕ) → ◌≡◌ {A = Option ℕ} (Some x) (Some y) → x ≡ y
same_some x y e = cc

-- ---- one part

no_start : (c d : Checkpoint) → c ≡ start_checkpoint → IsCheckpoint d → c.slot.run ≡ d.slot.run → c ≡ d
no_start c d start is same = absurd (omega (arith, same, is.slot.run_low, ap (λ (x : Checkpoint). x.slot.run) start))

module _ (one_slot : (a b : Checkpoint) (x y : List ℕ) → IsCheckpoint a → IsCheckpoint b → slot_words a ++ x ≡ slot_words b ++ y → a ≡ b) where
  one_base : (c d : Checkpoint) (x y : List ℕ) → IsBase c → IsBase d → slot_words c ++ x ≡ slot_words d ++ y → c ≡ d
  one_base c d x y is_c is_d e =
      let run : c.slot.run ≡ d.slot.run = ap (λ (ws : List ℕ). get_or ws 2 0) e in
      elim is_c.is [
        | inl start_c ↦ elim is_d.is [ inl start_d ↦ start_c ∙ sym start_d | inr other ↦ no_start c d start_c other run ]
        | inr one ↦ elim is_d.is [ inl start_d ↦ sym (no_start d c start_d one (sym run)) | inr other ↦ one_slot c d x y one other e ]
      ]

  module _ (one_block : (a b : Block) (at_a run_a at_b run_b : ℕ) (x y : List ℕ) → IsBlock a at_a run_a → IsBlock b at_b run_b → spelling a ++ x ≡ spelling b ++ y → a ≡ b) where
    pub one_part : (log : Option LogPlace) (bytes : List ℕ) (a b : Part) → StandsFirst log bytes a → StandsFirst log bytes b → a ≡ b
    one_part None bytes (base c) (base d) p q = ap base (one_base c d p.spelled.0 q.spelled.0 p.may q.may (ap (drop 1) (sym p.spelled.1 ∙ q.spelled.1)))
    one_part None bytes (base c) (block d) p q = absurd q.may
    one_part None bytes (block c) b p q = absurd p.may
    one_part (Some log) bytes (base c) b p q = absurd p.may
    one_part (Some log) bytes (block c) (base d) p q = absurd q.may
    one_part (Some log) bytes (block c) (block d) p q = ap block (one_block c d log.at log.run log.at log.run p.spelled.0 q.spelled.0 p.may q.may (sym p.spelled.1 ∙ q.spelled.1))

-- ---- what bytes announce

module _ (fits : (log : Option LogPlace) (bytes : List ℕ) (part : Part) → StandsFirst log bytes part
    → (announced log (first_word bytes) ≡ Some (length (part_words part))) × (8 * length (part_words part) ≤ length bytes)) where
  -- a part has a word at least
  some_words : (log : Option LogPlace) (bytes : List ℕ) (part : Part) → StandsFirst log bytes part → 1 ≤ length (part_words part)
  some_words log bytes (base c) p = omega arith
  some_words log bytes (block b) p = omega arith

  pub not_short : (log : Option LogPlace) (bytes : List ℕ) (part : Part) → StandsFirst log bytes part → IsShort log bytes → ⊥
  not_short log bytes part p short =
      let all = fits log bytes part p in
      let some = some_words log bytes part p in
      elim short [
        | inl few ↦ omega (arith, few, all.1, some)
        | inr at ↦ let same : at.0 ≡ length (part_words part) = same_some at.0 (length (part_words part)) (sym at.1 ∙ all.0) in omega (arith, same, at.2, all.1)
      ]

  pub not_unreadable : (log : Option LogPlace) (bytes : List ℕ) (part : Part) → StandsFirst log bytes part → IsUnreadable log bytes → ⊥
  not_unreadable log bytes part p un =
      let all = fits log bytes part p in
      elim un.1 [
        | inl none ↦ let e : ◌≡◌ {A = Option ℕ} None (Some (length (part_words part))) = sym none ∙ all.0 in absurd (cc)
        | inr at ↦ at.3 part p
      ]

  pub not_both : (log : Option LogPlace) (bytes : List ℕ) → IsShort log bytes → IsUnreadable log bytes → ⊥
  not_both log bytes short un = elim short [
    | inl few ↦ omega (arith, few, un.0)
    | inr at ↦ elim un.1 [
      | inl none ↦ let e : ◌≡◌ {A = Option ℕ} None (Some at.0) = sym none ∙ at.1 in absurd (cc)
      | inr all ↦ let same : at.0 ≡ all.0 = same_some at.0 all.0 (sym at.1 ∙ all.1) in omega (arith, same, at.2, all.2)
    ]
  ]

  -- ---- with more bytes

  pub part_stays : (log : Option LogPlace) (bytes more : List ℕ) (part : Part) → StandsFirst log bytes part → StandsFirst log (bytes ++ more) part
  part_stays log bytes more part p =
      let words = words_in-more bytes more in
      record {
        may = p.may;
        spelled = (
          p.spelled.0 ++ words.0,
          words.1 ∙ ap (λ (ws : List ℕ). ws ++ words.0) p.spelled.1 ∙ append_assoc (part_words part) p.spelled.0 words.0,
        );
      }

  -- a part that stands in more bytes, and whose words are all there, stands in these
  stood_before : (log : Option LogPlace) (bytes more : List ℕ) (part : Part) → 8 * length (part_words part) ≤ length bytes → StandsFirst log (bytes ++ more) part → StandsFirst log bytes part
  stood_before log bytes more part le p =
      let words = words_in-more bytes more in
      record {
        may = p.may;
        spelled = front_of_front (part_words part) (words_in bytes) p.spelled.0 words.0 (sym p.spelled.1 ∙ words.1) (omega (arith, le, length-words_in bytes));
      }

  pub unreadable_stays : (log : Option LogPlace) (bytes more : List ℕ) → IsUnreadable log bytes → IsUnreadable log (bytes ++ more)
  unreadable_stays log bytes more un =
      let first : first_word (bytes ++ more) ≡ first_word bytes = first_word-more bytes more un.0 in
      let longer : length bytes ≤ length (bytes ++ more) = omega (arith, length-append bytes more) in (
        omega (arith, un.0, longer),
        elim un.1 [
          | inl none ↦ inl (ap (announced log) first ∙ none)
          | inr at ↦ inr (
            at.0,
            ap (announced log) first ∙ at.1,
            omega (arith, at.2, longer),
            λ part p.
                let all = fits log (bytes ++ more) part p in
                let same : length (part_words part) ≡ at.0 = same_some (length (part_words part)) at.0 (sym all.0 ∙ ap (announced log) first ∙ at.1) in
                at.3 part (stood_before log bytes more part (omega (arith, same, at.2)) p),
          )
        ],
      )
