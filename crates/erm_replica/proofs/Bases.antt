-- The slot of a stream's checkpoint: it takes up all of the words.
use Rattle.std.proofs.Common.{◌≡◌, ℕ, ◌+◌, ◌-◌, ◌≤◌, List, [], ◌∷◌, ◌++◌, length, get_or, take, drop, Option, None, Some, refl, sym, ap, ◌∙◌, arith, append_assoc, append-nil, length-append, inl, inr}
use Rattle.std.specs.Prelude.{IfSome}
use Rattle.std.proofs.Math.Seq.{take-append-add}
use Rattle.std.proofs.lemmas.List.{take-append-drop, length-take-le}
use Rattle.erm_model.specs.Rows.{rows_of}
use Rattle.erm_model.specs.RowTransaction.{SameRows}
use Rattle.erm_block.specs.declared.block.Form.{Form}
use Rattle.erm_block.specs.declared.block.Form.TheVariants.{Whole, Stored}
use Rattle.erm_ckpt.specs.declared.slot.Slot.{Slot}
use Rattle.erm_ckpt.specs.Checkpoint.{Checkpoint, IsCheckpoint, StandsIn, format_of, rows_of_checkpoint, slot_words}
use Rattle.erm_ckpt.specs.Reading.{IsSlotOf}
use Rattle.erm_replica.specs.Stream.{IsBase, start_checkpoint}

form_two : (f : Form) → format_of f ≡ 2 → f ≡ Stored
form_two Whole e = absurd (omega (arith, e))
form_two Stored e = refl

-- the words without the last
abbrev but_last : List ℕ → List ℕ
but_last words = take (length words - 1) words

-- where no slot stands in all words but the last, nothing stands behind a slot
nothing_behind : (words rest : List ℕ) (c : Checkpoint) → IsCheckpoint c → words ≡ slot_words c ++ rest
    → ((d : Checkpoint) → StandsIn (but_last words) d → ⊥) → words ≡ slot_words c
nothing_behind words [] c is e none = e ∙ append-nil (slot_words c)
nothing_behind words (r ∷ rest) c is e none =
    let size : length words - 1 ≡ length (slot_words c) + length rest = omega (arith, ap length e, length-append (slot_words c) (r ∷ rest)) in
    let front : but_last words ≡ slot_words c ++ take (length rest) (r ∷ rest) =
    ap (λ (n : ℕ). take n words) size ∙ ap (take (length (slot_words c) + length rest)) e ∙ take-append-add (slot_words c) (r ∷ rest) (length rest) in
    absurd (none c (record { is = is; spelled = (take (length rest) (r ∷ rest), front) }))

pub base_is : (words : List ℕ) (c : Checkpoint) → StandsIn words c → ((d : Checkpoint) → StandsIn (but_last words) d → ⊥)
    → get_or words 0 0 ≡ 2 → get_or words 3 0 ≡ 0 → IsBase c × (words ≡ slot_words c)
base_is words c stands none format first =
    let e : words ≡ slot_words c ++ stands.spelled.0 = stands.spelled.1 in (
      record {
        form = form_two c.form (sym (ap (λ (ws : List ℕ). get_or ws 0 0) e) ∙ format);
        first = sym (ap (λ (ws : List ℕ). get_or ws 3 0) e) ∙ first;
        is = inr stands.is;
      },
      nothing_behind words stands.spelled.0 c stands.is e none,
    )

pub base_read : (words : List ℕ) (rows : List (List ℕ)) (r : Option Slot) → IfSome r (λ slot. IsSlotOf words rows slot) → ((d : Checkpoint) → StandsIn (but_last words) d → ⊥)
    → get_or words 0 0 ≡ 2 → get_or words 3 0 ≡ 0 → IfSome r (λ slot. (c : Checkpoint) × IsBase c × (words ≡ slot_words c) × (slot ≡ c.slot) × SameRows (rows_of rows) (rows_of_checkpoint c))
base_read words rows None is none format first = tt
base_read words rows (Some slot) is none format first =
    let found = base_is words is.checkpoint is.stands none format first in
    (is.checkpoint, found.0, found.1, is.slot_is, is.rows_are)

module _ (one_slot : (a b : Checkpoint) (x y : List ℕ) → IsCheckpoint a → IsCheckpoint b → slot_words a ++ x ≡ slot_words b ++ y → a ≡ b) where
  -- a slot that takes up all of the words doesn't stand in all but the last
  early : (words : List ℕ) (c d : Checkpoint) → IsCheckpoint c → words ≡ slot_words c → 6 ≤ length words → StandsIn (but_last words) d → ⊥
  early words c d is e long stands =
      let last : List ℕ = drop (length words - 1) words in
      let all : slot_words c ++ [] ≡ slot_words d ++ (stands.spelled.0 ++ last) =
      append-nil (slot_words c) ∙ sym e ∙ sym (take-append-drop (length words - 1) words)
      ∙ ap (λ (front : List ℕ). front ++ last) stands.spelled.1 ∙ append_assoc (slot_words d) stands.spelled.0 last in
      let same : c ≡ d = one_slot c d [] (stands.spelled.0 ++ last) is stands.is all in
      let short : length (but_last words) ≡ length words - 1 = length-take-le (length words - 1) words (omega arith) in
      omega (arith, long, short, ap length e, ap (λ (x : Checkpoint). length (slot_words x)) same, ap length stands.spelled.1, length-append (slot_words d) stands.spelled.0)

  pub no_early : (words : List ℕ) (c d : Checkpoint) → (words ≡ slot_words start_checkpoint → ⊥) → IsBase c → words ≡ slot_words c → 6 ≤ length words → StandsIn (but_last words) d → ⊥
  no_early words c d other is e long stands = elim is.is [
    | inl start ↦ other (e ∙ ap slot_words start)
    | inr checkpoint ↦ early words c d checkpoint e long stands
  ]

-- a base but that of the start stands in its words
pub base_stands_in : (words : List ℕ) (c : Checkpoint) → (words ≡ slot_words start_checkpoint → ⊥) → IsBase c → words ≡ slot_words c → StandsIn words c
base_stands_in words c other is e = elim is.is [
  | inl start ↦ absurd (other (e ∙ ap slot_words start))
  | inr checkpoint ↦ record { is = checkpoint; spelled = ([], e ∙ sym (append-nil (slot_words c))) }
]
