-- Slots of files, by the words that were read.
use Rattle.std.proofs.Common.{◌≡◌, ◌≢◌, ℕ, zero, suc, ◌+◌, ◌-◌, ◌*◌, ◌/◌, ◌<◌, ◌≤◌, ◌⊎◌, ◌^◌, List, [], ◌∷◌, ◌++◌, length, take, drop, get_or, replicate, Option, None, Some, refl, sym, ap, ◌∙◌, subst, arith, inl, inr, length-append, length-drop, append_assoc}
use Rattle.std.specs.Prelude.{IfSome, min, ◌↔◌}
use Rattle.std.specs.List.{All}
use Rattle.std.specs.Option.{option_map}
use Rattle.std.proofs.lemmas.List.{length-take, take-append-le, take-append-drop}
use Rattle.erm_bytes.specs.Bytes.{AreWords, bytes_of}
use Rattle.erm_model.specs.Rows.{Rows, rows_of}
use Rattle.erm_model.specs.RowTransaction.{SameRows}
use Rattle.erm_outside.specs.declared.disk.File.{File}
use Rattle.erm_outside.specs.Disk.{Reads, Step, contents}
use Rattle.erm_log_words.specs.Tears.{BeginsWith}
use Rattle.erm_ckpt.specs.declared.slot.Slot.{Slot}
use Rattle.erm_ckpt.specs.declared.slot.TheConstants.{SLOT_WORDS}
use Rattle.erm_ckpt.specs.Checkpoint.{Checkpoint, Checks, IsCheckpoint, StandsIn, rows_of_checkpoint, slot_words, zero_rows}
use Rattle.erm_ckpt.specs.Reading.{IsSlotOf}
use Rattle.erm_ckpt.specs.Recovered.{Shows}
use Rattle.erm_recover.specs.declared.tail.Tail.{Tail}
use Rattle.erm_recover.specs.Recovering.{Begins, ShowsAs, SlotTold}

-- ---- where no slot checks

pub begins_none : (a b : Option Slot) (first other rows : List (List ℕ)) (tail : Tail) → a ≡ None → b ≡ None → tail ≡ record { at = 8; run = 0 } → SameRows (rows_of rows) zero_rows
    → Begins a b first other tail rows
begins_none a b first other rows tail one two at same =
    subst (λ (x : Option Slot). Begins x b first other tail rows) (sym one) (subst (λ (y : Option Slot). Begins None y first other tail rows) (sym two) (at, same))

-- ---- the front of a file

take_less : (a b : ℕ) (bs : List ℕ) → a ≤ b → take a (take b bs) ≡ take a bs
take_less zero b bs le = refl
take_less (suc a) zero bs le = absurd (omega arith)
take_less (suc a) (suc b) [] le = refl
take_less (suc a) (suc b) (x ∷ bs) le = ap (λ (cs : List ℕ). x ∷ cs) (take_less a b bs (omega arith))

-- the front of a file that was read
front_read : (file : List ℕ) (n m : ℕ) (old bytes : List ℕ) → Reads file 0 n old bytes → m ≤ n → take m bytes ≡ take m file
front_read file n m old bytes reads few =
    let there : n ≤ length file = omega (arith, reads.count) in
    ap (λ (bs : List ℕ). take m bs) reads.read
    ∙ take-append-le m (take n file) (drop n old) (omega (arith, length-take n file))
    ∙ take_less m n file few

-- ---- the slot that a file shows

module _
    (same_slots : (file words tail : List ℕ) (checkpoint : Checkpoint) → AreWords words → file ≡ bytes_of words ++ tail
    → (length tail < 8) ⊎ (SLOT_WORDS ≤ length words) → IsCheckpoint checkpoint → BeginsWith file (bytes_of (slot_words checkpoint)) ↔ StandsIn words checkpoint)
    (sound : Rows → Type 0) (respects : (a b : Rows) → SameRows a b → sound a ↔ sound b) where
  shows_found : (file words tail : List ℕ) (found : Option Slot) (rows : List (List ℕ)) → AreWords words → file ≡ bytes_of words ++ tail
      → (length tail < 8) ⊎ (SLOT_WORDS ≤ length words) → IfSome found (λ slot. IsSlotOf words rows slot) → IfSome found (λ slot. sound (rows_of rows))
      → ((checkpoint : Checkpoint) → StandsIn words checkpoint → sound (rows_of_checkpoint checkpoint) → found ≡ Some checkpoint.slot) → ShowsAs sound file found rows
  shows_found file words tail None rows are split room is meets given = record {
    checkpoint = None;
    shows = λ c checks.
        let none : ◌≡◌ {A = Option Slot} None (Some c.slot) = given c ((same_slots file words tail c are split room checks.is).0 checks.spelled) checks.rows in
        cc;
    slot = refl;
    rows_are = tt;
  }
  shows_found file words tail (Some slot) rows are split room is meets given = record {
    checkpoint = Some is.checkpoint;
    shows = record {
      is = is.stands.is;
      rows = (respects (rows_of rows) (rows_of_checkpoint is.checkpoint) is.rows_are).0 meets;
      spelled = (same_slots file words tail is.checkpoint are split room is.stands.is).1 is.stands;
    };
    slot = ap (λ (s : Slot). Some s) is.slot_is;
    rows_are = is.rows_are;
  }

  pub slot_told : (told : Option (List Step)) (file : File) (n : ℕ) (old bytes words : List ℕ) (found : Option Slot) (rows : List (List ℕ)) → length old ≡ 8 * SLOT_WORDS
      → IfSome told (λ steps. Reads (contents steps file) 0 n old bytes) → length words ≡ n / 8 → bytes_of words ≡ take (8 * (n / 8)) bytes → AreWords words
      → IfSome found (λ slot. IsSlotOf words rows slot) → IfSome found (λ slot. sound (rows_of rows))
      → ((checkpoint : Checkpoint) → StandsIn words checkpoint → sound (rows_of_checkpoint checkpoint) → found ≡ Some checkpoint.slot) → SlotTold sound told file found rows
  slot_told None file n old bytes words found rows size reads count spelled are is meets given = tt
  slot_told (Some steps) file n old bytes words found rows size reads count spelled are is meets given =
      let m : ℕ = 8 * (n / 8) in
      let whole : List ℕ = contents steps file in
      let front : bytes_of words ≡ take m whole = spelled ∙ front_read whole n m old bytes reads (omega arith) in
      let split : whole ≡ bytes_of words ++ drop m whole = sym (take-append-drop m whole) ∙ ap (λ (bs : List ℕ). bs ++ drop m whole) (sym front) in
      let room : (length (drop m whole) < 8) ⊎ (SLOT_WORDS ≤ length words) = elim (Rattle.std.proofs.lemmas.Bool.cases_lt (length (drop m whole)) 8) as (λ _. (length (drop m whole) < 8) ⊎ (SLOT_WORDS ≤ length words)) [
        | inl few ↦ inl few
        | inr many ↦ inr (omega (arith, many, length-drop m whole, reads.count, size, count))
      ] in
      shows_found whole words (drop m whole) found rows are split room is meets given
