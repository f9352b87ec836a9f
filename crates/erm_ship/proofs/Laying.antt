-- The checkpoint in front of a stream, found and laid out.
use Rattle.std.proofs.Common.{◌≡◌, ◌≢◌, ℕ, zero, suc, ◌+◌, ◌<◌, ◌≤◌, ◌⊎◌, Bool, true, false, cond, if◌then◌else◌, nat_lt, List, [], ◌∷◌, ◌++◌, length, get_or, take, drop, replicate, Option, Some, None, refl, sym, ap, ◌∙◌, subst, arith, inl, inr}
use Rattle.std.specs.Prelude.{IfSome, filter}
use Rattle.std.specs.List.{All, AllPairs, enumerate_from}
use Rattle.std.specs.Option.{option_map}
use Rattle.std.proofs.lemmas.List.Elements.{All-nil}
use Rattle.erm_model.specs.declared.limits.TheConstants.{OID_LIMIT}
use Rattle.erm_model.specs.Rows.{Rows, rows_of}
use Rattle.erm_model.specs.RowTransaction.{SameRows}
use Rattle.erm_record.specs.Stored.{stored_length}
use Rattle.erm_block.specs.declared.block.Block.{Block}
use Rattle.erm_block.specs.Block.{Entry}
use Rattle.erm_block.specs.declared.block.Form.TheVariants.{Stored}
use Rattle.erm_ckpt.specs.declared.slot.Slot.{Slot}
use Rattle.erm_ckpt.specs.declared.slot.Slots.{Slots}
use Rattle.erm_ckpt.specs.Checkpoint.{Checkpoint, Checks, IsCheckpoint, IsSlot, checkpoint_of, rows_of_checkpoint, saved, zero_rows}
use Rattle.erm_ckpt.specs.Recovered.{Pair, Recovers, Shows, best, better, slots_of}
use Rattle.erm_node.specs.Sound.{sound_law}
use Rattle.erm_outside.specs.declared.disk.File.{File}
use Rattle.erm_outside.specs.declared.disk.File.TheVariants.{Slot0, Slot1}
use Rattle.erm_outside.specs.Disk.{Image, Step, contents}
use Rattle.erm_outside.specs.Faults.{Rose}
use Rattle.erm_recover.specs.Recovering.{ShowsAs, SlotTold}
use Rattle.erm_replica.specs.Stream.{IsBase, part_words, start_checkpoint}
use Rattle.erm_ship.specs.Bases.{FindsBase, IsBestFile, MissesBase}
use Rattle.erm_ship.specs.Streams.{shipped}
use Rattle.erm_ship.proofs.Entries.{Saves, same_entries}

-- ---- the best slot's file

-- what the best slot's file shows
shows_best : (image : Image) (pair : Pair) (blocks : List Block) (file : File) (slot : Slot) → Recovers sound_law.meets image pair blocks → (is : IsBestFile pair file slot)
    → Shows sound_law.meets (image file) (Some is.checkpoint)
shows_best image pair blocks file slot recovers is = elim is.where_it_is [
  | inl first ↦ subst (λ (f : File). Shows sound_law.meets (image f) (Some is.checkpoint)) (sym first.0) (subst (λ (c : Option Checkpoint). Shows sound_law.meets (image Slot0) c) first.1 recovers.slot0)
  | inr other ↦ subst (λ (f : File). Shows sound_law.meets (image f) (Some is.checkpoint)) (sym other.0) (subst (λ (c : Option Checkpoint). Shows sound_law.meets (image Slot1) c) other.1 recovers.slot1)
]

module _ (one : (file : List ℕ) (a b : Option Checkpoint) → Shows sound_law.meets file a → Shows sound_law.meets file b → a ≡ b) where
  -- what is read of it is the best slot, with its rows
  record ReadsBest (found : Option Slot) (slot : Slot) (rows : List (List ℕ)) (c : Checkpoint) : Type 0 where
    pub found_is : found ≡ Some slot
    pub rows_are : SameRows (rows_of rows) (rows_of_checkpoint c)

  reads_best : (image : Image) (pair : Pair) (blocks : List Block) (file : File) (slot : Slot) (found : Option Slot) (rows : List (List ℕ)) → Recovers sound_law.meets image pair blocks
      → (is : IsBestFile pair file slot) → ShowsAs sound_law.meets (image file) found rows → ReadsBest found slot rows is.checkpoint
  reads_best image pair blocks file slot found rows recovers is shows =
      let same : shows.checkpoint ≡ Some is.checkpoint = one (image file) shows.checkpoint (Some is.checkpoint) shows.shows (shows_best image pair blocks file slot recovers is) in
      record {
        found_is = shows.slot ∙ ap (option_map (λ (c : Checkpoint). c.slot)) same ∙ ap Some (sym is.slot_is);
        rows_are = subst (λ (c : Option Checkpoint). IfSome c (λ d. SameRows (rows_of rows) (rows_of_checkpoint d))) same shows.rows_are;
      }

  -- a slot says otherwise
  pub misses_best : (told : Option (List Step)) (slots : Slots) (file : File) (slot : Slot) (found : Option Slot) (rows : List (List ℕ)) (before after : ℕ)
      → ((pair : Pair) → slots ≡ slots_of pair → IsBestFile pair file slot) → SlotTold sound_law.meets told file found rows → (found ≡ Some slot → ⊥) → MissesBase told slots before after
  misses_best None slots file slot found rows before after is shows other = inr tt
  misses_best (Some steps) slots file slot found rows before after is shows other =
      inr (λ pair blocks same recovers. other (reads_best (contents steps) pair blocks file slot found rows recovers (is pair same) shows).found_is)

  recovers_best : (told : Option (List Step)) (slots : Slots) (file : File) (slot : Slot) (found : Option Slot) (rows : List (List ℕ))
      → ((pair : Pair) → slots ≡ slots_of pair → IsBestFile pair file slot) → SlotTold sound_law.meets told file found rows
      → IfSome told (λ steps. (pair : Pair) (blocks : List Block) → slots ≡ slots_of pair → Recovers sound_law.meets (contents steps) pair blocks
      → ((let s : Slot = record { stamp = slot.stamp; run = slot.run; first = 0 } in s) ≡ (shipped (best pair)).slot) × SameRows (rows_of rows) (rows_of_checkpoint (shipped (best pair))))
  recovers_best None slots file slot found rows is shows = tt
  recovers_best (Some steps) slots file slot found rows is shows = λ pair blocks same recovers.
      let here = is pair same in
      let read = reads_best (contents steps) pair blocks file slot found rows recovers here shows in (
        ap (λ (t : Slot). let s : Slot = record { stamp = t.stamp; run = t.run; first = 0 } in s) here.slot_is ∙ ap (λ (o : Option Checkpoint). (shipped o).slot) (sym here.best_is),
        subst (λ (o : Option Checkpoint). SameRows (rows_of rows) (rows_of_checkpoint (shipped o))) (sym here.best_is) read.rows_are,
      )

  pub finds_best : (told : Option (List Step)) (slots : Slots) (file : File) (slot answer : Slot) (found : Option Slot) (rows : List (List ℕ))
      → ((pair : Pair) → slots ≡ slots_of pair → IsBestFile pair file slot) → SlotTold sound_law.meets told file found rows → found ≡ Some slot → IfSome found IsSlot
      → answer ≡ record { stamp = slot.stamp; run = slot.run; first = 0 } → FindsBase told slots answer rows
  finds_best told slots file slot answer found rows is shows same slot_is answer_is =
      let may : IsSlot slot = subst (λ (o : Option Slot). IfSome o IsSlot) same slot_is in
      let plain : Slot = record { stamp = slot.stamp; run = slot.run; first = 0 } in
      let is_plain : IsSlot plain = record { stamp_low = may.stamp_low; stamp_high = may.stamp_high; run_low = may.run_low; run_high = may.run_high; first = omega arith } in
      let finds : FindsBase told slots plain rows = record { first = refl; is = inr is_plain; recovers = recovers_best told slots file slot found rows is shows } in
      subst (λ (s : Slot). FindsBase told slots s rows) (sym answer_is) finds

-- where no slot checks
recovers_start : (told : Option (List Step)) (slots : Slots) (rows : List (List ℕ)) → ((pair : Pair) → slots ≡ slots_of pair → best pair ≡ None) → SameRows (rows_of rows) zero_rows
    → IfSome told (λ steps. (pair : Pair) (blocks : List Block) → slots ≡ slots_of pair → Recovers sound_law.meets (contents steps) pair blocks
    → (start_checkpoint.slot ≡ (shipped (best pair)).slot) × SameRows (rows_of rows) (rows_of_checkpoint (shipped (best pair))))
recovers_start None slots rows none zeros = tt
recovers_start (Some steps) slots rows none zeros = λ pair blocks same recovers. (
  ap (λ (o : Option Checkpoint). (shipped o).slot) (sym (none pair same)),
  subst (λ (o : Option Checkpoint). SameRows (rows_of rows) (rows_of_checkpoint (shipped o))) (sym (none pair same)) zeros,
)

pub finds_start : (told : Option (List Step)) (slots : Slots) (rows : List (List ℕ)) → ((pair : Pair) → slots ≡ slots_of pair → best pair ≡ None) → SameRows (rows_of rows) zero_rows
    → FindsBase told slots (record { stamp = 8; run = 0; first = 0 }) rows
finds_start told slots rows none zeros = record { first = refl; is = inl (refl, zeros); recovers = recovers_start told slots rows none zeros }

-- ---- laid out

abbrev is_some : Entry → Bool
is_some entry = nat_lt 0 (stored_length entry.1)

-- of rows that are zero none is saved
none_saved : (n : ℕ) (rows : List (List ℕ)) → ((i : ℕ) → i < length rows → stored_length (get_or rows i []) ≡ 0) → filter is_some (enumerate_from n rows) ≡ []
none_saved n [] zeros = refl
none_saved n (row ∷ rows) zeros =
    let rest : List Entry = filter is_some (enumerate_from (n + 1) rows) in
    let test : is_some (n, row) ≡ false = ap (λ (k : ℕ). nat_lt 0 k) (zeros 0 (omega arith)) in
    ap (λ (b : Bool). cond b ((n, row) ∷ rest) rest) test ∙ none_saved (n + 1) rows (λ i low. zeros (suc i) (omega (arith, low)))

saved_start : (rows : List (List ℕ)) → length rows ≡ OID_LIMIT → SameRows (rows_of rows) zero_rows → saved rows ≡ []
saved_start rows count zeros = none_saved 0 rows (λ i low. ap stored_length (zeros i (omega (arith, low, count))))

saves_nothing : Saves []
saves_nothing = record { each = All-nil Rattle.erm_ckpt.specs.Checkpoint.IsSaved; ascending = λ i j d before low. absurd (omega (arith, low)) }

saves_checked : (file : List ℕ) (c : Checkpoint) → Checks sound_law.meets file c → Saves c.entries
saves_checked file c checks = record { each = checks.is.each; ascending = checks.is.ascending }

if_saves : (t : Bool) (a b : Checkpoint) → Saves a.entries → Saves b.entries → Saves (shipped (if t then Some b else Some a)).entries
if_saves true a b one other = other
if_saves false a b one other = one

better_saves : (a b : Option Checkpoint) (f g : List ℕ) → Shows sound_law.meets f a → Shows sound_law.meets g b → Saves (shipped (better a b)).entries
better_saves None None f g one other = saves_nothing
better_saves None (Some b) f g one other = saves_checked g b other
better_saves (Some a) None f g one other = saves_checked f a one
better_saves (Some a) (Some b) f g one other = if_saves (nat_lt a.slot.stamp b.slot.stamp) a b (saves_checked f a one) (saves_checked g b other)

-- the checkpoint that is laid out
pub record IsLaid (told : Option (List Step)) (slots : Slots) (c : Checkpoint) : Type 0 where
  pub is : IsBase c
  pub recovers : IfSome told (λ steps. (pair : Pair) (blocks : List Block) → slots ≡ slots_of pair → Recovers sound_law.meets (contents steps) pair blocks → c ≡ shipped (best pair))

abbrev made : Slot → List Entry → Checkpoint
made slot entries = record { form = Stored; slot = slot; entries = entries }

form_shipped : (o : Option Checkpoint) → shipped o ≡ made (shipped o).slot (shipped o).entries
form_shipped None = refl
form_shipped (Some c) = refl

laid_shipped : (told : Option (List Step)) (slots : Slots) (slot : Slot) (rows : List (List ℕ)) → FindsBase told slots slot rows → Saves (saved rows) → SameRows (rows_of_checkpoint (checkpoint_of slot rows)) (rows_of rows)
    → IfSome told (λ steps. (pair : Pair) (blocks : List Block) → slots ≡ slots_of pair → Recovers sound_law.meets (contents steps) pair blocks → checkpoint_of slot rows ≡ shipped (best pair))
laid_shipped None slots slot rows finds saves sets = tt
laid_shipped (Some steps) slots slot rows finds saves sets = λ pair blocks same recovers.
    let is = finds.recovers pair blocks same recovers in
    let there = better_saves pair.slot0 pair.slot1 (contents steps Slot0) (contents steps Slot1) recovers.slot0 recovers.slot1 in
    let entries : saved rows ≡ (shipped (best pair)).entries = same_entries (saved rows) (shipped (best pair)).entries saves there (λ oid low. sets oid low ∙ is.1 oid low) in
    ap (λ (s : Slot). made s (saved rows)) is.0 ∙ ap (λ (es : List Entry). made (shipped (best pair)).slot es) entries ∙ sym (form_shipped (best pair))

pub is_laid : (told : Option (List Step)) (slots : Slots) (slot : Slot) (rows : List (List ℕ)) → length rows ≡ OID_LIMIT → FindsBase told slots slot rows → (IsSlot slot → IsCheckpoint (checkpoint_of slot rows))
    → SameRows (rows_of_checkpoint (checkpoint_of slot rows)) (rows_of rows) → IsLaid told slots (checkpoint_of slot rows)
is_laid told slots slot rows count finds may sets = elim finds.is [
  | inl begins ↦
      let none = saved_start rows count begins.1 in
      record {
        is = record {
          form = refl;
          first = finds.first;
          is = inl (ap (λ (s : Slot). made s (saved rows)) begins.0 ∙ ap (λ (es : List Entry). made start_checkpoint.slot es) none);
        };
        recovers = laid_shipped told slots slot rows finds (subst Saves (sym none) saves_nothing) sets;
      }
  | inr is_slot ↦
      let is = may is_slot in
      record {
        is = record { form = refl; first = finds.first; is = inr is };
        recovers = laid_shipped told slots slot rows finds (record { each = is.each; ascending = is.ascending }) sets;
      }
]
