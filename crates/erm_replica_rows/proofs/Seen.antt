-- What a reader of a stream's bytes takes.
use Rattle.std.proofs.Common.{◌≡◌, ℕ, ◌+◌, ◌*◌, ◌≤◌, ◌≢◌, Bool, true, false, List, length, drop, Option, None, Some, Result, Err, refl, sym, ap, ◌∙◌, subst, arith, inr, drop-drop, length-drop}
use Rattle.std.specs.Prelude.{◌↔◌, IfSome, IsTrue, vec_len}
use Rattle.std.specs.Bool.{OnTrue}
use Rattle.std.proofs.lemmas.Bool.{false≢true}
use Rattle.erm_model.specs.Rows.{Rows, rows_of}
use Rattle.erm_model.specs.RowTransaction.{SameRows}
use Rattle.erm_block.specs.declared.block.Block.{Block}
use Rattle.erm_block.specs.Block.{IsBlock}
use Rattle.erm_block.specs.LogList.{rows_after_block}
use Rattle.erm_block.specs.Spelling.{spelling}
use Rattle.erm_ckpt.specs.Checkpoint.{Checkpoint, IsCheckpoint, rows_of_checkpoint, slot_words}
use Rattle.erm_replica.specs.declared.front.FoundItem.{FoundItem}
use Rattle.erm_replica.specs.declared.front.Lack.{Lack}
use Rattle.erm_replica.specs.declared.item.Item.{Item}
use Rattle.erm_replica.specs.declared.item.LogPlace.{LogPlace}
use Rattle.erm_replica.specs.Found.{Finds, HasRowsOf}
use Rattle.erm_replica.specs.Ready.{IsReady}
use Rattle.erm_replica.specs.Stream.{MayCome, Part, StandsFirst, Streamed, item_of, log_behind, part_words}
use Rattle.erm_replica.specs.Stream.Part.{base, block}
use Rattle.erm_replica.proofs.Places.{goes_to}
use Rattle.erm_replica.proofs.Sizes.{base_few}
use Rattle.erm_replica_rows.specs.declared.reader.Reader.{Reader}
use Rattle.erm_replica_rows.specs.Reading.{Advances, CanRead, IsStuck, MaySet, StaysPut, rows_with}
use Rattle.erm_replica_rows.specs.Replica.{rows_after}

some_there : (log : LogPlace) → ◌≢◌ {A = Option LogPlace} (Some log) None
some_there log e = cc

-- ---- the rows of an item

pub may_set : (meets : Rows → Type 0) (log : Option LogPlace) (part : Part) (i : Item) (old rows : List (List ℕ)) → MayCome log part → i ≡ item_of part → (log ≢ None → rows ≡ old)
    → IfSome log (λ _. meets (rows_of old)) → MaySet meets i (rows_of rows)
may_set meets log (base c) i old rows may is kept lawful = subst (λ (j : Item). MaySet meets j (rows_of rows)) (sym is) tt
may_set meets None (block b) i old rows may is kept lawful = absurd may
may_set meets (Some log) (block b) i old rows may is kept lawful =
    subst (λ (j : Item). MaySet meets j (rows_of rows)) (sym is)
    (subst (λ (r : List (List ℕ)). meets (rows_of r)) (sym (kept (some_there log))) lawful, (log.at, log.run, may))

rows_are_after : (log : Option LogPlace) (part : Part) (i : Item) (old rows now : List (List ℕ)) → MayCome log part → i ≡ item_of part → HasRowsOf part rows → (log ≢ None → rows ≡ old)
    → rows_of now ≡ rows_with i (rows_of rows) → SameRows (rows_of now) (rows_after part (rows_of old))
rows_are_after log (base c) i old rows now may is has kept set =
    let same : rows_of now ≡ rows_of rows = set ∙ ap (λ (j : Item). rows_with j (rows_of rows)) is in
    λ oid few. ap (λ (r : Rows). r oid) same ∙ has oid few
rows_are_after None (block b) i old rows now may is has kept set = absurd may
rows_are_after (Some log) (block b) i old rows now may is has kept set =
    let same : rows_of now ≡ rows_after_block b (rows_of old) =
    set ∙ ap (λ (j : Item). rows_with j (rows_of rows)) is ∙ ap (λ (r : List (List ℕ)). rows_after_block b (rows_of r)) (kept (some_there log)) in
    λ oid few. ap (λ (r : Rows). r oid) same

-- rows after an item that don't meet a law
pub not_lawful : (meets : Rows → Type 0) (respects : (a b : Rows) → SameRows a b → meets a ↔ meets b) (part : Part) (i : Item) (rows : List (List ℕ)) → i ≡ item_of part → HasRowsOf part rows
    → (meets (rows_with i (rows_of rows)) → ⊥) → meets (rows_after part (rows_of rows)) → ⊥
not_lawful meets respects (base c) i rows is has fails met =
    fails (subst (λ (j : Item). meets (rows_with j (rows_of rows))) (sym is) ((respects (rows_of rows) (rows_of_checkpoint c) has).1 met))
not_lawful meets respects (block b) i rows is has fails met = fails (subst (λ (j : Item). meets (rows_with j (rows_of rows))) (sym is) met)

-- ---- the next item

streamed : (place other : ℕ) (log same : Option LogPlace) (rest left : List ℕ) → place ≡ other → log ≡ same → rest ≡ left
    → ◌≡◌ {A = Streamed} (record { place = place; log = log; rest = rest }) (record { place = other; log = same; rest = left })
streamed place other log same rest left p l r = cc

pub advances : (bytes : List ℕ) (before after : Reader) (found : FoundItem) (rows : List (List ℕ)) → Finds before.log (drop before.index bytes) rows found → (before.log ≢ None → rows ≡ before.rows.items)
    → rows_of after.rows.items ≡ rows_with found.item (rows_of rows) → after.index ≡ before.index + 8 * found.size → after.place ≡ before.place + found.size → after.log ≡ Some found.log
    → Advances found.item bytes before after
advances bytes before after found rows finds kept set index place log = record {
  part = finds.part;
  there = finds.there;
  item_is = finds.item;
  state =
      streamed after.place (before.place + length (part_words finds.part)) after.log (Some (log_behind finds.part)) (drop after.index bytes) (drop (8 * length (part_words finds.part)) (drop before.index bytes))
      (omega (arith, place, finds.size)) (log ∙ ap (λ (l : LogPlace). Some l) finds.behind)
      (ap (λ (n : ℕ). drop n bytes) index ∙ ap (λ (n : ℕ). drop (before.index + 8 * n) bytes) finds.size ∙ sym (drop-drop (8 * length (part_words finds.part)) before.index bytes));
  rows = rows_are_after before.log finds.part found.item before.rows.items rows after.rows.items finds.there.may finds.item finds.rows_are kept set;
}

module _ (few : (c : Checkpoint) → IsCheckpoint c → length (slot_words c) ≤ 278534) (size : (b : Block) (at run : ℕ) → IsBlock b at run → length (spelling b) ≡ b.size) where
  pub can_read : (bytes : List ℕ) (before after : Reader) (found : FoundItem) (rows : List (List ℕ)) → CanRead before (length bytes) → Finds before.log (drop before.index bytes) rows found
      → vec_len after.rows ≡ vec_len before.rows → after.index ≡ before.index + 8 * found.size → after.place ≡ before.place + found.size → after.log ≡ Some found.log
      → CanRead after (length bytes)
  can_read bytes before after found rows can finds count index place log =
      let to = goes_to (base_few few) size before.log finds.part before.place finds.there.may can.near can.end in
      let behind : after.log ≡ Some (log_behind finds.part) = log ∙ ap (λ (l : LogPlace). Some l) finds.behind in
      subst (λ (l : Option LogPlace). IsReady after.index (length bytes) 278535 (vec_len after.rows) after.place l) (sym behind) (record {
        within = omega (arith, index, finds.within, can.within, length-drop before.index bytes);
        empty = λ e. absurd (omega (arith, e));
        room = λ some. refl;
        rows_are = λ some. count ∙ can.rows_are some;
        end = to.1;
        near = omega (arith, place, finds.size, to.0);
      })

-- an item has a word at least
pub some_words : (part : Part) → 1 ≤ length (part_words part)
some_words (base c) = omega arith
some_words (block b) = omega arith

-- ---- none

pub stays_put : (before : Reader) (rows : List (List ℕ)) (after : Reader) → after.index ≡ before.index → after.place ≡ before.place → after.log ≡ before.log → after.rows.items ≡ rows
    → (before.log ≢ None → rows ≡ before.rows.items) → StaysPut before after
stays_put before rows after index place log items kept = record {
  index = index;
  place = place;
  log = log;
  rows = λ there. items ∙ kept there;
}

-- a part was found, and the rows after it don't meet a law
pub stuck_at : (meets : Rows → Type 0) (respects : (a b : Rows) → SameRows a b → meets a ↔ meets b) (bytes : List ℕ) (before after : Reader) (found : FoundItem) (rows : List (List ℕ))
    → Finds before.log (drop before.index bytes) rows found → (meets (rows_with found.item (rows_of rows)) → ⊥) → after.index ≡ before.index → after.log ≡ before.log → after.rows.items ≡ rows
    → IsStuck meets bytes after
stuck_at meets respects bytes before after found rows finds fails index log items =
    let here : StandsFirst after.log (drop after.index bytes) finds.part =
    subst (λ (l : Option LogPlace). StandsFirst l (drop after.index bytes) finds.part) (sym log)
    (subst (λ (n : ℕ). StandsFirst before.log (drop n bytes) finds.part) (sym index) finds.there) in
    inr (
      finds.part,
      here,
      λ met. not_lawful meets respects finds.part found.item rows finds.item finds.rows_are fails (subst (λ (r : List (List ℕ)). meets (rows_after finds.part (rows_of r))) items met),
    )

-- ---- answers

pub same_lack : (a b : Lack) → ◌≡◌ {A = Result Item Lack} (Err a) (Err b) → a ≡ b
same_lack a b e = cc

pub not_met : (test : Bool) (P : Type 0) → test ≡ false → IsTrue test ↔ P → P → ⊥
not_met test P is told p = false≢true (sym is ∙ told.1 p)

pub set_met : (test : Bool) (P : Type 0) → test ≡ true → OnTrue test P → P
set_met true P is set = set
set_met false P is set = absurd (false≢true is)
