-- What recovery meets where a log was flushed further, and behind a checkpoint.
use Rattle.std.proofs.Common.{◌≡◌, ℕ, ◌↔◌, List, [], ◌++◌, Option, sym, ap, ◌∙◌, subst, arith, append-nil, append_assoc, inl, inr}
use Rattle.erm_model.specs.Rows.{Rows}
use Rattle.erm_model.specs.RowTransaction.{SameRows}
use Rattle.erm_record.proofs.StoredRows.{stored_length-le, stored_whole}
use Rattle.erm_block.specs.declared.block.Block.{Block}
use Rattle.erm_block.specs.LogList.{End, IsLogList, end_of}
use Rattle.erm_block.proofs.OneLogList.{same_log_list}
use Rattle.erm_flush.specs.Turns.{HoldsFrom, start_of}
use Rattle.erm_log_disk.proofs.Chains.{end_of-append, lists-joined}
use Rattle.erm_log_words.specs.Words.{Spares}
use Rattle.erm_outside.specs.declared.disk.File.TheVariants.{Slot0, Slot1}
use Rattle.erm_outside.specs.Disk.{Step, contents}
use Rattle.erm_ckpt.specs.declared.slot.Slots.{Slots}
use Rattle.erm_ckpt.specs.Checkpoint.{Checkpoint}
use Rattle.erm_ckpt.specs.Recovered.{Pair, Shows, State, base, end_at, state_behind}
use Rattle.erm_ckpt.specs.States.{SameState}
use Rattle.erm_ckpt.proofs.Images.{list_same, of_end, of_end-end_of, state_grows}
use Rattle.erm_ckpt.proofs.OneRecovery.{same_shown}
use Rattle.erm_checkpoint.specs.Taken.{HoldsLog, HoldsLogFrom, state_at}
use Rattle.erm_checkpoint.proofs.Taken.{end_state, same_front}
use Rattle.erm_world.specs.Log.{IsLog, Log, Start}
use Rattle.erm_world.proofs.Lists.{∈-parts}
use Rattle.erm_told_log.specs.Tail.{BeginBelow, MeetsTail}
use Rattle.erm_told_log.proofs.Places.{log_within, none_between}

module _ (sound : Rows → Type 0) (respects : (a b : Rows) → SameRows a b → sound a ↔ sound b) (earlier : List Block) (l m : Log) (slots later : Slots) (old new : List Step)
    (t : MeetsTail sound earlier l slots old) (f : HoldsFrom sound l.flushed m old new) (h : HoldsLog sound m later new) (opened : m.opened ≡ l.opened)
    (more : (rest : List Block) × (m.gathered ≡ l.gathered ++ rest)) (is : IsLog sound m) where
  -- what was held before
  abbrev was : HoldsLog sound l slots old
  was = t.holds

  abbrev from : State
  from = base was.pair

  abbrev here : State
  here = state_at m f.front

  states : state_at m was.front ≡ state_at l was.front
  states = ap (λ (s : Start). state_behind (record { at = s.at; run = s.run; rows = s.rows }) was.front) opened

  first : was.front ≡ f.front
  first = same_front stored_length-le sound respects m was.front (was.rest ++ more.0) f.front (f.blocks ++ f.rest) is
      (more.1 ∙ ap (λ (bs : List Block). bs ++ more.0) was.split ∙ append_assoc was.front was.rest more.0) f.split (ap (λ (s : State). s.at) states ∙ was.to ∙ sym f.from)

  -- and what was flushed since
  both : h.front ≡ f.front ++ f.blocks
  both = same_front stored_length-le sound respects m h.front h.rest (f.front ++ f.blocks) f.rest is h.split (f.split ∙ sym (append_assoc f.front f.blocks f.rest))
      (h.to ∙ sym f.to ∙ ap (λ (e : End). e.at) (sym (end_of-append (start_of m) f.front f.blocks)))

  ends : SameState (state_behind from was.there.blocks) here
  ends = subst (SameState (state_behind from was.there.blocks)) (sym states ∙ ap (state_at m) first) was.there.is

  is_end : of_end (end_of (start_of m) f.front) ≡ here
  is_end = end_state m f.front

  abbrev to : ℕ
  to = (end_of (end_of (start_of m) f.front) f.blocks).at

  spares : Spares here.at to (contents old) (contents new)
  spares = subst (λ (s : State). Spares s.at to (contents old) (contents new)) is_end f.holds.others

  same_pair : h.pair ≡ was.pair
  same_pair =
      let make : Option Checkpoint → Option Checkpoint → Pair = λ a b. record { slot0 = a; slot1 = b } in
      let one = same_shown sound (contents new Slot0) h.pair.slot0 was.pair.slot0 h.there.recovers.slot0
      (subst (λ (file : List ℕ). Shows sound file was.pair.slot0) (sym spares.slot0) was.there.recovers.slot0)
      in
      let other = same_shown sound (contents new Slot1) h.pair.slot1 was.pair.slot1 h.there.recovers.slot1
      (subst (λ (file : List ℕ). Shows sound file was.pair.slot1) (sym spares.slot1) was.there.recovers.slot1)
      in
      ap (λ (a : Option Checkpoint). make a h.pair.slot1) one ∙ ap (λ (b : Option Checkpoint). make was.pair.slot0 b) other

  joined : IsLogList sound (end_at (contents new) from) (was.there.blocks ++ f.blocks)
  joined =
      let plain : End = record { words = []; at = from.at; run = from.run; rows = from.rows } in
      let xs : List Block = was.there.blocks in
      let behind : of_end (end_of plain xs) ≡ state_behind from xs = of_end-end_of plain xs in
      let list : IsLogList sound (end_at (contents new) here) f.blocks = subst (λ (s : State). IsLogList sound (end_at (contents new) s) f.blocks) is_end f.holds.list in
      let back : SameState here (state_behind from xs) = record { at = sym ends.at; run = sym ends.run; rows = λ oid low. sym (ends.rows oid low) } in
      let moved = list_same sound respects (contents new) here (state_behind from xs) f.blocks back list in
      let place : (end_of plain xs).at ≡ here.at = ap (λ (s : State). s.at) behind ∙ ends.at in
      lists-joined stored_length-le stored_whole sound (contents old) (contents new) plain xs f.blocks to was.there.recovers.list.chain
      (subst (λ (n : ℕ). Spares n to (contents old) (contents new)) (sym place) spares)
      (subst (λ (s : State). IsLogList sound (end_at (contents new) s) f.blocks) (sym behind) moved)

  met : h.there.blocks ≡ was.there.blocks ++ f.blocks
  met = same_log_list stored_length-le stored_whole sound (end_at (contents new) from) h.there.blocks (was.there.blocks ++ f.blocks)
      (subst (λ (p : Pair). IsLogList sound (end_at (contents new) (base p)) h.there.blocks) same_pair h.there.recovers.list) joined

  pub goes_on : MeetsTail sound earlier m later new
  goes_on = record {
    early = subst (λ (s : Start). BeginBelow s.at earlier) (sym opened) t.early;
    holds = h;
    passed = t.passed;
    split =
        ap (λ (bs : List Block). earlier ++ bs) (both ∙ ap (λ (bs : List Block). bs ++ f.blocks) (sym first))
        ∙ sym (append_assoc earlier was.front f.blocks)
        ∙ ap (λ (bs : List Block). bs ++ f.blocks) t.split
        ∙ append_assoc t.passed was.there.blocks f.blocks
        ∙ ap (λ (bs : List Block). t.passed ++ bs) (sym met);
    low = subst (λ (p : Pair). BeginBelow (base p).at t.passed) (sym same_pair) t.low;
  }

-- behind a checkpoint of all that is flushed
pub passes_all : (sound : Rows → Type 0) (earlier : List Block) (log : Log) (slots : Slots) (stamp : ℕ) (steps : List Step) → BeginBelow log.opened.at earlier → IsLog sound log
    → HoldsLogFrom sound log slots stamp steps → log.flushed ≡ stamp → MeetsTail sound earlier log slots steps
passes_all sound earlier log slots stamp steps early is from flushed = record {
  early = early;
  holds = h;
  passed = earlier ++ h.front;
  split = sym (append-nil (earlier ++ h.front)) ∙ ap (λ (bs : List Block). (earlier ++ h.front) ++ bs) (sym none);
  low = low;
}
  where
    h : HoldsLog sound log slots steps
    h = from.holds

    place : (base h.pair).at ≡ (state_at log h.front).at
    place = from.from ∙ sym flushed ∙ sym h.to

    none : h.there.blocks ≡ []
    none = none_between sound (contents steps) h.pair h.there.blocks h.there.recovers (h.there.is.at ∙ sym place)

    low : BeginBelow (base h.pair).at (earlier ++ h.front)
    low b m = elim (∈-parts earlier h.front b m) [
      | inl before ↦ omega (arith, early b before, state_grows (state_at log []) h.front, place)
      | inr own ↦ let there = log_within sound log h.front h.rest is h.split b own in omega (arith, there.below, place)
    ]
