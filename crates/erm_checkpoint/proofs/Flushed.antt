-- What each image recovers to while a log is flushed.
use Rattle.std.proofs.Common.{◌≡◌, ℕ, ◌+◌, ◌<◌, ◌≤◌, ◌↔◌, ◌++◌, List, [], ◌∷◌, length, take, drop, Some, None, refl, sym, ap, ◌∙◌, subst, arith, append_assoc, inr}
use Rattle.std.specs.List.{All}
use Rattle.std.proofs.lemmas.List.{take-append-drop}
use Rattle.erm_model.specs.Rows.{Rows}
use Rattle.erm_model.specs.RowTransaction.{SameRows}
use Rattle.erm_record.specs.Stored.{stored_length}
use Rattle.erm_block.specs.declared.block.Block.{Block}
use Rattle.erm_block.specs.LogList.{End, IsLogList, end_of}
use Rattle.erm_flush.specs.Blocks.{LeavesFront}
use Rattle.erm_flush.specs.Turns.{WritesFrom, start_of}
use Rattle.erm_log_words.specs.Tears.{IsFresh}
use Rattle.erm_log_words.specs.Words.{Spares, word_at}
use Rattle.erm_outside.specs.Disk.{AtEachMoment, contents, EachImage, Image, Step}
use Rattle.erm_world.specs.Log.{IsLog, Log, Start}
use Rattle.erm_ckpt.specs.declared.slot.Slots.{Slots}
use Rattle.erm_ckpt.specs.declared.slot.TheConstants.{LOG_START}
use Rattle.erm_ckpt.specs.Recovered.{State, base, best, end_at, state_behind}
use Rattle.erm_ckpt.specs.States.{MeetsLast}
use Rattle.erm_ckpt.proofs.Images.{RecoversMeeting, goes_on_meeting, meets_more, of_end, of_end-end_of, state_behind-append, state_grows}
use Rattle.erm_checkpoint.specs.Taken.{HoldsLog, RecoversFlushing, state_at}
use Rattle.erm_checkpoint.proofs.Taken.{All-front, end_state, not_empty, run_is, same_front, there_from}

each_weaker : (P Q : Image → Type 0) (old more : List Step) → ((image : Image) → P image → Q image) → EachImage P old more → EachImage Q old more
each_weaker P Q old [] weaker each = λ image is. weaker image (each image is)
each_weaker P Q old (step ∷ more) weaker (here, each) = (λ image is. weaker image (here image is), each_weaker P Q old more weaker each)

module _
    (short : (row : List ℕ) → stored_length row ≤ length row) (sound : Rows → Type 0) (respects : (a b : Rows) → SameRows a b → sound a ↔ sound b) where
  front_recovers : (l m : Log) (slots : Slots) (old : List Step) (front blocks : List Block) (image : Image) → HoldsLog sound l slots old → m.opened ≡ l.opened
      → (more : (rest : List Block) × (m.gathered ≡ l.gathered ++ rest)) → IsLog sound m → LOG_START < m.opened.at → m.gathered ≡ front ++ blocks
      → (end_of (start_of m) front).at ≡ l.flushed → LeavesFront sound (end_of (start_of m) front) blocks (contents old) image → RecoversFlushing sound l.flushed m front blocks image
  front_recovers l m slots old front blocks image h opened more is begin split place leaves shows =
      let start : State = record { at = m.opened.at; run = m.opened.run; rows = m.opened.rows } in
      let long : m.gathered ≡ h.front ++ (h.rest ++ more.0) = more.1 ∙ ap (λ (bs : List Block). bs ++ more.0) h.split ∙ append_assoc h.front h.rest more.0 in
      let states : state_at m h.front ≡ state_at l h.front = ap (λ (s : Start). state_behind (record { at = s.at; run = s.run; rows = s.rows }) h.front) opened in
      let fronts : h.front ≡ front = same_front short sound respects m h.front (h.rest ++ more.0) front blocks is long split (ap (λ (s : State). s.at) states ∙ h.to ∙ sym place) in
      let here : State = state_at m front in
      let there = there_from sound l m slots old h front opened fronts in
      let end : End = end_of (start_of m) front in
      let is_end : of_end end ≡ here = end_state m front in
      let end_at_is : end.at ≡ here.at = ap (λ (s : State). s.at) is_end in
      let shown = leaves.front shows in
      let some : List Block = take shown.0 blocks in
      let later = leaves.later shows in
      let spares : Spares here.at (end_of end blocks).at (contents old) image = subst (λ (s : State). Spares s.at (end_of end blocks).at (contents old) image) is_end leaves.others in
      let list : IsLogList sound (end_at image here) some = subst (λ (s : State). IsLogList sound (end_at image s) some) is_end shown.2 in
      let joined : state_at m (front ++ some) ≡ state_behind here some = state_behind-append start front some in
      let cut : m.gathered ≡ (front ++ some) ++ drop shown.0 blocks =
      split ∙ ap (λ (bs : List Block). front ++ bs) (sym (take-append-drop shown.0 blocks)) ∙ sym (append_assoc front some (drop shown.0 blocks)) in
      let some_all : All (λ (block : Block). block.run ≡ m.opened.run) (front ++ some) =
      All-front (λ (block : Block). block.run ≡ m.opened.run) (front ++ some) (drop shown.0 blocks) (subst (All (λ (block : Block). block.run ≡ m.opened.run)) cut is.one_run) in
      let run_some : (state_behind here some).run ≡ m.opened.run = sym (ap (λ (s : State). s.run) joined) ∙ run_is m.opened.run start (front ++ some) refl some_all in
      let run_all : (end_of end blocks).run ≡ m.opened.run =
      ap (λ (s : State). s.run) (of_end-end_of end blocks ∙ ap (λ (s : State). state_behind s blocks) is_end ∙ sym (state_behind-append start front blocks))
      ∙ run_is m.opened.run start (front ++ blocks) refl (subst (All (λ (block : Block). block.run ≡ m.opened.run)) split is.one_run) in
      let grown : m.opened.at ≤ here.at = state_grows start front in
      let further : here.at ≤ (state_behind here some).at = state_grows here some in
      let fresh : IsFresh ((state_behind here some).run + 1) image (state_behind here some).at =
      λ p low block before high stands. later p (omega (arith, end_at_is, further, low)) block before (omega (arith, run_some, run_all, high)) stands in
      let based : best h.pair ≡ None → (word : ℕ) × (word_at image LOG_START ≡ Some word) =
      λ none. let first = h.begins none in (first.0, spares.before LOG_START first.0 (omega (arith, begin, grown)) first.1) in
      let behind_at : (state_at m (front ++ some)).at ≡ (state_behind here some).at = ap (λ (s : State). s.at) joined in
      let Meets : State → List Block → Type 0 = MeetsLast start (front ++ some) in
      let goes : RecoversMeeting sound Meets (state_behind here some) h.pair image =
      goes_on_meeting sound respects Meets (contents old) image here h.pair some (end_of end blocks).at there.0 spares
      (λ none. let first = based none in inr (not_empty image first.0 first.1)) list fresh (meets_more start front (base h.pair) there.0.blocks some there.1) in
      let behind : RecoversMeeting sound Meets (state_at m (front ++ some)) h.pair image = subst (λ (s : State). RecoversMeeting sound Meets s h.pair image) (sym joined) goes in
      record {
        front = front ++ some;
        rest = drop shown.0 blocks;
        split = cut;
        low = omega (arith, place, end_at_is, further, behind_at);
        pair = h.pair;
        there = behind.0;
        meets = behind.1;
      }

  pub flush_moments : (l m : Log) (slots : Slots) (old new : List Step) → HoldsLog sound l slots old → m.opened ≡ l.opened → (more : (rest : List Block) × (m.gathered ≡ l.gathered ++ rest))
      → IsLog sound m → LOG_START < m.opened.at → (w : WritesFrom sound l.flushed m old new) → AtEachMoment (RecoversFlushing sound l.flushed m w.front w.blocks) old new
  flush_moments l m slots old new h opened more is begin w = (
    w.writes.more,
    w.writes.steps,
    each_weaker (LeavesFront sound (end_of (start_of m) w.front) w.blocks (contents old)) (RecoversFlushing sound l.flushed m w.front w.blocks) old w.writes.more
        (λ image leaves. front_recovers l m slots old w.front w.blocks image h opened more is begin w.split w.place_is leaves) w.writes.images,
  )
