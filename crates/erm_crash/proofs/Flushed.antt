-- What each image recovers to while a log is flushed.
use Rattle.std.proofs.Common.{◌≡◌, ◌≢◌, ℕ, ◌<◌, ◌≤◌, ◌↔◌, ◌++◌, List, [], ◌∷◌, Option, length, refl, sym, ap, ◌∙◌, subst, arith, append_assoc}
use Rattle.erm_model.specs.Rows.{Rows}
use Rattle.erm_model.specs.RowTransaction.{SameRows}
use Rattle.erm_record.specs.Stored.{stored_length}
use Rattle.erm_block.specs.declared.block.Block.{Block}
use Rattle.erm_block.specs.LogList.{End, end_of}
use Rattle.erm_flush.specs.Turns.{WritesFrom, start_of}
use Rattle.erm_flush.proofs.Flushes.{other_words}
use Rattle.erm_log_disk.specs.Chains.{MayStand}
use Rattle.erm_log_disk.specs.Writes.{AllWriteWords}
use Rattle.erm_log_disk.proofs.Chains.{may_stand-behind, may_stand-front, run_low, runs_grow}
use Rattle.erm_log_words.specs.Tears.{IsFresh, ShowsBlocks}
use Rattle.erm_log_words.specs.Words.{log_words}
use Rattle.erm_outside.specs.Disk.{contents, Image, IsImage, IsSettled, Step}
use Rattle.erm_ckpt.specs.declared.slot.Slots.{Slots}
use Rattle.erm_ckpt.specs.declared.slot.TheConstants.{LOG_START}
use Rattle.erm_outside.specs.declared.disk.File.TheVariants.{Slot0, Slot1}
use Rattle.erm_log_disk.proofs.Trail.{images_spare}
use Rattle.erm_ckpt.specs.Checkpoint.{Checkpoint}
use Rattle.erm_ckpt.specs.Recovered.{Pair, Shows, State, base, better, end_at, state_behind, state_of}
use Rattle.erm_ckpt.proofs.Images.{RecoversMeeting, state_grows}
use Rattle.erm_ckpt.proofs.OneRecovery.{same_shown}
use Rattle.erm_ckpt.specs.States.{MeetsLast, RecoversPast, RecoversTo}
use Rattle.erm_checkpoint.specs.Taken.{HoldsLog, RecoversFlushing, state_at}
use Rattle.erm_checkpoint.proofs.Flushed.{flush_moments}
use Rattle.erm_checkpoint.proofs.Taken.{end_state, same_front, stands_from, there_from}
use Rattle.erm_world.specs.Log.{IsLog, Log, Start, words_of}
use Rattle.erm_crash.specs.Kept.{KeepsBlocks}
use Rattle.erm_crash.specs.Moments.{IsMoment, TearsApart}
use Rattle.erm_crash.specs.Stops.{MayStop}
use Rattle.erm_crash.proofs.Moments.{from_each, last_write, parts_of, settled_image}
use Rattle.erm_crash.proofs.Stops.{beyond_wider, words_stop}

module _
    (short : (row : List ℕ) → stored_length row ≤ length row) (sound : Rows → Type 0) (respects : (a b : Rows) → SameRows a b → sound a ↔ sound b) where
  -- the disk recovered to the state behind the front from which blocks were written
  front_there : (l m : Log) (slots : Slots) (old : List Step) (front blocks : List Block) (h : HoldsLog sound l slots old) → m.opened ≡ l.opened
      → (more : (rest : List Block) × (m.gathered ≡ l.gathered ++ rest)) → IsLog sound m → m.gathered ≡ front ++ blocks → (end_of (start_of m) front).at ≡ l.flushed
      → RecoversMeeting sound (MeetsLast (state_at m []) front) (state_at m front) h.pair (contents old)
  front_there l m slots old front blocks h opened more is split place =
      let long : m.gathered ≡ h.front ++ (h.rest ++ more.0) = more.1 ∙ ap (λ (bs : List Block). bs ++ more.0) h.split ∙ append_assoc h.front h.rest more.0 in
      let states : state_at m h.front ≡ state_at l h.front = ap (λ (s : Start). state_behind (record { at = s.at; run = s.run; rows = s.rows }) h.front) opened in
      let fronts : h.front ≡ front = same_front short sound respects m h.front (h.rest ++ more.0) front blocks is long split (ap (λ (s : State). s.at) states ∙ h.to ∙ sym place) in
      there_from sound l m slots old h front opened fronts

  -- an image shows each of the blocks that were written behind a state of this run or a later one, where no block of it or a later one read
  shows_written : (now : List Step) (image : Image) → TearsApart sound now image → (old more : List Step) (state : State) (pair : Pair) (blocks : List Block) (run : ℕ)
      → now ≡ more ++ old → more ≢ [] → IsSettled old → RecoversTo sound state pair (contents old) → run ≤ state.run → IsFresh run (contents old) state.at
      → MayStand sound (end_at (contents old) state) blocks → AllWriteWords state.at (words_of blocks) more → ShowsBlocks image state.at state.run blocks
  shows_written now image tears old more state pair [] run since done settled there low fresh stand writes = tt
  shows_written now image tears old more state pair (b ∷ bs) run since done settled there low fresh stand writes =
      let grows = run_low b state.at state.run stand.0 in
      let before : IsFresh b.run (contents old) state.at = λ p le block run_before high stands. fresh p le block run_before (omega (arith, low, grows, high)) stands in
      tears.blocks old more state pair b bs since done settled there before stand writes

  at_flush : (l m : Log) (slots : Slots) (old new now : List Step) → HoldsLog sound l slots old → m.opened ≡ l.opened → (more : (rest : List Block) × (m.gathered ≡ l.gathered ++ rest))
      → IsLog sound m → LOG_START < m.opened.at → (w : WritesFrom sound l.flushed m old new) (moment : IsMoment old new now) (before : List Step) → moment.before ≡ before
      → (image : Image) → IsImage now image → TearsApart sound now image → RecoversPast sound (state_at m []) m.gathered l.flushed image
  at_flush l m slots old new now h opened more is begin w moment [] none image is_image tears =
      let same : now ≡ old = moment.since ∙ ap (λ (ss : List Step). ss ++ old) none in
      let place : (state_at m w.front).at ≡ l.flushed = ap (λ (s : State). s.at) (sym (end_state m w.front)) ∙ w.place_is in
      let there = front_there l m slots old w.front w.blocks h opened more is w.split w.place_is in
      settled_image (RecoversPast sound (state_at m []) m.gathered l.flushed) old image h.ready.settled (subst (λ (ss : List Step). IsImage ss image) same is_image)
      (record {
        front = w.front;
        rest = w.blocks;
        split = w.split;
        low = omega (arith, place);
        pair = h.pair;
        there = there.0;
        meets = there.1;
      })
  at_flush l m slots old new now h opened more is begin w moment (s ∷ before) some image is_image tears =
      let end : End = end_of (start_of m) w.front in
      let here : State = state_at m w.front in
      let is_end = end_state m w.front in
      let all : MayStand sound (start_of m) (w.front ++ w.blocks) = subst (MayStand sound (start_of m)) w.split (stands_from sound m is) in
      let behind : MayStand sound (end_at (contents old) (record { at = end.at; run = end.run; rows = end.rows })) w.blocks =
      other_words sound end (log_words (contents old) end.at) w.blocks (may_stand-behind sound (start_of m) w.front w.blocks all) in
      let stand : MayStand sound (end_at (contents old) here) w.blocks = subst (λ (t : State). MayStand sound (end_at (contents old) t) w.blocks) is_end behind in
      let parts = parts_of old new w.writes.more now moment w.writes.steps in
      let wrote : AllWriteWords end.at (words_of w.blocks) moment.before =
      last_write end.at (words_of w.blocks) moment.after moment.before (subst (AllWriteWords end.at (words_of w.blocks)) parts w.writes.writes) in
      let writes : AllWriteWords here.at (words_of w.blocks) moment.before = subst (λ (t : State). AllWriteWords t.at (words_of w.blocks) moment.before) is_end wrote in
      let done : moment.before ≢ [] = λ none. let e : s ∷ before ≡ [] = sym some ∙ none in absurd (cc) in
      let there = (front_there l m slots old w.front w.blocks h opened more is w.split w.place_is).0 in
      let place : here.at ≡ l.flushed = ap (λ (t : State). t.at) (sym is_end) ∙ w.place_is in
      let fresh : IsFresh l.opened.run (contents old) here.at = subst (IsFresh l.opened.run (contents old)) (sym place) h.ready.fresh in
      let first : (start_of m).run ≤ end.run = runs_grow sound (start_of m) w.front (may_stand-front sound (start_of m) w.front w.blocks all) in
      let low : l.opened.run ≤ here.run = omega (arith, first, ap (λ (s : Start). s.run) opened, ap (λ (t : State). t.run) is_end) in
      let shown : ShowsBlocks image here.at here.run w.blocks =
      shows_written now image tears old moment.before here h.pair w.blocks l.opened.run moment.since done h.ready.settled there low fresh stand writes in
      let shows : ShowsBlocks image end.at end.run w.blocks = subst (λ (t : State). ShowsBlocks image t.at t.run w.blocks) (sym is_end) shown in
      from_each (RecoversFlushing sound l.flushed m w.front w.blocks) old new now (flush_moments short sound respects l m slots old new h opened more is begin w) moment image is_image shows

  -- what is pending then is of the segment of the place flushed and the next one
  stops_flush : (l m : Log) (slots : Slots) (old new now : List Step) (h : HoldsLog sound l slots old) (w : WritesFrom sound l.flushed m old new) (moment : IsMoment old new now) (image : Image) → IsImage now image
      → (from : State) (blocks : List Block) (past : RecoversPast sound from blocks l.flushed image) → MayStop (base past.pair).at (state_behind from past.front).at now
  stops_flush l m slots old new now h w moment image is_image from blocks past =
      let parts = parts_of old new w.writes.more now moment w.writes.steps in
      let words : List ℕ = w.few.0 in
      let writes : AllWriteWords l.flushed words moment.before = last_write l.flushed words moment.after moment.before (subst (AllWriteWords l.flushed words) parts w.few.2) in
      let spares = images_spare l.flushed words old moment.before image h.ready.settled writes (subst (λ (ss : List Step). IsImage ss image) moment.since is_image) in
      let first : past.pair.slot0 ≡ h.pair.slot0 =
      same_shown sound (contents old Slot0) past.pair.slot0 h.pair.slot0 (subst (λ (bytes : List ℕ). Shows sound bytes past.pair.slot0) spares.slot0 past.there.recovers.slot0) h.there.recovers.slot0 in
      let second : past.pair.slot1 ≡ h.pair.slot1 =
      same_shown sound (contents old Slot1) past.pair.slot1 h.pair.slot1 (subst (λ (bytes : List ℕ). Shows sound bytes past.pair.slot1) spares.slot1 past.there.recovers.slot1) h.there.recovers.slot1 in
      let bases : (base past.pair).at ≡ (base h.pair).at = ap (λ (o : Option Checkpoint). (state_of (better o past.pair.slot1)).at) first ∙ ap (λ (o : Option Checkpoint). (state_of (better h.pair.slot0 o)).at) second in
      let grows = state_grows (base h.pair) h.there.blocks in
      let there = h.there.is.at in
      let to = h.to in
      let low = past.low in
      subst (MayStop (base past.pair).at (state_behind from past.front).at) (sym moment.since)
      (beyond_wider l.flushed (base past.pair).at l.flushed (state_behind from past.front).at (moment.before ++ old) (omega (arith, bases, grows, there, to)) low
      (words_stop l.flushed words old moment.before w.few.1 writes h.ready.settled))

  pub flush_keeps : (l m : Log) (slots : Slots) (old new : List Step) → HoldsLog sound l slots old → m.opened ≡ l.opened → ((rest : List Block) × (m.gathered ≡ l.gathered ++ rest))
      → IsLog sound m → LOG_START < m.opened.at → WritesFrom sound l.flushed m old new → KeepsBlocks sound (state_at m []) m.gathered l.flushed old new
  flush_keeps l m slots old new h opened more is begin w = (
    (w.writes.more, w.writes.steps),
    λ now moment image is_image tears.
        let past = at_flush l m slots old new now h opened more is begin w moment moment.before refl image is_image tears in
        record { past = past; stops = stops_flush l m slots old new now h w moment image is_image (state_at m []) m.gathered past },
  )
