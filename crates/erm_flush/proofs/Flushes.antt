-- Blocks gathered from the place flushed on, and what their words leave on a disk.
use Rattle.std.proofs.Common.{◌≡◌, ℕ, ◌+◌, ◌-◌, ◌≤◌, ◌++◌, List, [], ◌∷◌, length, take, replicate, refl, sym, ap, ◌∙◌, subst, arith, append-nil}
use Rattle.erm_model.specs.Rows.{Rows}
use Rattle.erm_record.specs.Stored.{stored_length}
use Rattle.erm_block.specs.declared.block.Block.{Block}
use Rattle.erm_block.specs.LogList.{End, end_after, end_of}
use Rattle.erm_block.specs.Spelling.{StandsAt}
use Rattle.erm_flush.specs.Blocks.{LeavesFront}
use Rattle.erm_flush.specs.Turns.{HoldsFrom, start_of, WritesFew, WritesFrom}
use Rattle.erm_log_disk.specs.Chains.{MayStand}
use Rattle.erm_log_disk.specs.Writes.{AllWriteWords, Holds}
use Rattle.erm_log_disk.proofs.Chains.{chain_may_stand, end_of-append, fresh_among, length-words, list_is_all, list_is_front, may_stand-behind, may_stand-front, places_grow, runs_grow}
use Rattle.erm_log_disk.proofs.Trail.{each_moment}
use Rattle.erm_log_words.specs.Tears.{IsFresh}
use Rattle.erm_log_words.specs.Words.{Spares}
use Rattle.erm_log_words.proofs.LogWords.{log_words-behind}
use Rattle.erm_outside.specs.Disk.{contents, EachImage, Image, IsSettled, Step}
use Rattle.erm_world.specs.Log.{gathered_to, IsLog, Log, place_behind, words_of}

-- two spellings of the place behind blocks
pub same_place : (end : End) (blocks : List Block) → place_behind end.at blocks ≡ (end_of end blocks).at
same_place end [] = refl
same_place end (b ∷ bs) = same_place (end_after b end) bs

-- which words an end has doesn't matter
pub other_words : (sound : Rows → Type 0) (end : End) (words : List ℕ) (blocks : List Block) → MayStand sound end blocks → MayStand sound (record { words = words; at = end.at; run = end.run; rows = end.rows }) blocks
other_words sound end words [] stand = tt
other_words sound end words (b ∷ bs) (is, rows, others) = (is, rows, other_words sound (end_after b end) _ bs others)

-- blocks of a log from a place on
pub record Parts (sound : Rows → Type 0) (place : ℕ) (log : Log) : Type 0 where
  pub front : List Block
  pub blocks : List Block
  pub split : log.gathered ≡ front ++ blocks
  pub place_is : (end_of (start_of log) front).at ≡ place
  pub ends : (end_of (end_of (start_of log) front) blocks).at ≡ gathered_to log
  pub low : log.opened.run ≤ (end_of (start_of log) front).run
  pub stand : MayStand sound (end_of (start_of log) front) blocks

abbrev pub parts : (sound : Rows → Type 0) (place : ℕ) (log : Log) (front blocks : List Block) → IsLog sound log → log.gathered ≡ front ++ blocks → place ≡ place_behind log.opened.at front → Parts sound place log
parts sound place log front blocks is split place_is =
    let all = other_words sound _ [] log.gathered (chain_may_stand sound _ log.gathered is.chain) in
    let cut : MayStand sound (start_of log) (front ++ blocks) = rw split at all in
    record {
      front = front;
      blocks = blocks;
      split = split;
      place_is = sym (same_place (start_of log) front) ∙ sym place_is;
      ends = ap (λ (e : End). e.at) (sym (end_of-append (start_of log) front blocks)) ∙ ap (λ (bs : List Block). (end_of (start_of log) bs).at) (sym split) ∙ sym (same_place (start_of log) log.gathered);
      low = runs_grow sound (start_of log) front (may_stand-front sound (start_of log) front blocks cut);
      stand = may_stand-behind sound (start_of log) front blocks cut;
    }

-- behind words that may differ no block reads where none did
pub still_fresh : (run later from lo to : ℕ) (before image : Image) → IsFresh run before from → Spares lo to before image → from ≤ to → run ≤ later → IsFresh later image to
still_fresh run later from lo to before image fresh spares order above = λ p le block run_before high stands.
    fresh p (omega arith) block run_before (omega arith) (subst (λ (words : List ℕ). StandsAt words block p run_before) (log_words-behind lo to before image spares p le) stands)

module _
    (short : (row : List ℕ) → stored_length row ≤ length row) (whole : (row : List ℕ) → take (stored_length row) row ++ replicate (length row - stored_length row) 0 ≡ row)
    (sound : Rows → Type 0) where
  -- what an image leaves of blocks that were written behind a place at which no block of the run or a later one read
  leaves : (run : ℕ) (end : End) (blocks : List Block) (before image : Image) → run ≤ end.run → MayStand sound end blocks → IsFresh run before end.at
      → Spares end.at (end_of end blocks).at before image → LeavesFront sound end blocks before image
  leaves run end blocks before image low stand fresh spares =
      let grows = runs_grow sound end blocks stand in
      let further = places_grow end blocks in
      let behind = still_fresh run (end_of end blocks).run end.at end.at (end_of end blocks).at before image fresh spares further (omega arith) in
      let later = still_fresh run ((end_of end blocks).run + 1) end.at end.at (end_of end blocks).at before image fresh spares further (omega arith) in
      record {
        others = spares;
        front = λ shows. list_is_front short whole sound image end blocks stand shows (behind (end_of end blocks).at (omega arith));
        later = λ shows. fresh_among short whole sound ((end_of end blocks).run + 1) image end blocks stand shows (omega arith) later;
      }

  -- so each image does at each moment where nothing else was done than to write them
  pub fronts : (run : ℕ) (end : End) (blocks : List Block) (old more : List Step) → run ≤ end.run → MayStand sound end blocks → IsSettled old → IsFresh run (contents old) end.at
      → AllWriteWords end.at (words_of blocks) more → EachImage (LeavesFront sound end blocks (contents old)) old more
  fronts run end blocks old more low stand settled fresh writes =
      each_moment (LeavesFront sound end blocks (contents old)) end.at (words_of blocks) old more settled writes
      (λ image spares. leaves run end blocks (contents old) image low stand fresh (rw (length-words short sound end blocks stand) at spares))

  -- words of the blocks of a log were written from a place on
  pub writes_from : (place : ℕ) (log : Log) (p : Parts sound place log) (old new more : List Step) → IsSettled old → IsFresh log.opened.run (contents old) place
      → new ≡ more ++ old → AllWriteWords place (words_of p.blocks) more → WritesFew place more → WritesFrom sound place log old new
  writes_from place log p old new more settled fresh steps writes few =
      let end = end_of (start_of log) p.front in
      let here : IsFresh log.opened.run (contents old) end.at = rw (sym p.place_is) at fresh in
      let there : AllWriteWords end.at (words_of p.blocks) more = rw (sym p.place_is) at writes in
      record {
        front = p.front;
        blocks = p.blocks;
        split = p.split;
        place_is = p.place_is;
        writes = record {
          more = more;
          steps = steps;
          writes = there;
          images = fronts log.opened.run end p.blocks old more p.low p.stand settled here there;
        };
        few = few;
      }

  -- they were written and last
  pub holds_from : (place : ℕ) (log : Log) (p : Parts sound place log) (old new : List Step) → IsFresh log.opened.run (contents old) place → log.flushed ≡ gathered_to log
      → Holds place (words_of p.blocks) old new → HoldsFrom sound place log old new
  holds_from place log p old new fresh flushed holds =
      let end = end_of (start_of log) p.front in
      let size = length-words short sound end p.blocks p.stand in
      let here : IsFresh log.opened.run (contents old) end.at = rw (sym p.place_is) at fresh in
      let there : Holds end.at (words_of p.blocks) old new = rw (sym p.place_is) at holds in
      let spares : Spares end.at (end_of end p.blocks).at (contents old) (contents new) = rw size at there.others in
      let low = p.low in
      let grows = runs_grow sound end p.blocks p.stand in
      let behind = still_fresh log.opened.run (end_of end p.blocks).run end.at end.at (end_of end p.blocks).at (contents old) (contents new) here spares (places_grow end p.blocks) (omega arith) in
      record {
        front = p.front;
        blocks = p.blocks;
        rest = [];
        split = p.split ∙ ap (λ (bs : List Block). p.front ++ bs) (sym (append-nil p.blocks));
        from = p.place_is;
        to = p.ends ∙ sym flushed;
        holds = record {
          settled = there.settled;
          list = list_is_all short whole sound (contents new) end p.blocks p.stand there.has (behind (end_of end p.blocks).at (omega arith));
          others = spares;
        };
      }

  -- and the disk is ready for what will be gathered behind them
  pub fresh_behind : (place : ℕ) (log : Log) (p : Parts sound place log) (old new : List Step) → IsFresh log.opened.run (contents old) place
      → Holds place (words_of p.blocks) old new → IsFresh log.opened.run (contents new) (gathered_to log)
  fresh_behind place log p old new fresh holds =
      let end = end_of (start_of log) p.front in
      let size = length-words short sound end p.blocks p.stand in
      let to : place + length (words_of p.blocks) ≡ gathered_to log = omega (arith, size, p.place_is, p.ends) in
      let spares : Spares place (gathered_to log) (contents old) (contents new) = rw to at holds.others in
      still_fresh log.opened.run log.opened.run place place (gathered_to log) (contents old) (contents new) fresh spares (omega arith) (omega arith)
