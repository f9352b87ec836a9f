-- What a turn leaves of a desk, and what it answers.
use Rattle.std.proofs.Common.{◌≡◌, ℕ, ◌+◌, ◌-◌, ◌<◌, ◌≤◌, Bool, true, false, List, [], ◌∷◌, ◌++◌, length, take, replicate, Option, Some, None, IfSome, Result, Ok, Err, refl, sym, ap, ◌∙◌, subst, append-nil, append_assoc, arith}
use Rattle.std.proofs.lemmas.List.Concat.{flat_map-append}
use Rattle.erm_block.specs.declared.block.Block.{Block}
use Rattle.erm_block.specs.LogList.{End, end_of}
use Rattle.erm_block.specs.Spelling.{spelling}
use Rattle.erm_checkpoint.specs.Taken.{HoldsLog, state_at}
use Rattle.erm_ckpt.specs.declared.slot.Slots.{Slots}
use Rattle.erm_ckpt.specs.declared.slot.TheConstants.{LOG_START}
use Rattle.erm_ckpt.specs.Recovered.{State}
use Rattle.erm_crash.specs.Kept.{KeepsBlocks}
use Rattle.erm_flush.specs.declared.stops.FlushStop.{FlushStop}
use Rattle.erm_flush.specs.declared.stops.FlushStop.TheVariants as stop
use Rattle.erm_flush.specs.Blocks.{WritesBlocks}
use Rattle.erm_flush.specs.Over.{DidFlush, DidWrite, Flushes, Tries, TurnsKnown, TurnsOver}
use Rattle.erm_flush.specs.Turns.{Counts, GoesOn, HoldsFrom, IsReady, WritesFrom, start_of}
use Rattle.erm_flush.proofs.Flushes.{other_words, same_place}
use Rattle.erm_flush.proofs.Progress.{SameCut, one_cut}
use Rattle.erm_gathered.proofs.Lasting.{BlocksStay}
use Rattle.erm_gathered.proofs.Turns.{clear_joins, gather_joins}
use Rattle.erm_ring.proofs.Between.{clear_leaves, gathers_clears, gathers_leaves}
use Rattle.erm_log_disk.specs.Writes.{AllWriteWords}
use Rattle.erm_log_disk.proofs.Chains.{chain_may_stand, length-words}
use Rattle.erm_model.specs.RowTransaction.{Law}
use Rattle.erm_model.specs.Rows.{Rows}
use Rattle.erm_outside.specs.Disk.{IsSettled, Step, Tells}
use Rattle.erm_outside.specs.Faults.{Rose}
use Rattle.erm_record.specs.Stored.{stored_length}
use Rattle.erm_ring.specs.Turns.{MayGather}
use Rattle.erm_ring.specs.Turns as ring
use Rattle.erm_rule.specs.declared.view.Book.{Book}
use Rattle.erm_rule.specs.declared.view.Start.{Start}
use Rattle.erm_rule.specs.Views.{MayJoin}
use Rattle.erm_rule.proofs.Courses.{goes_both}
use Rattle.erm_world.specs.declared.gathered.Gathered.TheVariants.{Empty, Unfilled, Words}
use Rattle.erm_world.specs.Log.{IsLog, Log, gathered_to, place_behind, words_of}
use Rattle.erm_desk.specs.Desk.{Fails, HeldSince, IsDesk, IsHeld, KeepsFronts, PinStays, Sees, TurnsTo, WritesSince}
use Rattle.erm_desk.specs.Desk as desk_specs
use Rattle.erm_desk.specs.Known.{AwaitsLog, HasEnded, HasPin, HasStopped, IsFlushedTo, KnowsBlocks, KnowsEnd, KnowsLog, ended_log, flushed_log, opened_at, pending_log}
use Rattle.erm_desk.specs.Turns.{DidLook, DidStore}
use Rattle.erm_desk.proofs.Lawful.{clear_under, look_under}
use Rattle.erm_desk.proofs.Ended.{end_on}
use Rattle.erm_desk.proofs.Looking.{goes, still}
use Rattle.erm_desk.proofs.PinKept.{pin_after, pin_cleared, pin_gathered}
use Rattle.erm_desk.proofs.Onward.{knows_after}
use Rattle.erm_desk.proofs.Meeting.{MeetMore, meets_flushed}
use Rattle.erm_desk.proofs.Since.{Begins, all_held}
use Rattle.erm_desk.proofs.Telling.{tells_more}

-- a desk as contracts see it
abbrev pub sees : Book → Option (List Step) → ℕ → Bool → Sees
sees b told faults failed = record { book = b; told = told; faults = faults; failed = failed }

-- what the crates below say
pub record DeskLaws (law : Law) : Type 0 where
  pub stay : BlocksStay
  pub short : (row : List ℕ) → stored_length row ≤ length row
  pub whole : (row : List ℕ) → take (stored_length row) row ++ replicate (length row - stored_length row) 0 ≡ row
  pub keep : (before now : Log) (slots : Slots) (old new : List Step) → HoldsLog law.meets before slots old → now.opened ≡ before.opened
      → ((rest : List Block) × (now.gathered ≡ before.gathered ++ rest)) → IsLog law.meets now → LOG_START < now.opened.at → WritesFrom law.meets before.flushed now old new
      → KeepsBlocks law.meets (state_at now []) now.gathered before.flushed old new
  pub go : (from : State) (blocks more : List Block) (place later : ℕ) (a b c : List Step) → place ≤ later
      → KeepsBlocks law.meets from blocks place a b → KeepsBlocks law.meets from (blocks ++ more) later b c → KeepsBlocks law.meets from (blocks ++ more) place a c
  pub held : (before now : Log) (slots : Slots) (old new : List Step) → HoldsLog law.meets before slots old → HoldsFrom law.meets before.flushed now old new → IsReady now new
      → GoesOn before now → IsLog law.meets now → LOG_START < now.opened.at → HoldsLog law.meets now slots new
  pub begin : Begins law
  pub meet : MeetMore law
  pub join : (at : ℕ) (xs ys : List ℕ) (first second : List Step) → AllWriteWords at xs first → AllWriteWords (at + length xs) ys second → AllWriteWords at (xs ++ ys) (second ++ first)

-- before blocks were gathered that are known now
abbrev pub awaiting_log : Start → List Block → List Block → Log
awaiting_log o old more = record (flushed_log o (old ++ more)) { flushed = place_behind o.tail old; gathered = old }

-- a log of which blocks are gathered that aren't flushed yet
pending_plain : (sound : Rows → Type 0) (o : Start) (old more : List Block) → IsLog sound (flushed_log o (old ++ more)) → IsLog sound (pending_log o old more)
pending_plain sound o old more is = record {
  opening = is.opening;
  chain = is.chain;
  one_run = is.one_run;
  flushed = record { front = old; rest = more; split = refl; behind = refl };
  within = is.within;
  places = is.places;
  decided = is.decided;
  pinned = is.pinned;
}

holds_same : (sound : Rows → Type 0) (o : Start) (old more : List Block) (slots : Slots) (steps : List Step) → HoldsLog sound (flushed_log o old) slots steps → HoldsLog sound (awaiting_log o old more) slots steps
holds_same sound o old more slots steps h = record {
  ready = record { settled = h.ready.settled; fresh = h.ready.fresh };
  pair = h.pair;
  names = h.names;
  begins = h.begins;
  front = h.front;
  rest = h.rest;
  split = h.split;
  to = h.to;
  there = h.there;
  meets = h.meets;
}

pub place_rises : (at : ℕ) (blocks : List Block) → at ≤ place_behind at blocks
place_rises at [] = omega arith
place_rises at (b ∷ bs) = let rest = place_rises (at + b.size) bs in omega (arith, rest)

place_append : (at : ℕ) (xs ys : List Block) → place_behind at (xs ++ ys) ≡ place_behind (place_behind at xs) ys
place_append at [] ys = refl
place_append at (x ∷ xs) ys = place_append (at + x.size) xs ys

rose_from : (was first now : ℕ) → was ≡ first → Rose was now → Rose first now
rose_from was first now same rose = subst (λ (n : ℕ). Rose n now) same rose

pub all_some : {A : Type 0} (P Q : A → Type 0) (o : Option A) → ((x : A) → P x → Q x) → IfSome o P → IfSome o Q
all_some P Q None map at = tt
all_some P Q (Some x) map at = map x at

-- the end and the pin of a log are nothing to what is written of it
module _ (sound : Rows → Type 0) (l : Log) (tail : ℕ) (pinned : Option ℕ) where
  writes_plain : (place : ℕ) (old new : List Step) → WritesFrom sound place (ended_log l tail pinned) old new → WritesFrom sound place l old new
  writes_plain place old new w = record { front = w.front; blocks = w.blocks; split = w.split; place_is = w.place_is; writes = w.writes; few = w.few }

  pub told_writes : (place : ℕ) (before after : Option (List Step)) → Tells (WritesFrom sound place (ended_log l tail pinned)) before after → Tells (WritesFrom sound place l) before after
  told_writes place None after told = told
  told_writes place (Some old) after (new, told, w) = (new, told, writes_plain place old new w)

  pub told_lasts : (place : ℕ) (before after : Option (List Step)) → Tells (HoldsFrom sound place (ended_log l tail pinned)) before after → Tells (HoldsFrom sound place l) before after
  told_lasts place None after told = told
  told_lasts place (Some old) after (new, told, h) = (
    new,
    told,
    record { front = h.front; blocks = h.blocks; rest = h.rest; split = h.split; from = h.from; to = h.to; holds = h.holds },
  )

  pub told_ready : (told : Option (List Step)) → IfSome told (IsReady (ended_log l tail pinned)) → IfSome told (IsReady l)
  told_ready told ready = all_some (IsReady (ended_log l tail pinned)) (IsReady l) told (λ now r. record { settled = r.settled; fresh = r.fresh }) ready

-- what a turn did to its book, and what that means for the log
abbrev pub Did : Law → Result ℕ FlushStop → (was now : Bool) → (b e : Book) → (before after : Option (List Step)) → Type 0
Did law answer was now b e before after = TurnsOver (DidLook law) (DidStore law) answer was now b e before after

abbrev pub Known : Law → Result ℕ FlushStop → Log → (b e : Book) → (before after : Option (List Step)) → Type 0
Known law answer l b e before after = TurnsKnown law.meets (KnowsLog law) (AwaitsLog law) HasEnded ring.WasOpen HasStopped answer l b e before after

module _ (law : Law) (o : Start) (began : Option (List Step)) (first : ℕ) (s : Sees) (desk : IsDesk law o began first s) where
  -- the log that is known
  abbrev pub log_now : Log
  log_now = ended_log (flushed_log o desk.blocks) desk.tail desk.pin

  pub knows_now : KnowsLog law s.book log_now
  knows_now = record {
    blocks = desk.blocks;
    is = ap (λ (x : Start). ended_log (flushed_log x desk.blocks) desk.tail desk.pin) (sym desk.knows.start);
    knows = subst (λ (x : Start). KnowsBlocks law x s.book desk.blocks) (sym desk.knows.start) desk.knows;
    flushed = subst (λ (x : Start). IsFlushedTo s.book (place_behind x.tail desk.blocks)) (sym desk.knows.start) desk.flushed;
    end = desk.end;
  }

  pub ready_now : s.failed ≡ false → IfSome s.told (IsReady log_now)
  ready_now fine =
      all_some (IsHeld law o desk.blocks) (IsReady log_now) s.told (λ now held. record { settled = held.1.ready.settled; fresh = held.1.ready.fresh }) (desk.holds fine).1

  -- before a turn nothing is pending
  pub settled_now : s.failed ≡ false → IfSome s.told IsSettled
  settled_now fine = all_some (IsHeld law o desk.blocks) IsSettled s.told (λ now held. held.1.ready.settled) (desk.holds fine).1

module _ (law : Law) (laws : DeskLaws law) (o : Start) (began : Option (List Step)) (first : ℕ) (s : Sees) (desk : IsDesk law o began first s) where
  abbrev place : ℕ
  place = place_behind o.tail desk.blocks

  abbrev log_here : Log
  log_here = log_now law o began first s desk

  opens : s.book.start ≡ o
  opens = desk.knows.start

  none_tried : s.failed ≡ false → desk.blocks ++ desk.tried ≡ desk.blocks
  none_tried fine = ap (λ (bs : List Block). desk.blocks ++ bs) (desk.holds fine).0 ∙ append-nil desk.blocks

  -- nothing was gathered
  none_left : (tail at : ℕ) (e : Book) → ring.DidGather s.book tail at at [] e → MayGather e.view → MayJoin e.view → e.start ≡ s.book.start
      → s.failed ≡ false → IsDesk law o began first (sees e s.told s.faults false)
  none_left tail at e did may joins start fine =
      let after = goes s.book e tail at at [] did in
      record {
        behind = desk.behind;
        may = may;
        joins = joins;
        blocks = desk.blocks;
        knows = knows_after laws.stay law o s.book e desk.blocks after start desk.knows;
        flushed = still s.book e tail at at [] did place desk.may desk.flushed;
        tail = desk.tail;
        pin = desk.pin;
        end = end_on law s.book e log_here desk.end after (pin_gathered tail at at [] s.book e desk.pin did desk.end.pin);
        tried = desk.tried;
        knows_all = knows_after laws.stay law o s.book e (desk.blocks ++ desk.tried) after start desk.knows_all;
        keeps = desk.keeps;
        writes = desk.writes;
        onward = desk.onward;
        since = desk.since;
        holds = λ _. desk.holds fine;
        meets = λ _. desk.meets fine;
        sound = λ _. desk.sound fine;
        rose = λ failed. absurd (cc);
      }

  -- THE DISK, once words of blocks behind those that are flushed were written
  module _ (fine : s.failed ≡ false) (more : List Block) (log : IsLog law.meets (flushed_log o (desk.blocks ++ more))) where
    abbrev next : Log
    next = flushed_log o (desk.blocks ++ more)

    abbrev wrote : Log
    wrote = pending_log o desk.blocks more

    abbrev before : Log
    before = awaiting_log o desk.blocks more

    moments : (now new : List Step) → IfSome began (λ b. KeepsFronts law o (desk.blocks ++ desk.tried) b now)
        → KeepsBlocks law.meets (state_at next []) (desk.blocks ++ more) place now new → IfSome began (λ b. KeepsFronts law o (desk.blocks ++ more) b new)
    moments now new kept after =
        all_some (λ b. KeepsFronts law o (desk.blocks ++ desk.tried) b now) (λ b. KeepsFronts law o (desk.blocks ++ more) b new) began
        (λ b all. laws.go (state_at next []) desk.blocks more o.tail place b now new (place_rises o.tail desk.blocks) (subst (λ (bs : List Block). KeepsFronts law o bs b now) (none_tried fine) all) after) kept

    abbrev Kept : Option (List Step) → Type 0
    Kept told = IfSome told (λ now. IfSome began (λ b. KeepsFronts law o (desk.blocks ++ more) b now))

    -- they last
    kept_flushed : (was told : Option (List Step)) → IfSome was (λ now. IfSome began (λ b. KeepsFronts law o (desk.blocks ++ desk.tried) b now)) → IfSome was (IsHeld law o desk.blocks)
        → Tells (WritesFrom law.meets place next) was told → Tells (HoldsFrom law.meets place next) was told → IfSome told (IsReady next) → Kept told × IfSome told (IsHeld law o (desk.blocks ++ more))
    kept_flushed None told kept held writes lasts is = subst (λ (x : Option (List Step)). Kept x × IfSome x (IsHeld law o (desk.blocks ++ more))) (sym writes) (tt, tt)
    kept_flushed (Some now) told kept (slots, held) (new, is_new, writes) (other, is_other, lasts) is =
        let same : other ≡ new = cc in
        let there : HoldsFrom law.meets place next now new = subst (λ (x : List Step). HoldsFrom law.meets place next now x) same lasts in
        let from = holds_same law.meets o desk.blocks more slots now held in
        let is_ready : IsReady next new = subst (λ (x : Option (List Step)). IfSome x (IsReady next)) is_new is in
        let on : GoesOn before next = record { log = refl; more = (more, refl); further = rises } in
        subst (λ (x : Option (List Step)). Kept x × IfSome x (IsHeld law o (desk.blocks ++ more))) (sym is_new)
        (moments now new kept (laws.keep before next slots now new from refl (more, refl) log desk.behind writes), (slots, laws.held before next slots now new from there is_ready on log desk.behind))
      where
        rises : place ≤ place_behind o.tail (desk.blocks ++ more)
        rises = let on = place_append o.tail desk.blocks more in let up = place_rises (place_behind o.tail desk.blocks) more in omega (arith, on, up)

    -- they may be written in part
    kept_tried : (was told : Option (List Step)) → IfSome was (λ now. IfSome began (λ b. KeepsFronts law o (desk.blocks ++ desk.tried) b now)) → IfSome was (IsHeld law o desk.blocks)
        → Tells (WritesFrom law.meets place wrote) was told → Kept told
    kept_tried None told kept held writes = subst Kept (sym writes) tt
    kept_tried (Some now) told kept (slots, held) (new, is_new, writes) =
        let from = holds_same law.meets o desk.blocks more slots now held in
        subst Kept (sym is_new)
        (moments now new kept (laws.keep before wrote slots now new from refl (more, refl) (pending_plain law.meets o desk.blocks more log) desk.behind writes))

    -- before, the disk held what is flushed: since then each image recovers to it, and to a front of them
    abbrev Tried : Option (List Step) → Type 0
    Tried told = IfSome told (λ now. IfSome began (λ b. HeldSince law o desk.blocks more b now))

    held_tried : (was told : Option (List Step)) → IfSome was (IsHeld law o desk.blocks) → IfSome was (λ now. IfSome began (λ b. WritesSince o (desk.blocks ++ desk.tried) b now))
        → Tells (WritesFrom law.meets place wrote) was told → Tried told
    held_tried None told held since writes = subst Tried (sym writes) tt
    held_tried (Some now) told (slots, held) since (new, is_new, writes) =
        let from = holds_same law.meets o desk.blocks more slots now held in
        let kept = laws.keep before wrote slots now new from refl (more, refl) (pending_plain law.meets o desk.blocks more log) desk.behind writes in
        subst Tried (sym is_new)
        (all_some (λ b. WritesSince o (desk.blocks ++ desk.tried) b now) (λ b. HeldSince law o desk.blocks more b new) began
        (λ b earlier. record {
          mid = now;
          moment = record { before = earlier.0; since = earlier.1; after = writes.writes.more; later = writes.writes.steps };
          held = (slots, held);
          keeps = kept;
        })
        since)

    -- nothing else was done than to write words of blocks: of these
    length_is : o.tail + length (words_of desk.blocks) ≡ place
    length_is =
        let end : End = record { words = words_of desk.blocks; at = o.tail; run = o.run; rows = (opened_at o).rows } in
        let stand = chain_may_stand law.meets end desk.blocks desk.knows.log.chain in
        let long = length-words laws.short law.meets end desk.blocks stand in
        let same = same_place end desk.blocks in
        omega (arith, long, same)

    own_words : (front blocks : List Block) → desk.blocks ++ more ≡ front ++ blocks → (end_of (start_of next) front).at ≡ place → SameCut desk.blocks more front blocks
    own_words front blocks split at =
        one_cut laws.short law.meets (start_of next) desk.blocks more front blocks (other_words law.meets _ [] (desk.blocks ++ more) (chain_may_stand law.meets _ (desk.blocks ++ more) log.chain)) split
        (sym (same_place (start_of next) desk.blocks) ∙ sym at)

    own_writes : (front blocks : List Block) → desk.blocks ++ more ≡ front ++ blocks → (end_of (start_of next) front).at ≡ place → (now new : List Step)
        → WritesBlocks law.meets (end_of (start_of next) front) blocks now new → (later : List Step) × (new ≡ later ++ now) × AllWriteWords place (words_of more) later
    own_writes front blocks split at now new w =
        let cut = own_words front blocks split at in (
          w.more,
          w.steps,
          subst (λ (bs : List Block). AllWriteWords place (words_of bs) w.more) (sym cut.behind) (subst (λ (n : ℕ). AllWriteWords n (words_of blocks) w.more) at w.writes),
        )

    written_since : (b now new later : List Step) → WritesSince o (desk.blocks ++ desk.tried) b now → new ≡ later ++ now → AllWriteWords place (words_of more) later → WritesSince o (desk.blocks ++ more) b new
    written_since b now new later since steps writes =
        let since_blocks : WritesSince o desk.blocks b now = subst (λ (bs : List Block). WritesSince o bs b now) (none_tried fine) since in
        let there : AllWriteWords (o.tail + length (words_of desk.blocks)) (words_of more) later = subst (λ (n : ℕ). AllWriteWords n (words_of more) later) (sym length_is) writes in
        let all = laws.join o.tail (words_of desk.blocks) (words_of more) since_blocks.0 later since_blocks.2 there in (
          later ++ since_blocks.0,
          steps ∙ ap (λ (ss : List Step). later ++ ss) since_blocks.1 ∙ sym (append_assoc later since_blocks.0 b),
          subst (λ (ws : List ℕ). AllWriteWords o.tail ws (later ++ since_blocks.0)) (sym (flat_map-append spelling desk.blocks more)) all,
        )

    abbrev Since : Option (List Step) → Type 0
    Since told = IfSome told (λ now. IfSome began (λ b. WritesSince o (desk.blocks ++ more) b now))

    since_on : (now new : List Step) → ((later : List Step) × (new ≡ later ++ now) × AllWriteWords place (words_of more) later)
        → IfSome began (λ b. WritesSince o (desk.blocks ++ desk.tried) b now) → IfSome began (λ b. WritesSince o (desk.blocks ++ more) b new)
    since_on now new (later, steps, writes) since =
        all_some (λ b. WritesSince o (desk.blocks ++ desk.tried) b now) (λ b. WritesSince o (desk.blocks ++ more) b new) began (λ b all. written_since b now new later all steps writes) since

    since_flushed : (was told : Option (List Step)) → IfSome was (λ now. IfSome began (λ b. WritesSince o (desk.blocks ++ desk.tried) b now)) → Tells (WritesFrom law.meets place next) was told → Since told
    since_flushed None told since writes = subst Since (sym writes) tt
    since_flushed (Some now) told since (new, is_new, w) =
        subst Since (sym is_new) (since_on now new (own_writes w.front w.blocks w.split w.place_is now new w.writes) since)

    since_tried : (was told : Option (List Step)) → IfSome was (λ now. IfSome began (λ b. WritesSince o (desk.blocks ++ desk.tried) b now)) → Tells (WritesFrom law.meets place wrote) was told → Since told
    since_tried None told since writes = subst Since (sym writes) tt
    since_tried (Some now) told since (new, is_new, w) =
        subst Since (sym is_new) (since_on now new (own_writes w.front w.blocks w.split w.place_is now new w.writes) since)

  -- A FAULT
  failed_desk : (e : Book) (told : Option (List Step)) (faults : ℕ) (at count : ℕ) → s.failed ≡ false → DidWrite (DidLook law) at count s.book e s.told told → Rose s.faults faults
      → (m : Log) → AwaitsLog law e m → Tries law.meets HasStopped log_here m s.book e s.told told
      → IsDesk law o began first (sees e told faults true) × Fails law o s (sees e told faults true)
  failed_desk e told faults at count fine write rose m awaits tries =
      let look = write.looks in
      let did = look.gathers.1 in
      let words = write.words in
      let u = look_under law (Words at count) words s.book e look.took in
      let start : e.start ≡ o = u.start ∙ opens in
      let more = tries.gathers.more.0 in
      let is_on : m ≡ ended_log (pending_log o awaits.front awaits.blocks) m.tail m.pinned = awaits.is ∙ ap (λ (x : Start). ended_log (pending_log x awaits.front awaits.blocks) m.tail m.pinned) start in
      let all : awaits.front ++ awaits.blocks ≡ desk.blocks ++ more = sym (ap (λ (x : Log). x.gathered) is_on) ∙ tries.gathers.more.1 in
      let at_place : place_behind o.tail awaits.front ≡ place = sym (ap (λ (x : Log). x.flushed) is_on) ∙ tries.flushed in
      let is_wrote : m ≡ ended_log (pending_log o desk.blocks more) m.tail m.pinned =
      is_on ∙ ap (λ (bs : List Block). ended_log (record (flushed_log o bs) { flushed = place_behind o.tail awaits.front }) m.tail m.pinned) all
      ∙ ap (λ (n : ℕ). ended_log (record (flushed_log o (desk.blocks ++ more)) { flushed = n }) m.tail m.pinned) at_place
      in
      let knows : KnowsBlocks law o e (desk.blocks ++ more) =
      subst (KnowsBlocks law o e) all (subst (λ (x : Start). KnowsBlocks law x e (awaits.front ++ awaits.blocks)) start awaits.knows)
      in
      let to : gathered_to m ≡ place_behind o.tail (desk.blocks ++ more) = ap gathered_to is_wrote in
      let writes : Tells (WritesFrom law.meets place (pending_log o desk.blocks more)) s.told told =
      told_writes law.meets (pending_log o desk.blocks more) m.tail m.pinned place s.told told (subst (λ (x : Log). Tells (WritesFrom law.meets place x) s.told told) is_wrote tries.writes)
      in
      let after = goes s.book e look.gathers.0 at (at + count) (take count words) did in
      let flushed = still s.book e look.gathers.0 at (at + count) (take count words) did place desk.may desk.flushed in (
        record {
          behind = desk.behind;
          may = gathers_leaves (Words at count) s.book words e desk.may look.gathers;
          joins = gather_joins (Words at count) words s.book e desk.joins look.gathers;
          blocks = desk.blocks;
          knows = knows_after laws.stay law o s.book e desk.blocks after u.start desk.knows;
          flushed = flushed;
          tail = desk.tail;
          pin = desk.pin;
          end = end_on law s.book e log_here desk.end after (pin_gathered look.gathers.0 at (at + count) (take count words) s.book e desk.pin did desk.end.pin);
          tried = more;
          knows_all = knows;
          keeps = kept_tried fine more knows.log s.told told desk.keeps (desk.holds fine).1 writes;
          writes = since_tried fine more knows.log s.told told desk.writes writes;
          onward = tells_more at (take count words) began s.told told desk.onward write.writes;
          since = held_tried fine more knows.log s.told told (desk.holds fine).1 desk.writes writes;
          holds = λ failed. absurd (cc);
          meets = λ failed. absurd (cc);
          sound = λ failed. absurd (cc);
          rose = λ _. rose_from s.faults first faults (desk.sound fine) rose;
        },
        record {
          goes = after;
          front = desk.blocks;
          blocks = more;
          some = subst (λ (n : ℕ). place < n) to tries.gathers.some;
          stops = subst (λ (n : ℕ). HasStopped s.book n e) to tries.gathers.stops;
          from = desk.flushed;
          still = flushed;
          knows_all = knows;
          rose = rose;
        },
      )

  -- THEY LAST, and were cleared
  flushed_desk : (e : Book) (told : Option (List Step)) (end : ℕ) → s.failed ≡ false → DidFlush (DidLook law) (DidStore law) end s.book e s.told told
      → (m : Log) → KnowsLog law e m → Flushes law.meets HasStopped end log_here m s.book e s.told told
      → IsDesk law o began first (sees e told s.faults false) × desk_specs.Flushes law o end s (sees e told s.faults false)
  flushed_desk e told end fine did m know flushes =
      let look = did.write.looks in
      let words = did.write.words in
      let mid = did.mid in
      let store = did.stores in
      let u = look_under law (Words did.at did.count) words s.book mid look.took in
      let v = clear_under law end mid e store.took in
      let start : e.start ≡ o = v.start ∙ u.start ∙ opens in
      let more = flushes.gathers.more.0 in
      let is_on : m ≡ ended_log (flushed_log o know.blocks) m.tail m.pinned = know.is ∙ ap (λ (x : Start). ended_log (flushed_log x know.blocks) m.tail m.pinned) start in
      let all : know.blocks ≡ desk.blocks ++ more = sym (ap (λ (x : Log). x.gathered) is_on) ∙ flushes.gathers.more.1 in
      let is_next : m ≡ ended_log (flushed_log o (desk.blocks ++ more)) m.tail m.pinned = is_on ∙ ap (λ (bs : List Block). ended_log (flushed_log o bs) m.tail m.pinned) all in
      let next = flushed_log o (desk.blocks ++ more) in
      let knows : KnowsBlocks law o e (desk.blocks ++ more) = subst (KnowsBlocks law o e) all (subst (λ (x : Start). KnowsBlocks law x e know.blocks) start know.knows) in
      let to : end ≡ place_behind o.tail (desk.blocks ++ more) = flushes.gathers.end_is ∙ ap gathered_to is_next in
      let writes : Tells (WritesFrom law.meets place (flushed_log o (desk.blocks ++ more))) s.told told =
      told_writes law.meets next m.tail m.pinned place s.told told (subst (λ (x : Log). Tells (WritesFrom law.meets place x) s.told told) is_next flushes.writes)
      in
      let lasts : Tells (HoldsFrom law.meets place (flushed_log o (desk.blocks ++ more))) s.told told =
      told_lasts law.meets next m.tail m.pinned place s.told told (subst (λ (x : Log). Tells (HoldsFrom law.meets place x) s.told told) is_next flushes.lasts)
      in
      let ready : IfSome told (IsReady (flushed_log o (desk.blocks ++ more))) =
      told_ready law.meets next m.tail m.pinned told (subst (λ (x : Log). IfSome told (IsReady x)) is_next flushes.ready)
      in
      let disk = kept_flushed fine more knows.log s.told told desk.keeps (desk.holds fine).1 writes lasts ready in
      let since = since_flushed fine more knows.log s.told told desk.writes writes in
      let nothing : (desk.blocks ++ more) ++ [] ≡ desk.blocks ++ more = append-nil (desk.blocks ++ more) in
      let clearable : ring.MayClear end mid.view = subst (λ (p : ℕ). ring.MayClear p mid.view) (sym did.end_is) (gathers_clears did.at did.count s.book words mid desk.may look.gathers) in
      let after = goes s.book mid look.gathers.0 did.at (did.at + did.count) (take did.count words) look.gathers.1 in (
        record {
          behind = desk.behind;
          may = clear_leaves end mid e clearable store.clears;
          joins = clear_joins end mid e (gather_joins (Words did.at did.count) words s.book mid desk.joins look.gathers) store.clears;
          blocks = desk.blocks ++ more;
          knows = knows;
          flushed = λ c is. store.clears.flushed c is ∙ to;
          tail = m.tail;
          pin = m.pinned;
          end = subst (KnowsEnd law e) is_next know.end;
          tried = [];
          knows_all = subst (KnowsBlocks law o e) (sym nothing) knows;
          keeps = subst (λ (bs : List Block). IfSome told (λ now. IfSome began (λ b. KeepsFronts law o bs b now))) (sym nothing) disk.0;
          writes = subst (λ (bs : List Block). IfSome told (λ now. IfSome began (λ b. WritesSince o bs b now))) (sym nothing) since;
          onward = tells_more did.at (take did.count words) began s.told told desk.onward did.write.writes;
          since = all_held law laws.begin o told began (desk.blocks ++ more) (desk.blocks ++ more) disk.1 since;
          holds = λ _. (refl, disk.1);
          meets = λ _. meets_flushed law laws.meet o desk.blocks more knows.log began s.told told (desk.meets fine) lasts disk.1;
          sound = λ _. desk.sound fine;
          rose = λ failed. absurd (cc);
        },
        record {
          goes = goes_both s.book mid e after store.clears.goes;
          front = desk.blocks;
          blocks = more;
          some = flushes.gathers.some;
          end_is = to;
          stops = flushes.gathers.stops;
          from = desk.flushed;
          to = store.clears.flushed;
          knows = knows;
          lasts = lasts;
          has = (v.core, v.is);
        },
      )

  -- THE PIN
  pub pin_turned : (answer : Result ℕ FlushStop) (e : Book) (told : Option (List Step)) (failed : Bool) → Did law answer s.failed failed s.book e s.told told → PinStays s.book e
  pin_turned (Ok to) e told failed (fine, now, did) p pin =
      pin_cleared to did.mid e p did.stores.clears (pin_after (Words did.at did.count) did.write.words s.book did.mid p did.write.looks.gathers pin)
  pin_turned (Err (stop.Empty at)) e told failed (fine, now, did) p pin = pin_after (Empty at) did.0.0 s.book e p did.0.1.gathers pin
  pin_turned (Err (stop.Unfilled at)) e told failed (fine, now, did) p pin = pin_after (Unfilled at) did.0.0 s.book e p did.0.1.gathers pin
  pin_turned (Err stop.DiskFault) e told failed (fine, now, did) p pin = pin_after (Words did.0 did.1) did.2.words s.book e p did.2.looks.gathers pin
  pin_turned (Err stop.Failed) e told failed (was, now, same, still) p pin = subst (λ (b : Book). HasPin b.view p) (sym same) pin

  -- WHAT IT ANSWERS
  abbrev Left : Result ℕ FlushStop → Sees → Type 0
  Left answer t = IsDesk law o began first t × TurnsTo law o answer s t

  same_sees : (e : Book) (told : Option (List Step)) (faults n : ℕ) (failed now : Bool) → n ≡ faults → now ≡ failed → sees e told n now ≡ sees e told faults failed
  same_sees e told faults n failed now one two = ap (λ (k : ℕ). sees e told k now) one ∙ ap (λ (f : Bool). sees e told faults f) two

  pub turned : (answer : Result ℕ FlushStop) (e : Book) (told : Option (List Step)) (faults : ℕ) (failed : Bool) → Did law answer s.failed failed s.book e s.told told → Counts answer s.faults faults
      → Known law answer log_here s.book e s.told told → IsDesk law o began first (sees e told faults failed) × TurnsTo law o answer s (sees e told faults failed)
  turned (Ok to) e told faults failed (fine, now, did) counts (m, know, flushes) =
      let both = flushed_desk e told to fine did m know flushes in
      subst (Left (Ok to)) (same_sees e told faults s.faults failed false (sym counts) (sym now)) (both.0, (fine, refl, refl, both.1))
  turned (Err (stop.Empty at)) e told faults failed (fine, now, did) counts known =
      let look = did.0.1 in
      let words = did.0.0 in
      let gather = look.gathers in
      let desk_on = none_left at at e gather (gathers_leaves (Empty at) s.book words e desk.may gather) (gather_joins (Empty at) words s.book e desk.joins gather)
      (look_under law (Empty at) words s.book e look.took).start fine
      in
      let same = ap (λ (x : Option (List Step)). sees e x s.faults false) (sym did.1) ∙ same_sees e told faults s.faults failed false (sym counts) (sym now) in
      subst (Left (Err (stop.Empty at))) same (desk_on, (fine, refl, refl, record { began = gather.began; told = refl }))
  turned (Err (stop.Unfilled at)) e told faults failed (fine, now, did) counts known =
      let look = did.0.1 in
      let words = did.0.0 in
      let gather = look.gathers in
      let desk_on = none_left gather.0 at e gather.1 (gathers_leaves (Unfilled at) s.book words e desk.may gather) (gather_joins (Unfilled at) words s.book e desk.joins gather)
      (look_under law (Unfilled at) words s.book e look.took).start fine
      in
      let same = ap (λ (x : Option (List Step)). sees e x s.faults false) (sym did.1) ∙ same_sees e told faults s.faults failed false (sym counts) (sym now) in
      subst (Left (Err (stop.Unfilled at))) same (desk_on, (fine, refl, refl, (gather.0, gather.2, record { began = gather.1.began; told = refl }), gather.3))
  turned (Err stop.DiskFault) e told faults failed (fine, now, did) counts (m, awaits, tries) =
      let both = failed_desk e told faults did.0 did.1 fine did.2 counts m awaits tries in
      subst (Left (Err stop.DiskFault)) (same_sees e told faults faults failed true refl (sym now)) (both.0, (fine, refl, both.1))
  turned (Err stop.Failed) e told faults failed (was, now, same, still) counts known =
      let is : s ≡ sees e told faults failed =
      ap (λ (b : Book). sees b s.told s.faults s.failed) (sym same) ∙ ap (λ (x : Option (List Step)). sees e x s.faults s.failed) (sym still) ∙ same_sees e told faults s.faults failed s.failed (sym counts) (was ∙ sym now)
      in
      subst (Left (Err stop.Failed)) is (desk, (was, refl))
