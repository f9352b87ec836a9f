-- Turns that flush: what they make of a log that is known, and of a disk that holds it.
use Rattle.std.proofs.Common.{◌≡◌, ℕ, ◌+◌, ◌<◌, ◌≤◌, true, false, List, [], ◌++◌, length, take, Option, IfSome, refl, sym, ap, ◌∙◌, subst, append-nil, append_assoc, arith}
use Rattle.std.proofs.lemmas.List.Concat.{flat_map-append}
use Rattle.erm_block.specs.declared.block.Block.{Block}
use Rattle.erm_block.specs.Spelling.{spelling}
use Rattle.erm_block.specs.LogList.{end_of}
use Rattle.erm_checkpoint.specs.Taken.{HoldsLog, state_at}
use Rattle.erm_checkpoint.proofs.Pinned.{holds_other}
use Rattle.erm_checkpoint.proofs.Taken.{stands_from}
use Rattle.erm_ckpt.specs.declared.slot.Slots.{Slots}
use Rattle.erm_ckpt.specs.declared.slot.TheConstants.{LOG_START}
use Rattle.erm_crash.specs.Kept.{KeepsBlocks}
use Rattle.erm_crash.proofs.Moments.{stopped_more, weaker}
use Rattle.erm_desk.specs.Desk.{Sees}
use Rattle.erm_desk.specs.Known.{AwaitsLog, HasStopped, KnowsBlocks, KnowsLog}
use Rattle.erm_desk.specs.Turns.{DidLook, FlushSteps}
use Rattle.erm_desk.proofs.Ended.{log_on}
use Rattle.erm_desk.proofs.Lawful.{look_under}
use Rattle.erm_desk.proofs.Looking.{goes, still}
use Rattle.erm_desk.proofs.PinKept.{pin_gathered}
use Rattle.erm_desk.proofs.Since.{Begins}
use Rattle.erm_desk.proofs.Stepped.{steps_both}
use Rattle.erm_desk.proofs.Turned.{DeskLaws, all_some}
use Rattle.erm_flush.specs.Over.{DidWrite, Flushes, Tries}
use Rattle.erm_flush.specs.Turns.{GoesOn, HoldsFrom, IsReady, WritesFrom, start_of}
use Rattle.erm_flush.proofs.Flushes.{same_place}
use Rattle.erm_flush.proofs.Progress.{SameCut, one_cut}
use Rattle.erm_log_disk.specs.Chains.{MayStand}
use Rattle.erm_log_disk.specs.Writes.{AllWriteWords, OnlyWrites}
use Rattle.erm_model.specs.RowTransaction.{Law}
use Rattle.erm_outside.specs.Disk.{Step, Tells}
use Rattle.erm_outside.specs.Faults.{Rose}
use Rattle.erm_ring.specs.Turns.{MayGather}
use Rattle.erm_world.specs.declared.gathered.Gathered.TheVariants.{Words}
use Rattle.erm_world.specs.Log.{IsEnd, IsLog, Log, gathered_to, place_behind, words_of}
use Rattle.erm_world.specs.Log as world
use Rattle.erm_desk_checkpoint.specs.Turns.{FailsOn, FlushesOn, HoldsKnown}
use Rattle.erm_desk_checkpoint.proofs.Logs.{known_flushed, state_from, words_both, words_end}
use Rattle.erm_desk_checkpoint.proofs.Telling.{if_both, tells_here, tells_if, tells_join, tells_map}

-- at a moment at which a disk holds a log, each image recovers to all that is flushed
pub held_now : (law : Law) → Begins law → (l : Log) (slots : Slots) (now : List Step) → HoldsLog law.meets l slots now → KeepsBlocks law.meets (state_at l []) l.gathered l.flushed now now
held_now law begins l slots now held =
    let since = begins l slots now held in
    subst (λ (bs : List Block). KeepsBlocks law.meets (state_at l []) bs l.flushed now now) (sym since.split)
    (weaker _ _ now now (λ moment image keeps tears. stopped_more law.meets (state_at l []) since.front since.rest l.flushed moment image (keeps tears)) since.moments)

module _ (law : Law) (laws : DeskLaws law) where
  -- WORDS OF BLOCKS behind those that are known were written
  module _ (slots : Slots) (l : Log) (s : Sees) (k : HoldsKnown law slots l s) (begin : LOG_START < l.opened.at) (n : Log) (blocks : List Block)
      (log : n ≡ record l { tail = n.tail; gathered = n.gathered; flushed = n.flushed }) (more : n.gathered ≡ l.gathered ++ blocks) (is : IsLog law.meets n) where
    opened : n.opened ≡ l.opened
    opened = ap (λ (x : Log). x.opened) log

    pub begins : LOG_START < n.opened.at
    begins = subst (λ (x : world.Start). LOG_START < x.at) (sym opened) begin

    -- how many
    place_of : (t : Sees) → KnowsLog law t.book n → n.flushed ≡ l.flushed + length (words_of blocks)
    place_of t know =
        let one = known_flushed law s.book l k.knows in
        let two = known_flushed law t.book n know in
        let here = words_end laws.short law.meets l k.knows.end.is_log in
        let there = words_end laws.short law.meets n is in
        let at = ap (λ (x : world.Start). x.at) opened in
        let all = ap (λ (bs : List Block). length (words_of bs)) more ∙ words_both l.gathered blocks in
        omega (arith, one, two, here, there, at, all)

    cut : (front others : List Block) → n.gathered ≡ front ++ others → (end_of (start_of n) front).at ≡ l.flushed → SameCut l.gathered blocks front others
    cut front others split at =
        one_cut laws.short law.meets (start_of n) l.gathered blocks front others (subst (MayStand law.meets (start_of n)) more (stands_from law.meets n is)) (sym more ∙ split)
        (sym (same_place (start_of n) l.gathered) ∙ ap (λ (x : world.Start). place_behind x.at l.gathered) opened ∙ sym (known_flushed law s.book l k.knows) ∙ sym at)

    wrote : (old new : List Step) → WritesFrom law.meets l.flushed n old new → (later : List Step) × (new ≡ later ++ old) × AllWriteWords l.flushed (words_of blocks) later
    wrote old new w =
        let same = cut w.front w.blocks w.split w.place_is in (
          w.writes.more,
          w.writes.steps,
          subst (λ (bs : List Block). AllWriteWords l.flushed (words_of bs) w.writes.more) (sym same.behind)
              (subst (λ (at : ℕ). AllWriteWords at (words_of w.blocks) w.writes.more) w.place_is w.writes.writes),
        )

    pub only_wrote : (after : Option (List Step)) → Tells (WritesFrom law.meets l.flushed n) s.told after → OnlyWrites l.flushed (words_of blocks) s.told after
    only_wrote after told =
        tells_map (HoldsLog law.meets l slots) (WritesFrom law.meets l.flushed n) (λ old new. (later : List Step) × (new ≡ later ++ old) × AllWriteWords l.flushed (words_of blocks) later)
        s.told after (λ old new held w. wrote old new w) k.holds told

    pub keeps_wrote : (after : Option (List Step)) → Tells (WritesFrom law.meets l.flushed n) s.told after → Tells (KeepsBlocks law.meets (state_at n []) n.gathered l.flushed) s.told after
    keeps_wrote after told =
        tells_map (HoldsLog law.meets l slots) (WritesFrom law.meets l.flushed n) (KeepsBlocks law.meets (state_at n []) n.gathered l.flushed)
        s.told after (λ old new held w. laws.keep l n slots old new held opened (blocks, more) is begins w) k.holds told

    -- and all of them last
    abbrev pub before : Log
    before = record l { tail = n.tail }

    pub record Lasted (new : List Step) : Type 0 where
      pub old : List Step
      pub held : HoldsLog law.meets before slots old
      pub from : HoldsFrom law.meets before.flushed n old new
      pub ready : IsReady n new

    pub lasted : (after : Option (List Step)) → Tells (HoldsFrom law.meets l.flushed n) s.told after → IfSome after (IsReady n) → IfSome after Lasted
    lasted after told ready =
        if_both (λ new. (old : List Step) × HoldsLog law.meets before slots old × HoldsFrom law.meets before.flushed n old new) (IsReady n) Lasted after
        (λ new did is_ready. record { old = did.0; held = did.1; from = did.2; ready = is_ready })
        (tells_if (HoldsLog law.meets l slots) (HoldsFrom law.meets l.flushed n) (λ new. (old : List Step) × HoldsLog law.meets before slots old × HoldsFrom law.meets before.flushed n old new)
        s.told after (λ old new held from. (old, holds_other law.meets l n.tail l.pinned slots old held, from)) k.holds told)
        ready

    pub goes_on : l.flushed ≤ n.flushed → GoesOn before n
    goes_on up = record { log = log; more = (blocks, more); further = up }

    pub held_lasted : l.flushed ≤ n.flushed → (new : List Step) → Lasted new → HoldsLog law.meets n slots new
    held_lasted up new d = laws.held before n slots d.old new d.held d.from d.ready (goes_on up) is begins

  -- A TURN THAT FLUSHED
  module _ (slots : Slots) (l : Log) (s t : Sees) (k : HoldsKnown law slots l s) (begin : LOG_START < l.opened.at) (end : ℕ) (m : Log) (know : KnowsLog law t.book m)
      (did : Flushes law.meets HasStopped end l m s.book t.book s.told t.told) where
    abbrev is_log : IsLog law.meets m
    is_log = know.end.is_log

    abbrev blocks_more : List Block
    blocks_more = did.gathers.more.0

    pub rises : l.flushed < m.flushed
    rises = let some = did.gathers.some in let to = did.flushed in omega (arith, some, to)

    pub lasts_now : IfSome t.told (Lasted slots l s k begin m blocks_more did.gathers.log did.gathers.more.1 is_log)
    lasts_now = lasted slots l s k begin m blocks_more did.gathers.log did.gathers.more.1 is_log t.told did.lasts did.ready

    pub flushed_on : t.faults ≡ s.faults → FlushSteps law s.book t.book → FlushesOn law l m s t
    flushed_on faults steps = record {
      opened = ap (λ (x : Log). x.opened) did.gathers.log;
      pinned = ap (λ (x : Log). x.pinned) did.gathers.log;
      blocks = blocks_more;
      more = did.gathers.more.1;
      flushed = place_of slots l s k begin m blocks_more did.gathers.log did.gathers.more.1 is_log t know;
      writes = only_wrote slots l s k begin m blocks_more did.gathers.log did.gathers.more.1 is_log t.told did.writes;
      keeps = keeps_wrote slots l s k begin m blocks_more did.gathers.log did.gathers.more.1 is_log t.told did.writes;
      steps = steps;
      faults = faults;
    }

    pub held_on : t.failed ≡ false → MayGather t.book.view → HoldsKnown law slots m t
    held_on fine may =
        let up = rises in
        record {
          knows = know;
          may = may;
          fine = fine;
          holds = all_some (Lasted slots l s k begin m blocks_more did.gathers.log did.gathers.more.1 is_log) (HoldsLog law.meets m slots) t.told
              (λ new d. held_lasted slots l s k begin m blocks_more did.gathers.log did.gathers.more.1 is_log (omega (arith, up)) new d) lasts_now;
        }

  -- A TURN THAT GATHERED NOTHING
  module _ (slots : Slots) (l : Log) (s t : Sees) (k : HoldsKnown law slots l s) (know : KnowsLog law t.book l) (told : t.told ≡ s.told) where
    pub still_on : t.faults ≡ s.faults → FlushSteps law s.book t.book → FlushesOn law l l s t
    still_on faults steps = record {
      opened = refl;
      pinned = refl;
      blocks = [];
      more = sym (append-nil l.gathered);
      flushed = omega arith;
      writes = subst (OnlyWrites l.flushed [] s.told) (sym told)
          (tells_here (HoldsLog law.meets l slots) (λ old new. (later : List Step) × (new ≡ later ++ old) × AllWriteWords l.flushed [] later) s.told (λ now held. ([], refl, tt)) k.holds);
      keeps = subst (Tells (KeepsBlocks law.meets (state_at l []) l.gathered l.flushed) s.told) (sym told)
          (tells_here (HoldsLog law.meets l slots) (KeepsBlocks law.meets (state_at l []) l.gathered l.flushed) s.told (λ now held. held_now law laws.begin l slots now held) k.holds);
      steps = steps;
      faults = faults;
    }

    pub still_held : t.failed ≡ false → MayGather t.book.view → HoldsKnown law slots l t
    still_held fine may = record { knows = know; may = may; fine = fine; holds = subst (λ (x : Option (List Step)). IfSome x (HoldsLog law.meets l slots)) (sym told) k.holds }

  -- BEHIND TURNS THAT FLUSHED words of blocks more were written
  module _ (l m : Log) (s u t : Sees) (first : FlushesOn law l m s u) (blocks : List Block) where
    abbrev all_blocks : List Block
    all_blocks = first.blocks ++ blocks

    wrote_both : (x y z : List Step) → ((later : List Step) × (y ≡ later ++ x) × AllWriteWords l.flushed (words_of first.blocks) later)
        → ((later : List Step) × (z ≡ later ++ y) × AllWriteWords m.flushed (words_of blocks) later)
        → (later : List Step) × (z ≡ later ++ x) × AllWriteWords l.flushed (words_of all_blocks) later
    wrote_both x y z one two =
        let there : AllWriteWords (l.flushed + length (words_of first.blocks)) (words_of blocks) two.0 = subst (λ (at : ℕ). AllWriteWords at (words_of blocks) two.0) first.flushed two.2 in
        let all = laws.join l.flushed (words_of first.blocks) (words_of blocks) one.0 two.0 one.2 there in (
          two.0 ++ one.0,
          two.1 ∙ ap (λ (ss : List Step). two.0 ++ ss) one.1 ∙ sym (append_assoc two.0 one.0 x),
          subst (λ (ws : List ℕ). AllWriteWords l.flushed ws (two.0 ++ one.0)) (sym (flat_map-append spelling first.blocks blocks)) all,
        )

    pub wrote_on : OnlyWrites m.flushed (words_of blocks) u.told t.told → OnlyWrites l.flushed (words_of all_blocks) s.told t.told
    wrote_on second =
        tells_join (λ old new. (later : List Step) × (new ≡ later ++ old) × AllWriteWords l.flushed (words_of first.blocks) later)
        (λ old new. (later : List Step) × (new ≡ later ++ old) × AllWriteWords m.flushed (words_of blocks) later)
        (λ old new. (later : List Step) × (new ≡ later ++ old) × AllWriteWords l.flushed (words_of all_blocks) later) s.told u.told t.told wrote_both first.writes second

    kept_both : (x y z : List Step) → KeepsBlocks law.meets (state_at m []) m.gathered l.flushed x y → KeepsBlocks law.meets (state_at m []) (m.gathered ++ blocks) m.flushed y z
        → KeepsBlocks law.meets (state_at l []) (l.gathered ++ all_blocks) l.flushed x z
    kept_both x y z one two =
        let up = first.flushed in
        let all : m.gathered ++ blocks ≡ l.gathered ++ all_blocks = ap (λ (bs : List Block). bs ++ blocks) first.more ∙ append_assoc l.gathered first.blocks blocks in
        subst (λ (o : world.Start). KeepsBlocks law.meets (state_from o) (l.gathered ++ all_blocks) l.flushed x z) first.opened
        (subst (λ (bs : List Block). KeepsBlocks law.meets (state_at m []) bs l.flushed x z) all
        (laws.go (state_at m []) m.gathered blocks l.flushed m.flushed x y z (omega (arith, up)) one two))

    pub kept_on : Tells (KeepsBlocks law.meets (state_at m []) (m.gathered ++ blocks) m.flushed) u.told t.told
        → Tells (KeepsBlocks law.meets (state_at l []) (l.gathered ++ all_blocks) l.flushed) s.told t.told
    kept_on second =
        tells_join (KeepsBlocks law.meets (state_at m []) m.gathered l.flushed) (KeepsBlocks law.meets (state_at m []) (m.gathered ++ blocks) m.flushed)
        (KeepsBlocks law.meets (state_at l []) (l.gathered ++ all_blocks) l.flushed) s.told u.told t.told kept_both first.keeps second

  -- ONE AFTER ANOTHER
  module _ (l m n : Log) (s u t : Sees) (first : FlushesOn law l m s u) (second : FlushesOn law m n u t) where
    abbrev both_blocks : List Block
    both_blocks = first.blocks ++ second.blocks

    keeps_both : (x y z : List Step) → KeepsBlocks law.meets (state_at m []) m.gathered l.flushed x y → KeepsBlocks law.meets (state_at n []) n.gathered m.flushed y z
        → KeepsBlocks law.meets (state_at n []) n.gathered l.flushed x z
    keeps_both x y z one two =
        let up = first.flushed in
        let from = state_at n [] in
        subst (λ (bs : List Block). KeepsBlocks law.meets from bs l.flushed x z) (sym second.more)
        (laws.go from m.gathered second.blocks l.flushed m.flushed x y z (omega (arith, up))
        (subst (λ (o : world.Start). KeepsBlocks law.meets (state_from o) m.gathered l.flushed x y) (sym second.opened) one)
        (subst (λ (bs : List Block). KeepsBlocks law.meets from bs m.flushed y z) second.more two))

    pub both_on : FlushesOn law l n s t
    both_on =
        let one = first.flushed in
        let two = second.flushed in
        let long = words_both first.blocks second.blocks in
        record {
          opened = second.opened ∙ first.opened;
          pinned = second.pinned ∙ first.pinned;
          blocks = both_blocks;
          more = second.more ∙ ap (λ (bs : List Block). bs ++ second.blocks) first.more ∙ append_assoc l.gathered first.blocks second.blocks;
          flushed = omega (arith, one, two, long);
          writes = wrote_on l m s u t first second.blocks second.writes;
          keeps = tells_join (KeepsBlocks law.meets (state_at m []) m.gathered l.flushed) (KeepsBlocks law.meets (state_at n []) n.gathered m.flushed)
              (KeepsBlocks law.meets (state_at n []) n.gathered l.flushed) s.told u.told t.told keeps_both first.keeps second.keeps;
          steps = steps_both law s.book u.book t.book first.steps second.steps;
          faults = second.faults ∙ first.faults;
        }

  -- A TURN AT WHICH THE DISK FAILED
  module _ (slots : Slots) (l : Log) (s t : Sees) (k : HoldsKnown law slots l s) (begin : LOG_START < l.opened.at) (at count : ℕ)
      (write : DidWrite (DidLook law) at count s.book t.book s.told t.told) (n : Log) (awaits : AwaitsLog law t.book n) (tries : Tries law.meets HasStopped l n s.book t.book s.told t.told) where
    abbrev tried_more : List Block
    tried_more = tries.gathers.more.0

    still_known : KnowsLog law t.book l
    still_known =
        let look = write.looks in
        let did = look.gathers.1 in
        let words = write.words in
        let u = look_under law (Words at count) words s.book t.book look.took in
        let place = place_behind s.book.start.tail k.knows.blocks in
        log_on laws.stay law s.book t.book l k.knows (goes s.book t.book look.gathers.0 at (at + count) (take count words) did) u.start
        (still s.book t.book look.gathers.0 at (at + count) (take count words) did place k.may k.knows.flushed)
        (pin_gathered look.gathers.0 at (at + count) (take count words) s.book t.book l.pinned did k.knows.end.pin)

    pub failed_on : t.failed ≡ true → Rose s.faults t.faults → FlushSteps law s.book t.book → FailsOn law l s t
    failed_on failed rose steps =
        let g = tries.gathers in
        let is = awaits.end.is_log in
        let all : awaits.front ++ awaits.blocks ≡ l.gathered ++ tried_more = sym (ap (λ (x : Log). x.gathered) awaits.is) ∙ g.more.1 in
        record {
          knows = still_known;
          blocks = tried_more;
          knows_all = subst (KnowsBlocks law t.book.start t.book) all awaits.knows;
          writes = only_wrote slots l s k begin n tried_more g.log g.more.1 is t.told tries.writes;
          keeps = subst (λ (o : world.Start). Tells (KeepsBlocks law.meets (state_from o) (l.gathered ++ tried_more) l.flushed) s.told t.told) (ap (λ (x : Log). x.opened) g.log)
              (subst (λ (bs : List Block). Tells (KeepsBlocks law.meets (state_at n []) bs l.flushed) s.told t.told) g.more.1
              (keeps_wrote slots l s k begin n tried_more g.log g.more.1 is t.told tries.writes));
          steps = steps;
          failed = failed;
          rose = rose;
        }
