-- What is so of a desk goes on, where its disk goes on.
use Rattle.std.proofs.Common.{◌≡◌, ◌⊎◌, inl, inr, ℕ, ◌≤◌, true, false, List, [], ◌∷◌, ◌++◌, ◌+◌, length, Option, IfSome, refl, sym, ap, ◌∙◌, subst, append-nil, append_assoc, arith}
use Rattle.erm_block.specs.declared.block.Block.{Block}
use Rattle.erm_checkpoint.specs.Taken.{HoldsLog, state_at}
use Rattle.erm_checkpoint.proofs.Pinned.{holds_other}
use Rattle.erm_ckpt.specs.declared.slot.Slot.{Slot}
use Rattle.erm_ckpt.specs.declared.slot.Slots.{Slots}
use Rattle.erm_ckpt.specs.Slots.{put_slot}
use Rattle.erm_ckpt.specs.Recovered.{State}
use Rattle.erm_crash.specs.Kept.{KeepsBlocks}
use Rattle.erm_desk.specs.Desk.{HeldSince, KeepsFronts, Sees}
use Rattle.erm_desk.specs.Known.{KnowsBlocks, KnowsLog, opened_at}
use Rattle.erm_desk.specs.Turns.{FlushSteps}
use Rattle.erm_desk.proofs.Onward.{knows_after}
use Rattle.erm_desk.proofs.Since.{Begins}
use Rattle.erm_desk.proofs.Turned.{DeskLaws, all_some, place_rises}
use Rattle.erm_gathered.proofs.Lasting.{BlocksStay}
use Rattle.erm_log_disk.specs.Writes.{AllWriteWords, OnlyWrites}
use Rattle.erm_model.specs.RowTransaction.{Law}
use Rattle.erm_outside.specs.Disk.{Step, Tells}
use Rattle.erm_outside.specs.Faults.{Rose}
use Rattle.erm_record.specs.Stored.{stored_length}
use Rattle.erm_ring.specs.Turns.{MayGather}
use Rattle.erm_rule.specs.declared.view.Book.{Book}
use Rattle.erm_rule.specs.declared.view.Start.{Start}
use Rattle.erm_world.specs.Log.{Log, place_behind, words_of}
use Rattle.erm_world.specs.Log as world
use Rattle.erm_desk_checkpoint.specs.Does.{DidSince, DoesSince, DoesWith}
use Rattle.erm_desk_checkpoint.specs.Kept.{KeepsLog}
use Rattle.erm_desk_checkpoint.proofs.Doing.{Joins, flush_does, since_more, since_on, since_put}
use Rattle.erm_desk_checkpoint.proofs.Flushed.{held_now}
use Rattle.erm_desk_checkpoint.proofs.Logs.{known_all, known_flushed, known_opened, known_place, plain_held, state_from, words_end}
use Rattle.erm_desk_checkpoint.proofs.Steps.{steps_go, steps_join, steps_start}
use Rattle.erm_desk_checkpoint.proofs.Telling.{if_both, since_then, tells_join, tells_map, tells_since}

-- some steps more
abbrev pub More : List Step → List Step → Type 0
More old new = (more : List Step) × (new ≡ more ++ old)

more_both : (x y z : List Step) → More x y → More y z → More x z
more_both x y z one two = (two.0 ++ one.0, two.1 ∙ ap (λ (ss : List Step). two.0 ++ ss) one.1 ∙ sym (append_assoc two.0 one.0 x))

-- what the crates below say
pub record GoLaws (law : Law) : Type 0 where
  pub stay : BlocksStay
  pub go : (from : State) (blocks more : List Block) (place later : ℕ) (a b c : List Step) → place ≤ later
      → KeepsBlocks law.meets from blocks place a b → KeepsBlocks law.meets from (blocks ++ more) later b c → KeepsBlocks law.meets from (blocks ++ more) place a c
  pub begin : Begins law
  pub join : Joins
  pub short : (row : List ℕ) → stored_length row ≤ length row

pub go_laws : (law : Law) → DeskLaws law → GoLaws law
go_laws law laws = record { stay = laws.stay; go = laws.go; begin = laws.begin; join = laws.join; short = laws.short }

module _ (law : Law) (o : Start) where
  -- the same of the state from which the log of the table goes on
  pub from_here : (m : Log) (bs : List Block) (place : ℕ) (a b : List Step) → m.opened ≡ opened_at o → KeepsBlocks law.meets (state_at m []) bs place a b → KeepsBlocks law.meets (state_from (opened_at o)) bs place a b
  from_here m bs place a b opened keeps = subst (λ (x : world.Start). KeepsBlocks law.meets (state_from x) bs place a b) opened keeps

  -- at a moment since the desk was set up the disk held the log, and since then each image recovers to it
  pub held_since : (slots : Slots) (b : Book) (l : Log) (know : KnowsLog law b l) (start : b.start ≡ o) (blocks : List Block) (old mid new : List Step) → More old mid → HoldsLog law.meets l slots mid
      → KeepsBlocks law.meets (state_at l []) (l.gathered ++ blocks) l.flushed mid new → HeldSince law o l.gathered blocks old new
  held_since slots b l know start blocks old mid new on held keeps = record {
    mid = mid;
    moment = record { before = on.0; since = on.1; after = keeps.0.0; later = keeps.0.1 };
    held = (slots, plain_held law b l know o start slots mid held);
    keeps = subst (λ (at : ℕ). KeepsBlocks law.meets (state_from (opened_at o)) (l.gathered ++ blocks) at mid new) (known_place law b l know o start)
        (from_here l (l.gathered ++ blocks) l.flushed mid new (known_opened law b l know o start) keeps);
  }

module _ (law : Law) (laws : GoLaws law) (o : Start) (began : Option (List Step)) (faults : ℕ) where
  -- ANOTHER BOOK that knows the same of the log, but of its end and its pin; and nothing is done to the disk
  pub book_on : (slots : Slots) (l : Log) (tried : List Block) (s : Sees) (k : KeepsLog law o began faults slots l tried s) (m : Log) (e : Book) → KnowsLog law e m
      → m ≡ record l { tail = m.tail; pinned = m.pinned } → FlushSteps law s.book e → MayGather e.view → KeepsLog law o began faults slots m tried (record s { book = e })
  book_on slots l tried s k m e know same steps may =
      let gathered : m.gathered ≡ l.gathered = ap (λ (x : Log). x.gathered) same in
      record {
        lies = k.lies;
        start = steps_start law s.book e steps ∙ k.start;
        may = may;
        joins = steps_join law s.book e l.pinned m.pinned steps k.knows.end.pin know.end.pin k.joins;
        knows = know;
        knows_all = subst (λ (bs : List Block). KnowsBlocks law o e (bs ++ tried)) (sym gathered)
            (knows_after laws.stay law o s.book e (l.gathered ++ tried) (steps_go law s.book e steps) (steps_start law s.book e steps) k.knows_all);
        onward = k.onward;
        keeps = subst (λ (bs : List Block). IfSome s.told (λ now. IfSome began (λ old. KeepsFronts law o (bs ++ tried) old now))) (sym gathered) k.keeps;
        since = subst (λ (bs : List Block). IfSome s.told (λ now. IfSome began (λ old. HeldSince law o bs tried old now))) (sym gathered) k.since;
        did = subst (λ (bs : List Block). IfSome s.told (λ now. IfSome began (λ old. DidSince o (bs ++ tried) slots old now))) (sym gathered) k.did;
        holds = λ fine. (
          (k.holds fine).0,
          all_some (HoldsLog law.meets l slots) (HoldsLog law.meets m slots) s.told
              (λ now held. subst (λ (x : Log). HoldsLog law.meets x slots now) (sym same) (holds_other law.meets l m.tail m.pinned slots now held)) (k.holds fine).1,
        );
        sound = k.sound;
        rose = k.rose;
      }

  -- fronts of more blocks
  fronts_on : (bs more : List Block) (place : ℕ) (old mid new : List Step) → o.tail ≤ place → KeepsFronts law o (bs ++ []) old mid → KeepsBlocks law.meets (state_from (opened_at o)) (bs ++ more) place mid new
      → KeepsFronts law o (bs ++ more) old new
  fronts_on bs more place old mid new low x p =
      laws.go (state_from (opened_at o)) bs more o.tail place old mid new low (subst (λ (ys : List Block). KeepsFronts law o ys old mid) (append-nil bs) x) p

  -- WHAT WAS DONE TO THE DISK goes on
  module _ (slots : Slots) (l : Log) (s : Sees) (k : KeepsLog law o began faults slots l [] s) (fine : s.failed ≡ false) where
    behind_is : l.flushed ≡ o.tail + length (words_of l.gathered)
    behind_is =
        let end = words_end laws.short law.meets l k.knows.end.is_log in
        let to = known_flushed law s.book l k.knows in
        let at : l.opened.at ≡ o.tail = ap (λ (x : world.Start). x.at) (known_opened law s.book l k.knows o k.start) in
        omega (arith, end, to, at)

    -- blocks more were written
    pub does_more : (blocks : List Block) (after : Option (List Step)) → OnlyWrites l.flushed (words_of blocks) s.told after → Tells (DoesWith o (l.gathered ++ blocks) slots) s.told after
    does_more blocks after told =
        tells_map (HoldsLog law.meets l slots) (λ old new. (later : List Step) × (new ≡ later ++ old) × AllWriteWords l.flushed (words_of blocks) later) (DoesWith o (l.gathered ++ blocks) slots) s.told after
        (λ old new had w. flush_does o laws.join l.gathered blocks slots old new (w.0, w.1, subst (λ (at : ℕ). AllWriteWords at (words_of blocks) w.0) behind_is w.2)) (k.holds fine).1 told

    pub does_on : (m : Log) (blocks : List Block) (after : Option (List Step)) → m.gathered ≡ l.gathered ++ blocks → OnlyWrites l.flushed (words_of blocks) s.told after
        → Tells (DoesWith o m.gathered slots) s.told after
    does_on m blocks after more told = subst (λ (bs : List Block). Tells (DoesWith o bs slots) s.told after) (sym more) (does_more blocks after told)

    did_on : (bs : List Block) (old mid new : List Step) → DidSince o (l.gathered ++ []) slots old mid → DoesWith o (l.gathered ++ bs) slots mid new → DidSince o (l.gathered ++ bs) slots old new
    did_on bs old mid new (earlier, since) more =
        let known : DoesSince o l.gathered slots earlier old mid = subst (λ (xs : List Block). DoesSince o xs slots earlier old mid) (append-nil l.gathered) since in
        (earlier, since_on o (l.gathered ++ bs) slots earlier old mid new (since_more o laws.join l.gathered bs slots earlier old mid known) more)

    -- the slots are as before, or one was put there
    abbrev pub Next : Slots → Type 0
    Next later = (later ≡ slots) ⊎ ((slot : Slot) × (later ≡ put_slot slots slot))

    put_on : (later : Slots) → Next later → (bs : List Block) (old new : List Step) → DidSince o bs slots old new → DidSince o bs later old new
    put_on later (inl same) bs old new since = subst (λ (x : Slots). DidSince o bs x old new) (sym same) since
    put_on later (inr (slot, put)) bs old new (earlier, since) = subst (λ (x : Slots). DidSince o bs x old new) (sym put) (slots ∷ earlier, since_put o bs slots slot earlier old new since)

  module _ (slots : Slots) (l : Log) (s : Sees) (k : KeepsLog law o began faults slots l [] s) (fine : s.failed ≡ false) (t : Sees) (steps : FlushSteps law s.book t.book) (may : MayGather t.book.view) where
    started : t.book.start ≡ o
    started = steps_start law s.book t.book steps ∙ k.start

    abbrev Held : List Step → Type 0
    Held now = HoldsLog law.meets l slots now

    held : IfSome s.told Held
    held = (k.holds fine).1

    onward_by : (P : List Step → List Step → Type 0) → ((old new : List Step) → P old new → More old new) → Tells P s.told t.told → Tells More began t.told
    onward_by P on told = tells_join More P More began s.told t.told (λ x y z a p. more_both x y z a (on y z p)) k.onward told

    -- THE DISK GOES ON: it holds the log, of which blocks more may be flushed, from such slots
    pub goes_fine : (later : Slots) (m : Log) (know : KnowsLog law t.book m) (blocks : List Block) → m.gathered ≡ l.gathered ++ blocks → (place : ℕ) → o.tail ≤ place
        → Tells (KeepsBlocks law.meets (state_at m []) m.gathered place) s.told t.told → Next slots l s k fine later → Tells (DoesWith o m.gathered slots) s.told t.told
        → IfSome t.told (HoldsLog law.meets m later) → t.failed ≡ false → t.faults ≡ s.faults
        → KeepsLog law o began faults later m [] t
    goes_fine later m know blocks more place low told next does holds good same =
        let P : List Step → List Step → Type 0 = KeepsBlocks law.meets (state_at m []) m.gathered place in
        let onward = onward_by P (λ old new p. p.0) told in
        record {
          lies = k.lies;
          start = started;
          may = may;
          joins = steps_join law s.book t.book l.pinned m.pinned steps k.knows.end.pin know.end.pin k.joins;
          knows = know;
          knows_all = subst (KnowsBlocks law o t.book) (sym (append-nil m.gathered)) (known_all law t.book m know o started);
          onward = onward;
          keeps = since_then Held (KeepsFronts law o (l.gathered ++ [])) (KeepsFronts law o (m.gathered ++ [])) P began s.told t.told
              (λ old mid new had x p.
              subst (λ (bs : List Block). KeepsFronts law o bs old new) (sym more ∙ sym (append-nil m.gathered))
              (fronts_on l.gathered blocks place old mid new low x
              (subst (λ (bs : List Block). KeepsBlocks law.meets (state_from (opened_at o)) bs place mid new) more (from_here law o m m.gathered place mid new (known_opened law t.book m know o started) p))))
              held k.keeps told;
          did = since_then Held (DidSince o (l.gathered ++ []) slots) (DidSince o (m.gathered ++ []) later)
              (DoesWith o m.gathered slots) began s.told t.told
              (λ old mid new had x p.
              subst (λ (bs : List Block). DidSince o bs later old new) (sym more ∙ sym (append-nil m.gathered))
              (put_on slots l s k fine later next (l.gathered ++ blocks) old new (did_on slots l s k fine blocks old mid new x (subst (λ (bs : List Block). DoesWith o bs slots mid new) more p))))
              held k.did does;
          since = if_both (HoldsLog law.meets m later) (λ now. IfSome began (λ old. More old now)) (λ now. IfSome began (λ old. HeldSince law o m.gathered [] old now)) t.told
              (λ now had on. all_some (λ old. More old now) (λ old. HeldSince law o m.gathered [] old now) began
              (λ old more_steps. held_since law o later t.book m know started [] old now now more_steps had
              (subst (λ (bs : List Block). KeepsBlocks law.meets (state_at m []) bs m.flushed now now) (sym (append-nil m.gathered)) (held_now law laws.begin m later now had))) on)
              holds (tells_since More began t.told onward);
          holds = λ _. (refl, holds);
          sound = λ _. same ∙ k.sound fine;
          rose = λ failed. absurd (cc);
        }

    -- THE DISK FAILED: the log is flushed as far as before, and blocks behind it may be there
    pub goes_failed : (know : KnowsLog law t.book l) (blocks : List Block) → KnowsBlocks law o t.book (l.gathered ++ blocks)
        → Tells (KeepsBlocks law.meets (state_at l []) (l.gathered ++ blocks) l.flushed) s.told t.told → Tells (DoesWith o (l.gathered ++ blocks) slots) s.told t.told → t.failed ≡ true → Rose s.faults t.faults → KeepsLog law o began faults slots l blocks t
    goes_failed know blocks knows_all told does bad rose =
        let P : List Step → List Step → Type 0 = KeepsBlocks law.meets (state_at l []) (l.gathered ++ blocks) l.flushed in
        let opened = known_opened law t.book l know o started in
        let up = place_rises o.tail l.gathered in
        let at = known_place law t.book l know o started in
        record {
          lies = k.lies;
          start = started;
          may = may;
          joins = steps_join law s.book t.book l.pinned l.pinned steps k.knows.end.pin know.end.pin k.joins;
          knows = know;
          knows_all = knows_all;
          onward = onward_by P (λ old new p. p.0) told;
          keeps = since_then Held (KeepsFronts law o (l.gathered ++ [])) (KeepsFronts law o (l.gathered ++ blocks)) P began s.told t.told
              (λ old mid new had x p. fronts_on l.gathered blocks l.flushed old mid new (omega (arith, up, at)) x (from_here law o l (l.gathered ++ blocks) l.flushed mid new opened p))
              held k.keeps told;
          did = since_then Held (DidSince o (l.gathered ++ []) slots) (DidSince o (l.gathered ++ blocks) slots)
              (DoesWith o (l.gathered ++ blocks) slots) began s.told t.told (λ old mid new had x p. did_on slots l s k fine blocks old mid new x p) held k.did does;
          since = since_then Held More (HeldSince law o l.gathered blocks) P began s.told t.told
              (λ old mid new had on p. held_since law o slots t.book l know started blocks old mid new on had p) held (tells_since More began s.told k.onward) told;
          holds = λ good. absurd (cc);
          sound = λ good. absurd (cc);
          rose = λ _. subst (λ (n : ℕ). Rose n t.faults) (k.sound fine) rose;
        }
