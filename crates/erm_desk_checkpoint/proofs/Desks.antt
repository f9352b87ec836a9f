-- A desk that takes checkpoints might be set up as a desk at each moment at which it hasn't failed, and its turns answer as a desk's.
use Rattle.std.proofs.Common.{◌≡◌, ℕ, ◌^◌, ◌<◌, ◌≤◌, false, List, [], ◌++◌, Option, None, IfSome, Result, Ok, Err, inl, refl, sym, ap, ◌∙◌, subst, append-nil, arith}
use Rattle.erm_block.specs.declared.block.Block.{Block}
use Rattle.erm_checkpoint.specs.Taken.{HoldsLog, state_at}
use Rattle.erm_ckpt.specs.declared.slot.Slots.{Slots}
use Rattle.erm_ckpt.specs.declared.slot.TheConstants.{LOG_START}
use Rattle.erm_crash.specs.Kept.{KeepsBlocks}
use Rattle.erm_crash.proofs.Moments.{stopped_lower, weaker}
use Rattle.erm_core_turns.proofs.Blocks.{flushed_upto}
use Rattle.erm_desk.specs.Desk.{HeldSince, IsDesk, IsHeld, KeepsFronts, MeetsMore, Sees, TurnsTo, WritesSince}
use Rattle.erm_desk.specs.Known.{IsFlushedTo, KnowsBlocks, KnowsEnd, KnowsLog, ended_log, flushed_log, opened_at}
use Rattle.erm_desk.specs.Turns.{FlushSteps}
use Rattle.erm_desk.proofs.Since.{Begins}
use Rattle.erm_desk.proofs.Turned.{DeskLaws, all_some, knows_now, log_now, pin_turned, place_rises, ready_now, turned}
use Rattle.erm_flush.specs.declared.stops.FlushStop.{FlushStop}
use Rattle.erm_flush.specs.declared.stops.FlushStop.TheVariants as stop
use Rattle.erm_gathered.proofs.Lasting.{has_none}
use Rattle.erm_model.specs.RowTransaction.{Law}
use Rattle.erm_outside.specs.Disk.{Step, Tells}
use Rattle.erm_pin.specs.Pins.{IsUnpinned}
use Rattle.erm_ring.specs.Turns.{MayGather}
use Rattle.erm_rule.specs.declared.view.Book.{Book}
use Rattle.erm_rule.specs.declared.view.Start.{Start}
use Rattle.erm_rule.specs.Views.{MayJoin}
use Rattle.erm_world.specs.Log.{IsLog, Log, place_behind}
use Rattle.erm_world.specs.Log as world
use Rattle.erm_desk_checkpoint.specs.Does.{DidSince}
use Rattle.erm_desk_checkpoint.specs.Kept.{IsKept, KeepsLog, MayLie, sees_of}
use Rattle.erm_desk_checkpoint.specs.Turns.{HoldsKnown, MayTurn}
use Rattle.erm_desk_checkpoint.proofs.Flushed.{failed_on, flushed_on, held_now, held_on, still_held, still_on}
use Rattle.erm_desk_checkpoint.proofs.Doing.{nothing_does}
use Rattle.erm_desk_checkpoint.proofs.Keeping.{More, does_more, does_on, from_here, go_laws, goes_failed, goes_fine, held_since}
use Rattle.erm_desk_checkpoint.proofs.Logs.{known_all, known_blocks, known_is, known_opened, known_place, plain_held, state_from}
use Rattle.erm_desk_checkpoint.proofs.Meeting.{meets_here}
use Rattle.erm_desk_checkpoint.proofs.Steps.{steps_start}
use Rattle.erm_desk_checkpoint.proofs.Telling.{tells_here, tells_since}
use Rattle.erm_desk_checkpoint.proofs.Turning.{Turns, ready_held, steps_of}

-- THE DESK that it is
module _ (law : Law) (begins : Begins law) (o : Start) (began : Option (List Step)) (faults : ℕ) (slots : Slots) where
  module _ (l : Log) (s : Sees) (k : KeepsLog law o began faults slots l [] s) (fine : s.failed ≡ false) where
    abbrev Held : List Step → Type 0
    Held now = HoldsLog law.meets l slots now

    held : IfSome s.told Held
    held = (k.holds fine).1

    no_more : (bs : List Block) → bs ≡ bs ++ []
    no_more bs = sym (append-nil bs)

    fronts_here : (now : List Step) → Held now → KeepsFronts law o (l.gathered ++ []) now now
    fronts_here now had =
        let up = place_rises o.tail l.gathered in
        let at = known_place law s.book l k.knows o k.start in
        let from = state_from (opened_at o) in
        subst (λ (bs : List Block). KeepsFronts law o bs now now) (no_more l.gathered)
        (weaker _ _ now now (λ moment image keeps tears. stopped_lower law.meets from l.gathered o.tail l.flushed moment image (omega (arith, up, at)) (keeps tears))
        (from_here law o l l.gathered l.flushed now now (known_opened law s.book l k.knows o k.start) (held_now law begins l slots now had)))

    since_here : (now : List Step) → Held now → HeldSince law o l.gathered [] now now
    since_here now had =
        held_since law o slots s.book l k.knows k.start [] now now now ([], refl) had
        (subst (λ (bs : List Block). KeepsBlocks law.meets (state_at l []) bs l.flushed now now) (no_more l.gathered) (held_now law begins l slots now had))

    met_here : (now : List Step) → Held now → MeetsMore law o l.gathered now now
    met_here now had = meets_here law o l.gathered (known_all law s.book l k.knows o k.start).log slots now (plain_held law s.book l k.knows o k.start slots now had)

    -- as one that is set up now
    pub as_desk : IsDesk law o s.told faults s
    as_desk = record {
      behind = k.lies.behind;
      may = k.may;
      joins = k.joins;
      blocks = l.gathered;
      knows = known_all law s.book l k.knows o k.start;
      flushed = subst (λ (bs : List Block). IsFlushedTo s.book (place_behind o.tail bs)) (known_blocks law s.book l k.knows)
          (subst (λ (x : Start). IsFlushedTo s.book (place_behind x.tail k.knows.blocks)) k.start k.knows.flushed);
      tail = l.tail;
      pin = l.pinned;
      end = subst (KnowsEnd law s.book)
          (known_is law s.book l k.knows o k.start ∙ ap (λ (bs : List Block). ended_log (flushed_log o bs) l.tail l.pinned) (known_blocks law s.book l k.knows)) k.knows.end;
      tried = [];
      knows_all = k.knows_all;
      keeps = tells_since (KeepsFronts law o (l.gathered ++ [])) s.told s.told (tells_here Held (KeepsFronts law o (l.gathered ++ [])) s.told fronts_here held);
      writes = tells_since (WritesSince o (l.gathered ++ [])) s.told s.told (tells_here Held (WritesSince o (l.gathered ++ [])) s.told (λ now had. ([], refl, tt)) held);
      onward = tells_here Held More s.told (λ now had. ([], refl)) held;
      since = tells_since (HeldSince law o l.gathered []) s.told s.told (tells_here Held (HeldSince law o l.gathered []) s.told since_here held);
      holds = λ _. (refl, all_some Held (IsHeld law o l.gathered) s.told (λ now had. (slots, plain_held law s.book l k.knows o k.start slots now had)) held);
      meets = λ _. tells_since (MeetsMore law o l.gathered) s.told s.told (tells_here Held (MeetsMore law o l.gathered) s.told met_here held);
      sound = k.sound;
      rose = k.rose;
    }

  pub kept_desk : (s : Sees) → IsKept law o began faults slots s → s.failed ≡ false → IsDesk law o s.told faults s
  kept_desk s (l, tried, k) fine = as_desk l s (subst (λ (bs : List Block). KeepsLog law o began faults slots l bs s) (k.holds fine).0 k) fine

module _ (law : Law) (laws : DeskLaws law) (o : Start) (began : Option (List Step)) (faults : ℕ) (slots : Slots) where
  module _ (l : Log) (s : Sees) (k : KeepsLog law o began faults slots l [] s) (fine : s.failed ≡ false) where
    abbrev desk : IsDesk law o s.told faults s
    desk = as_desk law laws.begin o began faults slots l s k fine

    pub knows_held : HoldsKnown law slots l s
    knows_held = record { knows = k.knows; may = k.may; fine = fine; holds = (k.holds fine).1 }

    begins : LOG_START < l.opened.at
    begins = subst (λ (x : world.Start). LOG_START < x.at) (sym (known_opened law s.book l k.knows o k.start)) k.lies.behind

    low : o.tail ≤ l.flushed
    low = let up = place_rises o.tail l.gathered in let at = known_place law s.book l k.knows o k.start in omega (arith, up, at)

    -- a turn that gathered nothing
    unmoved : (t : Sees) (know : KnowsLog law t.book l) → t.told ≡ s.told → t.faults ≡ s.faults → t.failed ≡ false → MayGather t.book.view → FlushSteps law s.book t.book → IsKept law o began faults slots t
    unmoved t know told same good may steps =
        let on = still_on law laws slots l s t knows_held know told same steps in
        let now = still_held law laws slots l s t knows_held know told good may in (
          l,
          [],
          goes_fine law (go_laws law laws) o began faults slots l s k fine t steps may slots l know on.blocks on.more l.flushed low on.keeps (inl refl)
              (does_on law (go_laws law laws) o began faults slots l s k fine l on.blocks t.told on.more on.writes) now.holds good same,
        )

    -- WHAT A TURN LEAVES
    pub left : (answer : Result ℕ FlushStop) (t : Sees) → Turns law answer s t → IsKept law o began faults slots t
    left (Ok end) t turn =
        let (m, know, did) = turn.known l k.knows (ready_held law slots l s knows_held) in
        let steps = steps_of law (Ok end) s t turn in
        let on = flushed_on law laws slots l s t knows_held begins end m know did turn.counts steps in
        let now = held_on law laws slots l s t knows_held begins end m know did turn.did.1 turn.may in (
          m,
          [],
          goes_fine law (go_laws law laws) o began faults slots l s k fine t steps turn.may slots m know on.blocks on.more l.flushed low on.keeps (inl refl)
              (does_on law (go_laws law laws) o began faults slots l s k fine m on.blocks t.told on.more on.writes) now.holds turn.did.1 turn.counts,
        )
    left (Err (stop.Empty at)) t turn =
        let known = turn.known l k.knows (ready_held law slots l s knows_held) in
        unmoved t known.1 known.3 turn.counts turn.did.1 turn.may (steps_of law (Err (stop.Empty at)) s t turn)
    left (Err (stop.Unfilled at)) t turn =
        let known = turn.known l k.knows (ready_held law slots l s knows_held) in
        unmoved t known.1 known.3 turn.counts turn.did.1 turn.may (steps_of law (Err (stop.Unfilled at)) s t turn)
    left (Err stop.DiskFault) t turn =
        let (n, awaits, tries) = turn.known l k.knows (ready_held law slots l s knows_held) in
        let did = turn.did.2 in
        let steps = steps_of law (Err stop.DiskFault) s t turn in
        let fails = failed_on law laws slots l s t knows_held begins did.0 did.1 did.2 n awaits tries turn.did.1 turn.counts steps in
        let start = steps_start law s.book t.book steps ∙ k.start in (
          l,
          fails.blocks,
          goes_failed law (go_laws law laws) o began faults slots l s k fine t steps turn.may fails.knows fails.blocks
              (subst (λ (x : Start). KnowsBlocks law x t.book (l.gathered ++ fails.blocks)) start fails.knows_all) fails.keeps
              (does_more law (go_laws law laws) o began faults slots l s k fine fails.blocks t.told fails.writes) fails.failed fails.rose,
        )
    left (Err stop.Failed) t turn = let was = turn.did.0 in absurd (cc)

    -- and what it answers
    pub answered : (answer : Result ℕ FlushStop) (t : Sees) → Turns law answer s t → TurnsTo law o answer s t
    answered answer t turn =
        (turned law laws o s.told faults s desk answer t.book t.told t.faults t.failed turn.did turn.counts
        (turn.known (log_now law o s.told faults s desk) (knows_now law o s.told faults s desk) (ready_now law o s.told faults s desk))).1

  -- A TURN
  pub record Turned (answer : Result ℕ FlushStop) (s t : Sees) : Type 0 where
    pub kept : IsKept law o began faults slots t
    pub turns : TurnsTo law o answer s t
    pub steps : FlushSteps law s.book t.book
    pub unpinned : IsUnpinned t.book.view
    pub known : s.failed ≡ false → (l : Log) × MayTurn law o slots l s

  at_failed : (s t : Sees) → IsKept law o began faults slots s → IsUnpinned s.book.view → Turns law (Err stop.Failed) s t → Turned (Err stop.Failed) s t
  at_failed s t k idle turn =
      let did = turn.did in
      let is : s ≡ t =
      ap (λ (b : Book). sees_of b s.told s.faults s.failed) (sym did.2) ∙ ap (λ (x : Option (List Step)). sees_of t.book x s.faults s.failed) (sym did.3)
      ∙ ap (λ (n : ℕ). sees_of t.book t.told n s.failed) (sym turn.counts) ∙ ap (sees_of t.book t.told t.faults) (did.0 ∙ sym did.1)
      in
      record {
        kept = subst (IsKept law o began faults slots) is k;
        turns = (did.0, sym is);
        steps = steps_of law (Err stop.Failed) s t turn;
        unpinned = subst (λ (x : Sees). IsUnpinned x.book.view) is idle;
        known = λ fine. let was = did.0 in absurd (cc);
      }

  at_fine : (answer : Result ℕ FlushStop) (s t : Sees) → IsKept law o began faults slots s → IsUnpinned s.book.view → s.failed ≡ false → Turns law answer s t → Turned answer s t
  at_fine answer s t (l, tried, k) idle fine turn =
      let own : KeepsLog law o began faults slots l [] s = subst (λ (bs : List Block). KeepsLog law o began faults slots l bs s) (k.holds fine).0 k in
      record {
        kept = left l s own fine answer t turn;
        turns = answered l s own fine answer t turn;
        steps = steps_of law answer s t turn;
        unpinned = pin_turned law laws o s.told faults s (desk l s own fine) answer t.book t.told t.failed turn.did None idle;
        known = λ _. (l, record { start = k.start; behind = begins l s own fine; holds = knows_held l s own fine });
      }

  pub turn_kept : (answer : Result ℕ FlushStop) (s t : Sees) → IsKept law o began faults slots s → IsUnpinned s.book.view → Turns law answer s t → Turned answer s t
  turn_kept (Ok end) s t k idle turn = at_fine (Ok end) s t k idle turn.did.0 turn
  turn_kept (Err (stop.Empty at)) s t k idle turn = at_fine (Err (stop.Empty at)) s t k idle turn.did.0 turn
  turn_kept (Err (stop.Unfilled at)) s t k idle turn = at_fine (Err (stop.Unfilled at)) s t k idle turn.did.0 turn
  turn_kept (Err stop.DiskFault) s t k idle turn = at_fine (Err stop.DiskFault) s t k idle turn.did.0 turn
  turn_kept (Err stop.Failed) s t k idle turn = at_failed s t k idle turn

-- ONE THAT WAS JUST SET UP
module _ (law : Law) (begins : Begins law) (o : Start) (began : Option (List Step)) (faults : ℕ) (slots : Slots) where
  pub begun : (b : Book) (told : Option (List Step)) → MayLie o → MayGather b.view → MayJoin b.view → b.start ≡ o → IsFlushedTo b o.tail → IsUnpinned b.view → law.meets (opened_at o).rows
      → told ≡ began → IfSome told (HoldsLog law.meets (flushed_log o []) slots) → IsKept law o began faults slots (sees_of b told faults false)
  begun b told lies may joins start flushed idle meets same held =
      let log : Log = flushed_log o [] in
      let high : o.tail ≤ 2 ^ 61 = lies.high in
      let is : IsLog law.meets log = record {
        opening = meets;
        chain = tt;
        one_run = λ k d within. absurd (omega (arith, within));
        flushed = record { front = []; rest = []; split = refl; behind = refl };
        within = omega arith;
        places = omega (arith, high);
        decided = λ place below. refl;
        pinned = tt;
      } in
      let blocks : KnowsBlocks law o b [] = record { start = start; log = is; whole = λ c is. has_none o.tail c } in
      let knows : KnowsLog law b log = record {
        blocks = [];
        is = ap (λ (x : Start). ended_log (flushed_log x []) o.tail None) (sym start);
        knows = subst (λ (x : Start). KnowsBlocks law x b []) (sym start) blocks;
        flushed = subst (λ (x : Start). IsFlushedTo b x.tail) (sym start) flushed;
        end = record {
          is_log = is;
          pin = idle;
          ended = λ c is. let within = (flushed_upto c is.sound).within in let at = flushed c is in omega (arith, within, at);
        };
      } in
      let H : List Step → Type 0 = HoldsLog law.meets log slots in
      let fronts : (now : List Step) → H now → KeepsFronts law o [] now now = λ now had. held_now law begins log slots now had in
      let onward : Tells More told told = tells_here H More told (λ now had. ([], refl)) held in
      let keeps = tells_since (KeepsFronts law o []) told told (tells_here H (KeepsFronts law o []) told fronts held) in
      let since = tells_since (HeldSince law o [] []) told told (tells_here H (HeldSince law o [] []) told
      (λ now had. held_since law o slots b log knows start [] now now now ([], refl) had (held_now law begins log slots now had)) held) in
      let did = tells_since (DidSince o [] slots) told told (tells_here H (DidSince o [] slots) told (λ now had. ([], nothing_does o [] slots now)) held) in (
        log,
        [],
        record {
          lies = lies;
          start = start;
          may = may;
          joins = joins;
          knows = knows;
          knows_all = blocks;
          onward = subst (λ (x : Option (List Step)). Tells More x told) same onward;
          keeps = subst (λ (x : Option (List Step)). IfSome told (λ now. IfSome x (λ old. KeepsFronts law o [] old now))) same keeps;
          since = subst (λ (x : Option (List Step)). IfSome told (λ now. IfSome x (λ old. HeldSince law o [] [] old now))) same since;
          did = subst (λ (x : Option (List Step)). IfSome told (λ now. IfSome x (λ old. DidSince o [] slots old now))) same did;
          holds = λ _. (refl, held);
          sound = λ _. refl;
          rose = λ failed. absurd (cc);
        },
      )
