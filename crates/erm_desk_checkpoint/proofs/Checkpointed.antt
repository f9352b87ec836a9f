-- A checkpoint turn of a desk: from the pin to its end.
use Rattle.std.proofs.Common.{◌≡◌, ℕ, ◌<◌, ◌≤◌, false, List, [], Option, Some, None, Result, Ok, Err, inl, inr, refl, sym, ap, ◌∙◌, subst, arith}
use Rattle.erm_block.specs.declared.block.Block.{Block}
use Rattle.erm_checkpoint.specs.declared.stops.CheckpointStop.{CheckpointStop}
use Rattle.erm_checkpoint.specs.declared.stops.CheckpointStop.TheVariants as why
use Rattle.erm_checkpoint.specs.Below.{IsSlotAt}
use Rattle.erm_ckpt.specs.declared.slot.Slot.{Slot}
use Rattle.erm_ckpt.specs.declared.slot.Slots.{Slots}
use Rattle.erm_ckpt.specs.declared.slot.TheConstants.{LOG_START}
use Rattle.erm_ckpt.specs.Slots.{next_first, put_slot}
use Rattle.erm_desk.specs.Desk.{Sees}
use Rattle.erm_desk.specs.Known.{HasPin, KnowsBlocks, KnowsLog, ended_log, opened_at}
use Rattle.erm_desk.specs.Turns.{DidPin, EndsPin}
use Rattle.erm_desk.proofs.PinKept.{may_same, pin_ended}
use Rattle.erm_desk.proofs.Pins.{pinned_at, unpinned_at}
use Rattle.erm_desk.proofs.Stepped.{steps_both}
use Rattle.erm_machine.specs.declared.limits.TheConstants.{FLUSH_SEAT}
use Rattle.erm_model.specs.RowTransaction.{Law}
use Rattle.erm_model.specs.declared.limits.TheConstants.{LOG_END}
use Rattle.erm_outside.specs.Disk.{Step}
use Rattle.erm_pin.specs.Pins.{IsUnpinned, unpinned_part}
use Rattle.erm_ring.specs.Turns.{MayGather}
use Rattle.erm_rule.specs.declared.view.Book.{Book}
use Rattle.erm_rule.specs.declared.view.Start.{Start}
use Rattle.erm_rule.specs.Views.{part_of}
use Rattle.erm_seats.specs.Calls.{DidBegin, begun_part}
use Rattle.erm_world.specs.Log.{Log}
use Rattle.erm_world.specs.Log as world
use Rattle.erm_desk_checkpoint.specs.Checkpoints.{Checkpoints, CheckpointsTo, FlushesAndSaves, slot_of}
use Rattle.erm_desk_checkpoint.specs.Kept.{IsKept, KeepsLog}
use Rattle.erm_desk_checkpoint.specs.Turns.{HoldsKnown, MayFlushPast}
use Rattle.erm_desk_checkpoint.proofs.Keeping.{GoLaws, book_on}
use Rattle.erm_desk_checkpoint.proofs.Logs.{known_flushed, known_opened}
use Rattle.erm_desk_checkpoint.proofs.Saved.{Below, Left, all_done, pin_there, stopped}
use Rattle.erm_desk_checkpoint.proofs.Steps.{end_steps, pin_steps}

none_failed : (law : Law) (slots : Slots) (slot : Slot) (l : Log) (s t : Sees) → FlushesAndSaves law slots slot (Err why.Failed) l s t → ⊥
none_failed law slots slot l s t (inl none) = none
none_failed law slots slot l s t (inr (m, mid, on, held, save)) = save.saves

-- what such a turn answers where it stopped
stops_to : (law : Law) (o : Start) (slots : Slots) (place : ℕ) (stop : CheckpointStop) (s t : Sees) → s.failed ≡ false → Checkpoints law o slots place (Err stop) s t → CheckpointsTo law o slots (Err stop) s t
stops_to law o slots place (why.Unfilled at) s t fine did = (fine, (place, did))
stops_to law o slots place (why.NotYet seat seen) s t fine did = (fine, (place, did))
stops_to law o slots place why.DiskFault s t fine did = (fine, (place, did))
stops_to law o slots place why.Failed s t fine did = absurd (none_failed law slots (slot_of o place slots) _ _ _ did.saves)

module _
    (law : Law) (laws : GoLaws law) (below : Below law) (o : Start) (began : Option (List Step)) (faults : ℕ) (slots : Slots) (s : Sees) (kept : IsKept law o began faults slots s) (fine : s.failed ≡ false)
    (b : Book) (place : ℕ) (pins : DidPin law s.book place b) (begun : DidBegin s.book.view FLUSH_SEAT place b.view) where
  -- THE PIN
  abbrev l : Log
  l = kept.0

  k : KeepsLog law o began faults slots l [] s
  k = subst (λ (bs : List Block). KeepsLog law o began faults slots l bs s) (kept.2.holds fine).0 kept.2

  pub may : MayGather b.view
  may = may_same s.book.view b.view (begun_part FLUSH_SEAT begun.announced place (part_of s.book.view FLUSH_SEAT)) begun.view_is refl k.may

  abbrev pub pinned_log : Log
  pinned_log = ended_log l place (Some place)

  abbrev pub pinned_desk : Sees
  pinned_desk = record s { book = b }

  known_pinned : (l.tail ≤ place) × KnowsLog law b pinned_log
  known_pinned = pinned_at laws.stay law s.book b l k.knows place pins

  kept_pinned : KeepsLog law o began faults slots pinned_log [] pinned_desk
  kept_pinned = book_on law laws o began faults slots l [] s k pinned_log b known_pinned.1 refl (pin_steps law s.book b place pins) may

  opened : l.opened ≡ opened_at o
  opened = known_opened law s.book l k.knows o k.start

  may_flush : MayFlushPast place pinned_log
  may_flush =
      let at = known_flushed law s.book l k.knows in
      let within = k.knows.end.is_log.within in
      let up = known_pinned.0 in
      record {
        behind = subst (λ (x : world.Start). LOG_START < x.at) (sym opened) k.lies.behind;
        pinned = refl;
        low = omega (arith, at, within, up);
      }

  held_log : HoldsKnown law slots pinned_log pinned_desk
  held_log = record { knows = known_pinned.1; may = may; fine = fine; holds = (kept_pinned.holds fine).1 }

  pub held_pinned : (m : Log) × HoldsKnown law slots m pinned_desk × MayFlushPast place m
  held_pinned = (pinned_log, held_log, may_flush)

  -- WHAT WAS DONE THEN, with this slot
  module _ (slot : Slot) (stamp : slot.stamp ≡ place) (run : slot.run ≡ o.run) (first : slot.first ≡ next_first slots) (answer : Result Unit CheckpointStop) (last : Sees)
      (saves : (m : Log) → HoldsKnown law slots m pinned_desk → MayFlushPast slot.stamp m → IsSlotAt m slots slot → FlushesAndSaves law slots slot answer m pinned_desk last) where
    slot_is : slot ≡ slot_of o place slots
    slot_is =
        ap (λ (n : ℕ). let x : Slot = record { stamp = n; run = slot.run; first = slot.first } in x) stamp ∙ ap (λ (n : ℕ). let x : Slot = record { stamp = place; run = n; first = slot.first } in x) run
        ∙ ap (λ (n : ℕ). let x : Slot = record { stamp = place; run = o.run; first = n } in x) first

    of_slot : IsSlotAt pinned_log slots slot
    of_slot = subst (IsSlotAt pinned_log slots) (sym slot_is)
        (record {
          begin = may_flush.behind;
          high = subst (λ (x : world.Start). x.at ≤ LOG_END) (sym opened) k.lies.high;
          run = sym (ap (λ (x : world.Start). x.run) opened);
          run_low = k.lies.run_low;
          run_high = k.lies.run_high;
          first = refl;
          pinned = refl;
        })

    did_save : FlushesAndSaves law slots (slot_of o place slots) answer pinned_log pinned_desk last
    did_save = subst (λ (x : Slot). FlushesAndSaves law slots x answer pinned_log pinned_desk last) slot_is
        (saves pinned_log held_log (subst (λ (n : ℕ). MayFlushPast n pinned_log) (sym stamp) may_flush) of_slot)

    pub still_pinned : HasPin last.book.view (Some place)
    still_pinned = pin_there law slots (slot_of o place slots) answer pinned_log pinned_desk last place refl did_save

  -- THE PIN'S END
  pub record Turned (later : Slots) (answer : Result Unit CheckpointStop) (t : Sees) : Type 0 where
    pub still : IsKept law o began faults later t
    pub unpinned : IsUnpinned t.book.view
    pub did : Checkpoints law o slots place answer s t

  module _ (last : Sees) (between : MayGather last.book.view) (e : Book) (ends : EndsPin law last.book e) where
    ended : (later : Slots) (answer : Result Unit CheckpointStop) → FlushesAndSaves law slots (slot_of o place slots) answer pinned_log pinned_desk last
        → Left law laws below o began faults slots pinned_log pinned_desk kept_pinned fine (slot_of o place slots) later last → Turned later answer (record last { book = e })
    ended later answer saves left =
        let steps = end_steps law last.book e ends in
        let gathers = may_same last.book.view e.view (unpinned_part (part_of last.book.view FLUSH_SEAT)) ends.unpins.view_is refl between in
        let know : KnowsLog law e (record left.log { pinned = None }) = unpinned_at laws.stay law last.book e left.log left.kept.knows ends in
        let all = book_on law laws o began faults later left.log left.tried last left.kept (record left.log { pinned = None }) e know refl steps gathers in
        record {
          still = (record left.log { pinned = None }, left.tried, all);
          unpinned = pin_ended last.book e left.log.pinned ends.unpins left.kept.knows.end.pin;
          did = record {
            pinned = b;
            pins = pins;
            log = l;
            low = known_pinned.0;
            last = last;
            saves = saves;
            ends = ends;
            same = refl;
            keeps = record { knew = k.knows; blocks = left.blocks; knows = subst (KnowsBlocks law o e) left.all all.knows_all; keeps = left.keeps };
            steps = steps_both law s.book b e (pin_steps law s.book b place pins) (steps_both law b last.book e left.steps steps);
          };
        }

    module _ (slot : Slot) (stamp : slot.stamp ≡ place) (run : slot.run ≡ o.run) (first : slot.first ≡ next_first slots) where
      abbrev Saves : Result Unit CheckpointStop → Type 0
      Saves answer = (m : Log) → HoldsKnown law slots m pinned_desk → MayFlushPast slot.stamp m → IsSlotAt m slots slot → FlushesAndSaves law slots slot answer m pinned_desk last

      pub turn_ok : (x : Unit) → Saves (Ok x) → Turned (put_slot slots slot) (Ok x) (record last { book = e })
      turn_ok x saves =
          let did = did_save slot stamp run first (Ok x) last saves in
          subst (λ (y : Slot). Turned (put_slot slots y) (Ok x) (record last { book = e })) (sym (slot_is slot stamp run first (Ok x) last saves))
          (ended (put_slot slots (slot_of o place slots)) (Ok x) did (all_done law laws below o began faults slots pinned_log pinned_desk kept_pinned fine (slot_of o place slots) x last between did))

      pub turn_err : (stop : CheckpointStop) → Saves (Err stop) → Turned slots (Err stop) (record last { book = e }) × CheckpointsTo law o slots (Err stop) s (record last { book = e })
      turn_err stop saves =
          let did = did_save slot stamp run first (Err stop) last saves in
          let turned = ended slots (Err stop) did (stopped law laws below o began faults slots pinned_log pinned_desk kept_pinned fine (slot_of o place slots) stop last between did) in
          (turned, stops_to law o slots place stop s (record last { book = e }) fine turned.did)
