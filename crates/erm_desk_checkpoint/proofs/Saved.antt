-- A checkpoint turn: what it leaves of a desk, and what it answers.
use Rattle.std.proofs.Common.{◌≡◌, ℕ, ◌<◌, ◌≤◌, false, List, [], ◌++◌, Option, Some, IfSome, Result, Ok, Err, inl, inr, refl, sym, ap, ◌∙◌, subst, append-nil, append_assoc, arith}
use Rattle.erm_block.specs.declared.block.Block.{Block}
use Rattle.erm_checkpoint.specs.declared.stops.CheckpointStop.{CheckpointStop}
use Rattle.erm_checkpoint.specs.declared.stops.CheckpointStop.TheVariants as why
use Rattle.erm_checkpoint.specs.Below.{IsSlotAt}
use Rattle.erm_checkpoint.specs.Taken.{HoldsLog, HoldsLogFrom, SavedLogPast, SavesLogPast, state_at}
use Rattle.erm_ckpt.specs.declared.slot.Slot.{Slot}
use Rattle.erm_ckpt.specs.declared.slot.Slots.{Slots}
use Rattle.erm_ckpt.specs.declared.slot.TheConstants.{LOG_START}
use Rattle.erm_ckpt.specs.Slots.{put_slot}
use Rattle.erm_crash.specs.Kept.{KeepsBlocks}
use Rattle.erm_desk.specs.Desk.{Sees}
use Rattle.erm_desk.specs.Known.{HasPin, KnowsBlocks, KnowsLog}
use Rattle.erm_desk.specs.Turns.{FlushSteps}
use Rattle.erm_desk.proofs.Stepped.{steps_both}
use Rattle.erm_desk.proofs.Turned.{all_some, place_rises}
use Rattle.erm_model.specs.RowTransaction.{Law}
use Rattle.erm_model.specs.declared.limits.TheConstants.{LOG_END}
use Rattle.erm_outside.specs.Disk.{Step, Tells}
use Rattle.erm_ring.specs.Turns.{MayGather}
use Rattle.erm_rule.specs.declared.view.Book.{Book}
use Rattle.erm_rule.specs.declared.view.Start.{Start}
use Rattle.erm_world.specs.Log.{Log, gathered_to}
use Rattle.erm_world.specs.Log as world
use Rattle.erm_desk_checkpoint.specs.Checkpoints.{FlushesAndSaves, SavesBehind, SavesOn}
use Rattle.erm_desk_checkpoint.specs.Does.{DoesWith}
use Rattle.erm_desk_checkpoint.specs.Kept.{KeepsLog}
use Rattle.erm_desk_checkpoint.specs.Turns.{FailsOn, FlushesOn, HoldsKnown}
use Rattle.erm_desk_checkpoint.proofs.Doing.{saved_does, saves_does}
use Rattle.erm_desk_checkpoint.proofs.Keeping.{GoLaws, does_more, does_on, goes_failed, goes_fine}
use Rattle.erm_desk_checkpoint.proofs.Logs.{known_all, known_place, state_from}
use Rattle.erm_desk_checkpoint.proofs.Steps.{steps_start}
use Rattle.erm_desk_checkpoint.proofs.Telling.{tells_join, tells_map}

-- what the crate below says of a save below the place flushed
abbrev pub Below : Law → Type 0
Below law = (log : Log) (slots : Slots) (slot : Slot) (place : ℕ) (old new : List Step) → place ≤ log.flushed → SavesLogPast law.meets log slots slot old new
    → KeepsBlocks law.meets (state_at log []) log.gathered place old new

-- where turns and a save stopped, or didn't
pub behind_all : (law : Law) (slots : Slots) (slot : Slot) (answer : Result Unit CheckpointStop) (l : Log) (s t : Sees) → SavesBehind law slots slot answer l s t
    → FlushesAndSaves law slots slot answer l s t
behind_all law slots slot (Ok x) l s t did = did
behind_all law slots slot (Err stop) l s t did = inr did

-- the log is pinned there still
pin_of : (law : Law) (b : Book) (l : Log) (place : ℕ) → KnowsLog law b l → l.pinned ≡ Some place → HasPin b.view (Some place)
pin_of law b l place know pin = subst (HasPin b.view) pin know.end.pin

save_pin : (law : Law) (slots : Slots) (slot : Slot) (answer : Result Unit CheckpointStop) (l : Log) (s t : Sees) (place : ℕ) → l.pinned ≡ Some place → SavesBehind law slots slot answer l s t
    → HasPin t.book.view (Some place)
save_pin law slots slot answer l s t place pin (m, mid, on, held, save) = pin_of law t.book m place save.knows (on.pinned ∙ pin)

pub pin_there : (law : Law) (slots : Slots) (slot : Slot) (answer : Result Unit CheckpointStop) (l : Log) (s t : Sees) (place : ℕ) → l.pinned ≡ Some place → FlushesAndSaves law slots slot answer l s t
    → HasPin t.book.view (Some place)
pin_there law slots slot (Ok x) l s t place pin did = save_pin law slots slot (Ok x) l s t place pin did
pin_there law slots slot (Err (why.Unfilled at)) l s t place pin (inl (m, last, on, held, here, under, f)) = pin_of law t.book m place f.knows (on.pinned ∙ pin)
pin_there law slots slot (Err why.DiskFault) l s t place pin (inl (m, mid, on, held, fails)) = pin_of law t.book m place fails.knows (on.pinned ∙ pin)
pin_there law slots slot (Err (why.NotYet seat seen)) l s t place pin (inl none) = absurd none
pin_there law slots slot (Err why.Failed) l s t place pin (inl none) = absurd none
pin_there law slots slot (Err stop) l s t place pin (inr did) = save_pin law slots slot (Err stop) l s t place pin did

-- a slot of the log is one of it when more of it is flushed
pub slot_on : (law : Law) (slots : Slots) (slot : Slot) (l m : Log) (s t : Sees) → IsSlotAt l slots slot → FlushesOn law l m s t → IsSlotAt m slots slot
slot_on law slots slot l m s t is on =
    let opened = sym on.opened in
    record {
      begin = subst (λ (x : world.Start). LOG_START < x.at) opened is.begin;
      high = subst (λ (x : world.Start). x.at ≤ LOG_END) opened is.high;
      run = is.run ∙ ap (λ (x : world.Start). x.run) opened;
      run_low = is.run_low;
      run_high = is.run_high;
      first = is.first;
      pinned = on.pinned ∙ is.pinned;
    }

module _ (law : Law) (laws : GoLaws law) (below : Below law) (o : Start) (began : Option (List Step)) (faults : ℕ) (slots : Slots) where
  -- WHAT LIES BEHIND THE PIN: from a desk that is kept, whose log is pinned
  module _ (l : Log) (s : Sees) (k : KeepsLog law o began faults slots l [] s) (fine : s.failed ≡ false) (slot : Slot) where
    -- what is left of it: as far as blocks are known now, each image has recovered to a front
    pub record Left (later : Slots) (t : Sees) : Type 0 where
      pub log : Log
      pub tried : List Block
      pub kept : KeepsLog law o began faults later log tried t
      pub blocks : List Block
      pub all : log.gathered ++ tried ≡ l.gathered ++ blocks
      pub keeps : Tells (KeepsBlocks law.meets (state_at l []) (l.gathered ++ blocks) l.flushed) s.told t.told
      pub steps : FlushSteps law s.book t.book

    low : o.tail ≤ l.flushed
    low = let up = place_rises o.tail l.gathered in let at = known_place law s.book l k.knows o k.start in omega (arith, up, at)

    -- the log as it went on
    module _ (m : Log) (mid : Sees) (on : FlushesOn law l m s mid) (held : HoldsKnown law slots m mid) where
      kept_mid : KeepsLog law o began faults slots m [] mid
      kept_mid = goes_fine law laws o began faults slots l s k fine mid on.steps held.may slots m held.knows on.blocks on.more l.flushed low on.keeps (inl refl)
          (does_on law laws o began faults slots l s k fine m on.blocks mid.told on.more on.writes) held.holds held.fine on.faults

      none_more : m.gathered ++ [] ≡ l.gathered ++ on.blocks
      none_more = append-nil m.gathered ∙ on.more

      from_l : (bs : List Block) (a b : List Step) → KeepsBlocks law.meets (state_at m []) bs l.flushed a b → KeepsBlocks law.meets (state_at l []) bs l.flushed a b
      from_l bs a b keeps = subst (λ (x : world.Start). KeepsBlocks law.meets (state_from x) bs l.flushed a b) on.opened keeps

      -- and then blocks more were tried, or a slot was written
      keeps_more : (bs : List Block) (t : Sees) → Tells (KeepsBlocks law.meets (state_at m []) (m.gathered ++ bs) m.flushed) mid.told t.told
          → Tells (KeepsBlocks law.meets (state_at l []) (l.gathered ++ (on.blocks ++ bs)) l.flushed) s.told t.told
      keeps_more bs t told =
          let up = on.flushed in
          let all : m.gathered ++ bs ≡ l.gathered ++ (on.blocks ++ bs) = ap (λ (xs : List Block). xs ++ bs) on.more ∙ append_assoc l.gathered on.blocks bs in
          tells_join (KeepsBlocks law.meets (state_at m []) m.gathered l.flushed) (KeepsBlocks law.meets (state_at m []) (m.gathered ++ bs) m.flushed)
          (KeepsBlocks law.meets (state_at l []) (l.gathered ++ (on.blocks ++ bs)) l.flushed) s.told mid.told t.told
          (λ x y z one two.
          subst (λ (xs : List Block). KeepsBlocks law.meets (state_at l []) xs l.flushed x z) all
          (from_l (m.gathered ++ bs) x z (laws.go (state_at m []) m.gathered bs l.flushed m.flushed x y z (omega (arith, up)) one two)))
          on.keeps told

      all_more : (bs : List Block) → m.gathered ++ bs ≡ l.gathered ++ (on.blocks ++ bs)
      all_more bs = ap (λ (xs : List Block). xs ++ bs) on.more ∙ append_assoc l.gathered on.blocks bs

      -- nothing more was done to the disk
      stays : (t : Sees) → MayGather t.book.view → KnowsLog law t.book m → t.told ≡ mid.told → t.failed ≡ false → t.faults ≡ mid.faults → FlushSteps law mid.book t.book → Left slots t
      stays t may know told good same steps =
          let all_steps = steps_both law s.book mid.book t.book on.steps steps in
          let keeps = subst (Tells (KeepsBlocks law.meets (state_at m []) m.gathered l.flushed) s.told) (sym told) on.keeps in
          let holds = subst (λ (x : Option (List Step)). IfSome x (HoldsLog law.meets m slots)) (sym told) held.holds in
          let does = subst (Tells (DoesWith o m.gathered slots) s.told) (sym told) (does_on law laws o began faults slots l s k fine m on.blocks mid.told on.more on.writes) in
          record {
            log = m;
            tried = [];
            kept = goes_fine law laws o began faults slots l s k fine t all_steps may slots m know on.blocks on.more l.flushed low keeps (inl refl) does holds good (same ∙ on.faults);
            blocks = on.blocks;
            all = none_more;
            keeps = tells_map (λ now. HoldsLog law.meets l slots now) (KeepsBlocks law.meets (state_at m []) m.gathered l.flushed)
                (KeepsBlocks law.meets (state_at l []) (l.gathered ++ on.blocks) l.flushed) s.told t.told
                (λ old new had p. subst (λ (xs : List Block). KeepsBlocks law.meets (state_at l []) xs l.flushed old new) on.more (from_l m.gathered old new p)) (k.holds fine).1 keeps;
            steps = all_steps;
          }

      -- at a turn the disk failed
      flush_fails : (t : Sees) → MayGather t.book.view → FailsOn law m mid t → Left slots t
      flush_fails t may f =
          let start = steps_start law mid.book t.book f.steps ∙ kept_mid.start in
          record {
            log = m;
            tried = f.blocks;
            kept = goes_failed law laws o began faults slots m mid kept_mid held.fine t f.steps may f.knows f.blocks
                (subst (λ (x : Start). KnowsBlocks law x t.book (m.gathered ++ f.blocks)) start f.knows_all) f.keeps (does_more law laws o began faults slots m mid kept_mid held.fine f.blocks t.told f.writes) f.failed f.rose;
            blocks = on.blocks ++ f.blocks;
            all = all_more f.blocks;
            keeps = keeps_more f.blocks t f.keeps;
            steps = steps_both law s.book mid.book t.book on.steps f.steps;
          }

      -- THE SAVE
      saves_keep : (t : Sees) → Tells (SavesLogPast law.meets m slots slot) mid.told t.told → Tells (KeepsBlocks law.meets (state_at m []) m.gathered m.flushed) mid.told t.told
      saves_keep t told =
          tells_map (λ now. HoldsLog law.meets m slots now) (SavesLogPast law.meets m slots slot) (KeepsBlocks law.meets (state_at m []) m.gathered m.flushed) mid.told t.told
          (λ old new had p. below m slots slot m.flushed old new (omega arith) p) held.holds told

      saved_part : (t : Sees) → Tells (SavedLogPast law.meets m slots slot) mid.told t.told → Tells (SavesLogPast law.meets m slots slot) mid.told t.told
      saved_part t told =
          tells_map (λ now. HoldsLog law.meets m slots now) (SavedLogPast law.meets m slots slot) (SavesLogPast law.meets m slots slot) mid.told t.told
          (λ old new had p. record { holds = p.holds; checkpoint = p.checkpoint; slot_is = p.slot_is; may = p.may; saves = inr p.saves }) held.holds told

      with_none : (t : Sees) → Tells (KeepsBlocks law.meets (state_at m []) m.gathered m.flushed) mid.told t.told → Tells (KeepsBlocks law.meets (state_at m []) (m.gathered ++ []) m.flushed) mid.told t.told
      with_none t told = subst (λ (xs : List Block). Tells (KeepsBlocks law.meets (state_at m []) xs m.flushed) mid.told t.told) (sym (append-nil m.gathered)) told

      save_lasts : (t : Sees) → MayGather t.book.view → (x : Unit) → SavesOn law slots slot (Ok x) m mid t → Left (put_slot slots slot) t
      save_lasts t may x save =
          let keeps = saves_keep t (saved_part t save.known.0) in
          let up = on.flushed in
          let under = low in
          record {
            log = m;
            tried = [];
            kept = goes_fine law laws o began faults slots m mid kept_mid held.fine t save.steps may (put_slot slots slot) m save.knows [] (sym (append-nil m.gathered)) m.flushed
                (omega (arith, up, under)) keeps (inr (slot, refl))
                (tells_map (λ now. HoldsLog law.meets m slots now) (SavedLogPast law.meets m slots slot) (DoesWith o m.gathered slots) mid.told t.told
                (λ old new had p. saved_does o m.gathered slots law.meets m slot old new p) held.holds save.known.0)
                (all_some (HoldsLogFrom law.meets m (put_slot slots slot) slot.stamp) (HoldsLog law.meets m (put_slot slots slot)) t.told (λ now from. from.holds) save.known.1) save.saves save.counts;
            blocks = on.blocks ++ [];
            all = all_more [];
            keeps = keeps_more [] t (with_none t keeps);
            steps = steps_both law s.book mid.book t.book on.steps save.steps;
          }

      save_fails : (t : Sees) → MayGather t.book.view → SavesOn law slots slot (Err why.DiskFault) m mid t → Left slots t
      save_fails t may save =
          let keeps = with_none t (saves_keep t save.known) in
          let start = steps_start law mid.book t.book save.steps ∙ kept_mid.start in
          record {
            log = m;
            tried = [];
            kept = goes_failed law laws o began faults slots m mid kept_mid held.fine t save.steps may save.knows []
                (subst (KnowsBlocks law o t.book) (sym (append-nil m.gathered)) (known_all law t.book m save.knows o start)) keeps
                (tells_map (λ now. HoldsLog law.meets m slots now) (SavesLogPast law.meets m slots slot) (DoesWith o (m.gathered ++ []) slots) mid.told t.told
                (λ old new had p. saves_does o (m.gathered ++ []) slots law.meets m slot old new p) held.holds save.known)
                save.saves save.counts;
            blocks = on.blocks ++ [];
            all = all_more [];
            keeps = keeps_more [] t keeps;
            steps = steps_both law s.book mid.book t.book on.steps save.steps;
          }

      save_stops : (stop : CheckpointStop) (t : Sees) → MayGather t.book.view → SavesOn law slots slot (Err stop) m mid t → Left slots t
      save_stops (why.NotYet seat seen) t may save = stays t may save.knows save.known save.saves.0 save.counts save.steps
      save_stops why.DiskFault t may save = save_fails t may save
      save_stops (why.Unfilled at) t may save = absurd save.saves
      save_stops why.Failed t may save = absurd save.saves

    pub all_done : (x : Unit) (t : Sees) → MayGather t.book.view → FlushesAndSaves law slots slot (Ok x) l s t → Left (put_slot slots slot) t
    all_done x t may (m, mid, on, held, save) = save_lasts m mid on held t may x save

    pub stopped : (stop : CheckpointStop) (t : Sees) → MayGather t.book.view → FlushesAndSaves law slots slot (Err stop) l s t → Left slots t
    stopped (why.Unfilled at) t may (inl (m, last, on, held, here, under, f)) = stays m last on held t may f.knows f.told f.fine f.faults f.steps
    stopped why.DiskFault t may (inl (m, mid, on, held, fails)) = flush_fails m mid on held t may fails
    stopped (why.NotYet seat seen) t may (inl none) = absurd none
    stopped why.Failed t may (inl none) = absurd none
    stopped stop t may (inr (m, mid, on, held, save)) = save_stops m mid on held stop t may save
