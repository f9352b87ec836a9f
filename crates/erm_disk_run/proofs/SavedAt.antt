-- A checkpoint of a log that was just opened: nothing is gathered, and the slot has the map found.
use Rattle.std.proofs.Common.{◌≡◌, ℕ, ◌+◌, ◌/◌, ◌<◌, ◌≤◌, ◌++◌, false, List, [], ◌∷◌, Bool, IfSome, Option, Some, None, Err, refl, sym, ap, ◌∙◌, subst, arith, inr}
use Rattle.std.specs.List.{slice_get}
use Rattle.erm_model.specs.Member.{◌∈◌}
use Rattle.erm_model.specs.Rows.{Rows}
use Rattle.erm_model.specs.RowTransaction.{SameRows}
use Rattle.erm_model.specs.declared.limits.TheConstants.{LEAST_BLOCK, SEGMENT_WORDS}
use Rattle.erm_record.proofs.StoredRows.{stored_length-le}
use Rattle.erm_block.specs.declared.block.Block.{Block}
use Rattle.erm_block.specs.LogList.{IsChain, rows_after_block}
use Rattle.erm_block.proofs.OneSpelling.{length-spelling}
use Rattle.erm_outside.specs.Disk.{Image, Step, Tells, contents}
use Rattle.erm_log_words.specs.Tears.{IsFresh}
use Rattle.erm_ckpt.specs.declared.slot.Slots.{Slots}
use Rattle.erm_ckpt.specs.declared.slot.TheConstants.{LOG_START}
use Rattle.erm_ckpt.specs.Recovered.{Pair, State, base, end_at, slots_of, state_behind}
use Rattle.erm_ckpt.specs.Slots.{put_slot, removal_end}
use Rattle.erm_ckpt.specs.States.{RecoversTo, SameState}
use Rattle.erm_ckpt.proofs.Images.{state_grows}
use Rattle.erm_checkpoint.specs.declared.stops.CheckpointStop.{CheckpointStop}
use Rattle.erm_checkpoint.specs.declared.stops.CheckpointStop.TheVariants as stop
use Rattle.erm_checkpoint.specs.Taken.{Checkpoints, GoesOnTo, HoldsLog, HoldsLogFrom, Takes, TakesAll, slot_at_end, state_at}
use Rattle.erm_checkpoint.proofs.Segments.{below_segments, checkpoint_spares}
use Rattle.erm_checkpoint.proofs.Taken.{removals_within}
use Rattle.erm_crash.specs.Kept.{KeepsBlocks, KeepsOpening, RecoversStopped}
use Rattle.erm_crash.specs.Moments.{TearsApart}
use Rattle.erm_crash.specs.Stops.{MayStop}
use Rattle.erm_crash.proofs.Moments.{joined, weaker}
use Rattle.erm_log_run.proofs.Held.{flushed_within, tells_and, tells_join, tells_weaker}
use Rattle.erm_log_run.proofs.Logged.{none_waits}
use Rattle.erm_log_run.proofs.Older.{checkpoint_may}
use Rattle.erm_log_run.specs.Saving.{AreRemoved, TookPlace}
use Rattle.erm_log_run.proofs.Saving.{took_place}
use Rattle.erm_log_run.proofs.Told.{took_since}
use Rattle.erm_node.specs.Sound.{IsSound, sound_law}
use Rattle.erm_node.specs.TreeMap.{map_of_rows}
use Rattle.erm_recover.specs.Opening.{opened}
use Rattle.erm_recover.specs.Waiting.{SinceSettled}
use Rattle.erm_recover.proofs.Waits.{since_then}
use Rattle.erm_start.specs.Recovered.{IsOpenedLog}
use Rattle.erm_world.specs.Log.{IsLog, Log, Start}
use Rattle.erm_world.specs.Whole.{IsLogOf, KeepsSessions}
use Rattle.erm_world.specs.World.{Finished, Opening, Session, View}
use Rattle.erm_disk_run.specs.Crashes.{KeepsCommits, KeepsOlder, RecoversBelow}
use Rattle.erm_disk_run.specs.Limits.{AreLimits, Limits}
use Rattle.erm_disk_run.specs.Opened.{IsOpenedWorld, NamesFound, OpensLog}
use Rattle.erm_disk_run.specs.Saved.{IsSaved}
use Rattle.erm_disk_run.proofs.Opened.{MayOpenAll, below_of, opening_commits}
use Rattle.erm_disk_run.proofs.SlotsLeft.{OpenedOlder, found_by, older_told, opened_older, opens_older}
use Rattle.erm_disk_run.proofs.Told.{OpensOn, opens_on}

-- the law of checkpoints
abbrev pub CheckpointsKeep : Type 0
CheckpointsKeep = (before now : Log) (slots : Slots) (run : ℕ) (old new : List Step) → HoldsLog sound_law.meets before slots old → GoesOnTo before now → IsLog sound_law.meets now
    → LOG_START < now.opened.at → Takes sound_law.meets before.flushed now slots (slot_at_end now run slots) old new
    → KeepsBlocks sound_law.meets (state_at now []) now.gathered before.flushed old new

-- the law of maps
abbrev pub SameMaps : Type 0
SameMaps = (a b : Rows) → SameRows a b → IsSound a → map_of_rows a ≡ map_of_rows b

-- where a log list ends at the place where it begins, there are no blocks
no_blocks : (image : Image) (s : State) (blocks : List Block) → IsChain sound_law.meets (end_at image s) blocks → (state_behind s blocks).at ≡ s.at → blocks ≡ []
no_blocks image s [] chain same = refl
no_blocks image s (b ∷ bs) (next, others) same =
    let size = length-spelling stored_length-le b s.at s.run next.stands.is in
    let grows = state_grows (record { at = s.at + b.size; run = b.run; rows = rows_after_block b s.rows }) bs in
    absurd (omega (arith, size, grows, same))

-- a checkpoint took its place behind the block that opened a log, and of the segments below that block just those are gone that lie below that of the
-- place of the best slot found
pub record SparesSegments (state : State) (found later : Slots) (old steps : List Step) : Type 0 where
  pub named : NamesFound found old
  pub took : TookPlace sound_law.meets (state.at + LEAST_BLOCK) found later old steps
  pub removed : AreRemoved (removal_end found) state.at (state.at + LEAST_BLOCK) old steps

-- a log before and after calls of a flusher, and the views that it has then; it was just opened on a state's rows
pub record Turned (state : State) (v t : View) (l m : Log) : Type 0 where
  pub view : OpensOn state 1 v
  pub log : IsOpenedLog state.rows (state.at + LEAST_BLOCK) (state.run + 1) l
  pub before : IsLogOf v l
  pub after : IsLogOf t m
  pub is : IsLog sound_law.meets m
  pub keeps : KeepsSessions v t
  pub goes : GoesOnTo l m

-- so it is of a world that was opened with any limits
pub turned_world : (limits : Limits) → AreLimits limits → (state : State) (v t : View) (l m : Log) → IsOpenedWorld limits state 1 v l → IsLogOf v l → IsLogOf t m → IsLog sound_law.meets m → KeepsSessions v t
    → GoesOnTo l m → Turned state v t l m
turned_world limits are state v t l m world before after is keeps goes = record {
  view = opens_on limits are state 1 v world.view;
  log = world.log;
  before = before;
  after = after;
  is = is;
  keeps = keeps;
  goes = goes;
}

-- it goes on, where the flusher hadn't failed before
pub goes_on : (l m : Log) (cause : CheckpointStop) (was now : Bool) → was ≡ false → Checkpoints (Err cause) was now l m → GoesOnTo l m
goes_on l m (stop.Unfilled at) was now well did = did.2
goes_on l m (stop.NotYet seat seen) was now well did = did.2
goes_on l m stop.DiskFault was now well did = did.2
goes_on l m stop.Failed was now well did = let failed = did.0 in absurd (cc)

module _ (state : State) (v t : View) (l m : Log) (turned : Turned state v t l m) where
  begun : m.opened ≡ l.opened
  begun = ap (λ (x : Log). x.opened) turned.goes.log

  at_is : m.opened.at ≡ state.at + LEAST_BLOCK
  at_is = ap (λ (s : Start). s.at) begun ∙ turned.log.at

  run_is : m.opened.run ≡ state.run + 1
  run_is = ap (λ (s : Start). s.run) begun ∙ turned.log.run

  rows_are : SameRows m.opened.rows state.rows
  rows_are oid less = ap (λ (s : Start). s.rows oid) begun ∙ turned.log.rows oid less

  pub tail_is : m.tail ≡ state.at + LEAST_BLOCK
  tail_is = turned.after.tail ∙ turned.keeps.tail ∙ sym turned.before.tail ∙ turned.log.tail

  -- what is flushed lies within the log
  m_within : IsLog sound_law.meets m → m.flushed ≤ m.tail
  m_within is = let low = flushed_within sound_law.meets m is in let within = is.within in omega (arith, low, within)

  -- no session has a transaction that is over
  none_over : (b : Block) → b ∈ m.gathered → ⊥
  none_over b inside =
      let of = turned.after.blocks b inside in
      let session = subst (λ (n : ℕ). (0 < b.seat) × (b.seat ≤ n)) (ap (λ (o : Opening). o.sessions) turned.keeps.opening) of.session in
      let none : (t.session b.seat).over ≡ [] = ap (λ (s : Session). s.over) (turned.keeps.session b.seat session ∙ turned.view.opened.idle b.seat session) in
      let found : of.of ∈ [] = subst (λ (over : List Finished). of.of ∈ over) none of.over in
      let no : None ≡ Some of.of = found.1 in
      absurd (cc)

  pub none_gathered : m.gathered ≡ []
  none_gathered = by m.gathered refl
    where
      by : (blocks : List Block) → m.gathered ≡ blocks → blocks ≡ []
      by [] same = refl
      by (b ∷ bs) same = absurd (none_over b (0, ap (λ (xs : List Block). slice_get xs 0) same))

  -- what recovers to the log's start does so to the state that was opened
  to_opened : (pair : Pair) (image : Image) → RecoversTo sound_law.meets (state_at m []) pair image → RecoversTo sound_law.meets (opened state) pair image
  to_opened pair image there = record {
    blocks = there.blocks;
    recovers = there.recovers;
    is = record { at = there.is.at ∙ at_is; run = there.is.run ∙ run_is; rows = λ oid less. there.is.rows oid less ∙ rows_are oid less };
    opens = subst (λ (at : ℕ). IsFresh (state.run + 1 + 1) image at) at_is (subst (λ (run : ℕ). IsFresh (run + 1) image m.opened.at) run_is there.opens);
  }

  no_front : (front rest : List Block) → m.gathered ≡ front ++ rest → front ≡ []
  no_front [] rest split = refl
  no_front (b ∷ front) rest split = let no : [] ≡ b ∷ (front ++ rest) = sym none_gathered ∙ split in absurd (cc)

  front_opened : (front rest : List Block) (pair : Pair) (image : Image) → m.gathered ≡ front ++ rest → RecoversTo sound_law.meets (state_at m front) pair image
      → RecoversTo sound_law.meets (opened state) pair image
  front_opened front rest pair image split there =
      to_opened pair image (subst (λ (bs : List Block). RecoversTo sound_law.meets (state_at m bs) pair image) (no_front front rest split) there)

  -- each image at each moment recovers to the map found
  blocks_commits : MayOpenAll → (place : ℕ) (old new : List Step) → KeepsBlocks sound_law.meets (state_at m []) m.gathered place old new → KeepsCommits [] state state.at old new
  blocks_commits opens place old new =
      weaker _ _ old new (λ now image keeps tears.
      let kept : RecoversStopped sound_law.meets (state_at m []) m.gathered place now image = keeps tears in
      let past = kept.past in
      let at : (state_at m past.front).at ≡ state.at + LEAST_BLOCK = ap (λ (bs : List Block). (state_at m bs).at) (no_front past.front past.rest past.split) ∙ at_is in
      below_of opens [] state (opened state) past.pair now image (front_opened past.front past.rest past.pair image past.split past.there) refl (omega arith) (inr refl) refl
      (subst (λ (n : ℕ). MayStop (base past.pair).at n now) at kept.stops))

  -- the slot is of the place behind the block that opened the log, and has the map found
  saved_at : SameMaps → IsSound state.rows → (found slots : Slots) (stamp : ℕ) (old steps : List Step) → m.tail ≡ stamp → SparesSegments state found slots old steps
      → HoldsLogFrom sound_law.meets m slots stamp steps → IsSaved state old steps
  saved_at maps sound found slots stamp old steps ends spares h =
      let pair = h.holds.pair in
      let there : RecoversTo sound_law.meets (opened state) pair (contents steps) = front_opened h.holds.front h.holds.rest pair (contents steps) h.holds.split h.holds.there in
      let place : (base pair).at ≡ state.at + LEAST_BLOCK = h.from ∙ sym ends ∙ tail_is in
      let none : there.blocks ≡ [] = no_blocks (contents steps) (base pair) there.blocks there.recovers.list.chain (there.is.at ∙ sym place) in
      let same : SameState (base pair) (opened state) = subst (λ (bs : List Block). SameState (state_behind (base pair) bs) (opened state)) none there.is in
      record {
        settled = h.holds.ready.settled;
        pair = pair;
        there = there;
        some = h.some;
        at = place;
        run = same.run;
        map = sym (maps state.rows (base pair).rows (λ oid less. sym (same.rows oid less)) sound);
        took = λ before blocks recovers. subst (λ (s : Slots). TookPlace sound_law.meets (state.at + LEAST_BLOCK) s (slots_of pair) old steps)
            (found_by found old spares.named before blocks recovers) (subst (λ (s : Slots). TookPlace sound_law.meets (state.at + LEAST_BLOCK) found s old steps) h.holds.names spares.took);
        removed = λ before blocks recovers. subst (λ (s : Slots). AreRemoved (removal_end s) state.at (state.at + LEAST_BLOCK) old steps) (found_by found old spares.named before blocks recovers) spares.removed;
      }

  -- ---- as far as the disk tells

  module _ (before mid after : Option (List Step)) (slots : Slots) (opens : Tells (OpensLog state l slots) before mid) where
    pub commits_told : CheckpointsKeep → MayOpenAll → LOG_START ≤ state.at → (run : ℕ) → Tells (Takes sound_law.meets l.flushed m slots (slot_at_end m run slots)) mid after
        → Tells (SinceSettled (KeepsCommits [] state state.at)) before after
    commits_told keep may low run takes =
        tells_join (OpensLog state l slots) (Takes sound_law.meets l.flushed m slots (slot_at_end m run slots)) (SinceSettled (KeepsCommits [] state state.at)) before mid after both opens takes
      where
        Keeps : List Step → Image → Type 0
        Keeps now image = TearsApart sound_law.meets now image → RecoversBelow [] state state.at now image

        both : (a b c : List Step) → OpensLog state l slots a b → Takes sound_law.meets l.flushed m slots (slot_at_end m run slots) b c → SinceSettled (KeepsCommits [] state state.at) a c
        both a b c o takes =
            since_then (KeepsOpening sound_law.meets state o.pair) (KeepsCommits [] state state.at) a b c
            (λ first opened. joined Keeps first b c (opening_commits may [] state o.pair first b refl refl opened)
            (blocks_commits may l.flushed b c (keep l m slots run b c o.holds turned.goes turned.is (omega (arith, low, at_is)) takes))) o.keeps

    abbrev TakenAll : ℕ → List Step → List Step → Type 0
    TakenAll run = TakesAll sound_law.meets l.flushed m slots (slot_at_end m run slots)

    -- of the segments those that the slots name are removed, and no other below the place
    spared : (later : Slots) (run : ℕ) → later ≡ put_slot slots (slot_at_end m run slots) → Tells (TakenAll run) mid after → Tells (SparesSegments state slots later) before after
    spared later run put takes = tells_join (OpensLog state l slots) (TakenAll run) (SparesSegments state slots later) before mid after both opens takes
      where
        both : (a b c : List Step) → OpensLog state l slots a b → TakenAll run b c → SparesSegments state slots later a c
        both a b c o t = record {
          named = o.found;
          took = took_since sound_law.meets (state.at + LEAST_BLOCK) slots later a b c o.writes.0 o.writes.1
              (took_place sound_law.meets l.flushed m slots later run (state.at + LEAST_BLOCK) b c tail_is put t);
          removed = record {
            gone = λ n low. t.saves.gone n (omega arith) low;
            stay = λ n high low.
                checkpoint_spares sound_law.meets l.flushed m slots (slot_at_end m run slots) b c t n high
                (subst (λ (at : ℕ). n < at / SEGMENT_WORDS) (sym turned.log.flushed) (below_segments state.at LEAST_BLOCK n low))
                ∙ opened_older state l slots a b o n low;
            within =
                let low = removals_within sound_law.meets m slots t.mid t.holds in
                let flushed = m_within turned.is in
                omega (arith, low, flushed, tail_is);
          };
        }

    -- where it was begun, no more are gone
    pub older_kept : (run : ℕ) → Tells (Takes sound_law.meets l.flushed m slots (slot_at_end m run slots)) mid after → Tells (KeepsOlder state removal_end) before after
    older_kept run takes =
        older_told state removal_end slots l.flushed before mid after (let flushed = turned.log.flushed in omega (arith, flushed))
        (tells_weaker (OpensLog state l slots) (OpenedOlder state.at slots) before mid (opens_older state l slots) opens)
        (checkpoint_may sound_law.meets l.flushed m slots (slot_at_end m run slots) mid after takes)

    pub saved_told : SameMaps → IsSound state.rows → (later : Slots) (run stamp : ℕ) → later ≡ put_slot slots (slot_at_end m run slots) → m.tail ≡ stamp → Tells (TakenAll run) mid after
        → IfSome after (HoldsLogFrom sound_law.meets m later stamp) → Tells (IsSaved state) before after
    saved_told maps sound later run stamp put ends takes holds =
        tells_weaker (λ old new. HoldsLogFrom sound_law.meets m later stamp new × SparesSegments state slots later old new) (IsSaved state) before after
        (λ old new both. saved_at maps sound slots later stamp old new ends both.1 both.0)
        (tells_and (HoldsLogFrom sound_law.meets m later stamp) (SparesSegments state slots later) before after holds (spared later run put takes))

  -- nothing is undecided: only a fault stops a checkpoint
  pub only_faults : (cause : CheckpointStop) (was now : Bool) → was ≡ false → Checkpoints (Err cause) was now l m → cause ≡ stop.DiskFault
  only_faults (stop.Unfilled at) was now well did =
      let further = turned.goes.further in
      let flushed = turned.log.flushed in
      let up = did.3 in
      let low = did.4 in
      absurd (omega (arith, further, flushed, up, low, tail_is))
  only_faults (stop.NotYet seat seen) was now well did = absurd (none_waits sound_law.meets m did.4.0 _ turned.is did.3 did.4.2)
  only_faults stop.DiskFault was now well did = refl
  only_faults stop.Failed was now well did = let failed = did.0 in absurd (cc)
