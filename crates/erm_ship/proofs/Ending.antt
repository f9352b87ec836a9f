-- How shipping ends.
use Rattle.std.proofs.Common.{◌≡◌, ◌≢◌, ℕ, ◌≤◌, ◌⊎◌, List, [], ◌++◌, length, take, Option, Some, None, refl, sym, ap, ◌∙◌, subst, arith, inl, inr, append-nil}
use Rattle.std.specs.Prelude.{IfSome}
use Rattle.std.specs.List.{flat_map}
use Rattle.erm_bytes.specs.Bytes.{AreWords, bytes_of}
use Rattle.erm_block.specs.declared.block.Block.{Block}
use Rattle.erm_block.specs.declared.block.TheConstants.{BLOCK_WORDS}
use Rattle.erm_block.specs.Block.{IsBlock}
use Rattle.erm_block.specs.LogList.{IsChain}
use Rattle.erm_block.specs.Spelling.{spelling}
use Rattle.erm_ckpt.specs.Checkpoint.{Checkpoint}
use Rattle.erm_ckpt.specs.Recovered.{Pair, Recovers, State, base, best, end_at, slots_of, state_behind, state_of}
use Rattle.erm_node.specs.Sound.{sound_law}
use Rattle.erm_outside.specs.Disk.{Image, Step, contents}
use Rattle.erm_outside.specs.Faults.{Rose}
use Rattle.erm_outside.specs.Sink.{Puts, PutsFront}
use Rattle.erm_recover.specs.declared.recovered.Recovered.{Recovered as Found}
use Rattle.erm_recover.specs.declared.stop.RecoverStop.{RecoverStop}
use Rattle.erm_recover.specs.declared.stop.RecoverStop.TheVariants as recover
use Rattle.erm_recover.specs.Recovering.{IsRecovered, NoBaseTold, RecoveredTold}
use Rattle.erm_replica.specs.declared.item.LogPlace.{LogPlace}
use Rattle.erm_replica.specs.Stream.{part_words}
use Rattle.erm_replica.specs.Stream.Part.{base as base_part}
use Rattle.erm_ship.specs.declared.base.Laid.{Laid}
use Rattle.erm_ship.specs.declared.stop.ShipStop.{ShipStop}
use Rattle.erm_ship.specs.declared.stop.ShipStop.TheVariants as stop
use Rattle.erm_ship.specs.Bases.{LaysBase, MissesBase}
use Rattle.erm_report.specs.Texts.{line_text}
use Rattle.erm_report.specs.declared.line.Line.TheVariants as line
use Rattle.erm_ship.specs.Ends.{Around, CutBySink, FailedToRead, MayBeFront, PrintsTo, ShipEnds, Shipped, Stopped}
use Rattle.erm_ship.specs.Leads.{Any, state_at}
use Rattle.erm_ship.specs.Sends.{AreBlocks, NoneLead, SendsAll, Sent, StopsIn, blocks_text}
use Rattle.erm_ship.specs.Stops.{ship_stop}
use Rattle.erm_ship.specs.Streams.{IsFront, IsStream, Recovered, Spells, shipped, stream_parts}
use Rattle.erm_ship.proofs.Puts.{prints_join, puts_front, puts_join, puts_nothing}
use Rattle.erm_ship.proofs.Reading.{spells_stream}
use Rattle.erm_ship.proofs.Sending.{Left, all_of, from_list, left_of, sent_nothing}

-- where a stream's checkpoint is, recovery begins
record Begins (o : Option Checkpoint) : Type 0 where
  pub at : (shipped o).slot.stamp ≡ (state_of o).at
  pub run : (shipped o).slot.run ≡ (state_of o).run

begins : (o : Option Checkpoint) → Begins o
begins None = record { at = refl; run = refl }
begins (Some c) = record { at = refl; run = refl }

-- what was recovered of a disk, from where a stream's log goes on
record FromHere (image : Image) (checkpoint : Checkpoint) (log : LogPlace) (end : ℕ) : Type 0 where
  pub pair : Pair
  pub blocks : List Block
  pub recovers : Recovers sound_law.meets image pair blocks
  pub checkpoint_is : checkpoint ≡ shipped (best pair)
  pub chain : IsChain Any (end_at image (state_at log)) blocks
  pub ends : (state_behind (state_at log) blocks).at ≡ end

-- the bytes of words that were laid out, and of blocks
abbrev stream_text : List ℕ → List Block → List ℕ
stream_text front blocks = bytes_of front ++ blocks_text blocks

module _
    (size : (block : Block) (at run : ℕ) → IsBlock block at run → length (spelling block) ≡ block.size)
    (most : (block : Block) (at run : ℕ) → IsBlock block at run → block.size ≤ BLOCK_WORDS)
    (one : (a b : Block) (at_a run_a at_b run_b : ℕ) (x y : List ℕ) → IsBlock a at_a run_a → IsBlock b at_b run_b → spelling a ++ x ≡ spelling b ++ y → a ≡ b) where
  from_here : (steps : List Step) (found : Found) (pair : Pair) (laid : Laid) (words : List ℕ) (lays : LaysBase (Some steps) found.slots laid words) → IsRecovered sound_law.meets steps found pair
      → FromHere (contents steps) lays.checkpoint laid.log found.stamp
  from_here steps found pair laid words lays is =
      let same : lays.checkpoint ≡ shipped (best pair) = lays.recovers pair is.blocks is.slots is.recovers in
      let at : (base pair).at ≡ laid.log.at = sym (begins (best pair)).at ∙ sym (ap (λ (c : Checkpoint). c.slot.stamp) same) ∙ sym lays.at in
      let run : (base pair).run ≡ laid.log.run = sym (begins (best pair)).run ∙ sym (ap (λ (c : Checkpoint). c.slot.run) same) ∙ sym lays.run in
      record {
        pair = pair;
        blocks = is.blocks;
        recovers = is.recovers;
        checkpoint_is = same;
        chain = from_list sound_law.meets (contents steps) (base pair) laid.log is.blocks at run is.recovers.list.chain;
        ends = sym (Rattle.erm_ship.proofs.Leading.behind_same (base pair) (state_at laid.log) is.blocks at run).0 ∙ is.state.at;
      }

  spells_sent : (told : Option (List Step)) (told_now : Option (List Step)) (found : Found) (laid : Laid) (words : List ℕ) (blocks : List Block) (place : LogPlace)
      → (lays : LaysBase told found.slots laid words) → AreWords (take laid.size words) → Sent told_now laid.log blocks place
      → Spells (stream_parts lays.checkpoint blocks) (stream_text (take laid.size words) blocks)
  spells_sent told told_now found laid words blocks place lays typed sent =
      spells_stream lays.checkpoint blocks (take laid.size words) lays.is
      (subst (λ (p : ℕ). AreBlocks p lays.checkpoint.slot.run blocks) lays.at (subst (λ (r : ℕ). AreBlocks laid.log.at r blocks) lays.run sent.are))
      lays.words_are typed sent.words

  -- a front of a stream was put
  front_recovers : (told : Option (List Step)) (found : Found) (laid : Laid) (words : List ℕ) (blocks : List Block) (place : LogPlace) (lays : LaysBase told found.slots laid words)
      → RecoveredTold sound_law.meets told found → Sent told laid.log blocks place → place.at ≤ found.stamp
      → IfSome told (λ steps. (rest : List Block) × Recovered (contents steps) lays.checkpoint (blocks ++ rest))
  front_recovers None found laid words blocks place lays recovered sent high = tt
  front_recovers (Some steps) found laid words blocks place lays (pair, is) sent high =
      let here = from_here steps found pair laid words lays is in
      let left = left_of size most one (contents steps) laid.log place found.stamp blocks here.blocks sent.lead high sent.there here.chain here.ends in (
        left.rest,
        record {
          pair = here.pair;
          recovers = subst (λ (bs : List Block). Recovers sound_law.meets (contents steps) here.pair bs) left.split here.recovers;
          checkpoint_is = here.checkpoint_is;
        },
      )

  is_front : (told : Option (List Step)) (found : Found) (laid : Laid) (words : List ℕ) (blocks : List Block) (place : LogPlace) → LaysBase told found.slots laid words → AreWords (take laid.size words)
      → RecoveredTold sound_law.meets told found → Sent told laid.log blocks place → place.at ≤ found.stamp → IsFront told (stream_text (take laid.size words) blocks)
  is_front told found laid words blocks place lays typed recovered sent high = record {
    checkpoint = lays.checkpoint;
    blocks = blocks;
    spells = spells_sent told told found laid words blocks place lays typed sent;
    recovers = front_recovers told found laid words blocks place lays recovered sent high;
  }

  -- the whole stream was put
  all_recovers : (told : Option (List Step)) (found : Found) (laid : Laid) (words : List ℕ) (blocks : List Block) (place : LogPlace) (lays : LaysBase told found.slots laid words)
      → RecoveredTold sound_law.meets told found → Sent told laid.log blocks place → place.at ≡ found.stamp
      → IfSome told (λ steps. Recovered (contents steps) lays.checkpoint blocks)
  all_recovers None found laid words blocks place lays recovered sent whole = tt
  all_recovers (Some steps) found laid words blocks place lays (pair, is) sent whole =
      let here = from_here steps found pair laid words lays is in
      let same : here.blocks ≡ blocks = all_of size most one (contents steps) laid.log place found.stamp blocks here.blocks sent.lead whole sent.there here.chain here.ends in
      record {
        pair = here.pair;
        recovers = subst (λ (bs : List Block). Recovers sound_law.meets (contents steps) here.pair bs) same here.recovers;
        checkpoint_is = here.checkpoint_is;
      }

  pub ships : (told other : Option (List Step)) (found : Found) (laid : Laid) (words : List ℕ) (a b c : Option (List ℕ)) → other ≡ told → LaysBase told found.slots laid words → AreWords (take laid.size words)
      → RecoveredTold sound_law.meets told found → Puts (bytes_of (take laid.size words)) a b → SendsAll other laid.log found.stamp b c → Shipped told a c
  ships told other found laid words a b c same lays typed recovered puts sends =
      let sent : Sent told laid.log sends.blocks sends.place = subst (λ (t : Option (List Step)). Sent t laid.log sends.blocks sends.place) same sends.sent in
      record {
        text = stream_text (take laid.size words) sends.blocks;
        is = record {
          checkpoint = lays.checkpoint;
          blocks = sends.blocks;
          spells = spells_sent told told found laid words sends.blocks sends.place lays typed sent;
          recovers = all_recovers told found laid words sends.blocks sends.place lays recovered sent sends.whole;
        };
        puts = puts_join (bytes_of (take laid.size words)) (blocks_text sends.blocks) a b c puts sends.puts;
      }

  -- ---- stops

  fails : (told other : Option (List Step)) (found : Found) (laid : Laid) (words : List ℕ) (disk disk_mid disk_now : ℕ) → other ≡ told → disk_mid ≡ disk → LaysBase told found.slots laid words
      → RecoveredTold sound_law.meets told found → Rose disk_mid disk_now ⊎ NoneLead other laid.log found.stamp → FailedToRead told disk disk_now
  fails None other found laid words disk disk_mid disk_now same same_disk lays recovered why = inr refl
  fails (Some steps) other found laid words disk disk_mid disk_now same same_disk lays (pair, is) why = elim why [
    | inl rose ↦ inl (subst (λ (n : ℕ). Rose n disk_now) same_disk rose)
    | inr none ↦
        let here = from_here steps found pair laid words lays is in
        let gone : NoneLead (Some steps) laid.log found.stamp = subst (λ (t : Option (List Step)). NoneLead t laid.log found.stamp) same none in
        absurd (gone here.blocks here.chain here.ends)
  ]

  pub stops_behind : (told other : Option (List Step)) (found : Found) (laid : Laid) (words : List ℕ) (why : ShipStop) (disk disk_mid disk_now : ℕ) (a b c : Option (List ℕ)) (sink sink_mid sink_now : ℕ)
      → other ≡ told → disk_mid ≡ disk → sink_mid ≡ sink → LaysBase told found.slots laid words → AreWords (take laid.size words) → RecoveredTold sound_law.meets told found
      → Puts (bytes_of (take laid.size words)) a b → StopsIn other laid.log found.stamp why b c disk_mid disk_now sink_mid sink_now → Stopped why told disk disk_now a c sink sink_now
  stops_behind told other found laid words why disk disk_mid disk_now a b c sink sink_mid sink_now same same_disk same_sink lays typed recovered puts stops =
      let front : List ℕ = take laid.size words in
      let sent : Sent told laid.log stops.blocks stops.place = subst (λ (t : Option (List Step)). Sent t laid.log stops.blocks stops.place) same stops.sent in
      let is = is_front told found laid words stops.blocks stops.place lays typed recovered sent stops.high in
      elim stops.how [
        | inl cut ↦ subst (λ (w : ShipStop). Stopped w told disk disk_now a c sink sink_now) (sym cut.0) (
          subst (λ (n : ℕ). Rose n sink_now) same_sink cut.2,
          record { text = stream_text front stops.blocks; front = is; puts = puts_front (bytes_of front) (blocks_text stops.blocks) a b c puts cut.1 },
        )
        | inr failed ↦ subst (λ (w : ShipStop). Stopped w told disk disk_now a c sink sink_now) (sym failed.0) (
          fails told other found laid words disk disk_mid disk_now same same_disk lays recovered failed.3,
          (stream_text front stops.blocks, inr is, puts_join (bytes_of front) (blocks_text stops.blocks) a b c puts failed.1),
          failed.2 ∙ same_sink,
        )
      ]

  -- the sink failed at the checkpoint
  pub cut_at_base : (told : Option (List Step)) (found : Found) (laid : Laid) (words : List ℕ) (disk disk_now : ℕ) (a b : Option (List ℕ)) (sink sink_now : ℕ) → found.base ≤ found.stamp → laid.log.at ≡ found.base
      → LaysBase told found.slots laid words → AreWords (take laid.size words) → RecoveredTold sound_law.meets told found
      → PutsFront (bytes_of (take laid.size words)) a b → Rose sink sink_now → Stopped stop.SinkFault told disk disk_now a b sink sink_now
  cut_at_base told found laid words disk disk_now a b sink sink_now above here lays typed recovered puts rose =
      let front : List ℕ = take laid.size words in
      let is = is_front told found laid words [] laid.log lays typed recovered (sent_nothing told laid.log) (omega (arith, above, here)) in (
        rose,
        record {
          text = stream_text front [];
          front = is;
          puts = subst (λ (t : List ℕ). PutsFront t a b) (sym (append-nil (bytes_of front))) puts;
        },
      )

-- nothing was put, and the disk fails
pub stops_before : (told : Option (List Step)) (disk disk_now : ℕ) (a b : Option (List ℕ)) (sink sink_now : ℕ) → FailedToRead told disk disk_now → b ≡ a → sink_now ≡ sink → Stopped stop.DiskFault told disk disk_now a b sink sink_now
stops_before told disk disk_now a b sink sink_now why same sound = (why, ([], inl refl, subst (λ (o : Option (List ℕ)). Puts [] a o) (sym same) (puts_nothing a)), sound)

pub misses : (told : Option (List Step)) (found : Found) (disk disk_now : ℕ) → RecoveredTold sound_law.meets told found → MissesBase told found.slots disk disk_now → FailedToRead told disk disk_now
misses None found disk disk_now recovered why = inr refl
misses (Some steps) found disk disk_now (pair, is) why = elim why [
  | inl rose ↦ inl rose
  | inr none ↦ absurd (none pair is.blocks is.slots is.recovers)
]

-- the checkpoint's place is where recovery began
pub elsewhere : (told : Option (List Step)) (found : Found) (laid : Laid) (words : List ℕ) (disk disk_now : ℕ) → LaysBase told found.slots laid words → RecoveredTold sound_law.meets told found → (laid.log.at ≡ found.base → ⊥)
    → FailedToRead told disk disk_now
elsewhere None found laid words disk disk_now lays recovered other = inr refl
elsewhere (Some steps) found laid words disk disk_now lays (pair, is) other =
    let same : lays.checkpoint ≡ shipped (best pair) = lays.recovers pair is.blocks is.slots is.recovers in
    absurd (other (lays.at ∙ ap (λ (c : Checkpoint). c.slot.stamp) same ∙ (begins (best pair)).at ∙ sym is.base_is))

pub stops_missing : (told : Option (List Step)) (found : Found) (why : ShipStop) (disk disk_now : ℕ) (a b : Option (List ℕ)) (sink sink_now : ℕ) → (why ≡ stop.DiskFault) × MissesBase told found.slots disk disk_now
    → RecoveredTold sound_law.meets told found → b ≡ a → sink_now ≡ sink → Stopped why told disk disk_now a b sink sink_now
stops_missing told found why disk disk_now a b sink sink_now is recovered same sound =
    subst (λ (w : ShipStop). Stopped w told disk disk_now a b sink sink_now) (sym is.0)
    (stops_before told disk disk_now a b sink sink_now (misses told found disk disk_now recovered is.1) same sound)

pub stops_recovery : (why : RecoverStop) (told : Option (List Step)) (disk disk_now : ℕ) (a : Option (List ℕ)) (sink : ℕ) → (why ≡ recover.NoBase → NoBaseTold sound_law.meets told) → (why ≡ recover.DiskFault → Rose disk disk_now)
    → Stopped (ship_stop why) told disk disk_now a a sink sink
stops_recovery recover.DiskFault told disk disk_now a sink none rose = stops_before told disk disk_now a a sink sink (inl (rose refl)) refl refl
stops_recovery recover.NoBase told disk disk_now a sink none rose = (none refl, refl, refl)
stops_recovery recover.Memory told disk disk_now a sink none rose = (refl, refl)

-- the same of a disk that tells what it told, and has not failed
pub stopped_since : (why : ShipStop) (told told_mid : Option (List Step)) (disk disk_mid disk_now : ℕ) (a b : Option (List ℕ)) (sink sink_now : ℕ) → told_mid ≡ told → disk_mid ≡ disk
    → Stopped why told_mid disk_mid disk_now a b sink sink_now → Stopped why told disk disk_now a b sink sink_now
stopped_since why told told_mid disk disk_mid disk_now a b sink sink_now same sound stopped =
    subst (λ (t : Option (List Step)). Stopped why t disk disk_now a b sink sink_now) same (subst (λ (n : ℕ). Stopped why told_mid n disk_now a b sink sink_now) sound stopped)

-- ---- statuses

module _ (a : Around) (still : a.told_after ≡ a.told_before) where
  pub ends_shipped : Shipped a.told_before a.written_before a.written_after → a.disk_after ≡ a.disk_before → a.sink_after ≡ a.sink_before → ShipEnds 0 a
  ends_shipped ships disk sink = record {
    known = inl refl;
    success = λ e. ships;
    sink_fault = λ e. absurd (omega (arith, e));
    disk_fault = λ e. absurd (omega (arith, e));
    no_base = λ e. absurd (omega (arith, e));
    no_memory = λ e. absurd (omega (arith, e));
    still = still;
    disk_sound = λ e. disk;
    sink_sound = λ e. sink;
  }

  pub ends_cut : Rose a.sink_before a.sink_after × CutBySink a.told_before a.written_before a.written_after → a.disk_after ≡ a.disk_before → ShipEnds 5 a
  ends_cut cut disk = record {
    known = inr (inl refl);
    success = λ e. absurd (omega (arith, e));
    sink_fault = λ e. cut;
    disk_fault = λ e. absurd (omega (arith, e));
    no_base = λ e. absurd (omega (arith, e));
    no_memory = λ e. absurd (omega (arith, e));
    still = still;
    disk_sound = λ e. disk;
    sink_sound = λ e. absurd (omega (arith, e));
  }

  pub ends_failed : (mid : Option (List ℕ)) (sink : ℕ) → Stopped stop.DiskFault a.told_before a.disk_before a.disk_after a.written_before mid a.sink_before sink
      → PrintsTo (line_text line.DiskFault) mid a.written_after sink a.sink_after → ShipEnds 6 a
  ends_failed mid sink (why, (text, front, puts), sound) printed = record {
    known = inr (inr (inl refl));
    success = λ e. absurd (omega (arith, e));
    sink_fault = λ e. absurd (omega (arith, e));
    disk_fault = λ e. (why, (text, front, prints_join text (line_text line.DiskFault) a.written_before mid a.written_after a.sink_before sink a.sink_after puts sound printed));
    no_base = λ e. absurd (omega (arith, e));
    no_memory = λ e. absurd (omega (arith, e));
    still = still;
    disk_sound = λ e. absurd (e refl);
    sink_sound = λ e. absurd (omega (arith, e));
  }

  -- a line was printed where nothing was put
  alone : (text : List ℕ) (mid : Option (List ℕ)) (sink : ℕ) → mid ≡ a.written_before → sink ≡ a.sink_before → PrintsTo text mid a.written_after sink a.sink_after
      → PrintsTo text a.written_before a.written_after a.sink_before a.sink_after
  alone text mid sink same sound printed =
      subst (λ (o : Option (List ℕ)). PrintsTo text o a.written_after a.sink_before a.sink_after) same (subst (λ (n : ℕ). PrintsTo text mid a.written_after n a.sink_after) sound printed)

  pub ends_without_base : (mid : Option (List ℕ)) (sink : ℕ) → Stopped stop.NoBase a.told_before a.disk_before a.disk_after a.written_before mid a.sink_before sink
      → PrintsTo (line_text line.NoBase) mid a.written_after sink a.sink_after → a.disk_after ≡ a.disk_before → ShipEnds 7 a
  ends_without_base mid sink (none, same, sound) printed disk = record {
    known = inr (inr (inr (inl refl)));
    success = λ e. absurd (omega (arith, e));
    sink_fault = λ e. absurd (omega (arith, e));
    disk_fault = λ e. absurd (omega (arith, e));
    no_base = λ e. (none, alone (line_text line.NoBase) mid sink same sound printed);
    no_memory = λ e. absurd (omega (arith, e));
    still = still;
    disk_sound = λ e. disk;
    sink_sound = λ e. absurd (omega (arith, e));
  }

  pub ends_starved : (mid : Option (List ℕ)) (sink : ℕ) → Stopped stop.Memory a.told_before a.disk_before a.disk_after a.written_before mid a.sink_before sink
      → PrintsTo (line_text line.NoMemory) mid a.written_after sink a.sink_after → a.disk_after ≡ a.disk_before → ShipEnds 8 a
  ends_starved mid sink (same, sound) printed disk = record {
    known = inr (inr (inr (inr refl)));
    success = λ e. absurd (omega (arith, e));
    sink_fault = λ e. absurd (omega (arith, e));
    disk_fault = λ e. absurd (omega (arith, e));
    no_base = λ e. absurd (omega (arith, e));
    no_memory = λ e. alone (line_text line.NoMemory) mid sink same sound printed;
    still = still;
    disk_sound = λ e. disk;
    sink_sound = λ e. absurd (omega (arith, e));
  }
