-- The blocks up to a place at which a range of the log ends, and the rows there.
use Rattle.std.proofs.Common.{◌≡◌, ℕ, ◌≤◌, List, [], ◌++◌, length, sym, ap, ◌∙◌, subst, append-nil, arith}
use Rattle.erm_block.specs.declared.block.Block.{Block}
use Rattle.erm_block.specs.LogList.{End}
use Rattle.erm_checkpoint.proofs.Past.{goes_longer}
use Rattle.erm_checkpoint.proofs.Taken.{stands_from}
use Rattle.erm_core_flush.specs.Turns.{Blocks}
use Rattle.erm_core_ssn.proofs.RowsRun.{one_newest}
use Rattle.erm_core_turns.proofs.Blocks.{decided_upto}
use Rattle.erm_core_turns.proofs.LogIs.{Lists, More, end_rows}
use Rattle.erm_flush.specs.Turns.{start_of}
use Rattle.erm_flush.proofs.Flushes.{same_place}
use Rattle.erm_flush.proofs.Progress.{one_cut}
use Rattle.erm_log_disk.specs.Chains.{MayStand}
use Rattle.erm_log_disk.proofs.Chains.{chain_may_stand}
use Rattle.erm_log_list.specs.LogOf.{IsDecidedUpTo, IsLogUpTo, log_start, words_of}
use Rattle.erm_machine.specs.declared.limits.TheConstants.{FLUSH_SEAT}
use Rattle.erm_machine.specs.Core.{Core}
use Rattle.erm_machine.specs.Decided.{history_of}
use Rattle.erm_machine.specs.Lawful.{opening_rows}
use Rattle.erm_machine.specs.Log.{IsEnd}
use Rattle.erm_model.specs.History.{IsCertified, IsNewestBelow, IsSnapshot}
use Rattle.erm_model.specs.RowTransaction.{Law}
use Rattle.erm_model.specs.Rows.{Rows}
use Rattle.erm_record.specs.Stored.{stored_length}
use Rattle.erm_ring.specs.Turns.{HasBlocks}
use Rattle.erm_rule.specs.declared.view.Start.{Start}
use Rattle.erm_sound.specs.Kept.{SoundUnder}
use Rattle.erm_world.specs.Log.{IsLog, place_behind, rows_behind}
use Rattle.erm_world.specs.Log as world
use Rattle.erm_desk.specs.Known.{flushed_log, opened_at}
use Rattle.erm_desk.proofs.Fronts.{OneSpelling, front_of}
use Rattle.erm_desk.proofs.Listed.{ends_at, log_is, words_upto}
use Rattle.erm_desk.proofs.Opened.{IsOf}

-- of these blocks a front ends at the place, and it is the log up to there
pub record UpTo (law : Law) (o : Start) (c : Core) (blocks : List Block) (place : ℕ) : Type 0 where
  pub front : List Block
  pub rest : List Block
  pub split : blocks ≡ front ++ rest
  pub behind : place ≡ place_behind o.tail front
  pub part : IsLogUpTo law c place front

module _ (law : Law) (lists : Lists law) (more : More law) (one : OneSpelling) (short : (row : List ℕ) → stored_length row ≤ length row) (o : Start) (c : Core) (under : SoundUnder law c) (of : IsOf o c)
    (blocks : List Block) (log : IsLog law.meets (flushed_log o blocks)) (has : HasBlocks o.tail (place_behind o.tail blocks) (world.words_of blocks) c) where
  abbrev to : ℕ
  to = place_behind o.tail blocks

  abbrev start : End
  start = start_of (flushed_log o blocks)

  pub up_to : (place : ℕ) → IsEnd c.shared place → IsDecidedUpTo c to → to ≤ (c.seats FLUSH_SEAT).gathered_to → place ≤ to → UpTo law o c blocks place
  up_to place ends upto low within =
      let all = lists c to under upto in
      let lie = subst (λ (p : ℕ). Blocks c.seats p has.ranges to) (sym of.opening) has.blocks in
      let same = has.words_are ∙ words_upto c under.sound law to upto all.0 all.1 has.ranges lie in
      let log_all : IsLog law.meets (flushed_log o all.0) = log_is law o c under of to all.0 all.1 upto.within in
      let cut = front_of one law.meets blocks all.0 _ _ [] (chain_may_stand law.meets _ blocks log.chain) (chain_may_stand law.meets _ all.0 log_all.chain) (sym same ∙ sym (append-nil (world.words_of blocks))) in
      let here = decided_upto c place under.sound ends (omega (arith, low, within)) in
      let part = lists c place under here in
      let rest = more c place to part.0 all.0 under.sound within part.1 all.1 in
      let stand : MayStand law.meets start (part.0 ++ rest.0) = subst (MayStand law.meets start) rest.1 (stands_from law.meets (flushed_log o all.0) log_all) in
      let at : place_behind o.tail part.0 ≡ place = ends_at law o c under of place part.0 part.1 in
      let at_part = same_place start part.0 in
      let at_all = same_place start blocks in
      let longer = goes_longer short law.meets start part.0 rest.0 blocks cut.0 stand (sym rest.1 ∙ cut.1) (omega (arith, at, at_part, at_all, within)) in
      record { front = part.0; rest = longer.more; split = longer.front; behind = sym at; part = part.1 }

  -- and the rows there are those behind that front
  rows_there : (place : ℕ) (front : List Block) → (is : IsLogUpTo law c place front) → rows_behind (opened_at o).rows front ≡ is.rows
  rows_there place front is =
      ap (λ (r : Rows). rows_behind r front) (sym of.rows) ∙ sym (end_rows front (log_start c (words_of front ++ []))) ∙ ap (λ (e : End). e.rows) (is.ends [])

  -- so that the newest row below the place is that behind each front that ends there
  pub row_there : IsCertified (history_of c.seats) → IsSnapshot (history_of c.seats) (opening_rows c.shared) → (place : ℕ) → UpTo law o c blocks place
      → (oid stamp : ℕ) (row : List ℕ) → IsNewestBelow (history_of c.seats) (opening_rows c.shared) oid place stamp row
      → (front rest : List Block) → blocks ≡ front ++ rest → place ≡ place_behind o.tail front → row ≡ rows_behind (opened_at o).rows front oid
  row_there certified snapshot place u oid stamp row newest front rest split at =
      let stand : MayStand law.meets start (front ++ rest) = subst (MayStand law.meets start) split (stands_from law.meets (flushed_log o blocks) log) in
      let same = one_cut short law.meets start front rest u.front u.rest stand (sym split ∙ u.split) (sym (same_place start front) ∙ sym at ∙ u.behind ∙ same_place start u.front) in
      let other = u.part.newest oid in
      (one_newest (history_of c.seats) (opening_rows c.shared) snapshot certified oid place stamp other.0 row (u.part.rows oid) newest other.1).1
      ∙ sym (ap (λ (rows : Rows). rows oid) (rows_there place u.front u.part))
      ∙ ap (λ (bs : List Block). rows_behind (opened_at o).rows bs oid) (sym same.front)
