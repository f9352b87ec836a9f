-- Which blocks recovery meets on the disk of a desk that is set up anew: where it held the log as it was opened, nothing was flushed since then.
use Rattle.std.proofs.Common.{◌≡◌, ℕ, ◌+◌, List, [], ◌∷◌, ◌++◌, length, refl, sym, ap, ◌∙◌, subst, arith}
use Rattle.erm_block.specs.declared.block.Block.{Block}
use Rattle.erm_block.specs.Block.{IsBlock}
use Rattle.erm_block.specs.LogList.{End, IsChain}
use Rattle.erm_block.proofs.OneLogList.{same_log_list}
use Rattle.erm_block.proofs.OneSpelling.{length-spelling}
use Rattle.erm_checkpoint.specs.Taken.{HoldsLog, state_at}
use Rattle.erm_checkpoint.proofs.Taken.{place_is}
use Rattle.erm_ckpt.specs.declared.slot.Slots.{Slots}
use Rattle.erm_ckpt.specs.Recovered.{Pair, base, state_behind}
use Rattle.erm_ckpt.proofs.OneRecovery.{same_recovery}
use Rattle.erm_desk.specs.Desk.{MeetsMore}
use Rattle.erm_desk.specs.Known.{flushed_log}
use Rattle.erm_desk.proofs.Turned.{place_rises}
use Rattle.erm_model.specs.RowTransaction.{Law}
use Rattle.erm_outside.specs.Disk.{Step, contents}
use Rattle.erm_record.proofs.StoredRows.{stored_length-le, stored_whole}
use Rattle.erm_rule.specs.declared.view.Start.{Start}
use Rattle.erm_told_log.specs.Tail.{BeginBelow, MeetsTail}
use Rattle.erm_world.specs.Log.{IsLog, place_behind, words_of}

-- a front that is there has an end behind its start
none_first : (sound : _) (end : End) (place : ℕ) (front rest : List Block) → IsChain sound end (front ++ rest) → place_behind place front ≡ place → front ≡ []
none_first sound end place [] rest chain same = refl
none_first sound end place (b ∷ bs) rest chain same =
    let block : IsBlock b end.at end.run = chain.0.stands.is in
    let size = length-spelling stored_length-le b end.at end.run block in
    let up = place_rises (place + b.size) bs in
    absurd (omega (arith, size, up, same))

module _ (law : Law) (o : Start) (blocks : List Block) (log : IsLog law.meets (flushed_log o blocks)) (slots : Slots) (now : List Step) (held : HoldsLog law.meets (flushed_log o blocks) slots now) where
  module _ (earlier : List Block) (first : Slots) (was : MeetsTail law.meets earlier (flushed_log o []) first now) where
    abbrev old : HoldsLog law.meets (flushed_log o []) first now
    old = was.holds

    same : (held.pair ≡ old.pair) × (held.there.blocks ≡ old.there.blocks)
    same = same_recovery law.meets (same_log_list stored_length-le stored_whole law.meets) (contents now) held.pair old.pair held.there.blocks old.there.blocks
        held.there.recovers old.there.recovers

    -- both are behind the same place
    ends : (state_at (flushed_log o blocks) held.front).at ≡ (state_at (flushed_log o []) old.front).at
    ends = sym held.there.is.at ∙ ap (λ (p : Pair). (state_behind (base p) held.there.blocks).at) same.0 ∙ ap (λ (bs : List Block). (state_behind (base old.pair) bs).at) same.1 ∙ old.there.is.at

    abbrev start : End
    start = record { words = words_of blocks; at = o.tail; run = o.run; rows = (flushed_log o blocks).opened.rows }

    none : held.front ≡ []
    none = none_first law.meets start o.tail held.front held.rest (subst (λ (bs : List Block). IsChain law.meets start bs) held.split log.chain)
        (sym (place_is (state_at (flushed_log o blocks) []) held.front) ∙ ends ∙ old.to)

    old_none : (front rest : List Block) → [] ≡ front ++ rest → front ≡ []
    old_none [] rest split = refl
    old_none (b ∷ bs) rest split = let long : length {A = Block} [] ≡ length (b ∷ (bs ++ rest)) = ap length split in absurd (omega (arith, long))

    pub met_now : MeetsTail law.meets earlier (flushed_log o blocks) slots now
    met_now = record {
      early = was.early;
      holds = held;
      passed = was.passed;
      split = ap (λ (bs : List Block). earlier ++ bs) (none ∙ sym (old_none old.front old.rest old.split)) ∙ was.split ∙ ap (λ (bs : List Block). was.passed ++ bs) (sym same.1);
      low = subst (λ (p : Pair). BeginBelow (base p).at was.passed) (sym same.0) was.low;
    }

  pub meets_here : MeetsMore law o blocks now now
  meets_here earlier first was = (slots, met_now earlier first was)
