-- Turns one after another: what they make of a log that was known before the first, and of the disk.
use Rattle.std.proofs.Common.{◌≡◌, ◌⊎◌, ◌<◌, ℕ, false, List, [], ◌++◌, Result, Ok, Err, inl, inr, sym, ap, ◌∙◌, subst, append_assoc}
use Rattle.erm_block.specs.declared.block.Block.{Block}
use Rattle.erm_checkpoint.specs.Taken.{state_at}
use Rattle.erm_ckpt.specs.declared.slot.Slots.{Slots}
use Rattle.erm_ckpt.specs.declared.slot.TheConstants.{LOG_START}
use Rattle.erm_crash.specs.Kept.{KeepsBlocks}
use Rattle.erm_desk.specs.Desk.{Sees}
use Rattle.erm_desk.specs.Known.{KnowsBlocks, KnowsLog}
use Rattle.erm_desk.proofs.Turned.{DeskLaws}
use Rattle.erm_flush.specs.declared.stops.FlushStop.{FlushStop}
use Rattle.erm_flush.specs.declared.stops.FlushStop.TheVariants as stop
use Rattle.erm_model.specs.RowTransaction.{Law}
use Rattle.erm_outside.specs.Disk.{Tells}
use Rattle.erm_rule.specs.declared.view.Start.{Start}
use Rattle.erm_world.specs.Log.{Log, words_of}
use Rattle.erm_world.specs.Log as world
use Rattle.erm_desk_checkpoint.specs.Turns.{FlushesOn, HoldsKnown, MayTurn, TurnsOn, WritesBehind}
use Rattle.erm_desk_checkpoint.proofs.Flushed.{both_on, kept_on, wrote_on}
use Rattle.erm_desk_checkpoint.proofs.Logs.{known_all, state_from}
use Rattle.erm_desk_checkpoint.proofs.Steps.{steps_start}

-- turns flushed a log that was known, as far as this one
pub record Flushed (law : Law) (o : Start) (slots : Slots) (s t : Sees) : Type 0 where
  pub before : Log
  pub may : MayTurn law o slots before s
  pub now : Log
  pub on : FlushesOn law before now s t
  pub held : HoldsKnown law slots now t

-- no turn has been taken yet, or some flushed
abbrev pub SoFar : Law → Start → Slots → Sees → Sees → Type 0
SoFar law o slots s t = (t ≡ s) ⊎ Flushed law o slots s t

-- the log goes on there
module _ (law : Law) (o : Start) (slots : Slots) (l m : Log) (s t : Sees) (may : MayTurn law o slots l s) (on : FlushesOn law l m s t) where
  pub on_may : HoldsKnown law slots m t → MayTurn law o slots m t
  on_may held = record {
    start = steps_start law s.book t.book on.steps ∙ may.start;
    behind = subst (λ (x : world.Start). LOG_START < x.at) (sym on.opened) may.behind;
    holds = held;
  }

  -- nothing else than words behind the place flushed before was written
  pub on_behind : KnowsLog law t.book m → WritesBehind law o l s t
  on_behind know = record {
    knew = may.holds.knows;
    blocks = on.blocks;
    knows = subst (KnowsBlocks law o t.book) on.more (known_all law t.book m know o (steps_start law s.book t.book on.steps ∙ may.start));
    writes = on.writes;
    keeps = subst (λ (bs : List Block). Tells (KeepsBlocks law.meets (state_at l []) bs l.flushed) s.told t.told) on.more
        (subst (λ (x : world.Start). Tells (KeepsBlocks law.meets (state_from x) m.gathered l.flushed) s.told t.told) on.opened on.keeps);
  }

module _ (law : Law) (laws : DeskLaws law) (o : Start) (slots : Slots) where
  -- WHAT A TURN did
  pub did_behind : (answer : Result ℕ FlushStop) (l : Log) (s t : Sees) → MayTurn law o slots l s → TurnsOn law slots answer l s t → WritesBehind law o l s t
  did_behind (Ok end) l s t may (m, on, held, to) = on_behind law o slots l m s t may on held.knows
  did_behind (Err (stop.Empty at)) l s t may (on, held) = on_behind law o slots l l s t may on held.knows
  did_behind (Err (stop.Unfilled at)) l s t may (on, held) = on_behind law o slots l l s t may on held.knows
  did_behind (Err stop.DiskFault) l s t may f = record {
    knew = may.holds.knows;
    blocks = f.blocks;
    knows = subst (λ (x : Start). KnowsBlocks law x t.book (l.gathered ++ f.blocks)) (steps_start law s.book t.book f.steps ∙ may.start) f.knows_all;
    writes = f.writes;
    keeps = f.keeps;
  }
  did_behind (Err stop.Failed) l s t may none = absurd none

  -- ONE MORE
  module _ (s u t : Sees) (known : u.failed ≡ false → (l : Log) × MayTurn law o slots l u) where
    pub one_more : (end : ℕ) → SoFar law o slots s u → u.failed ≡ false → ((l : Log) → MayTurn law o slots l u → TurnsOn law slots (Ok end) l u t) → Flushed law o slots s t
    one_more end (inl same) fine turn =
        let (l, may) = known fine in
        let (m, on, held, to) = turn l may in
        subst (λ (x : Sees). Flushed law o slots x t) same (record { before = l; may = may; now = m; on = on; held = held })
    one_more end (inr f) fine turn =
        let (m, on, held, to) = turn f.now (on_may law o slots f.before f.now s u f.may f.on f.held) in
        record { before = f.before; may = f.may; now = m; on = both_on law laws f.before f.now m s u t f.on on; held = held }

    -- and the one that stopped
    behind_both : (l m : Log) → MayTurn law o slots l s → FlushesOn law l m s u → WritesBehind law o m u t → WritesBehind law o l s t
    behind_both l m may on w = record {
      knew = may.holds.knows;
      blocks = on.blocks ++ w.blocks;
      knows = subst (KnowsBlocks law o t.book) (ap (λ (bs : List Block). bs ++ w.blocks) on.more ∙ append_assoc l.gathered on.blocks w.blocks) w.knows;
      writes = wrote_on law laws l m s u t on w.blocks w.writes;
      keeps = kept_on law laws l m s u t on w.blocks w.keeps;
    }

    pub all_behind : (why : FlushStop) → SoFar law o slots s u → s.failed ≡ false → ((l : Log) → MayTurn law o slots l u → TurnsOn law slots (Err why) l u t)
        → (l : Log) × WritesBehind law o l s t
    all_behind why (inl same) fine turn =
        let (l, may) = known (ap (λ (x : Sees). x.failed) same ∙ fine) in
        subst (λ (x : Sees). (l : Log) × WritesBehind law o l x t) same (l, did_behind (Err why) l u t may (turn l may))
    all_behind why (inr f) fine turn =
        let may = on_may law o slots f.before f.now s u f.may f.on f.held in
        (f.before, behind_both f.before f.now f.may f.on (did_behind (Err why) f.now u t may (turn f.now may)))
