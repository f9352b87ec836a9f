-- The log of a quiet state, where it is flushed up to the end of blocks that are known, and others are known behind them.
use Rattle.std.proofs.Common.{◌≡◌, ℕ, ◌+◌, ◌≤◌, List, [], ◌∷◌, ◌++◌, IfSome, append-nil, refl, sym, ap, ◌∙◌, subst, arith}
use Rattle.erm_block.specs.declared.block.Block.{Block}
use Rattle.erm_closed_log.specs.Closed.{HasLog}
use Rattle.erm_closed_log.proofs.Decided.{all_upto, none_open, upto_end}
use Rattle.erm_closed_log.proofs.Over.{blocks_shown}
use Rattle.erm_closed_log.proofs.Shown.{sealed_shown, sealed_viewed}
use Rattle.erm_core_flush.specs.Turns.{Blocks}
use Rattle.erm_core_shown.specs.Shown.{shown_of}
use Rattle.erm_core_turns.specs.Turns.{blocks_below, log_of}
use Rattle.erm_core_turns.proofs.LogIs.{Lists, More, behind_upto, log_upto}
use Rattle.erm_core_view.specs.Views.{IsQuiet, pin_of, view_of}
use Rattle.erm_desk.specs.Known.{flushed_log, opened_at}
use Rattle.erm_desk.proofs.Fronts.{OneSpelling, front_of}
use Rattle.erm_desk.proofs.Listed.{log_is, words_upto}
use Rattle.erm_desk.proofs.Opened.{IsOf}
use Rattle.erm_log_disk.proofs.Chains.{chain_may_stand}
use Rattle.erm_log_list.specs.LogOf.{IsDecidedUpTo, IsLogUpTo, ranges_below}
use Rattle.erm_machine.specs.declared.limits.TheConstants.{FLUSH_SEAT}
use Rattle.erm_machine.specs.declared.place.Place.{Place}
use Rattle.erm_machine.specs.declared.place.Place.TheVariants.{Active}
use Rattle.erm_machine.specs.Core.{Core}
use Rattle.erm_machine.specs.Facts.{HasBegun}
use Rattle.erm_machine.specs.Lives.{in_progress}
use Rattle.erm_machine.proofs.Listed.{∈-head, ∈-second}
use Rattle.erm_model.specs.declared.limits.TheConstants.{SESSIONS}
use Rattle.erm_model.specs.RowTransaction.{Law}
use Rattle.erm_ring.specs.Turns.{HasBlocks}
use Rattle.erm_rule.specs.declared.view.Start.{Start}
use Rattle.erm_sound.specs.Kept.{SoundUnder}
use Rattle.erm_world.specs.Log.{IsEnd, IsLog, Log, gathered_to, place_behind, words_of}
use Rattle.erm_world.specs.Whole.{IsLogOf}

abbrev F : ℕ
F = FLUSH_SEAT

-- blocks without words are none
none_spelled : (bs : List Block) → words_of bs ≡ [] → bs ≡ []
none_spelled [] none = refl
none_spelled (b ∷ bs) none = absurd (cc)

place_rises : (at : ℕ) (bs : List Block) → at ≤ place_behind at bs
place_rises at [] = omega arith
place_rises at (b ∷ bs) = let rest = place_rises (at + b.size) bs in omega (arith, rest)

place_append : (at : ℕ) (xs ys : List Block) → place_behind at (xs ++ ys) ≡ place_behind (place_behind at xs) ys
place_append at [] ys = refl
place_append at (x ∷ xs) ys = place_append (at + x.size) xs ys

module _ (law : Law) (lists : Lists law) (more : More law) (one : OneSpelling) (o : Start) (c : Core) (under : SoundUnder law c) (quiet : IsQuiet SESSIONS c) (of : IsOf o c)
    (blocks tried : List Block) (known : IsLog law.meets (flushed_log o (blocks ++ tried)))
    (has : HasBlocks o.tail (place_behind o.tail (blocks ++ tried)) (words_of (blocks ++ tried)) c)
    (flushed : c.shared.flushed ≡ place_behind o.tail blocks) where
  -- all that are known
  abbrev all : List Block
  all = blocks ++ tried

  abbrev end : ℕ
  end = place_behind o.tail all

  -- the log of the state that was gathered to their end
  abbrev closed_log : Log
  closed_log = record (log_of SESSIONS c) { opened = opened_at o; gathered = all }

  lie : Blocks c.seats c.shared.opening has.ranges end
  lie = subst (λ (p : ℕ). Blocks c.seats p has.ranges end) (sym of.opening) has.blocks

  upto : IsDecidedUpTo c end
  upto = all_upto c under.sound has.ranges end lie

  -- they are those of the ranges below
  blocks_upto : IsLogUpTo law c end all
  blocks_upto =
      let found = lists c end under upto in
      let same = has.words_are ∙ words_upto c under.sound law end upto found.0 found.1 has.ranges lie in
      let log_all : IsLog law.meets (flushed_log o found.0) = log_is law o c under of end found.0 found.1 upto.within in
      let cut =
      front_of one law.meets all found.0 _ _ [] (chain_may_stand law.meets _ all known.chain) (chain_may_stand law.meets _ found.0 log_all.chain)
      (sym same ∙ sym (append-nil (words_of all))) in
      let rest = none_spelled cut.0 cut.2 in
      subst (IsLogUpTo law c end) (cut.1 ∙ ap (λ (bs : List Block). all ++ bs) rest ∙ append-nil all) found.1

  -- the pin, where it was gathered, is at the end of one of them
  pin_ends : (place : ℕ) → (c.seats F).current.begin ≡ place → HasBegun (c.seats F).place → place ≤ end → IsEnd closed_log place
  pin_ends place is begun low =
      let b = (c.seats F).current.begin in
      let below = upto_end c under.sound end b upto ((under.begins F).ends begun) (omega (arith, low, is)) in
      let part = log_upto law lists SESSIONS c under quiet b below in
      let rest = more c b end (blocks_below c b) all under.sound (omega (arith, low, is)) part blocks_upto in
      let ends : place_behind o.tail (blocks_below c b) ≡ b =
      ap (λ (p : ℕ). place_behind p (blocks_below c b)) (sym of.opening) ∙ behind_upto law lists SESSIONS c under quiet b (blocks_below c b) part in
      record { front = blocks_below c b; rest = rest.0; split = rest.1; behind = sym is ∙ sym ends }

  pin_at : (pl : Place) → pl ≡ (c.seats F).place
      → IfSome (pin_of pl (c.seats F).current) (λ place. (o.tail ≤ place) × (place ≤ c.shared.tail) × (place ≤ end → IsEnd closed_log place))
  pin_at (Active tail) e =
      let own = under.sound.own F in
      let low = own.lives.opened_now (ap in_progress (sym e)) in
      let past = (own.snapshot.past (c.seats F).current (∈-second (c.seats F).over ((c.seats F).current ∷ []) (c.seats F).current (∈-head (c.seats F).current []))).past in
      let opening = of.opening in
      (omega (arith, low, opening), past, λ within. pin_ends (c.seats F).current.begin refl (subst HasBegun e tt) within)
  pin_at _ e = tt

  pub closed_is : IsLog law.meets closed_log
  closed_is = record {
    opening = known.opening;
    chain = known.chain;
    one_run = known.one_run;
    flushed = record { front = blocks; rest = tried; split = refl; behind = flushed };
    within = upto.within;
    places = let low = under.sound.common.ranges.below in omega (arith, low);
    decided = none_open c under.sound SESSIONS end upto;
    pinned = pin_at (c.seats F).place refl;
  }

  pub closed_of_view : IsLogOf (view_of SESSIONS c) (log_of SESSIONS c) → IsLogOf (shown_of SESSIONS c) closed_log
  closed_of_view is = record {
    at = sym of.opening;
    run = sym of.run;
    rows = sym of.rows;
    tail = refl;
    flushed = refl;
    pinned = refl;
    undecided = λ place u. (
      λ there. sealed_shown SESSIONS c quiet place u ((is.undecided place u).0 there),
      λ there. (is.undecided place u).1 (sealed_viewed SESSIONS c quiet place u there),
    );
    blocks = blocks_shown law SESSIONS c under quiet (ranges_below end c.shared.log) all blocks_upto.of_ranges;
  }

  pub has_log : IsLogOf (view_of SESSIONS c) (log_of SESSIONS c) → HasLog law o blocks tried c
  has_log is = record {
    log = closed_log;
    is = closed_is;
    of_view = closed_of_view is;
    gathered = refl;
    opened = refl;
    flushed = refl;
    synced = flushed;
    whole = refl;
  }

-- where the state is flushed to its log's end, that is gathered to its end
pub gathered_whole : (law : Law) (o : Start) (c : Core) (blocks tried : List Block) → (has : HasLog law o blocks tried c) → c.shared.flushed ≡ c.shared.tail
    → gathered_to has.log ≡ has.log.tail
gathered_whole law o c blocks tried has whole =
    let within = has.is.within in
    let all = has.whole in
    let split = place_append o.tail blocks tried in
    let rises = place_rises (place_behind o.tail blocks) tried in
    let synced = has.synced in
    let flushed = has.flushed in
    let tail = has.of_view.tail in
    omega (arith, within, all, split, rises, synced, flushed, whole, tail)
