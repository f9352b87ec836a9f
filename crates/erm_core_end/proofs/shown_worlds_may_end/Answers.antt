use Rattle.std.proofs.Common.{ℕ, ◌≤◌, sym, ap, subst, arith}
use Rattle.erm_model.specs.History.{History, IsPredecessorStamp, IsSuccessorStamp, Makes}
use Rattle.erm_model.specs.Member.{◌∈◌}
use Rattle.erm_machine.specs.Decided as machine
use Rattle.erm_machine.specs.Facts.{all_of}
use Rattle.erm_world.specs.World.{Work, record_of}
use Rattle.erm_core_shown.proofs.Parts.{has_stamp}
use Rattle.erm_core_end.proofs.Excluded.{claim_of, numbers_fit, skip_decided}
use Rattle.erm_core_end.proofs.Shown.{shown_skipped, shown_within}
use Rattle.erm_core_end.proofs.shown_worlds_may_end.Goals as goal

pub returns : goal.returns
returns c sessions core under alone only =
    let sound = under.sound in
    let same = c.states_show_the_history.ensures.history sessions core sound only in
    record {
      serializable = c.states_are_serializable.ensures sessions core under only;
      excluded = λ seat w stamp succ pred session m.
          let at = shown_skipped core seat w stamp succ pred sound m in
          let t = at.is.attempt in
          let fits = c.numbers_are_of_commits.ensures.decided core seat t sound at.is.stands at.drawn (skip_decided t.decision at.is.skip).0 in
          subst (λ (h : History). IsSuccessorStamp h (λ u. u.succ) (record_of seat w stamp succ pred) × IsPredecessorStamp h pred (record_of seat w stamp succ pred) × (succ ≤ pred)) (sym same)
          (numbers_fit (machine.history_of core.seats) seat (all_of (core.seats seat)) w stamp succ pred at.is fits);
      alone = λ seat w stamp succ pred d u session m claimed within makes less.
          let is = (shown_skipped core seat w stamp succ pred sound m).is in
          let claim = claim_of (all_of (core.seats seat)) w stamp succ pred is d claimed in
          let below = c.claims_are_exclusive.ensures core seat is.attempt claim.0 u sound alone is.stands claim.1
          (subst (λ (h : History). u ∈ h) same within) (subst (λ (n : ℕ). Makes u n) (sym claim.2) makes) (omega (arith, less, is.stamp_is)) in
          omega (arith, below, ap (λ (v : Work). v.begin) is.work);
      reach = λ seat w stamp session has.
          let at = has_stamp sessions core seat w stamp sound has in
          shown_within sessions core sound only stamp (let drawn = (sound.own seat).decided.drawn at.attempt at.stands in omega (arith, drawn, at.stamp_is));
      tail = shown_within sessions core sound only core.shared.tail (omega arith);
      within = λ seat w stamp session has.
          let at = has_stamp sessions core seat w stamp sound has in
          let drawn = (sound.own seat).decided.drawn at.attempt at.stands in
          let below = sound.common.ranges.below in
          omega (arith, drawn, at.stamp_is, below);
    }
