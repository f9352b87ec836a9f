use Rattle.std.proofs.Common.{ℕ, ◌≤◌, sym, ap, subst, arith}
use Rattle.erm_model.specs.History.{History, IsPredecessorStamp, IsSuccessorStamp, Makes}
use Rattle.erm_model.specs.Member.{◌∈◌}
use Rattle.erm_machine.specs.Decided as machine
use Rattle.erm_world.specs.World.{Work, record_of}
use Rattle.erm_core_view.proofs.Parts.{has_stamped, over_stands}
use Rattle.erm_core_end.proofs.Excluded.{claim_of, numbers_fit, skip_decided, skipped}
use Rattle.erm_core_end.proofs.Sealed.{within_blocks}
use Rattle.erm_core_end.proofs.views_may_end.Goals as goal

pub returns : goal.returns
returns c sessions core under alone quiet =
    let sound = under.sound in
    let same = c.views_have_the_history.ensures sessions core sound quiet in
    record {
      serializable = c.views_are_serializable.ensures sessions core under quiet;
      excluded = λ seat w stamp succ pred session m.
          let is = skipped (core.seats seat).over w stamp succ pred m in
          let stands = over_stands (core.seats seat) is.attempt is.stands in
          let fits = c.numbers_are_of_commits.ensures.decided core seat is.attempt sound stands ((sound.own seat).lives.drawn is.attempt is.stands (skip_decided is.attempt.decision is.skip).1)
          (skip_decided is.attempt.decision is.skip).0 in
          subst (λ (h : History). IsSuccessorStamp h (λ u. u.succ) (record_of seat w stamp succ pred) × IsPredecessorStamp h pred (record_of seat w stamp succ pred) × (succ ≤ pred)) (sym same)
          (numbers_fit (machine.history_of core.seats) seat (core.seats seat).over w stamp succ pred is fits);
      alone = λ seat w stamp succ pred d u session m claimed within makes less.
          let is = skipped (core.seats seat).over w stamp succ pred m in
          let claim = claim_of (core.seats seat).over w stamp succ pred is d claimed in
          let below = c.claims_are_exclusive.ensures core seat is.attempt claim.0 u sound alone (over_stands (core.seats seat) is.attempt is.stands) claim.1
          (subst (λ (h : History). u ∈ h) same within) (subst (λ (n : ℕ). Makes u n) (sym claim.2) makes) (omega (arith, less, is.stamp_is)) in
          omega (arith, below, ap (λ (v : Work). v.begin) is.work);
      reach = λ seat w stamp session has.
          let at = has_stamped sessions core seat w stamp sound quiet session has in
          within_blocks sessions core sound quiet stamp (let drawn = (sound.own seat).decided.drawn at.attempt at.stands in omega (arith, drawn, at.stamp_is));
      tail = within_blocks sessions core sound quiet core.shared.tail (omega arith);
      within = λ seat w stamp session has.
          let at = has_stamped sessions core seat w stamp sound quiet session has in
          let drawn = (sound.own seat).decided.drawn at.attempt at.stands in
          let below = sound.common.ranges.below in
          omega (arith, drawn, at.stamp_is, below);
    }
