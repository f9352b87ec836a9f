-- The order in which a run comes to the places that it acknowledges.
use Rattle.std.proofs.Common.{◌≡◌, ℕ, ◌<◌, List, sym, ap, ◌∙◌, arith, inl, inr}
use Rattle.erm_model.specs.Committed.{Committed}
use Rattle.erm_outside.specs.Disk.{Step, changes_of, contents}
use Rattle.erm_outside.proofs.Images.{reads_may_be}
use Rattle.erm_ckpt.specs.Recovered.{Pair, State, base, state_behind}
use Rattle.erm_block.specs.declared.block.Block.{Block}
use Rattle.erm_crash.specs.Moments.{TearsApart}
use Rattle.erm_crash.proofs.Moments.{two_cuts}
use Rattle.erm_node.specs.Sound.{sound_law}
use Rattle.erm_report.specs.declared.answer.Answer.{Answer}
use Rattle.erm_log_run.specs.Acknowledged.{GoesOnFrom}
use Rattle.erm_disk_run.specs.Crashes.{KeepsSince, RecoversBelow}
use Rattle.erm_disk_run.proofs.TwoRuns.{RecoversOnce}

-- of two moments the one at which the disk recovers to less is the earlier one
pub reached_later : RecoversOnce → (commits : List Committed) (from : State) (a b : Answer) (place other : ℕ) (old new : List Step) (one : KeepsSince commits from a place old new) (two : KeepsSince commits from b other old new)
    → TearsApart sound_law.meets one.mid (contents one.mid) → one.holds.found.at < other → GoesOnFrom one.mid two.mid
reached_later once commits from a b place other old new one two tears less =
    elim (two_cuts one.moment.after one.mid two.moment.after two.mid (sym one.moment.later ∙ two.moment.later)) [
      | inl cut ↦ (cut.between, cut.behind)
      | inr cut ↦ absurd (
          let below : RecoversBelow commits from other one.mid (contents one.mid) =
          two.keeps.1 one.mid (record { before = cut.between; since = cut.behind; after = one.moment.after; later = one.moment.later }) (contents one.mid)
          (λ file. reads_may_be (changes_of file one.mid)) tears
          in
          let there = one.holds.there in
          let same = once (contents one.mid) one.holds.pair below.pair there.blocks below.there.blocks there.recovers below.there.recovers in
          let states : state_behind (base one.holds.pair) there.blocks ≡ state_behind (base below.pair) below.there.blocks =
          ap (λ (p : Pair). state_behind (base p) there.blocks) same.0 ∙ ap (λ (bs : List Block). state_behind (base below.pair) bs) same.1
          in
          let at : one.holds.found.at ≡ below.found.at = sym there.is.at ∙ ap (λ (s : State). s.at) states ∙ below.there.is.at in
          let low = below.low in
          omega (arith, low, at, less))
    ]
