-- Wherever a run is stopped, the next one may go on.
use Rattle.std.proofs.Common.{◌≡◌, ℕ, List, sym, ap, ◌∙◌, subst, inl, inr}
use Rattle.erm_model.specs.Committed.{Committed}
use Rattle.erm_block.specs.declared.block.Block.{Block}
use Rattle.erm_outside.specs.Disk.{Image, OnlyWaits, Step, changes_of, contents}
use Rattle.erm_outside.proofs.Images.{reads_may_be}
use Rattle.erm_outside.proofs.Waits.{reads_stay}
use Rattle.erm_ckpt.specs.Recovered.{Pair, Recovers, RecoversAt, State, base, state_behind}
use Rattle.erm_crash.specs.Moments.{IsMoment, TearsApart}
use Rattle.erm_crash.proofs.Moments.{on_one_side}
use Rattle.erm_log_words.specs.Kept.{MayOpen}
use Rattle.erm_node.specs.Sound.{sound_law}
use Rattle.erm_recover.specs.Waiting.{IsSettledBeyond, MaySettle}
use Rattle.erm_recover.proofs.Waits.{beyond_stays, waits_before}
use Rattle.erm_disk_run.specs.Crashes.{KeepsCommits, RecoversBelow}
use Rattle.erm_disk_run.specs.Found.{IsKept}
use Rattle.erm_disk_run.proofs.TwoRuns.{RecoversOnce}

-- a disk that may be opened may be so while it is waited
kept_waits : (old now : List Step) → IsKept old → OnlyWaits old now → IsKept now
kept_waits old now kept waits =
    let reads : contents now ≡ contents old = reads_stay old now waits in
    record {
      beyond = λ pair blocks recovers.
          beyond_stays (base pair).at (state_behind (base pair) blocks).at old now waits
          (kept.beyond pair blocks (subst (λ (image : Image). Recovers sound_law.meets image pair blocks) reads recovers));
      opens = subst (MayOpen (RecoversAt sound_law.meets)) (sym reads) kept.opens;
    }

-- a disk that recovers so may be opened
followed_now : RecoversOnce → (commits : List Committed) (from : State) (place : ℕ) (now : List Step) → RecoversBelow commits from place now (contents now) → IsKept now
followed_now once commits from place now below = record {
  beyond = λ pair blocks recovers.
      let same = once (contents now) below.pair pair below.there.blocks blocks below.there.recovers recovers in
      let states : state_behind (base below.pair) below.there.blocks ≡ state_behind (base pair) blocks =
      ap (λ (p : Pair). state_behind (base p) below.there.blocks) same.0 ∙ ap (λ (bs : List Block). state_behind (base pair) bs) same.1
      in
      subst (λ (n : ℕ). IsSettledBeyond n (state_behind (base pair) blocks).at now) (ap (λ (p : Pair). (base p).at) same.0)
      (subst (λ (n : ℕ). IsSettledBeyond (base below.pair).at n now) (sym below.there.is.at ∙ ap (λ (s : State). s.at) states) below.stops);
  opens = below.opens;
}

pub may_be_followed : RecoversOnce → (commits : List Committed) (from : State) (old new now : List Step) → IsKept old → MaySettle (KeepsCommits commits from from.at) old new → IsMoment old new now
    → TearsApart sound_law.meets now (contents now) → IsKept now
may_be_followed once commits from old new now kept (inl waits) m tears = kept_waits old now kept (waits_before old new now waits m.before m.since m.after m.later)
may_be_followed once commits from old new now kept (inr s) m tears = elim (on_one_side old s.mid new now s.waits.0 s.since.0.0 s.waits.1 s.since.0.1 m) [
  | inl early ↦ kept_waits old now kept (waits_before old s.mid now s.waits early.before early.since early.after early.later)
  | inr late ↦ followed_now once commits from from.at now (s.since.1 now late (contents now) (λ file. reads_may_be (changes_of file now)) tears)
]
