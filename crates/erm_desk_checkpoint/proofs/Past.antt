-- A disk that holds a log past the place at which it is pinned.
use Rattle.std.proofs.Common.{◌≡◌, ℕ, ◌<◌, ◌≤◌, List, Option, Some, IfSome, ap, ◌∙◌, subst, arith}
use Rattle.erm_checkpoint.specs.Taken.{HoldsLog, HoldsLogPast}
use Rattle.erm_ckpt.specs.declared.slot.Slots.{Slots}
use Rattle.erm_ckpt.specs.declared.slot.TheConstants.{LOG_START}
use Rattle.erm_desk.specs.Desk.{Sees}
use Rattle.erm_desk.specs.Known.{HasEnded, HasStopped, KnowsLog}
use Rattle.erm_desk.specs.Turns.{DidLook}
use Rattle.erm_desk.proofs.Stays.{tail_later}
use Rattle.erm_desk.proofs.Turned.{DeskLaws, all_some}
use Rattle.erm_flush.specs.Over as over
use Rattle.erm_flush.specs.Turns.{GoesOn, HoldsFrom, IsReady}
use Rattle.erm_model.specs.RowTransaction.{Law}
use Rattle.erm_outside.specs.Disk.{Step}
use Rattle.erm_rule.specs.declared.view.Book.{Book}
use Rattle.erm_world.specs.declared.gathered.Gathered.TheVariants.{Empty}
use Rattle.erm_world.specs.Log.{IsEnd, IsLog, Log, gathered_to}
use Rattle.erm_desk_checkpoint.specs.Turns.{HoldsKnown, MayFlushPast}
use Rattle.erm_desk_checkpoint.proofs.Flushed.{Lasted, goes_on, begins, lasts_now, rises}
use Rattle.erm_desk_checkpoint.proofs.Logs.{known_flushed}

-- what the crate below says of a log that was flushed to a place or past it, and of one at its place flushed
abbrev pub Passes : Law → Type 0
Passes law = (before now : Log) (slots : Slots) (old new : List Step) (place : ℕ) → HoldsLog law.meets before slots old → HoldsFrom law.meets before.flushed now old new → IsReady now new
    → GoesOn before now → IsLog law.meets now → LOG_START < now.opened.at → before.flushed ≤ place → place ≤ now.flushed → IsEnd now place → HoldsLogPast law.meets now slots place new

abbrev pub Stands : Law → Type 0
Stands law = (log : Log) (slots : Slots) (steps : List Step) → HoldsLog law.meets log slots steps → HoldsLogPast law.meets log slots log.flushed steps

-- a log that is pinned at a place at which it is flushed, or below it
pub pin_end : (law : Law) (b : Book) (m : Log) (place : ℕ) → KnowsLog law b m → m.pinned ≡ Some place → place ≤ m.flushed → IsEnd m place
pin_end law b m place know pin low =
    let had = subst (λ (p : Option ℕ). IfSome p (λ at. (m.opened.at ≤ at) × (at ≤ m.tail) × (at ≤ gathered_to m → IsEnd m at))) pin know.end.is_log.pinned in
    let all = known_flushed law b m know in
    had.2 (omega (arith, low, all))

pub pin_tail : (law : Law) (b : Book) (m : Log) (place : ℕ) → KnowsLog law b m → m.pinned ≡ Some place → place ≤ m.tail
pin_tail law b m place know pin =
    (subst (λ (p : Option ℕ). IfSome p (λ at. (m.opened.at ≤ at) × (at ≤ m.tail) × (at ≤ gathered_to m → IsEnd m at))) pin know.end.is_log.pinned).1

module _ (law : Law) (laws : DeskLaws law) (slots : Slots) (l : Log) (s t : Sees) (k : HoldsKnown law slots l s) (place : ℕ) (may : MayFlushPast place l) where
  -- it was flushed past it
  pub past_now : (passes : Passes law) (end : ℕ) (m : Log) (know : KnowsLog law t.book m) (did : over.Flushes law.meets HasStopped end l m s.book t.book s.told t.told) → place ≤ end
      → IfSome t.told (HoldsLogPast law.meets m slots place)
  past_now passes end m know did high =
      let g = did.gathers in
      let up = rises law laws slots l s t k may.behind end m know did in
      let to = did.flushed in
      let pin : m.pinned ≡ Some place = ap (λ (x : Log). x.pinned) g.log ∙ may.pinned in
      let is = know.end.is_log in
      let far : place ≤ m.flushed = omega (arith, high, to) in
      all_some (Lasted law laws slots l s k may.behind m g.more.0 g.log g.more.1 is) (HoldsLogPast law.meets m slots place) t.told
      (λ new d. passes (record l { tail = m.tail }) m slots d.old new place d.held d.from d.ready (goes_on law laws slots l s k may.behind m g.more.0 g.log g.more.1 is (omega (arith, up))) is
      (begins law laws slots l s k may.behind m g.more.0 g.log g.more.1 is) may.low far (pin_end law t.book m place know pin far))
      (lasts_now law laws slots l s t k may.behind end m know did)

  -- it was flushed as far
  pub past_here : Stands law → HoldsKnown law slots l t → place ≤ l.flushed → IfSome t.told (HoldsLogPast law.meets l slots place)
  past_here stands now high =
      let low = may.low in
      let same : l.flushed ≡ place = omega (arith, low, high) in
      all_some (HoldsLog law.meets l slots) (HoldsLogPast law.meets l slots place) t.told
      (λ new held. subst (λ (p : ℕ). HoldsLogPast law.meets l slots p new) same (stands l slots new held)) now.holds

  -- where nothing more was to gather at the log's end, it is flushed up to the pin
  pub ended_past : (at : ℕ) → at ≡ l.flushed → (words : List ℕ) → DidLook law s.book (Empty at) words t.book → HasEnded s.book at t.book → place ≤ l.flushed
  ended_past at same words look ended =
      let did = look.gathers in
      let w = ended did.known.core did.is in
      let tail = k.knows.end.ended w.start w.is in
      let on = tail_later w.start w.state w.since in
      let met = w.met in
      let pin = pin_tail law s.book l place k.knows may.pinned in
      omega (arith, same, tail, on, met, pin)
