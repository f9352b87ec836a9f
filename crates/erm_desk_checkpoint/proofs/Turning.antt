-- A turn on the way to a place: what it makes of a log that is known.
use Rattle.std.proofs.Common.{◌≡◌, ℕ, ◌<◌, ◌≤◌, false, IfSome, Result, Ok, Err, refl, sym, ◌∙◌, subst, arith}
use Rattle.erm_checkpoint.specs.declared.stops.CheckpointStop.TheVariants as why
use Rattle.erm_checkpoint.specs.Taken.{HoldsLog}
use Rattle.erm_ckpt.specs.declared.slot.Slots.{Slots}
use Rattle.erm_ckpt.specs.declared.slot.TheConstants.{LOG_START}
use Rattle.erm_desk.specs.Desk.{Sees}
use Rattle.erm_desk.specs.Known.{AwaitsLog, HasEnded, HasStopped, KnowsLog}
use Rattle.erm_desk.specs.Turns.{DidLook, DidStore, FlushSteps}
use Rattle.erm_desk.proofs.Stepped.{no_steps, turn_steps}
use Rattle.erm_desk.proofs.Turned.{DeskLaws, all_some}
use Rattle.erm_flush.specs.declared.stops.FlushStop.{FlushStop}
use Rattle.erm_flush.specs.declared.stops.FlushStop.TheVariants as stop
use Rattle.erm_flush.specs.Over.{TurnsKnown, TurnsOver}
use Rattle.erm_flush.specs.Turns.{Counts, IsReady}
use Rattle.erm_model.specs.RowTransaction.{Law}
use Rattle.erm_outside.specs.Disk.{IsSettled}
use Rattle.erm_ring.specs.Turns.{MayGather, WasOpen}
use Rattle.erm_world.specs.Log.{Log}
use Rattle.erm_world.specs.Log as world
use Rattle.erm_desk_checkpoint.specs.Turns.{FlushesOn, FlushesPast, HoldsKnown, MayFlushPast, TurnsOn}
use Rattle.erm_desk_checkpoint.proofs.Flushed.{both_on, failed_on, flushed_on, held_on, still_held, still_on}
use Rattle.erm_desk_checkpoint.proofs.Past.{Passes, Stands, ended_past, past_here, past_now}

-- what a turn did, and what that means for each log that is known
pub record Turns (law : Law) (answer : Result ℕ FlushStop) (s t : Sees) : Type 0 where
  pub did : TurnsOver (DidLook law) (DidStore law) answer s.failed t.failed s.book t.book s.told t.told
  pub counts : Counts answer s.faults t.faults
  pub known : (l : Log) → KnowsLog law s.book l → (s.failed ≡ false → IfSome s.told (IsReady l))
      → TurnsKnown law.meets (KnowsLog law) (AwaitsLog law) HasEnded WasOpen HasStopped answer l s.book t.book s.told t.told
  pub may : MayGather t.book.view

-- nothing is pending before
pub settled_held : (law : Law) (slots : Slots) (l : Log) (s : Sees) → HoldsKnown law slots l s → IfSome s.told IsSettled
settled_held law slots l s k = all_some (HoldsLog law.meets l slots) IsSettled s.told (λ now held. held.ready.settled) k.holds

-- nothing is done yet
pub nothing_on : (law : Law) (laws : DeskLaws law) (slots : Slots) (l : Log) (s : Sees) → HoldsKnown law slots l s → FlushesOn law l l s s
nothing_on law laws slots l s k = still_on law laws slots l s s k k.knows refl refl (no_steps law s.book)

pub ready_held : (law : Law) (slots : Slots) (l : Log) (s : Sees) → HoldsKnown law slots l s → s.failed ≡ false → IfSome s.told (IsReady l)
ready_held law slots l s k fine = all_some (HoldsLog law.meets l slots) (IsReady l) s.told (λ now held. record { settled = held.ready.settled; fresh = held.ready.fresh }) k.holds

pub steps_of : (law : Law) (answer : Result ℕ FlushStop) (s t : Sees) → Turns law answer s t → FlushSteps law s.book t.book
steps_of law answer s t turn = turn_steps law answer s.failed t.failed s.book t.book s.told t.told turn.did

-- WHAT A TURN MAKES of a log that is known
module _ (law : Law) (laws : DeskLaws law) (slots : Slots) (l : Log) (s : Sees) (k : HoldsKnown law slots l s) (behind : LOG_START < l.opened.at) where
  idle : (t : Sees) (know : KnowsLog law t.book l) → t.told ≡ s.told → t.faults ≡ s.faults → t.failed ≡ false → MayGather t.book.view → FlushSteps law s.book t.book
      → FlushesOn law l l s t × HoldsKnown law slots l t
  idle t know told faults fine gathers steps = (still_on law laws slots l s t k know told faults steps, still_held law laws slots l s t k know told fine gathers)

  pub turned_on : (answer : Result ℕ FlushStop) (t : Sees) → Turns law answer s t → TurnsOn law slots answer l s t
  turned_on (Ok end) t turn =
      let (m, know, did) = turn.known l k.knows (ready_held law slots l s k) in (
        m,
        flushed_on law laws slots l s t k behind end m know did turn.counts (steps_of law (Ok end) s t turn),
        held_on law laws slots l s t k behind end m know did turn.did.1 turn.may,
        did.flushed,
      )
  turned_on (Err (stop.Empty at)) t turn =
      let known = turn.known l k.knows (ready_held law slots l s k) in
      idle t known.1 known.3 turn.counts turn.did.1 turn.may (steps_of law (Err (stop.Empty at)) s t turn)
  turned_on (Err (stop.Unfilled at)) t turn =
      let known = turn.known l k.knows (ready_held law slots l s k) in
      idle t known.1 known.3 turn.counts turn.did.1 turn.may (steps_of law (Err (stop.Unfilled at)) s t turn)
  turned_on (Err stop.DiskFault) t turn =
      let (n, awaits, tries) = turn.known l k.knows (ready_held law slots l s k) in
      let did = turn.did.2 in
      failed_on law laws slots l s t k behind did.0 did.1 did.2 n awaits tries turn.did.1 turn.counts (steps_of law (Err stop.DiskFault) s t turn)
  turned_on (Err stop.Failed) t turn =
      let was = turn.did.0 in
      let fine = k.fine in
      absurd (cc)

module _ (law : Law) (laws : DeskLaws law) (slots : Slots) (l : Log) (s : Sees) (k : HoldsKnown law slots l s) (place : ℕ) (may : MayFlushPast place l) where
  -- IT FLUSHED
  pub record Further (end : ℕ) (t : Sees) : Type 0 where
    pub log : Log
    pub on : FlushesOn law l log s t
    pub held : HoldsKnown law slots log t
    pub flushed : log.flushed ≡ end
    pub up : l.flushed < end

  pub further : (end : ℕ) (t : Sees) → Turns law (Ok end) s t → Further end t
  further end t turn =
      let (m, know, did) = turn.known l k.knows (ready_held law slots l s k) in
      record {
        log = m;
        on = flushed_on law laws slots l s t k may.behind end m know did turn.counts (steps_of law (Ok end) s t turn);
        held = held_on law laws slots l s t k may.behind end m know did turn.did.1 turn.may;
        flushed = did.flushed;
        up = did.gathers.some;
      }

  pub further_may : (end : ℕ) (t : Sees) (f : Further end t) → end < place → MayFlushPast place f.log
  further_may end t f below =
      let to = f.flushed in
      record {
        behind = subst (λ (x : world.Start). LOG_START < x.at) (sym f.on.opened) may.behind;
        pinned = f.on.pinned ∙ may.pinned;
        low = omega (arith, below, to);
      }

  -- from where the turns began
  module _ (b : Log) (from : Sees) (before : FlushesOn law b l from s) (passes : Passes law) (stands : Stands law) where
    pub reached : (end : ℕ) (t : Sees) → Turns law (Ok end) s t → place ≤ end → FlushesPast law slots (Ok tt) place b from t
    reached end t turn high =
        let (m, know, did) = turn.known l k.knows (ready_held law slots l s k) in
        let on = flushed_on law laws slots l s t k may.behind end m know did turn.counts (steps_of law (Ok end) s t turn) in
        let to = did.flushed in (
          m,
          both_on law laws b l m from s t before on,
          held_on law laws slots l s t k may.behind end m know did turn.did.1 turn.may,
          omega (arith, to, high),
          past_now law laws slots l s t k place may passes end m know did high,
        )

    stood : (t : Sees) (know : KnowsLog law t.book l) → t.told ≡ s.told → t.faults ≡ s.faults → t.failed ≡ false → MayGather t.book.view → FlushSteps law s.book t.book → place ≤ l.flushed
        → FlushesPast law slots (Ok tt) place b from t
    stood t know told faults fine gathers steps high =
        let held = still_held law laws slots l s t k know told fine gathers in
        (l, both_on law laws b l l from s t before (still_on law laws slots l s t k know told faults steps), held, high, past_here law laws slots l s t k place may stands held high)

    pub ended : (at : ℕ) (t : Sees) → Turns law (Err (stop.Empty at)) s t → FlushesPast law slots (Ok tt) place b from t
    ended at t turn =
        let known = turn.known l k.knows (ready_held law slots l s k) in
        let look = turn.did.2.0 in
        stood t known.1 known.3 turn.counts turn.did.1 turn.may (steps_of law (Err (stop.Empty at)) s t turn)
        (ended_past law laws slots l s t k place may at known.0 look.0 look.1 known.2)

    pub opened_past : (at : ℕ) (t : Sees) → Turns law (Err (stop.Unfilled at)) s t → place ≤ at → FlushesPast law slots (Ok tt) place b from t
    opened_past at t turn high =
        let known = turn.known l k.knows (ready_held law slots l s k) in
        let here = known.0 in
        stood t known.1 known.3 turn.counts turn.did.1 turn.may (steps_of law (Err (stop.Unfilled at)) s t turn) (omega (arith, here, high))

    pub opened_below : (at : ℕ) (t : Sees) → Turns law (Err (stop.Unfilled at)) s t → at < place → FlushesPast law slots (Err (why.Unfilled at)) place b from t
    opened_below at t turn low =
        let known = turn.known l k.knows (ready_held law slots l s k) in (
          l,
          s,
          before,
          k,
          sym known.0,
          low,
          record {
            knows = known.1;
            opened = known.2;
            told = known.3;
            faults = turn.counts;
            fine = turn.did.1;
            steps = steps_of law (Err (stop.Unfilled at)) s t turn;
          },
        )

    pub failed : (t : Sees) → Turns law (Err stop.DiskFault) s t → FlushesPast law slots (Err why.DiskFault) place b from t
    failed t turn =
        let (n, awaits, tries) = turn.known l k.knows (ready_held law slots l s k) in
        let did = turn.did.2 in
        (l, s, before, k, failed_on law laws slots l s t k may.behind did.0 did.1 did.2 n awaits tries turn.did.1 turn.counts (steps_of law (Err stop.DiskFault) s t turn))

  pub never : (t : Sees) → Turns law (Err stop.Failed) s t → ⊥
  never t turn =
      let was = turn.did.0 in
      let fine = k.fine in
      absurd (cc)
