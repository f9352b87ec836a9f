-- A gather as a call: what it leaves of the world, and what it answers.
use Rattle.std.proofs.Common.{◌≡◌, ℕ, ◌+◌, ◌<◌, ◌≤◌, List, take, Some, refl, sym, ap, ◌∙◌, subst, arith}
use Rattle.erm_model.specs.RowTransaction.{Law}
use Rattle.erm_machine.specs.declared.event.Kind.TheVariants as kind
use Rattle.erm_machine.specs.declared.event.TailUse.TheVariants as purpose
use Rattle.erm_machine.specs.declared.limits.TheConstants.{FLUSH_SEAT, RING_WORDS}
use Rattle.erm_machine.specs.Core.{Core, Shared}
use Rattle.erm_machine.specs.Step.{after_event}
use Rattle.erm_sound.specs.Kept.{SoundUnder}
use Rattle.erm_core.specs.Cores.{core_of}
use Rattle.erm_core_turns.specs.Turns.{HasGathered, IsAtStop, log_of, ring_words}
use Rattle.erm_core_turns.proofs.GatherDone.{gathers_empty, gathers_unfilled, gathers_words, quiet_now}
use Rattle.erm_core_turns.proofs.Gathers.{begins_gather, gathered_both}
use Rattle.erm_core_turns.proofs.LogIs.{Lists as Logs, More}
use Rattle.erm_core_view.specs.Views.{IsQuiet}
use Rattle.erm_world.specs.declared.gathered.Gathered.TheVariants as gathered
use Rattle.erm_world.specs.Log.{DidGather, Gathers, Log}
use Rattle.erm_lists.specs.declared.lists.Lists.{Lists}
use Rattle.erm_lists.specs.Logs.{KeepsSessions, lists_log}
use Rattle.erm_lists.specs.Stands.{Stands}
use Rattle.erm_lists.proofs.Turned.{turned_keeps}

pub begun : {L : Type 0} (law : Law) (p : Lists L) (c d : Core) (at : ℕ) → Stands law p → after_event (core_of p.state) FLUSH_SEAT (kind.LoadTail purpose.Gather) ≡ Some c
    → after_event c FLUSH_SEAT kind.LoadFlushed ≡ Some d → at ≡ c.shared.flushed → HasGathered at at (core_of p.state) d × (at ≡ p.state.flushed)
begun law p c d at stands one two is =
    let did = begins_gather (core_of p.state) c d stands.sound.sound (stands.quiet.flusher FLUSH_SEAT refl) one two in
    let same : at ≡ p.state.flushed = is ∙ did.1 in
    (subst (λ (n : ℕ). HasGathered n n (core_of p.state) d) (sym same) did.0, same)

-- what is known of a gather of so many words
pub record Call {L : Type 0} (law : Law) (p q : Lists L) (at n : ℕ) (words : List ℕ) : Type 0 where
  pub stands : Stands law q
  pub keeps : KeepsSessions law p q
  pub some : 0 < n → DidGather (lists_log p) (lists_log q) at n words
  pub empty : n ≡ 0 → p.state.tail ≤ at → Gathers (gathered.Empty at) (lists_log p) (lists_log q) words
  pub unfilled : n ≡ 0 → at < p.state.tail → Gathers (gathered.Unfilled at) (lists_log p) (lists_log q) words

pub called : {L : Type 0} (law : Law) → Logs law → More law → (p q : Lists L) (d : Core) (at n : ℕ) (words : List ℕ) → Stands law p → SoundUnder law (core_of q.state)
    → q.sessions ≡ p.sessions → HasGathered at at (core_of p.state) d → at ≡ p.state.flushed → HasGathered at (at + n) d (core_of q.state) → n ≤ RING_WORDS
    → (n < RING_WORDS → IsAtStop at (at + n) (core_of q.state)) → take n words ≡ ring_words d.shared at n → Call law p q at n words
called law lists more p q d at n words stands under same begins is did few stop taken =
    let b = core_of p.state in
    let e = core_of q.state in
    let f : ℕ = p.state.flushed in
    let to : ℕ = at + n in
    let all : HasGathered f to b e = subst (λ (m : ℕ). HasGathered m to b e) is (gathered_both at at to b d e begins did) in
    let stops : to < f + RING_WORDS → IsAtStop f to e = λ low. subst (λ (m : ℕ). IsAtStop m to e) is (stop (omega (arith, low, is))) in
    let room : to ≤ f + RING_WORDS = omega (arith, few, is) in
    let quiet = quiet_now law lists p.sessions to b e stands.sound under stands.quiet all stops room in
    let now : Stands law q = record { sound = under; quiet = subst (λ (m : ℕ). IsQuiet m e) (sym same) quiet } in
    let log : lists_log q ≡ log_of p.sessions e = ap (λ (m : ℕ). log_of m e) same in
    let words_are : take n words ≡ ring_words b.shared f n = taken ∙ ap (λ (s : Shared). ring_words s at n) begins.shared ∙ ap (λ (m : ℕ). ring_words b.shared m n) is in
    record {
      stands = now;
      keeps = turned_keeps law p q same stands.quiet all.flushes now;
      some = λ many.
          subst (λ (l : Log). DidGather (lists_log p) l at n words) (sym log)
          (subst (λ (m : ℕ). DidGather (lists_log p) (log_of p.sessions e) m n words) (sym is)
          (gathers_words law lists p.sessions to b e stands.sound under stands.quiet all stops room more n words (omega (arith, is)) many words_are));
      empty = λ none high.
          let found = gathers_empty law lists p.sessions to b e stands.sound under stands.quiet all stops room (omega (arith, is, none)) (omega (arith, high)) in
          (log ∙ found.0, is, found.2);
      unfilled = λ none low.
          let found = gathers_unfilled law lists p.sessions to b e stands.sound under stands.quiet all stops room (omega (arith, is, none)) (omega (arith, low, none)) in
          (log ∙ found.0, is, found.2, found.3);
    }
