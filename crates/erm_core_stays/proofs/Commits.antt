-- Transactions go on over a run, and commits stay.
use Rattle.std.proofs.Common.{◌≡◌, ℕ, ◌<◌, ⊎_elim, false, List, Some, refl, sym, ap, ◌∙◌, arith}
use Rattle.std.proofs.lemmas.Bool.{false_from_ne_true}
use Rattle.std.proofs.lemmas.Option.{get_or_from_slice_get, slice_get_within}
use Rattle.erm_model.specs.declared.history.TransactionRecord.{TransactionRecord}
use Rattle.erm_model.specs.Member.{◌∈◌}
use Rattle.erm_model.proofs.Members.{∈-push}
use Rattle.erm_machine.specs.declared.attempt.Attempt.{Attempt}
use Rattle.erm_machine.specs.declared.attempt.Decision.TheVariants.{Undecided, Commit}
use Rattle.erm_machine.specs.declared.event.Event.{Event}
use Rattle.erm_machine.specs.declared.event.Kind.{Kind}
use Rattle.erm_machine.specs.declared.place.Place.{Place}
use Rattle.erm_machine.specs.declared.place.Place.TheVariants.{Vacant, Idle, Begun, Announced, Active, Sealing, Drawn, Sealed, Decided, Leaving}
use Rattle.erm_machine.specs.Core.{Core, blank}
use Rattle.erm_machine.specs.Decided.{history_of}
use Rattle.erm_machine.specs.Facts.{IsCurrent, all_of}
use Rattle.erm_machine.specs.Lives.{IsPin, in_progress}
use Rattle.erm_machine.specs.Sound.{Sound}
use Rattle.erm_machine.specs.Step.{after_event}
use Rattle.erm_machine.specs.Words.{is_flusher}
use Rattle.erm_machine.proofs.Histories.{history_from}
use Rattle.erm_core_stays.specs.Runs.{Runs}
use Rattle.erm_core_stays.proofs.Continuing.{continues_after, continues_same}
use Rattle.erm_core_stays.proofs.Onward.{HasOn, goes_on}
use Rattle.erm_core_stays.proofs.Running.{KeepsSound, over_run}

-- each transaction of each session goes on from one state to the other
abbrev pub AllContinue : Core → Core → Type 0
AllContinue c d = (q : ℕ) (t : Attempt) → is_flusher q ≡ false → t ∈ all_of (c.seats q) → 0 < t.number → HasOn t (d.seats q)

pub event_continues : (c d : Core) (p : ℕ) (k : Kind) → Sound c → after_event c p k ≡ Some d → AllContinue c d
event_continues c d p k sound e q t session m begun = (goes_on c d p k sound e q session).each t m begun

pub run_continues : KeepsSound → (es : List Event) (c d : Core) → Sound c → Runs es c d → AllContinue c d
run_continues keeps es c d sound run =
    over_run keeps AllContinue (λ a q t session m begun. (t, m, continues_same t t refl))
    (λ a b e first second q t session m begun.
    let one = first q t session m begun in
    let number = one.2.number in
    let two = second q one.0 session one.1 (omega (arith, begun, number)) in
    (two.0, two.1, continues_after t one.0 two.0 one.2 two.2))
    event_continues es c d sound run

-- a pin isn't decided, and a committed transaction is in progress until it is over
pin_undecided : (pl : Place) (t : Attempt) → IsPin pl → IsCurrent pl t → t.decision ≡ Undecided
pin_undecided Vacant t pin cur = ap (λ (u : Attempt). u.decision) cur
pin_undecided Idle t pin cur = ap (λ (u : Attempt). u.decision) cur
pin_undecided (Begun tail) t pin cur = ap (λ (u : Attempt). u.decision) cur
pin_undecided (Announced tail) t pin cur = ap (λ (u : Attempt). u.decision) cur
pin_undecided (Active tail) t pin cur = cur.decision
pin_undecided (Sealing tail) t pin cur = absurd pin
pin_undecided (Drawn tail stamp) t pin cur = absurd pin
pin_undecided (Sealed tail stamp) t pin cur = absurd pin
pin_undecided (Decided tail stamp) t pin cur = absurd pin
pin_undecided (Leaving stamp) t pin cur = absurd pin

no_commit : (t : Attempt) → t.decision ≡ Undecided → t.decision ≡ Commit → ⊥
no_commit t none commit = absurd (cc)

commit_progress : (pl : Place) (t : Attempt) → IsCurrent pl t → t.decision ≡ Commit → in_progress pl ≡ 1
commit_progress Vacant t cur commit = absurd (no_commit t (ap (λ (u : Attempt). u.decision) cur) commit)
commit_progress Idle t cur commit = absurd (no_commit t (ap (λ (u : Attempt). u.decision) cur) commit)
commit_progress (Begun tail) t cur commit = absurd (no_commit t (ap (λ (u : Attempt). u.decision) cur) commit)
commit_progress (Announced tail) t cur commit = absurd (no_commit t (ap (λ (u : Attempt). u.decision) cur) commit)
commit_progress pl t cur commit = refl

module _ (c : Core) (sound : Sound c) (q : ℕ) (t : Attempt) (m : t ∈ all_of (c.seats q)) (commit : t.decision ≡ Commit) where
  pub of_session : is_flusher q ≡ false
  of_session = false_from_ne_true (is_flusher q) (λ flusher.
      let lives = (sound.own q).lives in
      ⊎_elim
      (λ (over : t ∈ (c.seats q).over). let none = lives.pins flusher in let within = slice_get_within (c.seats q).over over.0 t over.1 in omega (arith, none, within))
      (λ (now : t ≡ (c.seats q).current).
      no_commit t (ap (λ (u : Attempt). u.decision) now ∙ pin_undecided (c.seats q).place (c.seats q).current (lives.pinned flusher) (sound.own q).ranges.current) commit)
      (∈-push (c.seats q).over (c.seats q).current t m))

  numbered : 0 < t.number
  numbered =
      let lives = (sound.own q).lives in
      ⊎_elim
      (λ (over : t ∈ (c.seats q).over).
      let within = slice_get_within (c.seats q).over over.0 t over.1 in
      let is = ap (λ (u : Attempt). u.number) (get_or_from_slice_get (c.seats q).over over.0 t blank over.1) in
      let number = lives.numbers of_session over.0 within in
      omega (arith, is, number))
      (λ (now : t ≡ (c.seats q).current).
      let is = ap (λ (u : Attempt). u.number) now in
      let going = commit_progress (c.seats q).place (c.seats q).current (sound.own q).ranges.current (sym (ap (λ (u : Attempt). u.decision) now) ∙ commit) in
      let number = lives.number of_session in
      let own = lives.current going in
      omega (arith, is, going, number, own))
      (∈-push (c.seats q).over (c.seats q).current t m)

-- where transactions go on commits stay
commits_from : (c d : Core) → Sound c → AllContinue c d → (u : TransactionRecord) → u ∈ history_of c.seats → u ∈ history_of d.seats
commits_from c d sound all u m =
    history_from c.seats d.seats u m (λ q t of_seat commit.
    let on = all q t (of_session c sound q t of_seat commit) of_seat (numbered c sound q t of_seat commit) in
    let kept = on.2.decided (λ none. no_commit t none commit) in
    (on.0, on.1, kept.decision ∙ commit, kept.record_is q))

pub event_commits : (c d : Core) (p : ℕ) (k : Kind) → Sound c → after_event c p k ≡ Some d → (u : TransactionRecord) → u ∈ history_of c.seats → u ∈ history_of d.seats
event_commits c d p k sound e u m = commits_from c d sound (event_continues c d p k sound e) u m

pub run_commits : KeepsSound → (es : List Event) (c d : Core) → Sound c → Runs es c d → (u : TransactionRecord) → u ∈ history_of c.seats → u ∈ history_of d.seats
run_commits keeps es c d sound run u m = commits_from c d sound (run_continues keeps es c d sound run) u m
