-- Ranges that aren't decided, and commits, are of sessions; and whom a snapshot waits for.
use Rattle.std.proofs.Common.{◌≡◌, ◌≢◌, ℕ, ◌<◌, ◌≤◌, ◌⊎◌, ⊎_elim, Bool, true, false, inl, inr, refl, sym, ap, subst, arith}
use Rattle.erm_model.specs.Member.{◌∈◌}
use Rattle.erm_model.proofs.Members.{∈-push}
use Rattle.erm_machine.specs.declared.attempt.Attempt.{Attempt}
use Rattle.erm_machine.specs.declared.attempt.Decision.TheVariants.{Undecided, Commit}
use Rattle.erm_machine.specs.declared.place.Place.{Place}
use Rattle.erm_machine.specs.declared.place.Place.TheVariants.{Vacant, Idle, Begun, Announced, Active, Sealing, Drawn, Sealed, Decided, Leaving}
use Rattle.erm_machine.specs.declared.task.Task.TheVariants as task
use Rattle.erm_machine.specs.Back.{GoesBack, IsLeaving, passed_to}
use Rattle.erm_machine.specs.Bounds.{IsBounded}
use Rattle.erm_machine.specs.Core.{Core}
use Rattle.erm_machine.specs.Facts.{HasBegun, IsCurrent, all_of}
use Rattle.erm_machine.specs.Lives.{IsPin}
use Rattle.erm_machine.specs.Sound.{Sound}
use Rattle.erm_machine.specs.Words.{begin_of, is_flusher, is_session}
use Rattle.erm_machine.proofs.Backs.{session_from}
use Rattle.erm_core_met.specs.Met.{IsBegunFrom}
use Rattle.erm_core_met.proofs.Backs.{begun_is}
use Rattle.erm_core_si.proofs.SnapshotSafe.{not_seat}

no_range : {X : Type 0} (n : ℕ) → n ≡ 0 → 0 < n → X
no_range n none some = absurd (omega (arith, none, some))

no_commit : {X : Type 0} (t : Attempt) → t.decision ≡ Undecided → t.decision ≡ Commit → X
no_commit t none commit = absurd (cc)

-- a range that isn't decided is of one that has begun, and no pin's
open_at : (pl : Place) (t : Attempt) → IsCurrent pl t → 0 < t.stamp → t.decision ≡ Undecided → HasBegun pl × (IsPin pl → ⊥)
open_at Vacant t cur some none = no_range t.stamp (ap (λ (u : Attempt). u.stamp) cur) some
open_at Idle t cur some none = no_range t.stamp (ap (λ (u : Attempt). u.stamp) cur) some
open_at (Begun tail) t cur some none = no_range t.stamp (ap (λ (u : Attempt). u.stamp) cur) some
open_at (Announced tail) t cur some none = no_range t.stamp (ap (λ (u : Attempt). u.stamp) cur) some
open_at (Active tail) t cur some none = no_range t.stamp cur.stamp some
open_at (Sealing tail) t cur some none = no_range t.stamp cur.stamp some
open_at (Drawn tail stamp) t cur some none = (tt, λ h. h)
open_at (Sealed tail stamp) t cur some none = (tt, λ h. h)
open_at (Decided tail stamp) t cur some none = absurd (cur.decision none)
open_at (Leaving stamp) t cur some none = absurd (cur.decision none)

-- a commit that isn't over hasn't cleared its begin word, or is leaving; and it is no pin's
commit_at : (pl : Place) (t : Attempt) → IsCurrent pl t → t.decision ≡ Commit → (HasBegun pl ⊎ IsLeaving pl) × (IsPin pl → ⊥)
commit_at Vacant t cur commit = no_commit t (ap (λ (u : Attempt). u.decision) cur) commit
commit_at Idle t cur commit = no_commit t (ap (λ (u : Attempt). u.decision) cur) commit
commit_at (Begun tail) t cur commit = no_commit t (ap (λ (u : Attempt). u.decision) cur) commit
commit_at (Announced tail) t cur commit = no_commit t (ap (λ (u : Attempt). u.decision) cur) commit
commit_at (Active tail) t cur commit = no_commit t cur.decision commit
commit_at (Sealing tail) t cur commit = no_commit t cur.decision commit
commit_at (Drawn tail stamp) t cur commit = no_commit t cur.decision commit
commit_at (Sealed tail stamp) t cur commit = no_commit t cur.decision commit
commit_at (Decided tail stamp) t cur commit = (inl tt, λ h. h)
commit_at (Leaving stamp) t cur commit = (inr tt, λ h. h)

module _ (c : Core) (sound : Sound c) (q : ℕ) where
  -- a seat whose place is no pin's is a session's
  no_pin : (IsPin (c.seats q).place → ⊥) → is_session q ≡ true
  no_pin none = by_kind _ _ refl refl
    where
      by_kind : (s f : Bool) → is_session q ≡ s → is_flusher q ≡ f → is_session q ≡ true
      by_kind true f session flusher = session
      by_kind false true session flusher = absurd (none ((sound.own q).lives.pinned flusher))
      by_kind false false session flusher = absurd (none (subst IsPin (sym ((sound.own q).ranges.seat_of (not_seat q session flusher))) tt))

  -- a range that isn't decided is a session's
  pub open_there : 0 < (c.seats q).current.stamp → (c.seats q).current.decision ≡ Undecided → HasBegun (c.seats q).place × (is_session q ≡ true)
  open_there some none =
      let at = open_at (c.seats q).place (c.seats q).current (sound.own q).ranges.current some none in
      (at.0, no_pin at.1)

  pub commit_there : (c.seats q).current.decision ≡ Commit → (HasBegun (c.seats q).place ⊎ IsLeaving (c.seats q).place) × (is_session q ≡ true)
  commit_there commit =
      let at = commit_at (c.seats q).place (c.seats q).current (sound.own q).ranges.current commit in
      (at.0, no_pin at.1)

  pub commits_session : (t : Attempt) → t ∈ all_of (c.seats q) → t.decision ≡ Commit → is_session q ≡ true
  commits_session t m commit =
      ⊎_elim (λ (over : t ∈ (c.seats q).over). by_kind over _ refl) (λ (is : t ≡ (c.seats q).current). (commit_there (subst (λ (u : Attempt). u.decision ≡ Commit) is commit)).1)
      (∈-push (c.seats q).over (c.seats q).current t m)
    where
      by_kind : t ∈ (c.seats q).over → (s : Bool) → is_session q ≡ s → is_session q ≡ true
      by_kind over true session = session
      by_kind over false session = absurd ((sound.own q).back.only session t over commit)

  -- a back word that isn't 0 has its commit, a session's
  pub back_session : 0 < (c.seats q).back → is_session q ≡ true
  back_session some =
      ⊎_elim (λ (none : (c.seats q).back ≡ 0). absurd (omega (arith, some, none)))
      (λ (of : (t : Attempt) × (t ∈ all_of (c.seats q)) × GoesBack t × (t.stamp ≡ (c.seats q).back)). commits_session of.0 of.1 of.2.commit) (sound.own q).back.of

-- a snapshot doesn't wait for itself, since its begin word is its begin stamp
pub waits_for : (c : Core) (p next : ℕ) → Sound c → (c.seats p).task ≡ task.Surveys next → 0 < begin_of (c.seats next).place → begin_of (c.seats next).place < (c.seats p).current.begin →
    (next ≢ p) × (is_session next ≡ true) × IsBegunFrom c next (begin_of (c.seats next).place)
waits_for c p next sound at some below = (another, session_from next bounds.0 bounds.1, begun_is c next sound some)
  where
    bounds : IsBounded p (c.seats p).current (task.Surveys next)
    bounds = subst (IsBounded p (c.seats p).current) at (sound.own p).bounds.bounded

    another : next ≢ p
    another own =
        let count : passed_to (c.seats p).task ≡ next = ap passed_to at in
        let up = bounds.0 in
        let raised = (sound.own p).raised.raised (omega (arith, up, count)) in
        let word : begin_of (c.seats next).place ≡ begin_of (c.seats p).place = ap (λ (n : ℕ). begin_of (c.seats n).place) own in
        omega (arith, word, raised, below)
