-- What a seat late for a stamp holds below it: nothing. So nobody holds anything below the stamp of a safe snapshot.
use Rattle.std.proofs.Common.{◌≡◌, ◌≢◌, ℕ, ◌+◌, ◌<◌, ◌≤◌, ◌⊎◌, ⊎_elim, Bool, true, false, ◌||◌, length, inl, inr, refl, sym, ap, ◌∙◌, subst, arith}
use Rattle.erm_machine.specs.declared.attempt.Attempt.{Attempt}
use Rattle.erm_machine.specs.declared.attempt.Claim.{Claim}
use Rattle.erm_machine.specs.declared.limits.TheConstants.{SESSIONS}
use Rattle.erm_machine.specs.declared.part.Part.{Part}
use Rattle.erm_machine.specs.declared.place.Place.{Place}
use Rattle.erm_machine.specs.declared.place.Place.TheVariants.{Vacant, Idle, Begun, Announced, Active, Sealing, Drawn, Sealed, Decided, Leaving}
use Rattle.erm_machine.specs.declared.task.Task.{Task}
use Rattle.erm_machine.specs.Back.{IsLeaving, passed_to}
use Rattle.erm_machine.specs.Claims.{claims_over}
use Rattle.erm_machine.specs.Core.{Core, claim_at}
use Rattle.erm_machine.specs.Facts.{HasBegun, HoldsBelow, IsCurrent, over_of}
use Rattle.erm_machine.specs.Lives.{IsPin}
use Rattle.erm_machine.specs.Seat.{is_safe}
use Rattle.erm_machine.specs.Sound.{Sound}
use Rattle.erm_machine.specs.Words.{is_flusher, is_seat, is_session}
use Rattle.erm_machine.proofs.Backs.{safe_passed, session_within}
use Rattle.erm_machine.proofs.Holders.{holds_at}
use Rattle.erm_core_si.proofs.SnapshotSteps.{current_stands}

no_range : {X : Type 0} (n : ℕ) → n ≡ 0 → 0 < n → X
no_range n none some = absurd (omega (arith, none, some))

-- a pin has no range, and neither has a vacant seat
pin_unsealed : (p : Place) (t : Attempt) → IsPin p → IsCurrent p t → t.stamp ≡ 0
pin_unsealed Vacant t pin cur = ap (λ (u : Attempt). u.stamp) cur
pin_unsealed Idle t pin cur = ap (λ (u : Attempt). u.stamp) cur
pin_unsealed (Begun tail) t pin cur = ap (λ (u : Attempt). u.stamp) cur
pin_unsealed (Announced tail) t pin cur = ap (λ (u : Attempt). u.stamp) cur
pin_unsealed (Active tail) t pin cur = cur.stamp
pin_unsealed (Sealing tail) t pin cur = absurd pin
pin_unsealed (Drawn tail stamp) t pin cur = absurd pin
pin_unsealed (Sealed tail stamp) t pin cur = absurd pin
pin_unsealed (Decided tail stamp) t pin cur = absurd pin
pin_unsealed (Leaving stamp) t pin cur = absurd pin

vacant_unsealed : (p : Place) (t : Attempt) → p ≡ Vacant → IsCurrent p t → t.stamp ≡ 0
vacant_unsealed p t vacant cur = pin_unsealed p t (subst IsPin (sym vacant) tt) cur

-- one with a range hasn't cleared its begin word, or is leaving
drawn_there : (p : Place) (t : Attempt) → IsCurrent p t → 0 < t.stamp → HasBegun p ⊎ IsLeaving p
drawn_there Vacant t cur some = no_range t.stamp (ap (λ (u : Attempt). u.stamp) cur) some
drawn_there Idle t cur some = no_range t.stamp (ap (λ (u : Attempt). u.stamp) cur) some
drawn_there (Begun tail) t cur some = no_range t.stamp (ap (λ (u : Attempt). u.stamp) cur) some
drawn_there (Announced tail) t cur some = no_range t.stamp (ap (λ (u : Attempt). u.stamp) cur) some
drawn_there (Leaving stamp) t cur some = inr tt
drawn_there p t cur some = inl tt

-- who leaves holds nothing
all_over : (p : Place) (t : Task) (n : ℕ) → IsLeaving p → over_of p t n ≡ n
all_over (Leaving stamp) t n leaving = refl
all_over p t n leaving = absurd leaving

pub not_seat : (q : ℕ) → is_session q ≡ false → is_flusher q ≡ false → is_seat q ≡ false
not_seat q no_session no_flusher = ap (λ (a : Bool). a || is_flusher q) no_session ∙ no_flusher

module _ (c : Core) (sound : Sound c) (b q : ℕ) (late : is_session q ≡ true → HasBegun (c.seats q).place → b ≤ (c.seats q).current.begin) where
  abbrev x : Part
  x = c.seats q

  -- a current transaction with a range below the stamp is leaving
  leaves : 0 < x.current.stamp → x.current.stamp < b → IsLeaving x.place
  leaves some low = by_kind _ _ refl refl
    where
      by_kind : (s f : Bool) → is_session q ≡ s → is_flusher q ≡ f → IsLeaving x.place
      by_kind true f session flusher =
          ⊎_elim
          (λ (begun : HasBegun x.place).
          let above = late session begun in
          let sealed = ((sound.own q).lives.sealed x.current (current_stands x) some).1 in
          absurd (omega (arith, above, sealed, low)))
          (λ (leaving : IsLeaving x.place). leaving) (drawn_there x.place x.current (sound.own q).ranges.current some)
      by_kind false true session flusher = no_range x.current.stamp (pin_unsealed x.place x.current ((sound.own q).lives.pinned flusher) (sound.own q).ranges.current) some
      by_kind false false session flusher =
          no_range x.current.stamp (vacant_unsealed x.place x.current ((sound.own q).ranges.seat_of (not_seat q session flusher)) (sound.own q).ranges.current) some

  pub none_holds : (oid : ℕ) → HoldsBelow x oid b → ⊥
  none_holds oid holds =
      let leaving = leaves holds.0 holds.1 in
      let at = holds_at c q oid holds.2 in
      let within = at.within in
      let all : claims_over x ≡ length x.current.writes = all_over x.place x.task (length x.current.writes) leaving in
      let none = (sound.own q).claims.over at.place at.within (omega (arith, within, all)) in
      let held = at.held in
      absurd (cc)

-- nobody else holds an object below the begin stamp of a safe snapshot
pub nobody_holds : (c : Core) (p : ℕ) → Sound c → is_safe (c.seats p).task ≡ true → (q : ℕ) → q ≢ p → (oid : ℕ) → HoldsBelow (c.seats q) oid (c.seats p).current.begin → ⊥
nobody_holds c p sound safe q ne oid holds =
    none_holds c sound (c.seats p).current.begin q
    (λ session begun.
    let within = (session_within q session).1 in
    let all = safe_passed (c.seats p).task safe in
    (sound.both p q (λ e. ne (sym e))).back.late (inl (omega (arith, within, all))) session begun) oid holds
