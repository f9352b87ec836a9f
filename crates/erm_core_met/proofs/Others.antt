-- Who owns an entry, made a version, or has a bit standing.
use Rattle.std.proofs.Common.{◌≡◌, ℕ, ◌+◌, ◌-◌, ◌<◌, ◌≤◌, ◌⊎◌, ⊎_elim, Bool, true, false, length, refl, sym, ap, ◌∙◌, subst, inl, inr, arith}
use Rattle.std.proofs.lemmas.Bool.{cases_eq}
use Rattle.erm_model.specs.Member.{◌∈◌}
use Rattle.erm_model.proofs.Members.{none_in_nil, ∈-push}
use Rattle.erm_machine.specs.declared.limits.TheConstants.{OBJECT_LIMIT}
use Rattle.erm_machine.specs.declared.attempt.Attempt.{Attempt}
use Rattle.erm_machine.specs.declared.attempt.Claim.{Claim}
use Rattle.erm_machine.specs.declared.attempt.Decision.TheVariants.{Undecided, Commit}
use Rattle.erm_machine.specs.declared.place.Place.{Place}
use Rattle.erm_machine.specs.declared.place.Place.TheVariants.{Vacant, Idle, Begun, Announced, Active, Sealing, Drawn, Sealed, Decided, Leaving}
use Rattle.erm_machine.specs.Core.{Core, blank, version_at}
use Rattle.erm_machine.specs.Decided.{record_of, written_of}
use Rattle.erm_machine.specs.Facts.{all_of, IsCurrent}
use Rattle.erm_machine.specs.Lives.{in_progress}
use Rattle.erm_machine.specs.Marks.{HasOverwritten}
use Rattle.erm_machine.specs.Sound.{Sound}
use Rattle.erm_machine.specs.Words.{is_seat, number_of, owner_of, is_clear, state_of}
use Rattle.erm_machine.proofs.Histories.{in_history}
use Rattle.erm_machine.proofs.Holders.{held_claim}
use Rattle.erm_machine.proofs.Listed.{∈-map_from}
use Rattle.erm_core_met.specs.Met.{IsBelow, IsNewer, IsOwner}

-- a seat whose current transaction has a claim is in the middle of it
holds_none : (t : Attempt) (w : Claim) → t ≡ blank → w ∈ t.writes → ⊥
holds_none t w none m = none_in_nil w (subst (λ (u : Attempt). w ∈ u.writes) none m)

progress_at : (pl : Place) (t : Attempt) (w : Claim) → IsCurrent pl t → w ∈ t.writes → in_progress pl ≡ 1
progress_at Vacant t w is m = absurd (holds_none t w is m)
progress_at Idle t w is m = absurd (holds_none t w is m)
progress_at (Begun tail) t w is m = absurd (holds_none t w is m)
progress_at (Announced tail) t w is m = absurd (holds_none t w is m)
progress_at (Active tail) t w is m = refl
progress_at (Sealing tail) t w is m = refl
progress_at (Drawn tail stamp) t w is m = refl
progress_at (Sealed tail stamp) t w is m = refl
progress_at (Decided tail stamp) t w is m = refl
progress_at (Leaving stamp) t w is m = refl

seat_by : (c : Core) (q : ℕ) (b : Bool) → is_seat q ≡ b → Sound c → in_progress (c.seats q).place ≡ 1 → is_seat q ≡ true
seat_by c q true is sound busy = is
seat_by c q false is sound busy =
    let vacant = (sound.own q).ranges.seat_of is in
    let idle : in_progress (c.seats q).place ≡ 0 = ap in_progress vacant in
    absurd (omega (arith, idle, busy))

pub owner_is : (c : Core) (oid owner : ℕ) → Sound c → oid < OBJECT_LIMIT → 0 < owner → owner_of (c.shared.objects oid).entry ≡ owner →
    IsOwner c oid owner (number_of (c.shared.objects oid).entry)
owner_is c oid owner sound known positive is =
    let holds = (sound.own owner).claims.owned oid positive known is in
    let busy = progress_at (c.seats owner).place (c.seats owner).current holds.0 (sound.own owner).ranges.current holds.1 in
    record {
      seat = seat_by c owner (is_seat owner) refl sound busy;
      in_progress = busy;
      number_is = sym (held_claim c owner oid sound holds).fits.numbered;
      claims = holds;
    }

-- a commit that has made a version at or above the begin stamp of an undecided transaction isn't of that one's seat
another_seat : (c : Core) (seat q : ℕ) (t : Attempt) → Sound c → in_progress (c.seats seat).place ≡ 1 → (c.seats seat).current.decision ≡ Undecided →
    (c.seats seat).current.begin ≤ t.stamp → t ∈ all_of (c.seats q) → t.decision ≡ Commit → q ≡ seat → ⊥
another_seat c seat q t sound busy undecided above m commit same =
    ⊎_elim
    (λ (before : t ∈ (c.seats seat).over). let low = (sound.own seat).lives.earlier t before busy in absurd (omega (arith, low, above)))
    (λ (now : t ≡ (c.seats seat).current). absurd (let other = ap (λ (u : Attempt). u.decision) now in cc))
    (∈-push (c.seats seat).over (c.seats seat).current t (subst (λ n. t ∈ all_of (c.seats n)) same m))

made_by_another : (c : Core) (seat oid place stamp succ : ℕ) → Sound c → in_progress (c.seats seat).place ≡ 1 → (c.seats seat).current.decision ≡ Undecided →
    (c.seats seat).current.begin ≤ stamp → HasOverwritten c.seats oid place stamp succ → IsNewer c seat oid stamp
made_by_another c seat oid place stamp succ sound busy undecided above h =
    let q = h.0 in
    let t = h.1 in
    let w = h.2 in
    let low = sound.common.decided.seats_of q t h.3 h.4 in
    record {
      by = record_of q t;
      committed = in_history c.seats q t low h.3 h.4;
      another = λ (same : q ≡ seat). another_seat c seat q t sound busy undecided (let e = h.5 in omega (arith, e, above)) h.3 h.4 same;
      stamp_is = h.5;
      makes = (written_of w, ∈-map_from written_of t.writes w h.7, h.8);
    }

-- the place of a version whose stamp isn't 0
behind : (place : ℕ) → (place ≡ 0 → ⊥) → place ≡ place - 1 + 1
behind place ne = omega (arith, ne)

pub newer_is : (c : Core) (seat oid place : ℕ) → Sound c → oid < OBJECT_LIMIT → place < length (c.shared.objects oid).versions →
    in_progress (c.seats seat).place ≡ 1 → (c.seats seat).current.decision ≡ Undecided →
    (c.seats seat).current.begin ≤ (version_at (c.shared.objects oid) place).words.stamp → IsNewer c seat oid (version_at (c.shared.objects oid) place).words.stamp
newer_is c seat oid place sound known within busy undecided above =
    let opening = sound.common.ranges.positive in
    let begun = (sound.own seat).lives.opened_now busy in
    let oldest = sound.common.marks.opened oid known in
    let not_first : place ≡ 0 → ⊥ = λ (first : place ≡ 0).
    let zero : (version_at (c.shared.objects oid) place).words.stamp ≡ 0 = ap (λ n. (version_at (c.shared.objects oid) n).words.stamp) first ∙ oldest in
    omega (arith, opening, begun, zero, above) in
    let is = behind place not_first in
    let made = sound.common.marks.made oid (place - 1) known (omega (arith, within, is)) in
    subst (λ n. IsNewer c seat oid (version_at (c.shared.objects oid) n).words.stamp) (sym is)
    (made_by_another c seat oid (place - 1) _ _ sound busy undecided (subst (λ n. (c.seats seat).current.begin ≤ (version_at (c.shared.objects oid) n).words.stamp) is above) made)

-- a state word that isn't clear is 1, or the stamp of the seat's transaction
stamped : (state stamp bound : ℕ) → stamp ≡ state → 0 < state → is_clear state bound ≡ false → (state ≡ 1) ⊎ ((state ≡ stamp) × (0 < stamp) × (stamp < bound))
stamped state stamp bound is positive found =
    ⊎_elim
    (λ (one : state ≡ 1). inl one)
    (λ (more : state ≡ 1 → ⊥). inr (sym is, omega (arith, is, positive), low_stamp state stamp bound is positive more found))
    (cases_eq state 1)
  where
    low_stamp : (state stamp bound : ℕ) → stamp ≡ state → 0 < state → (state ≡ 1 → ⊥) → is_clear state bound ≡ false → stamp < bound
    low_stamp state stamp bound is positive more found = grind arith

below_at : (pl : Place) (t : Attempt) (bound : ℕ) → IsCurrent pl t → is_clear (state_of pl) bound ≡ false →
    (state_of pl ≡ 1) ⊎ ((state_of pl ≡ t.stamp) × (0 < t.stamp) × (t.stamp < bound))
below_at Vacant t bound is found = absurd (cc)
below_at Idle t bound is found = absurd (cc)
below_at (Begun tail) t bound is found = absurd (cc)
below_at (Announced tail) t bound is found = absurd (cc)
below_at (Active tail) t bound is found = absurd (cc)
below_at (Sealing tail) t bound is found = inl refl
below_at (Drawn tail stamp) t bound is found = inl refl
below_at (Sealed tail stamp) t bound is found = stamped stamp t.stamp bound is.stamp_is is.positive found
below_at (Decided tail stamp) t bound is found = stamped stamp t.stamp bound is.stamp_is is.positive found
below_at (Leaving stamp) t bound is found = stamped stamp t.stamp bound is.stamp_is is.positive found

pub below_is : (c : Core) (other bound : ℕ) → Sound c → is_clear (state_of (c.seats other).place) bound ≡ false → IsBelow c other bound
below_is c other bound sound found = below_at (c.seats other).place (c.seats other).current bound (sound.own other).ranges.current found
