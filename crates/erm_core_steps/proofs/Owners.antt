-- Who has claimed an object, as the machine and as the view say it.
use Rattle.std.proofs.Common.{◌≡◌, ◌≢◌, ℕ, zero, suc, ◌<◌, ◌≤◌, ⊎_elim, true, false, List, [], ◌∷◌, map, slice_get, length, Some, refl, sym, ap, ◌∙◌, subst, arith}
use Rattle.std.proofs.lemmas.Bool.{cases_Bool, cases_lt, eq-eqb, or_left, or_right}
use Rattle.erm_model.specs.declared.row_stop.RowStop.{RowStop}
use Rattle.erm_model.specs.declared.row_stop.RowStop.TheVariants as stop
use Rattle.erm_model.specs.declared.limits.TheConstants.{READ_LIMIT}
use Rattle.erm_model.specs.Member.{◌∈◌}
use Rattle.erm_model.proofs.Members.{none_in_nil}
use Rattle.erm_machine.specs.declared.attempt.Attempt.{Attempt}
use Rattle.erm_machine.specs.declared.attempt.Claim.{Claim}
use Rattle.erm_machine.specs.declared.limits.TheConstants.{OBJECT_LIMIT}
use Rattle.erm_machine.specs.declared.part.Part.{Part}
use Rattle.erm_machine.specs.declared.place.Place.{Place}
use Rattle.erm_machine.specs.declared.place.Place.TheVariants.{Active, Idle, Sealed, Vacant}
use Rattle.erm_machine.specs.declared.task.Task.{Task}
use Rattle.erm_machine.specs.Core.{Core}
use Rattle.erm_machine.specs.Decided.{written_of}
use Rattle.erm_machine.specs.Facts.{Holds, IsCurrent}
use Rattle.erm_machine.specs.Lives.{in_progress}
use Rattle.erm_machine.specs.Sound.{Sound}
use Rattle.erm_machine.specs.Words.{is_clear, is_flusher, owner_of, state_of}
use Rattle.erm_machine.proofs.Listed.{∈-second}
use Rattle.erm_world.specs.Calls.{DidNotRead, IsAhead, IsNew}
use Rattle.erm_world.specs.World.{IsSession, View, Work, work_at}
use Rattle.erm_world.specs.World as world
use Rattle.erm_world.specs.Works.{is_claimed}
use Rattle.erm_core_met.proofs.Others.{owner_is}
use Rattle.erm_core_view.specs.Views.{IsBetween, IsQuiet, stand_of, view_of, work_of}
use Rattle.erm_core_view.proofs.Shown.{work_active}
use Rattle.erm_core_view.proofs.Snapshots.{starts_new}
use Rattle.erm_core_steps.specs.Reads.{IsWaiting}
use Rattle.erm_core_steps.proofs.Quiet.{IsActive}

-- a claim among those of a transaction is one that its work has
claimed_at : (ws : List Claim) (w : Claim) (oid k : ℕ) → slice_get ws k ≡ Some w → w.version.oid ≡ oid → is_claimed (map written_of ws) oid ≡ true
claimed_at [] w oid k at same = absurd (cc)
claimed_at (c ∷ cs) w oid zero at same =
    let first : c ≡ w = cc in
    or_left _ _ (eq-eqb c.version.oid oid (ap (λ (d : Claim). d.version.oid) first ∙ same))
claimed_at (c ∷ cs) w oid (suc k) at same = or_right _ _ (claimed_at cs w oid k at same)

pub holds_claimed : (x : Part) (oid : ℕ) → Holds x oid → is_claimed (work_of x.current).claims oid ≡ true
holds_claimed x oid holds = claimed_at x.current.writes holds.0 oid holds.1.0 holds.1.1 holds.3

-- an object that the transaction hasn't claimed has another owner, or none
pub owner_other : (sessions seat oid : ℕ) (c : Core) → Sound c → IsActive seat c → 0 < seat → oid < OBJECT_LIMIT
    → is_claimed (work_at (view_of sessions c) seat).claims oid ≡ false → owner_of (c.shared.objects oid).entry ≢ seat
owner_other sessions seat oid c sound at some known unclaimed = λ own.
    let held = holds_claimed (c.seats seat) oid ((sound.own seat).claims.owned oid some known own) in
    let shown = ap (λ (w : Work). is_claimed w.claims oid) (work_active (c.seats seat).place (c.seats seat).task (c.seats seat).current at.active (starts_new (c.seats seat).task (c.seats seat).current at.starts)) in
    absurd (cc (held, shown, unclaimed))

-- a seat in the middle of a transaction that holds a claim is one of the world's sessions
vacant_none : (pl : Place) → pl ≡ Vacant → in_progress pl ≡ 1 → ⊥
vacant_none pl is busy = let idle : in_progress pl ≡ 0 = ap in_progress is in absurd (omega (arith, idle, busy))

pub holder_session : (sessions oid q : ℕ) (c : Core) → IsQuiet sessions c → in_progress (c.seats q).place ≡ 1 → Holds (c.seats q) oid → 0 < q → IsSession (view_of sessions c) q
holder_session sessions oid q c quiet busy holds some = (
  some,
  ⊎_elim
      (λ (beyond : sessions < q).
      ⊎_elim
      (λ (flusher : is_flusher q ≡ true). absurd (none_in_nil holds.0 (subst (λ (ws : List Claim). holds.0 ∈ ws) (quiet.flusher q flusher).writes holds.1)))
      (λ (plain : is_flusher q ≡ false). absurd (vacant_none (c.seats q).place (quiet.others q (λ _ low. absurd (omega (arith, low, beyond))) plain) busy))
      (cases_Bool (is_flusher q)))
      (λ (within : q ≤ sessions). within)
      (cases_lt sessions q),
)

-- A session that isn't clear is sealed with its state word, between calls.
pub record IsSealedAt (pl : Place) (u : Task) (t : Attempt) (seen bound : ℕ) : Type 0 where
  pub stand : stand_of pl u t ≡ world.sealed (work_of t) seen
  pub below : seen < bound

pub below_unclear : (seen bound : ℕ) → 1 < seen → is_clear seen bound ≡ false → seen < bound
below_unclear seen bound more unclear = grind arith

pub unclear_sealed : (pl : Place) (u : Task) (t : Attempt) (bound : ℕ) → IsBetween pl u → is_clear (state_of pl) bound ≡ false → (in_progress pl ≡ 1 → 0 < state_of pl → 1 < state_of pl)
    → IsSealedAt pl u t (state_of pl) bound
unclear_sealed Idle u t bound between unclear above = absurd (cc)
unclear_sealed (Active tail) u t bound between unclear above = absurd (cc)
unclear_sealed (Sealed tail stamp) u t bound between unclear above =
    record { stand = refl; below = below_unclear stamp bound (above refl (some_unclear stamp bound unclear)) unclear }
  where
    some_unclear : (seen bound : ℕ) → is_clear seen bound ≡ false → 0 < seen
    some_unclear seen bound unclear = grind arith
unclear_sealed _ u t bound between unclear above = absurd between

-- a stamp lies behind the opening's place
stamp_at : (pl : Place) (t : Attempt) (u : Task) → IsBetween pl u → IsCurrent pl t → 0 < state_of pl → t.stamp ≡ state_of pl
stamp_at Idle t u between is some = absurd (omega (arith, some))
stamp_at (Active tail) t u between is some = absurd (omega (arith, some))
stamp_at (Sealed tail stamp) t u between is some = is.stamp_is
stamp_at _ t u between is some = absurd between

pub stamp_high : (sessions q : ℕ) (c : Core) → Sound c → IsQuiet sessions c → IsSession (view_of sessions c) q → in_progress (c.seats q).place ≡ 1
    → 0 < state_of (c.seats q).place → 1 < state_of (c.seats q).place
stamp_high sessions q c sound quiet session busy some =
    let x = c.seats q in
    let is = stamp_at x.place x.current x.task (quiet.between q session.0 session.1) (sound.own q).ranges.current some in
    let opened = (sound.own q).lives.opened_now busy in
    let sealed = (sound.own q).lives.sealed x.current (∈-second x.over (x.current ∷ []) x.current (0, refl)) (omega (arith, is, some)) in
    let behind = quiet.opened in
    let begins = sealed.1 in
    omega (arith, is, opened, begins, behind)

-- the owner of an entry that isn't clear is ahead
pub owner_ahead : (sessions seat oid owner bound : ℕ) (c : Core) → Sound c → IsQuiet sessions c → oid < OBJECT_LIMIT → 0 < owner
    → owner_of (c.shared.objects oid).entry ≡ owner → owner ≢ seat → is_clear (state_of (c.seats owner).place) bound ≡ false
    → IsAhead (view_of sessions c) seat oid bound owner (state_of (c.seats owner).place)
owner_ahead sessions seat oid owner bound c sound quiet known some owns other unclear =
    let is = owner_is c oid owner sound known some owns in
    let x = c.seats owner in
    let session = holder_session sessions oid owner c quiet is.in_progress is.claims some in
    let sealed =
    unclear_sealed x.place x.task x.current bound (quiet.between owner session.0 session.1) unclear
    (stamp_high sessions owner c sound quiet session)
    in
    record {
      session = session;
      another = other;
      work = work_of x.current;
      stand = sealed.stand;
      below = sealed.below;
      claims = holds_claimed x oid is.claims;
    }

-- and so a look that waits for it says
pub not_yet : (sessions seat oid owner : ℕ) (b c : Core) (t : View) (why : RowStop) → Sound b → IsQuiet sessions b → oid < OBJECT_LIMIT → 0 < owner
    → owner_of (b.shared.objects oid).entry ≡ owner → owner ≢ seat → c.seats owner ≡ b.seats owner
    → (c.seats seat).current.begin ≡ (work_at (view_of sessions b) seat).begin → t ≡ view_of sessions b → IsNew (work_at (view_of sessions b) seat) oid
    → length (work_at (view_of sessions b) seat).reads < READ_LIMIT → IsWaiting c seat owner why → DidNotRead (view_of sessions b) seat oid why t
not_yet sessions seat oid owner b c t (stop.NotYet other seen) sound quiet known some owns another stays begins same new few (is, word, unclear) =
    let state : seen ≡ state_of (b.seats owner).place = word ∙ ap (λ (x : Part). state_of x.place) stays in
    let bound = (work_at (view_of sessions b) seat).begin in
    let not_clear : is_clear (state_of (b.seats owner).place) bound ≡ false =
    subst (λ (n : ℕ). is_clear n bound ≡ false) state (subst (λ (n : ℕ). is_clear seen n ≡ false) begins unclear)
    in
    let ahead : IsAhead (view_of sessions b) seat oid bound other seen =
    subst (λ (n : ℕ). IsAhead (view_of sessions b) seat oid bound n seen) (sym is)
    (subst (λ (n : ℕ). IsAhead (view_of sessions b) seat oid bound owner n) (sym state)
    (owner_ahead sessions seat oid owner bound b sound quiet known some owns another not_clear))
    in (same, new, few, ahead)
not_yet sessions seat oid owner b c t why sound quiet known some owns another stays begins same new few waits = absurd waits
