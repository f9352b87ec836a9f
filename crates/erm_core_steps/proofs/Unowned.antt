-- Who has claimed an object that a claim meets: its owner, or nobody; and who made a version that is too new.
use Rattle.std.proofs.Common.{◌≡◌, ◌≢◌, ℕ, ◌<◌, ◌≤◌, true, length, refl, sym, ap, ◌∙◌, subst, arith}
use Rattle.erm_model.specs.History.{History}
use Rattle.erm_model.specs.Member.{◌∈◌}
use Rattle.erm_machine.specs.declared.attempt.Attempt.{Attempt}
use Rattle.erm_machine.specs.declared.limits.TheConstants.{OBJECT_LIMIT}
use Rattle.erm_machine.specs.declared.place.Place.{Place}
use Rattle.erm_machine.specs.declared.place.Place.TheVariants.{Active, Idle, Sealed}
use Rattle.erm_machine.specs.declared.task.Task.{Task}
use Rattle.erm_machine.specs.Core.{Core, newest, version_at}
use Rattle.erm_machine.specs.Facts.{over_of}
use Rattle.erm_machine.specs.Lives.{in_progress}
use Rattle.erm_machine.specs.Seat.{is_active}
use Rattle.erm_machine.specs.Sound.{Sound}
use Rattle.erm_machine.specs.Words.{number_of, owner_of}
use Rattle.erm_machine.proofs.Holders.{held_claim}
use Rattle.erm_world.specs.Calls.{HasNoNewer, IsNewer, IsOwned, IsUnowned}
use Rattle.erm_world.specs.World.{Work, work_at}
use Rattle.erm_world.specs.World as world
use Rattle.erm_world.specs.Works.{is_claimed}
use Rattle.erm_core_met.proofs.Others.{newer_is, owner_is}
use Rattle.erm_core_view.specs.Views.{IsBetween, IsQuiet, stand_of, view_of, work_of}
use Rattle.erm_core_view.proofs.Commits.{has_the_history}
use Rattle.erm_core_view.proofs.Shown.{work_active}
use Rattle.erm_core_steps.proofs.Aborts.{unsealed}
use Rattle.erm_core_steps.proofs.Early.{claimed_holds}
use Rattle.erm_core_steps.proofs.Newest.{newest_shown}
use Rattle.erm_core_steps.proofs.Owners.{holder_session, holds_claimed}
use Rattle.erm_core_view.proofs.Claimed.{starts_with_all, settles_with_all}
use Rattle.erm_core_view.proofs.Snapshots.{IsNewSnapshot, current_by, shows_current, snapshots_new}

-- a session in the middle of a transaction shows it
current_shown : (pl : Place) (u : Task) (t : Attempt) → IsNewSnapshot u t → IsBetween pl u → in_progress pl ≡ 1 → world.IsCurrent (stand_of pl u t) (work_of t)
current_shown Idle u t new between busy = absurd (cc)
current_shown (Active tail) u t new between busy = shows_current u t new
current_shown (Sealed tail stamp) u t new between busy = refl
current_shown _ u t new between busy = absurd between

-- the owner of an entry has claimed the object
pub owner_owned : (sessions seat oid owner : ℕ) (c : Core) → Sound c → IsQuiet sessions c → oid < OBJECT_LIMIT → 0 < owner
    → owner_of (c.shared.objects oid).entry ≡ owner → owner ≢ seat → IsOwned (view_of sessions c) seat oid owner (number_of (c.shared.objects oid).entry)
owner_owned sessions seat oid owner c sound quiet known some owns other =
    let is = owner_is c oid owner sound known some owns in
    let x = c.seats owner in
    let session = holder_session sessions oid owner c quiet is.in_progress is.claims some in
    record {
      session = session;
      another = other;
      work = work_of x.current;
      current = current_shown x.place x.task x.current (snapshots_new c owner sound) (quiet.between owner session.0 session.1) is.in_progress;
      number_is = is.number_is;
      claims = holds_claimed x oid is.claims;
    }

-- nobody in the middle of a transaction has claimed an object without owner
current_held : (pl : Place) (t : Attempt) (u : Task) (w : Work) → IsNewSnapshot u t → world.IsCurrent (stand_of pl u t) w → IsBetween pl u
    → (over_of pl u (length t.writes) ≡ 0) × (work_of t ≡ w)
current_held (Active tail) t u w new is between = (starts_with_all tail u (length t.writes) between, current_by u t w new is)
current_held (Sealed tail stamp) t u w new is between = (settles_with_all tail stamp u (length t.writes) between, is)
current_held _ t u w new is between = absurd is

pub unowned : (sessions seat oid : ℕ) (c : Core) → Sound c → IsQuiet sessions c → owner_of (c.shared.objects oid).entry ≡ 0 → IsUnowned (view_of sessions c) seat oid
unowned sessions seat oid c sound quiet none other number owned =
    let x = c.seats other in
    let held = current_held x.place x.current x.task owned.work (snapshots_new c other sound) owned.current (quiet.between other owned.session.0 owned.session.1) in
    let holds = claimed_holds oid other c sound held.0 (ap (λ (w : Work). is_claimed w.claims oid) held.1 ∙ owned.claims) in
    let owner = (held_claim c other oid sound holds).fits.owner in
    let some = owned.session.0 in
    absurd (omega (arith, owner, none, some))

-- the newest version, where it is at or above the begin stamp, was made by a commit of another session
active_busy : (pl : Place) → is_active pl ≡ true → in_progress pl ≡ 1
active_busy (Active tail) e = refl
active_busy _ e = absurd (cc)

pub newer_shown : (sessions seat oid place : ℕ) (c : Core) → Sound c → IsQuiet sessions c → is_active (c.seats seat).place ≡ true → oid < OBJECT_LIMIT
    → place < length (c.shared.objects oid).versions → place ≡ newest (c.shared.objects oid) → (c.seats seat).current.begin ≤ (version_at (c.shared.objects oid) place).words.stamp
    → IsNewer (view_of sessions c) seat oid (version_at (c.shared.objects oid) place).words.stamp
newer_shown sessions seat oid place c sound quiet active known within head above =
    let x = c.seats seat in
    let current = unsealed x.place x.current active (sound.own seat).ranges.current in
    let newer = newer_is c seat oid place sound known within (active_busy x.place active) current.decision above in
    let begins = ap (λ (w : Work). w.begin) (work_active x.place x.task x.current active (snapshots_new c seat sound)) in
    record {
      by = newer.by;
      committed = subst (λ (h : History). newer.by ∈ h) (sym (has_the_history sessions c sound quiet)) newer.committed;
      another = newer.another;
      stamp_is = newer.stamp_is;
      makes = newer.makes;
      above = omega (arith, begins, above);
      newest = newest_shown sessions oid place c sound head;
    }

-- none was where the newest lies below the begin stamp
pub none_newer : (sessions seat oid place : ℕ) (c : Core) → Sound c → is_active (c.seats seat).place ≡ true → place ≡ newest (c.shared.objects oid)
    → (version_at (c.shared.objects oid) place).words.stamp < (c.seats seat).current.begin → HasNoNewer (view_of sessions c) seat oid
none_newer sessions seat oid place c sound active head below stamp newer =
    let most = newest_shown sessions oid place c sound head newer.by newer.committed newer.makes in
    let is = newer.stamp_is in
    let above = newer.above in
    let begins = ap (λ (w : Work). w.begin) (work_active (c.seats seat).place (c.seats seat).task (c.seats seat).current active (snapshots_new c seat sound)) in
    absurd (omega (arith, most, is, above, begins, below))
