-- What transactions in progress have claimed.
use Rattle.std.proofs.Common.{◌≡◌, ◌≢◌, ℕ, true, ◌||◌, length, refl, sym, ap, ◌∙◌, subst, arith}
use Rattle.erm_model.specs.declared.history.VersionWritten.{VersionWritten}
use Rattle.erm_model.specs.Member.{◌∈◌}
use Rattle.erm_model.proofs.Members.{none_in_nil}
use Rattle.erm_machine.specs.declared.attempt.Attempt.{Attempt}
use Rattle.erm_machine.specs.declared.attempt.Claim.{Claim}
use Rattle.erm_machine.specs.declared.place.Place.{Place}
use Rattle.erm_machine.specs.declared.place.Place.TheVariants.{Active, Sealed}
use Rattle.erm_machine.specs.declared.task.Task.{Task}
use Rattle.erm_machine.specs.declared.task.Task.TheVariants as task
use Rattle.erm_machine.specs.Core.{Core}
use Rattle.erm_machine.specs.Decided.{written_of}
use Rattle.erm_machine.specs.Facts.{Holds, over_of}
use Rattle.erm_machine.specs.Seat.{may_start}
use Rattle.erm_machine.specs.Settling.{may_settle}
use Rattle.erm_machine.specs.Sound.{Sound}
use Rattle.erm_machine.proofs.Holders.{held_once, holds_from, stands_at}
use Rattle.erm_machine.proofs.Listed.{∈-map}
use Rattle.erm_world.specs.World.{IsSession, work_at}
use Rattle.erm_world.specs.World as world
use Rattle.erm_core_view.specs.Views.{IsBetween, IsQuiet, is_standing, stand_of, view_of}
use Rattle.erm_core_view.proofs.Snapshots.{IsNewSnapshot, shown_work, snapshots_new}

-- no claim is over where a call may start, and where settle may begin anew
pub starts_with_all : (tail : ℕ) (u : Task) (writes : ℕ) → may_start u || is_standing u ≡ true → over_of (Active tail) u writes ≡ 0
starts_with_all tail (task.Ends raised ended step cleared) writes e = absurd (cc)
starts_with_all tail _ writes e = refl

pub settles_with_all : (tail stamp : ℕ) (u : Task) (writes : ℕ) → may_settle u ≡ true → over_of (Sealed tail stamp) u writes ≡ 0
settles_with_all tail stamp (task.Ends raised ended step cleared) writes e = absurd (cc)
settles_with_all tail stamp _ writes e = refl

-- a claim that the view's transaction in progress has is one of the seat's current one, and none is over
claimed_of : (pl : Place) (t : Attempt) (u : Task) (d : VersionWritten) → IsNewSnapshot u t → IsBetween pl u → d ∈ (world.work_of (stand_of pl u t)).claims
    → (over_of pl u (length t.writes) ≡ 0) × ((w : Claim) × (w ∈ t.writes) × (written_of w ≡ d))
claimed_of (Active tail) t u d new between m =
    (starts_with_all tail u (length t.writes) between, ∈-map written_of t.writes d (subst (λ (w : world.Work). d ∈ w.claims) (shown_work u t new) m))
claimed_of (Sealed tail stamp) t u d new between m = (settles_with_all tail stamp u (length t.writes) between, ∈-map written_of t.writes d m)
claimed_of _ t u d new between m = absurd (none_in_nil d m)

module _ (sessions : ℕ) (c : Core) (sound : Sound c) (quiet : IsQuiet sessions c) where
  -- so its seat holds the object
  claims_hold : (p : ℕ) (d : VersionWritten) → IsSession (view_of sessions c) p → d ∈ (work_at (view_of sessions c) p).claims → Holds (c.seats p) d.oid
  claims_hold p d is_session m =
      let x = c.seats p in
      let claim = claimed_of x.place x.current x.task d (snapshots_new c p sound) (quiet.between p is_session.0 is_session.1) m in
      let none = claim.0 in
      let at = stands_at x.current claim.1.0 claim.1.1 in
      let oid : claim.1.0.version.oid ≡ d.oid = ap (λ (v : VersionWritten). v.oid) claim.1.2 in
      holds_from c p d.oid
      (record {
        place = at.place;
        within = at.within;
        held = (sound.own p).claims.held at.place at.within (omega (arith, none));
        oid_is = ap (λ (w : Claim). w.version.oid) at.is ∙ oid;
      })

  -- no two have claimed one object
  pub claims_apart : (p q : ℕ) (d e : VersionWritten) → IsSession (view_of sessions c) p → IsSession (view_of sessions c) q → p ≢ q
      → d ∈ (work_at (view_of sessions c) p).claims → e ∈ (work_at (view_of sessions c) q).claims → d.oid ≢ e.oid
  claims_apart p q d e of_p of_q differ m n same =
      differ (held_once c p q d.oid sound (claims_hold p d of_p m) (subst (λ oid. Holds (c.seats q) oid) (sym same) (claims_hold q e of_q n)))
