-- What each step leaves of objects: a new version is that of a claim which its seat held, with its range's stamp.
use Rattle.std.proofs.Common.{◌≡◌, ℕ, ◌<◌, ◌≤◌, Bool, true, false, length, Option, Some, None, refl, sym, ap, subst, arith}
use Rattle.std.specs.Prelude.{if◌then◌else◌}
use Rattle.std.proofs.lemmas.Bool.{and_parts, eqb-true, ltb-true}
use Rattle.erm_machine.specs.declared.attempt.Attempt.{Attempt}
use Rattle.erm_machine.specs.declared.event.Kind.{Kind}
use Rattle.erm_machine.specs.declared.event.Kind.TheVariants as kind
use Rattle.erm_machine.specs.declared.part.Part.{Part}
use Rattle.erm_machine.specs.declared.place.Place.{Place}
use Rattle.erm_machine.specs.declared.place.Place.TheVariants.{Decided}
use Rattle.erm_machine.specs.declared.task.Task.{Task}
use Rattle.erm_machine.specs.declared.task.Task.TheVariants as task
use Rattle.erm_machine.specs.declared.version.Version.{Version}
use Rattle.erm_machine.specs.Core.{Core, Object, Shared, spot_of, word_at, version_at, claim_at, own_words}
use Rattle.erm_machine.specs.Facts.{IsCurrent}
use Rattle.erm_machine.specs.Seat.{is_decided, end_of}
use Rattle.erm_machine.specs.Settling.{install, install_claim, install_new, release_old, adds_version}
use Rattle.erm_machine.specs.Sound.{Sound}
use Rattle.erm_machine.specs.Step.{installed, added, shared_after}
use Rattle.erm_machine.proofs.Frames.{at_cases}
use Rattle.erm_machine.proofs.Guards.{when_then}
use Rattle.erm_machine.proofs.Holders.{stands_in}
use Rattle.erm_machine.proofs.Objects.{extends, at_push-new, length_installed}
use Rattle.erm_machine.proofs.QuietKinds.{Moves}
use Rattle.erm_machine.proofs.Versions.{AddsNone, as_many, at_last, branch_true, tail_later}
use Rattle.erm_core_si.proofs.SnapshotSteps.{NewOf, Grown}

-- a decided transaction has a range
decided_positive : (pl : Place) (t : Attempt) → is_decided pl ≡ true → IsCurrent pl t → 0 < t.stamp
decided_positive (Decided tail stamp) t e cur = let a = cur.positive in let b = cur.stamp_is in omega (arith, a, b)
decided_positive _ t e cur = absurd (cc)

-- the version that an install adds
new_of : (c : Core) (p oid head : ℕ) (e : ℕ × ℕ × ℕ × ℕ) (y : Part) → Sound c → end_of (c.seats p).task ≡ Some e →
    install_new oid head (c.seats p) e ≡ Some y → NewOf (c.seats p) oid (own_words (claim_at (c.seats p).current e.1).own).stamp
new_of c p oid head e y sound at h =
    let x = c.seats p in
    when_then (λ _. NewOf x oid (own_words (claim_at x.current e.1).own).stamp) _ _ y h (λ g.
    let parts = and_parts _ _ (and_parts _ _ g).0 in
    let installs = (and_parts _ _ parts.0).0 in
    let within = ltb-true _ _ (and_parts _ _ installs).1 in
    let decided = (and_parts _ _ (and_parts _ _ (and_parts _ _ installs).0).0).0 in
    let last = at_last x.place x.task (length x.current.writes) e decided at (eqb-true e.2 8 (and_parts _ _ parts.0).1) in
    let over = last.over in
    let step = last.step in
    let held = (sound.own p).claims.held e.1 within (omega (arith, over)) in
    record {
      positive = decided_positive x.place x.current decided (sound.own p).ranges.current;
      stamp_is = ((sound.own p).claims.install e.1 within held).stamp (omega (arith, step));
      holds = (claim_at x.current e.1, stands_in x.current e.1 within, held, sym (eqb-true _ _ parts.1));
    })

-- at each place that is new stands the version added
new_at : (x : Part) (oid head : ℕ) (v : Version) (o : Object) (b : Bool) → (b ≡ true → NewOf x oid v.words.stamp) → (k : ℕ) →
    length o.versions ≤ k → k < length (installed head (if b then Some v else None) o).versions → NewOf x oid (version_at (installed head (if b then Some v else None) o) k).words.stamp
new_at x oid head v o true new k late within =
    let many = length_installed head v o in
    subst (λ (u : Version). NewOf x oid u.words.stamp) (sym (at_push-new head v o k (omega (arith, many, late, within)))) (new refl)
new_at x oid head v o false new k late within = absurd (omega (arith, late, within))

new_installed : (c : Core) (p oid head : ℕ) (e : Option (ℕ × ℕ × ℕ × ℕ)) (y : Part) → Sound c → end_of (c.seats p).task ≡ e →
    install_claim oid head (c.seats p) e ≡ Some y → (k : ℕ) → length (c.shared.objects oid).versions ≤ k →
    k < length (installed head (added head (c.seats p) e) (c.shared.objects oid)).versions →
    NewOf (c.seats p) oid (version_at (installed head (added head (c.seats p) e) (c.shared.objects oid)) k).words.stamp
new_installed c p oid head None y sound at h k late within = absurd (cc)
new_installed c p oid head (Some e) y sound at h k late within =
    new_at (c.seats p) oid head (record { cell = head; words = own_words (claim_at (c.seats p).current e.1).own }) (c.shared.objects oid) (adds_version (c.seats p))
    (λ adds. new_of c p oid head e y sound at (branch_true (adds_version (c.seats p)) (install_new oid head (c.seats p) e) (release_old oid head (c.seats p) e) y adds h)) k late within

new_from : (c : Core) (p oid head : ℕ) (u : Task) (y : Part) → Sound c → (c.seats p).task ≡ u → install oid head (c.seats p) u ≡ Some y → (k : ℕ) → length (c.shared.objects oid).versions ≤ k →
    k < length (installed head (added head (c.seats p) (end_of u)) (c.shared.objects oid)).versions →
    NewOf (c.seats p) oid (version_at (installed head (added head (c.seats p) (end_of u)) (c.shared.objects oid)) k).words.stamp
new_from c p oid head task.Refused y sound at h k late within = absurd (omega (arith, late, within))
new_from c p oid head u y sound at h k late within = new_installed c p oid head (end_of u) y sound (ap end_of at) h k late within

install_grown : (c : Core) (p oid head : ℕ) (d : Core) → Sound c → (m : Moves c p (kind.Install oid head) d) →
    Grown c.shared (shared_after p (kind.Install oid head) (word_at c (spot_of p (kind.Install oid head))) (c.seats p) c.shared) (c.seats p)
install_grown c p oid head d sound m = record {
  tail = omega arith;
  extends = extends p (kind.Install oid head) (word_at c (spot_of p (kind.Install oid head))) (c.seats p) c.shared;
  new = λ at k. at_cases (λ z. length (c.shared.objects at).versions ≤ k → k < length z.versions → NewOf (c.seats p) at (version_at z k).words.stamp) c.shared.objects oid
      (installed head (added head (c.seats p) (end_of (c.seats p).task)) (c.shared.objects oid)) at
      (λ same late within. subst (λ n. NewOf (c.seats p) n (version_at (installed head (added head (c.seats p) (end_of (c.seats p).task)) (c.shared.objects oid)) k).words.stamp) (sym same)
      (new_from c p oid head (c.seats p).task m.part sound refl m.after k (subst (λ n. length (c.shared.objects n).versions ≤ k) same late) within))
      (λ _ late within. absurd (omega (arith, late, within)));
}

plain_grown : (p : ℕ) (k : Kind) (found : ℕ) (x : Part) (s : Shared) → AddsNone k → s.tail ≤ (shared_after p k found x s).tail → Grown s (shared_after p k found x s) x
plain_grown p k found x s none tail = record {
  tail = tail;
  extends = extends p k found x s;
  new = λ oid j late within. absurd (let h = as_many p k found x s oid none in omega (arith, late, within, h));
}

pub grown : (c : Core) (p : ℕ) (k : Kind) (d : Core) → Sound c → (m : Moves c p k d) → Grown c.shared (shared_after p k (word_at c (spot_of p k)) (c.seats p) c.shared) (c.seats p)
grown c p (kind.Install oid head) d sound m = install_grown c p oid head d sound m
grown c p k d sound m = plain_grown p k (word_at c (spot_of p k)) (c.seats p) c.shared tt (tail_later c p k)
