-- An install adds a version that its commit made, and a successor stamp is stored at a newest version.
use Rattle.std.proofs.Common.{◌≡◌, ℕ, ◌+◌, ◌<◌, ◌≤◌, ⊎_elim, Bool, true, false, length, Option, Some, None, refl, sym, ap, ◌∙◌, subst, arith}
use Rattle.std.specs.Prelude.{if◌then◌else◌}
use Rattle.std.proofs.lemmas.Bool.{and_parts, eqb-true, ltb-true}
use Rattle.erm_model.specs.Member.{◌∈◌}
use Rattle.erm_machine.specs.declared.attempt.Attempt.{Attempt}
use Rattle.erm_machine.specs.declared.attempt.Claim.{Claim}
use Rattle.erm_machine.specs.declared.attempt.Decision.TheVariants.{Commit}
use Rattle.erm_machine.specs.declared.event.Kind.TheVariants as kind
use Rattle.erm_machine.specs.declared.part.Part.{Part}
use Rattle.erm_machine.specs.declared.task.Task.{Task}
use Rattle.erm_machine.specs.declared.task.Task.TheVariants as task
use Rattle.erm_machine.specs.declared.version.Version.{Version}
use Rattle.erm_machine.specs.Claims.{step_of}
use Rattle.erm_machine.specs.Core.{Core, Object, Shared, newest, version_at, claim_at, own_words}
use Rattle.erm_machine.specs.Facts.{all_of, over_of}
use Rattle.erm_machine.specs.Marks.{HasOverwritten, OwnMarks, IsInstalled}
use Rattle.erm_machine.specs.Seat.{end_of}
use Rattle.erm_machine.specs.Settling.{install_new, release_old, install_claim, install, adds_version, without_entry}
use Rattle.erm_machine.specs.Sound.{Sound}
use Rattle.erm_machine.specs.Step.{with_object, installed, added}
use Rattle.erm_machine.specs.Words.{put}
use Rattle.erm_machine.proofs.Versions.{AtLast, at_last}
use Rattle.erm_machine.proofs.Frames.{at_cases, put_same}
use Rattle.erm_machine.proofs.Guards.{when_then}
use Rattle.erm_machine.proofs.Holders.{stands_in}
use Rattle.erm_machine.proofs.Objects.{at_push-old, at_push-new, length_installed}
use Rattle.erm_machine.proofs.QuietKinds.{Moves}
use Rattle.erm_core_ssn.proofs.MarksGrown.{grown_kind}
use Rattle.erm_core_ssn.proofs.MarksLists.{∈-last, ∈-set, ∈-set_here}
use Rattle.erm_core_ssn.proofs.MarksMoved.{unclaim_left, release_left}
use Rattle.erm_core_ssn.proofs.MarksSame.{Left, commit_is, goes_set}
use Rattle.erm_core_ssn.proofs.MarksSteps.{Kept, Grown, Made, ClaimOk, ok_of, ok_stays, own_current, ahead_current, kept_from}

-- the install of a commit's claim at its last step
record Installs (c : Core) (p oid : ℕ) (n : ℕ × ℕ × ℕ × ℕ) : Type 0 where
  pub within : n.1 < length (c.seats p).current.writes
  pub commits : (c.seats p).current.decision ≡ Commit
  pub is_oid : oid ≡ (claim_at (c.seats p).current n.1).version.oid
  pub is_place : (claim_at (c.seats p).current n.1).version.place ≡ newest (c.shared.objects oid)
  pub some : 0 < length (c.shared.objects oid).versions
  pub stamp : (own_words (claim_at (c.seats p).current n.1).own).stamp ≡ (c.seats p).current.stamp
  pub succ : (version_at (c.shared.objects oid) (claim_at (c.seats p).current n.1).version.place).words.overwriter_succ ≡ (c.seats p).current.succ

installs_of : (c : Core) (p oid head : ℕ) (n : ℕ × ℕ × ℕ × ℕ) (y : Part) → Sound c → end_of (c.seats p).task ≡ Some n → install_new oid head (c.seats p) n ≡ Some y → Installs c p oid n
installs_of c p oid head n y sound at h =
    let x = c.seats p in
    when_then (λ _. Installs c p oid n) _ _ y h (λ g.
    let parts = and_parts _ _ (and_parts _ _ g).0 in
    let tests = and_parts _ _ (and_parts _ _ parts.0).0 in
    let within : n.1 < length x.current.writes = ltb-true n.1 (length x.current.writes) tests.1 in
    let place = and_parts _ _ (and_parts _ _ tests.0).0 in
    let eight : n.2 ≡ 8 = eqb-true n.2 8 (and_parts _ _ parts.0).1 in
    let last : AtLast x.place x.task (length x.current.writes) n.1 = at_last x.place x.task (length x.current.writes) n place.0 at eight in
    let over : over_of x.place x.task (length x.current.writes) ≡ n.1 = last.over in
    let step : step_of x.task n.1 ≡ 8 = last.step in
    let is_oid : oid ≡ (claim_at x.current n.1).version.oid = eqb-true _ _ parts.1 in
    let held = (sound.own p).claims.held n.1 within (omega (arith, over)) in
    let fit = (sound.own p).claims.fit n.1 within held in
    let done = (sound.own p).claims.install n.1 within held in
    let known = (sound.own p).claims.objects n.1 within in
    record {
      within = within;
      commits = commit_is x.current.decision place.1;
      is_oid = is_oid;
      is_place = subst (λ k. (claim_at x.current n.1).version.place ≡ newest (c.shared.objects k)) (sym is_oid) fit.place;
      some = subst (λ k. 0 < length (c.shared.objects k).versions) (sym is_oid) (sound.common.claims.objects (claim_at x.current n.1).version.oid known).some;
      stamp = done.stamp (omega (arith, step));
      succ = subst (λ k. (version_at (c.shared.objects k) (claim_at x.current n.1).version.place).words.overwriter_succ ≡ x.current.succ) (sym is_oid) (done.succ (omega (arith, step)));
    })

-- the version that an install adds, the object and the claim after it
abbrev new_version : Part → ℕ → (ℕ × ℕ × ℕ × ℕ) → Version
new_version x head n = record { cell = head; words = own_words (claim_at x.current n.1).own }

abbrev object_after : Core → ℕ → ℕ → ℕ → (ℕ × ℕ × ℕ × ℕ) → Object
object_after c p oid head n = installed head (Some (new_version (c.seats p) head n)) (c.shared.objects oid)

abbrev over_claim : Attempt → (ℕ × ℕ × ℕ × ℕ) → Claim
over_claim t n = record (claim_at t n.1) { held = false; own = None }

module _ (c : Core) (p oid head : ℕ) (n : ℕ × ℕ × ℕ × ℕ) (f : Installs c p oid n) where
  stamp_of_new : (place : ℕ) → place + 1 ≡ length (c.shared.objects oid).versions → (version_at (object_after c p oid head n) (place + 1)).words.stamp ≡ (c.seats p).current.stamp
  stamp_of_new place e = ap (λ (v : Version). v.words.stamp) (at_push-new head (new_version (c.seats p) head n) (c.shared.objects oid) (place + 1) e) ∙ f.stamp

  succ_below_new : (place : ℕ) → place + 1 ≡ length (c.shared.objects oid).versions → (version_at (object_after c p oid head n) place).words.overwriter_succ ≡ (c.seats p).current.succ
  succ_below_new place e =
      let here : place ≡ (claim_at (c.seats p).current n.1).version.place = let h = f.is_place in omega (arith, h, e) in
      ap (λ (v : Version). v.words.overwriter_succ) (at_push-old head (new_version (c.seats p) head n) (c.shared.objects oid) place (omega (arith, e)))
      ∙ ap (λ k. (version_at (c.shared.objects oid) k).words.overwriter_succ) here ∙ f.succ

  many_after : length (object_after c p oid head n).versions ≡ length (c.shared.objects oid).versions + 1
  many_after = length_installed head (new_version (c.seats p) head n) (c.shared.objects oid)

  -- the commit has overwritten the version before
  made_here : (y : Part) (place : ℕ) → y.current ≡ without_entry n.1 (c.seats p).current → place + 1 ≡ length (c.shared.objects oid).versions
      → HasOverwritten (put c.seats p y) oid place (version_at (object_after c p oid head n) (place + 1)).words.stamp (version_at (object_after c p oid head n) place).words.overwriter_succ
  made_here y place current e = (
    p,
    without_entry n.1 (c.seats p).current,
    over_claim (c.seats p).current n,
    subst (λ z. without_entry n.1 (c.seats p).current ∈ all_of z) (sym (put_same c.seats p y)) (subst (λ t. t ∈ all_of y) current (∈-last y.over y.current)),
    f.commits,
    sym (stamp_of_new place e),
    sym (succ_below_new place e),
    ∈-set_here (c.seats p).current.writes n.1 (over_claim (c.seats p).current n) f.within,
    sym f.is_oid,
    (let h = f.is_place in omega (arith, h, e)),
  )

  made_install : (y : Part) → y.current ≡ without_entry n.1 (c.seats p).current → Made c.shared (with_object oid (object_after c p oid head n) c.shared) (put c.seats p y)
  made_install y current = record {
    made = λ at place known late within.
        at_cases
        (λ z. length (c.shared.objects at).versions ≤ place + 1 → place + 1 < length z.versions
        → HasOverwritten (put c.seats p y) at place (version_at z (place + 1)).words.stamp (version_at z place).words.overwriter_succ)
        c.shared.objects oid (object_after c p oid head n) at
        (λ same low high.
        subst (λ k. HasOverwritten (put c.seats p y) k place (version_at (object_after c p oid head n) (place + 1)).words.stamp (version_at (object_after c p oid head n) place).words.overwriter_succ)
        (sym same)
        (made_here y place current
        (let many = many_after in let old = subst (λ k. length (c.shared.objects k).versions ≤ place + 1) same low in omega (arith, many, old, high))))
        (λ _ low high. absurd (omega (arith, low, high)))
        late within;
  }

  -- the claim that is over has installed the next version
  installed_next : IsInstalled (with_object oid (object_after c p oid head n) c.shared) (without_entry n.1 (c.seats p).current) (over_claim (c.seats p).current n)
  installed_next =
      let w = claim_at (c.seats p).current n.1 in
      let e : w.version.place + 1 ≡ length (c.shared.objects oid).versions = let h = f.is_place in let some = f.some in omega (arith, h, some) in
      let there : put c.shared.objects oid (object_after c p oid head n) w.version.oid ≡ object_after c p oid head n =
      ap (λ k. put c.shared.objects oid (object_after c p oid head n) k) (sym f.is_oid) ∙ put_same c.shared.objects oid (object_after c p oid head n) in
      record {
        next = subst (λ (z : Object). w.version.place + 1 < length z.versions) (sym there) (let many = many_after in omega (arith, many, e));
        stamp = ap (λ (z : Object). (version_at z (w.version.place + 1)).words.stamp) there ∙ stamp_of_new w.version.place e;
        succ = ap (λ (z : Object). (version_at z w.version.place).words.overwriter_succ) there ∙ succ_below_new w.version.place e;
      }

  own_installed : (y : Part) → OwnMarks c.shared (c.seats p) → Grown c.shared (with_object oid (object_after c p oid head n) c.shared) → y.over ≡ (c.seats p).over
      → y.current ≡ without_entry n.1 (c.seats p).current → OwnMarks (with_object oid (object_after c p oid head n) c.shared) y
  own_installed y own g over current =
      own_current c.shared (with_object oid (object_after c p oid head n) c.shared) (c.seats p) y g own over
      (λ w m. subst (λ t. ClaimOk (with_object oid (object_after c p oid head n) c.shared) t w) (sym current)
      (claims w (subst (λ (t : Attempt). w ∈ t.writes) current m)))
    where
      old : (w : Claim) → w ∈ (c.seats p).current.writes → ClaimOk (with_object oid (object_after c p oid head n) c.shared) (c.seats p).current w
      old w m =
          ok_stays c.shared (with_object oid (object_after c p oid head n) c.shared) (c.seats p).current w g
          (ok_of c.shared (c.seats p) own (c.seats p).current w (∈-last (c.seats p).over (c.seats p).current) m)

      claims : (w : Claim) → w ∈ (without_entry n.1 (c.seats p).current).writes
          → ClaimOk (with_object oid (object_after c p oid head n) c.shared) (without_entry n.1 (c.seats p).current) w
      claims w m =
          ⊎_elim
          (λ (before : w ∈ (c.seats p).current.writes).
          let ok = old w before in
          record { written = ok.written; installed = λ committed unheld. let i = ok.installed committed unheld in record { next = i.next; stamp = i.stamp; succ = i.succ } })
          (λ (new : (w ≡ over_claim (c.seats p).current n) × (n.1 < length (c.seats p).current.writes)).
          subst (λ z. ClaimOk (with_object oid (object_after c p oid head n) c.shared) (without_entry n.1 (c.seats p).current) z) (sym new.0)
          (let ok = old (claim_at (c.seats p).current n.1) (stands_in (c.seats p).current n.1 new.1) in
          record {
            written = record { object = ok.written.object; within = ok.written.within; stamp = ok.written.stamp };
            installed = λ _ _. installed_next;
          }))
          (∈-set (c.seats p).current.writes n.1 (over_claim (c.seats p).current n) w m)

  new_kept : (y : Part) (d : Core) → Sound c → y.over ≡ (c.seats p).over → y.current ≡ without_entry n.1 (c.seats p).current
      → Grown c.shared (with_object oid (object_after c p oid head n) c.shared)
      → record { shared = with_object oid (object_after c p oid head n) c.shared; seats = put c.seats p y } ≡ d → Kept d
  new_kept y d sound over current g is =
      kept_from c p y (with_object oid (object_after c p oid head n) c.shared) d sound g (made_install y current)
      (ahead_current (c.seats p) y over (λ committed.
      goes_set (c.seats p).current y.current n.1 (over_claim (c.seats p).current n) (ap (λ (t : Attempt). t.writes) current) refl
      (ap (λ (t : Attempt). t.decision) current ∙ committed) (ap (λ (t : Attempt). t.stamp) current) (ap (λ (t : Attempt). t.succ) current)))
      (own_installed y (sound.own p).marks g over current) is

-- COMMIT: the version is installed
install_new_kept : (c : Core) (p oid head : ℕ) (d : Core) (n : ℕ × ℕ × ℕ × ℕ) (y : Part) → Sound c → end_of (c.seats p).task ≡ Some n → install_new oid head (c.seats p) n ≡ Some y
    → Grown c.shared (with_object oid (object_after c p oid head n) c.shared)
    → record { shared = with_object oid (object_after c p oid head n) c.shared; seats = put c.seats p y } ≡ d → Kept d
install_new_kept c p oid head d n y sound at e g =
    when_then (λ z. record { shared = with_object oid (object_after c p oid head n) c.shared; seats = put c.seats p z } ≡ d → Kept d) _ _ y e
    (λ _ is. new_kept c p oid head n (installs_of c p oid head n y sound at e) _ d sound refl refl g is)

-- a step that adds no version
pub left_kept : (c : Core) (p : ℕ) (y : Part) (r : Shared) (d : Core) → Sound c → Grown c.shared r → Made c.shared r (put c.seats p y) → Left c.shared (c.seats p) y
    → record { shared = r; seats = put c.seats p y } ≡ d → Kept d
left_kept c p y r d sound g made left is = kept_from c p y r d sound g made left.ahead (left.own r g) is

-- an object of which the entry alone changes
made_entry : (s : Shared) (oid head : ℕ) (seats : ℕ → Part) → Made s (with_object oid (record (s.objects oid) { entry = head }) s) seats
made_entry s oid head seats = record {
  made = λ at place known late within.
      absurd (at_cases (λ z. place + 1 < length z.versions → ⊥) s.objects oid (record (s.objects oid) { entry = head }) at
      (λ same high. let low = subst (λ k. length (s.objects k).versions ≤ place + 1) same late in omega (arith, low, high))
      (λ _ high. omega (arith, late, high)) within);
}

-- an install or a release, by what the end says
claim_kept : (c : Core) (p oid head : ℕ) (d : Core) (e : Option (ℕ × ℕ × ℕ × ℕ)) (y : Part) → Sound c → end_of (c.seats p).task ≡ e → install_claim oid head (c.seats p) e ≡ Some y
    → Grown c.shared (with_object oid (installed head (added head (c.seats p) e) (c.shared.objects oid)) c.shared)
    → record { shared = with_object oid (installed head (added head (c.seats p) e) (c.shared.objects oid)) c.shared; seats = put c.seats p y } ≡ d → Kept d
claim_kept c p oid head d None y sound at h g is = absurd (cc)
claim_kept c p oid head d (Some n) y sound at h g is = by_test (adds_version (c.seats p)) refl h g is
  where
    by_test : (b : Bool) → adds_version (c.seats p) ≡ b → (if b then install_new oid head (c.seats p) n else release_old oid head (c.seats p) n) ≡ Some y
        → Grown c.shared (with_object oid (installed head (if b then Some (new_version (c.seats p) head n) else None) (c.shared.objects oid)) c.shared)
        → record { shared = with_object oid (installed head (if b then Some (new_version (c.seats p) head n) else None) (c.shared.objects oid)) c.shared; seats = put c.seats p y } ≡ d
        → Kept d
    by_test true adds k grown same = install_new_kept c p oid head d n y sound at k grown same
    by_test false adds k grown same =
        left_kept c p y (with_object oid (record (c.shared.objects oid) { entry = head }) c.shared) d sound grown (made_entry c.shared oid head (put c.seats p y))
        (release_left c p sound oid head n y adds k) same

task_kept : (c : Core) (p oid head : ℕ) (d : Core) (u : Task) (y : Part) → Sound c → (c.seats p).task ≡ u → install oid head (c.seats p) u ≡ Some y
    → Grown c.shared (with_object oid (installed head (added head (c.seats p) (end_of u)) (c.shared.objects oid)) c.shared)
    → record { shared = with_object oid (installed head (added head (c.seats p) (end_of u)) (c.shared.objects oid)) c.shared; seats = put c.seats p y } ≡ d → Kept d
task_kept c p oid head d task.Refused y sound at h g is =
    left_kept c p y (with_object oid (record (c.shared.objects oid) { entry = head }) c.shared) d sound g (made_entry c.shared oid head (put c.seats p y))
    (unclaim_left c p sound oid head y h) is
task_kept c p oid head d u y sound at h g is = claim_kept c p oid head d (end_of u) y sound (ap end_of at) h g is

pub install_kept : (c : Core) (p oid head : ℕ) (d : Core) → Sound c → Moves c p (kind.Install oid head) d → Kept d
install_kept c p oid head d sound m =
    task_kept c p oid head d (c.seats p).task m.part sound refl m.after
    (grown_kind p (kind.Install oid head) (c.shared.objects oid).entry (c.seats p) c.shared tt) (sym m.is)
