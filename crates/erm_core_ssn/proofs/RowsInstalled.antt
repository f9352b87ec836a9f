-- Steps that add a claim, drop one, install it or release it; and a cut, whose cells become spare ones.
use Rattle.std.proofs.Common.{◌≡◌, ◌≢◌, ℕ, ◌+◌, ◌<◌, ⊎_elim, Bool, true, false, eqb, [], ◌∷◌, ◌++◌, length, take, drop, map, Option, Some, None, refl, sym, ap, ◌∙◌, subst, inl, inr, arith, eqb-true, length-take, get_or-take}
use Rattle.std.specs.Prelude.{if◌then◌else◌, ◌&&◌, ◌||◌}
use Rattle.std.proofs.lemmas.Bool.{and_parts, ltb-true}
use Rattle.std.proofs.lemmas.Option.{same_Some, get_or_from_slice_get, slice_get_within}
use Rattle.erm_model.specs.Member.{◌∈◌}
use Rattle.erm_model.proofs.Members.{none_in_nil, ∈-push}
use Rattle.erm_machine.specs.declared.attempt.Attempt.{Attempt}
use Rattle.erm_machine.specs.declared.attempt.Claim.{Claim}
use Rattle.erm_machine.specs.declared.attempt.Decision.TheVariants.{Commit}
use Rattle.erm_machine.specs.declared.attempt.OwnCell.{OwnCell}
use Rattle.erm_machine.specs.declared.limits.TheConstants.{OBJECT_LIMIT}
use Rattle.erm_machine.specs.declared.part.Part.{Part}
use Rattle.erm_machine.specs.declared.place.Place.{Place}
use Rattle.erm_machine.specs.declared.place.Place.TheVariants.{Active, Decided}
use Rattle.erm_machine.specs.declared.task.Task.{Task}
use Rattle.erm_machine.specs.declared.task.Task.TheVariants as task
use Rattle.erm_machine.specs.declared.version.Version.{Version}
use Rattle.erm_machine.specs.declared.version.VersionAt.{VersionAt}
use Rattle.erm_machine.specs.Claims.{ClaimFits, claims_over}
use Rattle.erm_machine.specs.Core.{Core, Object, Shared, claim_at, no_claim, no_version, own_words, version_at}
use Rattle.erm_machine.specs.Facts.{IsCurrent, over_of}
use Rattle.erm_machine.specs.Reading.{lost, new_claim, claim, cut_off, detached, swap_link}
use Rattle.erm_machine.specs.Seat.{is_active, is_decided, is_commit, is_own, last_claim, cells_of, end_of}
use Rattle.erm_machine.specs.Settling.{installs, adds_version, install_new, release_old, install_claim, unclaim, without_newest, install}
use Rattle.erm_machine.specs.Snapshot.{IsNewestAt, InHand}
use Rattle.erm_machine.specs.Sound.{Sound}
use Rattle.erm_machine.specs.Step.{installed, added, with_object}
use Rattle.erm_machine.specs.Chains.{IsNamed, NamedInHand}
use Rattle.erm_machine.specs.Tasks.{TaskFits}
use Rattle.erm_machine.specs.Words.{put}
use Rattle.erm_machine.specs.Written.{copied, copied_at, CellFits, OwnWritten}
use Rattle.erm_machine.proofs.Frames.{put_same}
use Rattle.erm_machine.proofs.Guards.{when_then, if_then, either_way}
use Rattle.erm_machine.proofs.Objects.{Extends, at_push-new}
use Rattle.erm_machine.proofs.Listed.{∈-either, ∈-map}
use Rattle.erm_core_ssn.proofs.MarksLists.{∈-last, ∈-take}
use Rattle.erm_core_ssn.proofs.RowsLists.{∈-drop, front_whole}
use Rattle.erm_core_ssn.proofs.RowsSteps.{Left, ClaimOk, ok_at, over_at, ok_less, own_from, adds_own}
use Rattle.erm_core_ssn.proofs.RowsGoes.{full_from, copied_full, step_full, step_end, detached_full, lost_full, goes_current}
use Rattle.erm_core_ssn.proofs.RowsStored.{Given, active_undecided, goes_at, set_ends}
use Rattle.erm_core_ssn.proofs.RowsMoved.{decided_full}

-- a claim that is over
over_ok : (r : Shared) (t : Attempt) (n : ℕ) (w : Claim) → (t.decision ≡ Commit → Left r w) → ClaimOk r t n w → ClaimOk r t n (record w { held = false; own = None })
over_ok r t n w left ok = record {
  cell = λ o e. absurd (cc);
  bare = λ e _. absurd (cc);
  rows = record { size = ok.rows.size; base = ok.rows.base; kept = ok.rows.kept };
  first = ok.first;
  installed = λ c _. left c;
}

-- an end of a decided transaction has come to this claim
decided_over : (p : Place) (t : Attempt) (u : Task) (e : ℕ × ℕ × ℕ × ℕ) (writes : ℕ) → is_decided p ≡ true → TaskFits p t u → end_of u ≡ Some e → over_of p u writes ≡ e.1
decided_over (Decided tail stamp) t (task.Ends raised ended step cleared) e writes decided fits is = ap (λ (f : ℕ × ℕ × ℕ × ℕ). f.1) (same_Some _ _ is)
decided_over (Decided tail stamp) t u e writes decided fits is = absurd fits
decided_over _ t u e writes decided fits is = absurd (cc)

-- a claim's own cell, with all words of its row
own_row : (cell : ℕ) (w : Claim) (o : Option OwnCell) → is_own cell o ≡ true → ((own : OwnCell) → o ≡ Some own → CellFits 16 w own) → length w.row ≡ 16 → (own_words o).row ≡ w.row
own_row cell w None e fits size = absurd (cc)
own_row cell w (Some own) e fits size =
    let f = fits own refl in
    let n = f.size in
    front_whole 16 own.words.row w.row (omega (arith, n)) (omega (arith, size)) f.row

own_size : (cell : ℕ) (w : Claim) (o : Option OwnCell) → is_own cell o ≡ true → (n : ℕ) → ((own : OwnCell) → o ≡ Some own → CellFits n w own) → length (own_words o).row ≡ 16
own_size cell w None e n fits = absurd (cc)
own_size cell w (Some own) e n fits = (fits own refl).size

full_at : (x : Part) (k : ℕ) → copied x.place x.task ≡ 16 → copied_at x k ≡ 16
full_at x k full = either_way (λ (n : ℕ). n ≡ 16) (eqb k (last_claim x.current)) (copied x.place x.task) 16 (λ _. full) (λ _. refl)

-- what a step that installs a claim says of its seat
pub record Installs (x : Part) (oid head : ℕ) (e : ℕ × ℕ × ℕ × ℕ) : Type 0 where
  pub decided : is_decided x.place ≡ true
  pub within : e.1 < length x.current.writes
  pub oid_is : oid ≡ (claim_at x.current e.1).version.oid
  pub own : is_own head (claim_at x.current e.1).own ≡ true

pub installs_from : (x : Part) (oid head : ℕ) (e : ℕ × ℕ × ℕ × ℕ)
    → (installs e.0 e.1 e.2 x && (eqb e.2 8) && (eqb oid (claim_at x.current e.1).version.oid) && is_own head (claim_at x.current e.1).own) ≡ true → Installs x oid head e
installs_from x oid head e g =
    let g1 = and_parts _ _ g in
    let g2 = and_parts _ _ g1.0 in
    let g3 = and_parts _ _ g2.0 in
    let g4 = and_parts _ _ g3.0 in
    record {
      decided = (and_parts _ _ (and_parts _ _ g4.0).0).0;
      within = ltb-true _ _ g4.1;
      oid_is = eqb-true oid _ g2.1;
      own = g1.1;
    }

decided_ends : (p : Place) → is_decided p ≡ true → (is_decided p || is_active p) ≡ true
decided_ends p e = ap (λ b. b || is_active p) e

-- the decision of a transaction that only releases
released_open : (p : Place) (t : Attempt) → IsCurrent p t → (is_decided p || is_active p) ≡ true → (is_decided p && is_commit t.decision) ≡ false → t.decision ≢ Commit
released_open (Active tail) t cur e skips = active_undecided (Active tail) t cur refl
released_open (Decided tail stamp) t cur e skips = λ c. let is : is_commit t.decision ≡ true = ap is_commit c in absurd (cc)
released_open _ t cur e skips = absurd (cc)

-- a claim's cell that is given back
given_size : (r : Shared) (t : Attempt) (n : ℕ) (w : Claim) (o : Option OwnCell) → w.own ≡ o → ClaimOk r t n w → (own : OwnCell) → own ∈ cells_of o → length own.words.row ≡ 16
given_size r t n w None is ok own m = absurd (none_in_nil own m)
given_size r t n w (Some here) is ok own m =
    ⊎_elim (λ (e : own ∈ []). absurd (none_in_nil own e)) (λ (e : own ≡ here). ap (λ (u : OwnCell). length u.words.row) e ∙ (ok.cell here is).size) (∈-push [] here own m)

-- the newest claim is dropped
drops_own : (r : Shared) (x : Part) → Given x → x.task ≡ task.Refused → 0 < length x.current.writes → OwnWritten r x
    → OwnWritten r (record x { task = task.Rest; current = without_newest x.current })
drops_own r x given at some old =
    own_from r y old.spare ok (λ h. absurd h) (old.sealed x.current (∈-last x.over x.current)) (λ t m. over_at r x old t m)
  where
    y : Part
    y = record x { task = task.Rest; current = without_newest x.current }

    less : (k : ℕ) → k < length y.current.writes → k < last_claim x.current
    less k within = let n = length-take (last_claim x.current) x.current.writes in omega (arith, n, within)

    ok : (k : ℕ) → k < length y.current.writes → ClaimOk r y.current (copied_at y k) (claim_at y.current k)
    ok k within =
        let low = less k within in
        let inside : k < length x.current.writes = omega (arith, low, some) in
        let is : claim_at y.current k ≡ claim_at x.current k = get_or-take (last_claim x.current) x.current.writes k no_claim low in
        let before = full_at x k (ap (copied x.place) at ∙ copied_full x.place task.Refused tt) in
        let now = full_at y k (copied_full x.place task.Rest tt) in
        subst (λ w. ClaimOk r y.current (copied_at y k) w) (sym is)
        (ok_less r x.current y.current (copied_at y k) (copied_at x k) (claim_at x.current k) (omega (arith, before, now)) refl (λ c _. c) (ok_at r x old k inside))

unclaim_own : (r : Shared) (oid head : ℕ) (x : Part) (y : Part) → Given x → x.task ≡ task.Refused → unclaim oid head x ≡ Some y → OwnWritten r x → OwnWritten r y
unclaim_own r oid head x y given at e old =
    when_then (OwnWritten r) _ _ y e (λ g. drops_own r x given at (ltb-true _ _ (and_parts _ _ (and_parts _ _ (and_parts _ _ g).0).0).1) old)

-- an install, or a release
install_claim_own : (r : Shared) (oid head : ℕ) (x : Part) (o : Option (ℕ × ℕ × ℕ × ℕ)) (y : Part) → Given x
    → ((e : ℕ × ℕ × ℕ × ℕ) → o ≡ Some e → Installs x oid head e → adds_version x ≡ true → Left r (claim_at x.current e.1))
    → install_claim oid head x o ≡ Some y → OwnWritten r x → OwnWritten r y
install_claim_own r oid head x None y given left e old = absurd (cc)
install_claim_own r oid head x (Some n) y given left e old =
    if_then (OwnWritten r) (adds_version x) (install_new oid head x n) (release_old oid head x n) y e
    (λ adds h. when_then (OwnWritten r) _ _ y h (λ g.
    let i = installs_from x oid head n g in
    set_ends r x x.spare x.task (task.Ends n.0 (n.1 + 1) 0 n.3) n.1 (record (claim_at x.current n.1) { held = false; own = None }) refl
    (step_end x.place x.current x.task n.0 (n.1 + 1) 0 n.3 given.fits (decided_ends x.place i.decided)) (λ c. c) (λ o m. inl m)
    (λ within. over_ok r x.current (copied_at x n.1) (claim_at x.current n.1) (λ _. left n refl i adds) (ok_at r x old n.1 within)) old))
    (λ skips h. when_then (OwnWritten r) _ _ y h (λ g.
    let g1 = and_parts _ _ g in
    let g2 = and_parts _ _ g1.0 in
    let g3 = and_parts _ _ g2.0 in
    let within = ltb-true _ _ g3.1 in
    set_ends r x (x.spare ++ cells_of (claim_at x.current n.1).own) x.task (task.Ends n.0 (n.1 + 1) 0 n.3) n.1 (record (claim_at x.current n.1) { held = false; own = None }) refl
    (step_end x.place x.current x.task n.0 (n.1 + 1) 0 n.3 given.fits g3.0) (λ c. c)
    (λ o m. ⊎_elim (λ (was : o ∈ x.spare). inl was)
    (λ (back : o ∈ cells_of (claim_at x.current n.1).own). inr (given_size r x.current (copied_at x n.1) (claim_at x.current n.1) _ refl (ok_at r x old n.1 within) o back))
    (∈-either x.spare (cells_of (claim_at x.current n.1).own) o m))
    (λ _. over_ok r x.current (copied_at x n.1) (claim_at x.current n.1)
    (λ c. absurd (released_open x.place x.current given.current g3.0 skips c)) (ok_at r x old n.1 within)) old))

pub install_own : (r : Shared) (oid head : ℕ) (x : Part) (t : Task) (y : Part) → Given x → x.task ≡ t
    → ((e : ℕ × ℕ × ℕ × ℕ) → end_of t ≡ Some e → Installs x oid head e → adds_version x ≡ true → Left r (claim_at x.current e.1))
    → install oid head x t ≡ Some y → OwnWritten r x → OwnWritten r y
install_own r oid head x task.Refused y given at left e old = unclaim_own r oid head x y given at e old
install_own r oid head x t y given at left e old = install_claim_own r oid head x (end_of t) y given left e old

-- the version that an install adds has the row of its claim, and stands behind the version overwritten
module _ (c : Core) (p oid head : ℕ) (sound : Sound c) where
  pub added_left : (t : Task) (e : ℕ × ℕ × ℕ × ℕ) → (c.seats p).task ≡ t → end_of t ≡ Some e → Installs (c.seats p) oid head e → adds_version (c.seats p) ≡ true
      → Left (with_object oid (installed head (added head (c.seats p) (end_of t)) (c.shared.objects oid)) c.shared) (claim_at (c.seats p).current e.1)
  added_left t e at is i adds =
      subst (λ n. (version_at (put c.shared.objects oid u n) (w.version.place + 1)).words.row ≡ w.row) i.oid_is
      (ap (λ (o : Object). (version_at o (w.version.place + 1)).words.row) (put_same c.shared.objects oid u)
      ∙ ap (λ m. (version_at (installed head m (c.shared.objects oid)) (w.version.place + 1)).words.row) adds_one
      ∙ ap (λ (z : Version). z.words.row) (at_push-new head v (c.shared.objects oid) (w.version.place + 1) behind)
      ∙ own_row head w w.own i.own (λ own h. subst (λ n. CellFits n w own) whole (ok.cell own h)) ok.rows.size)
    where
      x : Part
      x = c.seats p

      w : Claim
      w = claim_at x.current e.1

      v : Version
      v = record { cell = head; words = own_words w.own }

      u : Object
      u = installed head (added head x (end_of t)) (c.shared.objects oid)

      adds_one : added head x (end_of t) ≡ Some v
      adds_one = ap (added head x) is ∙ ap (λ (b : Bool). if b then Some v else None) adds

      ok : ClaimOk c.shared x.current (copied_at x e.1) w
      ok = ok_at c.shared x (sound.own p).written e.1 i.within

      whole : copied_at x e.1 ≡ 16
      whole = full_at x e.1 (decided_full x.place x.current x.task i.decided (sound.own p).task.fits)

      over : claims_over x ≡ e.1
      over = decided_over x.place x.current x.task e (length x.current.writes) i.decided (sound.own p).task.fits (ap end_of at ∙ is)

      held : w.held ≡ true
      held = (sound.own p).claims.held e.1 i.within (let h = over in omega (arith, h))

      behind : w.version.place + 1 ≡ length (c.shared.objects oid).versions
      behind =
          let fit : ClaimFits p x.current.number x.current.begin (c.shared.objects oid) w =
          subst (λ n. ClaimFits p x.current.number x.current.begin (c.shared.objects n) w) (sym i.oid_is) ((sound.own p).claims.fit e.1 i.within held) in
          let place = fit.place in
          let known = (sound.own p).claims.objects e.1 i.within in
          let some = (sound.common.claims.objects oid (let same = i.oid_is in omega (arith, known, same))).some in
          omega (arith, place, some)

  -- a new version's row has 16 words
  pub added_size : (t : Task) (y : Part) → (c.seats p).task ≡ t → install oid head (c.seats p) t ≡ Some y → (v : Version) → added head (c.seats p) (end_of t) ≡ Some v → length v.words.row ≡ 16
  added_size task.Refused y at e v is = absurd (cc)
  added_size t y at e v is = by_end (end_of t) e is
    where
      by_test : (n : ℕ × ℕ × ℕ × ℕ) (b : Bool) → adds_version (c.seats p) ≡ b → (if b then install_new oid head (c.seats p) n else release_old oid head (c.seats p) n) ≡ Some y
          → ◌≡◌ {A = Option Version} (if b then Some (record { cell = head; words = own_words (claim_at (c.seats p).current n.1).own }) else None) (Some v) → length v.words.row ≡ 16
      by_test n true adds e is =
          subst (λ (z : Version). length z.words.row ≡ 16) (same_Some _ _ is)
          (when_then (λ _. length (own_words (claim_at (c.seats p).current n.1).own).row ≡ 16) _ _ y e (λ g.
          let i = installs_from (c.seats p) oid head n g in
          own_size head (claim_at (c.seats p).current n.1) (claim_at (c.seats p).current n.1).own i.own (copied_at (c.seats p) n.1)
          (ok_at c.shared (c.seats p) (sound.own p).written n.1 i.within).cell))
      by_test n false adds e is = absurd (cc)

      by_end : (o : Option (ℕ × ℕ × ℕ × ℕ)) → install_claim oid head (c.seats p) o ≡ Some y → added head (c.seats p) o ≡ Some v → length v.words.row ≡ 16
      by_end None e is = absurd (cc)
      by_end (Some n) e is = by_test n (adds_version (c.seats p)) refl e is

-- the exchange of a claim
module _ (c : Core) (p : ℕ) (r : Shared) (sound : Sound c) (extends : (oid : ℕ) → Extends (c.shared.objects oid) (r.objects oid)) where
  claimed_ok : (oid : ℕ) (version : VersionAt) (stamp : ℕ) (entry : Option ℕ) → (c.seats p).task ≡ task.Found version stamp entry → is_active (c.seats p).place ≡ true → oid ≡ version.oid
      → (n : ℕ) → ClaimOk r (c.seats p).current n (new_claim version stamp (version_at (c.shared.objects oid) version.place).words.row)
  claimed_ok oid version stamp entry at active oid_is n =
      let named : IsNamed c.shared version = subst (λ u. NamedInHand c.shared u) at (sound.own p).chains.named in
      let newest_at : IsNewestAt (c.shared.objects version.oid) version.place (c.seats p).current.begin stamp = subst (λ u. InHand c.shared (c.seats p).current.begin u) at (sound.own p).snapshot.in_hand in
      record {
        cell = λ o e. absurd (cc);
        bare = λ _ _. refl;
        rows = record {
          size = ap (λ m. length (version_at (c.shared.objects m) version.place).words.row) oid_is ∙ sound.common.rowed.rows version.oid version.place named.object named.within;
          base = ap (λ m. (version_at (c.shared.objects m) version.place).words.row) oid_is ∙ sym ((extends version.oid).row version.place named.within);
          kept = λ _. refl;
        };
        first = newest_at.below;
        installed = λ d _. absurd (active_undecided (c.seats p).place (c.seats p).current (sound.own p).ranges.current active d);
      }

  claimed_own : (oid : ℕ) (version : VersionAt) (stamp : ℕ) (entry : Option ℕ) (b : Bool) → (c.seats p).task ≡ task.Found version stamp entry → is_active (c.seats p).place ≡ true → oid ≡ version.oid
      → OwnWritten r (c.seats p) → OwnWritten r (record (c.seats p) {
        task = if b then task.Claimed version else lost p oid (c.shared.objects oid).entry version (c.shared.objects oid);
        current = record (c.seats p).current {
          writes = if b then (c.seats p).current.writes ++ new_claim version stamp (version_at (c.shared.objects oid) version.place).words.row ∷ [] else (c.seats p).current.writes;
        };
      })
  claimed_own oid version stamp entry true at active oid_is old =
      let w : Claim = new_claim version stamp (version_at (c.shared.objects oid) version.place).words.row in
      adds_own r (c.seats p) _ w (record {
        over = refl;
        spare = refl;
        writes = refl;
        begin = refl;
        decision = active_undecided (c.seats p).place (c.seats p).current (sound.own p).ranges.current active;
        old = λ k. full_at (c.seats p) k (ap (copied (c.seats p).place) at ∙ copied_full (c.seats p).place (task.Found version stamp entry) tt);
        new = λ n. let ok = claimed_ok oid version stamp entry at active oid_is n in record { cell = ok.cell; bare = ok.bare; rows = ok.rows; first = ok.first; installed = ok.installed };
        most = λ k. let e = full_at (record (c.seats p) { task = task.Claimed version; current = record (c.seats p).current { writes = (c.seats p).current.writes ++ w ∷ [] } }) k
            (copied_full (c.seats p).place (task.Claimed version) tt) in omega (arith, e);
        copying = λ h. h;
      }) old
  claimed_own oid version stamp entry false at active oid_is old =
      goes_at r (c.seats p) (task.Found version stamp entry) _ at
      (goes_current (c.seats p) (task.Found version stamp entry) _ (c.seats p).current refl refl refl refl
      (step_full (c.seats p).place (task.Found version stamp entry) _ (full_from _ tt) (lost_full p oid (c.shared.objects oid).entry version (c.shared.objects oid)))) old

  pub claim_own : (oid seen number : ℕ) (t : Task) (y : Part) → (c.seats p).task ≡ t →
      claim p oid seen number (c.shared.objects oid).entry (c.shared.objects oid) (c.seats p) t ≡ Some y → OwnWritten r (c.seats p) → OwnWritten r y
  claim_own oid seen number (task.Found version stamp (Some entry)) y at e old =
      when_then (OwnWritten r) _ _ y e (λ g.
      let g1 = and_parts _ _ (and_parts _ _ (and_parts _ _ g).0).0 in
      let g2 = and_parts _ _ g1.0 in
      claimed_own oid version stamp (Some entry) (eqb (c.shared.objects oid).entry seen) at (and_parts _ _ g2.0).0 (eqb-true _ _ g2.1) old)
  claim_own oid seen number _ y at e old = absurd (cc)

  -- the cells of the versions that a cut takes off
  off_size : (oid cut place : ℕ) → oid < OBJECT_LIMIT → (own : OwnCell)
      → own ∈ map (λ (v : Version). record { cell = v.cell; words = v.words }) (drop cut (take place (c.shared.objects oid).versions)) → length own.words.row ≡ 16
  off_size oid cut place known own m =
      let from = ∈-map (λ (v : Version). record { cell = v.cell; words = v.words }) (drop cut (take place (c.shared.objects oid).versions)) own m in
      let there : from.0 ∈ (c.shared.objects oid).versions = ∈-take place (c.shared.objects oid).versions from.0 (∈-drop cut (take place (c.shared.objects oid).versions) from.0 from.1) in
      let is : version_at (c.shared.objects oid) there.0 ≡ from.0 = get_or_from_slice_get (c.shared.objects oid).versions there.0 from.0 no_version there.1 in
      ap (λ (u : OwnCell). length u.words.row) (sym from.2) ∙ ap (λ (v : Version). length v.words.row) (sym is)
      ∙ sound.common.rowed.rows oid there.0 known (slice_get_within (c.shared.objects oid).versions there.0 from.0 there.1)

  pub swap_own : (found : ℕ) (v : VersionAt) (t : Task) (y : Part) → v.oid < OBJECT_LIMIT → (c.seats p).task ≡ t → swap_link found v (c.shared.objects v.oid) (c.seats p) t ≡ Some y
      → OwnWritten r (c.seats p) → OwnWritten r y
  swap_own found v (task.CutFound version horizon) y known at e old =
      when_then (OwnWritten r) _ _ y e (λ _.
      let s = step_full (c.seats p).place (task.CutFound version horizon) (detached found version (c.seats p)) (full_from _ tt) (detached_full found version (c.seats p)) in
      goes_at r (c.seats p) (task.CutFound version horizon) _ at (record {
        over = refl;
        spare = λ o m. ⊎_elim (λ (was : o ∈ (c.seats p).spare). inl was)
            (λ (off : o ∈ cut_off version.place (c.shared.objects v.oid)). inr (off_size v.oid (c.shared.objects v.oid).cut version.place known o off))
            (∈-either (c.seats p).spare (cut_off version.place (c.shared.objects v.oid)) o m);
        writes = refl;
        begin = refl;
        commits = λ d. (d, refl);
        copied = s.copied;
        copying = s.copying;
      }) old)
  swap_own found v _ y known at e old = absurd (cc)
