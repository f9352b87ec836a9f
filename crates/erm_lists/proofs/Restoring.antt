-- Rows of claims are as they were, one claim after another.
use Rattle.std.proofs.Common.{◌≡◌, ℕ, zero, suc, ◌+◌, ◌<◌, true, false, List, [], ◌∷◌, length, get_or, set, map, Option, Some, None, refl, sym, ap, ◌∙◌, subst, arith, add-one, length-set, get_or-set_same}
use Rattle.std.specs.List.{slice_get}
use Rattle.std.proofs.lemmas.List.{get_or-map, length-map, set-set}
use Rattle.erm_model.specs.declared.history.VersionWritten.{VersionWritten}
use Rattle.erm_model.specs.declared.outcome.Phase.TheVariants as phase
use Rattle.erm_machine.specs.declared.attempt.Claim.{Claim}
use Rattle.erm_machine.specs.declared.event.Kind.TheVariants as kind
use Rattle.erm_machine.specs.declared.part.Part.{Part}
use Rattle.erm_machine.specs.declared.task.Task.TheVariants as task
use Rattle.erm_machine.specs.Core.{Core, claim_at, no_claim}
use Rattle.erm_machine.specs.Decided.{written_of}
use Rattle.erm_machine.specs.Sound.{Sound}
use Rattle.erm_machine.specs.Step.{after_event}
use Rattle.erm_model.specs.RowTransaction.{Law}
use Rattle.erm_sound.specs.Kept.{SoundUnder}
use Rattle.erm_core.specs.Cores.{core_of}
use Rattle.erm_core_calls.specs.Going.{own_at}
use Rattle.erm_core_view.specs.Views.{IsQuiet, view_of}
use Rattle.erm_core_view.proofs.Onces.{works_once}
use Rattle.erm_core_steps.specs.Steps.{IsTaken}
use Rattle.erm_core_steps.proofs.Backs.{MayUnset, back_once, quiet_unset, unset_shows, unset_taken}
use Rattle.erm_core_steps.proofs.Early.{works_work}
use Rattle.erm_core_steps.proofs.Exchanges.{claims_shown}
use Rattle.erm_core_steps.proofs.Quiet.{IsActive, active_seat}
use Rattle.erm_core_steps.proofs.Readings.{still_active, still_session}
use Rattle.erm_core_steps.proofs.Stored.{may_write}
use Rattle.erm_lists.specs.declared.lists.Lists.{Lists}
use Rattle.erm_lists.specs.Stands.{Stands, lists_view}
use Rattle.erm_lists.specs.Restores.{AreKept, WasFound, restored_claim, with_claim}
use Rattle.erm_world.specs.Saves.{HasClaimed, undone, with_claims}
use Rattle.erm_world.proofs.Halfway.{halfway, halfway-at, halfway-length, halfway-none, saved_set, saved_unset, setting-once}
use Rattle.erm_world.proofs.Saves.{works_nowhere, works_then}
use Rattle.erm_world.specs.Calls.{Works}
use Rattle.erm_world.specs.Going.{found_by}
use Rattle.erm_world.specs.Snapshots.{snapshot_not_active}
use Rattle.erm_world.specs.Works.{setting, with_row}
use Rattle.erm_world.specs.World.{IsSession, Stand, View, Work, phase_at, phase_of, work_at, work_of}
use Rattle.erm_world.specs.World as world

-- A CLAIM is set, and then undone.
pub set_then_undone : (v t s : View) (seat place : ℕ) (c : VersionWritten) → Works v seat (with_claim place (record c { row = c.base; is_set = true }) (work_at v seat)) t
    → Works t seat (with_claim place (undone c) (work_at t seat)) s → Works v seat (with_claim place (undone c) (work_at v seat)) s
set_then_undone v t s seat place c first second =
    let d : VersionWritten = record c { row = c.base; is_set = true } in
    let cs = (work_at v seat).claims in
    let twice : set (set cs place d) place (undone c) ≡ set cs place (undone c) = set-set cs place d (undone c) in
    let there = works_then v t s seat (with_claim place d (work_at v seat)) (with_claim place (undone c) (work_at t seat)) first second in
    subst (λ (list : List VersionWritten). Works v seat (with_claims list (work_at v seat)) s) twice
    (subst (λ (w : Work). Works v seat (with_claim place (undone c) w) s) (works_work v t seat (with_claim place d (work_at v seat)) first) there)

-- THE CLAIM at a place, as it shows
module _ (sessions seat place : ℕ) (c : Core) (sound : Sound c) (at : IsActive seat c) (within : place < length (c.seats seat).current.writes) where
  abbrev x : Part
  x = c.seats seat

  abbrev w : Claim
  w = claim_at x.current place

  pub within_shown : place < length (work_at (view_of sessions c) seat).claims
  within_shown =
      let n = ap (λ (cs : List VersionWritten). length cs) (claims_shown sessions seat c (view_of sessions c) at refl) in
      let m = length-map x.current.writes written_of in
      omega (arith, n, m, within)

  -- the claim as the view shows it
  pub claim_shown : (d : VersionWritten) → get_or (work_at (view_of sessions c) seat).claims place d ≡ written_of w
  claim_shown d =
      ap (λ (cs : List VersionWritten). get_or cs place d) (claims_shown sessions seat c (view_of sessions c) at refl)
      ∙ get_or-map written_of x.current.writes place no_claim d within

  -- a write of the object sets the row of this claim
  pub set_works : (row : List ℕ) (t : View) → Works (view_of sessions c) seat (setting w.version.oid row (work_at (view_of sessions c) seat)) t
      → Works (view_of sessions c) seat (with_claim place (record (written_of w) { row = row; is_set = true }) (work_at (view_of sessions c) seat)) t
  set_works row t now =
      let v = view_of sessions c in
      let d = written_of w in
      let once = works_once sessions c sound seat in
      let here = claim_shown d in
      let one : map (with_row d.oid row) (work_at v seat).claims ≡ set (work_at v seat).claims place (record d { row = row; is_set = true }) =
      setting-once (work_at v seat).claims place d.oid row d once within_shown (ap (λ (u : VersionWritten). u.oid) here)
      ∙ ap (λ (u : VersionWritten). set (work_at v seat).claims place (record u { row = row; is_set = true })) here
      in
      subst (λ (cs : List VersionWritten). Works v seat (with_claims cs (work_at v seat)) t) one now

-- THE CLAIM that a write has set, in the state after
pub record IsSetTo (seat place : ℕ) (c : Core) (v : VersionWritten) : Type 0 where
  pub within : place < length (c.seats seat).current.writes
  pub is : written_of (claim_at (c.seats seat).current place) ≡ v

pub set_to : (sessions many seat place : ℕ) (b c : Core) (v : VersionWritten) → IsActive seat b → place < length (b.seats seat).current.writes → IsActive seat c
    → Works (view_of sessions b) seat (with_claim place v (work_at (view_of sessions b) seat)) (view_of many c) → IsSetTo seat place c v
set_to sessions many seat place b c v at within at_after now =
    let cs = (work_at (view_of sessions b) seat).claims in
    let d = written_of no_claim in
    let shown : map written_of (b.seats seat).current.writes ≡ cs = sym (claims_shown sessions seat b (view_of sessions b) at refl) in
    let after : map written_of (c.seats seat).current.writes ≡ set cs place v =
    sym (claims_shown many seat c (view_of many c) at_after refl)
    ∙ ap (λ (w : Work). w.claims) (works_work (view_of sessions b) (view_of many c) seat (with_claim place v (work_at (view_of sessions b) seat)) now)
    in
    let inside : place < length cs = let n = ap (λ (list : List VersionWritten). length list) shown in let m = length-map (b.seats seat).current.writes written_of in omega (arith, n, m, within) in
    let inside_after : place < length (c.seats seat).current.writes =
    (let n = ap (λ (list : List VersionWritten). length list) after in
    let m = length-map (c.seats seat).current.writes written_of in
    let k = length-set cs place v in
    omega (arith, n, m, k, inside))
    in
    record {
      within = inside_after;
      is = sym (get_or-map written_of (c.seats seat).current.writes place no_claim d inside_after) ∙ ap (λ (list : List VersionWritten). get_or list place d) after
          ∙ get_or-set_same cs place v d inside;
    }

-- UNDONE. A claim of a world, whose row was set to that of the version overwritten, in the next state; and then its writes are undone.
module _ {L : Type 0} (law : Law) (p q : Lists L) (seat place : ℕ) (stands : Stands law p) (session : IsSession (lists_view p) seat)
    (active : phase_at (lists_view p) seat ≡ phase.Active) (within : place < length ((core_of p.state).seats seat).current.writes) where
  abbrev pub made : VersionWritten
  made = written_of (claim_at ((core_of p.state).seats seat).current place)

  at_first : IsActive seat (core_of p.state)
  at_first = active_seat p.sessions seat (core_of p.state) stands.quiet session active

  module _ (later : Stands law q) (set_it : Works (lists_view p) seat (with_claim place (record made { row = made.base; is_set = true }) (work_at (lists_view p) seat)) (lists_view q))
      (rest : ((core_of q.state).seats seat).task ≡ task.Rest) where
    session_then : IsSession (lists_view q) seat
    session_then = still_session (lists_view p) (lists_view q) seat _ set_it session

    at_then : IsActive seat (core_of q.state)
    at_then = active_seat q.sessions seat (core_of q.state) later.quiet session_then (still_active (lists_view p) (lists_view q) seat _ set_it)

    set_there : IsSetTo seat place (core_of q.state) (record made { row = made.base; is_set = true })
    set_there = set_to p.sessions q.sessions seat place (core_of p.state) (core_of q.state) (record made { row = made.base; is_set = true }) at_first within at_then set_it

    may : MayUnset (core_of q.state) seat place (own_at ((core_of q.state).seats seat).current place)
    may = record {
      active = at_then.active;
      rests = rest;
      within = set_there.within;
      own = (may_write seat _ place (core_of q.state) later.sound.sound at_then (record { within = set_there.within; oid_is = refl })).own;
      row = ap (λ (v : VersionWritten). v.row) set_there.is ∙ sym (ap (λ (v : VersionWritten). v.base) set_there.is);
    }

    pub may_undo : IsTaken (core_of q.state) seat (kind.Unset place)
    may_undo = unset_taken seat place (own_at ((core_of q.state).seats seat).current place) (core_of q.state) later.sound.sound may

    module _ (r : Lists L) (many : r.sessions ≡ q.sessions) (sound : SoundUnder law (core_of r.state)) (e : after_event (core_of q.state) seat (kind.Unset place) ≡ Some (core_of r.state)) where
      pub undo_done : Stands law r
      undo_done = record {
        sound = sound;
        quiet =
            subst (λ (n : ℕ). IsQuiet n (core_of r.state)) (sym many)
            (quiet_unset q.sessions seat place (own_at ((core_of q.state).seats seat).current place) (core_of q.state) (core_of r.state) later.sound.sound sound.sound later.quiet session_then at_then may e);
      }

      pub undo_shown : Works (lists_view p) seat (with_claim place (undone made) (work_at (lists_view p) seat)) (lists_view r)
      undo_shown =
          subst (λ (n : ℕ). Works (lists_view p) seat (with_claim place (undone made) (work_at (lists_view p) seat)) (view_of n (core_of r.state))) (sym many)
          (set_then_undone (lists_view p) (lists_view q) (view_of q.sessions (core_of r.state)) seat place made set_it
          (subst (λ (v : VersionWritten). Works (lists_view q) seat (with_claim place (undone v) (work_at (lists_view q) seat)) (view_of q.sessions (core_of r.state))) set_there.is
          (unset_shows q.sessions seat place (core_of q.state) (core_of r.state) later.sound.sound at_then e)))

-- what a claim becomes
pub restored_set : (o : Option VersionWritten) (s c : VersionWritten) → o ≡ Some s → WasFound o c → s.is_set ≡ true → ◌≡◌ {A = VersionWritten} (record c { row = s.row; is_set = true }) (restored_claim o c)
restored_set o s c is found set_it =
    subst (λ (p : Option VersionWritten). WasFound p c → ◌≡◌ {A = VersionWritten} (record c { row = s.row; is_set = true }) (restored_claim p c)) (sym is) (λ so. saved_set s c so.found set_it) found

pub restored_kept : (o : Option VersionWritten) (s c : VersionWritten) → o ≡ Some s → WasFound o c → s.is_set ≡ false → ◌≡◌ {A = VersionWritten} (undone c) (restored_claim o c)
restored_kept o s c is found unset_it =
    subst (λ (p : Option VersionWritten). WasFound p c → ◌≡◌ {A = VersionWritten} (undone c) (restored_claim p c)) (sym is) (λ so. saved_unset s c so.found unset_it (so.kept unset_it)) found

pub restored_none : (o : Option VersionWritten) (c : VersionWritten) → o ≡ None → ◌≡◌ {A = VersionWritten} (undone c) (restored_claim o c)
restored_none o c is = subst (λ (p : Option VersionWritten). ◌≡◌ {A = VersionWritten} (undone c) (restored_claim p c)) (sym is) refl

-- A SAVEPOINT'S CLAIM is found in its place.
get_or_of : (xs : List VersionWritten) (i : ℕ) (x e : VersionWritten) → slice_get xs i ≡ Some x → get_or xs i e ≡ x
get_or_of [] i x e at = absurd (cc)
get_or_of (z ∷ xs) zero x e at = cc
get_or_of (z ∷ xs) (suc i) x e at = get_or_of xs i x e at

found_at : (saved claims : List VersionWritten) (k : ℕ) (d : VersionWritten) → HasClaimed saved claims → AreKept saved → (o : Option VersionWritten) → slice_get saved k ≡ o → WasFound o (get_or claims k d)
found_at saved claims k d has kept None is = tt
found_at saved claims k d has kept (Some s) is =
    let there = has k s is in record { found = ap found_by (get_or_of claims k there.0 d there.1) ∙ there.2; kept = kept k s is }

pub was_found : (saved claims : List VersionWritten) (k : ℕ) (d : VersionWritten) → HasClaimed saved claims → AreKept saved → WasFound (slice_get saved k) (get_or claims k d)
was_found saved claims k d has kept = found_at saved claims k d has kept (slice_get saved k) refl

-- THE FIRST CLAIMS of a world are restored, and then one more.
pub record IsRestored {L : Type 0} (law : Law) (p q : Lists L) (seat n : ℕ) (saved : List VersionWritten) : Type 0 where
  pub stands : Stands law q
  pub works : Works (lists_view p) seat (with_claims (halfway saved (work_at (lists_view p) seat).claims n) (work_at (lists_view p) seat)) (lists_view q)

active_work : (stand : Stand) → phase_of stand ≡ phase.Active → stand ≡ world.active (work_of stand)
active_work world.idle active = absurd (cc)
active_work (world.active w) active = refl
active_work (world.sealed w stamp) active = absurd (cc)
active_work (world.snapshot s) active = absurd (snapshot_not_active s active)

pub none_restored : {L : Type 0} (law : Law) (p : Lists L) (seat : ℕ) (saved : List VersionWritten) → Stands law p → phase_at (lists_view p) seat ≡ phase.Active → IsRestored law p p seat 0 saved
none_restored law p seat saved stands active =
    let v = lists_view p in
    record {
      stands = stands;
      works =
          subst (λ (claims : List VersionWritten). Works v seat (with_claims claims (work_at v seat)) v) (sym (halfway-none saved (work_at v seat).claims))
          (works_nowhere v seat (work_at v seat) (active_work (v.session seat).stand active));
    }

module _ {L : Type 0} (law : Law) (p q : Lists L) (seat n : ℕ) (saved : List VersionWritten) (stands : Stands law p) (session : IsSession (lists_view p) seat)
    (active : phase_at (lists_view p) seat ≡ phase.Active) (so_far : IsRestored law p q seat n saved) (below : n < length (work_at (lists_view p) seat).claims) where
  abbrev claims : List VersionWritten
  claims = (work_at (lists_view p) seat).claims

  pub session_so_far : IsSession (lists_view q) seat
  session_so_far = still_session (lists_view p) (lists_view q) seat _ so_far.works session

  pub active_so_far : phase_at (lists_view q) seat ≡ phase.Active
  active_so_far = still_active (lists_view p) (lists_view q) seat _ so_far.works

  at_so_far : IsActive seat (core_of q.state)
  at_so_far = active_seat q.sessions seat (core_of q.state) so_far.stands.quiet session_so_far active_so_far

  claims_so_far : map written_of ((core_of q.state).seats seat).current.writes ≡ halfway saved claims n
  claims_so_far =
      sym (claims_shown q.sessions seat (core_of q.state) (lists_view q) at_so_far refl)
      ∙ ap (λ (w : Work). w.claims) (works_work (lists_view p) (lists_view q) seat (with_claims (halfway saved claims n) (work_at (lists_view p) seat)) so_far.works)

  pub within_so_far : n < length ((core_of q.state).seats seat).current.writes
  within_so_far =
      let k = ap (λ (list : List VersionWritten). length list) claims_so_far in
      let m = length-map ((core_of q.state).seats seat).current.writes written_of in
      let j = halfway-length saved claims n in
      omega (arith, k, m, j, below)

  pub next_claim : written_of (claim_at ((core_of q.state).seats seat).current n) ≡ get_or claims n (written_of no_claim)
  next_claim =
      sym (get_or-map written_of ((core_of q.state).seats seat).current.writes n no_claim (written_of no_claim) within_so_far)
      ∙ ap (λ (list : List VersionWritten). get_or list n (written_of no_claim)) claims_so_far ∙ halfway-at saved claims n (written_of no_claim)

  pub next_found : HasClaimed saved claims → AreKept saved → WasFound (slice_get saved n) (written_of (claim_at ((core_of q.state).seats seat).current n))
  next_found has kept = subst (WasFound (slice_get saved n)) (sym next_claim) (was_found saved claims n (written_of no_claim) has kept)

  pub next_restored : (r : Lists L) → Stands law r → Works (lists_view q) seat (with_claim n (restored_claim (slice_get saved n) (written_of (claim_at ((core_of q.state).seats seat).current n)))
      (work_at (lists_view q) seat)) (lists_view r) → IsRestored law p r seat (n + 1) saved
  next_restored r now works = record {
    stands = now;
    works =
        let v = lists_view p in
        let w = work_at v seat in
        let d = written_of no_claim in
        subst (λ (k : ℕ). Works v seat (with_claims (halfway saved claims k) w) (lists_view r)) (sym (add-one n))
        (back_once v (lists_view q) (lists_view r) seat n w saved d _ below (ap (λ (c : VersionWritten). restored_claim (slice_get saved n) c) next_claim) so_far.works works);
  }
