-- The end of a transaction that aborts: its claims are released, its reader bits cleared, and then it is over.
use Rattle.std.proofs.Common.{◌≡◌, ◌≢◌, ℕ, ◌+◌, ◌<◌, Bool, true, false, ◌||◌, not, eqb, leb, ltb, [], ◌∷◌, ◌++◌, length, List, map, Some, refl, sym, ap, ◌∙◌, subst, arith, length-set, Option, None}
use Rattle.std.specs.Prelude.{if◌then◌else◌}
use Rattle.std.proofs.lemmas.Bool.{and_from, and_parts, and_left, eq-eqb, eqb-false, leb-true, lt-ltb, ne_eqb, or_left, or_right, ltb-true}
use Rattle.std.proofs.lemmas.List.{map-append}
use Rattle.erm_model.specs.declared.outcome.Phase.TheVariants as phase
use Rattle.erm_machine.specs.declared.attempt.Attempt.{Attempt}
use Rattle.erm_machine.specs.declared.attempt.Decision.TheVariants.{Abort}
use Rattle.erm_machine.specs.declared.event.Kind.TheVariants as kind
use Rattle.erm_machine.specs.declared.limits.TheConstants.{FLUSH_SEAT, OBJECT_LIMIT, SESSIONS}
use Rattle.erm_machine.specs.declared.part.Part.{Part}
use Rattle.erm_machine.specs.declared.place.Place.{Place}
use Rattle.erm_machine.specs.declared.place.Place.TheVariants.{Active, Idle}
use Rattle.erm_machine.specs.declared.task.Task.{Task}
use Rattle.erm_machine.specs.declared.task.Task.TheVariants as task
use Rattle.erm_machine.specs.declared.version.VersionAt.{VersionAt}
use Rattle.erm_machine.specs.Core.{Core, blank, claim_at}
use Rattle.erm_machine.specs.Facts.{IsCurrent, IsUnsealed}
use Rattle.erm_machine.specs.Life.{aborted, has_ended, store_begin}
use Rattle.erm_machine.specs.Seat.{end_of, is_active, is_commit, is_decided, over, read_at, when, with_task, is_snapshot}
use Rattle.erm_machine.specs.Settling.{adds_version, clear_reader, given_back, install_new, release_old, install_claim}
use Rattle.erm_machine.specs.Sound.{Sound}
use Rattle.erm_machine.specs.Step.{after_event}
use Rattle.erm_machine.specs.Words.{is_flusher, is_session}
use Rattle.erm_machine.proofs.Guards.{if_then, when_then}
use Rattle.erm_machine.proofs.QuietKinds.{moves}
use Rattle.erm_world.specs.Calls.{DidAbort}
use Rattle.erm_world.specs.World.{Finished, IsSession, Opening, Session, View, Work, phase_at}
use Rattle.erm_world.specs.World as world
use Rattle.erm_core_calls.proofs.GoesSettled.{read_known}
use Rattle.erm_core_calls.proofs.Moving.{met, other_branch, same_self, stepped, taken}
use Rattle.erm_core_view.specs.Steps.{IsEnding as IsEndingTask}
use Rattle.erm_core_view.specs.Views.{IsBetween, IsQuiet, finished_of, session_of, stand_of, view_of, work_of}
use Rattle.erm_core_view.proofs.Moved.{calm_shows, changes_one, end_shows}
use Rattle.erm_core_view.proofs.Shown.{work_active}
use Rattle.erm_core_steps.specs.Steps.{HasCleared, HasReleased, IsEnding, IsTaken, IsUnseen, MayEnd, claims_in, reads_in}
use Rattle.erm_core_steps.proofs.Unseen.{others_stay, unseen_both, unseen_step}
use Rattle.erm_core_steps.proofs.Quiet.{active_seat, quiet_after}
use Rattle.erm_core_view.proofs.Ends.{installs_by, not_decided}
use Rattle.erm_core_view.proofs.Snapshots.{IsNewSnapshot, reads_plain, snapshots_new, writes_plain}
use Rattle.erm_core_turns.proofs.Turns.{part_stepped}
use Rattle.erm_core_turns.proofs.Pins.{end_starts}

-- an active transaction isn't sealed
pub unsealed : (pl : Place) (t : Attempt) → is_active pl ≡ true → IsCurrent pl t → IsUnsealed t
unsealed (Active tail) t e cur = cur
unsealed _ t e cur = absurd (cc)

-- a session isn't the flusher
pub session_plain : (seat : ℕ) → is_session seat ≡ true → is_flusher seat ≡ false
session_plain seat e =
    let low = leb-true seat SESSIONS (and_parts (ltb 0 seat) (leb seat SESSIONS) e).1 in
    ne_eqb seat FLUSH_SEAT (λ same. absurd (omega (arith, low, same)))

pub no_flusher : (seat : ℕ) → is_session seat ≡ true → seat ≢ FLUSH_SEAT
no_flusher seat e = eqb-false seat FLUSH_SEAT (session_plain seat e)

-- the seat's part after its transaction is over
abbrev pub aborted_part : Part → Part
aborted_part x = over Abort (record x { place = Idle; task = task.Rest })

ends_well : (t : Task) (e : ℕ × ℕ × ℕ × ℕ) → end_of t ≡ Some e → is_snapshot t ≡ false → IsEndingTask t
ends_well task.Refused e at plain = absurd (cc)
ends_well _ e at plain = plain

-- what is released is a claim, and what is cleared the bit of a version read
some_claim : (oid head : ℕ) (x : Part) (e : ℕ × ℕ × ℕ × ℕ) (y : Part) → install_claim oid head x (Some e) ≡ Some y → 0 < length x.current.writes
some_claim oid head x e y is =
    if_then (λ _. 0 < length x.current.writes) (adds_version x) (install_new oid head x e) (release_old oid head x e) y is
    (λ _ h. when_then (λ _. 0 < length x.current.writes) _ _ y h (λ g.
    let all = and_parts _ _ (and_parts _ _ (and_parts _ _ g).0).0 in let low = ltb-true e.1 (length x.current.writes) (and_parts _ _ all.0).1 in omega (arith, low)))
    (λ _ h. when_then (λ _. 0 < length x.current.writes) _ _ y h (λ g.
    let low = ltb-true e.1 (length x.current.writes) (and_parts _ _ (and_parts _ _ (and_parts _ _ g).0).0).1 in omega (arith, low)))

some_read : (v : VersionAt) (x : Part) (o : Option (ℕ × ℕ × ℕ × ℕ)) (y : Part) → clear_reader v x o ≡ Some y → 0 < length x.current.reads
some_read v x None y is = absurd (cc)
some_read v x (Some e) y is =
    when_then (λ _. 0 < length x.current.reads) _ _ y is (λ g.
    let low = ltb-true e.3 (length x.current.reads) (and_parts _ _ (and_parts _ _ (and_parts _ _ g).0).0).1 in omega (arith, low))

begin_stored : (seat : ℕ) (x : Part) (pl : Place) → is_active pl ≡ true
    → store_begin seat 0 x pl ≡ when (has_ended x.current (end_of x.task)) (aborted seat (record x { place = Idle; task = task.Rest }))
begin_stored seat x (Active tail) e = refl
begin_stored seat x _ e = absurd (cc)

-- what comes of a part whose claim is released, and of one whose reader bit is cleared
abbrev pub released : ℕ → ℕ → Part → Part
released ended cleared x = with_task (task.Ends 0 (ended + 1) 0 cleared) (given_back ended x)

abbrev pub cleared_bit : ℕ → ℕ → Part → Part
cleared_bit ended cleared x = with_task (task.Ends 0 ended 0 (cleared + 1)) x

module _ (seat claims reads ended cleared : ℕ) (c : Core) (sound : Sound c) (at : IsEnding seat claims reads ended cleared c) where
  current : IsUnsealed (c.seats seat).current
  current = unsealed (c.seats seat).place (c.seats seat).current at.active (sound.own seat).ranges.current

  not_commit : is_commit (c.seats seat).current.decision ≡ false
  not_commit = ap is_commit current.decision

  ending : (is_decided (c.seats seat).place || is_active (c.seats seat).place) ≡ true
  ending = or_right (is_decided (c.seats seat).place) (is_active (c.seats seat).place) at.active

  -- a claim's entry is stored with its old head
  pub releases : ended < claims
      → after_event c seat (kind.Install (claim_at (c.seats seat).current ended).version.oid (claim_at (c.seats seat).current ended).version.cell)
      ≡ Some (stepped c seat (kind.Install (claim_at (c.seats seat).current ended).version.oid (claim_at (c.seats seat).current ended).version.cell) (released ended cleared (c.seats seat)))
  releases within =
      let v = (claim_at (c.seats seat).current ended).version in
      let all = at.all_claims in
      let low : ended < length (c.seats seat).current.writes = omega (arith, within, all) in
      let e : ℕ × ℕ × ℕ × ℕ = (0, ended, 0, cleared) in
      let adds : adds_version (c.seats seat) ≡ false = and_left (is_decided (c.seats seat).place) (is_commit (c.seats seat).current.decision) (not_decided (c.seats seat).place at.active) in
      taken c seat (kind.Install v.oid v.cell) (released ended cleared (c.seats seat)) tt (lt-ltb v.oid OBJECT_LIMIT ((sound.own seat).claims.objects ended low))
      (met _ _ _
      (installs_by v.oid v.cell (c.seats seat) (c.seats seat).task e at.come
      ∙ other_branch (adds_version (c.seats seat)) (install_new v.oid v.cell (c.seats seat) e) (release_old v.oid v.cell (c.seats seat) e) _ adds refl)
      (and_from _ _ (and_from _ _ (and_from _ _ ending (lt-ltb ended (length (c.seats seat).current.writes) low)) (eq-eqb v.oid v.oid refl)) (eq-eqb v.cell v.cell refl)))

  pub releases_on : ended < claims → (d : Core)
      → after_event c seat (kind.Install (claim_at (c.seats seat).current ended).version.oid (claim_at (c.seats seat).current ended).version.cell) ≡ Some d
      → IsEnding seat claims reads (ended + 1) cleared d
  releases_on within d e =
      let v = (claim_at (c.seats seat).current ended).version in
      let is : d.seats seat ≡ released ended cleared (c.seats seat) = part_stepped c d seat (kind.Install v.oid v.cell) (released ended cleared (c.seats seat)) (releases within) e in
      let same : length (released ended cleared (c.seats seat)).current.writes ≡ length (c.seats seat).current.writes = length-set _ _ _ in
      record {
        session = at.session;
        active = ap (λ (y : Part). is_active y.place) is ∙ at.active;
        come = ap (λ (y : Part). end_of y.task) is;
        all_claims = ap (λ (y : Part). length y.current.writes) is ∙ same ∙ at.all_claims;
        all_reads = ap (λ (y : Part). length y.current.reads) is ∙ at.all_reads;
      }

  -- a reader bit is cleared
  pub clears : ended ≡ claims → cleared < reads
      → after_event c seat (kind.ClearReader (read_at (c.seats seat).current cleared).version)
      ≡ Some (stepped c seat (kind.ClearReader (read_at (c.seats seat).current cleared).version) (cleared_bit ended cleared (c.seats seat)))
  clears over within =
      let v = (read_at (c.seats seat).current cleared).version in
      let all = at.all_claims in
      let each = at.all_reads in
      let low : cleared < length (c.seats seat).current.reads = omega (arith, within, each) in
      taken c seat (kind.ClearReader v) (cleared_bit ended cleared (c.seats seat)) tt (lt-ltb v.oid OBJECT_LIMIT (read_known c seat sound cleared low))
      (met _ _ _ (ap (clear_reader v (c.seats seat)) at.come)
      (and_from _ _ (and_from _ _ (and_from _ _ (and_from _ _ ending (eq-eqb ended (length (c.seats seat).current.writes) (omega (arith, all, over)))) (lt-ltb cleared (length (c.seats seat).current.reads) low))
      (or_left (not (is_commit (c.seats seat).current.decision)) (eqb 0 (length (c.seats seat).current.reads)) (ap not not_commit))) (same_self v)))

  pub clears_on : ended ≡ claims → cleared < reads → (d : Core)
      → after_event c seat (kind.ClearReader (read_at (c.seats seat).current cleared).version) ≡ Some d → IsEnding seat claims reads ended (cleared + 1) d
  clears_on over within d e =
      let v = (read_at (c.seats seat).current cleared).version in
      let is : d.seats seat ≡ cleared_bit ended cleared (c.seats seat) = part_stepped c d seat (kind.ClearReader v) (cleared_bit ended cleared (c.seats seat)) (clears over within) e in
      record {
        session = at.session;
        active = ap (λ (y : Part). is_active y.place) is ∙ at.active;
        come = ap (λ (y : Part). end_of y.task) is;
        all_claims = ap (λ (y : Part). length y.current.writes) is ∙ at.all_claims;
        all_reads = ap (λ (y : Part). length y.current.reads) is ∙ at.all_reads;
      }

  -- the begin word is cleared
  pub leaves : ended ≡ claims → cleared ≡ reads → after_event c seat (kind.StoreBegin 0) ≡ Some (stepped c seat (kind.StoreBegin 0) (aborted_part (c.seats seat)))
  leaves passed done =
      let x0 : Part = record (c.seats seat) { place = Idle; task = task.Rest } in
      let all = at.all_claims in
      let each = at.all_reads in
      let ends : has_ended (c.seats seat).current (end_of (c.seats seat).task) ≡ true =
      ap (has_ended (c.seats seat).current) at.come
      ∙ and_from (eqb ended (length (c.seats seat).current.writes)) (eqb cleared (length (c.seats seat).current.reads)) (eq-eqb ended _ (omega (arith, all, passed))) (eq-eqb cleared _ (omega (arith, each, done)))
      in
      let plain : aborted seat x0 ≡ aborted_part (c.seats seat) = ap (λ (b : Bool). if b then record x0 { current = blank } else over Abort x0) (session_plain seat at.session) in
      taken c seat (kind.StoreBegin 0) (aborted_part (c.seats seat)) tt refl
      (met _ _ _ (begin_stored seat (c.seats seat) (c.seats seat).place at.active ∙ ap (when (has_ended (c.seats seat).current (end_of (c.seats seat).task))) plain) ends)

-- a release and a cleared bit don't show
pub release_unseen : (sessions seat oid head : ℕ) (c d : Core) (e : ℕ × ℕ × ℕ × ℕ) → Sound c → end_of (c.seats seat).task ≡ Some e → after_event c seat (kind.Install oid head) ≡ Some d → IsUnseen sessions seat c d
release_unseen sessions seat oid head c d e sound come after =
    let x = c.seats seat in
    let m = moves c seat (kind.Install oid head) d tt after in
    let is : install_claim oid head x (Some e) ≡ Some m.part = sym (installs_by oid head x x.task e come) ∙ m.after in
    let plain = writes_plain x.task x.current (snapshots_new c seat sound) (some_claim oid head x e m.part is) in
    unseen_step sessions seat c d (kind.Install oid head) sound tt refl refl after (end_shows seat oid head c d (ends_well x.task e come plain) after)

pub clear_unseen : (sessions seat : ℕ) (v : VersionAt) (c d : Core) → Sound c → after_event c seat (kind.ClearReader v) ≡ Some d → IsUnseen sessions seat c d
clear_unseen sessions seat v c d sound after =
    let x = c.seats seat in
    let m = moves c seat (kind.ClearReader v) d tt after in
    let plain = reads_plain x.task x.current (snapshots_new c seat sound) (some_read v x (end_of x.task) m.part m.after) in
    unseen_step sessions seat c d (kind.ClearReader v) sound tt refl refl after (calm_shows seat c d (kind.ClearReader v) plain after)

-- the transaction is over then
over_shows : (x : Part) → is_active x.place ≡ true → IsNewSnapshot x.task x.current → session_of (aborted_part x) ≡ record {
  over = (session_of x).over ++ record { work = world.work_of (session_of x).stand; fate = world.aborts } ∷ [];
  stand = world.idle;
}
over_shows x active new =
    let work : world.work_of (stand_of x.place x.task x.current) ≡ work_of x.current = work_active x.place x.task x.current active new in
    let t : Attempt = record x.current { decision = Abort } in
    let all : map finished_of (x.over ++ t ∷ []) ≡ map finished_of x.over ++ finished_of t ∷ [] = map-append finished_of x.over (t ∷ []) in
    let last : finished_of t ≡ record { work = world.work_of (stand_of x.place x.task x.current); fate = world.aborts } =
    ap (λ (w : Work). let f : Finished = record { work = w; fate = world.aborts } in f) (sym work) in
    ap (λ (fs : List Finished). let s : Session = record { over = fs; stand = world.idle } in s)
    (all ∙ ap (λ (f : Finished). map finished_of x.over ++ f ∷ []) last)

pub abort_shows : (sessions seat claims reads : ℕ) (c d : Core) → Sound c → IsEnding seat claims reads claims reads c → after_event c seat (kind.StoreBegin 0) ≡ Some d
    → DidAbort (view_of sessions c) seat (view_of sessions d)
abort_shows sessions seat claims reads c d sound at e =
    let change = changes_one sessions seat c d (kind.StoreBegin 0) sound tt e in
    let is = part_stepped c d seat (kind.StoreBegin 0) (aborted_part (c.seats seat)) (leaves seat claims reads claims reads c sound at refl refl) e in
    record {
      own = ap session_of is ∙ over_shows (c.seats seat) at.active (snapshots_new c seat sound);
      others = change.others;
      opening = change.opening;
      tail = (let h = change.tail in omega (arith, h));
      flushed = change.flushed;
      pinned = change.pinned (no_flusher seat at.session);
      given_up = refl;
      saves = record { own = tt; others = λ q other. refl };
    }

-- the end of an active transaction that may start a call
pub may_end : (sessions seat : ℕ) (c : Core) → IsQuiet sessions c → IsSession (view_of sessions c) seat → phase_at (view_of sessions c) seat ≡ phase.Active → MayEnd seat c
may_end sessions seat c quiet session active =
    let at = active_seat sessions seat c quiet session active in
    record { session = at.session; active = at.active; come = end_starts (c.seats seat).task at.starts; all_claims = refl; all_reads = refl }

-- how far an end has come, counted anew
pub counted : (seat claims reads ended cleared : ℕ) (c : Core) → IsEnding seat claims reads ended cleared c → IsEnding seat (claims_in c seat) (reads_in c seat) ended cleared c
counted seat claims reads ended cleared c at = record { session = at.session; active = at.active; come = at.come; all_claims = refl; all_reads = refl }

pub has_released : (seat claims reads ended : ℕ) (c : Core) → ended ≡ claims → IsEnding seat claims reads ended 0 c → HasReleased seat c
has_released seat claims reads ended c all at =
    subst (λ n. IsEnding seat (claims_in c seat) (reads_in c seat) n 0 c) (all ∙ sym at.all_claims) (counted seat claims reads ended 0 c at)

pub has_cleared : (seat claims reads cleared : ℕ) (c : Core) → cleared ≡ reads → IsEnding seat claims reads claims cleared c → HasCleared seat c
has_cleared seat claims reads cleared c all at =
    subst (λ n. IsEnding seat (claims_in c seat) (reads_in c seat) n (reads_in c seat) c) (sym at.all_claims)
    (subst (λ n. IsEnding seat (claims_in c seat) (reads_in c seat) claims n c) (all ∙ sym at.all_reads) (counted seat claims reads claims cleared c at))

-- one more claim
pub release_taken : (seat claims reads ended : ℕ) (c : Core) (v : VersionAt) → Sound c → IsEnding seat claims reads ended 0 c → ended < claims
    → v ≡ (claim_at (c.seats seat).current ended).version → IsTaken c seat (kind.Install v.oid v.cell)
release_taken seat claims reads ended c v sound at within is =
    subst (λ (u : VersionAt). IsTaken c seat (kind.Install u.oid u.cell)) (sym is) (_, releases seat claims reads ended 0 c sound at within)

pub release_more : (sessions seat claims reads ended : ℕ) (b c d : Core) (v : VersionAt) → Sound c → IsEnding seat claims reads ended 0 c → ended < claims
    → v ≡ (claim_at (c.seats seat).current ended).version → IsUnseen sessions seat b c → after_event c seat (kind.Install v.oid v.cell) ≡ Some d
    → IsEnding seat claims reads (ended + 1) 0 d × IsUnseen sessions seat b d
release_more sessions seat claims reads ended b c d v sound at within is unseen e = (
  releases_on seat claims reads ended 0 c sound at within d (subst (λ (u : VersionAt). after_event c seat (kind.Install u.oid u.cell) ≡ Some d) is e),
  unseen_both sessions seat b c d unseen (release_unseen sessions seat v.oid v.cell c d (0, ended, 0, 0) sound at.come e),
)

-- one more reader bit
pub clear_taken : (seat claims reads cleared : ℕ) (c : Core) (v : VersionAt) → Sound c → IsEnding seat claims reads claims cleared c → cleared < reads
    → v ≡ (read_at (c.seats seat).current cleared).version → IsTaken c seat (kind.ClearReader v)
clear_taken seat claims reads cleared c v sound at within is =
    subst (λ (u : VersionAt). IsTaken c seat (kind.ClearReader u)) (sym is) (_, clears seat claims reads claims cleared c sound at refl within)

pub clear_more : (sessions seat claims reads cleared : ℕ) (b c d : Core) (v : VersionAt) → Sound c → IsEnding seat claims reads claims cleared c → cleared < reads
    → v ≡ (read_at (c.seats seat).current cleared).version → IsUnseen sessions seat b c → after_event c seat (kind.ClearReader v) ≡ Some d
    → IsEnding seat claims reads claims (cleared + 1) d × IsUnseen sessions seat b d
clear_more sessions seat claims reads cleared b c d v sound at within is unseen e = (
  clears_on seat claims reads claims cleared c sound at refl within d (subst (λ (u : VersionAt). after_event c seat (kind.ClearReader u) ≡ Some d) is e),
  unseen_both sessions seat b c d unseen (clear_unseen sessions seat v c d sound e),
)

-- the last step
pub leave_taken : (seat : ℕ) (c : Core) → Sound c → HasCleared seat c → IsTaken c seat (kind.StoreBegin 0)
leave_taken seat c sound at = (_, leaves seat (claims_in c seat) (reads_in c seat) (claims_in c seat) (reads_in c seat) c sound at refl refl)

pub abort_done : (sessions seat : ℕ) (b c d : Core) → IsQuiet sessions b → IsSession (view_of sessions b) seat → Sound c → IsUnseen sessions seat b c → HasCleared seat c
    → after_event c seat (kind.StoreBegin 0) ≡ Some d → IsQuiet sessions d × DidAbort (view_of sessions b) seat (view_of sessions d)
abort_done sessions seat b c d quiet session sound unseen at e =
    let claims = claims_in c seat in
    let reads = reads_in c seat in
    let change = changes_one sessions seat c d (kind.StoreBegin 0) sound tt e in
    let is = part_stepped c d seat (kind.StoreBegin 0) (aborted_part (c.seats seat)) (leaves seat claims reads claims reads c sound at refl refl) e in
    let others : (q : ℕ) → q ≢ seat → d.seats q ≡ b.seats q = λ q other. others_stay c d seat (kind.StoreBegin 0) tt e q other ∙ unseen.others q other in
    let opening : d.shared.opening ≡ b.shared.opening = ap (λ (o : Opening). o.tail) change.opening ∙ ap (λ (v : View). v.opening.tail) unseen.view in
    let flushed : d.shared.flushed ≡ b.shared.flushed = change.flushed ∙ ap (λ (v : View). v.flushed) unseen.view in
    let tail : d.shared.tail ≡ b.shared.tail + 0 = change.tail ∙ ap (λ (v : View). v.tail + 0) unseen.view in
    let within = quiet.flushed in
    let stamp : (d.seats seat).current.stamp ≡ 0 = ap (λ (y : Part). y.current.stamp) is in (
      quiet_after sessions seat b d quiet session others opening
          (subst (λ (y : Part). IsBetween y.place y.task) (sym is) refl)
          (λ drawn. absurd (omega (arith, drawn, stamp)))
          (let low = within.0 in omega (arith, opening, flushed, low), let high = within.1 in omega (arith, tail, flushed, high)),
      subst (λ (v : View). DidAbort v seat (view_of sessions d)) unseen.view (abort_shows sessions seat claims reads c d sound at e),
    )
