-- A claim up to its exchange: which steps are taken, and what they leave.
use Rattle.std.proofs.Common.{◌≡◌, ◌≢◌, ℕ, suc, ◌-◌, ◌<◌, ◌≤◌, ⊎_elim, true, false, eqb, ltb, List, [], ◌∷◌, ◌++◌, length, map, take, Option, Some, refl, sym, ap, ◌∙◌, subst, arith, length-append}
use Rattle.std.specs.Prelude.{if◌then◌else◌}
use Rattle.std.proofs.Math.Path.{fun_ext}
use Rattle.std.proofs.lemmas.Bool.{and_from, cases_eq, cond-true, eq-eqb, lt-ltb}
use Rattle.std.proofs.lemmas.List.{length-map}
use Rattle.erm_model.specs.declared.history.VersionWritten.{VersionWritten}
use Rattle.erm_model.specs.declared.outcome.Phase.TheVariants as phase
use Rattle.erm_model.specs.declared.row_stop.RowStop.{RowStop}
use Rattle.erm_model.specs.declared.row_stop.RowStop.TheVariants as stop
use Rattle.erm_machine.specs.declared.event.Kind.TheVariants as kind
use Rattle.erm_machine.specs.declared.limits.TheConstants.{OBJECT_LIMIT, WRITE_LIMIT}
use Rattle.erm_machine.specs.declared.part.Part.{Part}
use Rattle.erm_machine.specs.declared.task.Task.{Task}
use Rattle.erm_machine.specs.declared.task.Task.TheVariants as task
use Rattle.erm_machine.specs.declared.version.CellWord.TheVariants as word
use Rattle.erm_machine.specs.declared.version.VersionAt.{VersionAt}
use Rattle.erm_machine.specs.Chains.{HeadInHand, IsHead, IsNamed, NamedInHand}
use Rattle.erm_machine.specs.Core.{Core, Object, Shared, version_at}
use Rattle.erm_machine.specs.Decided.{written_of}
use Rattle.erm_machine.specs.Reading.{claim, head_version, load_cell, load_entry, load_walked_stamp, lost, new_claim}
use Rattle.erm_machine.specs.Seat.{is_active, may_start, is_snapshot}
use Rattle.erm_machine.specs.Snapshot.{InHand, IsNewestAt}
use Rattle.erm_machine.specs.Sound.{Sound}
use Rattle.erm_machine.specs.Step.{after_event}
use Rattle.erm_machine.specs.Words.{owner_of}
use Rattle.erm_machine.proofs.Backs.{entry_then}
use Rattle.erm_machine.proofs.Guards.{when_then}
use Rattle.erm_world.specs.Calls.{DidClaim, DidNotClaim, HasNoNewer, IsNewer, IsUnowned, MayClaim, Works, now}
use Rattle.erm_world.specs.Snapshots.{snapshot_not_active}
use Rattle.erm_world.specs.World.{Finished, IsSession, Session, Stand, View, Work, phase_of, work_at}
use Rattle.erm_world.specs.World as world
use Rattle.erm_world.specs.Works.{claiming}
use Rattle.erm_world.proofs.Saves.{works_keeps, works_then}
use Rattle.erm_core_calls.proofs.Moving.{met, stepped, taken}
use Rattle.erm_core_view.specs.Views.{IsQuiet, finished_of, view_of, work_of}
use Rattle.erm_core_view.proofs.Moved.{one_becomes}
use Rattle.erm_core_view.proofs.Shown.{claims, work_active}
use Rattle.erm_core_view.proofs.Snapshots.{plain_new, starts_new}
use Rattle.erm_core_steps.specs.Claiming.{HasExchanged, HasFreeHead, HasHead, is_cleared}
use Rattle.erm_core_steps.specs.Finishes.{IsDropped}
use Rattle.erm_core_steps.specs.Reads.{IsAtWork, IsExcluded, finds, in_hand, stage_of}
use Rattle.erm_core_steps.specs.Steps.{IsTaken, IsUnseen}
use Rattle.erm_core_steps.proofs.Aborts.{session_plain}
use Rattle.erm_core_steps.proofs.Early.{done_before, quiet_since, shut_before, works_work}
use Rattle.erm_core_steps.proofs.Quiet.{IsActive}
use Rattle.erm_core_steps.proofs.Registered.{finds_starts}
use Rattle.erm_core_steps.proofs.Unseen.{others_stay, same_view}
use Rattle.erm_core_steps.proofs.Ways.{Arrives, chosen, entry_part, owned, part_is, read_goes, read_nears, starts_plain, walks}
use Rattle.erm_core_steps.proofs.Unowned.{newer_shown, none_newer, unowned}
use Rattle.erm_core_turns.proofs.Turns.{part_stepped}
use Rattle.erm_core_steps.proofs.Loads.{load_shared}

-- what an entry leads to is where a call may start, and no owner that was found clear
pub arrives_starts : (oid entry : ℕ) (t : Task) → Arrives oid entry t → may_start t ≡ true
arrives_starts oid entry t (walks at) = finds_starts oid t at
arrives_starts oid entry t (owned owner is owns some) = ap may_start is

finds_left : (oid : ℕ) (t : Task) → stage_of t ≡ finds oid → is_cleared t ≡ false
finds_left oid (task.Cleared n) at = absurd (cc)
finds_left oid _ at = refl

pub arrives_left : (oid entry : ℕ) (t : Task) → Arrives oid entry t → is_cleared t ≡ false
arrives_left oid entry t (walks at) = finds_left oid t at
arrives_left oid entry t (owned owner is owns some) = ap is_cleared is

pub uncleared : (t : Task) → ((oid : ℕ) → t ≡ task.Cleared oid → ⊥) → is_cleared t ≡ false
uncleared (task.Cleared oid) none = absurd (none oid refl)
uncleared _ none = refl

-- THE HEAD of an entry without owner
head_task : (seat oid entry : ℕ) (o : Object) (x y : Part) (t : Task) → may_start t ≡ true → is_cleared t ≡ false → owner_of entry ≡ 0 → load_entry seat oid entry o x t ≡ Some y
    → y.task ≡ task.Walks (head_version oid entry o) (Some entry)
head_task seat oid entry o x y (task.Cleared n) starts left none e = absurd (cc)
head_task seat oid entry o x y t starts left none e =
    entry_then (λ (z : Part). z.task ≡ task.Walks (head_version oid entry o) (Some entry)) seat oid entry o x t y e
    (λ safe _. absurd (let plain = starts_plain t starts in cc)) (λ _.
    cond-true (eqb (owner_of entry) 0) (task.Walks (head_version oid entry o) (Some entry)) _ (eq-eqb (owner_of entry) 0 none))

pub has_head : (c d : Core) (seat oid entry : ℕ) → IsAtWork seat c → may_start (c.seats seat).task ≡ true → is_cleared (c.seats seat).task ≡ false → after_event c seat (kind.LoadEntry oid) ≡ Some d
    → entry ≡ (c.shared.objects oid).entry → owner_of entry ≡ 0 → HasHead d seat oid entry
has_head c d seat oid entry at starts left e is none =
    let o = c.shared.objects oid in
    let none_there : owner_of o.entry ≡ 0 = ap owner_of (sym is) ∙ none in
    let there = head_task seat oid o.entry o (c.seats seat) (d.seats seat) (c.seats seat).task starts left none_there (entry_part c d seat oid at e) in
    record {
      version = head_version oid o.entry o;
      is = there ∙ ap (λ (n : ℕ). task.Walks (head_version oid o.entry o) (Some n)) (sym is);
      oid_is = refl;
      entry_is = ap (λ (s : Shared). (s.objects oid).entry) (load_shared c d seat (kind.LoadEntry oid) tt e) ∙ sym is;
      unowned = none;
    }

-- its stamp is loaded
pub head_taken : (c : Core) (seat oid entry : ℕ) (v : VersionAt) → Sound c → IsAtWork seat c → HasHead c seat oid entry → v ≡ in_hand (c.seats seat).task
    → IsTaken c seat (kind.LoadCell v word.Stamp)
head_taken c seat oid entry v sound at head is =
    subst (λ (u : VersionAt). IsTaken c seat (kind.LoadCell u word.Stamp)) (sym (is ∙ ap in_hand head.is))
    (read_goes c seat (kind.LoadCell head.version word.Stamp) sound at (task.Walks head.version (Some entry)) head.is refl).1

stamp_task : (found : ℕ) (v : VersionAt) (head : Option ℕ) (x y : Part) → is_active x.place ≡ true → x.task ≡ task.Walks v head → found < x.current.begin
    → load_cell found v word.Stamp x ≡ Some y → y.task ≡ task.Found v found head
stamp_task found v head x y active at low e =
    let walked = subst (λ (u : Task). load_walked_stamp found v x u ≡ Some y) at (chosen (is_active x.place) (load_walked_stamp found v x x.task) y active e) in
    when_then (λ (z : Part). z.task ≡ task.Found v found head) _ _ y walked (λ _.
    cond-true (ltb found x.current.begin) (task.Found v found head) (task.Passed v) (lt-ltb found x.current.begin low))

pub head_free : (c d : Core) (seat oid entry stamp : ℕ) (v : VersionAt) → IsAtWork seat c → HasHead c seat oid entry → v ≡ in_hand (c.seats seat).task
    → stamp ≡ (version_at (c.shared.objects v.oid) v.place).words.stamp → stamp < (c.seats seat).current.begin → after_event c seat (kind.LoadCell v word.Stamp) ≡ Some d
    → HasFreeHead d seat oid entry
head_free c d seat oid entry stamp v at head is word_is low e =
    let same : v ≡ head.version = is ∙ ap in_hand head.is in
    let there : (c.seats seat).task ≡ task.Walks v (Some entry) = head.is ∙ ap (λ (u : VersionAt). task.Walks u (Some entry)) (sym same) in
    record {
      version = v;
      stamp = (version_at (c.shared.objects v.oid) v.place).words.stamp;
      is = stamp_task _ v (Some entry) (c.seats seat) (d.seats seat) at.active there (omega (arith, word_is, low)) (part_is c d seat (kind.LoadCell v word.Stamp) tt e);
      oid_is = ap (λ (u : VersionAt). u.oid) same ∙ head.oid_is;
      entry_is = ap (λ (s : Shared). (s.objects oid).entry) (load_shared c d seat (kind.LoadCell v word.Stamp) tt e) ∙ head.entry_is;
      unowned = head.unowned;
    }

-- whether or not it is found, a call may start; nobody has claimed the object; and one that is too new is a commit's
pub head_starts : (c d : Core) (seat oid entry : ℕ) (v : VersionAt) → IsAtWork seat c → HasHead c seat oid entry → v ≡ in_hand (c.seats seat).task
    → after_event c seat (kind.LoadCell v word.Stamp) ≡ Some d → may_start (d.seats seat).task ≡ true
head_starts c d seat oid entry v at head is e =
    let after = subst (λ (u : VersionAt). after_event c seat (kind.LoadCell u word.Stamp) ≡ Some d) (is ∙ ap in_hand head.is) e in
    let near = read_nears c d seat (kind.LoadCell head.version word.Stamp) at after (task.Walks head.version (Some entry)) head.is refl in
    finds_starts head.version.oid (d.seats seat).task near.stage

pub head_unowned : (sessions seat oid entry : ℕ) (c : Core) → Sound c → IsQuiet sessions c → HasHead c seat oid entry → IsUnowned (view_of sessions c) seat oid
head_unowned sessions seat oid entry c sound quiet head = unowned sessions seat oid c sound quiet (ap owner_of head.entry_is ∙ head.unowned)

pub head_newer : (sessions seat oid entry stamp : ℕ) (c : Core) (v : VersionAt) → Sound c → IsQuiet sessions c → IsActive seat c → HasHead c seat oid entry
    → v ≡ in_hand (c.seats seat).task → stamp ≡ (version_at (c.shared.objects v.oid) v.place).words.stamp → (work_at (view_of sessions c) seat).begin ≤ stamp
    → IsNewer (view_of sessions c) seat oid stamp
head_newer sessions seat oid entry stamp c v sound quiet at head is word_is above =
    let x = c.seats seat in
    let same : v ≡ head.version = is ∙ ap in_hand head.is in
    let named : IsNamed c.shared head.version = subst (NamedInHand c.shared) head.is (sound.own seat).chains.named in
    let there : stamp ≡ (version_at (c.shared.objects head.version.oid) head.version.place).words.stamp =
    word_is ∙ ap (λ (u : VersionAt). (version_at (c.shared.objects u.oid) u.place).words.stamp) same
    in
    let begins = ap (λ (w : Work). w.begin) (work_active x.place x.task x.current at.active (starts_new x.task x.current at.starts)) in
    let free : IsHead (c.shared.objects head.version.oid) head.version (Some entry) = subst (HeadInHand c.shared) head.is (sound.own seat).chains.head in
    let newest_is = free.2 (ap (λ (n : ℕ). (c.shared.objects n).entry) head.oid_is ∙ head.entry_is) in
    subst (λ (n : ℕ). IsNewer (view_of sessions c) seat n stamp) head.oid_is
    (subst (λ (n : ℕ). IsNewer (view_of sessions c) seat head.version.oid n) (sym there)
    (newer_shown sessions seat head.version.oid head.version.place c sound quiet at.active named.object named.within newest_is (omega (arith, there, begins, above))))

-- of a head below the begin stamp there is none newer
pub free_current : (sessions seat oid entry : ℕ) (c : Core) → Sound c → is_active (c.seats seat).place ≡ true → HasFreeHead c seat oid entry → HasNoNewer (view_of sessions c) seat oid
free_current sessions seat oid entry c sound active f =
    let free : IsHead (c.shared.objects f.version.oid) f.version (Some entry) = subst (HeadInHand c.shared) f.is (sound.own seat).chains.head in
    let newest_is = free.2 (ap (λ (n : ℕ). (c.shared.objects n).entry) f.oid_is ∙ f.entry_is) in
    let begin : ℕ = (c.seats seat).current.begin in
    let found : IsNewestAt (c.shared.objects f.version.oid) f.version.place begin f.stamp = subst (InHand c.shared begin) f.is (sound.own seat).snapshot.in_hand in
    let is = found.stamp_is in
    let low = found.below in
    subst (λ (n : ℕ). HasNoNewer (view_of sessions c) seat n) f.oid_is
    (none_newer sessions seat f.version.oid f.version.place c sound active newest_is (omega (arith, is, low)))

-- THE EXCHANGE
abbrev exchanged : ℕ → ℕ → ℕ → VersionAt → ℕ → ℕ → Object → Part → Part
exchanged seat oid seen v stamp found o x = record x {
  task = if eqb found seen then task.Claimed v else lost seat oid found v o;
  current = record x.current {
    writes = if eqb found seen then x.current.writes ++ new_claim v stamp (version_at o v.place).words.row ∷ [] else x.current.writes;
  };
}

module _ (c : Core) (seat oid entry number : ℕ) (sound : Sound c) (at : IsAtWork seat c) (f : HasFreeHead c seat oid entry)
    (few : length (c.seats seat).current.writes < WRITE_LIMIT) (own : number ≡ (c.seats seat).current.number) where
  known : oid < OBJECT_LIMIT
  known =
      let named : NamedInHand c.shared (task.Found f.version f.stamp (Some entry)) = subst (NamedInHand c.shared) f.is (sound.own seat).chains.named in
      let is : IsNamed c.shared f.version = named in
      subst (λ n. n < OBJECT_LIMIT) f.oid_is is.object

  exchange_steps : after_event c seat (kind.Claim oid entry number)
      ≡ Some (stepped c seat (kind.Claim oid entry number) (exchanged seat oid entry f.version f.stamp (c.shared.objects oid).entry (c.shared.objects oid) (c.seats seat)))
  exchange_steps =
      taken c seat (kind.Claim oid entry number) (exchanged seat oid entry f.version f.stamp (c.shared.objects oid).entry (c.shared.objects oid) (c.seats seat)) tt
      (lt-ltb oid OBJECT_LIMIT known)
      (met _ _ _ (ap (claim seat oid entry number (c.shared.objects oid).entry (c.shared.objects oid) (c.seats seat)) f.is)
      (and_from _ _ (and_from _ _ (and_from _ _ (and_from _ _ (and_from _ _ at.active at.session) (eq-eqb oid f.version.oid (sym f.oid_is))) (eq-eqb entry entry refl))
      (eq-eqb number (c.seats seat).current.number own)) (lt-ltb (length (c.seats seat).current.writes) WRITE_LIMIT few)))

  pub exchange_taken : IsTaken c seat (kind.Claim oid entry number)
  exchange_taken = (_, exchange_steps)

  pub exchange_shows : (sessions : ℕ) (d : Core) → after_event c seat (kind.Claim oid entry number) ≡ Some d → HasExchanged sessions seat oid c d
  exchange_shows sessions d e =
      let x = c.seats seat in
      let is : d.seats seat ≡ exchanged seat oid entry f.version f.stamp (c.shared.objects oid).entry (c.shared.objects oid) x =
      part_stepped c d seat (kind.Claim oid entry number) (exchanged seat oid entry f.version f.stamp (c.shared.objects oid).entry (c.shared.objects oid) x) exchange_steps e in
      let row : List ℕ = (version_at (c.shared.objects f.version.oid) f.version.place).words.row in
      let shown = claims seat oid number c d f.version f.stamp entry at.active f.is f.entry_is e in
      let made : ℕ → Work → Session = λ n w. record {
        over = map finished_of x.over;
        stand = world.active (claiming (record { oid = n; stamp = f.stamp; base = row; row = row; is_set = false }) w);
      } in
      let work : work_at (view_of sessions c) seat ≡ work_of x.current = work_active x.place x.task x.current at.active (plain_new x.task x.current at.plain) in
      record {
        others = others_stay c d seat (kind.Claim oid entry number) tt e;
        stamp = f.stamp;
        base = row;
        shows =
            one_becomes sessions seat c d (kind.Claim oid entry number) (made oid (work_at (view_of sessions c) seat)) (session_plain seat at.session) tt tt refl refl e
            (shown ∙ ap (λ n. made n (work_of x.current)) f.oid_is ∙ ap (λ (w : Work). made oid w) (sym work));
        at = record {
          session = at.session;
          active = ap (λ (y : Part). is_active y.place) is ∙ at.active;
          plain = ap (λ (y : Part). is_snapshot y.task) is
              ∙ ap is_snapshot (cond-true (eqb (c.shared.objects oid).entry entry) (task.Claimed f.version) _ (eq-eqb (c.shared.objects oid).entry entry f.entry_is));
        };
        version = f.version;
        claimed =
            ap (λ (y : Part). y.task) is
            ∙ cond-true (eqb (c.shared.objects oid).entry entry) (task.Claimed f.version) _ (eq-eqb (c.shared.objects oid).entry entry f.entry_is);
        oid_is = f.oid_is;
      }

-- A CLAIM as the view tells it
pub claim_done : (v between t : View) (seat oid stamp : ℕ) (base : List ℕ) → MayClaim (work_at v seat) oid → IsUnowned v seat oid → HasNoNewer v seat oid
    → Works v seat (claiming (record { oid = oid; stamp = stamp; base = base; row = base; is_set = false }) (work_at v seat)) between → t ≡ between → DidClaim v seat oid t
claim_done v between t seat oid stamp base may free current works same = subst (λ (u : View). DidClaim v seat oid u) (sym same) (now stamp base may.0 may.1 free current works)

pub claim_excluded : (v between t : View) (seat oid stamp : ℕ) (base : List ℕ) (why : RowStop) → MayClaim (work_at v seat) oid → IsUnowned v seat oid
    → HasNoNewer v seat oid
    → Works v seat (claiming (record { oid = oid; stamp = stamp; base = base; row = base; is_set = false }) (work_at v seat)) between
    → IsExcluded between seat t why → DidNotClaim v seat oid why t
claim_excluded v between t seat oid stamp base (stop.Excluded succ pred) may free current works (aborted, shut) =
    (may, free, current, (record { oid = oid; stamp = stamp; base = base; row = base; is_set = false }, refl, done_before v between t seat _ works aborted, shut_before v between seat _ succ pred works shut))
claim_excluded v between t seat oid stamp base why may free current works excluded = absurd excluded

-- an exclusion isn't told as a want of cells
pub excluded_cells : (v t : View) (seat : ℕ) (why : RowStop) → IsExcluded v seat t why → (drawn : ℕ) → why ≢ stop.CellsFull drawn
excluded_cells v t seat (stop.Excluded succ pred) excluded drawn same = absurd (cc)
excluded_cells v t seat why excluded drawn same = absurd excluded

-- one that is dropped left nothing
active_session : (over : List Finished) (stand : Stand) → phase_of stand ≡ phase.Active → ◌≡◌ {A = Session} (record { over = over; stand = stand }) (record { over = over; stand = world.active (world.work_of stand) })
active_session over (world.active w) e = refl
active_session over (world.snapshot s) e = absurd (snapshot_not_active s e)
active_session over _ e = absurd (cc)

without_last : (ws : List VersionWritten) (c : VersionWritten) → take (length (ws ++ c ∷ []) - 1) (ws ++ c ∷ []) ≡ ws
without_last [] c = refl
without_last (w ∷ ws) c =
    let more = length-append ws (c ∷ []) in
    let count : length ((w ∷ ws) ++ c ∷ []) - 1 ≡ suc (length ws) = omega (arith, more) in
    let fewer : length (ws ++ c ∷ []) - 1 ≡ length ws = omega (arith, more) in
    ap (λ n. take n ((w ∷ ws) ++ c ∷ [])) count ∙ ap (λ (us : List VersionWritten). w ∷ us) (ap (λ n. take n (ws ++ c ∷ [])) (sym fewer) ∙ without_last ws c)

pub dropped_same : (v between t : View) (seat : ℕ) (c : VersionWritten) → phase_of (v.session seat).stand ≡ phase.Active → Works v seat (claiming c (work_at v seat)) between
    → Works between seat (record (work_at between seat) { claims = take (length (work_at between seat).claims - 1) (work_at between seat).claims }) t → t ≡ v
dropped_same v between t seat c active works dropped =
    let w = work_at v seat in
    let without : Work → Work = λ u. record u { claims = take (length u.claims - 1) u.claims } in
    let back : without (claiming c w) ≡ w = ap (λ (cs : List VersionWritten). record w { claims = cs }) (without_last w.claims c) in
    let over : (between.session seat).over ≡ (v.session seat).over = ap (λ (s : Session). s.over) works.own in
    let shown : List Finished → Work → Session = λ fs u. record { over = fs; stand = world.active u } in
    let own : t.session seat ≡ v.session seat =
    dropped.own ∙ ap (λ (fs : List Finished). shown fs (without (work_at between seat))) over
    ∙ ap (λ (u : Work). shown (v.session seat).over (without u)) (works_work v between seat (claiming c w) works) ∙ ap (λ (u : Work). shown (v.session seat).over u) back
    ∙ sym (active_session (v.session seat).over (v.session seat).stand active)
    in
    same_view v t (dropped.opening ∙ works.opening)
    (fun_ext (λ q.
    ⊎_elim
    (λ (here : q ≡ seat). subst (λ n. t.session n ≡ v.session n) (sym here) own)
    (λ (there : q ≡ seat → ⊥). dropped.others q there ∙ works.others q there)
    (cases_eq q seat)))
    (dropped.tail ∙ works.tail) (dropped.flushed ∙ works.flushed) (dropped.pinned ∙ works.pinned) (dropped.given_up ∙ works.given_up)
    (fun_ext (λ q.
    ⊎_elim
    (λ (here : q ≡ seat). subst (λ n. t.saves n ≡ v.saves n) (sym here) (works_keeps v t seat _ active (works_then v between t seat _ _ works dropped)))
    (λ (there : q ≡ seat → ⊥). dropped.saves.others q there ∙ works.saves.others q there)
    (cases_eq q seat)))

-- AFTER a claim the session is between calls.
pub quiet_claimed : (sessions seat oid : ℕ) (b c d : Core) → IsQuiet sessions b → IsSession (view_of sessions b) seat → HasExchanged sessions seat oid b c
    → IsUnseen sessions seat c d → Sound d → is_active (d.seats seat).place ≡ true → may_start (d.seats seat).task ≡ true → IsQuiet sessions d
quiet_claimed sessions seat oid b c d quiet session claimed unseen sound active starts =
    quiet_since sessions seat b d quiet session sound (λ q other. unseen.others q other ∙ claimed.others q other) (ap (λ (v : View). v.opening) unseen.view ∙ claimed.shows.opening)
    (ap (λ (v : View). v.tail) unseen.view ∙ claimed.shows.tail) (ap (λ (v : View). v.flushed) unseen.view ∙ claimed.shows.flushed) active starts

pub quiet_dropped : (sessions seat oid : ℕ) (b c d : Core) → IsQuiet sessions b → IsSession (view_of sessions b) seat → HasExchanged sessions seat oid b c
    → IsDropped sessions seat c d → Sound d → is_active (d.seats seat).place ≡ true → may_start (d.seats seat).task ≡ true → IsQuiet sessions d
quiet_dropped sessions seat oid b c d quiet session claimed dropped sound active starts =
    quiet_since sessions seat b d quiet session sound (λ q other. dropped.others q other ∙ claimed.others q other) (dropped.shows.opening ∙ claimed.shows.opening)
    (dropped.shows.tail ∙ claimed.shows.tail) (dropped.shows.flushed ∙ claimed.shows.flushed) active starts

-- as many claims as the view shows, and which
pub claims_shown : (sessions seat : ℕ) (c : Core) (v : View) → IsActive seat c → view_of sessions c ≡ v → (work_at v seat).claims ≡ map written_of (c.seats seat).current.writes
claims_shown sessions seat c v at same =
    let x = c.seats seat in
    ap (λ (u : View). (work_at u seat).claims) (sym same) ∙ ap (λ (w : Work). w.claims) (work_active x.place x.task x.current at.active (starts_new x.task x.current at.starts))

pub claims_count : (sessions seat : ℕ) (c : Core) (v : View) → IsActive seat c → view_of sessions c ≡ v → length (work_at v seat).claims ≡ length (c.seats seat).current.writes
claims_count sessions seat c v at same =
    ap (λ (ws : List VersionWritten). length ws) (claims_shown sessions seat c v at same) ∙ length-map (c.seats seat).current.writes written_of
