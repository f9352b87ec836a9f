-- A claim: what the pass's view says of it, as the world shows it, and the head that was found free.
use Rattle.std.proofs.Common.{◌≡◌, ℕ, ◌+◌, ◌<◌, ⊎_elim, true, false, List, [], ◌∷◌, ◌++◌, length, map, Option, Some, refl, sym, ap, ◌∙◌, subst, arith}
use Rattle.std.proofs.lemmas.List.{length-append, length-map, map-append}
use Rattle.erm_model.specs.declared.history.VersionWritten.{VersionWritten}
use Rattle.erm_model.specs.declared.limits.TheConstants.{WRITE_LIMIT}
use Rattle.erm_model.specs.declared.outcome.Phase.TheVariants as phase
use Rattle.erm_model.specs.RowTransaction.{Law}
use Rattle.erm_machine.specs.declared.attempt.Claim.{Claim}
use Rattle.erm_machine.specs.declared.attempt.OwnCell.{OwnCell}
use Rattle.erm_machine.specs.declared.event.Kind.TheVariants as kind
use Rattle.erm_machine.specs.declared.part.Part.{Part}
use Rattle.erm_machine.specs.declared.task.Task.{Task}
use Rattle.erm_machine.specs.declared.task.Task.TheVariants as task
use Rattle.erm_machine.specs.declared.version.CellWord.TheVariants as word
use Rattle.erm_machine.specs.declared.version.VersionAt.{VersionAt}
use Rattle.erm_machine.specs.Core.{Core, no_claim}
use Rattle.erm_machine.specs.Decided.{written_of}
use Rattle.erm_machine.specs.Reading.{load_walked_stamp, new_claim}
use Rattle.erm_machine.specs.Seat.{is_active, may_start}
use Rattle.erm_machine.specs.Step.{after_event}
use Rattle.erm_machine.specs.Words.{is_seat, owner_of}
use Rattle.erm_machine.proofs.Guards.{if_then, when_then}
use Rattle.erm_machine.proofs.QuietKinds.{moves}
use Rattle.erm_core_cells.proofs.ChainsFrames.{same_name}
use Rattle.erm_core_view.specs.Views.{session_of, view_of, work_of}
use Rattle.erm_core_view.proofs.Shown.{shows_work}
use Rattle.erm_core_steps.specs.Claiming.{is_cleared}
use Rattle.erm_core_steps.specs.Reads.{IsAtWork, in_hand}
use Rattle.erm_core_steps.proofs.Aborts.{no_flusher}
use Rattle.erm_core_steps.proofs.Early.{works_work}
use Rattle.erm_core_steps.proofs.Exchanges.{free_current, has_head, head_free}
use Rattle.erm_core_steps.proofs.Stored.{claimed_from}
use Rattle.erm_core_steps.proofs.Unowned.{unowned}
use Rattle.erm_core_steps.proofs.Ways.{begin_stays}
use Rattle.erm_core_steps.proofs.Quiet.{at_work}
use Rattle.erm_rows.specs.Claims as rows
use Rattle.erm_rows.specs.Claims.{claimed_part, filled_claim}
use Rattle.erm_rows.specs.Took.{TookClaim, TookFree, begin_in}
use Rattle.erm_rule.specs.declared.view.Book.{Book}
use Rattle.erm_rule.specs.Views.{part_of}
use Rattle.erm_rule.specs.Went.{core_of}
use Rattle.erm_session.specs.Calls.{ClaimsObject, HasClaimed}
use Rattle.erm_session.specs.Calls as session_calls
use Rattle.erm_session.specs.Took.{TookAnyClaim}
use Rattle.erm_world.specs.Calls.{DidClaim, HasNoNewer, IsUnowned, Works}
use Rattle.erm_world.specs.Calls as calls
use Rattle.erm_world.specs.Works.{claiming, is_claimed}
use Rattle.erm_world.specs.World.{IsSession, Session, View, Work, phase_at, work_at}
use Rattle.erm_world.specs.World as world
use Rattle.erm_table_world.specs.Stands.{StandsAt}
use Rattle.erm_table_world.proofs.Beginning.{took_alone}
use Rattle.erm_table_world.proofs.Loads.{loads_go}
use Rattle.erm_table_world.proofs.Reading.{as_it_was, at_seat, is_unclaimed, work}
use Rattle.erm_table_world.proofs.Still.{Stayed, becomes}
use Rattle.erm_table_world.proofs.Wholly.{Ran, part_is, part_set, runs}

-- the session of a seat that has claimed an object
claim_shows : (c : Claim) (spare : List OwnCell) (tail readers : ℕ) (x : Part) → is_active x.place ≡ true → session_of (claimed_part c spare tail readers x) ≡ record {
  over = (session_of x).over;
  stand = world.active (claiming (written_of c) (work_of x.current));
}
claim_shows c spare tail readers x active =
    let more : map written_of (x.current.writes ++ c ∷ []) ≡ map written_of x.current.writes ++ written_of c ∷ [] = map-append written_of x.current.writes (c ∷ []) in
    let claims : work_of (claimed_part c spare tail readers x).current ≡ claiming (written_of c) (work_of x.current) =
    ap (λ (ws : List VersionWritten). record (work_of x.current) { claims = ws }) more
    in
    (shows_work x (claiming (written_of c) (work_of x.current)) (claimed_part c spare tail readers x) refl active refl claims).shows

-- the version whose stamp is loaded on the way is the one in hand
walked : (found : ℕ) (v w : VersionAt) (head : Option ℕ) (x y : Part) → x.task ≡ task.Walks w head → load_walked_stamp found v x x.task ≡ Some y → v ≡ w
walked found v w head x y at e =
    when_then (λ _. v ≡ w) _ _ y (subst (λ (u : Task). load_walked_stamp found v x u ≡ Some y) at e) (λ g. same_name v w g)

pub in_hand_is : (c d : Core) (seat : ℕ) (v w : VersionAt) (head : Option ℕ) → is_active (c.seats seat).place ≡ true → (c.seats seat).task ≡ task.Walks w head
    → after_event c seat (kind.LoadCell v word.Stamp) ≡ Some d → v ≡ in_hand (c.seats seat).task
in_hand_is c d seat v w head active at e =
    let m = moves c seat (kind.LoadCell v word.Stamp) d tt e in
    let same : v ≡ w =
    if_then (λ _. v ≡ w) (is_active (c.seats seat).place) _ _ m.part m.after (λ _ e2. walked _ v w head (c.seats seat) m.part at e2) (λ off _. absurd (cc))
    in
    same ∙ ap in_hand (sym at)

module _ (law : Law) (sessions seat : ℕ) (b e : Book) (at : StandsAt law sessions b) (session : IsSession (view_of sessions (core_of b)) seat) (active : phase_at (view_of sessions (core_of b)) seat ≡ phase.Active)
    (seated : is_seat seat ≡ true) where
  abbrev own : Part
  own = (core_of b).seats seat

  pub record Claims (oid : ℕ) : Type 0 where
    pub stamp : ℕ
    pub base : List ℕ
    pub few : length (work_at (view_of sessions (core_of b)) seat).claims < WRITE_LIMIT
    pub shows : Works (view_of sessions (core_of b)) seat (claiming (record { oid = oid; stamp = stamp; base = base; row = base; is_set = false }) (work_at (view_of sessions (core_of b)) seat)) (view_of sessions (core_of e))
    pub at_work : is_active ((core_of e).seats seat).place ≡ true
    pub starts : may_start ((core_of e).seats seat).task ≡ true

  pub claims : (oid : ℕ) (row : List ℕ) → Ran law sessions seat b e → Stayed sessions seat (core_of b) (core_of e) → rows.DidClaim b.view seat oid row e.view → Claims oid
  claims oid row ran stayed did =
      let on = at_seat law sessions seat b e at session active seated in
      let same = work law sessions seat b e at session active seated in
      let c : Claim = filled_claim did.fill.own (new_claim did.took.version did.took.stamp did.took.base) in
      let y : Part → Part = λ x. claimed_part c did.fill.spare did.cut.found.tail did.filled.readers x in
      let set : (core_of e).seats seat ≡ y own =
      part_set law b e seat (y (part_of b.view seat)) at.state ran.state seated did.view_is ∙ ap y (part_is law b seat at.state seated)
      in
      let made : ℕ → Work → Session = λ n w. record {
        over = (session_of own).over;
        stand = world.active (claiming (record { oid = n; stamp = did.took.stamp; base = did.took.base; row = did.took.base; is_set = false }) w);
      } in
      let shows : session_of ((core_of e).seats seat) ≡ made oid (work_at (view_of sessions (core_of b)) seat) =
      ap session_of set ∙ claim_shows c did.fill.spare did.cut.found.tail did.filled.readers own on.active ∙ ap (λ (n : ℕ). made n (work_of own.current)) did.took.oid_is
      ∙ ap (λ (w : Work). made oid w) (sym same)
      in
      let long : length ((core_of e).seats seat).current.writes ≡ length own.current.writes + 1 =
      ap (λ (x : Part). length x.current.writes) set ∙ length-append own.current.writes (c ∷ [])
      in
      let few = (ran.state.sound.sound.own seat).ranges.few in
      let all : length (work_at (view_of sessions (core_of b)) seat).claims ≡ length own.current.writes =
      ap (λ (w : Work). length w.claims) same ∙ length-map own.current.writes written_of
      in
      record {
        stamp = did.took.stamp;
        base = did.took.base;
        few = omega (arith, long, few, all);
        shows = becomes law sessions seat b e (made oid (work_at (view_of sessions (core_of b)) seat)) (no_flusher seat on.session) ran stayed shows;
        at_work = ap (λ (x : Part). is_active x.place) set ∙ on.active;
        starts = ap (λ (x : Part). may_start x.task) set;
      }

  -- A HEAD THAT MAY BE CLAIMED: nobody owns the object's entry, and no commit has made a newer version.
  pub record Free (oid : ℕ) : Type 0 where
    pub free : IsUnowned (view_of sessions (core_of b)) seat oid
    pub current : HasNoNewer (view_of sessions (core_of b)) seat oid

  pub frees : (oid entry : ℕ) (m : Book) → is_cleared own.task ≡ false → TookFree law seat oid entry b m → Free oid
  frees oid entry m left took =
      let on = at_seat law sessions seat b e at session active seated in
      let works : IsAtWork seat (core_of b) = at_work on in
      let steps = took.head.took in
      let first = took_alone law seat (kind.LoadEntry oid, entry) b steps.0 steps.1 in
      let one = runs law b seat (kind.LoadEntry oid) entry steps.0 first at.state in
      let two = runs law steps.0 seat (kind.LoadCell took.head.version word.Stamp) took.stamp m steps.2 one.state in
      let goes = loads_go law sessions seat ((kind.LoadEntry oid, entry) ∷ []) b steps.0 steps.1 (tt, tt) at.state works in
      let then = loads_go law sessions seat ((kind.LoadCell took.head.version word.Stamp, took.stamp) ∷ (kind.LoadEntry oid, entry) ∷ []) b m steps (tt, (tt, tt)) at.state works in
      let head = has_head (core_of b) (core_of steps.0) seat oid entry works on.starts left one.event (sym one.met) took.head.unowned in
      let hand = in_hand_is (core_of steps.0) (core_of m) seat took.head.version head.version (Some entry) goes.at.active head.is two.event in
      let begin : begin_in b seat ≡ ((core_of steps.0).seats seat).current.begin =
      ap (λ (x : Part). x.current.begin) (part_is law b seat at.state seated) ∙ ap (λ (w : Work). w.begin) (sym (work law sessions seat b e at session active seated))
      ∙ sym (begin_stays sessions seat (core_of b) (core_of steps.0) goes)
      in
      let low = took.below in
      let free = head_free (core_of steps.0) (core_of m) seat oid entry took.stamp took.head.version goes.at head hand (sym two.met) (omega (arith, low, begin)) two.event in
      record {
        free = unowned sessions seat oid (core_of b) at.state.sound.sound at.quiet (ap owner_of one.met ∙ took.head.unowned);
        current = subst (λ (v : View). HasNoNewer v seat oid) then.unseen.view (free_current sessions seat oid entry (core_of m) two.state.sound.sound then.at.active free);
      }

  -- A CLAIM of an object that was claimed before, or is now
  pub did_claim : (oid count : ℕ) → is_cleared own.task ≡ false → Ran law sessions seat b e → Stayed sessions seat (core_of b) (core_of e) → ClaimsObject b.view seat oid e.view
      → TookAnyClaim law seat oid count b e → DidClaim (view_of sessions (core_of b)) seat oid (view_of sessions (core_of e))
  did_claim oid count left ran stayed (session_calls.before same row has) took =
      let mine : HasClaimed own oid row = subst (λ (x : Part). HasClaimed x oid row) (part_is law b seat at.state seated) has in
      calls.before (as_it_was law sessions seat b e at session active seated ran stayed same)
      (ap (λ (w : Work). is_claimed w.claims oid) (work law sessions seat b e at session active seated)
      ∙ claimed_from own.current.writes mine.place no_claim oid mine.claimed.within mine.claimed.oid_is)
  did_claim oid count left ran stayed (session_calls.now none row did) took =
      let v : View = view_of sessions (core_of b) in
      let c = claims oid row ran stayed did in
      let made : VersionWritten = record { oid = oid; stamp = c.stamp; base = c.base; row = c.base; is_set = false } in
      ⊎_elim
      (λ (t : (count ≡ 0) × (e ≡ b)).
      let grown : length (work_at (view_of sessions (core_of e)) seat).claims ≡ length (work_at v seat).claims + length (made ∷ []) =
      ap (λ (w : Work). length w.claims) (works_work v (view_of sessions (core_of e)) seat (claiming made (work_at v seat)) c.shows) ∙ length-append (work_at v seat).claims (made ∷ [])
      in
      let same : length (work_at (view_of sessions (core_of e)) seat).claims ≡ length (work_at v seat).claims = ap (λ (z : Book). length (work_at (view_of sessions (core_of z)) seat).claims) t.1 in
      absurd (omega (arith, grown, same)))
      (λ (t : TookClaim law seat oid count b e).
      let free = frees oid t.entry.entry t.entry.at left t.entry.free in
      calls.now c.stamp c.base (is_unclaimed law sessions seat b e at session active seated oid none) c.few free.free free.current c.shows)
      took
