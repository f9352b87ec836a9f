-- A read that is refused: whom it waits for, or by what its transaction is excluded.
use Rattle.std.proofs.Common.{◌≡◌, ◌≢◌, ℕ, ◌<◌, ◌≤◌, true, false, ◌&&◌, ltb, leb, eqb, List, [], ◌∷◌, ◌++◌, length, get_or, Option, Some, None, refl, sym, ap, ◌∙◌, subst, arith, eqb-true}
use Rattle.std.proofs.lemmas.Bool.{and_from, and_parts, cond-true, le-leb, lt-ltb}
use Rattle.std.proofs.Math.Seq.{get_or-append_seam}
use Rattle.erm_model.specs.declared.history.VersionRead.{VersionRead}
use Rattle.erm_model.specs.declared.limits.TheConstants.{READ_LIMIT}
use Rattle.erm_model.specs.declared.outcome.Phase.TheVariants as phase
use Rattle.erm_model.specs.declared.row_stop.RowStop.{RowStop}
use Rattle.erm_model.specs.declared.row_stop.RowStop.TheVariants as stop
use Rattle.erm_model.specs.RowTransaction.{Law}
use Rattle.erm_machine.specs.declared.attempt.Attempt.{Attempt}
use Rattle.erm_machine.specs.declared.event.Kind.TheVariants as kind
use Rattle.erm_machine.specs.declared.limits.TheConstants.{OBJECT_LIMIT}
use Rattle.erm_machine.specs.declared.part.Part.{Part}
use Rattle.erm_machine.specs.declared.task.Task.{Task}
use Rattle.erm_machine.specs.declared.task.Task.TheVariants as task
use Rattle.erm_machine.specs.declared.version.VersionAt.{VersionAt}
use Rattle.erm_machine.specs.Core.{Core, Object}
use Rattle.erm_machine.specs.Reading.{set_reader}
use Rattle.erm_machine.specs.Seat.{is_active, same_version}
use Rattle.erm_machine.specs.Words.{is_clear, is_seat, is_session, owner_of, state_of}
use Rattle.erm_machine.proofs.Guards.{when_then}
use Rattle.erm_machine.proofs.QuietKinds.{Moves, moves}
use Rattle.erm_cells.specs.Took.{IsEndStep}
use Rattle.erm_core_view.specs.Views.{IsQuiet, view_of, work_of}
use Rattle.erm_core_view.proofs.Moved.{own_after}
use Rattle.erm_core_view.proofs.Shown.{work_active}
use Rattle.erm_core_view.proofs.Shown.{registers as shown_read}
use Rattle.erm_core_view.proofs.Snapshots.{plain_new}
use Rattle.erm_core_steps.specs.Reads.{GoesOn, IsAtWork, closed_window}
use Rattle.erm_core_steps.proofs.Early.{found_clear, quiet_since, shut_is}
use Rattle.erm_core_steps.proofs.Owners.{owner_ahead}
use Rattle.erm_core_steps.proofs.Quiet.{IsActive, at_work}
use Rattle.erm_core_steps.proofs.Readings.{read_excluded}
use Rattle.erm_core_steps.proofs.Ways.{begin_stays, active_stand}
use Rattle.erm_entries.specs.Took.{TookWait}
use Rattle.erm_rows.specs.Reads as rows
use Rattle.erm_rows.specs.Took.{IsClosedIn, TookRead, begin_in}
use Rattle.erm_rule.specs.declared.view.Book.{Book}
use Rattle.erm_rule.specs.Views.{part_of}
use Rattle.erm_rule.specs.Went.{IsLoadStep, IsStillStep, Went, core_of}
use Rattle.erm_rule.proofs.Wents.{went_more}
use Rattle.erm_ends.specs.Ends as ends
use Rattle.erm_session.specs.Calls.{RefusesRead}
use Rattle.erm_session.specs.Took.{TookReadStop}
use Rattle.erm_world.specs.Calls.{DidNotRead, IsAhead, IsNew, IsClearOf}
use Rattle.erm_world.specs.World.{IsSession, Session, View, Work, phase_at, work_at}
use Rattle.erm_world.specs.World as world
use Rattle.erm_table_world.specs.Stands.{IsStateful, StandsAt}
use Rattle.erm_table_world.proofs.Aborting.{aborted}
use Rattle.erm_table_world.proofs.Beginning.{took_alone}
use Rattle.erm_table_world.proofs.Loads.{loads_go, went_go}
use Rattle.erm_table_world.proofs.Reading as reading_of
use Rattle.erm_table_world.proofs.Still.{Stayed, went_ran, went_stayed}
use Rattle.erm_table_world.proofs.Wholly.{Ran, Runs, part_is, runs, took_ran}
use Rattle.erm_entries.proofs.Took.{reach_loads}
use Rattle.erm_rows.proofs.Took.{read_still}

pub seat_some : (q : ℕ) → is_seat q ≡ true → 0 < q
seat_some q seat = grind (arith, seat)

-- the version that is registered was found
pub record Finds (v : VersionAt) (t : Task) (x y : Part) : Type 0 where
  pub place : y.place ≡ x.place
  pub at : VersionAt
  pub stamp : ℕ
  pub head : Option ℕ
  pub is : t ≡ task.Found at stamp head
  pub oid_is : v.oid ≡ at.oid

found_needed : (seat : ℕ) (v : VersionAt) (o : Object) (x y : Part) (t : Task) → set_reader seat v o x t ≡ Some y → Finds v t x y
found_needed seat v o x y (task.Found at stamp head) e =
    when_then (Finds v (task.Found at stamp head) x) _ _ y e (λ g.
    let same = (and_parts (is_active x.place && is_session seat) (same_version v at) (and_parts _ (ltb (length x.current.reads) READ_LIMIT) (and_parts _ _ g).0).0).1 in
    record {
      place = refl;
      at = at;
      stamp = stamp;
      head = head;
      is = refl;
      oid_is = eqb-true v.oid at.oid (and_parts (eqb v.oid at.oid) (eqb v.place at.place) (and_parts (eqb v.oid at.oid && eqb v.place at.place) (eqb v.cell at.cell) same).0).0;
    })
found_needed seat v o x y _ e = absurd (cc)

-- the last of two lists that are one
last_one : (rs ss : List VersionRead) (r s : VersionRead) → rs ≡ ss → rs ++ r ∷ [] ≡ ss ++ s ∷ [] → r ≡ s
last_one rs ss r s same both =
    sym (get_or-append_seam rs r [] s) ∙ ap (λ (l : List VersionRead). get_or l (length rs) s) both ∙ ap (λ (l : List VersionRead). get_or (ss ++ s ∷ []) (length l) s) same
    ∙ get_or-append_seam ss s [] s

pub window_closed : (t : Attempt) (succ pred : ℕ) → 0 < succ → succ ≤ pred → t.succ ≡ succ → t.pred ≡ pred → closed_window t ≡ Some (succ, pred)
window_closed t succ pred some low succ_is pred_is =
    let shut : (ltb 0 t.succ && leb t.succ t.pred) ≡ true =
    and_from _ _ (lt-ltb 0 t.succ (omega (arith, some, succ_is))) (le-leb t.succ t.pred (omega (arith, low, succ_is, pred_is)))
    in
    cond-true (ltb 0 t.succ && leb t.succ t.pred) (Some (t.succ, t.pred)) None shut
    ∙ ap (λ (n : ℕ). Some (n, t.pred)) succ_is ∙ ap (λ (n : ℕ). Some (succ, n)) pred_is

module _ (law : Law) (sessions seat : ℕ) (b : Book) (at : StandsAt law sessions b) (session : IsSession (view_of sessions (core_of b)) seat) (active : phase_at (view_of sessions (core_of b)) seat ≡ phase.Active)
    (seated : is_seat seat ≡ true) (oid : ℕ) (known : oid < OBJECT_LIMIT) where
  here : IsActive seat (core_of b)
  here = reading_of.at_seat law sessions seat b b at session active seated

  works : IsAtWork seat (core_of b)
  works = at_work here

  begin_is : begin_in b seat ≡ (work_at (view_of sessions (core_of b)) seat).begin
  begin_is = ap (λ (x : Part). x.current.begin) (part_is law b seat at.state seated) ∙ ap (λ (w : Work). w.begin) (sym (reading_of.work law sessions seat b b at session active seated))

  pub record Waits (e : Book) (other seen : ℕ) : Type 0 where
    pub same : view_of sessions (core_of e) ≡ view_of sessions (core_of b)
    pub ahead : IsAhead (view_of sessions (core_of b)) seat oid (work_at (view_of sessions (core_of b)) seat).begin other seen

  pub waits : (e : Book) (other seen : ℕ) → is_seat other ≡ true → other ≢ seat → TookWait law seat oid (begin_in b seat) (record { seat = other; seen = seen }) b e → Waits e other seen
  waits e other seen words another took =
      let steps = took.took in
      let bound : ℕ = (work_at (view_of sessions (core_of b)) seat).begin in
      let first = took_alone law seat (kind.LoadEntry oid, took.entry) b steps.0 steps.1 in
      let one = runs law b seat (kind.LoadEntry oid) took.entry steps.0 first at.state in
      let ran = took_ran law sessions seat ((kind.LoadEntry oid, took.entry) ∷ []) b steps.0 steps.1 at.state in
      let two = runs law steps.0 seat (kind.LoadState other (begin_in b seat)) seen e steps.2 one.state in
      let goes =
      loads_go law sessions seat ((kind.LoadState other (begin_in b seat), seen) ∷ (kind.LoadEntry oid, took.entry) ∷ []) b e steps (tt, (tt, tt)) at.state works
      in
      let entry : ((core_of b).shared.objects oid).entry ≡ took.entry = one.met in
      let word : state_of ((core_of b).seats other).place ≡ seen = ap (λ (x : Part). state_of x.place) (sym (ran.others other another)) ∙ two.met in
      let unclear : is_clear (state_of ((core_of b).seats other).place) bound ≡ false =
      subst (λ (n : ℕ). is_clear n bound ≡ false) (sym word) (subst (λ (n : ℕ). is_clear seen n ≡ false) begin_is took.unclear)
      in
      let ahead =
      owner_ahead sessions seat oid other bound (core_of b) at.state.sound.sound at.quiet known (seat_some other words) (ap owner_of entry ∙ took.owner_is) another unclear
      in
      record { same = goes.unseen.view; ahead = subst (λ (n : ℕ). IsAhead (view_of sessions (core_of b)) seat oid bound other n) word ahead }

  -- A READ AFTER WHICH THE TRANSACTION IS EXCLUDED
  module _ (m : Book) (row : List ℕ) (took : TookRead law seat oid b m) (did : rows.DidRead b.view seat oid row m.view) where
    still : Went law seat IsStillStep b m
    still = read_still law seat oid b m took

    pub ran : Ran law sessions seat b m
    ran = went_ran law sessions seat IsStillStep b m still at.state

    pub stayed : Stayed sessions seat (core_of b) (core_of m)
    stayed = went_stayed law sessions seat b m still at.state

    read : reading_of.Registers law sessions seat b m at session active seated oid row
    read = reading_of.registers law sessions seat b m at session active seated oid row ran stayed did

    -- the way to the version
    way : Went law seat IsLoadStep b took.read.found
    way = went_more law seat IsLoadStep b took.reached took.read.found (reach_loads law seat oid (begin_in b seat) took.entry b took.reached took.reach) took.read.walk

    goes : GoesOn sessions seat (core_of b) (core_of took.read.found)
    goes = went_go law sessions seat b took.read.found way at.state works

    found_state : IsStateful law took.read.found
    found_state = (went_ran law sessions seat IsLoadStep b took.read.found way at.state).state

    registering : Runs law took.read.found seat (kind.SetReader took.read.version) took.read.word took.read.registered
    registering = runs law took.read.found seat (kind.SetReader took.read.version) took.read.word took.read.registered took.read.step found_state

    moved : Moves (core_of took.read.found) seat (kind.SetReader took.read.version) (core_of took.read.registered)
    moved = moves (core_of took.read.found) seat (kind.SetReader took.read.version) (core_of took.read.registered) tt registering.event

    finds : Finds took.read.version ((core_of took.read.found).seats seat).task ((core_of took.read.found).seats seat) moved.part
    finds =
        found_needed seat took.read.version ((core_of took.read.found).shared.objects took.read.version.oid) ((core_of took.read.found).seats seat) moved.part
        ((core_of took.read.found).seats seat).task moved.after

    -- the version that was registered is one of the object
    version_is : took.read.version.oid ≡ oid
    version_is =
        let f : Core = core_of took.read.found in
        let r : Core = core_of took.read.registered in
        let place : (r.seats seat).place ≡ (f.seats seat).place =
        ap (λ (y : Part). y.place) (own_after f seat (kind.SetReader took.read.version) r moved) ∙ finds.place
        in
        let shown = shown_read seat f r took.read.version finds.at finds.stamp finds.head goes.at.active finds.is registering.event in
        let plain = (active_stand (r.seats seat).place (r.seats seat).task (r.seats seat).current _ (ap (λ (s : Session). s.stand) shown)).1 in
        let works_on : IsAtWork seat r = record { session = here.session; active = ap is_active place ∙ goes.at.active; plain = plain } in
        let rest = went_go law sessions seat took.read.registered m took.read.rest registering.state works_on in
        let v : View = view_of sessions (core_of b) in
        let same : work_of (f.seats seat).current ≡ work_at v seat =
        sym (work_active (f.seats seat).place (f.seats seat).task (f.seats seat).current goes.at.active (plain_new (f.seats seat).task (f.seats seat).current goes.at.plain)) ∙ ap (λ (t : View). work_at t seat) goes.unseen.view
        in
        let one : (work_at (view_of sessions (core_of m)) seat).reads ≡ (work_of (f.seats seat).current).reads ++ _ ∷ [] =
        ap (λ (t : View). (work_at t seat).reads) rest.unseen.view ∙ ap (λ (s : Session). (world.work_of s.stand).reads) shown
        in
        let two : (work_at (view_of sessions (core_of m)) seat).reads ≡ (work_at v seat).reads ++ _ ∷ [] = ap (λ (s : Session). (world.work_of s.stand).reads) read.shows.own in
        ap (λ (d : VersionRead). d.oid) (last_one (work_of (f.seats seat).current).reads (work_at v seat).reads _ _ (ap (λ (w : Work). w.reads) same) (sym one ∙ two))

    pub clear : IsClearOf (view_of sessions (core_of b)) seat oid (work_at (view_of sessions (core_of b)) seat).begin
    clear =
        let f : Core = core_of took.read.found in
        subst (λ (n : ℕ). IsClearOf (view_of sessions (core_of b)) seat n (work_at (view_of sessions (core_of b)) seat).begin) (sym finds.oid_is ∙ version_is)
        (found_clear sessions seat (core_of b) f finds.at finds.stamp finds.head at.state.sound.sound at.quiet found_state.sound.sound goes finds.is
        (begin_stays sessions seat (core_of b) f goes))

    -- the window was closed then, and the transaction ended
    pub excluded : (succ pred : ℕ) (e : Book) → IsNew (work_at (view_of sessions (core_of b)) seat) oid → IsClosedIn m.view seat succ pred → Went law seat IsEndStep m e
        → ends.DidAbort m.view seat e.view → DidNotRead (view_of sessions (core_of b)) seat oid (stop.Excluded succ pred) (view_of sessions (core_of e))
    excluded succ pred e new closed went ended =
        let c : Core = core_of m in
        let quiet : IsQuiet sessions c =
        quiet_since sessions seat (core_of b) c at.quiet session ran.state.sound.sound ran.others ran.opening stayed.tail stayed.flushed read.at_work read.starts
        in
        let window = closed c ran.state.sound.sound ran.state.is_view in
        let shut =
        shut_is sessions seat succ pred c ran.state.sound.sound quiet (record { session = here.session; active = read.at_work; starts = read.starts })
        (window_closed (c.seats seat).current succ pred window.positive window.closed window.succ_is window.pred_is)
        in
        let over = aborted law sessions seat m e ran.state here.session seated read.at_work went ended in
        read_excluded (view_of sessions (core_of b)) (view_of sessions c) (view_of sessions (core_of e)) seat oid row (stop.Excluded succ pred) new read.few
        (record { stamp = read.stamp; shows = read.shows; clear = clear }) (over, shut)

  full_reads : length (part_of b.view seat).current.reads ≡ length (work_at (view_of sessions (core_of b)) seat).reads
  full_reads =
      ap (λ (x : Part). length x.current.reads) (part_is law b seat at.state seated) ∙ sym (reading_of.reads_are law sessions seat b b at session active seated)

  -- whatever the cause
  pub not_read : (why : RowStop) (e : Book) → Ran law sessions seat b e → Stayed sessions seat (core_of b) (core_of e) → RefusesRead b.view seat oid why e.view → TookReadStop law seat oid why b e
      → DidNotRead (view_of sessions (core_of b)) seat oid why (view_of sessions (core_of e))
  not_read stop.ReadsFull e ran stayed refuses took = (
    reading_of.as_it_was law sessions seat b e at session active seated ran stayed refuses.refused.1,
    reading_of.is_new law sessions seat b b at session active seated oid refuses.unclaimed refuses.unread,
    sym full_reads ∙ refuses.refused.0,
  )
  not_read (stop.NotYet other seen) e ran stayed refuses took =
      let w = waits e other seen refuses.refused.other.has_words refuses.refused.other.another took.0.1 in
      let few = took.0.0 in
      let all = full_reads in (
        w.same,
        reading_of.is_new law sessions seat b b at session active seated oid refuses.unclaimed refuses.unread,
        omega (arith, few, all),
        w.ahead,
      )
  not_read (stop.Excluded succ pred) e ran stayed refuses took =
      excluded took.between took.refused.1.row took.refused.0.0 took.refused.1.read succ pred e
      (reading_of.is_new law sessions seat b b at session active seated oid refuses.unclaimed refuses.unread) took.refused.0.1 took.ends took.aborted
  not_read (stop.Owned other number) e ran stayed refuses took = absurd took.refused.0
  not_read (stop.Newer stamp) e ran stayed refuses took = absurd took.refused.0
  not_read stop.WritesFull e ran stayed refuses took = absurd took.0
  not_read (stop.CellsFull drawn) e ran stayed refuses took = absurd took.0
  not_read (stop.OidsFull drawn) e ran stayed refuses took = absurd took.0
  not_read stop.Memory e ran stayed refuses took = absurd took.0
