-- A look of a session of the word table whether its snapshot is safe, and the snapshot's end, beside others.
use Rattle.std.proofs.Common.{◌≡◌, ℕ, ◌+◌, ◌^◌, ◌<◌, ◌≤◌, true, false, Some, Result, Ok, Err, IfErr, refl, sym, ap, ◌∙◌, subst, arith}
use Rattle.std.specs.Prelude.{OnOk, max}
use Rattle.erm_model.specs.declared.history.TransactionRecord.{TransactionRecord}
use Rattle.erm_model.specs.RowTransaction.{Law}
use Rattle.erm_machine.specs.declared.event.Kind.TheVariants as kind
use Rattle.erm_machine.specs.declared.part.Part.{Part}
use Rattle.erm_machine.specs.declared.task.Task.{Task}
use Rattle.erm_machine.specs.declared.task.Task.TheVariants as task
use Rattle.erm_machine.specs.Core.{Core}
use Rattle.erm_machine.specs.Seat.{is_active, is_safe, is_snapshot, with_task}
use Rattle.erm_machine.specs.Sound.{Sound}
use Rattle.erm_machine.proofs.Backs.{session_within}
use Rattle.erm_core_met.specs.Met.{HasGoneBack}
use Rattle.erm_core_met.proofs.Backs.{back_is}
use Rattle.erm_core_safe.specs.Passed.{ArePassed}
use Rattle.erm_core_safe.proofs.Passing.{safe_passes}
use Rattle.erm_core_shown.specs.Shown.{given_up_of}
use Rattle.erm_core_stays.proofs.Commits.{event_commits}
use Rattle.erm_core_steps.proofs.Results.{err_to, on_ok_to}
use Rattle.erm_core_view.specs.Views.{session_of, stand_of, work_of}
use Rattle.erm_core_view.proofs.Shown.{work_active}
use Rattle.erm_core_view.proofs.Snapshots.{IsNewSnapshot, snapshots_new}
use Rattle.erm_cells.specs.Took.{IsEndStep}
use Rattle.erm_cells.proofs.Heads.{has}
use Rattle.erm_ends.specs.Ends as ends
use Rattle.erm_rule.specs.declared.view.Book.{Book}
use Rattle.erm_rule.specs.Books.{IsAfter, IsBookOf, Passes}
use Rattle.erm_rule.specs.Hands.{IsKnown}
use Rattle.erm_rule.specs.Views.{part_in, part_of}
use Rattle.erm_rule.specs.Went.{IsLoadStep, Went}
use Rattle.erm_rule.proofs.Telling.{part_of-changed}
use Rattle.erm_rule.proofs.Wents.{went_goes, went_step}
use Rattle.erm_seats.specs.Safe.{DidSurvey, WaitsFor}
use Rattle.erm_session.specs.Safe.{TookNoSafe, TookUnsafeEnd}
use Rattle.erm_session.specs.Safe as session
use Rattle.erm_table_world.proofs.SafeReading.{Pends}
use Rattle.erm_table_world.proofs.SafeShows.{same_shows, shown, some_begin, tasked_shows}
use Rattle.erm_table_world.proofs.Surveying.{active_begins, late_parts}
use Rattle.erm_beside.specs.Calls.{After}
use Rattle.erm_beside.specs.Later.{IsLater}
use Rattle.erm_beside.specs.Safe.{DidSafeBeside, NotSafeBeside, NotSafeMet}
use Rattle.erm_lone.proofs.Later.{world_ends_safe, world_is_safe, world_same}
use Rattle.erm_world.specs.declared.stops.SafeStop.{SafeStop}
use Rattle.erm_world.specs.declared.stops.SafeStop.TheVariants as safe
use Rattle.erm_world.specs.Calls.{DidAbort}
use Rattle.erm_world.specs.Safe.{IsSafeIn, WentBack, with_snapshot}
use Rattle.erm_world.specs.World.{Session, Snapshot, View, work_at}
use Rattle.erm_world.specs.World as world
use Rattle.erm_own_view.specs.Own.{EndsIn, own_view}
use Rattle.erm_own_view.proofs.Along.{found_then, of_later, took_start, was_before, was_itself}
use Rattle.erm_own_view.proofs.Own.{own_becomes, own_is, own_passes, own_same}
use Rattle.erm_shared_session.specs.Seen.{IsLowSafeStop, tail_looked}
use Rattle.erm_shared_session.proofs.Aborting.{ended}
use Rattle.erm_shared_session.proofs.Meeting.{Shows, commit_met, stamp_low}
use Rattle.erm_shared_session.proofs.Standing.{IsSeen, SeenThen}

-- A SNAPSHOT in progress, as the session shows it
pub record Snaps (x : Part) : Type 0 where
  pub active : is_active x.place ≡ true
  pub snapshot : is_snapshot x.task ≡ true

abbrev pub shows_of : Part → Snapshot
shows_of x = record { number = x.current.number; begin = x.current.begin; is_safe = is_safe x.task }

pub pends_snaps : (x : Part) → Pends x → Snaps x
pends_snaps x pends = record { active = pends.active; snapshot = ap is_snapshot pends.looks }

module _ (seat tail flushed : ℕ) (b : Book) (snaps : Snaps (part_of b.view seat)) where
  abbrev x : Part
  x = part_of b.view seat

  abbrev own : View
  own = own_view seat tail flushed b

  pub own_stand : (own.session seat).stand ≡ world.snapshot (shows_of x)
  own_stand = ap (λ (s : Session). s.stand) (own_is seat tail flushed b) ∙ shown x.place x.task x.current snaps.active snaps.snapshot

  pub own_begin : (work_at own seat).begin ≡ x.current.begin
  own_begin = ap (λ (s : Session). (world.work_of s.stand).begin) (own_is seat tail flushed b) ∙ active_begins x.place x.task x.current snaps.active

  -- what it shows of its transaction is all that this is
  pub own_snapshot : IsKnown b.view → part_in b.view seat ≡ Some x → work_of x.current ≡ world.work_of (stand_of x.place x.task x.current)
  own_snapshot known held =
      let here : known.core.seats seat ≡ x = known.is_view seat x held in
      let new : IsNewSnapshot x.task x.current = subst (λ (y : Part). IsNewSnapshot y.task y.current) here (snapshots_new known.core seat known.sound) in
      sym (work_active x.place x.task x.current snaps.active new)

  -- another task of it alone, as safe as before, doesn't show
  pub own_tasked : (e : Book) → e.start ≡ b.start → part_in b.view seat ≡ Some x → (u : Task) → is_snapshot u ≡ true → is_safe u ≡ is_safe x.task → part_of e.view seat ≡ with_task u x
      → own_view seat tail flushed e ≡ own
  own_tasked e start held u is as_safe changed =
      own_same seat tail flushed b e start (ap session_of changed ∙ same_shows x u snaps.active snaps.snapshot is as_safe) (ap given_up_of changed)

-- THE END of a snapshot, as an abort shows it
module _ (seat tail flushed : ℕ) (b e : Book) (start : e.start ≡ b.start) (held : part_in b.view seat ≡ Some (part_of b.view seat)) (snaps : Snaps (part_of b.view seat)) (known : IsKnown b.view)
    (did : ends.DidAbort b.view seat e.view) where
  pub snapshot_ended : DidAbort (own_view seat tail flushed b) seat (own_view seat tail flushed e)
  snapshot_ended = ended seat tail flushed b e start held (own_snapshot seat tail flushed b snaps known held) did

  pub ended_later : IsLater ((own_view seat tail flushed b).session seat) ((own_view seat tail flushed e).session seat)
  ended_later =
      (world_ends_safe (own_view seat tail flushed b) (own_view seat tail flushed e) seat (shows_of (part_of b.view seat)) (own_stand seat tail flushed b snaps) snapshot_ended).session seat

-- A COMMIT THAT WENT BACK stays one
back_passes : (other stamp : ℕ) (c d : Core) → Passes c d → HasGoneBack c other stamp → HasGoneBack d other stamp
back_passes other stamp c d passes gone = record {
  by = gone.by;
  committed = event_commits c d passes.1.0 passes.1.1 passes.0 passes.1.2 gone.by gone.committed;
  seat_is = gone.seat_is;
  stamp_is = gone.stamp_is;
  less = gone.less;
}

-- its stamp lies below the log's end
back_low : (other stamp : ℕ) (c : Core) → Sound c → HasGoneBack c other stamp → stamp < c.shared.tail
back_low other stamp c sound gone = let low = stamp_low c gone.by sound gone.committed in let is = gone.stamp_is in omega (arith, low, is)

-- THE LOOK
module _ (law : Law) (seat tail flushed : ℕ) (b e : Book) (start : e.start ≡ b.start) (held : part_in b.view seat ≡ Some (part_of b.view seat)) (pends : Pends (part_of b.view seat))
    (known : IsKnown b.view) (goes : IsAfter b e) (seen : SeenThen tail flushed b) where
  abbrev part : Part
  part = part_of b.view seat

  abbrev mine : View
  mine = own_view seat tail flushed b

  snaps_here : Snaps part
  snaps_here = pends_snaps part pends

  unsafe_here : is_safe part.task ≡ false
  unsafe_here = ap is_safe pends.looks

  begin_here : 0 < part.current.begin
  begin_here =
      let here : known.core.seats seat ≡ part = known.is_view seat part held in
      subst (λ (y : Part). 0 < y.current.begin) here
      (some_begin (known.core.seats seat).place (known.core.seats seat).current.begin known.core.shared.tail (ap (λ (y : Part). is_active y.place) here ∙ snaps_here.active) (known.sound.own seat).begins.begins)

  -- SAFE
  module _ (did : DidSurvey b.view seat e.view) where
    set : part_of e.view seat ≡ with_task task.Safe part
    set = part_of-changed b.view seat e.view (with_task task.Safe part) part held did.view_is

    shows_safe : session_of (part_of e.view seat) ≡ with_snapshot mine seat (record (shows_of part) { is_safe = true })
    shows_safe =
        ap session_of set ∙ tasked_shows part task.Safe snaps_here.active refl
        ∙ ap (λ (r : Session). let s : Session = record { over = r.over; stand = world.snapshot (record (shows_of part) { is_safe = true }) } in s) (sym (own_is seat tail flushed b))

    pub surveyed : DidSafeBeside seat mine (own_view seat tail flushed e)
    surveyed = (
      shows_of part,
      own_stand seat tail flushed b snaps_here,
      own_becomes seat tail flushed b e (with_snapshot mine seat (record (shows_of part) { is_safe = true })) start shows_safe (ap given_up_of set),
    )

    -- all sessions are passed at its begin stamp
    pub passed : (c : Core) → IsBookOf e c → ArePassed (work_at mine seat).begin c
    passed c is =
        let here : c.seats seat ≡ with_task task.Safe part = is.is_view seat (part_of e.view seat) held_after ∙ set in
        subst (λ (n : ℕ). ArePassed n c) (ap (λ (y : Part). y.current.begin) here ∙ sym (own_begin seat tail flushed b snaps_here))
        (safe_passes c seat is.sound (ap (λ (y : Part). is_safe y.task) here))
      where
        held_after : part_in e.view seat ≡ Some (part_of e.view seat)
        held_after = has e.view seat (ap (λ (y : Part). is_active y.place) set ∙ snaps_here.active)

  -- NOT YET
  module _ (other met : ℕ) (waits : WaitsFor b.view seat other met e.view) where
    waits_same : own_view seat tail flushed e ≡ mine
    waits_same =
        own_tasked seat tail flushed b snaps_here e start held (task.Surveys other) refl (sym unsafe_here)
        (part_of-changed b.view seat e.view (with_task (task.Surveys other) part) part held waits.view_is)

    pub waited : After seat (NotSafeBeside seat (safe.NotYet other met)) mine (own_view seat tail flushed e)
    waited =
        let parts = late_parts part.current.begin met waits.early in (
          mine,
          own_passes seat tail flushed tail flushed b (omega arith) (omega arith),
          (waits_same, (session_within other waits.session, waits.another), parts.0, subst (λ (n : ℕ). met < n) (sym (own_begin seat tail flushed b snaps_here)) parts.1),
        )

    pub waits_later : IsLater (mine.session seat) ((own_view seat tail flushed e).session seat)
    waits_later = subst (λ (v : View). IsLater (mine.session seat) (v.session seat)) (sym waits_same) ((world_same mine mine refl).session seat)

  -- UNSAFE
  module _ (other stamp : ℕ) (took : TookUnsafeEnd law seat other stamp b e) where
    abbrev m : Book
    m = took.between

    loads : Went law seat IsLoadStep b m
    loads = went_step law seat IsLoadStep b took.looks.at m (kind.LoadBack other) stamp took.looks.loads tt took.looks.step

    start_between : m.start ≡ b.start
    start_between = took_start law seat loads.steps b m loads.took

    behind : part_of m.view seat ≡ with_task (task.Behind other) part
    behind = part_of-changed b.view seat m.view (with_task (task.Behind other) part) part held took.found.view_is

    snaps_between : Snaps (part_of m.view seat)
    snaps_between = record { active = ap (λ (y : Part). is_active y.place) behind ∙ snaps_here.active; snapshot = ap (λ (y : Part). is_snapshot y.task) behind }

    held_between : part_in m.view seat ≡ Some (part_of m.view seat)
    held_between = has m.view seat snaps_between.active

    -- its own part at the end, wherever the log is seen
    between_same : (place : ℕ) → own_view seat place flushed m ≡ own_view seat place flushed b
    between_same place = own_tasked seat place flushed b snaps_here m start_between held (task.Behind other) refl (sym unsafe_here) behind

    pub unsafe_ended : (place : ℕ) → DidAbort (own_view seat place flushed b) seat (own_view seat place flushed e)
    unsafe_ended place =
        subst (λ (u : View). DidAbort u seat (own_view seat place flushed e)) (between_same place)
        (snapshot_ended seat place flushed m e (start ∙ sym start_between) held_between snaps_between took.found.known took.aborted)

    pub unsafe_later : (place : ℕ) → IsLater (mine.session seat) ((own_view seat place flushed e).session seat)
    unsafe_later place =
        subst (λ (u : View). IsLater (u.session seat) ((own_view seat place flushed e).session seat)) (between_same place)
        (ended_later seat place flushed m e (start ∙ sym start_between) held_between snaps_between took.found.known took.aborted)

    -- the commit is one of each state that the load left
    gone : (c : Core) → IsBookOf m c → HasGoneBack c other stamp
    gone =
        found_then law (λ (c : Core). HasGoneBack c other stamp) (back_passes other stamp) took.looks.at seat (kind.LoadBack other) stamp m took.looks.step
        (λ c is word.
        let back : (c.seats other).back ≡ stamp = word in
        let above = took.found.above in
        let some = begin_here in
        subst (λ (n : ℕ). HasGoneBack c other n) back (back_is c other is.sound (omega (arith, back, above, some))))

    goes_on : IsAfter m e
    goes_on = went_goes law seat IsEndStep m e took.ends

    pub stamp_below : (c : Core) → IsBookOf e c → stamp < c.shared.tail
    stamp_below c is =
        back_low other stamp c is.sound (of_later (λ (d : Core). HasGoneBack d other stamp) (back_passes other stamp) m c gone (was_before m e c goes_on (was_itself e c is)))

    pub stamp_is_low : stamp < 2 ^ 61
    stamp_is_low =
        let told = took.looks.step.under.told in
        let low = back_low other stamp told.after told.sound_after (gone told.after (record { sound = told.sound_after; is_view = told.is_view_after; course = took.looks.step.course_after })) in
        let below = told.sound_after.common.ranges.below in
        omega (arith, low, below)

    pub went_back : Shows → (v f : View) → EndsIn law seat e v f → WentBack f seat (work_at mine seat).begin other stamp
    went_back shows v f end =
        let met =
        commit_met law seat m e v f goes_on end shows (λ (r : TransactionRecord). (r.seat ≡ other) × (r.stamp ≡ stamp) × (r.succ < stamp))
        (λ c is. let g = gone c is in (g.by, g.committed, (g.seat_is, g.stamp_is, g.less))) in
        let less = met.2.2 in
        let is = met.2.1 in
        record {
          session = subst (λ (w : View). world.IsSession w other) (sym end.shows) (session_within other took.found.session);
          another = took.found.another;
          by = met.0;
          committed = met.1;
          seat_is = met.2.0;
          stamp_is = met.2.1;
          back = omega (arith, less, is);
          above = subst (λ (n : ℕ). n ≤ stamp) (sym (own_begin seat tail flushed b snaps_here)) took.found.above;
        }

  -- what became of the look
  pub record Looked (r : Result (Unit {0}) SafeStop) : Type 0 where
    pub more : tail ≤ tail_looked tail r
    pub seen_now : IsSeen (tail_looked tail r) flushed e
    pub ok : OnOk r (After seat (DidSafeBeside seat) mine (own_view seat (tail_looked tail r) flushed e))
    pub safe_at : OnOk r ((c : Core) → IsBookOf e c → ArePassed (work_at mine seat).begin c)
    pub err : IfErr r (λ why. After seat (NotSafeBeside seat why) mine (own_view seat (tail_looked tail r) flushed e))
    pub met : IfErr r (λ why. (v f : View) → EndsIn law seat e v f → NotSafeMet f seat why mine (own_view seat (tail_looked tail r) flushed e))
    pub later : IsLater (mine.session seat) ((own_view seat (tail_looked tail r) flushed e).session seat)

  pub looked : Shows → (r : Result (Unit {0}) SafeStop) → OnOk r (DidSurvey b.view seat e.view) → IfErr r (λ why. session.DidNotSafe b.view seat why e.view) → IfErr r (λ why. TookNoSafe law seat why b e)
      → Looked r
  looked shows (Ok done) did refused none =
      let now = surveyed did in
      record {
        more = omega arith;
        seen_now = seen e goes;
        ok = (mine, own_passes seat tail flushed tail flushed b (omega arith) (omega arith), now);
        safe_at = passed did;
        err = tt;
        met = tt;
        later = (world_is_safe mine (own_view seat tail flushed e) seat now.0 now.1 now.2).session seat;
      }
  looked shows (Err (safe.NotYet other found)) did refused none = record {
    more = omega arith;
    seen_now = seen e goes;
    ok = tt;
    safe_at = tt;
    err = waited other found refused;
    met = λ v f end. tt;
    later = waits_later other found refused;
  }
  looked shows (Err (safe.Unsafe other stamp)) did refused none =
      let place : ℕ = max tail (stamp + 1) in
      let more : tail ≤ place = grind arith in
      record {
        more = more;
        seen_now = λ c is. let low = (seen e goes c is).0 in let below = stamp_below other stamp none c is in (grind arith, (seen e goes c is).1);
        ok = tt;
        safe_at = tt;
        err = (own_view seat place flushed b, own_passes seat tail flushed place flushed b more (omega arith), unsafe_ended other stamp none place);
        met = λ v f end. (went_back other stamp none shows v f end, grind arith);
        later = unsafe_later other stamp none place;
      }

  -- the stamp told lies below 2 ^ 61
  pub low_look : (r : Result (Unit {0}) SafeStop) → IfErr r (λ why. TookNoSafe law seat why b e) → IfErr r IsLowSafeStop
  low_look (Ok done) none = tt
  low_look (Err (safe.NotYet other found)) none = tt
  low_look (Err (safe.Unsafe other stamp)) none = stamp_is_low other stamp none

-- IN EACH WORLD in which all may end
module _ (law : Law) (seat : ℕ) (b e : Book) (r : Result (Unit {0}) SafeStop) where
  pub look_ends : (own : View) (then_seat : ℕ) → then_seat ≡ seat → (bound : ℕ) → ((bound : ℕ) (f : View) → EndsIn law seat e own f → ((c : Core) → IsBookOf e c → ArePassed bound c) → IsSafeIn f bound)
      → OnOk r ((c : Core) → IsBookOf e c → ArePassed bound c) → OnOk r ((f : View) → EndsIn law then_seat e own f → IsSafeIn f bound)
  look_ends own then_seat same bound ends passed =
      on_ok_to r ((c : Core) → IsBookOf e c → ArePassed bound c) ((f : View) → EndsIn law then_seat e own f → IsSafeIn f bound)
      (λ so f end. ends bound f (subst (λ (n : ℕ). EndsIn law n e own f) same end) so) passed

  pub look_met : (own next then : View) → next ≡ then → (then_seat : ℕ) → then_seat ≡ seat → IfErr r (λ why. (v f : View) → EndsIn law seat e v f → NotSafeMet f seat why own next)
      → IfErr r (λ why. (f : View) → EndsIn law then_seat e then f → NotSafeMet f seat why own then)
  look_met own next then is then_seat same met =
      err_to r (λ why. (v f : View) → EndsIn law seat e v f → NotSafeMet f seat why own next) (λ why. (f : View) → EndsIn law then_seat e then f → NotSafeMet f seat why own then)
      (λ why so f end. subst (λ (v : View). NotSafeMet f seat why own v) is (so then f (subst (λ (n : ℕ). EndsIn law n e then f) same end))) met
