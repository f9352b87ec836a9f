-- Rows as of the pin: a look for one leaves the log, and what it finds in the one state is the row of the blocks below the pin.
use Rattle.std.proofs.Common.{◌≡◌, ◌≢◌, ℕ, ◌<◌, ◌≤◌, ⊎_elim, Bool, true, false, not, ◌||◌, eqb, List, [], ◌∷◌, Option, Some, None, IfSome, refl, sym, ap, ◌∙◌, subst, arith}
use Rattle.std.specs.Prelude.{IsSome}
use Rattle.std.proofs.lemmas.Bool.{and_parts, cases_eq, cond-false, cond-true, eq-eqb, ne_eqb, or_left, or_right}
use Rattle.erm_core_steps.specs.Pinned.{IsNewestRow, owner_below}
use Rattle.erm_core_steps.proofs.Pinned.{unwaited_found, wait_found}
use Rattle.erm_core_turns.specs.Turns.{Flushes, SharedStays, blocks_below, gathered_place, log_of}
use Rattle.erm_core_turns.proofs.LogIs.{Lists, More}
use Rattle.erm_core_turns.proofs.Pins.{is_pinned}
use Rattle.erm_core_turns.proofs.RowsAt.{IsSeen, newest_shown, pin_is, seen_newest, seen_row}
use Rattle.erm_core_turns.proofs.Turns.{log_same, quiet_turn}
use Rattle.erm_core_view.specs.Views.{IsBetween, IsQuiet, IsStill, pin_of, view_of}
use Rattle.erm_core_view.proofs.Snapshots.{starts_between, starts_plain}
use Rattle.erm_entries.specs.declared.answer.SeatWait as entries
use Rattle.erm_entries.specs.Took.{TookAgain, TookReach, TookWait}
use Rattle.erm_machine.specs.declared.event.Kind.{Kind}
use Rattle.erm_machine.specs.declared.event.Kind.TheVariants as kind
use Rattle.erm_machine.specs.declared.limits.TheConstants.{FLUSH_SEAT, OBJECT_LIMIT}
use Rattle.erm_machine.specs.declared.part.Part.{Part}
use Rattle.erm_machine.specs.declared.place.Place.{Place}
use Rattle.erm_machine.specs.declared.place.Place.TheVariants.{Vacant}
use Rattle.erm_machine.specs.declared.task.Task.{Task}
use Rattle.erm_machine.specs.declared.task.Task.TheVariants as task
use Rattle.erm_machine.specs.declared.version.VersionAt.{VersionAt}
use Rattle.erm_machine.specs.Chains.{IsNamed, NamedInHand}
use Rattle.erm_machine.specs.Core.{Core, Shared, version_at}
use Rattle.erm_machine.specs.Life.{is_between, load_state}
use Rattle.erm_machine.specs.Snapshot.{InHand, IsNewestAt, NoneInHand}
use Rattle.erm_machine.specs.Words.{is_clear, is_flusher, owner_of, state_of}
use Rattle.erm_machine.specs.Seat.{is_snapshot}
use Rattle.erm_machine.proofs.Guards.{when_then}
use Rattle.erm_machine.proofs.QuietKinds.{moves}
use Rattle.erm_model.specs.declared.limits.TheConstants.{LAST_RUN}
use Rattle.erm_model.specs.RowTransaction.{Law}
use Rattle.erm_pin.specs.Pins.{HasLooked, looked_part}
use Rattle.erm_pin.specs.Rows.{row_of}
use Rattle.erm_pin.specs.Took.{TookRow}
use Rattle.erm_cells.specs.Calls.{starts_anew}
use Rattle.erm_rule.specs.declared.view.Book.{Book}
use Rattle.erm_rule.specs.Books.{HasState, IsBookOf}
use Rattle.erm_rule.specs.Steps.{Booked}
use Rattle.erm_rule.specs.Views.{part_of}
use Rattle.erm_rule.specs.Went.{AllSteps, IsLoadStep, Took, Went, core_of}
use Rattle.erm_rule.proofs.Courses.{state_of_book}
use Rattle.erm_rule.proofs.Whole.{one_state}
use Rattle.erm_table_world.proofs.Covered.{turn_covered}
use Rattle.erm_table_world.proofs.Sessions.{anew_starts}
use Rattle.erm_world.specs.declared.gathered.SeatWait.{SeatWait}
use Rattle.erm_world.specs.Laws.{IsSerializable}
use Rattle.erm_world.specs.Log.{IsRowAt, IsUnwaited, IsWait, Log}
use Rattle.erm_table_world.specs.Stands.{IsStateful, StandsAt}
use Rattle.erm_table_world.specs.Turns.{Turned, book_log}
use Rattle.erm_table_world.proofs.Beginning.{took_alone}
use Rattle.erm_table_world.proofs.Still.{went_ran}
use Rattle.erm_table_world.proofs.Wholly.{part_is, part_set, ran_one, runs, took_ran}
use Rattle.erm_core_steps.proofs.Loads.{word_leaves}
use Rattle.erm_table_world.proofs.Waiting.{loads_word}

abbrev F : ℕ
F = FLUSH_SEAT

-- LOADS leave what is shared.
pub loads_same : (law : Law) (who : ℕ) (steps : List (Kind × ℕ)) (b e : Book) → Took law who steps b e → AllSteps IsLoadStep steps → IsStateful law b → (core_of e).shared ≡ (core_of b).shared
loads_same law who [] b e took all state = ap (λ (z : Book). (core_of z).shared) took
loads_same law who (s ∷ steps) b e took all state =
    let before = (took_ran law 0 who steps b took.0 took.1 state).state in
    let run = runs law took.0 who s.0 s.1 e took.2 before in
    let step = moves (core_of took.0) who s.0 (core_of e) run.one run.event in
    ap (λ (c : Core). c.shared) step.is ∙ word_leaves who s.0 _ ((core_of took.0).seats who) (core_of took.0).shared (loads_word s.0 s.1 all.0) ∙ loads_same law who steps b took.0 took.1 all.1 state

shared_stays : (s t : Shared) → t ≡ s → SharedStays s t
shared_stays s t same = record {
  opening = ap (λ (x : Shared). x.opening) same;
  run = ap (λ (x : Shared). x.run) same;
  first = ap (λ (x : Shared). x.first) same;
  cells = ap (λ (x : Shared). x.cell_limit) same;
  drawn = ap (λ (x : Shared). x.cells_drawn) same;
  tail = ap (λ (x : Shared). x.tail) same;
  log = ap (λ (x : Shared). x.log) same;
  objects = ap (λ (x : Shared). x.objects) same;
}

-- a book to which a step led is one of its pass's one state
took_state : (law : Law) (who : ℕ) (steps : List (Kind × ℕ)) (b e : Book) → Took law who steps b e → HasState b → HasState e
took_state law who [] b e took has = subst HasState (sym took) has
took_state law who (s ∷ steps) b e took has = state_of_book law took.0 who s.0 s.1 e took.2

reach_state : (law : Law) (oid place entry : ℕ) (b e : Book) → TookReach law F oid place entry b e → HasState e
reach_state law oid place entry b e reach =
    ⊎_elim (λ (free : (owner_of entry ≡ 0) × Took law F ((kind.LoadEntry oid, entry) ∷ []) b e). state_of_book law free.1.0 F (kind.LoadEntry oid) entry e free.1.2)
    (λ (again : TookAgain law F oid place entry b e). state_of_book law again.took.0 F (kind.LoadEntry oid) entry e again.took.2) reach

is_state : (law : Law) (e : Book) → IsStateful law e → HasState e → IsBookOf e (core_of e)
is_state law e state has = subst (IsBookOf e) (one_state e has.0 state.whole has.1.course) has.1

-- a seat looks at another
other_seat : (seat other : ℕ) → not (eqb other seat) ≡ true → other ≢ seat
other_seat seat other test same = let here : eqb other seat ≡ true = eq-eqb other seat same in cc

looks_other : (seat other bound found : ℕ) (x y : Part) → load_state seat other bound found x ≡ Some y → other ≢ seat
looks_other seat other bound found x y e = when_then (λ _. other ≢ seat) _ _ y e (λ t. other_seat seat other (and_parts _ _ (and_parts _ _ t).0).1)

vacant_state : (pl : Place) → pl ≡ Vacant → state_of pl ≡ 0
vacant_state pl is = ap state_of is

-- for whom it waits, as the world answers it
pub wait_told : (log : Log) (oid : ℕ) (wait : SeatWait) (seat seen : ℕ) → wait.seat ≡ seat → wait.seen ≡ seen → IsWait log oid (record { seat = seat; seen = seen }) → IsWait log oid wait
wait_told log oid wait seat seen seat_is seen_is is =
    subst (λ (n : ℕ). IsWait log oid (record { seat = wait.seat; seen = n })) (sym seen_is) (subst (λ (q : ℕ). IsWait log oid (record { seat = q; seen = seen })) (sym seat_is) is)

module _ (law : Law) (sessions : ℕ) (b : Book) (at : StandsAt law sessions b) where
  abbrev c : Core
  c = core_of b

  -- THE OWNER of the object, in the state before
  abbrev bound : ℕ
  bound = (c.seats F).current.begin

  state_met : (oid place first other seen : ℕ) (m e : Book) → Booked law b F (kind.LoadEntry oid) first m → Booked law m F (kind.LoadState other place) seen e
      → ((c.shared.objects oid).entry ≡ first) × (state_of (c.seats other).place ≡ seen)
  state_met oid place first other seen m e one two =
      let run = runs law b F (kind.LoadEntry oid) first m one at.state in
      let next = runs law m F (kind.LoadState other place) seen e two run.state in
      let step = moves (core_of m) F (kind.LoadState other place) (core_of e) tt next.event in
      let another : other ≢ F = looks_other F other place (state_of ((core_of m).seats other).place) ((core_of m).seats F) step.part step.after in
      let ran = ran_one law sessions F (kind.LoadEntry oid) first b m one at.state in (run.met, ap (λ (x : Part). state_of x.place) (sym (ran.others other another)) ∙ next.met)

  pub reach_clear : (oid place entry : ℕ) (e : Book) → place ≡ bound → TookReach law F oid place entry b e → owner_below c oid bound ≡ None
  reach_clear oid place entry e same reach =
      let owner : ℕ = owner_of (c.shared.objects oid).entry in
      let seen : ℕ = state_of (c.seats owner).place in
      let wait : SeatWait = record { seat = owner; seen = seen } in
      ⊎_elim
      (λ (free : (owner_of entry ≡ 0) × Took law F ((kind.LoadEntry oid, entry) ∷ []) b e).
      let met = (runs law b F (kind.LoadEntry oid) entry e (took_alone law F (kind.LoadEntry oid, entry) b e free.1) at.state).met in
      cond-true (eqb owner 0 || is_clear seen bound) None (Some wait) (or_left _ _ (eq-eqb owner 0 (ap owner_of met ∙ free.0))))
      (λ (again : TookAgain law F oid place entry b e).
      let steps = again.took.1 in
      let found = state_met oid place again.first again.owner again.state steps.0 again.took.0 (took_alone law F (kind.LoadEntry oid, again.first) b steps.0 steps.1) steps.2 in
      let owns : owner ≡ again.owner = ap owner_of found.0 ∙ again.owner_is in
      let state : seen ≡ again.state = ap (λ (q : ℕ). state_of (c.seats q).place) owns ∙ found.1 in
      let clear : is_clear seen bound ≡ true = ap (λ (n : ℕ). is_clear n bound) state ∙ ap (is_clear again.state) (sym same) ∙ again.clear in
      cond-true (eqb owner 0 || is_clear seen bound) None (Some wait) (or_right (eqb owner 0) _ clear))
      reach

  -- the owner isn't clear
  pub wait_below : (oid place : ℕ) (wait : entries.SeatWait) (e : Book) → place ≡ bound → TookWait law F oid place wait b e
      → Some (record { seat = wait.seat; seen = wait.seen }) ≡ owner_below c oid bound
  wait_below oid place wait e same took =
      let owner : ℕ = owner_of (c.shared.objects oid).entry in
      let seen : ℕ = state_of (c.seats owner).place in
      let found = state_met oid place took.entry wait.seat wait.seen took.took.0 e (took_alone law F (kind.LoadEntry oid, took.entry) b took.took.0 took.took.1) took.took.2 in
      let owns : owner ≡ wait.seat = ap owner_of found.0 ∙ took.owner_is in
      let state : seen ≡ wait.seen = ap (λ (q : ℕ). state_of (c.seats q).place) owns ∙ found.1 in
      let unclear : is_clear seen bound ≡ false = ap (λ (n : ℕ). is_clear n bound) state ∙ ap (is_clear wait.seen) (sym same) ∙ took.unclear in
      let some : eqb owner 0 ≡ false = owner_some owner unclear in
      let wait_is : ◌≡◌ {A = SeatWait} (record { seat = wait.seat; seen = wait.seen }) (record { seat = owner; seen = seen }) =
      ap (λ (q : ℕ). let w : SeatWait = record { seat = q; seen = wait.seen } in w) (sym owns) ∙ ap (λ (n : ℕ). let w : SeatWait = record { seat = owner; seen = n } in w) (sym state)
      in
      ap (λ (w : SeatWait). let o : Option SeatWait = Some w in o) wait_is
      ∙ sym (cond-false (eqb owner 0 || is_clear seen bound) None (Some (record { seat = owner; seen = seen })) (neither (eqb owner 0) (is_clear seen bound) some unclear))
    where
      neither : (p q : Bool) → p ≡ false → q ≡ false → (p || q) ≡ false
      neither p q e f = cc

      none_at : (n : ℕ) → n ≡ 0 → is_clear n bound ≡ true
      none_at n is = or_left _ _ (eq-eqb n 0 is)

      owner_some : (owner : ℕ) → is_clear (state_of (c.seats owner).place) bound ≡ false → eqb owner 0 ≡ false
      owner_some owner unclear =
          ⊎_elim
          (λ (zero_is : owner ≡ 0).
          let plain : is_flusher owner ≡ false = ap is_flusher zero_is in
          let vacant = at.quiet.others owner (λ positive low. absurd (omega (arith, zero_is, positive))) plain in
          absurd (let clear = none_at (state_of (c.seats owner).place) (vacant_state (c.seats owner).place vacant) in cc))
          (λ (ne : owner ≡ 0 → ⊥). ne_eqb owner 0 ne)
          (cases_eq owner 0)

  -- A LOOK for a row leaves the log.
  module _ (e : Book) (some : IsSome (book_log sessions b).pinned) (loads : Went law F IsLoadStep b e) (looked : HasLooked b.view e.view) where
    abbrev d : Core
    d = core_of e

    state : IsStateful law e
    state = (went_ran law sessions F IsLoadStep b e loads at.state).state

    shared : d.shared ≡ c.shared
    shared = loads_same law F loads.steps b e loads.took loads.all at.state

    abbrev now : Part → Part
    now x = looked_part looked.task looked.notes x

    part : d.seats F ≡ now (c.seats F)
    part = part_set law b e F (now (part_of b.view F)) at.state state refl looked.view_is ∙ ap now (part_is law b F at.state refl)

    flushes : Flushes c d
    flushes = record {
      others = (went_ran law sessions F IsLoadStep b e loads at.state).others;
      over = ap (λ (x : Part). x.over) part;
      shared = shared_stays c.shared d.shared shared;
    }

    was : IsStill (c.seats F)
    was = at.quiet.flusher F refl

    still : IsStill (d.seats F)
    still = record {
      over = ap (λ (x : Part). x.over) part ∙ was.over;
      reads = ap (λ (x : Part). x.current.reads) part ∙ was.reads;
      writes = ap (λ (x : Part). x.current.writes) part ∙ was.writes;
      made = ap (λ (x : Part). x.current.made) part ∙ was.made;
      run = subst (λ (n : ℕ). n ≤ LAST_RUN) (sym (ap (λ (x : Part). x.run) part)) was.run;
      rests =
          subst (λ (x : Part). IsBetween x.place x.task) (sym part)
          (subst (λ (pl : Place). IsBetween pl looked.task) (sym (is_pinned sessions c at.state.sound.sound at.quiet some).place) (starts_between looked.task (anew_starts looked.task looked.starts)));
      plain = ap (λ (x : Part). is_snapshot x.task) part ∙ starts_plain looked.task (anew_starts looked.task looked.starts);
      turn = ap (λ (x : Part). is_between x.flushing) part ∙ was.turn;
    }

    quiet : IsQuiet sessions d
    quiet =
        quiet_turn sessions c d at.quiet flushes still
        (subst (λ (s : Shared). (s.opening ≤ s.flushed) × (s.flushed ≤ s.tail)) (sym shared) at.quiet.flushed)

    -- the next call may start
    starts_now : starts_anew (d.seats F).task ≡ true
    starts_now = ap (λ (x : Part). starts_anew x.task) part ∙ looked.starts

    pub looks : Turned law sessions b e
    looks = record { at = record { state = state; quiet = quiet; covered = turn_covered sessions c d at.quiet flushes at.covered; starts = starts_now }; flushes = flushes }

    pub log_kept : book_log sessions e ≡ book_log sessions b
    log_kept =
        log_same sessions c d at.quiet flushes
        ∙ ap (λ (s : Shared). let log : Log = record (log_of sessions c) { flushed = s.flushed; gathered = blocks_below c (gathered_place s.flushed (d.seats F).flushing); pinned = pin_of (d.seats F).place (d.seats F).current } in log) shared
        ∙ ap (λ (x : Part). let log : Log = record (log_of sessions c) { gathered = blocks_below c (gathered_place c.shared.flushed x.flushing); pinned = pin_of x.place x.current } in log) part

    begin_same : (d.seats F).current.begin ≡ bound
    begin_same = ap (λ (x : Part). x.current.begin) part

    some_now : IsSome (book_log sessions e).pinned
    some_now = subst (λ (l : Log). IsSome l.pinned) (sym log_kept) some

    -- THE VERSION found is the one seen as of the pin, in the state after.
    module _ (oid place : ℕ) (row : List ℕ) (took : TookRow law oid place row b e) where
      v : VersionAt
      v = took.version

      task_is : (d.seats F).task ≡ task.Found took.version took.stamp took.head
      task_is = ap (λ (x : Part). x.task) (sym (part_is law e F state refl)) ∙ took.found

      named : IsNamed d.shared took.version
      named = subst (λ (t : Task). NamedInHand d.shared t) task_is (state.sound.sound.own F).chains.named

      newest : IsNewestAt (d.shared.objects took.version.oid) took.version.place (d.seats F).current.begin took.stamp
      newest = subst (λ (t : Task). InHand d.shared (d.seats F).current.begin t) task_is (state.sound.sound.own F).snapshot.in_hand

      row_is : row_of d took.version ≡ row
      row_is = took.row_is d (is_state law e state (took_state law F took.loads.steps took.entered e took.loads.took (reach_state law oid place took.entry b took.entered took.reach)))

      pub seen : IsSeen d oid (d.seats F).current.begin took.version.place row
      seen = subst (λ (n : ℕ). IsSeen d n (d.seats F).current.begin took.version.place row) took.oid_is
          (record {
            known = named.object;
            within = named.within;
            below = (let is = newest.stamp_is in let low = newest.below in omega (arith, is, low));
            newer = newest.newer;
            row_is = row_is;
            apart = λ q other below. subst (λ (t : Task). NoneInHand (d.seats F).current.begin t q (d.seats q)) task_is (state.sound.sound.both F q other).snapshot.in_hand below;
          })

      module _ (lists : Lists law) (more : More law) (is : IsSerializable law (view_of sessions d)) where
        pub row_at : IsRowAt (book_log sessions b) oid row
        row_at = subst (λ (l : Log). IsRowAt l oid row) log_kept (seen_row law lists more sessions d state.sound quiet is some_now oid took.version.place row seen)

        -- it is the newest below the pin of all that the sessions have committed
        newest_at : IfSome (book_log sessions e).pinned (IsNewestRow (view_of sessions d) oid row)
        newest_at =
            let stamp = (version_at (d.shared.objects oid) took.version.place).words.stamp in
            subst (λ (o : Option ℕ). IfSome o (IsNewestRow (view_of sessions d) oid row)) (sym (pin_is law lists more sessions d state.sound quiet is some_now))
            (record {
              stamp = stamp;
              newest = newest_shown law lists more sessions d state.sound quiet is some_now oid stamp row
                  (seen_newest law lists more sessions d state.sound quiet is some_now oid took.version.place row seen);
            })

        pub newest_place : (pin : ℕ) → (book_log sessions b).pinned ≡ Some pin → IsNewestRow (view_of sessions d) oid row pin
        newest_place pin pinned = subst (λ (o : Option ℕ). IfSome o (IsNewestRow (view_of sessions d) oid row)) (ap (λ (l : Log). l.pinned) log_kept ∙ pinned) newest_at

  -- nobody is waited for, and who is
  module _ (lists : Lists law) (more : More law) (is : IsSerializable law (view_of sessions c)) (some : IsSome (book_log sessions b).pinned) (oid : ℕ) (known : oid < OBJECT_LIMIT) where
    pub unwaited : (place entry : ℕ) (e : Book) → place ≡ bound → TookReach law F oid place entry b e → IsUnwaited (book_log sessions b) oid
    unwaited place entry e same reach = unwaited_found law lists more sessions c at.state.sound at.quiet is some oid known (reach_clear oid place entry e same reach)

    pub waited : (place : ℕ) (wait : entries.SeatWait) (e : Book) → place ≡ bound → TookWait law F oid place wait b e
        → IsWait (book_log sessions b) oid (record { seat = wait.seat; seen = wait.seen })
    waited place wait e same took =
        wait_found law lists more sessions c at.state.sound at.quiet is some oid known (record { seat = wait.seat; seen = wait.seen }) (wait_below oid place wait e same took)
