-- From a session that shares its world, as a transaction over rows, to its own part of a line.
use Rattle.std.proofs.Common.{◌≡◌, ◌^◌, ℕ, ◌≤◌, false, List, [], ◌∷◌, ◌++◌, append-nil, Option, Some, None, IfSome, refl, sym, ap, ◌∙◌, subst, inl, inr, arith, Result, Ok, Err, IfErr, IfOk}
use Rattle.std.specs.FinMap.{insert, remove}
use Rattle.std.proofs.lemmas.Result.{IfOk-at_ok, IfOk-weaker}
use Rattle.erm_model.specs.declared.operation.Reply.TheVariants as reply
use Rattle.erm_model.specs.declared.outcome.Phase.TheVariants.{Active}
use Rattle.erm_model.specs.declared.row_stop.RowStop.{RowStop}
use Rattle.erm_model.specs.declared.row_stop.RowStop.TheVariants as stop
use Rattle.erm_model.specs.Database.{AreFound, IsNextAt, at, value_at}
use Rattle.erm_model.specs.Rows.{Rows}
use Rattle.erm_model.specs.RowTransaction.{Agrees, Asked, Does, Event, Face, IsRefused, IsStopped, Law, Runs, SameLaw, StopsClaim, StopsRead, WritesNothing, asked_claim, asked_make, asked_read, did_claim}
use Rattle.erm_model.specs.RowTransaction as rows
use Rattle.erm_model.specs.Run.{Step}
use Rattle.erm_model.proofs.RowCalls.{WritesNothing-OnlyReads}
use Rattle.erm_node.specs.Sound.{sound_law}
use Rattle.erm_node.specs.TreeMap.{map_of_rows, record_in}
use Rattle.erm_record.specs.Record.{absent_row, value_row}
use Rattle.erm_report.specs.declared.answer.Answer.{Answer}
use Rattle.erm_report.specs.declared.answer.Answer.TheVariants as answer
use Rattle.erm_script.specs.declared.script.Command.{Command}
use Rattle.erm_script.specs.declared.script.Command.TheVariants as command
use Rattle.erm_tree.specs.Calls.{AsksReads, DidBy, IsReady, Reads, SawIn}
use Rattle.erm_tree.specs.Change.{AsksDel, AsksPut, IsDel, IsPrefix, IsPut, StopsChange, StopsPut}
use Rattle.erm_tree.specs.Operations.{Stutters, stuttered}
use Rattle.erm_tree.specs.Reads.{IsMetIn, IsOnWay, IsSought}
use Rattle.erm_tree.specs.Walk.{IsMetByNext, last_sought}
use Rattle.erm_tree.proofs.Operations.{AreRunOne-called, Stutters-does, Stutters-saw}
use Rattle.erm_world.specs.Saves.{OnceOf}
use Rattle.erm_world.specs.World.{Opening, View, Work, phase_at}
use Rattle.erm_world.proofs.Txns.{MayStop}
use Rattle.erm_maps.specs.Runs.{IsRunOf, Kept, kept_at}
use Rattle.erm_maps.proofs.Called.{called_runs, lawful_before}
use Rattle.erm_good_report.specs.Phases.{IsAnswerTo}
use Rattle.erm_lines.specs.Answers.{stop_told}
use Rattle.erm_lines.specs.Operations.{AsksOf, DidCalls, FrontOf, IsMetByScan, Ran, WholeOf}
use Rattle.erm_lines.proofs.Bridge.{CallsAreRuns, ran, runs_on, tells_as}
use Rattle.erm_lines.proofs.Lines.{del_ok, get_ok, next_ok, put_ok}
use Rattle.erm_lines.proofs.Looked.{scan_ok}
use Rattle.erm_lines.proofs.Scanning.{Scanned}
use Rattle.erm_lines.proofs.Tidied.{tidy_none, tidy_some}
use Rattle.erm_lines.proofs.Refused.{del_fits, get_fits, next_fits, put_fits, scan_fits, tidy_fits}
use Rattle.erm_beside.specs.Calls.{After, RefusedBeside}
use Rattle.erm_beside.specs.Ends.{MetBeside}
use Rattle.erm_beside.specs.Face.{beside_face}
use Rattle.erm_beside.specs.Laws.{IsSound}
use Rattle.erm_beside.specs.Onward.{beside_then, onward_then}
use Rattle.erm_beside.proofs.Given.{given_after}
use Rattle.erm_beside.proofs.Txns.{Stopped, stopped_after}
use Rattle.erm_lines_at_once.specs.Operations.{Beside, IsNamed, TriedOnce, WereCutBeside, told_at_once}
use Rattle.erm_lines_at_once.proofs.Alone.{Alone, alone_kept, alone_own, alone_saves, did_alone, does_alone, follows_alone, given_along, kept_there, runs_alone, saw_alone, stays_alone, view, view_at, work_there}

-- what a look for the record asks for, a del does too
asks_del : (table key : ℕ) (events : List Event) (array : Rows) (asked : Asked) → AsksReads (IsOnWay table key) events array asked → AsksDel table key events array asked
asks_del table key events array (asked_read oid) asks = asks
asks_del table key events array (asked_claim oid) asks = absurd asks
asks_del table key events array asked_make asks = absurd asks

-- one try, whose refusal is told
module _ (f : View) (seat : ℕ) (c : Command) (v t : View) where
  tried_cut : (why : RowStop) (tried : Option Answer) → tried ≡ told_at_once why → IsNamed why → IfSome (stop_told why) (λ a. IsAnswerTo c a)
      → WereCutBeside f seat (FrontOf c) (AsksOf c) why v t → TriedOnce f seat c tried v t
  tried_cut (stop.NotYet other seen) tried told named fits cut = subst (λ (o : Option Answer). TriedOnce f seat c o v t) (sym told) (other, seen, cut)
  tried_cut stop.ReadsFull tried told named fits cut = subst (λ (o : Option Answer). TriedOnce f seat c o v t) (sym told) (fits, (stop.ReadsFull, refl, cut))
  tried_cut (stop.Owned other number) tried told named fits cut = subst (λ (o : Option Answer). TriedOnce f seat c o v t) (sym told) (fits, (stop.Owned other number, refl, cut))
  tried_cut (stop.Newer stamp) tried told named fits cut = subst (λ (o : Option Answer). TriedOnce f seat c o v t) (sym told) (fits, (stop.Newer stamp, refl, cut))
  tried_cut stop.WritesFull tried told named fits cut = subst (λ (o : Option Answer). TriedOnce f seat c o v t) (sym told) (fits, (stop.WritesFull, refl, cut))
  tried_cut (stop.CellsFull drawn) tried told named fits cut = subst (λ (o : Option Answer). TriedOnce f seat c o v t) (sym told) (fits, (stop.CellsFull drawn, refl, cut))
  tried_cut (stop.OidsFull drawn) tried told named fits cut = subst (λ (o : Option Answer). TriedOnce f seat c o v t) (sym told) (fits, (stop.OidsFull drawn, refl, cut))
  tried_cut (stop.Excluded succ pred) tried told named fits cut = subst (λ (o : Option Answer). TriedOnce f seat c o v t) (sym told) (fits, (stop.Excluded succ pred, refl, cut))
  tried_cut stop.Memory tried told named fits cut = absurd named

module _ {S : Type 0} (law : Law) (own : S → View) (seat : S → ℕ) (stands : S → Type 0) (may : S → View → Type 0) (one : S → S → Type 0)
    (sound : (s : S) → stands s → IsSound law (own s) (seat s)) (one_then : (s t u : S) → one s t → one t u → one s u) (same : SameLaw law sound_law) where
  abbrev pub face : Face S
  face = beside_face law own seat stands may one

  abbrev alone_face : Face S
  alone_face = Alone law own seat stands may one sound

  abbrev alone_view : S → View
  alone_view = view law own seat stands may one sound

  abbrev any : S → S → Type 0
  any s t = Unit {0}

  -- calls are runs of the session's transaction
  are_runs : CallsAreRuns law alone_view seat stands any same
  are_runs s t calls before run called =
      called_runs law alone_view seat stands any same (λ u active. subst (λ (w : Work). OnceOf w.claims) (sym (work_there law own seat stands may one sound u)) (sound u active.0).claimed_once) (λ same_law u w list lawful was. AreRunOne-called alone_face same_law u w list lawful was) s t calls before run called

  -- a session in the middle of a transaction that is a run so far is ready for the next tree call
  pub ready : (s : S) (before : List Step) → face.active s → IsRunOf (kept_at (own s) (seat s)) before → IsReady face s
  ready s before active run = record {
    active = active;
    possible = (sound s active.0).possible active.1;
    lawful = lawful_before law own seat stands one same s before run;
  }

  pub goes_then : (s t u : S) → face.follows s t → face.follows t u → face.follows s u
  goes_then s t u first second = (
    one_then s t u first.0 second.0,
    λ standing. second.1 (first.1 standing),
    onward_then (seat s) (seat t) (seat u) (may s) (may t) (may u) first.2 second.2,
    beside_then (seat s) (seat t) (own s) (own t) (own u) first.2.seat_is first.3 second.3,
  )

  -- what was done alone was done beside
  stop_there : (s t : S) → seat t ≡ seat s → (own t).session (seat s) ≡ (alone_view t).session (seat s)
  stop_there s t is =
      sym (ap (λ (x : View). x.session (seat s)) (view_at law own seat stands may one sound s t is) ∙ alone_own (seat s) (own t))

  saves_there : (s t : S) → seat t ≡ seat s → (own t).saves (seat s) ≡ (alone_view t).saves (seat s)
  saves_there s t is =
      sym (ap (λ (x : View). x.saves (seat s)) (view_at law own seat stands may one sound s t is) ∙ alone_saves (seat s) (own t))

  stop_kept : (s t : S) → seat t ≡ seat s → kept_at (alone_view t) (seat s) ≡ kept_at (own t) (seat s)
  stop_kept s t is = ap (λ (x : View). kept_at x (seat s)) (view_at law own seat stands may one sound s t is) ∙ alone_kept (seat s) (own t)

  abbrev GaveNothing : S → S → Type 0
  GaveNothing s t = (own t).given_up (seat s) ≡ (own s).given_up (seat s)

  given : (events : List Event) (s t : S) → Runs face s events t → GaveNothing s t
  given events s t runs = given_along law own seat stands may one sound events s t runs

  beside : (Did : View → View → Type 0) (s t : S) → face.follows s t → GaveNothing s t → Did (alone_view s) (alone_view t) → Beside (seat s) Did (own s) (own t)
  beside Did s t goes gave did = record {
    from = alone_view s;
    to = alone_view t;
    starts = alone_own (seat s) (own s);
    starts_saves = alone_saves (seat s) (own s);
    did = did;
    stops = stop_there s t goes.2.seat_is;
    stops_saves = saves_there s t goes.2.seat_is;
    opening = goes.3.opening;
    tail = goes.3.tail;
    flushed = goes.3.flushed;
    given_up = gave;
  }

  -- ANSWERED
  pub got : (f : View) (s t : S) (table key : ℕ) (value : Option (List ℕ)) → SawIn face (IsSought table key) s t (λ rows. value ≡ value_at (map_of_rows rows) table key)
      → TriedOnce f (seat s) (command.Get table key) (Some (answer.Replied (reply.Value value))) (own s) (own t)
  got f s t table key value did =
      let there = saw_alone law own seat stands may one sound (IsSought table key) (λ rows. value ≡ value_at (map_of_rows rows) table key) s t did in
      let was = get_ok law alone_view seat stands any same are_runs s t table key value there in
      (tt, (was.did.0, was.did.1, beside (λ u w. DidCalls u (seat s) _ (WholeOf (command.Get table key) (answer.Replied (reply.Value value))) w) s t did.saw.follows (given did.saw.events s t did.saw.goes_on.runs) was.did.2))

  pub found_next : (f : View) (s t : S) (table from : ℕ) (found : Option (ℕ × List ℕ))
      → SawIn face (λ rows x. IsMetIn rows table from (last_sought (2 ^ 64) found) x) s t (λ rows. IsNextAt (map_of_rows rows) table from found)
      → TriedOnce f (seat s) (command.Next table from) (Some (answer.Replied (reply.Pair found))) (own s) (own t)
  found_next f s t table from found did =
      let there = saw_alone law own seat stands may one sound (λ rows x. IsMetIn rows table from (last_sought (2 ^ 64) found) x) (λ rows. IsNextAt (map_of_rows rows) table from found) s t did in
      let was = next_ok law alone_view seat stands any same are_runs s t table from found there in
      (tt, (was.did.0, was.did.1, beside (λ u w. DidCalls u (seat s) _ (WholeOf (command.Next table from) (answer.Replied (reply.Pair found))) w) s t did.saw.follows (given did.saw.events s t did.saw.goes_on.runs) was.did.2))

  pub did_put : (f : View) (s t : S) (table key : ℕ) (value : List ℕ)
      → DidBy face (λ rows events. IsPut rows table key (value_row value) events) s t (λ old new. map_of_rows new ≡ insert (map_of_rows old) (at table key) value)
      → TriedOnce f (seat s) (command.Put table key value) (Some (answer.Replied reply.Done)) (own s) (own t)
  did_put f s t table key value did =
      let there = did_alone law own seat stands may one sound (λ rows events. IsPut rows table key (value_row value) events) (λ old new. map_of_rows new ≡ insert (map_of_rows old) (at table key) value) s t did in
      let was = put_ok law alone_view seat stands any same are_runs s t table key value there in
      (tt, (was.did.0, was.did.1, beside (λ u w. DidCalls u (seat s) _ (WholeOf (command.Put table key value) (answer.Replied reply.Done)) w) s t did.did.follows (given did.did.events s t did.did.goes_on.runs) was.did.2))

  pub did_del : (f : View) (s t : S) (table key : ℕ)
      → DidBy face (λ rows events. IsDel rows table key absent_row events) s t (λ old new. map_of_rows new ≡ remove (map_of_rows old) (at table key))
      → TriedOnce f (seat s) (command.Del table key) (Some (answer.Replied reply.Done)) (own s) (own t)
  did_del f s t table key did =
      let there = did_alone law own seat stands may one sound (λ rows events. IsDel rows table key absent_row events) (λ old new. map_of_rows new ≡ remove (map_of_rows old) (at table key)) s t did in
      let was = del_ok law alone_view seat stands any same are_runs s t table key there in
      (tt, (was.did.0, was.did.1, beside (λ u w. DidCalls u (seat s) _ (WholeOf (command.Del table key) (answer.Replied reply.Done)) w) s t did.did.follows (given did.did.events s t did.did.goes_on.runs) was.did.2))

  run_there : (s : S) (before : List Step) → IsRunOf (kept_at (own s) (seat s)) before → IsRunOf (kept_at (alone_view s) (seat s)) before
  run_there s before run = subst (λ (k : Kept). IsRunOf k before) (sym (kept_there law own seat stands may one sound s)) run

  pub scanned : (f : View) (s t : S) (table low high : ℕ) (found : List (ℕ × List ℕ)) (told : Result (List (ℕ × List ℕ)) RowStop) (before : List Step) → IsRunOf (kept_at (own s) (seat s)) before
      → told ≡ Ok found → IfOk told (Scanned face table low high s t) → TriedOnce f (seat s) (command.Scan table low high) (Some (answer.Replied (reply.Found found))) (own s) (own t)
  scanned f s t table low high found told before run is was =
      let did : SawIn face (IsMetByScan table low high) s t (λ array. AreFound (map_of_rows array) table low high found) = IfOk-at_ok (Scanned face table low high s t) is was in
      let there = saw_alone law own seat stands may one sound (IsMetByScan table low high) (λ array. AreFound (map_of_rows array) table low high found) s t did in
      let answered = scan_ok law alone_view seat stands any same are_runs s t table low high found (Ok found) (lawful_before law alone_view seat stands any same s before (run_there s before run)) refl there in
      (tt, (answered.did.0, answered.did.1, beside (λ u w. DidCalls u (seat s) _ (WholeOf (command.Scan table low high) (answer.Replied (reply.Found found))) w) s t did.saw.follows (given did.saw.events s t did.saw.goes_on.runs) answered.did.2))

  -- TIDIED
  abbrev pub FoundOf : ℕ → ℕ → S → S → Option ℕ → Type 0
  FoundOf table key s t found = SawIn face (IsOnWay table key) s t (λ array. found ≡ record_in array table key)

  pub tidied_none : (f : View) (s t : S) (table key : ℕ) (found : Option ℕ) → found ≡ None → FoundOf table key s t found → TriedOnce f (seat s) (command.Tidy table key) (Some (answer.Cut 0)) (own s) (own t)
  tidied_none f s t table key found is look =
      let did = subst (FoundOf table key s t) is look in
      let there = saw_alone law own seat stands may one sound (IsOnWay table key) (λ array. None ≡ record_in array table key) s t did in
      let was = tidy_none law alone_view seat stands any same are_runs s t table key None (λ a b saw. Stutters-saw alone_face a b (λ array. None ≡ record_in array table key) saw.saw) refl there in
      (tt, (was.did.0, omega arith, beside (λ u w. DidCalls u (seat s) [] (WholeOf (command.Tidy table key) (answer.Cut 0)) w) s t did.saw.follows (given did.saw.events s t did.saw.goes_on.runs) was.did.2))

  pub tidied_some : (f : View) (s u t : S) (table key oid : ℕ) (found : Option ℕ) (cells : ℕ) → found ≡ Some oid → FoundOf table key s u found → cells ≤ (own u).opening.cuts
      → Does face u (did_claim oid) t → TriedOnce f (seat s) (command.Tidy table key) (Some (answer.Cut cells)) (own s) (own t)
  tidied_some f s u t table key oid found cells is look few does =
      let did = subst (FoundOf table key s u) is look in
      let there = saw_alone law own seat stands may one sound (IsOnWay table key) (λ array. Some oid ≡ record_in array table key) s u did in
      let claimed : (own t).given_up (seat s) ≡ (own u).given_up (seat s) =
      subst (λ (q : ℕ). (own t).given_up q ≡ (own u).given_up q) did.saw.follows.2.seat_is (given_after (seat u) (did_claim oid) (own u) (own t) does.step.answered.1) in
      let gave : GaveNothing s t = claimed ∙ given did.saw.events s u did.saw.goes_on.runs in
      let was = tidy_some law alone_view seat stands any same are_runs s u t table key oid (Some oid) (λ a b saw. Stutters-saw alone_face a b (λ array. Some oid ≡ record_in array table key) saw.saw) refl there
      cells few (Stutters-does alone_face (did_claim oid) tt) (does_alone law own seat stands may one sound (did_claim oid) u t does) in (
        tt,
        (
          was.did.0,
          omega (arith, few, ap (λ (o : Opening). o.cuts) did.saw.follows.3.opening),
          beside (λ x w. DidCalls x (seat s) [] (WholeOf (command.Tidy table key) (answer.Cut cells)) w) s t (goes_then s u t did.saw.follows does.follows) gave was.did.2,
        ),
      )

  -- CUT OFF
  module _ (stops : RowStop → Type 0) (kind : List Event → Type 0) (asks : List Event → Rows → Asked → Type 0) (s t : S) (why : RowStop) (stopped : IsStopped face stops kind asks s why t) where
    at_seat : seat stopped.at ≡ seat s
    at_seat = stopped.follows.2.seat_is

    pub stopped_follows : face.follows s t
    stopped_follows = goes_then s stopped.at t stopped.follows stopped.refused.follows

    last : Stopped (seat s) (MayStop stopped.asked) why (own stopped.at) (own t)
    last = stopped_after (seat s) stopped.asked why (own stopped.at) (own t)
        (subst (λ (q : ℕ). phase_at (own stopped.at) q ≡ Active) at_seat stopped.goes_on.active.1)
        (subst (λ (q : ℕ). After q (RefusedBeside q stopped.asked why) (own stopped.at) (own t)) at_seat stopped.refused.stopped.1)

    still : rows.ends why ≡ false → (own t).session (seat t) ≡ (own stopped.at).session (seat stopped.at)
    still goes = ap (λ (q : ℕ). (own t).session q) (stopped.refused.follows.2.seat_is ∙ at_seat) ∙ last.stays goes ∙ ap (λ (q : ℕ). (own stopped.at).session q) (sym at_seat)

    stutters : ((es : List Event) → kind es → WritesNothing es) → rows.ends why ≡ false → Stutters alone_face s t
    stutters none goes = record {
      events = stopped.events;
      none = none stopped.events stopped.of_kind;
      at = stopped.at;
      runs = runs_alone law own seat stands may one sound stopped.events s stopped.at stopped.goes_on.runs;
      goes = follows_alone law own seat stands may one sound s stopped.at stopped.follows;
      stays = stays_alone law own seat stands may one sound stopped.at t (still goes) (stopped.refused.stays goes);
      rests = inr (follows_alone law own seat stands may one sound stopped.at t stopped.refused.follows);
    }

    pub cut_beside : (asks_view : List Event → Rows → Asked → Type 0) (front : Rows → List Event → Type 0) → ((es : List Event) → kind es → WritesNothing es)
        → ((es : List Event) → kind es → (array : Rows) → law.meets array → Agrees law es array → front array es)
        → ((es : List Event) (array : Rows) (asked : Asked) → asks es array asked → asks_view es array asked)
        → (f : View) → may t f → WereCutBeside f (seat s) front asks_view why (own s) (own t)
    cut_beside asks_view front none fronts asking f end =
        let es = stopped.events in record {
          events = es;
          at = own stopped.at;
          ran = beside (λ u w. Ran u (seat s) es w) s stopped.at stopped.follows (given es s stopped.at stopped.goes_on.runs)
              (ran law alone_view seat stands any same es s stopped.at (runs_alone law own seat stands may one sound es s stopped.at stopped.goes_on.runs));
          none = none es stopped.of_kind;
          of = λ array sound_array agrees. fronts es stopped.of_kind array ((same.meets array).1 sound_array) (tells_as law same es array array agrees);
          asked = stopped.asked;
          asks_so = λ array sound_array agrees. asking es array stopped.asked (stopped.asks_so array ((same.meets array).1 sound_array) (tells_as law same es array array agrees));
          refused = subst (λ (q : ℕ). After q (RefusedBeside q stopped.asked why) (own stopped.at) (own t)) at_seat stopped.refused.stopped.1;
          met = subst (λ (q : ℕ). MetBeside f q stopped.asked why (own stopped.at) (own t)) at_seat (stopped.refused.stopped.2 f end);
          run = λ goes before run.
              let first : IsRunOf (kept_at (alone_view s) (seat s)) before = run_there s before run in
              let there : IsRunOf (kept_at (alone_view t) (seat s)) (before ++ []) =
              runs_on law alone_view seat stands any same are_runs s t (stuttered ∷ []) (t, stutters none goes, refl) (stopped.refused.follows.2.seat_is ∙ at_seat) before first in
              let here : IsRunOf (kept_at (own t) (seat s)) (before ++ []) =
              subst (λ (k : Kept). IsRunOf k (before ++ [])) (stop_kept s t (stopped.refused.follows.2.seat_is ∙ at_seat)) there in
              subst (λ (steps : List Step). IsRunOf (kept_at (own t) (seat s)) steps) (append-nil before) here;
        }

  -- each operation, where it was cut off
  module _ {E : Type 0} (r : Result (Option Answer) E) (s t : S) (why : RowStop) (told : IfOk r (λ tried. (tried ≡ told_at_once why) × IsNamed why)) where
    tried_so : (c : Command) → IfSome (stop_told why) (λ a. IsAnswerTo c a) → ((f : View) → may t f → WereCutBeside f (seat s) (FrontOf c) (AsksOf c) why (own s) (own t))
        → IfOk r (λ tried. (f : View) → may t f → TriedOnce f (seat s) c tried (own s) (own t))
    tried_so c fits cut =
        IfOk-weaker r (λ tried. (tried ≡ told_at_once why) × IsNamed why) (λ tried. (f : View) → may t f → TriedOnce f (seat s) c tried (own s) (own t))
        (λ tried is f end. tried_cut f (seat s) c (own s) (own t) why tried is.0 is.1 fits (cut f end)) told

    pub get_cut : (table key : ℕ) → IsStopped face StopsRead (Reads law (IsSought table key)) (AsksReads (IsSought table key)) s why t
        → IfOk r (λ tried. (f : View) → may t f → TriedOnce f (seat s) (command.Get table key) tried (own s) (own t))
    get_cut table key stopped =
        tried_so (command.Get table key) (get_fits table key why stopped.refused.named)
        (cut_beside StopsRead (Reads law (IsSought table key)) (AsksReads (IsSought table key)) s t why stopped (AsksReads (IsSought table key)) _
        (λ es kind. WritesNothing-OnlyReads es kind.only) (λ es kind array meets agrees. (kind.only, kind.of array meets agrees)) (λ es array asked asks. asks))

    pub next_cut : (table from : ℕ) → IsStopped face StopsRead (Reads law (IsMetByNext table from)) (AsksReads (IsMetByNext table from)) s why t
        → IfOk r (λ tried. (f : View) → may t f → TriedOnce f (seat s) (command.Next table from) tried (own s) (own t))
    next_cut table from stopped =
        tried_so (command.Next table from) (next_fits table from why stopped.refused.named)
        (cut_beside StopsRead (Reads law (IsMetByNext table from)) (AsksReads (IsMetByNext table from)) s t why stopped (AsksReads (IsMetByNext table from)) _
        (λ es kind. WritesNothing-OnlyReads es kind.only) (λ es kind array meets agrees. (kind.only, kind.of array meets agrees)) (λ es array asked asks. asks))

    pub del_cut : (table key : ℕ) → IsStopped face StopsChange (Reads law (IsOnWay table key)) (AsksDel table key) s why t
        → IfOk r (λ tried. (f : View) → may t f → TriedOnce f (seat s) (command.Del table key) tried (own s) (own t))
    del_cut table key stopped =
        tried_so (command.Del table key) (del_fits table key why stopped.refused.named)
        (cut_beside StopsChange (Reads law (IsOnWay table key)) (AsksDel table key) s t why stopped (AsksDel table key) _
        (λ es kind. WritesNothing-OnlyReads es kind.only) (λ es kind array meets agrees. (kind.only, kind.of array meets agrees)) (λ es array asked asks. asks))

    pub put_cut : (table key : ℕ) (value : List ℕ) → IsStopped face StopsPut (IsPrefix law (IsOnWay table key) (λ array events. IsPut array table key (value_row value) events)) (AsksPut table key (value_row value)) s why t
        → IfOk r (λ tried. (f : View) → may t f → TriedOnce f (seat s) (command.Put table key value) tried (own s) (own t))
    put_cut table key value stopped =
        tried_so (command.Put table key value) (put_fits table key value why stopped.refused.named)
        (cut_beside StopsPut (IsPrefix law (IsOnWay table key) (λ array events. IsPut array table key (value_row value) events)) (AsksPut table key (value_row value)) s t why stopped (AsksPut table key (value_row value)) _
        (λ es kind. kind.none) (λ es kind array meets agrees. (kind.of array meets agrees, kind.rest array meets agrees)) (λ es array asked asks. asks))

    pub scan_cut : (table low high : ℕ) (found : Result (List (ℕ × List ℕ)) RowStop) → found ≡ Err why
        → IfErr found (λ stop. IsStopped face StopsRead (Reads law (IsMetByScan table low high)) (AsksReads (IsMetByScan table low high)) s stop t)
        → IfOk r (λ tried. (f : View) → may t f → TriedOnce f (seat s) (command.Scan table low high) tried (own s) (own t))
    scan_cut table low high found is was =
        let stopped = subst (λ (result : Result (List (ℕ × List ℕ)) RowStop). IfErr result (λ stop. IsStopped face StopsRead (Reads law (IsMetByScan table low high)) (AsksReads (IsMetByScan table low high)) s stop t)) is was in
        tried_so (command.Scan table low high) (scan_fits table low high why stopped.refused.named)
        (cut_beside StopsRead (Reads law (IsMetByScan table low high)) (AsksReads (IsMetByScan table low high)) s t why stopped (AsksReads (IsMetByScan table low high)) _
        (λ es kind. WritesNothing-OnlyReads es kind.only) (λ es kind array meets agrees. (kind.only, kind.of array meets agrees)) (λ es array asked asks. asks))

    pub find_cut : (table key : ℕ) → IsStopped face StopsRead (Reads law (IsOnWay table key)) (AsksReads (IsOnWay table key)) s why t
        → IfOk r (λ tried. (f : View) → may t f → TriedOnce f (seat s) (command.Tidy table key) tried (own s) (own t))
    find_cut table key stopped =
        tried_so (command.Tidy table key) (tidy_fits table key why (inl stopped.refused.named))
        (cut_beside StopsRead (Reads law (IsOnWay table key)) (AsksReads (IsOnWay table key)) s t why stopped (AsksDel table key) _
        (λ es kind. WritesNothing-OnlyReads es kind.only) (λ es kind array meets agrees. (kind.only, kind.of array meets agrees)) (asks_del table key))

  -- a claim behind a look, which was refused
  pub claim_stopped : (s u t : S) (table key oid : ℕ) (found : Option ℕ) (why : RowStop) → found ≡ Some oid → FoundOf table key s u found → IsRefused face StopsClaim u (asked_claim oid) why t
      → IsStopped face StopsClaim (Reads law (IsOnWay table key)) (AsksDel table key) s why t
  claim_stopped s u t table key oid found why is look was =
      let did = subst (FoundOf table key s u) is look in record {
        events = did.saw.events;
        of_kind = did.reads;
        at = u;
        goes_on = did.saw.goes_on;
        follows = did.saw.follows;
        asked = asked_claim oid;
        asks_so = λ array meets agrees. sym (did.saw.saw array meets agrees);
        refused = was;
      }

  pub claim_cut : {E : Type 0} (r : Result (Option Answer) E) (s u t : S) (table key oid : ℕ) (found : Option ℕ) (why : RowStop) → found ≡ Some oid → FoundOf table key s u found
      → IsRefused face StopsClaim u (asked_claim oid) why t → IfOk r (λ tried. (tried ≡ told_at_once why) × IsNamed why)
      → IfOk r (λ tried. (f : View) → may t f → TriedOnce f (seat s) (command.Tidy table key) tried (own s) (own t))
  claim_cut r s u t table key oid found why is look was told =
      let stopped = claim_stopped s u t table key oid found why is look was in
      tried_so r s t why told (command.Tidy table key) (tidy_fits table key why (inr stopped.refused.named))
      (cut_beside StopsClaim (Reads law (IsOnWay table key)) (AsksDel table key) s t why stopped (AsksDel table key) _
      (λ es kind. WritesNothing-OnlyReads es kind.only) (λ es kind array meets agrees. (kind.only, kind.of array meets agrees)) (λ es array asked asks. asks))

  pub claim_follows : (s u t : S) (table key oid : ℕ) (found : Option ℕ) (why : RowStop) → found ≡ Some oid → FoundOf table key s u found → IsRefused face StopsClaim u (asked_claim oid) why t → face.follows s t
  claim_follows s u t table key oid found why is look was = goes_then s u t look.saw.follows was.follows

  pub does_follows : (s u t : S) (table key oid : ℕ) (found : Option ℕ) → FoundOf table key s u found → Does face u (did_claim oid) t → face.follows s t
  does_follows s u t table key oid found look does = goes_then s u t look.saw.follows does.follows
