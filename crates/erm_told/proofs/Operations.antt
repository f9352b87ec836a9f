-- Turns of an active session: operations that were answered, and those that were cut off by a refusal.
use Rattle.std.proofs.Common.{◌≡◌, ◌≢◌, ℕ, true, false, IsSome, List, [], ◌∷◌, ◌++◌, append-nil, length, Option, Some, None, option_map, refl, sym, ap, ◌∙◌, subst, inl, inr}
use Rattle.erm_model.specs.declared.outcome.Phase.TheVariants.{Idle, Active}
use Rattle.erm_model.specs.declared.row_stop.RowStop.{RowStop}
use Rattle.erm_model.specs.declared.row_stop.RowStop.TheVariants as stop
use Rattle.erm_model.specs.RowTransaction.{Asked, Event}
use Rattle.erm_model.specs.RowTransaction as rows
use Rattle.erm_model.specs.Rows.{Rows}
use Rattle.erm_model.specs.Run.{Step}
use Rattle.erm_report.specs.declared.answer.Answer.{Answer}
use Rattle.erm_report.specs.declared.answer.Answer.TheVariants as answer
use Rattle.erm_script.specs.declared.script.Command.{Command}
use Rattle.erm_world.specs.Face.{Goes}
use Rattle.erm_world.specs.Going.{Extends}
use Rattle.erm_world.specs.Onward.{goes_then}
use Rattle.erm_world.specs.World.{Finished, Session, Stand, View, Work, phase_at, phase_of, work_at, work_of}
use Rattle.erm_world.specs.World as world
use Rattle.erm_world.proofs.Txns.{stopped}
use Rattle.erm_maps.specs.Runs.{IsAnswered, IsRunOf, WasRun, kept_at}
use Rattle.erm_maps.proofs.GoingOn.{WasRun-from}
use Rattle.erm_good_report.specs.Phases.{asks_safe, phase_after, phase_after_wait}
use Rattle.erm_good_report.specs.Transactions.{Aborts, Ending, Excludes, Progress, Snapshot, Transaction, ended, goes_on, heard, held_of, reply_in, snapshot_after, steps_of, table_of, with_line, with_look}
use Rattle.erm_lines.specs.Answers.{DidOperation, WasRefusedAs, stop_told}
use Rattle.erm_lines.specs.Operations.{AsksOf, DidCalls, FrontOf, WereCutOff, WholeOf}
use Rattle.erm_lines.specs.Told.{EndsAs, TellsNow, TellsOver, TellsWatched}
use Rattle.erm_told.proofs.Going.{continues_from}
use Rattle.erm_told.proofs.Running.{GoesOn, active_in, over_still, over_then, ran_on, ran_saves}
use Rattle.erm_told.proofs.Sessions.{aborted_told, active_told, look_after, none_watched, unchanged_told}
use Rattle.erm_told.proofs.Steps.{added, held_on_map, held_still, named_on_map, none_asked, none_replied, one_replied, steps_with}
use Rattle.erm_told.proofs.Turns.{RunsBy, TellsAt, Turn, none_active, now_active, runs_lined, same_tail}

-- a line that doesn't ask for a snapshot leaves a session without one
pub none_after : (asked : Option Command) (a : Answer) (p : Progress) → asks_safe asked ≡ false → p.snapshot ≡ None → snapshot_after a asked p ≡ None
none_after asked a p calm none = look_after a asked p calm ∙ ap (λ (o : Option Snapshot). option_map (with_look asked a) o) none

-- An active session goes on with its transaction, and no other session with its own.
pub record Works (v : View) (seat : ℕ) (t : View) : Type 0 where
  pub active : phase_at t seat ≡ Active
  pub over : (t.session seat).over ≡ (v.session seat).over
  pub more : Extends (work_at v seat) (work_at t seat)
  pub others : (q : ℕ) → q ≢ seat → t.session q ≡ v.session q
  pub saves : (q : ℕ) → q ≢ seat → t.saves q ≡ v.saves q
  pub opening : t.opening ≡ v.opening
  pub tail : t.tail ≡ v.tail

works_on : (v : View) (seat : ℕ) (t : View) → GoesOn v seat t → Works v seat t
works_on v seat t on = record {
  active = ap phase_of on.stand;
  over = over_still (v.session seat) (t.session seat) on.work on.goes.own on.stand;
  more = subst (λ (w : Work). Extends (work_at v seat) w) (sym (ap work_of on.stand)) on.more;
  others = on.goes.others;
  saves = on.goes.saves_of_others;
  opening = on.goes.opening;
  tail = on.goes.tail;
}

-- A session that goes on with its transaction, by a line that is told
module _ (v : View) (seat : ℕ) (asked : Option Command) (a : Answer) (t : View) (active : phase_at v seat ≡ Active) (calm : asks_safe asked ≡ false) (on : Works v seat t)
    (runs : (u : Transaction) → RunsBy v seat u → RunsBy t seat (with_line asked a u)) where
  stands : (t.session seat).stand ≡ world.active (work_at t seat)
  stands = active_in (t.session seat).stand on.active

  run_then : (u : Transaction) → RunsBy v seat u → WasRun (work_at t seat) (steps_of (with_line asked a u))
  run_then u by = WasRun-from (kept_at t seat) (steps_of (with_line asked a u)) (runs u by).run

  goes_told : (p : Progress) → TellsAt seat p v → TellsAt seat (goes_on asked a p) t
  goes_told p told = record {
    tells = record {
      over = subst (λ (fs : List Finished). TellsOver seat p.over p.snapshots fs) (sym on.over) told.tells.over;
      now = subst (λ (stand : Stand). TellsNow seat (goes_on asked a p).current stand) (sym stands)
          (active_told seat asked a p.current (work_at v seat) (work_at t seat) on.more.number on.more.begin (λ u is. run_then u (told.runs u is active))
          (now_active seat p (v.session seat) active told.tells));
      watched = subst (λ (stand : Stand). TellsWatched (goes_on asked a p).snapshot stand) (sym stands)
          (none_watched (goes_on asked a p).snapshot (world.active (work_at t seat)) tt (none_after asked a p calm (none_active seat p (v.session seat) active told.tells)));
    };
    runs = runs_lined t seat asked a p.current (λ u is at. runs u (told.runs u is active));
  }

  pub went_on : phase_after asked a (phase_at v seat) ≡ phase_at v seat → ((p : Progress) → heard seat asked a p ≡ goes_on asked a p) → Turn v seat asked a t
  went_on phase hears = record {
    others = on.others;
    saves = on.saves;
    opening = on.opening;
    tail = same_tail v.tail t.tail on.tail;
    goes = continues_from (v.session seat) (t.session seat) (world.active (work_at v seat)) (active_in (v.session seat).stand active) []
        (on.over ∙ sym (append-nil (v.session seat).over)) (work_at t seat, on.more, inl stands);
    phase = phase ∙ active ∙ sym on.active;
    tells = λ p told. subst (λ (q : Progress). TellsAt seat q t) (sym (hears p)) (goes_told p told);
  }

-- what a line tells of calls that count as operations
runs_by : (v : View) (seat : ℕ) (asked : Option Command) (a : Answer) (t : View) → ((before : List Step) → IsRunOf (kept_at v seat) before → IsRunOf (kept_at t seat) (before ++ added asked a))
    → ((u : Transaction) → held_of u ≡ length (v.saves seat) → held_of (with_line asked a u) ≡ length (t.saves seat)) → (u : Transaction) → RunsBy v seat u → RunsBy t seat (with_line asked a u)
runs_by v seat asked a t run held u by = record {
  run = subst (λ (steps : List Step). IsRunOf (kept_at t seat) steps) (sym (steps_with asked a u)) (run (steps_of u) by.run);
  held = held u by.held;
}

-- it holds as many savepoints as before, by the view and by the lines
same_held : (v : View) (seat : ℕ) (t : View) (asked : Option Command) (a : Answer) → t.saves seat ≡ v.saves seat → ((u : Transaction) → held_of (with_line asked a u) ≡ held_of u)
    → (u : Transaction) → held_of u ≡ length (v.saves seat) → held_of (with_line asked a u) ≡ length (t.saves seat)
same_held v seat t asked a saves same u held = same u ∙ held ∙ ap length (sym saves)

-- calls that were answered count as what the line tells
pub turn_ran : (v : View) (seat : ℕ) (asked : Option Command) (a : Answer) (t : View) (steps : List Step) (kind : Rows → List Event → Type 0) → phase_at v seat ≡ Active
    → asks_safe asked ≡ false → DidCalls v seat steps kind t → added asked a ≡ steps → ((u : Transaction) → held_of (with_line asked a u) ≡ held_of u)
    → phase_after asked a (phase_at v seat) ≡ phase_at v seat → ((p : Progress) → heard seat asked a p ≡ goes_on asked a p) → Turn v seat asked a t
turn_ran v seat asked a t steps kind active calm did tells held phase hears =
    went_on v seat asked a t active calm (works_on v seat t (ran_on v seat did.events t active did.ran))
    (runs_by v seat asked a t (λ before was. subst (λ (list : List Step). IsRunOf (kept_at t seat) (before ++ list)) (sym tells) (did.run before was))
    (same_held v seat t asked a (ran_saves v seat did.events t active did.ran) held)) phase hears

-- a refusal that leaves the transaction as it is
pub turn_cut : (v : View) (seat : ℕ) (c : Command) (a : Answer) (t : View) (why : RowStop) (front : Rows → List Event → Type 0) (asks : List Event → Rows → Asked → Type 0)
    → phase_at v seat ≡ Active → asks_safe (Some c) ≡ false → WereCutOff v seat front asks why t → rows.ends why ≡ false → reply_in a ≡ None
    → phase_after (Some c) a (phase_at v seat) ≡ phase_at v seat → ((p : Progress) → heard seat (Some c) a p ≡ goes_on (Some c) a p) → Turn v seat (Some c) a t
turn_cut v seat c a t why front asks active calm cut stays none phase hears =
    let on = ran_on v seat cut.events cut.at active cut.ran in
    let is : t ≡ cut.at = (stopped cut.at seat cut.asked why t (ap phase_of on.stand) cut.refused).stays stays in
    went_on v seat (Some c) a t active calm (works_on v seat t (subst (λ (u : View). GoesOn v seat u) (sym is) on))
    (runs_by v seat (Some c) a t (λ before was. subst (λ (list : List Step). IsRunOf (kept_at t seat) list)
    (sym (ap (λ (list : List Step). before ++ list) (none_replied c a none) ∙ append-nil before)) (cut.run stays before was))
    (same_held v seat t (Some c) a (ap (λ (u : View). u.saves seat) is ∙ ran_saves v seat cut.events cut.at active cut.ran) (λ u. held_still (Some c) a u (none_replied c a none)))) phase hears

-- one that ends it
pub turn_ended : (v : View) (seat : ℕ) (c : Command) (a : Answer) (t : View) (why : RowStop) (front : Rows → List Event → Type 0) (asks : List Event → Rows → Asked → Type 0)
    (ending : Ending) → ((w u : Work) (steps : List Step) → Extends w u → IsAnswered w steps → IsAnswered u steps) → phase_at v seat ≡ Active
    → asks_safe (Some c) ≡ false → WereCutOff v seat front asks why t → rows.ends why ≡ true → reply_in a ≡ None → EndsAs ending world.aborts → phase_after (Some c) a (phase_at v seat) ≡ Idle
    → ((p : Progress) → heard seat (Some c) a p ≡ ended ending (goes_on (Some c) a p)) → Turn v seat (Some c) a t
turn_ended v seat c a t why front asks ending stay active calm cut ends none aborts phase hears =
    let on = ran_on v seat cut.events cut.at active cut.ran in
    let out = stopped cut.at seat cut.asked why t (ap phase_of on.stand) cut.refused in
    let goes : Goes v seat t = goes_then v cut.at t seat seat refl on.goes out.goes in
    let w = work_at v seat in
    let stand : (v.session seat).stand ≡ world.active w = active_in (v.session seat).stand active in
    let idle = out.ended ends in
    let done = over_then (v.session seat) (t.session seat) w goes.own stand idle in
    let f : Finished = record { work = done.0; fate = world.aborts } in record {
      others = goes.others;
      saves = goes.saves_of_others;
      opening = goes.opening;
      tail = same_tail v.tail t.tail goes.tail;
      goes = continues_from (v.session seat) (t.session seat) (world.active w) stand (f ∷ []) done.2
          (done.0, done.1, inr (inr (f, [], (v.session seat).over, done.2, refl)));
      phase = phase ∙ sym (ap phase_of idle);
      tells = λ p told. subst (λ (q : Progress). TellsAt seat q t) (sym (hears p)) (record {
        tells = record {
          over = subst (λ (fs : List Finished). TellsOver seat (ended ending (goes_on (Some c) a p)).over (ended ending (goes_on (Some c) a p)).snapshots fs) (sym done.2)
              (aborted_told seat ending p.over (goes_on (Some c) a p).current p.snapshots (goes_on (Some c) a p).snapshot (v.session seat).over w done.0 aborts done.1.number done.1.begin
              (λ steps. stay w done.0 steps done.1) told.tells.over
              (unchanged_told seat (Some c) a p.current (world.active w) (none_replied c a none) (now_active seat p (v.session seat) active told.tells))
              (none_after (Some c) a p calm (none_active seat p (v.session seat) active told.tells)));
          now = subst (λ (at : Stand). TellsNow seat None at) (sym idle) tt;
          watched = subst (λ (at : Stand). TellsWatched None at) (sym idle) tt;
        };
        runs = λ one is at. absurd (cc);
      });
    }

-- the answer that a refusal is
pub the_answer : (told a : Answer) → Some told ≡ Some a → told ≡ a
the_answer told a is = cc

module _ (stay : (w u : Work) (steps : List Step) → Extends w u → IsAnswered w steps → IsAnswered u steps) where
  module _ (v : View) (seat : ℕ) (c : Command) (t : View) (active : phase_at v seat ≡ Active) (named : IsSome (table_of c)) (waits : phase_after_wait (Some c) (phase_at v seat) ≡ phase_at v seat)
      (calm : asks_safe (Some c) ≡ false) where
    -- the answer to a refusal tells what it did
    abbrev Cut : RowStop → Type 0
    Cut why = WereCutOff v seat (FrontOf c) (AsksOf c) why t

    stays_so : (a : Answer) (why : RowStop) → Cut why → rows.ends why ≡ false → reply_in a ≡ None → phase_after (Some c) a (phase_at v seat) ≡ phase_at v seat
        → ((p : Progress) → heard seat (Some c) a p ≡ goes_on (Some c) a p) → Turn v seat (Some c) a t
    stays_so a why cut = turn_cut v seat c a t why (FrontOf c) (AsksOf c) active calm cut

    ends_so : (a : Answer) (why : RowStop) (ending : Ending) → Cut why → rows.ends why ≡ true → reply_in a ≡ None → EndsAs ending world.aborts
        → phase_after (Some c) a (phase_at v seat) ≡ Idle → ((p : Progress) → heard seat (Some c) a p ≡ ended ending (goes_on (Some c) a p)) → Turn v seat (Some c) a t
    ends_so a why ending cut = turn_ended v seat c a t why (FrontOf c) (AsksOf c) ending stay active calm cut

    abbrev At : Answer → Type 0
    At a = Turn v seat (Some c) a t

    refused_so : (a : Answer) (why : RowStop) → stop_told why ≡ Some a → Cut why → At a
    refused_so a (stop.NotYet other seen) told cut =
        subst At (the_answer (answer.WaitSeat other seen) a told) (stays_so (answer.WaitSeat other seen) (stop.NotYet other seen) cut refl refl waits (λ p. refl))
    refused_so a stop.ReadsFull told cut =
        subst At (the_answer answer.ReadsFull a told) (stays_so answer.ReadsFull stop.ReadsFull cut refl refl refl (λ p. refl))
    refused_so a (stop.Owned other number) told cut =
        subst At (the_answer (answer.Owned other number) a told)
        (ends_so (answer.Owned other number) (stop.Owned other number) Aborts cut refl refl tt refl (λ p. refl))
    refused_so a (stop.Newer stamp) told cut =
        subst At (the_answer (answer.Newer stamp) a told) (ends_so (answer.Newer stamp) (stop.Newer stamp) Aborts cut refl refl tt refl (λ p. refl))
    refused_so a stop.WritesFull told cut =
        subst At (the_answer answer.WritesFull a told) (stays_so answer.WritesFull stop.WritesFull cut refl refl refl (λ p. refl))
    refused_so a (stop.CellsFull drawn) told cut =
        subst At (the_answer (answer.CellsFull drawn) a told) (stays_so (answer.CellsFull drawn) (stop.CellsFull drawn) cut refl refl refl (λ p. refl))
    refused_so a (stop.OidsFull drawn) told cut =
        subst At (the_answer (answer.OidsFull drawn) a told) (stays_so (answer.OidsFull drawn) (stop.OidsFull drawn) cut refl refl refl (λ p. refl))
    refused_so a (stop.Excluded succ pred) told cut =
        subst At (the_answer (answer.ExcludedEarly succ pred) a told)
        (ends_so (answer.ExcludedEarly succ pred) (stop.Excluded succ pred) (Excludes None succ pred) cut refl refl tt refl (λ p. refl))
    refused_so a stop.Memory told cut = absurd (cc (told))

    refused_as : (a : Answer) → WasRefusedAs v seat c a t → At a
    refused_as a (why, told, cut) = refused_so a why told cut

    -- an operation that was answered, or cut off
    pub turn_operation : (a : Answer) → DidOperation v seat c a t → At a
    turn_operation (answer.Replied r) (op, is, did) =
        turn_ran v seat (Some c) (answer.Replied r) t (record { op = op; reply = r } ∷ []) (WholeOf c (answer.Replied r)) active calm did (one_replied c op r is)
        (λ u. held_on_map (Some c) (answer.Replied r) u (record { op = op; reply = r }) (one_replied c op r is) (named_on_map c op named is)) refl (λ p. refl)
    turn_operation (answer.Cut cells) (is, few, did) =
        turn_ran v seat (Some c) (answer.Cut cells) t [] (WholeOf c (answer.Cut cells)) active calm did (none_asked c (answer.Cut cells) is)
        (λ u. held_still (Some c) (answer.Cut cells) u (none_asked c (answer.Cut cells) is)) refl (λ p. refl)
    turn_operation a did = refused_as a did
