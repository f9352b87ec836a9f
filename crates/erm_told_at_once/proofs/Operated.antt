-- Turns of an active session: operations that were answered, after tries, and those that were cut off by a refusal.
use Rattle.std.proofs.Common.{◌≡◌, ℕ, zero, suc, true, false, IsSome, List, [], ◌∷◌, ◌++◌, append-nil, length, Option, Some, None, refl, sym, ap, ◌∙◌, subst, inl, inr}
use Rattle.erm_model.specs.declared.outcome.Phase.{Phase}
use Rattle.erm_model.specs.declared.outcome.Phase.TheVariants.{Idle, Active}
use Rattle.erm_model.specs.declared.row_stop.RowStop.{RowStop}
use Rattle.erm_model.specs.declared.row_stop.RowStop.TheVariants as stop
use Rattle.erm_model.specs.RowTransaction.{Asked, Event}
use Rattle.erm_model.specs.RowTransaction as rows
use Rattle.erm_model.specs.Rows.{Rows}
use Rattle.erm_model.specs.Run.{Step}
use Rattle.erm_report.specs.declared.answer.Answer.{Answer}
use Rattle.erm_report.specs.declared.answer.Answer.TheVariants as answer
use Rattle.erm_script.specs.declared.script.Command.{Command}
use Rattle.erm_world.specs.Face.{Grows}
use Rattle.erm_world.specs.Going.{Extends}
use Rattle.erm_world.specs.Onward.{grows_then}
use Rattle.erm_world.specs.World.{Finished, Session, Stand, View, Work, phase_at, phase_of, work_at, work_of}
use Rattle.erm_world.specs.World as world
use Rattle.erm_world.proofs.Txns.{MayStop}
use Rattle.erm_maps.specs.Runs.{IsAnswered, IsRunOf, WasRun, kept_at}
use Rattle.erm_good_report.specs.Phases.{asks_safe, phase_after}
use Rattle.erm_good_report.specs.Transactions.{Aborts, Ending, Excludes, Progress, Transaction, ended, goes_on, heard, held_of, reply_in, steps_of, table_of, with_line}
use Rattle.erm_lines.specs.Operations.{AsksOf, DidCalls, FrontOf, Ran, WholeOf}
use Rattle.erm_lines.specs.Told.{Continues, EndsAs, TellsNow, TellsOver, TellsWatched}
use Rattle.erm_maps.proofs.GoingOn.{WasRun-from}
use Rattle.erm_beside.specs.Calls.{Passes}
use Rattle.erm_beside.proofs.Txns.{Stopped, stopped_after}
use Rattle.erm_told.proofs.Executed.{told_same}
use Rattle.erm_told.proofs.Going.{continues_from, continues_itself, continues_then}
use Rattle.erm_told.proofs.Operations.{none_after, the_answer, turn_ran}
use Rattle.erm_told.proofs.Running.{GoesOn, active_in, over_still, over_then, ran_on, ran_saves}
use Rattle.erm_told.proofs.Sessions.{aborted_told, active_told, none_watched, unchanged_told}
use Rattle.erm_told.proofs.Steps.{added, held_on_map, held_still, named_on_map, none_asked, none_replied, one_replied, steps_with}
use Rattle.erm_lines_at_once.specs.Operations.{Beside, DidOnce, DidOperationBeside, WasTried, WereCutBeside, told_at_once}
use Rattle.erm_told_at_once.proofs.Turns.{Onward, Took, Turns, onward_passes, onward_then, turns_beside}
use Rattle.erm_told.proofs.Turns.{RunsBy, TellsAt, none_active, now_active, runs_lined}

-- THE CALLS BEFORE. The session is active still, with a work that has gone on.
pub record Reached (seat : ℕ) (v t : View) : Type 0 where
  pub work : Work
  pub stand : (t.session seat).stand ≡ world.active work
  pub more : Extends (work_at v seat) work
  pub grows : Grows (v.session seat) (t.session seat)
  pub saves : t.saves seat ≡ v.saves seat
  pub onward : Onward v t

pub reached : (seat : ℕ) (events : List Event) (v t : View) → phase_at v seat ≡ Active → Beside seat (λ u w. Ran u seat events w) v t → Reached seat v t
reached seat events v t active beside =
    let at : phase_at beside.from seat ≡ Active = ap (λ (s : Session). phase_of s.stand) beside.starts ∙ active in
    let on : GoesOn beside.from seat beside.to = ran_on beside.from seat events beside.to at beside.did in record {
      work = on.work;
      stand = ap (λ (s : Session). s.stand) beside.stops ∙ on.stand;
      more = subst (λ (s : Session). Extends (work_of s.stand) on.work) beside.starts on.more;
      grows = subst (λ (s : Session). Grows s (t.session seat)) beside.starts (subst (λ (s : Session). Grows (beside.from.session seat) s) (sym beside.stops) on.goes.own);
      saves = beside.stops_saves ∙ ran_saves beside.from seat events beside.to at beside.did ∙ beside.starts_saves;
      onward = record { opening = beside.opening; tail = beside.tail };
    }

-- THE SESSION goes on with its transaction.
abbrev GoesFrom : Session → Session → Type 0
GoesFrom s t = (u : Work) × (t.stand ≡ world.active u) × Extends (work_of s.stand) u × (t.over ≡ s.over)

went_from : (s t : Session) → phase_of s.stand ≡ Active → GoesFrom s t → Continues s t
went_from s t active (u, stand, more, over) =
    continues_from s t (world.active (work_of s.stand)) (active_in s.stand active) [] (over ∙ sym (append-nil s.over)) (u, more, inl stand)

-- its run, with the savepoints that it holds
now_run : (t : View) (seat : ℕ) (u : Work) (x : Transaction) → (t.session seat).stand ≡ world.active u → RunsBy t seat x → WasRun u (steps_of x)
now_run t seat u x stand by = subst (λ (w : Work). WasRun w (steps_of x)) (ap work_of stand) (WasRun-from (kept_at t seat) (steps_of x) by.run)

took_on : (seat : ℕ) (asked : Option Command) (a : Answer) (v t : View) → phase_at v seat ≡ Active → asks_safe asked ≡ false → GoesFrom (v.session seat) (t.session seat)
    → ((before : List Step) → IsRunOf (kept_at v seat) before → IsRunOf (kept_at t seat) (before ++ added asked a))
    → ((x : Transaction) → held_of x ≡ length (v.saves seat) → held_of (with_line asked a x) ≡ length (t.saves seat))
    → phase_after asked a (phase_at v seat) ≡ phase_at v seat → ((p : Progress) → heard seat asked a p ≡ goes_on asked a p) → Took seat asked a v t
took_on seat asked a v t active calm (u, stand, more, over) run held phase hears = record {
  goes = went_from (v.session seat) (t.session seat) active (u, stand, more, over);
  phase = phase ∙ active ∙ sym (ap phase_of stand);
  tells = λ p told. subst (λ (q : Progress). TellsAt seat q t) (sym (hears p)) (record {
    tells = record {
      over = subst (λ (fs : List Finished). TellsOver seat p.over p.snapshots fs) (sym over) told.tells.over;
      now = subst (λ (at : Stand). TellsNow seat (goes_on asked a p).current at) (sym stand)
          (active_told seat asked a p.current (work_at v seat) u more.number more.begin (λ x is. was_run x (told.runs x is active)) (now_active seat p (v.session seat) active told.tells));
      watched = subst (λ (at : Stand). TellsWatched (goes_on asked a p).snapshot at) (sym stand)
          (none_watched (goes_on asked a p).snapshot (world.active u) tt (none_after asked a p calm (none_active seat p (v.session seat) active told.tells)));
    };
    runs = runs_lined t seat asked a p.current (λ x is at. runs_by x (told.runs x is active));
  });
}
  where
    runs_by : (x : Transaction) → RunsBy v seat x → RunsBy t seat (with_line asked a x)
    runs_by x by = record {
      run = subst (λ (steps : List Step). IsRunOf (kept_at t seat) steps) (sym (steps_with asked a x)) (run (steps_of x) by.run);
      held = held x by.held;
    }

    was_run : (x : Transaction) → RunsBy v seat x → WasRun u (steps_of (with_line asked a x))
    was_run x by = now_run t seat u (with_line asked a x) stand (runs_by x by)

took_ended : (seat : ℕ) (c : Command) (a : Answer) (ending : Ending) (v t : View) → ((w u : Work) (steps : List Step) → Extends w u → IsAnswered w steps → IsAnswered u steps)
    → phase_at v seat ≡ Active → asks_safe (Some c) ≡ false → Grows (v.session seat) (t.session seat) → (t.session seat).stand ≡ world.idle → reply_in a ≡ None → EndsAs ending world.aborts
    → phase_after (Some c) a (phase_at v seat) ≡ Idle → ((p : Progress) → heard seat (Some c) a p ≡ ended ending (goes_on (Some c) a p)) → Took seat (Some c) a v t
took_ended seat c a ending v t stay active calm grows idle none aborts phase hears =
    let s = v.session seat in
    let w = work_at v seat in
    let stand : s.stand ≡ world.active w = active_in s.stand active in
    let done = over_then s (t.session seat) w grows stand idle in
    let f : Finished = record { work = done.0; fate = world.aborts } in record {
      goes = continues_from s (t.session seat) (world.active w) stand (f ∷ []) done.2 (done.0, done.1, inr (inr (f, [], s.over, done.2, refl)));
      phase = phase ∙ sym (ap phase_of idle);
      tells = λ p told. subst (λ (q : Progress). TellsAt seat q t) (sym (hears p)) (record {
        tells = record {
          over = subst (λ (fs : List Finished). TellsOver seat (ended ending (goes_on (Some c) a p)).over (ended ending (goes_on (Some c) a p)).snapshots fs) (sym done.2)
              (aborted_told seat ending p.over (goes_on (Some c) a p).current p.snapshots (goes_on (Some c) a p).snapshot s.over w done.0 aborts done.1.number done.1.begin
              (λ steps. stay w done.0 steps done.1) told.tells.over
              (unchanged_told seat (Some c) a p.current (world.active w) (none_replied c a none) (now_active seat p s active told.tells))
              (none_after (Some c) a p calm (none_active seat p s active told.tells)));
          now = subst (λ (at : Stand). TellsNow seat None at) (sym idle) tt;
          watched = subst (λ (at : Stand). TellsWatched None at) (sym idle) tt;
        };
        runs = λ one is at. absurd (cc);
      });
    }

-- A CALL THAT WAS CUT OFF. What it leaves, where the transaction goes on, and where it ends.
module _ (f : View) (seat : ℕ) (front : Rows → List Event → Type 0) (asks : List Event → Rows → Asked → Type 0) (why : RowStop) (v t : View) (active : phase_at v seat ≡ Active)
    (cut : WereCutBeside f seat front asks why v t) where
  before : Reached seat v cut.at
  before = reached seat cut.events v cut.at active cut.ran

  last : Stopped seat (MayStop cut.asked) why cut.at t
  last = stopped_after seat cut.asked why cut.at t (ap phase_of before.stand) cut.refused

  pub cut_onward : Onward v t
  cut_onward = onward_then v cut.at t before.onward (record { opening = last.goes.opening; tail = last.goes.tail })

  pub cut_goes : rows.ends why ≡ false → GoesFrom (v.session seat) (t.session seat)
  cut_goes stays = (
    before.work,
    ap (λ (s : Session). s.stand) (last.stays stays) ∙ before.stand,
    before.more,
    ap (λ (s : Session). s.over) (last.stays stays) ∙ over_still (v.session seat) (cut.at.session seat) before.work before.grows before.stand,
  )

  pub cut_saves : rows.ends why ≡ false → t.saves seat ≡ v.saves seat
  cut_saves stays = last.goes.saves (ap (λ (s : Session). phase_of s.stand) (last.stays stays) ∙ ap phase_of before.stand) ∙ before.saves

  pub cut_ends : rows.ends why ≡ true → Grows (v.session seat) (t.session seat) × ((t.session seat).stand ≡ world.idle)
  cut_ends ends = (grows_then (v.session seat) (cut.at.session seat) (t.session seat) before.grows last.goes.own, last.ended ends)

-- TRIES. The session waits, and what was told is told still.
pub record Holds (seat : ℕ) (v t : View) : Type 0 where
  pub phase : phase_at t seat ≡ phase_at v seat
  pub goes : Continues (v.session seat) (t.session seat)
  pub saves : t.saves seat ≡ v.saves seat
  pub tells : (p : Progress) → TellsAt seat p v → TellsAt seat p t
  pub onward : Onward v t

held_now : (seat : ℕ) (current : Option Transaction) (w u : Work) → u.number ≡ w.number → u.begin ≡ w.begin
    → ((t : Transaction) → current ≡ Some t → WasRun u (steps_of t)) → TellsNow seat current (world.active w) → TellsNow seat current (world.active u)
held_now seat None w u number begin run told = absurd told
held_now seat (Some t) w u number begin run told = (
  record {
    work = record { session = told.0.work.session; number = told.0.work.number ∙ sym number; begin = told.0.work.begin ∙ sym begin };
    unfinished = told.0.unfinished;
    ran = run t refl;
  },
  told.1,
)

pub holds_passes : (seat : ℕ) (v t : View) → Passes seat v t → Holds seat v t
holds_passes seat v t passes = record {
  phase = ap (λ (s : Session). phase_of s.stand) passes.own;
  goes = continues_itself (v.session seat) (t.session seat) passes.own;
  saves = passes.saves;
  tells = λ p told. told_same seat p v t passes.own passes.saves told;
  onward = onward_passes seat v t passes;
}

pub holds_then : (seat : ℕ) (v u t : View) → Holds seat v u → Holds seat u t → Holds seat v t
holds_then seat v u t first second = record {
  phase = second.phase ∙ first.phase;
  goes = continues_then (v.session seat) (u.session seat) (t.session seat) first.goes second.goes;
  saves = second.saves ∙ first.saves;
  tells = λ p told. second.tells p (first.tells p told);
  onward = onward_then v u t first.onward second.onward;
}

pub holds_cut : (f : View) (seat : ℕ) (front : Rows → List Event → Type 0) (asks : List Event → Rows → Asked → Type 0) (why : RowStop) (v t : View)
    → phase_at v seat ≡ Active → WereCutBeside f seat front asks why v t → rows.ends why ≡ false → Holds seat v t
holds_cut f seat front asks why v t active cut stays =
    let (u, stand, more, over) = cut_goes f seat front asks why v t active cut stays in record {
      phase = ap phase_of stand ∙ sym active;
      goes = went_from (v.session seat) (t.session seat) active (u, stand, more, over);
      saves = cut_saves f seat front asks why v t active cut stays;
      tells = λ p told. record {
        tells = record {
          over = subst (λ (fs : List Finished). TellsOver seat p.over p.snapshots fs) (sym over) told.tells.over;
          now = subst (λ (at : Stand). TellsNow seat p.current at) (sym stand)
              (held_now seat p.current (work_at v seat) u more.number more.begin (λ x is. now_run t seat u x stand (still x (told.runs x is active)))
              (now_active seat p (v.session seat) active told.tells));
          watched = subst (λ (at : Stand). TellsWatched p.snapshot at) (sym stand)
              (none_watched p.snapshot (world.active u) tt (none_active seat p (v.session seat) active told.tells));
        };
        runs = λ x is at. still x (told.runs x is active);
      };
      onward = cut_onward f seat front asks why v t active cut;
    }
  where
    still : (x : Transaction) → RunsBy v seat x → RunsBy t seat x
    still x by = record {
      run = cut.run stays (steps_of x) by.run;
      held = by.held ∙ ap length (sym (cut_saves f seat front asks why v t active cut stays));
    }

pub holds_tried : (f : View) (seat : ℕ) (c : Command) (n : ℕ) (v t : View) → phase_at v seat ≡ Active → WasTried f seat c n v t → Holds seat v t
holds_tried f seat c zero v t active tried = holds_passes seat v t tried
holds_tried f seat c (suc n) v t active (u, (other, seen, cut), rest) =
    let first = holds_cut f seat (FrontOf c) (AsksOf c) (stop.NotYet other seen) v u active cut refl in
    holds_then seat v u t first (holds_tried f seat c n u t (first.phase ∙ active) rest)

-- a turn after the session held
pub turns_held : (seat : ℕ) (asked : Option Command) (a : Answer) (v u t : View) → Holds seat v u → Turns seat asked a u t → Turns seat asked a v t
turns_held seat asked a v u t holds turns = record {
  took = record {
    goes = continues_then (v.session seat) (u.session seat) (t.session seat) holds.goes turns.took.goes;
    phase = ap (λ (x : Phase). phase_after asked a x) (sym holds.phase) ∙ turns.took.phase;
    tells = λ p told. turns.took.tells p (holds.tells p told);
  };
  onward = onward_then v u t holds.onward turns.onward;
}

-- THE LAST TRY. Each refusal has its answer; a wait has none, nor has the want of memory.
module _ (Cut : RowStop → Type 0) (At : Answer → Type 0) (reads : Cut stop.ReadsFull → At answer.ReadsFull)
    (owned : (other number : ℕ) → Cut (stop.Owned other number) → At (answer.Owned other number)) (newer : (stamp : ℕ) → Cut (stop.Newer stamp) → At (answer.Newer stamp))
    (writes : Cut stop.WritesFull → At answer.WritesFull) (cells : (drawn : ℕ) → Cut (stop.CellsFull drawn) → At (answer.CellsFull drawn))
    (oids : (drawn : ℕ) → Cut (stop.OidsFull drawn) → At (answer.OidsFull drawn)) (early : (succ pred : ℕ) → Cut (stop.Excluded succ pred) → At (answer.ExcludedEarly succ pred)) where
  by_answer : (a : Answer) (why : RowStop) → told_at_once why ≡ Some a → Cut why → At a
  by_answer a (stop.NotYet other seen) told cut = cc
  by_answer a stop.ReadsFull told cut = subst At (the_answer answer.ReadsFull a told) (reads cut)
  by_answer a (stop.Owned other number) told cut = subst At (the_answer (answer.Owned other number) a told) (owned other number cut)
  by_answer a (stop.Newer stamp) told cut = subst At (the_answer (answer.Newer stamp) a told) (newer stamp cut)
  by_answer a stop.WritesFull told cut = subst At (the_answer answer.WritesFull a told) (writes cut)
  by_answer a (stop.CellsFull drawn) told cut = subst At (the_answer (answer.CellsFull drawn) a told) (cells drawn cut)
  by_answer a (stop.OidsFull drawn) told cut = subst At (the_answer (answer.OidsFull drawn) a told) (oids drawn cut)
  by_answer a (stop.Excluded succ pred) told cut = subst At (the_answer (answer.ExcludedEarly succ pred) a told) (early succ pred cut)
  by_answer a stop.Memory told cut = cc

module _ (stay : (w u : Work) (steps : List Step) → Extends w u → IsAnswered w steps → IsAnswered u steps) where
  module _ (f : View) (seat : ℕ) (c : Command) (v t : View) (active : phase_at v seat ≡ Active) (named : IsSome (table_of c)) (calm : asks_safe (Some c) ≡ false) where
    abbrev Cut : RowStop → Type 0
    Cut why = WereCutBeside f seat (FrontOf c) (AsksOf c) why v t

    abbrev At : Answer → Type 0
    At a = Turns seat (Some c) a v t

    stays_so : (a : Answer) (why : RowStop) → Cut why → rows.ends why ≡ false → reply_in a ≡ None → phase_after (Some c) a (phase_at v seat) ≡ phase_at v seat
        → ((p : Progress) → heard seat (Some c) a p ≡ goes_on (Some c) a p) → At a
    stays_so a why cut stays none phase hears = record {
      took = took_on seat (Some c) a v t active calm (cut_goes f seat (FrontOf c) (AsksOf c) why v t active cut stays)
          (λ steps was. subst (λ (list : List Step). IsRunOf (kept_at t seat) list)
          (sym (ap (λ (list : List Step). steps ++ list) (none_replied c a none) ∙ append-nil steps)) (cut.run stays steps was))
          (λ x held. held_still (Some c) a x (none_replied c a none) ∙ held ∙ ap length (sym (cut_saves f seat (FrontOf c) (AsksOf c) why v t active cut stays))) phase hears;
      onward = cut_onward f seat (FrontOf c) (AsksOf c) why v t active cut;
    }

    ends_so : (a : Answer) (why : RowStop) (ending : Ending) → Cut why → rows.ends why ≡ true → reply_in a ≡ None → EndsAs ending world.aborts
        → phase_after (Some c) a (phase_at v seat) ≡ Idle → ((p : Progress) → heard seat (Some c) a p ≡ ended ending (goes_on (Some c) a p)) → At a
    ends_so a why ending cut ends none aborts phase hears =
        let out = cut_ends f seat (FrontOf c) (AsksOf c) why v t active cut ends in record {
          took = took_ended seat c a ending v t stay active calm out.0 out.1 none aborts phase hears;
          onward = cut_onward f seat (FrontOf c) (AsksOf c) why v t active cut;
        }

    -- each refusal by its answer
    reads_full : Cut stop.ReadsFull → At answer.ReadsFull
    reads_full cut = stays_so answer.ReadsFull stop.ReadsFull cut refl refl refl (λ p. refl)

    owned_by : (other number : ℕ) → Cut (stop.Owned other number) → At (answer.Owned other number)
    owned_by other number cut = ends_so (answer.Owned other number) (stop.Owned other number) Aborts cut refl refl tt refl (λ p. refl)

    newer_than : (stamp : ℕ) → Cut (stop.Newer stamp) → At (answer.Newer stamp)
    newer_than stamp cut = ends_so (answer.Newer stamp) (stop.Newer stamp) Aborts cut refl refl tt refl (λ p. refl)

    writes_full : Cut stop.WritesFull → At answer.WritesFull
    writes_full cut = stays_so answer.WritesFull stop.WritesFull cut refl refl refl (λ p. refl)

    cells_full : (drawn : ℕ) → Cut (stop.CellsFull drawn) → At (answer.CellsFull drawn)
    cells_full drawn cut = stays_so (answer.CellsFull drawn) (stop.CellsFull drawn) cut refl refl refl (λ p. refl)

    oids_full : (drawn : ℕ) → Cut (stop.OidsFull drawn) → At (answer.OidsFull drawn)
    oids_full drawn cut = stays_so (answer.OidsFull drawn) (stop.OidsFull drawn) cut refl refl refl (λ p. refl)

    shut_early : (succ pred : ℕ) → Cut (stop.Excluded succ pred) → At (answer.ExcludedEarly succ pred)
    shut_early succ pred cut = ends_so (answer.ExcludedEarly succ pred) (stop.Excluded succ pred) (Excludes None succ pred) cut refl refl tt refl (λ p. refl)

    refused_so : (a : Answer) (why : RowStop) → told_at_once why ≡ Some a → Cut why → At a
    refused_so = by_answer Cut At reads_full owned_by newer_than writes_full cells_full oids_full shut_early

    refused_as : (a : Answer) → (why : RowStop) × (told_at_once why ≡ Some a) × Cut why → At a
    refused_as a (why, told, cut) = refused_so a why told cut

    once : (a : Answer) → DidOnce f seat c a v t → At a
    once (answer.Replied r) (op, is, beside) =
        turns_beside seat (Some c) (answer.Replied r) (λ u w. DidCalls u seat (record { op = op; reply = r } ∷ []) (WholeOf c (answer.Replied r)) w) v t beside
        (turn_ran beside.from seat (Some c) (answer.Replied r) beside.to (record { op = op; reply = r } ∷ []) (WholeOf c (answer.Replied r))
        (ap (λ (s : Session). phase_of s.stand) beside.starts ∙ active) calm beside.did (one_replied c op r is)
        (λ x. held_on_map (Some c) (answer.Replied r) x (record { op = op; reply = r }) (one_replied c op r is) (named_on_map c op named is)) refl (λ p. refl))
    once (answer.Cut cells) (is, few, beside) =
        turns_beside seat (Some c) (answer.Cut cells) (λ u w. DidCalls u seat [] (WholeOf c (answer.Cut cells)) w) v t beside
        (turn_ran beside.from seat (Some c) (answer.Cut cells) beside.to [] (WholeOf c (answer.Cut cells))
        (ap (λ (s : Session). phase_of s.stand) beside.starts ∙ active) calm beside.did (none_asked c (answer.Cut cells) is)
        (λ x. held_still (Some c) (answer.Cut cells) x (none_asked c (answer.Cut cells) is)) refl (λ p. refl))
    once a did = refused_as a did

  -- an operation that was answered, or cut off, after its tries
  pub turns_operation : (f : View) (seat : ℕ) (c : Command) (a : Answer) (v t : View) → phase_at v seat ≡ Active → IsSome (table_of c) → asks_safe (Some c) ≡ false → DidOperationBeside f seat c a v t
      → Turns seat (Some c) a v t
  turns_operation f seat c a v t active named calm did =
      let held = holds_tried f seat c did.times v did.at active did.tried in
      turns_held seat (Some c) a v did.at t held (once f seat c did.at t (held.phase ∙ active) named calm a did.once)
