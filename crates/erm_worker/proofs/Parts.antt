-- What a worker did as its session's part of an execution of all sessions.
use Rattle.std.proofs.Common.{◌≡◌, ℕ, Bool, true, false, cond, List, [], ◌∷◌, ◌++◌, None, inl, inr, refl, sym, ap, ◌∙◌, subst, le_trans}
use Rattle.std.specs.List.{filter}
use Rattle.std.proofs.lemmas.Bool.Decides.{eqb_tells}
use Rattle.erm_model.specs.declared.outcome.Phase.{Phase}
use Rattle.erm_model.specs.declared.outcome.Phase.TheVariants.{Active, Idle, Sealed, Pending, Safe}
use Rattle.erm_report.specs.declared.answer.Answer.{Answer}
use Rattle.erm_report.specs.declared.answer.Answer.TheVariants as answer
use Rattle.erm_world.specs.World.{View, phase_at}
use Rattle.erm_good_report.specs.Phases.{Closes}
use Rattle.erm_lines.specs.Whole.{is_snapshot}
use Rattle.erm_lines.proofs.Watched.{snapshot_there}
use Rattle.erm_lines.specs.Executions.{Move, close, line_moves}
use Rattle.erm_beside.specs.Calls.{Passes}
use Rattle.erm_lines_at_once.specs.Answers.{DidCloseBeside, DidEndBeside}
use Rattle.erm_lines_at_once.specs.CutRuns.{IsRest, aborted, ended}
use Rattle.erm_lines_at_once.specs.Executions.{DidOwn, IsOwnRun, is_own}
use Rattle.erm_worker.specs.Laws.{AbortedWorkIsACutPart, ClosedWorkIsAPart, HasOwn, LeftWorkIsACutPart, WholeWorkIsAPart}
use Rattle.erm_worker.proofs.Waits.{passes_itself, passes_then}

-- OTHERS. Moves of other sessions between the own ones are none of it.
module _ (f : View) (seat : ℕ) where
  one_among : (b : Bool) (move : Move) (own moves : List Move) (v t : View) → is_own seat move ≡ b → ((w : View) → IsOwnRun f seat w own t → IsOwnRun f seat w moves t)
      → IsOwnRun f seat v (cond b (move ∷ own) own) t → IsOwnRun f seat v (move ∷ moves) t
  one_among true move own moves v t is rest (u, w, passes, did, run) = (u, w, passes, did, rest w run)
  one_among false move own moves v t is rest run = (v, v, passes_itself seat v, subst (λ (b : Bool). DidOwn b f seat move v v) (sym is) refl, rest v run)

  runs_among : (moves : List Move) (v t : View) → IsOwnRun f seat v (filter (λ m. is_own seat m) moves) t → IsOwnRun f seat v moves t
  runs_among [] v t run = run
  runs_among (move ∷ moves) v t run =
      one_among (is_own seat move) move (filter (λ m. is_own seat m) moves) moves v t refl (λ (w : View) (more : IsOwnRun f seat w (filter (λ m. is_own seat m) moves) t). runs_among moves w t more) run

  pub among : (moves own : List Move) (v t : View) → HasOwn seat moves own → IsOwnRun f seat v own t → IsOwnRun f seat v moves t
  among moves own v t is run = runs_among moves v t (subst (λ (ms : List Move). IsOwnRun f seat v ms t) (sym is) run)

  -- others went on behind it
  run_passes : (moves : List Move) (v u t : View) → IsOwnRun f seat v moves u → Passes seat u t → IsOwnRun f seat v moves t
  run_passes [] v u t first passes = passes_then seat v u t first passes
  run_passes (move ∷ moves) v u t (w, x, first, one, rest) passes = (w, x, first, one, run_passes moves x u t rest passes)

  -- it was closed behind it
  run_closed : (moves : List Move) (a : Answer) (v u t : View) → IsOwnRun f seat v moves u → DidEndBeside seat a u t → IsOwnRun f seat v (moves ++ close seat a ∷ []) t
  run_closed [] a v u t passes did = (u, t, passes, own_close a u t did, passes_itself seat t)
    where
      own_close : (a : Answer) (u t : View) → DidEndBeside seat a u t → DidOwn (is_own seat (close seat a)) f seat (close seat a) u t
      own_close a u t did = elim (eqb_tells seat seat) as (λ _. DidOwn (is_own seat (close seat a)) f seat (close seat a) u t) [
        | inl here ↦ subst (λ (b : Bool). DidOwn b f seat (close seat a) u t) (sym here.0) (refl, did)
        | inr there ↦ absurd (there.1 refl)
      ]
  run_closed (move ∷ moves) a v u t (w, x, first, one, rest) did = (w, x, first, one, run_closed moves a x u t rest did)

pub whole : WholeWorkIsAPart
whole f seat lines answers v u t moves ran all passes end own =
    let run : IsOwnRun f seat v (line_moves lines answers) u = subst (λ (x : View). IsOwnRun f seat v (line_moves lines answers) x) (ran.whole all) ran.run in record {
      last = t;
      run = among f seat moves (line_moves lines answers) v t own (run_passes f seat (line_moves lines answers) v u t run passes);
      ends = end.own;
      given_up = end.given_up;
      within = (end.tail, end.flushed);
    }

pub closed : ClosedWorkIsAPart
closed f seat lines answers a v u t moves ran all did end own =
    let run : IsOwnRun f seat v (line_moves lines answers) u = subst (λ (x : View). IsOwnRun f seat v (line_moves lines answers) x) (ran.whole all) ran.run in record {
      last = t;
      run = among f seat moves (line_moves lines answers ++ close seat a ∷ []) v t own (run_closed f seat (line_moves lines answers) a v u t run did);
      ends = end.own;
      given_up = end.given_up;
      within = (end.tail, end.flushed);
    }

pub left : LeftWorkIsACutPart
left f seat lines answers v t moves ran less end own =
    let it = ran.cut less in record {
      last = ran.last;
      end = it.end;
      run = among f seat moves (line_moves lines answers) v ran.last own ran.run;
      rest = it.rest;
      ends = sym it.since.own ∙ end.own;
      given_up = sym it.since.given_up ∙ end.given_up;
      within = (le_trans it.since.tail end.tail, le_trans it.since.flushed end.flushed);
    }

-- a session that an abort closed had a transaction, or a snapshot
rest_of : (f : View) (seat : ℕ) (u t : View) (p : Phase) → phase_at u seat ≡ p → Closes p answer.Aborted → DidCloseBeside p seat answer.Aborted u t → IsRest f seat None u t
rest_of f seat u t Idle is fits did = absurd did
rest_of f seat u t Active is fits (w, passes, did) = aborted w is passes did
rest_of f seat u t Sealed is fits did = absurd fits
rest_of f seat u t Pending is fits did = ended (snapshot_there u seat (ap is_snapshot is)) refl did
rest_of f seat u t Safe is fits did = ended (snapshot_there u seat (ap is_snapshot is)) refl did

pub given_up : AbortedWorkIsACutPart
given_up f seat lines answers v u t moves ran all did end own =
    let run : IsOwnRun f seat v (line_moves lines answers) u = subst (λ (x : View). IsOwnRun f seat v (line_moves lines answers) x) (ran.whole all) ran.run in record {
      last = u;
      end = t;
      run = among f seat moves (line_moves lines answers) v u own run;
      rest = rest_of f seat u t (phase_at u seat) refl did.fits did.did;
      ends = end.own;
      given_up = end.given_up;
      within = (end.tail, end.flushed);
    }
