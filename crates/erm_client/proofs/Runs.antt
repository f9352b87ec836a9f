-- A transcript's run: one line more.
use Rattle.std.proofs.Common.{◌≡◌, ℕ, List, [], ◌∷◌, ◌++◌, length, Some, refl, sym, ap, ◌∙◌, subst, arith}
use Rattle.std.proofs.lemmas.List.{length-append}
use Rattle.std.specs.List.{slice_get}
use Rattle.erm_lines.specs.Executions.{Move, line_moves, move_of}
use Rattle.erm_lines_at_once.specs.Answers.{DidLineBeside}
use Rattle.erm_lines_at_once.specs.Executions.{IsOwnRun}
use Rattle.erm_report.specs.declared.answer.Answer.{Answer}
use Rattle.erm_script.specs.declared.script.ScriptLine.{ScriptLine}
use Rattle.erm_worker.proofs.Runs.{line_more, stopped_lines}
use Rattle.erm_worker.proofs.Waits.{passes_itself}
use Rattle.erm_worker.specs.Work.{IsOfSession, RanLines, WasLeft}
use Rattle.erm_world.specs.World.{View}

no_moves : (lines : List ScriptLine) → line_moves lines [] ≡ []
no_moves [] = refl
no_moves (l ∷ lines) = refl

-- lines behind those answered are no moves
front_moves : (lines more : List ScriptLine) (answers : List Answer) → length answers ≡ length lines → line_moves (lines ++ more) answers ≡ line_moves lines answers
front_moves [] more [] each = no_moves more
front_moves [] more (a ∷ answers) each = absurd (omega arith)
front_moves (l ∷ lines) more [] each = absurd (omega arith)
front_moves (l ∷ lines) more (a ∷ answers) each = ap (λ (moves : List Move). move_of l a ∷ moves) (front_moves lines more answers (omega arith))

last_line : (lines : List ScriptLine) (l : ScriptLine) → slice_get (lines ++ l ∷ []) (length lines) ≡ Some l
last_line [] l = refl
last_line (x ∷ lines) l = last_line lines l

module _ (f : View) (seat : ℕ) (lines : List ScriptLine) (answers : List Answer) (l : ScriptLine) (v u t : View) (ran : RanLines f seat lines answers v u) (each : length answers ≡ length lines) where
  at : slice_get (lines ++ l ∷ []) (length answers) ≡ Some l
  at = ap (λ (n : ℕ). slice_get (lines ++ l ∷ []) n) each ∙ last_line lines l

  run : IsOwnRun f seat v (line_moves (lines ++ l ∷ []) answers) u
  run = subst (λ (moves : List Move). IsOwnRun f seat v moves u) (sym (front_moves lines (l ∷ []) answers each))
      (subst (λ (x : View). IsOwnRun f seat v (line_moves lines answers) x) (ran.whole each) ran.run)

  pub more_ran : (a : Answer) → l.session ≡ seat → IsOfSession l.command → DidLineBeside f l a u t → RanLines f seat (lines ++ l ∷ []) (answers ++ a ∷ []) v t
  more_ran a own of did = record {
    last = t;
    run = line_more f seat (lines ++ l ∷ []) answers l a v u t at own of run did;
    whole = λ all. refl;
    cut = λ less. absurd (omega (arith, less, each, length-append lines (l ∷ []), length-append answers (a ∷ [])));
  }

  pub stopped_ran : WasLeft f seat (Some l) u t → RanLines f seat (lines ++ l ∷ []) answers v t
  stopped_ran left = stopped_lines f seat (lines ++ l ∷ []) answers l v u t at run left

-- nothing was asked yet
pub none_ran : (f : View) (seat : ℕ) (v : View) → RanLines f seat [] [] v v
none_ran f seat v = record { last = v; run = passes_itself seat v; whole = λ all. refl; cut = λ less. absurd (omega arith) }
