-- Turns of an active session that makes a savepoint, or goes back to one.
use Rattle.std.proofs.Common.{◌≡◌, ℕ, ◌+◌, ◌≤◌, List, [], ◌∷◌, length, length-append, Some, refl, sym, ap, ◌∙◌, subst, arith}
use Rattle.std.proofs.lemmas.List.{length-take-le}
use Rattle.std.proofs.lemmas.Option.{slice_get_within}
use Rattle.erm_model.specs.declared.outcome.Phase.TheVariants.{Active}
use Rattle.erm_model.specs.Run.{Step}
use Rattle.erm_report.specs.declared.answer.Answer.{Answer}
use Rattle.erm_report.specs.declared.answer.Answer.TheVariants as answer
use Rattle.erm_script.specs.declared.script.Command.TheVariants as command
use Rattle.erm_world.specs.Going.{Extends}
use Rattle.erm_world.specs.Saves.{DidSave, WentBack}
use Rattle.erm_world.specs.World.{View, Work, phase_at, work_at}
use Rattle.erm_maps.specs.Runs.{IsRunOf, Kept, kept_at}
use Rattle.erm_good_report.specs.Transactions.{Transaction, steps_of, with_line}
use Rattle.erm_lines.specs.Answers.{DidAskBack, DidAskSave}
use Rattle.erm_lines.proofs.Saved.{Saves, back_goes, back_runs, kept_back, kept_saving, save_runs, saved}
use Rattle.erm_told.proofs.Going.{extends_itself}
use Rattle.erm_told.proofs.Operations.{Works, went_on}
use Rattle.erm_told.proofs.Steps.{held_back, held_saved, steps_with}
use Rattle.erm_told.proofs.Turns.{RunsBy, Turn, told_still, turn_still}

works_with : (v : View) (seat : ℕ) (t : View) → phase_at v seat ≡ Active → Saves v seat t → Extends (work_at v seat) (work_at t seat) → Works v seat t
works_with v seat t active did more = record {
  active = did.active active;
  over = did.over;
  more = more;
  others = did.others;
  saves = did.saves;
  opening = did.opening;
  tail = did.tail;
}

-- A SAVEPOINT MORE. The line tells one.
module _ (v : View) (seat held : ℕ) (t : View) (did : DidSave v seat held t) where
  saved_more : Extends (work_at v seat) (work_at t seat)
  saved_more = subst (λ (w : Work). Extends (work_at v seat) w) (sym (ap (λ (k : Kept). k.work) (kept_saving v t seat did.saved))) (extends_itself (work_at v seat))

  saved_count : length (t.saves seat) ≡ length (v.saves seat) + 1
  saved_count = ap (λ (k : Kept). length k.saves) (kept_saving v t seat did.saved) ∙ length-append (v.saves seat) ((work_at v seat).claims ∷ [])

  saved_by : (u : Transaction) → RunsBy v seat u → RunsBy t seat (with_line (Some command.Save) (answer.Saved held) u)
  saved_by u by = record {
    run = subst (λ (steps : List Step). IsRunOf (kept_at t seat) steps) (sym (steps_with (Some command.Save) (answer.Saved held) u)) (save_runs v t seat held (steps_of u) by.run did);
    held = omega (arith, held_saved u held, by.held, saved_count);
  }

pub turn_save : (v : View) (seat : ℕ) (a : Answer) (t : View) → phase_at v seat ≡ Active → DidAskSave v seat a t → Turn v seat (Some command.Save) a t
turn_save v seat (answer.Saved held) t active did =
    went_on v seat (Some command.Save) (answer.Saved held) t active refl (works_with v seat t active (saved v t seat (answer.Saved held) did) (saved_more v seat held t did))
    (saved_by v seat held t did) refl (λ p. refl)
turn_save v seat answer.SavesFull t active did =
    turn_still v seat (Some command.Save) answer.SavesFull t did.0 refl (λ p told. told_still seat (Some command.Save) answer.SavesFull p v refl refl told)
turn_save v seat a t active did = absurd did

-- A WAY BACK. The line tells to which.
module _ (v : View) (seat n : ℕ) (t : View) (did : WentBack v seat n t) where
  is_held : n ≤ length (v.saves seat)
  is_held = omega (arith, did.number, slice_get_within (v.saves seat) did.place did.saved did.was_saved)

  back_count : length (t.saves seat) ≡ n
  back_count = ap (λ (k : Kept). length k.saves) (kept_back v t seat n did) ∙ length-take-le n (v.saves seat) is_held

  back_by : (u : Transaction) → RunsBy v seat u → RunsBy t seat (with_line (Some (command.Back n)) (answer.Back n) u)
  back_by u by = record {
    run = subst (λ (steps : List Step). IsRunOf (kept_at t seat) steps) (sym (steps_with (Some (command.Back n)) (answer.Back n) u)) (back_runs v t seat n (steps_of u) by.run did);
    held = held_back u n (omega (arith, did.number)) (omega (arith, is_held, by.held)) ∙ sym back_count;
  }

pub turn_back : (v : View) (seat n : ℕ) (a : Answer) (t : View) → phase_at v seat ≡ Active → DidAskBack v seat n a t → Turn v seat (Some (command.Back n)) a t
turn_back v seat n (answer.Back m) t active (is, did, more) = subst (λ (k : ℕ). Turn v seat (Some (command.Back n)) (answer.Back k) t) (sym is)
    (went_on v seat (Some (command.Back n)) (answer.Back n) t active refl (works_with v seat t active (back_goes v t seat n did) more) (back_by v seat n t did) refl (λ p. refl))
turn_back v seat n (answer.NoSave held) t active did =
    turn_still v seat (Some (command.Back n)) (answer.NoSave held) t did.0 refl (λ p told. told_still seat (Some (command.Back n)) (answer.NoSave held) p v refl refl told)
turn_back v seat n a t active did = absurd did
