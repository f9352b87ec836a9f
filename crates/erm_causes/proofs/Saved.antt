-- A line that makes a savepoint, or goes back to one, leaves its session so that its transactions touch objects of their lines' tables alone.
use Rattle.std.proofs.Common.{◌≡◌, ℕ, List, [], ◌∷◌, ◌++◌, Some, inl, inr, sym, ap, ◌∙◌, subst}
use Rattle.std.specs.List.{slice_get}
use Rattle.erm_model.specs.declared.history.VersionWritten.{VersionWritten}
use Rattle.erm_model.specs.Rows.{Rows}
use Rattle.erm_model.specs.Run.{Step}
use Rattle.erm_model.proofs.Members.{slice_get-push}
use Rattle.erm_model.proofs.Savings.{slice_get-take}
use Rattle.erm_world.specs.Saves.{AreSavesOf, DidSave, WentBack, restored, with_claims}
use Rattle.erm_world.specs.Works.{is_claimed}
use Rattle.erm_world.specs.World.{Session, View, made_in, work_at}
use Rattle.erm_maps.specs.Runs.{IsRunOf, Kept, going_back, kept_at, saving}
use Rattle.erm_maps.proofs.Kept.{IsRunOf-saving, back_step, save_step}
use Rattle.erm_report.specs.declared.answer.Answer.{Answer}
use Rattle.erm_report.specs.declared.answer.Answer.TheVariants as answer
use Rattle.erm_good_report.specs.Transactions.{Transaction}
use Rattle.erm_lines.specs.Answers.{DidAskBack, DidAskSave}
use Rattle.erm_lines.proofs.Backs.{claimed_back, fits_saved, seen_back}
use Rattle.erm_lines.proofs.Saved.{Saves, back_goes, back_runs, holds, kept_back, kept_saving, still}
use Rattle.erm_causes.specs.Touched.{AreOfTables, Touches}
use Rattle.erm_causes.proofs.Coloured.{KeepsTables}
use Rattle.erm_causes.proofs.Fine.{FineAt, KeepsSaved}

-- A line of savepoints was refused, and nothing happened; or it made one more, or went back to one.
pub data AtSavepoint (v : View) (seat : ℕ) (t : View) : Type 0 where
  refused : t ≡ v → AtSavepoint v seat t
  saved : (held : ℕ) → DidSave v seat held t → AtSavepoint v seat t
  back : (n : ℕ) → WentBack v seat n t → AtSavepoint v seat t

pub asked_save : (v t : View) (seat : ℕ) (a : Answer) → DidAskSave v seat a t → AtSavepoint v seat t
asked_save v t seat (answer.Saved held) did = saved held did
asked_save v t seat answer.SavesFull did = refused did.0
asked_save v t seat a did = absurd did

pub asked_back : (v t : View) (seat n : ℕ) (a : Answer) → DidAskBack v seat n a t → AtSavepoint v seat t
asked_back v t seat n (answer.Back m) did = back n did.1
asked_back v t seat n (answer.NoSave held) did = refused did.0
asked_back v t seat n a did = absurd did

-- VIEWS. The session's transaction goes on, and it has made what it had.
pub saves_of : (v t : View) (seat : ℕ) → AtSavepoint v seat t → Saves v seat t
saves_of v t seat (refused is) = still v t seat is
saves_of v t seat (saved held did) = holds v t seat (v.saves seat ++ (work_at v seat).claims ∷ []) did.saved
saves_of v t seat (back n did) = back_goes v t seat n did

pub saves_made : (v t : View) (seat x : ℕ) → AtSavepoint v seat t → made_in (t.session seat) x ≡ made_in (v.session seat) x
saves_made v t seat x (refused is) = ap (λ (u : View). made_in (u.session seat) x) is
saves_made v t seat x (saved held did) = ap (λ (u : View). made_in (u.session seat) x) did.saved
saves_made v t seat x (back n did) = ap (λ (u : View). made_in (u.session seat) x) did.saves ∙ ap (λ (s : Session). made_in s x) did.claims.own

-- and it has claimed what it had, from its begin on
pub savepoint_begin : (v t : View) (seat : ℕ) → AtSavepoint v seat t → (work_at t seat).begin ≡ (work_at v seat).begin
savepoint_begin v t seat (refused is) = ap (λ (u : View). (work_at u seat).begin) is
savepoint_begin v t seat (saved held did) = ap (λ (u : View). (work_at u seat).begin) did.saved
savepoint_begin v t seat (back n did) = ap (λ (k : Kept). k.work.begin) (kept_back v t seat n did)

pub savepoint_claims : (v t : View) (seat x : ℕ) → AreSavesOf (work_at v seat) (v.saves seat) → AtSavepoint v seat t
    → is_claimed (work_at t seat).claims x ≡ is_claimed (work_at v seat).claims x
savepoint_claims v t seat x has (refused is) = ap (λ (u : View). is_claimed (work_at u seat).claims x) is
savepoint_claims v t seat x has (saved held did) = ap (λ (u : View). is_claimed (work_at u seat).claims x) did.saved
savepoint_claims v t seat x has (back n did) =
    ap (λ (k : Kept). is_claimed k.work.claims x) (kept_back v t seat n did) ∙ claimed_back (work_at v seat) did.saved (has did.place did.saved did.was_saved) x

-- WORKS. What one that is back sees is of its tables.
module _ (table : ℕ → ℕ) (k : Kept) (steps : List Step) (run : IsRunOf k steps) (keeps : KeepsSaved table k) (n : ℕ) (saved_claims : List VersionWritten)
    (at : slice_get k.saves n ≡ Some saved_claims) where
  back_keeps : KeepsTables table (with_claims (restored saved_claims k.work.claims) k.work)
  back_keeps rows sound fits are =
      subst (λ (seen : Rows). AreOfTables table seen) (sym (seen_back k steps run n saved_claims at rows fits))
      (keeps n saved_claims at rows sound (fits_saved k.work saved_claims (run.saves n saved_claims at) rows fits) are)

  back_touches : (t : Transaction) → Touches table t k.work → Touches table t (with_claims (restored saved_claims k.work.claims) k.work)
  back_touches t touches = record {
    reads = touches.reads;
    claims = λ x is. touches.claims x (sym (claimed_back k.work saved_claims (run.saves n saved_claims at) x) ∙ is);
  }

more_saved : (table : ℕ → ℕ) (k : Kept) → KeepsTables table k.work → KeepsSaved table k → KeepsSaved table (saving k)
more_saved table k now before j claims at =
    elim (slice_get-push k.saves k.work.claims claims j at) [
      | inl here ↦ before j claims here.1
      | inr last ↦ subst (λ (list : List VersionWritten). KeepsTables table (with_claims list k.work)) last.1 now
    ]

pub at_fine : (table : ℕ → ℕ) (v t : View) (seat : ℕ) (told : Transaction) → AtSavepoint v seat t → FineAt table told (kept_at v seat) → FineAt table told (kept_at t seat)
at_fine table v t seat told (refused is) fine = subst (λ (u : View). FineAt table told (kept_at u seat)) (sym is) fine
at_fine table v t seat told (saved held did) fine = subst (λ (k : Kept). FineAt table told k) (sym (kept_saving v t seat did.saved)) (record {
  touches = fine.touches;
  keeps = fine.keeps;
  saved = more_saved table (kept_at v seat) fine.keeps fine.saved;
  steps = fine.steps ++ save_step ∷ [];
  run = IsRunOf-saving (kept_at v seat) fine.steps fine.run;
})
at_fine table v t seat told (back n did) fine =
    let k : Kept = kept_at v seat in
    let is : kept_at t seat ≡ going_back n did.saved k = kept_back v t seat n did in record {
      touches = subst (λ (x : Kept). Touches table told x.work) (sym is) (back_touches table k fine.steps fine.run fine.saved did.place did.saved did.was_saved told fine.touches);
      keeps = subst (λ (x : Kept). KeepsTables table x.work) (sym is) (back_keeps table k fine.steps fine.run fine.saved did.place did.saved did.was_saved);
      saved = subst (λ (x : Kept). KeepsSaved table x) (sym is) (λ j claims at. fine.saved j claims (slice_get-take n k.saves j claims at));
      steps = fine.steps ++ back_step n ∷ [];
      run = back_runs v t seat n fine.steps fine.run did;
    }
