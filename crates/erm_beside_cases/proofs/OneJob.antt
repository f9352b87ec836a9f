-- The jobs of sessions that were just handed out.
use Rattle.std.proofs.Common.{◌≡◌, ℕ, ◌≤◌, List, [], ◌∷◌, length, Some, refl, sym, ap, ◌∙◌, subst}
use Rattle.std.specs.List.{slice_get}
use Rattle.std.specs.Prelude.{vec_capacity, None}
use Rattle.erm_model.proofs.Members.{none_in_nil}
use Rattle.erm_rule.specs.declared.view.Opening.{Opening}
use Rattle.erm_rule.specs.Openings.{start_of}
use Rattle.erm_world.specs.World.{View}
use Rattle.erm_worker.specs.Work.{IsReady}
use Rattle.erm_worker_cases.specs.Lines.{AreOf}
use Rattle.erm_threads.specs.declared.job.Job.{Job}
use Rattle.erm_threads.specs.Work.{IsJob}
use Rattle.erm_engine.specs.Opened.{opened_view}

opened_ready : (o : Opening) (seat : ℕ) → IsReady (opened_view (start_of o)) seat None
opened_ready o seat = record { run = λ active. absurd (cc); receipt = λ f in_none committed. none_in_nil f in_none }

-- it may be worked, whatever the session is wrapped in
pub one_job : {S T : Type 0} (stands : S → Type 0) (place : S → ℕ) (own : S → View) (o : Opening) (seat : ℕ) (j : Job S T) → stands j.session → place j.session ≡ seat
    → own j.session ≡ opened_view (start_of o) → AreOf seat j.lines.items → j.answers.items ≡ [] → length j.lines.items ≤ vec_capacity j.answers → IsJob stands place own j
one_job stands place own o seat j standing here knows of none room = record {
  stands_so = standing;
  may = record {
    own = λ l m. (of l m).session ∙ sym here;
    may = λ l m. (of l m).may;
    ready = subst (λ (v : View). IsReady v (place j.session) None) (sym knows) (opened_ready o (place j.session));
  };
  none = none;
  room = room;
}

-- the first and the second of some
pub first_of : {X : Type 0} (xs rest : List X) (x : X) → xs ≡ x ∷ rest → slice_get xs 0 ≡ Some x
first_of {X} xs rest x is = subst (λ (l : List X). slice_get l 0 ≡ Some x) (sym is) refl

pub second_of : {X : Type 0} (xs more rest : List X) (x y : X) → xs ≡ x ∷ more → more ≡ y ∷ rest → slice_get xs 1 ≡ Some y
second_of {X} xs more rest x y is then = subst (λ (l : List X). slice_get l 1 ≡ Some y) (sym (is ∙ ap (λ (l : List X). x ∷ l) then)) refl
