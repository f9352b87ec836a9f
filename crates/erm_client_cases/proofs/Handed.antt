-- Sessions that were just handed out, and clients of them that were asked nothing.
use Rattle.std.proofs.Common.{◌≡◌, ℕ, List, ◌∷◌, Some, refl, sym, ap, ◌∙◌, subst}
use Rattle.std.specs.List.{slice_get}
use Rattle.std.specs.Prelude.{None}
use Rattle.erm_client.specs.Dealings.{AllCommitted, AllOver}
use Rattle.erm_client.specs.declared.transcript.Transcript.{Transcript}
use Rattle.erm_client.specs.Transcripts.{IsNew}
use Rattle.erm_engine.specs.Opened.{opened_view}
use Rattle.erm_good_report.specs.Transactions.{progress_of, said_of}
use Rattle.erm_model.proofs.Members.{none_in_nil}
use Rattle.erm_model.specs.declared.outcome.Phase.TheVariants.{Idle}
use Rattle.erm_model.specs.Run.{Step}
use Rattle.erm_rule.specs.declared.view.Opening.{Opening}
use Rattle.erm_rule.specs.Openings.{start_of}
use Rattle.erm_script.specs.declared.script.ScriptLine.{ScriptLine}
use Rattle.erm_worker.specs.Work.{IsReady}
use Rattle.erm_world.specs.World.{View, phase_at}

opened_ready : (o : Opening) (seat : ℕ) → IsReady (opened_view (start_of o)) seat None
opened_ready o seat = record { run = λ active. absurd (cc); receipt = λ f in_none committed. none_in_nil f in_none }

-- a session that was just handed out is ready for its first line
pub new_ready : (o : Opening) (seat : ℕ) (v : View) → v ≡ opened_view (start_of o) → IsReady v seat None
new_ready o seat v is = subst (λ (w : View). IsReady w seat None) (sym is) (opened_ready o seat)

-- and idle
pub new_idle : (o : Opening) (seat : ℕ) (v : View) → v ≡ opened_view (start_of o) → phase_at v seat ≡ Idle
new_idle o seat v is = ap (λ (w : View). phase_at w seat) is

-- of a client that was asked nothing no transaction committed
pub none_committed : (Kind : List Step → Type 0) (seat : ℕ) (c : Transcript) → IsNew seat c → AllCommitted Kind c
none_committed Kind seat c new =
    subst (λ (ls : List ScriptLine). AllOver Kind (progress_of c.seat (said_of ls c.answers.items))) (sym new.lines)
    (λ t stamp succ pred over commits. absurd (none_in_nil t over))

-- the first and the second of some
pub first_of : {X : Type 0} (xs rest : List X) (x : X) → xs ≡ x ∷ rest → slice_get xs 0 ≡ Some x
first_of {X} xs rest x is = subst (λ (l : List X). slice_get l 0 ≡ Some x) (sym is) refl

pub second_of : {X : Type 0} (xs more rest : List X) (x y : X) → xs ≡ x ∷ more → more ≡ y ∷ rest → slice_get xs 1 ≡ Some y
second_of {X} xs more rest x y is then = subst (λ (l : List X). slice_get l 1 ≡ Some y) (sym (is ∙ ap (λ (l : List X). x ∷ l) then)) refl
