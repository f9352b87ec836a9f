-- The client of a session that was just handed out.
use Rattle.std.proofs.Common.{◌≡◌, ℕ, List, [], ◌∷◌, ◌++◌, length, Some, refl, sym, ap, ◌∙◌, subst}
use Rattle.std.specs.List.{slice_get}
use Rattle.std.specs.Prelude.{None}
use Rattle.erm_client.specs.Clients.{IsClient}
use Rattle.erm_client.specs.declared.client.Client.{Client}
use Rattle.erm_client.specs.Transcripts.{IsNew as IsUnasked}
use Rattle.erm_client_beside.specs.Jobs.{IsJobOf}
use Rattle.erm_engine.specs.Opened.{IsNew, opened_view}
use Rattle.erm_model.proofs.Members.{none_in_nil}
use Rattle.erm_model.specs.declared.outcome.Phase.TheVariants.{Idle}
use Rattle.erm_model.specs.RowTransaction.{Law}
use Rattle.erm_rule.specs.declared.rule.Table.{Table}
use Rattle.erm_rule.specs.declared.view.Opening.{Opening}
use Rattle.erm_rule.specs.Openings.{start_of}
use Rattle.erm_shared_session.specs.declared.session.TableSession.{TableSession}
use Rattle.erm_shared_session.specs.Stands.{Stands, own_of, seat_of}
use Rattle.erm_worker.specs.Work.{IsReady}
use Rattle.erm_world.specs.World.{View, phase_at}

-- it is ready for its first line
none_begun : (o : Opening) (seat : ℕ) → IsReady (opened_view (start_of o)) seat None
none_begun o seat = record { run = λ active. absurd (cc); receipt = λ f in_none committed. none_in_nil f in_none }

pub opened_ready : (o : Opening) (seat : ℕ) (v : View) → v ≡ opened_view (start_of o) → IsReady v seat None
opened_ready o seat v is = subst (λ (w : View). IsReady w seat None) (sym is) (none_begun o seat)

-- and idle
pub opened_idle : (o : Opening) (seat : ℕ) (v : View) → v ≡ opened_view (start_of o) → phase_at v seat ≡ Idle
opened_idle o seat v is = ap (λ (w : View). phase_at w seat) is

-- what comes next stands behind those that came
pub comes_at : {X : Type 0} (gone left rest all : List X) (x : X) → gone ++ left ≡ all → left ≡ x ∷ rest → slice_get all (length gone) ≡ Some x
comes_at {X} gone left rest all x whole is = subst (λ (l : List X). slice_get l (length gone) ≡ Some x) (ap (λ (l : List X). gone ++ l) (sym is) ∙ whole) (behind gone rest x)
  where
    behind : (front rest : List X) (x : X) → slice_get (front ++ x ∷ rest) (length front) ≡ Some x
    behind [] rest x = refl
    behind (y ∷ front) rest x = behind front rest x

pub made_job : {L T P : Type 0} (law : Law) (table : Table L) (o : Opening) (seat : ℕ) (program : P) (s : TableSession L) (client : Client (TableSession L) T (Table L)) → IsNew law table o seat s
    → client.session ≡ s → client.shared.now ≡ table → IsClient (λ t x. Stands law t x) seat_of own_of client → IsUnasked seat client.transcript
    → IsJobOf law table o seat program (record { program = program; client = Some client; finished = None })
made_job {L} law table o seat program s client new same shared is_client unasked = record {
  client = client;
  is = refl;
  none = refl;
  program_is = refl;
  shared_is = shared;
  session = subst (λ (x : TableSession L). IsNew law table o seat x) (sym same) new;
  is_client = is_client;
  unasked = subst (λ (n : ℕ). IsUnasked n client.transcript) (sym (ap (λ (x : TableSession L). seat_of x) same ∙ new.seat_is)) unasked;
}
