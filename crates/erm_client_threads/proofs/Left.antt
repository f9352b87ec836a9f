-- A client that was left behind its program.
use Rattle.std.proofs.Common.{◌≡◌, ℕ, Option, Some, None, sym, ap, ◌∙◌, subst}
use Rattle.erm_beside.specs.Laws.{GoesOnward}
use Rattle.erm_beside.specs.Onward.{onward_then}
use Rattle.erm_client.proofs.Grown.{new_ran}
use Rattle.erm_client.specs.Clients.{FinishesWork, GoesOn, HasRun, StarvesWork}
use Rattle.erm_client.specs.declared.client.Client.{Client}
use Rattle.erm_client.specs.declared.client.Finished.{Finished}
use Rattle.erm_client.specs.declared.transcript.Standing.TheVariants as standing
use Rattle.erm_client.specs.declared.transcript.Transcript.{Transcript}
use Rattle.erm_client.specs.Transcripts.{IsNew, IsTranscript}
use Rattle.erm_client_threads.specs.Work.{IsLeft}
use Rattle.erm_model.specs.declared.outcome.Phase.TheVariants.{Active, Sealed}
use Rattle.erm_world.specs.World.{View, phase_at}

-- the one client that there is
pub the_client : {C : Type 0} (a b : C) (o : Option C) → o ≡ Some a → o ≡ Some b → a ≡ b
the_client a b o is so = cc

module _ {S T X : Type 0} (stands : X → S → Type 0) (seat : S → ℕ) (own : S → View) (ends : S → View → Type 0) (told : T → Type 0) (c d : Client S T X)
    (new : IsNew (seat c.session) c.transcript) (on : GoesOn stands seat own ends told c d) where
  -- it did what its transcript tells
  pub ran_so : (f : View) → ends d.session f → HasRun f (own c.session) d.transcript (own d.session)
  ran_so f end = on.ran (own c.session) (λ g _. new_ran g (own c.session) (seat c.session) c.transcript new) f end

  pub client_left : (left : Finished S T) → stands d.shared.now left.session → GoesOnward (seat d.session) (seat left.session) (ends d.session) (ends left.session)
      → left.transcript ≡ d.transcript → (phase_at (own left.session) (seat d.session) ≡ Active → ⊥)
      → FinishesWork (ends d.session) (own d.session) (ends left.session) (own left.session) left.transcript left.closed
      → StarvesWork (ends d.session) (own d.session) (ends left.session) (own left.session) left.transcript left.closed
      → (d.transcript.standing ≡ standing.Open → left.closed ≡ None → phase_at (own left.session) (seat d.session) ≡ Sealed → told left.turns)
      → (d.transcript.standing ≡ standing.Stopped → told left.turns) → IsLeft stands seat own ends told c left
  client_left left standing_so onward same rests did starved waits stops =
      let seat_is : seat d.session ≡ seat c.session = on.onward.seat_is in
      record {
        stands_so = subst (λ x. stands x.now left.session) on.same standing_so;
        onward = onward_then (seat c.session) (seat d.session) (seat left.session) (ends c.session) (ends d.session) (ends left.session) on.onward onward;
        rests = λ active. rests (subst (λ (q : ℕ). phase_at (own left.session) q ≡ Active) (sym seat_is) active);
        seat_is = ap (λ (t : Transcript). t.seat) same ∙ on.client.seat_is ∙ seat_is;
        transcript_ok = subst IsTranscript (sym same) on.client.transcript_ok;
        did = λ some f end. did some (own c.session) (λ g at. subst (λ (t : Transcript). HasRun g (own c.session) t (own d.session)) (sym same) (ran_so g at)) f end;
        starved = λ lacked f end.
            starved lacked (own c.session) (λ g at. subst (λ (t : Transcript). HasRun g (own c.session) t (own d.session)) (sym same) (ran_so g at)) f end;
        stops = λ stopped. stops (sym (ap (λ (t : Transcript). t.standing) same) ∙ stopped);
        waits = λ opened none sealed. waits (sym (ap (λ (t : Transcript). t.standing) same) ∙ opened) none (subst (λ (q : ℕ). phase_at (own left.session) q ≡ Sealed) (sym seat_is) sealed);
      }
