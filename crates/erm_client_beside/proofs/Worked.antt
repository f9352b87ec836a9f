-- The jobs of programs with sessions just handed out may be worked, and what their threads left.
use Rattle.std.proofs.Common.{◌≡◌, ℕ, ◌+◌, List, length, Some, sym, ◌∙◌, subst, arith}
use Rattle.std.specs.List.{All, slice_get}
use Rattle.std.proofs.lemmas.Option.{slice_get-get_or}
use Rattle.erm_client.specs.Clients.{WasStarved}
use Rattle.erm_client.specs.declared.client.Finished.{Finished}
use Rattle.erm_client.specs.declared.transcript.Transcript.{Transcript}
use Rattle.erm_client_beside.specs.Back.{AreBack, HasFinished, IsBack}
use Rattle.erm_client_beside.specs.declared.ran.ProgramRun.{ProgramRun}
use Rattle.erm_client_beside.specs.Jobs.{AreJobs, IsJobOf}
use Rattle.erm_client_beside.specs.Left.{AreLeft, IsLeft}
use Rattle.erm_client_threads.proofs.Left.{the_client}
use Rattle.erm_client_threads.specs.declared.job.Job.{Job}
use Rattle.erm_client_threads.specs.Work.{AllWorked, IsJob, Worked}
use Rattle.erm_client_threads.specs.Work as work
use Rattle.erm_engine.proofs.Joined.{at_within}
use Rattle.erm_engine.specs.Opened.{opened_view}
use Rattle.erm_model.specs.declared.outcome.Phase.TheVariants.{Active, Sealed}
use Rattle.erm_model.specs.RowTransaction.{Law}
use Rattle.erm_rule.specs.declared.rule.Table.{Table}
use Rattle.erm_rule.specs.declared.view.Opening.{Opening}
use Rattle.erm_rule.specs.Openings.{start_of}
use Rattle.erm_shared_session.specs.declared.session.TableSession.{TableSession}
use Rattle.erm_shared_session.specs.Stands.{Ends, Stands, own_of, seat_of}
use Rattle.erm_threads.proofs.Jobs.{there_is}
use Rattle.erm_threads.specs.Work.{DidWork}
use Rattle.erm_world.specs.World.{View, phase_at}

module _ {L T P : Type 0} (law : Law) (table : Table L) (o : Opening) where
  -- ONE JOB may be worked
  pub one_job : (seat : ℕ) (program : P) (j : Job (TableSession L) T P (Table L)) → IsJobOf law table o seat program j → IsJob (λ t s. Stands law t s) seat_of own_of j
  one_job seat program j is = record { client = is.client; is = is.is; is_client = is.is_client; new = is.unasked; none = is.none }

  pub all_jobs : (programs : List P) (js : List (Job (TableSession L) T P (Table L))) → AreJobs law table o programs js → All (λ j. IsJob (λ t s. Stands law t s) seat_of own_of j) js
  all_jobs programs js are = λ k d less.
      let there = slice_get-get_or js k d less in
      let many = are.many in
      let p = at_within programs k (omega (arith, less, many)) in
      one_job (k + 1) p.0 _ (are.each k p.0 _ p.1 there)

  -- ONE PROGRAM behind its thread
  module _ (promises : P → P → Transcript → Type 0) (so : Type 0) (told : T → Type 0) where
    left_now : (seat : ℕ) (program : P) (j b : Job (TableSession L) T P (Table L)) (left : Finished (TableSession L) T) (is : IsJobOf law table o seat program j)
        → work.IsLeft (λ t s. Stands law t s) seat_of own_of (λ s f. Ends law s f) told is.client left → promises j.program b.program left.transcript
        → (told left.turns → so) → IsLeft law table o promises so seat program left.session (record { program = b.program; transcript = left.transcript; closed = left.closed })
    left_now seat program j b left is was promised why =
        let place : seat_of is.client.session ≡ seat = is.session.seat_is in
        let own : own_of is.client.session ≡ opened_view (start_of o) = is.session.own in
        record {
          stands = subst (λ (t : Table L). Stands law t left.session) is.shared_is was.stands_so;
          seat_is = was.onward.seat_is ∙ place;
          rests = λ active. was.rests (subst (λ (q : ℕ). phase_at (own_of left.session) q ≡ Active) (sym place) active);
          place = was.seat_is ∙ place;
          transcript_ok = was.transcript_ok;
          promised = subst (λ (p : P). promises p b.program left.transcript) is.program_is promised;
          did = λ some f end.
              subst (λ (q : ℕ). DidWork f q left.transcript.lines.items left.transcript.answers.items left.closed (opened_view (start_of o)) (own_of left.session)) (was.seat_is ∙ place)
              (subst (λ (v : View). DidWork f left.transcript.seat left.transcript.lines.items left.transcript.answers.items left.closed v (own_of left.session)) own (was.did some f end));
          starved = λ lacked f end.
              subst (λ (q : ℕ). WasStarved f q left.transcript.lines.items left.transcript.answers.items left.closed (opened_view (start_of o)) (own_of left.session)) (was.seat_is ∙ place)
              (subst (λ (v : View). WasStarved f left.transcript.seat left.transcript.lines.items left.transcript.answers.items left.closed v (own_of left.session)) own (was.starved lacked f end));
          stops = λ stopped. why (was.stops stopped);
          waits = λ opened none sealed. why (was.waits opened none (subst (λ (q : ℕ). phase_at (own_of left.session) q ≡ Sealed) (sym place) sealed));
        }

    pub one_left : (seat : ℕ) (program : P) (j b : Job (TableSession L) T P (Table L)) (s : TableSession L) (r : ProgramRun P) → IsJobOf law table o seat program j
        → Worked (λ t x. Stands law t x) seat_of own_of (λ x f. Ends law x f) told promises j b → IsBack b s r
        → ((left : Finished (TableSession L) T) → b.finished ≡ Some left → told left.turns → so)
        → IsLeft law table o promises so seat program s r
    one_left seat program j b s r is worked back why =
        let same = the_client worked.left back.left b.finished worked.is back.is in
        subst (λ (x : TableSession L). IsLeft law table o promises so seat program x r) (sym back.session_is)
        (subst (λ (x : ProgramRun P). IsLeft law table o promises so seat program back.left.session x) (sym back.run_is)
        (left_now seat program j b back.left is
        (subst (λ (x : Finished (TableSession L) T). work.IsLeft (λ t y. Stands law t y) seat_of own_of (λ y f. Ends law y f) told is.client x) same (worked.is_left is.client is.is))
        (subst (λ (x : Finished (TableSession L) T). promises j.program b.program x.transcript) same worked.promised)
        (why back.left back.is)))

    pub all_left : (programs : List P) (js bs : List (Job (TableSession L) T P (Table L))) (ss : List (TableSession L)) (rs : List (ProgramRun P)) → length bs ≡ length js → AreJobs law table o programs js
        → AllWorked (λ t x. Stands law t x) seat_of own_of (λ x f. Ends law x f) told promises js bs → AreBack bs ss rs
        → ((k : ℕ) (b : Job (TableSession L) T P (Table L)) → slice_get bs k ≡ Some b → (left : Finished (TableSession L) T) → b.finished ≡ Some left → told left.turns → so)
        → AreLeft law table o promises so programs ss rs
    all_left programs js bs ss rs long are worked back why = record {
      many = let a = are.many in let b = back.many in omega (arith, a, b, long);
      as_many = let a = are.many in let b = back.as_many in omega (arith, a, b, long);
      each = λ k p s r at_p at_s at_r.
          let less = there_is programs k p at_p in
          let many = are.many in
          let j = at_within js k (omega (arith, less, many)) in
          let b = at_within bs k (omega (arith, less, many, long)) in
          one_left (k + 1) p j.0 b.0 s r (are.each k p j.0 at_p j.1) (worked k j.0 b.0 j.1 b.1) (back.each k b.0 s r b.1 at_s at_r) (why k b.0 b.1);
    }

    -- THEY HAVE FINISHED
    pub all_finished : (js bs : List (Job (TableSession L) T P (Table L))) → length bs ≡ length js → AllWorked (λ t x. Stands law t x) seat_of own_of (λ x f. Ends law x f) told promises js bs
        → (k : ℕ) (b : Job (TableSession L) T P (Table L)) → slice_get bs k ≡ Some b → HasFinished b
    all_finished js bs long worked k b at =
        let less = there_is bs k b at in
        let j = at_within js k (omega (arith, less, long)) in
        let w = worked k j.0 b j.1 at in
        record { gone = w.gone; left = w.left; is = w.is }
