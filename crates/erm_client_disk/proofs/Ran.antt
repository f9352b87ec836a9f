-- Programs that ran on a table, and what their clients did in the world in which all ended.
use Rattle.std.proofs.Common.{◌≡◌, ℕ, zero, suc, ◌+◌, ◌-◌, ◌<◌, ◌≤◌, ⊎_elim, Bool, false, List, [], ◌∷◌, length, Option, Some, inl, inr, refl, sym, ap, ◌∙◌, subst, arith}
use Rattle.std.proofs.lemmas.Bool.{cases_lt}
use Rattle.std.proofs.lemmas.List.{length-map}
use Rattle.std.specs.List.{slice_get}
use Rattle.erm_client.proofs.Grown.{open_each}
use Rattle.erm_client.specs.declared.transcript.Standing.{Standing}
use Rattle.erm_client.specs.declared.transcript.Standing.TheVariants as standing
use Rattle.erm_client.specs.declared.transcript.Transcript.{Transcript}
use Rattle.erm_client.specs.Laws.{AreFrom}
use Rattle.erm_client.specs.Transcripts.{IsTranscript}
use Rattle.erm_client_beside.specs.declared.ran.ProgramRun.{ProgramRun}
use Rattle.erm_client_beside.specs.Ran.{HaveRun, IsRun}
use Rattle.erm_client_disk.specs.Ends.{EndLaws}
use Rattle.erm_client_disk.specs.Ran.{NoneStarved, closes_of, transcripts_of}
use Rattle.erm_client_told.proofs.Lines.{few_answers}
use Rattle.erm_client_told.specs.Starved.{DidForClient}
use Rattle.erm_client_told.specs.Told.{answers_by, parts_of}
use Rattle.erm_engine.proofs.Joined.{at_within}
use Rattle.erm_engine.specs.Ended.{IsUntouched, world_of}
use Rattle.erm_engine.specs.Opened.{opened_view}
use Rattle.erm_model.specs.declared.limits.TheConstants.{SESSIONS}
use Rattle.erm_model.specs.declared.outcome.Phase.TheVariants.{Idle, Sealed}
use Rattle.erm_model.specs.Member.{◌∈◌}
use Rattle.erm_node.specs.Sound.{sound_law}
use Rattle.erm_report.specs.declared.answer.Answer.{Answer}
use Rattle.erm_rule.specs.declared.view.Book.{Book}
use Rattle.erm_rule.specs.declared.view.Opening.{Opening}
use Rattle.erm_rule.specs.Openings.{start_of}
use Rattle.erm_run_beside.proofs.More.{map_to}
use Rattle.erm_script.specs.declared.script.ScriptLine.{ScriptLine}
use Rattle.erm_threads.proofs.Jobs.{map_from, there_is}
use Rattle.erm_threads.specs.Work.{DidWork}
use Rattle.erm_works.proofs.Sessions.{phase_there}
use Rattle.erm_works.specs.Works.{AreComplete, Did, DidSo, HaveDone, IsComplete}
use Rattle.erm_world.specs.World.{IsSession, Session, View, phase_at, phase_of}

-- one that may be asked still, or was told to stop, isn't one for which memory ran out
open_unstarved : (s : Standing) → s ≡ standing.Open → s ≡ standing.Starved → ⊥
open_unstarved s opened starved = cc

stopped_unstarved : (s : Standing) → s ≡ standing.Stopped → s ≡ standing.Starved → ⊥
stopped_unstarved s stopped starved = cc

-- ONE PROGRAM
module _ {P : Type 0} (promises : P → P → Transcript → Type 0) (failed : Bool) (f : View) (seat : ℕ) (v : View) (p : P) (r : ProgramRun P) (is : IsRun promises failed f seat v p r) where
  -- its session did its work, where memory sufficed
  pub did_session : (r.transcript.standing ≡ standing.Starved → ⊥) → DidSo DidWork f seat v r.transcript.lines.items r.transcript.answers.items r.closed
  did_session some = record { last = is.last; at_end = is.at_end; rests = is.rests; most = few_answers r.transcript is.transcript_ok; did = is.did some }

  -- or else its lines
  did_so : (now : Standing) → r.transcript.standing ≡ now → DidForClient f seat r.transcript.lines.items r.transcript.answers.items r.closed v is.last
  did_so standing.Open now = inl (is.did (open_unstarved r.transcript.standing now))
  did_so standing.Stopped now = inl (is.did (stopped_unstarved r.transcript.standing now))
  did_so standing.Starved now = inr (is.starved now)

  pub did_for_client : DidSo DidForClient f seat v r.transcript.lines.items r.transcript.answers.items r.closed
  did_for_client = record { last = is.last; at_end = is.at_end; rests = is.rests; most = few_answers r.transcript is.transcript_ok; did = did_so r.transcript.standing refl }

  pub complete : failed ≡ false → (r.transcript.standing ≡ standing.Starved → ⊥) → IsComplete f seat r.transcript.lines.items r.transcript.answers.items
  complete sound had =
      let whole = is.whole sound had in
      (open_each r.transcript is.transcript_ok whole.0, λ sealed. whole.1 (phase_there f seat is.last is.at_end ∙ sealed))

-- TRANSCRIPTS by seat
pub from_seats : {P : Type 0} (s : ℕ) (runs : List (ProgramRun P)) → ((k : ℕ) (r : ProgramRun P) → slice_get runs k ≡ Some r → (r.transcript.seat ≡ s + k) × IsTranscript r.transcript)
    → AreFrom s (transcripts_of runs)
from_seats s [] each = tt
from_seats s (r ∷ runs) each = let here = each zero r refl in (here.0 ∙ omega arith, here.1, from_seats (s + 1) runs (λ k x at. let so = each (suc k) x at in (so.0 ∙ omega arith, so.1)))

-- of each program what is so of its transcript
pub run_of : {P : Type 0} (runs : List (ProgramRun P)) (c : Transcript) → c ∈ transcripts_of runs → (r : ProgramRun P) × (r ∈ runs) × (r.transcript ≡ c)
run_of runs c (k, at) = let it = map_from (λ (r : ProgramRun _). r.transcript) runs k c at in (it.0, (k, it.1), it.2)

-- the program of a place of which the lines, the answers and the closing are known
pub run_at : {P : Type 0} (runs : List (ProgramRun P)) (k : ℕ) (lines : List ScriptLine) (own : List Answer) (end : Option Answer) → slice_get (parts_of (transcripts_of runs)) k ≡ Some lines
    → slice_get (answers_by (transcripts_of runs)) k ≡ Some own → slice_get (closes_of runs) k ≡ Some end
    → (r : ProgramRun P) × (slice_get runs k ≡ Some r) × (r.transcript.lines.items ≡ lines) × (r.transcript.answers.items ≡ own) × (r.closed ≡ end)
run_at {P} runs k lines own end at_p at_a at_c =
    let c = map_from (λ (x : Transcript). x.lines.items) (transcripts_of runs) k lines at_p in
    let r = map_from (λ (x : ProgramRun P). x.transcript) runs k c.0 c.1 in
    let answers = map_to (λ (x : Transcript). x.answers.items) (transcripts_of runs) k c.0 c.1 in
    let closed = map_to (λ (x : ProgramRun P). x.closed) runs k r.0 r.1 in (
      r.0,
      r.1,
      ap (λ (x : Transcript). x.lines.items) r.2 ∙ c.2,
      ap (λ (x : Transcript). x.answers.items) r.2 ∙ the_one c.0.answers.items own (sym answers ∙ at_a),
      the_one r.0.closed end (sym closed ∙ at_c),
    )
  where
    the_one : {X : Type 0} (a b : X) → Some a ≡ Some b → a ≡ b
    the_one a b is = cc

-- ALL PROGRAMS
module _ {P : Type 0} (laws : EndLaws) (promises : P → P → Transcript → Type 0) (o : Opening) (failed : Bool) (desk : Book) (programs : List P) (runs : List (ProgramRun P))
    (ran : HaveRun promises sound_law o failed desk programs runs) where
  abbrev all : List Transcript
  all = transcripts_of runs

  abbrev v : View
  v = opened_view (start_of o)

  abbrev f : View
  f = world_of ran.core

  pub run_there : (k : ℕ) (r : ProgramRun P) → slice_get runs k ≡ Some r → (p : P) × (slice_get programs k ≡ Some p) × IsRun promises failed f (k + 1) v p r
  run_there k r at =
      let less = there_is runs k r at in
      let many = ran.each.many in
      let p = at_within programs k (omega (arith, less, many)) in
      (p.0, p.1, ran.each.each k p.0 r p.1 at)

  pub from_first : AreFrom 1 all
  from_first = from_seats 1 runs (λ k r at. let is = (run_there k r at).2 in (is.place ∙ omega arith, is.transcript_ok))

  -- what each session did, all did
  all_did : (So : Did) → ((k : ℕ) (r : ProgramRun P) → slice_get runs k ≡ Some r → DidSo So f (k + 1) v r.transcript.lines.items r.transcript.answers.items r.closed)
      → HaveDone So v f (parts_of all) (answers_by all) (closes_of runs)
  all_did So each = record {
    as_many = (
      length-map all (λ (c : Transcript). c.answers.items) ∙ sym (length-map all (λ (c : Transcript). c.lines.items)),
      length-map runs (λ (r : ProgramRun P). r.closed) ∙ sym (length-map runs (λ (r : ProgramRun P). r.transcript))
          ∙ sym (length-map all (λ (c : Transcript). c.lines.items)),
    );
    each = λ k lines own end at_p at_a at_c.
        let r = run_at runs k lines own end at_p at_a at_c in
        subst (λ (x : List ScriptLine). DidSo So f (k + 1) v x own end) r.2
        (subst (λ (x : List Answer). DidSo So f (k + 1) v r.0.transcript.lines.items x end) r.3
        (subst (λ (x : Option Answer). DidSo So f (k + 1) v r.0.transcript.lines.items r.0.transcript.answers.items x) r.4 (each k r.0 r.1)));
    ends_so = laws.may_end SESSIONS ran.core ran.closed.under ran.closed.alone ran.closed.only;
    beyond = record { opening = ran.closed.opening; tail = ran.closed.beyond.0; flushed = ran.closed.beyond.1 };
    others = λ seat session above.
        let many = length-map all (λ (c : Transcript). c.lines.items) in
        let more = length-map runs (λ (r : ProgramRun P). r.transcript) in
        let untouched = ran.others seat (omega (arith, above, many, more)) session.1 in
        (untouched.session, untouched.given_up);
  }

  pub did_works : NoneStarved all → HaveDone DidWork v f (parts_of all) (answers_by all) (closes_of runs)
  did_works some = all_did DidWork
      (λ k r at. let is = run_there k r at in did_session promises failed f (k + 1) v is.0 r is.2 (some r.transcript (k, map_to (λ (x : ProgramRun P). x.transcript) runs k r at)))

  pub did_for_clients : HaveDone DidForClient v f (parts_of all) (answers_by all) (closes_of runs)
  did_for_clients = all_did DidForClient (λ k r at. let is = run_there k r at in did_for_client promises failed f (k + 1) v is.0 r is.2)

  -- WHERE THE DISK HASN'T FAILED
  pub opened_each : failed ≡ false → (c : Transcript) → c ∈ all → (c.standing ≡ standing.Starved → ⊥) → c.standing ≡ standing.Open
  opened_each sound c there had =
      let r = run_of runs c there in
      subst (λ (x : Transcript). x.standing ≡ standing.Open) r.2
      (((run_there r.1.0 r.0 r.1.1).2.whole sound (λ starved. had (subst (λ (x : Transcript). x.standing ≡ standing.Starved) r.2 starved))).0)

  -- and memory ran out for none
  module _ (sound : failed ≡ false) (none : NoneStarved all) where
    pub all_open : (c : Transcript) → c ∈ all → c.standing ≡ standing.Open
    all_open c there = opened_each sound c there (none c there)

    had : (k : ℕ) (r : ProgramRun P) → slice_get runs k ≡ Some r → r.transcript.standing ≡ standing.Starved → ⊥
    had k r at = none r.transcript (k, map_to (λ (x : ProgramRun P). x.transcript) runs k r at)

    own_waits_not : (k : ℕ) → k < length runs → phase_at f (k + 1) ≡ Sealed → ⊥
    own_waits_not k within =
        let r = at_within runs k within in
        let is = run_there k r.0 r.1 in
        (complete promises failed f (k + 1) v is.0 r.0 is.2 sound (had k r.0 r.1)).1

    pub none_waits : (seat : ℕ) → IsSession f seat → phase_at f seat ≡ Sealed → ⊥
    none_waits seat session sealed =
        let some = session.0 in
        ⊎_elim
        (λ (above : length runs < seat). idle_waits_not (ran.others seat above session.1))
        (λ (within : seat ≤ length runs).
        let place : seat ≡ seat - 1 + 1 = omega (arith, some) in
        own_waits_not (seat - 1) (omega (arith, some, within)) (subst (λ (q : ℕ). phase_at f q ≡ Sealed) place sealed))
        (cases_lt (length runs) seat)
      where
        idle_waits_not : IsUntouched seat f → ⊥
        idle_waits_not untouched =
            let idle : phase_at f seat ≡ Idle = ap (λ (s : Session). phase_of s.stand) untouched.session in
            let same : Sealed ≡ Idle = sym sealed ∙ idle in
            cc

    pub all_complete : AreComplete f (parts_of all) (answers_by all)
    all_complete k lines own at_p at_a =
        let c = map_from (λ (x : Transcript). x.lines.items) all k lines at_p in
        let r = map_from (λ (x : ProgramRun P). x.transcript) runs k c.0 c.1 in
        let closed = map_to (λ (x : ProgramRun P). x.closed) runs k r.0 r.1 in
        let at = run_at runs k lines own r.0.closed at_p at_a closed in
        let is = run_there k at.0 at.1 in
        subst (λ (x : List ScriptLine). IsComplete f (k + 1) x own) at.2
        (subst (λ (x : List Answer). IsComplete f (k + 1) at.0.transcript.lines.items x) at.3
        (complete promises failed f (k + 1) v is.0 at.0 is.2 sound (had k at.0 at.1)))

    pub all_flushed : f.flushed ≡ f.tail
    all_flushed = ran.flushed sound none_waits
