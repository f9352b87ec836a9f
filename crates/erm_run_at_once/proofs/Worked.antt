-- What sessions did on threads, in the world in which all ended.
use Rattle.std.proofs.Common.{◌≡◌, ℕ, ◌+◌, ◌-◌, ◌<◌, ◌≤◌, ⊎_elim, Bool, false, List, length, Option, Some, refl, sym, ap, ◌∙◌, subst, arith}
use Rattle.std.specs.List.{slice_get}
use Rattle.std.proofs.lemmas.Bool.{cases_lt}
use Rattle.std.proofs.lemmas.List.{length-map}
use Rattle.erm_model.specs.declared.limits.TheConstants.{SESSIONS}
use Rattle.erm_model.specs.declared.outcome.Phase.TheVariants.{Idle, Sealed}
use Rattle.erm_machine.specs.Core.{Core}
use Rattle.erm_node.specs.Sound.{sound_law}
use Rattle.erm_report.specs.declared.answer.Answer.{Answer}
use Rattle.erm_script.specs.declared.script.ScriptLine.{ScriptLine}
use Rattle.erm_world.specs.World.{IsSession, Session, View, phase_at, phase_of}
use Rattle.erm_lines_at_once.specs.Ends.{IsEnd}
use Rattle.erm_sound.specs.Kept.{SoundUnder}
use Rattle.erm_core_alone.specs.Alone.{ClaimsStandAlone}
use Rattle.erm_core_shown.specs.Shown.{HasOnly, shown_of}
use Rattle.erm_rule.specs.declared.view.Book.{Book}
use Rattle.erm_rule.specs.declared.view.Opening.{Opening}
use Rattle.erm_rule.specs.Openings.{start_of}
use Rattle.erm_engine.specs.Ended.{HasClosed, IsUntouched, world_of}
use Rattle.erm_engine.specs.Opened.{opened_view}
use Rattle.erm_engine.proofs.Joined.{at_within}
use Rattle.erm_threads.proofs.Jobs.{map_from}
use Rattle.erm_threads.specs.Work.{DidSome}
use Rattle.erm_works.specs.Works.{AreComplete, Did, DidSession, DidSo, HaveDone, IsBeyond, IsComplete}
use Rattle.erm_works.proofs.Sessions.{phase_there}
use Rattle.erm_run_beside.specs.declared.work.SessionWork.{SessionWork}
use Rattle.erm_run_beside.specs.Runs.{HaveRun, IsWork}
use Rattle.erm_run_beside.proofs.More.{map_to}
use Rattle.erm_run_at_once.specs.Ran.{NoneLacked, SessionsAreComplete, SessionsDidSomeWorks, SessionsDidWorks, answers_of, closes_of}

-- what a sound state shows is a world in which all may end
abbrev pub ShownMayEnd : Type 0
ShownMayEnd = (sessions : ℕ) (c : Core) → SoundUnder sound_law c → ClaimsStandAlone c → HasOnly sessions c → IsEnd (shown_of sessions c)

-- ONE SESSION, whose memory sufficed, did its work
did_session : (failed : Bool) (f : View) (seat : ℕ) (v : View) (lines : List ScriptLine) (w : SessionWork) → IsWork failed f seat v lines w → w.lacked ≡ false
    → DidSession f seat v lines w.answers.items w.closed
did_session failed f seat v lines w is had = record { last = is.last; at_end = is.at_end; rests = is.rests; most = is.most; did = is.did had }

-- and whether it did or not, some of it
did_some_session : (failed : Bool) (f : View) (seat : ℕ) (v : View) (lines : List ScriptLine) (w : SessionWork) → IsWork failed f seat v lines w
    → DidSo DidSome f seat v lines w.answers.items w.closed
did_some_session failed f seat v lines w is = record { last = is.last; at_end = is.at_end; rests = is.rests; most = is.most; did = is.some }

-- the work at a place of which the answers are known, and the closing
work_at : (works : List SessionWork) (k : ℕ) (own : List Answer) (end : Option Answer) → slice_get (answers_of works) k ≡ Some own → slice_get (closes_of works) k ≡ Some end
    → (w : SessionWork) × (slice_get works k ≡ Some w) × (w.answers.items ≡ own) × (w.closed ≡ end)
work_at works k own end answered closed =
    let w = map_from (λ (x : SessionWork). x.answers.items) works k own answered in
    let there = map_to (λ (x : SessionWork). x.closed) works k w.0 w.1 in
    (w.0, w.1, w.2, same w.0.closed (sym there ∙ closed))
  where
    same : (a : Option Answer) → Some a ≡ Some end → a ≡ end
    same a e = cc

-- the world in which all ended goes on from the one that was opened
ended_beyond : (o : Opening) (desk : Book) (tail : ℕ) (core : Core) → HasClosed sound_law o desk tail core → IsBeyond (opened_view (start_of o)) (world_of core)
ended_beyond o desk tail core closed = record { opening = closed.opening; tail = closed.beyond.0; flushed = closed.beyond.1 }

-- ALL SESSIONS
have_done : {So : Did} → ShownMayEnd → (o : Opening) (failed : Bool) (desk : Book) (parts : List (List ScriptLine)) (works : List SessionWork) → (ran : HaveRun sound_law o failed desk parts works)
    → ((k : ℕ) (lines : List ScriptLine) (w : SessionWork) → slice_get works k ≡ Some w → IsWork failed (world_of ran.core) (k + 1) (opened_view (start_of o)) lines w
    → DidSo So (world_of ran.core) (k + 1) (opened_view (start_of o)) lines w.answers.items w.closed)
    → HaveDone So (opened_view (start_of o)) (world_of ran.core) parts (answers_of works) (closes_of works)
have_done {So} ends o failed desk parts works ran one =
    let f = world_of ran.core in
    let v = opened_view (start_of o) in
    record {
      as_many = (length-map works (λ (w : SessionWork). w.answers.items) ∙ ran.many, length-map works (λ (w : SessionWork). w.closed) ∙ ran.many);
      each = λ k lines own end at_p at_a at_c.
          let w = work_at works k own end at_a at_c in
          subst (λ (x : List Answer). DidSo So f (k + 1) v lines x end) w.2
          (subst (λ (x : Option Answer). DidSo So f (k + 1) v lines w.0.answers.items x) w.3
          (one k lines w.0 w.1 (ran.each k lines w.0 at_p w.1)));
      ends_so = ends SESSIONS ran.core ran.closed.under ran.closed.alone ran.closed.only;
      beyond = ended_beyond o desk ran.tail ran.core ran.closed;
      others = λ seat session above.
          let many = ran.many in
          let untouched = ran.others seat (omega (arith, above, many)) session.1 in
          (untouched.session, untouched.given_up);
    }

pub did_works : ShownMayEnd → SessionsDidWorks
did_works ends o failed desk parts works ran none few =
    have_done ends o failed desk parts works ran (λ k lines w at is. did_session failed (world_of ran.core) (k + 1) (opened_view (start_of o)) lines w is (none k w at))

pub did_some_works : ShownMayEnd → SessionsDidSomeWorks
did_some_works ends o failed desk parts works ran few =
    have_done ends o failed desk parts works ran (λ k lines w at is. did_some_session failed (world_of ran.core) (k + 1) (opened_view (start_of o)) lines w is)

-- WHERE THE DISK HASN'T FAILED no session waits, of those that did their work and of those in which nothing was done.
idle_waits_not : (seat : ℕ) (f : View) → IsUntouched seat f → phase_at f seat ≡ Sealed → ⊥
idle_waits_not seat f untouched sealed =
    let idle : phase_at f seat ≡ Idle = ap (λ (s : Session). phase_of s.stand) untouched.session in
    let same : Sealed ≡ Idle = sym sealed ∙ idle in
    cc

one_complete : (f : View) (seat : ℕ) (v : View) (lines : List ScriptLine) (w : SessionWork) → IsWork false f seat v lines w → w.lacked ≡ false → IsComplete f seat lines w.answers.items
one_complete f seat v lines w is had = let whole = is.whole refl had in (whole.0, λ sealed. whole.1 (phase_there f seat is.last is.at_end ∙ sealed))

module _ (o : Opening) (desk : Book) (parts : List (List ScriptLine)) (works : List SessionWork) (ran : HaveRun sound_law o false desk parts works) (none : NoneLacked works) where
  own_waits_not : (k : ℕ) → k < length works → phase_at (world_of ran.core) (k + 1) ≡ Sealed → ⊥
  own_waits_not k within =
      let many = ran.many in
      let w = at_within works k within in
      let p = at_within parts k (omega (arith, within, many)) in
      (one_complete (world_of ran.core) (k + 1) (opened_view (start_of o)) p.0 w.0 (ran.each k p.0 w.0 p.1 w.1) (none k w.0 w.1)).1

  none_waits : (seat : ℕ) → IsSession (world_of ran.core) seat → phase_at (world_of ran.core) seat ≡ Sealed → ⊥
  none_waits seat session sealed =
      let some = session.0 in
      ⊎_elim
      (λ (above : length works < seat). idle_waits_not seat (world_of ran.core) (ran.others seat above session.1) sealed)
      (λ (within : seat ≤ length works).
      let place : seat ≡ seat - 1 + 1 = omega (arith, some) in
      own_waits_not (seat - 1) (omega (arith, some, within)) (subst (λ (q : ℕ). phase_at (world_of ran.core) q ≡ Sealed) place sealed))
      (cases_lt (length works) seat)

  complete : AreComplete (world_of ran.core) parts (answers_of works)
  complete k lines own at_p at_a =
      let w = map_from (λ (x : SessionWork). x.answers.items) works k own at_a in
      subst (λ (x : List Answer). IsComplete (world_of ran.core) (k + 1) lines x) w.2
      (one_complete (world_of ran.core) (k + 1) (opened_view (start_of o)) lines w.0 (ran.each k lines w.0 at_p w.1) (none k w.0 w.1))

pub are_complete : SessionsAreComplete
are_complete o desk parts works ran none = (complete o desk parts works ran none, ran.flushed refl (none_waits o desk parts works ran none))
