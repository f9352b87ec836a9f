-- What sessions did, once their table is closed.
use Rattle.std.proofs.Common.{◌≡◌, ℕ, ◌+◌, ◌≤◌, Bool, true, false, List, length, map, inl, inr, refl, sym, ap, ◌∙◌, subst, arith}
use Rattle.std.specs.Prelude.{slice_get, Option, Some, None}
use Rattle.std.proofs.lemmas.List.{length-map}
use Rattle.std.proofs.lemmas.Option.{slice_get_cases}
use Rattle.erm_model.specs.declared.outcome.Phase.TheVariants.{Active, Idle, Sealed}
use Rattle.erm_model.specs.RowTransaction.{Law}
use Rattle.erm_outside.specs.Disk.{Step}
use Rattle.erm_report.specs.declared.answer.Answer.{Answer}
use Rattle.erm_script.specs.declared.script.ScriptLine.{ScriptLine}
use Rattle.erm_rule.specs.declared.rule.Table.{Table}
use Rattle.erm_rule.specs.declared.view.Opening.{Opening}
use Rattle.erm_rule.specs.Books.{book}
use Rattle.erm_rule.specs.Openings.{start_of}
use Rattle.erm_shared_session.specs.declared.session.TableSession.{TableSession}
use Rattle.erm_shared_session.specs.Stands.{Stands, own_of, seat_of}
use Rattle.erm_world.specs.Laws.{IsSerializable}
use Rattle.erm_world.specs.World.{View, phase_at}
use Rattle.erm_threads.specs.declared.job.Done.{Done}
use Rattle.erm_threads.proofs.Closed.{closed_idle}
use Rattle.erm_threads.proofs.Jobs.{map_from, there_is}
use Rattle.erm_threads.specs.Work.{DidWork}
use Rattle.erm_engine.specs.Closed.{AllRest, AreDone}
use Rattle.erm_engine.specs.Ended.{HasEnded, world_of}
use Rattle.erm_engine.specs.Opened.{opened_view}
use Rattle.erm_engine.proofs.Joined.{at_within}
use Rattle.erm_run_beside.specs.declared.work.SessionWork.{SessionWork}
use Rattle.erm_run_beside.specs.Closing.{ClosesDesk}
use Rattle.erm_run_beside.specs.Ended.{AreWholeUnless, AreWorked, HasWorked, IsWholeUnless}
use Rattle.erm_run_beside.specs.Runs.{HaveRun, IsWork, RanBeside, work_of}
use Rattle.erm_run_beside.proofs.Ends.{ends_so}
use Rattle.erm_run_beside.proofs.Failed.{not_both}
use Rattle.erm_run_beside.proofs.More.{map_to}

-- ALL SESSIONS may be closed
pub all_done : {L : Type 0} (law : Law) (table : Table L) (o : Opening) (parts : List (List ScriptLine)) (done : List (Done (TableSession L))) (ss : List (TableSession L))
    → ss ≡ map (λ d. d.session) done → AreWorked law table o parts done → AreDone law table ss
all_done {L} law table o parts done ss is worked = λ k s at.
    let d = map_from (λ (x : Done (TableSession L)). x.session) done k s (subst (λ (l : List (TableSession L)). slice_get l k ≡ Some s) is at) in
    let less = there_is done k d.0 d.1 in
    let p = at_within parts k (let many = worked.many in omega (arith, less, many)) in
    let w = worked.each k p.0 d.0 p.1 d.1 in
    subst (λ (x : TableSession L). Stands law table x × (seat_of x ≡ k + 1)) d.2 (w.stands, w.seat_is)

-- and none of them has a transaction in progress
pub all_rest : {L : Type 0} (law : Law) (table : Table L) (o : Opening) (parts : List (List ScriptLine)) (done : List (Done (TableSession L))) (ss : List (TableSession L))
    → ss ≡ map (λ d. d.session) done → AreWorked law table o parts done → AllRest ss
all_rest {L} law table o parts done ss is worked = λ k s at active.
    let d = map_from (λ (x : Done (TableSession L)). x.session) done k s (subst (λ (l : List (TableSession L)). slice_get l k ≡ Some s) is at) in
    let less = there_is done k d.0 d.1 in
    let p = at_within parts k (let many = worked.many in omega (arith, less, many)) in
    let w = worked.each k p.0 d.0 p.1 d.1 in
    w.rests
    (subst (λ (q : ℕ). phase_at (own_of d.0.session) q ≡ Active) w.seat_is
    (subst (λ (x : TableSession L). phase_at (own_of x) (seat_of x) ≡ Active) (sym d.2) active))

-- UNLESS THE DISK FAILED all lines of a session were answered, and it doesn't wait.
all_answered : {L : Type 0} (failed : Bool) (seat : ℕ) (lines : List ScriptLine) (d : Done (TableSession L)) → length d.answers.items ≤ length lines → IsWholeUnless (failed ≡ true) seat lines d
    → failed ≡ false → d.lacked ≡ false → length d.answers.items ≡ length lines
all_answered failed seat lines d most unless sound had = elim (slice_get_cases lines (length d.answers.items)).1 [
  | inl left ↦ absurd (not_both failed (unless.all had left.1) sound)
  | inr past ↦ let least = past.0 in omega (arith, most, least)
]

is_decided : {L : Type 0} (failed : Bool) (seat : ℕ) (lines : List ScriptLine) (d : Done (TableSession L)) (f v : View) (closed : Option Answer) → d.closed ≡ closed
    → DidWork f seat lines d.answers.items closed v (own_of d.session) → length d.answers.items ≡ length lines → IsWholeUnless (failed ≡ true) seat lines d → failed ≡ false → d.lacked ≡ false
    → phase_at (own_of d.session) seat ≡ Sealed → ⊥
is_decided failed seat lines d f v None is did all unless sound had sealed = not_both failed (unless.decided had is sealed) sound
is_decided failed seat lines d f v (Some a) is did all unless sound had sealed =
    let idle = closed_idle f seat lines d.answers.items a v (own_of d.session) did all in
    let same : Sealed ≡ Idle = sym sealed ∙ idle in
    cc

-- for a weaker cause too
pub unless_more : {L : Type 0} (so why : Type 0) (parts : List (List ScriptLine)) (done : List (Done (TableSession L))) → (so → why) → AreWholeUnless so parts done → AreWholeUnless why parts done
unless_more so why parts done gives unless = λ k lines d at_p at_d.
    let one = unless k lines d at_p at_d in record { all = λ some fewer. gives (one.all some fewer); decided = λ some none sealed. gives (one.decided some none sealed) }

-- ONE SESSION at the end
one_ran : {L : Type 0} (law : Law) (table : Table L) (o : Opening) (failed : Bool) (seat : ℕ) (lines : List ScriptLine) (d : Done (TableSession L)) (f : View) → HasWorked law table o seat lines d
    → IsWholeUnless (failed ≡ true) seat lines d → HasEnded law (seat_of d.session) (book d.session.pass) (own_of d.session) f
    → IsWork failed f seat (opened_view (start_of o)) lines (work_of d)
one_ran {L} law table o failed seat lines d f w unless e =
    let here = subst (λ (q : ℕ). HasEnded law q (book d.session.pass) (own_of d.session) f) w.seat_is e in
    let ends = ends_so law d.session f e in
    record {
      last = own_of d.session;
      at_end = record { own = sym here.session; given_up = sym here.given_up; tail = here.tail; flushed = here.flushed };
      rests = w.rests;
      most = w.most;
      did = λ some. w.did some f ends;
      some = w.some f ends;
      whole = λ sound had.
          let all = all_answered failed seat lines d w.most unless sound had in
          (all, is_decided failed seat lines d f (opened_view (start_of o)) d.closed refl (w.did had f ends) all unless sound had);
    }

-- and all
pub have_run : {L : Type 0} (law : Law) (table : Table L) (o : Opening) (began : Option (List Step)) (first : ℕ) (told : Option (List Step)) (faults : ℕ) (failed : Bool) (parts : List (List ScriptLine))
    (done : List (Done (TableSession L))) (ss : List (TableSession L)) (works : List SessionWork) → ss ≡ map (λ d. d.session) done → works ≡ map work_of done
    → (closes : ClosesDesk law o began first ss told faults failed) → AreWorked law table o parts done → AreWholeUnless (failed ≡ true) parts done → HaveRun law o failed closes.book parts works
have_run {L} law table o began first told faults failed parts done ss works is are closes worked unless =
    let end = closes.ended in
    let f = world_of end.core in
    let long = length-map done (λ (d : Done (TableSession L)). d.session) in
    let longer = length-map done (λ (d : Done (TableSession L)). work_of d) in
    let many = ap (λ (l : List (TableSession L)). length l) is in
    let more = ap (λ (l : List SessionWork). length l) are in
    record {
      core = end.core;
      tail = closes.tail;
      closed = end.closed;
      many = more ∙ longer ∙ worked.many;
      each = λ k lines w at_p at_w.
          let d = map_from (λ (x : Done (TableSession L)). work_of x) done k w (subst (λ (l : List SessionWork). slice_get l k ≡ Some w) are at_w) in
          let at_s = subst (λ (l : List (TableSession L)). slice_get l k ≡ Some d.0.session) (sym is) (map_to (λ (x : Done (TableSession L)). x.session) done k d.0 d.1) in
          subst (λ (x : SessionWork). IsWork failed f (k + 1) (opened_view (start_of o)) lines x) d.2
          (one_ran law table o failed (k + 1) lines d.0 f (worked.each k lines d.0 at_p d.1) (unless k lines d.0 at_p d.1) (end.each k d.0.session at_s));
      flushed = closes.flushed;
      others = λ seat above within. end.others seat (omega (arith, above, long, longer, many, more)) within;
    }

-- so the desk's disk is that of sessions that ran
pub ran_beside : {L : Type 0} (law : Law) (table : Table L) (o : Opening) (began : Option (List Step)) (first : ℕ) (told : Option (List Step)) (faults : ℕ) (failed : Bool) (parts : List (List ScriptLine))
    (done : List (Done (TableSession L))) (ss : List (TableSession L)) (works : List SessionWork) → IsSerializable law (opened_view (start_of o)) → ss ≡ map (λ d. d.session) done → works ≡ map work_of done
    → ClosesDesk law o began first ss told faults failed → AreWorked law table o parts done → AreWholeUnless (failed ≡ true) parts done → RanBeside law o began first parts told faults failed works
ran_beside law table o began first told faults failed parts done ss works begins is are closes worked unless = record {
  begins = begins;
  book = closes.book;
  desk = closes.desk;
  have_run = have_run law table o began first told faults failed parts done ss works is are closes worked unless;
}
