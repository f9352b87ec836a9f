-- Sessions that were closed of which no line tells, and what answers tell of versions cut off.
use Rattle.std.proofs.Common.{◌≡◌, ℕ, ◌<◌, List, [], ◌∷◌, ◌++◌, ◌+◌, length, take, inl, inr, refl, subst, arith}
use Rattle.erm_model.specs.Member.{◌∈◌}
use Rattle.erm_model.proofs.Members.{none_in_nil}
use Rattle.erm_machine.proofs.Listed.{∈-head}
use Rattle.erm_report.specs.declared.answer.Answer.{Answer}
use Rattle.erm_script.specs.declared.script.ScriptLine.{ScriptLine}
use Rattle.erm_world.specs.World.{View}
use Rattle.erm_good_report.specs.Opening.{Opening}
use Rattle.erm_good_report.specs.Phases.{Closed}
use Rattle.erm_good_report.specs.Transactions.{Said, said_of}
use Rattle.erm_lines.specs.Executions.{AreClosed, IsCourse, IsOpeningOf, IsPart, IsRun, closed_in}
use Rattle.erm_lines.specs.Laws.{PartsCutFew, RunsCutFew}
use Rattle.erm_told_crash.specs.Laws.{CoursesClose}
use Rattle.erm_told_limits.specs.Limits.{CellsAreFull}
use Rattle.erm_tight.specs.NewKeys.{HaveNewKeys, OidsAreFull}
use Rattle.erm_disk_run.specs.Limits.{Limits}
use Rattle.erm_disk_run.specs.Runs.{AreUnseen, CutFew, HaveManyCells, HaveManyKeys}

-- a list whose elements stand in an empty one is empty
none_listed : (xs : List Closed) → ((c : Closed) → c ∈ xs → c ∈ []) → xs ≡ []
none_listed [] only = refl
none_listed (x ∷ xs) only = absurd (none_in_nil x (only x (∈-head x xs)))

-- the sessions that a run so far closed, behind all lines of the script
pub record HasUnseen (names : List (List ℕ)) (v t : View) (script : List ScriptLine) (answers : List Answer) (course : IsCourse v script answers t) : Type 0 where
  pub closed : List Closed
  pub are : AreClosed course.closing closed
  pub unseen : AreUnseen names script answers closed

pub has_unseen : CoursesClose → (names : List (List ℕ)) (v t : View) (script : List ScriptLine) (answers : List Answer) (course : IsCourse v script answers t)
    → (length answers < length script → closed_in course.closing ≡ []) → HasUnseen names v t script answers course
has_unseen close names v t script answers course late =
    let found = close v t script answers course in
    record {
      closed = found.0;
      are = found.1;
      unseen = record {
        once = found.1.ascend;
        fits = λ c m. (found.2 c m).2;
        late = λ less. none_listed found.0 (λ c m. subst (λ (cs : List Closed). c ∈ cs) (late less) (found.1.only c m));
      };
    }

-- a whole run is one so far
abbrev pub whole_course : (v t : View) (script : List ScriptLine) (answers : List Answer) → IsRun v script answers t → IsCourse v script answers t
whole_course v t script answers run = record {
  opened = run.opened;
  ranges = run.ranges;
  few = run.few;
  most = (let each = run.each in omega (arith, each));
  between = run.between;
  lines = run.lines;
  closing = run.closing;
  last = run.last;
  closes = run.closes;
}

-- in a world of so many cells an answer that tells of them counts so many
pub course_celled : CellsAreFull → (limits : Limits) (v t : View) (script : List ScriptLine) (answers : List Answer) → IsCourse v script answers t → v.opening.cells ≡ limits.cells
    → HaveManyCells limits script answers
course_celled full limits v t script answers course many drawn m = let most = full v t script answers course drawn m in
    ((omega (arith, most.0.0, many), omega (arith, most.0.1, many)), omega (arith, most.1, many))

-- and one that tells of objects counts new keys
pub course_keyed : OidsAreFull → (v t : View) (opening : Opening) → IsOpeningOf v opening → (sessions : ℕ) → v.opening.sessions ≡ sessions → (script : List ScriptLine) (answers : List Answer) → IsCourse v script answers t
    → HaveManyKeys opening sessions script answers
course_keyed full v t opening of sessions many script answers course i drawn e =
    let found = full v t script answers course i drawn e in
    (found.0, subst (λ (s : ℕ). HaveNewKeys s [] (take (i + 1) (said_of script answers)) found.0) many found.1, omega (arith, found.2, of.first))

-- where no session is named there is no commit either
fewer_sessions : (sessions : ℕ) (before said : List Said) (n : ℕ) → HaveNewKeys sessions before said n → HaveNewKeys 0 before said n
fewer_sessions sessions before [] n have = have
fewer_sessions sessions before (s ∷ said) n (inl have) = inl (fewer_sessions sessions (before ++ s ∷ []) said n have)
fewer_sessions sessions before (s ∷ said) n (inr (puts, (m, is, have))) = inr (
  record { table = puts.table; key = puts.key; value = puts.value; asks = puts.asks; own = puts.own; current = puts.current; new = λ by stamp succ commit less line. none_in_nil by commit.of },
  (m, is, fewer_sessions sessions (before ++ s ∷ []) said m have),
)

pub keyed_without : (opening : Opening) (sessions : ℕ) (script : List ScriptLine) (answers : List Answer) → HaveManyKeys opening sessions script answers → HaveManyKeys opening 0 script answers
keyed_without opening sessions script answers keyed i drawn e =
    let found = keyed i drawn e in (found.0, fewer_sessions sessions [] (take (i + 1) (said_of script answers)) found.0 found.1, found.2)

-- no answer tells that more versions were cut off than a call of the world does
pub run_cuts : RunsCutFew → (limits : Limits) (v t : View) (script : List ScriptLine) (answers : List Answer) → IsRun v script answers t → v.opening.cuts ≡ limits.cuts → CutFew limits answers
run_cuts few limits v t script answers run most n m = let least = few v t script answers run n m in omega (arith, least, most)

pub course_cuts : PartsCutFew → (limits : Limits) (v t : View) (script : List ScriptLine) (answers : List Answer) → IsCourse v script answers t → v.opening.cuts ≡ limits.cuts → CutFew limits answers
course_cuts few limits v t script answers course most n m =
    let part : IsPart v script answers course.between = record { opened = course.opened; ranges = course.ranges; few = course.few; most = course.most; lines = course.lines } in
    let least = few v course.between script answers part n m in
    omega (arith, least, most)
