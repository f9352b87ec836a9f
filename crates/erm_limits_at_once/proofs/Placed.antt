-- A line of a session's own part: what stands before it and behind it, and how much all makes and claims beside it.
use Rattle.std.proofs.Common.{◌≡◌, ℕ, zero, suc, ◌+◌, ◌≤◌, Bool, cond, List, [], ◌∷◌, ◌++◌, take, fold, slice_get, Some, refl, ap, ◌∙◌, subst, eq-eqb, arith}
use Rattle.std.proofs.lemmas.List.Sums.{sum_by-cons}
use Rattle.erm_model.specs.declared.outcome.Phase.{Phase}
use Rattle.erm_model.specs.declared.outcome.Phase.TheVariants.{Active}
use Rattle.erm_model.specs.Run.{Step}
use Rattle.erm_node.specs.Sound.{sound_law}
use Rattle.erm_report.specs.declared.answer.Answer.{Answer}
use Rattle.erm_script.specs.declared.script.Command.{Command}
use Rattle.erm_script.specs.declared.script.Command.TheVariants as command
use Rattle.erm_script.specs.declared.script.ScriptLine.{ScriptLine}
use Rattle.erm_script.specs.Script.{IsInRange}
use Rattle.erm_world.specs.Going.{Extends}
use Rattle.erm_world.specs.Laws.{IsSerializable}
use Rattle.erm_world.specs.World.{IsSession, Session, View, Work, claims_in, phase_at}
use Rattle.erm_maps.specs.Runs.{IsAnswered, IsRunOf, kept_at}
use Rattle.erm_good_report.specs.Refusals.{claims_of, makes_of}
use Rattle.erm_good_report.specs.Transactions.{Progress, Said, said_of}
use Rattle.erm_lines.specs.Executions.{Move, line_moves, move_as, move_of, said_in}
use Rattle.erm_lines.specs.Told.{Continues}
use Rattle.erm_lines.proofs.Keeping.{NoneRuns}
use Rattle.erm_beside.specs.Calls.{Passes}
use Rattle.erm_lines_at_once.specs.Answers.{DidLineBeside}
use Rattle.erm_lines_at_once.specs.Executions.{DidOwn, IsOwnRun, is_own}
use Rattle.erm_told.proofs.Executed.{Knows, hears, turns}
use Rattle.erm_told_at_once.proofs.Runs.{knows_own, own_line}
use Rattle.erm_causes.proofs.Tables.{AreMovesInRange}
use Rattle.erm_causes_at_once.proofs.Totals.{own_count, own_total}
use Rattle.erm_causes_at_once.proofs.Walked.{line_did}
use Rattle.erm_told_limits.proofs.Holds.{Laws}
use Rattle.erm_told_limits.proofs.Moved.{mades_in}
use Rattle.erm_limits_at_once.proofs.Chained.{Few, did_counts, few_passes, goes_from, know_there, knows_run, passes_itself, run_counts}

abbrev pub place : ScriptLine → Answer → Said
place l a = record { session = l.session; asked = Some l.command; answer = a }

-- the move of a line says the line
says_line : (l : ScriptLine) (a : Answer) (moves : List Move) → said_in (move_of l a ∷ moves) ≡ place l a ∷ said_in moves
says_line l a moves = by l.command
  where
    by : (c : Command) → said_in (move_as c l a ∷ moves) ≡ place l a ∷ said_in moves
    by command.Flush = refl
    by command.Checkpoint = refl
    by c = refl

-- WHAT IS SO OF A PLACE of two lists, by induction
the_line : (x y : ScriptLine) → Some x ≡ Some y → x ≡ y
the_line x y is = cc

the_answer : (x y : Answer) → Some x ≡ Some y → x ≡ y
the_answer x y is = cc

by_place : (P : List ScriptLine → List Answer → ℕ → Type 0) (l : ScriptLine) (a : Answer)
    → ((k : ScriptLine) (b : Answer) (script : List ScriptLine) (answers : List Answer) → k ≡ l → b ≡ a → P (k ∷ script) (b ∷ answers) zero)
    → ((k : ScriptLine) (b : Answer) (script : List ScriptLine) (answers : List Answer) (i : ℕ) → P script answers i → P (k ∷ script) (b ∷ answers) (suc i))
    → (script : List ScriptLine) (answers : List Answer) (i : ℕ) → slice_get script i ≡ Some l → slice_get answers i ≡ Some a → P script answers i
by_place P l a first later [] answers i at answered = cc
by_place P l a first later (k ∷ script) [] i at answered = cc
by_place P l a first later (k ∷ script) (b ∷ answers) zero at answered = first k b script answers (the_line k l at) (the_answer b a answered)
by_place P l a first later (k ∷ script) (b ∷ answers) (suc i) at answered = later k b script answers i (by_place P l a first later script answers i at answered)

module _ (laws : Laws) (begun : NoneRuns)
    (stay : (w u : Work) (steps : List Step) → Extends w u → IsAnswered w steps → IsAnswered u steps) (f : View) (seat : ℕ) (session : IsSession f seat) (holds : IsSerializable sound_law f) where
  -- what the line itself makes and claims counts once
  pub record LineCounts (script : List ScriptLine) (answers : List Answer) (moves : List Move) (p : Progress) (v t : View) (i : ℕ) (l : ScriptLine) (a : Answer) : Type 0 where
    pub before : View
    pub after : View
    pub did : DidLineBeside f l a before after
    pub run : phase_at before seat ≡ Active → (steps : List Step) × IsRunOf (kept_at before seat) steps
    pub goes : Continues (after.session seat) (f.session seat)
    pub few : Few f (fold (hears seat) p (take i (said_of script answers))) (before.session seat)
    pub mades : (mades_in (t.session seat) + mades_in (before.session seat)) + makes_of l.command ≤ (mades_in (v.session seat) + own_total makes_of seat (said_in moves)) + mades_in (after.session seat)
    pub claims : (claims_in (t.session seat) + claims_in (before.session seat)) + claims_of l.command ≤ (claims_in (v.session seat) + own_total claims_of seat (said_in moves)) + claims_in (after.session seat)

  -- the sum behind a place
  total_then : (count : Command → ℕ) (l : ScriptLine) (a : Answer) (moves : List Move) → own_total count seat (said_in (move_of l a ∷ moves)) ≡ own_count count seat (place l a) + own_total count seat (said_in moves)
  total_then count l a moves =
      ap (λ (list : List Said). own_total count seat list) (says_line l a moves) ∙ sum_by-cons (λ (y : Said). own_count count seat y) (place l a) (said_in moves)

  own_is : (count : Command → ℕ) (l : ScriptLine) (a : Answer) → l.session ≡ seat → own_count count seat (place l a) ≡ count l.command
  own_is count l a own = ap (λ (b : Bool). cond b (count l.command) 0) (eq-eqb l.session seat own)

  -- one line
  record StepCounts (k : ScriptLine) (b : Answer) (p : Progress) (phase : Phase) (u w : View) : Type 0 where
    knows : Knows seat (hears seat p (place k b)) (turns seat phase (place k b)) w
    run : phase_at u seat ≡ Active → (steps : List Step) × IsRunOf (kept_at u seat) steps
    goes : Continues (w.session seat) (f.session seat)
    few : Few f (hears seat p (place k b)) (w.session seat)
    mades : mades_in (w.session seat) ≤ mades_in (u.session seat) + own_count makes_of seat (place k b)
    claims : claims_in (w.session seat) ≤ claims_in (u.session seat) + own_count claims_of seat (place k b)

  step : (k : ScriptLine) (b : Answer) (moves : List Move) (p : Progress) (phase : Phase) (v u w t : View) → Passes seat v u → DidOwn (is_own seat (move_of k b)) f seat (move_of k b) u w
      → IsOwnRun f seat w moves t → IsInRange k.command → Continues (t.session seat) (f.session seat) → Knows seat p phase v → Few f p (v.session seat) → StepCounts k b p phase u w
  step k b moves p phase v u w t passes did rest range goes knows few =
      let there = know_there laws begun stay f seat session holds p phase v u passes knows in
      let goes_w = goes_from laws begun stay f seat session holds moves w t rest goes in
      let one = did_counts laws begun stay f seat session holds k.session (Some k.command) b u w p (line_did f seat k b u w did) range there.told goes_w
      (few_passes laws begun stay f seat session holds p v u passes few) in record {
        knows = subst (λ (list : List Said). Knows seat (fold (hears seat) p list) (fold (turns seat) phase list) w) (says_line k b [])
            (knows_own begun stay f seat (move_of k b ∷ []) p phase v w (u, w, passes, did, passes_itself seat w) knows);
        run = knows_run seat p phase u there;
        goes = goes_w;
        few = one.few;
        mades = one.mades;
        claims = one.claims_are;
      }

  -- the first line, and one behind it
  first_counts : (k : ScriptLine) (b : Answer) (script : List ScriptLine) (answers : List Answer) (moves : List Move) (p : Progress) (phase : Phase) (v u w t : View) (l : ScriptLine) (a : Answer)
      → Passes seat v u → DidOwn (is_own seat (move_of k b)) f seat (move_of k b) u w → IsOwnRun f seat w moves t → AreMovesInRange moves → Continues (t.session seat) (f.session seat)
      → Few f p (v.session seat) → StepCounts k b p phase u w → l.session ≡ seat → k ≡ l → b ≡ a
      → LineCounts (k ∷ script) (b ∷ answers) (move_of k b ∷ moves) p v t zero l a
  first_counts k b script answers moves p phase v u w t l a passes did rest range goes few one own line_is answer_is =
      let all = run_counts laws begun stay f seat session holds moves (hears seat p (place k b)) (turns seat phase (place k b)) w t rest range goes one.knows one.few in
      let session_is : k.session ≡ seat = ap (λ (m : ScriptLine). m.session) line_is ∙ own in
      let m = total_then makes_of k b moves in
      let n = total_then claims_of k b moves in
      let first : mades_in (u.session seat) ≡ mades_in (v.session seat) = ap (λ (s : Session). mades_in s) passes.own in
      let second : claims_in (u.session seat) ≡ claims_in (v.session seat) = ap (λ (s : Session). claims_in s) passes.own in
      record {
        before = u;
        after = w;
        did = own_line f seat l a u w own
            (subst (λ (x : ScriptLine). DidOwn (is_own seat (move_of x a)) f seat (move_of x a) u w) line_is
            (subst (λ (x : Answer). DidOwn (is_own seat (move_of k x)) f seat (move_of k x) u w) answer_is did));
        run = one.run;
        goes = one.goes;
        few = few_passes laws begun stay f seat session holds p v u passes few;
        mades = omega (arith, all.mades, m, own_is makes_of k b session_is, ap (λ (x : ScriptLine). makes_of x.command) line_is, first);
        claims = omega (arith, all.claims_are, n, own_is claims_of k b session_is, ap (λ (x : ScriptLine). claims_of x.command) line_is, second);
      }

  later_counts : (k : ScriptLine) (b : Answer) (script : List ScriptLine) (answers : List Answer) (moves : List Move) (p : Progress) (phase : Phase) (v u w t : View) (i : ℕ) (l : ScriptLine) (a : Answer)
      → Passes seat v u → StepCounts k b p phase u w → LineCounts script answers moves (hears seat p (place k b)) w t i l a
      → LineCounts (k ∷ script) (b ∷ answers) (move_of k b ∷ moves) p v t (suc i) l a
  later_counts k b script answers moves p phase v u w t i l a passes one later =
      let m = total_then makes_of k b moves in
      let n = total_then claims_of k b moves in
      let first : mades_in (u.session seat) ≡ mades_in (v.session seat) = ap (λ (s : Session). mades_in s) passes.own in
      let second : claims_in (u.session seat) ≡ claims_in (v.session seat) = ap (λ (s : Session). claims_in s) passes.own in
      record {
        before = later.before;
        after = later.after;
        did = later.did;
        run = later.run;
        goes = later.goes;
        few = later.few;
        mades = omega (arith, later.mades, m, one.mades, first);
        claims = omega (arith, later.claims, n, one.claims, second);
      }

  -- what is counted of a line, by its place
  abbrev Counts : List Move → ScriptLine → Answer → List ScriptLine → List Answer → ℕ → Type 0
  Counts more l a script answers i = (p : Progress) (phase : Phase) (v t : View) → IsOwnRun f seat v (line_moves script answers ++ more) t → AreMovesInRange (line_moves script answers ++ more)
      → ((k : ScriptLine) (j : ℕ) → slice_get script j ≡ Some k → IsInRange k.command) → Continues (t.session seat) (f.session seat) → Knows seat p phase v → Few f p (v.session seat)
      → LineCounts script answers (line_moves script answers ++ more) p v t i l a

  first_place : (more : List Move) (l : ScriptLine) (a : Answer) → l.session ≡ seat → (k : ScriptLine) (b : Answer) (script : List ScriptLine) (answers : List Answer) → k ≡ l → b ≡ a
      → Counts more l a (k ∷ script) (b ∷ answers) zero
  first_place more l a own k b script answers line_is answer_is p phase v t (u, w, passes, did, rest) range ranges goes knows few =
      let moves = line_moves script answers ++ more in
      first_counts k b script answers moves p phase v u w t l a passes did rest range.1 goes few (step k b moves p phase v u w t passes did rest (ranges k zero refl) goes knows few) own line_is answer_is

  later_place : (more : List Move) (l : ScriptLine) (a : Answer) (k : ScriptLine) (b : Answer) (script : List ScriptLine) (answers : List Answer) (i : ℕ) → Counts more l a script answers i
      → Counts more l a (k ∷ script) (b ∷ answers) (suc i)
  later_place more l a k b script answers i later p phase v t (u, w, passes, did, rest) range ranges goes knows few =
      let moves = line_moves script answers ++ more in
      let one = step k b moves p phase v u w t passes did rest (ranges k zero refl) goes knows few in
      later_counts k b script answers moves p phase v u w t i l a passes one
      (later (hears seat p (place k b)) (turns seat phase (place k b)) w t rest range.1 (λ x j. ranges x (suc j)) goes one.knows one.few)

  pub line_counts : (script : List ScriptLine) (answers : List Answer) (more : List Move) (p : Progress) (phase : Phase) (v t : View) (i : ℕ) (l : ScriptLine) (a : Answer)
      → IsOwnRun f seat v (line_moves script answers ++ more) t → AreMovesInRange (line_moves script answers ++ more) → ((k : ScriptLine) (j : ℕ) → slice_get script j ≡ Some k → IsInRange k.command)
      → Continues (t.session seat) (f.session seat) → Knows seat p phase v → Few f p (v.session seat) → l.session ≡ seat → slice_get script i ≡ Some l → slice_get answers i ≡ Some a
      → LineCounts script answers (line_moves script answers ++ more) p v t i l a
  line_counts script answers more p phase v t i l a own_run range ranges goes knows few own at answered =
      by_place (Counts more l a) l a (first_place more l a own) (later_place more l a) script answers i at answered p phase v t own_run range ranges goes knows few
