-- The windows of the transactions that the report of an execution at once tells are tight.
use Rattle.std.proofs.Common.{◌≡◌, ℕ, true, List, [], ◌∷◌, fold, map, inl, inr, refl, sym, ap, ◌∙◌, subst}
use Rattle.erm_model.specs.declared.history.VersionWritten.{VersionWritten}
use Rattle.erm_model.specs.declared.outcome.Phase.TheVariants.{Active, Idle}
use Rattle.erm_model.specs.History.{Makes}
use Rattle.erm_model.specs.Member.{◌∈◌}
use Rattle.erm_model.specs.Run.{Step}
use Rattle.erm_model.proofs.Members.{∈-behind}
use Rattle.erm_machine.proofs.Listed.{∈-head}
use Rattle.erm_node.specs.Sound.{sound_law}
use Rattle.erm_report.specs.declared.answer.Answer.{Answer}
use Rattle.erm_script.specs.declared.script.ScriptLine.{ScriptLine}
use Rattle.erm_world.specs.Going.{Extends}
use Rattle.erm_world.specs.Laws.{IsSerializable}
use Rattle.erm_world.specs.World.{Finished, IsSession, Session, Stand, View, Work, phase_at, phase_of, work_of}
use Rattle.erm_world.specs.World as world
use Rattle.erm_world.specs.Works.{is_claimed}
use Rattle.erm_maps.specs.Runs.{IsAnswered}
use Rattle.erm_good_report.specs.GoodReport.{HaveTightWindows, places_of}
use Rattle.erm_good_report.specs.Phases.{Closed}
use Rattle.erm_good_report.specs.Transactions.{Said, Transaction, nothing, progress_of, transactions_of}
use Rattle.erm_lines.specs.Executions.{said_in}
use Rattle.erm_lines.specs.Told.{Continues}
use Rattle.erm_lines.proofs.Keeping.{NoneRuns}
use Rattle.erm_lines_at_once.specs.Executions.{IsRunAtOnce, all_moves}
use Rattle.erm_lines_at_once.specs.Laws.{RunsAtOnceTell}
use Rattle.erm_told.proofs.Executed.{hears, knows_start, still_session}
use Rattle.erm_told.proofs.Going.{continues_itself}
use Rattle.erm_told_at_once.proofs.Runs.{all_say, close_of}
use Rattle.erm_causes.proofs.Quiet.{idle_with}
use Rattle.erm_causes.proofs.Runs.{lines_range}
use Rattle.erm_causes_at_once.proofs.Touched.{closes_range}
use Rattle.erm_told_limits.proofs.Holds.{Laws}
use Rattle.erm_told_limits.proofs.Given.{HistoryLaws}
use Rattle.erm_tight.proofs.Found.{claimed_in}
use Rattle.erm_tight.proofs.High.{tight_windows}
use Rattle.erm_tight.proofs.Moves.{IsMarked, MarkedOver}
use Rattle.erm_tight.proofs.Quiet.{IsBounded}
use Rattle.erm_tight.proofs.Undecided.{IsOrderly, none_claimed}
use Rattle.erm_tight.proofs.Whole.{KeyLaws}
use Rattle.erm_tight_at_once.specs.Laws.{RunsAtOnceHaveTightWindows}
use Rattle.erm_tight_at_once.proofs.Bounded.{bounded}
use Rattle.erm_tight_at_once.proofs.Marked.{AreMarks, MarksOver, now_rests}
use Rattle.erm_tight_at_once.proofs.Walked.{run_marks}

-- with their versions bounded
marked_over : (ts : List Transaction) (gs : List Finished) → MarksOver ts gs → ((g : Finished) → g ∈ gs → IsBounded g.work g.fate) → MarkedOver ts gs
marked_over ts [] marks bounds = marks
marked_over ts (g ∷ gs) (inl (u, us, is, number, one, rest)) bounds =
    inl (u, us, is, number, record { marks = one; bounded = bounds g (∈-head g gs) }, marked_over us gs rest (λ h m. bounds h (∈-behind g gs h m)))
marked_over ts (g ∷ gs) (inr (aborts, rest)) bounds = inr (aborts, marked_over ts gs rest (λ h m. bounds h (∈-behind g gs h m)))

never_sealed : (stand : Stand) (w : Work) (stamp : ℕ) → stand ≡ world.idle → stand ≡ world.sealed w stamp → ⊥
never_sealed stand w stamp idle sealed = let no : world.idle ≡ world.sealed w stamp = sym idle ∙ sealed in cc

never_active : (stand : Stand) → stand ≡ world.idle → phase_of stand ≡ Active → ⊥
never_active stand idle active = let no = ap phase_of (sym idle) ∙ active in cc

module _ (keys : KeyLaws) (laws : Laws) (histories : HistoryLaws) (begun : NoneRuns)
    (stay : (w u : Work) (steps : List Step) → Extends w u → IsAnswered w steps → IsAnswered u steps) (tell : RunsAtOnceTell)
    (v f : View) (script : List ScriptLine) (answers : List Answer) (closed : List Closed) (run : IsRunAtOnce v script answers closed f) where
  abbrev said : List Said
  said = places_of script answers closed

  abbrev holds : IsSerializable sound_law f
  holds = run.ends.serializable

  session_first : (seat : ℕ) → IsSession f seat → IsSession v seat
  session_first seat session = still_session f v seat (sym run.opening) session

  goes_last : (seat : ℕ) (session : IsSession v seat) → Continues ((run.own seat session).last.session seat) (f.session seat)
  goes_last seat session = let part = run.own seat session in continues_itself (part.last.session seat) (f.session seat) (sym part.ends)

  first_marks : (seat : ℕ) → IsSession v seat → AreMarks nothing (v.saves seat) (v.session seat)
  first_marks seat session = subst (λ (s : Session). AreMarks nothing (v.saves seat) s) (sym (run.opened.idle seat session)) (record { over = refl; now = tt })

  -- each session's transactions, as they are told
  abbrev held : (seat : ℕ) → IsSession f seat → List (List VersionWritten)
  held seat session = (run.own seat (session_first seat session)).last.saves seat

  marks : (seat : ℕ) (session : IsSession f seat) → AreMarks (progress_of seat said) (held seat session) (f.session seat)
  marks seat session =
      let first = session_first seat session in
      let part = run.own seat first in
      let range = lines_range script answers (map close_of closed) run.ranges (closes_range closed) in
      let all = run_marks keys laws begun stay f seat session holds (all_moves script answers closed) nothing Idle v part.last part.run range (goes_last seat first)
      (knows_start v seat (run.opened.idle seat first)) (first_marks seat first) in
      subst (λ (list : List Said). AreMarks (progress_of seat list) (part.last.saves seat) (f.session seat)) (all_say script answers closed)
      (subst (λ (s : Session). AreMarks (fold (hears seat) nothing (said_in (all_moves script answers closed))) (part.last.saves seat) s) part.ends all)

  idle_at : (seat : ℕ) → IsSession f seat → (f.session seat).stand ≡ world.idle
  idle_at seat session = idle_with (f.session seat).stand (run.idle seat session)

  marked : (seat : ℕ) → IsSession f seat → IsMarked (progress_of seat said) (f.saves seat) (f.session seat)
  marked seat session =
      let its = marks seat session in record {
        over = marked_over (progress_of seat said).over (f.session seat).over its.over (λ g m. bounded f run.ends seat session g.work g.fate m);
        now = now_rests (progress_of seat said).current (held seat session) (f.saves seat) (f.session seat).stand (never_active (f.session seat).stand (idle_at seat session)) its.now;
      }

  -- In the end no transaction is in progress, and one that was excluded has its numbers.
  orderly : IsOrderly f
  orderly = record {
    excluded = λ seat stamp succ pred w session was. record {
      decided = λ u within less. record {
        reads = λ overwrites. (run.ends.excluded seat w stamp succ pred session was).0.at_most_each u (within, less, overwrites);
        claims = λ x is makes.
            let claim = claimed_in w.claims x is in run.ends.alone seat w stamp succ pred claim.0 u session was claim.1 within (subst (λ (n : ℕ). Makes u n) (sym claim.2) makes) less;
      };
      undecided = λ q seen y in_f stand less. absurd (never_sealed (f.session q).stand y seen (idle_at q in_f) stand);
    };
    claimed = λ seat x u session is within makes.
        absurd (none_claimed x (subst (λ (stand : Stand). is_claimed (work_of stand).claims x ≡ true) (idle_at seat session) is));
    earlier = λ seat stamp g session active within is. absurd (never_active (f.session seat).stand (idle_at seat session) active);
  }

  pub tight : HaveTightWindows (transactions_of v.opening.sessions (places_of script answers closed))
  tight =
      tight_windows histories f v.opening.sessions said holds (ap (λ (o : world.Opening). o.sessions) (sym run.opening))
      (λ seat session. tell v f script answers closed run seat (session_first seat session)) marked orderly

pub have_tight_windows : KeyLaws → Laws → HistoryLaws → (NoneRuns)
    → ((w u : Work) (steps : List Step) → Extends w u → IsAnswered w steps → IsAnswered u steps) → RunsAtOnceTell → RunsAtOnceHaveTightWindows
have_tight_windows keys laws histories begun stay tell v f script answers closed run = tight keys laws histories begun stay tell v f script answers closed run
