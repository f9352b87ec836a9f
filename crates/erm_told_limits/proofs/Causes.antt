-- The causes as a report has them.
use Rattle.std.proofs.Common.{◌≡◌, ℕ, zero, suc, ◌+◌, ◌<◌, ◌≤◌, List, [], ◌∷◌, ◌++◌, Some, length, take, drop, slice_get, replicate, refl, sym, ap, subst, ⊎_elim, arith}
use Rattle.std.proofs.lemmas.List.{take-append-drop}
use Rattle.std.proofs.lemmas.List.Sums.{sum_by-append}
use Rattle.erm_model.specs.declared.limits.TheConstants.{OID_LIMIT, TABLES}
use Rattle.erm_model.specs.declared.TheConstants.{ROW_WORDS}
use Rattle.erm_model.specs.Member.{◌∈◌}
use Rattle.erm_model.specs.Rows.{Rows}
use Rattle.erm_machine.proofs.Listed.{∈-first}
use Rattle.erm_node.specs.Sound.{IsSound, reached}
use Rattle.erm_report.specs.declared.answer.Answer.{Answer}
use Rattle.erm_report.specs.declared.answer.Answer.TheVariants as answer
use Rattle.erm_script.specs.declared.script.Command.{Command}
use Rattle.erm_script.specs.declared.script.Command.TheVariants as command
use Rattle.erm_script.specs.declared.script.ScriptLine.{ScriptLine}
use Rattle.erm_world.specs.World.{View}
use Rattle.erm_good_report.specs.Opening.{Opening, InTurn}
use Rattle.erm_good_report.specs.Refusals.{HasRefusalCause, IsCounted, IsOwn, moment_at, claims_of, makes_of, total_of}
use Rattle.erm_good_report.specs.Transactions.{Said, Transaction, said_of}
use Rattle.erm_lines.specs.Answers.{DidLine}
use Rattle.erm_lines.specs.Executions.{DidLog, DidLogLine, IsCourse, IsOpeningOf}
use Rattle.erm_lines.proofs.Moved.{moved}
use Rattle.erm_told_limits.specs.Limits.{AreInRange, IsFull}
use Rattle.erm_told_limits.proofs.At.{At, AtMove, at_line, at_session, opened_holds, take_next}
use Rattle.erm_told_limits.proofs.Heard.{may_claim, may_read}
use Rattle.erm_told_limits.proofs.Holds.{Laws}
use Rattle.erm_told_limits.proofs.Limits.{cells_cause, oids_cause, own_cause, reads_cause, writes_cause}
use Rattle.erm_told_limits.proofs.Refused.{cells_full, oids_full, reads_full, writes_full}

-- what stands in the first part of a list stands in it
taken : (ls : List ScriptLine) (n : ℕ) (k : ScriptLine) → k ∈ take n ls → k ∈ ls
taken ls n k m = subst (λ (all : List ScriptLine). k ∈ all) (take-append-drop n ls) (∈-first (take n ls) (drop n ls) k m)

-- the line, with what is so before it
pub there : (laws : Laws) (v t : View) (script : List ScriptLine) (answers : List Answer) → IsCourse v script answers t → (i : ℕ) (l : ScriptLine) (a : Answer) → slice_get script i ≡ Some l → slice_get answers i ≡ Some a
    → AtMove v (take i script) (take i (said_of script answers)) l a
there laws v t script answers run i l a at_script at_answers = at_line laws v script answers [] [] v run.between (opened_holds v run.opened) refl run.lines i l a at_script at_answers

-- no line of the log has such an answer
not_logged : (v t : View) (c : Command) (a : Answer) → IsFull a → DidLog v c a t → ⊥
not_logged v t command.Flush (answer.Flushed place) is did = is
not_logged v t command.Flush (answer.Empty place) is did = is
not_logged v t command.Flush (answer.Unfilled place) is did = is
not_logged v t command.Checkpoint (answer.Checkpointed place) is did = is
not_logged v t command.Checkpoint (answer.Unfilled place) is did = is
not_logged v t c a is did = did

of_session : (first : View) (ls : List ScriptLine) (said : List Said) (l : ScriptLine) (a : Answer) → IsFull a → AtMove first ls said l a → At first ls said l a
of_session first ls said l a is at =
    ⊎_elim (λ (did : DidLine at.v l a at.t). at_session first ls said l a at did)
    (λ (did : DidLogLine at.v l a at.t). absurd (not_logged at.v at.t l.command a is did.did))
    (moved at.v l a at.t at.did)

module _ (laws : Laws) (zeros : (rows : Rows) (x : ℕ) → IsSound rows → TABLES ≤ x → rows x ≡ replicate ROW_WORDS 0 → reached rows x ≡ 0)
    (v t : View) (script : List ScriptLine) (answers : List Answer) (run : IsCourse v script answers t) (opening : Opening) (of : IsOpeningOf v opening)
    (all : List Transaction) (i : ℕ) (l : ScriptLine) (at_script : slice_get script i ≡ Some l) where
  -- the lines up to it are in range
  in_range : AreInRange (take i script ++ l ∷ [])
  in_range k m = run.ranges k (taken script (i + 1) k (subst (λ (ls : List ScriptLine). k ∈ ls) (sym (take_next script i l at_script)) m))

  full_at : (a : Answer) → slice_get answers i ≡ Some a → IsFull a → At v (take i script) (take i (said_of script answers)) l a
  full_at a e is = of_session v (take i script) (take i (said_of script answers)) l a is (there laws v t script answers run i l a at_script e)

  pub full_cause : (a : Answer) → slice_get answers i ≡ Some a → IsFull a → (u : Transaction) → IsOwn (moment_at InTurn opening script answers all i l) l.command a u
      → HasRefusalCause (moment_at InTurn opening script answers all i l) l.command u a
  full_cause answer.ReadsFull e is u own =
      let most = reads_cause laws v (take i script) (take i (said_of script answers)) l answer.ReadsFull (full_at answer.ReadsFull e is) zeros in_range reads_full in
      let own_most = own_cause laws v (take i script) (take i (said_of script answers)) l answer.ReadsFull (full_at answer.ReadsFull e is) zeros in_range reads_full own.0 own.1 in (
        omega (arith, most, of.rows, ap (λ (ls : List ScriptLine). total_of makes_of ls) (take_next script i l at_script)),
        omega (arith, own_most, ap may_read own.2),
      )
  full_cause answer.WritesFull e is u own =
      let most = writes_cause laws v (take i script) (take i (said_of script answers)) l answer.WritesFull (full_at answer.WritesFull e is) writes_full own.0 own.1 in
      omega (arith, most, ap may_claim own.2)
  full_cause (answer.CellsFull drawn) e is u own =
      let most = cells_cause laws v (take i script) (take i (said_of script answers)) l (answer.CellsFull drawn) (full_at (answer.CellsFull drawn) e is) drawn (cells_full drawn) in
      ((omega (arith, most.0.0, of.cells.0), omega (arith, most.0.1, of.cells.1)), omega (arith, most.1, of.cells.0, ap (λ (ls : List ScriptLine). total_of claims_of ls) (take_next script i l at_script)))
  full_cause (answer.OidsFull drawn) e is u own =
      let most = oids_cause laws v (take i script) (take i (said_of script answers)) l (answer.OidsFull drawn) (full_at (answer.OidsFull drawn) e is) drawn (oids_full drawn) in
      (most.0, omega (arith, most.1, of.first, ap (λ (ls : List ScriptLine). total_of makes_of ls) (take_next script i l at_script)))
  full_cause a e is u own = absurd is

-- CELLS of the run's own world
pub line_there : (script : List ScriptLine) (answers : List Answer) → length answers ≤ length script → (i : ℕ) (a : Answer) → slice_get answers i ≡ Some a → (l : ScriptLine) × (slice_get script i ≡ Some l)
line_there script [] most i a e = absurd (cc)
line_there [] (b ∷ answers) most i a e = absurd (omega (arith, most))
line_there (l ∷ script) (b ∷ answers) most zero a e = (l, refl)
line_there (l ∷ script) (b ∷ answers) most (suc i) a e = line_there script answers (omega (arith, most)) i a e

taken_less : (count : Command → ℕ) (ls : List ScriptLine) (n : ℕ) → total_of count (take n ls) ≤ total_of count ls
taken_less count ls n =
    let parts = sum_by-append (λ (k : ScriptLine). count k.command) (take n ls) (drop n ls) in
    omega (arith, parts, ap (λ (all : List ScriptLine). total_of count all) (take-append-drop n ls))

pub cells_full_at : (laws : Laws) (v t : View) (script : List ScriptLine) (answers : List Answer) → IsCourse v script answers t → (drawn : ℕ) → answer.CellsFull drawn ∈ answers
    → IsCounted v.opening.cells v.opening.cells drawn × (v.opening.cells < OID_LIMIT + total_of claims_of script)
cells_full_at laws v t script answers run drawn (i, e) =
    let line = line_there script answers run.most i (answer.CellsFull drawn) e in
    let l = line.0 in
    let said = take i (said_of script answers) in
    let at : At v (take i script) said l (answer.CellsFull drawn) = of_session v (take i script) said l (answer.CellsFull drawn) tt (there laws v t script answers run i l (answer.CellsFull drawn) line.1 e) in
    let most = cells_cause laws v (take i script) said l (answer.CellsFull drawn) at drawn (cells_full drawn) in
    (most.0, omega (arith, most.1, taken_less claims_of script (i + 1), ap (λ (ls : List ScriptLine). total_of claims_of ls) (take_next script i l line.1)))
