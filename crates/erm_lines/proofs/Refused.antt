-- Refusals as answers: which commands may have them, and what they say.
use Rattle.std.proofs.Common.{◌≡◌, ℕ, refl, subst, Option, Some, IfSome, List, inl, inr, Result, IfOk}
use Rattle.std.proofs.lemmas.Result.{IfOk-weaker}
use Rattle.erm_model.specs.declared.row_stop.RowStop.{RowStop}
use Rattle.erm_model.specs.declared.row_stop.RowStop.TheVariants.{NotYet, ReadsFull, Owned, Newer, WritesFull, CellsFull, OidsFull, Excluded, Memory}
use Rattle.erm_model.specs.RowTransaction.{StopsClaim, StopsMake, StopsRead}
use Rattle.erm_report.specs.declared.answer.Answer.{Answer}
use Rattle.erm_report.specs.declared.answer.Answer.TheVariants as answer
use Rattle.erm_script.specs.declared.script.Command.{Command}
use Rattle.erm_script.specs.declared.script.Command.TheVariants as command
use Rattle.erm_tree.specs.Change.{StopsChange, StopsPut}
use Rattle.erm_world.specs.World.{View}
use Rattle.erm_good_report.specs.Phases.{IsAnswerTo, IsOutcome}
use Rattle.erm_lines.specs.Answers.{DidCommand, DidOperation, stop_told}
use Rattle.erm_lines.specs.Operations.{AsksOf, FrontOf, WereCutOff}
use Rattle.erm_lines.specs.Whole.{WasAnswered}

-- what is so of the answer, where there is one
at_some : (P : Answer → Type 0) (o : Option Answer) (a : Answer) → o ≡ Some a → IfSome o P → P a
at_some P o a is so = subst (λ (o : Option Answer). IfSome o P) is so

-- what is so of the answers to the refusals of reads, to those of claims too, and to those of calls for new objects too
abbrev Reading : (Answer → Type 0) → Type 0
Reading P = ((seat seen : ℕ) → P (answer.WaitSeat seat seen)) × P answer.ReadsFull × ((succ pred : ℕ) → P (answer.ExcludedEarly succ pred))

abbrev Claiming : (Answer → Type 0) → Type 0
Claiming P = ((seat number : ℕ) → P (answer.Owned seat number)) × ((stamp : ℕ) → P (answer.Newer stamp)) × P answer.WritesFull × ((drawn : ℕ) → P (answer.CellsFull drawn))

of_read : (P : Answer → Type 0) → Reading P → (stop : RowStop) → StopsRead stop → IfSome (stop_told stop) P
of_read P reads (NotYet seat seen) may = reads.0 seat seen
of_read P reads ReadsFull may = reads.1
of_read P reads (Owned seat number) may = absurd may
of_read P reads (Newer stamp) may = absurd may
of_read P reads WritesFull may = absurd may
of_read P reads (CellsFull drawn) may = absurd may
of_read P reads (OidsFull drawn) may = absurd may
of_read P reads (Excluded succ pred) may = reads.2 succ pred
of_read P reads Memory may = tt

of_claim : (P : Answer → Type 0) → Reading P → Claiming P → (stop : RowStop) → StopsClaim stop → IfSome (stop_told stop) P
of_claim P reads claims (NotYet seat seen) may = absurd may
of_claim P reads claims ReadsFull may = absurd may
of_claim P reads claims (Owned seat number) may = claims.0 seat number
of_claim P reads claims (Newer stamp) may = claims.1 stamp
of_claim P reads claims WritesFull may = claims.2
of_claim P reads claims (CellsFull drawn) may = claims.3 drawn
of_claim P reads claims (OidsFull drawn) may = absurd may
of_claim P reads claims (Excluded succ pred) may = reads.2 succ pred
of_claim P reads claims Memory may = tt

of_make : (P : Answer → Type 0) → ((drawn : ℕ) → P (answer.OidsFull drawn)) → (stop : RowStop) → StopsMake stop → IfSome (stop_told stop) P
of_make P makes (NotYet seat seen) may = absurd may
of_make P makes ReadsFull may = absurd may
of_make P makes (Owned seat number) may = absurd may
of_make P makes (Newer stamp) may = absurd may
of_make P makes WritesFull may = absurd may
of_make P makes (CellsFull drawn) may = absurd may
of_make P makes (OidsFull drawn) may = makes drawn
of_make P makes (Excluded succ pred) may = absurd may
of_make P makes Memory may = tt

of_change : (P : Answer → Type 0) → Reading P → Claiming P → (stop : RowStop) → StopsChange stop → IfSome (stop_told stop) P
of_change P reads claims stop (inl may) = of_read P reads stop may
of_change P reads claims stop (inr may) = of_claim P reads claims stop may

of_put : (P : Answer → Type 0) → Reading P → Claiming P → ((drawn : ℕ) → P (answer.OidsFull drawn)) → (stop : RowStop) → StopsPut stop → IfSome (stop_told stop) P
of_put P reads claims makes stop (inl may) = of_change P reads claims stop may
of_put P reads claims makes stop (inr may) = of_make P makes stop may

-- which refusals each command may have
pub get_fits : (table key : ℕ) (stop : RowStop) → StopsRead stop → IfSome (stop_told stop) (λ a. IsAnswerTo (command.Get table key) a)
get_fits table key = of_read (λ a. IsAnswerTo (command.Get table key) a) (λ seat seen. tt, tt, λ succ pred. tt)

pub next_fits : (table from : ℕ) (stop : RowStop) → StopsRead stop → IfSome (stop_told stop) (λ a. IsAnswerTo (command.Next table from) a)
next_fits table from = of_read (λ a. IsAnswerTo (command.Next table from) a) (λ seat seen. tt, tt, λ succ pred. tt)

pub scan_fits : (table low high : ℕ) (stop : RowStop) → StopsRead stop → IfSome (stop_told stop) (λ a. IsAnswerTo (command.Scan table low high) a)
scan_fits table low high = of_read (λ a. IsAnswerTo (command.Scan table low high) a) (λ seat seen. tt, tt, λ succ pred. tt)

pub del_fits : (table key : ℕ) (stop : RowStop) → StopsChange stop → IfSome (stop_told stop) (λ a. IsAnswerTo (command.Del table key) a)
del_fits table key =
    of_change (λ a. IsAnswerTo (command.Del table key) a) (λ seat seen. tt, tt, λ succ pred. tt) (λ seat number. tt, λ stamp. tt, tt, λ drawn. tt)

pub tidy_fits : (table key : ℕ) (stop : RowStop) → StopsChange stop → IfSome (stop_told stop) (λ a. IsAnswerTo (command.Tidy table key) a)
tidy_fits table key =
    of_change (λ a. IsAnswerTo (command.Tidy table key) a) (λ seat seen. tt, tt, λ succ pred. tt) (λ seat number. tt, λ stamp. tt, tt, λ drawn. tt)

pub put_fits : (table key : ℕ) (value : List ℕ) (stop : RowStop) → StopsPut stop → IfSome (stop_told stop) (λ a. IsAnswerTo (command.Put table key value) a)
put_fits table key value =
    of_put (λ a. IsAnswerTo (command.Put table key value) a) (λ seat seen. tt, tt, λ succ pred. tt) (λ seat number. tt, λ stamp. tt, tt, λ drawn. tt) (λ drawn. tt)

-- an outcome answers a commit
pub commit_fits : (a : Answer) → IsOutcome a → IsAnswerTo command.Commit a
commit_fits (answer.Committed stamp succ pred) is = tt
commit_fits (answer.Excluded stamp succ pred) is = tt
commit_fits (answer.WaitSeat seat seen) is = tt
commit_fits (answer.WaitRing flushed) is = tt
commit_fits a is = absurd is

module _ (v : View) (seat : ℕ) (c : Command) (t : View) where
  refused_did : (stop : RowStop) → WereCutOff v seat (FrontOf c) (AsksOf c) stop t → IfSome (stop_told stop) (λ a. DidOperation v seat c a t)
  refused_did (NotYet other seen) cut = (NotYet other seen, refl, cut)
  refused_did ReadsFull cut = (ReadsFull, refl, cut)
  refused_did (Owned other number) cut = (Owned other number, refl, cut)
  refused_did (Newer stamp) cut = (Newer stamp, refl, cut)
  refused_did WritesFull cut = (WritesFull, refl, cut)
  refused_did (CellsFull drawn) cut = (CellsFull drawn, refl, cut)
  refused_did (OidsFull drawn) cut = (OidsFull drawn, refl, cut)
  refused_did (Excluded succ pred) cut = (Excluded succ pred, refl, cut)
  refused_did Memory cut = tt

  -- a command on a table that was cut off is answered by the refusal
  pub refused : {E : Type 0} (r : Result Answer E) (stop : RowStop) → IfOk r (λ a. stop_told stop ≡ Some a) → IfSome (stop_told stop) (λ a. IsAnswerTo c a)
      → WereCutOff v seat (FrontOf c) (AsksOf c) stop t → ((a : Answer) → DidOperation v seat c a t → DidCommand v seat c a t)
      → IfOk r (λ a. WasAnswered v seat c a t)
  refused r stop told fits cut is =
      IfOk-weaker r (λ a. stop_told stop ≡ Some a) (λ a. WasAnswered v seat c a t) (λ a so. record {
        fits = at_some (λ a. IsAnswerTo c a) (stop_told stop) a so fits;
        did = is a (at_some (λ a. DidOperation v seat c a t) (stop_told stop) a so (refused_did stop cut));
      }) told
