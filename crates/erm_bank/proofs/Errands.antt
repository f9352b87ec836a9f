-- What an errand of a teller came to.
use Rattle.std.proofs.Common.{◌≡◌, ℕ, zero, suc, ◌+◌, ◌<◌, ◌^◌, List, [], ◌∷◌, ◌++◌, length, Some, Result, Ok, Err, IfErr, IfOk, inl, inr, refl, sym, ap, ◌∙◌, subst, arith}
use Rattle.std.proofs.lemmas.List.{length-append}
use Rattle.std.specs.List.{slice_get}
use Rattle.erm_accounts.specs.Totals.{AddUpTo}
use Rattle.erm_bank.specs.declared.teller.Errand.{Errand}
use Rattle.erm_bank.specs.declared.teller.Errand.TheVariants as errand
use Rattle.erm_bank.specs.declared.teller.Told.{Told}
use Rattle.erm_bank.specs.declared.teller.Told.TheVariants as told
use Rattle.erm_bank.specs.Tellers.{CameTo, DidAll, DidErrand, IsServing, IsShown, Waits}
use Rattle.erm_client.proofs.Commits.{all_went}
use Rattle.erm_client.proofs.Stretched.{went_itself, went_then}
use Rattle.erm_client.specs.Dealings.{AllCommitted, snapshots_told}
use Rattle.erm_client.specs.declared.refusal.Refusal.{Refusal}
use Rattle.erm_client.specs.declared.transcript.Transcript.{Transcript}
use Rattle.erm_client.specs.Stretches.{Went}
use Rattle.erm_client.specs.Transcripts.{IsAnswered, IsRefused}
use Rattle.erm_machine.proofs.Listed.{∈-first, ∈-second}
use Rattle.erm_model.proofs.Members.{none_in_nil, ∈-push}
use Rattle.erm_model.specs.Committed.{Committed}
use Rattle.erm_model.specs.Member.{◌∈◌}
use Rattle.erm_model.specs.Run.{Step}
use Rattle.erm_report.specs.declared.answer.Answer.TheVariants as answer
use Rattle.erm_script.specs.declared.script.Command.{Command}
use Rattle.erm_script.specs.declared.script.Command.TheVariants as command
use Rattle.erm_tellers.specs.declared.tellers.Outcome.{Outcome}
use Rattle.erm_tellers.specs.declared.tellers.Outcome.TheVariants.{Done, Short}
use Rattle.erm_tellers.specs.declared.tellers.Task.{Task}
use Rattle.erm_tellers.specs.declared.tellers.Task.TheVariants as task
use Rattle.erm_tellers.specs.Plans.{IsAuditPlan, IsPlan}
use Rattle.erm_tellers.specs.Served.{Audited, AuditedOnce, ServedOnce}
use Rattle.erm_tellers.specs.Tellers.{IsOfTellers, Serves}
use Rattle.erm_tellers.specs.Tries.{IsPassing, IsUnsafe, Tried, TriedInVain}

-- the one of one
only : {X : Type 0} (x y : X) → y ∈ (x ∷ []) → x ≡ y
only x y (zero, at) = cc
only x y (suc k, at) = absurd (none_in_nil y (k, at))

-- by tries in vain nothing committed or ended
vain_went : (Planned : List Command → Type 0) (Passing : Refusal → Type 0) (n : ℕ) (c d : Transcript) → TriedInVain Planned Passing n c d → (begins : ℕ) × Went begins [] [] c d
vain_went Planned Passing zero c d vain = (0, subst (λ (x : Transcript). Went 0 [] [] c x) (sym vain) (went_itself c))
vain_went Planned Passing (suc n) c d (mid, why, vain, passing, gave) = let before = vain_went Planned Passing n c mid vain in (before.0 + 1, went_then before.1 gave.went)

-- TASKS
task_once : (most : ℕ) (wanted : Task) (tells : Told) → ((low high total : ℕ) → tells ≡ told.Total low high total → ⊥) → (result : Result Outcome Refusal) (n : ℕ) (b c d : Transcript) → Went n [] [] b c
    → ServedOnce wanted result c d → CameTo most (errand.Serve wanted) tells b d → DidErrand most (errand.Serve wanted) tells b d
task_once most wanted tells none (Ok Done) n b c d went did came = record {
  begins = n + 1;
  commits = did.commit ∷ [];
  snapshots = [];
  went = went_then went did.went;
  serves = λ x there. (wanted, refl, subst (λ (y : Committed). Serves wanted y.steps) (only did.commit x there) did.serves);
  shown = λ low high total is. absurd (none low high total is);
  came_to = came;
}
task_once most wanted tells none (Ok Short) n b c d went did came = record {
  begins = n + 1;
  commits = [];
  snapshots = [];
  went = went_then went did.went;
  serves = λ x there. absurd (none_in_nil x there);
  shown = λ low high total is. absurd (none low high total is);
  came_to = came;
}
task_once most wanted tells none (Err why) n b c d went did came = record {
  begins = n + 1;
  commits = [];
  snapshots = [];
  went = went_then went did.went;
  serves = λ x there. absurd (none_in_nil x there);
  shown = λ low high total is. absurd (none low high total is);
  came_to = came;
}

pub did_task : {InVain : Type 0} (wanted : Task) (tells : Told) → ((low high total : ℕ) → tells ≡ told.Total low high total → ⊥) → (result : Result Outcome Refusal) (most : ℕ) (c d : Transcript)
    → Tried (IsPlan wanted) IsPassing (ServedOnce wanted result) InVain most c d → CameTo most (errand.Serve wanted) tells c d → DidErrand most (errand.Serve wanted) tells c d
did_task wanted tells none result most c d tried came =
    let vain = vain_went (IsPlan wanted) IsPassing tried.vain c tried.before tried.in_vain in
    task_once most wanted tells none result vain.0 c tried.before d vain.1 tried.came_to came

-- AUDITS
same_low : (a b m x y n : ℕ) → told.Total a b m ≡ told.Total x y n → a ≡ x
same_low a b m x y n is = cc

same_high : (a b m x y n : ℕ) → told.Total a b m ≡ told.Total x y n → b ≡ y
same_high a b m x y n is = cc

same_total : (a b m x y n : ℕ) → told.Total a b m ≡ told.Total x y n → m ≡ n
same_total a b m x y n is = cc

abbrev Found : Type 0
Found = List (ℕ × List ℕ)

-- one that was answered, of which this total is told
pub did_audit : (low high total : ℕ) (both : Found × Found) (most : ℕ) (c d : Transcript) → high < 2 ^ 64 → AddUpTo both.0 both.1 total
    → Audited low high most (Ok both) c d → DidErrand most (errand.Audit low high) (told.Total low high total) c d
did_audit low high total both most c d below adds tried =
    let vain = vain_went (IsAuditPlan low high) IsUnsafe tried.vain c tried.before tried.in_vain in
    let did = tried.came_to in
    record {
      begins = vain.0 + 1;
      commits = [];
      snapshots = did.snapshot ∷ [];
      went = went_then vain.1 did.went;
      serves = λ x there. absurd (none_in_nil x there);
      shown = λ l h t is.
          subst (λ (n : ℕ). IsShown n h t (did.snapshot ∷ [])) (same_low low high total l h t is)
          (subst (λ (n : ℕ). IsShown low n t (did.snapshot ∷ [])) (same_high low high total l h t is)
          (subst (λ (n : ℕ). IsShown low high n (did.snapshot ∷ [])) (same_total low high total l h t is)
          (record { below = below; snapshot = did.snapshot; there = (0, refl); current = both.0; savings = both.1; audits = did.audits; adds_up = adds })));
      came_to = ((refl, refl), (both, tried, adds));
    }

-- one of which none is told
audit_went : (low high : ℕ) (result : Result (Found × Found) Refusal) (c d : Transcript) → AuditedOnce low high result c d → (snapshots : List Committed) × Went 1 [] snapshots c d
audit_went low high (Ok both) c d did = (did.snapshot ∷ [], did.went)
audit_went low high (Err why) c d did = ([], did.went)

pub did_look : {InVain : Type 0} (low high : ℕ) (tells : Told) → ((l h t : ℕ) → tells ≡ told.Total l h t → ⊥) → (result : Result (Found × Found) Refusal) (most : ℕ) (c d : Transcript)
    → Tried (IsAuditPlan low high) IsUnsafe (AuditedOnce low high result) InVain most c d → CameTo most (errand.Audit low high) tells c d → DidErrand most (errand.Audit low high) tells c d
did_look low high tells none result most c d tried came =
    let vain = vain_went (IsAuditPlan low high) IsUnsafe tried.vain c tried.before tried.in_vain in
    let did = audit_went low high result tried.before d tried.came_to in
    record {
      begins = vain.0 + 1;
      commits = [];
      snapshots = did.0;
      went = went_then vain.1 did.1;
      serves = λ x there. absurd (none_in_nil x there);
      shown = λ l h t is. absurd (none l h t is);
      came_to = came;
    }

-- WHAT FOLLOWS. The tasks' transactions are the tellers'.
pub of_task : (wanted : Task) (steps : List Step) → Serves wanted steps → IsOfTellers steps
of_task (task.Withdraw holder amount) steps serves = inl (inl serves.is)
of_task (task.Deposit holder amount) steps serves = inl (inr (inl serves.is))
of_task (task.Transfer payer payee amount) steps serves = inr serves.is

pub of_tellers : (errands : List Errand) (c : Transcript) → AllCommitted (IsServing errands) c → AllCommitted IsOfTellers c
of_tellers errands c all t stamp succ pred over commits = let it = all t stamp succ pred over commits in of_task it.0 _ it.2

-- A total that was shown stays so.
pub shown_still : (low high total : ℕ) (ss more all : List Committed) → all ≡ ss ++ more → IsShown low high total ss → IsShown low high total all
shown_still low high total ss more all is s =
    subst (λ (xs : List Committed). IsShown low high total xs) (sym is)
    (record { below = s.below; snapshot = s.snapshot; there = ∈-first ss more s.snapshot s.there; current = s.current; savings = s.savings; audits = s.audits; adds_up = s.adds_up })

pub shown_now : (low high total : ℕ) (ss more all : List Committed) → all ≡ ss ++ more → IsShown low high total more → IsShown low high total all
shown_now low high total ss more all is s =
    subst (λ (xs : List Committed). IsShown low high total xs) (sym is)
    (record { below = s.below; snapshot = s.snapshot; there = ∈-second ss more s.snapshot s.there; current = s.current; savings = s.savings; audits = s.audits; adds_up = s.adds_up })

-- ERRANDS IN TURN: one more.
pub did_more : (most : ℕ) (tells : List Told) (errands : List Errand) (asked : Errand) (tell : Told) (c d e : Transcript) → slice_get errands (length tells) ≡ Some asked
    → DidAll most tells errands c d → CameTo most asked tell d e → DidAll most (tells ++ tell ∷ []) errands c e
did_more most [] [] asked tell c d e at same came = absurd (none_in_nil asked (0, at))
did_more most [] (x ∷ xs) asked tell c d e at same came =
    let it : Some x ≡ Some asked = at in
    let is : x ≡ asked = cc in
    (e, subst (λ (y : Transcript). CameTo most x tell y e) same (subst (λ (y : Errand). CameTo most y tell d e) (sym is) came), refl)
did_more most (t ∷ ts) [] asked tell c d e at did came = absurd did
did_more most (t ∷ ts) (x ∷ xs) asked tell c d e at (mid, first, rest) came = (mid, first, did_more most ts xs asked tell mid d e at rest came)

pub longer_told : (before : List Told) (tell : Told) (after : List Told) (place : ℕ) → after ≡ before ++ tell ∷ [] → length before ≡ place → length after ≡ place + 1
longer_told before tell after place is long =
    let more : length after ≡ length before + 1 = ap (λ (ts : List Told). length ts) is ∙ length-append before (tell ∷ []) in
    omega (arith, more, long)

-- WHAT A TELLER TELLS so far, and one thing more.
module _ (most : ℕ) (errands : List Errand) (asked : Errand) (among : asked ∈ errands) (c d : Transcript) (tells : Told) (did : DidErrand most asked tells c d) where
  pub serves_more : AllCommitted (IsServing errands) c → AllCommitted (IsServing errands) d
  serves_more all = all_went (IsServing errands) did.went (λ x there. let it = did.serves x there in (it.0, subst (λ (e : Errand). e ∈ errands) it.1 among, it.2)) all

  pub shows_more : (before after : List Told) → after ≡ before ++ tells ∷ []
      → ((low high total : ℕ) → told.Total low high total ∈ before → IsShown low high total (snapshots_told c))
      → (low high total : ℕ) → told.Total low high total ∈ after → IsShown low high total (snapshots_told d)
  shows_more before after is all low high total there =
      elim (∈-push before tells (told.Total low high total) (subst (λ (l : List Told). told.Total low high total ∈ l) is there)) as (λ _. IsShown low high total (snapshots_told d)) [
        | inl earlier ↦ shown_still low high total (snapshots_told c) did.snapshots (snapshots_told d) did.went.snapshots_are (all low high total earlier)
        | inr now ↦ shown_now low high total (snapshots_told c) did.snapshots (snapshots_told d) did.went.snapshots_are (did.shown low high total (sym now))
      ]

-- a wait for the disk, by what it is answered
pub waits_by : (c d : Transcript) (result : Result ℕ Refusal) → IfOk result (λ stamp. IsAnswered c command.Durable (answer.Durable stamp) d)
    → IfErr result (λ why. IsRefused c command.Durable why d) → Waits c d
waits_by c d (Ok stamp) ok err = inl (stamp, ok)
waits_by c d (Err why) ok err = inr (why, err)

-- Where nothing committed or ended, all stays.
pub shows_still : (c d : Transcript) (n : ℕ) → Went n [] [] c d → (low high total : ℕ) → IsShown low high total (snapshots_told c) → IsShown low high total (snapshots_told d)
shows_still c d n went low high total = shown_still low high total (snapshots_told c) [] (snapshots_told d) went.snapshots_are
