-- Calls of a teller one behind another: what their stretches come to.
use Rattle.std.proofs.Common.{◌≡◌, ℕ, zero, suc, ◌+◌, ◌≤◌, List, [], ◌∷◌, ◌++◌, Result, Ok, Err, IfErr, IfOk, IsErr, IsErrAnd, refl, sym, ap, ◌∙◌, subst, inl, inr, arith}
use Rattle.std.proofs.lemmas.List.Elements.{All-cons, All-nil}
use Rattle.erm_accounts.specs.Accounts.{Current, IsAudit, Savings}
use Rattle.erm_client.proofs.Commits.{all_one, all_still}
use Rattle.erm_client.proofs.Onward.{goes_then}
use Rattle.erm_client.proofs.Stretched.{begins_grow, grew_itself, refused_amid, went_then, went_within}
use Rattle.erm_client.specs.Clients.{GoesOn}
use Rattle.erm_client.specs.Dealings.{AllCommitted, IsAt, begins_by, begins_in}
use Rattle.erm_client.specs.declared.client.Client.{Client}
use Rattle.erm_client.specs.declared.refusal.Refusal.{Refusal}
use Rattle.erm_client.specs.declared.transcript.Transcript.{Transcript}
use Rattle.erm_client.specs.Stretches.{WasRefused, Went}
use Rattle.erm_invariant.specs.Invariant.{IsRead}
use Rattle.erm_model.specs.Committed.{Committed}
use Rattle.erm_model.specs.Run.{Step}
use Rattle.erm_script.specs.declared.script.Command.{Command}
use Rattle.erm_script.specs.declared.script.Command.TheVariants as command
use Rattle.erm_tellers.specs.declared.tellers.Outcome.{Outcome}
use Rattle.erm_tellers.specs.declared.tellers.Outcome.TheVariants.{Done, Short}
use Rattle.erm_tellers.specs.declared.tellers.Task.{Task}
use Rattle.erm_tellers.specs.declared.tellers.Task.TheVariants as task
use Rattle.erm_tellers.specs.Plans.{Aborts, Did, IsAuditPlan, IsDone, IsPlan, IsPlanInTransaction, looks_for}
use Rattle.erm_tellers.specs.Served.{Attempted, AuditedInTransaction, AuditedOnce, Commits, Denies, DidAudit, DidAuditInTransaction, DidServe, Ends, FindsShort, ServedOnce}
use Rattle.erm_tellers.specs.Tellers.{Audits, CommittedAt, IsOfTellers, Serves, WasDone, finds}
use Rattle.erm_tellers.specs.Tries.{GaveUp, IsHeldUp, IsPassing, IsUnderWay, IsUnsafe, Refuses, Tried, TriedInVain}
use Rattle.erm_world.specs.World.{View}

-- a client that goes on, and goes on again
pub goes : {S T X : Type 0} {stands : X → S → Type 0} {seat : S → ℕ} {own : S → View} {ends : S → View → Type 0} {told : T → Type 0} {c d e : Client S T X}
    → GoesOn stands seat own ends told c d → GoesOn stands seat own ends told d e → GoesOn stands seat own ends told c e
goes {stands = stands} {seat = seat} {own = own} {ends = ends} {told = told} {c = c} {d = d} {e = e} first second = goes_then stands seat own ends told c d e first second

-- ONE TRY, behind what it asked before
did_then : (xs ys : List Command) (c d e : Transcript) → Did xs c d → Did ys d e → Did (xs ++ ys) c e
did_then [] ys c d e same second = subst (λ (x : Transcript). Did ys x e) same second
did_then (x ∷ xs) ys c d e (mid, one, first) second = (mid, one, did_then xs ys mid d e first second)

one_more : (done : List Command) (asked : Command) (c d e : Transcript) → Did done c d → IsDone asked d e → Did (done ++ asked ∷ []) c e
one_more done asked c d e did last = did_then done (asked ∷ []) c d e did (e, last, refl)

on_once : {done : List Command} {c d e : Transcript} → IsUnderWay done c d → Went 0 [] [] d e → begins_in e ≡ begins_in c + 1
on_once way went =
    let more = begins_grow went.grew in
    let few = went.begins_are in
    omega (arith, way.once, more, few)

on_went : {done : List Command} {xs ss : List Committed} {c d e : Transcript} → IsUnderWay done c d → Went 0 xs ss d e → Went 1 xs ss c e
on_went way went = went_within {m = 1 + 0} {n = 1} (omega arith) (went_then way.went went)

pub way_on : {done : List Command} {asked : Command} {c d e : Transcript} → IsUnderWay done c d → Went 0 [] [] d e → IsDone asked d e → IsUnderWay (done ++ asked ∷ []) c e
way_on {done} {asked} {c} {d} {e} way went last = record { did = one_more done asked c d e way.did last; went = on_went way went; once = on_once way went }

-- what is asked for first may be refused, and what is asked for then
pub held_at_once : {Planned : List Command → Type 0} {asked : Command} {why : Refusal} {c d : Transcript} (rest : List Command) → Refuses asked why c d → begins_by asked ≡ 1 → Went 1 [] [] c d
    → Planned (asked ∷ rest) → IsHeldUp Planned why c d
held_at_once {asked = asked} {c = c} rest refuses one went planned = record {
  front = [];
  asked = asked;
  rest = rest;
  planned = planned;
  before = c;
  did = refl;
  refused = refuses.refused;
  went = went;
  begun = λ by. refuses.counted by ∙ ap (λ (n : ℕ). begins_in c + n) one;
  standing_so = refuses.standing_so;
}

pub held_up : {Planned : List Command → Type 0} {front : List Command} {asked : Command} {why : Refusal} {c d e : Transcript} (rest : List Command) → IsUnderWay front c d → Went 0 [] [] d e
    → Refuses asked why d e → Planned (front ++ asked ∷ rest) → IsHeldUp Planned why c e
held_up {front = front} {asked = asked} {d = d} rest way went refuses planned = record {
  front = front;
  asked = asked;
  rest = rest;
  planned = planned;
  before = d;
  did = way.did;
  refused = refuses.refused;
  went = on_went way went;
  begun = λ by. on_once way went;
  standing_so = refuses.standing_so;
}

pub finds_short : {task : Task} {steps : List Step} {c d : Transcript} → IsUnderWay (looks_for task) c d → IsAt d steps → Denies task steps → FindsShort task c d
finds_short {steps = steps} way at denies = record { did = way.did; steps = steps; denies = denies; is = at; went = way.went }

pub did_serve : {task : Task} {front : List Command} {steps : List Step} {c d e : Transcript} → IsUnderWay front c d → IsDone command.Commit d e → Commits steps d e → Serves task steps
    → IsPlan task (front ++ command.Commit ∷ []) → DidServe task c e
did_serve {task = task} {front = front} {c = c} {d = d} {e = e} way last done serves planned = record {
  plan = front ++ command.Commit ∷ [];
  planned = planned;
  did = one_more front command.Commit c d e way.did last;
  commit = done.commit;
  serves = subst (Serves task) (sym done.steps_are) serves;
  went = on_went way done.went;
  last = subst (λ (steps : List Step). CommittedAt steps e) (sym done.steps_are) done.last;
}

pub did_audit : {low high : ℕ} {current savings : List (ℕ × List ℕ)} {front : List Command} {steps : List Step} {c d e : Transcript} → IsUnderWay front c d → IsDone command.Commit d e
    → Ends steps d e → Audits low high current savings steps → IsAuditPlan low high (front ++ command.Commit ∷ []) → DidAudit low high current savings c e
did_audit {low = low} {high = high} {current = current} {savings = savings} {front = front} {c = c} {d = d} {e = e} way last done audits planned = record {
  plan = front ++ command.Commit ∷ [];
  planned = planned;
  did = one_more front command.Commit c d e way.did last;
  snapshot = done.snapshot;
  audits = subst (Audits low high current savings) (sym done.steps_are) audits;
  went = on_went way done.went;
}

pub did_audit_in_transaction : {low high : ℕ} {current savings : List (ℕ × List ℕ)} {front : List Command} {steps : List Step} {c d e : Transcript} → IsUnderWay front c d
    → IsDone command.Commit d e → Commits steps d e → Audits low high current savings steps → IsPlanInTransaction low high (front ++ command.Commit ∷ [])
    → DidAuditInTransaction low high current savings c e
did_audit_in_transaction {low = low} {high = high} {current = current} {savings = savings} {front = front} {c = c} {d = d} {e = e} way last done audits planned = record {
  plan = front ++ command.Commit ∷ [];
  planned = planned;
  did = one_more front command.Commit c d e way.did last;
  commit = done.commit;
  audits = subst (Audits low high current savings) (sym done.steps_are) audits;
  went = on_went way done.went;
  last = subst (λ (steps : List Step). CommittedAt steps e) (sym done.steps_are) done.last;
}

-- what a `?` hands on
residual : {X : Type 0} (result : Result X Refusal) (why : Refusal) → IsErr result × IsErrAnd result (λ other. other ≡ why) → Err why ≡ result
residual (Ok x) why is = absurd is.1
residual (Err other) why is = ap Err (sym is.1)

pub attempted_no : (task : Task) {why : Refusal} {c d : Transcript} (result : Result Outcome Refusal) → IsErr result × IsErrAnd result (λ other. other ≡ why) → IsHeldUp (IsPlan task) why c d
    → Attempted task result c d
attempted_no task {why = why} {c = c} {d = d} result is held = subst (λ (r : Result Outcome Refusal). Attempted task r c d) (residual result why is) held

pub found_no : {X : Type 0} (Planned : List Command → Type 0) {why : Refusal} {c d : Transcript} (result : Result X Refusal) → IsErr result × IsErrAnd result (λ other. other ≡ why)
    → IsHeldUp Planned why c d → IfErr result (λ other. IsHeldUp Planned other c d)
found_no {X} Planned {why = why} {c = c} {d = d} result is held = subst (λ (r : Result X Refusal). IfErr r (λ other. IsHeldUp Planned other c d)) (residual result why is) held

-- GIVEN UP behind a try
pub gave_up : {Planned : List Command → Type 0} {why : Refusal} {c d e : Transcript} → IsHeldUp Planned why c d → Went 0 [] [] d e → Aborts d e → GaveUp Planned why c e
gave_up {why = why} {d = d} held last aborts =
    let now : WasRefused why held.before d = record {
      before = held.before;
      after = d;
      asked = held.asked;
      since = grew_itself held.before;
      refused = held.refused;
      until = grew_itself d;
      standing_so = held.standing_so;
    } in
    let more = begins_grow last.grew in
    let few = last.begins_are in
    record {
      after = d;
      held_up = held;
      aborts = aborts;
      went = went_within {m = 1 + 0} {n = 1} (omega arith) (went_then held.went last);
      begun = λ by. let once = held.begun by in omega (arith, once, more, few);
      standing_so = (refused_amid (grew_itself held.before) now last.grew).standing_so;
    }

-- what isn't done, and then given up
pub served_over : (task : Task) (result : Result Outcome Refusal) (c d e : Transcript) → Attempted task result c d → (result ≡ Ok Done → ⊥) → Went 0 [] [] d e → Aborts d e
    → ServedOnce task result c e
served_over task (Ok Done) c d e served not last aborts = absurd (not refl)
served_over task (Ok Short) c d e served not last aborts =
    record { moment = d; finds = served; aborts = aborts; went = went_within {m = 1 + 0} {n = 1} (omega arith) (went_then served.went last) }
served_over task (Err why) c d e served not last aborts = gave_up served last aborts

pub served_so : (task : Task) (result : Result Outcome Refusal) (c d : Transcript) → Attempted task result c d → result ≡ Ok Done → ServedOnce task result c d
served_so task (Ok Done) c d served is = served
served_so task (Ok Short) c d served is = absurd (cc)
served_so task (Err why) c d served is = absurd (cc)

-- TRIES, one behind another
module _ {Planned : List Command → Type 0} {Passing : Refusal → Type 0} {CameTo : Transcript → Transcript → Type 0} where
  pub tried_first : {c d : Transcript} → CameTo c d → Tried Planned Passing CameTo (Unit {0}) 1 c d
  tried_first {c} came = record { vain = 0; before = c; in_vain = refl; came_to = came; few = omega arith; all_tried = λ _. refl }

  pub tried_more : {Next : Transcript → Transcript → Type 0} {n : ℕ} {c d e : Transcript} → Tried Planned Passing CameTo (Unit {0}) n c d
      → ((before : Transcript) → CameTo before d → (why : Refusal) × Passing why × GaveUp Planned why before d) → Next d e → Tried Planned Passing Next (Unit {0}) (n + 1) c e
  tried_more {d = d} tried vain next =
      let gave = vain tried.before tried.came_to in
      let all = tried.all_tried tt in
      record {
        vain = suc tried.vain;
        before = d;
        in_vain = (tried.before, gave.0, tried.in_vain, gave.1, gave.2);
        came_to = next;
        few = omega (arith, all);
        all_tried = λ _. omega (arith, all);
      }

  pub tried_within : {InVain : Type 0} {n most : ℕ} {c d : Transcript} → Tried Planned Passing CameTo (Unit {0}) n c d → n ≤ most → (InVain → n ≡ most) → Tried Planned Passing CameTo InVain most c d
  tried_within tried few all = record {
    vain = tried.vain;
    before = tried.before;
    in_vain = tried.in_vain;
    came_to = tried.came_to;
    few = let less = tried.few in omega (arith, less, few);
    all_tried = λ vain. tried.all_tried tt ∙ all vain;
  }

-- the last one was in vain too
pub served_vain : (task : Task) (result : Result Outcome Refusal) → IsErrAnd result IsPassing → (c d : Transcript) → ServedOnce task result c d → (why : Refusal) × IsPassing why × GaveUp (IsPlan task) why c d
served_vain task (Ok outcome) passing c d served = absurd passing
served_vain task (Err why) passing c d served = (why, passing, served)

pub audited_vain : (low high : ℕ) (result : Result (List (ℕ × List ℕ) × List (ℕ × List ℕ)) Refusal) → IsErrAnd result IsUnsafe → (c d : Transcript) → AuditedOnce low high result c d
    → (why : Refusal) × IsUnsafe why × GaveUp (IsAuditPlan low high) why c d
audited_vain low high (Ok both) passing c d did = absurd passing
audited_vain low high (Err why) passing c d did = (why, passing, did)

-- WHAT FOLLOWS: which transactions committed
of_task : (task : Task) (steps : List Step) → Serves task steps → IsOfTellers steps
of_task (task.Withdraw holder amount) steps serves = inl (inl serves.is)
of_task (task.Deposit holder amount) steps serves = inl (inr (inl serves.is))
of_task (task.Transfer payer payee amount) steps serves = inr serves.is

-- none by tries in vain
vain_kept : (Planned : List Command → Type 0) (Passing : Refusal → Type 0) (n : ℕ) (c d : Transcript) → TriedInVain Planned Passing n c d → AllCommitted IsOfTellers c → AllCommitted IsOfTellers d
vain_kept Planned Passing zero c d vain all = subst (λ (x : Transcript). AllCommitted IsOfTellers x) (sym vain) all
vain_kept Planned Passing (suc n) c d (mid, why, vain, passing, gave) all = all_still IsOfTellers gave.went (vain_kept Planned Passing n c mid vain all)

served_kept_once : (task : Task) (result : Result Outcome Refusal) (c d : Transcript) → ServedOnce task result c d → AllCommitted IsOfTellers c → AllCommitted IsOfTellers d
served_kept_once task (Ok Done) c d served all = all_one IsOfTellers served.went (of_task task served.commit.steps served.serves) all
served_kept_once task (Ok Short) c d served all = all_still IsOfTellers served.went all
served_kept_once task (Err why) c d served all = all_still IsOfTellers served.went all

pub served_kept : (task : Task) (n : ℕ) (result : Result Outcome Refusal) (c d : Transcript) → Tried (IsPlan task) IsPassing (ServedOnce task result) (Unit {0}) n c d → AllCommitted IsOfTellers c → AllCommitted IsOfTellers d
served_kept task n result c d tried all = served_kept_once task result tried.before d tried.came_to (vain_kept (IsPlan task) IsPassing tried.vain c tried.before tried.in_vain all)

done_once : (task : Task) (result : Result Outcome Refusal) (c d : Transcript) → ServedOnce task result c d → result ≡ Ok Done → WasDone (Serves task) d
done_once task (Ok Done) c d served is = (served.commit.steps, served.serves, served.last)
done_once task (Ok Short) c d served is = absurd (cc)
done_once task (Err why) c d served is = absurd (cc)

pub served_done : (task : Task) (n : ℕ) (result : Result Outcome Refusal) (c d : Transcript) → Tried (IsPlan task) IsPassing (ServedOnce task result) (Unit {0}) n c d → result ≡ Ok Done → WasDone (Serves task) d
served_done task n result c d tried is = done_once task result tried.before d tried.came_to is

-- AUDITS
audits_read : (low high : ℕ) (current savings : List (ℕ × List ℕ)) (steps : List Step) → Audits low high current savings steps → IsOfTellers steps
audits_read low high current savings steps audits =
    let one = finds Current low high current in
    let two = finds Savings low high savings in
    let reads = All-cons (λ (step : Step). IsRead step.op) one (two ∷ []) tt (All-cons (λ (step : Step). IsRead step.op) two [] tt (All-nil (λ (step : Step). IsRead step.op))) in
    inl (inr (inr (subst (λ (s : List Step). IsAudit s) (sym audits) reads)))

-- what they leave of the kind of commits
audited_kept_once : (low high : ℕ) (result : Result (List (ℕ × List ℕ) × List (ℕ × List ℕ)) Refusal) (c d : Transcript) → AuditedOnce low high result c d → AllCommitted IsOfTellers c
    → AllCommitted IsOfTellers d
audited_kept_once low high (Ok both) c d did all = all_still IsOfTellers did.went all
audited_kept_once low high (Err why) c d did all = all_still IsOfTellers did.went all

pub audited_kept : (low high n : ℕ) (result : Result (List (ℕ × List ℕ) × List (ℕ × List ℕ)) Refusal) (c d : Transcript) → Tried (IsAuditPlan low high) IsUnsafe (AuditedOnce low high result) (Unit {0}) n c d
    → AllCommitted IsOfTellers c → AllCommitted IsOfTellers d
audited_kept low high n result c d tried all = audited_kept_once low high result tried.before d tried.came_to (vain_kept (IsAuditPlan low high) IsUnsafe tried.vain c tried.before tried.in_vain all)

pub tracked_kept : (low high : ℕ) (result : Result (List (ℕ × List ℕ) × List (ℕ × List ℕ)) Refusal) (c d : Transcript) → AuditedInTransaction low high result c d → AllCommitted IsOfTellers c
    → AllCommitted IsOfTellers d
tracked_kept low high (Ok both) c d did all = all_one IsOfTellers did.went (audits_read low high both.0 both.1 did.commit.steps did.audits) all
tracked_kept low high (Err why) c d did all = all_still IsOfTellers did.went all

pub tracked_done : (low high : ℕ) (result : Result (List (ℕ × List ℕ) × List (ℕ × List ℕ)) Refusal) (c d : Transcript) → AuditedInTransaction low high result c d
    → IfOk result (λ both. WasDone (Audits low high both.0 both.1) d)
tracked_done low high (Ok both) c d did = (did.commit.steps, did.audits, did.last)
tracked_done low high (Err why) c d did = tt
