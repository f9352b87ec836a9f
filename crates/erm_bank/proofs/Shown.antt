-- What tellers leave of customers on a disk, by the laws of invariants and of audits.
use Rattle.std.proofs.Common.{ℕ, List, sym, subst, arith}
use Rattle.erm_accounts.specs.Accounts.{AreSolvent}
use Rattle.erm_accounts.specs.Totals.{FoundTotalsAreTotals, HoldInAll}
use Rattle.erm_bank.specs.Banks.{AuditsShowWhatIs, AuditsShowWhatWas, AuditsStandInOrder, CrashesLeaveSolvent, CrashesLeaveTotals, EndsLeaveSolvent, EndsLeaveTotals}
use Rattle.erm_client.specs.Dealings.{AllCommitted}
use Rattle.erm_client.specs.declared.transcript.Transcript.{Transcript}
use Rattle.erm_client_disk.proofs.Keeps.{all_keep}
use Rattle.erm_client_disk.specs.Invariants.{AllKeepIt, CrashesKeepForClients, EndsKeepForClients}
use Rattle.erm_client_disk.specs.Leaves.{ClientsAreDone}
use Rattle.erm_client_invariant.specs.Laws.{commits_of}
use Rattle.erm_client_told.specs.Told.{all_commits}
use Rattle.erm_good_report.specs.Transactions.{steps_of}
use Rattle.erm_invariant.specs.Commits.{HoldsBelow}
use Rattle.erm_invariant.specs.Invariant.{Keeps}
use Rattle.erm_joined.specs.Merged.{closes_from}
use Rattle.erm_model.specs.Committed.{Committed, rank_of, state_after}
use Rattle.erm_model.specs.Database.{Database}
use Rattle.erm_model.specs.Member.{◌∈◌}
use Rattle.erm_model.specs.Run.{Step}
use Rattle.erm_model.specs.SerialOrder.{IsSerialOrder}
use Rattle.erm_node.specs.TreeMap.{map_of_rows}
use Rattle.erm_report.specs.declared.answer.Answer.{Answer}
use Rattle.erm_ckpt.specs.Recovered.{State}
use Rattle.erm_outside.specs.Disk as outside
use Rattle.erm_tellers.proofs.Balance.{among_keep}
use Rattle.erm_tellers.proofs.Placed.{shows}
use Rattle.erm_tellers.specs.Laws.{AuditsShowTotals}
use Rattle.erm_tellers.specs.Moves.{MovesAmong, TransactionsMoveTotals}
use Rattle.erm_tellers.specs.Tellers.{IsOfTellers}
use Rattle.std.specs.Prelude.{Option}

-- commits of a kind that keeps an invariant
keeps_all : (Invariant : Database → Type 0) (Kind : List Step → Type 0) → ((steps : List Step) → Kind steps → Keeps Invariant steps) → (all : List Transcript)
    → ((c : Transcript) → c ∈ all → AllCommitted Kind c) → AllKeepIt Invariant all
keeps_all Invariant Kind keeps all are c there t stamp succ pred over commits = keeps (steps_of t) (are c there t stamp succ pred over commits)

-- CRASHES
pub crashes_solvent : CrashesKeepForClients AreSolvent → ((steps : List Step) → IsOfTellers steps → Keeps AreSolvent steps) → CrashesLeaveSolvent
crashes_solvent keep keeps before after state all outlive found are = keep before after state all outlive found (keeps_all AreSolvent IsOfTellers keeps all are)

pub crashes_totals : ((low high n : ℕ) → CrashesKeepForClients (λ m. HoldInAll m low high n)) → TransactionsMoveTotals → CrashesLeaveTotals
crashes_totals keep moves before after state all outlive low high n found are =
    keep low high n before after state all outlive found (keeps_all (λ m. HoldInAll m low high n) (MovesAmong low high) (among_keep moves low high n) all are)

-- THE END
pub ends_solvent : EndsKeepForClients AreSolvent → ((steps : List Step) → IsOfTellers steps → Keeps AreSolvent steps) → EndsLeaveSolvent
ends_solvent keep keeps before after state all closed done found are = keep before after state all closed done found (keeps_all AreSolvent IsOfTellers keeps all are)

pub ends_totals : ((low high n : ℕ) → EndsKeepForClients (λ m. HoldInAll m low high n)) → TransactionsMoveTotals → EndsLeaveTotals
ends_totals keep moves before after state all closed done low high n found are =
    keep low high n before after state all closed done found (keeps_all (λ m. HoldInAll m low high n) (MovesAmong low high) (among_keep moves low high n) all are)

-- AUDITS
pub show_what_was : FoundTotalsAreTotals → AuditsShowWhatWas
show_what_was totals before after state all outlive c there x ended low high total current savings below audits adds =
    let seen = outlive.snapshots c there x ended in
    record { stamp = x.begin; state = seen.snapshot; below_stamp = seen.below_begin; holds = ((shows totals seen.snapshot low high current savings x.steps below audits seen.replies).total_is total).0 adds }

pub show_what_is : TransactionsMoveTotals → ((low high n : ℕ) → HoldsBelow (λ m. HoldInAll m low high n)) → AuditsShowWhatIs
show_what_is moves holds before after state all outlive low high n found are total was =
    let keep = all_keep (λ m. HoldInAll m low high n) all (keeps_all (λ m. HoldInAll m low high n) (MovesAmong low high) (among_keep moves low high n) all are) in
    let kept = holds low high n (all_commits all) (map_of_rows state.rows) found keep outlive.fronts was.stamp was.state was.below_stamp in
    let shown = was.holds in
    omega (arith, kept, shown)

-- where they were done
module _ (before after : Option (List outside.Step)) (state : State) (all : List Transcript) (closed : List (Option Answer)) (d : ClientsAreDone before after state all closed) where
  pub ordered : IsSerialOrder rank_of (commits_of d.v.opening.sessions all (closes_from 1 closed)) d.order
  ordered = subst (λ (cs : List Committed). IsSerialOrder rank_of cs d.order) (sym d.commits) d.serial

pub stand_in_order : AuditsShowTotals → AuditsStandInOrder
stand_in_order law before after state all closed d tellers c there x snap low high total current savings below audits adds =
    let it = law d.v d.f all (closes_from 1 closed) d.opening d.run d.view tellers.from_first tellers.opened d.order (ordered before after state all closed d) c there x snap
    low high current savings below audits in
    record {
      order = d.order;
      serial = d.serial;
      front = it.0.front;
      rest = it.0.rest;
      split = it.0.split;
      holds = subst (λ (m : Database). HoldInAll (state_after it.0.front m) low high total) d.starts.map ((it.1.total_is total).0 adds);
    }
