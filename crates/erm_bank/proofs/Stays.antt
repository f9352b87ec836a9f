-- What is so of a bank on a disk, by what its tellers promise.
use Rattle.std.proofs.Common.{◌≡◌, ℕ, Bool, false, List, Option, Result, Ok, Err, IfOk, inl, subst, arith}
use Rattle.erm_bank.proofs.Errands.{of_tellers}
use Rattle.erm_bank.specs.Banks.{AuditsShowWhatIs, AuditsShowWhatWas, AuditsStandInOrder, BankStays, WasTotal, map_of, CrashesLeaveSolvent, CrashesLeaveTotals, EndsLeaveSolvent, EndsLeaveTotals}
use Rattle.erm_bank.specs.declared.teller.Errand.TheVariants as errand
use Rattle.erm_bank.specs.declared.teller.Teller.{Teller}
use Rattle.erm_bank.specs.declared.teller.Told.TheVariants as told
use Rattle.erm_bank.specs.Tellers.{AllMoveWithin, MovesWithin, Promises}
use Rattle.erm_ckpt.specs.Recovered.{State}
use Rattle.erm_client.specs.Dealings.{AllCommitted}
use Rattle.erm_client.specs.declared.transcript.Transcript.{Transcript}
use Rattle.erm_client_beside.specs.declared.ran.ProgramRun.{ProgramRun}
use Rattle.erm_client_beside.specs.declared.ran.ProgramsRan.{ProgramsRan}
use Rattle.erm_client_disk.proofs.Ran.{run_of}
use Rattle.erm_client_disk.specs.declared.run.ProgramsStop.{ProgramsStop}
use Rattle.erm_client_disk.specs.Leaves.{ClientsOutlive}
use Rattle.erm_client_disk.specs.Ran.{NoneStarved, WereRun, closes_of, transcripts_of}
use Rattle.erm_client_told.specs.Told.{all_commits}
use Rattle.erm_disk_run.specs.Found.{IsFound}
use Rattle.erm_engine.proofs.Joined.{at_within}
use Rattle.erm_machine.proofs.Listed.{∈-map_from}
use Rattle.erm_model.specs.Member.{◌∈◌}
use Rattle.erm_model.specs.Run.{Step}
use Rattle.erm_outside.specs.Disk as outside
use Rattle.erm_tellers.specs.declared.tellers.Task.{Task}
use Rattle.erm_tellers.specs.declared.tellers.Task.TheVariants as task
use Rattle.erm_tellers.specs.Laws.{AreTellers}
use Rattle.erm_tellers.specs.Moves.{MovesAmong}
use Rattle.erm_tellers.specs.Tellers.{IsOfTellers, Serves}
use Rattle.erm_threads.proofs.Jobs.{there_is}

-- A task within some customers is a transfer among them.
moves_among : (low high : ℕ) (wanted : Task) (steps : List Step) → MovesWithin low high (errand.Serve wanted) → Serves wanted steps → MovesAmong low high steps
moves_among low high (task.Withdraw holder amount) steps within serves = absurd within
moves_among low high (task.Deposit holder amount) steps within serves = absurd within
moves_among low high (task.Transfer payer payee amount) steps within serves =
    let from = serves.payer_is in
    let to = serves.payee_is in
    let from_low = within.0.0 in
    let from_high = within.0.1 in
    let to_low = within.1.0 in
    let to_high = within.1.1 in
    inl (record {
      is = serves.is;
      payer_above = omega (arith, from, from_low);
      payer_below = omega (arith, from, from_high);
      payee_above = omega (arith, to, to_low);
      payee_below = omega (arith, to, to_high);
    })

-- the laws of tellers on a disk
pub record BankLaws : Type 0 where
  pub crashes_solvent : CrashesLeaveSolvent
  pub crashes_totals : CrashesLeaveTotals
  pub ends_solvent : EndsLeaveSolvent
  pub ends_totals : EndsLeaveTotals
  pub was : AuditsShowWhatWas
  pub what_is : AuditsShowWhatIs
  pub in_order : AuditsStandInOrder

module _ (laws : BankLaws) (before after : Option (List outside.Step)) (state : State) (failed : Bool) (tellers : List Teller) (runs : List (ProgramRun Teller))
    (were : WereRun Promises before after state failed tellers runs) where
  abbrev all : List Transcript
  all = transcripts_of runs

  -- each program is a teller's, who keeps his promise
  promise_of : (r : ProgramRun Teller) → r ∈ runs → (t : Teller) × (t ∈ tellers) × Promises t r.program r.transcript
  promise_of r (k, at) =
      let less = there_is runs k r at in
      let many = were.promised.many in
      let t = at_within tellers k (omega (arith, less, many)) in
      (t.0, (k, t.1), (were.promised.each k t.0 r t.1 at).1)

  told_by : (c : Transcript) → c ∈ all → (t : Teller) × (t ∈ tellers) × ((r : ProgramRun Teller) × Promises t r.program c)
  told_by c there =
      let r = run_of runs c there in
      let p = promise_of r.0 r.1 in
      (p.0, p.1, (r.0, subst (λ (x : Transcript). Promises p.0 r.0.program x) r.2 p.2))

  kept_tellers : (c : Transcript) → c ∈ all → AllCommitted IsOfTellers c
  kept_tellers c there = let p = told_by c there in of_tellers p.0.errands.items c p.2.1.serves

  kept_moves : (low high : ℕ) → AllMoveWithin low high tellers → (c : Transcript) → c ∈ all → AllCommitted (MovesAmong low high) c
  kept_moves low high move c there t stamp succ pred over commits =
      let p = told_by c there in
      let it = p.2.1.serves t stamp succ pred over commits in
      moves_among low high it.0 _ (move p.0 p.1 (errand.Serve it.0) it.1) it.2

  -- where they were done
  module _ (sound : failed ≡ false) (none : NoneStarved all) where
    are_tellers : AreTellers all
    are_tellers = record { from_first = were.from_first; opened = λ c there. were.opened sound c there (none c there); kept = kept_tellers }

  in_all : (r : ProgramRun Teller) → r ∈ runs → r.transcript ∈ all
  in_all r there = ∈-map_from (λ (x : ProgramRun Teller). x.transcript) runs r there

  shown : ClientsOutlive before after state all → (r : ProgramRun Teller) → r ∈ runs → (low high total : ℕ) → told.Total low high total ∈ r.program.told.items
      → WasTotal (all_commits all) (map_of state) low high total
  shown outlive r there low high total tells =
      let s = (promise_of r there).2.shown low high total tells in
      laws.was before after state all outlive r.transcript (in_all r there) s.snapshot s.there low high total s.current s.savings s.below s.audits s.adds_up

  pub stays : BankStays before after state failed tellers runs
  stays = record {
    solvent = λ short found. laws.crashes_solvent before after state all (were.outlive short) found kept_tellers;
    kept = λ short low high n move found. laws.crashes_totals before after state all (were.outlive short) low high n found (kept_moves low high move);
    shown = λ short. shown (were.outlive short);
    told_kept = λ short low high n move found r there total tells.
        laws.what_is before after state all (were.outlive short) low high n found (kept_moves low high move) total (shown (were.outlive short) r there low high total tells);
    ends_solvent = λ sound none short found. laws.ends_solvent before after state all (closes_of runs) (were.done sound none short) found kept_tellers;
    ends_kept = λ sound none short low high n move found. laws.ends_totals before after state all (closes_of runs) (were.done sound none short) low high n found (kept_moves low high move);
    in_order = λ sound none short r there low high total tells.
        let s = (promise_of r there).2.shown low high total tells in
        laws.in_order before after state all (closes_of runs) (were.done sound none short) (are_tellers sound none) r.transcript (in_all r there) s.snapshot s.there low high total s.current s.savings
        s.below s.audits s.adds_up;
  }

pub bank_so : BankLaws → (before after : Option (List outside.Step)) (tellers : List Teller) (ended : Result (ProgramsRan Teller) (ProgramsStop Teller))
    → IfOk ended (λ ran. (state : State) × IsFound before state × WereRun Promises before after state ran.failed tellers ran.programs.items)
    → IfOk ended (λ ran. (state : State) × IsFound before state × WereRun Promises before after state ran.failed tellers ran.programs.items
    × BankStays before after state ran.failed tellers ran.programs.items)
bank_so laws before after tellers (Ok ran) (state, found, were) = (state, found, were, stays laws before after state ran.failed tellers ran.programs.items were)
bank_so laws before after tellers (Err stop) none = tt
