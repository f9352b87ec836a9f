-- The commits by their operations: the same order, and the same run.
use Rattle.std.proofs.Common.{◌≡◌, ℕ, ◌<◌, List, [], ◌∷◌, true, false, cond, map, nat_lt, length, get_or, refl, sym, ap, subst, arith}
use Rattle.std.proofs.lemmas.List.{get_or-map, length-map}
use Rattle.std.proofs.lemmas.List.Sorted.{IsPermutation-map}
use Rattle.erm_model.specs.declared.history.TransactionRecord.{TransactionRecord}
use Rattle.erm_model.specs.Committed.{Committed, state_after}
use Rattle.erm_model.specs.Committed as committed
use Rattle.erm_model.specs.Database.{Database}
use Rattle.erm_model.specs.History.{History, after_writes, below, rank_of, rows_after}
use Rattle.erm_model.specs.Member.{◌∈◌}
use Rattle.erm_model.specs.Rows.{Rows}
use Rattle.erm_model.specs.Run.{RunsAll, after_all, ops_of}
use Rattle.erm_model.specs.SerialOrder.{ComesBefore, IsSerialOrder}
use Rattle.erm_model.proofs.Members.{∈-behind}
use Rattle.erm_machine.proofs.Listed.{∈-head}
use Rattle.erm_core_ssn.proofs.Turns.{FitInTurn}
use Rattle.erm_node.specs.Sound.{sound_law}
use Rattle.erm_node.specs.TreeMap.{map_of_rows}
use Rattle.erm_world.specs.Laws.{FitsWork}
use Rattle.erm_world.specs.World.{bare, begun}
use Rattle.erm_maps.specs.Runs.{Told, WasRun, told_commit, told_commits}
use Rattle.erm_maps.proofs.Histories.{work_in}

module _ (told : Told) where
  -- what lies below a stamp
  pub told_below : (bound : ℕ) (h : History) → committed.below bound (told_commits told h) ≡ told_commits told (below bound h)
  told_below bound [] = refl
  told_below bound (t ∷ h) =
      let rest = told_below bound h in
      elim (nat_lt t.stamp bound) as (λ b. cond b (told_commit told t ∷ committed.below bound (told_commits told h)) (committed.below bound (told_commits told h)) ≡ told_commits told (cond b (t ∷ below bound h) (below bound h))) [
        | true ↦ ap (λ commits. told_commit told t ∷ commits) rest
        | false ↦ rest
      ]

  -- the serial order
  pub told_order : (h order : History) → IsSerialOrder rank_of h order → IsSerialOrder committed.rank_of (told_commits told h) (told_commits told order)
  told_order h order serial = record {
    same = IsPermutation-map (told_commit told) h order serial.same;
    ascends = λ i j d less within.
        let short : j < length order = omega (arith, within, length-map order (told_commit told)) in
        let none : TransactionRecord = bare (begun 0 0) in
        subst (λ (c : Committed). ComesBefore (committed.rank_of c) (committed.rank_of (get_or (told_commits told order) j d))) (sym (get_or-map (told_commit told) order i none d (omega arith)))
        (subst (λ (c : Committed). ComesBefore (rank_of (get_or order i none)) (committed.rank_of c)) (sym (get_or-map (told_commit told) order j none d short))
        (serial.ascends i j none less short));
  }

  -- where each record's transaction is the run of its operations, these run in turn as the transactions fit
  pub told_run : (order : History) (rows : Rows) → FitInTurn sound_law rows order → ((t : TransactionRecord) → t ∈ order → WasRun (work_in t) (told t.seat t.number)) → RunsAll (map_of_rows rows) (map (λ (c : Committed). c.steps) (told_commits told order)) (map_of_rows (rows_after order rows))
  told_run [] rows fit runs = refl
  told_run (t ∷ order) rows fit runs =
      let own = runs t (∈-head t order) in
      let fits : FitsWork sound_law (work_in t) rows = record { meets = fit.0.meets; reads = fit.0.reads; claims = fit.0.claims; unreached = fit.0.unreached } in
      let after : map_of_rows (after_writes t.writes rows) ≡ after_all (ops_of (told t.seat t.number)) (map_of_rows rows) = own.after rows fit.0.meets fits in
      let rest = told_run order (after_writes t.writes rows) fit.1 (λ u m. runs u (∈-behind t order u m)) in
      (own.run rows fit.0.meets fits, subst (λ (m : Database). RunsAll m (map (λ (c : Committed). c.steps) (told_commits told order)) (map_of_rows (rows_after (t ∷ order) rows))) after rest)

-- a run ends in the state after its commits
pub run_ends : (commits : List Committed) (m n : Database) → RunsAll m (map (λ (c : Committed). c.steps) commits) n → n ≡ state_after commits m
run_ends [] m n run = run
run_ends (c ∷ commits) m n run = run_ends commits (after_all (ops_of c.steps) m) n run.1
