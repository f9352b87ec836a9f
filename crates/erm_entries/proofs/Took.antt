-- The steps of calls on entries are loads.
use Rattle.std.proofs.Common.{◌≡◌, ⊎_elim, ℕ, [], ◌∷◌}
use Rattle.erm_machine.specs.declared.event.Kind.TheVariants.{LoadEntry, LoadState}
use Rattle.erm_machine.specs.Words.{owner_of}
use Rattle.erm_model.specs.RowTransaction.{Law}
use Rattle.erm_rule.specs.declared.view.Book.{Book}
use Rattle.erm_rule.specs.Went.{Took, Went, IsLoadStep}
use Rattle.erm_entries.specs.Took.{TookAgain, TookReach, TookWait}
use Rattle.erm_entries.specs.declared.answer.SeatWait.{SeatWait}

pub reach_loads : (law : Law) (who oid begin entry : ℕ) (b e : Book) → TookReach law who oid begin entry b e → Went law who IsLoadStep b e
reach_loads law who oid begin entry b e took =
    ⊎_elim (λ (t : (owner_of entry ≡ 0) × Took law who ((LoadEntry oid, entry) ∷ []) b e). record { steps = (LoadEntry oid, entry) ∷ []; took = t.1; all = (tt, tt) })
    (λ (t : TookAgain law who oid begin entry b e). record { steps = (LoadEntry oid, entry) ∷ (LoadState t.owner begin, t.state) ∷ (LoadEntry oid, t.first) ∷ []; took = t.took; all = (tt, (tt, (tt, tt))) })
    took

pub wait_loads : (law : Law) (who oid begin : ℕ) (wait : SeatWait) (b e : Book) → TookWait law who oid begin wait b e → Went law who IsLoadStep b e
wait_loads law who oid begin wait b e took = record { steps = (LoadState wait.seat begin, wait.seen) ∷ (LoadEntry oid, took.entry) ∷ []; took = took.took; all = (tt, (tt, tt)) }
