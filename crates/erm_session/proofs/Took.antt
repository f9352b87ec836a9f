-- The steps of a session's calls, by the classes that callers ask for.
use Rattle.std.proofs.Common.{◌≡◌, ⊎_elim, ℕ, Bool, true, false, List, [], ◌∷◌, refl, sym, subst}
use Rattle.erm_cells.specs.Took.{IsEndStep}
use Rattle.erm_cells.proofs.Took.{ends_still, row_went, stores_still}
use Rattle.erm_machine.specs.declared.event.Counter.TheVariants.{Objects}
use Rattle.erm_machine.specs.declared.event.Kind.TheVariants.{AddCounter, Decide, LoadCounter, LoadFlushed}
use Rattle.erm_ends.specs.Ends.{DidAbort}
use Rattle.erm_ends.specs.Took.{TookAbort}
use Rattle.erm_model.specs.declared.outcome.Outcome.{Outcome}
use Rattle.erm_model.specs.RowTransaction.{Law}
use Rattle.erm_precommit.specs.declared.answer.Wait.{Wait}
use Rattle.erm_precommit.specs.declared.answer.Wait.TheVariants as wait
use Rattle.erm_precommit.specs.Took.{TookWait}
use Rattle.erm_ring.proofs.Took.{fills_still}
use Rattle.erm_rows.specs.Took.{TookClaim, TookRead}
use Rattle.erm_rows.proofs.Took.{claim_still, read_still}
use Rattle.erm_rule.specs.declared.view.Book.{Book}
use Rattle.erm_rule.specs.Went.{Went, IsLoadStep, IsStillStep}
use Rattle.erm_rule.proofs.Wents.{loads_still, went_more, went_none, went_one, went_step}
use Rattle.erm_seats.specs.declared.answer.BeginStop as seats_answer
use Rattle.erm_seats.specs.declared.answer.BeginStop.TheVariants as seats
use Rattle.erm_session.specs.Took.{TookAnyClaim, TookAnyRead, TookDecision, TookFinish, TookObject, TookWhere, TookWrite, TookNoBegin, stop_of}
use Rattle.erm_seats.specs.Took.{TookStop}
use Rattle.erm_world.specs.declared.stops.BeginStop.{BeginStop}

same_still : (law : Law) (who : ℕ) (b e : Book) → e ≡ b → Went law who IsStillStep b e
same_still law who b e same = subst (λ (z : Book). Went law who IsStillStep b z) (sym same) (went_none law who IsStillStep b)

-- a begin that stops
pub no_begin : (law : Law) (who : ℕ) (why : seats_answer.BeginStop) (b e : Book) (r : BeginStop) → r ≡ stop_of why → TookStop law who why b e → TookNoBegin law who r b e
no_begin law who (seats.LogEnd tail) b e r is took = subst (λ (z : BeginStop). TookNoBegin law who z b e) (sym is) took

-- a call that was refused, and what was done then
pub refused_then : (law : Law) (who : ℕ) (ends : Bool) (cause : Book → Type 0) (m e : Book) → cause m → (ends ≡ true → Went law who IsEndStep m e) → (ends ≡ true → TookAbort law who m e) → (ends ≡ true → DidAbort m.view who e.view)
    → (ends ≡ false → e ≡ m) → TookWhere law who ends cause e
refused_then law who true cause m e did ended took aborted same = record { between = m; refused = did; ends = ended refl; took = took refl; aborted = aborted refl }
refused_then law who false cause m e did ended took aborted same = subst cause (sym (same refl)) did

pub where_still : (law : Law) (who : ℕ) (ends : Bool) (b m e : Book) → Went law who IsStillStep b m → (ends ≡ true → Went law who IsEndStep m e) → (ends ≡ false → e ≡ m) → Went law who IsStillStep b e
where_still law who true b m e still ended same = went_more law who IsStillStep b m e still (ends_still law who m e (ended refl))
where_still law who false b m e still ended same = went_more law who IsStillStep b m e still (same_still law who m e (same refl))

pub any_read_still : (law : Law) (who oid : ℕ) (b e : Book) → TookAnyRead law who oid b e → Went law who IsStillStep b e
any_read_still law who oid b e took = ⊎_elim (λ (t : e ≡ b). same_still law who b e t) (λ (t : TookRead law who oid b e). read_still law who oid b e t) took

pub any_claim_still : (law : Law) (who oid count : ℕ) (b e : Book) → TookAnyClaim law who oid count b e → Went law who IsStillStep b e
any_claim_still law who oid count b e took =
    ⊎_elim (λ (t : (count ≡ 0) × (e ≡ b)). same_still law who b e t.1) (λ (t : TookClaim law who oid count b e). claim_still law who oid count b e t) took

pub write_still : (law : Law) (who oid : ℕ) (row : List ℕ) (b e : Book) → TookWrite law who oid row b e → Went law who IsStillStep b e
write_still law who oid row b e took =
    went_more law who IsStillStep b took.claimed e (any_claim_still law who oid took.count b took.claimed took.claim) (stores_still law who took.claimed e (row_went law who took.cell row took.claimed e took.stores))

pub object_still : (law : Law) (who oid : ℕ) (b e : Book) → TookObject law who oid b e → Went law who IsStillStep b e
object_still law who oid b e took = record { steps = (AddCounter Objects, oid) ∷ (LoadCounter Objects, took.0) ∷ []; took = took.1; all = (tt, (tt, tt)) }

finish_still : (law : Law) (who : ℕ) (b e : Book) → TookFinish law who b e → Went law who IsStillStep b e
finish_still law who b e took =
    went_more law who IsStillStep b took.decided e
    (went_step law who IsStillStep b took.filled took.decided (Decide took.at took.header) took.word (fills_still law who b took.filled took.fills) tt took.step) (ends_still law who took.decided e took.ends)

-- a settle up to its decision is loads
pub decision_loads : (law : Law) (who : ℕ) (outcome : Outcome) (b e : Book) (took : TookDecision law who outcome b e) → Went law who IsLoadStep b took.passed
decision_loads law who outcome b e took =
    went_more law who IsLoadStep b took.first took.passed (went_one law who IsLoadStep LoadFlushed took.start.flushed b took.first tt took.start.step) took.loads

pub decision_still : (law : Law) (who : ℕ) (outcome : Outcome) (b e : Book) → TookDecision law who outcome b e → Went law who IsStillStep b e
decision_still law who outcome b e took = went_more law who IsStillStep b took.passed e (loads_still law who b took.passed (decision_loads law who outcome b e took)) (finish_still law who took.passed e took.finish)

pub wait_still : (law : Law) (who : ℕ) (why : Wait) (b e : Book) → TookWait law who why b e → Went law who IsStillStep b e
wait_still law who (wait.Ring flushed) b e took = record { steps = (LoadFlushed, flushed) ∷ []; took = took.1; all = (tt, tt) }
wait_still law who (wait.Seat seat seen) b e took =
    let first = went_one law who IsStillStep LoadFlushed took.start.flushed b took.first tt took.start.step in
    went_step law who IsStillStep b took.waits.at e _ seen (went_more law who IsStillStep b took.first took.waits.at first (loads_still law who took.first took.waits.at took.waits.loads)) tt
    took.waits.step
