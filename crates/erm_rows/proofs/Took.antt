-- The steps of a read and of a claim: why they stop, and by the classes that callers ask for.
use Rattle.std.proofs.Common.{◌≡◌, ◌⊎◌, ◌<◌, ⊎_elim, ℕ, List, [], ◌∷◌, length, sym, ap, subst, inl, inr}
use Rattle.erm_model.specs.declared.row_stop.RowStop.{RowStop}
use Rattle.erm_model.specs.declared.row_stop.RowStop.TheVariants as stop
use Rattle.erm_model.specs.RowTransaction.{Law}
use Rattle.erm_machine.specs.declared.event.Kind.TheVariants.{Claim, Install, LoadCell, LoadEntry, SetReader}
use Rattle.erm_machine.specs.declared.limits.TheConstants.{ANNOUNCERS, WRITE_LIMIT}
use Rattle.erm_machine.specs.declared.version.CellWord.TheVariants.{Stamp}
use Rattle.erm_rule.specs.declared.view.Book.{Book}
use Rattle.erm_rule.specs.declared.view.View.{View}
use Rattle.erm_rule.specs.Books.{IsAfter}
use Rattle.erm_rule.specs.Views.{part_of}
use Rattle.erm_rule.specs.Went.{Took, Went, IsLoadStep, IsStillStep}
use Rattle.erm_rule.proofs.Wents.{loads_still, went_goes, went_more, went_none, went_one, went_step}
use Rattle.erm_cells.specs.Spare.{spare_cells}
use Rattle.erm_cells.proofs.Took.{copy_still, draw_still, no_count_still}
use Rattle.erm_cut.proofs.Took.{cut_still, horizon_loads_alone}
use Rattle.erm_entries.specs.declared.entries.Entry.{Entry}
use Rattle.erm_entries.specs.Spelling.{entry_of}
use Rattle.erm_entries.proofs.Took.{reach_loads, wait_loads}
use Rattle.erm_rows.specs.Claims.{DidNotTake}
use Rattle.erm_rows.specs.Took.{TookClaim, TookCutChain, TookEntry, TookFill, TookFree, TookHead, TookLack, TookMissed, TookNoCell, TookNoClaim, TookNoEntry, TookNotFree, TookNotRead, TookOther, TookRead, TookVersion}
use Rattle.erm_entries.specs.Took.{TookWait}
use Rattle.erm_entries.specs.declared.answer.SeatWait.{SeatWait}
use Rattle.erm_rows.specs.Tidies.{TookTidy}

-- the begin stamp, as the session keeps it
pub wait_begins : (law : Law) (who oid m n : ℕ) (wait : SeatWait) (b e : Book) → m ≡ n → TookWait law who oid m wait b e → TookWait law who oid n wait b e
wait_begins law who oid m n wait b e same took = subst (λ (k : ℕ). TookWait law who oid k wait b e) same took

-- the entry loaded has an owner
pub owned_stop : (law : Law) (who oid word : ℕ) (found : Entry) (b e : Book) → found ≡ entry_of word → Took law who ((LoadEntry oid, word) ∷ []) b e → TookNotFree law who oid (stop.Owned found.owner found.number) b e
owned_stop law who oid word found b e is took = (word, record { seat_is = sym (ap (λ (x : Entry). x.owner) is); number_is = sym (ap (λ (x : Entry). x.number) is) }, took)

-- no head was found that may be claimed
pub not_free_stop : (law : Law) (who oid : ℕ) (why : RowStop) (b e : Book) → length (part_of b.view who).current.writes < WRITE_LIMIT → TookNotFree law who oid why b e → TookNoEntry law who oid why b e
not_free_stop law who oid stop.WritesFull b e few took = absurd took
not_free_stop law who oid _ b e few took = (few, inl took)

-- the exchange met another entry
pub missed_stop : (law : Law) (who oid : ℕ) (why : RowStop) (b e : Book) → length (part_of b.view who).current.writes < WRITE_LIMIT → TookMissed law who oid why b e → TookNoEntry law who oid why b e
missed_stop law who oid stop.WritesFull b e few took = absurd took.other
missed_stop law who oid _ b e few took = (few, inr took)

-- the entry wasn't taken
pub no_entry_stop : (law : Law) (who oid : ℕ) (why : RowStop) (b e : Book) (v w : View) → DidNotTake v who oid why w → TookNoEntry law who oid why b e → TookNoClaim law who oid why b e
no_entry_stop law who oid (stop.CellsFull drawn) b e v w did took = absurd did
no_entry_stop law who oid (stop.Excluded succ pred) b e v w did took = absurd did
no_entry_stop law who oid _ b e v w did took = took

-- STILL. A read leaves the log's end and the place flushed.
version_still : (law : Law) (who : ℕ) (b e : Book) → TookVersion law who b e → Went law who IsStillStep b e
version_still law who b e took =
    went_more law who IsStillStep b took.found e (loads_still law who b took.found took.walk)
    (went_more law who IsStillStep took.found took.registered e (went_one law who IsStillStep (SetReader took.version) took.word took.found took.registered tt took.step) (loads_still law who took.registered e took.rest))

pub read_still : (law : Law) (who oid : ℕ) (b e : Book) → TookRead law who oid b e → Went law who IsStillStep b e
read_still law who oid b e took =
    went_more law who IsStillStep b took.reached e (loads_still law who b took.reached (reach_loads law who oid _ took.entry b took.reached took.reach)) (version_still law who took.reached e took.read)

pub not_read_still : (law : Law) (who oid : ℕ) (why : RowStop) (b e : Book) → TookNotRead law who oid why b e → Went law who IsStillStep b e
not_read_still law who oid (stop.NotYet seat seen) b e took = loads_still law who b e (wait_loads law who oid _ (record { seat = seat; seen = seen }) b e took.1)
not_read_still law who oid (stop.Excluded succ pred) b e took = read_still law who oid b e took.0
not_read_still law who oid stop.ReadsFull b e took = subst (λ (z : Book). Went law who IsStillStep b z) (sym took) (went_none law who IsStillStep b)
not_read_still law who oid _ b e took = absurd took

-- So does a claim.
head_loads : (law : Law) (who oid entry stamp : ℕ) (b e : Book) → TookHead law who oid entry stamp b e → Went law who IsLoadStep b e
head_loads law who oid entry stamp b e took = record { steps = (LoadCell took.version Stamp, stamp) ∷ (LoadEntry oid, entry) ∷ []; took = took.took; all = (tt, (tt, tt)) }

not_free_loads : (law : Law) (who oid : ℕ) (why : RowStop) (b e : Book) → TookNotFree law who oid why b e → Went law who IsLoadStep b e
not_free_loads law who oid (stop.Owned seat number) b e took = record { steps = (LoadEntry oid, took.0) ∷ []; took = took.2; all = (tt, tt) }
not_free_loads law who oid (stop.Newer stamp) b e took = head_loads law who oid took.0 stamp b e took.2
not_free_loads law who oid _ b e took = absurd took

other_still : (law : Law) (who oid seen number : ℕ) (why : RowStop) (b e : Book) → TookOther law who oid seen number why b e → Went law who IsStillStep b e
other_still law who oid seen number (stop.Owned seat owner) b e took = record { steps = (Claim oid seen number, took.0) ∷ []; took = took.3; all = (tt, tt) }
other_still law who oid seen number (stop.Newer stamp) b e took = record { steps = (LoadCell took.3 Stamp, stamp) ∷ (Claim oid seen number, took.0) ∷ []; took = took.4; all = (tt, (tt, tt)) }
other_still law who oid seen number _ b e took = absurd took

free_still : (law : Law) (who oid entry : ℕ) (b e : Book) → TookFree law who oid entry b e → Went law who IsStillStep b e
free_still law who oid entry b e took = loads_still law who b e (head_loads law who oid entry took.stamp b e took.head)

missed_still : (law : Law) (who oid : ℕ) (why : RowStop) (b e : Book) → TookMissed law who oid why b e → Went law who IsStillStep b e
missed_still law who oid why b e took = went_more law who IsStillStep b took.at e (free_still law who oid took.entry b took.at took.free) (other_still law who oid took.entry took.number why took.at e took.other)

either_still : (law : Law) (who oid : ℕ) (why : RowStop) (b e : Book) → TookNotFree law who oid why b e ⊎ TookMissed law who oid why b e → Went law who IsStillStep b e
either_still law who oid why b e took =
    ⊎_elim (λ (t : TookNotFree law who oid why b e). loads_still law who b e (not_free_loads law who oid why b e t)) (λ (t : TookMissed law who oid why b e). missed_still law who oid why b e t) took

entry_still : (law : Law) (who oid head : ℕ) (b e : Book) → TookEntry law who oid head b e → Went law who IsStillStep b e
entry_still law who oid head b e took =
    went_step law who IsStillStep b took.at e (Claim oid took.entry took.number) took.entry (free_still law who oid took.entry b took.at took.free) tt took.step

cut_chain_still : (law : Law) (who count : ℕ) (b e : Book) → TookCutChain law who count b e → Went law who IsStillStep b e
cut_chain_still law who count b e took =
    went_more law who IsStillStep b took.at e (loads_still law who b took.at (horizon_loads_alone law who ANNOUNCERS took.horizon b took.at took.found)) (cut_still law who count took.at e took.cut)

-- the book after both comes after the one before
pub tidied_goes : (law : Law) (who oid head count : ℕ) (b m e : Book) → TookEntry law who oid head b m → TookCutChain law who count m e → IsAfter b e
tidied_goes law who oid head count b m e entry cut = went_goes law who IsStillStep b e (went_more law who IsStillStep b m e (entry_still law who oid head b m entry) (cut_chain_still law who count m e cut))

fill_still : (law : Law) (who own readers : ℕ) (row : List ℕ) (b e : Book) → TookFill law who own readers row b e → Went law who IsStillStep b e
fill_still law who own readers row b e took =
    went_more law who IsStillStep b took.rated e
    (went_more law who IsStillStep b took.drawn took.rated (draw_still law who (spare_cells (part_of b.view who)) own b took.drawn took.draw) (went_one law who IsStillStep _ readers took.drawn took.rated tt took.rate))
    (copy_still law who own row took.rated e took.copy)

pub claim_still : (law : Law) (who oid count : ℕ) (b e : Book) → TookClaim law who oid count b e → Went law who IsStillStep b e
claim_still law who oid count b e took =
    went_more law who IsStillStep b took.tidied e
    (went_more law who IsStillStep b took.taken took.tidied (entry_still law who oid took.head b took.taken took.entry) (cut_chain_still law who count took.taken took.tidied took.cut)) (fill_still law who took.own took.readers took.row took.tidied e took.fill)

no_cell_still : (law : Law) (who oid head drawn : ℕ) (b e : Book) → TookNoCell law who oid head drawn b e → Went law who IsStillStep b e
no_cell_still law who oid head drawn b e took =
    went_step law who IsStillStep b took.refused e (Install oid head) took.word (no_count_still law who drawn b took.refused took.count) tt took.step

lack_still : (law : Law) (who oid drawn : ℕ) (b e : Book) → TookLack law who oid drawn b e → Went law who IsStillStep b e
lack_still law who oid drawn b e took =
    went_more law who IsStillStep b took.tidied e
    (went_more law who IsStillStep b took.taken took.tidied (entry_still law who oid took.head b took.taken took.entry) (cut_chain_still law who took.count took.taken took.tidied took.cut))
    (no_cell_still law who oid took.head drawn took.tidied e took.none)

pub no_claim_still : (law : Law) (who oid : ℕ) (why : RowStop) (b e : Book) → TookNoClaim law who oid why b e → Went law who IsStillStep b e
no_claim_still law who oid (stop.CellsFull drawn) b e took = lack_still law who oid drawn b e took
no_claim_still law who oid (stop.Excluded succ pred) b e took = claim_still law who oid took.0 b e took.1
no_claim_still law who oid stop.WritesFull b e took = subst (λ (z : Book). Went law who IsStillStep b z) (sym took) (went_none law who IsStillStep b)
no_claim_still law who oid (stop.Owned seat number) b e took = either_still law who oid (stop.Owned seat number) b e took.1
no_claim_still law who oid (stop.Newer stamp) b e took = either_still law who oid (stop.Newer stamp) b e took.1
no_claim_still law who oid (stop.NotYet seat seen) b e took = either_still law who oid (stop.NotYet seat seen) b e took.1
no_claim_still law who oid stop.ReadsFull b e took = either_still law who oid stop.ReadsFull b e took.1
no_claim_still law who oid (stop.OidsFull drawn) b e took = either_still law who oid (stop.OidsFull drawn) b e took.1
no_claim_still law who oid stop.Memory b e took = either_still law who oid stop.Memory b e took.1

-- and the cut of a claimed object's chain
pub tidy_still : (law : Law) (who oid count : ℕ) (b e : Book) → TookTidy law who oid count b e → Went law who IsStillStep b e
tidy_still law who oid count b e took =
    went_more law who IsStillStep b took.at e (went_one law who IsStillStep (LoadEntry oid) took.entry b took.at tt took.step) (cut_chain_still law who count took.at e took.cut)
