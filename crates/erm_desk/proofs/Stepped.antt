-- A turn takes steps of the flush seat alone.
use Rattle.std.proofs.Common.{ℕ, ◌+◌, ⊎_elim, Bool, List, [], ◌∷◌, ◌++◌, Option, Result, Ok, Err, sym, subst}
use Rattle.erm_flush.specs.declared.stops.FlushStop.{FlushStop}
use Rattle.erm_flush.specs.declared.stops.FlushStop.TheVariants as stop
use Rattle.erm_flush.specs.Over.{TurnsOver}
use Rattle.erm_machine.specs.declared.event.Kind.TheVariants as kind
use Rattle.erm_machine.specs.declared.event.TailUse.TheVariants as purpose
use Rattle.erm_machine.specs.declared.limits.TheConstants.{FLUSH_SEAT}
use Rattle.erm_model.specs.RowTransaction.{Law}
use Rattle.erm_outside.specs.Disk.{Step}
use Rattle.erm_ring.specs.Took.{TookClear, TookGather, TookGathered, ring_steps}
use Rattle.erm_rule.specs.declared.view.Book.{Book}
use Rattle.erm_rule.proofs.Wents.{took_more, took_none, took_one}
use Rattle.erm_world.specs.declared.gathered.Gathered.{Gathered}
use Rattle.erm_world.specs.declared.gathered.Gathered.TheVariants.{Empty, Unfilled, Words}
use Rattle.erm_desk.specs.Turns.{DidLook, DidStore, FlushSteps}

abbrev F : ℕ
F = FLUSH_SEAT

pub no_steps : (law : Law) (b : Book) → FlushSteps law b b
no_steps law b = ([], took_none law F b)

pub steps_both : (law : Law) (b m e : Book) → FlushSteps law b m → FlushSteps law m e → FlushSteps law b e
steps_both law b m e first second = (second.0 ++ first.0, took_more law F first.0 second.0 b m e first.1 second.1)

gathered_steps : (law : Law) (tail from count : ℕ) (words : List ℕ) (b e : Book) → TookGathered law tail from count words b e → FlushSteps law b e
gathered_steps law tail from count words b e took =
    let loads = took.loads in
    let all : FlushSteps law b took.gathered =
    steps_both law b loads.began took.gathered ((kind.LoadFlushed, from) ∷ (kind.LoadTail purpose.Gather, tail) ∷ [], loads.begins) (ring_steps from words count, loads.loads)
    in
    ⊎_elim (λ ended. subst (FlushSteps law b) (sym ended.1) all) (λ open_here. ((kind.LoadRing (from + count), 0) ∷ all.0, (took.gathered, all.1, open_here.2))) took.stop

pub look_steps : (law : Law) (g : Gathered) (words : List ℕ) (b e : Book) → TookGather law g words b e → FlushSteps law b e
look_steps law (Empty at) words b e took = gathered_steps law took.0 at 0 words b e took.2
look_steps law (Unfilled at) words b e took = gathered_steps law took.0 at 0 words b e took.2
look_steps law (Words at count) words b e took = gathered_steps law took.0 at count words b e took.2

pub clear_steps : (law : Law) (to : ℕ) (b e : Book) → TookClear law to b e → FlushSteps law b e
clear_steps law to b e took =
    let cleared = took.clears in
    let first : FlushSteps law b cleared.first = ((kind.LoadFlushed, took.from) ∷ [], took_one law F kind.LoadFlushed took.from b cleared.first cleared.load) in
    let all = steps_both law b cleared.first took.cleared first (cleared.clears.steps, cleared.clears.took) in
    ((kind.StoreFlushed to, took.word) ∷ all.0, (took.cleared, all.1, took.step))

pub turn_steps : (law : Law) (answer : Result ℕ FlushStop) (was now : Bool) (b e : Book) (before after : Option (List Step)) → TurnsOver (DidLook law) (DidStore law) answer was now b e before after
    → FlushSteps law b e
turn_steps law (Ok to) was now b e before after (fine, still, did) =
    steps_both law b did.mid e (look_steps law (Words did.at did.count) did.write.words b did.mid did.write.looks.took) (clear_steps law to did.mid e did.stores.took)
turn_steps law (Err (stop.Empty at)) was now b e before after (fine, still, did) = look_steps law (Empty at) did.0.0 b e did.0.1.took
turn_steps law (Err (stop.Unfilled at)) was now b e before after (fine, still, did) = look_steps law (Unfilled at) did.0.0 b e did.0.1.took
turn_steps law (Err stop.DiskFault) was now b e before after (fine, failed, did) = look_steps law (Words did.0 did.1) did.2.words b e did.2.looks.took
turn_steps law (Err stop.Failed) was now b e before after (had, has, same, still) = subst (FlushSteps law b) (sym same) (no_steps law b)
