-- Turns over a world's log, which nobody else writes.
use Rattle.std.proofs.Common.{◌≡◌, ℕ, ◌+◌, ◌-◌, ◌<◌, ◌≤◌, ◌++◌, Bool, false, List, length, take, replicate, Option, Some, None, IfSome, Result, Ok, Err, OnOk, refl, sym, ap, ◌∙◌, subst, arith}
use Rattle.std.specs.Prelude.{IsSome}
use Rattle.erm_flush.specs.Over.{TurnsKnown, TurnsOver}
use Rattle.erm_flush.specs.Turns.{HoldsFrom, IsReady, Stays, Turns, WritesFrom}
use Rattle.erm_flush.specs.Turns as turns
use Rattle.erm_flush.specs.declared.stops.FlushStop.{FlushStop}
use Rattle.erm_flush.specs.declared.stops.FlushStop.TheVariants.{Empty, Unfilled, DiskFault, Failed}
use Rattle.erm_flush.proofs.Told.{gathered_words, unchanged_log}
use Rattle.erm_log_view.specs.Views.{Fits, Sees, SeesBlocks, StopsBy}
use Rattle.erm_model.specs.Rows.{Rows}
use Rattle.erm_model.specs.declared.limits.TheConstants.{RING_WORDS}
use Rattle.std.proofs.lemmas.List.{length-take}
use Rattle.erm_outside.specs.Disk.{IsSettled, Step, Tells}
use Rattle.erm_record.specs.Stored.{stored_length}
use Rattle.erm_world.specs.declared.gathered.Gathered.{Gathered}
use Rattle.erm_world.specs.declared.gathered.Gathered.TheVariants as gathered
use Rattle.erm_world.specs.Log.{DidGather, Gathers, gathered_to, IsLog, IsStop, Log}

-- a gather of a log that was flushed up to a place by then
pub did_gather : (sound : Rows → Type 0) (l m : Log) (at count place : ℕ) (words : List ℕ) → DidGather l m at count words → l.flushed ≤ place → IsLog sound (record m { flushed = place })
    → turns.DidGather l (record m { flushed = place })
did_gather sound l m at count place words d low is =
    let M : Log = record l { gathered = d.front ++ d.blocks } in
    let N : Log = record M { flushed = place } in
    let same : record m { flushed = place } ≡ N = ap (λ (x : Log). record x { flushed = place }) d.gathered in
    let is_log : IsLog sound N = subst (IsLog sound) same is in
    let to : gathered_to m ≡ gathered_to N = ap gathered_to d.gathered in
    let count_is = d.count_is in
    let some = d.some in
    let within = is_log.within in
    let above : l.flushed < gathered_to N = omega (arith, to, count_is, some) in
    subst (turns.DidGather l) (sym same)
    (record {
      goes_on = record { log = refl; more = d.more; further = low };
      waits = omega (arith, above, within);
      decided = is_log.decided l.flushed above;
      above = above;
      stops = subst (λ (x : Log). IsStop x (gathered_to x)) d.gathered d.stops;
    })

-- what a gather of a world's log answers has room
pub fits_here : (short : (row : List ℕ) → stored_length row ≤ length row) (whole : (row : List ℕ) → take (stored_length row) row ++ replicate (length row - stored_length row) 0 ≡ row) (sound : Rows → Type 0)
    (g : Gathered) (l m : Log) (words : List ℕ) → Gathers g l m words → IsLog sound m → length words ≡ RING_WORDS → Fits g
fits_here short whole sound (gathered.Empty at) l m words did is room = tt
fits_here short whole sound (gathered.Unfilled at) l m words did is room = tt
fits_here short whole sound (gathered.Words at count) l m words d is room =
    let size = gathered_words short whole sound l m at count words d is in
    let cut = length-take count words in
    let same = ap length d.words_are in
    let at_is = d.at_is in
    let to = d.count_is in
    let within = is.within in
    let low = is.places in (
      d.some,
      omega (arith, size, cut, same, room),
      omega (arith, at_is, to, within, low),
    )

module _ {S : Type 0} (log : S → Log) (sound : Rows → Type 0) where
  abbrev gathers_in : S → Gathered → List ℕ → S → Type 0
  gathers_in s g words t = Gathers g (log s) (log t) words

  abbrev flushes_in : S → ℕ → S → Type 0
  flushes_in s end t = log t ≡ record (log s) { flushed = end }

  abbrev knows_in : S → Log → Type 0
  knows_in s l = l ≡ log s

  abbrev ended_in : S → ℕ → S → Type 0
  ended_in s place t = (log s).tail ≡ place

  abbrev opened_in : S → ℕ → S → Type 0
  opened_in s place t = IsSome ((log s).undecided place)

  abbrev stopped_in : S → ℕ → S → Type 0
  stopped_in s place t = IsStop (log s) place

  -- A GATHER, as a log tells it that others may go on writing
  sees_blocks : (l m : Log) (at count : ℕ) (words : List ℕ) → DidGather l m at count words → SeesBlocks l m at count words
  sees_blocks l m at count words d = record {
    at_is = d.at_is;
    some = d.some;
    front = d.front;
    blocks = d.blocks;
    flushed_is = d.flushed_is;
    gathered = subst (λ (x : Log). x ≡ record l { tail = x.tail; gathered = d.front ++ d.blocks }) (sym d.gathered) refl;
    more = d.more;
    words_are = d.words_are;
    count_is = d.count_is;
  }

  sees_here : (g : Gathered) (s t : S) (words : List ℕ) → gathers_in s g words t → Sees knows_in knows_in g (log s) words t
  sees_here (gathered.Empty at) s t words did = (did.1, sym did.0)
  sees_here (gathered.Unfilled at) s t words did = (did.1, sym did.0)
  sees_here (gathered.Words at count) s t words did = (log t, refl, sees_blocks (log s) (log t) at count words did)

  pub sees_all : (g : Gathered) (s t : S) (words : List ℕ) (l : Log) → l ≡ log s → gathers_in s g words t → Sees knows_in knows_in g l words t
  sees_all g s t words l same did = subst (λ (x : Log). Sees knows_in knows_in g x words t) (sym same) (sees_here g s t words did)

  stops_here : (l m : Log) (at count : ℕ) (words : List ℕ) → DidGather l m at count words → IsStop l (at + count)
  stops_here l m at count words d =
      let same : gathered_to m ≡ at + count = let to = d.count_is in let from = d.at_is in omega (arith, to, from) in
      subst (IsStop l) same (subst (λ (x : Log). IsStop x (gathered_to m)) d.gathered d.stops)

  pub stops_all : (g : Gathered) (s t : S) (words : List ℕ) → gathers_in s g words t → StopsBy ended_in opened_in stopped_in g s t
  stops_all (gathered.Empty at) s t words did = did.2 ∙ sym did.1
  stops_all (gathered.Unfilled at) s t words did = subst (λ (p : ℕ). IsSome ((log s).undecided p)) (sym did.1) did.3
  stops_all (gathered.Words at count) s t words did = stops_here (log s) (log t) at count words did

  -- A TURN
  pub exact_turn : (result : Result ℕ FlushStop) (was now : Bool) (s t : S) (before after : Option (List Step)) → IsLog sound (log t)
      → TurnsOver gathers_in flushes_in result was now s t before after → Turns result was now (log s) (log t)
  exact_turn (Ok end) was now s t before after is (fine, still, did) =
      let d = did.write.looks in
      let at_is = d.at_is in
      let count_is = d.count_is in
      let end_is = did.end_is in
      let here : log t ≡ record (log did.mid) { flushed = end } = did.stores in
      let gathers = did_gather sound (log s) (log did.mid) did.at did.count end did.write.words d (omega (arith, at_is, end_is)) (subst (IsLog sound) here is) in
      let to : end ≡ gathered_to (log did.mid) = omega (arith, at_is, count_is, end_is) in
      let all = subst (λ (x : Log). turns.DidGather (log s) x × (x.flushed ≡ end) × (end ≡ gathered_to x)) (sym here) (gathers, refl, to) in
      (fine, still, all.0, all.1, all.2)
  exact_turn (Err (Empty at)) was now s t before after is (fine, still, did) = (fine, still, did.0.1.0, did.0.1.1, did.0.1.2)
  exact_turn (Err (Unfilled at)) was now s t before after is (fine, still, did) = (fine, still, did.0.1.0, did.0.1.1, did.0.1.2, did.0.1.3)
  exact_turn (Err DiskFault) was now s t before after is (fine, failed, did) =
      let d = did.2.looks in
      let flushed : (log t).flushed ≡ (log s).flushed = ap (λ (x : Log). x.flushed) d.gathered in
      (fine, failed, did_gather sound (log s) (log t) did.0 did.1 (log t).flushed did.2.words d (omega (arith, flushed)) is, flushed)
  exact_turn (Err Failed) was now s t before after is (failed, still, same, told) = (failed, still, ap log same)

  pub exact_stays : (result : Result ℕ FlushStop) (was now : Bool) (s t : S) (before after : Option (List Step)) → TurnsOver gathers_in flushes_in result was now s t before after
      → Stays result before after
  exact_stays (Ok end) was now s t before after did = tt
  exact_stays (Err (Empty at)) was now s t before after did = did.2.1
  exact_stays (Err (Unfilled at)) was now s t before after did = did.2.1
  exact_stays (Err DiskFault) was now s t before after did = tt
  exact_stays (Err Failed) was now s t before after did = did.3

  -- what it leaves on a disk
  module _ (short : (row : List ℕ) → stored_length row ≤ length row) (whole : (row : List ℕ) → take (stored_length row) row ++ replicate (length row - stored_length row) 0 ≡ row)
      (s t : S) (before after : Option (List Step)) where
    abbrev Known : Result ℕ FlushStop → Type 0
    Known result = TurnsKnown sound knows_in knows_in ended_in opened_in stopped_in result (log s) s t before after

    nothing : IsLog sound (log s) → IfSome before (IsReady (log s)) → log s ≡ log t → after ≡ before → Tells (WritesFrom sound (log s).flushed (log t)) before after
    nothing is ready same still = subst (λ (x : Option (List Step)). Tells (WritesFrom sound (log s).flushed (log t)) before x) (sym still)
        (unchanged_log short whole sound (log s) (log t) before is (sym same) ready)

    pub exact_writes : (result : Result ℕ FlushStop) → IsLog sound (log s) → IfSome before (IsReady (log s)) → Known result → Tells (WritesFrom sound (log s).flushed (log t)) before after
    exact_writes (Ok end) is ready (m, same, did) = subst (λ (x : Log). Tells (WritesFrom sound (log s).flushed x) before after) same did.writes
    exact_writes (Err (Empty at)) is ready (here, same, ended, still) = nothing is ready same still
    exact_writes (Err (Unfilled at)) is ready (here, same, opened, still) = nothing is ready same still
    exact_writes (Err DiskFault) is ready (m, same, did) = subst (λ (x : Log). Tells (WritesFrom sound (log s).flushed x) before after) same did.writes
    exact_writes (Err Failed) is ready (same, still) = nothing is ready (ap log (sym same)) still

    pub exact_lasts : (result : Result ℕ FlushStop) → Known result → OnOk result (Tells (HoldsFrom sound (log s).flushed (log t)) before after)
    exact_lasts (Ok end) (m, same, did) = subst (λ (x : Log). Tells (HoldsFrom sound (log s).flushed x) before after) same did.lasts
    exact_lasts (Err stop) known = tt

    as_before : IfSome before (IsReady (log s)) → log s ≡ log t → after ≡ before → IfSome after (IsReady (log t))
    as_before ready same still = subst (λ (x : Option (List Step)). IfSome x (IsReady (log t))) (sym still) (subst (λ (x : Log). IfSome before (IsReady x)) same ready)

    pub exact_ready : (result : Result ℕ FlushStop) (was now : Bool) → TurnsOver gathers_in flushes_in result was now s t before after → now ≡ false
        → (was ≡ false → IfSome before (IsReady (log s))) → Known result → IfSome after (IsReady (log t))
    exact_ready (Ok end) was now did fine ready (m, same, known) = subst (λ (x : Log). IfSome after (IsReady x)) same known.ready
    exact_ready (Err (Empty at)) was now did fine ready (here, same, ended, still) = as_before (ready did.0) same still
    exact_ready (Err (Unfilled at)) was now did fine ready (here, same, opened, still) = as_before (ready did.0) same still
    exact_ready (Err DiskFault) was now did fine ready known = let failed = did.1 in absurd (cc)
    exact_ready (Err Failed) was now did fine ready known = let failed = did.1 in absurd (cc)

-- nothing is pending on a disk from which a log may be flushed on
pub settled_before : (l : Log) (before : Option (List Step)) → IfSome before (IsReady l) → IfSome before IsSettled
settled_before l None ready = tt
settled_before l (Some steps) ready = ready.settled
