-- The places that answers tell, while the log is kept to them.
use Rattle.std.proofs.Common.{◌≡◌, ◌≢◌, ℕ, ◌≤◌, ◌++◌, List, [], ◌∷◌, Option, Some, None, IfSome, Ok, Err, append_assoc, refl, sym, ap, ◌∙◌, subst, arith, inl, inr}
use Rattle.std.specs.Prelude.{Result}
use Rattle.std.specs.Option.{option_map}
use Rattle.std.proofs.lemmas.Option.{same_Some}
use Rattle.erm_model.specs.Rows.{Rows}
use Rattle.erm_model.proofs.Members.{∈-push}
use Rattle.erm_outside.specs.Disk.{Step, Tells}
use Rattle.erm_report.specs.declared.answer.Answer.{Answer}
use Rattle.erm_report.specs.declared.answer.Answer.TheVariants as answer
use Rattle.erm_world.specs.Log.{Log}
use Rattle.erm_ckpt.specs.declared.slot.Slots.{Slots}
use Rattle.erm_ckpt.specs.declared.slot.Slot.{Slot}
use Rattle.erm_ckpt.specs.Checkpoint.{Checkpoint}
use Rattle.erm_ckpt.specs.Recovered.{Pair, State, base, best, slots_of, state_of}
use Rattle.erm_ckpt.specs.Slots.{best_of}
use Rattle.erm_ckpt.proofs.Choices.{best_slot}
use Rattle.erm_checkpoint.specs.Taken.{HoldsLog, state_at}
use Rattle.erm_crash.specs.Kept.{KeepsBlocks, KeepsSince}
use Rattle.erm_crash.specs.Moments.{IsMoment}
use Rattle.erm_log_run.specs.declared.stops.LineStop.{LineStop}
use Rattle.erm_log_run.specs.declared.stops.LineStop.TheVariants.{DiskFault, Memory}
use Rattle.erm_log_run.specs.Acknowledged.{EndsAt, GoesOnFrom, HoldsTold, IsKeptTo, IsSavedAt, IsTold, KeepsTold, LastsFrom}
use Rattle.erm_log_run.specs.Saving.{AreSaved, IsBestAt, Removes, TookPlace, saved_by}
use Rattle.erm_good_report.specs.Stamps.{place_told}
use Rattle.erm_log_run.specs.Keeping.{IsHeld, IsKept, Keeper, Keeps, KeepsMoments, KeepsOn}
use Rattle.erm_log_run.proofs.Held.{tells_and, tells_both, tells_join, tells_weaker}
use Rattle.erm_log_run.proofs.Kept.{blocks_since, since_lower}

-- a place at which an answer ends is told at or below it
pub ends_low : (a : Answer) (place end : ℕ) → EndsAt a place end → place ≤ end
ends_low (answer.Durable stamp) place end low = low
ends_low a place end is = omega (arith, is)

-- the best of the slots is that of the checkpoint that an answer tells, and those before it named the segments that are gone
abbrev pub BestFor : (Rows → Type 0) → Answer → Slots → List Step → List Step → Type 0
BestFor sound (answer.Checkpointed place) slots first steps = IsBestAt slots place × ((before : Slots) × TookPlace sound place before slots first steps)
BestFor sound a slots first steps = Unit {0}

-- slots that name checkpoints name the best one
best_there : (slots : Slots) (pair : Pair) (place : ℕ) → slots ≡ slots_of pair → IsBestAt slots place → (best pair ≢ None) × ((base pair).at ≡ place)
best_there slots pair place names is = by (best pair) refl
  where
    by : (o : Option Checkpoint) → best pair ≡ o → (best pair ≢ None) × ((base pair).at ≡ place)
    by None none =
        let shown = sym is.best ∙ ap best_of names ∙ best_slot pair ∙ ap (λ (o : Option Checkpoint). option_map (λ checkpoint. checkpoint.slot) o) none in absurd (cc)
    by (Some c) some =
        let shown : Some is.slot ≡ Some c.slot = sym is.best ∙ ap best_of names ∙ best_slot pair ∙ ap (λ (o : Option Checkpoint). option_map (λ checkpoint. checkpoint.slot) o) some in
        let same : is.slot ≡ c.slot = same_Some is.slot c.slot shown in (
          (λ none. let no : ◌≡◌ {A = Option Checkpoint} None (Some c) = sym none ∙ some in cc),
          ap (λ (o : Option Checkpoint). (state_of o).at) some ∙ ap (λ (s : Slot). s.stamp) (sym same) ∙ is.at,
        )

saved_for : (sound : Rows → Type 0) (a : Answer) (slots : Slots) (pair : Pair) (first steps : List Step) → slots ≡ slots_of pair → BestFor sound a slots first steps → IsSavedAt sound a pair first steps
saved_for sound (answer.Checkpointed place) slots pair first steps names saved =
    let best = best_there slots pair place names saved.0 in
    (best.0, best.1, (saved.1.0, subst (λ (s : Slots). TookPlace sound place saved.1.0 s first steps) names saved.1.1))
saved_for sound a slots pair first steps names saved = tt

-- what a line leaves of the slots, and of the segments, tells so of its answer
pub best_for : (sound : Rows → Type 0) (a : Answer) (before after : Option (List Step)) (old new : Slots) → Tells GoesOnFrom before after → AreSaved (saved_by a None) after old new → Removes sound a before after old new
    → Tells (BestFor sound a new) before after
best_for sound (answer.Checkpointed place) before after old new goes saved removes =
    tells_weaker (λ first steps. IsBestAt new place × TookPlace sound place old new first steps) (BestFor sound (answer.Checkpointed place) new) before after (λ first steps both. (both.0, (old, both.1)))
    (tells_and (λ steps. IsBestAt new place) (TookPlace sound place old new) before after saved removes)
best_for sound a before after old new goes saved removes = tells_weaker GoesOnFrom (BestFor sound a new) before after (λ first steps on. tt) goes

-- where a log is flushed to the place that an answer tells, a disk that holds it recovers to that
holds_told : (sound : Rows → Type 0) (log : Log) (slots : Slots) (a : Answer) (place : ℕ) → EndsAt a place log.flushed → (first steps : List Step) → BestFor sound a slots first steps → HoldsLog sound log slots steps
    → HoldsTold sound a place first steps
holds_told sound log slots a place ends first steps saved h = record {
  settled = h.ready.settled;
  found = state_at log h.front;
  pair = h.pair;
  there = h.there;
  ends = subst (EndsAt a place) (sym h.to) ends;
  saved = saved_for sound a slots h.pair first steps h.names saved;
}

holds_now : (sound : Rows → Type 0) (first : Option (List Step)) (k : Keeper) (a : Answer) (place : ℕ) → IsHeld sound k → EndsAt a place k.log.flushed → Tells (BestFor sound a k.slots) first k.told
    → Tells (HoldsTold sound a place) first k.told
holds_now sound first k a place held ends saved =
    tells_weaker (λ old new. HoldsLog sound k.log k.slots new × BestFor sound a k.slots old new) (HoldsTold sound a place) first k.told
    (λ old new both. holds_told sound k.log k.slots a place ends old new both.1 both.0) (tells_and (HoldsLog sound k.log k.slots) (BestFor sound a k.slots) first k.told held.holds saved)

-- a moment since some steps is one since those before
pub since_before : (old mid new now more : List Step) → mid ≡ more ++ old → IsMoment mid new now → IsMoment old new now
since_before old mid new now more steps m = record {
  before = m.before ++ more;
  since = m.since ∙ ap (λ (ss : List Step). m.before ++ ss) steps ∙ sym (append_assoc m.before more old);
  after = m.after;
  later = m.later;
}

-- a checkpoint that was taken since some steps was taken since those before
pub took_since : (sound : Rows → Type 0) (place : ℕ) (slots later : Slots) (old mid steps more : List Step) → mid ≡ more ++ old → TookPlace sound place slots later mid steps → TookPlace sound place slots later old steps
took_since sound place slots later old mid steps more since took = record {
  run = took.run;
  put = took.put;
  gone = took.gone;
  was = took.was;
  moment = since_before old mid steps took.was more since took.moment;
  settled = took.settled;
  pair = took.pair;
  blocks = took.blocks;
  recovers = took.recovers;
  names = took.names;
  kept = took.kept;
}

saved_since : (sound : Rows → Type 0) (a : Answer) (pair : Pair) (old mid steps more : List Step) → mid ≡ more ++ old → IsSavedAt sound a pair mid steps → IsSavedAt sound a pair old steps
saved_since sound (answer.Checkpointed place) pair old mid steps more since saved =
    let took = saved.2 in
    (saved.0, saved.1, (took.0, took_since sound place took.0 (slots_of pair) old mid steps more since took.1))
saved_since sound a pair old mid steps more since saved = tt

-- what a disk holds since some steps it holds since those before
pub told_since : (sound : Rows → Type 0) (a : Answer) (place : ℕ) (old mid steps more : List Step) → mid ≡ more ++ old → HoldsTold sound a place mid steps → HoldsTold sound a place old steps
told_since sound a place old mid steps more since holds = record {
  settled = holds.settled;
  found = holds.found;
  pair = holds.pair;
  there = holds.there;
  ends = holds.ends;
  saved = saved_since sound a holds.pair old mid steps more since holds.saved;
}

-- what was done since some steps was done since those before
pub removed_since : (sound : Rows → Type 0) (a : Answer) (before mid after : Option (List Step)) (old new : Slots) → Tells GoesOnFrom before mid → Removes sound a mid after old new → Removes sound a before after old new
removed_since sound (answer.Checkpointed place) before mid after old new goes removes =
    tells_join GoesOnFrom (TookPlace sound place old new) (TookPlace sound place old new) before mid after (λ x y z more took. took_since sound place old new x y z more.0 more.1 took) goes removes
removed_since sound a before mid after old new goes removes = tt

-- a log that a disk holds is kept from now on
abbrev pub LogsBegin : (Rows → Type 0) → Type 0
LogsBegin sound = (log : Log) (slots : Slots) (steps : List Step) → HoldsLog sound log slots steps → KeepsSince sound log.flushed log slots steps steps

pub kept_now : (sound : Rows → Type 0) → LogsBegin sound → (k : Keeper) → IsHeld sound k → IsKept sound k.told k.log.flushed k
kept_now sound begins k held = by k.told held.holds
  where
    by : (o : Option (List Step)) → IfSome o (HoldsLog sound k.log k.slots) → Tells (KeepsSince sound k.log.flushed k.log k.slots) o o
    by None holds = refl
    by (Some steps) holds = (steps, refl, begins k.log k.slots steps holds)

module _ (sound : Rows → Type 0) (first : Option (List Step)) where
  abbrev pub AreKept : List Answer → Keeper → Type 0
  AreKept answers k = (place : ℕ) (is : IsTold answers place) → IsKeptTo sound first k is.answer place

  -- the log is kept on
  pub kept_on : (k m : Keeper) (a : Answer) (place : ℕ) → KeepsOn sound k m → IsKeptTo sound first k a place → IsKeptTo sound first m a place
  kept_on k m a place on is = record {
    start = is.start;
    later = is.later;
    holds = is.holds;
    low = (let low = is.low in let further = on.further in omega (arith, low, further));
    kept = on.keeps is.start place is.low is.kept;
  }

  -- what each image since some moment recovers to, where the disk failed, and where it holds the log still
  lasts : (from : State) (k m : Keeper) (a : Answer) (place : ℕ) (is : IsKeptTo sound first k a place) → Tells (KeepsBlocks sound from m.log.gathered place) is.start m.told
      → Tells (LastsFrom sound from m.log.gathered a place) first m.told
  lasts from k m a place is keeps = tells_join (λ old new. HoldsTold sound a place old new × GoesOnFrom old new) (KeepsBlocks sound from m.log.gathered place) (LastsFrom sound from m.log.gathered a place)
      first is.start m.told
      (λ old mid new goes since. record {
        mid = mid;
        moment = record { before = goes.1.0; since = goes.1.1; after = since.0.0; later = since.0.1 };
        holds = goes.0;
        keeps = since;
      }) (tells_both (HoldsTold sound a place) GoesOnFrom first is.start is.holds is.later) keeps

  pub lasts_at_fault : (k m : Keeper) (a : Answer) (place : ℕ) → KeepsMoments sound k m → IsKeptTo sound first k a place → Tells (LastsFrom sound (state_at m.log []) m.log.gathered a place) first m.told
  lasts_at_fault k m a place on is = lasts (state_at m.log []) k m a place is (on.keeps is.start place is.low is.kept)

  pub lasts_now : (m : Keeper) (a : Answer) (place : ℕ) → IsKeptTo sound first m a place → Tells (LastsFrom sound (state_at m.log []) m.log.gathered a place) first m.told
  lasts_now m a place is = lasts (state_at m.log []) m m a place is
      (tells_weaker (KeepsSince sound place m.log m.slots) (KeepsBlocks sound (state_at m.log []) m.log.gathered place) is.start m.told (λ old new since. blocks_since sound place m.log m.slots old new since) is.kept)

-- a disk goes on while its log is kept on
goes_from : (sound : Rows → Type 0) → LogsBegin sound → (first k : Keeper) → IsHeld sound first → KeepsOn sound first k → Tells GoesOnFrom first.told k.told
goes_from sound begins first k held on = tells_weaker (KeepsSince sound first.log.flushed k.log k.slots) GoesOnFrom first.told k.told (λ old new since. since.moments.0)
    (on.keeps first.told first.log.flushed (omega arith) (kept_now sound begins first held))

-- a place that is flushed now
pub kept_to_now : (sound : Rows → Type 0) → LogsBegin sound → (first k : Keeper) (a : Answer) (place : ℕ) → IsHeld sound first → KeepsOn sound first k → IsHeld sound k → EndsAt a place k.log.flushed
    → Tells (BestFor sound a k.slots) first.told k.told → IsKeptTo sound first.told k a place
kept_to_now sound begins first k a place held on holds ends saved = record {
  start = k.told;
  later = goes_from sound begins first k held on;
  holds = holds_now sound first.told k a place holds ends saved;
  low = low;
  kept = tells_weaker (KeepsSince sound k.log.flushed k.log k.slots) (KeepsSince sound place k.log k.slots) k.told k.told (λ old new since. since_lower sound place k.log.flushed k.log k.slots old new low since) (kept_now sound begins k holds);
}
  where
    low : place ≤ k.log.flushed
    low = ends_low a place k.log.flushed ends

-- ALL OF THEM.
pub all_kept_on : (sound : Rows → Type 0) (first : Option (List Step)) (answers : List Answer) (k m : Keeper) → KeepsOn sound k m → AreKept sound first answers k → AreKept sound first answers m
all_kept_on sound first answers k m on all place told = kept_on sound first k m told.answer place on (all place told)

-- one answer more
pub all_kept_more : (sound : Rows → Type 0) → LogsBegin sound → (first k m : Keeper) (answers : List Answer) (a : Answer) → IsHeld sound first → KeepsOn sound first k → KeepsOn sound k m → KeepsOn sound first m → IsHeld sound m
    → ((place : ℕ) → place_told a ≡ Some place → EndsAt a place m.log.flushed) → AreSaved (saved_by a None) m.told k.slots m.slots → Removes sound a k.told m.told k.slots m.slots → AreKept sound first.told answers k → AreKept sound first.told (answers ++ a ∷ []) m
all_kept_more sound begins first k m answers a held before on after holds reaches saves removes all place told = elim (∈-push answers a told.answer told.given) [
  | inl earlier ↦ kept_on sound first.told k m told.answer place on (all place (record { answer = told.answer; given = earlier; tells = told.tells }))
  | inr last ↦
      subst (λ (x : Answer). IsKeptTo sound first.told m x place) (sym last)
      (kept_to_now sound begins first m a place held after holds (reaches place (subst (λ (x : Answer). place_told x ≡ Some place) last told.tells)) (best_for sound a first.told m.told k.slots m.slots (goes_from sound begins first m held after) saves
      (removed_since sound a first.told k.told m.told k.slots m.slots (goes_from sound begins first k held before) removes)))
]

-- a call wasn't answered
pub stop_told : (T U : Type 0) (sound : Rows → Type 0) (stop : LineStop) (first : Option (List Step)) (answers : List Answer) (k m : Keeper) → AreKept sound first answers k
    → Keeps {T = T} sound (Err stop) k m → KeepsTold {T = U} sound (Err stop) answers first m
stop_told T U sound DiskFault first answers k m all keeps = λ place told. lasts_at_fault sound first k m told.answer place keeps (all place told)
stop_told T U sound Memory first answers k m all keeps = tt

-- the same stop
pub stop_told_too : (T U : Type 0) (sound : Rows → Type 0) (stop : LineStop) (first : Option (List Step)) (answers : List Answer) (m : Keeper)
    → KeepsTold {T = T} sound (Err stop) answers first m → KeepsTold {T = U} sound (Err stop) answers first m
stop_told_too T U sound DiskFault first answers m told = told
stop_told_too T U sound Memory first answers m told = tt

-- a call behind the last answer
pub told_then : {T : Type 0} (r : Result T LineStop) (sound : Rows → Type 0) (first : Option (List Step)) (answers : List Answer) (k m : Keeper) → AreKept sound first answers k → Keeps sound r k m
    → KeepsTold sound r answers first m
told_then (Ok x) sound first answers k m all keeps = all_kept_on sound first answers k m keeps.1 all
told_then (Err DiskFault) sound first answers k m all keeps = λ place told. lasts_at_fault sound first k m told.answer place keeps (all place told)
told_then (Err Memory) sound first answers k m all keeps = tt
