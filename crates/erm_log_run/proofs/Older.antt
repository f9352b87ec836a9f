-- The log's older segments, which only checkpoints remove.
use Rattle.std.proofs.Common.{◌≡◌, ℕ, ◌/◌, ◌<◌, ◌≤◌, ◌++◌, length, max, List, [], ◌∷◌, Option, Some, None, IfSome, Ok, Err, refl, sym, ap, ◌∙◌, subst, arith, inl, inr}
use Rattle.std.specs.Prelude.{Result}
use Rattle.std.specs.List.{slice_get}
use Rattle.std.proofs.lemmas.Bool.{cases_lt}
use Rattle.erm_model.specs.Rows.{Rows}
use Rattle.erm_model.specs.declared.limits.TheConstants.{SEGMENT_WORDS}
use Rattle.erm_flush.specs.Turns.{WritesFrom}
use Rattle.erm_outside.specs.Disk.{Step, Tells}
use Rattle.erm_report.specs.declared.answer.Answer.{Answer}
use Rattle.erm_report.specs.declared.answer.Answer.TheVariants as answer
use Rattle.erm_script.specs.declared.script.ScriptLine.{ScriptLine}
use Rattle.erm_world.specs.Log.{Log}
use Rattle.erm_world.specs.World.{View}
use Rattle.erm_ckpt.specs.declared.slot.Slot.{Slot}
use Rattle.erm_ckpt.specs.declared.slot.Slots.{Slots}
use Rattle.erm_ckpt.specs.Slots.{removal_end, segment_of_best}
use Rattle.erm_checkpoint.specs.Taken.{Takes, TakesAll}
use Rattle.erm_checkpoint.proofs.Segments.{checkpoint_left, checkpoint_spares, flush_spares}
use Rattle.erm_checkpoint.proofs.Taken.{removals_within}
use Rattle.erm_lines.specs.Answers.{DidLine}
use Rattle.erm_log_run.specs.declared.stops.LineStop.{LineStop}
use Rattle.erm_log_run.specs.declared.stops.LineStop.TheVariants.{DiskFault, Memory}
use Rattle.erm_log_run.specs.Keeping.{Keeper, Keeps}
use Rattle.erm_log_run.specs.Saving.{AreRemoved, AreSaved, MayBeRemoved, RemovesTo, SparesOlder, end_by, end_from, end_of_command, end_of_line, next_end, removed_to, removing_to, saved_at, saved_by, saved_from}
use Rattle.erm_log_run.proofs.Held.{tells_join, tells_weaker}
use Rattle.erm_log_run.proofs.Reached.{no_checkpoint}

-- a segment below that of a place lies below that of a later one
pub higher : (place later n : ℕ) → place ≤ later → n < place / SEGMENT_WORDS → n < later / SEGMENT_WORDS
higher place later n below low = omega (arith, below, low)

-- each of two numbers is at most the greater one
first_below : (a b : ℕ) → a ≤ max a b
first_below a b = omega arith

second_below : (a b c : ℕ) → c ≡ b → c ≤ max a b
second_below a b c same = omega (arith, same)

-- what was removed may be
pub removed_below : (slots : Slots) (script : List ScriptLine) (answers : List Answer) → removed_to slots answers ≤ removing_to slots script answers
removed_below slots script answers = first_below (removed_to slots answers) (end_of_line slots (saved_at answers) (slice_get script (length answers)))

-- ---- nothing is removed

none_removed : (place later : ℕ) (old new : List Step) → SparesOlder place old new → AreRemoved 0 place later old new
none_removed place later old new spares = record { gone = λ n low. absurd (omega (arith, low)); stay = λ n high low. spares n low; within = omega arith }

-- where nothing is done
pub older_itself : (place later : ℕ) (told : Option (List Step)) → Tells (AreRemoved 0 place later) told told
older_itself place later None = refl
older_itself place later (Some steps) = (steps, refl, none_removed place later steps steps (λ n low. refl))

-- and where the log is flushed, wholly or up to a fault
pub flushed_older : (sound : Rows → Type 0) (place later : ℕ) (log : Log) (before after : Option (List Step)) → Tells (WritesFrom sound place log) before after → Tells (AreRemoved 0 place later) before after
flushed_older sound place later log before after =
    tells_weaker (WritesFrom sound place log) (AreRemoved 0 place later) before after (λ old new w. none_removed place later old new (λ n low. flush_spares sound place log old new w n low))

pub flushed_spares : (sound : Rows → Type 0) (place : ℕ) (log : Log) (before after : Option (List Step)) → Tells (WritesFrom sound place log) before after → Tells (SparesOlder place) before after
flushed_spares sound place log before after = tells_weaker (WritesFrom sound place log) (SparesOlder place) before after (λ old new w n low. flush_spares sound place log old new w n low)

pub flushed_may : (sound : Rows → Type 0) (place most : ℕ) (log : Log) (before after : Option (List Step)) → Tells (WritesFrom sound place log) before after → Tells (MayBeRemoved most place) before after
flushed_may sound place most log before after =
    tells_weaker (WritesFrom sound place log) (MayBeRemoved most place) before after (λ old new w n low. inl (flush_spares sound place log old new w n low))

-- ---- a checkpoint

pub checkpoint_older : (sound : Rows → Type 0) (place : ℕ) (log : Log) (slots : Slots) (slot : Slot) (before after : Option (List Step)) → Tells (TakesAll sound place log slots slot) before after
    → Tells (AreRemoved (removal_end slots) place log.flushed) before after
checkpoint_older sound place log slots slot before after = tells_weaker (TakesAll sound place log slots slot) (AreRemoved (removal_end slots) place log.flushed) before after (λ old new t. record {
  gone = λ n low. t.saves.gone n (omega arith) low;
  stay = λ n high low. checkpoint_spares sound place log slots slot old new t n high low;
  within = removals_within sound log slots t.mid t.holds;
})

pub checkpoint_may : (sound : Rows → Type 0) (place : ℕ) (log : Log) (slots : Slots) (slot : Slot) (before after : Option (List Step)) → Tells (Takes sound place log slots slot) before after
    → Tells (MayBeRemoved (removal_end slots) place) before after
checkpoint_may sound place log slots slot before after =
    tells_weaker (Takes sound place log slots slot) (MayBeRemoved (removal_end slots) place) before after (λ old new t n low. checkpoint_left sound place log slots slot old new t n low)

-- ---- from one moment to a second, and from there to a third

both_removed : (e f g place mid later : ℕ) → g ≡ max e f → place ≤ mid → mid ≤ later → (a b c : List Step) → AreRemoved e place mid a b → AreRemoved f mid later b c → AreRemoved g place later a c
both_removed e f g place mid later end below further a b c p q =
    let first = p.within in
    let second = q.within in
    record {
      gone = λ n low. elim (cases_lt n f) [
        | inl under ↦ q.gone n under
        | inr above ↦
            let less : n < e = omega (arith, low, end, above) in
            q.stay n above (omega (arith, less, first)) ∙ p.gone n less
      ];
      stay = λ n high low. q.stay n (omega (arith, high, end)) (higher place mid n below low) ∙ p.stay n (omega (arith, high, end)) low;
      within = omega (arith, first, second, end, further);
    }

may_behind : (e most g place mid : ℕ) → e ≤ g → most ≤ g → place ≤ mid → (a b c : List Step) → AreRemoved e place mid a b → MayBeRemoved most mid b c → MayBeRemoved g place a c
may_behind e most g place mid first second below a b c p q n low = elim (q n (higher place mid n below low)) [
  | inl same ↦ elim (cases_lt n e) [
    | inl under ↦ inr (omega (arith, under, first), same ∙ p.gone n under)
    | inr above ↦ inl (same ∙ p.stay n above low)
  ]
  | inr gone ↦ inr ((let less = gone.0 in omega (arith, less, second)), gone.1)
]

-- calls that remove nothing
pub older_then : (place mid later : ℕ) (x y z : Option (List Step)) → place ≤ mid → mid ≤ later → Tells (AreRemoved 0 place mid) x y → Tells (AreRemoved 0 mid later) y z → Tells (AreRemoved 0 place later) x z
older_then place mid later x y z below further first second =
    tells_join (AreRemoved 0 place mid) (AreRemoved 0 mid later) (AreRemoved 0 place later) x y z (both_removed 0 0 0 place mid later (omega arith) below further) first second

-- the log goes on meanwhile
pub older_later : (place later more : ℕ) (x y : Option (List Step)) → Tells (AreRemoved 0 place later) x y → Tells (AreRemoved 0 place more) x y
older_later place later more x y = tells_weaker (AreRemoved 0 place later) (AreRemoved 0 place more) x y (λ a b removed. record { gone = removed.gone; stay = removed.stay; within = omega arith })

-- a call behind a flush
pub removes_then : {T : Type 0} (r : Result T LineStop) (end : T → ℕ) (most place mid later : ℕ) (x y z : Option (List Step)) → place ≤ mid → Tells (SparesOlder place) x y → RemovesTo r end most mid later y z
    → RemovesTo r end most place later x z
removes_then (Ok t) end most place mid later x y z below first second =
    tells_join (SparesOlder place) (AreRemoved (end t) mid later) (AreRemoved (end t) place later) x y z
    (λ a b c spares q. record { gone = q.gone; stay = λ n high low. q.stay n high (higher place mid n below low) ∙ spares n low; within = q.within }) first second
removes_then (Err DiskFault) end most place mid later x y z below first second =
    tells_join (SparesOlder place) (MayBeRemoved most mid) (MayBeRemoved most place) x y z
    (λ a b c spares q n low. elim (q n (higher place mid n below low)) [
      | inl same ↦ inl (same ∙ spares n low)
      | inr gone ↦ inr gone
    ]) first second
removes_then (Err Memory) end most place mid later x y z below first second = tt

-- a line of a session does nothing to the disk
pub session_older : (v t : View) (l : ScriptLine) (a : Answer) (slots : Slots) (place later : ℕ) (told : Option (List Step)) → DidLine v l a t → Tells (AreRemoved (end_by slots None a) place later) told told
session_older v t l (answer.Checkpointed saved) slots place later told did = absurd (no_checkpoint v t l saved did)
session_older v t l a slots place later told did = older_itself place later told

-- ---- one answer more

removed_push : (slots : Slots) (last : Option ℕ) (end : ℕ) (answers : List Answer) (a : Answer)
    → end_from slots last end (answers ++ a ∷ []) ≡ max (end_from slots last end answers) (end_by slots (saved_from last answers) a)
removed_push slots last end [] a = refl
removed_push slots last end (b ∷ answers) a = removed_push slots (saved_by b last) (max end (end_by slots last b)) answers a

-- where the next removals end is told by the answers so far
next_is : (slots now : Slots) (last : Option ℕ) (steps : List Step) → AreSaved last (Some steps) slots now → removal_end now ≡ next_end slots last
next_is slots now None steps same = ap removal_end same
next_is slots now (Some place) steps is = ap segment_of_best is.best ∙ ap (λ (n : ℕ). n / SEGMENT_WORDS) is.at

end_is : (slots now : Slots) (last : Option ℕ) (steps : List Step) (a : Answer) → AreSaved last (Some steps) slots now → end_by now None a ≡ end_by slots last a
end_is slots now last steps (answer.Checkpointed place) saved = next_is slots now last steps saved
end_is slots now last steps a saved = refl

pub stay_more : (slots now : Slots) (answers : List Answer) (a : Answer) (place mid later : ℕ) (x y z : Option (List Step)) → place ≤ mid → mid ≤ later → AreSaved (saved_at answers) x slots now
    → Tells (AreRemoved (removed_to slots answers) place mid) x y → Tells (AreRemoved (end_by now None a) mid later) y z → Tells (AreRemoved (removed_to slots (answers ++ a ∷ [])) place later) x z
stay_more slots now answers a place mid later None y z below further saved first second =
    subst (λ (o : Option (List Step)). Tells (AreRemoved (end_by now None a) mid later) o z) first second
stay_more slots now answers a place mid later (Some steps) y z below further saved first second =
    let end : removed_to slots (answers ++ a ∷ []) ≡ max (removed_to slots answers) (end_by now None a) =
    removed_push slots None 0 answers a ∙ ap (λ (n : ℕ). max (removed_to slots answers) n) (sym (end_is slots now (saved_at answers) steps a saved)) in
    tells_join (AreRemoved (removed_to slots answers) place mid) (AreRemoved (end_by now None a) mid later) (AreRemoved (removed_to slots (answers ++ a ∷ [])) place later) (Some steps) y z
    (both_removed (removed_to slots answers) (end_by now None a) (removed_to slots (answers ++ a ∷ [])) place mid later end below further) first second

-- ---- a call that wasn't answered

pub stop_removes : (T U : Type 0) (stop : LineStop) (end : T → ℕ) (ends : U → ℕ) (e most g place mid later : ℕ) (x y z : Option (List Step)) → e ≤ g → IfSome x (λ steps. most ≤ g) → place ≤ mid
    → Tells (AreRemoved e place mid) x y → RemovesTo {T = T} (Err stop) end most mid later y z → RemovesTo {T = U} (Err stop) ends g place later x z
stop_removes T U DiskFault end ends e most g place mid later None y z first second below removed may =
    subst (λ (o : Option (List Step)). Tells (MayBeRemoved most mid) o z) removed may
stop_removes T U DiskFault end ends e most g place mid later (Some steps) y z first second below removed may =
    tells_join (AreRemoved e place mid) (MayBeRemoved most mid) (MayBeRemoved g place) (Some steps) y z (may_behind e most g place mid first second below) removed may
stop_removes T U Memory end ends e most g place mid later x y z first second below removed may = tt

-- the same stop
pub stop_removes_too : (T U : Type 0) (stop : LineStop) (end : T → ℕ) (ends : U → ℕ) (most place later : ℕ) (x z : Option (List Step)) → RemovesTo {T = T} (Err stop) end most place later x z
    → RemovesTo {T = U} (Err stop) ends most place later x z
stop_removes_too T U DiskFault end ends most place later x z may = may
stop_removes_too T U Memory end ends most place later x z may = tt

-- no more may be removed than the next line removes
pub most_next : (slots now : Slots) (script : List ScriptLine) (l : ScriptLine) (answers : List Answer) (told : Option (List Step)) → slice_get script (length answers) ≡ Some l
    → AreSaved (saved_at answers) told slots now → IfSome told (λ steps. end_of_command l.command (removal_end now) ≤ removing_to slots script answers)
most_next slots now script l answers None at saved = tt
most_next slots now script l answers (Some steps) at saved =
    second_below (removed_to slots answers) (end_of_line slots (saved_at answers) (slice_get script (length answers))) (end_of_command l.command (removal_end now))
    (ap (end_of_command l.command) (next_is slots now (saved_at answers) steps saved) ∙ sym (ap (end_of_line slots (saved_at answers)) at))

-- a call behind the last answer
pub stay_behind : {T : Type 0} (r : Result T LineStop) (sound : Rows → Type 0) (k m : Keeper) (e g place : ℕ) (x : Option (List Step)) → e ≤ g → place ≤ k.log.flushed → Keeps sound r k m
    → Tells (AreRemoved e place k.log.flushed) x k.told → RemovesTo r (λ t. 0) 0 k.log.flushed m.log.flushed k.told m.told → RemovesTo r (λ t. e) g place m.log.flushed x m.told
stay_behind (Ok t) sound k m e g place x most below keeps first second =
    tells_join (AreRemoved e place k.log.flushed) (AreRemoved 0 k.log.flushed m.log.flushed) (AreRemoved e place m.log.flushed) x k.told m.told
    (both_removed e 0 e place k.log.flushed m.log.flushed (omega arith) below keeps.1.further) first second
stay_behind (Err DiskFault) sound k m e g place x most below keeps first second =
    tells_join (AreRemoved e place k.log.flushed) (MayBeRemoved 0 k.log.flushed) (MayBeRemoved g place) x k.told m.told
    (may_behind e 0 g place k.log.flushed most (omega arith) below) first second
stay_behind (Err Memory) sound k m e g place x most below keeps first second = tt
