-- The slots and the older segments that a run leaves, as recovery finds them.
use Rattle.std.proofs.Common.{◌≡◌, ◌≢◌, ℕ, ◌+◌, ◌≤◌, List, Option, Some, None, IfSome, refl, sym, ap, ◌∙◌, subst, arith, inl, inr}
use Rattle.std.proofs.lemmas.Bool.{cases_lt}
use Rattle.std.specs.Option.{option_map}
use Rattle.erm_model.specs.declared.limits.TheConstants.{LEAST_BLOCK}
use Rattle.erm_block.specs.declared.block.Block.{Block}
use Rattle.erm_block.specs.Spelling.{spelling}
use Rattle.erm_outside.specs.Disk.{Step, Tells, contents}
use Rattle.erm_outside.specs.declared.disk.File.TheVariants.{Segment, Slot0, Slot1}
use Rattle.erm_ckpt.specs.declared.slot.Slot.{Slot}
use Rattle.erm_ckpt.specs.declared.slot.Slots.{Slots}
use Rattle.erm_ckpt.specs.Checkpoint.{Checkpoint}
use Rattle.erm_ckpt.specs.Recovered.{Pair, Recovers, State, base, best, slots_of, state_of}
use Rattle.erm_ckpt.specs.Slots.{best_of, removal_end}
use Rattle.erm_ckpt.proofs.Choices.{best_slot}
use Rattle.erm_ckpt.proofs.OneRecovery.{same_shown}
use Rattle.erm_node.specs.Sound.{sound_law}
use Rattle.erm_report.specs.declared.answer.Answer.{Answer}
use Rattle.erm_checkpoint.proofs.Segments.{words_spare}
use Rattle.erm_log_run.specs.Saving.{AreRemoved, AreSaved, IsBestAt, MayBeRemoved, SparesOlder, removed_to, saved_at}
use Rattle.erm_log_run.proofs.Held.{tells_from, tells_join, tells_weaker}
use Rattle.erm_log_run.proofs.Older.{higher}
use Rattle.erm_recover.specs.Opening.{open_block}
use Rattle.erm_world.specs.Log.{Log}
use Rattle.erm_disk_run.specs.Crashes.{KeepsOlder}
use Rattle.erm_disk_run.specs.Opened.{NamesFound, OpensLog}
use Rattle.erm_disk_run.specs.Saved.{IsSaved}

-- the best one of the checkpoints that slots name, of which the best one is of a place
best_named : (slots : Slots) (pair : Pair) (place : ℕ) → slots ≡ slots_of pair → IsBestAt slots place → (best pair ≢ None) × ((base pair).at ≡ place)
best_named slots pair place names is = by (best pair) refl
  where
    says : option_map (λ (checkpoint : Checkpoint). checkpoint.slot) (best pair) ≡ Some is.slot
    says = sym (best_slot pair) ∙ sym (ap best_of names) ∙ is.best

    same_slot : (a b : Slot) → Some a ≡ Some b → a ≡ b
    same_slot a b same = cc

    by : (o : Option Checkpoint) → best pair ≡ o → (best pair ≢ None) × ((base pair).at ≡ place)
    by None none = absurd (let no : None ≡ Some is.slot = sym (ap (λ (o : Option Checkpoint). option_map (λ (checkpoint : Checkpoint). checkpoint.slot) o) none) ∙ says in cc)
    by (Some c) some =
        let same : c.slot ≡ is.slot = same_slot c.slot is.slot (sym (ap (λ (o : Option Checkpoint). option_map (λ (checkpoint : Checkpoint). checkpoint.slot) o) some) ∙ says) in
        ((λ none. let no : None ≡ Some c = sym none ∙ some in cc), ap (λ (o : Option Checkpoint). (state_of o).at) some ∙ ap (λ (s : Slot). s.stamp) same ∙ is.at)

-- what an image recovers from is one
pub same_slots : (steps : List Step) (p q : Pair) (xs ys : List Block) → Recovers sound_law.meets (contents steps) p xs → Recovers sound_law.meets (contents steps) q ys → slots_of p ≡ slots_of q
same_slots steps p q xs ys one other =
    let first = same_shown sound_law.meets (contents steps Slot0) p.slot0 q.slot0 one.slot0 other.slot0 in
    let second = same_shown sound_law.meets (contents steps Slot1) p.slot1 q.slot1 one.slot1 other.slot1 in
    ap slots_of (same_pair p q first second)
  where
    same_pair : (p q : Pair) → p.slot0 ≡ q.slot0 → p.slot1 ≡ q.slot1 → p ≡ q
    same_pair p q first second = λ i. record { slot0 = first i; slot1 = second i }

-- the slots found, and those behind these answers
pub record SlotsLeft (answers : List Answer) (slots : Slots) (old steps : List Step) : Type 0 where
  pub first : Slots
  pub named : NamesFound first old
  pub saved : AreSaved (saved_at answers) (Some steps) first slots

pub left_saved : (answers : List Answer) (slots : Slots) (old steps : List Step) → SlotsLeft answers slots old steps → (pair : Pair) → slots ≡ slots_of pair → (place : ℕ) → saved_at answers ≡ Some place
    → (best pair ≢ None) × ((base pair).at ≡ place)
left_saved answers slots old steps left pair names place is =
    best_named slots pair place names (subst (λ (last : Option ℕ). AreSaved last (Some steps) left.first slots) is left.saved)

pub left_spared : (answers : List Answer) (slots : Slots) (old steps : List Step) → SlotsLeft answers slots old steps → (pair : Pair) → slots ≡ slots_of pair → saved_at answers ≡ None
    → (before : Pair) (blocks : List Block) → Recovers sound_law.meets (contents old) before blocks → slots_of pair ≡ slots_of before
left_spared answers slots old steps left pair names none before blocks recovers =
    let stay : slots ≡ left.first = subst (λ (last : Option ℕ). AreSaved last (Some steps) left.first slots) none left.saved in
    sym names ∙ stay ∙ left.named.names ∙ same_slots old left.named.pair before left.named.blocks blocks left.named.recovers recovers

-- so it is where the disk tells
pub saved_told : (P : List Step → List Step → Type 0) (answers : List Answer) (first slots : Slots) (before after : Option (List Step)) → AreSaved (saved_at answers) before first slots → Tells P before after
    → Tells (λ old new. AreSaved (saved_at answers) (Some new) first slots) before after
saved_told P answers first slots before after saved told = tells_from (λ steps. AreSaved (saved_at answers) (Some steps) first slots) P (λ old new. AreSaved (saved_at answers) (Some new) first slots) before after
    (by (saved_at answers) before saved) (λ old new held p. again (saved_at answers) old new held) told
  where
    by : (last : Option ℕ) (o : Option (List Step)) → AreSaved last o first slots → IfSome o (λ steps. AreSaved last (Some steps) first slots)
    by last None saved = tt
    by last (Some steps) saved = saved

    again : (last : Option ℕ) (old new : List Step) → AreSaved last (Some old) first slots → AreSaved last (Some new) first slots
    again None old new saved = saved
    again (Some place) old new saved = saved

-- ---- the log's older segments

-- the block that opens a log leaves them
pub opened_older : (state : State) (log : Log) (slots : Slots) (old new : List Step) → OpensLog state log slots old new → SparesOlder state.at old new
opened_older state log slots old new opens n low =
    ap (λ (steps : List Step). contents steps (Segment n)) opens.writes.1
    ∙ words_spare state.at (spelling (open_block state.at state.run)) n old opens.writes.0 low opens.writes.2

-- the slots found are those from which the disk recovers
pub found_by : (found : Slots) (old : List Step) → NamesFound found old → (before : Pair) (blocks : List Block) → Recovers sound_law.meets (contents old) before blocks → found ≡ slots_of before
found_by found old n before blocks recovers = n.names ∙ same_slots old n.pair before n.blocks blocks n.recovers recovers

-- what is gone behind a run, by the slots found
abbrev pub RemovedAs : List Answer → ℕ → ℕ → List Step → List Step → Type 0
RemovedAs answers place later old new = (before : Pair) (blocks : List Block) → Recovers sound_law.meets (contents old) before blocks → AreRemoved (removed_to (slots_of before) answers) place later old new

-- a log that was opened, by the slots found
pub record OpenedOlder (place : ℕ) (first : Slots) (old new : List Step) : Type 0 where
  pub named : NamesFound first old
  pub spares : SparesOlder place old new

pub opens_older : (state : State) (log : Log) (slots : Slots) (old new : List Step) → OpensLog state log slots old new → OpenedOlder state.at slots old new
opens_older state log slots old new opens = record { named = opens.found; spares = opened_older state log slots old new opens }

-- what is gone behind a run is what was removed since the log was opened
pub removed_told : (answers : List Answer) (first : Slots) (place from later : ℕ) (before mid after : Option (List Step)) → place ≤ from → Tells (OpenedOlder place first) before mid
    → Tells (AreRemoved (removed_to first answers) from later) mid after → Tells (RemovedAs answers place later) before after
removed_told answers first place from later before mid after low opened removed =
    tells_join (OpenedOlder place first) (AreRemoved (removed_to first answers) from later) (RemovedAs answers place later) before mid after
    (λ a b c o r pair blocks recovers.
    subst (λ (slots : Slots). AreRemoved (removed_to slots answers) place later a c) (found_by first a o.named pair blocks recovers)
    (record { gone = r.gone; stay = λ n high less. r.stay n high (higher place from n low less) ∙ o.spares n less; within = r.within })) opened removed

-- and so is what may be gone
pub older_told : (state : State) (end : Slots → ℕ) (first : Slots) (from : ℕ) (before mid after : Option (List Step)) → state.at ≤ from → Tells (OpenedOlder state.at first) before mid
    → Tells (MayBeRemoved (end first) from) mid after → Tells (KeepsOlder state end) before after
older_told state end first from before mid after low opened may =
    tells_join (OpenedOlder state.at first) (MayBeRemoved (end first) from) (KeepsOlder state end) before mid after
    (λ a b c o m pair blocks recovers.
    subst (λ (slots : Slots). MayBeRemoved (end slots) state.at a c) (found_by first a o.named pair blocks recovers)
    (λ n less. elim (m n (higher state.at from n low less)) [
      | inl same ↦ inl (same ∙ o.spares n less)
      | inr gone ↦ inr gone
    ])) opened may

-- what is gone may be gone
may_be : (e g place later : ℕ) (old new : List Step) → e ≤ g → AreRemoved e place later old new → MayBeRemoved g place old new
may_be e g place later old new most r n low = elim (cases_lt n e) [
  | inl under ↦ inr (omega (arith, under, most), r.gone n under)
  | inr above ↦ inl (r.stay n above low)
]

pub may_from : (e g place later : ℕ) (before after : Option (List Step)) → e ≤ g → Tells (AreRemoved e place later) before after → Tells (MayBeRemoved g place) before after
may_from e g place later before after most = tells_weaker (AreRemoved e place later) (MayBeRemoved g place) before after (λ old new r. may_be e g place later old new most r)

-- a checkpoint that was taken removed no more than one that was begun
pub older_saved : (state : State) (before after : Option (List Step)) → Tells (IsSaved state) before after → Tells (KeepsOlder state removal_end) before after
older_saved state before after =
    tells_weaker (IsSaved state) (KeepsOlder state removal_end) before after
    (λ old new s pair blocks recovers.
    may_be (removal_end (slots_of pair)) (removal_end (slots_of pair)) state.at (state.at + LEAST_BLOCK) old new (omega arith) (s.removed pair blocks recovers))
