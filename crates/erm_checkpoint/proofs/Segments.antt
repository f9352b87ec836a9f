-- Which segments of the log a disk keeps where words are written, and where a checkpoint removes others.
use Rattle.std.proofs.Common.{◌≡◌, ◌≢◌, ℕ, ◌+◌, ◌/◌, ◌<◌, ◌≤◌, ◌⊎◌, ◌++◌, true, false, Bool, nat_lt, List, [], ◌∷◌, Option, Some, None, refl, sym, ap, ◌∙◌, subst, arith, inl, inr, append_assoc}
use Rattle.std.specs.Prelude.{if◌then◌else◌}
use Rattle.std.specs.List.{All}
use Rattle.std.proofs.lemmas.Bool.{cases_lt}
use Rattle.std.proofs.lemmas.Bool.Decides.{nat_tests}
use Rattle.std.proofs.lemmas.List.Elements.{All-head, All-tail}
use Rattle.erm_model.specs.Rows.{Rows}
use Rattle.erm_model.specs.declared.limits.TheConstants.{SEGMENT_WORDS}
use Rattle.erm_bytes.specs.Bytes.{bytes_of}
use Rattle.erm_block.specs.LogList.{end_of}
use Rattle.erm_flush.specs.Turns.{start_of}
use Rattle.erm_flush.specs.Turns.{WritesFrom}
use Rattle.erm_log_disk.specs.Writes.{AllWriteWords, IsPiece, WritesWords}
use Rattle.erm_outside.specs.declared.disk.File.{File}
use Rattle.erm_outside.specs.declared.disk.File.TheVariants.{Segment, Slot0, Slot1}
use Rattle.erm_outside.specs.Disk.{Change, Step, bytes_after, changes_of, contents, same_file}
use Rattle.erm_outside.specs.Disk.Change.{Removed, Synced, Tried, Wrote}
use Rattle.erm_outside.proofs.Images.{same_file-refl}
use Rattle.erm_ckpt.specs.declared.slot.Slot.{Slot}
use Rattle.erm_ckpt.specs.declared.slot.Slots.{Slots}
use Rattle.erm_ckpt.specs.Checkpoint.{slot_words}
use Rattle.erm_ckpt.specs.Recovered.{slots_of}
use Rattle.erm_ckpt.specs.Slots.{other_of, removal_end, worse_file}
use Rattle.erm_checkpoint.specs.Steps.{RemovesAll, RemovesPart, WritesPart, did, removals, slot_written}
use Rattle.erm_checkpoint.specs.Taken.{SavesLog, Takes, TakesAll}
use Rattle.erm_world.specs.Log.{Log, words_of}

other_segment : (a b : ℕ) → a ≢ b → same_file (Segment a) (Segment b) ≡ false
other_segment a b ne = grind (arith, nat_tests)

-- ---- words of the log

-- what is waited for changes nothing
waited : (file : File) (n : ℕ) (before : List Step) → contents (did file Synced before) (Segment n) ≡ contents before (Segment n)
waited file n before = by (same_file file (Segment n))
  where
    by : (same : Bool) → bytes_after (if same then (Synced ∷ changes_of (Segment n) before) else changes_of (Segment n) before) ≡ bytes_after (changes_of (Segment n) before)
    by true = refl
    by false = refl

-- a segment below that of a place lies below those of the places behind
pub below_segments : (at from n : ℕ) → n < at / SEGMENT_WORDS → n < (at + from) / SEGMENT_WORDS
below_segments at from n low = omega (arith, low)

elsewhere : (at : ℕ) (words : List ℕ) (n : ℕ) (file : File) (byte : ℕ) (bytes : List ℕ) (change : Change) (before : List Step) → n < at / SEGMENT_WORDS → IsPiece at words file byte bytes
    → contents (did file change before) (Segment n) ≡ contents before (Segment n)
elsewhere at words n file byte bytes change before low p =
    let segment : ℕ = (at + p.from) / SEGMENT_WORDS in
    let is : file ≡ Segment segment = ap (λ (x : File × ℕ). x.0) p.place in
    let above = below_segments at p.from n low in
    let ne : segment ≢ n = λ same. absurd (omega (arith, above, same)) in
    rw (is, other_segment segment n ne) refl

step_spares : (at : ℕ) (words : List ℕ) (n : ℕ) (file : File) (change : Change) (before : List Step) → n < at / SEGMENT_WORDS → WritesWords at words file change
    → contents (did file change before) (Segment n) ≡ contents before (Segment n)
step_spares at words n file (Wrote byte bytes) before low piece = elsewhere at words n file byte bytes (Wrote byte bytes) before low piece
step_spares at words n file (Tried byte bytes left) before low piece = elsewhere at words n file byte bytes (Tried byte bytes left) before low piece.0
step_spares at words n file Synced before low writes = waited file n before
step_spares at words n file Removed before low writes = absurd writes

-- where words are written from a place on the segments below it stay
pub words_spare : (at : ℕ) (words : List ℕ) (n : ℕ) (old more : List Step) → n < at / SEGMENT_WORDS → AllWriteWords at words more → contents (more ++ old) (Segment n) ≡ contents old (Segment n)
words_spare at words n old [] low writes = refl
words_spare at words n old (step ∷ more) low (here, others) = step_spares at words n step.file step.change (more ++ old) low here ∙ words_spare at words n old more low others

-- ---- checkpoints

-- a slot is no segment
slot_changes : (slots : Slots) (change : Change) (n : ℕ) (steps : List Step) → contents (did (other_of slots) change steps) (Segment n) ≡ contents steps (Segment n)
slot_changes slots change n steps = by slots.slot0 slots.slot1
  where
    either : (less : Bool) → contents (did (if less then Slot0 else Slot1) change steps) (Segment n) ≡ contents steps (Segment n)
    either true = refl
    either false = refl

    by : (a b : Option Slot) → contents (did (worse_file a b) change steps) (Segment n) ≡ contents steps (Segment n)
    by None b = refl
    by (Some a) None = refl
    by (Some a) (Some b) = either (nat_lt a.stamp b.stamp)

slot_spares : (slots : Slots) (bytes : List ℕ) (n : ℕ) (steps : List Step) → contents (slot_written (other_of slots) bytes steps) (Segment n) ≡ contents steps (Segment n)
slot_spares slots bytes n steps = slot_changes slots Synced n (did (other_of slots) (Wrote 0 bytes) steps) ∙ slot_changes slots (Wrote 0 bytes) n steps

part_spares : (slots : Slots) (bytes : List ℕ) (n : ℕ) (old new : List Step) → WritesPart (other_of slots) bytes old new → contents new (Segment n) ≡ contents old (Segment n)
part_spares slots bytes n old new (inl none) = ap (λ (steps : List Step). contents steps (Segment n)) none
part_spares slots bytes n old new (inr (inl (left, short, tried))) = ap (λ (steps : List Step). contents steps (Segment n)) tried ∙ slot_changes slots (Tried 0 bytes left) n old
part_spares slots bytes n old new (inr (inr wrote)) = ap (λ (steps : List Step). contents steps (Segment n)) wrote ∙ slot_changes slots (Wrote 0 bytes) n old

abbrev IsWithin : ℕ → ℕ → ℕ → Type 0
IsWithin first end segment = (first ≤ segment) × (segment < end)

-- a segment lies below a range, or behind it
abbrev IsOutside : ℕ → ℕ → ℕ → Type 0
IsOutside first end segment = (segment < first) ⊎ (end ≤ segment)

removed_one : (s n : ℕ) (steps : List Step) → s ≢ n → contents (did (Segment s) Synced (did (Segment s) Removed steps)) (Segment n) ≡ contents steps (Segment n)
removed_one s n steps ne = rw (other_segment s n ne) refl

apart : (first end n s : ℕ) → IsOutside first end n → IsWithin first end s → s ≢ n
apart first end n s (inl low) within = λ same. let above = within.0 in absurd (omega (arith, low, above, same))
apart first end n s (inr high) within = λ same. let below = within.1 in absurd (omega (arith, high, below, same))

removals_spare : (first end n : ℕ) (segments : List ℕ) (old : List Step) → IsOutside first end n → All (IsWithin first end) segments → contents (removals segments old) (Segment n) ≡ contents old (Segment n)
removals_spare first end n [] old out within = refl
removals_spare first end n (s ∷ ss) old out within =
    removed_one s n (removals ss old) (apart first end n s out (All-head (IsWithin first end) s ss within))
    ∙ removals_spare first end n ss old out (All-tail (IsWithin first end) s ss within)

-- what is saved leaves the segments behind those that are removed
pub saving_spares : (sound : Rows → Type 0) (place : ℕ) (log : Log) (slots : Slots) (slot : Slot) (old new : List Step) → (t : TakesAll sound place log slots slot old new) → (n : ℕ)
    → removal_end slots ≤ n → contents new (Segment n) ≡ contents t.mid (Segment n)
saving_spares sound place log slots slot old new t n out =
    let slot_bytes : List ℕ = bytes_of (slot_words t.checkpoint) in
    let written : List Step = slot_written (other_of (slots_of t.holds.pair)) slot_bytes t.mid in
    ap (λ (steps : List Step). contents steps (Segment n)) t.saves.steps
    ∙ removals_spare 0 (removal_end slots) n t.saves.segments written (inr out) t.saves.are.within
    ∙ slot_spares (slots_of t.holds.pair) slot_bytes n t.mid

removals_more : (segments : List ℕ) (steps : List Step) → (more : List Step) × (removals segments steps ≡ more ++ steps)
removals_more [] steps = ([], refl)
removals_more (s ∷ ss) steps =
    let rest = removals_more ss steps in
    (did (Segment s) Synced (did (Segment s) Removed rest.0), ap (λ (xs : List Step). did (Segment s) Synced (did (Segment s) Removed xs)) rest.1)

-- and it goes on from where the log was flushed to its end
pub saving_more : (sound : Rows → Type 0) (place : ℕ) (log : Log) (slots : Slots) (slot : Slot) (old new : List Step) → (t : TakesAll sound place log slots slot old new) → (more : List Step) × (new ≡ more ++ t.mid)
saving_more sound place log slots slot old new t =
    let file : File = other_of (slots_of t.holds.pair) in
    let slot_bytes : List ℕ = bytes_of (slot_words t.checkpoint) in
    let removed = removals_more t.saves.segments (slot_written file slot_bytes t.mid) in
    (removed.0 ++ slot_written file slot_bytes [], t.saves.steps ∙ removed.1 ∙ sym (append_assoc removed.0 (slot_written file slot_bytes []) t.mid))

-- a checkpoint leaves the segments behind those that it removes, below where the log was flushed to
pub checkpoint_spares : (sound : Rows → Type 0) (place : ℕ) (log : Log) (slots : Slots) (slot : Slot) (old new : List Step) → TakesAll sound place log slots slot old new → (n : ℕ)
    → removal_end slots ≤ n → n < place / SEGMENT_WORDS → contents new (Segment n) ≡ contents old (Segment n)
checkpoint_spares sound place log slots slot old new t n out low =
    let f = t.flushes in
    saving_spares sound place log slots slot old new t n out
    ∙ ap (λ (steps : List Step). contents steps (Segment n)) f.writes.steps
    ∙ words_spare (end_of (start_of log) f.front).at (words_of f.blocks) n old f.writes.more (subst (λ (at : ℕ). n < at / SEGMENT_WORDS) (sym f.place_is) low) f.writes.writes

-- ---- checkpoints that were begun

-- what a flusher writes leaves the segments below that of the place where it began
pub flush_spares : (sound : Rows → Type 0) (place : ℕ) (log : Log) (old new : List Step) → WritesFrom sound place log old new → (n : ℕ) → n < place / SEGMENT_WORDS → contents new (Segment n) ≡ contents old (Segment n)
flush_spares sound place log old new w n low =
    ap (λ (steps : List Step). contents steps (Segment n)) w.writes.steps
    ∙ words_spare (end_of (start_of log) w.front).at (words_of w.blocks) n old w.writes.more (subst (λ (at : ℕ). n < at / SEGMENT_WORDS) (sym w.place_is) low) w.writes.writes

-- a segment is as it was, or it lies below an end and is gone
abbrev IsLeft : ℕ → List Step → List Step → ℕ → Type 0
IsLeft end old new n = (contents new (Segment n) ≡ contents old (Segment n)) ⊎ ((n < end) × (contents new (Segment n) ≡ []))

-- behind steps that leave it
left_behind : (end : ℕ) (old mid new : List Step) (n : ℕ) → contents mid (Segment n) ≡ contents old (Segment n) → IsLeft end mid new n → IsLeft end old new n
left_behind end old mid new n same (inl stays) = inl (stays ∙ same)
left_behind end old mid new n same (inr gone) = inr gone

all_left : (end : ℕ) (old new : List Step) → RemovesAll 0 end old new → (n : ℕ) → IsLeft end old new n
all_left end old new all n =
    elim (cases_lt n end) [
      | inl low ↦ inr (low, all.gone n (omega arith) low)
      | inr high ↦ inl (ap (λ (steps : List Step). contents steps (Segment n)) all.steps ∙ removals_spare 0 end n all.segments old (inr high) all.are.within)
    ]

wider : (end more : ℕ) (old new : List Step) (n : ℕ) → end ≤ more → IsLeft end old new n → IsLeft more old new n
wider end more old new n le (inl stays) = inl stays
wider end more old new n le (inr (low, gone)) = inr (omega (arith, low, le), gone)

begun_left : (end s : ℕ) (mid new : List Step) → s < end → new ≡ did (Segment s) Removed mid → (n : ℕ) → IsLeft end mid new n
begun_left end s mid new low begun n = elim (cases_lt n s) [
  | inl below ↦ inl (other (λ same. absurd (omega (arith, below, same))))
  | inr above ↦ elim (cases_lt s n) [
    | inl behind ↦ inl (other (λ same. absurd (omega (arith, behind, same))))
    | inr least ↦
        let same : s ≡ n = omega (arith, above, least) in
        inr (subst (λ (m : ℕ). m < end) same low, subst (λ (m : ℕ). contents new (Segment m) ≡ []) same here)
  ]
]
  where
    other : s ≢ n → contents new (Segment n) ≡ contents mid (Segment n)
    other ne = ap (λ (steps : List Step). contents steps (Segment n)) begun ∙ (rw (other_segment s n ne) refl)

    here : contents new (Segment s) ≡ []
    here = ap (λ (steps : List Step). contents steps (Segment s)) begun ∙ (rw (same_file-refl (Segment s)) refl)

removals_left : (end : ℕ) (old new : List Step) → RemovesPart 0 end old new → (n : ℕ) → IsLeft end old new n
removals_left end old new p n =
    let most = p.most in
    let before : IsLeft end old p.mid n = wider p.from end old p.mid n (omega (arith, most)) (all_left p.from old p.mid p.all n) in
    elim p.part [
      | inl none ↦ subst (λ (steps : List Step). IsLeft end old steps n) (sym none) before
      | inr (s, next, begun) ↦ one_more before (begun_left end s p.mid new next.1 begun n)
    ]
  where
    one_more : IsLeft end old p.mid n → IsLeft end p.mid new n → IsLeft end old new n
    one_more (inl same) left = left_behind end old p.mid new n same left
    one_more (inr (low, gone)) (inl same) = inr (low, same ∙ gone)
    one_more (inr (low, gone)) (inr last) = inr last

save_left : (sound : Rows → Type 0) (log : Log) (slots : Slots) (slot : Slot) (old new : List Step) → SavesLog sound log slots slot old new → (n : ℕ) → IsLeft (removal_end slots) old new n
save_left sound log slots slot old new s n = elim s.saves [
  | inl part ↦ elim part [
    | inl writes ↦ inl (part_spares (slots_of s.holds.pair) spelled n old new writes)
    | inr removes ↦ left_behind (removal_end slots) old written new n here (removals_left (removal_end slots) written new removes n)
  ]
  | inr all ↦ left_behind (removal_end slots) old written new n here (all_left (removal_end slots) written new all n)
]
  where
    spelled : List ℕ
    spelled = bytes_of (slot_words s.checkpoint)

    written : List Step
    written = slot_written (other_of (slots_of s.holds.pair)) spelled old

    here : contents written (Segment n) ≡ contents old (Segment n)
    here = slot_spares (slots_of s.holds.pair) spelled n old

-- a checkpoint that was begun leaves each segment below that of the place where its flush began, but for such as it removes
pub checkpoint_left : (sound : Rows → Type 0) (place : ℕ) (log : Log) (slots : Slots) (slot : Slot) (old new : List Step) → Takes sound place log slots slot old new → (n : ℕ) → n < place / SEGMENT_WORDS
    → (contents new (Segment n) ≡ contents old (Segment n)) ⊎ ((n < removal_end slots) × (contents new (Segment n) ≡ []))
checkpoint_left sound place log slots slot old new t n low =
    let here = flush_spares sound place log old t.mid t.flushes n low in
    elim t.saves [
      | inl none ↦ inl (ap (λ (steps : List Step). contents steps (Segment n)) none ∙ here)
      | inr saves ↦ left_behind (removal_end slots) old t.mid new n here (save_left sound log slots slot t.mid new saves n)
    ]
