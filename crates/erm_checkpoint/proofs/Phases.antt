-- What each image recovers to while a checkpoint is saved.
use Rattle.std.proofs.Common.{◌≡◌, ◌≢◌, ℕ, ◌*◌, ◌/◌, ◌%◌, ◌<◌, ◌≤◌, ◌⊎◌, ◌↔◌, ◌++◌, Bool, true, false, nat_lt, if◌then◌else◌, List, [], Option, Some, None, refl, sym, ap, ◌∙◌, subst, arith, inl, inr}
use Rattle.std.proofs.lemmas.Bool.Decides.{nat_tests}
use Rattle.erm_model.specs.declared.limits.TheConstants.{SEGMENT_WORDS}
use Rattle.erm_model.specs.Rows.{Rows}
use Rattle.erm_model.specs.RowTransaction.{SameRows}
use Rattle.erm_block.specs.declared.block.Block.{Block}
use Rattle.erm_log_words.specs.Words.{word_at, word_in}
use Rattle.erm_outside.specs.declared.disk.File.{File}
use Rattle.erm_outside.specs.declared.disk.File.TheVariants.{Slot0, Slot1, Segment}
use Rattle.erm_outside.specs.Disk.{contents, Image, same_file, Step}
use Rattle.erm_outside.proofs.Images.{same_file-refl}
use Rattle.erm_ckpt.specs.Checkpoint.{Checkpoint, Checks}
use Rattle.erm_ckpt.specs.Recovered.{HasBase, Pair, Shows, State, base, best, better, pair_with, put, state_behind, state_of}
use Rattle.erm_ckpt.specs.States.{SameChecks}
use Rattle.erm_ckpt.proofs.Images.{AnyBlocks, RecoversMeeting, by_slot_meeting, stays_meeting}
use Rattle.erm_ckpt.proofs.OneRecovery.{torn_shows}
use Rattle.erm_bytes.specs.Bytes.{bytes_of}
use Rattle.erm_log_words.specs.Tears.{ShowsSlot}
use Rattle.erm_ckpt.specs.Checkpoint.{IsCheckedSlot, slot_words}
use Rattle.erm_checkpoint.specs.Phases.{MaySave, RecoversTorn, other_file}

true_isnt_false : true ≡ false → ⊥
true_isnt_false e = absurd (cc)

-- ---- which slot is best

not_below : (m n : ℕ) → n ≤ m → nat_lt m n ≡ false
not_below m n le = grind (arith, nat_tests)

is_below : (m n : ℕ) → nat_lt m n ≡ true → m < n
is_below m n e = grind (arith, nat_tests)

isnt_below : (m n : ℕ) → nat_lt m n ≡ false → n ≤ m
isnt_below m n e = grind (arith, nat_tests)

abbrev two : Option Checkpoint → Option Checkpoint → Pair
two a b = record { slot0 = a; slot1 = b }

-- with no slot in the other file the best one is the same
none_is_best : (a b : Option Checkpoint) → best (pair_with (two a b) (other_file (two a b)) None) ≡ better a b
none_is_best None None = refl
none_is_best None (Some b) = refl
none_is_best (Some a) None = refl
none_is_best (Some a) (Some b) = cases (nat_lt a.slot.stamp b.slot.stamp)
  where
    cases : (t : Bool) → best (pair_with (two (Some a) (Some b)) (if t then Slot0 else Slot1) None) ≡ (if t then Some b else Some a)
    cases true = refl
    cases false = refl

-- of a new checkpoint and the best before, the new one is best, or the stamps are equal and the best is as before
abbrev BestBehind : Pair → Option Checkpoint → Checkpoint → Type 0
BestBehind now before c = (best now ≡ Some c) ⊎ ((best now ≡ before) × ((state_of before).at ≡ c.slot.stamp))

best_behind : (a b : Option Checkpoint) (c : Checkpoint) → (state_of (better a b)).at ≤ c.slot.stamp → BestBehind (put (two a b) c) (better a b) c
best_behind None None c newer = inl refl
best_behind None (Some b) c newer = inl (rw (not_below c.slot.stamp b.slot.stamp newer) refl)
best_behind (Some a) None c newer = behind_first (nat_lt a.slot.stamp c.slot.stamp) refl
  where
    behind_first : (t : Bool) → nat_lt a.slot.stamp c.slot.stamp ≡ t → ((if t then Some c else Some a) ≡ Some c) ⊎ (((if t then Some c else Some a) ≡ Some a) × (a.slot.stamp ≡ c.slot.stamp))
    behind_first true e = inl refl
    behind_first false e = inr (refl, (let least = isnt_below a.slot.stamp c.slot.stamp e in omega arith))
best_behind (Some a) (Some b) c newer = cases (nat_lt a.slot.stamp b.slot.stamp) newer
  where
    second : (t : Bool) → nat_lt a.slot.stamp c.slot.stamp ≡ t → a.slot.stamp ≤ c.slot.stamp → ((if t then Some c else Some a) ≡ Some c) ⊎ (((if t then Some c else Some a) ≡ Some a) × (a.slot.stamp ≡ c.slot.stamp))
    second true e least = inl refl
    second false e least = inr (refl, (let most = isnt_below a.slot.stamp c.slot.stamp e in omega arith))

    cases : (t : Bool) → (state_of (if t then Some b else Some a)).at ≤ c.slot.stamp
        → BestBehind (pair_with (two (Some a) (Some b)) (if t then Slot0 else Slot1) (Some c)) (if t then Some b else Some a) c
    cases true least = inl (rw (not_below c.slot.stamp b.slot.stamp least) refl)
    cases false least = second (nat_lt a.slot.stamp c.slot.stamp) refl least

-- the other file is a slot's
pub other_is_slot : (a b : Option Checkpoint) (n : ℕ) → same_file (other_file (two a b)) (Segment n) ≡ false
other_is_slot None b n = refl
other_is_slot (Some a) None n = refl
other_is_slot (Some a) (Some b) n = cases (nat_lt a.slot.stamp b.slot.stamp)
  where
    cases : (t : Bool) → same_file (if t then Slot0 else Slot1) (Segment n) ≡ false
    cases true = refl
    cases false = refl

-- ---- words of the log

pub same_word : (old new : Image) (p : ℕ) → new (Segment (p / SEGMENT_WORDS)) ≡ old (Segment (p / SEGMENT_WORDS)) → word_at new p ≡ word_at old p
unfolding word_at
same_word old new p same = ap (λ (file : List ℕ). word_in file (8 * (p % SEGMENT_WORDS))) same

-- ---- what the slots show

module _ (sound : Rows → Type 0) where
  -- both slots show what a pair says
  record ShowsPair (image : Image) (pair : Pair) : Type 0 where
    pub slot0 : Shows sound (image Slot0) pair.slot0
    pub slot1 : Shows sound (image Slot1) pair.slot1

  shows_put : (file : File) (old new : Image) (pair : Pair) (shown : Option Checkpoint) → ((n : ℕ) → same_file file (Segment n) ≡ false) → ShowsPair old pair
      → ((f : File) → same_file file f ≡ false → new f ≡ old f) → Shows sound (new file) shown → ShowsPair new (pair_with pair file shown)
  shows_put Slot0 old new pair shown slot shows same here = record { slot0 = here; slot1 = subst (λ (bytes : List ℕ). Shows sound bytes pair.slot1) (sym (same Slot1 refl)) shows.slot1 }
  shows_put Slot1 old new pair shown slot shows same here = record { slot0 = subst (λ (bytes : List ℕ). Shows sound bytes pair.slot0) (sym (same Slot0 refl)) shows.slot0; slot1 = here }
  shows_put (Segment n) old new pair shown slot shows same here = absurd (true_isnt_false (sym (same_file-refl (Segment n)) ∙ slot n))

  same_shows : (old new : List ℕ) (shown : Option Checkpoint) → SameChecks sound old new → Shows sound old shown → Shows sound new shown
  same_shows old new None same shows = λ c checks. shows c ((same c).1 checks)
  same_shows old new (Some c) same shows = (same c).0 shows

  shows_as_before : (file : File) (old new : Image) (pair : Pair) → ShowsPair old pair → ((f : File) → same_file file f ≡ false → new f ≡ old f)
      → SameChecks sound (old file) (new file) → ShowsPair new pair
  shows_as_before Slot0 old new pair shows same checks = record {
    slot0 = same_shows (old Slot0) (new Slot0) pair.slot0 checks shows.slot0;
    slot1 = subst (λ (bytes : List ℕ). Shows sound bytes pair.slot1) (sym (same Slot1 refl)) shows.slot1;
  }
  shows_as_before Slot1 old new pair shows same checks = record {
    slot0 = subst (λ (bytes : List ℕ). Shows sound bytes pair.slot0) (sym (same Slot0 refl)) shows.slot0;
    slot1 = same_shows (old Slot1) (new Slot1) pair.slot1 checks shows.slot1;
  }
  shows_as_before (Segment n) old new pair shows same checks = record {
    slot0 = subst (λ (bytes : List ℕ). Shows sound bytes pair.slot0) (sym (same Slot0 refl)) shows.slot0;
    slot1 = subst (λ (bytes : List ℕ). Shows sound bytes pair.slot1) (sym (same Slot1 refl)) shows.slot1;
  }

-- where an image shows the slot that is written, or such slots as stood there, or none that checks, it recovers to a state, and meets such blocks
abbrev pub MeetsTorn : (Rows → Type 0) → (State → List Block → Type 0) → State → Pair → Checkpoint → Image → Image → Type 0
MeetsTorn sound Q state pair checkpoint before image =
    ShowsSlot (IsCheckedSlot sound) (before (other_file pair)) (bytes_of (slot_words checkpoint)) (image (other_file pair)) → (now : Pair) × RecoversMeeting sound Q state now image

module _ (sound : Rows → Type 0) (respects : (a b : Rows) → SameRows a b → sound a ↔ sound b) where
  -- an image whose other slot alone may differ
  abbrev Others : Pair → Image → Image → Type 0
  Others pair old new = (f : File) → same_file (other_file pair) f ≡ false → new f ≡ old f

  -- the words of the log are the same
  all_words : (pair : Pair) (old new : Image) → Others pair old new → (p : ℕ) → word_at new p ≡ word_at old p
  all_words pair old new same p = same_word old new p (same (Segment (p / SEGMENT_WORDS)) (other_is_slot pair.slot0 pair.slot1 (p / SEGMENT_WORDS)))

  -- with no slot the first segment is there
  has_base : (pair : Pair) (old new : Image) → Others pair old new → old (Segment 0) ≢ [] → HasBase new
  has_base pair old new same some = inr (λ none. some (sym (same (Segment 0) (other_is_slot pair.slot0 pair.slot1 0)) ∙ none))

  -- one whose best slot is the same
  as_before : (Q : State → List Block → Type 0) (from : State) (front rest : List Block) (pair now : Pair) (c : Checkpoint) (steps : List Step) (new : Image) (may : MaySave sound from front rest pair c steps)
      → Others pair (contents steps) new → ShowsPair sound new now → best now ≡ best pair → Q (base pair) may.there.blocks → RecoversMeeting sound Q (state_behind from (front ++ rest)) now new
  as_before Q from front rest pair now c steps new may same shows is_best meets =
      stays_meeting sound Q (contents steps) new (state_behind from (front ++ rest)) pair now may.there shows.slot0 shows.slot1 is_best
      (λ none. has_base pair (contents steps) new same (may.begins (sym is_best ∙ none)))
      (λ p low. all_words pair (contents steps) new same p) meets

  -- one that shows the checkpoint: the blocks that it meets are those from before, or those behind the checkpoint
  pub with_it : (Q : State → List Block → Type 0) (from : State) (front rest : List Block) (pair : Pair) (c : Checkpoint) (steps : List Step) (new : Image) (may : MaySave sound from front rest pair c steps)
      → Others pair (contents steps) new → Checks sound (new (other_file pair)) c → Q (base pair) may.there.blocks → Q (state_of (Some c)) rest
      → RecoversMeeting sound Q (state_behind from (front ++ rest)) (put pair c) new
  with_it Q from front rest pair c steps new may same checks meets behind =
      let shows = shows_put sound (other_file pair) (contents steps) new pair (Some c) (other_is_slot pair.slot0 pair.slot1) (record { slot0 = may.there.recovers.slot0; slot1 = may.there.recovers.slot1 }) same checks in
      elim (best_behind pair.slot0 pair.slot1 c may.newer) [
        | inl is_new ↦ by_slot_meeting sound respects Q (contents steps) new from front rest (put pair c) c may.list may.there.opens shows.slot0 shows.slot1 is_new may.state
            (λ p low. all_words pair (contents steps) new same p) behind
        | inr as_was ↦ as_before Q from front rest pair (put pair c) c steps new may same shows as_was.0 meets
      ]

  -- one where the slot is torn
  pub torn_meets : (Q : State → List Block → Type 0) (from : State) (front rest : List Block) (pair : Pair) (c : Checkpoint) (steps : List Step) (new : Image) (may : MaySave sound from front rest pair c steps)
      → Others pair (contents steps) new → Q (base pair) may.there.blocks → Q (state_of (Some c)) rest → MeetsTorn sound Q (state_behind from (front ++ rest)) pair c (contents steps) new
  torn_meets Q from front rest pair c steps new may same meets behind shows =
      let was : ShowsPair sound (contents steps) pair = record { slot0 = may.there.recovers.slot0; slot1 = may.there.recovers.slot1 } in
      elim (torn_shows sound (contents steps (other_file pair)) (new (other_file pair)) c may.is may.are_sound shows) [
        | inl checks ↦ (put pair c, with_it Q from front rest pair c steps new may same checks meets behind)
        | inr (inl checks) ↦ (pair, as_before Q from front rest pair pair c steps new may same (shows_as_before sound (other_file pair) (contents steps) new pair was same checks) refl meets)
        | inr (inr none) ↦ (
          pair_with pair (other_file pair) None,
          as_before Q from front rest pair (pair_with pair (other_file pair) None) c steps new may same
              (shows_put sound (other_file pair) (contents steps) new pair None (other_is_slot pair.slot0 pair.slot1) was same none) (none_is_best pair.slot0 pair.slot1) meets,
        )
      ]

  pub torn_recovers : (from : State) (front rest : List Block) (pair : Pair) (c : Checkpoint) (steps : List Step) (new : Image) → MaySave sound from front rest pair c steps
      → Others pair (contents steps) new → RecoversTorn sound (state_behind from (front ++ rest)) pair c (contents steps) new
  torn_recovers from front rest pair c steps new may same shows =
      let r = torn_meets AnyBlocks from front rest pair c steps new may same tt tt shows in
      (r.0, r.1.0)

-- where recovery begins behind a checkpoint
pub base_behind : (pair : Pair) (c : Checkpoint) → (base pair).at ≤ c.slot.stamp → (base (put pair c)).at ≡ c.slot.stamp
base_behind pair c newer =
    elim (best_behind pair.slot0 pair.slot1 c newer) [
      | inl is_new ↦ ap (λ (x : Option Checkpoint). (state_of x).at) is_new
      | inr as_was ↦ ap (λ (x : Option Checkpoint). (state_of x).at) as_was.0 ∙ as_was.1
    ]

-- a slot checks then
pub some_best : (pair : Pair) (c : Checkpoint) → (base pair).at ≤ c.slot.stamp → best (put pair c) ≢ None
some_best pair c newer = λ none.
    let at : (state_of None).at ≡ c.slot.stamp = ap (λ (x : Option Checkpoint). (state_of x).at) (sym none) ∙ base_behind pair c newer in
    put_some pair.slot0 pair.slot1 c none
  where
    better_some0 : (b : Option Checkpoint) (c : Checkpoint) → better (Some c) b ≢ None
    better_some0 None c = λ e. absurd (cc)
    better_some0 (Some b) c = cond_some (nat_lt c.slot.stamp b.slot.stamp)
      where
        cond_some : (t : Bool) → (if t then Some b else Some c) ≢ None
        cond_some true = λ e. absurd (cc)
        cond_some false = λ e. absurd (cc)

    better_some1 : (a : Option Checkpoint) (c : Checkpoint) → better a (Some c) ≢ None
    better_some1 None c = λ e. absurd (cc)
    better_some1 (Some a) c = cond_some (nat_lt a.slot.stamp c.slot.stamp)
      where
        cond_some : (t : Bool) → (if t then Some c else Some a) ≢ None
        cond_some true = λ e. absurd (cc)
        cond_some false = λ e. absurd (cc)

    put_some : (a b : Option Checkpoint) (c : Checkpoint) → best (put (two a b) c) ≢ None
    put_some None b c = better_some0 b c
    put_some (Some a) None c = better_some1 (Some a) c
    put_some (Some a) (Some b) c = cases (nat_lt a.slot.stamp b.slot.stamp)
      where
        cases : (t : Bool) → best (pair_with (two (Some a) (Some b)) (if t then Slot0 else Slot1) (Some c)) ≢ None
        cases true = better_some0 (Some b) c
        cases false = better_some1 (Some a) c
