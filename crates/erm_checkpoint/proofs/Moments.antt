-- Each moment while a slot is written, and while segments are removed.
use Rattle.std.proofs.Common.{◌≡◌, ◌≢◌, ℕ, ◌+◌, ◌/◌, ◌<◌, ◌≤◌, ◌⊎◌, ◌↔◌, ◌++◌, Bool, true, false, if◌then◌else◌, List, [], ◌∷◌, length, drop, max, None, Some, refl, sym, ap, ◌∙◌, subst, arith, inl, inr}
use Rattle.std.proofs.lemmas.Bool.Decides.{nat_tests}
use Rattle.std.specs.List.{All}
use Rattle.std.proofs.lemmas.List.Elements.{All-head, All-tail, All-weaker}
use Rattle.erm_model.specs.declared.limits.TheConstants.{SEGMENT_WORDS}
use Rattle.erm_model.specs.Rows.{Rows}
use Rattle.erm_model.specs.RowTransaction.{SameRows}
use Rattle.erm_block.specs.declared.block.Block.{Block}
use Rattle.erm_bytes.specs.Bytes.{bytes_of}
use Rattle.erm_log_words.specs.Tears.{BeginsWith}
use Rattle.erm_log_words.specs.Words.{word_at}
use Rattle.erm_outside.specs.declared.disk.File.{File}
use Rattle.erm_outside.specs.declared.disk.File.TheVariants.{Slot0, Slot1, Segment}
use Rattle.erm_outside.specs.Disk.{AtEachMoment, Change, changes_of, contents, EachImage, Image, IsFileSettled, IsImage, IsSettled, patched, same_file, Step}
use Rattle.erm_outside.specs.Disk.Change.{Wrote, Tried, Synced, Removed}
use Rattle.erm_outside.proofs.Images.{changes-append, images_of_older, same_file-refl}
use Rattle.erm_ckpt.specs.Checkpoint.{Checkpoint, Checks, slot_words}
use Rattle.erm_ckpt.specs.Recovered.{Pair, Shows, State, base, best, put, state_behind, state_of}
use Rattle.erm_ckpt.specs.States.{RecoversTo}
use Rattle.erm_ckpt.proofs.Images.{AnyBlocks, RecoversMeeting, stays_meeting}
use Rattle.erm_checkpoint.specs.Phases.{IsSaved, MaySave, RecoversTorn, other_file}
use Rattle.erm_checkpoint.specs.Steps.{AreThere, IsNextBelow, RemovesAll, RemovesPart, WritesPart, WritesSlot, did, removals, slot_written}
use Rattle.erm_checkpoint.proofs.Phases.{MeetsTorn, base_behind, other_is_slot, same_word, some_best, torn_meets, torn_recovers, with_it}

-- ---- which files steps change

-- each step is of a file that meets a test
abbrev Each : (File → Type 0) → List Step → Type 0
Each P [] = Unit {0}
Each P (step ∷ steps) = P step.file × Each P steps

-- a file that none of them is
none_of : (P : File → Type 0) (f : File) (more : List Step) → ((g : File) → P g → same_file g f ≡ false) → Each P more → changes_of f more ≡ []
none_of P f [] other each = refl
none_of P f (step ∷ more) other (here, each) = rw (other step.file here) (none_of P f more other each)

-- it has what it had, in each image and as it reads
pub image_same : (P : File → Type 0) (f : File) (old more : List Step) (image : Image) → IsSettled old → Each P more → ((g : File) → P g → same_file g f ≡ false) → IsImage (more ++ old) image
    → image f ≡ contents old f
image_same P f old more image settled each other is = settled f (image f) (images_of_older f more old (image f) (none_of P f more other each) (is f))

reads_same : (P : File → Type 0) (f : File) (old more : List Step) → Each P more → ((g : File) → P g → same_file g f ≡ false) → contents (more ++ old) f ≡ contents old f
reads_same P f old more each other = rw (changes-append f more old, none_of P f more other each) refl

-- each moment, where what is done goes on alike
each_moment : (P : File → Type 0) (Q : Image → Type 0) (old more : List Step) → Each P more → ((newer : List Step) (image : Image) → Each P newer → IsImage (newer ++ old) image → Q image) → EachImage Q old more
each_moment P Q old [] each holds = λ image is. holds [] image tt is
each_moment P Q old (step ∷ more) (here, each) holds = (λ image is. holds (step ∷ more) image (here, each) is, each_moment P Q old more each holds)

-- ---- the slot

-- a file is this one
abbrev Is : File → File → Type 0
Is file g = g ≡ file

-- a file that isn't it
is_other : (file f : File) → same_file file f ≡ false → (g : File) → Is file g → same_file g f ≡ false
is_other file f other g same = rw same other

-- what was begun of writing a slot
record Writing (file : File) (old new : List Step) : Type 0 where
  pub more : List Step
  pub steps : new ≡ more ++ old
  pub each : Each (Is file) more

writing : (file : File) (slot : List ℕ) (old new : List Step) → WritesPart file slot old new ⊎ WritesSlot file slot old new → Writing file old new
writing file slot old new (inl (inl same)) = record { more = []; steps = same; each = tt }
writing file slot old new (inl (inr (inl (left, short, tried)))) = record { more = did file (Tried 0 slot left) []; steps = tried; each = (refl, tt) }
writing file slot old new (inl (inr (inr wrote))) = record { more = did file (Wrote 0 slot) []; steps = wrote; each = (refl, tt) }
writing file slot old new (inr written) = record { more = slot_written file slot []; steps = written; each = (refl, (refl, tt)) }

-- a file that was written from its front on begins with what was written
begins : (old bytes : List ℕ) → BeginsWith (patched old 0 bytes) bytes
begins old [] = (old, refl)
begins old (byte ∷ bytes) = (drop (0 + length (byte ∷ bytes)) old, refl)

-- a file that was synced last has one image
settled_file : (test : Bool) (changes : List Change) → IsFileSettled changes → IsFileSettled (if test then Synced ∷ changes else changes)
settled_file true changes settled = λ left may. may
settled_file false changes settled = settled

-- after a sync of the one file to which something was done nothing is pending
slot_settled : (file : File) (slot : List ℕ) (old : List Step) → IsSettled old → IsSettled (slot_written file slot old)
slot_settled file slot old settled f = cases (same_file file f) (changes_of f old) (settled f)
  where
    cases : (t : Bool) (changes : List Change) → IsFileSettled changes
        → IsFileSettled (if t then Synced ∷ (if t then Wrote 0 slot ∷ changes else changes) else (if t then Wrote 0 slot ∷ changes else changes))
    cases true changes is = λ left may. may
    cases false changes is = is

module _ (sound : Rows → Type 0) (respects : (a b : Rows) → SameRows a b → sound a ↔ sound b) where
  pub torn_moments : (from : State) (front rest : List Block) (pair : Pair) (c : Checkpoint) (old new : List Step) → MaySave sound from front rest pair c old
      → WritesPart (other_file pair) (bytes_of (slot_words c)) old new ⊎ WritesSlot (other_file pair) (bytes_of (slot_words c)) old new
      → AtEachMoment (RecoversTorn sound (state_behind from (front ++ rest)) pair c (contents old)) old new
  torn_moments from front rest pair c old new may wrote =
      let w = writing (other_file pair) (bytes_of (slot_words c)) old new wrote in (
        w.more,
        w.steps,
        each_moment (Is (other_file pair)) (RecoversTorn sound (state_behind from (front ++ rest)) pair c (contents old)) old w.more w.each
            (λ newer image each is. torn_recovers sound respects from front rest pair c old image may
            (λ f other. image_same (Is (other_file pair)) f old newer image may.settled each (is_other (other_file pair) f other) is)),
      )

  -- and the blocks that each image meets
  pub meeting_moments : (Q : State → List Block → Type 0) (from : State) (front rest : List Block) (pair : Pair) (c : Checkpoint) (old new : List Step) (may : MaySave sound from front rest pair c old)
      → Q (base pair) may.there.blocks → Q (state_of (Some c)) rest
      → WritesPart (other_file pair) (bytes_of (slot_words c)) old new ⊎ WritesSlot (other_file pair) (bytes_of (slot_words c)) old new
      → AtEachMoment (MeetsTorn sound Q (state_behind from (front ++ rest)) pair c (contents old)) old new
  meeting_moments Q from front rest pair c old new may meets behind wrote =
      let w = writing (other_file pair) (bytes_of (slot_words c)) old new wrote in (
        w.more,
        w.steps,
        each_moment (Is (other_file pair)) (MeetsTorn sound Q (state_behind from (front ++ rest)) pair c (contents old)) old w.more w.each
            (λ newer image each is. torn_meets sound respects Q from front rest pair c old image may
            (λ f other. image_same (Is (other_file pair)) f old newer image may.settled each (is_other (other_file pair) f other) is) meets behind),
      )

  -- a checkpoint that is saved, and the blocks that the disk meets then
  pub saved_meeting : (Q : State → List Block → Type 0) (from : State) (front rest : List Block) (pair : Pair) (c : Checkpoint) (old : List Step) (may : MaySave sound from front rest pair c old)
      → Q (base pair) may.there.blocks → Q (state_of (Some c)) rest
      → (s : IsSaved sound (state_behind from (front ++ rest)) pair c old (slot_written (other_file pair) (bytes_of (slot_words c)) old)) × Q (base (put pair c)) s.there.blocks
  saved_meeting Q from front rest pair c old may meets behind =
      let file = other_file pair in
      let slot : List ℕ = bytes_of (slot_words c) in
      let new : List Step = slot_written file slot old in
      let same : (f : File) → same_file file f ≡ false → contents new f ≡ contents old f =
      λ f other. reads_same (Is file) f old (slot_written file slot []) (refl, (refl, tt)) (is_other file f other) in
      let here : contents new file ≡ patched (contents old file) 0 slot = rw (same_file-refl file) refl in
      let checks : Checks sound (contents new file) c = record { is = may.is; rows = may.are_sound; spelled = subst (λ (bytes : List ℕ). BeginsWith bytes slot) (sym here) (begins (contents old file) slot) } in
      let there = with_it sound respects Q from front rest pair c old (contents new) may same checks meets behind in (
        record {
          settled = slot_settled file slot old may.settled;
          there = there.0;
          some = some_best pair c may.newer;
          from = base_behind pair c may.newer;
          words = λ p. same_word (contents old) (contents new) p (same (Segment (p / SEGMENT_WORDS)) (other_is_slot pair.slot0 pair.slot1 (p / SEGMENT_WORDS)));
        },
        there.1,
      )

  pub saved : (from : State) (front rest : List Block) (pair : Pair) (c : Checkpoint) (old : List Step) → MaySave sound from front rest pair c old
      → IsSaved sound (state_behind from (front ++ rest)) pair c old (slot_written (other_file pair) (bytes_of (slot_words c)) old)
  saved from front rest pair c old may = (saved_meeting AnyBlocks from front rest pair c old may tt tt).0

-- ---- the removals

-- a file is a segment below a number
abbrev Below : ℕ → File → Type 0
Below end Slot0 = ⊥
Below end Slot1 = ⊥
Below end (Segment n) = n < end

below_other : (end n : ℕ) → end ≤ n → (g : File) → Below end g → same_file g (Segment n) ≡ false
below_other end n le Slot0 low = refl
below_other end n le Slot1 low = refl
below_other end n le (Segment m) low = let ne : m ≢ n = λ same. absurd (omega (arith, same, low, le)) in grind (arith, nat_tests)

below_slot0 : (end : ℕ) (g : File) → Below end g → same_file g Slot0 ≡ false
below_slot0 end Slot0 low = absurd low
below_slot0 end Slot1 low = absurd low
below_slot0 end (Segment m) low = refl

below_slot1 : (end : ℕ) (g : File) → Below end g → same_file g Slot1 ≡ false
below_slot1 end Slot0 low = absurd low
below_slot1 end Slot1 low = absurd low
below_slot1 end (Segment m) low = refl

-- what was begun of removing segments
record Removing (end : ℕ) (old new : List Step) : Type 0 where
  pub more : List Step
  pub steps : new ≡ more ++ old
  pub each : Each (Below end) more

all_below : (end : ℕ) (segments : List ℕ) → All (λ segment. segment < end) segments → Each (Below end) (removals segments [])
all_below end [] below = tt
all_below end (s ∷ ss) below =
    let low = All-head (λ (segment : ℕ). segment < end) s ss below in
    (low, (low, all_below end ss (All-tail (λ (segment : ℕ). segment < end) s ss below)))

removals_behind : (segments : List ℕ) (old : List Step) → removals segments old ≡ removals segments [] ++ old
removals_behind [] old = refl
removals_behind (s ∷ ss) old = ap (λ (steps : List Step). did (Segment s) Synced (did (Segment s) Removed steps)) (removals_behind ss old)

under : (first end : ℕ) (old : List Step) (segments : List ℕ) → AreThere first end old segments → All (λ segment. segment < end) segments
under first end old segments are = All-weaker (λ segment. (first ≤ segment) × (segment < end)) (λ segment. segment < end) (λ segment within. within.1) segments are.within

under_part : (first from end : ℕ) (old : List Step) (segments : List ℕ) → from ≤ max first end → AreThere first from old segments → All (λ segment. segment < end) segments
under_part first from end old segments most are =
    All-weaker (λ segment. (first ≤ segment) × (segment < from)) (λ segment. segment < end) (λ segment within. let low = within.0 in let less = within.1 in omega arith) segments are.within

removing : (first end : ℕ) (old new : List Step) → RemovesPart first end old new ⊎ RemovesAll first end old new → Removing end old new
removing first end old new (inr all) = record {
  more = removals all.segments [];
  steps = all.steps ∙ removals_behind all.segments old;
  each = all_below end all.segments (under first end old all.segments all.are);
}
removing first end old new (inl part) = cases part.part
  where
    low : All (λ segment. segment < end) part.all.segments
    low = under_part first part.from end old part.all.segments part.most part.all.are

    cases : ((new ≡ part.mid) ⊎ ((segment : ℕ) × IsNextBelow (contents part.mid) part.from end (Some segment) × (new ≡ did (Segment segment) Removed part.mid))) → Removing end old new
    cases (inl same) = record {
      more = removals part.all.segments [];
      steps = same ∙ part.all.steps ∙ removals_behind part.all.segments old;
      each = all_below end part.all.segments low;
    }
    cases (inr (segment, next, done)) = record {
      more = did (Segment segment) Removed (removals part.all.segments []);
      steps = done ∙ ap (did (Segment segment) Removed) (part.all.steps ∙ removals_behind part.all.segments old);
      each = (next.1, all_below end part.all.segments low);
    }

module _ (sound : Rows → Type 0) where
  pub meeting_removals : (Q : State → List Block → Type 0) (state : State) (pair : Pair) (first end : ℕ) (old new : List Step) → IsSettled old → RecoversMeeting sound Q state pair (contents old) → best pair ≢ None
      → end ≤ (base pair).at / SEGMENT_WORDS → RemovesPart first end old new ⊎ RemovesAll first end old new → AtEachMoment (RecoversMeeting sound Q state pair) old new
  meeting_removals Q state pair first end old new settled (there, meets) some low removed =
      let r = removing first end old new removed in (
        r.more,
        r.steps,
        each_moment (Below end) (RecoversMeeting sound Q state pair) old r.more r.each (λ newer image each is.
            let same0 : image Slot0 ≡ contents old Slot0 = image_same (Below end) Slot0 old newer image settled each (below_slot0 end) is in
            let same1 : image Slot1 ≡ contents old Slot1 = image_same (Below end) Slot1 old newer image settled each (below_slot1 end) is in
            stays_meeting sound Q (contents old) image state pair pair there
            (subst (λ (bytes : List ℕ). Shows sound bytes pair.slot0) (sym same0) there.recovers.slot0)
            (subst (λ (bytes : List ℕ). Shows sound bytes pair.slot1) (sym same1) there.recovers.slot1)
            refl (λ none. absurd (some none))
            (λ p behind. same_word (contents old) image p
            (image_same (Below end) (Segment (p / SEGMENT_WORDS)) old newer image settled each (below_other end (p / SEGMENT_WORDS) (omega (arith, low, behind))) is)) meets),
      )

  each_first : (Q : State → List Block → Type 0) (state : State) (pair : Pair) (old more : List Step) → EachImage (RecoversMeeting sound Q state pair) old more → EachImage (RecoversTo sound state pair) old more
  each_first Q state pair old [] each = λ image is. (each image is).0
  each_first Q state pair old (step ∷ more) (here, each) = (λ image is. (here image is).0, each_first Q state pair old more each)

  pub removal_moments : (state : State) (pair : Pair) (first end : ℕ) (old new : List Step) → IsSettled old → RecoversTo sound state pair (contents old) → best pair ≢ None
      → end ≤ (base pair).at / SEGMENT_WORDS → RemovesPart first end old new ⊎ RemovesAll first end old new → AtEachMoment (RecoversTo sound state pair) old new
  removal_moments state pair first end old new settled there some low removed =
      let r = meeting_removals AnyBlocks state pair first end old new settled (there, tt) some low removed in
      (r.0, r.1, each_first AnyBlocks state pair old r.0 r.2)

pub removal_words : (first end : ℕ) (old new : List Step) → RemovesPart first end old new ⊎ RemovesAll first end old new → (p : ℕ) → end ≤ p / SEGMENT_WORDS
    → word_at (contents new) p ≡ word_at (contents old) p
removal_words first end old new removed p low =
    let r = removing first end old new removed in
    same_word (contents old) (contents new) p
    (ap (λ (steps : List Step). contents steps (Segment (p / SEGMENT_WORDS))) r.steps ∙ reads_same (Below end) (Segment (p / SEGMENT_WORDS)) old r.more r.each (below_other end (p / SEGMENT_WORDS) low))

-- removals that were waited for are settled
one_settled : (segment : ℕ) (old : List Step) → IsSettled old → IsSettled (did (Segment segment) Synced (did (Segment segment) Removed old))
one_settled segment old settled f = cases (same_file (Segment segment) f) (changes_of f old) (settled f)
  where
    cases : (t : Bool) (changes : List Change) → IsFileSettled changes
        → IsFileSettled (if t then Synced ∷ (if t then Removed ∷ changes else changes) else (if t then Removed ∷ changes else changes))
    cases true changes is = λ left may. may
    cases false changes is = is

all_settled : (segments : List ℕ) (old : List Step) → IsSettled old → IsSettled (removals segments old)
all_settled [] old settled = settled
all_settled (s ∷ ss) old settled = one_settled s (removals ss old) (all_settled ss old settled)

pub removals_settle : (first end : ℕ) (old new : List Step) → IsSettled old → RemovesAll first end old new → IsSettled new
removals_settle first end old new settled all = subst IsSettled (sym all.steps) (all_settled all.segments old settled)
