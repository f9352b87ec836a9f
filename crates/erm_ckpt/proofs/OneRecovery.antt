-- What a file shows, and what an image recovers to, is one.
use Rattle.std.proofs.Common.{◌≡◌, ℕ, ◌⊎◌, List, ◌++◌, length, ◌<◌, ◌≤◌, Option, Some, None, refl, sym, ap, ◌∙◌, subst, inl, inr}
use Rattle.erm_bytes.specs.Bytes.{AreWords, bytes_of}
use Rattle.erm_ckpt.specs.declared.slot.TheConstants.{SLOT_WORDS}
use Rattle.erm_model.specs.Rows.{Rows}
use Rattle.erm_block.specs.declared.block.Block.{Block}
use Rattle.erm_block.specs.LogList.{End, IsLogList}
use Rattle.erm_outside.specs.declared.disk.File.TheVariants.{Slot0, Slot1}
use Rattle.erm_outside.specs.Disk.{Image}
use Rattle.erm_log_words.specs.Tears.{BeginsWith, HasSlot, ShowsSlot}
use Rattle.erm_ckpt.specs.Checkpoint.{Checkpoint, Checks, IsCheckedSlot, IsCheckpoint, StandsIn, rows_of_checkpoint, slot_words}
use Rattle.erm_ckpt.specs.Recovered.{Pair, Recovers, Shows, base, end_at}
use Rattle.erm_ckpt.specs.States.{SameChecks}
use Rattle.erm_ckpt.proofs.SlotBytes.{in_words, same_in_file}

module _ (sound : Rows → Type 0) where
  -- a file's slot is one
  pub same_checked : (file : List ℕ) (a b : Checkpoint) → Checks sound file a → Checks sound file b → a ≡ b
  same_checked file a b one other = same_in_file file a b one.is other.is one.spelled other.spelled

  pub same_shown : (file : List ℕ) (a b : Option Checkpoint) → Shows sound file a → Shows sound file b → a ≡ b
  same_shown file None None one other = refl
  same_shown file None (Some b) one other = absurd (one b other)
  same_shown file (Some a) None one other = absurd (other a one)
  same_shown file (Some a) (Some b) one other = ap (λ (x : Checkpoint). Some x) (same_checked file a b one other)

  -- what a slot's bytes are a slot of
  pub has_slot : (file : List ℕ) (checkpoint : Checkpoint) → Checks sound file checkpoint → HasSlot (IsCheckedSlot sound) file (bytes_of (slot_words checkpoint))
  has_slot file checkpoint checks = (record { checkpoint = checkpoint; is = checks.is; rows = checks.rows; bytes_are = refl }, checks.spelled)

  pub has_checks : (file slot : List ℕ) → (has : HasSlot (IsCheckedSlot sound) file slot) → Checks sound file has.0.checkpoint
  has_checks file slot (is, begins) = record { is = is.is; rows = is.rows; spelled = subst (λ (bytes : List ℕ). BeginsWith file bytes) is.bytes_are begins }

  -- what a torn file shows
  pub torn_shows : (before after : List ℕ) (checkpoint : Checkpoint) → IsCheckpoint checkpoint → sound (rows_of_checkpoint checkpoint)
      → ShowsSlot (IsCheckedSlot sound) before (bytes_of (slot_words checkpoint)) after
      → Checks sound after checkpoint ⊎ (SameChecks sound before after ⊎ ((other : Checkpoint) → Checks sound after other → ⊥))
  torn_shows before after checkpoint is rows (inl begins) = inl (record { is = is; rows = rows; spelled = begins })
  torn_shows before after checkpoint is rows (inr (inl same)) = inr (inl (λ other. (
    λ checks. record { is = checks.is; rows = checks.rows; spelled = ((same (bytes_of (slot_words other))).1 (has_slot before other checks)).1 },
    λ checks. record { is = checks.is; rows = checks.rows; spelled = ((same (bytes_of (slot_words other))).0 (has_slot after other checks)).1 },
  )))
  torn_shows before after checkpoint is rows (inr (inr none)) = inr (inr (λ other checks. none (bytes_of (slot_words other)) (has_slot after other checks)))

  -- a file shows what was read of its words
  module _ (file words tail : List ℕ) (are : AreWords words) (e : file ≡ bytes_of words ++ tail) (room : (length tail < 8) ⊎ (SLOT_WORDS ≤ length words)) where
    pub read_checks : (checkpoint : Checkpoint) → StandsIn words checkpoint → sound (rows_of_checkpoint checkpoint) → Checks sound file checkpoint
    read_checks checkpoint stands rows = record { is = stands.is; rows = rows; spelled = (in_words file words tail checkpoint are e room stands.is).1 stands }

    pub checks_read : (checkpoint : Checkpoint) → Checks sound file checkpoint → StandsIn words checkpoint
    checks_read checkpoint checks = (in_words file words tail checkpoint are e room checks.is).0 checks.spelled

-- two pairs of the same two
same_pair : (p q : Pair) → p.slot0 ≡ q.slot0 → p.slot1 ≡ q.slot1 → p ≡ q
same_pair p q one other =
    let make : Option Checkpoint → Option Checkpoint → Pair = λ a b. record { slot0 = a; slot1 = b } in
    ap (λ (a : Option Checkpoint). make a p.slot1) one ∙ ap (λ (b : Option Checkpoint). make q.slot0 b) other

module _ (sound : Rows → Type 0) (one_list : (end : End) (a b : List Block) → IsLogList sound end a → IsLogList sound end b → a ≡ b) where
  -- an image recovers to one thing
  pub same_recovery : (image : Image) (p q : Pair) (xs ys : List Block) → Recovers sound image p xs → Recovers sound image q ys → (p ≡ q) × (xs ≡ ys)
  same_recovery image p q xs ys one other =
      let same : p ≡ q = same_pair p q (same_shown sound (image Slot0) p.slot0 q.slot0 one.slot0 other.slot0) (same_shown sound (image Slot1) p.slot1 q.slot1 one.slot1 other.slot1) in
      (same, one_list (end_at image (base p)) xs ys one.list (subst (λ (r : Pair). IsLogList sound (end_at image (base r)) ys) (sym same) other.list))
