-- What writing words of the log leaves of the other files, and what a disk tells of it.
use Rattle.std.proofs.Common.{◌≡◌, ℕ, ◌≤◌, Bool, true, false, List, [], ◌∷◌, ◌++◌, Option, Some, None, IfSome, refl, ap, ◌∙◌, subst, arith}
use Rattle.std.specs.Prelude.{if◌then◌else◌}
use Rattle.erm_block.specs.declared.block.Block.{Block}
use Rattle.erm_block.specs.Spelling.{spelling}
use Rattle.erm_checkpoint.proofs.Segments.{words_spare}
use Rattle.erm_checkpoint.specs.Steps.{did}
use Rattle.erm_ckpt.specs.Recovered.{Pair, Recovers, State, slots_of}
use Rattle.erm_ckpt.specs.declared.slot.Slots.{Slots}
use Rattle.erm_ckpt.proofs.OneRecovery.{same_shown}
use Rattle.erm_ckpt.specs.Recovered.{Shows}
use Rattle.erm_log_disk.specs.Writes.{AllWriteWords, IsPiece, WritesWords}
use Rattle.erm_node.specs.Sound.{sound_law}
use Rattle.erm_outside.specs.declared.disk.File.{File}
use Rattle.erm_outside.specs.declared.disk.File.TheVariants.{Slot0, Slot1, Segment}
use Rattle.erm_outside.specs.Disk.{Change, Step, Tells, bytes_after, changes_of, contents, same_file}
use Rattle.erm_outside.specs.Disk.Change.{Wrote, Tried, Synced, Removed}
use Rattle.erm_recover.specs.Opening.{open_block}
use Rattle.erm_desk.specs.Desk.{WritesSince}
use Rattle.erm_rule.specs.declared.view.Start.{Start}
use Rattle.erm_log_run.specs.Saving.{SparesOlder}
use Rattle.erm_log_run.proofs.Older.{higher}
use Rattle.erm_world.specs.Log.{Log, words_of}
use Rattle.erm_disk_run.specs.Opened.{OpensLog}
use Rattle.erm_disk_at_once.specs.Desks.{DiskTells}

-- ---- what a disk tells

-- so what is so wherever both tell, the disk tells
pub told_of : (P : List Step → List Step → Type 0) (before after : Option (List Step)) → DiskTells before after → IfSome after (λ new. IfSome before (λ old. P old new)) → Tells P before after
told_of P None after tells holds = tells
told_of P (Some old) after (new, is, more) holds = (new, is, subst (λ (o : Option (List Step)). IfSome o (λ now. P old now)) is holds)

-- ---- files that no word is in

-- a file that is no segment
abbrev IsNoSegment : File → Type 0
IsNoSegment file = (n : ℕ) → same_file (Segment n) file ≡ false

waited : (f file : File) (before : List Step) → contents (did f Synced before) file ≡ contents before file
waited f file before = by (same_file f file)
  where
    by : (same : Bool) → bytes_after (if same then (Synced ∷ changes_of file before) else changes_of file before) ≡ bytes_after (changes_of file before)
    by true = refl
    by false = refl

elsewhere : (at : ℕ) (words : List ℕ) (f file : File) (byte : ℕ) (bytes : List ℕ) (change : Change) (before : List Step) → IsNoSegment file → IsPiece at words f byte bytes
    → contents (did f change before) file ≡ contents before file
elsewhere at words f file byte bytes change before none p =
    let is : f ≡ Segment _ = ap (λ (x : File × ℕ). x.0) p.place in
    rw (is, none _) refl

step_leaves : (at : ℕ) (words : List ℕ) (f file : File) (change : Change) (before : List Step) → IsNoSegment file → WritesWords at words f change
    → contents (did f change before) file ≡ contents before file
step_leaves at words f file (Wrote byte bytes) before none piece = elsewhere at words f file byte bytes (Wrote byte bytes) before none piece
step_leaves at words f file (Tried byte bytes left) before none piece = elsewhere at words f file byte bytes (Tried byte bytes left) before none piece.0
step_leaves at words f file Synced before none writes = waited f file before
step_leaves at words f file Removed before none writes = absurd writes

words_leave : (at : ℕ) (words : List ℕ) (file : File) (old more : List Step) → IsNoSegment file → AllWriteWords at words more → contents (more ++ old) file ≡ contents old file
words_leave at words file old [] none writes = refl
words_leave at words file old (step ∷ more) none (here, others) =
    step_leaves at words step.file file step.change (more ++ old) none here ∙ words_leave at words file old more none others

-- ---- the slots and the older segments

-- both slots, and the segments below that of a place, are as they were
pub record KeepsFiles (place : ℕ) (old new : List Step) : Type 0 where
  pub slot0 : contents new Slot0 ≡ contents old Slot0
  pub slot1 : contents new Slot1 ≡ contents old Slot1
  pub segments : SparesOlder place old new

-- where words were written from the place on, or behind it
pub written_keeps : (place at : ℕ) (words : List ℕ) (old more new : List Step) → place ≤ at → new ≡ more ++ old → AllWriteWords at words more → KeepsFiles place old new
written_keeps place at words old more new low is writes = record {
  slot0 = ap (λ (ss : List Step). contents ss Slot0) is ∙ words_leave at words Slot0 old more (λ n. refl) writes;
  slot1 = ap (λ (ss : List Step). contents ss Slot1) is ∙ words_leave at words Slot1 old more (λ n. refl) writes;
  segments = λ n less. ap (λ (ss : List Step). contents ss (Segment n)) is ∙ words_spare at words n old more (higher place at n low less) writes;
}

pub keeps_then : (place : ℕ) (a b c : List Step) → KeepsFiles place a b → KeepsFiles place b c → KeepsFiles place a c
keeps_then place a b c first other = record {
  slot0 = other.slot0 ∙ first.slot0;
  slot1 = other.slot1 ∙ first.slot1;
  segments = λ n less. other.segments n less ∙ first.segments n less;
}

-- the block that opens a log does, and a desk
pub opened_keeps : (state : State) (log : Log) (slots : Slots) (old new : List Step) → OpensLog state log slots old new → KeepsFiles state.at old new
opened_keeps state log slots old new opens = written_keeps state.at state.at (spelling (open_block state.at state.run)) old opens.writes.0 new (omega arith) opens.writes.1 opens.writes.2

pub desk_keeps : (place : ℕ) (o : Start) (blocks : List Block) (old new : List Step) → place ≤ o.tail → WritesSince o blocks old new → KeepsFiles place old new
desk_keeps place o blocks old new low w = written_keeps place o.tail (words_of blocks) old w.0 new low w.1 w.2

-- then recovery finds the same slots
pub slots_stay : (place : ℕ) (old new : List Step) → KeepsFiles place old new → (p q : Pair) (xs ys : List Block) → Recovers sound_law.meets (contents new) p xs → Recovers sound_law.meets (contents old) q ys
    → slots_of p ≡ slots_of q
slots_stay place old new keeps p q xs ys one other =
    let first = same_shown sound_law.meets (contents old Slot0) p.slot0 q.slot0 (subst (λ (bytes : List ℕ). Shows sound_law.meets bytes p.slot0) keeps.slot0 one.slot0) other.slot0 in
    let second = same_shown sound_law.meets (contents old Slot1) p.slot1 q.slot1 (subst (λ (bytes : List ℕ). Shows sound_law.meets bytes p.slot1) keeps.slot1 one.slot1) other.slot1 in
    ap slots_of (same_pair p q first second)
  where
    same_pair : (p q : Pair) → p.slot0 ≡ q.slot0 → p.slot1 ≡ q.slot1 → p ≡ q
    same_pair p q first second = λ i. record { slot0 = first i; slot1 = second i }
