-- The images that picks name.
use Rattle.std.proofs.Common.{◌≡◌, ◌==◌, ◌≤◌, ◌+◌, ℕ, Bool, true, false, if◌then◌else◌, List, [], ◌∷◌, length, take, max, refl, ap, ◌∙◌, inl, inr, arith}
use Rattle.std.proofs.lemmas.List.{length-replicate}
use Rattle.std.proofs.lemmas.Bool.Decides.{nat_tests}
use Rattle.erm_outside.specs.declared.disk.File.{File}
use Rattle.erm_outside.specs.declared.disk.File.TheVariants.{Slot0, Slot1, Segment}
use Rattle.erm_outside.specs.Disk.{Change, same_file, patched, bytes_after, MayBe}
use Rattle.erm_outside.specs.Disk.Change.{Wrote, Tried, Synced, Removed}
use Rattle.erm_outside.proofs.Images.{torn_by_patch}
use Rattle.erm_outside_mem.specs.declared.picks.Pick.{Pick}
use Rattle.erm_outside_mem.specs.declared.picks.Pick.TheVariants.{Nothing, All, Marks}
use Rattle.erm_outside_mem.specs.declared.notes.Work.{Work}
use Rattle.erm_outside_mem.specs.declared.notes.Work.TheVariants as work
use Rattle.erm_outside_mem.specs.DiskNotes.{change_of}
use Rattle.erm_outside_mem.specs.Picks.{landed, removed_by, played, picked, how_of}
use Rattle.erm_outside_mem.specs.Syncs.{is_sync, with_sync}

landed_fits : (pick : Pick) (left : List ℕ) (n m : ℕ) → length left ≤ m → n ≤ m → length (landed pick left n) ≤ m
landed_fits Nothing left n m few less = omega arith
landed_fits All left n m few less = few
landed_fits Marks left n m few less = omega (arith, length-replicate {A = ℕ} n 165)

removed_may_be : (pick : Pick) (before : List Change) (left : List ℕ) → MayBe before left → MayBe (Removed ∷ before) (removed_by pick left)
removed_may_be Nothing before left may = inr may
removed_may_be All before left may = inl refl
removed_may_be Marks before left may = inr may

-- what a pick names, a crash may leave
pub picked_may_be : (pick : Pick) (changes : List Change) → MayBe changes (picked pick changes)
picked_may_be pick [] = refl
picked_may_be pick (Wrote at bytes ∷ before) =
    (picked pick before, picked_may_be pick before, torn_by_patch (picked pick before) at (length bytes) (landed pick bytes (length bytes)) (landed_fits pick bytes (length bytes) (length bytes) (omega arith) (omega arith)))
picked_may_be pick (Tried at bytes left ∷ before) =
    (picked pick before, picked_may_be pick before, torn_by_patch (picked pick before) at (max (length left) (length bytes)) (landed pick left (length bytes)) (landed_fits pick left (length bytes) (max (length left) (length bytes)) (omega arith) (omega arith)))
picked_may_be pick (Synced ∷ before) = refl
picked_may_be pick (Removed ∷ before) = removed_may_be pick before (picked pick before) (picked_may_be pick before)

-- where all landed, reads give the same
pub picked-all : (changes : List Change) → picked All changes ≡ bytes_after changes
picked-all [] = refl
picked-all (Wrote at bytes ∷ before) = ap (λ was. patched was at bytes) (picked-all before)
picked-all (Tried at bytes left ∷ before) = ap (λ was. patched was at left) (picked-all before)
picked-all (Synced ∷ before) = refl
picked-all (Removed ∷ before) = refl

-- what is shown of a file so far, where it is still to be synced or not
abbrev pub shown : Bool → Pick → List Change → List ℕ
shown true pick changes = picked pick changes
shown false pick changes = bytes_after changes

-- a sync is left before a note of one; else as many as after it
abbrev pub Linked : Bool → Bool → Bool → Bool → Type 0
Linked true true p q = p ≡ false
Linked true false p q = p ≡ q
Linked false _ p q = p ≡ q

not_none : (n : ℕ) → (n + 1 == 0) ≡ false
not_none n = grind (arith, nat_tests)

pub linked : (same sync : Bool) (count rest : ℕ) → count ≡ with_sync same sync rest → Linked same sync (count == 0) (rest == 0)
linked true true count rest e = rw e (not_none rest)
linked true false count rest e = rw e refl
linked false true count rest e = rw e refl
linked false false count rest e = rw e refl

sync_shown : (q : Bool) (pick : Pick) (changes : List Change) (p : Bool) (old : List ℕ) → p ≡ false → old ≡ shown p pick changes → old ≡ shown q pick (Synced ∷ changes)
sync_shown true pick changes true old off is = absurd (cc)
sync_shown true pick changes false old off is = is
sync_shown false pick changes true old off is = absurd (cc)
sync_shown false pick changes false old off is = is

wrote_shown : (p : Bool) (pick : Pick) (changes : List Change) (at : ℕ) (bytes : List ℕ) (old : List ℕ) → old ≡ shown p pick changes
    → played (how_of p pick) (Wrote at bytes) old ≡ shown p pick (Wrote at bytes ∷ changes)
wrote_shown true pick changes at bytes old is = ap (λ was. patched was at (landed pick bytes (length bytes))) is
wrote_shown false pick changes at bytes old is = ap (λ was. patched was at bytes) is

tried_shown : (p : Bool) (pick : Pick) (changes : List Change) (at : ℕ) (bytes left : List ℕ) (old : List ℕ) → old ≡ shown p pick changes
    → played (how_of p pick) (Tried at bytes left) old ≡ shown p pick (Tried at bytes left ∷ changes)
tried_shown true pick changes at bytes left old is = ap (λ was. patched was at (landed pick left (length bytes))) is
tried_shown false pick changes at bytes left old is = ap (λ was. patched was at left) is

removed_shown : (p : Bool) (pick : Pick) (changes : List Change) (old : List ℕ) → old ≡ shown p pick changes
    → played (how_of p pick) Removed old ≡ shown p pick (Removed ∷ changes)
removed_shown true pick changes old is = ap (λ was. removed_by pick was) is
removed_shown false pick changes old is = refl

-- a note played shows its file with the note
note_shown : (w : Work) (pick : Pick) (p q : Bool) (changes : List Change) (old : List ℕ) → Linked true (is_sync w) p q → old ≡ shown p pick changes
    → played (how_of p pick) (change_of w) old ≡ shown q pick (change_of w ∷ changes)
note_shown (work.Wrote at bytes) pick p q changes old link is = rw (← link) (wrote_shown p pick changes at bytes.items old is)
note_shown (work.Tried at bytes left) pick p q changes old link is = rw (← link) (tried_shown p pick changes at bytes.items (take left bytes.items) old is)
note_shown work.Synced pick p q changes old link is = sync_shown q pick changes p old link is
note_shown work.Removed pick p q changes old link is = rw (← link) (removed_shown p pick changes old is)

-- and each other file as before
pub step_shown : (same : Bool) (w : Work) (pick : Pick) (h p q : Bool) (changes : List Change) (old new : List ℕ) → Linked same (is_sync w) p q → (same ≡ true → h ≡ p) → old ≡ shown p pick changes
    → new ≡ (if same then played (how_of h pick) (change_of w) old else old) → new ≡ shown q pick (if same then change_of w ∷ changes else changes)
step_shown true w pick h p q changes old new link here is becomes =
    let e : h ≡ p = here refl in
    becomes ∙ ap (λ b. played (how_of b pick) (change_of w) old) e ∙ note_shown w pick p q changes old link is
step_shown false w pick h p q changes old new link here is becomes = becomes ∙ is ∙ ap (λ b. shown b pick changes) link

-- files that are one
pub same_file-true : (one other : File) → same_file one other ≡ true → one ≡ other
same_file-true Slot0 Slot0 e = refl
same_file-true Slot0 Slot1 e = absurd (cc)
same_file-true Slot0 (Segment n) e = absurd (cc)
same_file-true Slot1 Slot0 e = absurd (cc)
same_file-true Slot1 Slot1 e = refl
same_file-true Slot1 (Segment n) e = absurd (cc)
same_file-true (Segment m) Slot0 e = absurd (cc)
same_file-true (Segment m) Slot1 e = absurd (cc)
same_file-true (Segment m) (Segment n) e = let same : m ≡ n = grind (arith, nat_tests) in ap (λ n. Segment n) same
