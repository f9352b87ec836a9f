-- What a crash may leave where nothing else was done than to write words of the log.
use Rattle.std.proofs.Common.{◌≡◌, ℕ, ◌+◌, ◌-◌, ◌*◌, ◌/◌, ◌%◌, ◌≤◌, ◌++◌, Bool, true, false, if◌then◌else◌, List, [], ◌∷◌, length, drop, max, refl, ap, ◌∙◌, arith, length-take, length-drop}
use Rattle.std.proofs.lemmas.Bool.{eqb-true}
use Rattle.erm_bytes.specs.Bytes.{bytes_of}
use Rattle.erm_bytes.proofs.Words.{length-bytes_of}
use Rattle.erm_outside.specs.declared.disk.File.{File}
use Rattle.erm_outside.specs.declared.disk.File.TheVariants.{Slot0, Slot1, Segment}
use Rattle.erm_outside.specs.Disk.{bytes_after, Change, changes_of, contents, EachImage, Image, IsFileSettled, IsImage, IsSettled, MayBe, same_file, Step, Torn}
use Rattle.erm_outside.specs.Disk.Change.{Wrote, Tried, Synced, Removed}
use Rattle.erm_outside.proofs.Images.{reads_may_be}
use Rattle.erm_log_words.specs.Words.{Spares}
use Rattle.erm_log_words.proofs.Windows.{byte_in, spared}
use Rattle.erm_log_disk.specs.Writes.{AllWriteWords, IsPiece, WritesWords}

-- a fact of one of two lists, by the test that chooses
pub pick : (P : List Change → Type 0) (test : Bool) (xs ys : List Change) → (test ≡ true → P xs) → (test ≡ false → P ys) → P (if test then xs else ys)
pick P true xs ys one other = one refl
pick P false xs ys one other = other refl

-- a file that is one with a segment
pub segment_is : (file : File) (s : ℕ) → same_file file (Segment s) ≡ true → file ≡ Segment s
segment_is Slot0 s e = absurd (cc)
segment_is Slot1 s e = absurd (cc)
segment_is (Segment m) s e = ap Segment (eqb-true m s e)

-- a second change within a range that changed
torn_twice : (lo hi at n : ℕ) (a b c : List ℕ) → Torn lo (hi - lo) a b → Torn at n b c → lo ≤ at → at + n ≤ hi → Torn lo (hi - lo) a c
torn_twice lo hi at n a b c first second low high = record {
  before = λ i byte lt was. second.before i byte (omega arith) (first.before i byte lt was);
  behind = λ i le. second.behind i (omega arith) ∙ first.behind i le;
}

torn_not : (at n : ℕ) (a : List ℕ) → Torn at n a a
torn_not at n a = record { before = λ i byte lt was. was; behind = λ i le. refl }

-- where a piece lies in its segment
record Lies (at len s byte n : ℕ) : Type 0 where
  pub low : byte_in at s ≤ byte
  pub high : byte + n ≤ byte_in (at + len) s

length-piece : (at : ℕ) (words : List ℕ) (file : File) (byte : ℕ) (bytes : List ℕ) (p : IsPiece at words file byte bytes) → length bytes ≡ 8 * p.count
length-piece at words file byte bytes p =
    let within = p.within in
    ap length p.bytes_are ∙ omega (arith, length-take (8 * (p.from + p.count) - 8 * p.from) (drop (8 * p.from) (bytes_of words)), length-drop (8 * p.from) (bytes_of words), length-bytes_of words)

number_of : File → ℕ
number_of Slot0 = 0
number_of Slot1 = 0
number_of (Segment s) = s

same_number : (m s : ℕ) → Segment m ≡ Segment s → m ≡ s
same_number m s e = cc

lies : (at : ℕ) (words : List ℕ) (s byte : ℕ) (bytes : List ℕ) (p : IsPiece at words (Segment s) byte bytes) → Lies at (length words) s byte (length bytes)
lies at words s byte bytes p =
    let segment : s ≡ (at + p.from) / 65536 = same_number s ((at + p.from) / 65536) (ap (λ (x : File × ℕ). x.0) p.place) in
    let begins : byte ≡ 8 * ((at + p.from) % 65536) = ap (λ (x : File × ℕ). x.1) p.place in
    let size = length-piece at words (Segment s) byte bytes p in
    let within = p.within in
    let one = p.one in
    record { low = omega arith; high = omega arith }

-- each crash leaves of a file what differs from its old bytes in a range at most
Ranged : ℕ → ℕ → List ℕ → List Change → Type 0
Ranged lo hi base changes = (left : List ℕ) → MayBe changes left → Torn lo (hi - lo) base left

ranged_more : (at : ℕ) (words : List ℕ) (s : ℕ) (base : List ℕ) (change : Change) (before : List Change) → WritesWords at words (Segment s) change
    → Ranged (byte_in at s) (byte_in (at + length words) s) base before → Ranged (byte_in at s) (byte_in (at + length words) s) base (change ∷ before)
unfolding Ranged
ranged_more at words s base (Wrote byte bytes) before piece ranged = λ left may.
    let l = lies at words s byte bytes piece in
    torn_twice (byte_in at s) (byte_in (at + length words) s) byte (length bytes) base may.0 left (ranged may.0 may.1) may.2 l.low l.high
ranged_more at words s base (Tried byte bytes rest) before piece ranged = λ left may.
    let l = lies at words s byte bytes piece.0 in
    let high = l.high in
    let short = piece.1 in
    torn_twice (byte_in at s) (byte_in (at + length words) s) byte (max (length rest) (length bytes)) base may.0 left (ranged may.0 may.1) may.2 l.low (omega arith)
ranged_more at words s base Synced before writes ranged = λ left may. rw may (ranged (bytes_after before) (reads_may_be before))
ranged_more at words s base Removed before writes ranged = absurd writes

ranged : (at : ℕ) (words : List ℕ) (s : ℕ) (old more : List Step) → AllWriteWords at words more → IsFileSettled (changes_of (Segment s) old)
    → Ranged (byte_in at s) (byte_in (at + length words) s) (contents old (Segment s)) (changes_of (Segment s) (more ++ old))
unfolding Ranged
ranged at words s old [] writes settled = λ left may. rw (settled left may) (torn_not (byte_in at s) (byte_in (at + length words) s - byte_in at s) (contents old (Segment s)))
ranged at words s old (step ∷ more) (here, others) settled =
    pick (Ranged (byte_in at s) (byte_in (at + length words) s) (contents old (Segment s))) (same_file step.file (Segment s))
    (step.change ∷ changes_of (Segment s) (more ++ old)) (changes_of (Segment s) (more ++ old))
    (λ same. ranged_more at words s (contents old (Segment s)) step.change (changes_of (Segment s) (more ++ old)) (rw (segment_is step.file s same) at here) (ranged at words s old more others settled))
    (λ other. ranged at words s old more others settled)

-- where nothing was pending, and nothing else was done since than to write words of the log, each image has of a segment its old
-- bytes, but for those of these words
pub images_torn : (at : ℕ) (words : List ℕ) (s : ℕ) (old more : List Step) (image : Image) → IsSettled old → AllWriteWords at words more → IsImage (more ++ old) image
    → Torn (byte_in at s) (byte_in (at + length words) s - byte_in at s) (contents old (Segment s)) (image (Segment s))
unfolding Ranged
images_torn at words s old more image settled writes is = ranged at words s old more writes (settled (Segment s)) (image (Segment s)) (is (Segment s))

-- each crash leaves of a file its old bytes
Same : List ℕ → List Change → Type 0
Same base changes = (left : List ℕ) → MayBe changes left → left ≡ base

-- whether a file is a slot
is_slot : File → Bool
is_slot Slot0 = true
is_slot Slot1 = true
is_slot (Segment s) = false

no_slot : (at : ℕ) (words : List ℕ) (file : File) (byte : ℕ) (bytes : List ℕ) → IsPiece at words file byte bytes → is_slot file ≡ true → ⊥
unfolding is_slot
no_slot at words file byte bytes p e = let segment = ap (λ (x : File × ℕ). is_slot x.0) p.place in absurd (cc)

same_more : (at : ℕ) (words : List ℕ) (file : File) (base : List ℕ) (change : Change) (before : List Change) → is_slot file ≡ true → WritesWords at words file change
    → Same base before → Same base (change ∷ before)
unfolding Same
same_more at words file base (Wrote byte bytes) before slot piece same = absurd (no_slot at words file byte bytes piece slot)
same_more at words file base (Tried byte bytes rest) before slot piece same = absurd (no_slot at words file byte bytes piece.0 slot)
same_more at words file base Synced before slot writes same = λ left may. may ∙ same (bytes_after before) (reads_may_be before)
same_more at words file base Removed before slot writes same = absurd writes

slot_of : (file other : File) → is_slot other ≡ true → same_file file other ≡ true → is_slot file ≡ true
unfolding is_slot
slot_of Slot0 Slot0 slot e = refl
slot_of Slot1 Slot1 slot e = refl
slot_of (Segment m) (Segment n) slot e = slot
slot_of f g slot e = absurd (cc)

same_slot : (at : ℕ) (words : List ℕ) (file : File) (old more : List Step) → is_slot file ≡ true → AllWriteWords at words more → IsFileSettled (changes_of file old)
    → Same (contents old file) (changes_of file (more ++ old))
unfolding Same
same_slot at words file old [] slot writes settled = settled
same_slot at words file old (step ∷ more) slot (here, others) settled =
    pick (Same (contents old file)) (same_file step.file file) (step.change ∷ changes_of file (more ++ old)) (changes_of file (more ++ old))
    (λ same. same_more at words step.file (contents old file) step.change (changes_of file (more ++ old)) (slot_of step.file file slot same) here (same_slot at words file old more slot others settled))
    (λ other. same_slot at words file old more slot others settled)

-- where nothing was pending, and nothing else was done since than to write words of the log, each image spares all others
pub images_spare : (at : ℕ) (words : List ℕ) (old more : List Step) (image : Image) → IsSettled old → AllWriteWords at words more → IsImage (more ++ old) image
    → Spares at (at + length words) (contents old) image
unfolding Ranged Same is_slot
images_spare at words old more image settled writes is =
    spared at (length words) (contents old) image
    (same_slot at words Slot0 old more refl writes (settled Slot0) (image Slot0) (is Slot0))
    (same_slot at words Slot1 old more refl writes (settled Slot1) (image Slot1) (is Slot1))
    (λ s. ranged at words s old more writes (settled (Segment s)) (image (Segment s)) (is (Segment s)))

-- so at each moment, what holds of each image that spares all others holds of each
pub each_moment : (P : Image → Type 0) (at : ℕ) (words : List ℕ) (old more : List Step) → IsSettled old → AllWriteWords at words more
    → ((image : Image) → Spares at (at + length words) (contents old) image → P image) → EachImage P old more
each_moment P at words old [] settled writes holds = λ image is. holds image (images_spare at words old [] image settled writes is)
each_moment P at words old (step ∷ more) settled (here, others) holds =
    (λ image is. holds image (images_spare at words old (step ∷ more) image settled (here, others) is), each_moment P at words old more settled others holds)
