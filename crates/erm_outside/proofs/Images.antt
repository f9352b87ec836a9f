-- What a crash may leave of files.
use Rattle.std.proofs.Common.{◌≡◌, ◌<◌, ◌≤◌, ◌+◌, ◌-◌, ◌++◌, ℕ, zero, suc, Bool, true, false, if◌then◌else◌, List, [], ◌∷◌, length, take, drop, replicate, max, Some, refl, ap, ◌∙◌, inl, arith, append_assoc, length-append, length-take}
use Rattle.std.specs.List.{slice_get}
use Rattle.std.proofs.lemmas.Option.{slice_get_within}
use Rattle.std.proofs.lemmas.List.{length-replicate}
use Rattle.std.proofs.lemmas.Bool.Decides.{nat_tests}
use Rattle.erm_outside.specs.declared.disk.File.{File}
use Rattle.erm_outside.specs.Disk.{Change, Step, same_file, changes_of, spliced, patched, bytes_after, Torn, MayBe, IsFileSettled, IsSyncedLast}
use Rattle.erm_outside.specs.declared.disk.File.TheVariants.{Slot0, Slot1, Segment}
use Rattle.erm_outside.specs.Disk.Change.{Wrote, Tried, Synced, Removed}

-- a place in two lists, one behind the other
slice_get-before : (xs ys : List ℕ) (i : ℕ) → i < length xs → slice_get (xs ++ ys) i ≡ slice_get xs i
slice_get-before [] ys i lt = absurd (omega arith)
slice_get-before (x ∷ xs) ys zero lt = refl
slice_get-before (x ∷ xs) ys (suc i) lt = slice_get-before xs ys i (omega arith)

slice_get-behind : (xs ys : List ℕ) (i : ℕ) → length xs ≤ i → slice_get (xs ++ ys) i ≡ slice_get ys (i - length xs)
slice_get-behind [] ys i le = ap (slice_get ys) (omega arith)
slice_get-behind (x ∷ xs) ys zero le = absurd (omega arith)
slice_get-behind (x ∷ xs) ys (suc i) le = slice_get-behind xs ys i (omega arith) ∙ ap (slice_get ys) (omega arith)

slice_get-take : (n : ℕ) (xs : List ℕ) (i : ℕ) → i < n → slice_get (take n xs) i ≡ slice_get xs i
slice_get-take zero xs i lt = absurd (omega arith)
slice_get-take (suc n) [] i lt = refl
slice_get-take (suc n) (x ∷ xs) zero lt = refl
slice_get-take (suc n) (x ∷ xs) (suc i) lt = slice_get-take n xs i (omega arith)

slice_get-drop : (n : ℕ) (xs : List ℕ) (i : ℕ) → slice_get (drop n xs) i ≡ slice_get xs (n + i)
slice_get-drop zero xs i = ap (slice_get xs) (omega arith)
slice_get-drop (suc n) [] i = refl
slice_get-drop (suc n) (x ∷ xs) i =
    let e : suc n + i ≡ suc (n + i) = omega arith in
    rw e (slice_get-drop n xs i)

-- bytes laid into a file tear it in their range at most
front-length : (old : List ℕ) (at : ℕ) → length (take at (old ++ replicate (at - length old) 0)) ≡ at
front-length old at = omega (arith, length-take at (old ++ replicate (at - length old) 0), length-append old (replicate (at - length old) 0), length-replicate {A = ℕ} (at - length old) 0)

spliced_before : (old : List ℕ) (at : ℕ) (bytes : List ℕ) (i byte : ℕ) → i < at → slice_get old i ≡ Some byte → slice_get (spliced old at bytes) i ≡ Some byte
spliced_before old at bytes i byte lt was =
    let zeros : List ℕ = replicate (at - length old) 0 in
    let front = take at (old ++ zeros) in
    ap (λ xs. slice_get xs i) (append_assoc front bytes (drop (at + length bytes) old))
    ∙ slice_get-before front (bytes ++ drop (at + length bytes) old) i (omega (arith, front-length old at))
    ∙ slice_get-take at (old ++ zeros) i lt
    ∙ slice_get-before old zeros i (slice_get_within old i byte was)
    ∙ was

spliced_behind : (old : List ℕ) (at : ℕ) (bytes : List ℕ) (i : ℕ) → at + length bytes ≤ i → slice_get (spliced old at bytes) i ≡ slice_get old i
spliced_behind old at bytes i le =
    let zeros : List ℕ = replicate (at - length old) 0 in
    let front = take at (old ++ zeros) in
    let size = front-length old at in
    ap (λ xs. slice_get xs i) (append_assoc front bytes (drop (at + length bytes) old))
    ∙ slice_get-behind front (bytes ++ drop (at + length bytes) old) i (omega arith)
    ∙ slice_get-behind bytes (drop (at + length bytes) old) (i - length front) (omega arith)
    ∙ slice_get-drop (at + length bytes) old (i - length front - length bytes)
    ∙ ap (slice_get old) (omega arith)

-- a write that all of a file comes through tears it in its range at most, and in each longer one
pub torn_by_patch : (old : List ℕ) (at n : ℕ) (bytes : List ℕ) → length bytes ≤ n → Torn at n old (patched old at bytes)
torn_by_patch old at n [] le = record { before = λ i byte lt was. was; behind = λ i le. refl }
torn_by_patch old at n (b ∷ bytes) le = record {
  before = λ i byte lt was. spliced_before old at (b ∷ bytes) i byte lt was;
  behind = λ i far. spliced_behind old at (b ∷ bytes) i (omega arith);
}

-- what reads give of a file, a crash may leave
pub reads_may_be : (changes : List Change) → MayBe changes (bytes_after changes)
reads_may_be [] = refl
reads_may_be (Wrote at bytes ∷ before) = (bytes_after before, reads_may_be before, torn_by_patch (bytes_after before) at (length bytes) bytes (omega arith))
reads_may_be (Tried at bytes left ∷ before) = (bytes_after before, reads_may_be before, torn_by_patch (bytes_after before) at (max (length left) (length bytes)) left (omega arith))
reads_may_be (Synced ∷ before) = refl
reads_may_be (Removed ∷ before) = inl refl

grow : (same : Bool) (change : Change) (whole newer older : List Change) → whole ≡ newer ++ older
    → (if same then change ∷ whole else whole) ≡ (if same then change ∷ newer else newer) ++ older
grow true change whole newer older e = ap (λ xs. change ∷ xs) e
grow false change whole newer older e = e

-- what was done to a file, by older steps and then by newer ones
pub changes-append : (file : File) (more steps : List Step) → changes_of file (more ++ steps) ≡ changes_of file more ++ changes_of file steps
changes-append file [] steps = refl
changes-append file (step ∷ more) steps = grow (same_file step.file file) step.change (changes_of file (more ++ steps)) (changes_of file more) (changes_of file steps) (changes-append file more steps)

-- where nothing was done to a file meanwhile, an image has what one of the older steps has
pub images_of_older : (file : File) (more steps : List Step) (left : List ℕ) → changes_of file more ≡ [] → MayBe (changes_of file (more ++ steps)) left → MayBe (changes_of file steps) left
images_of_older file more steps left none may =
    let e : changes_of file (more ++ steps) ≡ changes_of file steps = changes-append file more steps ∙ ap (λ newer. newer ++ changes_of file steps) none in
    rw e at may

-- each file is one with itself
pub same_file-refl : (file : File) → same_file file file ≡ true
same_file-refl Slot0 = refl
same_file-refl Slot1 = refl
same_file-refl (Segment n) = grind (arith, nat_tests)

-- a file that is synced last has no other image than what it reads
pub synced_is_settled : (changes : List Change) → IsSyncedLast changes → IsFileSettled changes
synced_is_settled [] synced left may = may
synced_is_settled (Wrote at bytes ∷ before) synced left may = absurd synced
synced_is_settled (Tried at bytes rest ∷ before) synced left may = absurd synced
synced_is_settled (Synced ∷ before) synced left may = may
synced_is_settled (Removed ∷ before) synced left may = absurd synced

-- what was done last to the file of the newest step
pub changes-same : (file : File) (change : Change) (steps : List Step) → changes_of file (record { file = file; change = change } ∷ steps) ≡ change ∷ changes_of file steps
changes-same file change steps = rw (same_file-refl file) refl

-- of two images, for each file the one or the other
pub mixed : (test : Bool) (changes : List Change) (a b : List ℕ) → MayBe changes a → MayBe changes b → MayBe changes (if test then a else b)
mixed true changes a b has_a has_b = has_a
mixed false changes a b has_a has_b = has_b
