-- Waiting changes nothing that reads give, and a removal that isn't waited for is one from before.
use Rattle.std.proofs.Common.{◌≡◌, ◌++◌, Bool, true, false, if◌then◌else◌, List, [], ◌∷◌, refl, sym, ap, ◌∙◌, subst}
use Rattle.erm_outside.specs.declared.disk.File.{File}
use Rattle.erm_outside.specs.Disk.{AllWait, Change, IsFileSettled, IsRemovedLast, OnlyWaits, Step, bytes_after, changes_of, contents, same_file}
use Rattle.erm_outside.specs.Disk.Change.{Synced}

-- a wait for a file
abbrev pub waited : File → Step
waited file = record { file = file; change = Synced }

pub waits_are : (step : Step) → step.change ≡ Synced → step ≡ waited step.file
waits_are step is = ap (λ (change : Change). let s : Step = record { file = step.file; change = change } in s) is

-- ---- what reads give

bytes_of_wait : (same : Bool) (changes : List Change) → bytes_after (if same then Synced ∷ changes else changes) ≡ bytes_after changes
bytes_of_wait true changes = refl
bytes_of_wait false changes = refl

reads_wait : (more old : List Step) → AllWait more → (file : File) → contents (more ++ old) file ≡ contents old file
reads_wait [] old waits file = refl
reads_wait (step ∷ more) old (is, others) file =
    ap (λ (s : Step). contents (s ∷ more ++ old) file) (waits_are step is) ∙ bytes_of_wait (same_file step.file file) (changes_of file (more ++ old)) ∙ reads_wait more old others file

same_reads : (more old : List Step) → AllWait more → contents (more ++ old) ≡ contents old
same_reads more old waits = λ i file. reads_wait more old waits file i

pub reads_stay : (old new : List Step) → OnlyWaits old new → contents new ≡ contents old
reads_stay old new (more, split, waits) = ap (λ (s : List Step). contents s) split ∙ same_reads more old waits

-- ---- removals

-- what is removed last behind a wait was so before
older_one : (same : Bool) (changes : List Change) → IsRemovedLast (if same then Synced ∷ changes else changes) → IsRemovedLast changes
older_one true changes removed = absurd removed
older_one false changes removed = removed

removed_wait : (more old : List Step) → AllWait more → (file : File) → IsRemovedLast (changes_of file (more ++ old)) → IsRemovedLast (changes_of file old)
removed_wait [] old waits file removed = removed
removed_wait (step ∷ more) old (is, others) file removed =
    removed_wait more old others file
    (older_one (same_file step.file file) (changes_of file (more ++ old)) (subst (λ (s : Step). IsRemovedLast (changes_of file (s ∷ more ++ old))) (waits_are step is) removed))

pub removed_before : (old new : List Step) → OnlyWaits old new → (file : File) → IsRemovedLast (changes_of file new) → IsRemovedLast (changes_of file old)
removed_before old new (more, split, waits) file removed = removed_wait more old waits file (subst (λ (s : List Step). IsRemovedLast (changes_of file s)) split removed)

-- and one that was so before, and isn't any more, was waited for
lasts_one : (same : Bool) (changes : List Change) → (IsRemovedLast (if same then Synced ∷ changes else changes) → ⊥) → ((IsRemovedLast changes → ⊥) → IsFileSettled changes)
    → IsFileSettled (if same then Synced ∷ changes else changes)
lasts_one true changes not so_far = λ left is. is
lasts_one false changes not so_far = so_far not

lasts_wait : (more old : List Step) → AllWait more → (file : File) → IsRemovedLast (changes_of file old) → (IsRemovedLast (changes_of file (more ++ old)) → ⊥)
    → IsFileSettled (changes_of file (more ++ old))
lasts_wait [] old waits file removed not = absurd (not removed)
lasts_wait (step ∷ more) old (is, others) file removed not =
    subst (λ (s : Step). (IsRemovedLast (changes_of file (s ∷ more ++ old)) → ⊥) → IsFileSettled (changes_of file (s ∷ more ++ old))) (sym (waits_are step is))
    (λ here. lasts_one (same_file step.file file) (changes_of file (more ++ old)) here (lasts_wait more old others file removed)) not

pub removal_lasts : (old new : List Step) → OnlyWaits old new → (file : File) → IsRemovedLast (changes_of file old) → (IsRemovedLast (changes_of file new) → ⊥) → IsFileSettled (changes_of file new)
removal_lasts old new (more, split, waits) file removed =
    subst (λ (s : List Step). (IsRemovedLast (changes_of file s) → ⊥) → IsFileSettled (changes_of file s)) (sym split) (lasts_wait more old waits file removed)
