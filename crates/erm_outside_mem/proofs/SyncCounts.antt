-- Counts of syncs.
use Rattle.std.proofs.Common.{◌≡◌, ◌<◌, ◌≤◌, ◌+◌, ◌^◌, ℕ, Bool, true, false, List, [], ◌∷◌, length, drop, get_or, sym, ap, ◌∙◌, arith, suc, drop-cons}
use Rattle.erm_outside.specs.declared.disk.File.{File}
use Rattle.erm_outside.specs.Disk.{same_file}
use Rattle.erm_outside.proofs.Images.{same_file-refl}
use Rattle.erm_outside_mem.specs.declared.notes.Done.{Done}
use Rattle.erm_outside_mem.specs.Syncs.{is_sync, with_sync, syncs_in}

-- counted here or among the rest, it is one count
move : (same sync : Bool) (count rest total : ℕ) → count + with_sync same sync rest ≡ total → with_sync same sync count + rest ≡ total
move true true count rest total e = omega arith
move true false count rest total e = e
move false true count rest total e = e
move false false count rest total e = e

pub counts_one : (file : File) (done : Done) (more : List Done) (count total : ℕ) → count + syncs_in file (done ∷ more) ≡ total
    → with_sync (same_file done.file file) (is_sync done.work) count + syncs_in file more ≡ total
counts_one file done more count total e = move (same_file done.file file) (is_sync done.work) count (syncs_in file more) total e

at_most_one : (same sync : Bool) (n m : ℕ) → n ≤ m → with_sync same sync n ≤ m + 1
at_most_one true true n m le = omega arith
at_most_one true false n m le = omega arith
at_most_one false true n m le = omega arith
at_most_one false false n m le = omega arith

-- there are at most as many syncs as notes
pub syncs_in-le : (file : File) (all : List Done) → syncs_in file all ≤ length all
syncs_in-le file [] = omega arith
syncs_in-le file (done ∷ more) =
    let h = at_most_one (same_file done.file file) (is_sync done.work) (syncs_in file more) (length more) (syncs_in-le file more) in
    omega arith

-- the count of the own file stays below the number of notes
pub counts_fit : (done : Done) (more all : List Done) (count : ℕ) → count + syncs_in done.file (done ∷ more) ≡ syncs_in done.file all → length all < 2 ^ 64
    → with_sync true (is_sync done.work) count < 2 ^ 64
counts_fit done more all count e fits =
    let h : with_sync (same_file done.file done.file) (is_sync done.work) count + syncs_in done.file more ≡ syncs_in done.file all = counts_one done.file done more count (syncs_in done.file all) e in
    let one = rw (same_file-refl done.file) at h in
    let most = syncs_in-le done.file all in
    omega arith

-- the notes from a place on are the note there and those behind
pub drop-note : (all : List Done) (i : ℕ) (done : Done) → i < length all → done ≡ get_or all i done → drop i all ≡ done ∷ drop (i + 1) all
drop-note all i done lt is =
    let e : suc i ≡ i + 1 = omega arith in
    drop-cons all i done lt ∙ ap (λ (n : ℕ). get_or all i done ∷ drop n all) e ∙ ap (λ (d : Done). d ∷ drop (i + 1) all) (sym is)
