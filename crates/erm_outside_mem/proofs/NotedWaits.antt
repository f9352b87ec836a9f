-- Waits noted for the files that were removed.
use Rattle.std.proofs.Common.{◌≡◌, ◌<◌, ◌+◌, ◌++◌, ℕ, Bool, true, false, if◌then◌else◌, List, [], ◌∷◌, length, take, get_or, refl, sym, ap, ◌∙◌, subst, inl, inr, arith, append-nil, append_assoc}
use Rattle.std.specs.Prelude.{◌⊎◌}
use Rattle.std.proofs.lemmas.List.{get_or_append_left, take_all, take_more}
use Rattle.erm_outside.specs.declared.disk.File.{File}
use Rattle.erm_outside.specs.Disk.{Change, IsRemovedLast, OnlyWaits, RemovalsLast, Step, changes_of, same_file}
use Rattle.erm_outside.specs.Disk.Change.{Synced}
use Rattle.erm_outside.proofs.Images.{changes-same}
use Rattle.erm_outside.proofs.Waits.{removed_before, waited}
use Rattle.erm_outside_mem.specs.declared.notes.Done.{Done}
use Rattle.erm_outside_mem.specs.declared.notes.Work.{Work}
use Rattle.erm_outside_mem.specs.declared.notes.Work.TheVariants as work
use Rattle.erm_outside_mem.specs.DiskNotes.{IsRemoval, change_of, step_of, steps_behind, steps_of}
use Rattle.erm_outside_mem.proofs.NotedSteps.{steps-push}
use Rattle.erm_outside_mem.proofs.Picked.{same_file-true}

-- one of these notes is that of a file's removal
abbrev pub HasRemoval : File → List Done → Type 0
HasRemoval file [] = ⊥
HasRemoval file (done ∷ more) = ((same_file done.file file ≡ true) × IsRemoval done.work) ⊎ HasRemoval file more

in_either : (file : File) (xs ys : List Done) → HasRemoval file (xs ++ ys) → HasRemoval file xs ⊎ HasRemoval file ys
in_either file [] ys has = inr has
in_either file (done ∷ xs) ys (inl here) = inl (inl here)
in_either file (done ∷ xs) ys (inr later) = elim (in_either file xs ys later) [
  | inl first ↦ inl (inr first)
  | inr second ↦ inr second
]

-- a file that was removed last has such a note
removal_noted : (w : Work) (before : List Change) → IsRemovedLast (change_of w ∷ before) → IsRemoval w
removal_noted (work.Wrote at bytes) before removed = removed
removal_noted (work.Tried at bytes left) before removed = removed
removal_noted work.Synced before removed = removed
removal_noted work.Removed before removed = tt

by_last : (same : Bool) (w : Work) (before : List Change) → IsRemovedLast (if same then change_of w ∷ before else before) → ((same ≡ true) × IsRemoval w) ⊎ IsRemovedLast before
by_last true w before removed = inl (refl, removal_noted w before removed)
by_last false w before removed = inr removed

noted_behind : (file : File) (all : List Done) (steps : List Step) → IsRemovedLast (changes_of file (steps_behind all steps)) → HasRemoval file all ⊎ IsRemovedLast (changes_of file steps)
noted_behind file [] steps removed = inr removed
noted_behind file (done ∷ all) steps removed = elim (noted_behind file all (step_of done ∷ steps) removed) [
  | inl later ↦ inl (inr later)
  | inr here ↦ elim (by_last (same_file done.file file) done.work (changes_of file steps) here) [
    | inl this ↦ inl (inl this)
    | inr older ↦ inr older
  ]
]

noted : (file : File) (all : List Done) → IsRemovedLast (changes_of file (steps_of all)) → HasRemoval file all
noted file all removed = elim (noted_behind file all [] removed) [
  | inl has ↦ has
  | inr none ↦ absurd none
]

-- Of the files that the first so many notes say were removed none was removed last any more: the notes so far are those and some waits.
pub record WaitsNoted (all now : List Done) (count : ℕ) : Type 0 where
  pub more : List Done
  pub items : now ≡ all ++ more
  pub waits : OnlyWaits (steps_of all) (steps_of now)
  pub last : (file : File) → HasRemoval file (take count all) → IsRemovedLast (changes_of file (steps_of now)) → ⊥

pub none_noted : (all : List Done) → WaitsNoted all all 0
none_noted all = record { more = []; items = sym (append-nil all); waits = ([], refl, tt); last = λ file has removed. has }

-- the notes up to the next place
one_more : (all now : List Done) (count : ℕ) (done : Done) → count < length all → done ≡ get_or now count done → WaitsNoted all now count → take (count + 1) all ≡ take count all ++ done ∷ []
one_more all now count done less is so =
    let same : done ≡ get_or all count done = is ∙ ap (λ (ds : List Done). get_or ds count done) so.items ∙ get_or_append_left all so.more done count less in
    take_more all count done less ∙ ap (λ (d : Done). take count all ++ d ∷ []) (sym same)

-- a note that is none of a removal
pub passed : (all now : List Done) (count : ℕ) (done : Done) → count < length all → done ≡ get_or now count done → (IsRemoval done.work → ⊥) → WaitsNoted all now count → WaitsNoted all now (count + 1)
passed all now count done less is not so = record {
  more = so.more;
  items = so.items;
  waits = so.waits;
  last = λ file has removed.
      let front = one_more all now count done less is so in
      elim (in_either file (take count all) (done ∷ []) (subst (HasRemoval file) front has)) [
        | inl before ↦ so.last file before removed
        | inr (inl here) ↦ not here.1
        | inr (inr none) ↦ none
      ];
}

-- and one that is
pub waits_more : (all now : List Done) (count : ℕ) (done : Done) → count < length all → done ≡ get_or now count done → WaitsNoted all now count
    → WaitsNoted all (now ++ record { file = done.file; work = work.Synced } ∷ []) (count + 1)
waits_more all now count done less is so =
    let note : Done = record { file = done.file; work = work.Synced } in
    let steps : steps_of (now ++ note ∷ []) ≡ waited done.file ∷ steps_of now = steps-push now note in
    let waits : OnlyWaits (steps_of now) (steps_of (now ++ note ∷ [])) = (waited done.file ∷ [], steps, (refl, tt)) in
    let front = one_more all now count done less is so in
    record {
      more = so.more ++ note ∷ [];
      items = ap (λ (ds : List Done). ds ++ note ∷ []) so.items ∙ append_assoc all so.more (note ∷ []);
      waits = (
        waited done.file ∷ so.waits.0,
        steps ∙ ap (λ (ss : List Step). waited done.file ∷ ss) so.waits.1,
        (refl, so.waits.2),
      );
      last = λ file has removed. elim (in_either file (take count all) (done ∷ []) (subst (HasRemoval file) front has)) [
        | inl before ↦ so.last file before (removed_before (steps_of now) (steps_of (now ++ note ∷ [])) waits file removed)
        | inr (inl here) ↦ here_waited done.file file (steps_of now) here.0 (subst (λ (ss : List Step). IsRemovedLast (changes_of file ss)) steps removed)
        | inr (inr none) ↦ none
      ];
    }
  where
    here_waited : (one other : File) (older : List Step) → same_file one other ≡ true → IsRemovedLast (changes_of other (waited one ∷ older)) → ⊥
    here_waited one other older same removed =
        let at_one : IsRemovedLast (changes_of one (waited one ∷ older)) = subst (λ (f : File). IsRemovedLast (changes_of f (waited one ∷ older))) (sym (same_file-true one other same)) removed in
        subst IsRemovedLast (changes-same one Synced older) at_one

-- all of them
pub all_noted : (all now : List Done) (count : ℕ) → WaitsNoted all now count → length all ≡ count → RemovalsLast (steps_of now)
all_noted all now count so end = λ file removed.
    so.last file (subst (HasRemoval file) (sym (take_all count all (omega (arith, end)))) (noted file all (removed_before (steps_of all) (steps_of now) so.waits file removed))) removed
