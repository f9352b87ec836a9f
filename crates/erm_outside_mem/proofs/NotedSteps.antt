-- Steps of notes.
use Rattle.std.proofs.Common.{◌≡◌, ◌+◌, ◌++◌, List, [], ◌∷◌, length, refl, arith}
use Rattle.erm_outside.specs.Disk.{Step}
use Rattle.erm_outside_mem.specs.declared.notes.Done.{Done}
use Rattle.erm_outside_mem.specs.DiskNotes.{step_of, steps_behind, steps_of}

steps_behind-push : (all : List Done) (done : Done) (steps : List Step) → steps_behind (all ++ done ∷ []) steps ≡ step_of done ∷ steps_behind all steps
steps_behind-push [] done steps = refl
steps_behind-push (first ∷ all) done steps = steps_behind-push all done (step_of first ∷ steps)

-- one note more
pub steps-push : (all : List Done) (done : Done) → steps_of (all ++ done ∷ []) ≡ step_of done ∷ steps_of all
steps-push all done = steps_behind-push all done []

behind-length : (all : List Done) (steps : List Step) → length (steps_behind all steps) ≡ length all + length steps
behind-length [] steps = omega arith
behind-length (done ∷ all) steps =
    let h : length (steps_behind all (step_of done ∷ steps)) ≡ length all + length (step_of done ∷ steps) = behind-length all (step_of done ∷ steps) in
    omega arith

-- each note is one step
pub steps-length : (all : List Done) → length (steps_of all) ≡ length all
steps-length all =
    let h : length (steps_behind all []) ≡ length all + 0 = behind-length all [] in
    omega arith
