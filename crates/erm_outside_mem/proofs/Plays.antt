-- Notes played one after another on the disk that a crash leaves.
use Rattle.std.proofs.Common.{◌≡◌, ◌==◌, ◌<◌, ◌+◌, ◌++◌, ℕ, Bool, true, false, if◌then◌else◌, List, [], ◌∷◌, length, drop, take, get_or, refl, sym, ap, ◌∙◌, arith}
use Rattle.std.proofs.lemmas.List.{take_more, take_all, drop_all}
use Rattle.erm_outside.specs.declared.disk.File.{File}
use Rattle.erm_outside.specs.Disk.{Image, same_file, changes_of}
use Rattle.erm_outside_mem.specs.declared.notes.Done.{Done}
use Rattle.erm_outside_mem.specs.declared.picks.Pick.{Pick}
use Rattle.erm_outside_mem.specs.DiskNotes.{change_of, step_of, steps_of}
use Rattle.erm_outside_mem.specs.Picks.{played, picked, how_of}
use Rattle.erm_outside_mem.specs.Syncs.{is_sync, with_sync, less_sync, syncs_in}
use Rattle.erm_outside_mem.proofs.NotedSteps.{steps-push}
use Rattle.erm_outside_mem.proofs.Picked.{shown, linked, step_shown, same_file-true}
use Rattle.erm_outside_mem.proofs.SyncCounts.{drop-note}

-- after these notes of all, with so many syncs left of each file, the disk has these bytes
pub record Plays (pick : Pick) (all : List Done) (i : ℕ) (left : File → ℕ) (image : Image) : Type 0 where
  pub counts : (file : File) → left file ≡ syncs_in file (drop i all)
  pub shows : (file : File) → image file ≡ shown (left file == 0) pick (changes_of file (steps_of (take i all)))

less_with : (same sync : Bool) (n : ℕ) → less_sync same sync (with_sync same sync n) ≡ n
less_with true true n = omega arith
less_with true false n = refl
less_with false true n = refl
less_with false false n = refl

shown_first : (p : Bool) (pick : Pick) → [] ≡ shown p pick []
shown_first true pick = refl
shown_first false pick = refl

-- before the first note
pub plays_none : (pick : Pick) (all : List Done) (left : File → ℕ) (image : Image) → ((file : File) → left file ≡ syncs_in file all) → ((file : File) → image file ≡ []) → Plays pick all 0 left image
plays_none pick all left image counts none = record {
  counts = counts;
  shows = λ file. none file ∙ shown_first (left file == 0) pick;
}

-- one note more
pub plays_more : (pick : Pick) (all : List Done) (i : ℕ) (note : Done) (left fewer : File → ℕ) (image later : Image) → Plays pick all i left image → i < length all → note ≡ get_or all i note
    → ((file : File) → fewer file ≡ less_sync (same_file note.file file) (is_sync note.work) (left file))
    → ((file : File) → later file ≡ (if same_file note.file file then played (how_of (left note.file == 0) pick) (change_of note.work) (image file) else image file))
    → Plays pick all (i + 1) fewer later
plays_more pick all i note left fewer image later so lt is counted lands =
    let rest = drop (i + 1) all in
    let split : drop i all ≡ note ∷ rest = drop-note all i note lt is in
    let before : (file : File) → left file ≡ with_sync (same_file note.file file) (is_sync note.work) (syncs_in file rest) = (λ file. so.counts file ∙ ap (λ notes. syncs_in file notes) split) in
    let behind : (file : File) → fewer file ≡ syncs_in file rest = (λ file. counted file ∙ ap (λ n. less_sync (same_file note.file file) (is_sync note.work) n) (before file) ∙ less_with (same_file note.file file) (is_sync note.work) (syncs_in file rest)) in
    let front : take (i + 1) all ≡ take i all ++ note ∷ [] = take_more all i note lt ∙ ap (λ (d : Done). take i all ++ d ∷ []) (sym is) in
    let steps : steps_of (take (i + 1) all) ≡ step_of note ∷ steps_of (take i all) = ap steps_of front ∙ steps-push (take i all) note in
    record {
      counts = behind;
      shows = λ file.
          let link = linked (same_file note.file file) (is_sync note.work) (left file) (fewer file) (before file ∙ ap (λ n. with_sync (same_file note.file file) (is_sync note.work) n) (sym (behind file))) in
          step_shown (same_file note.file file) note.work pick (left note.file == 0) (left file == 0) (fewer file == 0) (changes_of file (steps_of (take i all))) (image file) (later file) link
          (λ e. ap (λ f. left f == 0) (same_file-true note.file file e)) (so.shows file) (lands file)
          ∙ ap (λ s. shown (fewer file == 0) pick (changes_of file s)) (sym steps);
    }

-- all of them
pub plays_all : (pick : Pick) (all : List Done) (i : ℕ) (left : File → ℕ) (image : Image) → Plays pick all i left image → length all ≡ i → (file : File) → image file ≡ picked pick (changes_of file (steps_of all))
plays_all pick all i left image so end file =
    let none : left file ≡ 0 = so.counts file ∙ ap (λ notes. syncs_in file notes) (drop_all i all (omega arith)) in
    so.shows file ∙ ap (λ n. shown (n == 0) pick (changes_of file (steps_of (take i all)))) none ∙ ap (λ notes. picked pick (changes_of file (steps_of notes))) (take_all i all (omega arith))
