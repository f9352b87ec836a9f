-- What invariants that all commits keep give of the disk.
use Rattle.std.proofs.Common.{zero, List, [], ◌∷◌, inl, inr, refl}
use Rattle.erm_client.proofs.Commits.{each_told}
use Rattle.erm_client.proofs.Joined.{in_either}
use Rattle.erm_client.specs.Dealings.{commits_told}
use Rattle.erm_client.specs.declared.transcript.Transcript.{Transcript}
use Rattle.erm_client_disk.specs.Invariants.{AllKeepIt, CrashesKeepForClients, EndsKeepForClients}
use Rattle.erm_client_disk.specs.Leaves.{told_lines}
use Rattle.erm_client_told.specs.Told.{all_commits}
use Rattle.erm_disk_invariant.proofs.Crashes.{end_at_once_keeps, outliving_keeps}
use Rattle.erm_invariant.specs.Commits.{AllKeep, HoldsBelow, LastsInOrder}
use Rattle.erm_invariant.specs.Invariant.{Keeps}
use Rattle.erm_model.proofs.Members.{none_in_nil, ∈-behind}
use Rattle.erm_model.specs.Committed.{Committed, state_after}
use Rattle.erm_model.specs.Database.{Database}
use Rattle.erm_model.specs.Member.{◌∈◌}
use Rattle.erm_node.specs.TreeMap.{map_of_rows}
use Rattle.std.proofs.lemmas.Option.{slice_get-get_or}

module _ (Invariant : Database → Type 0) where
  kept_there : (all : List Transcript) → AllKeepIt Invariant all → (x : Committed) → x ∈ all_commits all → Keeps Invariant x.steps
  kept_there [] kept x there = absurd (none_in_nil x there)
  kept_there (c ∷ all) kept x there = elim (in_either (commits_told c) (all_commits all) x there) as (λ _. Keeps Invariant x.steps) [
    | inl here ↦ each_told (Keeps Invariant) c (kept c (zero, refl)) x here
    | inr later ↦ kept_there all (λ d m. kept d (∈-behind c all d m)) x later
  ]

  pub all_keep : (all : List Transcript) → AllKeepIt Invariant all → AllKeep Invariant (all_commits all)
  all_keep all kept = λ k d less. kept_there all kept _ (k, slice_get-get_or (all_commits all) k d less)

  pub crashes_keep : HoldsBelow Invariant → CrashesKeepForClients Invariant
  crashes_keep holds before after state all outlive found kept =
      outliving_keeps Invariant (all_commits all) state (holds (all_commits all) (map_of_rows state.rows) found (all_keep all kept) outlive.fronts) (told_lines all) before after outlive.outlives

  pub ends_keep : LastsInOrder Invariant → EndsKeepForClients Invariant
  ends_keep last before after state all closed done found kept =
      end_at_once_keeps Invariant (all_commits all) state (state_after done.order (map_of_rows state.rows)) before after
      (last (all_commits all) done.order (map_of_rows state.rows) (state_after done.order (map_of_rows state.rows)) found (all_keep all kept) done.serial done.runs).last done.leaves
