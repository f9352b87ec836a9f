-- The map after lines, and after commits, one more at a time.
use Rattle.std.proofs.Common.{◌≡◌, ℕ, ◌+◌, ◌<◌, List, [], ◌∷◌, ◌++◌, Option, Some, None, slice_get, get_or, take, length, refl, sym, ap, ◌∙◌}
use Rattle.std.specs.List.{cons_option, filter_map}
use Rattle.std.specs.Option.{option_map, option_to_list}
use Rattle.std.proofs.lemmas.List.{take_more}
use Rattle.std.proofs.lemmas.List.Elements.{filter_map-append}
use Rattle.std.proofs.lemmas.Option.{slice_get-map}
use Rattle.erm_model.specs.Committed.{Committed, state_after}
use Rattle.erm_model.specs.Database.{Database}
use Rattle.erm_model.specs.declared.operation.Op.{Op}
use Rattle.erm_model.specs.Run.{Saving, Step, after_all, change, change_all, ops_of}
use Rattle.erm_model.specs.Staying.{staying, staying_from, stays_by}
use Rattle.erm_model.proofs.InTurn.{in_turn-append}
use Rattle.erm_model.proofs.Stays.{after_all-staying, staying_from-push}
use Rattle.erm_report.specs.declared.answer.Answer.{Answer}
use Rattle.erm_script.specs.declared.script.ScriptLine.{ScriptLine}
use Rattle.erm_summary.specs.declared.told.ToldCommit.{ToldCommit}
use Rattle.erm_summary.specs.Told.{committed_as_told, history_told, op_at, step_at, steps_at}
use Rattle.erm_summary.specs.Summary.{at_places}

module _ (script : List ScriptLine) (answers : List Answer) where
  one_op : (o : Option Op) → cons_option o [] ≡ option_to_list o
  one_op None = refl
  one_op (Some op) = refl

  -- the operations of the steps at some places are those at the places
  one_at : (o : Option Step) (steps : List Step) → ops_of (cons_option o steps) ≡ cons_option (option_map (λ s. s.op) o) (ops_of steps)
  one_at None steps = refl
  one_at (Some s) steps = refl

  ops_at : (places : List ℕ) → ops_of (steps_at script answers places) ≡ filter_map (op_at script answers) places
  ops_at [] = refl
  ops_at (p ∷ places) = one_at (step_at script answers p) (steps_at script answers places) ∙ ap (cons_option (op_at script answers p)) (ops_at places)

  -- the map after lines, one of which may go back, is that after those that stay
  pub kept_lines_leave : (places kept : List ℕ) (m now : Database) → kept ≡ staying (op_at script answers) places → now ≡ change_all (filter_map (op_at script answers) kept) m
      → now ≡ after_all (ops_of (steps_at script answers places)) m
  kept_lines_leave places kept m now stay is =
      is ∙ ap (λ ps. change_all (filter_map (op_at script answers) ps) m) stay
      ∙ sym (ap (λ ops. after_all ops m) (ops_at places) ∙ after_all-staying (op_at script answers) m places)

  -- the map after one more line
  pub one_more_line : (places : List ℕ) (i : ℕ) (opening before now : Database) → i < length places → before ≡ change_all (filter_map (op_at script answers) (take i places)) opening
      → now ≡ change_all (option_to_list (op_at script answers (get_or places i 0))) before → now ≡ change_all (filter_map (op_at script answers) (take (i + 1) places)) opening
  one_more_line places i opening before now within was is =
      let p = get_or places i 0 in
      let front = take i places in
      let ops : filter_map (op_at script answers) (take (i + 1) places) ≡ filter_map (op_at script answers) front ++ option_to_list (op_at script answers p) =
      ap (filter_map (op_at script answers)) (take_more places i 0 within) ∙ filter_map-append (op_at script answers) front (p ∷ [])
      ∙ ap (λ more. filter_map (op_at script answers) front ++ more) (one_op (op_at script answers p))
      in
      is ∙ ap (λ m. change_all (option_to_list (op_at script answers p)) m) was
      ∙ sym (ap (λ os. change_all os opening) ops ∙ in_turn-append change (filter_map (op_at script answers) front) (option_to_list (op_at script answers p)) opening)

  -- what stays with one more line
  pub one_more_stays : (places : List ℕ) (i : ℕ) (first before now : Saving (List ℕ)) → i < length places → before ≡ staying_from (op_at script answers) (take i places) first
      → now ≡ stays_by (op_at script answers (get_or places i 0)) (get_or places i 0) before → now ≡ staying_from (op_at script answers) (take (i + 1) places) first
  one_more_stays places i first before now within was is =
      let p = get_or places i 0 in
      is ∙ ap (λ s. stays_by (op_at script answers p) p s) was
      ∙ sym (ap (λ ps. staying_from (op_at script answers) ps first) (take_more places i 0 within) ∙ staying_from-push (op_at script answers) (take i places) p first)

  -- the map after one more commit, or after a place that has none
  state_after-append : (xs ys : List Committed) (m : Database) → state_after (xs ++ ys) m ≡ state_after ys (state_after xs m)
  state_after-append [] ys m = refl
  state_after-append (x ∷ xs) ys m = state_after-append xs ys (after_all (ops_of x.steps) m)

  place_more : (commits : List ToldCommit) (order : List ℕ) (i : ℕ) (opening : Database) (o : Option ToldCommit) → i < length order → slice_get commits (get_or order i 0) ≡ o
      → state_after (at_places (history_told script answers commits) (take (i + 1) order)) opening
      ≡ state_after (cons_option (option_map (committed_as_told script answers) o) []) (state_after (at_places (history_told script answers commits) (take i order)) opening)
  place_more commits order i opening o within at =
      let told = history_told script answers commits in
      let p = get_or order i 0 in
      ap (λ places. state_after (at_places told places) opening) (take_more order i 0 within)
      ∙ ap (λ cs. state_after cs opening) (filter_map-append (slice_get told) (take i order) (p ∷ []))
      ∙ state_after-append (at_places told (take i order)) (cons_option (slice_get told p) []) opening
      ∙ ap (λ c. state_after (cons_option c []) (state_after (at_places told (take i order)) opening))
      (slice_get-map (committed_as_told script answers) commits p ∙ ap (option_map (committed_as_told script answers)) at)

  pub one_more_commit : (commits : List ToldCommit) (order : List ℕ) (i : ℕ) (opening before now : Database) (c : ToldCommit) → i < length order → slice_get commits (get_or order i 0) ≡ Some c
      → before ≡ state_after (at_places (history_told script answers commits) (take i order)) opening → now ≡ after_all (ops_of (steps_at script answers c.lines.items)) before
      → now ≡ state_after (at_places (history_told script answers commits) (take (i + 1) order)) opening
  one_more_commit commits order i opening before now c within at was is =
      is ∙ ap (λ m. after_all (ops_of (steps_at script answers c.lines.items)) m) was ∙ sym (place_more commits order i opening (Some c) within at)

  pub no_commit : (commits : List ToldCommit) (order : List ℕ) (i : ℕ) (opening before : Database) → i < length order → slice_get commits (get_or order i 0) ≡ None
      → before ≡ state_after (at_places (history_told script answers commits) (take i order)) opening
      → before ≡ state_after (at_places (history_told script answers commits) (take (i + 1) order)) opening
  no_commit commits order i opening before within at was = was ∙ sym (place_more commits order i opening None within at)
