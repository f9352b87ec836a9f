-- The lines of commits, place by place.
use Rattle.std.proofs.Common.{◌≡◌, ℕ, ◌+◌, ◌<◌, List, [], ◌∷◌, ◌++◌, Option, Some, None, slice_get, get_or, take, length, sym, ap, ◌∙◌, append_assoc, append-nil}
use Rattle.std.specs.List.{cons_option}
use Rattle.std.proofs.lemmas.List.{take_more, map-append}
use Rattle.std.proofs.lemmas.List.Elements.{filter_map-append}
use Rattle.erm_audit.specs.Order.{commits_at}
use Rattle.erm_model.specs.declared.history.Commit.{Commit}
use Rattle.erm_report.specs.declared.line.Line.{Line}
use Rattle.erm_report.specs.declared.line.Line.TheVariants as line
use Rattle.erm_inspect.specs.Audits.{logged, order_lines}

-- the commits at one more place
commits_more : (commits : List Commit) (order : List ℕ) (i : ℕ) (o : Option Commit) → i < length order → slice_get commits (get_or order i 0) ≡ o
    → commits_at commits (take (i + 1) order) ≡ commits_at commits (take i order) ++ cons_option o []
commits_more commits order i o within at =
    ap (commits_at commits) (take_more order i 0 within) ∙ filter_map-append (slice_get commits) (take i order) (get_or order i 0 ∷ [])
    ∙ ap (λ v. commits_at commits (take i order) ++ cons_option v []) at

-- their lines
pub commit_more : (commits : List Commit) (order : List ℕ) (i : ℕ) (c : Commit) (first before now : List Line) → i < length order → slice_get commits (get_or order i 0) ≡ Some c
    → before ≡ first ++ order_lines commits (commits_at commits (take i order)) → now ≡ before ++ logged c ∷ []
    → now ≡ first ++ order_lines commits (commits_at commits (take (i + 1) order))
commit_more commits order i c first before now within at was is =
    is ∙ ap (λ ls. ls ++ logged c ∷ []) was
    ∙ append_assoc first (order_lines commits (commits_at commits (take i order))) (logged c ∷ [])
    ∙ sym (ap (λ cs. first ++ order_lines commits cs) (commits_more commits order i (Some c) within at)
    ∙ ap (λ ls. first ++ line.Order (length commits) ∷ ls) (map-append logged (commits_at commits (take i order)) (c ∷ [])))

pub no_commit_more : (commits : List Commit) (order : List ℕ) (i : ℕ) (first before : List Line) → i < length order → slice_get commits (get_or order i 0) ≡ None
    → before ≡ first ++ order_lines commits (commits_at commits (take i order))
    → before ≡ first ++ order_lines commits (commits_at commits (take (i + 1) order))
no_commit_more commits order i first before within at was =
    was ∙ sym (ap (λ cs. first ++ order_lines commits cs) (commits_more commits order i None within at ∙ append-nil (commits_at commits (take i order))))
