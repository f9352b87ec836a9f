-- The whole cut, from what finding its place and detaching leave.
use Rattle.std.proofs.Common.{◌≡◌, ℕ, true, List, [], inl, inr, refl, sym, ap, ◌∙◌, subst}
use Rattle.std.proofs.lemmas.List.{append-nil}
use Rattle.erm_machine.specs.declared.attempt.OwnCell.{OwnCell}
use Rattle.erm_machine.specs.declared.part.Part.{Part}
use Rattle.erm_machine.specs.declared.task.Task.TheVariants as task
use Rattle.erm_machine.specs.declared.version.VersionAt.{VersionAt}
use Rattle.erm_machine.specs.Reading.{after_cut}
use Rattle.erm_machine.specs.Seat.{with_task, is_active}
use Rattle.erm_rule.specs.declared.view.View.{View}
use Rattle.erm_rule.specs.Views.{part_of, with_part}
use Rattle.erm_rule.proofs.Parts.{with_part-again}
use Rattle.erm_rule.proofs.Telling.{part_of-changed}
use Rattle.erm_cells.proofs.Heads.{has}
use Rattle.erm_cells.specs.Spare.{SpareIs}
use Rattle.erm_cut.specs.Calls.{DidCut, DidDetach, DidFindCut, DidFindNone, HasSwapped, IsFoundCut, cut_part}

same_version_found : (a b : VersionAt) (m n : ℕ) → task.CutFound a m ≡ task.CutFound b n → a ≡ b
same_version_found a b m n e = cc

same_horizon_found : (a b : VersionAt) (m n : ℕ) → task.CutFound a m ≡ task.CutFound b n → m ≡ n
same_horizon_found a b m n e = cc

module _ (v : View) (who horizon : ℕ) (active : is_active (part_of v who).place ≡ true) where
  abbrev x : Part
  x = part_of v who

  -- a place was found
  module _ (cell : ℕ) (w : View) (found : DidFindCut v who horizon cell w) where
    abbrev found_part : Part
    found_part = with_task (task.CutFound found.version horizon) x

    found_is : part_of w who ≡ found_part
    found_is = part_of-changed v who w found_part x (has v who active) found.view_is

    pub active_found : is_active (part_of w who).place ≡ true
    active_found = ap (λ (z : Part). is_active z.place) found_is ∙ active

    pub at_found : IsFoundCut (part_of w who).task cell
    at_found = subst (λ (z : Part). IsFoundCut z.task cell) (sym found_is) found.cell_is

    pub spare_found : (cells : List ℕ) → SpareIs cells x → SpareIs cells (part_of w who)
    spare_found cells spare = subst (λ (z : Part). SpareIs cells z) (sym found_is) spare

    pub did_cut : (count : ℕ) (u : View) → DidDetach w who count u → DidCut v who horizon count u
    did_cut count u done =
        let same : task.CutFound done.version done.horizon ≡ task.CutFound found.version horizon = sym done.swapped.task_is ∙ ap (λ (z : Part). z.task) found_is in
        let version : done.version ≡ found.version = same_version_found _ _ _ _ same in
        let bound : done.horizon ≡ horizon = same_horizon_found _ _ _ _ same in
        let swapped : HasSwapped (with_part who found_part v) who found.version horizon done.cut =
        subst (λ (t : View). HasSwapped t who found.version horizon done.cut) found.view_is
        (subst (λ (n : ℕ). HasSwapped w who found.version n done.cut) bound (subst (λ (a : VersionAt). HasSwapped w who a done.horizon done.cut) version done.swapped)) in
        record {
          cut = done.cut;
          place = inr (found.version, found.from, swapped);
          count_is = done.count_is;
          view_is =
              done.view_is
              ∙ ap (λ (z : Part). with_part who (cut_part done.cut z) w) found_is
              ∙ ap (λ (t : View). with_part who (cut_part done.cut x) t) found.view_is
              ∙ with_part-again who found_part (cut_part done.cut x) v;
          known = done.known;
        }

  -- there was none
  module _ (w : View) (none : DidFindNone v who horizon w) where
    pub cut_none : DidCut v who horizon 0 w
    cut_none = record {
      cut = [];
      place = inl (refl, none.passed);
      count_is = refl;
      view_is = none.view_is ∙ ap (λ (l : List OwnCell). with_part who (record x { task = after_cut x; spare = l }) v) (sym (append-nil x.spare));
      known = none.known;
    }

    pub spare_none : (cells : List ℕ) → SpareIs cells x → SpareIs cells (part_of w who)
    spare_none cells spare = subst (λ (z : Part). SpareIs cells z) (sym (part_of-changed v who w (with_task (after_cut x) x) x (has v who active) none.view_is)) spare
