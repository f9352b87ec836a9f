-- Drawing a cell from the counter.
use Rattle.std.proofs.Common.{◌≡◌, ℕ, Bool, true, false, [], List, length, ltb, Some, sym, ap, ◌∙◌, subst}
use Rattle.std.specs.Prelude.{if◌then◌else◌, nat_lt}
use Rattle.std.proofs.lemmas.Bool.{eq-eqb, ltb-false, ltb-true}
use Rattle.erm_model.specs.declared.limits.TheConstants.{TABLE_CELLS}
use Rattle.erm_machine.specs.declared.attempt.OwnCell.{OwnCell}
use Rattle.erm_machine.specs.declared.event.Counter.TheVariants.{Cells}
use Rattle.erm_machine.specs.declared.event.Kind.TheVariants as kind
use Rattle.erm_machine.specs.declared.part.Part.{Part}
use Rattle.erm_machine.specs.declared.task.Task.{Task}
use Rattle.erm_machine.specs.declared.task.Task.TheVariants as task
use Rattle.erm_machine.specs.Core.{Shared}
use Rattle.erm_machine.specs.Reading.{load_counter, with_cell}
use Rattle.erm_machine.specs.Seat.{with_task, is_active}
use Rattle.erm_machine.specs.Step.{part_after}
use Rattle.erm_machine.specs.Words.{blank_cell}
use Rattle.erm_rule.specs.declared.view.View.{View}
use Rattle.erm_rule.specs.Steps.{Ready, Told}
use Rattle.erm_rule.specs.Views.{part_in, part_of, with_part, IsView}
use Rattle.erm_rule.proofs.Numbered.{known_after}
use Rattle.erm_rule.proofs.Parts.{with_part-same}
use Rattle.erm_rule.proofs.Telling.{changed_here}
use Rattle.erm_cells.specs.Spare.{DidCount, DidRefuse}
use Rattle.erm_cells.proofs.Heads.{has}
use Rattle.erm_cells.proofs.Views.{when_true, both, ready_at, told_is, told_next}

-- the part after the load of the counter, and after its raise
abbrev seen_part : Bool → Part → Part
seen_part low x = with_task (if low then task.Pool else task.Refused) x

abbrev pub raised_part : ℕ → Bool → Part → Part
raised_part found low x = record x {
  task = if low then task.Fetched else task.Refused;
  current = record x.current { writes = if low then (with_cell (record { cell = found; words = blank_cell }) x.current).writes else x.current.writes };
}

module _ (v : View) (who : ℕ) (active : is_active (part_of v who).place ≡ true) where
  abbrev x : Part
  x = part_of v who

  module _ (draws : (part_of v who).task ≡ task.Draws) (bare : (part_of v who).spare ≡ []) where
    after_load : (found : ℕ) (s : Shared) → part_after who (kind.LoadCounter Cells) found s x ≡ Some (seen_part (ltb found s.cell_limit) x)
    after_load found s =
        subst (λ (t : Task). load_counter s.cell_limit Cells found x t ≡ Some (seen_part (ltb found s.cell_limit) x)) (sym draws)
        (when_true _ (seen_part (ltb found s.cell_limit) x) (both _ _ active (eq-eqb (length x.spare) 0 (ap (λ (l : List OwnCell). length l) bare))))

    pub ready_load : Ready v who (kind.LoadCounter Cells)
    ready_load =
        ready_at v who (kind.LoadCounter Cells) x (has v who active) (λ c. seen_part (ltb c.shared.cells_drawn c.shared.cell_limit) x) (λ c sound. after_load c.shared.cells_drawn c.shared)

    pub loaded_is : (found : ℕ) (w : View) → Told v who (kind.LoadCounter Cells) found w → w ≡ with_part who (seen_part (ltb found TABLE_CELLS) x) v
    loaded_is found w told =
        told_is v who (kind.LoadCounter Cells) found w x (seen_part (ltb found told.before.shared.cell_limit) x) (has v who active) told (after_load found told.before.shared)
        ∙ ap (λ (n : ℕ). with_part who (seen_part (ltb found n) x) v) told.limit

    -- there is none left
    pub refused_first : (found : ℕ) (w : View) → Told v who (kind.LoadCounter Cells) found w → nat_lt found TABLE_CELLS ≡ false → DidRefuse v who found w
    refused_first found w told high = record {
      view_is = loaded_is found w told ∙ ap (λ (b : Bool). with_part who (seen_part b x) v) high;
      known = known_after v who (kind.LoadCounter Cells) found w told;
      counting = task.Draws;
      state = told.before;
      sound = told.sound;
      is_view = subst (λ (u : View). IsView u told.before) (sym (unchanged ∙ with_part-same who x v told.in_order (has v who active))) told.is_view;
      limit = told.limit;
      counted = told.met;
      all_drawn = ltb-false found TABLE_CELLS high;
      bare = bare;
    }
      where
        unchanged : with_part who (with_task task.Draws x) v ≡ with_part who x v
        unchanged = ap (λ (t : Task). with_part who (with_task t x) v) (sym draws)

    module _ (seen : ℕ) (u : View) (first : Told v who (kind.LoadCounter Cells) seen u) (low : nat_lt seen TABLE_CELLS ≡ true) where
      abbrev pool : Part
      pool = with_task task.Pool x

      pool_is : u ≡ with_part who pool v
      pool_is = loaded_is seen u first ∙ ap (λ (b : Bool). with_part who (seen_part b x) v) low

      pub has_pool : part_in u who ≡ Some pool
      has_pool = changed_here v who u pool x (has v who active) pool_is

      after_add : (found : ℕ) (s : Shared) → part_after who (kind.AddCounter Cells) found s pool ≡ Some (raised_part found (ltb found s.cell_limit) x)
      after_add found s = when_true (is_active x.place) (raised_part found (ltb found s.cell_limit) x) active

      pub ready_add : Ready u who (kind.AddCounter Cells)
      ready_add =
          ready_at u who (kind.AddCounter Cells) pool has_pool (λ c. raised_part c.shared.cells_drawn (ltb c.shared.cells_drawn c.shared.cell_limit) x) (λ c sound. after_add c.shared.cells_drawn c.shared)

      module _ (found : ℕ) (w : View) (told : Told u who (kind.AddCounter Cells) found w) where
        raised_is : w ≡ with_part who (raised_part found (ltb found TABLE_CELLS) x) v
        raised_is =
            told_next v who (kind.AddCounter Cells) found u w pool x (raised_part found (ltb found told.before.shared.cell_limit) x) (has v who active) pool_is told (after_add found told.before.shared)
            ∙ ap (λ (n : ℕ). with_part who (raised_part found (ltb found n) x) v) told.limit

        pub refused_then : nat_lt found TABLE_CELLS ≡ false → DidRefuse v who found w
        refused_then high = record {
          view_is = raised_is ∙ ap (λ (b : Bool). with_part who (raised_part found b x) v) high;
          known = known_after u who (kind.AddCounter Cells) found w told;
          counting = task.Pool;
          state = told.before;
          sound = told.sound;
          is_view = subst (λ (z : View). IsView z told.before) pool_is told.is_view;
          limit = told.limit;
          counted = told.met;
          all_drawn = ltb-false found TABLE_CELLS high;
          bare = bare;
        }

        pub did_count : nat_lt found TABLE_CELLS ≡ true → DidCount v who found w
        did_count below = record {
          view_is = raised_is ∙ ap (λ (b : Bool). with_part who (raised_part found b x) v) below;
          small = ltb-true found TABLE_CELLS below;
          known = known_after u who (kind.AddCounter Cells) found w told;
        }
