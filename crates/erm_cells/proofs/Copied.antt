-- A row that is loaded and stored again, to copy it.
use Rattle.std.proofs.Common.{◌≡◌, ℕ, true, not, List, refl, sym, ap, ◌∙◌, subst}
use Rattle.erm_machine.specs.declared.task.Task.{Task}
use Rattle.erm_machine.specs.declared.task.Task.TheVariants as task
use Rattle.erm_machine.specs.Seat.{is_active}
use Rattle.erm_rule.specs.declared.view.View.{View}
use Rattle.erm_rule.specs.Views.{part_of, with_part}
use Rattle.erm_cells.specs.Placed.{place_of}
use Rattle.erm_cells.specs.Rows.{DidCopyRow, DidLoadBase, DidStoreRow, MayStoreRow, is_copying, newest_base, part_with_rows}
use Rattle.erm_cells.specs.Spare.{NewestOwns}

module _ (v : View) (who cell : ℕ) (copies : (part_of v who).task ≡ task.Copies 0) (row : List ℕ) (u : View) (loaded : DidLoadBase v who row u) where
  pub copy_active : is_active (part_of v who).place ≡ true → is_active (part_of u who).place ≡ true
  copy_active active = subst (λ (z : View). is_active (part_of z who).place ≡ true) (sym loaded.view_is) active

  pub copy_may : NewestOwns cell (part_of v who) → MayStoreRow cell row (part_of u who) (part_of u who).task
  copy_may owns =
      subst (λ (z : View). MayStoreRow cell row (part_of z who) (part_of z who).task) (sym loaded.view_is)
      (subst (λ (t : Task). MayStoreRow cell row (part_of v who) t) (sym copies) (refl, owns, loaded.row_is))

  pub did_copy : (w : View) → DidStoreRow u who cell row w → DidCopyRow v who cell w
  did_copy w did =
      let stored : DidStoreRow v who cell row w = subst (λ (z : View). DidStoreRow z who cell row w) loaded.view_is did in
      record {
        view_is = stored.view_is
            ∙ ap (λ (r : List ℕ). with_part who (part_with_rows (place_of cell (part_of v who)) r r (not (is_copying (part_of v who).task)) task.Rest (part_of v who)) v) loaded.row_is
            ∙ ap (λ (t : Task). with_part who (part_with_rows (place_of cell (part_of v who)) (newest_base (part_of v who)) (newest_base (part_of v who)) (not (is_copying t)) task.Rest (part_of v who)) v) copies;
        known = did.known;
      }
