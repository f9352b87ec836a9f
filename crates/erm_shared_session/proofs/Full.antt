-- A claim of a session of the word table that was refused for want of a cell: how many were drawn, and that all are, in each world in which all may end.
use Rattle.std.proofs.Common.{◌≡◌, ℕ, zero, suc, ◌≤◌, ap, subst, sym, arith, le_trans}
use Rattle.erm_model.specs.declared.limits.TheConstants.{TABLE_CELLS}
use Rattle.erm_model.specs.declared.row_stop.RowStop.TheVariants as stop
use Rattle.erm_model.specs.RowTransaction.{Law}
use Rattle.erm_machine.specs.Core.{Core}
use Rattle.erm_rows.specs.Claims.{WasCells}
use Rattle.erm_rule.specs.declared.view.Book.{Book}
use Rattle.erm_rule.specs.Books.{IsBookOf, PassesIn}
use Rattle.erm_session.specs.Calls.{RefusesClaim}
use Rattle.erm_world.specs.Calls.{AreAllDrawn, IsJustAbove}
use Rattle.erm_world.specs.World.{Opening, View}
use Rattle.erm_own_view.specs.Own.{EndsIn, own_view}
use Rattle.erm_shared_session.proofs.Standing.{Rise}

-- where all cells were drawn in each state of a book, so it is in each world in which all may end
abbrev pub AllDrawn : Law → Type 0
AllDrawn law = (seat : ℕ) (b : Book) (own f : View) → EndsIn law seat b own f → ((c : Core) → IsBookOf b c → TABLE_CELLS ≤ c.shared.cells_drawn) → AreAllDrawn f

-- cells that were drawn stay so
drawn_on : Rise → (n : ℕ) (c d : Core) → PassesIn n c d → c.shared.cells_drawn ≤ d.shared.cells_drawn
drawn_on rises zero c d same = let is : c.shared.cells_drawn ≡ d.shared.cells_drawn = ap (λ (z : Core). z.shared.cells_drawn) same in omega (arith, is)
drawn_on rises (suc n) c d leads =
    le_trans (drawn_on rises n c leads.0 leads.1) (rises leads.0 d leads.2.1.0 leads.2.1.1 leads.2.0 leads.2.1.2).cells_drawn

module _ (law : Law) (rises : Rise) (all : AllDrawn law) (seat tail flushed oid drawn : ℕ) (b e : Book) (refuses : RefusesClaim b.view seat oid (stop.CellsFull drawn) e.view) where
  above : TABLE_CELLS ≤ drawn
  above = refuses.refused.none.none.all_drawn

  just_above : IsJustAbove TABLE_CELLS drawn
  just_above =
      let none = refuses.refused.none.none in
      let most = none.sound.common.counters.cells in
      (above, omega (arith, most, none.counted, none.limit))

  pub cells_met : WasCells b drawn e → (f : View) → EndsIn law seat e (own_view seat tail flushed e) f → IsJustAbove f.opening.cells drawn × AreAllDrawn f
  cells_met was f end =
      let cells : f.opening.cells ≡ TABLE_CELLS = ap (λ (o : Opening). o.cells) end.within.opening in (
        subst (λ (n : ℕ). IsJustAbove n drawn) (sym cells) just_above,
        all seat e (own_view seat tail flushed e) f end
            (λ c is.
            let met = was c is in
            let rest = drawn_on rises met.later.0 met.state c met.later.1 in
            let count = met.met in
            let low = above in
            omega (arith, rest, count, low)),
      )
