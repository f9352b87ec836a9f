-- Where a sound state has the view's parts, the cell of the version that a step meets is one of the table's.
use Rattle.std.proofs.Common.{◌≡◌, ℕ, ◌<◌, true, sym, ap, ◌∙◌, subst}
use Rattle.std.specs.Prelude.{IsSome}
use Rattle.erm_layout.specs.declared.word.Word.TheVariants as table
use Rattle.erm_layout.specs.Layout.{HasNumber, IsInCell}
use Rattle.erm_machine.specs.declared.limits.TheConstants.{ANNOUNCERS}
use Rattle.erm_machine.specs.declared.event.Kind.{Kind}
use Rattle.erm_machine.specs.declared.version.CellWord.{CellWord}
use Rattle.erm_machine.specs.declared.version.CellWord.TheVariants as word
use Rattle.erm_machine.specs.declared.version.VersionAt.{VersionAt}
use Rattle.erm_machine.specs.Core.{version_word, spot_of, word_at}
use Rattle.erm_machine.specs.Step.{part_after, has_word}
use Rattle.erm_machine.specs.Words.{is_seat}
use Rattle.std.proofs.lemmas.Bool.{ltb-true}
use Rattle.erm_rule.specs.declared.view.View.{View}
use Rattle.erm_rule.specs.Cells.{IsTold}
use Rattle.erm_rule.specs.Hands.{IsKnown}
use Rattle.erm_rule.specs.Steps.{Ready, Told}
use Rattle.erm_rule.specs.Views.{part_in, IsInOrder}
use Rattle.erm_rule.proofs.Allowed.{of_seat, some_of}
use Rattle.erm_rule.proofs.Lives.{Meets, met_drawn, lives}
use Rattle.erm_rule.proofs.Parts.{found_among, order_after}

-- each step leaves a view that is one of a sound state
pub known_after : (v : View) (who : ℕ) (k : Kind) (found : ℕ) (w : View) → Told v who k found w → IsKnown w
known_after v who k found w told = record {
  core = told.after;
  sound = told.sound_after;
  cuts = told.cuts_after;
  is_view = told.is_view_after;
  limit = told.limit_after;
  in_order = subst IsInOrder (sym told.view_is) (order_after who told.part v told.in_order);
}

-- a word of a cell
pub has_place : (w : CellWord) → has_word w ≡ true → IsInCell w
has_place (word.Row k) e = ltb-true k 16 e
has_place _ e = tt

module _ (v : View) (who : ℕ) (k : Kind) (known : IsKnown v) (has : IsSome (part_in v who)) (told : IsTold k) (ready : Ready v who k) where
  known_seat : who < ANNOUNCERS
  known_seat =
      let x = some_of (part_in v who) has in
      let h = found_among who v.held x.0 x.1 in
      of_seat who (ap is_seat (sym h.2) ∙ known.in_order.seats h.0 h.1)

  pub known_met : Meets known.core who k
  known_met =
      let c = known.core in
      let y = some_of (part_after who k (word_at c (spot_of who k)) c.shared (c.seats who)) (ready c known.sound known.is_view) in
      lives c who known.sound k (word_at c (spot_of who k)) y.0 known_seat told y.1

  pub numbered : (u : VersionAt) (w : CellWord) → spot_of who k ≡ version_word u w → IsInCell w → HasNumber (table.Cell u.cell w)
  numbered u w is within = (subst (λ n. u.cell < n) known.limit (met_drawn known.core who known.sound k known_met u w is), within)
