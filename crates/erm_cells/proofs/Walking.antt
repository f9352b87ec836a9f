-- Steps on words of versions: the word met, and its number.
use Rattle.std.proofs.Common.{◌≡◌, ℕ, ◌<◌, true, Some, ap, subst}
use Rattle.std.specs.Prelude.{nat_lt, IsSome}
use Rattle.std.proofs.lemmas.Bool.{lt-ltb}
use Rattle.erm_layout.specs.declared.word.Word.TheVariants as table
use Rattle.erm_layout.specs.Layout.{HasNumber, IsInCell}
use Rattle.erm_layout.specs.Spots.{word_of_spot}
use Rattle.erm_model.specs.declared.limits.TheConstants.{TABLE_CELLS}
use Rattle.erm_machine.specs.declared.event.Kind.{Kind}
use Rattle.erm_machine.specs.declared.limits.TheConstants.{OBJECT_LIMIT}
use Rattle.erm_machine.specs.declared.version.CellWord.{CellWord}
use Rattle.erm_machine.specs.declared.version.VersionAt.{VersionAt}
use Rattle.erm_machine.specs.Core.{version_word, spot_of}
use Rattle.erm_rule.specs.declared.view.View.{View}
use Rattle.erm_rule.specs.Cells.{IsTold}
use Rattle.erm_rule.specs.Hands.{IsKnown}
use Rattle.erm_rule.specs.Steps.{Ready}
use Rattle.erm_rule.specs.Views.{part_in}
use Rattle.erm_rule.proofs.Numbered.{numbered}

-- an object below the limit
pub known_object : (oid : ℕ) → oid < OBJECT_LIMIT → nat_lt oid OBJECT_LIMIT ≡ true
known_object oid h = lt-ltb oid OBJECT_LIMIT h

-- the word of a version's cell
pub met_at : (v : VersionAt) (w : CellWord) (cell : ℕ) → v.cell ≡ cell → word_of_spot (version_word v w) ≡ Some (table.Cell cell w)
met_at v w cell is = ap (λ n. Some (table.Cell n w)) is

-- has a number, where the view is one of a sound state
pub number_at : (v : View) (who : ℕ) (k : Kind) (u : VersionAt) (w : CellWord) (cell : ℕ) → IsKnown v → IsSome (part_in v who) → IsTold k → Ready v who k
    → spot_of who k ≡ version_word u w → IsInCell w → u.cell ≡ cell → HasNumber (table.Cell cell w)
number_at v who k u w cell known has told ready is within same = (few, within)
  where
    has_number : HasNumber (table.Cell u.cell w)
    has_number = numbered v who k known has told ready u w is within

    few : cell < TABLE_CELLS
    few = subst (λ n. n < TABLE_CELLS) same has_number.0
