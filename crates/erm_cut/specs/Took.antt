-- The steps of a horizon and of a cut, the last one first, with the words that they found.
use Rattle.std.specs.Prelude.{◌≡◌, ◌⊎◌, ℕ, ◌+◌, List, [], ◌∷◌, ◌++◌, length, Some}
use Rattle.erm_machine.specs.declared.attempt.OwnCell.{OwnCell}
use Rattle.erm_machine.specs.declared.event.Kind.{Kind}
use Rattle.erm_machine.specs.declared.event.Kind.TheVariants.{LoadBegin, LoadTail}
use Rattle.erm_machine.specs.declared.event.TailUse.TheVariants.{Horizon}
use Rattle.erm_machine.specs.declared.version.VersionAt.{VersionAt}
use Rattle.erm_machine.specs.Core.{Core}
use Rattle.erm_machine.specs.Life.{lower}
use Rattle.erm_machine.specs.Reading.{cut_off}
use Rattle.erm_machine.specs.Step.{after_event}
use Rattle.erm_model.specs.RowTransaction.{Law}
use Rattle.erm_rule.specs.declared.view.Book.{Book}
use Rattle.erm_rule.specs.Books.{IsBookOf}
use Rattle.erm_rule.specs.Hands.{in_hand}
use Rattle.erm_rule.specs.Steps.{Booked}
use Rattle.erm_rule.specs.Views.{part_of}
use Rattle.erm_rule.specs.Went.{Took, Went, IsLoadStep}
use Rattle.erm_cells.specs.Hands.{swap_kind}

-- HORIZON. The load of this tail, and then those of the begin words of seats 1, 2 and so on, which are these, the last one first.
abbrev pub horizon_loads : ℕ → List ℕ → List (Kind × ℕ)
horizon_loads tail [] = (LoadTail Horizon, tail) ∷ []
horizon_loads tail (word ∷ words) = (LoadBegin (length words + 1), word) ∷ horizon_loads tail words

-- the least of a tail and of such words, but for zeros
abbrev pub least_word : ℕ → List ℕ → ℕ
least_word tail [] = tail
least_word tail (word ∷ words) = lower (least_word tail words) word

-- The tail and the begin words of the seats from 1 on, below `next`, were loaded one after another: this is their least.
pub record TookHorizon (law : Law) (who next least : ℕ) (b e : Book) : Type 0 where
  pub tail : ℕ
  pub words : List ℕ
  pub count : length words + 1 ≡ next
  pub least_is : least ≡ least_word tail words
  pub took : Took law who (horizon_loads tail words) b e

-- these are the cells of all versions of the object that are attached and older than this one, the oldest first
abbrev pub AreBehind : VersionAt → List OwnCell → Core → Type 0
AreBehind version cut c = cut ≡ cut_off version.place (c.shared.objects version.oid)

-- DETACH. The link of the version in hand was swapped, and then loads. Whatever state of the book the swap was taken in, these cells, so
-- many, were those of the versions behind: they are the seat's last spare ones.
pub record TookDetach (law : Law) (who count : ℕ) (b e : Book) : Type 0 where
  pub swapped : Book
  pub link : ℕ
  pub swap : Booked law b who (swap_kind (part_of b.view who)) link swapped
  pub cut : List OwnCell
  pub count_is : count ≡ length cut
  pub cells : (c d : Core) → IsBookOf b c → IsBookOf swapped d → after_event c who (swap_kind (part_of b.view who)) ≡ Some d → AreBehind (in_hand (part_of b.view who).task) cut c
  pub spare : (part_of e.view who).spare ≡ (part_of b.view who).spare ++ cut
  pub loads : Went law who IsLoadStep swapped e

-- CUT. Loads, by which no cell became a spare one; and then, where a version was found to cut behind, that.
abbrev pub TookCut : Law → (who count : ℕ) → Book → Book → Type 0
TookCut law who count b e = ((count ≡ 0) × Went law who IsLoadStep b e) ⊎ ((m : Book) × Went law who IsLoadStep b m × TookDetach law who count m e)
