-- The steps of calls of several steps, the last one first, with the words that they found.
use Rattle.std.specs.Prelude.{◌≡◌, ◌⊎◌, ℕ, zero, suc, List, [], ◌∷◌, slice_index, Option}
use Rattle.erm_machine.specs.declared.event.Counter.TheVariants.{Cells}
use Rattle.erm_machine.specs.declared.event.Kind.{Kind}
use Rattle.erm_machine.specs.declared.event.Kind.TheVariants as kind
use Rattle.erm_machine.specs.declared.version.CellWord.{CellWord}
use Rattle.erm_machine.specs.declared.version.CellWord.TheVariants as word
use Rattle.erm_machine.specs.declared.version.VersionAt.{VersionAt}
use Rattle.erm_model.specs.declared.TheConstants.{ROW_WORDS}
use Rattle.erm_model.specs.RowTransaction.{Law}
use Rattle.erm_rule.specs.declared.view.Book.{Book}
use Rattle.erm_rule.specs.Steps.{Booked}
use Rattle.erm_rule.specs.Views.{part_of}
use Rattle.erm_rule.specs.Went.{Took, Went, IsLoadStep}
use Rattle.erm_cells.specs.Heads.{head_value_at, head_word_at, link_of}
use Rattle.erm_cells.specs.Placed.{place_of}
use Rattle.erm_cells.specs.declared.answer.Head.{Head}
use Rattle.erm_cells.specs.declared.answer.Head.TheVariants.{Owned, Walked}

-- a store into a claim's own cell
abbrev pub IsStoreStep : Kind → ℕ → Type 0
IsStoreStep (kind.StoreCell claim cell w value) found = Unit {0}
IsStoreStep k found = ⊥

-- a step of a transaction's end, after its decision or in place of one
abbrev pub IsEndStep : Kind → ℕ → Type 0
IsEndStep (kind.StoreCell claim cell w value) found = Unit {0}
IsEndStep (kind.RaiseReader version value) found = Unit {0}
IsEndStep (kind.StoreSucc version value) found = Unit {0}
IsEndStep (kind.StoreOverwriter version value) found = Unit {0}
IsEndStep (kind.Install oid head) found = Unit {0}
IsEndStep (kind.ClearReader version) found = Unit {0}
IsEndStep (kind.StoreBack value) found = Unit {0}
IsEndStep (kind.StoreBegin value) found = value ≡ 0
IsEndStep (kind.StoreState value) found = value ≡ 0
IsEndStep k found = ⊥

-- FIND. The object's entry was loaded; and then, if nobody owned it, the stamp of a version.
abbrev pub TookFind : Law → (who oid : ℕ) → Head → Book → Book → Type 0
TookFind law who oid (Owned entry) b e = Took law who ((kind.LoadEntry oid, entry) ∷ []) b e
TookFind law who oid (Walked entry stamp) b e = (version : VersionAt) × Took law who ((kind.LoadCell version word.Stamp, stamp) ∷ (kind.LoadEntry oid, entry) ∷ []) b e

-- DRAW. A cell from the counter, which was loaded and then raised.
abbrev pub TookCount : Law → (who cell : ℕ) → Book → Book → Type 0
TookCount law who cell b e = (seen : ℕ) × Took law who ((kind.AddCounter Cells, cell) ∷ (kind.LoadCounter Cells, seen) ∷ []) b e

-- A spare cell is drawn without a step.
abbrev pub TookDraw : Law → ℕ → List ℕ → ℕ → Book → Book → Type 0
TookDraw law who [] cell b e = TookCount law who cell b e
TookDraw law who (spare ∷ more) cell b e = e ≡ b

-- The counter was loaded, or raised after that, and found at this number.
abbrev pub TookNoCount : Law → (who seen : ℕ) → Book → Book → Type 0
TookNoCount law who seen b e = Took law who ((kind.LoadCounter Cells, seen) ∷ []) b e ⊎ ((first : ℕ) × Took law who ((kind.AddCounter Cells, seen) ∷ (kind.LoadCounter Cells, first) ∷ []) b e)

-- STORE. So many words were stored into this cell of the claim at a place, the first one first: these, with these values.
abbrev pub TookStores : Law → (who place cell : ℕ) → (ℕ → CellWord) → (ℕ → ℕ) → ℕ → Book → Book → Type 0
TookStores law who place cell words values zero b e = e ≡ b
TookStores law who place cell words values (suc n) b e =
    (m : Book) × TookStores law who place cell words values n b m × (found : ℕ) × Booked law m who (kind.StoreCell place cell (words n) (values n)) found e

-- The words before the row of a new version with this stamp and this link were, into the own cell of the claim that has it.
abbrev pub TookHeadWords : Law → (who cell stamp : ℕ) → Option ℕ → Book → Book → Type 0
TookHeadWords law who cell stamp link b e =
    TookStores law who (place_of cell (part_of b.view who)) cell head_word_at (λ n. head_value_at stamp (link_of link) (head_word_at n)) 6 b e

-- The words of this row were.
abbrev pub TookRow : Law → (who cell : ℕ) → List ℕ → Book → Book → Type 0
TookRow law who cell row b e = TookStores law who (place_of cell (part_of b.view who)) cell (λ n. word.Row n) (λ n. slice_index row n) ROW_WORDS b e

-- COPY. Loads, and then that row was stored into the own cell.
abbrev pub TookCopy : Law → (who cell : ℕ) → List ℕ → Book → Book → Type 0
TookCopy law who cell row b e = (m : Book) × Went law who IsLoadStep b m × TookRow law who cell row m e
