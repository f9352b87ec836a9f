-- The steps of calls, by the classes that callers ask for.
use Rattle.std.proofs.Common.{◌≡◌, ⊎_elim, ℕ, zero, suc, ◌+◌, List, [], ◌∷◌, ◌++◌, Option, refl, sym, subst, arith}
use Rattle.std.specs.Prelude.{slice_index}
use Rattle.erm_machine.specs.declared.event.Counter.TheVariants.{Cells}
use Rattle.erm_machine.specs.declared.event.Kind.{Kind}
use Rattle.erm_machine.specs.declared.event.Kind.TheVariants as kind
use Rattle.erm_machine.specs.declared.part.Part.{Part}
use Rattle.erm_machine.specs.declared.version.CellWord.{CellWord}
use Rattle.erm_machine.specs.declared.version.CellWord.TheVariants as word
use Rattle.erm_model.specs.declared.TheConstants.{ROW_WORDS}
use Rattle.erm_model.specs.RowTransaction.{Law}
use Rattle.erm_rule.specs.declared.view.Book.{Book}
use Rattle.erm_rule.specs.Steps.{Booked}
use Rattle.erm_rule.specs.Views.{part_of}
use Rattle.erm_rule.specs.Went.{Took, Went, IsLoadStep, IsStillStep}
use Rattle.erm_rule.proofs.Wents.{loads_still, went_as, went_more, went_none, went_step}
use Rattle.erm_cells.specs.declared.answer.Head.{Head}
use Rattle.erm_cells.specs.declared.answer.Head.TheVariants.{Owned, Walked}
use Rattle.erm_cells.specs.Heads.{head_value_at, head_word_at, link_of}
use Rattle.erm_cells.specs.Placed.{own_kind, place_of}
use Rattle.erm_cells.specs.Took.{IsEndStep, IsStoreStep, TookCopy, TookCount, TookDraw, TookFind, TookHeadWords, TookNoCount, TookRow, TookStores}
use Rattle.erm_cells.proofs.Rating.{not_bare}

-- a list with a last cell draws without a step
pub drawn_spare : (law : Law) (who : ℕ) (cells front : List ℕ) (cell : ℕ) (b : Book) → cells ≡ front ++ cell ∷ [] → TookDraw law who cells cell b b
drawn_spare law who [] front cell b is = absurd (not_bare front cell (sym is))
drawn_spare law who (spare ∷ more) front cell b is = refl

pub drawn_counted : (law : Law) (who : ℕ) (cells : List ℕ) (cell : ℕ) (b e : Book) → cells ≡ [] → TookCount law who cell b e → TookDraw law who cells cell b e
drawn_counted law who cells cell b e is took = subst (λ (cs : List ℕ). TookDraw law who cs cell b e) (sym is) took

-- a find is loads
pub find_loads : (law : Law) (who oid : ℕ) (head : Head) (b e : Book) → TookFind law who oid head b e → Went law who IsLoadStep b e
find_loads law who oid (Owned entry) b e took = record { steps = (kind.LoadEntry oid, entry) ∷ []; took = took; all = (tt, tt) }
find_loads law who oid (Walked entry stamp) b e took =
    record { steps = (kind.LoadCell took.0 word.Stamp, stamp) ∷ (kind.LoadEntry oid, entry) ∷ []; took = took.1; all = (tt, (tt, tt)) }

-- one more word was stored
pub stores_more : (law : Law) (who place cell : ℕ) (words : ℕ → CellWord) (values : ℕ → ℕ) (k : ℕ) (x : Part) (b m e : Book) → place_of cell x ≡ place → TookStores law who place cell words values k b m
    → (w : CellWord) → w ≡ words k → (value : ℕ) → value ≡ values k → (found : ℕ) × Booked law m who (own_kind x cell w value) found e → TookStores law who place cell words values (k + 1) b e
stores_more law who place cell words values k x b m e at took w w_is value value_is booked =
    subst (λ (n : ℕ). TookStores law who place cell words values n b e) next (
      m,
      took,
      booked.0,
      subst (λ (n : ℕ). Booked law m who (kind.StoreCell n cell (words k) (values k)) booked.0 e) at
          (subst (λ (u : CellWord). Booked law m who (own_kind x cell u (values k)) booked.0 e) w_is (subst (λ (n : ℕ). Booked law m who (own_kind x cell w n) booked.0 e) value_is booked.1)),
    )
  where
    next : suc k ≡ k + 1
    next = omega arith

-- words that are stored one after another are stores into an own cell
stores_went : (law : Law) (who place cell : ℕ) (words : ℕ → CellWord) (values : ℕ → ℕ) (n : ℕ) (b e : Book) → TookStores law who place cell words values n b e → Went law who IsStoreStep b e
stores_went law who place cell words values zero b e same = subst (λ (z : Book). Went law who IsStoreStep b z) (sym same) (went_none law who IsStoreStep b)
stores_went law who place cell words values (suc n) b e took =
    went_step law who IsStoreStep b took.0 e (kind.StoreCell place cell (words n) (values n)) took.2 (stores_went law who place cell words values n b took.0 took.1) tt took.3

pub head_went : (law : Law) (who cell stamp : ℕ) (link : Option ℕ) (b e : Book) → TookHeadWords law who cell stamp link b e → Went law who IsStoreStep b e
head_went law who cell stamp link b e took = stores_went law who (place_of cell (part_of b.view who)) cell head_word_at (λ n. head_value_at stamp (link_of link) (head_word_at n)) 6 b e took

pub row_went : (law : Law) (who cell : ℕ) (row : List ℕ) (b e : Book) → TookRow law who cell row b e → Went law who IsStoreStep b e
row_went law who cell row b e took = stores_went law who (place_of cell (part_of b.view who)) cell (λ n. word.Row n) (λ n. slice_index row n) ROW_WORDS b e took

-- a store into an own cell leaves the log's end and the place flushed
store_still : (k : Kind) (found : ℕ) → IsStoreStep k found → IsStillStep k found
store_still (kind.StoreCell claim cell w value) found is = tt
store_still _ found is = absurd is

pub stores_still : (law : Law) (who : ℕ) (b e : Book) → Went law who IsStoreStep b e → Went law who IsStillStep b e
stores_still law who b e went = went_as law who IsStoreStep IsStillStep b e store_still went

pub stores_end : (law : Law) (who : ℕ) (b e : Book) → Went law who IsStoreStep b e → Went law who IsEndStep b e
stores_end law who b e went = went_as law who IsStoreStep IsEndStep b e store_end went
  where
    store_end : (k : Kind) (found : ℕ) → IsStoreStep k found → IsEndStep k found
    store_end (kind.StoreCell claim cell w value) found is = tt
    store_end _ found is = absurd is

end_still : (k : Kind) (found : ℕ) → IsEndStep k found → IsStillStep k found
end_still (kind.AddTail size) found is = is
end_still (kind.StoreFlushed value) found is = is
end_still (kind.Split other) found is = is
end_still (kind.Join other) found is = is
end_still _ found is = tt

pub ends_still : (law : Law) (who : ℕ) (b e : Book) → Went law who IsEndStep b e → Went law who IsStillStep b e
ends_still law who b e went = went_as law who IsEndStep IsStillStep b e end_still went

-- and so do a draw and a copy
pub draw_still : (law : Law) (who : ℕ) (cells : List ℕ) (cell : ℕ) (b e : Book) → TookDraw law who cells cell b e → Went law who IsStillStep b e
draw_still law who [] cell b e took = record { steps = (kind.AddCounter Cells, cell) ∷ (kind.LoadCounter Cells, took.0) ∷ []; took = took.1; all = (tt, (tt, tt)) }
draw_still law who (spare ∷ more) cell b e same = subst (λ (z : Book). Went law who IsStillStep b z) (sym same) (went_none law who IsStillStep b)

pub no_count_still : (law : Law) (who seen : ℕ) (b e : Book) → TookNoCount law who seen b e → Went law who IsStillStep b e
no_count_still law who seen b e took =
    ⊎_elim (λ (t : Took law who ((kind.LoadCounter Cells, seen) ∷ []) b e). record { steps = (kind.LoadCounter Cells, seen) ∷ []; took = t; all = (tt, tt) })
    (λ (t : (first : ℕ) × Took law who ((kind.AddCounter Cells, seen) ∷ (kind.LoadCounter Cells, first) ∷ []) b e). record { steps = (kind.AddCounter Cells, seen) ∷ (kind.LoadCounter Cells, t.0) ∷ []; took = t.1; all = (tt, (tt, tt)) })
    took

pub copy_still : (law : Law) (who cell : ℕ) (row : List ℕ) (b e : Book) → TookCopy law who cell row b e → Went law who IsStillStep b e
copy_still law who cell row b e took = went_more law who IsStillStep b took.0 e (loads_still law who b took.0 took.1) (stores_still law who took.0 e (row_went law who cell row took.0 e took.2))
