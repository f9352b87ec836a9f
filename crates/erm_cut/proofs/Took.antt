-- The steps of a horizon and of a cut, one after another, and by the classes that callers ask for.
use Rattle.std.proofs.Common.{◌≡◌, ⊎_elim, ℕ, ◌+◌, List, [], ◌∷◌, length, refl, sym, ap, ◌∙◌, subst, arith}
use Rattle.erm_machine.specs.declared.event.Kind.TheVariants.{LoadBegin, LoadTail}
use Rattle.erm_machine.specs.declared.event.TailUse.TheVariants.{Horizon}
use Rattle.erm_machine.specs.Life.{lower}
use Rattle.erm_model.specs.RowTransaction.{Law}
use Rattle.erm_rule.specs.declared.view.Book.{Book}
use Rattle.erm_rule.specs.Steps.{Booked}
use Rattle.erm_rule.specs.Went.{Went, AllSteps, IsLoadStep, IsStillStep}
use Rattle.erm_rule.proofs.Wents.{loads_still, went_more, went_one}
use Rattle.erm_cut.specs.Took.{TookCut, TookDetach, TookHorizon, horizon_loads}

pub horizon_starts : (law : Law) (who tail : ℕ) (b e : Book) → Booked law b who (LoadTail Horizon) tail e → TookHorizon law who 1 tail b e
horizon_starts law who tail b e booked = record { tail = tail; words = []; count = refl; least_is = refl; took = (b, refl, booked) }

one_more : (seat : ℕ) (words : List ℕ) (word : ℕ) → length words + 1 ≡ seat → length (word ∷ words) + 1 ≡ seat + 1
one_more seat words word count = omega (arith, count)

pub horizon_goes_on : (law : Law) (who seat least word next : ℕ) (b m e : Book) → TookHorizon law who seat least b m → Booked law m who (LoadBegin seat) word e → next ≡ lower least word → TookHorizon law who (seat + 1) next b e
horizon_goes_on law who seat least word next b m e so booked is = record {
  tail = so.tail;
  words = word ∷ so.words;
  count = one_more seat so.words word so.count;
  least_is = is ∙ ap (λ (n : ℕ). lower n word) so.least_is;
  took = (m, so.took, subst (λ (n : ℕ). Booked law m who (LoadBegin n) word e) (sym so.count) booked);
}

all_loads : (tail : ℕ) (words : List ℕ) → AllSteps IsLoadStep (horizon_loads tail words)
all_loads tail [] = (tt, tt)
all_loads tail (word ∷ words) = (tt, all_loads tail words)

pub horizon_loads_alone : (law : Law) (who next least : ℕ) (b e : Book) → TookHorizon law who next least b e → Went law who IsLoadStep b e
horizon_loads_alone law who next least b e so = record { steps = horizon_loads so.tail so.words; took = so.took; all = all_loads so.tail so.words }

pub detach_still : (law : Law) (who count : ℕ) (b e : Book) → TookDetach law who count b e → Went law who IsStillStep b e
detach_still law who count b e took = went_more law who IsStillStep b took.swapped e (went_one law who IsStillStep _ took.link b took.swapped tt took.swap) (loads_still law who took.swapped e took.loads)

pub cut_still : (law : Law) (who count : ℕ) (b e : Book) → TookCut law who count b e → Went law who IsStillStep b e
cut_still law who count b e took =
    ⊎_elim (λ (t : (count ≡ 0) × Went law who IsLoadStep b e). loads_still law who b e t.1)
    (λ (t : (m : Book) × Went law who IsLoadStep b m × TookDetach law who count m e). went_more law who IsStillStep b t.0 e (loads_still law who b t.0 t.1) (detach_still law who count t.0 e t.2))
    took
