-- The steps of a block's words, by the class that callers ask for.
use Rattle.std.proofs.Common.{ℕ}
use Rattle.erm_machine.specs.declared.event.Kind.{Kind}
use Rattle.erm_machine.specs.declared.event.Kind.TheVariants as kind
use Rattle.erm_model.specs.RowTransaction.{Law}
use Rattle.erm_rule.specs.declared.view.Book.{Book}
use Rattle.erm_rule.specs.Went.{Went, IsStillStep}
use Rattle.erm_rule.proofs.Wents.{went_as}
use Rattle.erm_ring.specs.Took.{IsFillStep}

fill_still : (k : Kind) (found : ℕ) → IsFillStep k found → IsStillStep k found
fill_still (kind.StoreRing at value) found is = tt
fill_still _ found is = absurd is

pub fills_still : (law : Law) (who : ℕ) (b e : Book) → Went law who IsFillStep b e → Went law who IsStillStep b e
fills_still law who b e went = went_as law who IsFillStep IsStillStep b e fill_still went
