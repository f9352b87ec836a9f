-- A look is a load.
use Rattle.std.proofs.Common.{ℕ}
use Rattle.erm_machine.specs.declared.event.Kind.TheVariants.{LoadState}
use Rattle.erm_model.specs.RowTransaction.{Law}
use Rattle.erm_rule.specs.declared.view.Book.{Book}
use Rattle.erm_rule.specs.Went.{Went, IsLoadStep}
use Rattle.erm_rule.proofs.Wents.{went_one}
use Rattle.erm_seats.specs.declared.answer.Look.{Look}
use Rattle.erm_seats.specs.declared.answer.Look.TheVariants.{Clear, NotYet}
use Rattle.erm_seats.specs.Took.{TookLook}

pub look_loads : (law : Law) (who seat bound : ℕ) (answer : Look) (b e : Book) → TookLook law who seat bound answer b e → Went law who IsLoadStep b e
look_loads law who seat bound Clear b e took = went_one law who IsLoadStep (LoadState seat bound) took.0 b e tt took.2
look_loads law who seat bound (NotYet other seen) b e took = went_one law who IsLoadStep (LoadState other bound) seen b e tt took.2
