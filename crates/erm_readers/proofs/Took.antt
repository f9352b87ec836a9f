-- The steps of calls, by the classes that callers ask for.
use Rattle.std.proofs.Common.{ℕ, [], ◌∷◌, Option, Some, None}
use Rattle.erm_machine.specs.declared.event.Kind.TheVariants as kind
use Rattle.erm_machine.specs.declared.version.CellWord.TheVariants as word
use Rattle.erm_machine.specs.declared.version.VersionAt.{VersionAt}
use Rattle.erm_model.specs.RowTransaction.{Law}
use Rattle.erm_rule.specs.declared.view.Book.{Book}
use Rattle.erm_rule.specs.Went.{Went, IsLoadStep}
use Rattle.erm_cells.specs.Took.{IsEndStep}
use Rattle.erm_readers.specs.Took.{TookMarks, TookRate}

-- to rate a version read is to load
pub rate_loads : (law : Law) (who : ℕ) (version : VersionAt) (succ : Option ℕ) (b e : Book) → TookRate law who version succ b e → Went law who IsLoadStep b e
rate_loads law who version None b e took = record { steps = (kind.LoadStamp version word.Overwriter, 0) ∷ []; took = took; all = (tt, tt) }
rate_loads law who version (Some succ) b e took =
    record { steps = (kind.LoadStamp version word.OverwriterSucc, succ) ∷ (kind.LoadStamp version word.Overwriter, took.0) ∷ []; took = took.2; all = (tt, (tt, tt)) }

-- and to mark one overwritten is part of an end
pub marks_end : (law : Law) (who : ℕ) (version : VersionAt) (stamp succ : ℕ) (b e : Book) → TookMarks law who version stamp succ b e → Went law who IsEndStep b e
marks_end law who version stamp succ b e took =
    record { steps = (kind.StoreOverwriter version stamp, took.1) ∷ (kind.StoreSucc version succ, took.0) ∷ []; took = took.2; all = (tt, (tt, tt)) }
