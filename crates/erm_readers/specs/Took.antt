-- The steps of calls of several steps, the last one first, with the words that they found.
use Rattle.std.specs.Prelude.{◌≢◌, ℕ, [], ◌∷◌, Option, Some, None}
use Rattle.erm_machine.specs.declared.event.Kind.TheVariants as kind
use Rattle.erm_machine.specs.declared.version.CellWord.TheVariants as word
use Rattle.erm_machine.specs.declared.version.VersionAt.{VersionAt}
use Rattle.erm_model.specs.RowTransaction.{Law}
use Rattle.erm_rule.specs.declared.view.Book.{Book}
use Rattle.erm_rule.specs.Went.{Took}

-- RATE. The stamp of the version's overwriter was loaded; and then, where it has one, that one's successor stamp, which is this.
abbrev pub TookRate : Law → ℕ → VersionAt → Option ℕ → Book → Book → Type 0
TookRate law who version None b e = Took law who ((kind.LoadStamp version word.Overwriter, 0) ∷ []) b e
TookRate law who version (Some succ) b e =
    (overwriter : ℕ) × (overwriter ≢ 0) × Took law who ((kind.LoadStamp version word.OverwriterSucc, succ) ∷ (kind.LoadStamp version word.Overwriter, overwriter) ∷ []) b e

-- MARK. This successor stamp was stored into the version, and then this stamp as its overwriter's.
abbrev pub TookMarks : Law → ℕ → VersionAt → (stamp succ : ℕ) → Book → Book → Type 0
TookMarks law who version stamp succ b e =
    (first : ℕ) × (second : ℕ) × Took law who ((kind.StoreOverwriter version stamp, second) ∷ (kind.StoreSucc version succ, first) ∷ []) b e
