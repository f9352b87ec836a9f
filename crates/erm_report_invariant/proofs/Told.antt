-- The commits told keep an invariant where the transactions do that committed.
use Rattle.std.proofs.Common.{◌≡◌, ℕ, List, [], ◌∷◌, refl}
use Rattle.std.specs.List.{All, cons_option}
use Rattle.std.proofs.lemmas.List.Elements.{All-cons, All-nil}
use Rattle.erm_model.specs.Committed.{Committed}
use Rattle.erm_model.specs.Database.{Database}
use Rattle.erm_model.proofs.Members.{∈-behind}
use Rattle.erm_good_report.specs.Transactions.{Aborts, Commits, Ending, Excludes, Transaction, Unfinished, committed_as, history_of, steps_of}
use Rattle.erm_invariant.specs.Invariant.{Keeps}
use Rattle.erm_report_invariant.specs.Reports.{CommitsKeep}

module _ (Invariant : Database → Type 0) where
  abbrev Kept : Committed → Type 0
  Kept c = Keeps Invariant c.steps

  keeps_as : (ending : Ending) (t : Transaction) (rest : List Committed) → ((stamp succ pred : ℕ) → ending ≡ Commits stamp succ pred → Keeps Invariant (steps_of t)) → All Kept rest
      → All Kept (cons_option (committed_as ending t) rest)
  keeps_as Unfinished t rest keeps others = others
  keeps_as (Commits stamp succ pred) t rest keeps others =
      All-cons Kept (record { session = t.session; number = t.number; begin = t.begin; stamp = stamp; succ = succ; pred = pred; steps = steps_of t }) rest (keeps stamp succ pred refl) others
  keeps_as (Excludes stamp succ pred) t rest keeps others = others
  keeps_as Aborts t rest keeps others = others

  pub commits_keep : CommitsKeep Invariant
  commits_keep [] keep = All-nil Kept
  commits_keep (t ∷ told) keep =
      keeps_as t.ending t (history_of told) (λ stamp succ pred is. keep t stamp succ pred (0, refl) is)
      (commits_keep told (λ u stamp succ pred m is. keep u stamp succ pred (∈-behind t told u m) is))
