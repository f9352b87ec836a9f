-- The steps of ends one after another, by the classes that callers ask for.
use Rattle.std.proofs.Common.{◌≡◌, ℕ, zero, suc, add-one, ◌+◌, Bool, true, false, [], ◌∷◌, Some, refl, sym, subst}
use Rattle.erm_cells.specs.Took.{IsEndStep}
use Rattle.erm_cells.proofs.Took.{head_went, stores_end}
use Rattle.erm_readers.proofs.Took.{marks_end}
use Rattle.erm_machine.specs.declared.attempt.Attempt.{Attempt}
use Rattle.erm_machine.specs.declared.event.Kind.TheVariants.{StoreBegin, StoreState}
use Rattle.erm_machine.specs.Back.{goes_back}
use Rattle.erm_machine.specs.Core.{claim_at}
use Rattle.erm_model.specs.RowTransaction.{Law}
use Rattle.erm_rule.specs.declared.view.Book.{Book}
use Rattle.erm_rule.specs.Views.{part_of}
use Rattle.erm_rule.specs.Went.{Went}
use Rattle.erm_rule.proofs.Wents.{went_more, went_none, went_one, went_step}
use Rattle.erm_ends.specs.Took.{InTurn, TookAbort, TookBackWhere, TookBitClears, TookCommit, TookInstalls, TookLeave, TookRaises, TookReleases, TookSkip}

pub turns_more : (P : ℕ → Book → Book → Type 0) (n : ℕ) (b m e : Book) → InTurn P n b m → P n m e → InTurn P (n + 1) b e
turns_more P n b m e first last = subst (λ (k : ℕ). InTurn P k b e) (sym (add-one n)) (m, first, last)

pub turns_all : (P : ℕ → Book → Book → Type 0) (n k : ℕ) (b e : Book) → n ≡ k → InTurn P n b e → InTurn P k b e
turns_all P n k b e same turns = subst (λ (m : ℕ). InTurn P m b e) same turns

module _ (law : Law) (who : ℕ) where
  turns_end : (P : ℕ → Book → Book → Type 0) → ((k : ℕ) (m e : Book) → P k m e → Went law who IsEndStep m e) → (n : ℕ) (b e : Book) → InTurn P n b e → Went law who IsEndStep b e
  turns_end P so zero b e same = subst (λ (z : Book). Went law who IsEndStep b z) (sym same) (went_none law who IsEndStep b)
  turns_end P so (suc n) b e turns = went_more law who IsEndStep b turns.0 e (turns_end P so n b turns.0 turns.1) (so n turns.0 e turns.2)

  pub releases_end : (t : Attempt) (b e : Book) → TookReleases law who t b e → Went law who IsEndStep b e
  releases_end t b e took = turns_end _ (λ k m n was. went_one law who IsEndStep _ was.found m n tt was.step) _ b e took

  pub raises_end : (t : Attempt) (b e : Book) → TookRaises law who t b e → Went law who IsEndStep b e
  raises_end t b e took = turns_end _ (λ k m n was. went_one law who IsEndStep _ was.found m n tt was.step) _ b e took

  pub installs_end : (t : Attempt) (b e : Book) → TookInstalls law who t b e → Went law who IsEndStep b e
  installs_end t b e took =
      turns_end _ (λ k m n was. went_step law who IsEndStep m was.marked n _ was.found (went_more law who IsEndStep m was.stored was.marked (stores_end law who m was.stored (head_went law who was.own t.stamp (Some (claim_at t k).version.cell) m was.stored was.stores))
      (marks_end law who (claim_at t k).version t.stamp t.succ was.stored was.marked was.marks)) tt was.step) _ b e took

  pub clears_end : (t : Attempt) (b e : Book) → TookBitClears law who t b e → Went law who IsEndStep b e
  clears_end t b e took = turns_end _ (λ k m n was. went_one law who IsEndStep _ was.0 m n tt was.1) _ b e took

  back_end : (stamp : ℕ) (back : Bool) (b e : Book) → TookBackWhere law who stamp back b e → Went law who IsEndStep b e
  back_end stamp true b e took = went_one law who IsEndStep _ took.0 b e tt took.1
  back_end stamp false b e same = subst (λ (z : Book). Went law who IsEndStep b z) (sym same) (went_none law who IsEndStep b)

  pub leave_end : (b e : Book) → TookLeave law who b e → Went law who IsEndStep b e
  leave_end b e took = record { steps = (StoreState 0, took.1) ∷ (StoreBegin 0, took.0) ∷ []; took = took.2; all = (refl, (refl, tt)) }

  pub abort_ends : (b e : Book) → TookAbort law who b e → Went law who IsEndStep b e
  abort_ends b e took =
      went_step law who IsEndStep b took.cleared e (StoreBegin 0) took.begin
      (went_more law who IsEndStep b took.released took.cleared (releases_end (part_of b.view who).current b took.released took.releases) (clears_end (part_of b.view who).current took.released took.cleared took.clears)) refl took.leaves

  pub skip_ends : (b e : Book) → TookSkip law who b e → Went law who IsEndStep b e
  skip_ends b e took =
      went_more law who IsEndStep b took.cleared e
      (went_more law who IsEndStep b took.released took.cleared (releases_end (part_of b.view who).current b took.released took.releases) (clears_end (part_of b.view who).current took.released took.cleared took.clears)) (leave_end took.cleared e took.leaves)

  pub commit_ends : (b e : Book) → TookCommit law who b e → Went law who IsEndStep b e
  commit_ends b e took =
      went_more law who IsEndStep b took.cleared e
      (went_more law who IsEndStep b took.backed took.cleared
      (went_more law who IsEndStep b took.installed took.backed
      (went_more law who IsEndStep b took.raised took.installed (raises_end (part_of b.view who).current b took.raised took.raises) (installs_end (part_of b.view who).current took.raised took.installed took.installs))
      (back_end (part_of b.view who).current.stamp (goes_back (part_of b.view who).current) took.installed took.backed took.backs))
      (clears_end (part_of b.view who).current took.backed took.cleared took.clears)) (leave_end took.cleared e took.leaves)
