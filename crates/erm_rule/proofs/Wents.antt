-- Steps of one seat, one run of them after another, and what goes on over them.
use Rattle.std.proofs.Common.{ℕ, List, [], ◌∷◌, ◌++◌, refl, sym, subst}
use Rattle.erm_machine.specs.declared.event.Kind.{Kind}
use Rattle.erm_machine.specs.declared.event.Kind.TheVariants as kind
use Rattle.erm_model.specs.RowTransaction.{Law}
use Rattle.erm_rule.specs.declared.view.Book.{Book}
use Rattle.erm_rule.specs.Books.{IsAfter}
use Rattle.erm_rule.specs.Steps.{Booked}
use Rattle.erm_rule.specs.Went.{Took, AllSteps, Went, IsLoadStep, IsStillStep}
use Rattle.erm_rule.proofs.Courses.{goes_both, goes_step, seen_nothing}

-- no step, one step, one step more
pub took_none : (law : Law) (who : ℕ) (b : Book) → Took law who [] b b
took_none law who b = refl

pub took_one : (law : Law) (who : ℕ) (k : Kind) (found : ℕ) (b e : Book) → Booked law b who k found e → Took law who ((k, found) ∷ []) b e
took_one law who k found b e booked = (b, refl, booked)

-- steps after steps
pub took_more : (law : Law) (who : ℕ) (first second : List (Kind × ℕ)) (b m e : Book) → Took law who first b m → Took law who second m e → Took law who (second ++ first) b e
took_more law who first [] b m e took same = subst (λ (z : Book). Took law who first b z) (sym same) took
took_more law who first (s ∷ second) b m e took more = (more.0, took_more law who first second b m more.0 took more.1, more.2)

all_more : (P : Kind → ℕ → Type 0) (first second : List (Kind × ℕ)) → AllSteps P first → AllSteps P second → AllSteps P (second ++ first)
all_more P first [] all more = all
all_more P first (s ∷ second) all more = (more.0, all_more P first second all more.1)

module _ (law : Law) (who : ℕ) (P : Kind → ℕ → Type 0) where
  pub went_none : (b : Book) → Went law who P b b
  went_none b = record { steps = []; took = refl; all = tt }

  pub went_one : (k : Kind) (found : ℕ) (b e : Book) → P k found → Booked law b who k found e → Went law who P b e
  went_one k found b e is booked = record { steps = (k, found) ∷ []; took = (b, refl, booked); all = (is, tt) }

  pub went_more : (b m e : Book) → Went law who P b m → Went law who P m e → Went law who P b e
  went_more b m e first second = record {
    steps = second.steps ++ first.steps;
    took = took_more law who first.steps second.steps b m e first.took second.took;
    all = all_more P first.steps second.steps first.all second.all;
  }

  pub went_step : (b m e : Book) (k : Kind) (found : ℕ) → Went law who P b m → P k found → Booked law m who k found e → Went law who P b e
  went_step b m e k found went is booked = record { steps = (k, found) ∷ went.steps; took = (m, went.took, booked); all = (is, went.all) }

-- what is so of all steps of a narrower class
all_of : (P Q : Kind → ℕ → Type 0) → ((k : Kind) (found : ℕ) → P k found → Q k found) → (steps : List (Kind × ℕ)) → AllSteps P steps → AllSteps Q steps
all_of P Q so [] all = tt
all_of P Q so (s ∷ steps) all = (so s.0 s.1 all.0, all_of P Q so steps all.1)

pub went_as : (law : Law) (who : ℕ) (P Q : Kind → ℕ → Type 0) (b e : Book) → ((k : Kind) (found : ℕ) → P k found → Q k found) → Went law who P b e → Went law who Q b e
went_as law who P Q b e so went = record { steps = went.steps; took = went.took; all = all_of P Q so went.steps went.all }

-- the book after steps comes after the one before
pub took_goes : (law : Law) (who : ℕ) (steps : List (Kind × ℕ)) (b e : Book) → Took law who steps b e → IsAfter b e
took_goes law who [] b e same = subst (λ (z : Book). IsAfter b z) (sym same) (seen_nothing b)
took_goes law who (s ∷ steps) b e took = goes_both b took.0 e (took_goes law who steps b took.0 took.1) (goes_step law took.0 who s.0 s.1 e took.2)

pub went_goes : (law : Law) (who : ℕ) (P : Kind → ℕ → Type 0) (b e : Book) → Went law who P b e → IsAfter b e
went_goes law who P b e went = took_goes law who went.steps b e went.took

-- a load leaves the log's end and the place flushed
load_still : (k : Kind) (found : ℕ) → IsLoadStep k found → IsStillStep k found
load_still (kind.AddTail size) found is = is
load_still (kind.StoreFlushed value) found is = is
load_still (kind.Split other) found is = is
load_still (kind.Join other) found is = is
load_still _ found is = tt

pub loads_still : (law : Law) (who : ℕ) (b e : Book) → Went law who IsLoadStep b e → Went law who IsStillStep b e
loads_still law who b e went = went_as law who IsLoadStep IsStillStep b e load_still went
