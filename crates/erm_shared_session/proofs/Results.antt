-- What is told of answers that are errors.
use Rattle.std.proofs.Common.{◌≢◌, ℕ, Result, Ok, Err, IfErr, IfOk, subst}
use Rattle.erm_model.specs.declared.outcome.Outcome.{Outcome}
use Rattle.erm_model.specs.RowTransaction.{Law}
use Rattle.erm_precommit.specs.declared.answer.Wait as answer
use Rattle.erm_precommit.specs.declared.answer.Wait.TheVariants as found
use Rattle.erm_precommit.specs.Settle.{WasWait}
use Rattle.erm_precommit.specs.Took.{TookWait}
use Rattle.erm_rule.specs.declared.view.Book.{Book}
use Rattle.erm_shared_session.specs.Seen.{settled_of}
use Rattle.erm_shared_session.specs.Waits.{TookNoSettle, WasLookedAt}

-- an error of which nothing is told isn't answered
pub never : {X E : Type 0} (r : Result X E) (P : E → Type 0) (other : E) → (P other → ⊥) → IfErr r P → IfErr r (λ why. why ≢ other)
never (Ok x) P other none told = tt
never (Err why) P other none told = λ same. none (subst P same told)

-- of an error of which two things are told the first one is
pub first_told : {X E : Type 0} (r : Result X E) (P Q : E → Type 0) → IfErr r (λ why. P why × Q why) → IfErr r P
first_told (Ok x) P Q told = tt
first_told (Err why) P Q told = told.0

-- what a settle waits for was met, as the session answers it
pub looked_at : (b e : Book) (r : Result Outcome answer.Wait) → IfErr r (λ why. WasWait b why e) → IfErr (settled_of r) (λ why. WasLookedAt b why e)
looked_at b e (Ok outcome) met = tt
looked_at b e (Err (found.Ring at)) met = met
looked_at b e (Err (found.Seat seat seen)) met = met

-- and so are its steps
pub not_settled : (law : Law) (who : ℕ) (b e : Book) (r : Result Outcome answer.Wait) → IfErr r (λ why. TookWait law who why b e) → IfErr (settled_of r) (λ why. TookNoSettle law who why b e)
not_settled law who b e (Ok outcome) took = tt
not_settled law who b e (Err (found.Ring at)) took = took
not_settled law who b e (Err (found.Seat seat seen)) took = took

-- of an answer of which two things are told
pub both_ok : {X E : Type 0} (r : Result X E) (P Q R : X → Type 0) → ((x : X) → P x → Q x → R x) → IfOk r P → IfOk r Q → IfOk r R
both_ok (Ok x) P Q R gives first second = gives x first second
both_ok (Err why) P Q R gives first second = tt
