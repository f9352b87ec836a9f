-- Successor stamps: the definition leaves each transaction one number.
use Rattle.std.proofs.Common.{◌≡◌, ℕ, zero, suc, ◌<◌, ◌≤◌, ⊎_elim, arith}
use Rattle.erm_model.specs.declared.history.TransactionRecord.{TransactionRecord}
use Rattle.erm_model.specs.Member.{◌∈◌}
use Rattle.erm_model.specs.History.{History, CountsForSucc}
use Rattle.erm_core_ssn.specs.Laws.{AreSuccessorStamps}

-- below a bound on the commit stamps, no second numbering exceeds the first
none_greater : (h : History) (f g : TransactionRecord → ℕ) → AreSuccessorStamps h f → AreSuccessorStamps h g → (bound : ℕ) (t : TransactionRecord) → t ∈ h → t.stamp < bound → g t ≤ f t
none_greater h f g first second zero t there low = absurd (omega arith)
none_greater h f g first second (suc bound) t there low =
    ⊎_elim
    (λ (own : f t ≡ t.stamp). omega (arith, (second t there).at_most_own))
    (λ (of : (u : TransactionRecord) × CountsForSucc h t u × (f t ≡ f u)).
    omega (arith, none_greater h f g first second bound of.0 of.1.0 (omega (arith, of.1.1)), (second t there).at_most_each of.0 of.1))
    (first t there).attained

pub one_numbering : (h : History) (f g : TransactionRecord → ℕ) → AreSuccessorStamps h f → AreSuccessorStamps h g → (t : TransactionRecord) → t ∈ h → f t ≡ g t
one_numbering h f g first second t there =
    omega (arith, none_greater h f g first second (suc t.stamp) t there (omega arith), none_greater h g f second first (suc t.stamp) t there (omega arith))
