-- What was claimed or read, in the lists of claims and reads.
use Rattle.std.proofs.Common.{◌≡◌, ℕ, zero, suc, ◌||◌, Bool, true, is_some, List, ◌∷◌, [], Option, Some, None, inl, inr, refl, sym, ap, ◌∙◌, subst}
use Rattle.std.proofs.lemmas.Bool.Decides.{eqb_tells}
use Rattle.erm_model.specs.declared.history.TransactionRecord.{TransactionRecord}
use Rattle.erm_model.specs.declared.history.VersionRead.{VersionRead}
use Rattle.erm_model.specs.declared.history.VersionWritten.{VersionWritten}
use Rattle.erm_model.specs.History.{Makes}
use Rattle.erm_model.specs.Member.{◌∈◌}
use Rattle.erm_world.specs.Works.{is_claimed, row_read}
use Rattle.erm_world.proofs.Works.{row_read-found}
use Rattle.erm_causes.proofs.Beside.{claimed_at}

-- what was claimed is one of the claims, and what was read one of the reads
pub claimed_in : (cs : List VersionWritten) (x : ℕ) → is_claimed cs x ≡ true → (c : VersionWritten) × (c ∈ cs) × (c.oid ≡ x)
claimed_in [] x is = cc
claimed_in (c ∷ cs) x is = elim (eqb_tells c.oid x) as (λ _. (d : VersionWritten) × (d ∈ (c ∷ cs)) × (d.oid ≡ x)) [
  | inl here ↦ (c, (zero, refl), here.1)
  | inr there ↦ let later = claimed_in cs x (sym (ap (λ (b : Bool). b || is_claimed cs x) there.0) ∙ is) in (later.0, (suc later.1.0, later.1.1), later.2)
]

pub read_in : (rs : List VersionRead) (x : ℕ) → is_some (row_read rs x) ≡ true → (r : VersionRead) × (r ∈ rs) × (r.oid ≡ x)
read_in rs x is = found (row_read rs x) refl is
  where
    found : (o : Option (List ℕ)) → row_read rs x ≡ o → is_some o ≡ true → (r : VersionRead) × (r ∈ rs) × (r.oid ≡ x)
    found None at no_row = cc
    found (Some row) at some = let it = row_read-found rs x row at in (it.0, it.1, it.2)

-- what a transaction made a version of it claimed
pub makes_claimed : (u : TransactionRecord) (x : ℕ) → Makes u x → is_claimed u.writes x ≡ true
makes_claimed u x (c, within, oid) = subst (λ (n : ℕ). is_claimed u.writes n ≡ true) oid (claimed_at u.writes within.0 c within.1)
