-- A customer has 100 on one account and nothing on the other one. Two withdrawals of 100 find that, one for each account.
use Rattle.std.proofs.Common.{◌≡◌, ◌≢◌, ℕ, ◌+◌, ◌≤◌, ◌^◌, List, [], ◌∷◌, Some, None, refl, sym, ap, ◌∙◌, subst, ⊎_elim, arith}
use Rattle.std.specs.FinMap.{empty, insert}
use Rattle.std.proofs.lemmas.Bool.{cases_eq}
use Rattle.erm_model.specs.Database.{Database, at}
use Rattle.erm_model.specs.declared.key.Key.{Key}
use Rattle.erm_model.specs.declared.operation.Reply.TheVariants as reply
use Rattle.erm_model.specs.Run.{Step}
use Rattle.erm_model.proofs.Keys.{value_at-empty, value_at-insert_other, value_at-insert_same}
use Rattle.erm_accounts.specs.Accounts.{AreSolvent, Current, Savings, SnapshotsMaySkew, kept, raised, reads, writes}

abbrev hundred : List ℕ
hundred = 128 ∷ 0 ∷ 0 ∷ 0 ∷ 0 ∷ 0 ∷ 0 ∷ 100 ∷ []

abbrev nothing : List ℕ
nothing = 128 ∷ 0 ∷ 0 ∷ 0 ∷ 0 ∷ 0 ∷ 0 ∷ 0 ∷ []

abbrev overdrawn : List ℕ
overdrawn = 127 ∷ 255 ∷ 255 ∷ 255 ∷ 255 ∷ 255 ∷ 255 ∷ 156 ∷ []

abbrev before : Database
before = insert empty (at 0 1) hundred

abbrev first : List Step
first = reads Current 1 (Some hundred) ∷ reads Savings 1 None ∷ writes Current 1 nothing ∷ []

abbrev second : List Step
second = reads Savings 1 None ∷ reads Current 1 (Some hundred) ∷ writes Savings 1 overdrawn ∷ []

savings_apart : (a b : ℕ) → at 1 a ≢ at 0 b
savings_apart a b same = absurd (omega (arith, ap (λ (k : Key). k.table) same))

own : kept before Current 1 ≡ Some hundred
own = value_at-insert_same empty 0 1 hundred

none : (c : ℕ) → kept before Savings c ≡ None
none c = value_at-insert_other empty 0 1 hundred 1 c (savings_apart c 1) ∙ value_at-empty 1 c

others : (c : ℕ) → (c ≡ 1 → ⊥) → kept before Current c ≡ None
others c other = value_at-insert_other empty 0 1 hundred 0 c (λ same. other (ap (λ (k : Key). k.key) same)) ∙ value_at-empty 0 c

solvent : AreSolvent before
solvent c = ⊎_elim
    (λ (same : c ≡ 1). subst (λ d. 2 ^ 64 ≤ raised (kept before Current d) + raised (kept before Savings d)) (sym same) (rw (own, none 1) (omega arith)))
    (λ (other : c ≡ 1 → ⊥). rw (others c other, none c) (omega arith))
    (cases_eq c 1)

abbrev after : Database
after = insert (insert before (at 0 1) nothing) (at 1 1) overdrawn

current_after : kept after Current 1 ≡ Some nothing
current_after =
    value_at-insert_other (insert before (at 0 1) nothing) 1 1 overdrawn 0 1 (λ same. savings_apart 1 1 (sym same))
    ∙ value_at-insert_same before 0 1 nothing

savings_after : kept after Savings 1 ≡ Some overdrawn
savings_after = value_at-insert_same (insert before (at 0 1) nothing) 1 1 overdrawn

breaks : AreSolvent after → ⊥
breaks still =
    let current : raised (kept after Current 1) ≡ 9223372036854775808 = ap raised current_after in
    let savings : raised (kept after Savings 1) ≡ 9223372036854775708 = ap raised savings_after in
    omega (arith, still 1, current, savings)

pub skews : SnapshotsMaySkew
skews = (
  before,
  first,
  second,
  record {
    solvent = solvent;
    withdraws = record { customer = 1; account = Current; amount = 100; own = Some hundred; other = None; left = nothing; steps_are = refl; covered = omega arith; lowered = refl; readable = refl };
    other_withdraws = record { customer = 1; account = Savings; amount = 100; own = None; other = Some hundred; left = overdrawn; steps_are = refl; covered = omega arith; lowered = refl; readable = refl };
    run = (ap reply.Value (sym own), (ap reply.Value (sym (none 1)), (refl, tt)));
    other_run = (ap reply.Value (sym (none 1)), (ap reply.Value (sym own), (refl, tt)));
    breaks = breaks;
  },
)
