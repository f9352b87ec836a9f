-- What keys meet in the tree of a table: wider ranges meet more, and where records count nodes do too.
use Rattle.std.proofs.Common.{◌≡◌, ℕ, zero, suc, ◌^◌, ◌<◌, ◌≤◌, List, [], ◌∷◌, true, false, subst, inl, inr, arith}
use Rattle.std.specs.Prelude.{◌⊎◌}
use Rattle.std.proofs.lemmas.Bool.{false≢true}
use Rattle.erm_model.specs.Rows.{Rows}
use Rattle.erm_node.specs.Node.{pairs_of}
use Rattle.erm_node.specs.Sound.{levels_of}
use Rattle.erm_node.specs.Tree.{first_key}
use Rattle.erm_tree.specs.Reads.{AnyOfFan, IsMet, IsMetIn, IsNodeMetIn}
use Rattle.erm_tree.proofs.Standing.{levels_of-bounds}

AnyOfFan-weaker : (P Q : ℕ → ℕ → ℕ → Type 0) (pairs : List (ℕ × ℕ)) (hi : ℕ) → ((oid from to : ℕ) → P oid from to → Q oid from to) → AnyOfFan P pairs hi → AnyOfFan Q pairs hi
AnyOfFan-weaker P Q [] hi each any = any
AnyOfFan-weaker P Q (p ∷ ps) hi each any = elim any as (λ _. AnyOfFan Q (p ∷ ps) hi) [
  | inl here ↦ inl (each p.1 p.0 (first_key ps hi) here)
  | inr there ↦ inr (AnyOfFan-weaker P Q ps hi each there)
]

IsMet-wider_at : (rows : Rows) (low high below above levels oid lo hi x : ℕ) → below ≤ low → high ≤ above → IsMet true rows low high levels oid lo hi x → IsMet true rows below above levels oid lo hi x
IsMet-wider_at rows low high below above zero oid lo hi x l h met = (met.0, met.1, omega (arith, met.2), omega (arith, met.3))
IsMet-wider_at rows low high below above (suc levels) oid lo hi x l h met = (
  omega (arith, met.0),
  omega (arith, met.1),
  elim met.2 as (λ _. (x ≡ oid) ⊎ AnyOfFan (λ child from to. IsMet true rows below above levels child from to x) (pairs_of (rows oid)) hi) [
    | inl same ↦ inl same
    | inr inside ↦
        inr (AnyOfFan-weaker (λ child from to. IsMet true rows low high levels child from to x) (λ child from to. IsMet true rows below above levels child from to x) (pairs_of (rows oid)) hi
        (λ child from to is. IsMet-wider_at rows low high below above levels child from to x l h is) inside)
  ],
)

-- what some keys meet more keys meet
pub IsMetIn-wider : (rows : Rows) (table low high below above x : ℕ) → below ≤ low → high ≤ above → IsMetIn rows table low high x → IsMetIn rows table below above x
IsMetIn-wider rows table low high below above x l h met = IsMet-wider_at rows low high below above (levels_of rows table) table 0 (2 ^ 64) x l h met

-- keys that something meets are keys that there may be
pub IsMetIn-few : (rows : Rows) (table low high x : ℕ) → IsMetIn rows table low high x → low < 2 ^ 64
IsMetIn-few rows table low high x met =
    let (n, many, few) = levels_of-bounds rows table in
    let there : IsMet true rows low high (suc n) table 0 (2 ^ 64) x = subst (λ (m : ℕ). IsMet true rows low high m table 0 (2 ^ 64) x) many met in
    there.0

IsMet-node_at : (rows : Rows) (low high levels oid lo hi x : ℕ) → IsMet false rows low high levels oid lo hi x → IsMet true rows low high levels oid lo hi x
IsMet-node_at rows low high zero oid lo hi x met = absurd (false≢true met.0)
IsMet-node_at rows low high (suc levels) oid lo hi x met = (
  met.0,
  met.1,
  elim met.2 as (λ _. (x ≡ oid) ⊎ AnyOfFan (λ child from to. IsMet true rows low high levels child from to x) (pairs_of (rows oid)) hi) [
    | inl same ↦ inl same
    | inr inside ↦
        inr (AnyOfFan-weaker (λ child from to. IsMet false rows low high levels child from to x) (λ child from to. IsMet true rows low high levels child from to x) (pairs_of (rows oid)) hi
        (λ child from to is. IsMet-node_at rows low high levels child from to x is) inside)
  ],
)

-- a node that is met is met where records count too
pub IsMetIn-node : (rows : Rows) (table low high x : ℕ) → IsNodeMetIn rows table low high x → IsMetIn rows table low high x
IsMetIn-node rows table low high x met = IsMet-node_at rows low high (levels_of rows table) table 0 (2 ^ 64) x met
