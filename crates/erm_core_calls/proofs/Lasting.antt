-- No call goes on for ever.
use Rattle.std.proofs.Common.{◌≡◌, ℕ, zero, suc, ◌+◌, ◌-◌, ◌<◌, ◌≤◌, ◌⊎◌, ⊎_elim, inl, inr, sym, ap, ◌∙◌, subst, arith}
use Rattle.erm_machine.specs.Core.{Core}
use Rattle.erm_core_calls.specs.Ending.{Ahead, GoesOnForEver, IsLess, TakesNext, ahead, fewer_stages, less_left}
use Rattle.erm_core_calls.proofs.Nearing.{comes_nearer}

-- Less and less can't lie ahead for ever: by the stages, and among as many by what is left of the present one.
stages_end : (stages : ℕ) → ((run : ℕ → Ahead) → ((n : ℕ) → IsLess (run (suc n)) (run n)) → (run 0).stages < stages → ⊥) →
    (left : ℕ) (run : ℕ → Ahead) → ((n : ℕ) → IsLess (run (suc n)) (run n)) → (run 0).stages < stages + 1 → (run 0).left < left → ⊥
stages_end stages before zero run less few short = omega (arith, short)
stages_end stages before (suc left) run less few short =
    elim (less 0) [
      | fewer_stages lt ↦ before (λ n. run (suc n)) (λ n. less (suc n)) (omega (arith, lt, few))
      | less_left same lt ↦ stages_end stages before left (λ n. run (suc n)) (λ n. less (suc n)) (omega (arith, same, few)) (omega (arith, lt, short))
    ]

all_end : (stages : ℕ) (run : ℕ → Ahead) → ((n : ℕ) → IsLess (run (suc n)) (run n)) → (run 0).stages < stages → ⊥
all_end zero run less few = omega (arith, few)
all_end (suc stages) run less few = stages_end stages (all_end stages) ((run 0).left + 1) run less (omega (arith, few)) (omega arith)

pub less_ends : (run : ℕ → Ahead) → ((n : ℕ) → IsLess (run (suc n)) (run n)) → ⊥
less_ends run less = all_end ((run 0).stages + 1) run less (omega arith)

-- no more
abbrev pub AtMost : Ahead → Ahead → Type 0
AtMost a b = IsLess a b ⊎ (a ≡ b)

pub then_less : (x y z : Ahead) → IsLess x y → IsLess y z → IsLess x z
then_less x y z first second =
    elim first [
      | fewer_stages lt ↦ elim second [
        | fewer_stages more ↦ fewer_stages (omega (arith, lt, more))
        | less_left same more ↦ fewer_stages (omega (arith, lt, same))
      ]
      | less_left here lt ↦ elim second [
        | fewer_stages more ↦ fewer_stages (omega (arith, here, more))
        | less_left same more ↦ less_left (here ∙ same) (omega (arith, lt, more))
      ]
    ]

pub less_at_last : (x y z : Ahead) → AtMost x y → IsLess y z → IsLess x z
less_at_last x y z first second =
    ⊎_elim (λ (less : IsLess x y). then_less x y z less second) (λ (same : x ≡ y). subst (λ a. IsLess a z) (sym same) second) first

pub at_most_then : (x y z : Ahead) → AtMost x y → AtMost y z → AtMost x z
at_most_then x y z first second =
    ⊎_elim (λ (less : IsLess y z). inl (less_at_last x y z first less)) (λ (same : y ≡ z). subst (AtMost x) same first) second

module _ (seat : ℕ) (run : ℕ → Core) (on : GoesOnForEver seat run) where
  lies : ℕ → Ahead
  lies n = ahead ((run n).seats seat)

  -- a next step leaves less ahead
  takes_less : (n : ℕ) → TakesNext seat (run n) (run (n + 1)) → IsLess (lies (n + 1)) (lies n)
  unfolding lies
  takes_less n t = subst (λ (d : Core). IsLess (ahead (d.seats seat)) (ahead ((run n).seats seat))) t.is (comes_nearer (run n) seat (on.sound n) t.block (on.in_call n) t.step)

  -- between two next steps as much lies ahead
  each_at_most : (n : ℕ) → AtMost (lies (n + 1)) (lies n)
  unfolding lies
  each_at_most n = ⊎_elim (λ (t : TakesNext seat (run n) (run (n + 1))). inl (takes_less n t)) (λ (same : (run (n + 1)).seats seat ≡ (run n).seats seat). inr (ap ahead same)) (on.each n)

  later : (n more : ℕ) → AtMost (lies (n + more)) (lies n)
  later n zero = inr (ap lies (omega arith))
  later n (suc more) =
      let next : n + more + 1 ≡ n + suc more = omega arith in
      at_most_then (lies (n + suc more)) (lies (n + more)) (lies n) (subst (λ k. AtMost (lies k) (lies (n + more))) next (each_at_most (n + more))) (later n more)

  from_then_on : (n k : ℕ) → n ≤ k → AtMost (lies k) (lies n)
  from_then_on n k le = let same : n + (k - n) ≡ k = omega (arith, le) in subst (λ j. AtMost (lies j) (lies n)) same (later n (k - n))

  -- the turns at which the seat takes its next steps
  turn : ℕ → ℕ
  turn zero = (on.again 0).0
  turn (suc j) = (on.again (turn j + 1)).0

  takes_at : (j : ℕ) → TakesNext seat (run (turn j)) (run (turn j + 1))
  unfolding turn
  takes_at zero = (on.again 0).2
  takes_at (suc j) = (on.again (turn j + 1)).2

  turn_after : (j : ℕ) → turn j + 1 ≤ turn (suc j)
  unfolding turn
  turn_after j = (on.again (turn j + 1)).1

  pub not_for_ever : ⊥
  not_for_ever =
      less_ends (λ j. lies (turn j)) (λ j.
      less_at_last (lies (turn (suc j))) (lies (turn j + 1)) (lies (turn j)) (from_then_on (turn j + 1) (turn (suc j)) (turn_after j)) (takes_less (turn j) (takes_at j)))
