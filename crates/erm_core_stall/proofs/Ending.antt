-- No turn goes on for ever, and no other seat's event changes it.
use Rattle.std.proofs.Common.{◌≡◌, ◌≢◌, ℕ, zero, suc, ◌+◌, ◌-◌, ◌<◌, ◌≤◌, ⊎_elim, Bool, true, false, Option, Some, None, refl, inl, inr, sym, ap, ◌∙◌, subst, arith}
use Rattle.std.specs.Prelude.{if◌then◌else◌}
use Rattle.std.proofs.lemmas.Option.{same_Some}
use Rattle.erm_machine.specs.declared.event.Kind.{Kind}
use Rattle.erm_machine.specs.declared.event.Kind.TheVariants as kind
use Rattle.erm_machine.specs.declared.limits.TheConstants.{FLUSH_SEAT}
use Rattle.erm_machine.specs.declared.part.Part.{Part}
use Rattle.erm_machine.specs.Core.{Core}
use Rattle.erm_machine.specs.Life.{split}
use Rattle.erm_machine.specs.Step.{after_event, with_part}
use Rattle.erm_machine.proofs.Frames.{at_cases, put_other}
use Rattle.erm_machine.proofs.Guards.{when_then}
use Rattle.erm_machine.proofs.QuietKinds.{moves}
use Rattle.erm_core_calls.specs.Ending.{Ahead, IsLess}
use Rattle.erm_core_calls.proofs.Lasting.{AtMost, at_most_then, less_at_last, less_ends}
use Rattle.erm_core_flush.specs.Turns.{turn_of}
use Rattle.erm_core_stall.specs.Waiting.{TakesTurn, TurnsForEver, turn_ahead}

-- what lies ahead while nothing more is flushed
module _ (run : ℕ → Core) (on : TurnsForEver run) where
  lies : ℕ → Ahead
  lies n = turn_ahead (run n).shared.flushed (turn_of (run n))

  -- a next step leaves less ahead, where it doesn't flush more
  takes_less : (n : ℕ) → TakesTurn (run n) (run (n + 1)) → IsLess (lies (n + 1)) (lies n)
  unfolding lies
  takes_less n t =
      let is = ap (λ (d : Core). d.shared.flushed) t.1 in
      let same = on.flushed n in
      ⊎_elim
      (λ (more : (run n).shared.flushed < t.0.after.shared.flushed). absurd (omega (arith, more, is, same)))
      (λ (less : IsLess (turn_ahead (run n).shared.flushed (turn_of t.0.after)) (turn_ahead (run n).shared.flushed (turn_of (run n)))).
      subst (λ f. IsLess (turn_ahead f (turn_of (run (n + 1)))) (turn_ahead (run n).shared.flushed (turn_of (run n)))) (sym same)
      (subst (λ (d : Core). IsLess (turn_ahead (run n).shared.flushed (turn_of d)) (turn_ahead (run n).shared.flushed (turn_of (run n)))) t.1 less))
      t.0.nearer

  each_at_most : (n : ℕ) → AtMost (lies (n + 1)) (lies n)
  unfolding lies
  each_at_most n =
      ⊎_elim (λ (t : TakesTurn (run n) (run (n + 1))). inl (takes_less n t))
      (λ (same : turn_of (run (n + 1)) ≡ turn_of (run n)).
      inr (ap (λ f. turn_ahead f (turn_of (run (n + 1)))) (on.flushed n) ∙ ap (turn_ahead (run n).shared.flushed) same))
      (on.each n)

  later : (n more : ℕ) → AtMost (lies (n + more)) (lies n)
  later n zero = inr (ap lies (omega arith))
  later n (suc more) =
      let next : n + more + 1 ≡ n + suc more = omega arith in
      at_most_then (lies (n + suc more)) (lies (n + more)) (lies n) (subst (λ k. AtMost (lies k) (lies (n + more))) next (each_at_most (n + more))) (later n more)

  from_then_on : (n k : ℕ) → n ≤ k → AtMost (lies k) (lies n)
  from_then_on n k le = let same : n + (k - n) ≡ k = omega (arith, le) in subst (λ j. AtMost (lies j) (lies n)) same (later n (k - n))

  -- the places at which the next steps are taken
  place : ℕ → ℕ
  place zero = (on.again 0).0
  place (suc j) = (on.again (place j + 1)).0

  takes_at : (j : ℕ) → TakesTurn (run (place j)) (run (place j + 1))
  unfolding place
  takes_at zero = (on.again 0).2
  takes_at (suc j) = (on.again (place j + 1)).2

  place_after : (j : ℕ) → place j + 1 ≤ place (suc j)
  unfolding place
  place_after j = (on.again (place j + 1)).1

  pub not_for_ever : ⊥
  not_for_ever =
      less_ends (λ j. lies (place j)) (λ j.
      less_at_last (lies (place (suc j))) (lies (place j + 1)) (lies (place j)) (from_then_on (place j + 1) (place (suc j)) (place_after j)) (takes_less (place j) (takes_at j)))

-- a part is changed, and not how far the flush seat has come
turned : (c : Core) (q : ℕ) (o : Option Part) (d : Core) → ((y : Part) → o ≡ Some y → q ≡ FLUSH_SEAT → y.flushing ≡ (c.seats q).flushing) → with_part c q o ≡ Some d → turn_of d ≡ turn_of c
turned c q None d same e = absurd (cc)
turned c q (Some y) d same e =
    ap turn_of (sym (same_Some _ _ e))
    ∙ at_cases (λ (z : Part). z.flushing ≡ (c.seats FLUSH_SEAT).flushing) c.seats q y FLUSH_SEAT
    (λ is. same y refl (sym is) ∙ ap (λ n. (c.seats n).flushing) (sym is)) (λ _. refl)

split_keeps : (x z y : Part) → split x z ≡ Some y → y.flushing ≡ z.flushing
split_keeps x z y e = when_then (λ w. w.flushing ≡ z.flushing) _ _ y e (λ _. refl)

chosen : (b : Bool) (l : Option Core) (d : Core) → (if b then l else None) ≡ Some d → l ≡ Some d
chosen true l d e = e
chosen false l d e = absurd (cc)

other_chosen : (b : Bool) (r : Option Core) (d : Core) → (if b then None else r) ≡ Some d → r ≡ Some d
other_chosen true r d e = absurd (cc)
other_chosen false r d e = e

-- an event of another seat leaves the turn as it was
pub turn_kept : (c d : Core) (p : ℕ) (k : Kind) → p ≢ FLUSH_SEAT → after_event c p k ≡ Some d → turn_of d ≡ turn_of c
turn_kept c d p (kind.Split r) ne e = turned c r _ d (λ y is _. split_keeps (c.seats p) (c.seats r) y is) (chosen _ _ d e)
turn_kept c d p (kind.Join r) ne e = turned c p _ d (λ y is same. absurd (ne same)) (other_chosen _ _ d e)
turn_kept c d p k ne e =
    let step = moves c p k d tt e in
    ap turn_of step.is ∙ ap (λ (x : Part). x.flushing) (put_other c.seats p step.part FLUSH_SEAT (λ same. ne (sym same)))
