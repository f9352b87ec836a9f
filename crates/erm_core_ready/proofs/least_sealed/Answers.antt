use Rattle.std.proofs.Common.{ℕ, MatchOption, subst}
use Rattle.erm_machine.specs.declared.place.Place.{Place}
use Rattle.erm_core.specs.Cores.{core_of}
use Rattle.erm_core_stall.specs.Waiting.{IsSealedAt}
use Rattle.erm_core_ready.proofs.Seats.{all_found}
use Rattle.erm_core_ready.proofs.least_sealed.Goals as goal

pub loop-seat-preserved : goal.loop-seat-preserved
loop-seat-preserved c =
    c.lesser-least.ensures.sealed (core_of c.args.state.now)
    (subst (λ (pl : Place). MatchOption c.sealed_at.result ((s : ℕ) → IsSealedAt s pl → ⊥) (λ s. IsSealedAt s pl)) c.place_of.ensures c.sealed_at.ensures) c.loop-seat.invariant

pub returns : goal.returns
returns c = all_found (core_of c.args.state.now) c.requires.sound c.loop-seat.seat c.loop-seat-test.false c.loop-seat.least c.loop-seat.invariant
