use Rattle.std.proofs.Common.{nat_lt, sym, subst}
use Rattle.std.proofs.lemmas.List.Elements.{All-filter}
use Rattle.erm_model.specs.Committed.{Committed, below, state_after}
use Rattle.erm_invariant.specs.Invariant.{Keeps}
use Rattle.erm_invariant.proofs.laws.invariants_hold_below.Goals as goal

pub returns-clause-states : goal.returns-clause-states
returns-clause-states g c invariant commits opening holds keep fronts bound m state =
    let Invariant = g.I.Invariant.holds invariant in
    let kept = All-filter (λ (d : Committed). nat_lt d.stamp bound) (λ (d : Committed). Keeps Invariant d.steps) commits keep in
    let lasts = c.invariants_last_in_order.ensures invariant (below bound commits) state.order opening (state_after state.order opening) holds kept state.serial (fronts bound state.order state.serial) in
    subst Invariant (sym state.state) lasts.last

pub returns-clause-snapshots : goal.returns-clause-snapshots
returns-clause-snapshots g c invariant commits opening holds keep fronts begin steps replies = (
  replies.snapshot,
  record {
    holds = returns-clause-states g c invariant commits opening holds keep fronts begin replies.snapshot replies.below_begin;
    run = replies.replies;
  },
)
