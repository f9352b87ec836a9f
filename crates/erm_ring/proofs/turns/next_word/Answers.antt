use Rattle.std.proofs.Common.{◌<◌, ◌≤◌, ◌⊎◌, ◌+◌, ℕ, ⊎_elim, subst, inl, inr, refl, ap, arith}
use Rattle.erm_machine.specs.declared.event.Kind.TheVariants.{LoadRing}
use Rattle.erm_machine.specs.declared.limits.TheConstants.{FLUSH_SEAT}
use Rattle.erm_rule.specs.Steps.{Booked}
use Rattle.erm_ring.proofs.turns.next_word.Goals as goal
use Rattle.erm_rule.proofs.Wents.{went_one}

-- where the place isn't at or past both ends, it lies below one of them
below_one : (at tail end : ℕ) → ((end ≤ at) × (at < tail)) ⊎ (at < end) → (at < end) ⊎ (at < tail)
below_one at tail end (inl outside) = inr outside.1
below_one at tail end (inr inside) = inl inside

pub load_ring-word-requires-clause-ready : goal.load_ring-word-requires-clause-ready
load_ring-word-requires-clause-ready g c = c.requires.ready (below_one c.args.at c.args.tail c.args.end c.else-end-at.either)

pub returns-then-at-end-clause-some : goal.returns-then-at-end-clause-some
returns-then-at-end-clause-some g c = (
  c.load_ring-word.ensures.booked,
  record { middle = λ _. refl; header = λ past. absurd (let below = c.if-at-end.true in omega (arith, past, below)) },
  inl c.if-at-end.true,
)

pub returns-clause-some : goal.returns-clause-some
returns-clause-some g c = (
  c.load_ring-word.ensures.booked,
  record {
    middle = λ below. absurd (let past = c.if-at-end.false in omega (arith, past, below));
    header = λ _. (c.if-word-eq0.false, ap (λ (n : ℕ). c.args.at + n) c.size_of.ensures.size);
  },
  below_one c.args.at c.args.tail c.args.end c.else-end-at.either,
)

pub returns-then-word-eq0-clause-none : goal.returns-then-word-eq0-clause-none
returns-then-word-eq0-clause-none g c none =
    let outside = c.if-at-end.false in
    let below : c.args.at < c.args.tail =
    ⊎_elim (λ (t : (c.args.end ≤ c.args.at) × (c.args.at < c.args.tail)). t.1) (λ (t : c.args.at < c.args.end). absurd (omega (arith, t, outside))) c.else-end-at.either
    in
    (outside, inr (below, subst (λ (n : ℕ). Booked g.L.RowLaw.law c.args.p.now.me.0 FLUSH_SEAT (LoadRing c.args.at) n c.load_ring-word.new.p.me.0) c.if-word-eq0.true c.load_ring-word.ensures.booked))

pub returns-then-at-end-clause-loads : goal.returns-then-at-end-clause-loads
returns-then-at-end-clause-loads g c = went_one _ _ _ _ _ _ _ tt c.load_ring-word.ensures.booked

pub returns-then-word-eq0-clause-loads : goal.returns-then-word-eq0-clause-loads
returns-then-word-eq0-clause-loads g c = went_one _ _ _ _ _ _ _ tt c.load_ring-word.ensures.booked

pub returns-clause-loads : goal.returns-clause-loads
returns-clause-loads g c = went_one _ _ _ _ _ _ _ tt c.load_ring-word.ensures.booked
