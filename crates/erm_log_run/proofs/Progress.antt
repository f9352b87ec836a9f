-- Each turn of the end closes a session, where one isn't idle.
use Rattle.std.proofs.Common.{inl, inr, ◌≡◌, ℕ, ◌+◌, ◌<◌, ◌≤◌, refl, ap, ◌∙◌, subst, arith}
use Rattle.std.specs.Prelude.{◌⊎◌}
use Rattle.erm_model.specs.declared.outcome.Phase.TheVariants as phase
use Rattle.erm_world.specs.Snapshots.{snapshot_not_idle, snapshot_not_sealed}
use Rattle.erm_world.specs.World.{IsSession, Opening, Session, Stand, View, Work, phase_at, phase_of}
use Rattle.erm_world.specs.World as world
use Rattle.erm_lines.specs.Executions.{DidFlush}
use Rattle.erm_log_run.specs.Closing.{HasClosed, count_open, open_in}
use Rattle.erm_log_run.proofs.Counting.{count_down, count_less, count_most, least_upto, none_open, some_open}

-- an idle session isn't counted, and one that isn't is
idle_none : (s : Stand) → phase_of s ≡ phase.Idle → open_in s ≡ 0
idle_none world.idle is = refl
idle_none (world.active w) is = cc
idle_none (world.sealed w stamp) is = cc
idle_none (world.snapshot s) is = absurd (snapshot_not_idle s is)

none_idle : (s : Stand) → open_in s ≡ 0 → phase_of s ≡ phase.Idle
none_idle world.idle is = refl
none_idle (world.active w) is = absurd (omega (arith, is))
none_idle (world.sealed w stamp) is = absurd (omega (arith, is))
none_idle (world.snapshot s) is = absurd (omega (arith, is))

module _ (n : ℕ) (v t : View) (many : v.opening.sessions ≡ n) (did : HasClosed v t) where
  of : (q : ℕ) → 0 < q → q ≤ n → IsSession v q
  of q positive few = (positive, omega (arith, few, many))

  each : (q : ℕ) → 0 < q → q ≤ n → open_in (t.session q).stand ≤ open_in (v.session q).stand
  each q positive few = elim (did.session q (of q positive few)) [
    | inl same ↦ (let e = ap (λ (s : Session). open_in s.stand) same in omega (arith, e))
    | inr closed ↦ (let e = idle_none (t.session q).stand closed.1 in omega (arith, e))
  ]

  pub no_more : count_open n t.session ≤ count_open n v.session
  no_more = count_less n v.session t.session each

  closed_at : (p : ℕ) → 0 < p → p ≤ n → phase_at t p ≡ phase.Idle → 0 < open_in (v.session p).stand → count_open n t.session < count_open n v.session
  closed_at p positive few idle busy =
      count_down n p v.session t.session each positive few (let e = idle_none (t.session p).stand idle in omega (arith, e, busy))

  -- where none stands sealed, no phase is that of one
  not_sealed : (s : Stand) → ((seen : ℕ) (w : Work) → s ≡ world.sealed w seen → ⊥) → phase_of s ≡ phase.Sealed → ⊥
  not_sealed world.idle none is = cc
  not_sealed (world.active w) none is = cc
  not_sealed (world.sealed w stamp) none is = none stamp w refl
  not_sealed (world.snapshot s) none is = snapshot_not_sealed s is

  pub one_less : 0 < count_open n v.session → count_open n t.session < count_open n v.session
  one_less some = elim (least_upto n v.session) [
    | inl none ↦ (let found = some_open n v.session some in
        closed_at found.seat found.positive found.few
        (did.unsealed found.seat (of found.seat found.positive found.few) (not_sealed (v.session found.seat).stand (λ seen w is. none found.seat seen w found.positive found.few is)))
        found.busy)
    | inr l ↦ closed_at l.seat l.positive l.few
        (did.least l.seat l.stamp l.work (of l.seat l.positive l.few) l.sealed (λ q seen w session at. l.least q seen w session.0 (let few = session.1 in omega (arith, few, many)) at))
        (let e = ap open_in l.sealed in omega (arith, e))
  ]

-- so many turns as there are sessions suffice
pub turn_taken : (n turns : ℕ) (v t : View) → v.opening.sessions ≡ n → HasClosed v t → count_open n v.session + turns ≤ n → turns < n → count_open n t.session + (turns + 1) ≤ n
turn_taken n turns v t many did before more = elim (some_or (count_open n v.session)) [
  | inl some ↦ (let less = one_less n v t many did some in omega (arith, less, before))
  | inr none ↦ (let less = no_more n v t many did in omega (arith, less, none, more))
]
  where
    some_or : (k : ℕ) → (0 < k) ⊎ (k ≡ 0)
    some_or k = grind arith

-- nobody is left
pub all_idle : (n : ℕ) (v : View) → v.opening.sessions ≡ n → count_open n v.session ≡ 0 → (seat : ℕ) → IsSession v seat → phase_at v seat ≡ phase.Idle
all_idle n v many none seat session = none_idle (v.session seat).stand (none_open n v.session none seat session.0 (let few = session.1 in omega (arith, few, many)))

-- sessions that stay are counted the same
pub same_count : (n : ℕ) (v t : View) → v.opening.sessions ≡ n → ((seat : ℕ) → IsSession v seat → t.session seat ≡ v.session seat) → count_open n t.session ≤ count_open n v.session
same_count n v t many same = count_less n v.session t.session
    (λ q positive few. let e = ap (λ (s : Session). open_in s.stand) (same q (positive, omega (arith, few, many))) in omega (arith, e))

pub none_left : (n k : ℕ) (v : View) → count_open n v.session + k ≤ n → n ≤ k → count_open n v.session ≡ 0
none_left n k v counted all = omega (arith, counted, all)

pub first_count : (n : ℕ) (v : View) → count_open n v.session + 0 ≤ n
first_count n v = let most = count_most n v.session in omega (arith, most)

-- a flush leaves idle sessions so
pub idle_after : (v t : View) → DidFlush v t → ((seat : ℕ) → IsSession v seat → phase_at v seat ≡ phase.Idle) → (seat : ℕ) → IsSession t seat → phase_at t seat ≡ phase.Idle
idle_after v t did idle seat session =
    let before = subst (λ (o : Opening). (0 < seat) × (seat ≤ o.sessions)) did.opening session in
    ap (λ (s : Session). phase_of s.stand) (did.session seat before) ∙ idle seat before
