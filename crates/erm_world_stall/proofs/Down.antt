-- Waits lead to smaller stamps.
use Rattle.std.proofs.Common.{◌≡◌, ℕ, zero, suc, ◌<◌, ◌≤◌, refl, ap, arith}
use Rattle.erm_model.specs.declared.outcome.Phase.TheVariants.{Active}
use Rattle.erm_model.specs.declared.row_stop.RowStop.TheVariants as stop
use Rattle.erm_world.specs.declared.stops.Wait.{Wait}
use Rattle.erm_world.specs.declared.stops.Wait.TheVariants as wait
use Rattle.erm_world.specs.Calls.{DidNotRead, DidNotSettle, IsInTheWay, IsSealedBelow, has_read, overwrites}
use Rattle.erm_world.specs.World.{IsSession, Stand, View, Work, active, idle, phase_of, sealed, snapshot, work_of}
use Rattle.erm_world_stall.specs.Waiting.{Chain, IsLeastSealed, NoneSealed, WaitsFor, bound_at, bound_of, to_read, to_settle}

-- a session that stands in the way of a settle is sealed below its stamp
pub record SealedBelow (v : View) (other bound : ℕ) : Type 0 where
  pub session : IsSession v other
  pub seen : ℕ
  pub work : Work
  pub stand : (v.session other).stand ≡ sealed work seen
  pub below : seen < bound

from_below : (v : View) (seat bound other seen : ℕ) (w : Work) → IsSealedBelow v seat bound other seen w → SealedBelow v other bound
from_below v seat bound other seen w h = record { session = h.session; seen = seen; work = w; stand = h.stand; below = h.below }

in_the_way : (v : View) (seat : ℕ) (w : Work) (bound other seen : ℕ) → IsInTheWay v seat w bound other seen → SealedBelow v other bound
in_the_way v seat w bound other seen (overwrites before after r split ready may) = from_below v seat bound other seen may.work may.is
in_the_way v seat w bound other seen (has_read before after c split ready rated clear may) = from_below v seat bound other seen may.work may.is

active_bound : (s : Stand) → phase_of s ≡ Active → bound_of s ≡ (work_of s).begin
active_bound idle e = absurd (cc)
active_bound (active w) e = refl
active_bound (sealed w stamp) e = absurd (cc)
active_bound (snapshot s) e = refl

sealed_falls : (v : View) (other bound top : ℕ) → SealedBelow v other bound → top ≡ bound → bound_at v other < top
sealed_falls v other bound top h e = let is = ap bound_of h.stand in let below = h.below in omega (arith, is, below, e)

pub falls : (v : View) (p q : ℕ) → WaitsFor v p q → bound_at v q < bound_at v p
falls v p q (to_read oid seen after phase refused) =
    let a = refused.3 in
    let own = active_bound (v.session p).stand phase in
    let is = ap bound_of a.stand in
    let below = a.below in
    omega (arith, own, is, below)
falls v p q (to_settle seen after refused) =
    let w = refused.1 in
    sealed_falls v q w.1 (bound_at v p) (in_the_way v p w.0 w.1 q seen w.3.1) (ap bound_of w.2)

chain_falls : (v : View) (n p q : ℕ) → Chain v n p q → bound_at v q < bound_at v p
chain_falls v zero p q w = falls v p q w
chain_falls v (suc n) p q w = let first = falls v p w.0 w.1 in let rest = chain_falls v n w.0 q w.2 in omega (arith, first, rest)

pub no_circle : (v : View) (n p : ℕ) → Chain v n p p → ⊥
no_circle v n p w = let h = chain_falls v n p p w in omega (arith, h)

-- nobody is sealed below the least one
none_below : (v : View) (seat stamp other bound : ℕ) → IsLeastSealed v seat stamp → bound ≡ stamp → SealedBelow v other bound → ⊥
none_below v seat stamp other bound least e h =
    let up = least.least other h.seen h.work h.session h.stand in
    let below = h.below in
    omega (arith, up, below, e)

own_stamp : (v : View) (seat stamp : ℕ) (w : Work) (s : ℕ) → IsLeastSealed v seat stamp → (v.session seat).stand ≡ sealed w s → s ≡ stamp
own_stamp v seat stamp w s least e = let a = ap bound_of e in let b = ap bound_of least.stand in omega (arith, a, b)

pub settles : (v t : View) (seat stamp : ℕ) (w : Wait) → IsLeastSealed v seat stamp → DidNotSettle v seat w t → w ≡ wait.Ring v.flushed
settles v t seat stamp (wait.Ring flushed) least refused = ap wait.Ring refused.1.3.0
settles v t seat stamp (wait.Seat other seen) least refused =
    let w = refused.1 in
    absurd (none_below v seat stamp other w.1 least (own_stamp v seat stamp w.0 w.1 least w.2) (in_the_way v seat w.0 w.1 other seen w.3.1))

pub room : (v t : View) (seat stamp : ℕ) (w : Wait) → IsLeastSealed v seat stamp → stamp ≤ v.flushed → DidNotSettle v seat w t → ⊥
room v t seat stamp (wait.Ring flushed) least up refused =
    let w = refused.1 in
    let is = own_stamp v seat stamp w.0 w.1 least w.2 in
    let full = w.3.1 in
    let few = w.3.2 in
    omega (arith, is, full, few, up)
room v t seat stamp (wait.Seat other seen) least up refused =
    let w = refused.1 in
    none_below v seat stamp other w.1 least (own_stamp v seat stamp w.0 w.1 least w.2) (in_the_way v seat w.0 w.1 other seen w.3.1)

pub reads : (v t : View) (seat oid other seen : ℕ) → NoneSealed v → DidNotRead v seat oid (stop.NotYet other seen) t → ⊥
reads v t seat oid other seen none refused = let a = refused.3 in none other seen a.work a.session a.stand
