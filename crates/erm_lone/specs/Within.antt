-- What is so of a session of a world in every state.
use Rattle.std.proofs.Common.{◌≡◌, ℕ, zero, suc, ◌+◌, ◌<◌, ◌≤◌, [], map, append-nil, refl, sym, ap, subst, inl, inr, arith}
use Rattle.std.proofs.lemmas.Bool.{cases_eq}
use Rattle.erm_model.specs.declared.outcome.Phase.TheVariants.{Active}
use Rattle.erm_model.specs.RowTransaction.{Law}
use Rattle.erm_world.specs.Laws.{IsPossibleIn, IsSerializable}
use Rattle.erm_world.specs.Going.{Extends, found_by}
use Rattle.erm_world.specs.Snapshots.{snapshot_not_active}
use Rattle.erm_world.specs.World.{IsCurrent, IsSession, Opening, Session, Stand, View, Work, made_by_all, made_in, made_upto, phase_of, work_at, work_of}
use Rattle.erm_world.specs.World as world
use Rattle.erm_safe_world.specs.Moves.{MovesOn}
use Rattle.erm_beside.specs.Laws.{IsSound, IsWithin}
use Rattle.erm_beside.specs.Later.{IsLater, StaysSealed}
use Rattle.erm_lone.specs.Later.{EndsIn, IsLaterWorld}

-- what a session made is made by all
made_among : (n : ℕ) (session : ℕ → Session) (seat x : ℕ) → 0 < seat → seat ≤ n → made_in (session seat) x ≤ made_upto n session x
unfolding made_upto
made_among zero session seat x above within = absurd (omega arith)
made_among (suc n) session seat x above within = elim (cases_eq seat (suc n)) as (λ _. made_in (session seat) x ≤ made_upto n session x + made_in (session (suc n)) x) [
  | inl is ↦ omega (arith, ap (λ (q : ℕ). made_in (session q) x) is)
  | inr another ↦ omega (arith, made_among n session seat x above (omega arith))
]

current_in : (stand : Stand) → phase_of stand ≡ Active → IsCurrent stand (work_of stand)
current_in world.idle active = cc
current_in (world.active w) active = refl
current_in (world.sealed w stamp) active = cc
current_in (world.snapshot s) active = absurd (snapshot_not_active s active)

pub active_with : (stand : Stand) → phase_of stand ≡ Active → stand ≡ world.active (work_of stand)
active_with world.idle active = cc
active_with (world.active w) active = refl
active_with (world.sealed w stamp) active = cc
active_with (world.snapshot s) active = absurd (snapshot_not_active s active)

pub is_sound : (law : Law) (v : View) (seat : ℕ) → IsSession v seat → IsSerializable law v → IsPossibleIn law v → IsSound law v seat
is_sound law v seat session serializable possible = record {
  session = session;
  possible = λ active. possible seat (work_at v seat) session (inr (current_in (v.session seat).stand active));
  once = λ x.
      let among : made_in (v.session seat) x ≤ made_by_all v x = made_among v.opening.sessions v.session seat x session.0 session.1 in
      omega (arith, among, serializable.made_once x);
  claimed_once = serializable.once seat session;
  saves = λ active. serializable.saves seat (work_at v seat) session (active_with (v.session seat).stand active);
  few_saves = λ active. serializable.few_saves seat session active;
}

-- EACH WORLD in which all may end.
pub is_within : (law : Law) (v : View) (seat : ℕ) (f : View) → EndsIn law v seat f → IsWithin seat v f
is_within law v seat f (session, later, serializable, moves) = record {
  session = (session.0, subst (λ (o : Opening). seat ≤ o.sessions) (sym later.opening) session.1);
  own = later.session seat;
  opening = later.opening;
  tail = later.tail;
  flushed = later.flushed;
}

-- AS IT STANDS.
pub extends_itself : (w : Work) → Extends w w
extends_itself w = record {
  number = refl;
  begin = refl;
  read = [];
  reads = sym (append-nil w.reads);
  claimed = [];
  claims = sym (append-nil (map found_by w.claims));
  more = [];
  made = sym (append-nil w.made);
}

stays_itself : (stand : Stand) → StaysSealed stand [] stand
stays_itself world.idle = tt
stays_itself (world.active w) = tt
stays_itself (world.sealed w stamp) = inr refl
stays_itself (world.snapshot s) = tt

pub later_itself : (s : Session) → IsLater s s
later_itself s = record {
  more = [];
  over = sym (append-nil s.over);
  current = λ w now. (w, extends_itself w, inr now);
  sealed = stays_itself s.stand;
  claims = omega arith;
  made = λ x. omega arith;
}

pub world_itself : (v : View) → IsLaterWorld v v
world_itself v = record { opening = refl; tail = omega arith; flushed = omega arith; session = λ q. later_itself (v.session q) }

-- a world moves on to itself
pub moves_itself : (v : View) → MovesOn v v
moves_itself v = record {
  opening = refl;
  tail = omega arith;
  kept = λ r m. m;
  commits = λ r m. inl m;
  works = λ seat w session working. inl (seat, w, session, working, refl);
}

-- all may end as they stand
pub ends_itself : (law : Law) (v : View) (seat : ℕ) → IsSession v seat → IsSerializable law v → EndsIn law v seat v
ends_itself law v seat session serializable = (session, world_itself v, serializable, moves_itself v)
