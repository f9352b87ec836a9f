-- The transactions of sessions that aren't decided.
use Rattle.std.proofs.Common.{◌≡◌, ℕ, zero, suc, ◌<◌, ◌≤◌, ◌⊎◌, ⊎_elim, Bool, true, false, cond, List, map, Option, Some, None, refl, sym, ap, ◌∙◌, subst, inl, inr, arith}
use Rattle.std.specs.Prelude.{IsSome, is_some, ◌==◌, ◌↔◌}
use Rattle.std.proofs.lemmas.Bool.{cases_eq, cond-true, eq-eqb, eqb-true}
use Rattle.std.proofs.lemmas.Option.{same_Some}
use Rattle.erm_model.specs.declared.history.VersionWritten.{VersionWritten}
use Rattle.erm_model.specs.RowTransaction.{Law}
use Rattle.erm_world.specs.Laws.{IsSerializable}
use Rattle.erm_world.specs.Log.{Undecided}
use Rattle.erm_world.specs.Whole.{IsSealedAt}
use Rattle.erm_world.specs.World.{IsSession, Session, Stand, View, Work}
use Rattle.erm_world.specs.World as world
use Rattle.erm_core_turns.specs.Turns.{first_of, undecided_at, undecided_upto}

abbrev undecided_as : ℕ → Work → Undecided
undecided_as seat w = record { seat = seat; claims = map (λ (c : VersionWritten). c.oid) w.claims }

first_some : (a b : Option Undecided) → IsSome a → IsSome (first_of a b)
first_some (Some u) b some = refl
first_some None b some = absurd (cc)

later_some : (a b : Option Undecided) → IsSome b → IsSome (first_of a b)
later_some (Some u) b some = refl
later_some None b some = some

-- one of the sessions is among those up to a number
pub one_undecided : (n : ℕ) (f : ℕ → Session) (at q : ℕ) → 0 < q → q ≤ n → IsSome (undecided_at at q (f q).stand) → IsSome (undecided_upto n f at)
unfolding undecided_upto
one_undecided zero f at q some low there = absurd (omega (arith, some, low))
one_undecided (suc n) f at q some low there =
    ⊎_elim
    (λ (here : q ≡ suc n). first_some (undecided_at at (suc n) (f (suc n)).stand) (undecided_upto n f at) (subst (λ (m : ℕ). IsSome (undecided_at at m (f m).stand)) here there))
    (λ (other : q ≡ suc n → ⊥). later_some (undecided_at at (suc n) (f (suc n)).stand) (undecided_upto n f at) (one_undecided n f at q some (omega (arith, low, other)) there))
    (cases_eq q (suc n))

pub none_undecided : (n : ℕ) (f : ℕ → Session) (at : ℕ) → ((q : ℕ) → undecided_at at q (f q).stand ≡ None) → undecided_upto n f at ≡ None
unfolding undecided_upto
none_undecided zero f at none = refl
none_undecided (suc n) f at none = ap (λ (a : Option Undecided). first_of a (undecided_upto n f at)) (none (suc n)) ∙ none_undecided n f at none

-- what is found among them is one of them
first_either : (a b : Option Undecided) (u : Undecided) → first_of a b ≡ Some u → (a ≡ Some u) ⊎ (b ≡ Some u)
first_either (Some v) b u e = inl e
first_either None b u e = inr e

found_undecided : (n : ℕ) (f : ℕ → Session) (at : ℕ) (u : Undecided) → undecided_upto n f at ≡ Some u → (q : ℕ) × (0 < q) × (q ≤ n) × (undecided_at at q (f q).stand ≡ Some u)
unfolding undecided_upto
found_undecided zero f at u e = absurd (cc)
found_undecided (suc n) f at u e =
    ⊎_elim
    (λ (here : undecided_at at (suc n) (f (suc n)).stand ≡ Some u). (suc n, omega arith, omega arith, here))
    (λ (later : undecided_upto n f at ≡ Some u). let r = found_undecided n f at u later in let low = r.2 in (r.0, r.1, omega (arith, low), r.3))
    (first_either (undecided_at at (suc n) (f (suc n)).stand) (undecided_upto n f at) u e)

-- one that is there is sealed with that stamp
pub record IsSealedSo (at q : ℕ) (s : Stand) (u : Undecided) : Type 0 where
  pub work : Work
  pub stand : s ≡ world.sealed work at
  pub is : undecided_as q work ≡ u

if_some : (b : Bool) (v u : Undecided) → cond b (Some v) None ≡ Some u → (b ≡ true) × (v ≡ u)
if_some true v u e = (refl, same_Some v u e)
if_some false v u e = absurd (cc)

pub undecided_is : (at q : ℕ) (s : Stand) (u : Undecided) → undecided_at at q s ≡ Some u → IsSealedSo at q s u
undecided_is at q (world.sealed w stamp) u e =
    let r = if_some (stamp == at) (undecided_as q w) u e in record { work = w; stand = ap (world.sealed w) (eqb-true stamp at r.0); is = r.1 }
undecided_is at q world.idle u e = absurd (cc)
undecided_is at q (world.active w) u e = absurd (cc)
undecided_is at q (world.snapshot t) u e = absurd (cc)

pub sealed_is : (at q : ℕ) (s : Stand) (w : Work) → s ≡ world.sealed w at → undecided_at at q s ≡ Some (undecided_as q w)
sealed_is at q s w e = ap (undecided_at at q) e ∙ cond-true (at == at) (Some (undecided_as q w)) None (eq-eqb at at refl)

-- The sessions that are sealed are those whose transactions aren't decided: no two are at one place.
module _ (law : Law) (v : View) (is : IsSerializable law v) (at : ℕ) where
  found : (u : Undecided) → undecided_upto v.opening.sessions v.session at ≡ Some u → IsSealedAt v at u × (undecided_at at u.seat (v.session u.seat).stand ≡ Some u)
  found u e =
      let r = found_undecided v.opening.sessions v.session at u e in
      let so = undecided_is at r.0 (v.session r.0).stand u r.3 in
      let seat : r.0 ≡ u.seat = ap (λ (x : Undecided). x.seat) so.is in (
        record {
          session = subst (IsSession v) seat (r.1, r.2);
          work = so.work;
          stand = subst (λ q. (v.session q).stand ≡ world.sealed so.work at) seat so.stand;
          claims = sym (ap (λ (x : Undecided). x.claims) so.is);
        },
        subst (λ q. undecided_at at q (v.session q).stand ≡ Some u) seat r.3,
      )

  there : (u : Undecided) → IsSealedAt v at u → undecided_at at u.seat (v.session u.seat).stand ≡ Some u
  there u sealed =
      sealed_is at u.seat (v.session u.seat).stand sealed.work sealed.stand
      ∙ ap (λ (claims : List ℕ). let x : Option Undecided = Some (record { seat = u.seat; claims = claims }) in x) (sym sealed.claims)

  some_value : (o : Option Undecided) → IsSome o → (u : Undecided) × (o ≡ Some u)
  some_value (Some u) some = (u, refl)
  some_value None some = absurd (cc)

  pub undecided_are : (u : Undecided) → (undecided_upto v.opening.sessions v.session at ≡ Some u) ↔ IsSealedAt v at u
  undecided_are u = (
    λ e. (found u e).0,
    λ sealed.
        let here = there u sealed in
        let some = one_undecided v.opening.sessions v.session at u.seat sealed.session.0 sealed.session.1 (ap is_some here) in
        let one = some_value (undecided_upto v.opening.sessions v.session at) some in
        let other = found one.0 one.1 in
        let same : one.0.seat ≡ u.seat =
        (is.differ one.0.seat u.seat other.0.work sealed.work at other.0.session sealed.session (inr other.0.stand) (inr sealed.stand)).0
        in
        let first : undecided_at at u.seat (v.session u.seat).stand ≡ Some one.0 =
        subst (λ q. undecided_at at q (v.session q).stand ≡ Some one.0) same other.1
        in
        one.1 ∙ sym first ∙ here,
  )
