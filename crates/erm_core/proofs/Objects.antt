-- What a step leaves of the room of objects.
use Rattle.std.proofs.Common.{◌≡◌, ℕ, ◌+◌, ◌<◌, ◌≤◌, ⊎_elim, Bool, cond, List, [], ◌∷◌, set, length, get_or, slice_get, Option, Some, None, refl, sym, ap, ◌∙◌, subst, arith, vec_capacity, length-append}
use Rattle.std.proofs.lemmas.List.{length-set}
use Rattle.std.proofs.lemmas.Bool.{cases_eq, eq-eqb}
use Rattle.std.proofs.lemmas.Option.{same_Some}
use Rattle.erm_machine.specs.declared.event.Kind.{Kind}
use Rattle.erm_machine.specs.declared.event.Kind.TheVariants as kind
use Rattle.erm_machine.specs.declared.version.Cell.{Cell}
use Rattle.erm_machine.specs.declared.version.Version.{Version}
use Rattle.erm_machine.specs.Core.{Object, with_version}
use Rattle.erm_machine.specs.Step.{installed}
use Rattle.erm_kept.specs.declared.object.ObjectState.{ObjectState}
use Rattle.erm_kept.specs.Objects.{object_of, object_after}
use Rattle.erm_seat.specs.Kinds.{object_in}
use Rattle.erm_core.specs.Seats.{versions_in, CutsNot, ObjectLeaves, ObjectsLeave}
use Rattle.erm_core.proofs.Seats.{get_set_same, get_set_other, found_there}

-- an object with a version changed has as many
word_len : (o : Object) (place : ℕ) (words : Cell) → length (with_version o place words).versions ≡ length o.versions
word_len o place words = length-set o.versions place _

-- an install adds one version at most
installed_len : (head : ℕ) (v : Option Version) (o : Object) → length (installed head v o).versions ≤ length o.versions + 1
installed_len head None o = omega arith
installed_len head (Some v) o = let len = length-append o.versions (v ∷ []) in omega (arith, len)

installed_cut : (head : ℕ) (v : Option Version) (o : Object) → (installed head v o).cut ≡ o.cut
installed_cut head None o = refl
installed_cut head (Some v) o = refl

here_one : (n : ℕ) → versions_in (kind.Install n 0) n ≡ 1
here_one n = ap (λ (b : Bool). cond b 1 0) (eq-eqb n n refl)

-- the versions after a step of this kind
more_versions : (p : ℕ) (k : Kind) (found : ℕ) (v : Option Version) (o : Object) → length (object_after p k found v o).versions ≤ length o.versions + versions_in k (object_in k)
more_versions p (kind.Install n head) found v o = let one = here_one n in let len = installed_len head v o in omega (arith, one, len)
more_versions p (kind.SetReader u) found v o =
    let len : length (object_after p (kind.SetReader u) found v o).versions ≡ length o.versions = word_len o u.place _ in omega (arith, len)
more_versions p (kind.ClearReader u) found v o =
    let len : length (object_after p (kind.ClearReader u) found v o).versions ≡ length o.versions = word_len o u.place _ in omega (arith, len)
more_versions p (kind.RaiseReader u value) found v o =
    let len : length (object_after p (kind.RaiseReader u value) found v o).versions ≡ length o.versions = word_len o u.place _ in omega (arith, len)
more_versions p (kind.StoreSucc u value) found v o =
    let len : length (object_after p (kind.StoreSucc u value) found v o).versions ≡ length o.versions = word_len o u.place _ in omega (arith, len)
more_versions p (kind.StoreOverwriter u value) found v o =
    let len : length (object_after p (kind.StoreOverwriter u value) found v o).versions ≡ length o.versions = word_len o u.place _ in omega (arith, len)
more_versions p (kind.SwapLink u) found v o =
    let len : length (object_after p (kind.SwapLink u) found v o).versions ≡ length o.versions = word_len o u.place _ in omega (arith, len)
more_versions p _ found v o = omega arith

same_cut : (p : ℕ) (k : Kind) (found : ℕ) (v : Option Version) (o : Object) → CutsNot k (object_in k) → (object_after p k found v o).cut ≡ o.cut
same_cut p (kind.Install n head) found v o none = installed_cut head v o
same_cut p (kind.SwapLink u) found v o none = absurd (none refl)
same_cut p _ found v o none = refl

object_leaves : (p : ℕ) (k : Kind) (found : ℕ) (v : Option Version) (o u : ObjectState) → object_of u ≡ object_after p k found v (object_of o) →
    vec_capacity u.versions ≡ vec_capacity o.versions → ObjectLeaves k (object_in k) o u
object_leaves p k found v o u after room =
    let more = more_versions p k found v (object_of o) in
    let len : length u.versions.items ≡ length (object_after p k found v (object_of o)).versions = ap (λ (x : Object). length x.versions) after in
    let was = o.versions.ok.0 in
    let is = u.versions.ok.0 in
    record {
      room = room;
      versions = omega (arith, more, len, was, is);
      cut = λ none. ap (λ (x : Object). x.cut) after ∙ same_cut p k found v (object_of o) none;
    }

-- an object that stays
same_leaves : (k : Kind) (oid : ℕ) (o : ObjectState) → ObjectLeaves k oid o o
same_leaves k oid o = record { room = refl; versions = omega arith; cut = λ none. refl }

pub objects_stay : (k : Kind) (os us : List ObjectState) → us ≡ os → ObjectsLeave k os us
objects_stay k os us same oid o u there_o there_u =
    subst (λ (z : ObjectState). ObjectLeaves k oid o z) (same_Some o u (sym there_o ∙ ap (λ (zs : List ObjectState). slice_get zs oid) (sym same) ∙ there_u)) (same_leaves k oid o)

-- the object that a kind names is changed
pub objects_leave : (p : ℕ) (k : Kind) (found : ℕ) (v : Option Version) (os : List ObjectState) (n : ℕ) (x y : ObjectState) → n < length os → x ≡ get_or os n x → n ≡ object_in k →
    object_of y ≡ object_after p k found v (object_of x) → vec_capacity y.versions ≡ vec_capacity x.versions → ObjectsLeave k os (set os n y)
objects_leave p k found v os n x y within at named after room oid o u there_o there_u =
    ⊎_elim
    (λ (e : oid ≡ n).
    let same_x : x ≡ o = found_there os n x o within at (subst (λ m. slice_get os m ≡ Some o) e there_o) in
    let same_y : y ≡ u = same_Some y u (sym (get_set_same os n y within) ∙ subst (λ m. slice_get (set os n y) m ≡ Some u) e there_u) in
    let there : ObjectLeaves k oid x y = subst (λ m. ObjectLeaves k m x y) (sym (e ∙ named)) (object_leaves p k found v x y after room) in
    subst (λ (z : ObjectState). ObjectLeaves k oid z u) same_x (subst (λ (z : ObjectState). ObjectLeaves k oid x z) same_y there))
    (λ (ne : oid ≡ n → ⊥).
    subst (λ (z : ObjectState). ObjectLeaves k oid o z) (same_Some o u (sym there_o ∙ sym (get_set_other os n y oid ne) ∙ there_u)) (same_leaves k oid o))
    (cases_eq oid n)
