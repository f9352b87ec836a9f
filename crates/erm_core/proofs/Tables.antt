-- Tables as functions of their places: a table with one element changed.
use Rattle.std.proofs.Common.{◌≡◌, ◌≢◌, ℕ, ◌<◌, ⊎_elim, Bool, cond, List, map, set, get_or, length, Option, refl, sym, ap, ◌∙◌, subst, get_or-set_other}
use Rattle.std.proofs.lemmas.Bool.{cases_eq, eq-eqb, ne_eqb}
use Rattle.std.proofs.lemmas.List.{get_or-set_same, map-set, get_or-map, length-map}
use mathlib.Core.Path.{fun_ext}
use Rattle.erm_machine.specs.declared.part.Part.{Part}
use Rattle.erm_machine.specs.declared.event.Kind.{Kind}
use Rattle.erm_machine.specs.declared.event.Kind.TheVariants as kind
use Rattle.erm_machine.specs.declared.place.Place.TheVariants.{Vacant}
use Rattle.erm_machine.specs.declared.version.Version.{Version}
use Rattle.erm_machine.specs.Core.{Object, Shared, no_object, fresh_part}
use Rattle.erm_machine.specs.Step.{with_object, shared_after}
use Rattle.erm_machine.specs.Words.{put}
use Rattle.erm_kept.specs.declared.object.ObjectState.{ObjectState}
use Rattle.erm_seat.specs.declared.seat.SeatState.{SeatState}
use Rattle.erm_core.specs.Cores.{objects_of, parts_of, shared_with, added_in}
use Rattle.erm_core.specs.Kinds.{ChangesObject}
use Rattle.erm_seat.specs.Kinds.{object_in}
use Rattle.erm_kept.specs.Objects.{object_of, object_after}
use Rattle.erm_seat.specs.Parts.{part_of}

put_here : {X : Type 0} (f : ℕ → X) (k : ℕ) (v : X) (n : ℕ) → n ≡ k → put f k v n ≡ v
put_here f k v n e = ap (λ (b : Bool). cond b v (f n)) (eq-eqb n k e)

put_there : {X : Type 0} (f : ℕ → X) (k : ℕ) (v : X) (n : ℕ) → n ≢ k → put f k v n ≡ f n
put_there f k v n ne = ap (λ (b : Bool). cond b v (f n)) (ne_eqb n k ne)

-- a list with one element set, read with a default
pub set_at : {X : Type 0} (xs : List X) (k : ℕ) (v d : X) → k < length xs → (n : ℕ) → get_or (set xs k v) n d ≡ put (λ m. get_or xs m d) k v n
set_at xs k v d within n =
    ⊎_elim
    (λ (e : n ≡ k). subst (λ m. get_or (set xs k v) m d ≡ put (λ i. get_or xs i d) k v m) (sym e) (get_or-set_same xs k v d within ∙ sym (put_here (λ i. get_or xs i d) k v k refl)))
    (λ (ne : n ≡ k → ⊥). get_or-set_other xs k n v d ne ∙ sym (put_there (λ i. get_or xs i d) k v n ne))
    (cases_eq n k)

pub set_function : {X : Type 0} (xs : List X) (k : ℕ) (v d : X) → k < length xs → (λ (n : ℕ). get_or (set xs k v) n d) ≡ put (λ m. get_or xs m d) k v
set_function xs k v d within = fun_ext (λ n. set_at xs k v d within n)

-- the table of objects with one changed
pub objects_set : (os : List ObjectState) (oid : ℕ) (x y : ObjectState) (F : Object → Object) → oid < length os → x ≡ get_or os oid x → object_of y ≡ F (object_of x) →
    objects_of (set os oid y) ≡ put (objects_of os) oid (F (objects_of os oid))
objects_set os oid x y F within at changed =
    let was : objects_of os oid ≡ object_of x = get_or-map object_of os oid x no_object within ∙ ap object_of (sym at) in
    ap (λ (zs : List Object). λ (n : ℕ). get_or zs n no_object) (map-set object_of os oid y)
    ∙ set_function (map object_of os) oid (object_of y) no_object (subst (λ n. oid < n) (sym (length-map os object_of)) within)
    ∙ ap (λ (v : Object). put (objects_of os) oid v) (changed ∙ ap F (sym was))

-- the seats' parts with one changed
pub parts_set : (run opening : ℕ) (xs : List SeatState) (p : ℕ) (y : SeatState) → p < length xs → parts_of run opening (set xs p y) ≡ put (parts_of run opening xs) p (part_of y)
parts_set run opening xs p y within =
    ap (λ (zs : List Part). λ (n : ℕ). get_or zs n (fresh_part Vacant run opening)) (map-set part_of xs p y)
    ∙ set_function (map part_of xs) p (part_of y) (fresh_part Vacant run opening) (subst (λ n. p < n) (sym (length-map xs part_of)) within)

-- a seat's part among them
pub parts_at : (run opening : ℕ) (xs : List SeatState) (p : ℕ) (x : SeatState) → p < length xs → x ≡ get_or xs p x → parts_of run opening xs p ≡ part_of x
parts_at run opening xs p x within at = get_or-map part_of xs p x (fresh_part Vacant run opening) within ∙ ap part_of (sym at)

-- a change that leaves the value there
pub put_same_value : {X : Type 0} (f : ℕ → X) (k : ℕ) (v : X) → f k ≡ v → put f k v ≡ f
put_same_value f k v e =
    fun_ext (λ n. ⊎_elim (λ (here : n ≡ k). put_here f k v n here ∙ sym e ∙ sym (ap f here)) (λ (there : n ≡ k → ⊥). put_there f k v n there) (cases_eq n k))

-- a step that changes an object changes the one that its kind names
named_object : (p : ℕ) (k : Kind) (found : ℕ) (v : Option Version) (s : Shared) → ChangesObject k →
    with_object (object_in k) (object_after p k found v (s.objects (object_in k))) s ≡ shared_with p k found v s
named_object p (kind.Claim oid seen number) found v s c = refl
named_object p (kind.Install oid head) found v s c = refl
named_object p (kind.SetReader u) found v s c = refl
named_object p (kind.ClearReader u) found v s c = refl
named_object p (kind.RaiseReader u value) found v s c = refl
named_object p (kind.StoreSucc u value) found v s c = refl
named_object p (kind.StoreOverwriter u value) found v s c = refl
named_object p (kind.SwapLink u) found v s c = refl
named_object p _ found v s c = absurd c

pub shared_object : (p : ℕ) (k : Kind) (found : ℕ) (v : Option Version) (s : Shared) (oid : ℕ) → ChangesObject k → oid ≡ object_in k →
    with_object oid (object_after p k found v (s.objects oid)) s ≡ shared_with p k found v s
shared_object p k found v s oid c e = ap (λ n. with_object n (object_after p k found v (s.objects n)) s) e ∙ named_object p k found v s c

-- what is shared after a step, by the version that it adds
pub shared_by_version : (p : ℕ) (k : Kind) (found : ℕ) (x : Part) (s : Shared) → shared_after p k found x s ≡ shared_with p k found (added_in k x) s
shared_by_version p k found x s = by_kind k
  where
    by_kind : (k : Kind) → shared_after p k found x s ≡ shared_with p k found (added_in k x) s
    by_kind (kind.Install oid head) = refl
    by_kind _ = refl

-- the changed seat's part
pub parts_here : (run opening : ℕ) (xs : List SeatState) (p : ℕ) (y : SeatState) → p < length xs → parts_of run opening (set xs p y) p ≡ part_of y
parts_here run opening xs p y within =
    ap (λ (f : ℕ → Part). f p) (parts_set run opening xs p y within) ∙ put_here (parts_of run opening xs) p (part_of y) p refl

-- an object of the table
pub object_there : (os : List ObjectState) (n m : ℕ) (o : ObjectState) → m ≡ n → m < length os → o ≡ get_or os m o → objects_of os n ≡ object_of o
object_there os n m o e within at = ap (λ k. objects_of os k) (sym e) ∙ get_or-map object_of os m o no_object within ∙ ap object_of (sym at)

-- the table of objects where one is kept anew
pub objects_same : (os : List ObjectState) (oid : ℕ) (x y : ObjectState) → oid < length os → x ≡ get_or os oid x → object_of y ≡ object_of x →
    objects_of (set os oid y) ≡ objects_of os
objects_same os oid x y within at same =
    objects_set os oid x y (λ o. o) within at same ∙ put_same_value (objects_of os) oid (objects_of os oid) refl
