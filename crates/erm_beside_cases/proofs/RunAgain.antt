-- One of sessions that have run runs again.
use Rattle.std.proofs.Common.{◌≡◌, ℕ, zero, suc, ◌≢◌, ◌+◌, ◌<◌, ◌≤◌, ◌++◌, ◌⊎◌, ⊎_elim, inl, inr, List, [], ◌∷◌, length, get_or, set, take, drop, None, Some, refl, sym, ap, ◌∙◌, subst, arith}
use Rattle.std.specs.List.{All}
use Rattle.std.specs.Prelude.{slice_get}
use Rattle.std.proofs.lemmas.Option.{same_Some}
use Rattle.erm_model.specs.RowTransaction.{Law}
use Rattle.erm_rule.specs.declared.rule.Table.{Table}
use Rattle.erm_shared_session.specs.declared.session.TableSession.{TableSession}
use Rattle.erm_shared_session.specs.Stands.{Stands, own_of, seat_of}
use Rattle.erm_model.specs.declared.outcome.Phase.TheVariants.{Active}
use Rattle.erm_world.specs.World.{phase_at}
use Rattle.erm_engine.specs.Closed.{AllRest, AreDone}
use Rattle.erm_run_beside.proofs.More.{put_back}

set_cases : {X : Type 0} (xs : List X) (n k : ℕ) (x y : X) → slice_get (set xs n x) k ≡ Some y → ((k ≡ n) × (x ≡ y)) ⊎ (slice_get xs k ≡ Some y)
set_cases [] n k x y at = inr at
set_cases (z ∷ zs) zero zero x y at = inl (refl, same_Some x y at)
set_cases (z ∷ zs) zero (suc k) x y at = inr at
set_cases (z ∷ zs) (suc n) zero x y at = inr at
set_cases (z ∷ zs) (suc n) (suc k) x y at = ⊎_elim (λ (t : (k ≡ n) × (x ≡ y)). inl (ap suc t.0, t.1)) (λ (old : slice_get zs k ≡ Some y). inr old) (set_cases zs n k x y at)

get_there : {X : Type 0} (xs : List X) (k : ℕ) (d : X) → k < length xs → slice_get xs k ≡ Some (get_or xs k d)
get_there [] k d within = absurd (omega (arith, within))
get_there (x ∷ xs) zero d within = refl
get_there (x ∷ xs) (suc k) d within = get_there xs k d (omega (arith, within))

pub one_there : {X : Type 0} (xs : List X) (k : ℕ) (x : X) → k < length xs → x ≡ get_or xs k x → slice_get xs k ≡ Some x
one_there xs k x within is = get_there xs k x within ∙ ap (λ (y : _). Some y) (sym is)

pub set_done : {L : Type 0} (law : Law) (t : Table L) (ss : List (TableSession L)) (k : ℕ) (s : TableSession L) → AreDone law t ss → Stands law t s → seat_of s ≡ k + 1
    → AreDone law t (set ss k s)
set_done law t ss k s done stands seat n u at =
    ⊎_elim
    (λ (here : (n ≡ k) × (s ≡ u)).
    subst (λ (v : TableSession _). Stands law t v × (seat_of v ≡ n + 1)) here.1 (stands, (let is = here.0 in omega (arith, seat, is))))
    (λ (old : slice_get ss n ≡ Some u). done n u old) (set_cases ss k n s u at)

-- none of so many first ones has a transaction in progress
abbrev pub AreResting : {L : Type 0} → ℕ → List (TableSession L) → Type 0
AreResting {L} n ss = (k : ℕ) (s : TableSession L) → k < n → slice_get ss k ≡ Some s → phase_at (own_of s) (seat_of s) ≡ Active → ⊥

set_apart : {X : Type 0} (xs : List X) (n k : ℕ) (x y : X) → slice_get (set xs n x) k ≡ Some y → ((k ≡ n) × (x ≡ y)) ⊎ ((slice_get xs k ≡ Some y) × (k ≢ n))
set_apart [] n k x y at = absurd (let no : None ≡ Some y = at in cc)
set_apart (z ∷ zs) zero zero x y at = inl (refl, same_Some x y at)
set_apart (z ∷ zs) zero (suc k) x y at = inr (at, λ is. omega (arith, is))
set_apart (z ∷ zs) (suc n) zero x y at = inr (at, λ is. omega (arith, is))
set_apart (z ∷ zs) (suc n) (suc k) x y at =
    ⊎_elim (λ (t : (k ≡ n) × (x ≡ y)). inl (ap suc t.0, t.1)) (λ (old : (slice_get zs k ≡ Some y) × (k ≢ n)). inr (old.0, λ is. old.1 (omega (arith, is)))) (set_apart zs n k x y at)

-- nor has the next one
pub set_rests : {L : Type 0} (n : ℕ) (ss : List (TableSession L)) (s : TableSession L) → AreResting n ss → (phase_at (own_of s) (seat_of s) ≡ Active → ⊥) → AreResting (n + 1) (set ss n s)
set_rests {L} n ss s resting rests k u less at =
    ⊎_elim (λ (here : (k ≡ n) × (s ≡ u)). subst (λ (v : TableSession L). phase_at (own_of v) (seat_of v) ≡ Active → ⊥) here.1 rests)
    (λ (old : (slice_get ss k ≡ Some u) × (k ≢ n)). let other = old.1 in resting k u (omega (arith, less, other)) old.0) (set_apart ss n k s u at)

there_is : {X : Type 0} (xs : List X) (k : ℕ) (x : X) → slice_get xs k ≡ Some x → k < length xs
there_is [] k x at = absurd (let no : None ≡ Some x = at in cc)
there_is (y ∷ ys) zero x at = omega arith
there_is (y ∷ ys) (suc k) x at = let there = there_is ys k x at in omega (arith, there)

-- so none has, once all came
pub all_rest : {L : Type 0} (n : ℕ) (ss : List (TableSession L)) → AreResting n ss → length ss ≤ n → AllRest ss
all_rest n ss resting all = λ k s at. resting k s (let there = there_is ss k s at in omega (arith, there, all)) at

-- each of sessions that have run may be called, where they are lent as a slice
pub each_stands : {L : Type 0} (law : Law) (t : Table L) (ss xs : List (TableSession L)) → xs ≡ ss → AreDone law t ss → (i : ℕ) (s : TableSession L) → i < length xs
    → s ≡ get_or xs i s → Stands law t s
each_stands {L} law t ss xs same done i s less at =
    (done i s (subst (λ (l : List (TableSession L)). slice_get l i ≡ Some s) same (one_there xs i s less at))).0

-- so all may be
pub all_stand : {L : Type 0} (law : Law) (t : Table L) (ss : List (TableSession L)) → AreDone law t ss → All (Stands law t) ss
all_stand {L} law t ss done = λ k d less. (done k (get_or ss k d) (get_there ss k d less)).0

-- where each stands as before, and at its place, they have run, put back in the vector that was lent
pub all_done : {L : Type 0} (law : Law) (t : Table L) (n : ℕ) (ss xs ys : List (TableSession L)) → xs ≡ ss → length ys ≡ length xs → n ≡ length ss → AreDone law t ss
    → ((i : ℕ) (s : TableSession L) → i < length xs → Stands law t (get_or ys i s) × (seat_of (get_or ys i s) ≡ seat_of (get_or xs i s)))
    → AreDone law t (take n (ys ++ drop (length ys) ss))
all_done {L} law t n ss xs ys same long full done each =
    subst (AreDone law t) (sym (put_back n ys ss (long ∙ ap (λ (l : List (TableSession L)). length l) same) full))
    (λ k s at.
    let there : k < length ys = there_is ys k s at in
    let here : get_or ys k s ≡ s = same_Some (get_or ys k s) s (sym (get_there ys k s there) ∙ at) in
    let less : k < length xs = omega (arith, there, long) in
    let old : slice_get ss k ≡ Some (get_or xs k s) = subst (λ (l : List (TableSession L)). slice_get l k ≡ Some (get_or xs k s)) same (get_there xs k s less) in
    (subst (Stands law t) here (each k s less).0, ap seat_of (sym here) ∙ (each k s less).1 ∙ (done k (get_or xs k s) old).1))
