-- The passes of sessions are taken in.
use Rattle.std.proofs.Common.{◌≡◌, ℕ, zero, suc, ◌<◌, List, [], ◌∷◌, ◌++◌, length, map, append_assoc, refl, sym, ap, ◌∙◌, subst, arith}
use Rattle.std.specs.Prelude.{slice_get, Some}
use Rattle.erm_model.specs.Member.{◌∈◌}
use Rattle.erm_machine.specs.declared.place.Place.TheVariants.{Idle}
use Rattle.erm_machine.specs.Core.{fresh_part}
use Rattle.erm_machine.proofs.Listed.{∈-head, ∈-second}
use Rattle.erm_rule.specs.declared.view.Book.{Book}
use Rattle.erm_rule.specs.declared.view.View.{View}
use Rattle.erm_rule.specs.Books.{both_books}
use Rattle.erm_rule.specs.Views.{MayJoin, one_seat}
use Rattle.erm_engine.specs.Taken.{HasTaken}
use Rattle.erm_engine.proofs.Taken.{one_taken, then_taken}

-- A PASS OF ONE SEAT may be taken in.
pub idle_joins : (seat run place : ℕ) (v : View) → v ≡ one_seat seat (fresh_part Idle run place) → MayJoin v
idle_joins seat run place v lone = subst MayJoin (sym lone) (record { some_held = omega arith; taken = refl })

-- ONE MORE
map_push : {X Y : Type 0} (f : X → Y) (xs : List X) (x : X) → map f (xs ++ x ∷ []) ≡ map f xs ++ f x ∷ []
map_push f [] x = refl
map_push f (y ∷ xs) x = ap (λ l. f y ∷ l) (map_push f xs x)

pub more_taken : {X : Type 0} (f : X → Book) (xs : List X) (x : X) (a b e : Book) → HasTaken (map f xs) a b → MayJoin (f x).view → e ≡ both_books b (f x) → HasTaken (map f (xs ++ x ∷ [])) a e
more_taken f xs x a b e taken may is =
    subst (λ (ms : List Book). HasTaken ms a e) (sym (map_push f xs x))
    (then_taken (map f xs) (f x ∷ []) a b e taken (subst (λ (z : Book). HasTaken (f x ∷ []) b z) (sym is) (one_taken b (f x) taken.joins may)))

-- A VECTOR that gives its items one after another
pub yields_item : {X : Type 0} (ys : List X) (x : X) (rest now all items : List X) → ys ++ now ≡ all → now ≡ x ∷ rest → all ≡ items → x ∈ items
yields_item {X} ys x rest now all items whole is same =
    subst (λ (l : List X). x ∈ l) (ap (λ (l : List X). ys ++ l) (sym is) ∙ whole ∙ same) (∈-second ys (x ∷ rest) x (∈-head x rest))

pub yields_on : {X : Type 0} (ys : List X) (x : X) (rest now all : List X) → ys ++ now ≡ all → now ≡ x ∷ rest → (ys ++ x ∷ []) ++ rest ≡ all
yields_on {X} ys x rest now all whole is = append_assoc ys (x ∷ []) rest ∙ ap (λ (l : List X). ys ++ l) (sym is) ∙ whole

-- each place of a list within it has its item
pub at_within : {X : Type 0} (xs : List X) (k : ℕ) → k < length xs → (x : X) × (slice_get xs k ≡ Some x)
at_within [] k within = absurd (omega (arith, within))
at_within (x ∷ xs) zero within = (x, refl)
at_within (x ∷ xs) (suc k) within = at_within xs k (omega (arith, within))
