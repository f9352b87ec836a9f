-- Jobs, one after another.
use Rattle.std.proofs.Common.{◌≡◌, ℕ, zero, suc, ◌+◌, ◌<◌, ◌≤◌, ⊎_elim, true, false, List, [], ◌∷◌, ◌++◌, length, map, take, drop, refl, sym, ap, ◌∙◌, subst, arith}
use Rattle.std.specs.Prelude.{slice_get, ◌↔◌, IsSome, Option, None, Some}
use Rattle.std.proofs.lemmas.List.{length-append}
use Rattle.erm_model.proofs.Members.{slice_get-push}
use Rattle.erm_script.specs.declared.script.ScriptLine.{ScriptLine}
use Rattle.erm_threads.specs.declared.job.Job.{Job}
use Rattle.erm_threads.proofs.Jobs.{there_is}
use Rattle.erm_run_beside.specs.Jobs.{AreJobs, IsJobOf}

pub map_push : {X Y : Type 0} (f : X → Y) (xs : List X) (x : X) → map f (xs ++ x ∷ []) ≡ map f xs ++ f x ∷ []
map_push f [] x = refl
map_push f (y ∷ xs) x = ap (λ l. f y ∷ l) (map_push f xs x)

pub longer : {X : Type 0} (xs : List X) (x : X) → length (xs ++ x ∷ []) ≡ length xs + 1
longer xs x = length-append xs (x ∷ [])

-- what stands at a place of a list with one more: before the last one as before, and the last one
before_last : {X : Type 0} (xs : List X) (y x : X) (k : ℕ) → slice_get (xs ++ y ∷ []) k ≡ Some x → k < length xs → slice_get xs k ≡ Some x
before_last xs y x k at less =
    ⊎_elim (λ (old : (k < length xs) × (slice_get xs k ≡ Some x)). old.1) (λ (last : (k ≡ length xs) × (y ≡ x)). absurd (let is = last.0 in omega (arith, less, is))) (slice_get-push xs y x k at)

at_last : {X : Type 0} (xs : List X) (y x : X) (k : ℕ) → slice_get (xs ++ y ∷ []) k ≡ Some x → k ≡ length xs → y ≡ x
at_last xs y x k at is =
    ⊎_elim (λ (old : (k < length xs) × (slice_get xs k ≡ Some x)). absurd (let less = old.0 in omega (arith, less, is))) (λ (last : (k ≡ length xs) × (y ≡ x)). last.1) (slice_get-push xs y x k at)

pub one_more : {S T : Type 0} (ss : List S) (ps : List (List ScriptLine)) (js : List (Job S T)) (s : S) (p : List ScriptLine) (j : Job S T) → AreJobs ss ps js → IsJobOf s p j
    → AreJobs (ss ++ s ∷ []) (ps ++ p ∷ []) (js ++ j ∷ [])
one_more {S} {T} ss ps js s p j are is = record {
  many = let a = longer js j in let b = longer ss s in let many = are.many in omega (arith, a, b, many);
  lines = let a = longer js j in let b = longer ps p in let lines = are.lines in omega (arith, a, b, lines);
  each = λ k t ls i at_s at_p at_j.
      ⊎_elim (λ (old : (k < length js) × (slice_get js k ≡ Some i)).
      let less = old.0 in
      let many = are.many in
      let lines = are.lines in
      are.each k t ls i (before_last ss s t k at_s (omega (arith, less, many))) (before_last ps p ls k at_p (omega (arith, less, lines))) old.1)
      (λ (last : (k ≡ length js) × (j ≡ i)).
      let here = last.0 in
      let many = are.many in
      let lines = are.lines in
      let same_s : s ≡ t = at_last ss s t k at_s (omega (arith, here, many)) in
      let same_p : p ≡ ls = at_last ps p ls k at_p (omega (arith, here, lines)) in
      subst (λ (x : S). IsJobOf x ls i) same_s (subst (λ (x : List ScriptLine). IsJobOf s x i) same_p (subst (λ (x : Job S T). IsJobOf s p x) last.1 is)))
      (slice_get-push js j i k at_j);
}

-- the same, where the lines are those of parts
pub more_jobs : {S T P : Type 0} (items : P → List ScriptLine) (ss : List S) (gone : List P) (js more : List (Job S T)) (s : S) (p : P) (j : Job S T) → more ≡ js ++ j ∷ []
    → AreJobs ss (map items gone) js → IsJobOf s (items p) j → AreJobs (ss ++ s ∷ []) (map items (gone ++ p ∷ [])) more
more_jobs {S} {T} items ss gone js more s p j new are is =
    subst (λ (xs : List (Job S T)). AreJobs (ss ++ s ∷ []) (map items (gone ++ p ∷ [])) xs) (sym new)
    (subst (λ (ls : List (List ScriptLine)). AreJobs (ss ++ s ∷ []) ls (js ++ j ∷ [])) (sym (map_push items gone p)) (one_more ss (map items gone) js s (items p) j are is))

-- WHOLE: nothing is left
nil_behind : {X : Type 0} (xs : List X) → xs ++ [] ≡ xs
nil_behind [] = refl
nil_behind (x ∷ xs) = ap (λ l. x ∷ l) (nil_behind xs)

none_left : {X : Type 0} (xs : List X) → length xs ≡ 0 → xs ≡ []
none_left [] none = refl
none_left (x ∷ xs) none = absurd (omega (arith, none))

pub whole_now : {X : Type 0} (gone left all : List X) → gone ++ left ≡ all → length left ≡ 0 → gone ≡ all
whole_now {X} gone left all is none = sym (nil_behind gone) ∙ ap (λ (l : List X). gone ++ l) (sym (none_left left none)) ∙ is

-- one that comes next stands behind those that came, within all
pub comes_within : {X : Type 0} (gone left rest all : List X) (x : X) → gone ++ left ≡ all → left ≡ x ∷ rest → length gone < length all
comes_within {X} gone left rest all x whole is =
    let a = length-append gone left in let b = ap (λ (l : List X). length l) whole in let e = ap (λ (l : List X). length l) is in omega (arith, a, b, e)

-- what gives nothing has nothing left
pub none_came : {X : Type 0} (r : Option X) (left : ℕ) → (IsSome r ↔ (0 < left)) → ((x : X) → r ≡ Some x → ⊥) → left ≡ 0
none_came None zero is not = refl
none_came None (suc left) is not = absurd (let no : false ≡ true = is.1 (omega arith) in cc)
none_came (Some x) left is not = absurd (not x refl)

pub all_made : {S T P : Type 0} (items : P → List ScriptLine) (ss some : List S) (ps gone : List P) (left : List P) (js : List (Job S T)) → length ss ≡ length ps → some ≡ ss → gone ++ left ≡ ps
    → length gone ≡ length some → AreJobs some (map items gone) js → AreJobs ss (map items ps) js
all_made {S} {T} {P} items ss some ps gone left js many same whole long are =
    let a = length-append gone left in
    let b = ap (λ (l : List P). length l) whole in
    let e = ap (λ (l : List S). length l) same in
    let none : length left ≡ 0 = omega (arith, a, b, e, many, long) in
    subst (λ (xs : List S). AreJobs xs (map items ps) js) same (subst (λ (xs : List P). AreJobs some (map items xs) js) (whole_now gone left ps whole none) are)

-- IN PLACE of a vector's items, as many others
pub put_back : {X : Type 0} (n : ℕ) (xs ys : List X) → length xs ≡ length ys → n ≡ length ys → take n (xs ++ drop (length xs) ys) ≡ xs
put_back {X} n [] [] long is = let none : List X = [] in subst (λ (m : ℕ). take m none ≡ none) (sym is) refl
put_back n [] (y ∷ ys) long is = absurd (omega (arith, long))
put_back n (x ∷ xs) [] long is = absurd (omega (arith, long))
put_back zero (x ∷ xs) (y ∷ ys) long is = absurd (omega (arith, is))
put_back {X} (suc n) (x ∷ xs) (y ∷ ys) long is = ap (λ (l : List X). x ∷ l) (put_back n xs ys (omega (arith, long)) (omega (arith, is)))

-- the same jobs, of the same lines
pub same_jobs : {S T : Type 0} (ss : List S) (ps qs : List (List ScriptLine)) (js ys : List (Job S T)) → qs ≡ ps → js ≡ ys → AreJobs ss qs ys → AreJobs ss ps js
same_jobs {S} {T} ss ps qs js ys lines same are = subst (λ (ls : List (List ScriptLine)). AreJobs ss ls js) lines (subst (λ (xs : List (Job S T)). AreJobs ss qs xs) (sym same) are)

-- AMOUNTS of all that came, put together: it is no less than that of each
pub each_more : {X : Type 0} (amount : X → ℕ) (gone : List X) (x : X) (before now : ℕ) → ((k : ℕ) (y : X) → slice_get gone k ≡ Some y → amount y ≤ before) → now ≡ before + amount x
    → (k : ℕ) (y : X) → slice_get (gone ++ x ∷ []) k ≡ Some y → amount y ≤ now
each_more {X} amount gone x before now each is = λ k y at.
    ⊎_elim (λ (old : (k < length gone) × (slice_get gone k ≡ Some y)). let was = each k y old.1 in omega (arith, was, is))
    (λ (last : (k ≡ length gone) × (x ≡ y)). subst (λ (z : X). amount z ≤ now) last.1 (omega (arith, is))) (slice_get-push gone x y k at)

pub each_of_all : {X : Type 0} (amount : X → ℕ) (gone all : List X) (now : ℕ) → gone ≡ all → ((k : ℕ) (y : X) → slice_get gone k ≡ Some y → amount y ≤ now)
    → (k : ℕ) (y : X) → slice_get all k ≡ Some y → amount y ≤ now
each_of_all {X} amount gone all now whole each = λ k y at. each k y (subst (λ (l : List X). slice_get l k ≡ Some y) (sym whole) at)

-- AT A PLACE of a list, what is made from it
pub map_to : {X Y : Type 0} (f : X → Y) (xs : List X) (k : ℕ) (x : X) → slice_get xs k ≡ Some x → slice_get (map f xs) k ≡ Some (f x)
map_to f [] k x at = absurd (let less = there_is [] k x at in omega (arith, less))
map_to {X} {Y} f (z ∷ xs) zero x at = cc
map_to f (z ∷ xs) (suc k) x at = map_to f xs k x at

pub made_from_all : {X Y : Type 0} (f : X → Y) (gone all : List X) (made : List Y) → gone ≡ all → made ≡ map f gone → made ≡ map f all
made_from_all f gone all made whole is = is ∙ ap (λ (xs : List _). map f xs) whole
