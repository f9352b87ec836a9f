-- What is told of an answer, as something else that follows from it.
use Rattle.std.proofs.Common.{◌≢◌, Result, Ok, Err, IfErr, IfOk, subst}
use Rattle.std.specs.Prelude.{OnOk}

pub ok_to : {X E : Type 0} (r : Result X E) (P Q : X → Type 0) → ((x : X) → P x → Q x) → IfOk r P → IfOk r Q
ok_to (Ok x) P Q f h = f x h
ok_to (Err why) P Q f h = tt

pub err_to : {X E : Type 0} (r : Result X E) (P Q : E → Type 0) → ((why : E) → P why → Q why) → IfErr r P → IfErr r Q
err_to (Ok x) P Q f h = tt
err_to (Err why) P Q f h = f why h

pub on_ok_to : {X E : Type 0} (r : Result X E) (P Q : Type 0) → (P → Q) → OnOk r P → OnOk r Q
on_ok_to (Ok x) P Q f h = f h
on_ok_to (Err why) P Q f h = tt

-- an answer is told by two facts
pub both_if_ok : {X E : Type 0} (r : Result X E) (P Q : X → Type 0) (R : Type 0) → ((x : X) → P x → Q x → R) → IfOk r P → IfOk r Q → OnOk r R
both_if_ok (Ok x) P Q R f h k = f x h k
both_if_ok (Err why) P Q R f h k = tt

pub both_on_ok : {X E : Type 0} (r : Result X E) (P Q R : Type 0) → (P → Q → R) → OnOk r P → OnOk r Q → OnOk r R
both_on_ok (Ok x) P Q R f h k = f h k
both_on_ok (Err why) P Q R f h k = tt

pub both_err : {X E : Type 0} (r : Result X E) (P Q R : E → Type 0) → ((why : E) → P why → Q why → R why) → IfErr r P → IfErr r Q → IfErr r R
both_err (Ok x) P Q R f h k = tt
both_err (Err why) P Q R f h k = f why h k

-- an error of which nothing is told isn't answered
pub never : {X E : Type 0} (r : Result X E) (P : E → Type 0) (other : E) → (P other → ⊥) → IfErr r P → IfErr r (λ why. why ≢ other)
never r P other none = err_to r P (λ why. why ≢ other) (λ why told same. none (subst P same told))
