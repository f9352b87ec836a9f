-- What answered calls leave touched in the work of their transaction.
use Rattle.std.proofs.Common.{◌≡◌, ℕ, ◌⊎◌, true, false, is_some, Bool, List, [], ◌∷◌, inl, inr, refl, sym, ap, subst}
use Rattle.erm_model.specs.declared.outcome.Phase.TheVariants.{Active}
use Rattle.erm_model.specs.RowTransaction.{Event, ReadBy, did_claim, did_make, did_read, did_write}
use Rattle.erm_node.specs.Sound.{sound_law}
use Rattle.erm_tree.specs.Tables.{AreClaiming}
use Rattle.erm_world.specs.Works.{is_claimed, row_read}
use Rattle.erm_world.specs.World.{View, Work, phase_at, phase_of, work_at, work_of}
use Rattle.erm_world.proofs.Txns.{went}
use Rattle.erm_world.proofs.Works.{Moves, work_face}
use Rattle.erm_lines.specs.Operations.{Ran}
use Rattle.erm_told_limits.proofs.Ran.{AreReading}

-- it was read or claimed
abbrev pub IsTouched : Work → ℕ → Type 0
IsTouched w x = (is_some (row_read w.reads x) ≡ true) ⊎ (is_claimed w.claims x ≡ true)

-- what was claimed stays so, and so does what was touched; and the events' objects are
pub record Leaves (w : Work) (events : List Event) (u : Work) : Type 0 where
  pub claimed : (x : ℕ) → is_claimed w.claims x ≡ true → is_claimed u.claims x ≡ true
  pub claims : (x : ℕ) → AreClaiming events x → is_claimed u.claims x ≡ true
  pub touched : (x : ℕ) → IsTouched w x → IsTouched u x
  pub reads : (x : ℕ) → AreReading events x → IsTouched u x

pub leaves_itself : (w : Work) → Leaves w [] w
leaves_itself w = record { claimed = λ x is. is; claims = λ x by. absurd by; touched = λ x is. is; reads = λ x by. absurd by }

pub true_or_not : (b : Bool) → (b ≡ true) ⊎ (b ≡ true → ⊥)
true_or_not true = inl refl
true_or_not false = inr (λ is. cc)

module _ (w : Work) (event : Event) (u : Work) (moves : Moves sound_law w event u) where
  still_touched : (x : ℕ) → IsTouched w x → IsTouched u x
  still_touched x (inl read) = inl ((moves.reads x).1 (inl read))
  still_touched x (inr claimed) = inr ((moves.claims x).1 (inl claimed))

  first_read : (oid : ℕ) (row : List ℕ) → event ≡ did_read oid row → (x : ℕ) → x ≡ oid → IsTouched u x
  first_read oid row is x here = elim (true_or_not (is_claimed w.claims oid)) as (λ _. IsTouched u x) [
    | inl claimed ↦ inr ((moves.claims x).1 (inl (subst (λ (n : ℕ). is_claimed w.claims n ≡ true) (sym here) claimed)))
    | inr not ↦ inl ((moves.reads x).1 (inr (subst (λ (e : Event). ReadBy (work_face sound_law) w e x) (sym is) (here, not))))
  ]

module _ (w : Work) (u : Work) (x_work : Work) where
  leaves_on : (event : Event) (events : List Event) → Moves sound_law w event x_work → Leaves x_work events u → Leaves w (event ∷ events) u
  leaves_on event events first rest = record {
    claimed = λ x is. rest.claimed x ((first.claims x).1 (inl is));
    claims = λ x by. elim by as (λ _. is_claimed u.claims x ≡ true) [ inl here ↦ rest.claimed x ((first.claims x).1 (inr here)) | inr later ↦ rest.claims x later ];
    touched = λ x is. rest.touched x (still_touched w event x_work first x is);
    reads = reading event events first rest;
  }
    where
      reading : (e : Event) (es : List Event) → Moves sound_law w e x_work → Leaves x_work es u → (x : ℕ) → AreReading (e ∷ es) x → IsTouched u x
      reading (did_read oid row) es move then_all x by = elim by as (λ _. IsTouched u x) [
        | inl here ↦ then_all.touched x (first_read w (did_read oid row) x_work move oid row refl x here)
        | inr later ↦ then_all.reads x later
      ]
      reading (did_claim oid) es move then_all x by = then_all.reads x by
      reading (did_write oid row) es move then_all x by = then_all.reads x by
      reading (did_make oid) es move then_all x by = then_all.reads x by

pub leaves : (events : List Event) (v t : View) (seat : ℕ) → phase_at v seat ≡ Active → Ran v seat events t → Leaves (work_at v seat) events (work_at t seat)
leaves [] v t seat active is = subst (λ (w : Work). Leaves (work_at v seat) [] w) (ap (λ (x : View). work_at x seat) (sym is)) (leaves_itself (work_at v seat))
leaves (event ∷ events) v t seat active (u, answered, rest) =
    let it = went sound_law v seat event u active answered in
    let is = ap work_of it.stand in
    let first : Moves sound_law (work_at v seat) event (work_at u seat) = subst (λ (w : Work). Moves sound_law (work_at v seat) event w) (sym is) it.moves in
    leaves_on (work_at v seat) (work_at t seat) (work_at u seat) event events first (leaves events u t seat (ap phase_of it.stand) rest)
