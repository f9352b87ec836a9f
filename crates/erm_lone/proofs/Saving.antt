-- Savepoints of a session of a world, as those of one beside others.
use Rattle.std.proofs.Common.{◌≡◌, ℕ, List, [], ◌∷◌, ◌++◌, take, refl, sym, ◌∙◌, subst, arith, Result, Ok, Err, IfErr, IfOk, OnOk}
use Rattle.erm_model.specs.declared.history.VersionWritten.{VersionWritten}
use Rattle.erm_model.specs.declared.outcome.Phase.TheVariants.{Active}
use Rattle.erm_model.specs.RowTransaction.{Law}
use Rattle.erm_world.specs.declared.stops.NoSave.{NoSave}
use Rattle.erm_world.specs.declared.stops.SaveStop.{SaveStop}
use Rattle.erm_world.specs.declared.stops.SaveStop.TheVariants as save
use Rattle.erm_world.specs.Laws.{IsSerializable}
use Rattle.erm_world.specs.Saves.{DidNotSave, DidSave, HasNoSave, WentBack, holding, restored, with_claims}
use Rattle.erm_world.specs.World.{IsSession, View, Work, phase_at, work_at}
use Rattle.erm_world.specs.World as world
use Rattle.erm_world.proofs.Restored.{extends_restored}
use Rattle.erm_world.proofs.Saves.{held_others}
use Rattle.erm_beside.specs.Calls.{After}
use Rattle.erm_lone.specs.Later.{IsLaterWorld}
use Rattle.erm_lone.specs.Moving.{WorldsMoveOn}
use Rattle.erm_lone.specs.Within.{active_with, later_itself}
use Rattle.erm_lone.proofs.Later.{active_later, world_then}
use Rattle.erm_lone.proofs.Leaves.{Leaves, leaves_becomes, leaves_same}
use Rattle.erm_lone.proofs.Moves.{IsNext, at_once, next_same}

-- a session that holds other savepoints is as it was
held_later : (v : View) (seat : ℕ) (held : List (List VersionWritten)) → IsLaterWorld v (holding seat held v)
held_later v seat held = record { opening = refl; tail = omega arith; flushed = omega arith; session = λ q. later_itself (v.session q) }

held_leaves : (v t : View) (seat : ℕ) (held : List (List VersionWritten)) → Leaves v seat t → Leaves v seat (holding seat held t)
held_leaves v t seat held leaves = record {
  others = leaves.others;
  opening = leaves.opening;
  given_up = leaves.given_up;
  saves = λ q another. held_others t seat held q another ∙ leaves.saves q another;
}

-- SAVE
saved_leaves : (v t : View) (seat held : ℕ) → DidSave v seat held t → Leaves v seat t
saved_leaves v t seat held did =
    subst (Leaves v seat) (sym did.saved) (held_leaves v v seat (v.saves seat ++ (work_at v seat).claims ∷ []) (leaves_same v v seat refl))

not_saved : (v t : View) (seat : ℕ) (why : SaveStop) → DidNotSave v seat why t → t ≡ v
not_saved v t seat (save.SavesFull held) did = did.0
not_saved v t seat save.Memory did = did.0

pub saves_leaves : (r : Result ℕ SaveStop) (v t : View) (seat : ℕ) → IfOk r (λ held. DidSave v seat held t) → IfErr r (λ why. DidNotSave v seat why t) → Leaves v seat t
saves_leaves (Ok held) v t seat did was = saved_leaves v t seat held did
saves_leaves (Err why) v t seat did was = leaves_same v t seat (not_saved v t seat why was)

pub saves_next : WorldsMoveOn → (r : Result ℕ SaveStop) (v t : View) (seat : ℕ) → IfOk r (λ held. DidSave v seat held t) → IfErr r (λ why. DidNotSave v seat why t) → IsNext v t
saves_next moving (Ok held) v t seat did was = record {
  later = subst (IsLaterWorld v) (sym did.saved) (held_later v seat (v.saves seat ++ (work_at v seat).claims ∷ []));
  moves = moving.saves v t seat held did;
}
saves_next moving (Err why) v t seat did was = next_same moving v t (not_saved v t seat why was)

pub saved_so : (r : Result ℕ SaveStop) (v t : View) (seat : ℕ) → IfOk r (λ held. DidSave v seat held t) → IfOk r (λ held. After seat (λ u w. DidSave u seat held w) v t)
saved_so (Ok held) v t seat did = at_once seat (λ u w. DidSave u seat held w) v t did
saved_so (Err why) v t seat did = tt

pub not_saved_so : (r : Result ℕ SaveStop) (v t : View) (seat : ℕ) → IfErr r (λ why. DidNotSave v seat why t) → IfErr r (λ why. After seat (λ u w. DidNotSave u seat why w) v t)
not_saved_so (Ok held) v t seat was = tt
not_saved_so (Err why) v t seat was = at_once seat (λ u w. DidNotSave u seat why w) v t was

-- BACK
back_leaves : (v t : View) (seat n : ℕ) → WentBack v seat n t → Leaves v seat t
back_leaves v t seat n did =
    subst (Leaves v seat) (sym did.saves)
    (held_leaves v did.between seat (take n (v.saves seat))
    (leaves_becomes v did.between seat (record { over = (v.session seat).over; stand = world.active (with_claims (restored did.saved (work_at v seat).claims) (work_at v seat)) }) did.claims))

pub backs_leaves : {X : Type 0} (r : Result X NoSave) (v t : View) (seat n : ℕ) → OnOk r (WentBack v seat n t) → IfErr r (λ none. HasNoSave v seat n none.held t) → Leaves v seat t
backs_leaves (Ok x) v t seat n did was = back_leaves v t seat n did
backs_leaves (Err none) v t seat n did was = leaves_same v t seat was.0

back_later : (law : Law) (v t : View) (seat n : ℕ) → IsSerializable law v → IsSession v seat → phase_at v seat ≡ Active → WentBack v seat n t → IsLaterWorld v t
back_later law v t seat n serializable session active did =
    let stand = active_with (v.session seat).stand active in
    let w : Work = with_claims (restored did.saved (work_at v seat).claims) (work_at v seat) in
    let goes = extends_restored (work_at v seat) did.saved (serializable.saves seat (work_at v seat) session stand did.place did.saved did.was_saved) in
    subst (IsLaterWorld v) (sym did.saves)
    (world_then v did.between (holding seat (take n (v.saves seat)) did.between) (active_later v did.between seat (work_at v seat) w stand goes did.claims)
    (held_later did.between seat (take n (v.saves seat))))

pub backs_next : {X : Type 0} → WorldsMoveOn → (r : Result X NoSave) (law : Law) (v t : View) (seat n : ℕ) → IsSerializable law v → IsSession v seat → phase_at v seat ≡ Active
    → OnOk r (WentBack v seat n t) → IfErr r (λ none. HasNoSave v seat n none.held t) → IsNext v t
backs_next moving (Ok x) law v t seat n serializable session active did was = record {
  later = back_later law v t seat n serializable session active did;
  moves = moving.backs v t seat n session active did;
}
backs_next moving (Err none) law v t seat n serializable session active did was = next_same moving v t was.0

pub back_so : {X : Type 0} (r : Result X NoSave) (v t : View) (seat n : ℕ) → OnOk r (WentBack v seat n t) → OnOk r (After seat (λ u w. WentBack u seat n w) v t)
back_so (Ok x) v t seat n did = at_once seat (λ u w. WentBack u seat n w) v t did
back_so (Err none) v t seat n did = tt

pub no_save_so : {X : Type 0} (r : Result X NoSave) (v t : View) (seat n : ℕ) → IfErr r (λ none. HasNoSave v seat n none.held t)
    → IfErr r (λ none. After seat (λ u w. HasNoSave u seat n none.held w) v t)
no_save_so (Ok x) v t seat n was = tt
no_save_so (Err none) v t seat n was = at_once seat (λ u w. HasNoSave u seat n none.held w) v t was
