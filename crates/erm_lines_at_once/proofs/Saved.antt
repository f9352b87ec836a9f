-- Savepoints of a session that shares its world: others may have gone on before the call.
use Rattle.std.proofs.Common.{◌≡◌, ℕ, List, refl, sym, ap, subst}
use Rattle.erm_model.specs.Run.{Step}
use Rattle.erm_report.specs.declared.answer.Answer.TheVariants as answer
use Rattle.erm_world.specs.declared.stops.SaveStop.{SaveStop}
use Rattle.erm_world.specs.declared.stops.SaveStop.TheVariants as save
use Rattle.erm_world.specs.Saves.{DidNotSave, WentBack}
use Rattle.erm_world.specs.World.{Session, View, work_at, work_of}
use Rattle.erm_maps.specs.Runs.{IsRunOf, Kept, kept_at}
use Rattle.erm_lines.specs.Answers.{DidAskBack, DidAskSave}
use Rattle.erm_lines.proofs.Saved.{back_extends, kept_is}
use Rattle.erm_beside.specs.Calls.{After, Passes}

-- the session's transaction is the same, with its savepoints
pub passed_kept : (seat : ℕ) (v u : View) → Passes seat v u → kept_at u seat ≡ kept_at v seat
passed_kept seat v u passes = kept_is (work_at u seat) (work_at v seat) (u.saves seat) (v.saves seat) (ap (λ (s : Session). work_of s.stand) passes.own) passes.saves

-- it went back, and has gone on
pub went_back : (seat n : ℕ) (v t : View) (steps : List Step) → IsRunOf (kept_at v seat) steps → After seat (λ u w. WentBack u seat n w) v t
    → After seat (λ u w. DidAskBack u seat n (answer.Back n) w) v t
went_back seat n v t steps run (u, passes, did) =
    (u, passes, (refl, did, back_extends u t seat n (steps, subst (λ (k : Kept). IsRunOf k steps) (sym (passed_kept seat v u passes)) run) did))

-- it holds as many savepoints as it may
pub holds_all : (seat held : ℕ) (why : SaveStop) (v t : View) → why ≡ save.SavesFull held → After seat (λ u w. DidNotSave u seat why w) v t
    → After seat (λ u w. DidAskSave u seat answer.SavesFull w) v t
holds_all seat held why v t is did = from (subst (λ (s : SaveStop). After seat (λ u w. DidNotSave u seat s w) v t) is did)
  where
    from : After seat (λ u w. DidNotSave u seat (save.SavesFull held) w) v t → After seat (λ u w. DidAskSave u seat answer.SavesFull w) v t
    from (u, passes, (same, most, all)) = (u, passes, (same, refl, all))
