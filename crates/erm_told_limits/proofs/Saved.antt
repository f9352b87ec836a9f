-- How a session goes on by a line that makes a savepoint, or goes back to one: it has made, claimed and read nothing more.
use Rattle.std.proofs.Common.{◌≡◌, ℕ, suc, true, is_some, List, [], ◌∷◌, length, refl, sym, ap, subst, inl, arith}
use Rattle.std.proofs.lemmas.List.{length-map}
use Rattle.erm_model.specs.declared.history.VersionWritten.{VersionWritten}
use Rattle.erm_model.specs.Lawful.{times_made}
use Rattle.erm_report.specs.declared.answer.Answer.{Answer}
use Rattle.erm_report.specs.declared.answer.Answer.TheVariants as answer
use Rattle.erm_world.specs.Saves.{WentBack, restored, undone, with_claims}
use Rattle.erm_world.specs.Works.{row_read}
use Rattle.erm_world.specs.World.{Session, View, Work, work_at}
use Rattle.erm_maps.specs.Runs.{Kept}
use Rattle.erm_lines.specs.Answers.{DidAskBack, DidAskSave}
use Rattle.erm_lines.proofs.Saved.{back_goes, kept_back, saved, saved_session}
use Rattle.erm_told_limits.proofs.Grown.{Grew}
use Rattle.erm_told_limits.proofs.Moved.{Turned, moved_nothing, moved_on, turned_nothing}

pub saved_turned : (P : ℕ → Type 0) (v : View) (seat : ℕ) (t : View) (a : Answer) → DidAskSave v seat a t → Turned P 0 0 0 v seat t
saved_turned P v seat t a did =
    let it = saved v t seat a did in record {
      own = moved_nothing P (v.session seat) (t.session seat) (ap (λ (sessions : ℕ → Session). sessions seat) (saved_session v t seat a did));
      others = it.others;
      saves = it.saves;
      opening = it.opening;
    }

-- no claim is given up
restored_length : (first claims : List VersionWritten) → length (restored first claims) ≡ length claims
restored_length [] claims = length-map claims undone
restored_length (s ∷ first) [] = refl
restored_length (s ∷ first) (c ∷ claims) = ap suc (restored_length first claims)

module _ (P : ℕ → Type 0) (v : View) (seat n : ℕ) (t : View) (did : WentBack v seat n t) where
  back_work : work_at t seat ≡ with_claims (restored did.saved (work_at v seat).claims) (work_at v seat)
  back_work = ap (λ (k : Kept). k.work) (kept_back v t seat n did)

  back_grew : Grew (work_at v seat) (work_at t seat) 0 0
  back_grew =
      let w = work_at v seat in
      let same = restored_length did.saved w.claims in
      subst (λ (u : Work). Grew w u 0 0) (sym back_work) (record { made = omega arith; claimed = omega (arith, same); few = λ few. omega (arith, few, same); apart = λ apart. apart })

  pub went_turned : Turned P 0 0 0 v seat t
  went_turned =
      let it = back_goes v t seat n did in record {
        own = moved_on P 0 0 (v.session seat) (t.session seat) it.over back_grew (λ x. omega (arith, ap (λ (w : Work). times_made w.made x) back_work))
            (λ x read. inl (subst (λ (w : Work). is_some (row_read w.reads x) ≡ true) back_work read));
        others = it.others;
        saves = it.saves;
        opening = it.opening;
      }

pub back_turned : (P : ℕ → Type 0) (v : View) (seat : ℕ) (t : View) (n : ℕ) (a : Answer) → DidAskBack v seat n a t → Turned P 0 0 0 v seat t
back_turned P v seat t n (answer.Back m) (is, did, more) = went_turned P v seat n t did
back_turned P v seat t n (answer.NoSave held) did = turned_nothing P v seat t did.0
back_turned P v seat t n a did = absurd did
