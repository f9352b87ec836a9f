-- What a line that makes a savepoint, or goes back to one, does to a view: the session's transaction goes on, as a run of one operation more.
use Rattle.std.proofs.Common.{◌≡◌, ◌≢◌, ℕ, suc, List, [], ◌∷◌, ◌++◌, take, sym, ap, ◌∙◌, subst}
use Rattle.erm_model.specs.declared.history.VersionWritten.{VersionWritten}
use Rattle.erm_model.specs.declared.outcome.Phase.TheVariants.{Active}
use Rattle.erm_model.specs.Run.{Step}
use Rattle.erm_report.specs.declared.answer.Answer.{Answer}
use Rattle.erm_report.specs.declared.answer.Answer.TheVariants as answer
use Rattle.erm_world.specs.Going.{Extends}
use Rattle.erm_world.specs.Saves.{WentBack, holding, restored, with_claims}
use Rattle.erm_world.specs.World.{Session, View, Work, phase_at, phase_of, work_at, work_of}
use Rattle.erm_world.proofs.Restored.{extends_restored}
use Rattle.erm_world.proofs.Saves.{held_now, held_others}
use Rattle.erm_maps.specs.Runs.{IsRunOf, Kept, going_back, kept_at, saving}
use Rattle.erm_maps.proofs.Kept.{IsRunOf-going_back, IsRunOf-saving, back_step, save_step}
use Rattle.erm_lines.specs.Answers.{DidAskBack, DidAskSave}

-- The session's transaction goes on, and nothing changes besides it and its savepoints.
pub record Saves (v : View) (seat : ℕ) (t : View) : Type 0 where
  pub over : (t.session seat).over ≡ (v.session seat).over
  pub active : phase_at v seat ≡ Active → phase_at t seat ≡ Active
  pub others : (q : ℕ) → q ≢ seat → t.session q ≡ v.session q
  pub saves : (q : ℕ) → q ≢ seat → t.saves q ≡ v.saves q
  pub opening : t.opening ≡ v.opening
  pub tail : t.tail ≡ v.tail
  pub flushed : t.flushed ≡ v.flushed
  pub pinned : t.pinned ≡ v.pinned

-- what a transaction is with its savepoints, by both
pub kept_is : (w u : Work) (xs ys : List (List VersionWritten)) → w ≡ u → xs ≡ ys → let k : Kept = record { work = w; saves = xs } in k ≡ record { work = u; saves = ys }
kept_is w u xs ys first second = cc

pub still : (v t : View) (seat : ℕ) → t ≡ v → Saves v seat t
still v t seat is = record {
  over = ap (λ (u : View). (u.session seat).over) is;
  active = λ active. ap (λ (u : View). phase_at u seat) is ∙ active;
  others = λ q another. ap (λ (u : View). u.session q) is;
  saves = λ q another. ap (λ (u : View). u.saves q) is;
  opening = ap (λ (u : View). u.opening) is;
  tail = ap (λ (u : View). u.tail) is;
  flushed = ap (λ (u : View). u.flushed) is;
  pinned = ap (λ (u : View). u.pinned) is;
}

-- A SAVEPOINT MORE
pub holds : (v t : View) (seat : ℕ) (held : List (List VersionWritten)) → t ≡ holding seat held v → Saves v seat t
holds v t seat held is = record {
  over = ap (λ (u : View). (u.session seat).over) is;
  active = λ active. ap (λ (u : View). phase_at u seat) is ∙ active;
  others = λ q another. ap (λ (u : View). u.session q) is;
  saves = λ q another. ap (λ (u : View). u.saves q) is ∙ held_others v seat held q another;
  opening = ap (λ (u : View). u.opening) is;
  tail = ap (λ (u : View). u.tail) is;
  flushed = ap (λ (u : View). u.flushed) is;
  pinned = ap (λ (u : View). u.pinned) is;
}

pub saved : (v t : View) (seat : ℕ) (a : Answer) → DidAskSave v seat a t → Saves v seat t
saved v t seat (answer.Saved held) did = holds v t seat (v.saves seat ++ (work_at v seat).claims ∷ []) did.saved
saved v t seat answer.SavesFull did = still v t seat did.0
saved v t seat a did = absurd did

-- whatever its answer, the session is the same
pub saved_session : (v t : View) (seat : ℕ) (a : Answer) → DidAskSave v seat a t → t.session ≡ v.session
saved_session v t seat (answer.Saved held) did = ap (λ (u : View). u.session) did.saved
saved_session v t seat answer.SavesFull did = ap (λ (u : View). u.session) did.0
saved_session v t seat a did = absurd did

-- A WAY BACK
pub back_goes : (v t : View) (seat n : ℕ) → WentBack v seat n t → Saves v seat t
back_goes v t seat n did =
    let last = holds did.between t seat (take n (v.saves seat)) did.saves in record {
      over = last.over ∙ ap (λ (s : Session). s.over) did.claims.own;
      active = λ active. last.active (ap (λ (s : Session). phase_of s.stand) did.claims.own);
      others = λ q another. last.others q another ∙ did.claims.others q another;
      saves = λ q another. last.saves q another ∙ did.claims.saves.others q another;
      opening = last.opening ∙ did.claims.opening;
      tail = last.tail ∙ did.claims.tail;
      flushed = last.flushed ∙ did.claims.flushed;
      pinned = last.pinned ∙ did.claims.pinned;
    }

pub went_back : (v t : View) (seat n : ℕ) (a : Answer) → DidAskBack v seat n a t → Saves v seat t
went_back v t seat n (answer.Back m) (same, did, more) = back_goes v t seat n did
went_back v t seat n (answer.NoSave held) did = still v t seat did.0
went_back v t seat n a did = absurd did

-- RUNS. The transaction is the run of the operations before, and of this one where it was answered.
abbrev pub IsRunAt : View → ℕ → Type 0
IsRunAt v seat = (steps : List Step) × IsRunOf (kept_at v seat) steps

-- what a transaction is then
pub kept_saving : (v t : View) (seat : ℕ) → t ≡ holding seat (v.saves seat ++ (work_at v seat).claims ∷ []) v → kept_at t seat ≡ saving (kept_at v seat)
kept_saving v t seat is =
    let more : List (List VersionWritten) = v.saves seat ++ (work_at v seat).claims ∷ [] in
    kept_is (work_at t seat) (work_at v seat) (t.saves seat) more (ap (λ (u : View). work_at u seat) is)
    (ap (λ (u : View). u.saves seat) is ∙ held_now v seat more)

pub kept_back : (v t : View) (seat n : ℕ) (did : WentBack v seat n t) → kept_at t seat ≡ going_back n did.saved (kept_at v seat)
kept_back v t seat n did =
    let w : Work = with_claims (restored did.saved (work_at v seat).claims) (work_at v seat) in
    let work : work_at t seat ≡ w = ap (λ (u : View). work_at u seat) did.saves ∙ ap (λ (s : Session). work_of s.stand) did.claims.own in
    let saves : t.saves seat ≡ take n (v.saves seat) = ap (λ (u : View). u.saves seat) did.saves ∙ held_now did.between seat (take n (v.saves seat)) in
    kept_is (work_at t seat) w (t.saves seat) (take n (v.saves seat)) work saves

pub save_runs : (v t : View) (seat held : ℕ) (before : List Step) → IsRunOf (kept_at v seat) before → DidAskSave v seat (answer.Saved held) t → IsRunOf (kept_at t seat) (before ++ save_step ∷ [])
save_runs v t seat held before run did =
    subst (λ (k : Kept). IsRunOf k (before ++ save_step ∷ [])) (sym (kept_saving v t seat did.saved)) (IsRunOf-saving (kept_at v seat) before run)

pub back_runs : (v t : View) (seat n : ℕ) (before : List Step) → IsRunOf (kept_at v seat) before → WentBack v seat n t → IsRunOf (kept_at t seat) (before ++ back_step n ∷ [])
back_runs v t seat n before run did =
    let went : IsRunOf (going_back (suc did.place) did.saved (kept_at v seat)) (before ++ back_step (suc did.place) ∷ []) = IsRunOf-going_back (kept_at v seat) before run did.place did.saved did.was_saved in
    subst (λ (k : Kept). IsRunOf k (before ++ back_step n ∷ [])) (sym (kept_back v t seat n did))
    (subst (λ (m : ℕ). IsRunOf (going_back m did.saved (kept_at v seat)) (before ++ back_step m ∷ [])) (sym did.number) went)

still_runs : (v t : View) (seat : ℕ) → t ≡ v → IsRunAt v seat → IsRunAt t seat
still_runs v t seat is run = subst (λ (u : View). IsRunAt u seat) (sym is) run

pub saved_runs : (v t : View) (seat : ℕ) (a : Answer) → IsRunAt v seat → DidAskSave v seat a t → IsRunAt t seat
saved_runs v t seat (answer.Saved held) run did = (run.0 ++ save_step ∷ [], save_runs v t seat held run.0 run.1 did)
saved_runs v t seat answer.SavesFull run did = still_runs v t seat did.0 run
saved_runs v t seat a run did = absurd did

pub went_back_runs : (v t : View) (seat n : ℕ) (a : Answer) → IsRunAt v seat → DidAskBack v seat n a t → IsRunAt t seat
went_back_runs v t seat n (answer.Back m) run (same, did, more) = (run.0 ++ back_step n ∷ [], back_runs v t seat n run.0 run.1 did)
went_back_runs v t seat n (answer.NoSave held) run did = still_runs v t seat did.0 run
went_back_runs v t seat n a run did = absurd did

-- it has gone on
pub back_extends : (v t : View) (seat n : ℕ) → IsRunAt v seat → WentBack v seat n t → Extends (work_at v seat) (work_at t seat)
back_extends v t seat n run did =
    subst (λ (k : Kept). Extends (work_at v seat) k.work) (sym (kept_back v t seat n did))
    (extends_restored (work_at v seat) did.saved (run.1.saves did.place did.saved did.was_saved))
