-- The transactions of sessions: where they begin, their stamps and numbers.
use Rattle.std.proofs.Common.{◌≡◌, ℕ, ◌<◌, ◌≤◌, ⊎_elim, Some, length, slice_get, map, option_map, sym, ap, ◌∙◌, subst, arith}
use Rattle.std.proofs.lemmas.Bool.{cases_eq, cases_lt}
use Rattle.std.proofs.lemmas.List.{length-map}
use Rattle.std.proofs.lemmas.Option.{same_Some, slice_get-get_or, slice_get-map, slice_get_within}
use Rattle.erm_model.specs.Lawful.{IsLawfulRecord}
use Rattle.erm_model.specs.RowTransaction.{Law}
use Rattle.erm_model.specs.Member.{◌∈◌}
use Rattle.erm_machine.specs.declared.attempt.Attempt.{Attempt}
use Rattle.erm_machine.specs.Core.{Core, blank}
use Rattle.erm_machine.specs.Decided.{record_of}
use Rattle.erm_machine.specs.Facts.{all_of}
use Rattle.erm_machine.specs.Lawful.{Lawful}
use Rattle.erm_machine.specs.Lives.{in_progress, over_at}
use Rattle.erm_machine.specs.Sound.{Sound}
use Rattle.erm_core_ssn.proofs.MarksAscend.{ascending}
use Rattle.erm_world.specs.Laws.{IsLawfulWork, IsNumbered}
use Rattle.erm_world.specs.World.{Finished, Has, HasStamp, IsSession, Work}
use Rattle.erm_core_view.specs.Views.{IsQuiet, finished_of, session_of, view_of, work_of}
use Rattle.erm_core_view.proofs.Parts.{current_of, has_attempt, has_stamped}
use Rattle.erm_core_view.proofs.Snapshots.{snapshots_new}

-- what keeps a law keeps it in the view
pub lawful_work : (law : Law) (seat : ℕ) (t : Attempt) → IsLawfulRecord law (record_of seat t) → IsLawfulWork law (work_of t)
lawful_work law seat t lawful = record {
  meets = λ rows fits. lawful.meets rows (record { meets = fits.meets; reads = fits.reads; claims = fits.claims; unreached = fits.unreached });
  reach = λ rows x fits. lawful.reach rows x (record { meets = fits.meets; reads = fits.reads; claims = fits.claims; unreached = fits.unreached });
}

-- two transactions of one seat with one stamp are one
pub one_attempt : (c : Core) (p : ℕ) (t u : Attempt) → Sound c → t ∈ all_of (c.seats p) → u ∈ all_of (c.seats p) → 0 < t.stamp → t.stamp ≡ u.stamp → t ≡ u
one_attempt c p t u sound at also drawn same =
    let too : 0 < u.stamp = omega (arith, drawn, same) in
    ⊎_elim
    (λ (e : at.0 ≡ also.0). same_Some t u (sym at.1 ∙ ap (λ k. slice_get (all_of (c.seats p)) k) e ∙ also.1))
    (λ (ne : at.0 ≡ also.0 → ⊥).
    ⊎_elim
    (λ (less : at.0 < also.0). let above = ascending c p at.0 also.0 t u sound less at.1 also.1 drawn too in absurd (omega (arith, above, same)))
    (λ (more : also.0 ≤ at.0). let above = ascending c p also.0 at.0 u t sound (omega (arith, more, ne)) also.1 at.1 too drawn in absurd (omega (arith, above, same)))
    (cases_lt at.0 also.0))
    (cases_eq at.0 also.0)

module _ (sessions : ℕ) (c : Core) (sound : Sound c) (quiet : IsQuiet sessions c) where
  -- a transaction begins within the log
  pub begins_within : (seat : ℕ) (w : Work) → Has (view_of sessions c) seat w → (c.shared.opening ≤ w.begin) × (w.begin ≤ c.shared.tail)
  begins_within seat w has =
      let at = has_attempt sessions c seat w sound has in
      let begin : at.attempt.begin ≡ w.begin = ap (λ (v : Work). v.begin) at.is in
      let past = ((sound.own seat).snapshot.past at.attempt at.stands).past in
      let opened : c.shared.opening ≤ at.attempt.begin =
      ⊎_elim
      (λ (over : at.attempt ∈ (c.seats seat).over). (sound.own seat).lives.opened at.attempt over)
      (λ (now : (in_progress (c.seats seat).place ≡ 1) × ((c.seats seat).current ≡ at.attempt)).
      subst (λ (t : Attempt). c.shared.opening ≤ t.begin) now.1 ((sound.own seat).lives.opened_now now.0))
      at.either
      in
      (omega (arith, opened, begin), omega (arith, past, begin))

  -- a stamp lies at or above the begin, within the log
  pub stamp_within : (seat : ℕ) (w : Work) (stamp : ℕ) → IsSession (view_of sessions c) seat → HasStamp (view_of sessions c) seat w stamp
      → (w.begin ≤ stamp) × (stamp < c.shared.tail)
  stamp_within seat w stamp is_session has =
      let at = has_stamped sessions c seat w stamp sound quiet is_session has in
      let begin : at.attempt.begin ≡ w.begin = ap (λ (v : Work). v.begin) at.is in
      let same = at.stamp_is in
      let sealed = ((sound.own seat).lives.sealed at.attempt at.stands at.drawn).1 in
      let drawn = (sound.own seat).decided.drawn at.attempt at.stands in
      (omega (arith, begin, same, sealed), omega (arith, same, drawn))

  -- no two transactions have one stamp
  pub stamps_differ : (p q : ℕ) (w u : Work) (stamp : ℕ) → IsSession (view_of sessions c) p → IsSession (view_of sessions c) q
      → HasStamp (view_of sessions c) p w stamp → HasStamp (view_of sessions c) q u stamp → (p ≡ q) × (w.number ≡ u.number)
  stamps_differ p q w u stamp of_p of_q has also =
      let at = has_stamped sessions c p w stamp sound quiet of_p has in
      let too = has_stamped sessions c q u stamp sound quiet of_q also in
      let same : at.attempt.stamp ≡ too.attempt.stamp = at.stamp_is ∙ sym too.stamp_is in
      ⊎_elim
      (λ (one : p ≡ q).
      let stands : too.attempt ∈ all_of (c.seats p) = subst (λ k. too.attempt ∈ all_of (c.seats k)) (sym one) too.stands in
      let is_one = one_attempt c p at.attempt too.attempt sound at.stands stands at.drawn same in
      (one, ap (λ (v : Work). v.number) (sym at.is) ∙ ap (λ (t : Attempt). t.number) is_one ∙ ap (λ (v : Work). v.number) too.is))
      (λ (two : p ≡ q → ⊥). absurd ((sound.both p q two).decided.apart at.attempt too.attempt at.stands too.stands at.drawn same))
      (cases_eq p q)

  -- what is sealed keeps the law
  pub stamped_lawful : (law : Law) → Lawful law c.shared c.seats → (seat : ℕ) (w : Work) (stamp : ℕ) → IsSession (view_of sessions c) seat
      → HasStamp (view_of sessions c) seat w stamp → IsLawfulWork law w
  stamped_lawful law lawful seat w stamp is_session has =
      let at = has_stamped sessions c seat w stamp sound quiet is_session has in
      subst (IsLawfulWork law) at.is (lawful_work law seat at.attempt (lawful.lawful seat at.attempt at.stands at.drawn))

  -- a session numbers its transactions
  pub session_numbered : (seat : ℕ) → IsSession (view_of sessions c) seat → IsNumbered (session_of (c.seats seat))
  session_numbered seat is_session =
      let x = c.seats seat in
      let plain = quiet.few seat is_session.1 in
      let lives = (sound.own seat).lives in
      let over_length : length (map finished_of x.over) ≡ length x.over = length-map x.over finished_of in
      record {
        over = λ k f e.
            let within : k < length x.over = (let h = slice_get_within (map finished_of x.over) k f e in omega (arith, h, over_length)) in
            let there : slice_get (map finished_of x.over) k ≡ Some (finished_of (over_at x k)) =
            slice_get-map finished_of x.over k ∙ ap (option_map finished_of) (slice_get-get_or x.over k blank within)
            in
            let same : f ≡ finished_of (over_at x k) = same_Some f (finished_of (over_at x k)) (sym e ∙ there) in
            ap (λ (g : Finished). g.work.number) same ∙ lives.numbers plain k within;
        now = λ w current.
            let at = current_of x w (snapshots_new c seat sound) current in
            let number : x.current.number ≡ w.number = ap (λ (v : Work). v.number) at.is in
            let progress = at.progress in
            let last = lives.current at.progress in
            let all = lives.number plain in
            omega (arith, number, progress, last, all, over_length);
      }
