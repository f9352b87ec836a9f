use Rattle.std.proofs.Common.{◌≡◌, ◌∙◌, ◌-◌, ◌<◌, ℕ, [], ap, arith, length, refl, slice_index_or, subst, suc, sym, take}
use Rattle.erm_beside.specs.Onward.{passes_itself}
use Rattle.erm_core_steps.proofs.Results.{both_err, both_on_ok, err_to}
use Rattle.erm_own_view.proofs.Along.{took_start}
use Rattle.erm_rule.specs.Books.{book}
use Rattle.erm_rule.specs.Views.{part_of, view}
use Rattle.erm_rule.proofs.Wents.{took_goes}
use Rattle.erm_session.specs.Saves.{saves_of}
use Rattle.erm_session.specs.Saving.{GoesBack, IsNoSave}
use Rattle.erm_world.specs.Saves.{WentBack}
use Rattle.erm_shared_session.specs.Stands.{own_of}
use Rattle.erm_shared_session.proofs.GoingBack.{backs_later, many_held, same_own, went_back}
use Rattle.erm_shared_session.proofs.Standing.{Again, Onward, goes_onward, own_phase, stands_again}
use Rattle.erm_shared_session.proofs.session.TableSessionSharedSession.back.Goals as goal

pub back-requires : goal.back-requires
back-requires g c =
    let s = c.args.self.now in
    record { fits = c.requires.stands.fits; known = c.requires.stands.may.known; stands = c.requires.stands.session; active = own_phase s c.requires.stands.session ∙ c.requires.active }

pub returns : goal.returns
returns g c =
    let law = g.L.RowLaw.law in
    let table = c.args.shared.now in
    let s = c.args.self.now in
    let seat = s.session.seat in
    let k = c.args.n in
    let n = c.back.new.self in
    let pass = c.back.new.p in
    let t = record s { session = n; pass = pass } in
    let b = book s.pass in
    let e = book pass in
    let r = c.back.result in
    let stands = c.requires.stands in
    let active = c.requires.active in
    let same = c.back.ensures.seat in
    let steps = c.back.ensures.goes.steps in
    let took = c.back.ensures.goes.took in
    let goes = took_goes law seat steps b e took in
    let start = took_start law seat steps b e took in
    let x = part_of (view s.pass) seat in
    let y = part_of (view pass) seat in
    let saved = slice_index_or s.session.saves.points (k - 1) [] in
    let next : 0 < k → k ≡ suc (k - 1) = λ some. omega (arith, some) in
    let did =
    both_on_ok r (GoesBack (view s.pass) seat saved (view pass)) (saves_of n y ≡ take k (saves_of s.session x)) (GoesBack (view s.pass) seat saved (view pass) × (saves_of n y ≡ take k (saves_of s.session x))) (λ back cut. (back, cut))
    c.back.ensures.back c.back.ensures.saves
    in
    let onward : Onward law = λ at tail flushed then_tail then_flushed first last f goes_on starts more_tail more_flushed is_later end.
    c.own_views_go_on.ensures.onward at tail flushed then_tail then_flushed first last f goes_on starts more_tail more_flushed is_later end in
    let again : Again law = λ at tail flushed then_tail then_flushed taken first last may steps_taken between seen.
    c.own_views_go_on.ensures.again at tail flushed then_tail then_flushed taken first last may steps_taken between seen in
    record {
      stands =
          stands_again law again table s t steps stands c.back.ensures.fits same c.back.ensures.stands c.back.ensures.known took
          (c.own_views_go_on.ensures.seen seat s.tail s.flushed b e stands.may goes);
      onward =
          goes_onward law onward s t same goes start (omega arith) (omega arith)
          (backs_later law table s stands active t same refl refl start r k c.back.ensures.within c.back.ensures.back (err_to r _ _ (λ why left. left.2) c.back.ensures.same));
      ok =
          both_on_ok r ((k - 1 < length s.session.saves.points) × (0 < k)) (GoesBack (view s.pass) seat saved (view pass) × (saves_of n y ≡ take k (saves_of s.session x))) _
          (λ within back. (
            own_of s,
            passes_itself seat (own_of s),
            subst (λ (j : ℕ). WentBack (own_of s) seat j (own_of t)) (sym (next within.1))
                (went_back law table s stands active t same refl refl start (k - 1) within.0 back.0 (back.1 ∙ ap (λ (j : ℕ). take j (saves_of s.session x)) (next within.1))),
          )) c.back.ensures.within did;
      err =
          both_err r (λ stop. IsNoSave s.session k stop.held) (λ stop. (n ≡ s.session) × (view pass ≡ view s.pass) × (e ≡ b)) _
          (λ why none left.
          (own_of s, passes_itself seat (own_of s), (same_own law table s stands active t left.0 refl refl left.2, none.0 ∙ sym (many_held law table s stands active), none.1))) c.back.ensures.none c.back.ensures.same;
      took = c.back.ensures.goes;
    }
