use Rattle.std.proofs.Common.{◌≡◌, ◌∙◌, ◌-◌, ◌<◌, ℕ, [], ap, arith, length, slice_index_or, subst, suc, sym, take}
use Rattle.std.specs.Prelude.{OnOk}
use Rattle.erm_rule.specs.Books.{book}
use Rattle.erm_rule.specs.Views.{part_of, view}
use Rattle.erm_session.specs.Saves.{saves_of}
use Rattle.erm_session.specs.Saving.{GoesBack, IsNoSave}
use Rattle.erm_session.proofs.Backs.{backs_still}
use Rattle.erm_world.specs.Saves.{WentBack}
use Rattle.erm_table_world.specs.Stands.{world_view}
use Rattle.erm_core_steps.proofs.Results.{both_err, both_on_ok}
use Rattle.erm_table_world.proofs.GoingBack.{many_held, saved_none, went_back}
use Rattle.erm_table_world.proofs.Sessions.{after_call, here, still_call}
use Rattle.erm_table_world.proofs.table_world.TableWorld.back.Goals as goal

pub back-requires : goal.back-requires
back-requires g c =
    let at = here g.L.RowLaw.law c.args.self.now c.args.seat c.index_mut.result.now c.requires.stands c.requires.session c.index_mut.ensures.value in
    record { fits = c.requires.stands.fits; known = at.known; stands = at.stands; active = at.phase ∙ c.requires.active }

pub returns : goal.returns
returns g c =
    let law = g.L.RowLaw.law in
    let w = c.args.self.now in
    let seat = c.args.seat in
    let n = c.args.n in
    let s = c.index_mut.result.now in
    let t = c.back.new.self in
    let pass = c.back.new.p in
    let stands = c.requires.stands in
    let session = c.requires.session in
    let active = c.requires.active in
    let value = c.index_mut.ensures.value in
    let at = here law w seat s stands session value in
    let r = c.back.result in
    let x = part_of (view w.pass) s.seat in
    let y = part_of (view pass) s.seat in
    let saved = slice_index_or s.saves.points (n - 1) [] in
    let next : 0 < n → n ≡ suc (n - 1) = λ some. omega (arith, some) in
    let call = still_call law w seat s t pass stands session value c.back.ensures.fits c.back.ensures.seat c.back.ensures.stands (backs_still law s.seat (book w.pass) (book pass) c.back.ensures.goes) in
    let backs = subst (λ (q : ℕ). OnOk r (GoesBack (view w.pass) q saved (view pass))) at.seat c.back.ensures.back in
    record {
      stands = call.stands;
      ok =
          both_on_ok r ((n - 1 < length s.saves.points) × (0 < n)) (GoesBack (view w.pass) seat saved (view pass) × (saves_of t y ≡ take n (saves_of s x))) _
          (λ within rest.
          subst (λ (k : ℕ). WentBack (world_view w) seat k (world_view (after_call w seat pass t))) (sym (next within.1))
          (went_back law w seat s stands session active value t pass call.ran call.stayed c.back.ensures.stands (n - 1) within.0 rest.0 (rest.1 ∙ ap (λ (k : ℕ). take k (saves_of s x)) (next within.1))))
          c.back.ensures.within
          (both_on_ok r (GoesBack (view w.pass) seat saved (view pass)) (saves_of t y ≡ take n (saves_of s x)) _ (λ did cut. (did, cut)) backs c.back.ensures.saves);
      err =
          both_err r (λ stop. IsNoSave s n stop.held) (λ stop. (t ≡ s) × (view pass ≡ view w.pass) × (book pass ≡ book w.pass)) _
          (λ why none same. (saved_none law w seat s stands session active value t pass same.0 same.2, none.0 ∙ sym (many_held law w seat s stands session active value), none.1)) c.back.ensures.none c.back.ensures.same;
    }
