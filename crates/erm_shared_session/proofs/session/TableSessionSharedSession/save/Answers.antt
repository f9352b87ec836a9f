use Rattle.std.proofs.Common.{◌≡◌, ◌∙◌, refl, sym, subst, length}
use Rattle.erm_beside.specs.Onward.{passes_itself}
use Rattle.erm_core_steps.proofs.Results.{both_err, err_to, ok_to}
use Rattle.erm_model.specs.declared.limits.TheConstants.{SAVES}
use Rattle.erm_rule.specs.Books.{book}
use Rattle.erm_rule.specs.Views.{part_of}
use Rattle.erm_world.specs.declared.stops.SaveStop.{SaveStop}
use Rattle.erm_world.specs.declared.stops.SaveStop.TheVariants.{SavesFull}
use Rattle.erm_world.specs.Saves.{DidNotSave}
use Rattle.erm_shared_session.specs.Stands.{own_of}
use Rattle.erm_shared_session.proofs.GoingBack.{did_save, many_held, same_own, save_onward, save_stands}
use Rattle.erm_shared_session.proofs.Standing.{own_phase}
use Rattle.erm_shared_session.proofs.session.TableSessionSharedSession.save.Goals as goal

pub save-requires : goal.save-requires
save-requires g c =
    let s = c.args.self.now in
    record { stands = (_, c.requires.stands.session); active = own_phase s c.requires.stands.session ∙ c.requires.active }

pub returns : goal.returns
returns g c =
    let law = g.L.RowLaw.law in
    let table = c.args._shared.now in
    let s = c.args.self.now in
    let seat = s.session.seat in
    let b = book s.pass in
    let n = c.save.new.self in
    let t = record s { session = n } in
    let stands = c.requires.stands in
    let active = c.requires.active in
    let same = c.save.ensures.seat in
    let r = c.save.result in
    record {
      stands = save_stands law table s stands active n same (c.save.ensures.stands (part_of b.view seat) stands.session);
      onward = save_onward law table s stands active n same;
      ok = ok_to r _ _ (λ held adds. (own_of s, passes_itself seat (own_of s), did_save law table s stands active n same held adds)) c.save.ensures.saved;
      err =
          both_err r (λ stop. (stop ≡ SavesFull SAVES) × (length s.session.saves.points ≡ SAVES)) (λ stop. n ≡ s.session) _
          (λ why full left. (
            own_of s,
            passes_itself seat (own_of s),
            subst (λ (z : SaveStop). DidNotSave (own_of s) seat z (own_of t)) (sym full.0) (same_own law table s stands active t left refl refl refl, refl, many_held law table s stands active ∙ full.1),
          ))
          c.save.ensures.full c.save.ensures.same;
      memory = err_to r _ _ (λ why full same. absurd (let at = full.0 in cc)) c.save.ensures.full;
      pass = refl;
    }
