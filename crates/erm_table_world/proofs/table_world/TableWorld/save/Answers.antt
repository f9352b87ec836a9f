use Rattle.std.proofs.Common.{◌≡◌, ◌∙◌, length, refl, subst, sym}
use Rattle.erm_model.specs.declared.limits.TheConstants.{SAVES}
use Rattle.erm_rule.specs.Views.{part_of, view}
use Rattle.erm_world.specs.declared.stops.SaveStop.{SaveStop}
use Rattle.erm_world.specs.declared.stops.SaveStop.TheVariants.{SavesFull}
use Rattle.erm_world.specs.Saves.{DidNotSave}
use Rattle.erm_table_world.specs.Stands.{world_view}
use Rattle.erm_core_steps.proofs.Results.{both_err, err_to, ok_to}
use Rattle.erm_table_world.proofs.GoingBack.{did_save, many_held, save_stands, saved_none}
use Rattle.erm_table_world.proofs.Sessions.{after_call, here}
use Rattle.erm_table_world.proofs.table_world.TableWorld.save.Goals as goal

pub save-requires : goal.save-requires
save-requires g c =
    let at = here g.L.RowLaw.law c.args.self.now c.args.seat c.index_mut.result.now c.requires.stands c.requires.session c.index_mut.ensures.value in
    record { stands = (_, at.stands); active = at.phase ∙ c.requires.active }

pub returns : goal.returns
returns g c =
    let law = g.L.RowLaw.law in
    let w = c.args.self.now in
    let seat = c.args.seat in
    let s = c.index_mut.result.now in
    let t = c.save.new.self in
    let stands = c.requires.stands in
    let session = c.requires.session in
    let active = c.requires.active in
    let value = c.index_mut.ensures.value in
    let at = here law w seat s stands session value in
    let is = c.save.ensures.stands (part_of (view w.pass) s.seat) at.stands in
    let r = c.save.result in
    record {
      stands = save_stands law w seat s stands session active value t c.save.ensures.seat is;
      ok = ok_to r _ _ (λ held adds. did_save law w seat s stands session active value t held is adds) c.save.ensures.saved;
      err =
          both_err r (λ stop. (stop ≡ SavesFull SAVES) × (length s.saves.points ≡ SAVES)) (λ stop. t ≡ s) _
          (λ why full same.
          subst (λ (z : SaveStop). DidNotSave (world_view w) seat z (world_view (after_call w seat w.pass t))) (sym full.0)
          (saved_none law w seat s stands session active value t w.pass same refl, refl, many_held law w seat s stands session active value ∙ full.1)) c.save.ensures.full c.save.ensures.same;
      memory = err_to r _ _ (λ why full same. absurd (let at = full.0 in cc)) c.save.ensures.full;
    }
