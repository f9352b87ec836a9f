use Rattle.std.proofs.Common.{List, [], ◌∷◌, ◌++◌, sym, ap, ◌∙◌, arith}
use Rattle.erm_model.specs.declared.history.VersionWritten.{VersionWritten}
use Rattle.erm_map_world.specs.MapWorks.{work_in}
use Rattle.erm_map_world.specs.Standing.{map_of, saves_in}
use Rattle.erm_map_world.proofs.MapClauses.{save_done, save_stands}
use Rattle.erm_map_world.proofs.MapRows.{pushed}
use Rattle.erm_map_world.proofs.MapSaves.{saves_count, saves_push}
use Rattle.erm_map_world.proofs.map_world.MapWorldRowWorld.save.Goals as goal

pub returns-clause-stands : goal.returns-clause-stands
returns-clause-stands g c =
    let s = c.args.self.now in
    let more = ap saves_in (pushed c.push.result c.push.new.self.items s.saves.items c.in-Ok.claims c.push.ensures.items (sym c.if-is_err.false ∙ c.is_err.ensures.value)) ∙ saves_push s.saves.items c.in-Ok.claims
    ∙ ap (λ (claims : List VersionWritten). saves_in s.saves.items ++ claims ∷ []) (c.in-Ok.ensures ∙ c.as_slice.ensures.value) in
    save_stands g.L.RowLaw.law (map_of s) s.phase (work_in s.work) c.args._seat c.requires.session _ c.requires.active
    (let few = s.saves_few in let not_full = c.if-held-eq-SAVES.false in let held = c.len-held.ensures in let count = saves_count s.saves.items in omega (arith, few, not_full, held, count))
    more c.requires.stands

pub returns-clause-ok : goal.returns-clause-ok
returns-clause-ok g c =
    let s = c.args.self.now in
    let more = ap saves_in (pushed c.push.result c.push.new.self.items s.saves.items c.in-Ok.claims c.push.ensures.items (sym c.if-is_err.false ∙ c.is_err.ensures.value)) ∙ saves_push s.saves.items c.in-Ok.claims
    ∙ ap (λ (claims : List VersionWritten). saves_in s.saves.items ++ claims ∷ []) (c.in-Ok.ensures ∙ c.as_slice.ensures.value) in
    let held = c.len-held.ensures in
    let count = saves_count s.saves.items in
    save_done g.L.RowLaw.law (map_of s) s.phase (work_in s.work) c.args._seat c.requires.session _ _ c.requires.active
    (let few = s.saves_few in let not_full = c.if-held-eq-SAVES.false in omega (arith, few, not_full, held, count)) (omega (arith, held, count)) more
