use Rattle.std.proofs.Common.{List, ◌≡◌, ◌-◌, Some, ap, ◌∙◌, arith}
use Rattle.std.specs.List.{slice_get}
use Rattle.erm_model.specs.declared.history.VersionWritten.{VersionWritten}
use Rattle.erm_map_world.specs.MapWorks.{work_in}
use Rattle.erm_map_world.specs.Standing.{map_of, saves_in}
use Rattle.erm_map_world.proofs.MapClauses.{back_done, back_stands}
use Rattle.erm_map_world.proofs.MapSaves.{in_items, saved_at, saves_cut}
use Rattle.erm_map_world.proofs.map_world.MapWorldRowWorld.back.Goals as goal

pub returns-clause-stands : goal.returns-clause-stands
returns-clause-stands g c =
    let s = c.args.self.now in
    let n = c.args.n in
    let some = c.if-n-eq0.false in
    let within = c.if-held-n.false in
    let held = c.len-held.ensures in
    let at : slice_get (saves_in s.saves.items) (n - 1) ≡ Some c.as_slice.result.now =
    saved_at s.saves.items (n - 1) c.index.result.now (omega (arith, some, within, held)) ∙ ap Some (in_items s.saves.items (n - 1) c.index.result.now c.as_slice.result.now c.index.ensures c.as_slice.ensures.value) in
    back_stands g.L.RowLaw.law (map_of s) s.phase (work_in s.work) c.args._seat c.requires.session n _ _ (n - 1) c.as_slice.result.now c.requires.active at
    (ap (λ (list : List VersionWritten). record (work_in s.work) { claims = list }) c.restore.ensures.rows) (ap saves_in c.truncate.ensures.items ∙ saves_cut n s.saves.items) c.requires.stands

pub returns-clause-ok : goal.returns-clause-ok
returns-clause-ok g c =
    let s = c.args.self.now in
    let n = c.args.n in
    let some = c.if-n-eq0.false in
    let within = c.if-held-n.false in
    let held = c.len-held.ensures in
    let at : slice_get (saves_in s.saves.items) (n - 1) ≡ Some c.as_slice.result.now =
    saved_at s.saves.items (n - 1) c.index.result.now (omega (arith, some, within, held)) ∙ ap Some (in_items s.saves.items (n - 1) c.index.result.now c.as_slice.result.now c.index.ensures c.as_slice.ensures.value) in
    back_done g.L.RowLaw.law (map_of s) s.phase (work_in s.work) c.args._seat c.requires.session n _ _ (n - 1) c.as_slice.result.now c.requires.active (omega (arith, some)) at
    (ap (λ (list : List VersionWritten). record (work_in s.work) { claims = list }) c.restore.ensures.rows) (ap saves_in c.truncate.ensures.items ∙ saves_cut n s.saves.items)
