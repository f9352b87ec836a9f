use Rattle.std.proofs.Common.{ℕ, List, refl, sym, ap, ◌∙◌, arith}
use Rattle.erm_map_world.specs.MapWorks.{work_in}
use Rattle.erm_map_world.specs.Standing.{map_of}
use Rattle.erm_map_world.proofs.MapClauses.{make_stands}
use Rattle.erm_map_world.proofs.MapLaws.{map_all_made}
use Rattle.erm_map_world.proofs.MapRows.{pushed}
use Rattle.erm_map_world.proofs.map_world.MapWorldRowWorld.fresh.Goals as goal

pub returns-clause-stands : goal.returns-clause-stands
returns-clause-stands g c =
    let s = c.args.self.now in
    let is = ap (λ (list : List ℕ). record (work_in s.work) { made = list }) (pushed c.push.result c.push.new.self.items s.work.made.items s.next c.push.ensures.items (sym c.if-is_err.false ∙ c.is_err.ensures.value)) in
    make_stands g.L.RowLaw.law (map_of s) s.phase (work_in s.work) c.args._seat c.requires.session _ c.requires.active is c.requires.stands

pub returns-then-oid-eq-OID_LIMIT-clause-err : goal.returns-then-oid-eq-OID_LIMIT-clause-err
returns-then-oid-eq-OID_LIMIT-clause-err g c =
    let full = c.if-oid-eq-OID_LIMIT.true in
    (refl, (omega (arith, c.from.ensures, full), omega (arith, c.from.ensures, full)), map_all_made g.L.RowLaw.law (map_of c.args.self.now) c.requires.stands.is full)
