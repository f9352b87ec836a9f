use Rattle.std.proofs.Common.{List, [], ◌∷◌, ◌++◌, false, sym, ap, ◌∙◌, arith}
use Rattle.erm_model.specs.declared.history.VersionRead.{VersionRead}
use Rattle.erm_model.specs.declared.history.VersionWritten.{VersionWritten}
use Rattle.erm_map_world.specs.MapWorks.{work_in}
use Rattle.erm_map_world.specs.Standing.{map_of}
use Rattle.erm_map_world.proofs.MapClauses.{claim_now, claim_stands}
use Rattle.erm_map_world.proofs.MapRows.{newest_in, pushed, unclaimed_in}
use Rattle.erm_map_world.proofs.map_world.MapWorldRowWorld.claim.Goals as goal

pub returns-clause-stands : goal.returns-clause-stands
returns-clause-stands g c =
    let s = c.args.self.now in
    let newest_is = newest_in c.as_slice-2.result.now s.rows.items c.as_slice-3.result.now s.over.items c.args.oid c.newest_version-found.result c.as_slice-2.ensures.value c.as_slice-3.ensures.value c.newest_version-found.ensures in
    let is = ap (λ (list : List VersionWritten). record (work_in s.work) { claims = list }) (pushed c.push.result c.push.new.self.items s.work.claims.items _ c.push.ensures.items (sym c.if-is_err.false ∙ c.is_err.ensures.value)
    ∙ ap (λ (v : VersionRead). s.work.claims.items ++ record { oid = c.args.oid; stamp = v.stamp; base = v.row; row = v.row; is_set = false } ∷ []) newest_is) in
    claim_stands g.L.RowLaw.law (map_of s) s.phase (work_in s.work) c.args._seat c.requires.session _ c.args.oid c.requires.active is
    (unclaimed_in c.as_slice.result.now s.work.claims.items c.args.oid c.own.result c.as_slice.ensures.value c.own.ensures (sym c.if-is_some.false ∙ c.is_some.ensures)) c.requires.stands

pub returns-clause-ok : goal.returns-clause-ok
returns-clause-ok g c =
    let s = c.args.self.now in
    let newest_is = newest_in c.as_slice-2.result.now s.rows.items c.as_slice-3.result.now s.over.items c.args.oid c.newest_version-found.result c.as_slice-2.ensures.value c.as_slice-3.ensures.value c.newest_version-found.ensures in
    let is = ap (λ (list : List VersionWritten). record (work_in s.work) { claims = list }) (pushed c.push.result c.push.new.self.items s.work.claims.items _ c.push.ensures.items (sym c.if-is_err.false ∙ c.is_err.ensures.value)
    ∙ ap (λ (v : VersionRead). s.work.claims.items ++ record { oid = c.args.oid; stamp = v.stamp; base = v.row; row = v.row; is_set = false } ∷ []) newest_is) in
    claim_now g.L.RowLaw.law (map_of s) s.phase (work_in s.work) c.args._seat c.requires.session _ c.args.oid c.requires.active is
    (unclaimed_in c.as_slice.result.now s.work.claims.items c.args.oid c.own.result c.as_slice.ensures.value c.own.ensures (sym c.if-is_some.false ∙ c.is_some.ensures))
    (let few = c.if-len-eq-WRITE_LIMIT.false in let most = s.claims_few in let all = c.len.ensures in omega (arith, few, most, all)) c.requires.stands
