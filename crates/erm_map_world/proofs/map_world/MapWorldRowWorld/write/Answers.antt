use Rattle.std.proofs.Common.{List, sym, ap, ◌∙◌}
use Rattle.erm_model.specs.declared.history.VersionWritten.{VersionWritten}
use Rattle.erm_map_world.specs.MapWorks.{work_in}
use Rattle.erm_map_world.specs.Standing.{map_of, view_of}
use Rattle.erm_map_world.proofs.MapClauses.{claim_active, claim_session, set_stands, work_is, works_now, write_after}
use Rattle.erm_map_world.proofs.map_world.MapWorldRowWorld.write.Goals as goal
use Rattle.erm_world.specs.Calls.{DidClaim}
use Rattle.erm_world.specs.Works.{setting}

pub returns-clause-stands : goal.returns-clause-stands
returns-clause-stands g c =
    let s = c.claim.new.self in
    let did : DidClaim (view_of c.args.self.now) c.args.seat c.args.oid (view_of s) = c.in_ok-claim.ensures.ok in
    let session = claim_session (view_of c.args.self.now) c.args.seat c.args.oid (view_of s) c.requires.active did c.requires.session in
    let active = claim_active (view_of c.args.self.now) c.args.seat c.args.oid (view_of s) c.requires.active did in
    let is = ap (λ (list : List VersionWritten). record (work_in s.work) { claims = list }) c.set_row.ensures.rows in
    set_stands g.L.RowLaw.law (map_of s) s.phase (work_in s.work) c.args.seat session _ c.args.oid c.args.row.now active is c.in_ok-claim.ensures.stands

pub returns-clause-ok : goal.returns-clause-ok
returns-clause-ok g c =
    let s = c.claim.new.self in
    let did : DidClaim (view_of c.args.self.now) c.args.seat c.args.oid (view_of s) = c.in_ok-claim.ensures.ok in
    let session = claim_session (view_of c.args.self.now) c.args.seat c.args.oid (view_of s) c.requires.active did c.requires.session in
    let active = claim_active (view_of c.args.self.now) c.args.seat c.args.oid (view_of s) c.requires.active did in
    let is = ap (λ (list : List VersionWritten). record (work_in s.work) { claims = list }) c.set_row.ensures.rows in
    write_after (view_of c.args.self.now) c.args.seat c.args.oid c.args.row.now (view_of s) _ _ c.requires.active did (works_now g.L.RowLaw.law (map_of s) s.phase (work_in s.work) c.args.seat session _ active)
    (is ∙ ap (setting c.args.oid c.args.row.now) (sym (work_is g.L.RowLaw.law (map_of s) s.phase (work_in s.work) c.args.seat session active)))
