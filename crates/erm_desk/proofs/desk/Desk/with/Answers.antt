use Rattle.std.proofs.Common.{ℕ, Bool, List, Option, false, subst, sym}
use Rattle.erm_outside.specs.Disk.{Step}
use Rattle.erm_desk.specs.Desk.{IsDesk}
use Rattle.erm_desk.proofs.Begun.{begun}
use Rattle.erm_desk.proofs.Turned.{sees}
use Rattle.erm_desk.proofs.desk.Desk.with.Goals as goal

pub invariant_of-result : goal.invariant_of-result
invariant_of-result g c =
    let told = g.D.Disk.told c.args.disk in
    let faults = g.D.Disk.faults c.args.disk in
    let new = begun g.L.RowLaw.law c.kept_logs_begin.ensures g.B.Naming.start c.args.pass.me.0 told faults c.requires.behind c.requires.low c.requires.may c.requires.joins c.requires.start c.requires.flushed c.requires.unpinned
    c.requires.meets c.requires.holds
    in (
      c.requires.fits,
      c.requires.unpinned,
      subst (λ (f : Bool). IsDesk g.L.RowLaw.law g.B.Naming.start g.B.Naming.began g.B.Naming.faults (sees c.args.pass.me.0 told faults f)) (sym c.requires.new)
          (subst (λ (n : ℕ). IsDesk g.L.RowLaw.law g.B.Naming.start g.B.Naming.began n (sees c.args.pass.me.0 told faults false)) c.requires.faults
          (subst (λ (x : Option (List Step)). IsDesk g.L.RowLaw.law g.B.Naming.start x faults (sees c.args.pass.me.0 told faults false)) c.requires.began new)),
    )
