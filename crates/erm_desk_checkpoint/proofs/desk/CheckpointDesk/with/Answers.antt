use Rattle.std.proofs.Common.{ℕ, Bool, false, subst, sym}
use Rattle.erm_desk_checkpoint.specs.Kept.{IsKept, sees_of}
use Rattle.erm_desk_checkpoint.proofs.Desks.{begun}
use Rattle.erm_desk_checkpoint.proofs.desk.CheckpointDesk.with.Goals as goal

pub invariant_of-result : goal.invariant_of-result
invariant_of-result g c =
    let law = g.L.RowLaw.law in
    let told = g.D.Disk.told c.args.disk in
    let new = begun law c.kept_logs_begin.ensures g.B.Naming.start g.B.Naming.began g.B.Naming.faults c.args.slots c.args.pass.me.0 told c.requires.lies c.requires.may c.requires.joins c.requires.start c.requires.flushed c.requires.unpinned
    c.requires.meets c.requires.began c.requires.holds in (
      c.requires.fits,
      c.requires.unpinned,
      c.requires.run,
      subst (λ (f : Bool). IsKept law g.B.Naming.start g.B.Naming.began g.B.Naming.faults c.args.slots (sees_of c.args.pass.me.0 told (g.D.Disk.faults c.args.disk) f)) (sym c.requires.new)
          (subst (λ (n : ℕ). IsKept law g.B.Naming.start g.B.Naming.began g.B.Naming.faults c.args.slots (sees_of c.args.pass.me.0 told n false)) (sym c.requires.faults) new),
    )
