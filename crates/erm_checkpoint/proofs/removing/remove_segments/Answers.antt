use Rattle.std.proofs.Common.{◌<◌, ◌≤◌, ◌∙◌, List, Option, IfSome, Some, subst, arith}
use Rattle.erm_log_disk.proofs.Exits.{on_err}
use Rattle.erm_outside.specs.Disk.{Step, Tells, contents}
use Rattle.erm_checkpoint.specs.Steps.{IsNextBelow, RemovesOne, RemovesPart, StartsRemoval}
use Rattle.erm_checkpoint.proofs.Removed.{told_begun, told_next}
use Rattle.erm_checkpoint.proofs.removing.remove_segments.Goals as goal

pub returns-in_err-remove_one-clause-part : goal.returns-in_err-remove_one-clause-part
returns-in_err-remove_one-clause-part g c =
    let segment = c.in-Some.segment in
    let next : IfSome (g.D.Disk.told c.loop-segment.disk) (λ steps. IsNextBelow (contents steps) c.loop-segment.from c.args.end (Some segment)) = rw c.in-Some.is at c.in_ok-segment.ensures.next in
    let begun = subst (λ (x : Option (List Step)). Tells (StartsRemoval segment) x (g.D.Disk.told c.remove_one.new.disk)) c.in_ok-segment.ensures.told c.in_err-remove_one.ensures.part in
    on_err c.from_residual-in_err-remove_one.result (Tells (RemovesPart c.args.first c.args.end) (g.D.Disk.told c.args.disk.now) (g.D.Disk.told c.remove_one.new.disk))
    (told_begun c.args.first c.loop-segment.from c.args.end segment (g.D.Disk.told c.args.disk.now) (g.D.Disk.told c.loop-segment.disk) (g.D.Disk.told c.remove_one.new.disk)
    c.loop-segment.invariant.above c.loop-segment.invariant.most c.loop-segment.invariant.told next begun)

pub loop-segment-preserved : goal.loop-segment-preserved
loop-segment-preserved g c =
    let segment = c.in-Some.segment in
    let next : IfSome (g.D.Disk.told c.loop-segment.disk) (λ steps. IsNextBelow (contents steps) c.loop-segment.from c.args.end (Some segment)) = rw c.in-Some.is at c.in_ok-segment.ensures.next in
    let within : (c.loop-segment.from ≤ segment) × (segment < c.args.end) = rw c.in-Some.is at c.in_ok-segment.ensures.within in
    let one = subst (λ (x : Option (List Step)). Tells (RemovesOne segment) x (g.D.Disk.told c.remove_one.new.disk)) c.in_ok-segment.ensures.told c.in_ok-remove_one.ensures.removed in
    let above = c.loop-segment.invariant.above in
    let low = within.0 in
    let high = within.1 in
    record {
      above = omega arith;
      most = omega arith;
      told = told_next c.args.first c.loop-segment.from c.args.end segment (g.D.Disk.told c.args.disk.now) (g.D.Disk.told c.loop-segment.disk) (g.D.Disk.told c.remove_one.new.disk)
          above c.loop-segment.invariant.told next one;
      sound = c.in_ok-remove_one.ensures.sound ∙ c.in_ok-segment.ensures.sound ∙ c.loop-segment.invariant.sound;
    }
