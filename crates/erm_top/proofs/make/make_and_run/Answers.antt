use Rattle.std.proofs.Common.{refl}
use Rattle.erm_top.proofs.Disks.{make_ends}
use Rattle.erm_top.proofs.make.make_and_run.Goals as goal

pub returns : goal.returns
returns g c = λ left faults.
    make_ends c.one_recovery.ensures c.each_transaction_is_counted.ensures.sum c.args.count c.args.sessions c.requires.one c.put_told-status.result _ (record { left = refl; sound = refl })
    c.made-answered.result.told c.made-answered.ensures c.put_told-status.ensures
