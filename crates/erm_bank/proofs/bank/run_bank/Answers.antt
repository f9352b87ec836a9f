use Rattle.erm_bank.proofs.bank.run_bank.Goals as goal
use Rattle.erm_bank.proofs.Stays.{bank_so}

pub returns-clause-ran : goal.returns-clause-ran
returns-clause-ran g c =
    bank_so
    (record {
      crashes_solvent = c.crashes_leave_solvent_customers.ensures;
      crashes_totals = c.crashes_leave_totals.ensures;
      ends_solvent = c.ends_leave_solvent_customers.ensures;
      ends_totals = c.ends_leave_totals.ensures;
      was = c.audits_show_what_was.ensures;
      what_is = c.audits_show_what_is.ensures;
      in_order = c.audits_stand_in_order.ensures;
    })
    (g.D.Disk.told c.args.disk) (g.D.Disk.told c.run_programs_on_disk.result.disk) c.args.tellers.items c.run_programs_on_disk.result.ended c.run_programs_on_disk.ensures.ran
