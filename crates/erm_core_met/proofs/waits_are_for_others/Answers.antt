use Rattle.erm_core_met.proofs.Others.{below_is}
use Rattle.erm_core_met.proofs.waits_are_for_others.Goals as goal

pub returns-clause-below : goal.returns-clause-below
returns-clause-below g c other bound sound found = below_is c other bound sound found

pub returns-clause-reader : goal.returns-clause-reader
returns-clause-reader g c other v sound known within bit =
    let r = (sound.own other).readers.only v.oid v.place known within bit in (r.0, r.2, r.3, r.4)
