use Rattle.std.proofs.Common.{refl}
use Rattle.erm_recover.proofs.Recovering.{found_told}
use Rattle.erm_recover.proofs.recovery.recover_list.Goals as goal

pub returns-clause-found : goal.returns-clause-found
returns-clause-found g c =
    found_told g.T.RowLaw.law.meets c.respects_rows.ensures.meets _ _ c.args.slots c.args.rows.now c.args.other.now c.begin_soundly-start.new.rows c.read_list.new.rows c.begin_soundly-start.result c.in_ok-end.end _ _
    refl c.requires.none c.requires.shown c.begin_soundly-start.ensures.begins c.in_ok-end.ensures.list
