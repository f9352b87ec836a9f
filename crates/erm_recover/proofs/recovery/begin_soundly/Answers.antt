use Rattle.erm_recover.proofs.Recovering.{begun}
use Rattle.erm_recover.proofs.recovery.begin_soundly.Goals as goal

pub returns-clause-meets : goal.returns-clause-meets
returns-clause-meets g c = (begun g.T.RowLaw.law.meets c.respects_rows.ensures.meets _ _ _ _ _ c.requires.zero c.requires.are c.begin.ensures).meets

pub returns-clause-within : goal.returns-clause-within
returns-clause-within g c = (begun g.T.RowLaw.law.meets c.respects_rows.ensures.meets _ _ _ _ _ c.requires.zero c.requires.are c.begin.ensures).within

pub returns-clause-low : goal.returns-clause-low
returns-clause-low g c = (begun g.T.RowLaw.law.meets c.respects_rows.ensures.meets _ _ _ _ _ c.requires.zero c.requires.are c.begin.ensures).low
