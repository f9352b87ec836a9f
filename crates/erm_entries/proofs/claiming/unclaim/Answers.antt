use Rattle.erm_rule.proofs.Courses.{goes_step}
use Rattle.erm_rule.proofs.Telling.{is_held}
use Rattle.erm_cells.proofs.Heads.{has}
use Rattle.erm_entries.proofs.Unclaims.{ready_unclaim, did_unclaim}
use Rattle.erm_entries.proofs.claiming.unclaim.Goals as goal

pub install-requires-clause-held : goal.install-requires-clause-held
install-requires-clause-held g c = is_held c.args.p.now.me.0.view c.args.who _ (has c.args.p.now.me.0.view c.args.who c.requires.active)

pub install-requires-clause-ready : goal.install-requires-clause-ready
install-requires-clause-ready g c = ready_unclaim c.args.p.now.me.0.view c.args.who c.args.oid c.args.head c.requires.active c.requires.refused

pub returns-clause-unclaimed : goal.returns-clause-unclaimed
returns-clause-unclaimed g c = did_unclaim c.args.p.now.me.0.view c.args.who c.args.oid c.args.head c.requires.active c.requires.refused c.requires.object _ _ c.install.ensures.told.1.told

pub returns-clause-goes : goal.returns-clause-goes
returns-clause-goes g c = goes_step _ _ _ _ _ _ c.install.ensures.booked.1
