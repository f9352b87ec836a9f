use Rattle.erm_rule.proofs.Telling.{is_held}
use Rattle.erm_entries.proofs.Releases.{has_release, ready_release, did_release}
use Rattle.erm_entries.proofs.releasing.release.Goals as goal

pub install-requires-clause-held : goal.install-requires-clause-held
install-requires-clause-held g c = is_held c.args.p.now.me.0.view c.args.who _ (has_release c.args.p.now.me.0.view c.args.who c.args.oid c.args.head c.requires.next)

pub install-requires-clause-ready : goal.install-requires-clause-ready
install-requires-clause-ready g c = ready_release c.args.p.now.me.0.view c.args.who c.args.oid c.args.head c.requires.next

pub returns-clause-released : goal.returns-clause-released
returns-clause-released g c = did_release c.args.p.now.me.0.view c.args.who c.args.oid c.args.head c.requires.next c.requires.object _ _ c.install.ensures.told.1.told
