use Rattle.erm_ring.proofs.Deciding.{decide_held, decide_ready, did_decide}
use Rattle.erm_ring.proofs.block.decide.Goals as goal

pub decide-requires-clause-held : goal.decide-requires-clause-held
decide-requires-clause-held g c = decide_held c.args.p.now.me.0.view c.args.who c.args.at c.args.header c.requires.may

pub decide-requires-clause-ready : goal.decide-requires-clause-ready
decide-requires-clause-ready g c = decide_ready c.args.p.now.me.0.view c.args.who c.args.at c.args.header c.requires.may

pub returns-clause-decided : goal.returns-clause-decided
returns-clause-decided g c = did_decide c.args.p.now.me.0.view c.args.who c.args.at c.args.header c.requires.may c.decide.ensures.told.0 _ c.decide.ensures.told.1.told
