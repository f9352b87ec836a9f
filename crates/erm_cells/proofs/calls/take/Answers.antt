use Rattle.erm_rule.proofs.Telling.{is_held}
use Rattle.erm_cells.proofs.Heads.{has}
use Rattle.erm_cells.proofs.Taking.{ready_claim, did_take, did_lose}
use Rattle.erm_cells.proofs.calls.take.Goals as goal

pub claim_entry-requires-clause-held : goal.claim_entry-requires-clause-held
claim_entry-requires-clause-held g c = is_held c.args.p.now.me.0.view c.args.who _ (has c.args.p.now.me.0.view c.args.who c.requires.active)

pub claim_entry-requires-clause-ready : goal.claim_entry-requires-clause-ready
claim_entry-requires-clause-ready g c =
    ready_claim c.args.p.now.me.0.view c.args.who c.requires.active c.requires.session c.args.oid c.args.seen c.args.number c.requires.number c.requires.room c.requires.head

pub returns-clause-taken : goal.returns-clause-taken
returns-clause-taken g c same =
    did_take c.args.p.now.me.0.view c.args.who c.requires.active c.requires.session c.args.oid c.args.seen c.args.number c.requires.number c.requires.room c.requires.head _ _ c.claim_entry.ensures.told.told c.requires.object same

pub returns-clause-lost : goal.returns-clause-lost
returns-clause-lost g c other =
    did_lose c.args.p.now.me.0.view c.args.who c.requires.active c.requires.session c.args.oid c.args.seen c.args.number c.requires.number c.requires.room c.requires.head _ _ c.claim_entry.ensures.told.told c.requires.object other
