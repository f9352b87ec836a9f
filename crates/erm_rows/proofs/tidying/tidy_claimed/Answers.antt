use Rattle.std.proofs.Common.{ap}
use Rattle.erm_entries.specs.declared.entries.Entry.{Entry}
use Rattle.erm_entries.specs.Spelling.{word_of}
use Rattle.erm_entries.proofs.Loads.{may_load}
use Rattle.erm_rows.proofs.Tidied.{active_entered, did_tidy, head_entered, owner_own, spare_entered}
use Rattle.erm_rows.proofs.Took.{tidy_still}
use Rattle.erm_rows.proofs.tidying.tidy_claimed.Goals as goal

pub load-entry-requires-clause-starts : goal.load-entry-requires-clause-starts
load-entry-requires-clause-starts g c = may_load c.args.oid _ c.requires.starts

pub cut_chain-requires-clause-active : goal.cut_chain-requires-clause-active
cut_chain-requires-clause-active g c =
    active_entered c.args.p.now.me.0.view c.args.who c.args.oid c.requires.active c.requires.session c.requires.claimed (word_of c.load-entry.result) c.load-entry.new.p.me.0.view (c.load-entry.ensures.loaded c.requires.starts)

pub cut_chain-requires-clause-claimed : goal.cut_chain-requires-clause-claimed
cut_chain-requires-clause-claimed g c =
    head_entered c.args.p.now.me.0.view c.args.who c.args.oid c.requires.active c.requires.session c.requires.claimed (word_of c.load-entry.result) c.load-entry.new.p.me.0.view (c.load-entry.ensures.loaded c.requires.starts) c.load-entry.result.head
    (ap (λ (e : Entry). e.head) c.load-entry.ensures.spelled)

pub cut_chain-requires-clause-spare : goal.cut_chain-requires-clause-spare
cut_chain-requires-clause-spare g c =
    spare_entered c.args.p.now.me.0.view c.args.who c.args.oid c.requires.active c.requires.session c.requires.claimed (word_of c.load-entry.result) c.load-entry.new.p.me.0.view (c.load-entry.ensures.loaded c.requires.starts) c.args.spare.now c.requires.spare

pub returns-clause-tidied : goal.returns-clause-tidied
returns-clause-tidied g c =
    did_tidy c.args.p.now.me.0.view c.args.who c.args.oid c.requires.active c.requires.session c.requires.claimed (word_of c.load-entry.result) c.load-entry.new.p.me.0.view (c.load-entry.ensures.loaded c.requires.starts) c.requires.kept.0 c.requires.kept.1
    c.cut_chain.result c.cut_chain.new.p.me.0.view c.cut_chain.ensures.cut

pub returns-clause-took : goal.returns-clause-took
returns-clause-took g c = record {
  entry = word_of c.load-entry.result;
  owner_is = owner_own c.args.p.now.me.0.view c.args.who c.args.oid c.requires.active c.requires.session c.requires.claimed (word_of c.load-entry.result) c.load-entry.new.p.me.0.view (c.load-entry.ensures.loaded c.requires.starts);
  at = c.load-entry.new.p.me.0;
  step = c.load-entry.ensures.booked;
  cut = c.cut_chain.ensures.took;
}

pub returns-clause-still : goal.returns-clause-still
returns-clause-still g c = tidy_still g.L.RowLaw.law c.args.who c.args.oid c.cut_chain.result c.args.p.now.me.0 c.cut_chain.new.p.me.0 (returns-clause-took g c)
