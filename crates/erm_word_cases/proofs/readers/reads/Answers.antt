use Rattle.erm_word_cases.proofs.CellReads.{cell_cleared, clearing, is_registered, to_be_read}
use Rattle.erm_word_cases.proofs.readers.reads.Goals as goal

pub register-requires-clause-found : goal.register-requires-clause-found
register-requires-clause-found c =
    to_be_read c.args.opening.now 1 c.args.pass.me.0.view c.requires.idle c.in-Ok.begin c.begin_steps.new.p.me.0.view c.in-Ok.ensures.begun c.args.oid c.in-Walked.entry c.in-Walked.stamp c.find_head.new.p.me.0.view c.in-Walked.ensures.found
    c.if-stamp-begin.false c.head_of-cell.result c.head_of-cell.ensures

pub rate_read-requires-clause-registered : goal.rate_read-requires-clause-registered
rate_read-requires-clause-registered c =
    is_registered c.args.opening.now 1 c.args.pass.me.0.view c.requires.idle c.in-Ok.begin c.begin_steps.new.p.me.0.view c.in-Ok.ensures.begun c.args.oid c.in-Walked.entry c.in-Walked.stamp c.find_head.new.p.me.0.view c.in-Walked.ensures.found
    c.if-stamp-begin.false c.head_of-cell.result c.head_of-cell.ensures c.register.new.p.me.0.view c.register.ensures.registered

pub unregister-requires-clause-clearing : goal.unregister-requires-clause-clearing
unregister-requires-clause-clearing c =
    clearing c.args.opening.now 1 c.args.pass.me.0.view c.requires.idle c.in-Ok.begin c.begin_steps.new.p.me.0.view c.in-Ok.ensures.begun c.args.oid c.in-Walked.entry c.in-Walked.stamp c.find_head.new.p.me.0.view c.in-Walked.ensures.found
    c.if-stamp-begin.false c.head_of-cell.result c.head_of-cell.ensures c.register.new.p.me.0.view c.register.ensures.registered c.rate_read.result c.rate_read.new.p.me.0.view c.rate_read.ensures.rated

pub unregister-requires-clause-cell : goal.unregister-requires-clause-cell
unregister-requires-clause-cell c =
    cell_cleared c.args.opening.now 1 c.args.pass.me.0.view c.requires.idle c.in-Ok.begin c.begin_steps.new.p.me.0.view c.in-Ok.ensures.begun c.args.oid c.in-Walked.entry c.in-Walked.stamp c.find_head.new.p.me.0.view c.in-Walked.ensures.found
    c.if-stamp-begin.false c.head_of-cell.result c.head_of-cell.ensures c.register.new.p.me.0.view c.register.ensures.registered c.rate_read.result c.rate_read.new.p.me.0.view c.rate_read.ensures.rated
