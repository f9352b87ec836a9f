use Rattle.std.proofs.Common.{◌≡◌, ℕ, List, subst}
use Rattle.erm_rule.proofs.Courses.{seen_before}
use Rattle.erm_cells.proofs.Rating.{count_seen}
use Rattle.erm_rows.proofs.Filling.{active_drawn, active_given, active_refused, base_drawn, base_given, copies_given, did_fill, found_no_cell, is_refused, may_rate, owns_given, spare_filled, spare_left}
use Rattle.erm_rows.proofs.claiming.fill_claim.Goals as goal
use Rattle.erm_cells.specs.Took.{TookDraw}

pub unclaim-requires-clause-active : goal.unclaim-requires-clause-active
unclaim-requires-clause-active g c = active_refused c.args.p.now.me.0.view c.args.who c.requires.active c.requires.known c.requires.draws c.args.oid c.args.base c.requires.claimed c.requires.base c.in-Err.drawn _ c.in-Err.ensures.refused.0

pub unclaim-requires-clause-refused : goal.unclaim-requires-clause-refused
unclaim-requires-clause-refused g c = is_refused c.args.p.now.me.0.view c.args.who c.requires.active c.requires.known c.requires.draws c.args.oid c.args.base c.requires.claimed c.requires.base c.in-Err.drawn _ c.in-Err.ensures.refused.0

pub returns-in-Err-clause-refused : goal.returns-in-Err-clause-refused
returns-in-Err-clause-refused g c = found_no_cell c.args.p.now.me.0.view c.args.who c.requires.active c.requires.known c.requires.draws c.args.oid c.args.base c.requires.claimed c.requires.base c.in-Err.drawn _ c.in-Err.ensures.refused.0 _ c.unclaim.ensures.unclaimed

pub returns-in-Err-clause-spare : goal.returns-in-Err-clause-spare
returns-in-Err-clause-spare g c = spare_left c.args.p.now.me.0.view c.args.who c.requires.active c.requires.known c.requires.draws c.args.oid c.args.base c.requires.claimed c.requires.base c.in-Err.drawn _ c.in-Err.ensures.refused.0 _ c.unclaim.ensures.unclaimed c.draw.new.spare c.in-Err.ensures.refused.1

pub rate-readers-requires-clause-active : goal.rate-readers-requires-clause-active
rate-readers-requires-clause-active g c = active_drawn c.args.p.now.me.0.view c.args.who c.requires.active c.requires.known c.requires.draws c.args.oid c.args.base c.requires.claimed c.requires.base c.draw.new.spare c.in-Ok.own _ c.in-Ok.ensures.drawn

pub rate-readers-requires-clause-cell : goal.rate-readers-requires-clause-cell
rate-readers-requires-clause-cell g c = base_drawn c.args.p.now.me.0.view c.args.who c.requires.active c.requires.known c.requires.draws c.args.oid c.args.base c.requires.claimed c.requires.base c.draw.new.spare c.in-Ok.own _ c.in-Ok.ensures.drawn

pub rate-readers-requires-clause-drawn : goal.rate-readers-requires-clause-drawn
rate-readers-requires-clause-drawn g c = may_rate c.args.p.now.me.0.view c.args.who c.requires.active c.requires.known c.requires.draws c.args.oid c.args.base c.requires.claimed c.requires.base c.draw.new.spare c.in-Ok.own _ c.in-Ok.ensures.drawn

pub copy_row-row-requires-clause-active : goal.copy_row-row-requires-clause-active
copy_row-row-requires-clause-active g c = active_given c.args.p.now.me.0.view c.args.who c.requires.active c.requires.known c.requires.draws c.args.oid c.args.base c.requires.claimed c.requires.base c.draw.new.spare c.in-Ok.own _ c.in-Ok.ensures.drawn c.rate-readers.result _ c.rate-readers.ensures.rated

pub copy_row-row-requires-clause-copies : goal.copy_row-row-requires-clause-copies
copy_row-row-requires-clause-copies g c = copies_given c.args.p.now.me.0.view c.args.who c.requires.active c.requires.known c.requires.draws c.args.oid c.args.base c.requires.claimed c.requires.base c.draw.new.spare c.in-Ok.own _ c.in-Ok.ensures.drawn c.rate-readers.result _ c.rate-readers.ensures.rated

pub copy_row-row-requires-clause-base : goal.copy_row-row-requires-clause-base
copy_row-row-requires-clause-base g c = base_given c.args.p.now.me.0.view c.args.who c.requires.active c.requires.known c.requires.draws c.args.oid c.args.base c.requires.claimed c.requires.base c.draw.new.spare c.in-Ok.own _ c.in-Ok.ensures.drawn c.rate-readers.result _ c.rate-readers.ensures.rated

pub copy_row-row-requires-clause-own : goal.copy_row-row-requires-clause-own
copy_row-row-requires-clause-own g c = owns_given c.args.p.now.me.0.view c.args.who c.requires.active c.requires.known c.requires.draws c.args.oid c.args.base c.requires.claimed c.requires.base c.draw.new.spare c.in-Ok.own _ c.in-Ok.ensures.drawn c.rate-readers.result _ c.rate-readers.ensures.rated

pub returns-clause-filled : goal.returns-clause-filled
returns-clause-filled g c = did_fill c.args.p.now.me.0.view c.args.who c.requires.active c.requires.known c.requires.draws c.args.oid c.args.base c.requires.claimed c.requires.base c.draw.new.spare c.in-Ok.own _ c.in-Ok.ensures.drawn c.rate-readers.result _ c.rate-readers.ensures.rated _ c.copy_row-row.ensures.copied c.copy_row-row.result c.copy_row-row.ensures.row

pub returns-clause-spare : goal.returns-clause-spare
returns-clause-spare g c = spare_filled c.args.p.now.me.0.view c.args.who c.requires.active c.requires.known c.requires.draws c.args.oid c.args.base c.requires.claimed c.requires.base c.draw.new.spare c.in-Ok.own _ c.in-Ok.ensures.drawn c.rate-readers.result _ c.rate-readers.ensures.rated _ c.copy_row-row.ensures.copied

pub returns-in-Err-clause-counted : goal.returns-in-Err-clause-counted
returns-in-Err-clause-counted g c = seen_before c.args.p.now.me.0 (λ s. s.shared.cells_drawn ≡ c.in-Err.drawn) c.draw.new.p.me.0 c.unclaim.new.p.me.0 (count_seen g.L.RowLaw.law c.args.p.now.me.0 c.args.who c.in-Err.drawn c.draw.new.p.me.0 c.in-Err.ensures.took_none) c.unclaim.ensures.goes

pub returns-in-Err-clause-took_none : goal.returns-in-Err-clause-took_none
returns-in-Err-clause-took_none g c = record { refused = c.draw.new.p.me.0; count = c.in-Err.ensures.took_none; word = c.unclaim.ensures.booked.0; step = c.unclaim.ensures.booked.1 }

pub returns-clause-took : goal.returns-clause-took
returns-clause-took g c = record {
  drawn = c.draw.new.p.me.0;
  draw = subst (λ (cells : List ℕ). TookDraw g.L.RowLaw.law c.args.who cells c.in-Ok.own c.args.p.now.me.0 c.draw.new.p.me.0) c.requires.spare c.in-Ok.ensures.took;
  rated = c.rate-readers.new.p.me.0;
  rate = c.rate-readers.ensures.booked;
  copy = c.copy_row-row.ensures.took;
}
