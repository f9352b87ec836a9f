use Rattle.erm_lines_at_once.proofs.Saved.{holds_all}
use Rattle.erm_lines_at_once.proofs.savepoints.save.Goals as goal

pub returns-in-Err-SavesFull-clause-answered : goal.returns-in-Err-SavesFull-clause-answered
returns-in-Err-SavesFull-clause-answered g c = λ f. record {
  fits = tt;
  did = holds_all (g.S.SharedSession.seat c.args.session.now) c.in-Err-SavesFull.field-0-0 c.in-Err-SavesFull.field-0 (g.S.SharedSession.own c.args.session.now) (g.S.SharedSession.own c.save.new.self)
      c.in-Err-SavesFull.field-0-is c.in-Err-SavesFull.ensures.err;
}
