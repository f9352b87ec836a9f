use Rattle.std.proofs.Common.{refl}
use Rattle.erm_lines_at_once.proofs.Saved.{went_back}
use Rattle.erm_lines_at_once.proofs.savepoints.back.Goals as goal

pub returns-in-Ok-clause-answered : goal.returns-in-Ok-clause-answered
returns-in-Ok-clause-answered g c = λ f. record {
  fits = refl;
  did = went_back (g.S.SharedSession.seat c.args.session.now) c.args.n (g.S.SharedSession.own c.args.session.now) (g.S.SharedSession.own c.back.new.self) c.requires.ran.0 c.requires.ran.1 c.in-Ok.ensures.ok;
}
