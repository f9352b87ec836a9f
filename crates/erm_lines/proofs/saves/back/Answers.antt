use Rattle.std.proofs.Common.{refl}
use Rattle.erm_lines.proofs.Saved.{back_extends}
use Rattle.erm_lines.proofs.saves.back.Goals as goal

pub returns-in-Ok-clause-answered : goal.returns-in-Ok-clause-answered
returns-in-Ok-clause-answered g c =
    let v = g.W.RowWorld.view c.args.world.now in
    let t = g.W.RowWorld.view c.back.new.self in
    let went = c.in-Ok.ensures.ok in record { fits = refl; did = (refl, went, back_extends v t c.args.seat c.args.n c.requires.ran went) }
