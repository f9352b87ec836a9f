use Rattle.std.proofs.Common.{Option, Some, refl, subst, sym}
use Rattle.erm_summary.specs.declared.hearing.Watched.{Watched}
use Rattle.erm_summary.specs.Told.{GotLook}
use Rattle.erm_summary.proofs.hearing.add_look.Goals as goal

pub returns-in_ok-push : goal.returns-in_ok-push
returns-in_ok-push c =
    subst (λ (o : Option Watched). GotLook (Some c.args.place) o (Some (record { number = c.in-Some.watched.number; begin = c.in-Some.watched.begin; lines = c.push.new.self }))) (sym c.in-Some.is)
    (_, refl, refl, refl, c.in_ok-push.ensures.items)
