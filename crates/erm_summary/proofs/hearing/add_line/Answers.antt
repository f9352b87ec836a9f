use Rattle.std.proofs.Common.{Option, Some, refl, subst, sym}
use Rattle.erm_summary.specs.declared.hearing.Begun.{Begun}
use Rattle.erm_summary.specs.Told.{GotLine}
use Rattle.erm_summary.proofs.hearing.add_line.Goals as goal

pub returns-in_ok-push : goal.returns-in_ok-push
returns-in_ok-push c =
    subst (λ (o : Option Begun). GotLine (Some c.args.place) o (Some (record { number = c.in-Some.begun.number; begin = c.in-Some.begun.begin; lines = c.push.new.self }))) (sym c.in-Some.is)
    (_, refl, refl, refl, c.in_ok-push.ensures.items)
