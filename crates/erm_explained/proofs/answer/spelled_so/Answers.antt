use Rattle.std.proofs.Common.{◌≡◌, Option, refl, sym, subst}
use Rattle.std.specs.Prelude.{IfSome}
use Rattle.erm_report.specs.declared.answer.Answer.{Answer}
use Rattle.erm_report.specs.declared.line.Line.TheVariants as lines
use Rattle.erm_report.specs.Texts.{line_text}
use Rattle.erm_explained.proofs.answer.spelled_so.Goals as goal

pub returns : goal.returns
returns c =
    subst (λ (x : Option Answer). IfSome x (λ answer. c.args.line.now ≡ line_text (lines.Answer c.args.number answer))) (sym (c.answer_in.ensures c.args.number c.args.answer refl))
    (c.in_ok-same.ensures c.if-not-same.false)
