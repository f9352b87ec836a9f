use Rattle.std.proofs.Common.{◌∙◌, rules}
use Rattle.std.proofs.lemmas.Iterator.{YieldsList-from_slice, YieldsList-from_zip, YieldsList-from_map, items_from_collect}
use Rattle.std.proofs.lemmas.Iterator.Adapters.{YieldsList-from_vec}
use Rattle.std.proofs.lemmas.Iterator.Consumers.{YieldsList-at}
use Rattle.erm_report.specs.declared.line.Line.TheVariants as line
use Rattle.erm_summary.proofs.report.lines_of_answers.Goals as goal

pub returns : goal.returns
returns c =
    items_from_collect c.collect.result c.collect.ensures.ran
    (YieldsList-from_map _ (λ p. line.Answer p.0.line p.1)
    (YieldsList-at c.map.ensures.source (YieldsList-from_zip (YieldsList-from_slice c.args.script.now cc) (YieldsList-from_vec c.args.answers.items c.zip.ensures.second.0 (c.zip.ensures.second.1 ∙ c.args.answers.ok.0))))
    c.map.ensures.closure (λ x r q k. search rules))
