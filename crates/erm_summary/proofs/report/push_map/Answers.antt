use Rattle.std.proofs.Common.{◌≡◌, ◌++◌, [], ◌∷◌, map, length, refl, sym, ap, ◌∙◌, append_assoc, arith}
use Rattle.std.proofs.lemmas.List.Folds.{map_fixed}
use Rattle.std.proofs.lemmas.Iterator.Adapters.{YieldsList-from_vec}
use Rattle.std.proofs.lemmas.Iterator.Consumers.{YieldsList-end}
use Rattle.erm_report.specs.declared.line.Line.TheVariants as line
use Rattle.erm_summary.proofs.report.push_map.Goals as goal

pub returns : goal.returns
returns c =
    let pairs = c.args.pairs in
    let begins = c.into_iter-pair-iterator.ensures.into_iter_gives in
    let t = YieldsList-end (YieldsList-from_vec {s = c.into_iter-pair-iterator.result} pairs.items begins.0 (omega (arith, begins.1, pairs.ok.0))) c.loop-pair.yielded c.loop-pair.pair-iterator c.loop-pair.yielded_by c.next.result c.next.new.self c.in-None.is c.next.ensures.steps in
    let whole : c.loop-pair.yielded ≡ pairs.items = sym (map_fixed (λ y. y) c.loop-pair.yielded (λ k d within. refl)) ∙ t.0 in
    let count : c.len.result ≡ length pairs.items = omega (arith, c.len.ensures, pairs.ok.0) in
    c.loop-pair.invariant
    ∙ ap (λ ls. ls ++ map line.Pair c.loop-pair.yielded) c.in_ok-push.ensures.items
    ∙ append_assoc c.args.lines.now.items (line.Map c.len.result ∷ []) (map line.Pair c.loop-pair.yielded)
    ∙ ap (λ n. c.args.lines.now.items ++ line.Map n ∷ map line.Pair c.loop-pair.yielded) count
    ∙ ap (λ ps. c.args.lines.now.items ++ line.Map (length pairs.items) ∷ map line.Pair ps) whole
