use Rattle.std.proofs.Common.{◌≡◌, length, Some, sym, ap, ◌∙◌, subst, arith}
use Rattle.std.specs.List.{slice_get}
use Rattle.std.proofs.lemmas.Option.{slice_get-get_or}
use Rattle.erm_script.specs.declared.script.ScriptLine.{ScriptLine}
use Rattle.erm_threads.specs.Parts.{IsSeatOf}
use Rattle.erm_threads.proofs.parts.split.Goals as goal

pub put-requires : goal.put-requires
put-requires c =
    let lines = c.args.script.now in
    let l = c.line-item.result in
    let here : slice_get lines c.loop-line.line-index ≡ Some l = slice_get-get_or lines c.loop-line.line-index l c.loop-line-test.true ∙ ap (λ (x : ScriptLine). Some x) (sym c.line-item.is) in
    let fits = c.requires.seats l (c.loop-line.line-index, here) in
    let many = c.loop-line.invariant.many in
    let long = ap length c.as_mut_slice.ensures.value in
    record { seat = subst (λ (x : ScriptLine). IsSeatOf (length c.as_mut_slice.result.now) x) (sym c.copied.ensures) (fits.0, omega (arith, fits.1, many, long)) }
