use Rattle.std.proofs.Common.{◌≡◌, ◌==◌, length, Result, Err, rules, tests, sym, ap, ◌∙◌}
use Rattle.std.specs.List.{slice_split}
use Rattle.std.proofs.lemmas.List.{length_push}
use Rattle.std.proofs.lemmas.Iterator.Consumers.{YieldsList-at, YieldsList-from_enumerate, YieldsList-turn, YieldsList-end}
use Rattle.std.proofs.lemmas.Iterator.Splits.{YieldsList-from_slice_split}
use Rattle.std.proofs.lemmas.Result.{err_from_is_err_and}
use Rattle.erm_script.specs.declared.parser.ParseError.{ParseError}
use Rattle.erm_script.specs.declared.parser.ParseError.TheVariants.{Fault}
use Rattle.erm_script.proofs.BadLines.{first_bad_line}
use Rattle.erm_script.proofs.Scripts.{numbered_line, kept_after_skipped, kept_after_kept, whole_script, length_script}
use Rattle.erm_script.proofs.parser.parse.Goals as goal

pub loop-index-preserved-then-is_skipped : goal.loop-index-preserved-then-is_skipped
loop-index-preserved-then-is_skipped c =
    let turn = YieldsList-turn (YieldsList-at c.into_iter-index-iterator.ensures.into_iter_gives (YieldsList-from_enumerate (YieldsList-at c.enumerate-index-items.ensures.source (YieldsList-from_slice_split _ (λ b. b == 10) c.args.bytes.now c.split.ensures.rest c.split.ensures.done c.split.ensures.closure (λ x b q k. search (rules, tests)))) c.enumerate-index-items.ensures.count)) c.loop-index.yielded _ c.loop-index.yielded_by _ _ (c.in-Some.index, c.in-Some.line) c.in-Some.is c.next.ensures.steps in
    let all = slice_split (λ b. b == 10) c.args.bytes.now in
    let at = numbered_line all (length c.loop-index.yielded) c.in-Some.index c.in-Some.line.now turn in
    rw (length_push c.loop-index.yielded (c.in-Some.index, c.in-Some.line))
    (rw (kept_after_skipped all (length c.loop-index.yielded) c.in-Some.line.now at.0 at.2 (sym c.is_skipped.ensures ∙ c.if-is_skipped.true)) c.loop-index.invariant)

pub loop-index-preserved : goal.loop-index-preserved
loop-index-preserved c =
    let turn = YieldsList-turn (YieldsList-at c.into_iter-index-iterator.ensures.into_iter_gives (YieldsList-from_enumerate (YieldsList-at c.enumerate-index-items.ensures.source (YieldsList-from_slice_split _ (λ b. b == 10) c.args.bytes.now c.split.ensures.rest c.split.ensures.done c.split.ensures.closure (λ x b q k. search (rules, tests)))) c.enumerate-index-items.ensures.count)) c.loop-index.yielded _ c.loop-index.yielded_by _ _ (c.in-Some.index, c.in-Some.line) c.in-Some.is c.next.ensures.steps in
    let all = slice_split (λ b. b == 10) c.args.bytes.now in
    let at = numbered_line all (length c.loop-index.yielded) c.in-Some.index c.in-Some.line.now turn in
    let added = rw c.in_ok-add.was at c.add.ensures.added in
    rw (length_push c.loop-index.yielded (c.in-Some.index, c.in-Some.line))
    (rw (kept_after_kept all (length c.loop-index.yielded) c.in-Some.line.now at.0 at.2 (sym c.is_skipped.ensures ∙ c.if-is_skipped.false)) (rw at.1 at (added _ c.loop-index.invariant)))

pub returns-in_err-add-clause-fault : goal.returns-in_err-add-clause-fault
returns-in_err-add-clause-fault c = λ line kind e.
    let turn = YieldsList-turn (YieldsList-at c.into_iter-index-iterator.ensures.into_iter_gives (YieldsList-from_enumerate (YieldsList-at c.enumerate-index-items.ensures.source (YieldsList-from_slice_split _ (λ b. b == 10) c.args.bytes.now c.split.ensures.rest c.split.ensures.done c.split.ensures.closure (λ x b q k. search (rules, tests)))) c.enumerate-index-items.ensures.count)) c.loop-index.yielded _ c.loop-index.yielded_by _ _ (c.in-Some.index, c.in-Some.line) c.in-Some.is c.next.ensures.steps in
    let all = slice_split (λ b. b == 10) c.args.bytes.now in
    let at = numbered_line all (length c.loop-index.yielded) c.in-Some.index c.in-Some.line.now turn in
    let passed = err_from_is_err_and c.from_residual.result c.from_residual.ensures.1 in
    let failed : ParseError → Result (Unit {0}) ParseError = λ x. Err x in
    let same : passed.0 ≡ Fault (record { line = line; kind = kind }) = let is = passed.1 in cc in
    let told = c.in_err-add.ensures.fault line kind (ap failed (sym passed.2 ∙ same)) in
    rw (told.0, at.1)
    (first_bad_line c.args.grammar c.args.bytes.now (length c.loop-index.yielded) c.in-Some.line.now c.loop-index.read.sessions c.loop-index.read.lines.items kind
    at.0 at.2 (sym c.is_skipped.ensures ∙ c.if-is_skipped.false) c.loop-index.invariant told.1)

pub returns-clause-script : goal.returns-clause-script
returns-clause-script c =
    let end = YieldsList-end (YieldsList-at c.into_iter-index-iterator.ensures.into_iter_gives (YieldsList-from_enumerate (YieldsList-at c.enumerate-index-items.ensures.source (YieldsList-from_slice_split _ (λ b. b == 10) c.args.bytes.now c.split.ensures.rest c.split.ensures.done c.split.ensures.closure (λ x b q k. search (rules, tests)))) c.enumerate-index-items.ensures.count)) c.loop-index.yielded _ c.loop-index.yielded_by _ _ c.in-None.is c.next.ensures.steps in
    rw c.in_ok-to_names.ensures (whole_script c.args.grammar c.args.bytes.now (length c.loop-index.yielded) c.loop-index.read.sessions c.loop-index.read.lines.items end.1 c.loop-index.invariant)

pub returns-clause-short : goal.returns-clause-short
returns-clause-short c =
    let end = YieldsList-end (YieldsList-at c.into_iter-index-iterator.ensures.into_iter_gives (YieldsList-from_enumerate (YieldsList-at c.enumerate-index-items.ensures.source (YieldsList-from_slice_split _ (λ b. b == 10) c.args.bytes.now c.split.ensures.rest c.split.ensures.done c.split.ensures.closure (λ x b q k. search (rules, tests)))) c.enumerate-index-items.ensures.count)) c.loop-index.yielded _ c.loop-index.yielded_by _ _ c.in-None.is c.next.ensures.steps in
    length_script c.args.grammar c.args.bytes.now c.loop-index.read.sessions c.loop-index.read.lines.items
    (whole_script c.args.grammar c.args.bytes.now (length c.loop-index.yielded) c.loop-index.read.sessions c.loop-index.read.lines.items end.1 c.loop-index.invariant)
