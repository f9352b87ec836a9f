use Rattle.std.proofs.Common.{◌≡◌, ◌+◌, ◌<◌, List, [], ◌∷◌, ◌++◌, length, slice_index_or, take, append_assoc, sym, ap, ◌∙◌, arith}
use Rattle.std.proofs.lemmas.List.{get_or-set_other, length-set, length-take, take_all, take_more}
use Rattle.erm_good_report.specs.GoodReport.{answer_lines}
use Rattle.erm_report.specs.declared.answer.Answer.{Answer}
use Rattle.erm_report.specs.declared.answer.Answer.TheVariants.{NoReceipt}
use Rattle.erm_report.specs.declared.line.Line.{Line}
use Rattle.erm_report.specs.declared.line.Line.TheVariants as line
use Rattle.erm_script.specs.declared.script.ScriptLine.{ScriptLine}
use Rattle.erm_log_run.proofs.Answering.{answer_lines_front, answer_lines_more}
use Rattle.erm_log_run.proofs.cut.add_answers.Goals as goal

pub loop-place-preserved : goal.loop-place-preserved
loop-place-preserved c =
    let k = c.loop-place.place in
    let script = c.args.script.now in
    let all = c.args.answers.items in
    let now = c.loop-place.answers.items in
    let start = c.args.lines.now.items in
    let kept = c.loop-place.invariant in
    let a = c.take_answer-answer.result in
    let l = c.index-script-place.result in
    let taken = c.take_answer-answer.ensures.taken in
    let few : k < length all = (let test = c.loop-place-test.true in let end = c.len-place-end.ensures in let size = c.args.answers.ok.0 in omega (arith, test, end, size)) in
    let most = c.requires.most in
    let within : k < length script = omega (arith, few, most) in
    let a_is : slice_index_or all k NoReceipt ≡ a = sym (c.take_answer-answer.ensures.answer ∙ kept.others k (omega arith) few) in
    let lines_longer : take (k + 1) script ≡ take k script ++ l ∷ [] = take_more script k l within ∙ ap (λ (x : ScriptLine). take k script ++ x ∷ []) (sym c.index-script-place.is) in
    let answers_longer : take (k + 1) all ≡ take k all ++ a ∷ [] = take_more all k NoReceipt few ∙ ap (λ (x : Answer). take k all ++ x ∷ []) a_is in
    let many : length (take k all) ≡ length (take k script) = (let m = length-take k all in let n = length-take k script in omega (arith, m, n, few, within)) in
    let told : answer_lines (take (k + 1) script) (take (k + 1) all) ≡ answer_lines (take k script) (take k all) ++ line.Answer l.line a ∷ [] =
    ap (λ (ls : List ScriptLine). answer_lines ls (take (k + 1) all)) lines_longer ∙ ap (λ (xs : List Answer). answer_lines (take k script ++ l ∷ []) xs) answers_longer
    ∙ answer_lines_more (take k script) (take k all) l a many
    in
    record {
      many = ap (λ (xs : List Answer). length xs) taken ∙ length-set now k NoReceipt ∙ kept.many;
      others = λ j above low. ap (λ (xs : List Answer). slice_index_or xs j NoReceipt) taken ∙ get_or-set_other now k j NoReceipt NoReceipt (λ same. omega (arith, above, same)) ∙ kept.others j (omega (arith, above)) low;
      added = c.add.ensures.added ∙ ap (λ (x : ScriptLine). c.loop-place.lines.items ++ line.Answer x.line a ∷ []) (sym c.index-script-place.is)
          ∙ ap (λ (ls : List Line). ls ++ line.Answer l.line a ∷ []) kept.added
          ∙ append_assoc start (answer_lines (take k script) (take k all)) (line.Answer l.line a ∷ []) ∙ ap (λ (ls : List Line). start ++ ls) (sym told);
      len = (let one = c.add.ensures.len in let before = kept.len in omega (arith, one, before));
      capacity = (let one = c.add.ensures.capacity in let before = kept.capacity in omega (arith, one, before));
    }

pub returns : goal.returns
returns c =
    let n = c.loop-place.place in
    let script = c.args.script.now in
    let all = c.args.answers.items in
    let kept = c.loop-place.invariant in
    let size : length all ≡ n = (let test = c.loop-place-test.false in let low = c.loop-place.auto.place-end in let end = c.len-place-end.ensures in let count = c.args.answers.ok.0 in omega (arith, test, low, end, count)) in
    let whole : take n all ≡ all = take_all n all (omega (arith, size)) in
    record {
      added = kept.added ∙ ap (λ (ls : List Line). c.args.lines.now.items ++ ls)
          (ap (λ (xs : List Answer). answer_lines (take n script) xs) whole ∙ answer_lines_front script n all size);
      len = (let len = kept.len in omega (arith, len, size));
      capacity = kept.capacity;
    }
