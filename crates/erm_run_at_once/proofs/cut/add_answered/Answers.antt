use Rattle.std.proofs.Common.{◌≡◌, ℕ, suc, Vec, vec_capacity, vec_len, option_to_list, ◌+◌, ◌<◌, List, [], ◌∷◌, ◌++◌, length, drop, get_or, Some, None, Option, drop-cons, refl, sym, ap, ◌∙◌, subst, arith}
use Rattle.std.specs.List.{slice_get}
use Rattle.std.specs.Vec.Iter.{into_iter_items, into_iter_len, into_iter_steps}
use Rattle.std.proofs.lemmas.Option.{slice_get-get_or}
use Rattle.erm_report.specs.declared.answer.Answer.{Answer}
use Rattle.erm_report.specs.declared.line.Line.{Line}
use Rattle.erm_report.specs.declared.line.Line.TheVariants as line
use Rattle.std.specs.declared.alloc.Global.{Global}
use Rattle.erm_script.specs.declared.script.ScriptLine.{ScriptLine}
use Rattle.erm_good_report.specs.GoodReport.{answer_lines}
use Rattle.erm_good_at_once.specs.CutReports.{answered_of}
use Rattle.erm_threads.specs.Parts.{IsSeatOf}
use Rattle.erm_run_at_once.proofs.Counts.{NameSeats, left_of, told_none, told_one}
use Rattle.erm_run_at_once.proofs.cut.add_answered.Goals as goal
use Rattle.erm_run_at_once.proofs.cut.add_answered.Goals.{in-Some, in_default}

pub take_one-requires : goal.take_one-requires
take_one-requires c =
    let script = c.args.script.now in
    let i = c.loop-line.line-index in
    let l = c.line-item.result in
    let here : slice_get script i ≡ Some l = slice_get-get_or script i l c.loop-line-test.true ∙ ap (λ (x : ScriptLine). Some x) (sym c.line-item.is) in
    let fits = c.requires.seats l (i, here) in
    let same = c.loop-line.auto.counts in
    (fits.0, let high = fits.1 in omega (arith, high, same))

-- the line is the first of those left
front_is : (script : List ScriptLine) (i : ℕ) (l : ScriptLine) → i < length script → l ≡ get_or script i l → drop i script ≡ l ∷ drop (i + 1) script
front_is script i l few is =
    let next : suc i ≡ i + 1 = omega arith in
    drop-cons script i l few ∙ ap (λ (x : ScriptLine). x ∷ drop (suc i) script) (sym is) ∙ ap (λ (n : ℕ). l ∷ drop n script) next

-- no item is left where the length is 0
none_left : (xs : List Answer) (n : ℕ) → n ≡ length xs → n ≡ 0 → xs ≡ []
none_left [] n is none = refl
none_left (x ∷ xs) n is none = absurd (omega (arith, is, none))

-- no answer came
nobody : (o : Option Answer) → ((a : Answer) → o ≡ Some a → ⊥) → o ≡ None
nobody None no_one = refl
nobody (Some a) no_one = absurd (no_one a refl)

pub loop-line-preserved : goal.loop-line-preserved
loop-line-preserved c =
    let script = c.args.script.now in
    let i = c.loop-line.line-index in
    let l = c.line-item.result in
    let counts = c.loop-line.counts in
    let at = c.loop-line.invariant in
    let lines = c.loop-line.lines.items in
    let now = c.match-next.lines.items in
    let names : NameSeats script = λ k m. (c.requires.seats k m).0 in
    let here : slice_get script i ≡ Some l = slice_get-get_or script i l c.loop-line-test.true ∙ ap (λ (x : ScriptLine). Some x) (sym c.line-item.is) in
    let fits = c.requires.seats l (i, here) in
    let same = c.loop-line.auto.counts in
    let seat : IsSeatOf (length counts) l = (fits.0, let high = fits.1 in omega (arith, high, same)) in
    let front = front_is script i l c.loop-line-test.true c.line-item.is in
    let xs = into_iter_items c.loop-line.answers in
    let ys = into_iter_items c.next.new.self in
    let end = c.args.lines.now.items ++ answer_lines (answered_of (left_of c.args.counts.now) script) c.args.answers.items in
    let has : 0 < left_of counts l.session = c.take_one.ensures.some c.if-not-take_one.false in
    let step : into_iter_steps c.loop-line.answers c.next.result c.next.new.self = c.next.ensures.cases in
    elim c.match-next.branch [
      | in-Some w ↦
          let first = subst (λ (o : Option Answer). into_iter_steps c.loop-line.answers o c.next.new.self) w.in-Some.is step in
          let more : now ≡ lines ++ line.Answer l.line w.in-Some.answer ∷ [] = ap (λ (ls : Vec Line Global). ls.items) w.lines-is ∙ w.add.ensures.added in
          record {
            told = told_one script i l counts c.take_one.new.counts lines now end names seat front c.take_one.ensures.taken w.in-Some.answer xs ys has first.0 more at.told;
            len = (let longer = w.add.ensures.len in let was = at.len in let is = ap (λ (ls : Vec Line Global). vec_len ls) w.lines-is in omega (arith, longer, was, is));
            known = (let was = at.known in let gone = first.1 in let short = ap (λ (l : List Answer). length l) first.0 in omega (arith, was, gone, short));
            capacity = (let most = w.add.ensures.capacity in let was = at.capacity in let is = ap (λ (ls : Vec Line Global). vec_capacity ls) w.lines-is in omega (arith, most, was, is));
          }
      | in_default w ↦
          let none = subst (λ (o : Option Answer). into_iter_steps c.loop-line.answers o c.next.new.self) (nobody c.next.result w.in_default.not-Some) step in
          let gone : xs ≡ [] = none_left xs (into_iter_len c.loop-line.answers) at.known none.0 in
          let items : xs ≡ ys = c.next.ensures.items ∙ ap (λ (o : Option Answer). option_to_list o ++ ys) (nobody c.next.result w.in_default.not-Some) in
          record {
            told = told_none script i l counts c.take_one.new.counts lines now end names seat front c.take_one.ensures.taken xs ys gone (sym items ∙ gone) (ap (λ (ls : Vec Line Global). ls.items) w.lines-is) at.told;
            len = (let was = at.len in let is = ap (λ (ls : Vec Line Global). vec_len ls) w.lines-is in omega (arith, was, is));
            known = (let short = ap (λ (l : List Answer). length l) (sym items ∙ gone) in let left = none.1 in omega (arith, left, short));
            capacity = (let was = at.capacity in let is = ap (λ (ls : Vec Line Global). vec_capacity ls) w.lines-is in omega (arith, was, is));
          }
    ]
