use Rattle.std.proofs.Common.{◌≡◌, ℕ, ◌-◌, List, [], ◌∷◌, ◌++◌, Vec, length, map, get_or, ap, ◌∙◌, arith}
use Rattle.std.specs.declared.alloc.Global.{Global}
use Rattle.std.proofs.lemmas.List.{length-map}
use Rattle.erm_report.specs.declared.answer.Answer.{Answer}
use Rattle.erm_report.specs.declared.line.Line.{Line}
use Rattle.erm_report.specs.declared.line.Line.TheVariants as line
use Rattle.erm_script.specs.declared.script.ScriptLine.{ScriptLine}
use Rattle.erm_good_report.specs.GoodReport.{answer_lines}
use Rattle.erm_good_at_once.specs.CutReports.{answered_of}
use Rattle.erm_joined.specs.Merged.{counts_of}
use Rattle.erm_run_at_once.proofs.Counts.{NameSeats, answered_same, counted, left_of}
use Rattle.erm_run_at_once.proofs.cut.cut_report.Goals as goal

abbrev Part : Type 0
Part = Vec Answer Global

abbrev part_items : Part → List Answer
part_items p = p.items

abbrev sizes_of : List Part → List ℕ
sizes_of parts = map (λ (p : Part). length p.items) parts

pub add_answered-requires-clause-seats : goal.add_answered-requires-clause-seats
add_answered-requires-clause-seats c = λ l m.
    let parts = c.args.parts.items in
    let fits = c.requires.seats l m in
    let counts : c.deref_mut.result.now ≡ sizes_of parts = c.deref_mut.ensures.value ∙ c.in_ok-counts.ensures.counts ∙ ap sizes_of c.deref.ensures.value in
    let long = ap (λ (ns : List ℕ). length ns) counts in
    let many = length-map parts (λ (p : Part). length p.items) in
    let known = c.args.parts.ok.0 in
    (fits.0, let high = fits.1 in omega (arith, high, long, many, known))

pub returns : goal.returns
returns c =
    let parts = c.args.parts.items in
    let script = c.args.script.now in
    let answers = c.in_ok-answers.answers.items in
    let names : NameSeats script = λ l m. (c.requires.seats l m).0 in
    let counts : c.deref_mut.result.now ≡ sizes_of parts = c.deref_mut.ensures.value ∙ c.in_ok-counts.ensures.counts ∙ ap sizes_of c.deref.ensures.value in
    let same : answered_of (left_of c.deref_mut.result.now) script ≡ answered_of (counts_of (map part_items parts)) script =
    answered_same (left_of c.deref_mut.result.now) (counts_of (map part_items parts)) script (λ seat some. ap (λ (ns : List ℕ). get_or ns (seat - 1) 0) counts ∙ counted part_items parts (seat - 1)) names
    in
    let first : c.add.new.lines.items ≡ line.Open c.args.stamp c.args.run ∷ [] = c.add.ensures.added ∙ ap (λ (ls : List Line). ls ++ line.Open c.args.stamp c.args.run ∷ []) c.requires.none in
    let answered : c.add_answered.new.lines.items ≡ line.Open c.args.stamp c.args.run ∷ answer_lines (answered_of (counts_of (map part_items parts)) script) answers =
    c.add_answered.ensures.added ∙ ap (λ (ls : List Line). ls ++ answer_lines (answered_of (left_of c.deref_mut.result.now) script) answers) first
    ∙ ap (λ (ks : List ScriptLine). line.Open c.args.stamp c.args.run ∷ answer_lines ks answers) same
    in
    record {
      answers = answers;
      merged = c.in_ok-answers.ensures.merged;
      told = c.add-2.ensures.added ∙ ap (λ (ls : List Line). ls ++ line.DiskFault ∷ []) answered;
    }
