use Rattle.std.proofs.Common.{◌≡◌, ℕ, List, [], ◌∷◌, ◌++◌, length, map, IsPermutation, ap, ◌∙◌, subst}
use Rattle.std.specs.FinMap.{from_entries}
use Rattle.std.specs.List.{range_with_len, zip}
use Rattle.erm_model.specs.Committed.{rank_of, state_after}
use Rattle.erm_model.specs.Database.{AscendByKey, entries_of}
use Rattle.erm_model.specs.SerialOrder.{IsSerialOrder, StampsDiffer}
use Rattle.erm_model.specs.declared.map.Pair.{Pair}
use Rattle.erm_report.specs.declared.answer.Answer.{Answer}
use Rattle.erm_report.specs.declared.line.Line.TheVariants as line
use Rattle.erm_script.specs.declared.script.ScriptLine.{ScriptLine}
use Rattle.erm_good_report.specs.GoodReport.{close_line, places_of, serial_of}
use Rattle.erm_summary.specs.declared.told.ClosedSession.{ClosedSession}
use Rattle.erm_summary.specs.declared.told.ToldCommit.{ToldCommit}
use Rattle.erm_summary.specs.Told.{closed_of, history_told}
use Rattle.erm_summary.specs.Summary.{at_places, order_told}
use Rattle.erm_summary.proofs.Reports.{assembled, summarizes}
use Rattle.erm_summary.proofs.report.report_of.Goals as goal

pub returns : goal.returns
returns c rows first =
    let names : List (List ℕ) = c.args.names.now in
    let script : List ScriptLine = c.args.script.now in
    let answers : List Answer = c.args.answers.items in
    let closed : List ClosedSession = c.args.closed.items in
    let commits : List ToldCommit = c.in_ok-commits.commits.items in
    let order : List ℕ = c.in_ok-order.order.items in
    let pairs : List Pair = c.in_ok-pairs.pairs.items in
    let e1 : c.deref.result.now ≡ answers = c.deref.ensures.value in
    let e2 : c.deref-2.result.now ≡ closed = c.deref-2.ensures.value in
    let e3 : c.deref-3.result.now ≡ commits = c.deref-3.ensures.value in
    let history : history_told script c.deref.result.now commits ≡ serial_of (length names) (places_of script c.deref.result.now (map closed_of c.deref-2.result.now)) = c.in_ok-commits.ensures in
    let all : IsPermutation (range_with_len 0 (length c.deref-3.result.now)) order = c.in_ok-order.ensures.all in
    let serial : StampsDiffer rank_of (history_told script answers c.deref-3.result.now) → IsSerialOrder rank_of (history_told script answers c.deref-3.result.now) (at_places (history_told script answers c.deref-3.result.now) order) = c.in_ok-order.ensures.serial script answers in
    let ascends : AscendByKey pairs = c.in_ok-pairs.ensures.ascends in
    let e4 : c.deref-4.result.now ≡ answers = c.deref-4.ensures.value in
    let e5 : c.deref-5.result.now ≡ commits = c.deref-5.ensures.value in
    let e6 : c.deref-6.result.now ≡ order = c.deref-6.ensures.value in
    let state : from_entries (entries_of pairs) ≡ state_after (at_places (history_told script c.deref-4.result.now c.deref-5.result.now) c.deref-6.result.now) c.args.start.map = c.in_ok-pairs.ensures.all in
    let l0 : c.new-lines.result.items ≡ [] = c.new-lines.ensures.items in
    let l1 : c.push.new.self.items ≡ c.new-lines.result.items ++ line.Open c.args.start.stamp c.args.start.run ∷ [] = c.in_ok-push.ensures.items in
    let a : c.in_ok-lines_of_answers.field-0.items ≡ map (λ p. line.Answer p.0.line p.1) (zip script answers) = c.in_ok-lines_of_answers.ensures in
    let l2 : c.append.new.self.items ≡ c.push.new.self.items ++ c.in_ok-lines_of_answers.field-0.items = c.in_ok-append.ensures.items in
    let b : c.in_ok-lines_of_closes.field-0.items ≡ map (λ c. close_line names (closed_of c)) closed = c.in_ok-lines_of_closes.ensures in
    let l3 : c.append-2.new.self.items ≡ c.append.new.self.items ++ c.in_ok-lines_of_closes.field-0.items = c.in_ok-append-2.ensures.items in
    let e7 : c.deref-7.result.now ≡ commits = c.deref-7.ensures.value in
    let e8 : c.deref-8.result.now ≡ order = c.deref-8.ensures.value in
    let l4 : c.push_order.new.lines.items ≡ c.append-2.new.self.items ++ line.Order (length c.deref-7.result.now) ∷ map (order_told names) (at_places c.deref-7.result.now c.deref-8.result.now) = c.in_ok-push_order.ensures in
    let l5 : c.push_map.new.lines.items ≡ c.push_order.new.lines.items ++ line.Map (length pairs) ∷ map line.Pair pairs = c.in_ok-push_map.ensures in
    let l6 : c.push-2.new.self.items ≡ c.push_map.new.lines.items ++ line.End ∷ [] = c.in_ok-push-2.ensures.items in
    let exact : c.push_order.new.lines.items ≡ c.append-2.new.self.items ++ line.Order (length commits) ∷ map (order_told names) (at_places commits order) =
    l4 ∙ ap (λ cs. c.append-2.new.self.items ++ line.Order (length cs) ∷ map (order_told names) (at_places cs c.deref-8.result.now)) e7
    ∙ ap (λ o. c.append-2.new.self.items ++ line.Order (length commits) ∷ map (order_told names) (at_places commits o)) e8
    in
    summarizes names script answers c.args.start rows first closed commits order pairs c.push-2.new.self.items
    (subst (λ given. history_told script given commits ≡ serial_of (length names) (places_of script given (map closed_of closed))) e1
    (subst (λ cs. history_told script c.deref.result.now commits ≡ serial_of (length names) (places_of script c.deref.result.now (map closed_of cs))) e2 history))
    (subst (λ cs. IsPermutation (range_with_len 0 (length cs)) order) e3 all)
    (subst (λ cs. StampsDiffer rank_of (history_told script answers cs) → IsSerialOrder rank_of (history_told script answers cs) (at_places (history_told script answers cs) order)) e3 serial)
    ascends
    (state
    ∙ ap (λ given. state_after (at_places (history_told script given c.deref-5.result.now) c.deref-6.result.now) c.args.start.map) e4
    ∙ ap (λ cs. state_after (at_places (history_told script answers cs) c.deref-6.result.now) c.args.start.map) e5
    ∙ ap (λ o. state_after (at_places (history_told script answers commits) o) c.args.start.map) e6)
    (assembled c.new-lines.result.items c.push.new.self.items c.in_ok-lines_of_answers.field-0.items c.append.new.self.items c.in_ok-lines_of_closes.field-0.items c.append-2.new.self.items c.push_order.new.lines.items c.push_map.new.lines.items c.push-2.new.self.items
    (line.Open c.args.start.stamp c.args.start.run) (map (λ p. line.Answer p.0.line p.1) (zip script answers)) (map (λ c. close_line names (closed_of c)) closed) (line.Order (length commits)) (map (order_told names) (at_places commits order)) (line.Map (length pairs)) (map line.Pair pairs) line.End
    l0 l1 a l2 b l3 exact l5 l6)
