-- The parts of a report's lines.
use Rattle.std.proofs.Common.{◌≡◌, ℕ, ◌+◌, ◌<◌, Bool, true, false, nat_lt, List, [], ◌∷◌, ◌++◌, Option, Some, None, slice_get, get_or, take, length, map, IsPermutation, refl, sym, ap, ◌∙◌, subst, append_assoc, append-nil}
use Rattle.std.specs.List.{cons_option, range_with_len, zip}
use Rattle.std.specs.FinMap.{from_entries}
use Rattle.std.proofs.lemmas.List.{take_more, map-append, length-map}
use Rattle.std.proofs.lemmas.List.Sorted.{length_permutation}
use Rattle.std.proofs.lemmas.List.Elements.{filter_map-append}
use Rattle.erm_model.specs.Committed.{Committed, rank_of, state_after}
use Rattle.erm_model.specs.Database.{AscendByKey, entries_of}
use Rattle.erm_model.specs.SerialOrder.{IsSerialOrder, StampsDiffer}
use Rattle.erm_model.specs.declared.limits.TheConstants.{LOG_END}
use Rattle.erm_model.specs.declared.map.Pair.{Pair}
use Rattle.erm_report.specs.declared.answer.Answer.{Answer}
use Rattle.erm_report.specs.declared.line.Line.{Line}
use Rattle.erm_report.specs.declared.line.Line.TheVariants as line
use Rattle.erm_script.specs.declared.script.ScriptLine.{ScriptLine}
use Rattle.erm_good_report.specs.GoodReport.{Report, answer_lines, close_line, line_in_order, order_line, places_of, report_lines, serial_of}
use Rattle.erm_good_report.specs.Opening.{Opening}
use Rattle.erm_summary.specs.declared.report.Start.{Start}
use Rattle.erm_summary.specs.declared.told.ClosedSession.{ClosedSession}
use Rattle.erm_summary.specs.declared.told.ToldCommit.{ToldCommit}
use Rattle.erm_summary.specs.Told.{closed_of, committed_as_told, history_told}
use Rattle.erm_summary.specs.Summary.{Summarizes, at_places, opening_at, order_told, placed_told}
use Rattle.erm_summary.proofs.Serial.{all_there, at_places-map}

-- the lines of the commits at one more place
places_more : (commits : List ToldCommit) (order : List ℕ) (i : ℕ) (o : Option ToldCommit) → i < length order → slice_get commits (get_or order i 0) ≡ o
    → at_places commits (take (i + 1) order) ≡ at_places commits (take i order) ++ cons_option o []
places_more commits order i o within at =
    ap (at_places commits) (take_more order i 0 within) ∙ filter_map-append (slice_get commits) (take i order) (get_or order i 0 ∷ [])
    ∙ ap (λ v. at_places commits (take i order) ++ cons_option v []) at

pub commit_more : (names : List (List ℕ)) (commits : List ToldCommit) (order : List ℕ) (i : ℕ) (c : ToldCommit) (first before now : List Line) (head : Line) → i < length order → slice_get commits (get_or order i 0) ≡ Some c
    → before ≡ first ++ head ∷ map (order_told names) (at_places commits (take i order)) → now ≡ before ++ order_told names c ∷ []
    → now ≡ first ++ head ∷ map (order_told names) (at_places commits (take (i + 1) order))
commit_more names commits order i c first before now head within at was is =
    is ∙ ap (λ ls. ls ++ order_told names c ∷ []) was
    ∙ append_assoc first (head ∷ map (order_told names) (at_places commits (take i order))) (order_told names c ∷ [])
    ∙ sym (ap (λ cs. first ++ head ∷ map (order_told names) cs) (places_more commits order i (Some c) within at)
    ∙ ap (λ ls. first ++ head ∷ ls) (map-append (order_told names) (at_places commits (take i order)) (c ∷ [])))

pub no_commit_more : (names : List (List ℕ)) (commits : List ToldCommit) (order : List ℕ) (i : ℕ) (first before : List Line) (head : Line) → i < length order → slice_get commits (get_or order i 0) ≡ None
    → before ≡ first ++ head ∷ map (order_told names) (at_places commits (take i order))
    → before ≡ first ++ head ∷ map (order_told names) (at_places commits (take (i + 1) order))
no_commit_more names commits order i first before head within at was =
    was ∙ sym (ap (λ cs. first ++ head ∷ map (order_told names) cs) (places_more commits order i None within at ∙ append-nil (at_places commits (take i order))))

-- the answers' lines
pub answers_beside : (script : List ScriptLine) (answers : List Answer) → map (λ p. line.Answer p.0.line p.1) (zip script answers) ≡ answer_lines script answers
answers_beside [] answers = refl
answers_beside (l ∷ ls) [] = refl
answers_beside (l ∷ ls) (a ∷ answers) = ap (λ more. line.Answer l.line a ∷ more) (answers_beside ls answers)

-- the parts, joined
joined : (head : Line) (told closed : List Line) (order : Line) (commits : List Line) (values : Line) (pairs : List Line) (last : Line) →
    (((((head ∷ []) ++ told) ++ closed) ++ order ∷ commits) ++ values ∷ pairs) ++ last ∷ [] ≡ head ∷ told ++ closed ++ order ∷ commits ++ values ∷ pairs ++ last ∷ []
joined head told closed order commits values pairs last = simp append_assoc

module _ (names : List (List ℕ)) (script : List ScriptLine) (answers : List Answer) where
  same_line : (b : Bool) (c : ToldCommit) → placed_told b names c ≡ line_in_order b names (committed_as_told script answers c)
  same_line true c = refl
  same_line false c = refl

  lines_of_commits : (commits : List ToldCommit) → map (order_told names) commits ≡ map (order_line names) (history_told script answers commits)
  lines_of_commits [] = refl
  lines_of_commits (c ∷ commits) =
      ap (λ more. order_told names c ∷ more) (lines_of_commits commits)
      ∙ ap (λ (first : Line). first ∷ map (order_line names) (history_told script answers commits)) (same_line (nat_lt c.stamp LOG_END) c)

  lines_of_closed : (closed : List ClosedSession) → map (λ c. close_line names (closed_of c)) closed ≡ map (close_line names) (map closed_of closed)
  lines_of_closed [] = refl
  lines_of_closed (c ∷ closed) = ap (λ more. close_line names (closed_of c) ∷ more) (lines_of_closed closed)

  pub summarizes : (start : Start) (rows first : ℕ) (closed : List ClosedSession) (commits : List ToldCommit) (order : List ℕ) (pairs : List Pair) (lines : List Line) →
      history_told script answers commits ≡ serial_of (length names) (places_of script answers (map closed_of closed)) →
      IsPermutation (range_with_len 0 (length commits)) order →
      (StampsDiffer rank_of (history_told script answers commits) → IsSerialOrder rank_of (history_told script answers commits) (at_places (history_told script answers commits) order)) →
      AscendByKey pairs → from_entries (entries_of pairs) ≡ state_after (at_places (history_told script answers commits) order) start.map →
      lines ≡ (((((line.Open start.stamp start.run ∷ []) ++ map (λ p. line.Answer p.0.line p.1) (zip script answers)) ++ map (λ c. close_line names (closed_of c)) closed)
      ++ line.Order (length commits) ∷ map (order_told names) (at_places commits order)) ++ line.Map (length pairs) ∷ map line.Pair pairs) ++ line.End ∷ [] →
      Summarizes (opening_at start rows first) names script answers (map closed_of closed) lines
  summarizes start rows first closed commits order pairs lines history all serial ascends state is =
      let told : List Committed = history_told script answers commits in
      let ordered : List Committed = at_places told order in
      let places : IsPermutation (range_with_len 0 (length told)) order = subst (λ n. IsPermutation (range_with_len 0 n) order) (sym (length-map commits (committed_as_told script answers))) all in
      let same : IsPermutation told ordered = all_there told order places in
      let count : length commits ≡ length ordered = sym (length-map commits (committed_as_told script answers)) ∙ sym (length_permutation told ordered same) in
      let order_lines : map (order_told names) (at_places commits order) ≡ map (order_line names) ordered =
      lines_of_commits (at_places commits order) ∙ ap (map (order_line names)) (sym (at_places-map (committed_as_told script answers) commits order))
      in
      let opening : Opening = opening_at start rows first in
      let report : Report = record { answers = answers; closed = map closed_of closed; order = ordered; pairs = pairs } in
      let parts : lines ≡ report_lines opening names script report =
      is ∙ joined (line.Open start.stamp start.run) (map (λ p. line.Answer p.0.line p.1) (zip script answers)) (map (λ c. close_line names (closed_of c)) closed) (line.Order (length commits)) (map (order_told names) (at_places commits order)) (line.Map (length pairs)) (map line.Pair pairs) line.End
      ∙ ap (λ ls. line.Open start.stamp start.run ∷ ls ++ map (λ c. close_line names (closed_of c)) closed ++ line.Order (length commits) ∷ map (order_told names) (at_places commits order) ++ line.Map (length pairs) ∷ map line.Pair pairs ++ line.End ∷ []) (answers_beside script answers)
      ∙ ap (λ ls. line.Open start.stamp start.run ∷ answer_lines script answers ++ ls ++ line.Order (length commits) ∷ map (order_told names) (at_places commits order) ++ line.Map (length pairs) ∷ map line.Pair pairs ++ line.End ∷ []) (lines_of_closed closed)
      ∙ ap (λ n. line.Open start.stamp start.run ∷ answer_lines script answers ++ map (close_line names) (map closed_of closed) ++ line.Order n ∷ map (order_told names) (at_places commits order) ++ line.Map (length pairs) ∷ map line.Pair pairs ++ line.End ∷ []) count
      ∙ ap (λ ls. line.Open start.stamp start.run ∷ answer_lines script answers ++ map (close_line names) (map closed_of closed) ++ line.Order (length ordered) ∷ ls ++ line.Map (length pairs) ∷ map line.Pair pairs ++ line.End ∷ []) order_lines
      in
      record {
        report = report;
        lines_ok = parts;
        answers_ok = refl;
        closed_ok = refl;
        all = subst (λ h. IsPermutation h ordered) history same;
        serial = subst (λ h. StampsDiffer rank_of h → IsSerialOrder rank_of h ordered) history serial;
        ascends = ascends;
        state = state;
      }

-- the parts, added one after another
pub assembled : (v0 v1 a v2 b v3 v4 v5 v6 : List Line) (head : Line) (told closed : List Line) (order : Line) (commits : List Line) (values : Line) (pairs : List Line) (last : Line) →
    v0 ≡ [] → v1 ≡ v0 ++ head ∷ [] → a ≡ told → v2 ≡ v1 ++ a → b ≡ closed → v3 ≡ v2 ++ b → v4 ≡ v3 ++ order ∷ commits → v5 ≡ v4 ++ values ∷ pairs → v6 ≡ v5 ++ last ∷ [] →
    v6 ≡ (((((head ∷ []) ++ told) ++ closed) ++ order ∷ commits) ++ values ∷ pairs) ++ last ∷ []
assembled v0 v1 a v2 b v3 v4 v5 v6 head told closed order commits values pairs last e0 e1 ea e2 eb e3 e4 e5 e6 =
    let f1 : v1 ≡ head ∷ [] = e1 ∙ ap (λ v. v ++ head ∷ []) e0 in
    let f2 : v2 ≡ (head ∷ []) ++ told = e2 ∙ ap (λ v. v ++ a) f1 ∙ ap (λ v. (head ∷ []) ++ v) ea in
    let f3 : v3 ≡ ((head ∷ []) ++ told) ++ closed = e3 ∙ ap (λ v. v ++ b) f2 ∙ ap (λ v. ((head ∷ []) ++ told) ++ v) eb in
    e6 ∙ ap (λ v. v ++ last ∷ []) (e5 ∙ ap (λ v. v ++ values ∷ pairs) (e4 ∙ ap (λ v. v ++ order ∷ commits) f3))
