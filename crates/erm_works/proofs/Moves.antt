-- The lines of a session, and its moves, where only its first lines were answered.
use Rattle.std.proofs.Common.{◌≡◌, ◌≢◌, ℕ, zero, ◌≤◌, Bool, if◌then◌else◌, List, [], ◌∷◌, length, inl, inr, refl, sym, ap, ◌∙◌, subst, arith}
use Rattle.erm_model.specs.Member.{◌∈◌}
use Rattle.erm_model.proofs.Members.{∈-behind}
use Rattle.erm_report.specs.declared.answer.Answer.{Answer}
use Rattle.erm_script.specs.declared.script.ScriptLine.{ScriptLine}
use Rattle.erm_good_at_once.specs.CutReports.{answered_of, less}
use Rattle.erm_lines.specs.Executions.{Move, line_moves, move_of}
use Rattle.erm_threads.specs.Parts.{own_lines}
use Rattle.erm_joined.proofs.Answered.{answers_it, less_other, less_own, lt_tells, seats_differ, skips_it}
use Rattle.erm_joined.proofs.Closes.{other_seat, same_seat}
use Rattle.erm_joined.proofs.Order.{no_length}

-- NO LINES. A session without lines has none, and none that was answered.
pub no_lines : (seat : ℕ) (script : List ScriptLine) → ((l : ScriptLine) → l ∈ script → l.session ≢ seat) → own_lines seat script ≡ []
no_lines seat [] others = refl
no_lines seat (l ∷ ls) others =
    ap (λ (b : Bool). if b then l ∷ own_lines seat ls else own_lines seat ls) (other_seat l.session seat (others l (zero, refl)))
    ∙ no_lines seat ls (λ x m. others x (∈-behind l ls x m))

pub none_answered : (s : ℕ) (counts : ℕ → ℕ) (xs : List ScriptLine) → ((l : ScriptLine) → l ∈ xs → l.session ≢ s) → own_lines s (answered_of counts xs) ≡ []
none_answered s counts [] others = refl
none_answered s counts (x ∷ xs) others = elim (lt_tells 0 (counts x.session)) [
  | inl more ↦
      ap (own_lines s) (answers_it counts x xs more.1)
      ∙ ap (λ (b : Bool). if b then x ∷ own_lines s (answered_of (less x.session counts) xs) else own_lines s (answered_of (less x.session counts) xs)) (other_seat x.session s (others x (zero, refl)))
      ∙ none_answered s (less x.session counts) xs (λ l m. others l (∈-behind x xs l m))
  | inr over ↦ ap (own_lines s) (skips_it counts x xs over.1) ∙ none_answered s counts xs (λ l m. others l (∈-behind x xs l m))
]

-- MOVES. Of a session's lines those answered come first: with its answers they make the moves that all its lines make.
no_moves : (lines : List ScriptLine) → line_moves lines [] ≡ []
no_moves [] = refl
no_moves (l ∷ lines) = refl

moves_own : (s : ℕ) (l : ScriptLine) (ls : List ScriptLine) (a : Answer) (answers : List Answer) → l.session ≡ s
    → line_moves (own_lines s (l ∷ ls)) (a ∷ answers) ≡ move_of l a ∷ line_moves (own_lines s ls) answers
moves_own s l ls a answers is = ap (λ (b : Bool). line_moves (if b then l ∷ own_lines s ls else own_lines s ls) (a ∷ answers)) (same_seat l.session s is)

moves_other : (s : ℕ) (l : ScriptLine) (ls : List ScriptLine) (answers : List Answer) → l.session ≢ s → line_moves (own_lines s (l ∷ ls)) answers ≡ line_moves (own_lines s ls) answers
moves_other s l ls answers isnt = ap (λ (b : Bool). line_moves (if b then l ∷ own_lines s ls else own_lines s ls) answers) (other_seat l.session s isnt)

one_move : (s : ℕ) (counts : ℕ → ℕ) (x : ScriptLine) (xs : List ScriptLine) (answers : List Answer) → length answers ≡ counts s → s ≡ x.session
    → ((more : List Answer) → length more ≡ less x.session counts s → line_moves (own_lines s (answered_of (less x.session counts) xs)) more ≡ line_moves (own_lines s xs) more)
    → line_moves (own_lines s (x ∷ answered_of (less x.session counts) xs)) answers ≡ line_moves (own_lines s (x ∷ xs)) answers
one_move s counts x xs [] many is rest = no_moves (own_lines s (x ∷ answered_of (less x.session counts) xs)) ∙ sym (no_moves (own_lines s (x ∷ xs)))
one_move s counts x xs (a ∷ answers) many is rest =
    let fewer = less_own x.session counts s is in
    moves_own s x (answered_of (less x.session counts) xs) a answers (sym is)
    ∙ ap (λ (ms : List Move). move_of x a ∷ ms) (rest answers (omega (arith, fewer, many)))
    ∙ sym (moves_own s x xs a answers (sym is))

pub same_moves : (s : ℕ) (counts : ℕ → ℕ) (xs : List ScriptLine) (answers : List Answer) → length answers ≡ counts s
    → line_moves (own_lines s (answered_of counts xs)) answers ≡ line_moves (own_lines s xs) answers
same_moves s counts [] answers many = refl
same_moves s counts (x ∷ xs) answers many = elim (lt_tells 0 (counts x.session)) [
  | inl more ↦
      ap (λ (ls : List ScriptLine). line_moves (own_lines s ls) answers) (answers_it counts x xs more.1) ∙ elim (seats_differ s x.session) [
        | inl same ↦ one_move s counts x xs answers many same.1 (λ rest long. same_moves s (less x.session counts) xs rest long)
        | inr other ↦
            moves_other s x (answered_of (less x.session counts) xs) answers (λ is. other.1 (sym is))
            ∙ same_moves s (less x.session counts) xs answers (many ∙ sym (less_other x.session counts s other.1))
            ∙ sym (moves_other s x xs answers (λ is. other.1 (sym is)))
      ]
  | inr over ↦
      ap (λ (ls : List ScriptLine). line_moves (own_lines s ls) answers) (skips_it counts x xs over.1) ∙ same_moves s counts xs answers many ∙ elim (seats_differ s x.session) [
        | inl same ↦ (
            let none : answers ≡ [] = no_length answers (let past : counts s ≤ 0 = subst (λ (t : ℕ). counts t ≤ 0) (sym same.1) over.1 in omega (arith, past, many)) in
            ap (line_moves (own_lines s xs)) none ∙ no_moves (own_lines s xs) ∙ sym (no_moves (own_lines s (x ∷ xs))) ∙ ap (line_moves (own_lines s (x ∷ xs))) (sym none))
        | inr other ↦ sym (moves_other s x xs answers (λ is. other.1 (sym is)))
      ]
]
