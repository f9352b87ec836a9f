-- Lines with their answers as moves.
use Rattle.std.proofs.Common.{◌≡◌, ℕ, zero, suc, List, [], ◌∷◌, ◌++◌, length, take, refl, ap, arith}
use Rattle.erm_report.specs.declared.answer.Answer.{Answer}
use Rattle.erm_script.specs.declared.script.ScriptLine.{ScriptLine}
use Rattle.erm_good_report.specs.GoodReport.{answer_lines}
use Rattle.erm_report.specs.declared.line.Line.{Line}
use Rattle.erm_report.specs.declared.line.Line.TheVariants as line
use Rattle.erm_lines.specs.Executions.{Move, line_moves, move_of}

-- one line more with its answer
pub line_moves_more : (script : List ScriptLine) (answers : List Answer) (l : ScriptLine) (a : Answer) → length answers ≡ length script
    → line_moves (script ++ l ∷ []) (answers ++ a ∷ []) ≡ line_moves script answers ++ move_of l a ∷ []
line_moves_more [] [] l a same = refl
line_moves_more [] (b ∷ answers) l a same = absurd (omega (arith, same))
line_moves_more (m ∷ script) [] l a same = absurd (omega (arith, same))
line_moves_more (m ∷ script) (b ∷ answers) l a same = ap (λ (moves : List Move). move_of m b ∷ moves) (line_moves_more script answers l a (omega (arith, same)))

-- answers are those of the first lines
pub line_moves_front : (script : List ScriptLine) (n : ℕ) (answers : List Answer) → length answers ≡ n → line_moves (take n script) answers ≡ line_moves script answers
line_moves_front [] zero answers many = refl
line_moves_front [] (suc n) answers many = refl
line_moves_front (l ∷ script) zero [] many = refl
line_moves_front (l ∷ script) zero (a ∷ answers) many = absurd (omega (arith, many))
line_moves_front (l ∷ script) (suc n) [] many = refl
line_moves_front (l ∷ script) (suc n) (a ∷ answers) many = ap (λ (moves : List Move). move_of l a ∷ moves) (line_moves_front script n answers (omega (arith, many)))

-- the lines of one answer more
pub answer_lines_more : (script : List ScriptLine) (answers : List Answer) (l : ScriptLine) (a : Answer) → length answers ≡ length script
    → answer_lines (script ++ l ∷ []) (answers ++ a ∷ []) ≡ answer_lines script answers ++ line.Answer l.line a ∷ []
answer_lines_more [] [] l a same = refl
answer_lines_more [] (b ∷ answers) l a same = absurd (omega (arith, same))
answer_lines_more (m ∷ script) [] l a same = absurd (omega (arith, same))
answer_lines_more (m ∷ script) (b ∷ answers) l a same = ap (λ (lines : List Line). line.Answer m.line b ∷ lines) (answer_lines_more script answers l a (omega (arith, same)))

-- lines that have no answer aren't told
pub answer_lines_front : (script : List ScriptLine) (n : ℕ) (answers : List Answer) → length answers ≡ n → answer_lines (take n script) answers ≡ answer_lines script answers
answer_lines_front [] zero answers many = refl
answer_lines_front [] (suc n) answers many = refl
answer_lines_front (l ∷ script) zero [] many = refl
answer_lines_front (l ∷ script) zero (a ∷ answers) many = absurd (omega (arith, many))
answer_lines_front (l ∷ script) (suc n) [] many = refl
answer_lines_front (l ∷ script) (suc n) (a ∷ answers) many = ap (λ (lines : List Line). line.Answer l.line a ∷ lines) (answer_lines_front script n answers (omega (arith, many)))
