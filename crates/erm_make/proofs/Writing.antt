-- The text of a script, line by line.
use Rattle.std.proofs.Common.{◌≡◌, ℕ, zero, suc, ◌+◌, ◌-◌, ◌<◌, ◌≤◌, true, false, not, List, [], ◌∷◌, ◌++◌, length, take, get_or, sym, ap, ◌∙◌, append_assoc, arith}
use Rattle.std.specs.List.{filter, flat_map}
use Rattle.std.proofs.lemmas.List.{append-nil, take_more}
use Rattle.std.proofs.lemmas.List.Concat.{flat_map-append}
use Rattle.std.proofs.lemmas.List.Elements.{filter-append}
use Rattle.erm_script.specs.declared.script.ScriptLine.{ScriptLine}
use Rattle.erm_script.specs.Keywords.{word_of}
use Rattle.erm_script.specs.Script.{given_words, keyword_of}
use Rattle.erm_make.specs.Texts.{is_flush, line_text, lines_but_flushes, script_text, session_text, spaced}

-- the text of what is left of some lines and of others
pub text-append : (names : List (List ℕ)) (xs ys : List ScriptLine)
    → script_text names (lines_but_flushes (xs ++ ys)) ≡ script_text names (lines_but_flushes xs) ++ script_text names (lines_but_flushes ys)
text-append names xs ys =
    let left : ScriptLine → _ = λ l. not (is_flush l.command) in
    let text : ScriptLine → List ℕ = λ l. line_text names l.session l.command ++ 10 ∷ [] in
    ap (λ (ls : List ScriptLine). flat_map text ls) (filter-append left xs ys) ∙ flat_map-append text (filter left xs) (filter left ys)

-- the text after one more line
pub text_more : (names : List (List ℕ)) (lines : List ScriptLine) (i : ℕ) (l : ScriptLine) (old new : List ℕ)
    → i < length lines → l ≡ get_or lines i l → old ≡ script_text names (lines_but_flushes (take i lines))
    → new ≡ old ++ script_text names (lines_but_flushes (l ∷ [])) → new ≡ script_text names (lines_but_flushes (take (i + 1) lines))
text_more names lines i l old new within at before more =
    let longer : take (i + 1) lines ≡ take i lines ++ l ∷ [] =
    take_more lines i l within ∙ ap (λ (x : ScriptLine). take i lines ++ x ∷ []) (sym at) in
    more ∙ ap (λ (bs : List ℕ). bs ++ script_text names (lines_but_flushes (l ∷ []))) before ∙ sym (text-append names (take i lines) (l ∷ []))
    ∙ ap (λ (ls : List ScriptLine). script_text names (lines_but_flushes ls)) (sym longer)

-- a line that asks for a flush adds nothing
pub text-flush : (names : List (List ℕ)) (l : ScriptLine) (old : List ℕ) → is_flush l.command ≡ true
    → old ≡ old ++ script_text names (lines_but_flushes (l ∷ []))
text-flush names l old e = rw e (sym (append-nil old))

-- another line adds its text
pub text-other : (names : List (List ℕ)) (l : ScriptLine) (old session named worded given new : List ℕ) → is_flush l.command ≡ false
    → named ≡ old ++ session_text names l.session → worded ≡ named ++ word_of (keyword_of l.command)
    → given ≡ worded ++ spaced (given_words l.command) → new ≡ given ++ 10 ∷ []
    → new ≡ old ++ script_text names (lines_but_flushes (l ∷ []))
text-other names l old session named worded given new e a b c d =
    let first : List ℕ = session_text names l.session in
    let second : List ℕ = word_of (keyword_of l.command) in
    let third : List ℕ = spaced (given_words l.command) in
    let all : new ≡ old ++ ((((first ++ second) ++ third) ++ 10 ∷ []) ++ []) =
    d ∙ ap (λ (bs : List ℕ). bs ++ 10 ∷ []) (c ∙ ap (λ (bs : List ℕ). bs ++ third) (b ∙ ap (λ (bs : List ℕ). bs ++ second) a))
    ∙ simp (append_assoc, append-nil) in
    rw e all

-- the text of a session that has a seat
pub session_text-some : (names : List (List ℕ)) (seat : ℕ) → 1 ≤ seat → session_text names seat ≡ get_or names (seat - 1) [] ++ 32 ∷ []
session_text-some names zero some = absurd (omega arith)
session_text-some names (suc place) some = ap (λ k. get_or names k [] ++ 32 ∷ []) (omega arith)
