-- Readings of a script: bytes have one.
use Rattle.std.proofs.Common.{◌≡◌, ◌≢◌, ℕ, ◌+◌, ◌-◌, ◌<◌, ◌≤◌, max, false, List, [], ◌∷◌, length, take, get_or, ap, sym, ◌∙◌, inl, inr, refl, arith}
use Rattle.std.specs.List.{AllPairs}
use Rattle.std.proofs.lemmas.Bool.{cases_lt, false≢true}
use Rattle.std.proofs.lemmas.List.{get_or-take, take_all, take_more_same}
use Rattle.erm_script.specs.declared.script.Command.{Command}
use Rattle.erm_script.specs.declared.script.ScriptLine.{ScriptLine}
use Rattle.erm_script.specs.declared.script.Command.TheVariants as command
use Rattle.erm_script.specs.declared.grammar.Grammar.{Grammar}
use Rattle.erm_script.specs.Keywords.{word_of, names_session}
use Rattle.erm_script.specs.Script.{Spells, SpellsAlone, IsSpelled, AreSpelled, AreNumbered, AreScript, keyword_of, given_words, name_of}
use Rattle.erm_script.proofs.Lines.{same_command}
use Rattle.erm_script.proofs.Scripts.{seen_le}

-- a line of a session spells one name and one command
same_named : (g : Grammar) (line n m : List ℕ) (c d : Command) → Spells g line n c → Spells g line m d → (n ≡ m) × (c ≡ d)
same_named g line n m c d one other =
    let e : n ∷ word_of (keyword_of c) ∷ given_words c ≡ m ∷ word_of (keyword_of d) ∷ given_words d = sym one.words ∙ other.words in
    let words : word_of (keyword_of c) ≡ word_of (keyword_of d) = cc in
    let given : given_words c ≡ given_words d = cc in
    (cc, same_command c d one.command_ok.in_range other.command_ok.in_range words given)

-- a command whose lines name no session takes no arguments
alone_is_bare : (c : Command) → names_session (keyword_of c) ≡ false → given_words c ≡ []
alone_is_bare command.Begin unnamed = refl
alone_is_bare (command.Get table key) unnamed = absurd (false≢true (sym unnamed))
alone_is_bare (command.Put table key value) unnamed = absurd (false≢true (sym unnamed))
alone_is_bare (command.Del table key) unnamed = absurd (false≢true (sym unnamed))
alone_is_bare (command.Next table from) unnamed = absurd (false≢true (sym unnamed))
alone_is_bare (command.Scan table low high) unnamed = absurd (false≢true (sym unnamed))
alone_is_bare (command.Tidy table key) unnamed = absurd (false≢true (sym unnamed))
alone_is_bare (command.Back n) unnamed = absurd (false≢true (sym unnamed))
alone_is_bare c unnamed = refl

-- a line of no session spells one command
same_alone : (g : Grammar) (line : List ℕ) (c d : Command) → SpellsAlone g line c → SpellsAlone g line d → c ≡ d
same_alone g line c d one other =
    let e : word_of (keyword_of c) ∷ [] ≡ word_of (keyword_of d) ∷ [] = sym one.words ∙ other.words in
    same_command c d one.command_ok.in_range other.command_ok.in_range (cc) (alone_is_bare c one.unnamed ∙ sym (alone_is_bare d other.unnamed))

-- no line is both
not_both : (g : Grammar) (line n : List ℕ) (c d : Command) → Spells g line n c → SpellsAlone g line d → ⊥
not_both g line n c d one other =
    let e : n ∷ word_of (keyword_of c) ∷ given_words c ≡ word_of (keyword_of d) ∷ [] = sym one.words ∙ other.words in
    cc

-- a name that is among those seen stands at one place
seat_below : (names others : List (List ℕ)) (seen s t : ℕ) → take seen names ≡ take seen others → AllPairs (λ a b. a ≢ b) others
    → 1 ≤ s → t ≤ seen + 1 → t ≤ length others → name_of names s ≡ name_of others t → s < t → ⊥
seat_below names others seen s t same differ least most within e below =
    let here : get_or names (s - 1) [] ≡ get_or others (s - 1) [] =
    sym (get_or-take seen names (s - 1) [] (omega arith)) ∙ ap (λ (ns : List (List ℕ)). get_or ns (s - 1) []) same ∙ get_or-take seen others (s - 1) [] (omega arith) in
    differ (s - 1) (t - 1) [] (omega arith) (omega arith) (sym here ∙ e)

-- sessions that are numbered by the order of first lines have one number
same_seat : (names others : List (List ℕ)) (seen s t : ℕ) → take seen names ≡ take seen others
    → AllPairs (λ a b. a ≢ b) names → AllPairs (λ a b. a ≢ b) others → 1 ≤ s → s ≤ seen + 1 → 1 ≤ t → t ≤ seen + 1 → s ≤ length names → t ≤ length others
    → name_of names s ≡ name_of others t → s ≡ t
same_seat names others seen s t same differ differ' least most least' most' within within' e = elim (cases_lt s t) [
  | inl below ↦ absurd (seat_below names others seen s t same differ' least most' within' e below)
  | inr not_below ↦ elim (cases_lt t s) [
    | inl below ↦ absurd (seat_below others names seen t s (sym same) differ least' most within (sym e) below)
    | inr equal ↦ omega arith
  ]
]

-- names that are the same as far as they were seen are so with one more
same_seen : (names others : List (List ℕ)) (seen s : ℕ) → take seen names ≡ take seen others → s ≤ seen + 1 → s ≤ length names → s ≤ length others
    → name_of names s ≡ name_of others s → take (max seen s) names ≡ take (max seen s) others
same_seen names others seen s same most within within' e = elim (cases_lt seen s) [
  | inl next ↦
      let more : max seen s ≡ seen + 1 = omega arith in
      let place : s - 1 ≡ seen = omega arith in
      let at : get_or names seen [] ≡ get_or others seen [] = rw place at e in
      rw more (take_more_same names others seen [] (omega arith) (omega arith) same at)
  | inr again ↦
      let none : max seen s ≡ seen = omega arith in
      rw none same
]

-- a line of a script, by its parts
abbrev made : ℕ → ℕ → Command → ScriptLine
made n s c = record { line = n; session = s; command = c }

-- lines of a script with equal parts
same_line : (l m : ScriptLine) → l.line ≡ m.line → l.session ≡ m.session → l.command ≡ m.command → l ≡ m
same_line l m line session command =
    ap (λ n. made n l.session l.command) line ∙ ap (λ s. made m.line s l.command) session ∙ ap (λ (c : Command). made m.line m.session c) command

-- a line spells one line of a script, after sessions that were seen
same_spelled : (g : Grammar) (names others : List (List ℕ)) (seen : ℕ) (line : List ℕ) (l m : ScriptLine) → IsSpelled g names line l → IsSpelled g others line m
    → l.session ≤ seen + 1 → m.session ≤ seen + 1 → l.session ≤ length names → m.session ≤ length others
    → AllPairs (λ a b. a ≢ b) names → AllPairs (λ a b. a ≢ b) others → take seen names ≡ take seen others
    → (l.session ≡ m.session) × (l.command ≡ m.command) × (take (max seen m.session) names ≡ take (max seen m.session) others)
same_spelled g names others seen line l m (inl one) (inl other) most most' within within' differ differ' same =
    let both = same_named g line (name_of names l.session) (name_of others m.session) l.command m.command one.1 other.1 in
    let seat : l.session ≡ m.session =
    same_seat names others seen l.session m.session same differ differ' one.0 most other.0 most' within within' both.0 in
    let named : name_of names m.session ≡ name_of others m.session = ap (λ s. name_of names s) (sym seat) ∙ both.0 in
    (seat, both.1, same_seen names others seen m.session same most' (omega arith) (omega arith) named)
same_spelled g names others seen line l m (inl one) (inr other) most most' within within' differ differ' same =
    absurd (not_both g line (name_of names l.session) l.command m.command one.1 other.1)
same_spelled g names others seen line l m (inr one) (inl other) most most' within within' differ differ' same =
    absurd (not_both g line (name_of others m.session) m.command l.command other.1 one.1)
same_spelled g names others seen line l m (inr one) (inr other) most most' within within' differ differ' same =
    let none = other.0 in
    let still : max seen m.session ≡ seen = omega arith in
    (one.0 ∙ sym other.0, same_alone g line l.command m.command one.1 other.1, rw still same)

-- numbered lines are those of one script, from sessions that were seen on
one_reading : (g : Grammar) (kept : List (ℕ × List ℕ)) (names others : List (List ℕ)) (lines more : List ScriptLine) (seen : ℕ)
    → AreSpelled g names kept lines → AreNumbered seen lines (length names) → AreSpelled g others kept more → AreNumbered seen more (length others)
    → AllPairs (λ a b. a ≢ b) names → AllPairs (λ a b. a ≢ b) others → take seen names ≡ take seen others → (names ≡ others) × (lines ≡ more)
one_reading g [] names others [] [] seen spelled numbered spelled' numbered' differ differ' same = (
  sym (take_all seen names (let long = numbered in omega arith)) ∙ same ∙ take_all seen others (let long = numbered' in omega arith),
  refl,
)
one_reading g [] names others (l ∷ ls) more seen spelled numbered spelled' numbered' differ differ' same = absurd spelled
one_reading g [] names others [] (m ∷ ms) seen spelled numbered spelled' numbered' differ differ' same = absurd spelled'
one_reading g (k ∷ ks) names others [] more seen spelled numbered spelled' numbered' differ differ' same = absurd spelled
one_reading g (k ∷ ks) names others (l ∷ ls) [] seen spelled numbered spelled' numbered' differ differ' same = absurd spelled'
one_reading g (k ∷ ks) names others (l ∷ ls) (m ∷ ms) seen spelled numbered spelled' numbered' differ differ' same =
    let within = seen_le (max seen l.session) ls (length names) numbered.1 in
    let within' = seen_le (max seen m.session) ms (length others) numbered'.1 in
    let here = same_spelled g names others seen k.1 l m spelled.1 spelled'.1 numbered.0 numbered'.0 (omega arith) (omega arith) differ differ' same in
    let line = same_line l m (spelled.0 ∙ sym spelled'.0) here.0 here.1 in
    let rest = one_reading g ks names others ls ms (max seen m.session) spelled.2 (rw here.0 at numbered.1) spelled'.2 numbered'.1 differ differ' here.2 in
    (rest.0, ap (λ (x : ScriptLine). x ∷ ls) line ∙ ap (λ (xs : List ScriptLine). m ∷ xs) rest.1)

-- numbered lines are those of one script
pub AreScript-unique : (g : Grammar) (kept : List (ℕ × List ℕ)) (names others : List (List ℕ)) (lines more : List ScriptLine)
    → AreScript g kept names lines → AreScript g kept others more → (names ≡ others) × (lines ≡ more)
AreScript-unique g kept names others lines more one other =
    one_reading g kept names others lines more 0 one.spelled one.numbered other.spelled other.numbered one.differ other.differ refl
