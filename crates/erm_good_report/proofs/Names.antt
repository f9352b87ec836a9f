-- The names of a script's sessions are words.
use Rattle.std.proofs.Common.{◌≡◌, ◌≢◌, ℕ, ◌+◌, ◌-◌, ◌<◌, ◌≤◌, max, IsTrue, List, [], ◌∷◌, length, sym, subst, inl, inr, arith}
use Rattle.std.specs.Prelude.{slice_index_or}
use Rattle.std.proofs.lemmas.Bool.{false≢true, cases_lt}
use Rattle.std.proofs.lemmas.List.{get_or_past}
use Rattle.std.proofs.lemmas.List.Elements.{All-nil, All-weaker}
use Rattle.erm_report.specs.Printable.{IsWord}
use Rattle.erm_script.specs.declared.grammar.Grammar.{Grammar}
use Rattle.erm_script.specs.declared.script.ScriptLine.{ScriptLine}
use Rattle.erm_script.specs.Script.{is_name_byte, IsName, name_of, AreSpelled, AreNumbered, IsScript, kept_lines}

-- a byte of a name is neither a space nor a line end
name_byte : (b : ℕ) → IsTrue (is_name_byte b) → (b ≢ 32) × (b ≢ 10)
name_byte b is = (
  λ same. false≢true (subst (λ n. IsTrue (is_name_byte n)) same is),
  λ same. false≢true (subst (λ n. IsTrue (is_name_byte n)) same is),
)

-- a name is a word
IsWord-from_name : (name : List ℕ) → IsName name → IsWord name
IsWord-from_name name is = All-weaker (λ b. IsTrue (is_name_byte b)) (λ b. (b ≢ 32) × (b ≢ 10)) name_byte name is.bytes

-- a session that some line is the first of has a name
named : (g : Grammar) (names : List (List ℕ)) (kept : List (ℕ × List ℕ)) (script : List ScriptLine) (seen sessions s : ℕ) → AreSpelled g names kept script →
    AreNumbered seen script sessions → seen < s → s ≤ sessions → IsName (name_of names s)
named g names kept [] seen sessions s spelled numbered above below = absurd (omega arith)
named g names [] (l ∷ ls) seen sessions s spelled numbered above below = absurd spelled
named g names (k ∷ ks) (l ∷ ls) seen sessions s spelled numbered above below = elim (cases_lt (max seen l.session) s) [
  | inl later ↦ named g names ks ls (max seen l.session) sessions s spelled.2 numbered.1 later below
  | inr here ↦ elim spelled.1 [
    | inl own ↦
        let first : s ≡ l.session = omega (arith, numbered.0, own.0) in
        subst (λ n. IsName (name_of names n)) (sym first) own.1.name_ok
    | inr alone ↦ absurd (omega (arith, alone.0))
  ]
]

-- whatever the number of a session, its name is a word
pub names_are_words : (g : Grammar) (bytes : List ℕ) (names : List (List ℕ)) (script : List ScriptLine) → IsScript g bytes names script → (s : ℕ) → IsWord (name_of names s)
names_are_words g bytes names script is s = elim (cases_lt (s - 1) (length names)) as (λ _. IsWord (name_of names s)) [
  | inl within ↦
      let again : s - 1 + 1 - 1 ≡ s - 1 = omega arith in
      let name : IsName (name_of names (s - 1 + 1)) =
      named g names (kept_lines bytes) script 0 (length names) (s - 1 + 1) is.spelled is.numbered (omega arith) (omega arith) in
      IsWord-from_name (name_of names s) (subst (λ k. IsName (slice_index_or names k [])) again name)
  | inr past ↦ subst IsWord (sym (get_or_past names (s - 1) [] past)) (All-nil (λ b. (b ≢ 32) × (b ≢ 10)))
]
