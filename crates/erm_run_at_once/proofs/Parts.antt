-- The parts of a script as lists of lines.
use Rattle.std.proofs.Common.{◌≡◌, ℕ, zero, suc, ◌+◌, ◌<◌, ◌==◌, Bool, true, false, List, [], ◌∷◌, Vec, length, map, Some, inl, inr, refl, sym, ap, ◌∙◌, subst, arith}
use Rattle.std.specs.Prelude.{if◌then◌else◌, Option}
use Rattle.std.specs.declared.alloc.Global.{Global}
use Rattle.std.proofs.lemmas.Bool.{eqb-true}
use Rattle.std.proofs.lemmas.List.{get_or-map, length-map}
use Rattle.std.proofs.lemmas.Option.{get_or_from_slice_get, slice_get_cases, slice_get_within}
use Rattle.erm_model.specs.Member.{◌∈◌}
use Rattle.erm_model.proofs.Members.{none_in_nil, ∈-behind}
use Rattle.erm_script.specs.declared.script.ScriptLine.{ScriptLine}
use Rattle.erm_threads.specs.Parts.{AreParts, own_lines}
use Rattle.erm_run_beside.specs.Jobs.{AreLines}
use Rattle.erm_disk_at_once.specs.Runs.{IsScriptAtOnce}

abbrev Part : Type 0
Part = Vec ScriptLine Global

-- the parts as lists
abbrev pub lines_of : List Part → List (List ScriptLine)
lines_of parts = map (λ p. p.items) parts

pub list_parts : (sessions : ℕ) (script : List ScriptLine) (parts : List Part) → AreParts (λ p. p.items) sessions script parts → AreParts (λ p. p) sessions script (lines_of parts)
list_parts sessions script parts are = record {
  many = length-map parts (λ (p : Part). p.items) ∙ are.many;
  own = λ k d within.
      let same = length-map parts (λ (p : Part). p.items) in
      let few : k < length parts = omega (arith, within, same) in
      elim (slice_get_cases parts k).1 [
        | inl it ↦ get_or-map (λ (p : Part). p.items) parts k it.0 d few ∙ are.own k it.0 few
        | inr past ↦ absurd (let least = past.0 in omega (arith, least, few))
      ];
}

-- a session's own line is a line of the script
in_own : (s : ℕ) (ls : List ScriptLine) (l : ScriptLine) → l ∈ own_lines s ls → (l ∈ ls) × (l.session ≡ s)
in_own s [] l m = absurd (none_in_nil l m)
in_own s (x ∷ xs) l m = by (λ n. in_own s xs l n) (x.session == s) refl m
  where
    the_line : (a b : ScriptLine) → ◌≡◌ {A = Option ScriptLine} (Some a) (Some b) → a ≡ b
    the_line a b is = cc

    by : (l ∈ own_lines s xs → (l ∈ xs) × (l.session ≡ s)) → (b : Bool) → (x.session == s) ≡ b → l ∈ (if b then x ∷ own_lines s xs else own_lines s xs) → (l ∈ (x ∷ xs)) × (l.session ≡ s)
    by others true is (zero, e) = ((zero, e), ap (λ (y : ScriptLine). y.session) (sym (the_line x l e)) ∙ eqb-true x.session s is)
    by others true is (suc k, e) = let rest = others (k, e) in (∈-behind x xs l rest.0, rest.1)
    by others false is m = let rest = others m in (∈-behind x xs l rest.0, rest.1)

-- each line of a part is its session's own, and may be asked of it
pub are_lines : (names : List (List ℕ)) (script : List ScriptLine) (parts : List (List ScriptLine)) → IsScriptAtOnce names script → AreParts (λ p. p) (length names) script parts → AreLines parts
are_lines names script parts is are k lines at l m =
    let within : k < length parts = slice_get_within parts k lines at in
    let own : lines ≡ own_lines (k + 1) script = sym (get_or_from_slice_get parts k lines lines at) ∙ are.own k lines within in
    let there = in_own (k + 1) script l (subst (λ (ls : List ScriptLine). l ∈ ls) own m) in
    (there.1, (is.each l there.0).asked)
