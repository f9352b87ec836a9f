-- Scripts: what one more line makes of a script, and what their first lines are.
use Rattle.std.proofs.Common.{◌≡◌, ◌≢◌, ◌==◌, ℕ, ◌+◌, ◌-◌, ◌≤◌, ◌<◌, max, true, false, not, List, [], ◌∷◌, ◌++◌, length, take, get_or, Some, ap, sym, ◌∙◌, arith, refl, inl, inr, length-append}
use Rattle.std.specs.List.{slice_split, enumerate_from, filter}
use Rattle.std.proofs.Math.Seq.{get_or-append_seam}
use Rattle.std.proofs.lemmas.List.{get_or-take, get_or_append_left, length-take-le, append-nil, take_more, take_all}
use Rattle.std.proofs.lemmas.List.Elements.{filter-append}
use Rattle.std.proofs.lemmas.List.FromFn.{length-enumerate_from, get_or-enumerate_from}
use Rattle.std.proofs.lemmas.List.Quantifiers.{all_pairs_push}
use Rattle.std.proofs.lemmas.List.Splits.{length-slice_split}
use Rattle.std.proofs.lemmas.List.Sums.{length-filter, count_by-le-length}
use Rattle.std.proofs.lemmas.Option.{slice_get_within, get_or_from_slice_get, slice_get-get_or}
use Rattle.erm_model.specs.Member.{◌∈◌}
use Rattle.erm_script.specs.declared.script.Command.{Command}
use Rattle.erm_script.specs.declared.script.ScriptLine.{ScriptLine}
use Rattle.erm_script.specs.declared.script.TheConstants.{NO_SESSION}
use Rattle.erm_script.specs.declared.grammar.Grammar.{Grammar}
use Rattle.erm_script.specs.declared.parser.line.Asked.{Asked}
use Rattle.erm_script.specs.declared.parser.line.Asked.TheVariants.{OfSession, Alone}
use Rattle.erm_script.specs.Asked.{Asks, Adds, AddsName}
use Rattle.erm_script.specs.Script.{Spells, IsSpelled, AreSpelled, AreNumbered, AreScript, IsScript, is_skipped, kept_lines, name_of}
use Rattle.erm_script.specs.Seats.{IsSeatOf}

-- one more line is spelled
AreSpelled-push : (g : Grammar) (names : List (List ℕ)) (kept : List (ℕ × List ℕ)) (lines : List ScriptLine) (k : ℕ × List ℕ) (l : ScriptLine)
    → AreSpelled g names kept lines → l.line ≡ k.0 → IsSpelled g names k.1 l → AreSpelled g names (kept ++ k ∷ []) (lines ++ l ∷ [])
AreSpelled-push g names [] [] k l all number spells = (number, spells, tt)
AreSpelled-push g names [] (x ∷ xs) k l all number spells = absurd all
AreSpelled-push g names (y ∷ ys) [] k l all number spells = absurd all
AreSpelled-push g names (y ∷ ys) (x ∷ xs) k l all number spells = (all.0, all.1, AreSpelled-push g names ys xs k l all.2 number spells)

-- one more line is numbered
AreNumbered-push : (seen : ℕ) (lines : List ScriptLine) (l : ScriptLine) (sessions : ℕ)
    → AreNumbered seen lines sessions → l.session ≤ sessions + 1 → AreNumbered seen (lines ++ l ∷ []) (max sessions l.session)
AreNumbered-push seen [] l sessions all most = (let e = all in omega arith, ap (λ s. max s l.session) all)
AreNumbered-push seen (x ∷ xs) l sessions all most = (all.0, AreNumbered-push (max seen x.session) xs l sessions all.1 most)

-- there are as many sessions as were seen, or more
pub seen_le : (seen : ℕ) (lines : List ScriptLine) (sessions : ℕ) → AreNumbered seen lines sessions → seen ≤ sessions
seen_le seen [] sessions all = omega arith
seen_le seen (x ∷ xs) sessions all = let more = seen_le (max seen x.session) xs sessions all.1 in omega arith

-- a line is spelled by all names that agree at its session's place
IsSpelled-by : (g : Grammar) (names others : List (List ℕ)) (line : List ℕ) (l : ScriptLine)
    → (1 ≤ l.session → name_of others l.session ≡ name_of names l.session) → IsSpelled g names line l → IsSpelled g others line l
IsSpelled-by g names others line l same (inl named) = inl (named.0, rw (same named.0) named.1)
IsSpelled-by g names others line l same (inr alone) = inr alone

-- what some names spell, more names spell
AreSpelled-more : (g : Grammar) (names : List (List ℕ)) (name : List ℕ) (kept : List (ℕ × List ℕ)) (lines : List ScriptLine) (seen : ℕ)
    → AreSpelled g names kept lines → AreNumbered seen lines (length names) → AreSpelled g (names ++ name ∷ []) kept lines
AreSpelled-more g names name [] [] seen all numbered = tt
AreSpelled-more g names name [] (l ∷ ls) seen all numbered = absurd all
AreSpelled-more g names name (k ∷ ks) [] seen all numbered = absurd all
AreSpelled-more g names name (k ∷ ks) (l ∷ ls) seen all numbered =
    let more = seen_le (max seen l.session) ls (length names) numbered.1 in (
      all.0,
      IsSpelled-by g names (names ++ name ∷ []) k.1 l (λ least. get_or_append_left names (name ∷ []) [] (l.session - 1) (omega arith)) all.1,
      AreSpelled-more g names name ks ls (max seen l.session) all.2 numbered.1,
    )

-- a script and one more line, of a session that it has or of none
AreScript-again : (g : Grammar) (kept : List (ℕ × List ℕ)) (bytes : List ℕ) (names : List (List ℕ)) (lines : List ScriptLine) (line : ScriptLine)
    → AreScript g kept names lines → line.session ≤ length names → IsSpelled g names bytes line
    → AreScript g (kept ++ (line.line, bytes) ∷ []) names (lines ++ line ∷ [])
AreScript-again g kept bytes names lines line is within spells =
    let same : max (length names) line.session ≡ length names = omega arith in
    record {
      spelled = AreSpelled-push g names kept lines (line.line, bytes) line is.spelled refl spells;
      numbered = rw same at (AreNumbered-push 0 lines line (length names) is.numbered (omega arith));
      differ = is.differ;
      few = is.few;
    }

-- a script and one more line of a session that it does not have
AreScript-new : (g : Grammar) (kept : List (ℕ × List ℕ)) (number : ℕ) (bytes name : List ℕ) (names : List (List ℕ)) (lines : List ScriptLine) (command : Command) (session : ℕ)
    → AreScript g kept names lines → Spells g bytes name command → session ≡ length names + 1 → length names < g.sessions → (name ∈ names → ⊥)
    → AreScript g (kept ++ (number, bytes) ∷ []) (names ++ name ∷ []) (lines ++ record { line = number; session = session; command = command } ∷ [])
AreScript-new g kept number bytes name names lines command session is spells next few new =
    let line : ScriptLine = record { line = number; session = session; command = command } in
    let place : session - 1 ≡ length names = omega arith in
    let named : name_of (names ++ name ∷ []) session ≡ name = rw place (get_or-append_seam names name [] []) in
    let long : length (names ++ name ∷ []) ≡ max (length names) session = omega (arith, length-append names (name ∷ [])) in
    let spelled : IsSpelled g (names ++ name ∷ []) bytes line = inl (omega arith, rw named spells) in
    record {
      spelled = AreSpelled-push g (names ++ name ∷ []) kept lines (number, bytes) line (AreSpelled-more g names name kept lines 0 is.spelled is.numbered) refl spelled;
      numbered = rw long (AreNumbered-push 0 lines line (length names) is.numbered (omega arith));
      differ = all_pairs_push (λ a b. a ≢ b) names name is.differ
          (λ k d within e. new (k, slice_get-get_or names k d within ∙ ap (λ (x : List ℕ). Some x) e));
      few = omega (arith, length-append names (name ∷ []));
    }

-- a script and one more line of a session, which is added where the script does not have it
AreScript-named : (g : Grammar) (kept : List (ℕ × List ℕ)) (number : ℕ) (bytes name : List ℕ) (names after : List (List ℕ)) (lines : List ScriptLine) (command : Command) (session : ℕ)
    → AreScript g kept names lines → Spells g bytes name command → IsSeatOf g.sessions name names session → AddsName name session names after
    → AreScript g (kept ++ (number, bytes) ∷ []) after (lines ++ record { line = number; session = session; command = command } ∷ [])
AreScript-named g kept number bytes name names after lines command session is spells seat added = elim seat [
  | inl known ↦
      let least = known.0 in
      let within = slice_get_within names (session - 1) name known.1 in
      let same : after ≡ names = added.known (omega arith) in
      let named : name_of names session ≡ name = get_or_from_slice_get names (session - 1) name [] known.1 in
      rw same (AreScript-again g kept bytes names lines (record { line = number; session = session; command = command }) is (omega arith) (inl (least, rw named spells)))
  | inr new ↦
      let more : after ≡ names ++ name ∷ [] = added.next (let next = new.0 in omega arith) in
      rw more (AreScript-new g kept number bytes name names lines command session is spells new.0 new.1 new.2)
]

-- a script and one more line
pub AreScript-push : (g : Grammar) (kept : List (ℕ × List ℕ)) (number : ℕ) (bytes : List ℕ) (asked : Asked) (names after : List (List ℕ)) (lines more : List ScriptLine)
    → AreScript g kept names lines → Asks g bytes names asked → Adds number asked names lines after more
    → AreScript g (kept ++ (number, bytes) ∷ []) after more
AreScript-push g kept number bytes (OfSession name seat command) names after lines more is asks adds =
    rw adds.1 (AreScript-named g kept number bytes name names after lines command seat is asks.0 asks.1 adds.0)
AreScript-push g kept number bytes (Alone command) names after lines more is asks adds =
    rw (adds.0, adds.1)
    (AreScript-again g kept bytes names lines (record { line = number; session = NO_SESSION; command = command }) is (omega arith) (inr (refl, asks)))

-- the last of some lines
pub record LastLine (g : Grammar) (names : List (List ℕ)) (bytes : List ℕ) (sessions : ℕ) : Type 0 where
  pub line : ScriptLine
  pub most : line.session ≤ sessions
  pub spelled : IsSpelled g names bytes line

pub last_line : (g : Grammar) (names : List (List ℕ)) (kept : List (ℕ × List ℕ)) (number : ℕ) (bytes : List ℕ) (lines : List ScriptLine) (seen sessions : ℕ)
    → AreSpelled g names (kept ++ (number, bytes) ∷ []) lines → AreNumbered seen lines sessions → LastLine g names bytes sessions
last_line g names [] number bytes [] seen sessions spelled numbered = absurd spelled
last_line g names [] number bytes (l ∷ ls) seen sessions spelled numbered =
    let more = seen_le (max seen l.session) ls sessions numbered.1 in
    record { line = l; most = omega arith; spelled = spelled.1 }
last_line g names (k ∷ ks) number bytes [] seen sessions spelled numbered = absurd spelled
last_line g names (k ∷ ks) number bytes (l ∷ ls) seen sessions spelled numbered =
    last_line g names ks number bytes ls (max seen l.session) sessions spelled.2 numbered.1

-- the lines of a script up to one of them, with the sessions that they name
record Front (g : Grammar) (names : List (List ℕ)) (kept : List (ℕ × List ℕ)) (seen all : ℕ) : Type 0 where
  pub lines : List ScriptLine
  pub sessions : ℕ
  pub least : seen ≤ sessions
  pub most : sessions ≤ all
  pub spelled : AreSpelled g (take sessions names) kept lines
  pub numbered : AreNumbered seen lines sessions

front_of : (g : Grammar) (names : List (List ℕ)) (kept rest : List (ℕ × List ℕ)) (lines : List ScriptLine) (seen most : ℕ)
    → AreSpelled g names (kept ++ rest) lines → AreNumbered seen lines most → Front g names kept seen most
front_of g names [] rest lines seen most spelled numbered = record {
  lines = [];
  sessions = seen;
  least = omega arith;
  most = seen_le seen lines most numbered;
  spelled = tt;
  numbered = refl;
}
front_of g names (k ∷ ks) rest [] seen most spelled numbered = absurd spelled
front_of g names (k ∷ ks) rest (l ∷ ls) seen most spelled numbered =
    let front = front_of g names ks rest ls (max seen l.session) most spelled.2 numbered.1 in
    let seen' = front.least in
    record {
      lines = l ∷ front.lines;
      sessions = front.sessions;
      least = omega arith;
      most = front.most;
      spelled = (
        spelled.0,
        IsSpelled-by g names (take front.sessions names) k.1 l (λ first. get_or-take front.sessions names (l.session - 1) [] (omega arith)) spelled.1,
        front.spelled,
      );
      numbered = (numbered.0, front.numbered);
    }

-- the first lines of a script are those of one
pub record HasFront (g : Grammar) (kept : List (ℕ × List ℕ)) (names : List (List ℕ)) : Type 0 where
  pub sessions : ℕ
  pub lines : List ScriptLine
  pub most : sessions ≤ length names
  pub is : AreScript g kept (take sessions names) lines

pub front_script : (g : Grammar) (kept rest : List (ℕ × List ℕ)) (names : List (List ℕ)) (lines : List ScriptLine) → AreScript g (kept ++ rest) names lines → HasFront g kept names
front_script g kept rest names lines is =
    let front = front_of g names kept rest lines 0 (length names) is.spelled is.numbered in
    let long : length (take front.sessions names) ≡ front.sessions = length-take-le front.sessions names front.most in
    let most = front.most in
    let few = is.few in
    record {
      sessions = front.sessions;
      lines = front.lines;
      most = most;
      is = record {
        spelled = front.spelled;
        numbered = rw long front.numbered;
        differ = λ i j d less within.
            rw (get_or-take front.sessions names i d (omega arith), get_or-take front.sessions names j d (omega arith)) (is.differ i j d less (omega arith));
        few = omega arith;
      };
    }

-- where some lines are those of no script, they and more are those of none
pub no_script_after : (g : Grammar) (kept rest : List (ℕ × List ℕ)) → ((names : List (List ℕ)) (lines : List ScriptLine) → AreScript g kept names lines → ⊥)
    → (names : List (List ℕ)) (lines : List ScriptLine) → AreScript g (kept ++ rest) names lines → ⊥
no_script_after g kept rest wrong names lines is =
    let front = front_script g kept rest names lines is in
    wrong (take front.sessions names) front.lines front.is

-- the lines that are not skipped, of some lines numbered from a number on
abbrev pub kept_from : ℕ → List (List ℕ) → List (ℕ × List ℕ)
kept_from number lines = filter (λ l. not (is_skipped l.1)) (enumerate_from number lines)

enumerate_from-append : {X : Type 0} (n : ℕ) (xs ys : List X) → enumerate_from n (xs ++ ys) ≡ enumerate_from n xs ++ enumerate_from (n + length xs) ys
enumerate_from-append {X} n [] ys = ap (λ m. enumerate_from m ys) (omega arith)
enumerate_from-append {X} n (x ∷ xs) ys =
    ap (λ (zs : List (ℕ × X)). (n, x) ∷ zs) (enumerate_from-append (n + 1) xs ys ∙ ap (λ m. enumerate_from (n + 1) xs ++ enumerate_from m ys) (omega arith))

-- lines that are kept, of some lines and more
pub kept_from-append : (number : ℕ) (xs ys : List (List ℕ)) → kept_from number (xs ++ ys) ≡ kept_from number xs ++ kept_from (number + length xs) ys
kept_from-append number xs ys =
    ap (λ (zs : List (ℕ × List ℕ)). filter (λ l. not (is_skipped l.1)) zs) (enumerate_from-append number xs ys) ∙ filter-append (λ l. not (is_skipped l.1)) (enumerate_from number xs) (enumerate_from (number + length xs) ys)

-- a skipped line goes
pub kept_from-skipped : (number : ℕ) (line : List ℕ) (lines : List (List ℕ)) → is_skipped line ≡ true → kept_from number (line ∷ lines) ≡ kept_from (number + 1) lines
kept_from-skipped number line lines skipped = rw skipped refl

-- another line stays
pub kept_from-kept : (number : ℕ) (line : List ℕ) (lines : List (List ℕ)) → is_skipped line ≡ false → kept_from number (line ∷ lines) ≡ (number, line) ∷ kept_from (number + 1) lines
kept_from-kept number line lines kept = rw kept refl

-- there are as many lines as are kept
length_spelled : (g : Grammar) (names : List (List ℕ)) (kept : List (ℕ × List ℕ)) (lines : List ScriptLine) → AreSpelled g names kept lines → length lines ≡ length kept
length_spelled g names [] [] spelled = refl
length_spelled g names [] (l ∷ ls) spelled = absurd spelled
length_spelled g names (k ∷ ks) [] spelled = absurd spelled
length_spelled g names (k ∷ ks) (l ∷ ls) spelled = let more = length_spelled g names ks ls spelled.2 in omega arith

-- a script has at most one line more than it has bytes
pub length_script : (g : Grammar) (bytes : List ℕ) (names : List (List ℕ)) (lines : List ScriptLine) → IsScript g bytes names lines → length lines ≤ length bytes + 1
length_script g bytes names lines is =
    let all = slice_split (λ b. b == 10) bytes in
    let kept = length_spelled g names (kept_lines bytes) lines is.spelled in
    let some = length-filter (λ (l : ℕ × List ℕ). not (is_skipped l.1)) (enumerate_from 1 all) in
    let few = count_by-le-length (λ (l : ℕ × List ℕ). not (is_skipped l.1)) (enumerate_from 1 all) in
    let numbered = length-enumerate_from 1 all in
    let parts = length-slice_split (λ b. b == 10) bytes in
    let cuts = count_by-le-length (λ b. b == 10) bytes in
    omega arith

-- one turn over numbered lines
pub numbered_line : (all : List (List ℕ)) (n index : ℕ) (line : List ℕ)
    → (n < length (enumerate_from 0 all)) × ((index, line) ≡ get_or (enumerate_from 0 all) n (index, line))
    → (n < length all) × (index ≡ n) × (line ≡ get_or all n line)
numbered_line all n index line turn =
    let long = length-enumerate_from 0 all in
    let within : n < length all = let h = turn.0 in omega arith in
    let at = turn.1 ∙ get_or-enumerate_from 0 all n (index, line) within in
    (within, ap (λ (p : ℕ × List ℕ). p.0) at ∙ omega arith, ap (λ (p : ℕ × List ℕ). p.1) at)

-- the lines kept after one more line
kept_more : (all : List (List ℕ)) (n : ℕ) (line : List ℕ) → n < length all → line ≡ get_or all n line
    → kept_from 1 (take (n + 1) all) ≡ kept_from 1 (take n all) ++ kept_from (n + 1) (line ∷ [])
kept_more all n line within is =
    let more : take (n + 1) all ≡ take n all ++ line ∷ [] = take_more all n line within ∙ ap (λ (l : List ℕ). take n all ++ l ∷ []) (sym is) in
    let number : 1 + length (take n all) ≡ n + 1 = let long = length-take-le n all (omega arith) in omega arith in
    ap (λ (ls : List (List ℕ)). kept_from 1 ls) more ∙ kept_from-append 1 (take n all) (line ∷ [])
    ∙ ap (λ m. kept_from 1 (take n all) ++ kept_from m (line ∷ [])) number

-- after a skipped line
pub kept_after_skipped : (all : List (List ℕ)) (n : ℕ) (line : List ℕ) → n < length all → line ≡ get_or all n line → is_skipped line ≡ true
    → kept_from 1 (take (n + 1) all) ≡ kept_from 1 (take n all)
kept_after_skipped all n line within is skipped =
    kept_more all n line within is ∙ ap (λ (ks : List (ℕ × List ℕ)). kept_from 1 (take n all) ++ ks) (kept_from-skipped (n + 1) line [] skipped)
    ∙ append-nil (kept_from 1 (take n all))

-- after another line
pub kept_after_kept : (all : List (List ℕ)) (n : ℕ) (line : List ℕ) → n < length all → line ≡ get_or all n line → is_skipped line ≡ false
    → kept_from 1 (take (n + 1) all) ≡ kept_from 1 (take n all) ++ (n + 1, line) ∷ []
kept_after_kept all n line within is kept =
    kept_more all n line within is ∙ ap (λ (ks : List (ℕ × List ℕ)). kept_from 1 (take n all) ++ ks) (kept_from-kept (n + 1) line [] kept)

-- the lines of a script, when each line was read
pub whole_script : (g : Grammar) (bytes : List ℕ) (n : ℕ) (names : List (List ℕ)) (lines : List ScriptLine)
    → n ≡ length (enumerate_from 0 (slice_split (λ b. b == 10) bytes))
    → AreScript g (kept_from 1 (take n (slice_split (λ b. b == 10) bytes))) names lines → IsScript g bytes names lines
whole_script g bytes n names lines long is =
    let all = take_all n (slice_split (λ b. b == 10) bytes) (let numbered = length-enumerate_from 0 (slice_split (λ b. b == 10) bytes) in omega arith) in
    rw all at is
