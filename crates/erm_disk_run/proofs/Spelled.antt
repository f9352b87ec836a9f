-- What lines that are spelled may ask for.
use Rattle.std.proofs.Common.{◌≡◌, ℕ, zero, suc, ◌+◌, ◌<◌, ◌≤◌, true, false, List, [], ◌∷◌, length, Some, IfSome, ap, subst, inl, inr, arith}
use Rattle.std.specs.Prelude.{max}
use Rattle.std.specs.List.{slice_get}
use Rattle.erm_model.specs.declared.limits.TheConstants.{LAST_NUMBER, SESSIONS, TABLES}
use Rattle.erm_script.specs.Keywords.{names_session}
use Rattle.erm_script.specs.Script.{AreNumbered, AreSpelled, IsInRange, IsScript, IsSpelled, kept_lines, keyword_of}
use Rattle.erm_script.specs.declared.grammar.Grammar.{Grammar}
use Rattle.erm_script.specs.declared.script.Command.{Command}
use Rattle.erm_script.specs.declared.script.Command.TheVariants as command
use Rattle.erm_script.specs.declared.script.ScriptLine.{ScriptLine}
use Rattle.erm_good_report.specs.Transactions.{table_of}
use Rattle.erm_disk_run.specs.Runs.{IsScriptFor, MayBeRun, NamesOneOf}

-- each line is spelled by one of the bytes' lines
pub spelled_at : (g : Grammar) (names : List (List ℕ)) (kept : List (ℕ × List ℕ)) (script : List ScriptLine) (k : ℕ) (l : ScriptLine) → AreSpelled g names kept script → slice_get script k ≡ Some l
    → (line : List ℕ) × IsSpelled g names line l
spelled_at g names [] [] k l spelled at = absurd (cc)
spelled_at g names [] (x ∷ xs) k l spelled at = absurd spelled
spelled_at g names (y ∷ ys) [] k l spelled at = absurd spelled
spelled_at g names (y ∷ ys) (x ∷ xs) zero l spelled at = (y.1, let same : x ≡ l = (cc) in subst (IsSpelled g names y.1) same spelled.1)
spelled_at g names (y ∷ ys) (x ∷ xs) (suc k) l spelled at = spelled_at g names ys xs k l spelled.2 at

-- sessions are no more than were seen at the end
seen_le : (seen : ℕ) (script : List ScriptLine) (many : ℕ) → AreNumbered seen script many → seen ≤ many
seen_le seen [] many numbered = omega (arith, numbered)
seen_le seen (x ∷ xs) many numbered = let rest = seen_le (max seen x.session) xs many numbered.1 in omega (arith, rest)

pub numbered_at : (seen : ℕ) (script : List ScriptLine) (many k : ℕ) (l : ScriptLine) → AreNumbered seen script many → slice_get script k ≡ Some l → l.session ≤ many
numbered_at seen [] many k l numbered at = absurd (cc)
numbered_at seen (x ∷ xs) many zero l numbered at = let rest = seen_le (max seen x.session) xs many numbered.1 in let same : x ≡ l = (cc) in omega (arith, rest, ap (λ (s : ScriptLine). s.session) same)
numbered_at seen (x ∷ xs) many (suc k) l numbered at = numbered_at (max seen x.session) xs many k l numbered.1 at

-- a command that names a session, or none, does so in the lines that can be run
names_one : (c : Command) (many session : ℕ) → names_session (keyword_of c) ≡ true → 0 < session → session ≤ many → NamesOneOf many c session
names_one command.Flush many session named low high = absurd (cc)
names_one command.Checkpoint many session named low high = absurd (cc)
names_one c many session named low high = (low, high)

names_none : (c : Command) (many session : ℕ) → names_session (keyword_of c) ≡ false → session ≡ 0 → NamesOneOf many c session
names_none command.Flush many session unnamed none = none
names_none command.Checkpoint many session unnamed none = none
names_none c many session unnamed none = absurd (cc)

pub names_table : (c : Command) → IsInRange c → IfSome (table_of c) (λ table. table < TABLES)
names_table (command.Get table key) range = omega (arith, range.0)
names_table (command.Put table key value) range = omega (arith, range.0.0)
names_table (command.Del table key) range = omega (arith, range.0)
names_table (command.Next table from) range = omega (arith, range.0)
names_table (command.Scan table low high) range = omega (arith, range.0.0)
names_table (command.Tidy table key) range = omega (arith, range.0)
names_table (command.Back n) range = tt
names_table c range = search

may_be_run : (g : Grammar) (names : List (List ℕ)) (line : List ℕ) (l : ScriptLine) → IsSpelled g names line l → l.session ≤ length names → MayBeRun (length names) l
may_be_run g names line l spelled high = elim spelled as (λ _. MayBeRun (length names) l) [
  | inl named ↦ record {
    session = names_one l.command (length names) l.session named.1.named named.0 high;
    table = names_table l.command named.1.command_ok.in_range;
    range = named.1.command_ok.in_range;
  }
  | inr alone ↦ record {
    session = names_none l.command (length names) l.session alone.1.unnamed alone.0;
    table = names_table l.command alone.1.command_ok.in_range;
    range = alone.1.command_ok.in_range;
  }
]

-- A script that is not too long can be run, line by line, where there are no more sessions than there may be.
pub can_be_run : (g : Grammar) (bytes : List ℕ) (names : List (List ℕ)) (script : List ScriptLine) → g.sessions ≤ SESSIONS → IsScript g bytes names script → length script + SESSIONS ≤ LAST_NUMBER
    → IsScriptFor names script
can_be_run g bytes names script most is short = record {
  few = omega (arith, is.few, most);
  short = short;
  each = λ l at. let found = spelled_at g names (kept_lines bytes) script at.0 l is.spelled at.1 in may_be_run g names found.0 l found.1 (numbered_at 0 script (length names) at.0 l is.numbered at.1);
}
