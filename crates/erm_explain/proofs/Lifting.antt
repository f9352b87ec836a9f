-- Lines of transactions, by their places.
use Rattle.std.proofs.Common.{◌≡◌, ℕ, true, false, List, slice_get, Option, Some, None, refl, sym, ap, ◌∙◌, subst}
use Rattle.std.specs.Option.{option_and_then, option_map, option_map_or}
use Rattle.erm_model.specs.Member.{◌∈◌}
use Rattle.erm_report.specs.declared.answer.Answer.{Answer}
use Rattle.erm_script.specs.declared.script.ScriptLine.{ScriptLine}
use Rattle.erm_good_report.specs.Causes.{NamesTable, WritesTable}
use Rattle.erm_good_report.specs.Transactions.{Exchange, Transaction, is_writer, table_of}
use Rattle.erm_explain.specs.Books.{IsPlaceOf, exchange_at, exchanges_at}
use Rattle.erm_explain.specs.Links.{table_at, writes_at}
use Rattle.erm_explain.specs.Named.{IsLineOf}
use Rattle.erm_explain.proofs.Lists.{in_filter_map, of_filter_map}
use Rattle.erm_explain.proofs.Moving.{exchange_is}

-- the table of a line that stands at a place, and whether it writes
pub table_is : (script : List ScriptLine) (place : ℕ) (l : ScriptLine) → slice_get script place ≡ Some l → table_at script place ≡ table_of l.command
table_is script place l at = ap (λ (x : Option ScriptLine). option_and_then (λ (k : ScriptLine). table_of k.command) x) at

pub writes_is : (script : List ScriptLine) (place : ℕ) (l : ScriptLine) → slice_get script place ≡ Some l → writes_at script place ≡ is_writer l.command
writes_is script place l at = ap (λ (x : Option ScriptLine). option_map_or (λ (k : ScriptLine). is_writer k.command) x false) at

-- a line that names a table, at a place of a transaction
pub record NamesAt (script : List ScriptLine) (answers : List Answer) (t : Transaction) (place table : ℕ) : Type 0 where
  pub names : NamesTable t table
  pub line : IsLineOf script answers t names.line place

pub record WritesAt (script : List ScriptLine) (answers : List Answer) (t : Transaction) (place table : ℕ) : Type 0 where
  pub writes : WritesTable t table
  pub line : IsLineOf script answers t writes.line place

pub names_at : (script : List ScriptLine) (answers : List Answer) (t : Transaction) (places : List ℕ) (place table : ℕ) → t.lines ≡ exchanges_at script answers places → place ∈ places
    → IsPlaceOf script answers t.session t.number place → table_at script place ≡ Some table → NamesAt script answers t place table
names_at script answers t places place table lines within is names =
    let e : Exchange = record { asked = is.line.command; answer = is.answer } in
    let exchange : exchange_at script answers place ≡ Some e = exchange_is script answers is.line place is.answer is.stands is.answered in
    record {
      names = record {
        line = e;
        of = subst (λ (es : List Exchange). e ∈ es) (sym lines) (in_filter_map (exchange_at script answers) places place e within exchange);
        names = sym (table_is script place is.line is.stands) ∙ names;
      };
      line = record { exchange = exchange; of = is };
    }

pub writes_there : (script : List ScriptLine) (answers : List Answer) (t : Transaction) (places : List ℕ) (place table : ℕ) → t.lines ≡ exchanges_at script answers places → place ∈ places
    → IsPlaceOf script answers t.session t.number place → table_at script place ≡ Some table → writes_at script place ≡ true → WritesAt script answers t place table
writes_there script answers t places place table lines within is names writes =
    let e : Exchange = record { asked = is.line.command; answer = is.answer } in
    let exchange : exchange_at script answers place ≡ Some e = exchange_is script answers is.line place is.answer is.stands is.answered in
    record {
      writes = record {
        line = e;
        of = subst (λ (es : List Exchange). e ∈ es) (sym lines) (in_filter_map (exchange_at script answers) places place e within exchange);
        names = sym (table_is script place is.line is.stands) ∙ names;
        writes = sym (writes_is script place is.line is.stands) ∙ writes;
      };
      line = record { exchange = exchange; of = is };
    }

-- the place of a line
pub record PlaceOf (script : List ScriptLine) (places : List ℕ) (e : Exchange) : Type 0 where
  pub place : ℕ
  pub within : place ∈ places
  pub table : table_at script place ≡ table_of e.asked
  pub writes : writes_at script place ≡ is_writer e.asked

asked_at : (script : List ScriptLine) (place : ℕ) (s : Option ScriptLine) (a : Option Answer) (e : Exchange) → slice_get script place ≡ s
    → option_and_then (λ (l : ScriptLine). option_map (λ (x : Answer). let f : Exchange = record { asked = l.command; answer = x } in f) a) s ≡ Some e
    → (table_at script place ≡ table_of e.asked) × (writes_at script place ≡ is_writer e.asked)
asked_at script place None a e at is = absurd (cc)
asked_at script place (Some l) None e at is = absurd (cc)
asked_at script place (Some l) (Some x) e at is =
    let same : (let f : Exchange = record { asked = l.command; answer = x } in f) ≡ e = cc in
    (table_is script place l at ∙ ap (λ (f : Exchange). table_of f.asked) same, writes_is script place l at ∙ ap (λ (f : Exchange). is_writer f.asked) same)

pub place_of : (script : List ScriptLine) (answers : List Answer) (places : List ℕ) (es : List Exchange) (e : Exchange) → es ≡ exchanges_at script answers places → e ∈ es → PlaceOf script places e
place_of script answers places es e lines m =
    let found = of_filter_map (exchange_at script answers) places e (subst (λ (fs : List Exchange). e ∈ fs) lines m) in
    let asked = asked_at script found.0 (slice_get script found.0) (slice_get answers found.0) e refl found.2 in
    record { place = found.0; within = found.1; table = asked.0; writes = asked.1 }
