-- Places of a report: a script's line beside its answer. And no commit waits where sessions run at once.
use Rattle.std.proofs.Common.{◌≡◌, ℕ, zero, suc, ◌+◌, ◌≤◌, List, [], ◌∷◌, take, slice_get, Some, refl, sym, ap, ◌∙◌, subst}
use Rattle.erm_model.specs.declared.limits.TheConstants.{GREATEST_BLOCK}
use Rattle.erm_report.specs.declared.answer.Answer.{Answer}
use Rattle.erm_report.specs.declared.answer.Answer.TheVariants as answer
use Rattle.erm_script.specs.declared.script.Command.{Command}
use Rattle.erm_script.specs.declared.script.ScriptLine.{ScriptLine}
use Rattle.erm_good_report.specs.Opening.{AtOnce, InTurn, Mode, Opening}
use Rattle.erm_good_report.specs.Refusals.{HasCause, HasRefusalCause, Moment, current_of, moment_at, most_end}
use Rattle.erm_good_report.specs.Stamps.{DrawsUntold, IsWait}
use Rattle.erm_good_report.specs.Transactions.{Said, Transaction, progress_of, said_of, with_line}

-- the place of a line with its answer
abbrev pub said_by : ScriptLine → Answer → Said
said_by l a = record { session = l.session; asked = Some l.command; answer = a }

pub record Place (script : List ScriptLine) (answers : List Answer) (i : ℕ) (s : Said) : Type 0 where
  pub line : ScriptLine
  pub given : Answer
  pub at : slice_get script i ≡ Some line
  pub answered : slice_get answers i ≡ Some given
  pub is : said_by line given ≡ s

pub place_at : (script : List ScriptLine) (answers : List Answer) (i : ℕ) (s : Said) → slice_get (said_of script answers) i ≡ Some s → Place script answers i s
place_at [] answers i s at = absurd (cc)
place_at (l ∷ script) [] i s at = absurd (cc)
place_at (l ∷ script) (a ∷ answers) zero s at = record { line = l; given = a; at = refl; answered = refl; is = the_one (said_by l a) s at }
  where
    the_one : (x y : Said) → Some x ≡ Some y → x ≡ y
    the_one x y is = cc
place_at (l ∷ script) (a ∷ answers) (suc i) s at =
    let later = place_at script answers i s at in
    record { line = later.line; given = later.given; at = later.at; answered = later.answered; is = later.is }

pub said_at : (script : List ScriptLine) (answers : List Answer) (i : ℕ) (l : ScriptLine) (a : Answer) → slice_get script i ≡ Some l → slice_get answers i ≡ Some a → slice_get (said_of script answers) i ≡ Some (said_by l a)
said_at [] answers i l a at told = absurd (cc)
said_at (k ∷ script) [] i l a at told = absurd (cc)
said_at (k ∷ script) (b ∷ answers) zero l a at told =
    let line : k ≡ l = cc in
    let given : b ≡ a = cc in
    ap (λ (m : ScriptLine). Some (said_by m b)) line ∙ ap (λ (g : Answer). Some (said_by l g)) given
said_at (k ∷ script) (b ∷ answers) (suc i) l a at told = said_at script answers i l a at told

-- AT ONCE no answer waits, since the cause of a wait is one of lines in turn.
abbrev is_in_turn : Mode → Type 0
is_in_turn InTurn = Unit {0}
is_in_turn AtOnce = ⊥

no_wait : (m : Moment) (c : Command) (t : Transaction) (a : Answer) → m.mode ≡ AtOnce → IsWait a → HasRefusalCause m c t a → ⊥
no_wait m c t (answer.WaitSeat seat seen) at_once waits cause = subst is_in_turn at_once (subst is_in_turn (sym cause.0) tt)
no_wait m c t (answer.WaitRing flushed) at_once waits cause = subst is_in_turn at_once (subst is_in_turn (sym cause.0) tt)
no_wait m c t a at_once waits cause = waits

-- so none draws a stamp that it doesn't tell, whatever the moments say of limits
pub never_untold : (moment : ℕ → ScriptLine → Moment) (script : List ScriptLine) (answers : List Answer) (all : List Transaction) → ((i : ℕ) (l : ScriptLine) → (moment i l).mode ≡ AtOnce)
    → ((i : ℕ) (l : ScriptLine) → current_of (moment i l) (moment i l).session ≡ (progress_of l.session (take i (said_of script answers))).current)
    → ((i : ℕ) (l : ScriptLine) (a : Answer) → slice_get script i ≡ Some l → slice_get answers i ≡ Some a → HasCause (moment i l) l.command a)
    → (i stamp : ℕ) → DrawsUntold all (said_of script answers) i stamp → ⊥
never_untold moment script answers all at_once now each i stamp drawn =
    let place = place_at script answers i drawn.line drawn.at in
    let session : drawn.line.session ≡ place.line.session = ap (λ (s : Said). s.session) (sym place.is) in
    let waits = subst IsWait (sym (ap (λ (s : Said). s.answer) place.is)) drawn.waits in
    let own = now i place.line ∙ subst (λ (q : ℕ). (progress_of q (take i (said_of script answers))).current ≡ Some drawn.own) session drawn.current in
    let t = with_line (Some place.line.command) place.given drawn.own in
    no_wait (moment i place.line) place.line.command t place.given (at_once i place.line) waits ((each i place.line place.given place.at place.answered).own t (drawn.own, own, refl))

pub none_untold : (opening : Opening) (script : List ScriptLine) (answers : List Answer) (all : List Transaction)
    → ((i : ℕ) (l : ScriptLine) (a : Answer) → slice_get script i ≡ Some l → slice_get answers i ≡ Some a → HasCause (moment_at AtOnce opening script answers all i l) l.command a)
    → (i stamp : ℕ) (l : ScriptLine) → slice_get script i ≡ Some l → DrawsUntold all (said_of script answers) i stamp → stamp + GREATEST_BLOCK ≤ most_end (moment_at AtOnce opening script answers all i l)
none_untold opening script answers all each i stamp l at drawn =
    absurd (never_untold (moment_at AtOnce opening script answers all) script answers all (λ i l. refl) (λ i l. refl) each i stamp drawn)
