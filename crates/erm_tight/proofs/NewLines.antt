-- Each line of a session leaves the number of objects made, or puts a key that is new to its transaction.
use Rattle.std.proofs.Common.{◌≡◌, ℕ, suc, ◌+◌, ◌<◌, ◌≤◌, ◌⊎◌, List, [], ◌∷◌, ◌++◌, Option, Some, None, append-nil, append_assoc, inl, inr, refl, sym, ap, ◌∙◌, subst, arith}
use Rattle.std.proofs.lemmas.Bool.{cases_lt}
use Rattle.erm_model.specs.declared.history.TransactionRecord.{TransactionRecord}
use Rattle.erm_model.specs.declared.limits.TheConstants.{PUT_OBJECTS}
use Rattle.erm_model.specs.declared.outcome.Phase.TheVariants.{Active}
use Rattle.erm_model.specs.Member.{◌∈◌}
use Rattle.erm_node.specs.Sound.{sound_law}
use Rattle.erm_world.specs.Laws.{IsNumbered, IsSerializable}
use Rattle.erm_world.specs.World.{IsSession, Stand, View, history_of, phase_at, phase_of, work_at, work_of}
use Rattle.erm_world.specs.World as world
use Rattle.erm_maps.specs.Runs.{kept_at}
use Rattle.erm_maps.proofs.Histories.{work_in}
use Rattle.erm_report.specs.declared.answer.Answer.{Answer}
use Rattle.erm_report.specs.declared.answer.Answer.TheVariants as answer
use Rattle.erm_script.specs.declared.script.Command.{Command}
use Rattle.erm_script.specs.declared.script.Command.TheVariants as command
use Rattle.erm_script.specs.declared.script.ScriptLine.{ScriptLine}
use Rattle.erm_good_report.specs.Phases.{NeedsWriter, refusal_of}
use Rattle.erm_good_report.specs.Refusals.{claims_of, makes_of}
use Rattle.erm_good_report.specs.Transactions.{Said, Transaction, progress_of}
use Rattle.erm_lines.specs.Answers.{DidAsked, DidLine, DidOperation}
use Rattle.erm_lines.specs.Told.{Tells, TellsNow}
use Rattle.erm_lines.proofs.Moved.{active_where}
use Rattle.erm_told.proofs.Lines.{in_either}
use Rattle.erm_told_limits.proofs.Holds.{Laws, said_by}
use Rattle.erm_told_limits.proofs.Totals.{mades_by_all, mades_turned}
use Rattle.erm_told_limits.proofs.Lines.{Known}
use Rattle.erm_told_limits.proofs.Turns.{line_turned}
use Rattle.erm_told_limits.proofs.Given.{HistoryLaws}
use Rattle.erm_tight.specs.NewKeys.{HaveNewKeys, PutsNewKey}
use Rattle.erm_tight.proofs.Marks.{Puts}
use Rattle.erm_tight.proofs.Moves.{IsGoing, IsMarked, now_active}
use Rattle.erm_tight.proofs.NewKeys.{cut_none, whole_none}
use Rattle.erm_tight.proofs.Serial.{IsTold}
use Rattle.erm_tight.proofs.Told.{commit_known}

-- a transaction in progress begins where it is told to
begin_now : (seat : ℕ) (current : Option Transaction) (stand : Stand) (t : Transaction) → TellsNow seat current stand → current ≡ Some t → phase_of stand ≡ Active → t.begin ≡ (work_of stand).begin
begin_now seat None stand t now is active = absurd (cc is)
begin_now seat (Some u) world.idle t now is active = absurd now
begin_now seat (Some u) (world.active w) t now is active = let same : u ≡ t = cc is in ap (λ (x : Transaction). x.begin) (sym same) ∙ now.0.work.begin
begin_now seat (Some u) (world.sealed w stamp) t now is active = absurd (cc active)
begin_now seat (Some u) (world.snapshot s) t now is active = absurd now

-- NUMBERS of such lines.
pub new_keys-append : (sessions : ℕ) (before said : List Said) (s : Said) (n : ℕ) → HaveNewKeys sessions before said n → HaveNewKeys sessions before (said ++ s ∷ []) n
new_keys-append sessions before [] s n have = inl have
new_keys-append sessions before (r ∷ said) s n (inl have) = inl (new_keys-append sessions (before ++ r ∷ []) said s n have)
new_keys-append sessions before (r ∷ said) s n (inr (puts, (m, is, have))) = inr (puts, (m, is, new_keys-append sessions (before ++ r ∷ []) said s m have))

pub new_keys-more : (sessions : ℕ) (before said : List Said) (s : Said) (n : ℕ) → HaveNewKeys sessions before said n → PutsNewKey sessions (before ++ said) s → HaveNewKeys sessions before (said ++ s ∷ []) (suc n)
new_keys-more sessions before [] s n have puts = inr (subst (λ (b : List Said). PutsNewKey sessions b s) (append-nil before) puts, (n, refl, have))
new_keys-more sessions before (r ∷ said) s n (inl have) puts =
    inl (new_keys-more sessions (before ++ r ∷ []) said s n have (subst (λ (b : List Said). PutsNewKey sessions b s) (sym (append_assoc before (r ∷ []) said)) puts))
new_keys-more sessions before (r ∷ said) s n (inr (first, (m, is, have))) puts =
    inr (first, (suc m, ap suc is, new_keys-more sessions (before ++ r ∷ []) said s m have (subst (λ (b : List Said). PutsNewKey sessions b s) (sym (append_assoc before (r ∷ []) said)) puts)))

module _ (laws : HistoryLaws) (limits : Laws) (v t : View) (before : List Said) (numbered : (seat : ℕ) → IsSession v seat → IsNumbered (v.session seat))
    (tells : (seat : ℕ) → IsSession v seat → Tells seat (progress_of seat before) (v.session seat))
    (marked : (seat : ℕ) → IsSession v seat → IsMarked (progress_of seat before) (v.saves seat) (v.session seat)) (holds : IsSerializable sound_law t)
    (told : (r : TransactionRecord) → r ∈ history_of t → IsTold r) (stays : (r : TransactionRecord) → r ∈ history_of v → r ∈ history_of t) where
  pub going : (seat : ℕ) → IsSession v seat → phase_at v seat ≡ Active → IsGoing (progress_of seat before).current (kept_at v seat)
  going seat session active = now_active (progress_of seat before).current (v.saves seat) (v.session seat).stand (marked seat session).now active

  -- a put of a known key makes none
  known_none : (seat table key : ℕ) (value : List ℕ) (a : Answer) (session : IsSession v seat) (active : phase_at v seat ≡ Active) → DidOperation v seat (command.Put table key value) a t
      → (by : TransactionRecord) → by ∈ history_of v → by.stamp < (work_at v seat).begin → (puts : Puts (work_in by) table key)
      → mades_by_all t ≤ mades_by_all v
  known_none seat table key value (answer.Replied r) session active (o, is, did) by within below puts =
      let g = going seat session active in
      whole_none laws v t seat session active holds told g.told.lines g.goes.marks g.run.lawful did.events did.ran table key value (λ rows sound agrees. (did.of rows sound agrees).0) by (stays by within) below puts
  known_none seat table key value (answer.Cut cells) session active (none, few, did) by within below puts = absurd (cc none)
  known_none seat table key value a session active (why, is, cut) by within below puts =
      let g = going seat session active in
      cut_none laws v t seat session active holds told g.told.lines g.goes.marks g.run.lawful table key value why cut by (stays by within) below puts

  -- so one that makes some is of a key that is new
  pub put_new : (l : ScriptLine) (a : Answer) (table key : ℕ) (value : List ℕ) → l.command ≡ command.Put table key value → (session : IsSession v l.session) (active : phase_at v l.session ≡ Active)
      → ((by : TransactionRecord) → by ∈ history_of v → by.stamp < (work_at v l.session).begin → (puts : Puts (work_in by) table key) → ⊥) → PutsNewKey v.opening.sessions before (said_by l a)
  put_new l a table key value asks session active none =
      let g = going l.session session active in
      record {
        table = table;
        key = key;
        value = value;
        asks = ap (λ (c : Command). Some c) asks;
        own = g.told;
        current = g.is;
        new = λ by stamp succ commit less puts.
            let known = commit_known v v.opening.sessions before refl numbered tells marked by stamp succ commit in
            let begin = begin_now l.session (progress_of l.session before).current (v.session l.session).stand g.told (tells l.session session).now g.is active in
            none known.by known.within (omega (arith, known.stamp_is, less, begin)) (known.marks.puts table key puts);
      }

  abbrev pub Counts : ScriptLine → Answer → Type 0
  Counts l a = (mades_by_all t ≤ mades_by_all v) ⊎ (PutsNewKey v.opening.sessions before (said_by l a) × (mades_by_all t ≤ mades_by_all v + PUT_OBJECTS))

  module _ (l : ScriptLine) (a : Answer) (did : DidLine v l a t) where
    most : mades_by_all t ≤ mades_by_all v + makes_of l.command
    most =
        let turned = line_turned limits.rows_below limits.ways v l a t did holds (λ active. let g = going l.session did.session active in (g.steps, g.run)) in
        mades_turned (Known l.command t) (makes_of l.command) (claims_of l.command) 1 v l.session t did.session turned

    by_growth : (table key : ℕ) (value : List ℕ) → l.command ≡ command.Put table key value → phase_at v l.session ≡ Active
        → DidOperation v l.session (command.Put table key value) a t → (mades_by_all v < mades_by_all t) ⊎ (mades_by_all t ≤ mades_by_all v) → Counts l a
    by_growth table key value asks active by_it (inr none) = inl none
    by_growth table key value asks active by_it (inl some) =
        inr (
          put_new l a table key value asks did.session active (λ by within below puts. let none = known_none l.session table key value a did.session active by_it by within below puts in absurd (omega (arith, some, none))),
          omega (arith, most, ap makes_of asks),
        )

    by_command : (c : Command) → l.command ≡ c → (refusal : Option Answer) → refusal_of (phase_at v l.session) c ≡ refusal → DidAsked refusal v l.session c a t → Counts l a
    by_command c is (Some r) refused same = inl (omega (arith, ap (λ (x : View). mades_by_all x) same))
    by_command (command.Put table key value) is None allowed did_in =
        in_either (Counts l a) v t l.session (command.Put table key value) a
        (λ plain by_it. by_growth table key value is (active_where NeedsWriter (phase_at v l.session) tt plain allowed) by_it (cases_lt (mades_by_all v) (mades_by_all t)))
        (λ has by_it. absurd by_it) did_in
    by_command c is None allowed did_in = inl (omega (arith, most, ap makes_of is))

    pub line_counts : Counts l a
    line_counts = by_command l.command refl (refusal_of (phase_at v l.session) l.command) refl did.did
