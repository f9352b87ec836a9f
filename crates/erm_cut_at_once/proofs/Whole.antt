-- What an execution that was cut off owes: what the world as it is told owes, of which the sessions that were aborted behind the last answers count
-- as closed.
use Rattle.std.proofs.Common.{◌≡◌, ◌⊎◌, ℕ, zero, suc, ◌≤◌, Bool, true, false, List, [], ◌∷◌, ◌++◌, map, flat_map, fold, Option, Some, None, option_to_list, inl, inr, refl, sym, ap, ◌∙◌, subst, arith, le_trans}
use Rattle.std.specs.List.{filter_map, range_with_len}
use Rattle.std.proofs.lemmas.Bool.{cases_lt}
use Rattle.std.proofs.lemmas.List.{append-nil}
use Rattle.erm_model.specs.declared.outcome.Phase.TheVariants.{Active, Idle}
use Rattle.erm_model.specs.declared.limits.TheConstants.{SESSIONS}
use Rattle.erm_model.specs.Committed.{Committed}
use Rattle.erm_model.specs.Member.{◌∈◌}
use Rattle.erm_model.specs.Run.{Step}
use Rattle.erm_model.proofs.Members.{none_in_nil, ∈-behind}
use Rattle.erm_machine.proofs.Listed.{∈-head}
use Rattle.erm_report.specs.declared.answer.Answer.{Answer}
use Rattle.erm_script.specs.declared.script.Command.{Command}
use Rattle.erm_script.specs.declared.script.Command.TheVariants as command
use Rattle.erm_script.specs.declared.script.ScriptLine.{ScriptLine}
use Rattle.erm_world.specs.Going.{Extends}
use Rattle.erm_world.specs.World.{GivenUp, IsSession, Session, Stand, View, Work, phase_of, work_of}
use Rattle.erm_world.specs.World as world
use Rattle.erm_maps.specs.Runs.{IsAnswered}
use Rattle.erm_good_report.specs.GoodReport.{places_of}
use Rattle.erm_good_report.specs.Opening.{Opening}
use Rattle.erm_good_report.specs.Phases.{Closed}
use Rattle.erm_good_report.specs.Refusals.{total_of}
use Rattle.erm_good_report.specs.Transactions.{Aborts, Progress, Said, Snapshot, Transaction, Unfinished, ended, ended_as, ended_of, nothing, progress_of, transactions_of, with_ending}
use Rattle.erm_good_at_once.specs.CutReports.{OwesInPart, answered_of}
use Rattle.erm_lines.specs.Executions.{IsOpeningOf, Move, said_in}
use Rattle.erm_lines.specs.Told.{TellsNow}
use Rattle.erm_lines.proofs.Keeping.{NoneRuns}
use Rattle.erm_lines_at_once.specs.CutRuns.{IsCutRunAtOnce, next_of}
use Rattle.erm_lines_at_once.specs.Executions.{IsOwnPart, IsOwnRun, all_moves}
use Rattle.erm_lines_at_once.specs.Parts.{IsRunInPart}
use Rattle.erm_told.proofs.Executed.{Knows, hears, still_session, turns}
use Rattle.erm_told.proofs.Ranges.{in_range}
use Rattle.erm_told.proofs.Turns.{none_active}
use Rattle.erm_told_at_once.proofs.Runs.{all_say, close_of, first_known, knows_own}
use Rattle.erm_told_limits.proofs.Holds.{Laws}
use Rattle.erm_told_limits.proofs.Ran.{active_with}
use Rattle.erm_limits_at_once.proofs.Chained.{knows_run}
use Rattle.erm_limits_at_once.specs.Laws.{AreCellsFull, RunsInPartFillCells}
use Rattle.erm_causes_at_once.specs.Laws.{RunsInPartTellLog}
use Rattle.erm_owes_at_once.specs.Laws.{RunsInPartOwe}
use Rattle.erm_cut_at_once.specs.Laws.{CutRunsFillCells, CutRunsOwe}
use Rattle.erm_cut_at_once.proofs.Alike.{Alike, alike_both, alike_flat, alike_itself, owes_here}
use Rattle.erm_cut_at_once.proofs.Closing.{closed_progress, closes, gones, moves_with, own_join, progress_with}
use Rattle.erm_cut_at_once.proofs.Given.{GivenHas, HasNumbered, run_given}
use Rattle.erm_cut_at_once.proofs.Left.{Left, LeftAs, left_of}
use Rattle.erm_cut_at_once.proofs.MetThere.{run_here}
use Rattle.erm_cut_at_once.proofs.Parted.{drawn_within, in_script, no_more, total_parts}
use Rattle.erm_cut_at_once.proofs.Stands.{StandsFor}
use Rattle.erm_cut_at_once.proofs.World.{drawn_upto, is_left, told_world}

-- lists put together are the same where each of them is
flat_same : (one other : ℕ → List Committed) (ns : List ℕ) → ((n : ℕ) → n ∈ ns → one n ≡ other n) → flat_map one ns ≡ flat_map other ns
flat_same one other [] each = refl
flat_same one other (n ∷ ns) each =
    ap (λ (xs : List Committed). xs ++ flat_map one ns) (each n (∈-head n ns)) ∙ ap (λ (xs : List Committed). other n ++ xs) (flat_same one other ns (λ k m. each k (∈-behind n ns k m)))

-- a number is that of a session, or of none
abbrev Chosen : View → ℕ → Type 0
Chosen v seat = IsSession v seat ⊎ (IsSession v seat → ⊥)

chosen : (v : View) (seat : ℕ) → Chosen v seat
chosen v zero = inr (λ session. omega (arith, session.0))
chosen v (suc n) = elim (cases_lt n v.opening.sessions) as (λ _. Chosen v (suc n)) [
  | inl within ↦ inl (omega arith, omega (arith, within))
  | inr above ↦ inr (λ session. omega (arith, session.1, above))
]

-- one in progress is told unfinished
told_now : (seat : ℕ) (current : Option Transaction) (stand : Stand) → TellsNow seat current stand → phase_of stand ≡ Active → (t : Transaction) × (current ≡ Some t) × (t.ending ≡ Unfinished)
told_now seat None world.idle tells active = cc
told_now seat None (world.active w) tells active = absurd tells
told_now seat None (world.sealed w stamp) tells active = absurd tells
told_now seat (Some t) world.idle tells active = absurd tells
told_now seat (Some t) (world.active w) tells active = (t, refl, tells.0.unfinished)
told_now seat (Some t) (world.sealed w stamp) tells active = cc
told_now seat None (world.snapshot s) tells active = let no : world.snapshot s ≡ world.active (work_of (world.snapshot s)) = active_with (world.snapshot s) active in cc
told_now seat (Some t) (world.snapshot s) tells active = absurd tells

-- a session's transactions, in the one telling and in the other
abbrev all_in : Progress → List Transaction
all_in p = p.over ++ option_to_list p.current

alike_closed : (gone : Bool) (p : Progress) → (gone ≡ true → (t : Transaction) × (p.current ≡ Some t) × (t.ending ≡ Unfinished)) → Alike (all_in p) (all_in (closed_progress gone p))
alike_closed false p now = alike_itself (all_in p)
alike_closed true p now =
    let (t, current, unfinished) = now refl in
    subst (λ (c : Option Transaction). Alike (p.over ++ option_to_list c) (all_in (ended Aborts (record p { current = c })))) (sym current)
    (subst (λ (us : List Transaction). Alike (p.over ++ t ∷ []) us) (sym (append-nil (p.over ++ with_ending Aborts t ∷ [])))
    (alike_both p.over p.over (t ∷ []) (with_ending Aborts t ∷ []) (alike_itself p.over) (inr (unfinished, refl), tt)))

-- its snapshots that are over stay the same
same_snapshots : (gone : Bool) (p : Progress) → (gone ≡ true → p.snapshot ≡ None) → (closed_progress gone p).snapshots ≡ p.snapshots
same_snapshots false p none = refl
same_snapshots true p none = ap (λ (s : Option Snapshot). p.snapshots ++ option_to_list s) (none refl) ∙ append-nil p.snapshots

module _ (laws : Laws) (runs : NoneRuns) (stay : (w u : Work) (steps : List Step) → Extends w u → IsAnswered w steps → IsAnswered u steps)
    (v f : View) (script : List ScriptLine) (counts : ℕ → ℕ) (answers : List Answer) (closed : List Closed) (run : IsCutRunAtOnce v script counts answers closed f) where
  abbrev part : List ScriptLine
  part = answered_of counts script

  abbrev moves : List Move
  moves = all_moves part answers closed

  in_f : (seat : ℕ) → IsSession v seat → IsSession f seat
  in_f seat session = still_session v f seat run.opening session

  -- what is told of a session, where its moves leave it
  known : (seat : ℕ) → IsSession v seat → (last : View) → IsOwnRun f seat v moves last → Knows seat (fold (hears seat) nothing (said_in moves)) (fold (turns seat) Idle (said_in moves)) last
  known seat session last own = knows_own runs stay f seat moves nothing Idle v last own (first_known seat v (run.opened.idle seat session))

  -- none had given a claim up at first
  none_given : (seat : ℕ) → GivenHas seat v
  none_given seat x m = absurd (none_in_nil x (subst (λ (xs : List GivenUp). x ∈ xs) (run.opened.given_up seat) m))

  left : (seat : ℕ) → IsSession v seat → Left f seat (next_of seat counts script) v moves
  left seat session =
      let its = run.own seat session in
      left_of laws f seat (in_f seat session) run.ends.serializable (next_of seat counts script) v moves its
      (λ active. knows_run seat (fold (hears seat) nothing (said_in moves)) (fold (turns seat) Idle (said_in moves)) its.last (known seat session its.last its.run) active)
      (run_given runs stay f seat moves v its.last its.run (none_given seat))

  -- OF EACH NUMBER
  abbrev told_by : (seat : ℕ) → Chosen v seat → Session
  told_by seat (inl session) = (left seat session).told
  told_by seat (inr none) = f.session seat

  abbrev drawn_by : (seat : ℕ) → Chosen v seat → ℕ
  drawn_by seat (inl session) = (left seat session).drawn
  drawn_by seat (inr none) = 0

  abbrev gone_by : (seat : ℕ) → Chosen v seat → Bool
  gone_by seat (inl session) = (left seat session).gone
  gone_by seat (inr none) = false

  left_by : (seat : ℕ) (choice : Chosen v seat) → IsSession v seat → LeftAs f seat (next_of seat counts script) v moves (told_by seat choice) (drawn_by seat choice) (gone_by seat choice)
  left_by seat (inl session) its = (left seat session).left
  left_by seat (inr none) its = absurd (none its)

  may_by : (seat : ℕ) (choice : Chosen v seat) → (drawn_by seat choice ≡ 0) ⊎ ((drawn_by seat choice ≡ 1) × ((l : ScriptLine) × (next_of seat counts script ≡ Some l) × (l.command ≡ command.Commit)))
  may_by seat (inl session) = (left seat session).left.draws
  may_by seat (inr none) = inl refl

  abbrev told : ℕ → Session
  told seat = told_by seat (chosen v seat)

  abbrev drawn : ℕ → ℕ
  drawn seat = drawn_by seat (chosen v seat)

  abbrev gone : ℕ → Bool
  gone seat = gone_by seat (chosen v seat)

  left_as : (seat : ℕ) → IsSession v seat → LeftAs f seat (next_of seat counts script) v moves (told seat) (drawn seat) (gone seat)
  left_as seat session = left_by seat (chosen v seat) session

  stands : (seat : ℕ) → IsSession f seat → StandsFor (drawn seat) (told seat) (f.session seat)
  stands seat session = (left_as seat (still_session f v seat (sym run.opening) session)).stands

  given : (seat : ℕ) → IsSession f seat → (x : GivenUp) → x ∈ f.given_up seat → HasNumbered (told seat) x.number
  given seat session = (left_as seat (still_session f v seat (sym run.opening) session)).given

  -- THE EXECUTION as it is told
  abbrev sessions : ℕ
  sessions = v.opening.sessions

  abbrev others : List Closed
  others = gones gone sessions

  abbrev g : View
  g = told_world f told

  own_part : (seat : ℕ) → IsSession v seat → IsOwnPart g seat v (all_moves part answers (closed ++ others))
  own_part seat session =
      let its = left_as seat session in record {
        last = its.after;
        run = subst (λ (ms : List Move). IsOwnRun g seat v ms its.after) (sym (moves_with part answers closed others))
            (own_join g seat moves (map close_of others) v its.last its.after (run_here f told drawn stands given run.ends.serializable.numbered seat (in_f seat session) moves v its.last its.run)
            (closes gone g seat sessions its.last its.after session.0 session.1 its.closes));
        ends = its.ends;
        given_up = its.given_up;
        within = its.within;
      }

  counted : (count : Command → ℕ) → total_of count part ≤ total_of count script
  counted count = omega (arith, total_parts count counts script)

  in_part : IsRunInPart v script part answers (closed ++ others) g
  in_part = record {
    opened = run.opened;
    ranges = λ l m. run.ranges l (in_script counts script l m);
    few = le_trans (no_more counts script) run.few;
    named = λ l m. run.named l (in_script counts script l m);
    opening = run.opening;
    own = own_part;
    more = drawn_upto f.opening.sessions drawn;
    ends = is_left f told drawn stands run.ends;
    draws = drawn_within counts script drawn (λ seat. may_by seat (chosen v seat)) f.opening.sessions;
    counts = counted;
  }

  -- THE TRANSACTIONS are those told, but for endings
  now_told : (seat : ℕ) → IsSession v seat → gone seat ≡ true
      → (t : Transaction) × ((progress_of seat (places_of part answers closed)).current ≡ Some t) × (t.ending ≡ Unfinished)
  now_told seat session is =
      let its = left_as seat session in
      let tells = (known seat session its.last its.run).told.tells.now in
      subst (λ (said : List Said). (t : Transaction) × ((progress_of seat said).current ≡ Some t) × (t.ending ≡ Unfinished)) (all_say part answers closed)
      (told_now seat (fold (hears seat) nothing (said_in moves)).current (its.last.session seat).stand tells (its.active is))

  alike : Alike (transactions_of sessions (places_of part answers closed)) (transactions_of sessions (places_of part answers (closed ++ others)))
  alike = alike_flat (λ (q : ℕ). all_in (progress_of q (places_of part answers closed))) (λ (q : ℕ). all_in (progress_of q (places_of part answers (closed ++ others)))) (range_with_len 1 sessions)
      (λ q m.
      let bounds = in_range 1 sessions q m in
      let session : IsSession v q = (bounds.0, omega (arith, bounds.1)) in
      subst (λ (p : Progress). Alike (all_in (progress_of q (places_of part answers closed))) (all_in p)) (sym (progress_with gone q sessions part answers closed session.0 session.1))
      (alike_closed (gone q) (progress_of q (places_of part answers closed)) (λ is. now_told q session is)))

  -- and the snapshots that ended
  never_watched : (seat : ℕ) → IsSession v seat → gone seat ≡ true → (progress_of seat (places_of part answers closed)).snapshot ≡ None
  never_watched seat session is =
      let its = left_as seat session in
      subst (λ (said : List Said). (progress_of seat said).snapshot ≡ None) (all_say part answers closed)
      (none_active seat (fold (hears seat) nothing (said_in moves)) (its.last.session seat) (its.active is) (known seat session its.last its.run).told.tells)

  abbrev ended_in : List Said → ℕ → List Committed
  ended_in said q = filter_map (ended_as q) (progress_of q said).snapshots

  ended_same : ended_of sessions (places_of part answers (closed ++ others)) ≡ ended_of sessions (places_of part answers closed)
  ended_same = flat_same (ended_in (places_of part answers (closed ++ others))) (ended_in (places_of part answers closed)) (range_with_len 1 sessions)
      (λ q m.
      let bounds = in_range 1 sessions q m in
      let session : IsSession v q = (bounds.0, omega (arith, bounds.1)) in
      ap (λ (p : Progress). filter_map (ended_as q) p.snapshots) (progress_with gone q sessions part answers closed session.0 session.1)
      ∙ ap (λ (ss : List Snapshot). filter_map (ended_as q) ss) (same_snapshots (gone q) (progress_of q (places_of part answers closed)) (λ is. never_watched q session is)))

  pub owes : RunsInPartOwe → RunsInPartTellLog → (opening : Opening) → IsOpeningOf v opening → v.opening.sessions ≤ SESSIONS
      → OwesInPart opening script (answered_of counts script) answers (transactions_of v.opening.sessions (places_of (answered_of counts script) answers closed))
      (ended_of v.opening.sessions (places_of (answered_of counts script) answers closed))
  owes owe logs opening of few =
      let all = transactions_of sessions (places_of part answers closed) in
      let also = transactions_of sessions (places_of part answers (closed ++ others)) in
      owes_here all also alike opening script part answers (ended_of sessions (places_of part answers closed))
      (subst (λ (ended : List Committed). OwesInPart opening script part answers also ended) ended_same (owe v g script part answers (closed ++ others) opening in_part of few))
      (λ i l a at answered. logs v g script part answers (closed ++ others) opening in_part of all i l a at answered)

  -- cells are full at their number
  pub fills : RunsInPartFillCells → AreCellsFull v script answers
  fills fill = let each = run.each in fill v g script part answers (closed ++ others) in_part (omega (arith, each))

pub cut_owe : Laws → NoneRuns → ((w u : Work) (steps : List Step) → Extends w u → IsAnswered w steps → IsAnswered u steps) → RunsInPartOwe
    → RunsInPartTellLog → CutRunsOwe
cut_owe laws runs stay owe logs v f script counts answers closed opening run of few = owes laws runs stay v f script counts answers closed run owe logs opening of few

pub cut_fills : Laws → NoneRuns → ((w u : Work) (steps : List Step) → Extends w u → IsAnswered w steps → IsAnswered u steps) → RunsInPartFillCells → CutRunsFillCells
cut_fills laws runs stay fill v f script counts answers closed run = fills laws runs stay v f script counts answers closed run fill
