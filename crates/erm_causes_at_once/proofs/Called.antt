-- The calls behind a line of a session that names a table: its tries, and how the last one was answered or cut off.
use Rattle.std.proofs.Common.{◌≡◌, ℕ, zero, suc, ◌≤◌, false, List, [], ◌∷◌, ◌++◌, Some, None, sum_by, refl, sym, ap, ◌∙◌, subst, arith, le_trans}
use Rattle.erm_model.specs.declared.outcome.Phase.TheVariants.{Active}
use Rattle.erm_model.specs.declared.row_stop.RowStop.{RowStop}
use Rattle.erm_model.specs.declared.row_stop.RowStop.TheVariants as stop
use Rattle.erm_model.specs.Lawful.{times_made}
use Rattle.erm_model.specs.RowTransaction.{Asked, Event, asked_claim, asked_make, asked_read, ends}
use Rattle.erm_model.specs.Run.{Step}
use Rattle.erm_node.specs.Sound.{sound_law}
use Rattle.erm_report.specs.declared.answer.Answer.{Answer}
use Rattle.erm_report.specs.declared.answer.Answer.TheVariants as answer
use Rattle.erm_script.specs.declared.script.Command.{Command}
use Rattle.erm_world.specs.Calls.{IsDone, IsShut}
use Rattle.erm_world.specs.Going.{Extends}
use Rattle.erm_world.specs.Onward.{extends_then}
use Rattle.erm_world.specs.Works.{claiming, reading}
use Rattle.erm_world.specs.World.{Finished, Session, View, Work, made_in, phase_at, phase_of, work_at, work_of}
use Rattle.erm_world.specs.World as world
use Rattle.erm_good_report.specs.Transactions.{Aborts, Ending, Excludes, ended}
use Rattle.erm_lines.specs.Operations.{AsksOf, DidCalls, FrontOf, Ran, WholeOf}
use Rattle.erm_beside.specs.Calls.{After, Passes, RefusedBeside}
use Rattle.erm_beside.specs.Ends.{Aborted, MetBeside}
use Rattle.erm_beside.proofs.Txns.{stopped_after}
use Rattle.erm_lines_at_once.specs.Operations.{Beside, DidOnce, DidOperationBeside, WasTried, WereCutBeside, told_at_once}
use Rattle.erm_told.proofs.Going.{extends_itself}
use Rattle.erm_causes.proofs.Answered.{last_made}
use Rattle.erm_causes.proofs.Made.{made_over}
use Rattle.erm_causes.proofs.Operated.{EndsBy, GoesOnBy, Last, ShutAs, claimed, read, same_work}
use Rattle.erm_told_limits.proofs.Ran.{MovesAll, ran}

-- a session went on by answered calls with these events, and is active still
pub record Gone (events : List Event) (s t : Session) : Type 0 where
  pub stand : t.stand ≡ world.active (work_of t.stand)
  pub over : t.over ≡ s.over
  pub moves : MovesAll sound_law (work_of s.stand) events (work_of t.stand)
  pub more : Extends (work_of s.stand) (work_of t.stand)
  pub begin : (work_of t.stand).begin ≡ (work_of s.stand).begin

pub gone_beside : (seat : ℕ) (events : List Event) (v t : View) → phase_at v seat ≡ Active → Beside seat (λ u w. Ran u seat events w) v t → Gone events (v.session seat) (t.session seat)
gone_beside seat events v t active beside =
    let gone = ran sound_law events beside.from beside.to seat (ap (λ (s : Session). phase_of s.stand) beside.starts ∙ active) beside.did in
    let first : Gone events (beside.from.session seat) (beside.to.session seat) = record { stand = gone.0.stand; over = gone.0.over; moves = gone.1; more = gone.0.more; begin = gone.0.more.begin } in
    subst (λ (s : Session). Gone events s (t.session seat)) beside.starts (subst (λ (s : Session). Gone events (beside.from.session seat) s) (sym beside.stops) first)

-- it is active, its transaction the same, and has made what it had
pub record KeptOn (s t : Session) : Type 0 where
  pub phase : phase_of t.stand ≡ Active
  pub over : t.over ≡ s.over
  pub number : (work_of t.stand).number ≡ (work_of s.stand).number
  pub begin : (work_of t.stand).begin ≡ (work_of s.stand).begin
  pub more : Extends (work_of s.stand) (work_of t.stand)
  pub made : (x : ℕ) → times_made (work_of s.stand).made x ≤ times_made (work_of t.stand).made x

pub kept_gone : (events : List Event) (s t : Session) → Gone events s t → KeptOn s t
kept_gone events s t gone = record { phase = ap phase_of gone.stand; over = gone.over; number = gone.more.number; begin = gone.begin; more = gone.more; made = λ x. omega (arith, gone.moves.made x) }

pub kept_same : (s t : Session) → phase_of s.stand ≡ Active → t ≡ s → KeptOn s t
kept_same s t active is = subst (λ (r : Session). KeptOn s r) (sym is) (record { phase = active; over = refl; number = refl; begin = refl; more = extends_itself (work_of s.stand); made = λ x. omega arith })

pub kept_then : (s r t : Session) → KeptOn s r → KeptOn r t → KeptOn s t
kept_then s r t first second = record {
  phase = second.phase;
  over = second.over ∙ first.over;
  number = second.number ∙ first.number;
  begin = second.begin ∙ first.begin;
  more = extends_then (work_of s.stand) (work_of r.stand) (work_of t.stand) first.more second.more;
  made = λ x. le_trans (first.made x) (second.made x);
}

pub kept_made : (s t : Session) → KeptOn s t → (x : ℕ) → made_in s x ≤ made_in t x
kept_made s t kept x =
    omega (arith, kept.made x, ap (λ (gs : List Finished). sum_by (λ (g : Finished). times_made g.work.made x) gs) kept.over)

-- CUT OFF.
module _ (f : View) (seat : ℕ) (c : Command) (why : RowStop) (v t : View) (active : phase_at v seat ≡ Active) (cut : WereCutBeside f seat (FrontOf c) (AsksOf c) why v t) where
  pub cut_gone : Gone cut.events (v.session seat) (cut.at.session seat)
  cut_gone = gone_beside seat cut.events v cut.at active cut.ran

  pub cut_stays : ends why ≡ false → t.session seat ≡ cut.at.session seat
  cut_stays stays = (stopped_after seat cut.asked why cut.at t (ap phase_of cut_gone.stand) cut.refused).stays stays

  pub cut_kept : ends why ≡ false → KeptOn (v.session seat) (t.session seat)
  cut_kept stays = subst (λ (s : Session). KeptOn (v.session seat) s) (sym (cut_stays stays)) (kept_gone cut.events (v.session seat) (cut.at.session seat) cut_gone)

pub tried_kept : (f : View) (seat : ℕ) (c : Command) (n : ℕ) (v t : View) → phase_at v seat ≡ Active → WasTried f seat c n v t → KeptOn (v.session seat) (t.session seat)
tried_kept f seat c zero v t active passes = kept_same (v.session seat) (t.session seat) active passes.own
tried_kept f seat c (suc n) v t active (u, (other, seen, cut), rest) =
    let first = cut_kept f seat c (stop.NotYet other seen) v u active cut refl in
    kept_then (v.session seat) (u.session seat) (t.session seat) first (tried_kept f seat c n u t first.phase rest)

-- the transaction ended with this work, aborted
abbrev pub IsOut : Session → Work → Session → Type 0
IsOut s w t = t ≡ record { over = s.over ++ record { work = w; fate = world.aborts } ∷ []; stand = world.idle }

-- THE LAST TRY: answered whole, cut off with the transaction going on, or with the transaction ended.
pub data Once (f : View) (seat : ℕ) (c : Command) (a : Answer) (v t : View) : Type 0 where
  whole : (steps : List Step) → Beside seat (λ u w. DidCalls u seat steps (WholeOf c a) w) v t → GoesOnBy a → Once f seat c a v t
  stayed : (why : RowStop) → WereCutBeside f seat (FrontOf c) (AsksOf c) why v t → ends why ≡ false → GoesOnBy a → Once f seat c a v t
  out : (why : RowStop) (cut : WereCutBeside f seat (FrontOf c) (AsksOf c) why v t) (w : Work) (ending : Ending) → told_at_once why ≡ Some a → Last cut.asked (work_at cut.at seat) w
      → IsOut (cut.at.session seat) w (t.session seat) → ShutAs ending f seat w → EndsBy a ending → Once f seat c a v t

-- one that was cut off
pub data CutOnce (f : View) (seat : ℕ) (c : Command) (a : Answer) (v t : View) : Type 0 where
  stays_so : (why : RowStop) → WereCutBeside f seat (FrontOf c) (AsksOf c) why v t → ends why ≡ false → GoesOnBy a → CutOnce f seat c a v t
  ends_so : (why : RowStop) (cut : WereCutBeside f seat (FrontOf c) (AsksOf c) why v t) (w : Work) (ending : Ending) → told_at_once why ≡ Some a → Last cut.asked (work_at cut.at seat) w
      → IsOut (cut.at.session seat) w (t.session seat) → ShutAs ending f seat w → EndsBy a ending → CutOnce f seat c a v t

module _ (seat : ℕ) (at u t : View) (passes : Passes seat at u) where
  -- it ended with what its work had, and maybe one read or claim more
  out_as : (more : Work → Work) → IsDone u seat (more (work_at u seat)) world.aborts t → IsOut (at.session seat) (more (work_at at seat)) (t.session seat)
  out_as more done = subst (λ (s : Session). IsOut s (more (work_of s.stand)) (t.session seat)) passes.own done.own

pub owned_out : (seat other number : ℕ) (asked : Asked) (at t : View) → After seat (RefusedBeside seat asked (stop.Owned other number)) at t → IsOut (at.session seat) (work_at at seat) (t.session seat)
owned_out seat other number (asked_read oid) at t (u, passes, refused) = absurd refused
owned_out seat other number (asked_claim oid) at t (u, passes, refused) = out_as seat at u t passes (λ w. w) refused.1
owned_out seat other number asked_make at t (u, passes, refused) = absurd refused

pub newer_out : (seat stamp : ℕ) (asked : Asked) (at t : View) → After seat (RefusedBeside seat asked (stop.Newer stamp)) at t → IsOut (at.session seat) (work_at at seat) (t.session seat)
newer_out seat stamp (asked_read oid) at t (u, passes, refused) = absurd refused
newer_out seat stamp (asked_claim oid) at t (u, passes, refused) = out_as seat at u t passes (λ w. w) refused.1
newer_out seat stamp asked_make at t (u, passes, refused) = absurd refused

-- one that was excluded early
pub record Shut (f : View) (seat : ℕ) (asked : Asked) (succ pred : ℕ) (at t : View) : Type 0 where
  pub work : Work
  pub last : Last asked (work_at at seat) work
  pub ended : IsOut (at.session seat) work (t.session seat)
  pub shut : IsShut f seat work succ pred

aborted_out : (seat : ℕ) (s : Session) (w : Work) (t : View) → IsOut s w (t.session seat) → Aborted t seat w
aborted_out seat s w t is = (s.over, ap (λ (r : Session). r.over) is)

pub excluded_out : (f : View) (seat succ pred : ℕ) (asked : Asked) (at t : View) → After seat (RefusedBeside seat asked (stop.Excluded succ pred)) at t
    → MetBeside f seat asked (stop.Excluded succ pred) at t → Shut f seat asked succ pred at t
excluded_out f seat succ pred (asked_read oid) at t (u, passes, (new, few, (r, same, done))) met =
    let w = reading r (work_at at seat) in
    let ended = out_as seat at u t passes (reading r) done in
    record { work = w; last = read r (ap asked_read (sym same)) refl; ended = ended; shut = met.1 w (aborted_out seat (at.session seat) w t ended) }
excluded_out f seat succ pred (asked_claim oid) at t (u, passes, (may, (d, same, done))) met =
    let w = claiming d (work_at at seat) in
    let ended = out_as seat at u t passes (claiming d) done in
    record { work = w; last = claimed d (ap asked_claim (sym same)) refl; ended = ended; shut = met.1 w (aborted_out seat (at.session seat) w t ended) }
excluded_out f seat succ pred asked_make at t (u, passes, refused) met = absurd refused

module _ (f : View) (seat : ℕ) (c : Command) (v t : View) where
  abbrev Cut : RowStop → Type 0
  Cut why = WereCutBeside f seat (FrontOf c) (AsksOf c) why v t

  cut_once : (a : Answer) (why : RowStop) → told_at_once why ≡ Some a → Cut why → CutOnce f seat c a v t
  cut_once a (stop.NotYet other seen) told cut = let no : None ≡ Some a = told in cc
  cut_once a stop.ReadsFull told cut = let same : answer.ReadsFull ≡ a = cc in stays_so stop.ReadsFull cut refl (subst GoesOnBy same (λ q asked p. refl))
  cut_once a (stop.Owned other number) told cut = let same : answer.Owned other number ≡ a = cc in
      ends_so (stop.Owned other number) cut (work_at cut.at seat) Aborts told (same_work refl) (owned_out seat other number cut.asked cut.at t cut.refused) tt
      (subst (λ (b : Answer). EndsBy b Aborts) same (λ q asked p. refl))
  cut_once a (stop.Newer stamp) told cut = let same : answer.Newer stamp ≡ a = cc in
      ends_so (stop.Newer stamp) cut (work_at cut.at seat) Aborts told (same_work refl) (newer_out seat stamp cut.asked cut.at t cut.refused) tt
      (subst (λ (b : Answer). EndsBy b Aborts) same (λ q asked p. refl))
  cut_once a stop.WritesFull told cut = let same : answer.WritesFull ≡ a = cc in stays_so stop.WritesFull cut refl (subst GoesOnBy same (λ q asked p. refl))
  cut_once a (stop.CellsFull drawn) told cut = let same : answer.CellsFull drawn ≡ a = cc in stays_so (stop.CellsFull drawn) cut refl (subst GoesOnBy same (λ q asked p. refl))
  cut_once a (stop.OidsFull drawn) told cut = let same : answer.OidsFull drawn ≡ a = cc in stays_so (stop.OidsFull drawn) cut refl (subst GoesOnBy same (λ q asked p. refl))
  cut_once a (stop.Excluded succ pred) told cut =
      let same : answer.ExcludedEarly succ pred ≡ a = cc in
      let shut = excluded_out f seat succ pred cut.asked cut.at t cut.refused cut.met in
      ends_so (stop.Excluded succ pred) cut shut.work (Excludes None succ pred) told shut.last shut.ended shut.shut
      (subst (λ (b : Answer). EndsBy b (Excludes None succ pred)) same (λ q asked p. refl))
  cut_once a stop.Memory told cut = let no : None ≡ Some a = told in cc

  pub cut_as : (a : Answer) → (why : RowStop) × (told_at_once why ≡ Some a) × Cut why → CutOnce f seat c a v t
  cut_as a (why, told, cut) = cut_once a why told cut

  as_once : (a : Answer) → CutOnce f seat c a v t → Once f seat c a v t
  as_once a (stays_so why cut stays hears) = stayed why cut stays hears
  as_once a (ends_so why cut w ending told last ended shut hears) = out why cut w ending told last ended shut hears

  pub once_of : (a : Answer) → DidOnce f seat c a v t → Once f seat c a v t
  once_of (answer.Replied r) (op, is, beside) = whole _ beside (λ q asked p. refl)
  once_of (answer.Cut cells) (is, few, beside) = whole [] beside (λ q asked p. refl)
  once_of a did = as_once a (cut_as a did)

-- the calls of an operation that was answered
pub ran_beside : (seat : ℕ) (c : Command) (a : Answer) (steps : List Step) (v t : View) (beside : Beside seat (λ u w. DidCalls u seat steps (WholeOf c a) w) v t)
    → Beside seat (λ u w. Ran u seat beside.did.events w) v t
ran_beside seat c a steps v t beside = record {
  from = beside.from;
  to = beside.to;
  starts = beside.starts;
  starts_saves = beside.starts_saves;
  did = beside.did.ran;
  stops = beside.stops;
  stops_saves = beside.stops_saves;
  opening = beside.opening;
  tail = beside.tail;
  flushed = beside.flushed;
  given_up = beside.given_up;
}

pub calls_gone : (seat : ℕ) (c : Command) (a : Answer) (steps : List Step) (v t : View) → phase_at v seat ≡ Active → (beside : Beside seat (λ u w. DidCalls u seat steps (WholeOf c a) w) v t)
    → Gone beside.did.events (v.session seat) (t.session seat)
calls_gone seat c a steps v t active beside = gone_beside seat beside.did.events v t active (ran_beside seat c a steps v t beside)

-- WHAT IS MADE. No less than before.
module _ (f : View) (seat : ℕ) (c : Command) (a : Answer) (v t : View) (active : phase_at v seat ≡ Active) where
  -- of a session that ended
  out_made : (asked : Asked) (s : Session) (w : Work) → KeptOn (v.session seat) s → Last asked (work_of s.stand) w → IsOut s w (t.session seat) → (x : ℕ) → made_in (t.session seat) x ≡ made_in s x
  out_made asked s w kept last is x =
      let same : times_made w.made x ≡ times_made (work_of s.stand).made x = ap (λ (os : List ℕ). times_made os x) (last_made asked (work_of s.stand) w last) in
      omega (arith, ap (λ (r : Session). made_in r x) is, made_over s.over w world.aborts x, same)

  pub once_made : Once f seat c a v t → (x : ℕ) → made_in (v.session seat) x ≤ made_in (t.session seat) x
  once_made (whole steps beside hears) x =
      kept_made (v.session seat) (t.session seat) (kept_gone beside.did.events (v.session seat) (t.session seat) (calls_gone seat c a steps v t active beside)) x
  once_made (stayed why cut stays hears) x = kept_made (v.session seat) (t.session seat) (cut_kept f seat c why v t active cut stays) x
  once_made (out why cut w ending told last ended shut hears) x =
      let s = cut.at.session seat in
      let kept = kept_gone cut.events (v.session seat) s (cut_gone f seat c why v t active cut) in
      omega (arith, out_made cut.asked s w kept last ended x, kept_made (v.session seat) s kept x)

pub operation_made : (f : View) (seat : ℕ) (c : Command) (a : Answer) (v t : View) → phase_at v seat ≡ Active → DidOperationBeside f seat c a v t → (x : ℕ)
    → made_in (v.session seat) x ≤ made_in (t.session seat) x
operation_made f seat c a v t active did x =
    let kept = tried_kept f seat c did.times v did.at active did.tried in
    le_trans (kept_made (v.session seat) (did.at.session seat) kept x) (once_made f seat c a did.at t kept.phase (once_of f seat c did.at t a did.once) x)
