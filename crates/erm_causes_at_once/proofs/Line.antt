-- A line of a session that names a table leaves its transaction so that it touches objects of its lines' tables alone.
use Rattle.std.proofs.Common.{◌≡◌, ℕ, zero, suc, ◌+◌, ◌<◌, ◌≤◌, Bool, false, cond, eqb, List, [], ◌∷◌, ◌++◌, Some, None, sum_by, inl, inr, refl, sym, ap, subst, arith, le_trans, slice_get}
use Rattle.std.specs.Option.{option_to_list}
use Rattle.std.proofs.lemmas.List.Sums.{sum_by-append, sum_by-cons}
use Rattle.erm_model.specs.declared.outcome.Phase.TheVariants.{Active}
use Rattle.erm_model.specs.declared.row_stop.RowStop.{RowStop}
use Rattle.erm_model.specs.declared.row_stop.RowStop.TheVariants as stop
use Rattle.erm_model.specs.Lawful.{times_made}
use Rattle.erm_model.specs.Member.{◌∈◌}
use Rattle.erm_model.specs.RowTransaction.{Asked, Event, ends, made_by_all}
use Rattle.erm_model.specs.Run.{Step}
use Rattle.erm_model.proofs.Members.{∈-push}
use Rattle.erm_machine.proofs.Listed.{∈-first, ∈-head, ∈-second}
use Rattle.erm_node.specs.Sound.{sound_law}
use Rattle.erm_report.specs.declared.answer.Answer.{Answer}
use Rattle.erm_script.specs.declared.script.Command.{Command}
use Rattle.erm_script.specs.Script.{IsInRange}
use Rattle.erm_world.specs.Going.{Extends}
use Rattle.erm_world.specs.Laws.{IsSerializable}
use Rattle.erm_world.specs.World.{Finished, Has, IsCurrent, IsSession, Session, Stand, View, Work, history_of, made_in, phase_at, phase_of, work_at, work_of}
use Rattle.erm_world.specs.World as world
use Rattle.erm_world.proofs.Lists.{∈-last}
use Rattle.erm_maps.specs.Runs.{IsRunOf, Kept, kept_at}
use Rattle.erm_maps.proofs.Extended.{fitted_before}
use Rattle.erm_good_report.specs.Transactions.{Exchange, Transaction, table_of, with_line}
use Rattle.erm_lines.specs.Operations.{AsksOf, FrontOf, WholeOf, DidCalls}
use Rattle.erm_lines.specs.Told.{Continues, IsLater}
use Rattle.erm_lines_at_once.specs.Operations.{Beside, WasTried, WereCutBeside}
use Rattle.erm_lines_at_once.proofs.Saved.{passed_kept}
use Rattle.erm_causes.specs.Touched.{AreOfTables, Touches}
use Rattle.erm_causes.proofs.Answered.{last_fitted, last_made}
use Rattle.erm_causes.proofs.Begun.{BeganOn, KeepBelow, began_below}
use Rattle.erm_causes.proofs.Coloured.{KeepsTables}
use Rattle.erm_causes.proofs.Fine.{touches_more}
use Rattle.erm_causes.proofs.Lines.{CutFine, cut_work, line_in, named_works, whole_work}
use Rattle.erm_causes.proofs.Made.{made_within}
use Rattle.erm_causes.proofs.Operated.{Last, claimed, read, same_work}
use Rattle.erm_causes.proofs.Own.{TreeLaws}
use Rattle.erm_told_limits.proofs.Ran.{MovesAll}
use Rattle.erm_told_limits.proofs.Given.{HistoryLaws}
use Rattle.erm_causes_at_once.proofs.Called.{IsOut, calls_gone, cut_gone, cut_kept, cut_stays}

-- what is so of the line's own work, with its savepoints, up to a call, with the line counted already
pub record Behind (table : ℕ → ℕ) (t : Transaction) (first : Work) (k : Kept) : Type 0 where
  pub touches : Touches table t k.work
  pub keeps : KeepsTables table k.work
  pub low : (x : ℕ) → times_made first.made x ≤ times_made k.work.made x
  pub steps : List Step
  pub run : IsRunOf k steps

-- and of a work that the line goes on to: rows on which it began, and that what is made since the line is of the line's table
pub record Ahead (table : ℕ → ℕ) (k : ℕ) (first w : Work) : Type 0 where
  pub began : BeganOn table w
  pub once : (x : ℕ) → times_made w.made x ≤ 1
  pub right : (x : ℕ) → times_made first.made x < times_made w.made x → table x ≡ k

module _ (table : ℕ → ℕ) (k : ℕ) (first : Work) where
  -- so it is before calls, and before the last one
  pub ahead_before : (events : List Event) (w u : Work) → MovesAll sound_law w events u → Ahead table k first u → Ahead table k first w
  ahead_before events w u moves ahead = record {
    began = record { rows = ahead.began.rows; sound = ahead.began.sound; fits = moves.fitted ahead.began.rows ahead.began.fits; are = ahead.began.are };
    once = λ x. omega (arith, moves.made x, ahead.once x);
    right = λ x less. ahead.right x (omega (arith, less, moves.made x));
  }

  pub ahead_last : (asked : Asked) (w u : Work) → Last asked w u → Ahead table k first u → Ahead table k first w
  ahead_last asked w u last ahead =
      let same : (x : ℕ) → times_made u.made x ≡ times_made w.made x = λ x. ap (λ (os : List ℕ). times_made os x) (last_made asked w u last) in record {
        began = record { rows = ahead.began.rows; sound = ahead.began.sound; fits = last_fitted asked w u last ahead.began.rows ahead.began.fits; are = ahead.began.are };
        once = λ x. omega (arith, same x, ahead.once x);
        right = λ x less. ahead.right x (omega (arith, less, same x));
      }

pub last_begin : (asked : Asked) (w u : Work) → Last asked w u → u.begin ≡ w.begin
last_begin asked w u (same_work is) = ap (λ (x : Work). x.begin) is
last_begin asked w u (read r asks is) = ap (λ (x : Work). x.begin) is
last_begin asked w u (claimed d asks is) = ap (λ (x : Work). x.begin) is

-- the line counted twice is the line counted once
module _ (table : ℕ → ℕ) (c : Command) (a : Answer) (k : ℕ) (named : table_of c ≡ Some k) (told : Transaction) where
  abbrev with_it : Transaction
  with_it = with_line (Some c) a told

  counted : (e : Exchange) → e ∈ (with_line (Some c) a with_it).lines → e ∈ with_it.lines
  counted e m =
      let it : Exchange = record { asked = c; answer = a } in
      let both : e ∈ (with_it.lines ++ it ∷ []) = subst (λ (b : Bool). e ∈ (with_it.lines ++ option_to_list (cond b (Some it) None))) (named_works c k named) m in
      elim (∈-push with_it.lines it e both) as (λ _. e ∈ with_it.lines) [
        | inl before ↦ before
        | inr last ↦ subst (λ (d : Exchange). d ∈ with_it.lines) (sym last) (line_in c a told k named)
      ]

  once_counted : (w : Work) → Touches table (with_line (Some c) a with_it) w → Touches table with_it w
  once_counted w touches = touches_more table (with_line (Some c) a with_it) with_it w counted touches

-- THE CALLS of a line, one try after another.
module _ (tree : TreeLaws) (table : ℕ → ℕ) (f : View) (seat : ℕ) (c : Command) (a : Answer) (k : ℕ) (named : table_of c ≡ Some k) (range : IsInRange c) (told : Transaction) (first : Work) where
  abbrev t : Transaction
  t = with_line (Some c) a told

  made_here : (w : Kept) (u : Work) (events : List Event) → MovesAll sound_law w.work events u → Behind table t first w → Ahead table k first u → (x : ℕ) → 0 < made_by_all events x → table x ≡ k
  made_here w u events moves behind ahead x some = ahead.right x (omega (arith, behind.low x, moves.made x, some))

  pub cut_on : (why : RowStop) (v u : View) (active : phase_at v seat ≡ Active) (cut : WereCutBeside f seat (FrontOf c) (AsksOf c) why v u)
      → Behind table t first (kept_at v seat) → Ahead table k first (work_at cut.at seat) → CutFine table k c t (work_at cut.at seat) cut.asked
  cut_on why v u active cut behind ahead =
      let gone = cut_gone f seat c why v u active cut in
      let fine = cut_work tree table (work_at v seat) (work_at cut.at seat) cut.events gone.moves ahead.once c a k named range
      (made_here (kept_at v seat) (work_at cut.at seat) cut.events gone.moves behind ahead) t behind.touches behind.keeps behind.run.lawful ahead.began cut.asked cut.none cut.of cut.asks_so in record {
        touches = once_counted table c a k named told (work_at cut.at seat) fine.touches;
        keeps = fine.keeps;
        asked_is = fine.asked_is;
        writes = fine.writes;
      }

  -- one that goes on
  pub stays_on : (why : RowStop) (v u : View) (active : phase_at v seat ≡ Active) (cut : WereCutBeside f seat (FrontOf c) (AsksOf c) why v u) → ends why ≡ false
      → Behind table t first (kept_at v seat) → Ahead table k first (work_at u seat) → Behind table t first (kept_at u seat)
  stays_on why v u active cut stays behind ahead =
      let same : u.session seat ≡ cut.at.session seat = cut_stays f seat c why v u active cut stays in
      let gone = cut_gone f seat c why v u active cut in
      let fine = cut_on why v u active cut behind (subst (λ (s : Session). Ahead table k first (work_of s.stand)) same ahead) in record {
        touches = subst (λ (s : Session). Touches table t (work_of s.stand)) (sym same) fine.touches;
        keeps = subst (λ (s : Session). KeepsTables table (work_of s.stand)) (sym same) fine.keeps;
        low = λ x. le_trans (behind.low x) ((cut_kept f seat c why v u active cut stays).made x);
        steps = behind.steps;
        run = cut.run stays behind.steps behind.run;
      }

  pub ahead_there : (why : RowStop) (v u : View) (active : phase_at v seat ≡ Active) (cut : WereCutBeside f seat (FrontOf c) (AsksOf c) why v u) → ends why ≡ false
      → Ahead table k first (work_at u seat) → Ahead table k first (work_at v seat)
  ahead_there why v u active cut stays ahead =
      let same : u.session seat ≡ cut.at.session seat = cut_stays f seat c why v u active cut stays in
      let gone = cut_gone f seat c why v u active cut in
      ahead_before table k first cut.events (work_at v seat) (work_at cut.at seat) gone.moves (subst (λ (s : Session). Ahead table k first (work_of s.stand)) same ahead)

  -- its tries
  pub record TriedOn (v u : View) : Type 0 where
    pub ahead : Ahead table k first (work_at v seat)
    pub behind : Behind table t first (kept_at v seat) → Behind table t first (kept_at u seat)

  pub tried_on : (n : ℕ) (v u : View) → phase_at v seat ≡ Active → WasTried f seat c n v u → Ahead table k first (work_at u seat) → TriedOn v u
  tried_on zero v u active passes ahead = record {
    ahead = subst (λ (s : Session). Ahead table k first (work_of s.stand)) passes.own ahead;
    behind = λ behind. subst (λ (w : Kept). Behind table t first w) (sym (passed_kept seat v u passes)) behind;
  }
  tried_on (suc n) v u active (x, (other, seen, cut), rest) ahead =
      let kept = cut_kept f seat c (stop.NotYet other seen) v x active cut refl in
      let later = tried_on n x u kept.phase rest ahead in record {
        ahead = ahead_there (stop.NotYet other seen) v x active cut refl later.ahead;
        behind = λ behind. later.behind (stays_on (stop.NotYet other seen) v x active cut refl behind later.ahead);
      }

  -- the last one, answered whole
  pub whole_on : (steps : List Step) (v u : View) (active : phase_at v seat ≡ Active) → (beside : Beside seat (λ x y. DidCalls x seat steps (WholeOf c a) y) v u)
      → Behind table t first (kept_at v seat) → Ahead table k first (work_at u seat) → Touches table t (work_at u seat) × KeepsTables table (work_at u seat)
  whole_on steps v u active beside behind ahead =
      let events = beside.did.events in
      let gone = calls_gone seat c a steps v u active beside in
      let fine = whole_work tree table (work_at v seat) (work_at u seat) events gone.moves ahead.once c a k named range
      (made_here (kept_at v seat) (work_at u seat) events gone.moves behind ahead) t behind.touches behind.keeps behind.run.lawful ahead.began beside.did.of in
      (once_counted table c a k named told (work_at u seat) fine.0, fine.1)

-- THE WORLD in which all end: a work of the session goes on to one of it.
module _ (f : View) (seat : ℕ) where
  -- one in progress, and one that is over
  pub later_has : (w : Work) → IsLater w (f.session seat) → (u : Work) × Has f seat u × Extends w u
  later_has w (u, more, inl active) = (u, inr (subst (λ (stand : Stand). IsCurrent stand u) (sym active) refl), more)
  later_has w (u, more, inr (inl (stamp, sealed))) = (u, inr (subst (λ (stand : Stand). IsCurrent stand u) (sym sealed) refl), more)
  later_has w (u, more, inr (inr (g, rest, front, over, is))) =
      (u, inl (g, subst (λ (gs : List Finished). g ∈ gs) (sym over) (∈-second front (g ∷ rest) g (∈-head g rest)), is), more)

  pub over_has : (t s : Session) (w : Work) → Continues t (f.session seat) → IsOut s w t → Has f seat w
  over_has t s w goes is =
      let g : Finished = record { work = w; fate = world.aborts } in
      let here : g ∈ t.over = subst (λ (r : Session). g ∈ r.over) (sym is) (∈-last s.over g) in
      inl (g, subst (λ (gs : List Finished). g ∈ gs) (sym goes.over) (∈-first t.over goes.more g here), refl)

-- what a work has made, one that it goes on to has
pub extended_made : (w u : Work) → Extends w u → (x : ℕ) → times_made w.made x ≤ times_made u.made x
extended_made w u more x =
    let all : times_made u.made x ≡ times_made (w.made ++ more.more) x = ap (λ (os : List ℕ). times_made os x) more.made in
    let sum : times_made (w.made ++ more.more) x ≡ times_made w.made x + times_made more.more x = sum_by-append (λ (oid : ℕ). cond (eqb oid x) 1 0) w.made more.more in
    omega (arith, all, sum)

-- on whose rows it began
module _ (laws : HistoryLaws) (table : ℕ → ℕ) (f : View) (seat : ℕ) (session : IsSession f seat) (holds : IsSerializable sound_law f) (opened : AreOfTables table f.opening.rows) where
  has_made : (u : Work) → Has f seat u → (x : ℕ) → times_made u.made x ≤ made_in (f.session seat) x
  has_made u (inl (g, within, is)) x =
      let one = over_made (f.session seat).over g within.0 x within.1 in
      omega (arith, one, ap (λ (w : Work). times_made w.made x) is)
    where
      over_made : (gs : List Finished) (g : Finished) (i : ℕ) (x : ℕ) → slice_get gs i ≡ Some g → times_made g.work.made x ≤ sum_by (λ (h : Finished). times_made h.work.made x) gs
      over_made [] g i x at = cc
      over_made (h ∷ gs) g zero x at = let same : h ≡ g = cc in omega (arith, ap (λ (r : Finished). times_made r.work.made x) same, sum_by-cons (λ (r : Finished). times_made r.work.made x) h gs)
      over_made (h ∷ gs) g (suc i) x at = omega (arith, over_made gs g i x at, sum_by-cons (λ (r : Finished). times_made r.work.made x) h gs)
  has_made u (inr now) x = by (f.session seat).stand now
    where
      by : (stand : Stand) → IsCurrent stand u → times_made u.made x ≤ sum_by (λ (h : Finished). times_made h.work.made x) (f.session seat).over + times_made (work_of stand).made x
      by world.idle is = absurd is
      by (world.active w) is = omega (arith, ap (λ (y : Work). times_made y.made x) is)
      by (world.sealed w stamp) is = omega (arith, ap (λ (y : Work). times_made y.made x) is)
      by (world.snapshot s) is = omega (arith, ap (λ (y : Work). times_made y.made x) is)

  pub ahead_of : (k : ℕ) (first w u : Work) → Has f seat u → Extends w u → KeepBelow table f w.begin → ((x : ℕ) → times_made first.made x < times_made w.made x → table x ≡ k)
      → Ahead table k first w
  ahead_of k first w u has more keep right =
      let began = began_below laws table f holds opened seat u session has (subst (λ (n : ℕ). KeepBelow table f n) (sym more.begin) keep) in record {
        began = record { rows = began.rows; sound = began.sound; fits = fitted_before sound_law w u more began.rows began.fits; are = began.are };
        once = λ x. omega (arith, extended_made w u more x, has_made u has x, made_within f.opening.sessions f.session seat x session.0 session.1, holds.made_once x);
        right = right;
      }
