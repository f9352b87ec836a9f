-- The jobs of sessions just opened may be worked, and what their workers did.
use Rattle.std.proofs.Common.{◌≡◌, ℕ, ◌+◌, ◌<◌, ◌≤◌, ◌⊎◌, Bool, true, false, List, ◌++◌, length, map, take, drop, inl, inr, sym, ap, ◌∙◌, subst, arith}
use Rattle.std.specs.Prelude.{slice_get, vec_capacity, None, Some}
use Rattle.std.specs.List.{All}
use Rattle.std.proofs.lemmas.List.{length-map}
use Rattle.std.proofs.lemmas.Option.{slice_get-get_or}
use Rattle.erm_model.specs.declared.outcome.Phase.TheVariants.{Active, Sealed}
use Rattle.erm_model.specs.Member.{◌∈◌}
use Rattle.erm_model.specs.RowTransaction.{Law}
use Rattle.erm_model.proofs.Members.{none_in_nil}
use Rattle.erm_script.specs.declared.script.ScriptLine.{ScriptLine}
use Rattle.erm_rule.specs.declared.rule.Table.{Table}
use Rattle.erm_rule.specs.declared.view.Opening.{Opening}
use Rattle.erm_rule.specs.Openings.{start_of}
use Rattle.erm_shared_session.specs.declared.session.TableSession.{TableSession}
use Rattle.erm_shared_session.specs.Stands.{Ends, Stands, own_of, seat_of}
use Rattle.erm_world.specs.World.{View, phase_at}
use Rattle.erm_worker.specs.Work.{IsReady, MayBeAsked}
use Rattle.erm_threads.specs.declared.job.Done.{Done}
use Rattle.erm_threads.specs.declared.job.Job.{Job}
use Rattle.erm_threads.specs.Work.{AllLeftWhenTold, AllWorked, DidSome, DidWork, IsJob, LeftWhenTold, Worked, done_of}
use Rattle.erm_threads.proofs.Jobs.{map_from, there_is}
use Rattle.erm_engine.specs.Opened.{AreNew, IsNew, opened_view}
use Rattle.erm_engine.proofs.Joined.{at_within}
use Rattle.erm_run_beside.specs.Jobs.{AreJobs, AreLines, IsJobOf}
use Rattle.erm_run_beside.proofs.More.{put_back}
use Rattle.erm_run_beside.specs.Ended.{AreWholeUnless, AreWorked, HasWorked, IsWholeUnless}

-- ONE JOB may be worked
opened_ready : (o : Opening) (seat : ℕ) → IsReady (opened_view (start_of o)) seat None
opened_ready o seat = record { run = λ active. absurd (cc); receipt = λ f in_none committed. none_in_nil f in_none }

one_job : {L T : Type 0} (law : Law) (table : Table L) (o : Opening) (seat : ℕ) (s : TableSession L) (ls : List ScriptLine) (j : Job (TableSession L) T) → IsNew law table o seat s
    → ((l : ScriptLine) → l ∈ ls → (l.session ≡ seat) × MayBeAsked l.command) → IsJobOf s ls j → IsJob (Stands law table) seat_of own_of j
one_job {L} law table o seat s ls j new may is =
    let place : seat_of j.session ≡ seat = ap (λ (x : TableSession L). seat_of x) is.session_is ∙ new.seat_is in
    let own : own_of j.session ≡ opened_view (start_of o) = ap (λ (x : TableSession L). own_of x) is.session_is ∙ new.own in
    record {
      stands_so = subst (λ (x : TableSession L). Stands law table x) (sym is.session_is) new.stands;
      may = record {
        own = λ l there. (may l (subst (λ (xs : List ScriptLine). l ∈ xs) is.lines_are there)).0 ∙ sym place;
        may = λ l there. (may l (subst (λ (xs : List ScriptLine). l ∈ xs) is.lines_are there)).1;
        ready = subst (λ (v : View). IsReady v (seat_of j.session) None) (sym own) (opened_ready o (seat_of j.session));
      };
      none = is.none;
      room = subst (λ (xs : List ScriptLine). length xs ≤ vec_capacity j.answers) (sym is.lines_are) is.room;
    }

-- and so may all
pub all_jobs : {L T : Type 0} (law : Law) (table : Table L) (o : Opening) (count : ℕ) (ss : List (TableSession L)) (ps : List (List ScriptLine)) (js : List (Job (TableSession L) T))
    → AreNew law table o count ss → AreLines ps → AreJobs ss ps js → All (λ j. IsJob (Stands law table) seat_of own_of j) js
all_jobs law table o count ss ps js new may are = λ k d less.
    let there = slice_get-get_or js k d less in
    let many = are.many in
    let lines = are.lines in
    let s = at_within ss k (omega (arith, less, many)) in
    let p = at_within ps k (omega (arith, less, lines)) in
    one_job law table o (k + 1) s.0 p.0 _ (new.each k s.0 s.1) (may k p.0 p.1) (are.each k s.0 p.0 _ s.1 p.1 there)

-- ONE SESSION after its worker
one_worked : {L T : Type 0} (law : Law) (table : Table L) (o : Opening) (seat : ℕ) (s : TableSession L) (ls : List ScriptLine) (j : Job (TableSession L) T) (d : Done (TableSession L))
    → IsNew law table o seat s → IsJobOf s ls j → Worked (Stands law table) seat_of own_of (Ends law) j d → HasWorked law table o seat ls d
one_worked {L} law table o seat s ls j d new is w =
    let place : seat_of j.session ≡ seat = ap (λ (x : TableSession L). seat_of x) is.session_is ∙ new.seat_is in
    let own : own_of j.session ≡ opened_view (start_of o) = ap (λ (x : TableSession L). own_of x) is.session_is ∙ new.own in
    record {
      stands = w.stands_so;
      seat_is = w.onward.seat_is ∙ place;
      rests = λ active. w.rests (subst (λ (q : ℕ). phase_at (own_of d.session) q ≡ Active) (sym place) active);
      most = subst (λ (xs : List ScriptLine). length d.answers.items ≤ length xs) is.lines_are w.most;
      did = λ whole f end.
          subst (λ (q : ℕ). DidWork f q ls d.answers.items d.closed (opened_view (start_of o)) (own_of d.session)) place
          (subst (λ (xs : List ScriptLine). DidWork f (seat_of j.session) xs d.answers.items d.closed (opened_view (start_of o)) (own_of d.session)) is.lines_are
          (subst (λ (v : View). DidWork f (seat_of j.session) j.lines.items d.answers.items d.closed v (own_of d.session)) own (w.did whole f end)));
      some = λ f end.
          subst (λ (q : ℕ). DidSome f q ls d.answers.items d.closed (opened_view (start_of o)) (own_of d.session)) place
          (subst (λ (xs : List ScriptLine). DidSome f (seat_of j.session) xs d.answers.items d.closed (opened_view (start_of o)) (own_of d.session)) is.lines_are
          (subst (λ (v : View). DidSome f (seat_of j.session) j.lines.items d.answers.items d.closed v (own_of d.session)) own (w.some f end)));
    }

-- and all of them, which their workers left in their jobs
all_back : {L T : Type 0} (law : Law) (table : Table L) (o : Opening) (count : ℕ) (ss : List (TableSession L)) (ps : List (List ScriptLine)) (js : List (Job (TableSession L) T))
    (back : List (Job (TableSession L) T)) (done : List (Done (TableSession L))) → done ≡ map done_of back → AreNew law table o count ss → AreJobs ss ps js → length back ≡ length js
    → AllWorked (Stands law table) seat_of own_of (Ends law) js back → AreWorked law table o ps done
all_back {L} {T} law table o count ss ps js back done is new are long worked = record {
  many = ap (λ (l : List (Done (TableSession L))). length l) is ∙ length-map back (λ (b : Job (TableSession L) T). done_of b) ∙ long ∙ are.lines;
  each = λ k ls d at_p at_d.
      let b = map_from (λ (x : Job (TableSession L) T). done_of x) back k d (subst (λ (l : List (Done (TableSession L))). slice_get l k ≡ Some d) is at_d) in
      let less = there_is back k b.0 b.1 in
      let many = are.many in
      let s = at_within ss k (omega (arith, less, many, long)) in
      let j = at_within js k (omega (arith, less, long)) in
      subst (λ (x : Done (TableSession L)). HasWorked law table o (k + 1) ls x) b.2
      (one_worked law table o (k + 1) s.0 ls j.0 (done_of b.0) (new.each k s.0 s.1) (are.each k s.0 ls j.0 s.1 at_p j.1) (worked k j.0 b.0 j.1 b.1));
}

-- the same, where the jobs stand in a vector in whose place others were put
pub all_in_place : {L T : Type 0} (law : Law) (table : Table L) (o : Opening) (count n : ℕ) (ss : List (TableSession L)) (ps : List (List ScriptLine)) (js ys back : List (Job (TableSession L) T)) (done : List (Done (TableSession L)))
    → js ≡ ys → length back ≡ length js → n ≡ length ys → done ≡ map done_of (take n (back ++ drop (length back) ys)) → AreNew law table o count ss → AreJobs ss ps js
    → AllWorked (Stands law table) seat_of own_of (Ends law) js back → AreWorked law table o ps done
all_in_place {L} {T} law table o count n ss ps js ys back done same long full is new are worked =
    let here = put_back n back ys (long ∙ ap (λ (l : List (Job (TableSession L) T)). length l) same) full in
    all_back law table o count ss ps js back done (is ∙ ap (λ (l : List (Job (TableSession L) T)). map done_of l) here) new are long worked

-- ONE SESSION is whole, unless its worker was told to stop
one_whole : {L T : Type 0} (so : Type 0) (told : T → Type 0) (law : Law) (table : Table L) (o : Opening) (seat : ℕ) (s : TableSession L) (ls : List ScriptLine) (j : Job (TableSession L) T)
    (b : Job (TableSession L) T) → IsNew law table o seat s → IsJobOf s ls j → LeftWhenTold told seat_of own_of j b → (told b.turns → so) → IsWholeUnless so seat ls (done_of b)
one_whole {L} so told law table o seat s ls j b new is left why =
    let place : seat_of j.session ≡ seat = ap (λ (x : TableSession L). seat_of x) is.session_is ∙ new.seat_is in
    record {
      all = λ some fewer. why (left.left some (subst (λ (xs : List ScriptLine). length b.answers.items < length xs) (sym is.lines_are) fewer));
      decided = λ some none sealed. why (left.waits some none (subst (λ (q : ℕ). phase_at (own_of b.session) q ≡ Sealed) (sym place) sealed));
    }

all_whole : {L T : Type 0} (so : Type 0) (told : T → Type 0) (law : Law) (table : Table L) (o : Opening) (count : ℕ) (ss : List (TableSession L)) (ps : List (List ScriptLine))
    (js : List (Job (TableSession L) T)) (back : List (Job (TableSession L) T)) (done : List (Done (TableSession L))) → done ≡ map done_of back → AreNew law table o count ss
    → AreJobs ss ps js → length back ≡ length js → AllLeftWhenTold told seat_of own_of js back → ((k : ℕ) (b : Job (TableSession L) T) → slice_get back k ≡ Some b → told b.turns → so)
    → AreWholeUnless so ps done
all_whole {L} {T} so told law table o count ss ps js back done is new are long left why = λ k ls d at_p at_d.
    let b = map_from (λ (x : Job (TableSession L) T). done_of x) back k d (subst (λ (l : List (Done (TableSession L))). slice_get l k ≡ Some d) is at_d) in
    let less = there_is back k b.0 b.1 in
    let many = are.many in
    let s = at_within ss k (omega (arith, less, many, long)) in
    let j = at_within js k (omega (arith, less, long)) in
    subst (λ (x : Done (TableSession L)). IsWholeUnless so (k + 1) ls x) b.2
    (one_whole so told law table o (k + 1) s.0 ls j.0 b.0 (new.each k s.0 s.1) (are.each k s.0 ls j.0 s.1 at_p j.1) (left k j.0 b.0 j.1 b.1) (why k b.0 b.1))

pub whole_in_place : {L T : Type 0} (so : Type 0) (told : T → Type 0) (law : Law) (table : Table L) (o : Opening) (count n : ℕ) (ss : List (TableSession L)) (ps : List (List ScriptLine)) (js ys back : List (Job (TableSession L) T))
    (done : List (Done (TableSession L))) → js ≡ ys → length back ≡ length js → n ≡ length ys → done ≡ map done_of (take n (back ++ drop (length back) ys)) → AreNew law table o count ss → AreJobs ss ps js
    → AllLeftWhenTold told seat_of own_of js back → ((k : ℕ) (b : Job (TableSession L) T) → slice_get (take n (back ++ drop (length back) ys)) k ≡ Some b → told b.turns → so) → AreWholeUnless so ps done
whole_in_place {L} {T} so told law table o count n ss ps js ys back done same long full is new are left why =
    let here = put_back n back ys (long ∙ ap (λ (l : List (Job (TableSession L) T)). length l) same) full in
    all_whole so told law table o count ss ps js back done (is ∙ ap (λ (l : List (Job (TableSession L) T)). map done_of l) here) new are long left
    (λ k b at. why k b (subst (λ (l : List (Job (TableSession L) T)). slice_get l k ≡ Some b) (sym here) at))

-- a worker that was told and whose memory sufficed has met that the disk failed
pub met_some : {amount most : ℕ} {starved : Bool} → ((0 < amount) ⊎ (starved ≡ true)) × (starved ≡ false) → amount ≤ most → 0 < most
met_some {amount} {most} (inl met, fine) less = omega (arith, met, less)
met_some (inr lacks, fine) less = let not : true ≡ false = sym lacks ∙ fine in cc
