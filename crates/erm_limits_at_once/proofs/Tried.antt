-- How much more a line of a session that names a table makes and claims, its tries and its last one together.
use Rattle.std.proofs.Common.{◌≡◌, ℕ, zero, suc, ◌+◌, ◌-◌, ◌<◌, ◌≤◌, true, false, List, [], ◌∷◌, Some, is_some, length, inl, inr, refl, sym, ap, ◌∙◌, subst, arith}
use Rattle.std.proofs.lemmas.List.{length-append}
use Rattle.erm_model.specs.declared.outcome.Phase.TheVariants.{Active}
use Rattle.erm_model.specs.declared.row_stop.RowStop.{RowStop}
use Rattle.erm_model.specs.declared.row_stop.RowStop.TheVariants as stop
use Rattle.erm_model.specs.Lawful.{times_made}
use Rattle.erm_model.specs.Member.{◌∈◌}
use Rattle.erm_model.specs.RowTransaction.{Asked, Event, OnlyReads, asked_claim, asked_make, asked_read, ends}
use Rattle.erm_model.specs.Run.{Step}
use Rattle.erm_machine.proofs.Listed.{∈-first}
use Rattle.erm_node.specs.Sound.{reached, sound_law}
use Rattle.erm_tree.specs.Change.{count_claims, count_makes}
use Rattle.erm_report.specs.declared.answer.Answer.{Answer}
use Rattle.erm_script.specs.declared.script.Command.{Command}
use Rattle.erm_script.specs.Script.{IsInRange}
use Rattle.erm_world.specs.Going.{Extends}
use Rattle.erm_world.specs.Laws.{IsLawfulWork, IsSerializable}
use Rattle.erm_world.specs.Onward.{extends_then}
use Rattle.erm_world.specs.Works.{row_read}
use Rattle.erm_world.specs.World.{Finished, Has, IsSession, Session, View, Work, made_by_all, phase_at, phase_of, work_at, work_of}
use Rattle.erm_world.specs.World as world
use Rattle.erm_world.proofs.Lists.{∈-last}
use Rattle.erm_maps.specs.Runs.{IsRunOf, kept_at}
use Rattle.erm_good_report.specs.Refusals.{claims_of, makes_of, reads_of}
use Rattle.erm_good_report.specs.Transactions.{table_of}
use Rattle.erm_lines.specs.Operations.{AsksOf, DidCalls, FrontOf, Ran, WholeOf}
use Rattle.erm_lines.specs.Told.{Continues}
use Rattle.erm_beside.proofs.Txns.{stopped_after}
use Rattle.erm_beside.specs.Calls.{After, RefusedBeside}
use Rattle.erm_beside.specs.Ends.{MetBeside}
use Rattle.erm_lines_at_once.specs.Operations.{Beside, DidOperationBeside, WasTried, WereCutBeside}
use Rattle.erm_causes.proofs.Answered.{last_made}
use Rattle.erm_causes.proofs.Operated.{Last, claimed, read, same_work}
use Rattle.erm_causes_at_once.proofs.Called.{Gone, IsOut, Once, calls_gone, cut_gone, cut_kept, cut_stays, once_of, out, stayed, tried_kept, whole}
use Rattle.erm_causes_at_once.proofs.Line.{later_has}
use Rattle.erm_causes_at_once.proofs.Operation.{tried_run}
use Rattle.erm_told.proofs.Running.{over_then}
use Rattle.erm_told_limits.proofs.Arrays.{Stood, stood}
use Rattle.erm_told_limits.proofs.Bounds.{counted_grows, front_claims, front_counts, front_makes, whole_grows}
use Rattle.erm_told_limits.proofs.Grown.{Grew, no_writes, only_none}
use Rattle.erm_told_limits.proofs.Holds.{Laws}
use Rattle.erm_told_limits.proofs.Moved.{Moved, moved_nothing, moved_on, moved_out, moved_then, moved_within}
use Rattle.erm_told_limits.proofs.Ran.{MovesAll, active_with}
use Rattle.erm_told_limits.proofs.Lines.{Looked, LookedSo}
use Rattle.erm_told_limits.proofs.Looks.{Looks}
use Rattle.erm_told_limits.proofs.Reached.{asks_reached, front_reads, whole_reads}
use Rattle.erm_told_limits.proofs.Sought.{SeeksKey}
use Rattle.erm_limits_at_once.proofs.Looked.{began_in, cut_same, named_kind, tried_same, waits_front, whole_same}

-- an object that there may be: the opening's rows reach it, or it was made
abbrev pub MayBe : View → ℕ → Type 0
MayBe f x = 0 < reached f.opening.rows x + made_by_all f x

-- a work goes on to one of the world in which all end
abbrev pub GoesTo : View → ℕ → Work → Type 0
GoesTo f seat w = (u : Work) × Has f seat u × Extends w u

-- what is so of the works in some world is so of the session's
pub beside_works : (seat : ℕ) (Did : View → View → Type 0) (R : Work → Work → Type 0) (v t : View) (beside : Beside seat Did v t) → R (work_at beside.from seat) (work_at beside.to seat)
    → R (work_at v seat) (work_at t seat)
beside_works seat Did R v t beside r =
    subst (λ (s : Session). R (work_of s.stand) (work_at t seat)) beside.starts
    (subst (λ (s : Session). R (work_at beside.from seat) (work_of s.stand)) (sym beside.stops) r)

module _ (laws : Laws) (f : View) (seat : ℕ) (session : IsSession f seat) (holds : IsSerializable sound_law f) (c : Command) (range : IsInRange c) where
  abbrev P : ℕ → Type 0
  P x = MayBe f x

  stood_there : (w y : Work) (events : List Event) → IsLawfulWork sound_law w → MovesAll sound_law w events y → GoesTo f seat y → Stood f events
  stood_there w y events lawful moves (u, has, more) = stood laws.rows_below f holds seat u session has w y events lawful moves more

  -- A CALL THAT WAS CUT OFF.
  module _ (why : RowStop) (v t : View) (active : phase_at v seat ≡ Active) (cut : WereCutBeside f seat (FrontOf c) (AsksOf c) why v t) (steps : List Step) (run : IsRunOf (kept_at v seat) steps)
      (goes : GoesTo f seat (work_at cut.at seat)) where
    abbrev gone : Gone cut.events (v.session seat) (cut.at.session seat)
    gone = cut_gone f seat c why v t active cut

    pub on : Stood f cut.events
    on = stood_there (work_at v seat) (work_at cut.at seat) cut.events run.lawful gone.moves goes

    pub front_on : FrontOf c on.array cut.events
    front_on = cut.of on.array on.sound on.agrees

    pub asks_on : AsksOf c cut.events on.array cut.asked
    asks_on = cut.asks_so on.array on.sound on.agrees

    grew : Grew (work_at v seat) (work_at cut.at seat) (count_makes cut.events) (count_claims cut.events)
    grew = beside_works seat (λ u w. Ran u seat cut.events w) (λ w u. Grew w u (count_makes cut.events) (count_claims cut.events)) v cut.at cut.ran
        (counted_grows cut.ran.from seat cut.ran.to (ap (λ (s : Session). phase_of s.stand) cut.ran.starts ∙ active) cut.events (count_makes cut.events) (count_claims cut.events) (omega arith)
        (omega (arith, no_writes cut.events cut.none)) cut.ran.did)

    may_be : (x : ℕ) → 0 < reached on.array x → P x
    may_be x some = let most = on.reach x in omega (arith, some, most)

    pub cut_moved : Moved P (count_makes cut.events) (count_claims cut.events) 0 (v.session seat) (cut.at.session seat)
    cut_moved = moved_on P (count_makes cut.events) (count_claims cut.events) (v.session seat) (cut.at.session seat) gone.over grew (λ x. omega (arith, gone.moves.made x))
        (λ x is. elim (gone.moves.reads x is) [ inl before ↦ inl before | inr new ↦ inr (may_be x (front_reads laws.ways c on.array cut.events range front_on x new)) ])

    pub asked_may_be : (oid : ℕ) → cut.asked ≡ asked_read oid → P oid
    asked_may_be oid is = may_be oid (asks_reached laws.ways c on.array cut.events oid range (subst (AsksOf c cut.events on.array) is asks_on))

    pub less_claims : (oid : ℕ) → cut.asked ≡ asked_claim oid → count_claims cut.events + 1 ≤ claims_of c
    less_claims oid is = front_claims c on.array cut.events oid front_on (subst (AsksOf c cut.events on.array) is asks_on)

    pub less_makes : cut.asked ≡ asked_make → count_makes cut.events + 1 ≤ makes_of c
    less_makes is = front_makes c on.array cut.events front_on (subst (AsksOf c cut.events on.array) is asks_on)

  goes_before : (v t : View) → Extends (work_at v seat) (work_at t seat) → GoesTo f seat (work_at t seat) → GoesTo f seat (work_at v seat)
  goes_before v t first (u, has, more) = (u, has, extends_then (work_at v seat) (work_at t seat) u first more)

  -- TRIES make and claim nothing.
  try_only : (other seen : ℕ) (v t : View) (active : phase_at v seat ≡ Active) (cut : WereCutBeside f seat (FrontOf c) (AsksOf c) (stop.NotYet other seen) v t) (steps : List Step)
      → IsRunOf (kept_at v seat) steps → GoesTo f seat (work_at cut.at seat) → OnlyReads cut.events
  try_only other seen v t active cut steps run goes =
      let why = stop.NotYet other seen in
      waits_front c (on why v t active cut steps run goes).array cut.events seat other seen cut.asked cut.at t (front_on why v t active cut steps run goes)
      (asks_on why v t active cut steps run goes) cut.refused

  pub record TriedMoved (v t : View) : Type 0 where
    pub moved : Moved P 0 0 0 (v.session seat) (t.session seat)
    pub goes : GoesTo f seat (work_at v seat)

  pub tried_moved : (n : ℕ) (v t : View) → phase_at v seat ≡ Active → WasTried f seat c n v t → (steps : List Step) → IsRunOf (kept_at v seat) steps → GoesTo f seat (work_at t seat) → TriedMoved v t
  tried_moved zero v t active passes steps run goes = record {
    moved = moved_nothing P (v.session seat) (t.session seat) passes.own;
    goes = subst (λ (s : Session). GoesTo f seat (work_of s.stand)) passes.own goes;
  }
  tried_moved (suc n) v t active (u, (other, seen, cut), rest) steps run goes =
      let why = stop.NotYet other seen in
      let kept = cut_kept f seat c why v u active cut refl in
      let same : u.session seat ≡ cut.at.session seat = cut_stays f seat c why v u active cut refl in
      let later = tried_moved n u t kept.phase rest steps (cut.run refl steps run) goes in
      let goes_at = subst (λ (s : Session). GoesTo f seat (work_of s.stand)) same later.goes in
      let none = only_none cut.events (try_only other seen v u active cut steps run goes_at) in
      let moved = moved_within P (count_makes cut.events) (count_claims cut.events) 0 0 0 0 (v.session seat) (cut.at.session seat) (omega (arith, none.0)) (omega (arith, none.1)) (omega arith)
      (cut_moved why v u active cut steps run goes_at) in
      let first : Moved P 0 0 0 (v.session seat) (u.session seat) = subst (λ (s : Session). Moved P 0 0 0 (v.session seat) s) (sym same) moved in record {
        moved = moved_then P 0 0 0 0 0 0 (v.session seat) (u.session seat) (t.session seat) first later.moved;
        goes = goes_before v cut.at (cut_gone f seat c why v u active cut).more goes_at;
      }

  -- THE LAST ONE, answered whole.
  whole_moved : (a : Answer) (steps_now : List Step) (v t : View) (active : phase_at v seat ≡ Active) → (beside : Beside seat (λ u w. DidCalls u seat steps_now (WholeOf c a) w) v t) (steps : List Step)
      → IsRunOf (kept_at v seat) steps → GoesTo f seat (work_at t seat) → Moved P (makes_of c) (claims_of c) 0 (v.session seat) (t.session seat)
  whole_moved a steps_now v t active beside steps run goes =
      let events = beside.did.events in
      let gone = calls_gone seat c a steps_now v t active beside in
      let on = stood_there (work_at v seat) (work_at t seat) events run.lawful gone.moves goes in
      let kind : WholeOf c a on.array events = (beside.did.of on.array on.sound on.agrees).0 in
      let grew = beside_works seat (λ u w. DidCalls u seat steps_now (WholeOf c a) w) (λ w u. Grew w u (makes_of c) (claims_of c)) v t beside
      (whole_grows beside.from seat beside.to (ap (λ (s : Session). phase_of s.stand) beside.starts ∙ active) c a on.array events kind beside.did.ran) in
      moved_on P (makes_of c) (claims_of c) (v.session seat) (t.session seat) gone.over grew (λ x. omega (arith, gone.moves.made x))
      (λ x is. elim (gone.moves.reads x is) [
        | inl before ↦ inl before
        | inr new ↦ inr (let some = whole_reads laws.ways c a on.array events range kind x new in let most = on.reach x in omega (arith, some, most))
      ])

  -- cut off with its transaction ended: it claims one object more at most
  last_claims : (asked : Asked) (w u : Work) (room : ℕ) → Last asked w u → ((oid : ℕ) → asked ≡ asked_claim oid → 1 ≤ room) → length u.claims ≤ length w.claims + room
  last_claims asked w u room (same_work is) some = omega (arith, ap (λ (x : Work). length x.claims) is)
  last_claims asked w u room (read r asks is) some = omega (arith, ap (λ (x : Work). length x.claims) is)
  last_claims asked w u room (claimed d asks is) some =
      omega (arith, ap (λ (x : Work). length x.claims) is, length-append w.claims (d ∷ []), some d.oid asks)

  out_moved : (asked : Asked) (s t : Session) (w : Work) (room : ℕ) → Last asked (work_of s.stand) w → IsOut s w t → ((oid : ℕ) → asked ≡ asked_claim oid → 1 ≤ room) → Moved P 0 room 1 s t
  out_moved asked s t w room last ended some =
      let made = last_made asked (work_of s.stand) w last in
      moved_out P 0 room s t w world.aborts ended (omega (arith, ap (λ (os : List ℕ). length os) made)) (last_claims asked (work_of s.stand) w room last some)
      (λ x. omega (arith, ap (λ (os : List ℕ). times_made os x) made))

  -- where it ended, the work that it asked from goes on to the one that is over
  out_goes : (why : RowStop) (v t : View) (active : phase_at v seat ≡ Active) (cut : WereCutBeside f seat (FrontOf c) (AsksOf c) why v t) (w : Work) → IsOut (cut.at.session seat) w (t.session seat)
      → Continues (t.session seat) (f.session seat) → GoesTo f seat (work_at cut.at seat)
  out_goes why v t active cut w ended goes =
      let s = cut.at.session seat in
      let gone = cut_gone f seat c why v t active cut in
      let last = stopped_after seat cut.asked why cut.at t (ap phase_of gone.stand) cut.refused in
      let (u, more, over) = over_then s (t.session seat) (work_of s.stand) last.goes.own gone.stand (ap (λ (r : Session). r.stand) ended) in
      let g : Finished = record { work = u; fate = world.aborts } in
      let here : g ∈ (t.session seat).over = subst (λ (gs : List Finished). g ∈ gs) (sym over) (∈-last s.over g) in
      (u, inl (g, subst (λ (gs : List Finished). g ∈ gs) (sym goes.over) (∈-first (t.session seat).over goes.more g here), refl), more)

  now_goes : (t : View) → phase_at t seat ≡ Active → Continues (t.session seat) (f.session seat) → GoesTo f seat (work_at t seat)
  now_goes t active goes = later_has f seat (work_at t seat) (goes.active (work_at t seat) (active_with (t.session seat).stand active))

  pub record OnceMoved (v t : View) : Type 0 where
    pub moved : Moved P (makes_of c) (claims_of c) 1 (v.session seat) (t.session seat)
    pub goes : GoesTo f seat (work_at v seat)

  -- the room that is left
  rest_of : (a b : ℕ) → a ≤ b → (n : ℕ) × (a + n ≡ b)
  rest_of a b less = (b - a, omega (arith, less))

  once_moved : (a : Answer) (v t : View) → phase_at v seat ≡ Active → Once f seat c a v t → (steps : List Step) → IsRunOf (kept_at v seat) steps → Continues (t.session seat) (f.session seat) → OnceMoved v t
  once_moved a v t active (whole now beside hears) steps run goes =
      let gone = calls_gone seat c a now v t active beside in
      let goes_t = now_goes t (ap phase_of gone.stand) goes in record {
        moved = moved_within P (makes_of c) (claims_of c) 0 (makes_of c) (claims_of c) 1 (v.session seat) (t.session seat) (omega arith) (omega arith) (omega arith)
            (whole_moved a now v t active beside steps run goes_t);
        goes = goes_before v t gone.more goes_t;
      }
  once_moved a v t active (stayed why cut stays hears) steps run goes =
      let kept = cut_kept f seat c why v t active cut stays in
      let same : t.session seat ≡ cut.at.session seat = cut_stays f seat c why v t active cut stays in
      let goes_at = subst (λ (s : Session). GoesTo f seat (work_of s.stand)) same (now_goes t kept.phase goes) in
      let counts = front_counts c (on why v t active cut steps run goes_at).array cut.events (front_on why v t active cut steps run goes_at) in record {
        moved = subst (λ (s : Session). Moved P (makes_of c) (claims_of c) 1 (v.session seat) s) (sym same)
            (moved_within P (count_makes cut.events) (count_claims cut.events) 0 (makes_of c) (claims_of c) 1 (v.session seat) (cut.at.session seat) counts.0 counts.1 (omega arith)
            (cut_moved why v t active cut steps run goes_at));
        goes = goes_before v cut.at (cut_gone f seat c why v t active cut).more goes_at;
      }
  once_moved a v t active (out why cut w ending told last ended shut hears) steps run goes =
      let goes_at = out_goes why v t active cut w ended goes in
      let counts = front_counts c (on why v t active cut steps run goes_at).array cut.events (front_on why v t active cut steps run goes_at) in
      let room = rest_of (count_claims cut.events) (claims_of c) counts.1 in
      let end = out_moved cut.asked (cut.at.session seat) (t.session seat) w room.0 last ended (λ oid is. omega (arith, less_claims why v t active cut steps run goes_at oid is, room.1)) in record {
        moved = moved_within P (count_makes cut.events + 0) (count_claims cut.events + room.0) (0 + 1) (makes_of c) (claims_of c) 1 (v.session seat) (t.session seat)
            (omega (arith, counts.0)) (omega (arith, room.1)) (omega arith)
            (moved_then P (count_makes cut.events) (count_claims cut.events) 0 0 room.0 1 (v.session seat) (cut.at.session seat) (t.session seat) (cut_moved why v t active cut steps run goes_at) end);
        goes = goes_before v cut.at (cut_gone f seat c why v t active cut).more goes_at;
      }

  -- THE WHOLE LINE.
  pub operation_moved : (a : Answer) (v t : View) → phase_at v seat ≡ Active → DidOperationBeside f seat c a v t → (steps : List Step) → IsRunOf (kept_at v seat) steps
      → Continues (t.session seat) (f.session seat) → Moved P (makes_of c) (claims_of c) 1 (v.session seat) (t.session seat)
  operation_moved a v t active did steps run goes =
      let kept = tried_kept f seat c did.times v did.at active did.tried in
      let once = once_moved a did.at t kept.phase (once_of f seat c did.at t a did.once) steps (tried_run f seat c did.times v did.at did.tried steps run) goes in
      let tries = tried_moved did.times v did.at active did.tried steps run once.goes in
      moved_within P (0 + makes_of c) (0 + claims_of c) (0 + 1) (makes_of c) (claims_of c) 1 (v.session seat) (t.session seat) (omega arith) (omega arith) (omega arith)
      (moved_then P 0 0 0 (makes_of c) (claims_of c) 1 (v.session seat) (did.at.session seat) (t.session seat) tries.moved once.moved)

  -- WHAT IT READS, on the rows on which the work began that it goes on to.
  module _ (u : Work) (has : Has f seat u) (seeks : SeeksKey c) where
    whole_looked : (a : Answer) (now : List Step) (n : ℕ) (v at t : View) → phase_at v seat ≡ Active → WasTried f seat c n v at
        → Beside seat (λ x y. DidCalls x seat now (WholeOf c a) y) at t → (steps : List Step) → IsRunOf (kept_at v seat) steps → Extends (work_at t seat) u → Looked (reads_of c) v seat t
    whole_looked a now n v at t active tried beside steps run more =
        let kept = tried_kept f seat c n v at active tried in
        let run_at = tried_run f seat c n v at tried steps run in
        let gone = calls_gone seat c a now at t kept.phase beside in
        let same = tried_same u (began_in laws f seat session holds u has) f seat c range seeks n v at active tried steps run (extends_then (work_at at seat) (work_at t seat) u gone.more more) in
        whole_same u (began_in laws f seat session holds u has) f seat c range seeks a now v at t kept.phase beside same steps run_at more

    cut_looked : (why : RowStop) (n : ℕ) (v at t : View) → phase_at v seat ≡ Active → WasTried f seat c n v at → (cut : WereCutBeside f seat (FrontOf c) (AsksOf c) why at t)
        → (steps : List Step) → IsRunOf (kept_at v seat) steps → Extends (work_at cut.at seat) u → LookedSo (reads_of c) v seat cut.at cut.asked
    cut_looked why n v at t active tried cut steps run more =
        let kept = tried_kept f seat c n v at active tried in
        let run_at = tried_run f seat c n v at tried steps run in
        let gone = cut_gone f seat c why at t kept.phase cut in
        let same = tried_same u (began_in laws f seat session holds u has) f seat c range seeks n v at active tried steps run (extends_then (work_at at seat) (work_at cut.at seat) u gone.more more) in
        cut_same u (began_in laws f seat session holds u has) f seat c range seeks why v at t kept.phase cut same steps run_at more

  -- a transaction that ended reads nothing more
  out_looked : (v t : View) (s : Session) (w : Work) → IsOut s w (t.session seat) → Looked (reads_of c) v seat t
  out_looked v t s w ended = record {
    more = [];
    few = omega arith;
    reads = λ x read. let none : is_some (row_read (work_at t seat).reads x) ≡ false = ap (λ (r : Session). is_some (row_read (work_of r.stand).reads x)) ended in absurd (cc);
  }

  once_looked : (a : Answer) (n : ℕ) (v at t : View) → SeeksKey c → phase_at v seat ≡ Active → WasTried f seat c n v at → Once f seat c a at t → (steps : List Step)
      → IsRunOf (kept_at v seat) steps → Continues (t.session seat) (f.session seat) → Looked (reads_of c) v seat t
  once_looked a n v at t seeks active tried (whole now beside hears) steps run goes =
      let kept = tried_kept f seat c n v at active tried in
      let (u, has, more) = now_goes t (ap phase_of (calls_gone seat c a now at t kept.phase beside).stand) goes in
      whole_looked u has seeks a now n v at t active tried beside steps run more
  once_looked a n v at t seeks active tried (stayed why cut stays hears) steps run goes =
      let kept = tried_kept f seat c n v at active tried in
      let same : t.session seat ≡ cut.at.session seat = cut_stays f seat c why at t kept.phase cut stays in
      let (u, has, more) = subst (λ (s : Session). GoesTo f seat (work_of s.stand)) same (now_goes t (cut_kept f seat c why at t kept.phase cut stays).phase goes) in
      let looked = (cut_looked u has seeks why n v at t active tried cut steps run more).looked in record {
        more = looked.more;
        few = looked.few;
        reads = λ x read. looked.reads x (subst (λ (s : Session). is_some (row_read (work_of s.stand).reads x) ≡ true) same read);
      }
  once_looked a n v at t seeks active tried (out why cut w ending told last ended shut hears) steps run goes = out_looked v t (cut.at.session seat) w ended

  -- a line that names a table seeks one key, or may read all that there are
  pub operation_looks : (k : ℕ) → table_of c ≡ Some k → (a : Answer) (v t : View) → phase_at v seat ≡ Active → DidOperationBeside f seat c a v t → (steps : List Step)
      → IsRunOf (kept_at v seat) steps → Continues (t.session seat) (f.session seat) → Looks c v seat t
  operation_looks k names a v t active did steps run goes = elim (named_kind c k names) as (λ _. Looks c v seat t) [
    | inl seeks ↦ inr (once_looked a did.times v did.at t seeks active did.tried (once_of f seat c did.at t a did.once) steps run goes)
    | inr walks ↦ inl walks
  ]

  -- one whose last try found no room
  pub record NoRoom (why : RowStop) (v t : View) : Type 0 where
    pub at : View
    pub asked : Asked
    pub makes : ℕ
    pub claims : ℕ
    pub moved : Moved P makes claims 0 (v.session seat) (at.session seat)
    pub same : t.session seat ≡ at.session seat
    pub less_claims : (oid : ℕ) → asked ≡ asked_claim oid → claims + 1 ≤ claims_of c
    pub less_makes : asked ≡ asked_make → makes + 1 ≤ makes_of c
    pub may_be : (oid : ℕ) → asked ≡ asked_read oid → P oid
    pub looked : SeeksKey c → LookedSo (reads_of c) v seat at asked
    pub refused : After seat (RefusedBeside seat asked why) at t
    pub met : MetBeside f seat asked why at t

  pub no_room : (why : RowStop) → ends why ≡ false → (n : ℕ) (v u t : View) → phase_at v seat ≡ Active → WasTried f seat c n v u → WereCutBeside f seat (FrontOf c) (AsksOf c) why u t
      → (steps : List Step) → IsRunOf (kept_at v seat) steps → Continues (t.session seat) (f.session seat) → NoRoom why v t
  no_room why stays n v u t active tried cut steps run goes =
      let kept = tried_kept f seat c n v u active tried in
      let run_u = tried_run f seat c n v u tried steps run in
      let after = cut_kept f seat c why u t kept.phase cut stays in
      let same : t.session seat ≡ cut.at.session seat = cut_stays f seat c why u t kept.phase cut stays in
      let goes_at = subst (λ (s : Session). GoesTo f seat (work_of s.stand)) same (now_goes t after.phase goes) in
      let tries = tried_moved n v u active tried steps run (goes_before u cut.at (cut_gone f seat c why u t kept.phase cut).more goes_at) in record {
        at = cut.at;
        asked = cut.asked;
        makes = count_makes cut.events;
        claims = count_claims cut.events;
        moved = moved_within P (0 + count_makes cut.events) (0 + count_claims cut.events) (0 + 0) (count_makes cut.events) (count_claims cut.events) 0 (v.session seat) (cut.at.session seat)
            (omega arith) (omega arith) (omega arith)
            (moved_then P 0 0 0 (count_makes cut.events) (count_claims cut.events) 0 (v.session seat) (u.session seat) (cut.at.session seat) tries.moved
            (cut_moved why u t kept.phase cut steps run_u goes_at));
        same = same;
        less_claims = less_claims why u t kept.phase cut steps run_u goes_at;
        less_makes = less_makes why u t kept.phase cut steps run_u goes_at;
        may_be = asked_may_be why u t kept.phase cut steps run_u goes_at;
        looked = λ seeks. let (x, has, more) = goes_at in cut_looked x has seeks why n v u t active tried cut steps run more;
        refused = cut.refused;
        met = cut.met;
      }
