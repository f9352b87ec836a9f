-- A line that names a table leaves its session's transaction so that its lines tell what it touched.
use Rattle.std.proofs.Common.{◌≡◌, ℕ, zero, suc, ◌≤◌, false, List, [], ◌∷◌, ◌++◌, length, option_and_then, Some, None, inl, inr, refl, sym, ap, ◌∙◌, subst, arith}
use Rattle.erm_model.specs.declared.history.VersionWritten.{VersionWritten}
use Rattle.erm_model.specs.declared.outcome.Phase.TheVariants.{Active}
use Rattle.erm_model.specs.declared.row_stop.RowStop.{RowStop}
use Rattle.erm_model.specs.declared.row_stop.RowStop.TheVariants as stop
use Rattle.erm_model.specs.Lawful.{times_made}
use Rattle.erm_model.specs.RowTransaction.{Event, OnlyReads, after_all, ends}
use Rattle.erm_model.specs.Rows.{Rows}
use Rattle.erm_model.specs.Run.{Step}
use Rattle.erm_model.proofs.RowCalls.{after_all-OnlyReads, after_all-WritesNothing}
use Rattle.erm_node.specs.Sound.{sound_law}
use Rattle.erm_node.specs.TreeMap.{record_in}
use Rattle.erm_report.specs.declared.answer.Answer.{Answer}
use Rattle.erm_report.specs.declared.answer.Answer.TheVariants as answer
use Rattle.erm_script.specs.declared.script.Command.{Command}
use Rattle.erm_script.specs.Script.{IsInRange}
use Rattle.erm_world.specs.Going.{Extends}
use Rattle.erm_world.specs.Laws.{FitsWork, IsSerializable}
use Rattle.erm_world.specs.Onward.{extends_then}
use Rattle.erm_world.specs.Works.{seen_by}
use Rattle.erm_world.specs.World.{Finished, Has, IsSession, Session, View, Work, phase_at, phase_of, work_at, work_of}
use Rattle.erm_world.specs.World as world
use Rattle.erm_maps.specs.Runs.{IsRunOf, kept_at}
use Rattle.erm_good_report.specs.Transactions.{Exchange, Progress, heard, reply_in, table_of}
use Rattle.erm_good_report.specs.Windows.{ChangesKey, IsReplied, IsTidied}
use Rattle.erm_lines.specs.Operations.{AsksOf, DidCalls, FrontOf, Ran, WholeOf}
use Rattle.erm_lines.specs.Told.{Continues, TellsNow}
use Rattle.erm_lines_at_once.specs.Operations.{Beside, DidOnce, DidOperationBeside, WasTried, WereCutBeside, told_at_once}
use Rattle.erm_told_at_once.proofs.Operated.{cut_saves, holds_tried, reached}
use Rattle.erm_causes.proofs.Answered.{last_number}
use Rattle.erm_causes.proofs.Fine.{number_told}
use Rattle.erm_causes.proofs.Lines.{named_works}
use Rattle.erm_causes.proofs.Operated.{GoesOnBy}
use Rattle.erm_causes.proofs.Own.{no_claims}
use Rattle.erm_causes.proofs.Quiet.{now_works}
use Rattle.erm_causes_at_once.proofs.Called.{CutOnce, KeptOn, calls_gone, cut_as, cut_gone, cut_kept, cut_stays, ends_so, kept_gone, kept_then, ran_beside, stays_so, tried_kept}
use Rattle.erm_causes_at_once.proofs.Line.{extended_made, later_has}
use Rattle.erm_causes_at_once.proofs.Operation.{called_run, tried_run}
use Rattle.erm_told_limits.proofs.Holds.{Laws}
use Rattle.erm_told_limits.proofs.Ran.{MovesAll, active_with}
use Rattle.erm_limits_at_once.proofs.Looked.{BeganIn, began_in, tried_more, waits_only}
use Rattle.erm_limits_at_once.proofs.Tried.{beside_works}
use Rattle.erm_tight.proofs.Calls.{KeepsRecords, same_kept}
use Rattle.erm_tight.proofs.Marks.{LineDid, Marks, marks_then}
use Rattle.erm_tight.proofs.Moves.{IsGoing, now_active}
use Rattle.erm_tight.proofs.Saved.{Goes, saved_on}
use Rattle.erm_tight.proofs.Stays.{HasIn, kept_from, saved_same, stays_of}
use Rattle.erm_tight.proofs.Went.{Leaves, leaves}
use Rattle.erm_tight.proofs.Whole.{KeyLaws, front_only, tidy_did, whole_did}
use Rattle.erm_tight.proofs.Lines.{cut_over, line_did, replied_over}
use Rattle.erm_tight_at_once.proofs.Marked.{AreMarks, out_marks, went_marks}

-- READS leave what the lines tell.
module _ (lines : List Exchange) (w u : Work) (events : List Event) (moves : MovesAll sound_law w events u) (left : Leaves w events u) (only : OnlyReads events) where
  seen_same : (rows : Rows) → FitsWork sound_law u rows → seen_by u rows ≡ seen_by w rows
  seen_same rows fits = moves.seen rows fits ∙ after_all-OnlyReads events only (seen_by w rows)

  pub marks_read : Marks lines w → Marks lines u
  marks_read marks = record {
    kept = λ rows sound fits. subst (λ (seen : Rows). KeepsRecords rows seen) (sym (seen_same rows fits)) (marks.kept rows sound (moves.fitted rows fits));
    touched = λ rows sound fits table key x line is. left.touched x (marks.touched rows sound (moves.fitted rows fits) table key x line is);
    puts = λ table key line.
        let had = marks.puts table key line in (
          had.0,
          (
            had.1.0,
            λ rows sound fits.
                let put = had.1.1 rows sound (moves.fitted rows fits) in
                (ap (λ (rs : Rows). record_in rs table key) (seen_same rows fits) ∙ put.0, left.claimed had.1.0 put.1),
          ),
        );
    changes = λ rows sound fits table key x line is. left.claimed x (marks.changes rows sound (moves.fitted rows fits) table key x line is);
    only = λ rows sound fits table key x below is claimed. elim (moves.claims x claimed) as (λ _. HasIn (ChangesKey table key) lines) [
      | inl before ↦ marks.only rows sound (moves.fitted rows fits) table key x below is before
      | inr by ↦ absurd (no_claims events only x by)
    ];
  }

-- REFUSED. No refusal is a reply.
no_reply : (why : RowStop) → option_and_then reply_in (told_at_once why) ≡ None
no_reply (stop.NotYet other seen) = refl
no_reply stop.ReadsFull = refl
no_reply (stop.Owned other number) = refl
no_reply (stop.Newer stamp) = refl
no_reply stop.WritesFull = refl
no_reply (stop.CellsFull drawn) = refl
no_reply (stop.OidsFull drawn) = refl
no_reply (stop.Excluded succ pred) = refl
no_reply stop.Memory = refl

unreplied : (why : RowStop) (a : Answer) → told_at_once why ≡ Some a → IsReplied a → ⊥
unreplied why a told (r, is) = let never : None ≡ Some r = sym (no_reply why) ∙ ap (option_and_then reply_in) told ∙ is in cc

-- WHAT A LINE DID, by its command.
module _ (keys : KeyLaws) (c : Command) (k : ℕ) (named : table_of c ≡ Some k) (range : IsInRange c) where
  abbrev line : Answer → Exchange
  line a = record { asked = c; answer = a }

  front_did : (a : Answer) → (IsReplied a → ⊥) → (IsTidied a → ⊥) → (f : View) (seat : ℕ) (why : RowStop) (v t : View) (cut : WereCutBeside f seat (FrontOf c) (AsksOf c) why v t)
      → LineDid (record { asked = c; answer = a }) cut.events
  front_did a replied tidied f seat why v t cut = record {
    kept = λ rows sound agrees. same_kept keys.rows rows (after_all cut.events rows) (after_all-WritesNothing cut.events cut.none rows);
    gets = λ table key gets. absurd (replied gets.1);
    puts = λ table key puts. absurd (replied puts.1);
    changes = λ table key changes. elim changes [ inl deletes ↦ absurd (replied deletes.1) | inr tidies ↦ absurd (tidied tidies.1) ];
    only = λ rows sound agrees table key x below is by.
        absurd (front_only keys cut.events c k named range cut.none rows sound agrees (cut.of rows sound agrees) table key x below is by);
  }

  -- THE CALLS of a work that goes on to one of the world in which all end.
  module _ (f : View) (seat : ℕ) where
    cut_leaves : (why : RowStop) (v t : View) → phase_at v seat ≡ Active → (cut : WereCutBeside f seat (FrontOf c) (AsksOf c) why v t) → Leaves (work_at v seat) cut.events (work_at cut.at seat)
    cut_leaves why v t active cut =
        beside_works seat (λ u w. Ran u seat cut.events w) (λ w y. Leaves w cut.events y) v cut.at cut.ran
        (leaves cut.events cut.ran.from cut.ran.to seat (ap (λ (s : Session). phase_of s.stand) cut.ran.starts ∙ active) cut.ran.did)

    module _ (last : Work) (began : BeganIn last) where
      made_few : (w : Work) → Extends w last → (x : ℕ) → times_made w.made x ≤ 1
      made_few w more x = let less = extended_made w last more x in let one = began.once x in omega (arith, less, one)

      tried_marks : (lines : List Exchange) (n : ℕ) (v t : View) → phase_at v seat ≡ Active → WasTried f seat c n v t → (steps : List Step) → IsRunOf (kept_at v seat) steps
          → Extends (work_at t seat) last → Marks lines (work_at v seat) → Marks lines (work_at t seat)
      tried_marks lines zero v t active passes steps run more marks = subst (λ (s : Session). Marks lines (work_of s.stand)) (sym passes.own) marks
      tried_marks lines (suc n) v t active (u, (other, seen, cut), rest) steps run more marks =
          let why = stop.NotYet other seen in
          let kept = cut_kept f seat c why v u active cut refl in
          let same : u.session seat ≡ cut.at.session seat = cut_stays f seat c why v u active cut refl in
          let gone = cut_gone f seat c why v u active cut in
          let more_u = extends_then (work_at u seat) (work_at t seat) last (tried_more f seat c n u t kept.phase rest) more in
          let more_at = subst (λ (s : Session). Extends (work_of s.stand) last) same more_u in
          let only = waits_only last began f seat c other seen v u active cut steps run more_at in
          let first = marks_read lines (work_at v seat) (work_at cut.at seat) cut.events gone.moves (cut_leaves why v u active cut) only marks in
          tried_marks lines n u t kept.phase rest steps (cut.run refl steps run) more (subst (λ (s : Session). Marks lines (work_of s.stand)) (sym same) first)

      whole_marks : (a : Answer) (lines : List Exchange) (now : List Step) (v t : View) → phase_at v seat ≡ Active → (beside : Beside seat (λ x y. DidCalls x seat now (WholeOf c a) y) v t)
          → (steps : List Step) → IsRunOf (kept_at v seat) steps → Extends (work_at t seat) last → LineDid (record { asked = c; answer = a }) beside.did.events → Marks lines (work_at v seat)
          → Marks (lines ++ record { asked = c; answer = a } ∷ []) (work_at t seat)
      whole_marks a lines now v t active beside steps run more did marks =
          let events = beside.did.events in
          let gone = calls_gone seat c a now v t active beside in
          let left : Leaves (work_at v seat) events (work_at t seat) =
          beside_works seat (λ x y. DidCalls x seat now (WholeOf c a) y) (λ w y. Leaves w beside.did.events y) v t beside
          (leaves beside.did.events beside.from beside.to seat (ap (λ (s : Session). phase_of s.stand) beside.starts ∙ active) beside.did.ran) in
          marks_then lines (stays_of lines).now (work_at v seat) (work_at t seat) (record { asked = c; answer = a }) events gone.moves left run.lawful (made_few (work_at t seat) more) did marks
          (stays_of (lines ++ record { asked = c; answer = a } ∷ [])).now (λ P has. kept_from P lines (record { asked = c; answer = a }) k named has)

      cut_marks : (a : Answer) (lines : List Exchange) (why : RowStop) (v t : View) → phase_at v seat ≡ Active → (cut : WereCutBeside f seat (FrontOf c) (AsksOf c) why v t)
          → (steps : List Step) → IsRunOf (kept_at v seat) steps → Extends (work_at cut.at seat) last → LineDid (record { asked = c; answer = a }) cut.events → Marks lines (work_at v seat)
          → Marks (lines ++ record { asked = c; answer = a } ∷ []) (work_at cut.at seat)
      cut_marks a lines why v t active cut steps run more did marks =
          let gone = cut_gone f seat c why v t active cut in
          marks_then lines (stays_of lines).now (work_at v seat) (work_at cut.at seat) (record { asked = c; answer = a }) cut.events gone.moves (cut_leaves why v t active cut) run.lawful
          (made_few (work_at cut.at seat) more) did marks
          (stays_of (lines ++ record { asked = c; answer = a } ∷ [])).now (λ P has. kept_from P lines (record { asked = c; answer = a }) k named has)

  -- THE WHOLE LINE.
  module _ (laws : Laws) (f : View) (seat : ℕ) (session : IsSession f seat) (holds : IsSerializable sound_law f) (p : Progress) (v t : View) (active : phase_at v seat ≡ Active)
      (goes : Continues (t.session seat) (f.session seat)) (tells : TellsNow seat p.current (v.session seat).stand) (marks : AreMarks p (v.saves seat) (v.session seat)) (n : ℕ) (at : View) (tried : WasTried f seat c n v at) where
    going : IsGoing p.current (kept_at v seat)
    going = now_active p.current (v.saves seat) (v.session seat).stand marks.now active

    -- its number is told
    number_now : going.told.number ≡ (work_at v seat).number
    number_now = number_told seat p.current (v.session seat).stand (work_at v seat) going.told tells
        (now_works (v.session seat).stand (work_at v seat) (inl (active_with (v.session seat).stand active))) going.is

    run_at : IsRunOf (kept_at at seat) going.steps
    run_at = tried_run f seat c n v at tried going.steps going.run

    active_at : phase_at at seat ≡ Active
    active_at = (tried_kept f seat c n v at active tried).phase

    saved_at : at.saves seat ≡ v.saves seat
    saved_at = (holds_tried f seat c n v at active tried).saves

    -- with the line, and at its savepoints
    goes_now : (a : Answer) → KeptOn (v.session seat) (t.session seat) → t.saves seat ≡ v.saves seat → Marks (going.told.lines ++ record { asked = c; answer = a } ∷ []) (work_at t seat)
        → Goes (going.told.lines ++ record { asked = c; answer = a } ∷ []) (kept_at t seat)
    goes_now a all same lines =
        let e : Exchange = record { asked = c; answer = a } in
        subst (λ (held : List (List VersionWritten)). Goes (going.told.lines ++ e ∷ []) (record { work = work_at t seat; saves = held })) (sym same) (record {
          marks = lines;
          held = ap (λ (list : List (List Exchange)). length list) (saved_same going.told.lines e k named) ∙ going.goes.held;
          saved = saved_on going.told.lines (going.told.lines ++ e ∷ []) (v.saves seat) (work_at v seat) (work_at t seat) all.more (saved_same going.told.lines e k named) going.goes.saved;
        })

    last_of : phase_at t seat ≡ Active → (x : Work) × Has f seat x × Extends (work_at t seat) x
    last_of there = later_has f seat (work_at t seat) (goes.active (work_at t seat) (active_with (t.session seat).stand there))

    whole_line : (a : Answer) (now : List Step) → (beside : Beside seat (λ x y. DidCalls x seat now (WholeOf c a) y) at t) → LineDid (record { asked = c; answer = a }) beside.did.events → GoesOnBy a
        → AreMarks (heard seat (Some c) a p) (t.saves seat) (t.session seat)
    whole_line a now beside did hears =
        let gone = calls_gone seat c a now at t active_at beside in
        let all = kept_then (v.session seat) (at.session seat) (t.session seat) (tried_kept f seat c n v at active tried)
        (kept_gone beside.did.events (at.session seat) (t.session seat) gone) in
        let (x, has, more) = last_of all.phase in
        let began = began_in laws f seat session holds x has in
        let more_at = extends_then (work_at at seat) (work_at t seat) x gone.more more in
        let before = tried_marks f seat x began going.told.lines n v at active tried going.steps going.run more_at going.goes.marks in
        let lines = whole_marks f seat x began a going.told.lines now at t active_at beside going.steps run_at more did before in
        let same : t.saves seat ≡ v.saves seat = (reached seat beside.did.events at t active_at (ran_beside seat c a now at t beside)).saves ∙ saved_at in
        went_marks seat c a p (v.saves seat) (t.saves seat) (v.session seat) (t.session seat) going.told (named_works c k named) hears going.is all.over gone.stand (goes_now a all same lines)
        (going.steps ++ now) (called_run seat c a now at t beside going.steps run_at) marks

    stays_line : (a : Answer) → (IsReplied a → ⊥) → (IsTidied a → ⊥) → (why : RowStop) → WereCutBeside f seat (FrontOf c) (AsksOf c) why at t → ends why ≡ false → GoesOnBy a
        → AreMarks (heard seat (Some c) a p) (t.saves seat) (t.session seat)
    stays_line a replied tidied why cut stays hears =
        let same : t.session seat ≡ cut.at.session seat = cut_stays f seat c why at t active_at cut stays in
        let gone = cut_gone f seat c why at t active_at cut in
        let all = kept_then (v.session seat) (at.session seat) (t.session seat) (tried_kept f seat c n v at active tried) (cut_kept f seat c why at t active_at cut stays) in
        let (x, has, more) = last_of all.phase in
        let began = began_in laws f seat session holds x has in
        let more_cut = subst (λ (s : Session). Extends (work_of s.stand) x) same more in
        let more_at = extends_then (work_at at seat) (work_at cut.at seat) x gone.more more_cut in
        let before = tried_marks f seat x began going.told.lines n v at active tried going.steps going.run more_at going.goes.marks in
        let lines = cut_marks f seat x began a going.told.lines why at t active_at cut going.steps run_at more_cut (front_did a replied tidied f seat why at t cut) before in
        let held : t.saves seat ≡ v.saves seat = cut_saves f seat (FrontOf c) (AsksOf c) why at t active_at cut stays ∙ saved_at in
        went_marks seat c a p (v.saves seat) (t.saves seat) (v.session seat) (t.session seat) going.told (named_works c k named) hears going.is all.over (active_with (t.session seat).stand all.phase)
        (goes_now a all held (subst (λ (s : Session). Marks (going.told.lines ++ record { asked = c; answer = a } ∷ []) (work_of s.stand)) (sym same) lines))
        going.steps (cut.run stays going.steps run_at) marks

    refused_line : (a : Answer) → (IsReplied a → ⊥) → (IsTidied a → ⊥) → CutOnce f seat c a at t → AreMarks (heard seat (Some c) a p) (t.saves seat) (t.session seat)
    refused_line a replied tidied (stays_so why cut stays hears) = stays_line a replied tidied why cut stays hears
    refused_line a replied tidied (ends_so why cut w ending told_so last ended shut hears) =
        let g : Finished = record { work = w; fate = world.aborts } in
        let gone = cut_gone f seat c why at t active_at cut in
        let all = kept_then (v.session seat) (at.session seat) (cut.at.session seat) (tried_kept f seat c n v at active tried)
        (kept_gone cut.events (at.session seat) (cut.at.session seat) gone) in
        subst (λ (s : Session). AreMarks (heard seat (Some c) a p) (t.saves seat) s)
        (sym (ended ∙ ap (λ (gs : List Finished). record { over = gs ++ g ∷ []; stand = world.idle }) all.over))
        (out_marks seat c a p (v.saves seat) (t.saves seat) (v.session seat) going.told w ending hears going.is (number_now ∙ sym (last_number cut.asked (work_at cut.at seat) w last ∙ all.number)) marks)

    refused_as : (a : Answer) → (IsReplied a → ⊥) → (IsTidied a → ⊥) → (why : RowStop) × (told_at_once why ≡ Some a) × WereCutBeside f seat (FrontOf c) (AsksOf c) why at t
        → AreMarks (heard seat (Some c) a p) (t.saves seat) (t.session seat)
    refused_as a replied tidied did = refused_line a replied tidied (cut_as f seat c at t a did)

    once_marks : (a : Answer) → DidOnce f seat c a at t → AreMarks (heard seat (Some c) a p) (t.saves seat) (t.session seat)
    once_marks (answer.Replied r) (o, is, beside) =
        whole_line (answer.Replied r) (record { op = o; reply = r } ∷ []) beside
        (line_did c (answer.Replied r) beside.did.events (replied_over c r o is)
        (whole_did keys beside.did.events c k named range r o is (λ rows sound agrees. beside.did.of rows sound agrees)
        (λ rows sound agrees. beside.did.right (record { op = o; reply = r }) refl rows sound agrees)))
        (λ q asked p. refl)
    once_marks (answer.Cut cells) (none, few, beside) =
        whole_line (answer.Cut cells) [] beside
        (line_did c (answer.Cut cells) beside.did.events (cut_over c cells none)
        (tidy_did keys beside.did.events c k named range cells none (λ rows sound agrees. beside.did.of rows sound agrees)))
        (λ q asked p. refl)
    once_marks a did = refused_as a (λ replied. unreplied did.0 a did.1 replied) (λ tidied. let other = tidied.1 in cc) did

  pub operation_marks : Laws → (f : View) (seat : ℕ) → IsSession f seat → IsSerializable sound_law f → (a : Answer) (p : Progress) (v t : View) → phase_at v seat ≡ Active
      → DidOperationBeside f seat c a v t → Continues (t.session seat) (f.session seat) → TellsNow seat p.current (v.session seat).stand → AreMarks p (v.saves seat) (v.session seat) → AreMarks (heard seat (Some c) a p) (t.saves seat) (t.session seat)
  operation_marks laws f seat session holds a p v t active did goes tells marks =
      once_marks laws f seat session holds p v t active goes tells marks did.times did.at did.tried a did.once
