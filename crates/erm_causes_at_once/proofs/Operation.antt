-- What a line of a session that names a table leaves of it, and what a refusal of it asked for.
use Rattle.std.proofs.Common.{◌≡◌, ℕ, zero, suc, ◌<◌, false, List, [], ◌∷◌, ◌++◌, Some, inl, sum_by, refl, sym, ap, ◌∙◌, subst, arith}
use Rattle.erm_model.specs.declared.history.VersionWritten.{VersionWritten}
use Rattle.erm_model.specs.declared.outcome.Phase.TheVariants.{Active}
use Rattle.erm_model.specs.declared.row_stop.RowStop.{RowStop}
use Rattle.erm_model.specs.Lawful.{times_made}
use Rattle.erm_model.specs.RowTransaction.{Asked, asked_claim, ends}
use Rattle.erm_model.specs.Run.{Step}
use Rattle.erm_node.specs.Sound.{sound_law}
use Rattle.erm_report.specs.declared.answer.Answer.{Answer}
use Rattle.erm_script.specs.declared.script.Command.{Command}
use Rattle.erm_script.specs.Script.{IsInRange}
use Rattle.erm_world.specs.Laws.{IsSerializable}
use Rattle.erm_world.specs.World.{Finished, IsSession, Session, View, Work, history_of, made_in, phase_at, work_at, work_of}
use Rattle.erm_world.specs.World as world
use Rattle.erm_maps.specs.Runs.{IsRunOf, Kept, kept_at}
use Rattle.erm_good_report.specs.Causes.{WritesTable}
use Rattle.erm_good_report.specs.Transactions.{Ending, Progress, Transaction, heard, table_of, with_line}
use Rattle.erm_lines.specs.Operations.{AsksOf, DidCalls, FrontOf, WholeOf}
use Rattle.erm_lines.specs.Told.{Continues, TellsNow}
use Rattle.erm_lines_at_once.specs.Operations.{Beside, DidOperationBeside, WasTried, WereCutBeside}
use Rattle.erm_lines.proofs.Saved.{kept_is}
use Rattle.erm_lines_at_once.proofs.Saved.{passed_kept}
use Rattle.erm_told.proofs.Going.{extends_itself}
use Rattle.erm_told_at_once.proofs.Operated.{cut_saves, holds_tried, reached}
use Rattle.erm_causes.specs.Touched.{AreOfTables, Touches, WasClosed}
use Rattle.erm_causes.proofs.Answered.{last_number, last_touches, shut_closed}
use Rattle.erm_causes.proofs.Begun.{KeepBelow}
use Rattle.erm_causes.proofs.Coloured.{AskedOf, KeepsTables}
use Rattle.erm_causes.proofs.Fine.{KeepsSaved, number_told, saved_more, touches_more}
use Rattle.erm_causes.proofs.Lines.{CutFine, lines_before, writes_line}
use Rattle.erm_causes.proofs.Made.{made_over}
use Rattle.erm_causes.proofs.Operated.{EndsBy, GoesOnBy, Last, ShutAs}
use Rattle.erm_causes.proofs.Own.{TreeLaws}
use Rattle.erm_causes.proofs.Quiet.{now_works}
use Rattle.erm_told_limits.proofs.Ran.{active_with}
use Rattle.erm_told_limits.proofs.Given.{HistoryLaws}
use Rattle.erm_causes_at_once.proofs.Called.{IsOut, KeptOn, Once, calls_gone, cut_gone, cut_kept, cut_stays, kept_gone, kept_then, once_of, out, ran_beside, stayed, tried_kept, whole}
use Rattle.erm_causes_at_once.proofs.Free.{ActiveFree, Going, IsFree, active_free, out_free, went_free}
use Rattle.erm_causes_at_once.proofs.Line.{Ahead, Behind, ahead_before, ahead_last, ahead_of, ahead_there, cut_on, last_begin, later_has, over_has, stays_on, tried_on, whole_on}

-- tries leave the run of the operations
pub tried_run : (f : View) (seat : ℕ) (c : Command) (n : ℕ) (v t : View) → WasTried f seat c n v t → (steps : List Step) → IsRunOf (kept_at v seat) steps → IsRunOf (kept_at t seat) steps
tried_run f seat c zero v t passes steps run = subst (λ (k : Kept). IsRunOf k steps) (sym (passed_kept seat v t passes)) run
tried_run f seat c (suc n) v t (u, (other, seen, cut), rest) steps run = tried_run f seat c n u t rest steps (cut.run refl steps run)

pub called_run : (seat : ℕ) (c : Command) (a : Answer) (steps : List Step) (v t : View) → Beside seat (λ u w. DidCalls u seat steps (WholeOf c a) w) v t → (before : List Step)
    → IsRunOf (kept_at v seat) before → IsRunOf (kept_at t seat) (before ++ steps)
called_run seat c a steps v t beside before run =
    let from : kept_at beside.from seat ≡ kept_at v seat =
    kept_is (work_at beside.from seat) (work_at v seat) (beside.from.saves seat) (v.saves seat) (ap (λ (s : Session). work_of s.stand) beside.starts) beside.starts_saves in
    let to : kept_at t seat ≡ kept_at beside.to seat =
    kept_is (work_at t seat) (work_at beside.to seat) (t.saves seat) (beside.to.saves seat) (ap (λ (s : Session). work_of s.stand) beside.stops) beside.stops_saves in
    subst (λ (k : Kept). IsRunOf k (before ++ steps)) (sym to) (beside.did.run before (subst (λ (k : Kept). IsRunOf k before) (sym from) run))

module _ (tree : TreeLaws) (laws : HistoryLaws) (table : ℕ → ℕ) (f : View) (seat : ℕ) (session : IsSession f seat) (holds : IsSerializable sound_law f) (opened : AreOfTables table f.opening.rows)
    (c : Command) (a : Answer) (k : ℕ) (named : table_of c ≡ Some k) (range : IsInRange c) (v u : View) (active : phase_at v seat ≡ Active) (did : DidOperationBeside f seat c a v u)
    (goes : Continues (u.session seat) (f.session seat)) (right : (x : ℕ) → made_in (v.session seat) x < made_in (u.session seat) x → table x ≡ k) (p : Progress)
    (free : IsFree table f p (v.saves seat) (v.session seat)) where
  pub now : ActiveFree table f p.current (kept_at v seat)
  now = active_free table f p.current (v.saves seat) (v.session seat).stand free.now active

  abbrev first : Work
  first = work_at v seat

  abbrev with_it : Transaction
  with_it = with_line (Some c) a now.told

  kept : KeptOn (v.session seat) (did.at.session seat)
  kept = tried_kept f seat c did.times v did.at active did.tried

  run_at : IsRunOf (kept_at did.at seat) now.going.steps
  run_at = tried_run f seat c did.times v did.at did.tried now.going.steps now.going.run

  -- the line's own work, up to its last try
  behind_at : KeepBelow table f first.begin → Ahead table k first (work_at did.at seat) → Behind table with_it first (kept_at did.at seat)
  behind_at keep ahead =
      let fine = now.going.fine keep in
      let here : Behind table with_it first (kept_at v seat) = record {
        touches = touches_more table now.told with_it first (lines_before c a now.told) fine.touches;
        keeps = fine.keeps;
        low = λ x. omega arith;
        steps = now.going.steps;
        run = now.going.run;
      } in
      (tried_on tree table f seat c a k named range now.told first did.times v did.at active did.tried ahead).behind here

  keep_first : (w : Work) → w.begin ≡ first.begin → KeepBelow table f w.begin → KeepBelow table f first.begin
  keep_first w same keep = subst (λ (n : ℕ). KeepBelow table f n) same keep

  -- its savepoints are the ones that it had; it keeps to its tables at them
  saved_at : did.at.saves seat ≡ v.saves seat
  saved_at = (holds_tried f seat c did.times v did.at active did.tried).saves

  going_on : KeptOn (v.session seat) (u.session seat) → u.saves seat ≡ v.saves seat → (KeepBelow table f (work_at u seat).begin → Touches table with_it (work_at u seat) × KeepsTables table (work_at u seat))
      → (steps : List Step) → IsRunOf (kept_at u seat) steps → Going table f with_it (kept_at u seat)
  going_on all same touches steps run = record {
    fine = λ keep.
        let fine = now.going.fine (keep_first (work_at u seat) all.begin keep) in
        let is = touches keep in record {
          touches = is.0;
          keeps = is.1;
          saved = subst (λ (held : List (List VersionWritten)). KeepsSaved table (record { work = work_at u seat; saves = held })) (sym same)
              (saved_more table first (work_at u seat) (v.saves seat) all.more fine.saved);
          steps = steps;
          run = run;
        };
    steps = steps;
    run = run;
  }

  -- where the transaction goes on
  ahead_kept : KeptOn (v.session seat) (u.session seat) → KeepBelow table f (work_at u seat).begin → Ahead table k first (work_at u seat)
  ahead_kept all keep =
      let stand = active_with (u.session seat).stand all.phase in
      let (x, has, more) = later_has f seat (work_at u seat) (goes.active (work_at u seat) stand) in
      ahead_of laws table f seat session holds opened k first (work_at u seat) x has more keep
      (λ y less. right y (omega (arith, less, ap (λ (gs : List Finished). sum_by (λ (g : Finished). times_made g.work.made y) gs) all.over)))

  -- where it ended
  ahead_out : (s : Session) (w : Work) → KeptOn (v.session seat) s → IsOut s w (u.session seat) → KeepBelow table f w.begin → Ahead table k first w
  ahead_out s w all ended keep =
      ahead_of laws table f seat session holds opened k first w w (over_has f seat (u.session seat) s w goes ended) (extends_itself w) keep
      (λ y less. right y (omega (
        arith,
        less,
        ap (λ (r : Session). made_in r y) ended,
        made_over s.over w world.aborts y,
        ap (λ (gs : List Finished). sum_by (λ (g : Finished). times_made g.work.made y) gs) all.over,
      )))

  module _ (why : RowStop) (cut : WereCutBeside f seat (FrontOf c) (AsksOf c) why did.at u) where
    pub kept_cut : KeptOn (v.session seat) (cut.at.session seat)
    kept_cut = kept_then (v.session seat) (did.at.session seat) (cut.at.session seat) kept
        (kept_gone cut.events (did.at.session seat) (cut.at.session seat) (cut_gone f seat c why did.at u kept.phase cut))

    -- what it asked for is of the line's table
    pub out_fine : (w : Work) → Last cut.asked (work_at cut.at seat) w → IsOut (cut.at.session seat) w (u.session seat) → KeepBelow table f w.begin
        → CutFine table k c with_it (work_at cut.at seat) cut.asked
    out_fine w last ended keep =
        let gone = cut_gone f seat c why did.at u kept.phase cut in
        let ahead = ahead_last table k first cut.asked (work_at cut.at seat) w last (ahead_out (cut.at.session seat) w kept_cut ended keep) in
        let behind = behind_at (keep_first w (last_begin cut.asked (work_at cut.at seat) w last ∙ kept_cut.begin) keep)
        (ahead_before table k first cut.events (work_at did.at seat) (work_at cut.at seat) gone.moves ahead) in
        cut_on tree table f seat c a k named range now.told first why did.at u kept.phase cut behind ahead

    pub out_touches : (w : Work) → Last cut.asked (work_at cut.at seat) w → IsOut (cut.at.session seat) w (u.session seat) → KeepBelow table f w.begin → Touches table with_it w
    out_touches w last ended keep = last_touches table k c a now.told (work_at cut.at seat) cut.asked named (out_fine w last ended keep) w last

    kept_on : ends why ≡ false → KeptOn (v.session seat) (u.session seat)
    kept_on stays = kept_then (v.session seat) (did.at.session seat) (u.session seat) kept (cut_kept f seat c why did.at u kept.phase cut stays)

    -- also where the transaction goes on
    stayed_fine : ends why ≡ false → KeepBelow table f (work_at u seat).begin → CutFine table k c with_it (work_at cut.at seat) cut.asked
    stayed_fine stays keep =
        let all = kept_on stays in
        let ahead = ahead_kept all keep in
        let before = ahead_there tree table f seat c a k named range now.told first why did.at u kept.phase cut stays ahead in
        cut_on tree table f seat c a k named range now.told first why did.at u kept.phase cut (behind_at (keep_first (work_at u seat) all.begin keep) before)
        (subst (λ (s : Session). Ahead table k first (work_of s.stand)) (cut_stays f seat c why did.at u kept.phase cut stays) ahead)

    -- so it writes in the table of an object that it asked to claim
    pub claim_writes : ends why ≡ false → KeepBelow table f (work_at u seat).begin → (oid : ℕ) → cut.asked ≡ asked_claim oid → WritesTable with_it (table oid)
    claim_writes stays keep oid asks =
        let fine = stayed_fine stays keep in
        subst (λ (n : ℕ). WritesTable with_it n) (sym (subst (λ (x : Asked). AskedOf table k x) asks fine.asked_is)) (writes_line c a now.told k named (fine.writes oid asks))

    stayed_free : ends why ≡ false → GoesOnBy a → IsFree table f (heard seat (Some c) a p) (u.saves seat) (u.session seat)
    stayed_free stays hears =
        let all = kept_on stays in
        let same : u.saves seat ≡ v.saves seat = cut_saves f seat (FrontOf c) (AsksOf c) why did.at u kept.phase cut stays ∙ saved_at in
        went_free table f seat c a p (v.saves seat) (u.saves seat) (v.session seat) (u.session seat) now.told hears now.is all.over (active_with (u.session seat).stand all.phase)
        (going_on all same
        (λ keep.
        let ahead = ahead_kept all keep in
        let before = ahead_there tree table f seat c a k named range now.told first why did.at u kept.phase cut stays ahead in
        let behind = stays_on tree table f seat c a k named range now.told first why did.at u kept.phase cut stays (behind_at (keep_first (work_at u seat) all.begin keep) before) ahead in
        (behind.touches, behind.keeps))
        now.going.steps (cut.run stays now.going.steps run_at)) free

    ended_free : TellsNow seat p.current (v.session seat).stand → (w : Work) (ending : Ending) → Last cut.asked (work_at cut.at seat) w → IsOut (cut.at.session seat) w (u.session seat) → ShutAs ending f seat w → EndsBy a ending
        → IsFree table f (heard seat (Some c) a p) (u.saves seat) (u.session seat)
    ended_free tells w ending last ended shut hears =
        let g : Finished = record { work = w; fate = world.aborts } in
        let number : now.told.number ≡ w.number =
        number_told seat p.current (v.session seat).stand first now.told tells (now_works (v.session seat).stand first (inl (active_with (v.session seat).stand active))) now.is
        ∙ sym kept_cut.number ∙ sym (last_number cut.asked (work_at cut.at seat) w last) in
        subst (λ (s : Session). IsFree table f (heard seat (Some c) a p) (u.saves seat) s)
        (sym (ended ∙ ap (λ (gs : List Finished). record { over = gs ++ g ∷ []; stand = world.idle }) kept_cut.over))
        (out_free table f seat c a p (v.saves seat) (u.saves seat) (v.session seat) now.told w ending hears now.is (out_touches w last ended)
        (λ succ pred is. subst (λ (e : Ending). WasClosed (history_of f) e w) is (shut_closed f f seat w ending (λ r m. m) shut)) number free)

  whole_free : (steps : List Step) → Beside seat (λ x y. DidCalls x seat steps (WholeOf c a) y) did.at u → GoesOnBy a → IsFree table f (heard seat (Some c) a p) (u.saves seat) (u.session seat)
  whole_free steps beside hears =
      let gone = calls_gone seat c a steps did.at u kept.phase beside in
      let all = kept_then (v.session seat) (did.at.session seat) (u.session seat) kept (kept_gone beside.did.events (did.at.session seat) (u.session seat) gone) in
      let same : u.saves seat ≡ v.saves seat = (reached seat beside.did.events did.at u kept.phase (ran_beside seat c a steps did.at u beside)).saves ∙ saved_at in
      went_free table f seat c a p (v.saves seat) (u.saves seat) (v.session seat) (u.session seat) now.told hears now.is all.over gone.stand
      (going_on all same
      (λ keep.
      let ahead = ahead_kept all keep in
      let behind = behind_at (keep_first (work_at u seat) all.begin keep) (ahead_before table k first beside.did.events (work_at did.at seat) (work_at u seat) gone.moves ahead) in
      whole_on tree table f seat c a k named range now.told first steps did.at u kept.phase beside behind ahead)
      (now.going.steps ++ steps) (called_run seat c a steps did.at u beside now.going.steps run_at)) free

  once_free : TellsNow seat p.current (v.session seat).stand → Once f seat c a did.at u → IsFree table f (heard seat (Some c) a p) (u.saves seat) (u.session seat)
  once_free tells (whole steps beside hears) = whole_free steps beside hears
  once_free tells (stayed why cut stays hears) = stayed_free why cut stays hears
  once_free tells (out why cut w ending told last ended shut hears) = ended_free why cut tells w ending last ended shut hears

  pub operation_free : TellsNow seat p.current (v.session seat).stand → IsFree table f (heard seat (Some c) a p) (u.saves seat) (u.session seat)
  operation_free tells = once_free tells (once_of f seat c did.at u a did.once)
