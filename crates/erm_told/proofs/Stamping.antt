-- The stamps that the report of a run tells agree.
use Rattle.std.proofs.Common.{◌≢◌, ℕ, ◌+◌, ◌<◌, ◌≤◌, List, IfSome, Some, sym, ap, ◌∙◌, arith}
use Rattle.erm_model.specs.declared.limits.TheConstants.{LEAST_BLOCK}
use Rattle.erm_model.specs.Member.{◌∈◌}
use Rattle.erm_node.specs.Sound.{sound_law}
use Rattle.erm_report.specs.declared.answer.Answer.{Answer}
use Rattle.erm_script.specs.declared.script.ScriptLine.{ScriptLine}
use Rattle.erm_world.specs.Laws.{IsSerializable}
use Rattle.erm_world.specs.World.{Fate, Finished, HasStamp, IsSession, Session, View}
use Rattle.erm_world.specs.World as world
use Rattle.erm_good_report.specs.GoodReport.{places_of}
use Rattle.erm_good_report.specs.Opening.{InTurn, Opening}
use Rattle.erm_good_report.specs.Phases.{Closed}
use Rattle.erm_good_report.specs.Stamps.{StampsAgree, Told, begin_told, place_told, stamp_drawn, stamp_printed}
use Rattle.erm_good_report.specs.Transactions.{Transaction, said_of, stamp_of, transactions_of}
use Rattle.erm_lines.specs.Executions.{AreClosed, IsCourse, IsOpeningOf}
use Rattle.erm_lines.specs.Laws.{ExecutionsGoOn, ExecutionsTell, OfCourses}
use Rattle.erm_told.proofs.Ended.{at_end, opening_is, report}
use Rattle.erm_told.proofs.Endings.{if_told, told_from}
use Rattle.erm_told.proofs.Pairs.{all_pairs, pairs_from}
use Rattle.erm_told.proofs.Reported.{Differ, IsTold}
use Rattle.erm_told.proofs.Timing.{all_before, all_stop, in_time}
use Rattle.erm_told.proofs.Untold.{untold_above, untold_below}

module _ (v : View) (lawful : IsSerializable sound_law v) where
  stamps_differ : (t u : Transaction) → IsTold v t → IsTold v u → Differ t u → Told (λ a b. a ≢ b) (stamp_of t) (stamp_of u)
  stamps_differ t u told then_told differ = told_from (stamp_of t) (stamp_of u) (λ a b. a ≢ b) (λ m n is then_is same.
      let first = told.own.stamped m is in
      let second = then_told.own.stamped m (then_is ∙ ap (λ (k : ℕ). Some k) (sym same)) in
      let one = lawful.differ told.seat then_told.seat told.own.work then_told.own.work m told.session then_told.session first second in
      differ (told.own.tells.session ∙ one.0 ∙ sym then_told.own.tells.session) (told.own.tells.number ∙ one.1 ∙ sym then_told.own.tells.number))

  stamp_above : (t : Transaction) → IsTold v t → IfSome (stamp_of t) (λ stamp. t.begin ≤ stamp)
  stamp_above t told = if_told (stamp_of t) (λ stamp. t.begin ≤ stamp) (λ stamp is.
      let above = (lawful.stamps told.seat told.own.work stamp told.session (told.own.stamped stamp is)).0 in
      omega (arith, above, told.own.tells.begin))

  begin_above : (t : Transaction) → IsTold v t → v.opening.tail ≤ t.begin
  begin_above t told =
      let above = (lawful.begins told.seat told.own.work told.session told.own.has).0 in
      omega (arith, above, told.own.tells.begin)

module _ (tell : ExecutionsTell) (go : ExecutionsGoOn) where
  module _ (v t : View) (script : List ScriptLine) (answers : List Answer) (run : IsCourse v script answers t) (closed : List Closed) (opening : Opening)
      (are : AreClosed run.closing closed) (of : IsOpeningOf v opening) where
    lawful : IsSerializable sound_law t
    lawful = at_end tell go v t script answers run closed are

    -- each that is told is one of the world
    of_world : (u : Transaction) → u ∈ transactions_of v.opening.sessions (places_of script answers closed) → IsTold t u
    of_world = (report tell go v t script answers run closed are).0

    pub stamps_agree : StampsAgree InTurn opening (transactions_of v.opening.sessions (places_of script answers closed)) (said_of script answers)
    stamps_agree =
        let told = transactions_of v.opening.sessions (places_of script answers closed) in
        let before = all_before go script answers v run.between run.lines in record {
          differ = all_pairs (λ u w. Told (λ a b. a ≢ b) (stamp_of u) (stamp_of w)) told
              (pairs_from Differ (λ u w. Told (λ a b. a ≢ b) (stamp_of u) (stamp_of w)) told (report tell go v t script answers run closed are).1
              (λ u w m n differ. stamps_differ t lawful u w (of_world u m) (of_world w n) differ));
          least = λ u m. omega (arith, begin_above t lawful u (of_world u m), ap (λ (o : world.Opening). o.tail) (opening_is tell go v t script answers run closed are), of.stamp);
          begun = λ u m. stamp_above t lawful u (of_world u m);
          sealed = λ u m. (of_world u m).own.agrees;
          begins = in_time (λ a b. Told (λ stamp begin. stamp < begin) (stamp_printed a.answer) (begin_told b.answer)) (said_of script answers) before
              (λ a b is. told_from (stamp_printed a.answer) (begin_told b.answer) (λ stamp begin. stamp < begin) is.begins);
          draws = in_time (λ a b. Told (λ begin stamp. begin ≤ stamp) (begin_told a.answer) (stamp_drawn b.asked b.answer)) (said_of script answers) before
              (λ a b is. told_from (begin_told a.answer) (stamp_drawn b.asked b.answer) (λ begin stamp. begin ≤ stamp) is.draws);
          ascends = in_time (λ a b. Told (λ first later. first + LEAST_BLOCK ≤ later) (stamp_drawn a.asked a.answer) (stamp_drawn b.asked b.answer)) (said_of script answers) before
              (λ a b is. told_from (stamp_drawn a.asked a.answer) (stamp_drawn b.asked b.answer) (λ first later. first + LEAST_BLOCK ≤ later) is.ascends);
          flushes = in_time (λ a b. Told (λ place begin. place ≤ begin) (place_told a.answer) (begin_told b.answer)) (said_of script answers) before
              (λ a b is. told_from (place_told a.answer) (begin_told b.answer) (λ place begin. place ≤ begin) is.flushes);
          flushes_first = in_time (λ a b. Told (λ place stamp. place ≤ stamp) (place_told a.answer) (stamp_drawn b.asked b.answer)) (said_of script answers) before
              (λ a b is. told_from (place_told a.answer) (stamp_drawn b.asked b.answer) (λ place stamp. place ≤ stamp) is.flushes_first);
          begins_ascend = in_time (λ a b. Told (λ first later. first ≤ later) (begin_told a.answer) (begin_told b.answer)) (said_of script answers) before
              (λ a b is. told_from (begin_told a.answer) (begin_told b.answer) (λ first later. first ≤ later) is.begins_ascend);
          stops = λ in_turn s m. all_stop go script answers v run.between run.lines s m;
          untold_after = λ i j stamp s drawn before at mode other. untold_below tell go v t script answers run closed are i stamp drawn j s before at;
          untold_before = λ i j stamp s drawn behind at mode. untold_above tell go v t script answers run closed are i stamp drawn j s behind at;
        }

  pub stamps : OfCourses (λ opening script answers closed told. StampsAgree InTurn opening told (said_of script answers))
  stamps v t script answers run closed opening are of = stamps_agree v t script answers run closed opening are of
