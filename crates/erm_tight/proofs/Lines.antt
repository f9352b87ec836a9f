-- A line that names a table, by what its calls did to the records of keys.
use Rattle.std.proofs.Common.{◌≡◌, ℕ, false, List, [], ◌∷◌, ◌++◌, Some, None, option_and_then, inl, inr, refl, sym, ap, ◌∙◌, subst}
use Rattle.erm_model.specs.declared.outcome.Phase.TheVariants.{Active}
use Rattle.erm_model.specs.declared.row_stop.RowStop.{RowStop}
use Rattle.erm_model.specs.declared.row_stop.RowStop.TheVariants as stop
use Rattle.erm_model.specs.RowTransaction.{Event, ends}
use Rattle.erm_model.specs.Run.{Step}
use Rattle.erm_model.proofs.RowCalls.{after_all-WritesNothing}
use Rattle.erm_model.specs.declared.operation.Op.{Op}
use Rattle.erm_model.specs.declared.operation.Reply.{Reply}
use Rattle.erm_node.specs.Sound.{sound_law}
use Rattle.erm_world.specs.Calls.{IsDone}
use Rattle.erm_world.specs.World.{Finished, Session, View, Work, phase_at, phase_of, work_at}
use Rattle.erm_world.specs.World as world
use Rattle.erm_world.proofs.Txns.{stopped}
use Rattle.erm_maps.specs.Runs.{IsRunOf, kept_at}
use Rattle.erm_report.specs.declared.answer.Answer.{Answer}
use Rattle.erm_report.specs.declared.answer.Answer.TheVariants as answer
use Rattle.erm_script.specs.declared.script.Command.{Command}
use Rattle.erm_script.specs.declared.script.Command.TheVariants as command
use Rattle.erm_script.specs.Script.{IsInRange}
use Rattle.erm_good_report.specs.Transactions.{Aborts, Ending, Excludes, op_of, reply_in, table_of}
use Rattle.erm_good_report.specs.Windows.{ChangesKey, IsReplied, IsTidied}
use Rattle.erm_lines.specs.Answers.{DidOperation, WasRefusedAs, stop_told}
use Rattle.erm_lines.specs.Operations.{AsksOf, FrontOf, Ran, WereCutOff}
use Rattle.erm_causes.proofs.Answered.{last_number}
use Rattle.erm_causes.proofs.Operated.{EndsBy, GoesOnBy, excluded_done, newer_done, owned_done}
use Rattle.erm_told_limits.proofs.Ran.{ran}
use Rattle.erm_tight.proofs.Calls.{same_kept}
use Rattle.erm_tight.proofs.Marks.{LineDid}
use Rattle.erm_tight.proofs.Whole.{KeyLaws, Overwrites, WholeDid, front_only, tidy_did, whole_did}

-- The calls were answered, and left the transaction in progress; or the last one's refusal ended it.
pub data Called (v : View) (seat : ℕ) (c : Command) (a : Answer) (u : View) : Type 0 where
  goes : (events : List Event) → Ran v seat events u → LineDid (record { asked = c; answer = a }) events
      → ((before : List Step) → IsRunOf (kept_at v seat) before → (steps : List Step) × IsRunOf (kept_at u seat) steps) → GoesOnBy a → Called v seat c a u
  out : (w : Work) (ending : Ending) → w.number ≡ (work_at v seat).number → u.session seat ≡ record { over = (v.session seat).over ++ record { work = w; fate = world.aborts } ∷ []; stand = world.idle } → EndsBy a ending
      → Called v seat c a u

-- REFUSED. No refusal is a reply, and none tells how many versions were cut off.
no_reply : (why : RowStop) → option_and_then reply_in (stop_told why) ≡ None
no_reply (stop.NotYet other seen) = refl
no_reply stop.ReadsFull = refl
no_reply (stop.Owned other number) = refl
no_reply (stop.Newer stamp) = refl
no_reply stop.WritesFull = refl
no_reply (stop.CellsFull drawn) = refl
no_reply (stop.OidsFull drawn) = refl
no_reply (stop.Excluded succ pred) = refl
no_reply stop.Memory = refl

unreplied : (why : RowStop) (a : Answer) → stop_told why ≡ Some a → IsReplied a → ⊥
unreplied why a told (r, is) = let never : None ≡ Some r = sym (no_reply why) ∙ ap (option_and_then reply_in) told ∙ is in cc

untold_cut : (why : RowStop) (cells : ℕ) → stop_told why ≡ Some (answer.Cut cells) → ⊥
untold_cut (stop.NotYet other seen) cells told = cc
untold_cut stop.ReadsFull cells told = cc
untold_cut (stop.Owned other number) cells told = cc
untold_cut (stop.Newer stamp) cells told = cc
untold_cut stop.WritesFull cells told = cc
untold_cut (stop.CellsFull drawn) cells told = cc
untold_cut (stop.OidsFull drawn) cells told = cc
untold_cut (stop.Excluded succ pred) cells told = cc
untold_cut stop.Memory cells told = cc

untidied : (why : RowStop) (a : Answer) → stop_told why ≡ Some a → IsTidied a → ⊥
untidied why a told (cells, is) = untold_cut why cells (told ∙ ap (λ (b : Answer). Some b) is)

-- ANSWERED. What the events of a whole line tell of it.
module _ (c : Command) where
  pub line_did : (a : Answer) (events : List Event) → ((table key : ℕ) → Overwrites table key c → ChangesKey table key (record { asked = c; answer = a })) → WholeDid c events
      → LineDid (record { asked = c; answer = a }) events
  line_did a events over did = record {
    kept = did.kept;
    gets = λ table key gets. did.gets table key gets.0;
    puts = λ table key puts. did.puts table key puts.0.0 puts.0.1;
    changes = λ table key changes. elim changes [ inl deletes ↦ did.writes table key (inl deletes.0) | inr tidies ↦ did.writes table key (inr tidies.0) ];
    only = λ rows sound agrees table key x below is by. over table key (did.only rows sound agrees table key x below is by);
  }

  pub replied_over : (r : Reply) (o : Op) → op_of c ≡ Some o → (table key : ℕ) → Overwrites table key c
      → ChangesKey table key (record { asked = c; answer = answer.Replied r })
  replied_over r o is table key (inl put) = inl (put, (r, refl))
  replied_over r o is table key (inr (inl del)) = inr (inl (del, (r, refl)))
  replied_over r o is table key (inr (inr tidy)) = let never : None ≡ Some o = sym (ap op_of tidy) ∙ is in cc

  pub cut_over : (cells : ℕ) → op_of c ≡ None → (table key : ℕ) → Overwrites table key c → ChangesKey table key (record { asked = c; answer = answer.Cut cells })
  cut_over cells is table key (inl put) = let never : op_of (command.Put table key put.0) ≡ None = sym (ap op_of put.1) ∙ is in cc
  cut_over cells is table key (inr (inl del)) = let never : op_of (command.Del table key) ≡ None = sym (ap op_of del) ∙ is in cc
  cut_over cells is table key (inr (inr tidy)) = inr (inr (tidy, (cells, refl)))

module _ (laws : KeyLaws) (v u : View) (seat : ℕ) (c : Command) (k : ℕ) (named : table_of c ≡ Some k) (range : IsInRange c) (active : phase_at v seat ≡ Active) where
  -- CUT OFF.
  module _ (a : Answer) (replied : IsReplied a → ⊥) (tidied : IsTidied a → ⊥) where
    front_did : (why : RowStop) (did : WereCutOff v seat (FrontOf c) (AsksOf c) why u) → LineDid (record { asked = c; answer = a }) did.events
    front_did why did = record {
      kept = λ rows sound agrees. same_kept laws.rows rows _ (after_all-WritesNothing did.events did.none rows);
      gets = λ table key gets. absurd (replied gets.1);
      puts = λ table key puts. absurd (replied puts.1);
      changes = λ table key changes. elim changes [ inl deletes ↦ absurd (replied deletes.1) | inr tidies ↦ absurd (tidied tidies.1) ];
      only = λ rows sound agrees table key x below is by. absurd (front_only laws did.events c k named range did.none rows sound agrees (did.of rows sound agrees) table key x below is by);
    }

    stays_at : (why : RowStop) (did : WereCutOff v seat (FrontOf c) (AsksOf c) why u) → ends why ≡ false → GoesOnBy a → Called v seat c a u
    stays_at why did still hears =
        let gone = ran sound_law did.events v did.at seat active did.ran in
        let is : u ≡ did.at = (stopped did.at seat did.asked why u (ap phase_of gone.0.stand) did.refused).stays still in
        goes did.events (subst (λ (x : View). Ran v seat did.events x) (sym is) did.ran) (front_did why did) (λ before run. (before, did.run still before run)) hears

    ends_at : (why : RowStop) (did : WereCutOff v seat (FrontOf c) (AsksOf c) why u) (w : Work) (ending : Ending) → w.number ≡ (work_at did.at seat).number → IsDone did.at seat w world.aborts u → EndsBy a ending → Called v seat c a u
    ends_at why did w ending number done hears =
        let gone = ran sound_law did.events v did.at seat active did.ran in
        out w ending (number ∙ gone.0.more.number) (done.own ∙ ap (λ (fs : List Finished). record { over = fs ++ record { work = w; fate = world.aborts } ∷ []; stand = world.idle }) gone.0.over) hears

    refused : (why : RowStop) → stop_told why ≡ Some a → WereCutOff v seat (FrontOf c) (AsksOf c) why u → Called v seat c a u
    refused (stop.NotYet other seen) told did = let same : answer.WaitSeat other seen ≡ a = cc in stays_at (stop.NotYet other seen) did refl (subst GoesOnBy same (λ q asked p. refl))
    refused stop.ReadsFull told did = let same : answer.ReadsFull ≡ a = cc in stays_at stop.ReadsFull did refl (subst GoesOnBy same (λ q asked p. refl))
    refused (stop.Owned other number) told did =
        let same : answer.Owned other number ≡ a = cc in
        ends_at (stop.Owned other number) did (work_at did.at seat) Aborts refl (owned_done did.at u seat other number did.asked did.refused) (subst (λ (b : Answer). EndsBy b Aborts) same (λ q asked p. refl))
    refused (stop.Newer stamp) told did =
        let same : answer.Newer stamp ≡ a = cc in
        ends_at (stop.Newer stamp) did (work_at did.at seat) Aborts refl (newer_done did.at u seat stamp did.asked did.refused) (subst (λ (b : Answer). EndsBy b Aborts) same (λ q asked p. refl))
    refused stop.WritesFull told did = let same : answer.WritesFull ≡ a = cc in stays_at stop.WritesFull did refl (subst GoesOnBy same (λ q asked p. refl))
    refused (stop.CellsFull drawn) told did = let same : answer.CellsFull drawn ≡ a = cc in stays_at (stop.CellsFull drawn) did refl (subst GoesOnBy same (λ q asked p. refl))
    refused (stop.OidsFull drawn) told did = let same : answer.OidsFull drawn ≡ a = cc in stays_at (stop.OidsFull drawn) did refl (subst GoesOnBy same (λ q asked p. refl))
    refused (stop.Excluded succ pred) told did =
        let same : answer.ExcludedEarly succ pred ≡ a = cc in
        let shut = excluded_done did.at u seat succ pred did.asked did.refused in
        ends_at (stop.Excluded succ pred) did shut.work (Excludes None succ pred) (last_number did.asked (work_at did.at seat) shut.work shut.last) shut.done (subst (λ (b : Answer). EndsBy b (Excludes None succ pred)) same (λ q asked p. refl))
    refused stop.Memory told did = let never : None ≡ Some a = told in cc

  refused_as : (a : Answer) → WasRefusedAs v seat c a u → Called v seat c a u
  refused_as a (why, told, did) = refused a (unreplied why a told) (untidied why a told) why told did

  pub called : (a : Answer) → DidOperation v seat c a u → Called v seat c a u
  called (answer.Replied r) (o, is, did) =
      goes did.events did.ran
      (line_did c (answer.Replied r) did.events (replied_over c r o is)
      (whole_did laws did.events c k named range r o is (λ rows sound agrees. did.of rows sound agrees) (λ rows sound agrees. did.right (record { op = o; reply = r }) refl rows sound agrees)))
      (λ before run. (_, did.run before run)) (λ q asked p. refl)
  called (answer.Cut cells) (none, few, did) =
      goes did.events did.ran (line_did c (answer.Cut cells) did.events (cut_over c cells none) (tidy_did laws did.events c k named range cells none (λ rows sound agrees. did.of rows sound agrees)))
      (λ before run. (_, did.run before run)) (λ q asked p. refl)
  called a did = refused_as a did
