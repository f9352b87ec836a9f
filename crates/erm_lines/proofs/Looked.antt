-- A look at several keys, as its line is answered.
use Rattle.std.proofs.Common.{◌≡◌, refl, sym, ◌∙◌, subst, ℕ, List, [], ◌∷◌, append-nil, map, Some, Result, Ok, Err, IfOk, IfErr}
use Rattle.std.proofs.lemmas.Result.{IfOk-at_ok}
use Rattle.erm_model.specs.declared.operation.Op.TheVariants as op
use Rattle.erm_model.specs.declared.operation.Reply.TheVariants as reply
use Rattle.erm_model.specs.declared.row_stop.RowStop.{RowStop}
use Rattle.erm_model.specs.Database.{AreFound, Database}
use Rattle.erm_model.specs.Rows.{Rows}
use Rattle.erm_model.specs.RowTransaction.{IsLawful, IsStopped, Law, SameLaw, Saw, StopsRead}
use Rattle.erm_model.specs.Run.{IsOnMap, IsReplyOn, Step, change}
use Rattle.erm_model.proofs.RowCalls.{Saw-on, WritesNothing-OnlyReads}
use Rattle.erm_node.specs.Sound.{IsSound, sound_law}
use Rattle.erm_node.specs.TreeMap.{map_of_rows}
use Rattle.erm_report.specs.declared.answer.Answer.{Answer}
use Rattle.erm_report.specs.declared.answer.Answer.TheVariants as answer
use Rattle.erm_script.specs.declared.script.Command.TheVariants as command
use Rattle.erm_tree.specs.Calls.{AsksReads, Reads}
use Rattle.erm_tree.specs.Operations.{stuttered}
use Rattle.erm_tree.proofs.Operations.{Stutters-look, Stutters-saw}
use Rattle.erm_world.specs.Laws.{FitsWork}
use Rattle.erm_world.specs.Works.{seen_by}
use Rattle.erm_world.specs.Going.{Extends, found_by}
use Rattle.erm_world.specs.World.{View, Work, work_at}
use Rattle.erm_maps.specs.Runs.{IsRunOf, kept_at}
use Rattle.erm_maps.proofs.GoingOn.{IsRunOf-on_map}
use Rattle.erm_lines.specs.Answers.{stop_told}
use Rattle.erm_lines.specs.Operations.{IsMetByScan}
use Rattle.erm_lines.specs.Whole.{WasAnswered}
use Rattle.erm_lines.proofs.Bridge.{CallsAreRuns, RunsOn, cut_off, face, runs_on, seen}
use Rattle.erm_lines.proofs.Refused.{refused, scan_fits}
use Rattle.erm_lines.proofs.Scanning.{Scanned}

-- a transaction has what it had
extends_itself : (w : Work) → Extends w w
extends_itself w = record {
  number = refl;
  begin = refl;
  read = [];
  reads = sym (append-nil w.reads);
  claimed = [];
  claims = sym (append-nil (map found_by w.claims));
  more = [];
  made = sym (append-nil w.made);
}

module _ {S : Type 0} (law : Law) (view : S → View) (seat : S → ℕ) (stands : S → Type 0) (one : S → S → Type 0) (same : SameLaw law sound_law)
    (are_runs : CallsAreRuns law view seat stands one same) where
  -- what fits by the law of sound rows
  fits_now : (s t : S) (rows : Rows) → seat t ≡ seat s → FitsWork sound_law (work_at (view t) (seat s)) rows → (face law view seat stands one same).fits t rows
  fits_now s t rows is fits = subst (λ (q : ℕ). FitsWork law (work_at (view t) q) rows) (sym is) (record {
    meets = (same.meets rows).1 fits.meets;
    reads = fits.reads;
    claims = fits.claims;
    unreached = λ x made. same.reach rows x ∙ fits.unreached x made;
  })

  -- an operation that leaves the map, whose reply was seen, is one more of the run
  look_on : (s t : S) (step : Step) (fact : Rows → Type 0) → IsOnMap step.op → IsLawful (face law view seat stands one same) s → Saw (face law view seat stands one same) s t fact
      → ((rows : Rows) → fact rows → IsReplyOn (map_of_rows rows) step.op step.reply) → ((m : Database) → change step.op m ≡ m) → seat t ≡ seat s
      → RunsOn law view seat stands one same s (step ∷ []) t
  look_on s t step fact on_map lawful saw replies leaves is before runs =
      let stays : IsRunOf (kept_at (view t) (seat s)) before =
      subst (λ (steps : List Step). IsRunOf (kept_at (view t) (seat s)) steps) (append-nil before)
      (runs_on law view seat stands one same are_runs s t (stuttered ∷ []) (t, Stutters-saw (face law view seat stands one same) s t fact saw, refl) is before runs) in
      let w : Work = work_at (view t) (seat s) in
      let replied : (rows : Rows) → IsSound rows → FitsWork sound_law w rows → IsReplyOn (map_of_rows (seen_by w rows)) step.op step.reply =
      λ rows sound fits.
      let on = Saw-on (face law view seat stands one same) s t fact lawful saw rows ((same.meets rows).1 sound) (fits_now s t rows is fits) in
      subst (λ (q : ℕ). IsReplyOn (map_of_rows (seen_by (work_at (view t) q) rows)) step.op step.reply) is
      (subst (λ (array : Rows). IsReplyOn (map_of_rows array) step.op step.reply) (sym on.1) (replies (seen_by (work_at (view s) (seat s)) rows) on.0)) in
      IsRunOf-on_map (kept_at (view t) (seat s)) w before (step ∷ []) (on_map, tt) stays (record {
        extends = extends_itself w;
        run = λ rows sound fits. (replied rows sound fits, tt);
        after = λ rows sound fits. sym (leaves (map_of_rows (seen_by w rows)));
        lawful = stays.lawful;
        once = stays.once;
      })

  pub scan_ok : (s t : S) (table low high : ℕ) (found : List (ℕ × List ℕ)) (told : Result (List (ℕ × List ℕ)) RowStop) → IsLawful (face law view seat stands one same) s
      → told ≡ Ok found → IfOk told (Scanned (face law view seat stands one same) table low high s t) → WasAnswered (view s) (seat s) (command.Scan table low high) (answer.Replied (reply.Found found)) (view t)
  scan_ok s t table low high found told lawful is scanned =
      let did = IfOk-at_ok (Scanned (face law view seat stands one same) table low high s t) is scanned in record {
        fits = tt;
        did = (
          op.Scan table low high,
          refl,
          seen law view seat stands one same (IsMetByScan table low high) s t (λ rows. AreFound (map_of_rows rows) table low high found) (record { op = op.Scan table low high; reply = reply.Found found }) did
              (λ rows is. (found, refl, is)) (λ m. refl)
              (look_on s t (record { op = op.Scan table low high; reply = reply.Found found }) (λ rows. AreFound (map_of_rows rows) table low high found) tt lawful did.saw (λ rows is. (found, refl, is)) (λ m. refl) did.saw.follows.1),
        );
      }

  pub scan_err : {E : Type 0} (r : Result Answer E) (s t : S) (table low high : ℕ) (stop : RowStop) (found : Result (List (ℕ × List ℕ)) RowStop) → found ≡ Err stop
      → IfErr found (λ why. IsStopped (face law view seat stands one same) StopsRead (Reads law (IsMetByScan table low high)) (AsksReads (IsMetByScan table low high)) s why t)
      → IfOk r (λ a. stop_told stop ≡ Some a) → IfOk r (λ a. WasAnswered (view s) (seat s) (command.Scan table low high) a (view t))
  scan_err r s t table low high stop found is cut told =
      let stopped = subst (λ (result : Result (List (ℕ × List ℕ)) RowStop). IfErr result (λ why. IsStopped (face law view seat stands one same) StopsRead (Reads law (IsMetByScan table low high)) (AsksReads (IsMetByScan table low high)) s why t)) is cut in
      refused (view s) (seat s) (command.Scan table low high) (view t) r stop told (scan_fits table low high stop stopped.refused.named)
      (cut_off law view seat stands one same are_runs StopsRead (Reads law (IsMetByScan table low high)) (AsksReads (IsMetByScan table low high)) (AsksReads (IsMetByScan table low high)) _ s t stop stopped
      (λ es kind. WritesNothing-OnlyReads es kind.only) (λ es kind rows meets agrees. (kind.only, kind.of rows meets agrees)) (λ es rows asked asks. asks)
      (Stutters-look (face law view seat stands one same) StopsRead (IsMetByScan table low high) (AsksReads (IsMetByScan table low high)) s t stop stopped)) (λ a did. did)
