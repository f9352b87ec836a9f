-- A key that is tidied, as its line is answered.
use Rattle.std.proofs.Common.{◌≡◌, refl, sym, ◌∙◌, subst, ℕ, ◌≤◌, List, [], ◌∷◌, ◌++◌, append-nil, Option, Some, None, inl, inr, Result, IfOk, arith}
use Rattle.std.specs.Prelude.{MatchOption}
use Rattle.erm_model.specs.declared.row_stop.RowStop.{RowStop}
use Rattle.erm_model.specs.Rows.{Rows}
use Rattle.erm_model.specs.RowTransaction.{Agrees, Asked, Does, Event, IsRefused, IsStopped, Law, SameLaw, StopsClaim, StopsRead, asked_claim, asked_make, asked_read, did_claim}
use Rattle.erm_model.specs.Run.{Step}
use Rattle.erm_model.proofs.RowCalls.{Runs-append, Runs-one, WritesNothing-OnlyReads, WritesNothing-append}
use Rattle.erm_node.specs.Sound.{sound_law}
use Rattle.erm_node.specs.TreeMap.{record_in}
use Rattle.erm_report.specs.declared.answer.Answer.{Answer}
use Rattle.erm_report.specs.declared.answer.Answer.TheVariants as answer
use Rattle.erm_script.specs.declared.script.Command.TheVariants as command
use Rattle.erm_tree.specs.Calls.{AsksReads, Reads, SawIn}
use Rattle.erm_tree.specs.Change.{AreReadsThen, AsksDel}
use Rattle.erm_tree.specs.Operations.{AnswersStutter, CutOffsStutter, LooksStutter, RefusalsStutter, stuttered}
use Rattle.erm_tree.specs.Reads.{IsOnWay}
use Rattle.erm_tree.proofs.Calls.{Agrees-after_reads}
use Rattle.erm_world.specs.Face.{WasRefused}
use Rattle.erm_world.specs.World.{Opening, View}
use Rattle.erm_maps.specs.Runs.{IsRunOf, kept_at}
use Rattle.erm_lines.specs.Answers.{stop_told}
use Rattle.erm_lines.specs.Operations.{IsTidy}
use Rattle.erm_lines.specs.Whole.{WasAnswered}
use Rattle.erm_lines.proofs.Bridge.{CallsAreRuns, cut_off, face, none_keep, ran, runs_on, tells_as}
use Rattle.erm_lines.proofs.Refused.{refused, tidy_fits}

-- the events of a tidy, where the key's entry is known
tidy_events : (rows : Rows) (table key : ℕ) (events : List Event) (found : Option ℕ) → found ≡ record_in rows table key
    → MatchOption found (AreReadsThen (IsOnWay table key rows) [] events) (λ oid. AreReadsThen (IsOnWay table key rows) (did_claim oid ∷ []) events) → IsTidy rows table key events
tidy_events rows table key events found is so =
    subst (λ (o : Option ℕ). MatchOption o (AreReadsThen (IsOnWay table key rows) [] events) (λ oid. AreReadsThen (IsOnWay table key rows) (did_claim oid ∷ []) events)) is so

asks_del : (table key : ℕ) (events : List Event) (rows : Rows) (asked : Asked) → AsksReads (IsOnWay table key) events rows asked → AsksDel table key events rows asked
asks_del table key events rows (asked_read oid) asks = asks
asks_del table key events rows (asked_claim oid) asks = absurd asks
asks_del table key events rows asked_make asks = absurd asks

module _ {S : Type 0} (law : Law) (view : S → View) (seat : S → ℕ) (stands : S → Type 0) (one : S → S → Type 0) (same : SameLaw law sound_law)
    (are_runs : CallsAreRuns law view seat stands one same) where
  -- a look for the key's entry, which found this
  abbrev pub Looked : ℕ → ℕ → S → S → Option ℕ → Type 0
  Looked table key s t found = SawIn (face law view seat stands one same) (IsOnWay table key) s t (λ rows. found ≡ record_in rows table key)

  pub tidy_none : (s t : S) (table key : ℕ) (found : Option ℕ) → LooksStutter (face law view seat stands one same) (IsOnWay table key) (λ rows. None ≡ record_in rows table key) → found ≡ None → Looked table key s t found
      → WasAnswered (view s) (seat s) (command.Tidy table key) (answer.Cut 0) (view t)
  tidy_none s t table key found looks is look =
      let did = subst (Looked table key s t) is look in
      let es = did.saw.events in
      record {
        fits = tt;
        did = (
          refl,
          omega arith,
          record {
            events = es;
            ran = ran law view seat stands one same es s t did.saw.goes_on.runs;
            of = λ rows sound agrees.
                let meets = (same.meets rows).1 sound in
                let agree = tells_as law same es rows rows agrees in (
                  tidy_events rows table key es None (did.saw.saw rows meets agree)
                      (record { reads = es; only = did.reads.only; of = did.reads.of rows meets agree; split = sym (append-nil es) }),
                  none_keep es rows (WritesNothing-OnlyReads es did.reads.only) sound,
                );
            right = λ step is. cc;
            none = λ is. WritesNothing-OnlyReads es did.reads.only;
            run = runs_on law view seat stands one same are_runs s t (stuttered ∷ []) (t, looks s t did, refl) did.saw.follows.1;
          },
        );
      }

  module _ (s u t : S) (table key oid : ℕ) (found : Option ℕ) (looks : LooksStutter (face law view seat stands one same) (IsOnWay table key) (λ rows. Some oid ≡ record_in rows table key)) (is : found ≡ Some oid) (look : Looked table key s u found) where
    pub tidy_some : (cells : ℕ) → cells ≤ (view u).opening.cuts → AnswersStutter (face law view seat stands one same) (did_claim oid) → Does (face law view seat stands one same) u (did_claim oid) t
        → WasAnswered (view s) (seat s) (command.Tidy table key) (answer.Cut cells) (view t)
    tidy_some cells few claims does =
        let did = subst (Looked table key s u) is look in
        let es = did.saw.events in
        let more : List Event = did_claim oid ∷ [] in
        let none = WritesNothing-append es more (WritesNothing-OnlyReads es did.reads.only) tt in
        record {
          fits = tt;
          did = (
            refl,
            subst (λ (o : Opening). cells ≤ o.cuts) did.saw.follows.3.opening few,
            record {
              events = es ++ more;
              ran = ran law view seat stands one same (es ++ more) s t
                  (Runs-append (face law view seat stands one same) es more s u t did.saw.goes_on.runs (Runs-one (face law view seat stands one same) u t (did_claim oid) does.step));
              of = λ rows sound agrees.
                  let meets = (same.meets rows).1 sound in
                  let agree : Agrees law es rows = (Agrees-after_reads law es more rows did.reads.only (tells_as law same (es ++ more) rows rows agrees)).0 in (
                    tidy_events rows table key (es ++ more) (Some oid) (did.saw.saw rows meets agree)
                        (record { reads = es; only = did.reads.only; of = did.reads.of rows meets agree; split = refl }),
                    none_keep (es ++ more) rows none sound,
                  );
              right = λ step is. cc;
              none = λ is. none;
              run = runs_on law view seat stands one same are_runs s t (stuttered ∷ stuttered ∷ []) (u, looks s u did, (t, claims u t does, refl)) (does.follows.1 ∙ did.saw.follows.1);
            },
          );
        }

    pub tidy_unclaimed : {E : Type 0} (r : Result Answer E) (stop : RowStop) → RefusalsStutter (face law view seat stands one same) StopsClaim (asked_claim oid)
        → IsRefused (face law view seat stands one same) StopsClaim u (asked_claim oid) stop t
        → IfOk r (λ a. stop_told stop ≡ Some a) → IfOk r (λ a. WasAnswered (view s) (seat s) (command.Tidy table key) a (view t))
    tidy_unclaimed r stop refusals was told =
        let did = subst (Looked table key s u) is look in
        let es = did.saw.events in
        let at_seat : seat u ≡ seat s = did.saw.follows.1 in
        refused (view s) (seat s) (command.Tidy table key) (view t) r stop told (tidy_fits table key stop (inr was.named))
        (record {
          events = es;
          at = view u;
          ran = ran law view seat stands one same es s u did.saw.goes_on.runs;
          none = WritesNothing-OnlyReads es did.reads.only;
          of = λ rows sound agrees. (did.reads.only, did.reads.of rows ((same.meets rows).1 sound) (tells_as law same es rows rows agrees));
          asked = asked_claim oid;
          asks_so = λ rows sound agrees. sym (did.saw.saw rows ((same.meets rows).1 sound) (tells_as law same es rows rows agrees));
          refused = subst (λ (q : ℕ). WasRefused (view u) q (asked_claim oid) stop (view t)) at_seat was.stopped;
          run = λ goes before runs.
              subst (λ (steps : List Step). IsRunOf (kept_at (view t) (seat s)) steps) (append-nil before)
              (runs_on law view seat stands one same are_runs s t (stuttered ∷ stuttered ∷ []) (u, looks s u did, (t, refusals u t stop was goes, refl)) (was.follows.1 ∙ at_seat) before runs);
        }) (λ a did. did)

  pub tidy_err : {E : Type 0} (r : Result Answer E) (s t : S) (table key : ℕ) (stop : RowStop)
      → CutOffsStutter (face law view seat stands one same) StopsRead (Reads law (IsOnWay table key)) (AsksReads (IsOnWay table key))
      → IsStopped (face law view seat stands one same) StopsRead (Reads law (IsOnWay table key)) (AsksReads (IsOnWay table key)) s stop t
      → IfOk r (λ a. stop_told stop ≡ Some a) → IfOk r (λ a. WasAnswered (view s) (seat s) (command.Tidy table key) a (view t))
  tidy_err r s t table key stop stutters stopped told =
      refused (view s) (seat s) (command.Tidy table key) (view t) r stop told (tidy_fits table key stop (inl stopped.refused.named))
      (cut_off law view seat stands one same are_runs StopsRead (Reads law (IsOnWay table key)) (AsksReads (IsOnWay table key)) (AsksDel table key) _ s t stop stopped
      (λ es kind. WritesNothing-OnlyReads es kind.only) (λ es kind rows meets agrees. (kind.only, kind.of rows meets agrees)) (asks_del table key) (stutters s t stop stopped)) (λ a did. did)
