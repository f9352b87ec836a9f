-- From a session as a transaction over rows to the view of its world.
use Rattle.std.proofs.Common.{◌≡◌, refl, sym, ap, ◌∙◌, subst, arith, ℕ, false, List, [], ◌∷◌, ◌++◌, append-nil}
use Rattle.erm_model.specs.declared.row_stop.RowStop.{RowStop}
use Rattle.erm_model.specs.Database.{Database}
use Rattle.erm_model.specs.Rows.{Rows}
use Rattle.erm_model.specs.RowTransaction.{Agrees, Asked, Event, Face, IsStopped, KeepsLaw, Law, Runs, SameLaw, TellsAll, WritesNothing, after, after_all, did_claim, did_make, did_read, did_write, ends}
use Rattle.erm_model.specs.Run.{IsReplyOn, Step}
use Rattle.erm_model.specs.Run as run
use Rattle.erm_model.proofs.RowCalls.{WritesNothing-OnlyReads, after_all-OnlyReads, after_all-WritesNothing}
use Rattle.erm_node.specs.Sound.{IsSound, reached, sound_law}
use Rattle.erm_node.specs.TreeMap.{map_of_rows}
use Rattle.erm_tree.specs.Calls.{DidBy, SawIn}
use Rattle.erm_tree.specs.Operations.{AreCalled, Call, Stutters, answered_steps, stuttered}
use Rattle.erm_world.specs.Face.{WasRefused, world_face}
use Rattle.erm_world.specs.World.{View}
use Rattle.erm_maps.specs.Runs.{IsRunOf, kept_at}
use Rattle.erm_lines.specs.Operations.{DidCalls, IsRightOn, Ran, ReadsOnly, WereCutOff}

-- THE LAW. What is so by one law is so by one that says the same.
module _ (law : Law) (same : SameLaw law sound_law) where
  pub tells_as : (es : List Event) (begun seen : Rows) → TellsAll sound_law es begun seen → TellsAll law es begun seen
  tells_as [] begun seen told = tt
  tells_as (did_read oid row ∷ es) begun seen told = (told.0, tells_as es begun seen told.1)
  tells_as (did_claim oid ∷ es) begun seen told = (tt, tells_as es begun seen told.1)
  tells_as (did_write oid row ∷ es) begun seen told = (tt, tells_as es begun (after (did_write oid row) seen) told.1)
  tells_as (did_make oid ∷ es) begun seen told = (same.reach begun oid ∙ told.0, tells_as es begun seen told.1)

  pub keeps_as : (es : List Event) (rows : Rows) → KeepsLaw law es rows → KeepsLaw sound_law es rows
  keeps_as es rows keeps = record {
    meets = (same.meets (after_all es rows)).0 keeps.meets;
    reach = λ x.
        let most = keeps.reach x in
        let left = same.reach (after_all es rows) x in
        let right = same.reach rows x in
        omega (arith, most, left, right);
  }

-- events that set no row keep the law
pub none_keep : (es : List Event) (rows : Rows) → WritesNothing es → IsSound rows → KeepsLaw sound_law es rows
none_keep es rows none sound =
    let is = after_all-WritesNothing es none rows in
    record {
      meets = subst IsSound (sym is) sound;
      reach = λ x. omega (arith, ap (λ (array : Rows). reached array x) is);
    }

-- the head of a list of one
only_one : (P : Step → Type 0) (x y : Step) → x ∷ [] ≡ y ∷ [] → P x → P y
only_one P x y is so = subst P (ap (λ (steps : List Step). first steps x) is) so
  where
    first : List Step → Step → Step
    first [] other = other
    first (step ∷ steps) other = step

module _ {S : Type 0} (law : Law) (view : S → View) (seat : S → ℕ) (stands : S → Type 0) (one : S → S → Type 0) (same : SameLaw law sound_law) where
  abbrev pub face : Face S
  face = world_face law view seat stands one

  -- calls in turn on the view
  pub ran : (es : List Event) (s t : S) → Runs face s es t → Ran (view s) (seat s) es (view t)
  ran [] s t is = ap view is
  ran (e ∷ es) s t (u, step, rest) =
      (view u, step.answered.1, subst (λ (q : ℕ). Ran (view u) q es (view t)) step.answered.0 (ran es u t rest))

  abbrev pub CallsAreRuns : Type 0
  CallsAreRuns = (s t : S) (calls : List Call) (before : List Step) → IsRunOf (kept_at (view s) (seat s)) before → AreCalled face s calls t
      → IsRunOf (kept_at (view t) (seat t)) (before ++ answered_steps calls)

  abbrev pub RunsOn : S → List Step → S → Type 0
  RunsOn s steps t = (before : List Step) → IsRunOf (kept_at (view s) (seat s)) before → IsRunOf (kept_at (view t) (seat s)) (before ++ steps)

  -- the run after some calls
  pub runs_on : CallsAreRuns → (s t : S) (calls : List Call) → AreCalled face s calls t → seat t ≡ seat s → RunsOn s (answered_steps calls) t
  runs_on are_runs s t calls called is before run =
      subst (λ (q : ℕ). IsRunOf (kept_at (view t) q) (before ++ answered_steps calls)) is (are_runs s t calls before run called)

  -- ANSWERED. Reads that saw the reply to an operation that leaves the map.
  pub seen : (objects : Rows → ℕ → Type 0) (s t : S) (fact : Rows → Type 0) (step : Step) → SawIn face objects s t fact
      → ((rows : Rows) → fact rows → IsReplyOn (map_of_rows rows) step.op step.reply) → ((m : Database) → run.change step.op m ≡ m) → RunsOn s (step ∷ []) t
      → DidCalls (view s) (seat s) (step ∷ []) (λ rows events. ReadsOnly (objects rows) events) (view t)
  seen objects s t fact step did replies leaves on =
      let es = did.saw.events in record {
        events = es;
        ran = ran es s t did.saw.goes_on.runs;
        of = λ rows sound agrees. (
          (did.reads.only, did.reads.of rows ((same.meets rows).1 sound) (tells_as law same es rows rows agrees)),
          none_keep es rows (WritesNothing-OnlyReads es did.reads.only) sound,
        );
        right = λ other is rows sound agrees.
            only_one (λ (step : Step). IsRightOn step es rows) step other is (record {
              reply = replies rows (did.saw.saw rows ((same.meets rows).1 sound) (tells_as law same es rows rows agrees));
              after_is = ap map_of_rows (after_all-OnlyReads es did.reads.only rows) ∙ sym (leaves (map_of_rows rows));
            });
        none = λ is. cc;
        run = on;
      }

  -- Changes of the map that an operation asks for.
  pub changed : (kind : Rows → List Event → Type 0) (s t : S) (change : Rows → Rows → Type 0) (step : Step) → DidBy face kind s t change
      → ((m : Database) → IsReplyOn m step.op step.reply) → ((old new : Rows) → change old new → map_of_rows new ≡ run.change step.op (map_of_rows old)) → RunsOn s (step ∷ []) t
      → DidCalls (view s) (seat s) (step ∷ []) kind (view t)
  changed kind s t change step did replies changes on =
      let es = did.did.events in record {
        events = es;
        ran = ran es s t did.did.goes_on.runs;
        of = λ rows sound agrees.
            let meets = (same.meets rows).1 sound in
            let agree = tells_as law same es rows rows agrees in
            (did.by rows meets agree, keeps_as law same es rows (did.did.lawful rows meets agree));
        right = λ other is rows sound agrees.
            only_one (λ (step : Step). IsRightOn step es rows) step other is (record {
              reply = replies (map_of_rows rows);
              after_is = changes rows (after_all es rows) (did.did.did rows ((same.meets rows).1 sound) (tells_as law same es rows rows agrees));
            });
        none = λ is. cc;
        run = on;
      }

  -- CUT OFF. Calls of which the last was refused.
  pub cut_off : CallsAreRuns → (may : RowStop → Type 0) (kind : List Event → Type 0) (asks asks_view : List Event → Rows → Asked → Type 0) (front : Rows → List Event → Type 0) (s t : S) (stop : RowStop)
      → (stopped : IsStopped face may kind asks s stop t) → ((es : List Event) → kind es → WritesNothing es)
      → ((es : List Event) → kind es → (rows : Rows) → law.meets rows → Agrees law es rows → front rows es)
      → ((es : List Event) (rows : Rows) (asked : Asked) → asks es rows asked → asks_view es rows asked)
      → (ends stop ≡ false → Stutters face s t) → WereCutOff (view s) (seat s) front asks_view stop (view t)
  cut_off are_runs may kind asks asks_view front s t stop stopped none fronts asking stutters =
      let es = stopped.events in
      let at_seat : seat stopped.at ≡ seat s = stopped.follows.1 in
      record {
        events = es;
        at = view stopped.at;
        ran = ran es s stopped.at stopped.goes_on.runs;
        none = none es stopped.of_kind;
        of = λ rows sound agrees. fronts es stopped.of_kind rows ((same.meets rows).1 sound) (tells_as law same es rows rows agrees);
        asked = stopped.asked;
        asks_so = λ rows sound agrees. asking es rows stopped.asked (stopped.asks_so rows ((same.meets rows).1 sound) (tells_as law same es rows rows agrees));
        refused = subst (λ (q : ℕ). WasRefused (view stopped.at) q stopped.asked stop (view t)) at_seat stopped.refused.stopped;
        run = λ goes before runs.
            subst (λ (steps : List Step). IsRunOf (kept_at (view t) (seat s)) steps) (append-nil before)
            (runs_on are_runs s t (stuttered ∷ []) (t, stutters goes, refl) (stopped.refused.follows.1 ∙ at_seat) before runs);
      }
