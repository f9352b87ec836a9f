-- What a session knows, and the worlds in which all may end, under a law of rows.
use Rattle.std.proofs.Common.{◌≡◌, ℕ, ◌<◌, ⊎_elim, refl}
use Rattle.erm_model.specs.declared.limits.TheConstants.{SESSIONS}
use Rattle.erm_model.specs.History.{below, rank_of, rows_after}
use Rattle.erm_model.specs.Member.{◌∈◌}
use Rattle.erm_model.specs.RowTransaction.{Law}
use Rattle.erm_model.specs.Rows.{Rows}
use Rattle.erm_machine.specs.declared.attempt.Attempt.{Attempt}
use Rattle.erm_machine.specs.Core.{Core, blank}
use Rattle.erm_machine.specs.Decided.{history_of}
use Rattle.erm_machine.specs.Facts.{all_of}
use Rattle.erm_machine.specs.Lawful.{opening_rows}
use Rattle.erm_core_possible.proofs.Fitting.{begins, possible_blank, possible_newest}
use Rattle.erm_core_shown.specs.Shown.{HasOnly, shown_of}
use Rattle.erm_core_shown.proofs.Commits.{shows_the_history}
use Rattle.erm_core_shown.proofs.Laws.{serializable_shown}
use Rattle.erm_core_shown.proofs.Only.{none_after, only_sessions}
use Rattle.erm_core_shown.proofs.Parts.{shown_between}
use Rattle.erm_core_ssn.proofs.MarksCertified.{certified}
use Rattle.erm_core_ssn.proofs.OneOrder.{some_order}
use Rattle.erm_core_ssn.proofs.Prefixes.{certified_below, in_below, newest_from_below, snapshot_below}
use Rattle.erm_core_ssn.proofs.RowsHistory.{claim_kept, claim_snapshot, read_snapshot, snapshot_history}
use Rattle.erm_core_ssn.proofs.RowsRun.{newest_in_order, one_newest, one_row, runs_in_order}
use Rattle.erm_core_ssn.proofs.Turns.{RunsBelow}
use Rattle.erm_core_view.specs.Views.{work_of}
use Rattle.erm_core_view.proofs.Moved.{changes_one}
use Rattle.erm_rule.specs.declared.view.Book.{Book}
use Rattle.erm_sound.specs.Kept.{SoundUnder}
use Rattle.erm_beside.specs.Laws.{IsSound}
use Rattle.erm_world.specs.Laws.{FitsWork, IsSerializable}
use Rattle.erm_world.specs.World.{View}
use Rattle.erm_own_view.specs.Own.{EndsIn, MayCall, own_view}
use Rattle.erm_own_view.proofs.Along.{opening_kept}
use Rattle.erm_own_view.proofs.Own.{ends_serializable, own_sound, some_end}

-- each transaction may have begun on the newest rows below its begin stamp
possible : (law : Law) (c : Core) (q : ℕ) (t : Attempt) → SoundUnder law c → t ∈ all_of (c.seats q) → (rows : Rows) × law.meets rows × FitsWork law (work_of t) rows
possible law c q t under m =
    let h = history_of c.seats in
    let opening = opening_rows c.shared in
    let snapshot = snapshot_history c under.sound in
    let all = certified c under.sound in
    let found = claim_snapshot c under.sound in
    let read = read_snapshot c under.sound in
    ⊎_elim
    (λ (some : 0 < t.begin).
    let before = certified_below h t.begin all in
    let first = snapshot_below h t.begin opening snapshot in
    let order = some_order rank_of (below t.begin h) before.differ in
    let runs : RunsBelow h opening t.begin order.0 = record {
      serial = order.1;
      run = (runs_in_order (below t.begin h) opening first before order.0 order.1).0;
      newest =
          newest_from_below h t.begin opening (rows_after order.0 opening)
          (newest_in_order (below t.begin h) opening first before order.0 order.1 t.begin some (λ u there. (in_below h t.begin u there).1));
      one_row = one_row (below t.begin h) opening first before;
    } in
    possible_newest law c under found read q t m snapshot order.0 runs
    (λ oid stamp other_stamp row other one another. (one_newest h opening snapshot all oid t.begin stamp other_stamp row other one another).1))
    (λ (none : t ≡ blank). possible_blank law c under found read q t m none)
    (begins law c under found read q t m)

-- the rows of a state are serializable
pub serializable : (law : Law) (c : Core) → SoundUnder law c → HasOnly SESSIONS c → IsSerializable law (shown_of SESSIONS c)
serializable law c under only =
    serializable_shown law SESSIONS c under only (shows_the_history SESSIONS c under.sound only) (certified c under.sound) (snapshot_history c under.sound)
    (record {
      reads = λ seat t r m n. read_snapshot c under.sound seat t r m n;
      claims = λ seat t w m n. claim_snapshot c under.sound seat t w m n;
      kept = λ seat t w m n unset. claim_kept c under.sound seat t w m n unset;
    })

-- SOUND, SOME AND LASTING
pub own_views_sound : (law : Law) (seat tail flushed : ℕ) (b : Book) → MayCall law seat tail flushed b → IsSound law (own_view seat tail flushed b) seat
own_views_sound law seat tail flushed b may = own_sound law seat tail flushed b may (possible law)

pub own_views_end : (law : Law) (seat tail flushed : ℕ) (b : Book) → MayCall law seat tail flushed b → (f : View) × EndsIn law seat b (own_view seat tail flushed b) f
own_views_end law seat tail flushed b may =
    some_end law seat tail flushed b may (λ x between. shown_between x between)
    (λ c was. opening_kept (λ sessions q first second k sound one event. changes_one sessions q first second k sound one event) b c was)

pub ends_last : (law : Law) (seat : ℕ) (b : Book) (v f : View) → EndsIn law seat b v f → IsSerializable law f
ends_last law seat b v f end = ends_serializable law seat b v f (λ q none. refl) none_after only_sessions (serializable law) end
