-- An abort: the seat's transaction is over, and left nothing.
use Rattle.std.proofs.Common.{◌≡◌, ℕ, zero, suc, true, List, [], ◌∷◌, ◌++◌, length, map, refl, sym, ap, ◌∙◌}
use Rattle.std.proofs.lemmas.List.{map-append}
use Rattle.erm_model.specs.declared.history.VersionWritten.{VersionWritten}
use Rattle.erm_model.specs.RowTransaction.{Law}
use Rattle.erm_machine.specs.declared.attempt.Attempt.{Attempt}
use Rattle.erm_machine.specs.declared.attempt.Claim.{Claim}
use Rattle.erm_machine.specs.declared.attempt.Decision.TheVariants.{Abort}
use Rattle.erm_machine.specs.declared.part.Part.{Part}
use Rattle.erm_machine.specs.Decided.{written_of}
use Rattle.erm_machine.specs.Seat.{is_active}
use Rattle.erm_cells.specs.Took.{IsEndStep}
use Rattle.erm_core_view.specs.Views.{finished_of, session_of, stand_of, view_of, work_of}
use Rattle.erm_core_view.proofs.Shown.{work_active}
use Rattle.erm_core_view.proofs.Snapshots.{IsNewSnapshot, snapshots_new}
use Rattle.erm_ends.specs.Ends.{claims_over, left_part, released_all}
use Rattle.erm_ends.specs.Ends as ends
use Rattle.erm_machine.specs.Words.{is_seat, is_session}
use Rattle.erm_core_steps.proofs.Aborts.{no_flusher}
use Rattle.erm_rule.specs.declared.view.Book.{Book}
use Rattle.erm_rule.specs.Views.{part_of}
use Rattle.erm_rule.specs.Went.{IsStillStep, Went, core_of}
use Rattle.erm_world.specs.Calls.{DidAbort}
use Rattle.erm_world.specs.World.{Finished, Session, Work}
use Rattle.erm_world.specs.World as world
use Rattle.erm_table_world.specs.Stands.{IsStateful}
use Rattle.erm_table_world.proofs.Still.{becomes, went_ran, went_stayed}
use Rattle.erm_table_world.proofs.Wholly.{part_is, part_set}
use Rattle.erm_cells.proofs.Took.{ends_still}

-- claims that are over are still shown
pub over_shown : (n : ℕ) (ws : List Claim) → map written_of (claims_over n ws) ≡ map written_of ws
over_shown zero ws = refl
over_shown (suc n) [] = refl
over_shown (suc n) (w ∷ ws) = ap (λ (cs : List VersionWritten). written_of w ∷ cs) (over_shown n ws)

-- the session of a seat that has aborted
pub aborts_shown : (x : Part) → is_active x.place ≡ true → IsNewSnapshot x.task x.current → session_of (left_part Abort (released_all x)) ≡ record {
  over = (session_of x).over ++ record { work = world.work_of (session_of x).stand; fate = world.aborts } ∷ [];
  stand = world.idle;
}
aborts_shown x active new =
    let t : Attempt = record x.current { writes = claims_over (length x.current.writes) x.current.writes; decision = Abort } in
    let released : work_of t ≡ work_of x.current =
    ap (λ (cs : List VersionWritten). let w : Work = record (work_of x.current) { claims = cs } in w) (over_shown (length x.current.writes) x.current.writes)
    in
    let work : work_of t ≡ world.work_of (stand_of x.place x.task x.current) = released ∙ sym (work_active x.place x.task x.current active new) in
    let all : map finished_of (x.over ++ t ∷ []) ≡ map finished_of x.over ++ finished_of t ∷ [] = map-append finished_of x.over (t ∷ []) in
    let last : finished_of t ≡ record { work = world.work_of (stand_of x.place x.task x.current); fate = world.aborts } =
    ap (λ (w : Work). let f : Finished = record { work = w; fate = world.aborts } in f) work
    in
    ap (λ (fs : List Finished). let s : Session = record { over = fs; stand = world.idle } in s)
    (all ∙ ap (λ (f : Finished). map finished_of x.over ++ f ∷ []) last)

-- what the abort of an active transaction leaves of the world
pub aborted : (law : Law) (sessions seat : ℕ) (b e : Book) → IsStateful law b → is_session seat ≡ true → is_seat seat ≡ true → is_active ((core_of b).seats seat).place ≡ true
    → Went law seat IsEndStep b e → ends.DidAbort b.view seat e.view → DidAbort (view_of sessions (core_of b)) seat (view_of sessions (core_of e))
aborted law sessions seat b e state session seated active went did =
    let x : Part = part_of b.view seat in
    let still = ends_still law seat b e went in
    let ran = went_ran law sessions seat IsStillStep b e still state in
    let set : (core_of e).seats seat ≡ left_part Abort (released_all x) = part_set law b e seat (left_part Abort (released_all x)) state ran.state seated did.view_is in
    let own : session_of ((core_of e).seats seat) ≡ session_of (left_part Abort (released_all ((core_of b).seats seat))) =
    ap session_of set ∙ ap (λ (y : Part). session_of (left_part Abort (released_all y))) (part_is law b seat state seated)
    in
    becomes law sessions seat b e _ (no_flusher seat session) ran (went_stayed law sessions seat b e still state) (own ∙ aborts_shown ((core_of b).seats seat) active (snapshots_new (core_of b) seat state.sound.sound))
