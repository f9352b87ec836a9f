-- An abort of a session of the word table, and a look at the place flushed.
use Rattle.std.proofs.Common.{◌≡◌, ℕ, zero, suc, List, [], ◌∷◌, ◌++◌, length, map, refl, sym, ap, ◌∙◌}
use Rattle.std.proofs.lemmas.List.{map-append}
use Rattle.erm_model.specs.declared.history.VersionWritten.{VersionWritten}
use Rattle.erm_model.specs.declared.outcome.Phase.TheVariants as phase
use Rattle.erm_machine.specs.declared.attempt.Attempt.{Attempt}
use Rattle.erm_machine.specs.declared.attempt.Claim.{Claim}
use Rattle.erm_machine.specs.declared.attempt.Decision.{Decision}
use Rattle.erm_machine.specs.declared.attempt.Decision.TheVariants.{Abort}
use Rattle.erm_machine.specs.declared.part.Part.{Part}
use Rattle.erm_machine.specs.declared.place.Place.{Place}
use Rattle.erm_machine.specs.declared.place.Place.TheVariants.{Active, Sealed}
use Rattle.erm_machine.specs.Decided.{written_of}
use Rattle.erm_machine.specs.declared.task.Task.{Task}
use Rattle.erm_ends.specs.Ends.{claims_over, left_part, released_all}
use Rattle.erm_ends.specs.Ends as ends
use Rattle.erm_core_view.specs.Views.{finished_of, session_of, stand_of, work_of}
use Rattle.erm_core_view.proofs.Snapshots.{active_plain, plain_new, shown_work}
use Rattle.erm_rule.specs.declared.view.Book.{Book}
use Rattle.erm_rule.specs.Views.{part_in, part_of}
use Rattle.erm_rule.proofs.Telling.{part_of-changed}
use Rattle.std.specs.Prelude.{Some}
use Rattle.erm_beside.specs.Later.{IsLater}
use Rattle.erm_lone.proofs.Later.{world_aborts}
use Rattle.erm_world.specs.Calls.{DidAbort}
use Rattle.erm_world.specs.World.{Finished, Session, Stand, Work, phase_at}
use Rattle.erm_world.specs.World as world
use Rattle.erm_own_view.specs.Own.{own_view}
use Rattle.erm_own_view.proofs.Own.{own_becomes, own_is}
use Rattle.erm_core_shown.specs.Shown.{given_up_of}
use Rattle.erm_core_shown.proofs.Given.{given_ends}

-- claims that are released still show
pub released_shown : (n : ℕ) (ws : List Claim) → map written_of (claims_over n ws) ≡ map written_of ws
released_shown zero ws = refl
released_shown (suc n) [] = refl
released_shown (suc n) (w ∷ ws) = ap (λ (cs : List VersionWritten). written_of w ∷ cs) (released_shown n ws)

active_shown : (pl : Place) (u : Task) (t : Attempt) → world.phase_of (stand_of pl u t) ≡ phase.Active → work_of t ≡ world.work_of (stand_of pl u t)
active_shown (Active tail) u t active = sym (shown_work u t (plain_new u t (active_plain u t active)))
active_shown (Sealed tail stamp) u t active = refl
active_shown _ u t active = absurd (cc)

abbrev pub gone : Session → Session
gone r = record { over = r.over ++ record { work = world.work_of r.stand; fate = world.aborts } ∷ []; stand = world.idle }

-- what the seat's session shows of an abort, where it shows all of its transaction
ended_shown : (x : Part) → work_of x.current ≡ world.work_of (stand_of x.place x.task x.current) → session_of (left_part Abort (released_all x)) ≡ gone (session_of x)
ended_shown x all_shown =
    let t : Attempt = record x.current { writes = claims_over (length x.current.writes) x.current.writes; decision = Abort } in
    let released : work_of t ≡ work_of x.current =
    ap (λ (cs : List VersionWritten). let w : Work = record (work_of x.current) { claims = cs } in w) (released_shown (length x.current.writes) x.current.writes)
    in
    let work : work_of t ≡ world.work_of (stand_of x.place x.task x.current) = released ∙ all_shown in
    let all : map finished_of (x.over ++ t ∷ []) ≡ map finished_of x.over ++ finished_of t ∷ [] = map-append finished_of x.over (t ∷ []) in
    let last : finished_of t ≡ record { work = world.work_of (stand_of x.place x.task x.current); fate = world.aborts } =
    ap (λ (w : Work). let f : Finished = record { work = w; fate = world.aborts } in f) work
    in
    ap (λ (fs : List Finished). let s : Session = record { over = fs; stand = world.idle } in s)
    (all ∙ ap (λ (f : Finished). map finished_of x.over ++ f ∷ []) last)

pub aborted_shown : (x : Part) → world.phase_of (stand_of x.place x.task x.current) ≡ phase.Active → session_of (left_part Abort (released_all x)) ≡ gone (session_of x)
aborted_shown x active = ended_shown x (active_shown x.place x.task x.current active)

-- and the claims given up stay what they were
pub left_given : (x : Part) (d : Decision) (ws : List Claim) → given_up_of (left_part d (record x { current = record x.current { writes = ws } })) ≡ given_up_of x
left_given x d ws = given_ends x (left_part d (record x { current = record x.current { writes = ws } })) (record x.current { writes = ws; decision = d }) refl refl refl

pub aborted_given : (x : Part) → given_up_of (left_part Abort (released_all x)) ≡ given_up_of x
aborted_given x = left_given x Abort (claims_over (length x.current.writes) x.current.writes)

module _ (seat tail flushed : ℕ) (b e : Book) (start : e.start ≡ b.start) (held : part_in b.view seat ≡ Some (part_of b.view seat)) where
  pub ended : work_of (part_of b.view seat).current ≡ world.work_of (stand_of (part_of b.view seat).place (part_of b.view seat).task (part_of b.view seat).current)
      → ends.DidAbort b.view seat e.view → DidAbort (own_view seat tail flushed b) seat (own_view seat tail flushed e)
  ended all_shown did =
      let x = part_of b.view seat in
      let same = own_is seat tail flushed b in
      let after : part_of e.view seat ≡ left_part Abort (released_all x) = part_of-changed b.view seat e.view (left_part Abort (released_all x)) x held did.view_is in
      own_becomes seat tail flushed b e (gone ((own_view seat tail flushed b).session seat)) start (ap session_of after ∙ ended_shown x all_shown ∙ ap gone (sym same))
      (ap given_up_of after ∙ aborted_given x)

  pub aborted : phase_at (own_view seat tail flushed b) seat ≡ phase.Active → ends.DidAbort b.view seat e.view → DidAbort (own_view seat tail flushed b) seat (own_view seat tail flushed e)
  aborted active did =
      let x = part_of b.view seat in
      let now : world.phase_of (stand_of x.place x.task x.current) ≡ phase.Active = sym (ap (λ (r : Session). world.phase_of r.stand) (own_is seat tail flushed b)) ∙ active in
      ended (active_shown x.place x.task x.current now) did

  pub aborted_later : ((own_view seat tail flushed b).session seat).stand ≡ world.active (world.work_of ((own_view seat tail flushed b).session seat).stand)
      → DidAbort (own_view seat tail flushed b) seat (own_view seat tail flushed e) → IsLater ((own_view seat tail flushed b).session seat) ((own_view seat tail flushed e).session seat)
  aborted_later stand did =
      (world_aborts (own_view seat tail flushed b) (own_view seat tail flushed e) seat (world.work_of ((own_view seat tail flushed b).session seat).stand) stand did).session seat
