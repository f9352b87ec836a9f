-- A savepoint more, and the way back to one, as the world shows them.
use Rattle.std.proofs.Common.{◌≡◌, ℕ, zero, suc, ◌-◌, ◌<◌, ◌≤◌, true, false, List, [], ◌∷◌, ◌++◌, length, map, take, get_or, set, None, Some, refl, sym, ap, ◌∙◌, subst, arith}
use Rattle.std.specs.List.{slice_get}
use Rattle.std.specs.Prelude.{Option}
use Rattle.std.proofs.lemmas.List.{set-get_or}
use Rattle.std.proofs.lemmas.Option.{get_or_from_slice_get}
use Rattle.atomic_table.specs.declared.shared.Seat.{Seat}
use Rattle.erm_machine.specs.declared.part.Part.{Part}
use Rattle.erm_machine.specs.declared.task.Task.{Task}
use Rattle.erm_machine.specs.Core.{Core}
use Rattle.erm_machine.specs.Decided.{written_of}
use Rattle.erm_machine.specs.Seat.{is_active, is_snapshot}
use Rattle.erm_model.specs.declared.history.VersionWritten.{VersionWritten}
use Rattle.erm_model.specs.declared.limits.TheConstants.{SAVES, TABLE_CELLS}
use Rattle.erm_model.specs.declared.outcome.Phase.TheVariants as phase
use Rattle.erm_model.specs.RowTransaction.{Law}
use Rattle.erm_core_steps.proofs.Aborts.{no_flusher}
use Rattle.erm_core_view.specs.Views.{session_of, view_of, work_of}
use Rattle.erm_core_view.proofs.Shown.{shows_work}
use Rattle.erm_core_view.proofs.Snapshots.{starts_plain}
use Rattle.erm_rule.specs.declared.view.Book.{Book}
use Rattle.erm_rule.specs.Books.{book}
use Rattle.erm_rule.specs.Views.{part_of, view}
use Rattle.erm_rule.specs.Went.{core_of}
use Rattle.erm_session.specs.declared.session.Session.{Session}
use Rattle.erm_session.specs.Saves.{claims_saved, saves_of}
use Rattle.erm_session.specs.Saving.{AddsSave, GoesBack, HasRows, claims_back, with_writes}
use Rattle.erm_session.specs.Session.{IsSession, phase_of}
use Rattle.erm_session.proofs.Saved.{shown_long}
use Rattle.erm_session.proofs.Backs.{has_active}
use Rattle.erm_session.proofs.Shown.{back_shown, has_rows, shown_claimed, shown_few, shown_there}
use Rattle.erm_world.specs.Calls.{Works}
use Rattle.erm_world.specs.Saves.{AreSavesOf, DidSave, HasClaimed, WentBack, restored, with_claims, with_saves}
use Rattle.erm_world.specs.World.{View, Work, phase_at, work_at}
use Rattle.erm_world.specs.World as world
use Rattle.erm_world.proofs.WithSaves as kept
use Rattle.erm_table_world.specs.declared.table_world.TableWorld.{TableWorld}
use Rattle.erm_table_world.specs.Saves.{saves_in, table_saves}
use Rattle.erm_table_world.specs.Stands.{Stands, table_view, with_cuts, world_view}
use Rattle.erm_table_world.proofs.Cuts as cuts
use Rattle.erm_table_world.proofs.Reading.{at_seat, part, work}
use Rattle.erm_table_world.proofs.Held.{others_after, own_after, own_before}
use Rattle.erm_table_world.proofs.Sessions.{after_call, anew_starts, called, here, Here}
use Rattle.erm_table_world.proofs.Still.{Stayed, becomes}
use Rattle.erm_table_world.proofs.Wholly.{part_set, ran_none, Ran}

-- where no element is found the list has ended
slice_get_none : (ss : List Session) (k : ℕ) → slice_get ss k ≡ None → length ss ≤ k
slice_get_none [] k is = omega arith
slice_get_none (s ∷ ss) zero is = absurd (cc)
slice_get_none (s ∷ ss) (suc k) is = let rest = slice_get_none ss k is in omega (arith, rest)

-- the session of a seat whose transaction has gone back
pub back_session : (x : Part) (t : Task) (saved : List (Option (List ℕ))) → is_active x.place ≡ true → is_snapshot t ≡ false
    → session_of (with_writes t (claims_back saved x.current.writes) x)
    ≡ record { over = (session_of x).over; stand = world.active (with_claims (restored (claims_saved saved (work_of x.current).claims) (work_of x.current).claims) (work_of x.current)) }
back_session x t saved active plain =
    (shows_work x (with_claims (restored (claims_saved saved (work_of x.current).claims) (work_of x.current).claims) (work_of x.current)) (with_writes t (claims_back saved x.current.writes) x) refl active plain
    (ap (λ (cs : List VersionWritten). with_claims cs (work_of x.current)) (back_shown saved x.current.writes))).shows

module _ {L : Type 0} (law : Law) (w : TableWorld L) (who : ℕ) (s : Session) (stands : Stands law w) (session : world.IsSession (table_view w) who) (active : phase_at (table_view w) who ≡ phase.Active)
    (at : s ≡ get_or w.sessions.items (who - 1) s) where
  there : Here law w who s
  there = here law w who s stands session at

  on : phase_of s.stage ≡ phase.Active
  on = there.phase ∙ active

  abbrev x : Part
  x = part_of (view w.pass) s.seat

  abbrev before : Core
  before = core_of (book w.pass)

  -- the transaction as the world shows it
  pub claims_are : (work_at (table_view w) who).claims ≡ map written_of x.current.writes
  claims_are =
      ap (λ (v : Work). v.claims) (work law w.count who (book w.pass) (book w.pass) stands.at session active there.seated) ∙ ap (λ (z : Part). map written_of z.current.writes) (sym there.part)

  -- SAVE
  module _ (t : Session) where
    none : Ran law w.count who (book w.pass) (book w.pass)
    none = ran_none law w.count who (book w.pass) stands.at.state

    pub save_stands : t.seat ≡ s.seat → IsSession t x → Stands law (after_call w who w.pass t)
    save_stands seat is =
        called law w who w.pass t stands session
        (record { fits = stands.fits; ran = none; quiet = stands.at.quiet; seat = seat ∙ there.seat; is = subst (IsSession t) there.part is })

    pub did_save : (held : ℕ) → IsSession t x → AddsSave s held t → DidSave (world_view w) who held (world_view (after_call w who w.pass t))
    did_save held is adds =
        let v : View = with_cuts TABLE_CELLS (table_view w) in
        let own = own_before law w who s stands session at w.pass none in
        let many : length (table_saves w who) ≡ length s.saves.points = ap (λ (l : List (List VersionWritten)). length l) own ∙ shown_long s.stage s.saves.points x on in
        let room = adds.room in
        let held_is = adds.held_is in
        record {
          room = omega (arith, many, room);
          held_is = omega (arith, many, held_is);
          saved = kept.holds_with (table_saves w) (table_saves (after_call w who w.pass t)) v who (table_saves w who ++ (work_at (table_view w) who).claims ∷ [])
              (own_after law w who s stands session at w.pass none t is
              ∙ adds.shows x there.stands (subst (λ (z : Part). HasRows z) (sym there.part) (has_rows before stands.at.state.sound.sound who))
              ∙ ap (λ (l : List (List VersionWritten)). l ++ map written_of x.current.writes ∷ []) (sym own)
              ∙ ap (λ (cs : List VersionWritten). table_saves w who ++ cs ∷ []) (sym claims_are))
              (others_after law w who s stands session at w.pass none t is);
        }

  -- where it keeps what it kept the world is as it was
  pub saved_none : (t : Session) (pass : Seat (Unit {0}) Book) → t ≡ s → book pass ≡ book w.pass → world_view (after_call w who pass t) ≡ world_view w
  saved_none t pass left same =
      ap (λ (z : Session). with_saves (saves_in (set w.sessions.items (who - 1) z) (core_of (book pass))) (with_cuts TABLE_CELLS (view_of w.count (core_of (book pass))))) left
      ∙ ap (λ (b : Book). with_saves (saves_in (set w.sessions.items (who - 1) s) (core_of b)) (with_cuts TABLE_CELLS (view_of w.count (core_of b)))) same
      ∙ ap (λ (ss : List Session). with_saves (saves_in ss before) (with_cuts TABLE_CELLS (table_view w)))
      (ap (λ (z : Session). set w.sessions.items (who - 1) z) at ∙ set-get_or w.sessions.items (who - 1) s)

  -- as many are shown as are held
  pub many_held : length (table_saves w who) ≡ length s.saves.points
  many_held = ap (λ (l : List (List VersionWritten)). length l) (own_before law w who s stands session at w.pass (ran_none law w.count who (book w.pass) stands.at.state)) ∙ shown_long s.stage s.saves.points x on

  -- BACK
  module _ (t : Session) (pass : Seat (Unit {0}) Book) (ran : Ran law w.count who (book w.pass) (book pass)) (stayed : Stayed w.count who (core_of (book w.pass)) (core_of (book pass)))
      (is : IsSession t (part_of (view pass) s.seat)) (place : ℕ) (held : place < length s.saves.points) where
    abbrev saved : List (Option (List ℕ))
    saved = get_or s.saves.points place []

    abbrev own : Part
    own = before.seats who

    abbrev gone : Work → Work
    gone u = with_claims (restored (claims_saved saved u.claims) u.claims) u

    goes_back : GoesBack (view w.pass) who saved (view pass) → Works (table_view w) who (gone (work_at (table_view w) who)) (view_of w.count (core_of (book pass)))
    goes_back did =
        let mine = part law w.count who (book w.pass) (book w.pass) stands.at session active there.seated in
        let is_active = at_seat law w.count who (book w.pass) (book w.pass) stands.at session active there.seated in
        let set_is : (core_of (book pass)).seats who ≡ with_writes did.task (claims_back saved own.current.writes) own =
        part_set law (book w.pass) (book pass) who (with_writes did.task (claims_back saved (part_of (view w.pass) who).current.writes) (part_of (view w.pass) who)) stands.at.state ran.state there.seated did.view_is
        ∙ ap (λ (z : Part). with_writes did.task (claims_back saved z.current.writes) z) mine
        in
        becomes law w.count who (book w.pass) (book pass) (record { over = (session_of own).over; stand = world.active (gone (work_at (table_view w) who)) }) (no_flusher who there.session) ran stayed
        (ap session_of set_is
        ∙ back_session own did.task saved is_active.active (starts_plain did.task (anew_starts did.task did.starts))
        ∙ ap (λ (u : Work). record { over = (session_of own).over; stand = world.active (gone u) }) (sym (work law w.count who (book w.pass) (book w.pass) stands.at session active there.seated)))

    pub went_back : GoesBack (view w.pass) who saved (view pass) → saves_of t (part_of (view pass) s.seat) ≡ take (suc place) (saves_of s (part_of (view w.pass) s.seat))
        → WentBack (world_view w) who (suc place) (world_view (after_call w who pass t))
    went_back did cut =
        let v : View = with_cuts TABLE_CELLS (table_view w) in
        let ran_before = ran_none law w.count who (book w.pass) stands.at.state in
        let mine = own_before law w who s stands session at w.pass ran_before in
        let there_is = ap (λ (l : List (List VersionWritten)). slice_get l place) mine ∙ shown_there s.stage s.saves.points x place on held
        ∙ ap (λ (cs : List VersionWritten). Some (claims_saved saved cs)) (sym claims_are) in
        kept.went_back (table_saves w) (table_saves (after_call w who pass t)) v (with_cuts TABLE_CELLS (view_of w.count (core_of (book pass)))) who place (claims_saved saved (work_at (table_view w) who).claims) active there_is
        (own_after law w who s stands session at pass ran t is ∙ cut ∙ ap (λ (l : List (List VersionWritten)). take (suc place) l) (sym mine))
        (others_after law w who s stands session at pass ran t is)
        (cuts.became TABLE_CELLS (table_view w) (view_of w.count (core_of (book pass))) who (record { over = (session_of own).over; stand = world.active (gone (work_at (table_view w) who)) }) (goes_back did))

-- THE LAWS. A transaction in progress has still what it had claimed at each of its savepoints, and holds no more than it may.
module _ {L : Type 0} (law : Law) (w : TableWorld L) (stands : Stands law w) (who : ℕ) (session : world.IsSession (table_view w) who) (active : phase_at (table_view w) who ≡ phase.Active) where
  -- by the session that stands in the list
  module _ (s : Session) (found : slice_get w.sessions.items (who - 1) ≡ Some s) where
    stands_at : s ≡ get_or w.sessions.items (who - 1) s
    stands_at = sym (get_or_from_slice_get w.sessions.items (who - 1) s s found)

    seen : Here law w who s
    seen = here law w who s stands session stands_at

    held_so : table_saves w who ≡ saves_of s (part_of (view w.pass) s.seat)
    held_so = own_before law w who s stands session stands_at w.pass (ran_none law w.count who (book w.pass) stands.at.state)

    claimed_by : AreSavesOf (work_at (table_view w) who) (table_saves w who)
    claimed_by j saved is =
        subst (λ (cs : List VersionWritten). HasClaimed saved cs) (sym (claims_are law w who s stands session active stands_at))
        (shown_claimed s.stage s.saves.points (part_of (view w.pass) s.seat) j saved (ap (λ (l : List (List VersionWritten)). slice_get l j) (sym held_so) ∙ is))

    few_by : length (table_saves w who) ≤ SAVES
    few_by =
        subst (λ (l : List (List VersionWritten)). length l ≤ SAVES) (sym held_so)
        (shown_few s.stage s.saves.points (part_of (view w.pass) s.seat) (seen.phase ∙ active)
        (has_active s.stage s.saves (part_of (view w.pass) s.seat) (seen.phase ∙ active) seen.stands.saves).few)

  within : who - 1 < length w.sessions.items
  within = let some = session.0 in let low = session.1 in let count = stands.count in omega (arith, some, low, count)

  found_one : (s : Session) × (slice_get w.sessions.items (who - 1) ≡ Some s)
  found_one = by (slice_get w.sessions.items (who - 1)) refl
    where
      by : (o : Option Session) → slice_get w.sessions.items (who - 1) ≡ o → (s : Session) × (slice_get w.sessions.items (who - 1) ≡ Some s)
      by None is = absurd (let low = within in let past = slice_get_none w.sessions.items (who - 1) is in omega (arith, low, past))
      by (Some s) is = (s, is)

  pub saves_claimed : (u : Work) → ((table_view w).session who).stand ≡ world.active u → AreSavesOf u (table_saves w who)
  saves_claimed u is = subst (λ (z : Work). AreSavesOf z (table_saves w who)) (ap world.work_of is) (claimed_by found_one.0 found_one.1)

  pub saves_few : length (table_saves w who) ≤ SAVES
  saves_few = few_by found_one.0 found_one.1
