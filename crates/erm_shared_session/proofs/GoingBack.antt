-- A savepoint more, and the way back to one, as the own view tells them.
use Rattle.std.proofs.Common.{◌≡◌, ℕ, suc, ◌<◌, ◌++◌, List, [], ◌∷◌, length, map, take, get_or, Some, refl, sym, ap, ◌∙◌, subst, arith}
use Rattle.std.specs.List.{slice_get}
use Rattle.std.specs.Prelude.{Option, ◌-◌, Result, Ok, Err, IfErr, OnOk}
use Rattle.erm_beside.specs.Laws.{GoesOnward}
use Rattle.erm_beside.specs.Later.{IsLater}
use Rattle.erm_core_shown.specs.Shown.{given_up_of}
use Rattle.erm_core_shown.proofs.Given.{given_stays}
use Rattle.erm_core_view.specs.Views.{session_of, work_of}
use Rattle.erm_core_view.proofs.Snapshots.{starts_plain}
use Rattle.erm_lone.specs.Within.{later_itself}
use Rattle.erm_lone.proofs.Later.{active_later}
use Rattle.erm_machine.specs.declared.part.Part.{Part}
use Rattle.erm_machine.specs.Decided.{written_of}
use Rattle.erm_model.specs.declared.history.VersionWritten.{VersionWritten}
use Rattle.erm_model.specs.declared.outcome.Phase.TheVariants as phase
use Rattle.erm_model.specs.RowTransaction.{Law}
use Rattle.erm_own_view.specs.Own.{EndsIn, MayCall, own_view}
use Rattle.erm_own_view.proofs.Own.{own_becomes, own_is, seat_is}
use Rattle.erm_rule.specs.declared.rule.Table.{Table}
use Rattle.erm_rule.specs.declared.view.Book.{Book}
use Rattle.erm_rule.specs.Books.{book}
use Rattle.erm_rule.specs.Views.{part_in, part_of, view}
use Rattle.erm_rule.proofs.Telling.{part_of-changed}
use Rattle.erm_session.specs.declared.session.Session.{Session}
use Rattle.erm_session.specs.Saves.{claims_saved, saves_of}
use Rattle.erm_session.specs.Saving.{AddsSave, GoesBack, HasRows, claims_back, with_writes}
use Rattle.erm_session.specs.Session.{IsSession, phase_of}
use Rattle.erm_session.proofs.Backs.{seat_active}
use Rattle.erm_session.proofs.Saved.{shown_long}
use Rattle.erm_session.proofs.Shown.{has_rows, shown_there}
use Rattle.erm_table_world.proofs.GoingBack.{back_session}
use Rattle.erm_table_world.proofs.Sessions.{anew_starts}
use Rattle.erm_table_world.proofs.Told.{claims_told, told_claimed, work_told}
use Rattle.erm_world.specs.Calls.{Works}
use Rattle.erm_world.specs.Saves.{DidSave, WentBack, restored, with_claims, with_saves}
use Rattle.erm_world.specs.World.{View, Work, phase_at, work_at}
use Rattle.erm_world.specs.World as world
use Rattle.erm_world.proofs.Restored.{extends_restored}
use Rattle.erm_world.proofs.WithSaves as kept
use Rattle.erm_shared_session.specs.declared.session.TableSession.{TableSession}
use Rattle.erm_shared_session.specs.Stands.{Ends, Stands, bare_of, own_of, own_saves, seat_of, seat_saves}
use Rattle.erm_shared_session.proofs.Saved.{others_then, saves_here, saves_then}
use Rattle.erm_shared_session.proofs.Standing.{own_active, own_at, own_phase, session_held}

module _ {L : Type 0} (law : Law) (table : Table L) (s : TableSession L) (stands : Stands law table s) (active : phase_at (bare_of s) (seat_of s) ≡ phase.Active) where
  abbrev seat : ℕ
  seat = seat_of s

  abbrev b : Book
  b = book s.pass

  abbrev x : Part
  x = part_of (view s.pass) s.session.seat

  abbrev v : View
  v = bare_of s

  on : phase_of s.session.stage ≡ phase.Active
  on = own_phase s stands.session ∙ active

  held_part : part_in b.view seat ≡ Some x
  held_part = session_held s.session b seat stands.session

  -- the transaction as the own view has it
  shown : v.session seat ≡ session_of x
  shown = own_is seat s.tail s.flushed b

  work_is : work_at v seat ≡ work_of x.current
  work_is = work_told s.session x stands.session v shown active

  claims_are : (work_at v seat).claims ≡ map written_of x.current.writes
  claims_are = claims_told s.session x stands.session v shown active

  rows_are : HasRows x
  rows_are = subst (λ (z : Part). HasRows z) (seat_is b seat stands.may.core stands.may.between stands.may.is) (has_rows stands.may.core stands.may.under.sound seat)

  -- as many savepoints are told as are held
  pub many_held : length (own_saves s seat) ≡ length s.session.saves.points
  many_held = ap (λ (l : List (List VersionWritten)). length l) (saves_here s) ∙ shown_long s.session.stage s.session.saves.points x on

  -- SAVE. The pass stays as it is.
  module _ (n : Session) (same : n.seat ≡ s.session.seat) where
    abbrev saving : TableSession L
    saving = record s { session = n }

    pub did_save : (held : ℕ) → AddsSave s.session held n → DidSave (own_of s) seat held (own_of saving)
    did_save held adds =
        let many = many_held in
        let room = adds.room in
        let held_is = adds.held_is in
        record {
          room = omega (arith, many, room);
          held_is = omega (arith, many, held_is);
          saved =
              ap (λ (u : View). with_saves (own_saves saving) u) (own_at s saving same)
              ∙ kept.holds_with (own_saves s) (own_saves saving) v seat (own_saves s seat ++ (work_at v seat).claims ∷ [])
              (saves_then s saving same
              ∙ adds.shows x stands.session rows_are
              ∙ ap (λ (l : List (List VersionWritten)). l ++ map written_of x.current.writes ∷ []) (sym (saves_here s))
              ∙ ap (λ (cs : List VersionWritten). own_saves s seat ++ cs ∷ []) (sym claims_are))
              (others_then s saving same);
        }

  -- the session goes on, and what all may end in stays
  pub save_stands : (n : Session) → n.seat ≡ s.session.seat → IsSession n x → Stands law table (let z : TableSession L = record s { session = n } in z)
  save_stands n same is = record {
    fits = stands.fits;
    session = subst (λ (q : ℕ). IsSession n (part_of (view s.pass) q)) (sym same) is;
    may = subst (λ (q : ℕ). MayCall law q s.tail s.flushed b) (sym same) stands.may;
  }

  pub save_onward : (n : Session) → n.seat ≡ s.session.seat → GoesOnward seat n.seat (Ends law s) (Ends law (let z : TableSession L = record s { session = n } in z))
  save_onward n same = record { seat_is = same; ends_so = λ f end. subst (λ (q : ℕ). EndsIn law q b (own_view q s.tail s.flushed b) f) same end }

  -- BACK
  module _ (t : TableSession L) (same : t.session.seat ≡ s.session.seat) (tail : t.tail ≡ s.tail) (flushed : t.flushed ≡ s.flushed) (start : (book t.pass).start ≡ b.start) where
    abbrev next : View
    next = own_view seat s.tail s.flushed (book t.pass)

    next_is : bare_of t ≡ next
    next_is = own_at s t same ∙ ap (λ (n : ℕ). own_view seat n t.flushed (book t.pass)) tail ∙ ap (λ (n : ℕ). own_view seat s.tail n (book t.pass)) flushed

    module _ (place : ℕ) (held : place < length s.session.saves.points) where
      abbrev saved : List (Option (List ℕ))
      saved = get_or s.session.saves.points place []

      abbrev gone : Work → Work
      gone u = with_claims (restored (claims_saved saved u.claims) u.claims) u

      there : slice_get (own_saves s seat) place ≡ Some (claims_saved saved (work_at v seat).claims)
      there =
          ap (λ (l : List (List VersionWritten)). slice_get l place) (saves_here s)
          ∙ shown_there s.session.stage s.session.saves.points x place on held
          ∙ ap (λ (cs : List VersionWritten). Some (claims_saved saved cs)) (sym claims_are)

      goes_back : GoesBack (view s.pass) seat saved (view t.pass) → Works v seat (gone (work_at v seat)) next
      goes_back did =
          let set_is : part_of (view t.pass) seat ≡ with_writes did.task (claims_back saved x.current.writes) x =
          part_of-changed (view s.pass) seat (view t.pass) (with_writes did.task (claims_back saved x.current.writes) x) x held_part did.view_is
          in
          own_becomes seat s.tail s.flushed b (book t.pass) (record { over = (v.session seat).over; stand = world.active (gone (work_at v seat)) }) start
          (ap session_of set_is
          ∙ back_session x did.task saved (seat_active s.session x stands.session on) (starts_plain did.task (anew_starts did.task did.starts))
          ∙ ap (λ (u : Work). let r : world.Session = record { over = (session_of x).over; stand = world.active (gone u) } in r) (sym work_is)
          ∙ ap (λ (r : world.Session). let z : world.Session = record { over = r.over; stand = world.active (gone (work_at v seat)) } in z) (sym shown))
          (ap given_up_of set_is ∙ given_stays x (with_writes did.task (claims_back saved x.current.writes) x) refl refl)

      pub back_later : GoesBack (view s.pass) seat saved (view t.pass) → IsLater (v.session seat) (next.session seat)
      back_later did =
          (active_later v next seat (work_at v seat) (gone (work_at v seat)) (own_active s active)
          (extends_restored (work_at v seat) (claims_saved saved (work_at v seat).claims) (told_claimed s.session x stands.session v shown active place (claims_saved saved (work_at v seat).claims) there)) (goes_back did)).session seat

      pub went_back : GoesBack (view s.pass) seat saved (view t.pass) → saves_of t.session (part_of (view t.pass) s.session.seat) ≡ take (suc place) (saves_of s.session x)
          → WentBack (own_of s) seat (suc place) (own_of t)
      went_back did cut =
          kept.went_back (own_saves s) (own_saves t) v (bare_of t) seat place (claims_saved saved (work_at v seat).claims) active there
          (saves_then s t same ∙ cut ∙ ap (λ (l : List (List VersionWritten)). take (suc place) l) (sym (saves_here s))) (others_then s t same)
          (subst (λ (u : View). Works v seat (gone (work_at v seat)) u) (sym next_is) (goes_back did))

    -- or it is as it was
    pub backs_later : {A B : Type 0} (r : Result A B) (k : ℕ) → OnOk r ((k - 1 < length s.session.saves.points) × (0 < k))
        → OnOk r (GoesBack (view s.pass) seat (get_or s.session.saves.points (k - 1) []) (view t.pass)) → IfErr r (λ why. book t.pass ≡ b) → IsLater (v.session seat) (next.session seat)
    backs_later (Ok done) k within did left = back_later (k - 1) within.0 did
    backs_later (Err why) k within did left = subst (λ (c : Book). IsLater (v.session seat) ((own_view seat s.tail s.flushed c).session seat)) (sym left) (later_itself (v.session seat))

  -- where it keeps what it kept it knows what it knew
  pub same_own : (t : TableSession L) → t.session ≡ s.session → t.tail ≡ s.tail → t.flushed ≡ s.flushed → book t.pass ≡ b → own_of t ≡ own_of s
  same_own t left tail flushed is =
      ap (λ (m : Session). with_saves (seat_saves m (part_of (view t.pass) m.seat)) (own_view m.seat t.tail t.flushed (book t.pass))) left
      ∙ ap (λ (c : Book). with_saves (seat_saves s.session (part_of c.view seat)) (own_view seat t.tail t.flushed c)) is
      ∙ ap (λ (n : ℕ). with_saves (own_saves s) (own_view seat n t.flushed b)) tail
      ∙ ap (λ (n : ℕ). with_saves (own_saves s) (own_view seat s.tail n b)) flushed
