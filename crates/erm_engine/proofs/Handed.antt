-- What the first pass of a table hands out.
use Rattle.std.proofs.Common.{◌≡◌, ℕ, zero, suc, ◌+◌, ◌-◌, ◌<◌, ◌≤◌, ⊎_elim, Bool, true, false, List, [], ◌∷◌, ◌++◌, length, take, eqb, refl, sym, ap, ◌∙◌, subst, arith}
use Rattle.std.specs.Prelude.{if◌then◌else◌, slice_get, Option, Some, None}
use Rattle.std.proofs.Math.Path.{fun_ext}
use Rattle.std.proofs.lemmas.Bool.{lt-ltb}
use Rattle.std.proofs.lemmas.List.{length-append}
use Rattle.atomic_table.specs.declared.shared.Seat.{Seat}
use Rattle.atomic_table.specs.Seated.{TableId}
use Rattle.erm_model.specs.declared.limits.TheConstants.{SESSIONS}
use Rattle.erm_model.specs.Rows.{rows_of}
use Rattle.erm_model.specs.RowTransaction.{Law, SameRows}
use Rattle.erm_model.proofs.Members.{slice_get-push}
use Rattle.erm_machine.specs.declared.limits.TheConstants.{FLUSH_SEAT, OBJECT_LIMIT}
use Rattle.erm_machine.specs.declared.part.Part.{Part}
use Rattle.erm_machine.specs.declared.place.Place.{Place}
use Rattle.erm_machine.specs.declared.place.Place.TheVariants.{Idle, Vacant}
use Rattle.erm_model.specs.declared.history.VersionWritten.{VersionWritten}
use Rattle.erm_machine.specs.Core.{fresh_part, is_taken, no_object, opened_object, version_at}
use Rattle.erm_core_shown.specs.Shown.{given_up_of, shown_of, shown_session}
use Rattle.erm_core_shown.proofs.Only.{only_sessions}
use Rattle.erm_core_view.specs.Views.{pin_of, session_of, stand_of}
use Rattle.erm_sound.specs.Kept.{SoundUnder}
use Rattle.erm_ring.specs.Turns.{MayGather}
use Rattle.erm_rule.specs.declared.rule.Table.{Table}
use Rattle.erm_rule.specs.declared.view.Book.{Book}
use Rattle.erm_rule.specs.declared.view.Held.{Held}
use Rattle.erm_rule.specs.declared.view.Opening.{Opening}
use Rattle.erm_rule.specs.Openings.{start_of}
use Rattle.erm_rule.specs.Rule.{first_core, first_rows, first_view, rest_view, sessions_from}
use Rattle.erm_rule.specs.Views.{MayJoin, of_seats, one_seat, part_of, view}
use Rattle.erm_own_view.specs.Own.{no_session, opening_of, own_view}
use Rattle.erm_own_view.proofs.Lawful.{serializable}
use Rattle.erm_own_view.proofs.Own.{one_part}
use Rattle.erm_shared_session.specs.declared.session.TableSession.{TableSession}
use Rattle.erm_shared_session.specs.Stands.{seat_saves}
use Rattle.erm_session.specs.declared.session.Session as session
use Rattle.erm_session.specs.Saves.{saves_of}
use Rattle.erm_session.specs.Session.{IsSession}
use Rattle.erm_session.proofs.Saved.{none_shown}
use Rattle.erm_table_world.proofs.Opening.{row_is}
use Rattle.erm_table_world.proofs.Sessions.{phase_shown}
use Rattle.erm_world.specs.Laws.{IsSerializable}
use Rattle.erm_world.specs.World.{GivenUp, Session, View}
use Rattle.erm_world.specs.World as world
use Rattle.erm_engine.specs.Opened.{AreIdle, AreNew, IsIdle, IsNew, opened_view}

-- THE PASS LEFT has the flush seat first.
abbrev flush : Opening → Held
flush o = record { seat = FLUSH_SEAT; part = fresh_part Idle o.run o.tail }

front_gathers : (o : Opening) (m : ℕ) (hs : List Held) → 1 ≤ m → MayGather (of_seats (take m (flush o ∷ hs)))
front_gathers o zero hs some = absurd (omega (arith, some))
front_gathers o (suc m) hs some = record { held = refl; between = refl }

front_joins : (o : Opening) (m : ℕ) (hs : List Held) → 1 ≤ m → MayJoin (of_seats (take m (flush o ∷ hs)))
front_joins o zero hs some = absurd (omega (arith, some))
front_joins o (suc m) hs some = record { some_held = omega arith; taken = refl }

pub rest_gathers : (o : Opening) (given : ℕ) → given ≤ SESSIONS → MayGather (rest_view o given)
unfolding rest_view first_view
rest_gathers o given few = front_gathers o (FLUSH_SEAT - given) (sessions_from o SESSIONS) (omega (arith, few))

front_unpinned : (o : Opening) (m : ℕ) (hs : List Held) → 1 ≤ m → (part_of (of_seats (take m (flush o ∷ hs))) FLUSH_SEAT).place ≡ Idle
front_unpinned o zero hs some = absurd (omega (arith, some))
front_unpinned o (suc m) hs some = refl

pub rest_unpinned : (o : Opening) (given : ℕ) → given ≤ SESSIONS → (part_of (rest_view o given) FLUSH_SEAT).place ≡ Idle
unfolding rest_view first_view
rest_unpinned o given few = front_unpinned o (FLUSH_SEAT - given) (sessions_from o SESSIONS) (omega (arith, few))

pub rest_joins : (o : Opening) (given : ℕ) → given ≤ SESSIONS → MayJoin (rest_view o given)
unfolding rest_view first_view
rest_joins o given few = front_joins o (FLUSH_SEAT - given) (sessions_from o SESSIONS) (omega (arith, few))

-- WHAT A SESSION KNOWS that was handed out
abbrev opened_fields : world.Opening → (ℕ → Session) → (ℕ → List GivenUp) → Option ℕ → ℕ → View
opened_fields o s gs pin tail = record { opening = o; session = s; tail = tail; flushed = tail; pinned = pin; given_up = gs; saves = λ q. [] }

same_opened : (o p : world.Opening) (s r : ℕ → Session) (gs hs : ℕ → List GivenUp) (pin held : Option ℕ) (tail : ℕ) → o ≡ p → s ≡ r → gs ≡ hs → pin ≡ held
    → opened_fields o s gs pin tail ≡ opened_fields p r hs held tail
same_opened o p s r gs hs pin held tail a b c d = cc

both_ways : {X : Type 0} (b : Bool) (x : X) → (if b then x else x) ≡ x
both_ways true x = refl
both_ways false x = refl

pub own_opened : (o : Opening) (seat : ℕ) (b : Book) → b.start ≡ start_of o → b.view ≡ one_seat seat (fresh_part Idle o.run o.tail)
    → own_view seat o.tail o.tail b ≡ opened_view (start_of o)
own_opened o seat b start lone =
    let x = part_of b.view seat in
    let part : x ≡ fresh_part Idle o.run o.tail = ap (λ v. part_of v seat) lone ∙ one_part seat (fresh_part Idle o.run o.tail) in
    let sessions : (own_view seat o.tail o.tail b).session ≡ (opened_view (start_of o)).session = fun_ext (λ q.
    ap (λ (y : Part). if eqb q seat then session_of y else no_session) part ∙ both_ways (eqb q seat) no_session) in
    let given : (own_view seat o.tail o.tail b).given_up ≡ (opened_view (start_of o)).given_up = fun_ext (λ q.
    ap (λ (y : Part). if eqb q seat then given_up_of y else []) part ∙ both_ways (eqb q seat) []) in
    same_opened (opening_of b.start) (opening_of (start_of o)) (own_view seat o.tail o.tail b).session (opened_view (start_of o)).session (own_view seat o.tail o.tail b).given_up
    (opened_view (start_of o)).given_up None None o.tail (ap opening_of start) sessions given refl

-- an idle session has no savepoints
pub none_saved : (s : session.Session) (x : Part) → IsSession s x → x.place ≡ Idle → seat_saves s x ≡ (λ q. [])
none_saved s x is idle =
    let none : saves_of s x ≡ [] = none_shown s.stage s.saves.points x (λ on.
    absurd (let at = sym (phase_shown s.stage x is.kept.stage) ∙ on in let now = ap (λ (p : Place). world.phase_of (stand_of p x.task x.current)) idle in cc)) in
    fun_ext (λ q. ap (λ (l : List (List VersionWritten)). if eqb q s.seat then l else []) none ∙ both_ways (eqb q s.seat) [])

-- THE WORLD AS IT WAS OPENED is what the first state shows.
fresh_session : (b : Bool) (run place : ℕ) → shown_session (fresh_part (if b then Idle else Vacant) run place) ≡ no_session
fresh_session true run place = refl
fresh_session false run place = refl

fresh_given : (b : Bool) (run place : ℕ) → given_up_of (fresh_part (if b then Idle else Vacant) run place) ≡ []
fresh_given true run place = refl
fresh_given false run place = refl

fresh_pin : (b : Bool) (run place : ℕ) → pin_of (fresh_part (if b then Idle else Vacant) run place).place (fresh_part (if b then Idle else Vacant) run place).current ≡ None
fresh_pin true run place = refl
fresh_pin false run place = refl

opened_shown : (o : Opening) → opened_view (start_of o) ≡ shown_of SESSIONS (first_core o)
opened_shown o =
    let f = shown_of SESSIONS (first_core o) in
    let v = opened_view (start_of o) in
    let sessions : v.session ≡ f.session = fun_ext (λ q. sym (fresh_session (is_taken o.sessions q) o.run o.tail)) in
    let given : v.given_up ≡ f.given_up = fun_ext (λ q. sym (fresh_given (is_taken o.sessions q) o.run o.tail)) in
    same_opened v.opening f.opening v.session f.session v.given_up f.given_up None f.pinned o.tail refl sessions given (sym (fresh_pin (is_taken o.sessions FLUSH_SEAT) o.run o.tail))

pub opened_serializable : (law : Law) (o : Opening) → SoundUnder law (first_core o) → IsSerializable law (opened_view (start_of o))
opened_serializable law o under =
    subst (IsSerializable law) (sym (opened_shown o)) (serializable law (first_core o) under (only_sessions (first_core o) under.sound (λ q plain. refl)))

-- its rows are those given, for the objects
pub opened_rows : (o : Opening) → length o.rows.items ≡ OBJECT_LIMIT → SameRows (opened_view (start_of o)).opening.rows (rows_of o.rows.items)
opened_rows o count oid below =
    ap (λ (b : Bool). (version_at (if b then opened_object (first_rows o) oid else no_object) 0).words.row) (lt-ltb oid OBJECT_LIMIT below) ∙ sym (row_is o count oid below)

-- the part of a seat that was handed out
pub idle_part : (table : TableId) (run place seat q : ℕ) (p : Seat (Unit {0}) Book) → IsIdle table run place seat p → q ≡ seat → part_of (view p) q ≡ fresh_part Idle run place
idle_part table run place seat q p idle is =
    ap (λ (n : ℕ). part_of (view p) n) is ∙ ap (λ v. part_of v seat) idle.view_is ∙ one_part seat (fresh_part Idle run place)

-- none was handed out yet
pub new_none : {L : Type 0} (law : Law) (table : Table L) (o : Opening) (ss : List (TableSession L)) → ss ≡ [] → AreNew law table o 0 ss
new_none law table o ss none = subst (λ (l : List (TableSession _)). AreNew law table o 0 l) (sym none) (record { count_is = refl; each = λ k t at. absurd (cc) })

pub idle_none : (table : TableId) (run place from : ℕ) (ps : List (Seat (Unit {0}) Book)) → ps ≡ [] → AreIdle table run place from from ps
idle_none table run place from ps none =
    subst (λ (l : List (Seat (Unit {0}) Book)). AreIdle table run place from from l) (sym none) (record { count_is = omega arith; each = λ k p at. absurd (cc) })

-- ONE MORE
pub new_more : {L : Type 0} (law : Law) (table : Table L) (o : Opening) (count : ℕ) (ss : List (TableSession L)) (s : TableSession L) → AreNew law table o count ss
    → IsNew law table o (count + 1) s → AreNew law table o (count + 1) (ss ++ s ∷ [])
new_more law table o count ss s are new = record {
  count_is = let long : length (ss ++ s ∷ []) ≡ length ss + length (s ∷ []) = length-append ss (s ∷ []) in omega (arith, long, are.count_is);
  each = λ k t at.
      ⊎_elim (λ (old : (k < length ss) × (slice_get ss k ≡ Some t)). are.each k t old.1)
      (λ (last : (k ≡ length ss) × (s ≡ t)).
      let place : count + 1 ≡ k + 1 = (let is = last.0 in omega (arith, is, are.count_is)) in
      subst (λ (n : ℕ). IsNew law table o n t) place (subst (λ (u : TableSession _). IsNew law table o (count + 1) u) last.1 new))
      (slice_get-push ss s t k at);
}

pub idle_more : (table : TableId) (run place from upto : ℕ) (ps : List (Seat (Unit {0}) Book)) (p : Seat (Unit {0}) Book) → AreIdle table run place from upto ps
    → IsIdle table run place (upto + 1) p → AreIdle table run place from (upto + 1) (ps ++ p ∷ [])
idle_more table run place from upto ps p are idle = record {
  count_is = let long : length (ps ++ p ∷ []) ≡ length ps + length (p ∷ []) = length-append ps (p ∷ []) in omega (arith, long, are.count_is);
  each = λ k q at.
      ⊎_elim (λ (old : (k < length ps) × (slice_get ps k ≡ Some q)). are.each k q old.1)
      (λ (last : (k ≡ length ps) × (p ≡ q)).
      let here : upto + 1 ≡ from + k + 1 = (let is = last.0 in omega (arith, is, are.count_is)) in
      subst (λ (n : ℕ). IsIdle table run place n q) here (subst (λ (u : Seat (Unit {0}) Book). IsIdle table run place (upto + 1) u) last.1 idle))
      (slice_get-push ps p q k at);
}
