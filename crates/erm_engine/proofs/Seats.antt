-- The seats of a pass that has taken in all others, in each state of its book.
use Rattle.std.proofs.Common.{◌≡◌, ◌≢◌, ℕ, ◌+◌, ◌-◌, ◌<◌, ◌≤◌, ⊎_elim, Bool, true, false, List, [], ◌∷◌, length, map, eqb, Some, None, refl, sym, ap, ◌∙◌, subst, arith, eq-eqb, eqb-true}
use Rattle.std.specs.Prelude.{if◌then◌else◌, slice_get}
use Rattle.std.proofs.lemmas.Bool.{cases_lt}
use Rattle.erm_model.specs.declared.limits.TheConstants.{SESSIONS}
use Rattle.erm_model.specs.Member.{◌∈◌}
use Rattle.erm_model.specs.RowTransaction.{Law}
use Rattle.erm_model.proofs.Members.{none_in_nil}
use Rattle.erm_machine.specs.declared.event.Kind.{Kind}
use Rattle.erm_machine.specs.declared.limits.TheConstants.{FLUSH_SEAT}
use Rattle.erm_machine.specs.declared.part.Part.{Part}
use Rattle.erm_machine.specs.declared.place.Place.TheVariants.{Idle}
use Rattle.erm_machine.specs.Core.{Core, fresh_part}
use Rattle.erm_machine.proofs.Listed.{∈-cons}
use Rattle.erm_own_view.proofs.Own.{between_held}
use Rattle.erm_rule.specs.declared.rule.Table.{Table}
use Rattle.erm_rule.specs.declared.view.Book.{Book}
use Rattle.erm_rule.specs.declared.view.Held.{Held}
use Rattle.erm_rule.specs.declared.view.Past.{Past}
use Rattle.erm_rule.specs.declared.view.View.{View}
use Rattle.erm_rule.specs.Books.{book, past_of}
use Rattle.erm_rule.specs.Steps.{Booked}
use Rattle.erm_rule.specs.Views.{EachOnce, IsView, held_after, part_among, part_in, part_of}
use Rattle.erm_rule.specs.Went.{Took}
use Rattle.erm_rule.proofs.Parts.{found_among, map_in}
use Rattle.erm_rule.proofs.Telling.{held_part}
use Rattle.erm_shared_session.specs.declared.session.TableSession.{TableSession}
use Rattle.erm_shared_session.specs.Stands.{seat_of}
use Rattle.erm_engine.specs.Closed.{AreJoined, HasIn}
use Rattle.erm_engine.proofs.Joined.{at_within}
use Rattle.erm_table_world.proofs.Sessions.{stage_sized}
use Rattle.erm_engine.proofs.Resting.{Rests, session_other}
use Rattle.erm_engine.proofs.Taken.{once_before, other_held}

abbrev F : ℕ
F = FLUSH_SEAT

-- SEATS, each of which stands once
among_head : (b : Bool) (q : ℕ) (h : Held) (hs : List Held) → eqb h.seat q ≡ b → b ≡ true → (if b then Some h.part else part_among q hs) ≡ Some h.part
among_head true q h hs at stands = refl
among_head false q h hs at stands = absurd (cc)

among_rest : (b : Bool) (q : ℕ) (h : Held) (hs : List Held) (x : Part) → (b ≡ true → ⊥) → part_among q hs ≡ Some x → (if b then Some h.part else part_among q hs) ≡ Some x
among_rest true q h hs x other is = absurd (other refl)
among_rest false q h hs x other is = is

among_there : (hs : List Held) → EachOnce hs → (h : Held) → h ∈ hs → part_among h.seat hs ≡ Some h.part
among_there [] once h m = absurd (none_in_nil h m)
among_there (g ∷ hs) once h m =
    ⊎_elim
    (λ (same : g ≡ h). subst (λ (k : Held). part_among k.seat (g ∷ hs) ≡ Some k.part) same (among_head (eqb g.seat g.seat) g.seat g hs refl (eq-eqb g.seat g.seat refl)))
    (λ (later : h ∈ hs).
    among_rest (eqb g.seat h.seat) h.seat g hs h.part (λ at. once.0 h later (sym (eqb-true g.seat h.seat at))) (among_there hs once.1 h later))
    (∈-cons h g hs m)

-- those of a book that was taken in are as it had them
pub seat_part : (e m : Book) (c : Core) (q : ℕ) (x : Part) → EachOnce e.view.held → IsView e.view c → HasIn m e → q ≢ F → part_in m.view q ≡ Some x → c.seats q ≡ x
seat_part e m c q x once view there other found =
    let h = found_among q m.view.held x found in
    let now = there.seats once h.0 h.1 (λ flusher. other (sym h.2 ∙ flusher)) in
    ap (λ (n : ℕ). c.seats n) (sym h.2) ∙ view h.0.seat h.0.part (among_there e.view.held once h.0 now) ∙ h.3

module _ {L : Type 0} (law : Law) (t : Table L) (ss : List (TableSession L)) (e : Book) (joined : AreJoined law t ss e) (once : EachOnce e.view.held) (c : Core) (view : IsView e.view c) where
  -- a session is as it was left
  pub session_part : (k : ℕ) (s : TableSession L) → slice_get ss k ≡ Some s → c.seats (seat_of s) ≡ part_of (book s.pass).view (seat_of s)
  session_part k s at =
      let may = (joined.done k s at).0.may in
      let q = seat_of s in
      let x = part_of (book s.pass).view q in
      seat_part e (book s.pass) c q x once view (joined.sessions k s at) (session_other q may.session) (held_part (book s.pass).view q (between_held x.place x.task may.between))

  -- the session of a seat, which is as it was left
  pub session_at : (q : ℕ) → 0 < q → q ≤ length ss → (k : ℕ) × (s : TableSession L) × (slice_get ss k ≡ Some s) × (seat_of s ≡ q) × (c.seats q ≡ part_of (book s.pass).view (seat_of s))
  session_at q some among =
      let k = q - 1 in
      let s = at_within ss k (omega (arith, some, among)) in
      let here : k + 1 ≡ q = omega (arith, some) in
      let seat : seat_of s.0 ≡ q = (joined.done k s.0 s.1).1 ∙ here in
      (k, s.0, s.1, seat, ap (λ (n : ℕ). c.seats n) (sym seat) ∙ session_part k s.0 s.1)

  -- nothing was done in one behind them
  pub idle_part : (seat : ℕ) → length ss < seat → seat ≤ SESSIONS → (run : ℕ) × (place : ℕ) × (c.seats seat ≡ fresh_part Idle run place)
  idle_part seat above within =
      let h = joined.idle seat above within in
      let x = fresh_part Idle h.run h.place in
      let found : part_in h.idle.view seat ≡ Some x = ap (λ (v : View). part_in v seat) h.view_is ∙ ap (λ (b : Bool). if b then Some x else None) (eq-eqb seat seat refl) in
      let other : seat ≢ F = λ flusher. let s : SESSIONS ≡ 48 = refl in let f : F ≡ 49 = refl in omega (arith, flusher, within, s, f) in
      (h.run, h.place, seat_part e h.idle c seat x once view h.has other found)

  -- each stands between two calls
  pub rests : (q : ℕ) → 0 < q → q ≤ SESSIONS → Rests (c.seats q)
  rests q some within =
      ⊎_elim
      (λ (above : length ss < q).
      let i = idle_part q above within in
      subst Rests (sym i.2) (record { between = refl; sized = λ current drawn. absurd (omega (arith, drawn)) }))
      (λ (among : q ≤ length ss).
      let s = session_at q some among in
      let stands = (joined.done s.0 s.1 s.2).0 in
      let x = part_of (book s.1.pass).view (seat_of s.1) in
      subst Rests (sym s.4) (record { between = stands.may.between; sized = stage_sized s.1.session.stage x stands.session.kept.stage }))
      (cases_lt (length ss) q)

-- STEPS of the flush seat leave the other seats, and what was taken in.
pub record Keeps (b e : Book) : Type 0 where
  pub past : e.past ≡ b.past
  pub once : EachOnce e.view.held → EachOnce b.view.held
  pub held : (h : Held) → h ∈ b.view.held → h.seat ≢ F → h ∈ e.view.held

booked_keeps : (law : Law) (b : Book) (k : Kind) (found : ℕ) (e : Book) → Booked law b F k found e → Keeps b e
booked_keeps law b k found e booked =
    let told = booked.under.told in
    record {
      past = ap (λ (z : Book). z.past) booked.book_is;
      once = λ once. once_before F told.part b.view.held (subst (λ (v : View). EachOnce v.held) told.view_is once);
      held = λ h m other.
          subst (λ (v : View). h ∈ v.held) (sym told.view_is)
          (subst (λ (g : Held). g ∈ map (held_after F told.part) b.view.held) (other_held (eqb h.seat F) F told.part h refl other) (map_in (held_after F told.part) b.view.held h m));
    }

pub took_keeps : (law : Law) (steps : List (Kind × ℕ)) (b e : Book) → Took law F steps b e → Keeps b e
took_keeps law [] b e same = subst (Keeps b) (sym same) (record { past = refl; once = λ once. once; held = λ h m _. m })
took_keeps law (s ∷ steps) b e took =
    let first = took_keeps law steps b took.0 took.1 in
    let last = booked_keeps law took.0 s.0 s.1 e took.2 in
    record { past = last.past ∙ first.past; once = λ once. first.once (last.once once); held = λ h m other. last.held h (first.held h m other) other }

in_after : (m b e : Book) → Keeps b e → HasIn m b → HasIn m e
in_after m b e keeps has = record {
  past = subst (λ (ms : List Past). past_of m ∈ ms) (sym keeps.past) has.past;
  seats = λ once h there other. keeps.held h (has.seats (keeps.once once) h there other) other;
}

pub joined_after : {L : Type 0} (law : Law) (t : Table L) (ss : List (TableSession L)) (b e : Book) → Keeps b e → AreJoined law t ss b → AreJoined law t ss e
joined_after law t ss b e keeps joined = record {
  done = joined.done;
  sessions = λ k s at. in_after (book s.pass) b e keeps (joined.sessions k s at);
  idle = λ seat above within. let i = joined.idle seat above within in record { idle = i.idle; run = i.run; place = i.place; view_is = i.view_is; has = in_after i.idle b e keeps i.has };
}
