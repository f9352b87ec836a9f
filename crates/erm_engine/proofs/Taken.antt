-- A pass that takes in another.
use Rattle.std.proofs.Common.{◌≡◌, ◌≢◌, ℕ, ◌<◌, ⊎_elim, Bool, true, false, List, [], ◌∷◌, ◌++◌, length, map, max, get_or, eqb, eqb-true, Option, Some, unwrap_or, refl, sym, ap, ◌∙◌, subst, arith, eq-eqb}
use Rattle.std.specs.Prelude.{if◌then◌else◌, is_some}
use Rattle.std.proofs.lemmas.Bool.{cases_eq}
use Rattle.std.proofs.lemmas.Option.{same_Some}
use Rattle.erm_core_stays.proofs.Numbers.{join_shared}
use Rattle.erm_model.specs.Member.{◌∈◌}
use Rattle.erm_model.proofs.Members.{none_in_nil, ∈-behind}
use Rattle.erm_machine.specs.declared.event.Kind.TheVariants as kind
use Rattle.erm_machine.specs.declared.limits.TheConstants.{FLUSH_SEAT}
use Rattle.erm_machine.specs.declared.part.Part.{Part}
use Rattle.erm_machine.specs.declared.place.Place.TheVariants.{Idle, Vacant}
use Rattle.erm_machine.specs.Core.{Core, Shared, fresh_part}
use Rattle.erm_machine.specs.Life.{is_between}
use Rattle.erm_machine.specs.Seat.{is_vacant, saw}
use Rattle.erm_machine.proofs.Listed.{∈-cons, ∈-either, ∈-first, ∈-head, ∈-second}
use Rattle.erm_ring.specs.Turns.{MayGather}
use Rattle.erm_ring.proofs.Gathering.{has_part}
use Rattle.erm_rule.specs.declared.view.Book.{Book}
use Rattle.erm_rule.specs.declared.view.Held.{Held}
use Rattle.erm_rule.specs.declared.view.View.{View}
use Rattle.erm_rule.specs.Books.{IsAfter, IsBookOf, WasMet, both_books, past_of}
use Rattle.erm_rule.specs.Views.{EachOnce, MayJoin, NotAmong, after_join, first_held, held_after, joined, no_held, part_among, part_in, part_of}
use Rattle.erm_rule.proofs.Courses.{goes_both, met_kept, onward, seen_nothing}
use Rattle.erm_rule.proofs.Parts.{map_in, part_in-other, part_in-same}
use Rattle.erm_engine.specs.Taken.{HasTaken, behind}
use Rattle.erm_engine.proofs.Unflushed.{still}

-- SEATS THAT STAND ONCE, in a front of a list, and before a part was set
once_left : (hs gs : List Held) → EachOnce (hs ++ gs) → EachOnce hs
once_left [] gs once = tt
once_left (h ∷ hs) gs once = (λ g m. once.0 g (∈-first hs gs g m), once_left hs gs once.1)

pub once_before : (q : ℕ) (y : Part) (hs : List Held) → EachOnce (map (held_after q y) hs) → EachOnce hs
once_before q y [] once = tt
once_before q y (h ∷ hs) once = (λ g m. once.0 (held_after q y g) (map_in (held_after q y) hs g m), once_before q y hs once.1)

-- a part is set nowhere else
pub other_held : (b : Bool) (q : ℕ) (y : Part) (h : Held) → eqb h.seat q ≡ b → h.seat ≢ q → record h { part = if b then y else h.part } ≡ h
other_held true q y h is other = absurd (other (eqb-true h.seat q is))
other_held false q y h is other = refl

none_set : (q : ℕ) (y : Part) (hs : List Held) → NotAmong q hs → map (held_after q y) hs ≡ hs
none_set q y [] none = refl
none_set q y (h ∷ hs) none =
    ap (λ (g : Held). g ∷ map (held_after q y) hs) (other_held (eqb h.seat q) q y h refl (none h (∈-head h hs)))
    ∙ ap (λ (l : List Held). h ∷ l) (none_set q y hs (λ g m. none g (∈-behind h hs g m)))

module _ (z : Part) (gs : List Held) where
  abbrev first_seat : List Held → ℕ
  first_seat hs = (get_or hs 0 no_held).seat

  abbrev both : List Held → List Held
  both hs = map (held_after (first_seat hs) z) hs ++ gs

  still_behind : (hs : List Held) → EachOnce (both hs) → (h : Held) → h ∈ behind hs → h ∈ behind (both hs)
  still_behind [] once h m = absurd (none_in_nil h m)
  still_behind (g ∷ rest) once h m =
      let before = once_before g.seat z (g ∷ rest) (once_left (map (held_after g.seat z) (g ∷ rest)) gs once) in
      ∈-first (map (held_after g.seat z) rest) gs h (subst (λ (l : List Held). h ∈ l) (sym (none_set g.seat z rest before.0)) m)

  taken_behind : (hs : List Held) → 0 < length hs → (h : Held) → h ∈ gs → h ∈ behind (both hs)
  taken_behind [] some h m = absurd (omega (arith, some))
  taken_behind (g ∷ rest) some h m = ∈-second (map (held_after g.seat z) rest) gs h m

  first_stands : (hs : List Held) → 0 < length hs → is_vacant z.place ≡ false → (0 < length (both hs)) × (is_vacant (get_or (both hs) 0 no_held).part.place ≡ false)
  first_stands [] some stands = absurd (omega (arith, some))
  first_stands (g ∷ rest) some stands =
      (omega arith, ap (λ (b : Bool). is_vacant (if b then z else g.part).place) (eq-eqb g.seat g.seat refl) ∙ stands)

-- PARTS. Those of the taker are as they were, but for what its first seat has seen.
abbrev pub PartsStay : View → View → Type 0
PartsStay v w = (q : ℕ) (x : Part) → part_in v q ≡ Some x → (seen : ℕ) × (part_in w q ≡ Some (saw seen x))

more_by : (b : Bool) (y : Part) (o p : Option Part) (x : Part) → (o ≡ Some x → p ≡ Some x) → (if b then Some y else o) ≡ Some x → (if b then Some y else p) ≡ Some x
more_by true y o p x on is = is
more_by false y o p x on is = on is

among_more : (q : ℕ) (x : Part) (hs gs : List Held) → part_among q hs ≡ Some x → part_among q (hs ++ gs) ≡ Some x
among_more q x [] gs is = absurd (cc)
among_more q x (h ∷ hs) gs is = more_by (eqb h.seat q) h.part (part_among q hs) (part_among q (hs ++ gs)) x (among_more q x hs gs) is

among_first : (hs : List Held) → 0 < length hs → part_among (get_or hs 0 no_held).seat hs ≡ Some (get_or hs 0 no_held).part
among_first [] some = absurd (omega (arith, some))
among_first (h ∷ hs) some = ap (λ (b : Bool). if b then Some h.part else part_among h.seat hs) (eq-eqb h.seat h.seat refl)

joined_parts : (v w : View) → 0 < length v.held → PartsStay v (joined v w)
joined_parts v w some q x is =
    let first = first_held v in
    let n = max first.part.seen (first_held w).part.seen in
    let there : part_in v first.seat ≡ Some first.part = among_first v.held some in
    ⊎_elim
    (λ (here : q ≡ first.seat).
    let same : x ≡ first.part = same_Some x first.part (sym is ∙ ap (λ (s : ℕ). part_in v s) here ∙ there) in
    let set : part_in (after_join v w) first.seat ≡ Some (saw n first.part) = part_in-same v first.seat first.part (saw n first.part) there in (
      n,
      among_more q (saw n x) (after_join v w).held w.held (ap (λ (s : ℕ). part_in (after_join v w) s) here ∙ set ∙ ap (λ (y : Part). Some (saw n y)) (sym same)),
    ))
    (λ (other : q ≡ first.seat → ⊥).
    (x.seen, among_more q x (after_join v w).held w.held (part_in-other v first.seat q (saw n first.part) other ∙ is)))
    (cases_eq q first.seat)

-- so the flush seat is between two turns as before, and at its place
pub gathers_stay : (v w : View) → PartsStay v w → MayGather v → MayGather w
gathers_stay v w stay may =
    let now = stay FLUSH_SEAT (part_of v FLUSH_SEAT) (has_part v may.held) in
    record {
      held = ap (λ (o : Option Part). is_some o) now.1;
      between = ap (λ (o : Option Part). is_between (unwrap_or o (fresh_part Vacant 0 0)).flushing) now.1 ∙ may.between;
    }

pub unpinned_stay : (v w : View) → PartsStay v w → MayGather v → (part_of v FLUSH_SEAT).place ≡ Idle → (part_of w FLUSH_SEAT).place ≡ Idle
unpinned_stay v w stay may idle =
    let now = stay FLUSH_SEAT (part_of v FLUSH_SEAT) (has_part v may.held) in
    ap (λ (o : Option Part). (unwrap_or o (fresh_part Vacant 0 0)).place) now.1 ∙ idle

-- and nothing is flushed
join_unflushed : (a b : Book) (place : ℕ) → MayGather (joined a.view b.view) → ((c : Core) → IsBookOf a c → c.shared.flushed ≡ place) → (c : Core) → IsBookOf (both_books a b) c → c.shared.flushed ≡ place
join_unflushed a b place may flushed c is =
    onward (λ (d : Core). d.shared.flushed ≡ place) a (first_held a.view).seat (kind.Join (first_held b.view).seat) 0 (joined a.view b.view) (still (joined a.view b.view) place may)
    (λ d e of met event. ap (λ (s : Shared). s.flushed) (join_shared d (first_held a.view).seat (first_held b.view).seat e _ event) ∙ flushed d of) c
    (record { sound = is.sound; is_view = is.is_view; course = is.course })

-- a pass that has taken in none
pub none_taken : (a : Book) → MayJoin a.view → HasTaken [] a a
none_taken a joins = record {
  start = refl;
  goes = seen_nothing a;
  joins = joins;
  kept = λ m there. there;
  once = λ once. once;
  held = λ once h m. m;
  pasts = λ m none. absurd (none_in_nil m none);
  seats = λ m none. absurd (none_in_nil m none);
  parts = λ q x is. (x.seen, is);
  flushed = λ may place at. at;
}

-- a book that takes in another goes on
goes_join : (a b : Book) → IsAfter a (both_books a b)
goes_join a b c is =
    let P : Core → Type 0 = λ _. Unit {0} in
    onward (WasMet a P) a (first_held a.view).seat (kind.Join (first_held b.view).seat) 0 (joined a.view b.view) (λ d e _ passes met. met_kept a P d e passes met)
    (λ d e of met event. met_kept a P d e (of.sound, ((first_held a.view).seat, kind.Join (first_held b.view).seat, event)) (seen_nothing a d of)) c
    (record { sound = is.sound; is_view = is.is_view; course = is.course })

pub one_taken : (a b : Book) → MayJoin a.view → MayJoin b.view → HasTaken (b ∷ []) a (both_books a b)
one_taken a b may also =
    let z : Part = saw _ (first_held a.view).part in
    let stands = first_stands z b.view.held a.view.held may.some_held may.taken in
    let only : (m : Book) → m ∈ (b ∷ []) → b ≡ m = λ m there. ⊎_elim (λ (same : b ≡ m). same) (λ (none : m ∈ []). absurd (none_in_nil m none)) (∈-cons m b [] there) in
    record {
      start = refl;
      goes = goes_join a b;
      joins = record { some_held = stands.0; taken = stands.1 };
      kept = λ m there. ∈-first (a.past ++ b.past) (past_of b ∷ []) m (∈-first a.past b.past m there);
      once = λ once. once_before (first_held a.view).seat z a.view.held (once_left (map (held_after (first_held a.view).seat z) a.view.held) b.view.held once);
      held = λ once h m. still_behind z b.view.held a.view.held once h m;
      pasts = λ m there. subst (λ (e : Book). past_of e ∈ (both_books a b).past) (only m there) (∈-second (a.past ++ b.past) (past_of b ∷ []) (past_of b) (∈-head (past_of b) []));
      seats = λ m there once h has. taken_behind z b.view.held a.view.held may.some_held h (subst (λ (e : Book). h ∈ e.view.held) (sym (only m there)) has);
      parts = joined_parts a.view b.view may.some_held;
      flushed = λ gathers place at. join_unflushed a b place (gathers_stay a.view (joined a.view b.view) (joined_parts a.view b.view may.some_held) gathers) at;
    }

-- those taken in first, and then others
pub then_taken : (ms ns : List Book) (a b c : Book) → HasTaken ms a b → HasTaken ns b c → HasTaken (ms ++ ns) a c
then_taken ms ns a b c first more = record {
  start = more.start ∙ first.start;
  goes = goes_both a b c first.goes more.goes;
  joins = more.joins;
  kept = λ m there. more.kept m (first.kept m there);
  once = λ once. first.once (more.once once);
  held = λ once h m. more.held once h (first.held (more.once once) h m);
  pasts = λ m there. ⊎_elim (λ (old : m ∈ ms). more.kept (past_of m) (first.pasts m old)) (λ (new : m ∈ ns). more.pasts m new) (∈-either ms ns m there);
  seats = λ m there once h has.
      ⊎_elim (λ (old : m ∈ ms). more.held once h (first.seats m old (more.once once) h has)) (λ (new : m ∈ ns). more.seats m new once h has) (∈-either ms ns m there);
  parts = λ q x is. let mid = first.parts q x is in let end = more.parts q (saw mid.0 x) mid.1 in (end.0, end.1);
  flushed = λ may place at. more.flushed (gathers_stay a.view b.view first.parts may) place (first.flushed may place at);
}
