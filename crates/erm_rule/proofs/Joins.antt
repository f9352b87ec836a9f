-- A pass that is cut in two, or takes in another, and the last state of the table.
use Rattle.std.proofs.Common.{◌≡◌, ◌≢◌, ℕ, zero, suc, ◌-◌, ◌<◌, ◌≤◌, ◌⊎◌, ⊎_elim, inl, inr, Bool, true, false, ◌&&◌, not, List, [], ◌∷◌, ◌++◌, length, map, take, get_or, set, eqb, max, Option, Some, None, refl, sym, ap, ◌∙◌, subst, arith, length-set, eq-eqb}
use Rattle.std.specs.Prelude.{◌==◌, if◌then◌else◌}
use Rattle.std.proofs.lemmas.Bool.{ne_eqb, cases_eq}
use mathlib.Core.Option.{some, some-injective, some-ne-none}
use lib.ListN.{get_elem?}
use Rattle.atomic_table.specs.Table.{Splits, Joins, Final, Seen}
use Rattle.atomic_table.proofs.Lists.{at_set, set_else, at_longer, at_last}
use Rattle.erm_layout.specs.declared.word.Word.{Word}
use Rattle.erm_layout.specs.declared.word.Word.TheVariants as word
use Rattle.erm_machine.specs.declared.limits.TheConstants.{ANNOUNCERS}
use Rattle.erm_machine.specs.declared.event.Kind.TheVariants as kind
use Rattle.erm_machine.specs.declared.part.Part.{Part}
use Rattle.erm_machine.specs.declared.place.Place.{Place}
use Rattle.erm_machine.specs.declared.place.Place.TheVariants.{Vacant, Idle}
use Rattle.erm_machine.specs.declared.version.Cell.{Cell}
use Rattle.erm_machine.specs.Core.{Core, fresh_part}
use Rattle.erm_machine.specs.Life.{split, join}
use Rattle.erm_machine.specs.Seat.{saw, when, is_vacant}
use Rattle.erm_machine.specs.Step as step
use Rattle.erm_machine.specs.Step.{after_event}
use Rattle.erm_machine.specs.Words.{put, begin_of, state_of, is_seat}
use Rattle.erm_machine.proofs.Frames.{at_cases, put_same, put_other}
use Rattle.erm_model.specs.Member.{◌∈◌}
use Rattle.erm_model.specs.RowTransaction.{Law}
use Rattle.erm_model.proofs.Members.{∈-at}
use Rattle.erm_rule.specs.declared.view.Book.{Book}
use Rattle.erm_rule.specs.declared.view.Held.{Held}
use Rattle.erm_rule.specs.declared.view.Opening.{Opening}
use Rattle.erm_rule.specs.declared.view.View.{View}
use Rattle.erm_rule.specs.Books.{view_in, Passes, WasBook, past_of, left_book, right_book, both_books, spent_book}
use Rattle.erm_rule.specs.Openings.{start_core, start_of}
use Rattle.erm_rule.specs.Cells.{word_in, SeatCells, CellsAre}
use Rattle.erm_rule.specs.Rule.{Stands, HeldByNone, KeptUnder}
use Rattle.erm_rule.specs.Steps.{EndsUnder}
use Rattle.erm_rule.specs.Views.{of_seats, EachOnce, no_held, first_held, last_held, left_of, taken, right_of, joined, held_after, IsInOrder}
use Rattle.erm_rule.proofs.Allowed.{KeepsLaw, KeepsSound, KeepsSpelled, passes_others, standing_view, set_there}
use Rattle.erm_rule.proofs.Carried.{Carries, carry}
use Rattle.erm_rule.proofs.Courses.{views_at, views_set, views_more, AreViews, IsOnCourse, PassesOthers, course_more, courses_stay, courses_own, courses_set, courses_push, took_in_stays, took_in_more, pasts_stay, pasts_set, pasts_push}
use Rattle.erm_rule.proofs.Newest.{newest_kept}
use Rattle.erm_rule.proofs.Parts.{order_after, in_map, map_in, here, in_either, in_one, in_other, in_front, last_or_front, split_at, none_there, once_front, once_both, last_apart}

-- a view that is put behind the others
at_push : (l : List View) (a b : View) (j : ℕ) → get_elem? (l ++ a ∷ []) j ≡ some b → (get_elem? l j ≡ some b) ⊎ ((j ≡ length l) × (a ≡ b))
at_push [] a b zero e = inr (refl, some-injective a b e)
at_push [] a b (suc j) e = absurd (some-ne-none b (sym e))
at_push (x ∷ xs) a b zero e = inl e
at_push (x ∷ xs) a b (suc j) e = ⊎_elim (λ old. inl old) (λ new. inr (ap suc new.0, new.1)) (at_push xs a b j e)

within_views : (l : List View) (b : View) (j : ℕ) → get_elem? l j ≡ some b → j < length l
within_views [] b j e = absurd (some-ne-none b (sym e))
within_views (x ∷ xs) b zero e = omega arith
within_views (x ∷ xs) b (suc j) e = let old = within_views xs b j e in omega (arith, old)

vacant_is : (pl : Place) → is_vacant pl ≡ true → pl ≡ Vacant
vacant_is Vacant e = refl
vacant_is _ e = absurd (cc)

-- both tests of a guard that holds
both_true : (a b : Bool) (x : Part) → a ≡ false → b ≡ true → when (not a && b) x ≡ Some x
both_true a b x e f = cc

neither : (a b : Bool) (x : Part) → a ≡ false → b ≡ false → when (not a && not b) x ≡ Some x
neither a b x e f = cc

-- the words stay where one seat's part changes that keeps its own three, and the cells that keeps its claims and its spare cells
kept_words : (c : Core) (p : ℕ) (y : Part) (cells : ℕ → Cell) → begin_of y.place ≡ begin_of (c.seats p).place → state_of y.place ≡ state_of (c.seats p).place →
    y.back ≡ (c.seats p).back → (u : Word) → word_in (record c { seats = put c.seats p y }) cells u ≡ word_in c cells u
kept_words c p y cells same_begin same_state same_back (word.Begin q) =
    at_cases (λ z. begin_of z.place ≡ begin_of (c.seats q).place) c.seats p y q
    (λ is. subst (λ n. begin_of y.place ≡ begin_of (c.seats n).place) (sym is) same_begin) (λ _. refl)
kept_words c p y cells same_begin same_state same_back (word.State q) =
    at_cases (λ z. state_of z.place ≡ state_of (c.seats q).place) c.seats p y q
    (λ is. subst (λ n. state_of y.place ≡ state_of (c.seats n).place) (sym is) same_state) (λ _. refl)
kept_words c p y cells same_begin same_state same_back (word.Back q) =
    at_cases (λ (z : Part). z.back ≡ (c.seats q).back) c.seats p y q
    (λ is. subst (λ n. y.back ≡ (c.seats n).back) (sym is) same_back) (λ _. refl)
kept_words c p y cells same_begin same_state same_back _ = refl

kept_cells : (c : Core) (p : ℕ) (y : Part) (cells : ℕ → Cell) → Carries (c.seats p) y → CellsAre c cells → CellsAre (record c { seats = put c.seats p y }) cells
kept_cells c p y cells own are = record {
  rows = are.rows;
  objects = are.objects;
  seats = λ q below. at_cases (SeatCells cells) c.seats p y q (λ is. own.kept cells (are.seats p (subst (λ n. n < ANNOUNCERS) is below))) (λ _. are.seats q below);
  undrawn = are.undrawn;
}

first_there : (v : View) → 0 < length v.held → first_held v ∈ v.held
first_there v some_held = ∈-at v.held 0 no_held some_held

last_there : (v : View) → 0 < length v.held → last_held v ∈ v.held
last_there v some_held = ∈-at v.held (length v.held - 1) no_held (omega (arith, some_held))

first_in_front : (hs : List Held) (n : ℕ) → 0 < n → 0 < length hs → get_or hs 0 no_held ∈ take n hs
first_in_front [] n some_taken some_held = absurd (omega arith)
first_in_front (h ∷ hs) zero some_taken some_held = absurd (omega arith)
first_in_front (h ∷ hs) (suc n) some_taken some_held = (zero, refl)

met_guard : (t : Bool) (r : Option Core) (d : Core) → t ≡ true → r ≡ Some d → (if t then r else None) ≡ Some d
met_guard true r d e f = f
met_guard false r d e f = absurd (cc)

unmet_guard : (t : Bool) (r : Option Core) (d : Core) → t ≡ false → r ≡ Some d → (if t then None else r) ≡ Some d
unmet_guard true r d e f = absurd (cc)
unmet_guard false r d e f = f

both_tests : (a b : Bool) → a ≡ false → b ≡ true → (not a && b) ≡ true
both_tests a b e f = cc

-- the core's events
split_event : (c : Core) (a b : ℕ) (x y : Part) → c.seats a ≡ x → c.seats b ≡ y → b ≢ a → is_seat b ≡ true → is_vacant x.place ≡ false → is_vacant y.place ≡ true →
    after_event c a (kind.Split b) ≡ Some (record c { seats = put c.seats b (record y { place = Idle; seen = x.seen }) })
split_event c a b x y giver given ne seat taken_one vacant_one =
    let z : Part = record y { place = Idle; seen = x.seen } in
    let is : split (c.seats a) (c.seats b) ≡ Some z =
    ap (λ (g : Part). split g (c.seats b)) giver ∙ ap (λ (g : Part). split x g) given ∙ both_true (is_vacant x.place) (is_vacant y.place) z taken_one vacant_one in
    met_guard _ _ _ (both_tests (eqb b a) (is_seat b) (ne_eqb b a ne) seat) (ap (λ (o : Option Part). step.with_part c b o) is)

join_event : (c : Core) (a b : ℕ) (x y : Part) → c.seats a ≡ x → c.seats b ≡ y → b ≢ a → is_vacant x.place ≡ false → is_vacant y.place ≡ false →
    after_event c a (kind.Join b) ≡ Some (record c { seats = put c.seats a (saw (max x.seen y.seen) x) })
join_event c a b x y taker other ne taken_one taken_too =
    let z : Part = saw (max x.seen y.seen) x in
    let is : join (c.seats a) (c.seats b) ≡ Some z =
    ap (λ (g : Part). join g (c.seats b)) taker ∙ ap (λ (g : Part). join x g) other ∙ neither (is_vacant x.place) (is_vacant y.place) z taken_one taken_too in
    unmet_guard _ _ _ (ne_eqb b a ne) (ap (λ (o : Option Part). step.with_part c a o) is)

-- SPLIT
module _ (words : List ℕ) (views : List View) (c : Core) (cells : ℕ → Cell) (holder : ℕ → ℕ) (stands : Stands words views c cells holder) (id : ℕ) (v : View) (at : get_elem? views id ≡ some v)
    (g l : Held) (front : List Held) (l_in : l ∈ v.held) (front_in : (h : Held) → h ∈ front → h ∈ v.held) (front_once : EachOnce front) (apart : (h : Held) → h ∈ front → h.seat ≢ l.seat)
    (vacant : l.part.place ≡ Vacant) where
  abbrev split_part : Part
  split_part = (taken g l).part

  abbrev split_core : Core
  split_core = record c { seats = put c.seats l.seat split_part }

  abbrev split_holder : ℕ → ℕ
  split_holder = put holder l.seat (length views)

  abbrev split_views : List View
  split_views = set views id (of_seats front) ++ of_seats (taken g l ∷ []) ∷ []

  each_split : (P : ℕ → View → Type 0) → P id (of_seats front) → ((j : ℕ) (u : View) → j ≢ id → get_elem? views j ≡ some u → P j u) → P (length views) (of_seats (taken g l ∷ [])) →
      (j : ℕ) (u : View) → get_elem? split_views j ≡ some u → P j u
  each_split P left others right j u e =
      ⊎_elim
      (λ old. ⊎_elim (λ (t : (j ≡ id) × (of_seats front ≡ u)). subst (λ (i : ℕ). P i u) (sym t.0) (subst (λ (z : View). P id z) t.1 left)) (λ (t : (j ≢ id) × (get_elem? views j ≡ some u)). others j u t.0 t.1)
      (at_set views id j (of_seats front) u old))
      (λ (t : (j ≡ length (set views id (of_seats front))) × (of_seats (taken g l ∷ []) ≡ u)).
      subst (λ (i : ℕ). P i u) (sym (t.0 ∙ length-set views id (of_seats front))) (subst (λ (z : View). P (length views) z) t.1 right))
      (at_push (set views id (of_seats front)) (of_seats (taken g l ∷ [])) u j e)

  only : (P : Held → Type 0) → P (taken g l) → (h : Held) → h ∈ (taken g l ∷ []) → P h
  only P here h m = ⊎_elim (λ (same : taken g l ≡ h). subst P same here) (λ later. absurd (none_there h later)) (split_at (taken g l) h [] m)

  -- another view doesn't have the seat handed out
  other_seat : (j : ℕ) (u : View) → j ≢ id → get_elem? views j ≡ some u → (h : Held) → h ∈ u.held → h.seat ≢ l.seat
  other_seat j u ne there h m same = ne (sym (stands.holders j u h there m) ∙ ap holder same ∙ stands.holders id v l at l_in)

  front_order : IsInOrder (of_seats front)
  front_order = record {
    once = front_once;
    seats = λ h m. (stands.in_order id v at).seats h (front_in h m);
  }

  split_begin : begin_of split_part.place ≡ begin_of (c.seats l.seat).place
  split_begin = sym (ap (λ (z : Part). begin_of z.place) (stands.parts_are id v l at l_in) ∙ ap begin_of vacant)

  split_state : state_of split_part.place ≡ state_of (c.seats l.seat).place
  split_state = sym (ap (λ (z : Part). state_of z.place) (stands.parts_are id v l at l_in) ∙ ap state_of vacant)

  split_carries : Carries (c.seats l.seat) split_part
  split_carries =
      let same = stands.parts_are id v l at l_in in
      carry (c.seats l.seat) split_part (ap (λ (z : Part). z.current.writes) (sym same)) (ap (λ (z : Part). z.spare) (sym same))

  split_stands : Stands words split_views split_core cells split_holder
  split_stands = record {
    count = stands.count;
    words_are = λ u has. stands.words_are u has ∙ sym (kept_words c l.seat split_part cells split_begin split_state (sym (ap (λ (z : Part). z.back) (stands.parts_are id v l at l_in))) u);
    cells_are = kept_cells c l.seat split_part cells split_carries stands.cells_are;
    parts_are = λ j u h e m.
        each_split (λ (i : ℕ) (z : View). (h : Held) → h ∈ z.held → put c.seats l.seat split_part h.seat ≡ h.part)
        (λ h m. put_other c.seats l.seat split_part h.seat (apart h m) ∙ stands.parts_are id v h at (front_in h m))
        (λ i z ne there h m. put_other c.seats l.seat split_part h.seat (other_seat i z ne there h m) ∙ stands.parts_are i z h there m)
        (only (λ h. put c.seats l.seat split_part h.seat ≡ h.part) (put_same c.seats l.seat split_part))
        j u e h m;
    holders = λ j u h e m.
        each_split (λ (i : ℕ) (z : View). (h : Held) → h ∈ z.held → split_holder h.seat ≡ i)
        (λ h m. put_other holder l.seat (length views) h.seat (apart h m) ∙ stands.holders id v h at (front_in h m))
        (λ i z ne there h m. put_other holder l.seat (length views) h.seat (other_seat i z ne there h m) ∙ stands.holders i z h there m)
        (only (λ h. split_holder h.seat ≡ length views) (put_same holder l.seat (length views)))
        j u e h m;
    in_order = each_split (λ (i : ℕ) (z : View). IsInOrder z) front_order (λ i z ne there. stands.in_order i z there) (record {
      once = ((λ h m. absurd (none_there h m)), tt);
      seats = only (λ h. is_seat h.seat ≡ true) ((stands.in_order id v at).seats l l_in);
    });
  }

  module _ (parted : (h : Held) → h ∈ v.held → (l ≡ h) ⊎ (h ∈ front)) where
    given_there : get_elem? split_views (length views) ≡ some (of_seats (taken g l ∷ []))
    given_there = at_last (set views id (of_seats front)) (of_seats (taken g l ∷ [])) (length views) (length-set views id (of_seats front))

    left_there : get_elem? split_views id ≡ some (of_seats front)
    left_there = at_longer (set views id (of_seats front)) (of_seats (taken g l ∷ []) ∷ []) id (of_seats front) (set_there views id v (of_seats front) at)

    -- a seat that no view has after the split is another than the one handed out, and no view had it before
    split_stay : (q : ℕ) → HeldByNone split_views q → HeldByNone views q
    split_stay q none j u h there m =
        ⊎_elim
        (λ (same : j ≡ id).
        let is : u ≡ v = some-injective u v (sym there ∙ ap (λ (i : ℕ). get_elem? views i) same ∙ at) in
        let own : h ∈ v.held = subst (λ (z : View). h ∈ z.held) is m in
        ⊎_elim
        (λ (last : l ≡ h). subst (λ (z : Held). z.seat ≢ q) last (none (length views) (of_seats (taken g l ∷ [])) (taken g l) given_there (here (taken g l) (taken g l) [] refl)))
        (λ (left : h ∈ front). none id (of_seats front) h left_there left)
        (parted h own))
        (λ (apart_one : j ≢ id).
        none j u h (at_longer (set views id (of_seats front)) (of_seats (taken g l ∷ []) ∷ []) j u (set_else views id j (of_seats front) apart_one ∙ there)) m)
        (cases_eq j id)

    split_others : (fresh : Part) → ((q : ℕ) → HeldByNone views q → c.seats q ≡ fresh) → (q : ℕ) → HeldByNone split_views q → put c.seats l.seat split_part q ≡ fresh
    split_others fresh others q none =
        let old : HeldByNone views q = split_stay q none in
        put_other c.seats l.seat split_part q (λ (same : q ≡ l.seat). old id v l at l_in (sym same)) ∙ others q old

-- the first seat hands out the last one, which is vacant
pub splits : (law : Law) → KeepsSound → KeepsLaw law → KeepsSpelled → (o : Opening) (id : ℕ) (b : Book) → 2 ≤ length b.view.held → is_vacant (first_held b.view).part.place ≡ false → is_vacant (last_held b.view).part.place ≡ true →
    Splits (KeptUnder law o) id b (left_book b) (right_book b)
splits law keeps_sound keeps_law keeps_spelled o id b several giver given s under there =
    let kept = under.kept in
    let c = kept.core in
    let stands = kept.stands in
    let v : View = b.view in
    let views : List View = map view_in s.views in
    let at : get_elem? views id ≡ some v = views_at s.views id b there in
    let some_held : 0 < length v.held = omega (arith, several) in
    let front : List Held = take (length v.held - 1) v.held in
    let front_in : (h : Held) → h ∈ front → h ∈ v.held = in_front (length v.held - 1) v.held in
    let l_in : last_held v ∈ v.held = last_there v some_held in
    let once : EachOnce v.held = (stands.in_order id v at).once in
    let apart : (h : Held) → h ∈ front → h.seat ≢ (last_held v).seat = last_apart v.held no_held some_held once in
    let g_in : first_held v ∈ front = first_in_front v.held (length v.held - 1) (omega (arith, several)) some_held in
    let vacant : (last_held v).part.place ≡ Vacant = vacant_is (last_held v).part.place given in
    let next : Core = record c { seats = put c.seats (last_held v).seat (taken (first_held v) (last_held v)).part } in
    let event : after_event c (first_held v).seat (kind.Split (last_held v).seat) ≡ Some next =
    split_event c (first_held v).seat (last_held v).seat (first_held v).part (last_held v).part (stands.parts_are id v (first_held v) at (front_in (first_held v) g_in))
    (stands.parts_are id v (last_held v) at l_in) (λ same. apart (first_held v) g_in (sym same)) ((stands.in_order id v at).seats (last_held v) l_in) giver given in
    let are : AreViews s.views c = λ j e m. standing_view s.words views c kept.cells kept.holder j e.view stands (views_at s.views j e m) in
    let passes : Passes c next = (kept.sound, ((first_held v).seat, kind.Split (last_held v).seat, event)) in
    let giver_in : first_held v ∈ v.held = front_in (first_held v) g_in in
    let by : PassesOthers s.views id c next = passes_others s.words s.views c kept.cells kept.holder stands id b there (first_held v) giver_in (kind.Split (last_held v).seat) next kept.sound event in
    let on : IsOnCourse (start_of o) b c = kept.courses id b there (first_held v, giver_in) in
    let past = took_in_stays b.past c next passes (kept.pasts id b there) in
    let views_are : map view_in (set s.views id (left_book b) ++ right_book b ∷ []) ≡ set views id (left_of v) ++ right_of v ∷ [] =
    views_more (set s.views id (left_book b)) (right_book b) ∙ ap (λ (l : List View). l ++ right_of v ∷ []) (views_set s.views id (left_book b)) in
    record {
      kept = record {
        core = next;
        cells = kept.cells;
        holder = put kept.holder (last_held v).seat (length views);
        stands = subst (λ (l : List View). Stands s.words l next kept.cells (put kept.holder (last_held v).seat (length views))) (sym views_are)
            (split_stands s.words views c kept.cells kept.holder stands id v at (first_held v) (last_held v) front l_in front_in (once_front (length v.held - 1) v.held once) apart vacant);
        others = subst (λ (l : List View). (q : ℕ) → HeldByNone l q → next.seats q ≡ fresh_part Vacant o.run o.tail) (sym views_are)
            (split_others s.words views c kept.cells kept.holder stands id v at (first_held v) (last_held v) front l_in front_in (once_front (length v.held - 1) v.held once) apart vacant
            (λ h m. last_or_front (length v.held - 1) v.held no_held h (omega (arith, some_held)) m) (fresh_part Vacant o.run o.tail) kept.others);
        sound = keeps_sound c next (first_held v).seat (kind.Split (last_held v).seat) kept.sound event;
        cuts = newest_kept c (first_held v).seat (kind.Split (last_held v).seat) next kept.sound kept.cuts event;
        courses = courses_push (start_of o) (set s.views id (left_book b)) (right_book b) next
            (λ _. (on.0, course_more (start_core b.start) b.taken c next (first_held v).seat (kind.Split (last_held v).seat) 0 v (right_of v) kept.sound (are id b there) refl event on.1))
            (courses_own (start_of o) s.views id (left_book b) next
            (λ _. (on.0, course_more (start_core b.start) b.taken c next (first_held v).seat (kind.Split (last_held v).seat) 0 v (left_of v) kept.sound (are id b there) refl event on.1))
            (courses_stay (start_of o) s.views id c next are by kept.courses));
        pasts = pasts_push (set s.views id (left_book b)) (right_book b) next past (pasts_set s.views id (left_book b) next past (pasts_stay s.views c next passes kept.pasts));
        opened = kept.opened;
        limit = kept.limit;
      };
      lawful = keeps_law c next (first_held v).seat (kind.Split (last_held v).seat) kept.sound under.lawful tt event;
      spelled = keeps_spelled c next (first_held v).seat (kind.Split (last_held v).seat) kept.sound under.spelled tt event;
    }

-- JOIN
module _ (words : List ℕ) (views : List View) (c : Core) (cells : ℕ → Cell) (holder : ℕ → ℕ) (stands : Stands words views c cells holder) (id : ℕ) (v : View) (at : get_elem? views id ≡ some v)
    (other : ℕ) (ne : other ≢ id) (w : View) (there : get_elem? views other ≡ some w) (a : Held) (a_in : a ∈ v.held) (m : ℕ) where
  abbrev join_part : Part
  join_part = saw m a.part

  abbrev join_core : Core
  join_core = record c { seats = put c.seats a.seat join_part }

  abbrev join_holder : ℕ → ℕ
  join_holder = λ q. if holder q == other then id else holder q

  abbrev own_after : List Held
  own_after = map (held_after a.seat join_part) v.held

  abbrev join_views : List View
  join_views = set (set views id (of_seats (own_after ++ w.held))) other (of_seats [])

  each_join : (P : ℕ → View → Type 0) → P id (of_seats (own_after ++ w.held)) → ((j : ℕ) (u : View) → j ≢ id → j ≢ other → get_elem? views j ≡ some u → P j u) → P other (of_seats []) →
      (j : ℕ) (u : View) → get_elem? join_views j ≡ some u → P j u
  each_join P both others spent j u e =
      ⊎_elim (λ (t : (j ≡ other) × (of_seats [] ≡ u)). subst (λ (i : ℕ). P i u) (sym t.0) (subst (λ (z : View). P other z) t.1 spent))
      (λ (t : (j ≢ other) × (get_elem? (set views id (of_seats (own_after ++ w.held))) j ≡ some u)).
      ⊎_elim (λ (r : (j ≡ id) × (of_seats (own_after ++ w.held) ≡ u)). subst (λ (i : ℕ). P i u) (sym r.0) (subst (λ (z : View). P id z) r.1 both))
      (λ (r : (j ≢ id) × (get_elem? views j ≡ some u)). others j u r.0 t.0 r.1) (at_set views id j (of_seats (own_after ++ w.held)) u t.1))
      (at_set (set views id (of_seats (own_after ++ w.held))) other j (of_seats []) u e)

  -- a seat of another view isn't the taker's first
  not_first : (j : ℕ) (u : View) → j ≢ id → get_elem? views j ≡ some u → (h : Held) → h ∈ u.held → h.seat ≢ a.seat
  not_first j u apart is h m same = apart (sym (stands.holders j u h is m) ∙ ap holder same ∙ stands.holders id v a at a_in)

  both_each : (P : Held → Type 0) → ((h : Held) → h ∈ v.held → P (held_after a.seat join_part h)) → ((h : Held) → h ∈ w.held → P h) → (h : Held) → h ∈ (own_after ++ w.held) → P h
  both_each P own theirs h m =
      ⊎_elim (λ left. let old = in_map (held_after a.seat join_part) v.held h left in subst P old.2 (own old.0 old.1)) (λ right. theirs h right) (in_either own_after w.held h m)

  holder_is : (q i : ℕ) → holder q ≡ i → i ≢ other → join_holder q ≡ i
  holder_is q i is apart = subst (λ (b : Bool). (if b then id else holder q) ≡ i) (sym (ne_eqb (holder q) other (λ same. apart (sym is ∙ same)))) is

  holder_was : (q : ℕ) → holder q ≡ other → join_holder q ≡ id
  holder_was q is = subst (λ (b : Bool). (if b then id else holder q) ≡ id) (sym (eq-eqb (holder q) other is)) refl

  seat_apart : (h k : Held) → h ∈ own_after → k ∈ w.held → k.seat ≢ h.seat
  seat_apart h k m n same =
      let old = in_map (held_after a.seat join_part) v.held h m in
      let seat : old.0.seat ≡ h.seat = ap (λ (z : Held). z.seat) old.2 in
      ne (sym (stands.holders other w k there n) ∙ ap holder (same ∙ sym seat) ∙ stands.holders id v old.0 at old.1)

  after_order : IsInOrder (of_seats own_after)
  after_order = order_after a.seat join_part v (stands.in_order id v at)

  both_order : IsInOrder (of_seats (own_after ++ w.held))
  both_order = record {
    once = once_both own_after w.held after_order.once (stands.in_order other w there).once seat_apart;
    seats = λ h n. ⊎_elim (λ left. after_order.seats h left) (λ right. (stands.in_order other w there).seats h right) (in_either own_after w.held h n);
  }

  own_place : (c.seats a.seat).place ≡ join_part.place
  own_place = ap (λ (z : Part). z.place) (stands.parts_are id v a at a_in)

  join_carries : Carries (c.seats a.seat) join_part
  join_carries =
      let same = stands.parts_are id v a at a_in in
      carry (c.seats a.seat) join_part (ap (λ (z : Part). z.current.writes) (sym same)) (ap (λ (z : Part). z.spare) (sym same))

  join_stands : Stands words join_views join_core cells join_holder
  join_stands = record {
    count = stands.count;
    words_are = λ u has. stands.words_are u has
        ∙ sym (kept_words c a.seat join_part cells (sym (ap begin_of own_place)) (sym (ap state_of own_place)) (sym (ap (λ (z : Part). z.back) (stands.parts_are id v a at a_in))) u);
    cells_are = kept_cells c a.seat join_part cells join_carries stands.cells_are;
    parts_are = λ j u h e n.
        each_join (λ (i : ℕ) (z : View). (h : Held) → h ∈ z.held → put c.seats a.seat join_part h.seat ≡ h.part)
        (both_each (λ h. put c.seats a.seat join_part h.seat ≡ h.part)
        (λ h n. ap (λ (z : Part). if eqb h.seat a.seat then join_part else z) (stands.parts_are id v h at n))
        (λ h n. put_other c.seats a.seat join_part h.seat (not_first other w ne there h n) ∙ stands.parts_are other w h there n))
        (λ i z apart _ is h n. put_other c.seats a.seat join_part h.seat (not_first i z apart is h n) ∙ stands.parts_are i z h is n)
        (λ h n. absurd (none_there h n))
        j u e h n;
    holders = λ j u h e n.
        each_join (λ (i : ℕ) (z : View). (h : Held) → h ∈ z.held → join_holder h.seat ≡ i)
        (both_each (λ h. join_holder h.seat ≡ id)
        (λ h n. holder_is h.seat id (stands.holders id v h at n) (λ same. ne (sym same)))
        (λ h n. holder_was h.seat (stands.holders other w h there n)))
        (λ i z _ apart is h n. holder_is h.seat i (stands.holders i z h is n) apart)
        (λ h n. absurd (none_there h n))
        j u e h n;
    in_order = each_join (λ (i : ℕ) (z : View). IsInOrder z) both_order (λ i z _ _ is. stands.in_order i z is) (record { once = tt; seats = λ h n. absurd (none_there h n) });
  }

  both_there : get_elem? join_views id ≡ some (of_seats (own_after ++ w.held))
  both_there =
      set_else (set views id (of_seats (own_after ++ w.held))) other id (of_seats []) (λ same. ne (sym same)) ∙ set_there views id v (of_seats (own_after ++ w.held)) at

  -- the seats of both views are held after the join, and those of the others
  join_stay : (q : ℕ) → HeldByNone join_views q → HeldByNone views q
  join_stay q none j u h is n =
      ⊎_elim
      (λ (same : j ≡ id).
      let view_is : u ≡ v = some-injective u v (sym is ∙ ap (λ (i : ℕ). get_elem? views i) same ∙ at) in
      let own : h ∈ v.held = subst (λ (z : View). h ∈ z.held) view_is n in
      none id (of_seats (own_after ++ w.held)) (held_after a.seat join_part h) both_there
      (in_one own_after w.held (held_after a.seat join_part h) (map_in (held_after a.seat join_part) v.held h own)))
      (λ (apart : j ≢ id).
      ⊎_elim
      (λ (same : j ≡ other).
      let view_is : u ≡ w = some-injective u w (sym is ∙ ap (λ (i : ℕ). get_elem? views i) same ∙ there) in
      none id (of_seats (own_after ++ w.held)) h both_there (in_other own_after w.held h (subst (λ (z : View). h ∈ z.held) view_is n)))
      (λ (apart_too : j ≢ other).
      none j u h
      (set_else (set views id (of_seats (own_after ++ w.held))) other j (of_seats []) apart_too ∙ set_else views id j (of_seats (own_after ++ w.held)) apart ∙ is) n)
      (cases_eq j other))
      (cases_eq j id)

  join_others : (fresh : Part) → ((q : ℕ) → HeldByNone views q → c.seats q ≡ fresh) → (q : ℕ) → HeldByNone join_views q → put c.seats a.seat join_part q ≡ fresh
  join_others fresh others q none =
      let old : HeldByNone views q = join_stay q none in
      put_other c.seats a.seat join_part q (λ (same : q ≡ a.seat). old id v a at a_in (sym same)) ∙ others q old

other_book : (books : List Book) (id other : ℕ) (a b : Book) → other ≢ id → get_elem? (set books id a) other ≡ some b → get_elem? books other ≡ some b
other_book books id other a b ne e = ⊎_elim (λ (t : (other ≡ id) × (a ≡ b)). absurd (ne t.0)) (λ (t : (other ≢ id) × (get_elem? books other ≡ some b)). t.1) (at_set books id other a b e)

-- the first seat takes in the first of another pass, and the pass all of its seats
pub joins : (law : Law) → KeepsSound → KeepsLaw law → KeepsSpelled → (o : Opening) (id : ℕ) (a : Book) (other : ℕ) (b : Book) → 0 < length a.view.held → 0 < length b.view.held →
    is_vacant (first_held a.view).part.place ≡ false → is_vacant (first_held b.view).part.place ≡ false → Joins (KeptUnder law o) id a other b (both_books a b) spent_book
joins law keeps_sound keeps_law keeps_spelled o id a other b some_held some_too taker taken_one s under own_there ne is =
    let kept = under.kept in
    let c = kept.core in
    let stands = kept.stands in
    let v : View = a.view in
    let w : View = b.view in
    let views : List View = map view_in s.views in
    let at : get_elem? views id ≡ some v = views_at s.views id a own_there in
    let there : get_elem? views other ≡ some w = views_at s.views other b (other_book s.views id other (both_books a b) b ne is) in
    let a_in : first_held v ∈ v.held = first_there v some_held in
    let b_in : first_held w ∈ w.held = first_there w some_too in
    let m : ℕ = max (first_held v).part.seen (first_held w).part.seen in
    let next : Core = record c { seats = put c.seats (first_held v).seat (saw m (first_held v).part) } in
    let event : after_event c (first_held v).seat (kind.Join (first_held w).seat) ≡ Some next =
    join_event c (first_held v).seat (first_held w).seat (first_held v).part (first_held w).part (stands.parts_are id v (first_held v) at a_in)
    (stands.parts_are other w (first_held w) there b_in)
    (not_first s.words views c kept.cells kept.holder stands id v at other ne w there (first_held v) a_in m other w ne there (first_held w) b_in) taker taken_one in
    let are : AreViews s.views c = λ j e m. standing_view s.words views c kept.cells kept.holder j e.view stands (views_at s.views j e m) in
    let passes : Passes c next = (kept.sound, ((first_held v).seat, kind.Join (first_held w).seat, event)) in
    let other_there : get_elem? s.views other ≡ some b = other_book s.views id other (both_books a b) b ne is in
    let by : PassesOthers s.views id c next = passes_others s.words s.views c kept.cells kept.holder stands id a own_there (first_held v) a_in (kind.Join (first_held w).seat) next kept.sound event in
    let on : IsOnCourse (start_of o) a c = kept.courses id a own_there (first_held v, a_in) in
    let other_on : IsOnCourse (start_of o) b c = kept.courses other b other_there (first_held w, b_in) in
    let was : WasBook (past_of b) next = record {
      state = c;
      is = record { sound = kept.sound; is_view = are other b other_there; course = other_on.1 };
      later = (1, (c, refl, passes));
    } in
    let views_are : map view_in (set (set s.views id (both_books a b)) other spent_book) ≡ set (set views id (joined v w)) other (of_seats []) =
    views_set (set s.views id (both_books a b)) other spent_book ∙ ap (λ (l : List View). set l other (of_seats [])) (views_set s.views id (both_books a b)) in
    record {
      kept = record {
        core = next;
        cells = kept.cells;
        holder = λ q. if kept.holder q == other then id else kept.holder q;
        stands = subst (λ (l : List View). Stands s.words l next kept.cells (λ q. if kept.holder q == other then id else kept.holder q)) (sym views_are)
            (join_stands s.words views c kept.cells kept.holder stands id v at other ne w there (first_held v) a_in m);
        others = subst (λ (l : List View). (q : ℕ) → HeldByNone l q → next.seats q ≡ fresh_part Vacant o.run o.tail) (sym views_are)
            (join_others s.words views c kept.cells kept.holder stands id v at other ne w there (first_held v) a_in m (fresh_part Vacant o.run o.tail) kept.others);
        sound = keeps_sound c next (first_held v).seat (kind.Join (first_held w).seat) kept.sound event;
        cuts = newest_kept c (first_held v).seat (kind.Join (first_held w).seat) next kept.sound kept.cuts event;
        courses = courses_set (start_of o) (set s.views id (both_books a b)) other spent_book next (λ seats. absurd (none_there seats.0 seats.1))
            (courses_own (start_of o) s.views id (both_books a b) next
            (λ _. (on.0, course_more (start_core a.start) a.taken c next (first_held v).seat (kind.Join (first_held w).seat) 0 v (joined v w) kept.sound (are id a own_there) refl event on.1))
            (courses_stay (start_of o) s.views id c next are by kept.courses));
        pasts = pasts_set (set s.views id (both_books a b)) other spent_book next (λ m within. absurd (none_there m within))
            (pasts_set s.views id (both_books a b) next
            (took_in_more a.past b.past (past_of b) next (took_in_stays a.past c next passes (kept.pasts id a own_there)) (took_in_stays b.past c next passes (kept.pasts other b other_there)) was)
            (pasts_stay s.views c next passes kept.pasts));
        opened = kept.opened;
        limit = kept.limit;
      };
      lawful = keeps_law c next (first_held v).seat (kind.Join (first_held w).seat) kept.sound under.lawful tt event;
      spelled = keeps_spelled c next (first_held v).seat (kind.Join (first_held w).seat) kept.sound under.spelled tt event;
    }

-- CLOSE
first_word : (ws : List ℕ) (n : ℕ) → get_elem? ws 0 ≡ some n → get_or ws 0 0 ≡ n
first_word [] n e = absurd (some-ne-none n (sym e))
first_word (x ∷ xs) n e = some-injective x n e

-- the tail in the last state
pub ends : (law : Law) (o : Opening) (id : ℕ) (b : Book) (ws : List ℕ) (xs : List (Unit {0})) (tail : ℕ) → Final (Seen (KeptUnder law o) id b) ws xs → get_elem? ws 0 ≡ some tail → EndsUnder law o b tail
ends law o id b ws xs tail final is =
    let s = final.0 in
    let under = final.1.0 in
    let kept = under.kept in
    let words : s.words ≡ ws = final.2 in
    record {
      ends = record {
        core = kept.core;
        sound = kept.sound;
        is_view = standing_view s.words (map view_in s.views) kept.core kept.cells kept.holder id b.view kept.stands (views_at s.views id b final.1.1);
        in_order = kept.stands.in_order id b.view (views_at s.views id b final.1.1);
        start = λ seats. (kept.courses id b final.1.1 seats).0;
        course = λ seats. (kept.courses id b final.1.1 seats).1;
        past = kept.pasts id b final.1.1;
        opened = kept.opened;
        others = λ q wordless. kept.others q (λ j u h there m same. absurd (let seat : is_seat h.seat ≡ true = (kept.stands.in_order j u there).seats h m in cc));
        tail_is = sym (kept.stands.words_are word.Tail tt) ∙ ap (λ (l : List ℕ). get_or l 0 0) words ∙ first_word ws tail is;
      };
      lawful = under.lawful;
      spelled = under.spelled;
    }
