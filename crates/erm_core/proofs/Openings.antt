-- The opening's state, from its lists.
use Rattle.std.proofs.Common.{◌≡◌, ℕ, ◌<◌, ◌≤◌, ⊎_elim, Bool, false, List, [], map, ltb, length, sym, ap, ◌∙◌, arith}
use Rattle.std.specs.Prelude.{if◌then◌else◌, slice_index}
use Rattle.std.proofs.lemmas.Bool.{cases_lt, lt-ltb, le-ltb}
use mathlib.Core.Path.{fun_ext}
use Rattle.std.proofs.lemmas.List.{get_or_past, length-map}
use Rattle.erm_machine.specs.declared.limits.TheConstants.{ANNOUNCERS, OBJECT_LIMIT, SESSIONS}
use Rattle.erm_machine.specs.declared.version.Span.{Span}
use Rattle.erm_machine.specs.declared.place.Place.TheVariants.{Vacant, Idle}
use Rattle.erm_kept.specs.declared.object.ObjectState.{ObjectState}
use Rattle.erm_kept.specs.Objects.{object_of}
use Rattle.erm_seat.specs.declared.seat.SeatState.{SeatState}
use Rattle.erm_seat.specs.Parts.{part_of}
use Rattle.erm_core.specs.Cores.{objects_of, parts_of, rows_of, AreOpened, AreFresh}
use Rattle.erm_machine.specs.Core.{no_object, opened_object, Core, fresh_part, opening_state, is_taken}

-- the objects of an opening
opened_objects : (os : List ObjectState) (rows : List (List ℕ)) → length os ≡ OBJECT_LIMIT → AreOpened os rows →
    objects_of os ≡ (λ (oid : ℕ). if ltb oid OBJECT_LIMIT then opened_object (rows_of rows) oid else no_object)
opened_objects os rows len opened = fun_ext (λ oid.
    ⊎_elim
    (λ (h : oid < OBJECT_LIMIT). opened oid (omega (arith, h, len)) ∙ sym (ap (λ (b : Bool). if b then opened_object (rows_of rows) oid else no_object) (lt-ltb oid OBJECT_LIMIT h)))
    (λ (h : OBJECT_LIMIT ≤ oid).
    get_or_past (map object_of os) oid no_object (let e = length-map os object_of in omega (arith, e, h, len))
    ∙ sym (ap (λ (b : Bool). if b then opened_object (rows_of rows) oid else no_object) (le-ltb oid OBJECT_LIMIT h)))
    (cases_lt oid OBJECT_LIMIT))

above : (sessions p : ℕ) → sessions ≤ SESSIONS → ANNOUNCERS ≤ p → is_taken sessions p ≡ false
above sessions p few h = grind arith

-- the seats of an opening
fresh_seats : (xs : List SeatState) (sessions run tail : ℕ) → sessions ≤ SESSIONS → length xs ≡ ANNOUNCERS → AreFresh xs sessions run tail →
    parts_of run tail xs ≡ (λ (p : ℕ). fresh_part (if is_taken sessions p then Idle else Vacant) run tail)
fresh_seats xs sessions run tail few len fresh = fun_ext (λ p.
    ⊎_elim
    (λ (h : p < ANNOUNCERS). fresh p (omega (arith, h, len)))
    (λ (h : ANNOUNCERS ≤ p).
    get_or_past (map part_of xs) p (fresh_part Vacant run tail) (let e = length-map xs part_of in omega (arith, e, h, len))
    ∙ sym (ap (λ (b : Bool). fresh_part (if b then Idle else Vacant) run tail) (above sessions p few h)))
    (cases_lt p ANNOUNCERS))

-- the whole state of an opening
pub opened_core : (os : List ObjectState) (ring : List ℕ) (xs : List SeatState) (log : List Span) (rows : List (List ℕ)) (sessions tail run first cells : ℕ) → sessions ≤ SESSIONS →
    length os ≡ OBJECT_LIMIT → AreOpened os rows → ((k : ℕ) → slice_index ring k ≡ 0) → length xs ≡ ANNOUNCERS → AreFresh xs sessions run tail → log ≡ [] →
    ◌≡◌ {A = Core}
    record {
      shared = record {
        opening = tail;
        run = run;
        first = first;
        cell_limit = cells;
        tail = tail;
        log = log;
        flushed = tail;
        objects_drawn = first;
        cells_drawn = OBJECT_LIMIT;
        objects = objects_of os;
        ring = λ at. slice_index ring at;
      };
      seats = parts_of run tail xs;
    }
    (opening_state sessions (rows_of rows) tail run first cells)
opened_core os ring xs log rows sessions tail run first cells few len_os opened zeros len_xs fresh none =
    let objects = opened_objects os rows len_os opened in
    let words : (λ (at : ℕ). slice_index ring at) ≡ (λ (at : ℕ). let z : ℕ = 0 in z) = fun_ext zeros in
    let seats = fresh_seats xs sessions run tail few len_xs fresh in
    λ i. record {
      shared = record {
        opening = tail;
        run = run;
        first = first;
        cell_limit = cells;
        tail = tail;
        log = none i;
        flushed = tail;
        objects_drawn = first;
        cells_drawn = OBJECT_LIMIT;
        objects = objects i;
        ring = words i;
      };
      seats = seats i;
    }
