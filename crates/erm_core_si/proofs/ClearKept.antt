-- Each event keeps what a look promises.
use Rattle.std.proofs.Common.{◌≡◌, ◌≢◌, ℕ, ◌<◌, ◌≤◌, ⊎_elim, Bool, true, false, List, length, max, set, get_or, Option, Some, None, refl, sym, ap, subst, inl, arith, get_or-set_other, length-set, ◌∙◌}
use Rattle.std.specs.Prelude.{if◌then◌else◌, slice_index}
use Rattle.std.proofs.lemmas.Bool.{and_parts, cases_eq, cases_lt, leb-true}
use Rattle.std.proofs.lemmas.List.{set_past, get_or-set_same}
use Rattle.std.proofs.lemmas.Option.{same_Some}
use Rattle.erm_machine.specs.declared.limits.TheConstants.{ANNOUNCERS}
use Rattle.erm_machine.specs.declared.attempt.Attempt.{Attempt}
use Rattle.erm_machine.specs.declared.event.Kind.{Kind}
use Rattle.erm_machine.specs.declared.event.Kind.TheVariants as kind
use Rattle.erm_machine.specs.declared.part.Part.{Part}
use Rattle.erm_machine.specs.declared.place.Place.{Place}
use Rattle.erm_machine.specs.declared.place.Place.TheVariants.{Vacant, Idle, Begun, Announced, Active, Sealing, Drawn, Sealed, Decided, Leaving}
use Rattle.erm_machine.specs.Clear.{OwnClear, Clear}
use Rattle.erm_machine.specs.Core.{Core, Shared, spot_of, word_at}
use Rattle.erm_machine.specs.Facts.{IsCurrent}
use Rattle.erm_machine.specs.Life.{noted, split, join}
use Rattle.erm_machine.specs.Sound.{Sound}
use Rattle.erm_machine.specs.Step.{shared_after, after_event, with_part}
use Rattle.erm_machine.specs.Words.{put, state_of, is_clear}
use Rattle.erm_machine.proofs.Frames.{each_seat, each_two}
use Rattle.erm_machine.proofs.Guards.{when_then, either_way}
use Rattle.erm_machine.proofs.QuietKinds.{MeetsOne, DrawsNone, keeps_log, Moves, moves}
use Rattle.erm_core_si.proofs.ClearMoved.{Sees, NotesNone, sees, sees_draw}

-- what the law says of a state
pub record Kept (d : Core) : Type 0 where
  pub own : (p : ℕ) → OwnClear d.shared (d.seats p)
  pub both : (p q : ℕ) → p ≢ q → Clear (d.seats p) q (d.seats q)

-- the own bounds after a step that notes none, and those of the others
own_after : (s t : Shared) (x y : Part) → s.tail ≤ t.tail → Sees s.tail t.tail x y → OwnClear s x → OwnClear t y
own_after s t x y grows sees own = record {
  seen = sees.seen;
  bounds = λ q. let h = own.bounds q in let e = ap (λ (bs : List ℕ). slice_index bs q) sees.clear in omega (arith, h, e, grows);
  notes = ap length sees.clear ∙ own.notes;
}

own_stays : (s t : Shared) (x : Part) → s.tail ≤ t.tail → OwnClear s x → OwnClear t x
own_stays s t x grows own = record { seen = let h = own.seen in omega (arith, h, grows); bounds = λ q. let h = own.bounds q in omega (arith, h, grows); notes = own.notes }

-- the seat looks at the others as before
new_eyes : (now later : ℕ) (x y : Part) (q : ℕ) (z : Part) → Sees now later x y → Clear x q z → Clear y q z
new_eyes now later x y q z sees h = record { above = λ positive. let e = ap (λ (bs : List ℕ). slice_index bs q) sees.clear in let a = h.above positive in omega (arith, e, a) }

-- the others look at the seat: a range that is new starts at the tail, above every bound noted
on_new : (s : Shared) (later : ℕ) (x y : Part) (p : ℕ) (z : Part) → OwnClear s z → Sees s.tail later x y → Clear z p x → Clear z p y
on_new s later x y p z own sees h = record {
  above = λ positive.
      ⊎_elim (λ (same : y.current.stamp ≡ x.current.stamp). let a = h.above (omega (arith, same, positive)) in omega (arith, a, same))
      (⊎_elim (λ (none : y.current.stamp ≡ 0). absurd (omega (arith, none, positive)))
      (λ (drawn : y.current.stamp ≡ s.tail). let b = own.bounds p in omega (arith, b, drawn))) sees.stamp;
}

-- a step that notes no bound
kept_from : (c : Core) (p : ℕ) (y : Part) (t : Shared) (d : Core) → Sound c → c.shared.tail ≤ t.tail → Sees c.shared.tail t.tail (c.seats p) y →
    record { shared = t; seats = put c.seats p y } ≡ d → Kept d
kept_from c p y t d sound grows sees is =
    subst Kept is (record {
      own = each_seat (λ _ (z : Part). OwnClear t z) c.seats p y (own_after c.shared t (c.seats p) y grows sees (sound.own p).clear)
          (λ q _. own_stays c.shared t (c.seats q) grows (sound.own q).clear);
      both = each_two Clear c.seats p y
          (λ q ne. new_eyes c.shared.tail t.tail (c.seats p) y q (c.seats q) sees (sound.both p q (λ e. ne (sym e))).clear)
          (λ q ne. on_new c.shared t.tail (c.seats p) y p (c.seats q) (sound.own q).clear sees (sound.both q p ne).clear)
          (λ q r _ _ ne. (sound.both q r ne).clear);
    })

-- a seat that is found clear for a bound has no unfinished range below it
clear_above : (pl : Place) (t : Attempt) (bound : ℕ) → IsCurrent pl t → is_clear (state_of pl) bound ≡ true → 0 < t.stamp → bound ≤ t.stamp
clear_above Vacant t bound cur clear positive = absurd (omega (arith, ap (λ (u : Attempt). u.stamp) cur))
clear_above Idle t bound cur clear positive = absurd (omega (arith, ap (λ (u : Attempt). u.stamp) cur))
clear_above (Begun tail) t bound cur clear positive = absurd (omega (arith, ap (λ (u : Attempt). u.stamp) cur))
clear_above (Announced tail) t bound cur clear positive = absurd (omega (arith, ap (λ (u : Attempt). u.stamp) cur))
clear_above (Active tail) t bound cur clear positive = let z = cur.stamp in absurd (omega (arith, z, positive))
clear_above (Sealing tail) t bound cur clear positive = let z = cur.stamp in absurd (omega (arith, z, positive))
clear_above (Drawn tail c) t bound cur clear positive = absurd (cc)
clear_above (Sealed tail c) t bound cur clear positive = stamp_above c bound cur.positive clear t.stamp cur.stamp_is
  where
    stamp_above : (c bound : ℕ) → 0 < c → is_clear c bound ≡ true → (n : ℕ) → n ≡ c → bound ≤ n
    stamp_above c bound positive clear n e = grind arith
clear_above (Decided tail c) t bound cur clear positive = stamp_above c bound cur.positive clear t.stamp cur.stamp_is
  where
    stamp_above : (c bound : ℕ) → 0 < c → is_clear c bound ≡ true → (n : ℕ) → n ≡ c → bound ≤ n
    stamp_above c bound positive clear n e = grind arith
clear_above (Leaving c) t bound cur clear positive = stamp_above c bound cur.positive clear t.stamp cur.stamp_is
  where
    stamp_above : (c bound : ℕ) → 0 < c → is_clear c bound ≡ true → (n : ℕ) → n ≡ c → bound ≤ n
    stamp_above c bound positive clear n e = grind arith

-- the bounds after one is noted
noted_at : (P : ℕ → ℕ → Type 0) (other bound : ℕ) (bounds : List ℕ) (q : ℕ) → P q (slice_index bounds q) →
    (q ≡ other → P q bound) → P q (slice_index (noted other bound bounds) q)
noted_at P other bound bounds q old new =
    ⊎_elim
    (λ (e : q ≡ other).
    ⊎_elim
    (λ (within : other < length bounds).
    subst (λ n. P q n) (sym (subst (λ k. slice_index (set bounds other (max (get_or bounds other 0) bound)) k ≡ max (get_or bounds other 0) bound) (sym e) (get_or-set_same bounds other _ 0 within)))
    (greater (P q) (get_or bounds other 0) bound (subst (λ k. P q (get_or bounds k 0)) e old) (new e)))
    (λ (out : length bounds ≤ other). subst (λ (bs : List ℕ). P q (slice_index bs q)) (sym (set_past bounds other _ out)) old)
    (cases_lt other (length bounds)))
    (λ (ne : q ≡ other → ⊥). subst (λ n. P q n) (sym (get_or-set_other bounds other q _ 0 ne)) old)
    (cases_eq q other)
  where
    greater : (Q : ℕ → Type 0) (a b : ℕ) → Q a → Q b → Q (max a b)
    greater Q a b at_a at_b =
        ⊎_elim (λ (less : a < b). subst Q (let e : b ≡ max a b = omega arith in e) at_b) (λ (le : b ≤ a). subst Q (let e : a ≡ max a b = omega arith in e) at_a) (cases_lt a b)

-- LOOK
look_kept : (c : Core) (p other bound : ℕ) (d : Core) → Sound c → Moves c p (kind.LoadState other bound) d → Kept d
look_kept c p other bound d sound m =
    when_then (λ y. record { shared = c.shared; seats = put c.seats p y } ≡ d → Kept d) _ _ m.part m.after
    (λ g is.
    let own = (sound.own p).clear in
    let below : bound ≤ c.shared.tail = let a = leb-true bound (c.seats p).seen (and_parts _ _ g).1 in let b = own.seen in omega (arith, a, b) in
    subst Kept is (record {
      own = each_seat (λ _ (z : Part). OwnClear c.shared z) c.seats p _
          (record {
            seen = own.seen;
            bounds = λ q.
                either_way (λ (bs : List ℕ). slice_index bs q ≤ c.shared.tail) (is_clear (state_of (c.seats other).place) bound) (noted other bound (c.seats p).clear) (c.seats p).clear
                (λ _. noted_at (λ _ n. n ≤ c.shared.tail) other bound (c.seats p).clear q (own.bounds q) (λ _. below)) (λ _. own.bounds q);
            notes = either_way (λ (bs : List ℕ). length bs ≡ ANNOUNCERS) (is_clear (state_of (c.seats other).place) bound) (noted other bound (c.seats p).clear) (c.seats p).clear
                (λ _. length-set (c.seats p).clear other (max (slice_index (c.seats p).clear other) bound) ∙ own.notes) (λ _. own.notes);
          })
          (λ q _. (sound.own q).clear);
      both = each_two Clear c.seats p _
          (λ q ne. record {
            above = λ positive.
                let old = (sound.both p q (λ e. ne (sym e))).clear.above positive in
                either_way (λ (bs : List ℕ). slice_index bs q ≤ (c.seats q).current.stamp) (is_clear (state_of (c.seats other).place) bound) (noted other bound (c.seats p).clear) (c.seats p).clear
                (λ clear. noted_at (λ _ n. n ≤ (c.seats q).current.stamp) other bound (c.seats p).clear q old
                (λ (e : q ≡ other). clear_above (c.seats q).place (c.seats q).current bound (sound.own q).ranges.current (subst (λ k. is_clear (state_of (c.seats k).place) bound ≡ true) (sym e) clear) positive))
                (λ _. old);
          })
          (λ q ne. record { above = λ positive. (sound.both q p ne).clear.above positive })
          (λ q r _ _ ne. (sound.both q r ne).clear);
    })) (sym m.is)

-- a split, a join
part_kept : (c : Core) (p : ℕ) (y : Part) (d : Core) → Sound c → Sees c.shared.tail c.shared.tail (c.seats p) y → record c { seats = put c.seats p y } ≡ d → Kept d
part_kept c p y d sound sees is = kept_from c p y c.shared d sound (omega arith) sees is

split_kept : (c : Core) (p other : ℕ) (d : Core) → Sound c → after_event c p (kind.Split other) ≡ Some d → Kept d
split_kept c p other d sound e = by_test _ e
  where
    from : (o : Option Part) → split (c.seats p) (c.seats other) ≡ o → with_part c other o ≡ Some d → Kept d
    from None at e = absurd (cc)
    from (Some y) at e =
        part_kept c other y d sound
        (when_then (Sees c.shared.tail c.shared.tail (c.seats other)) _ _ y at (λ _. record { seen = (sound.own p).clear.seen; clear = refl; stamp = inl refl })) (same_Some _ _ e)

    by_test : (b : Bool) → (if b then with_part c other (split (c.seats p) (c.seats other)) else None) ≡ Some d → Kept d
    by_test true e = from _ refl e
    by_test false e = absurd (cc)

join_kept : (c : Core) (p other : ℕ) (d : Core) → Sound c → after_event c p (kind.Join other) ≡ Some d → Kept d
join_kept c p other d sound e = by_test _ e
  where
    from : (o : Option Part) → join (c.seats p) (c.seats other) ≡ o → with_part c p o ≡ Some d → Kept d
    from None at e = absurd (cc)
    from (Some y) at e =
        part_kept c p y d sound
        (when_then (Sees c.shared.tail c.shared.tail (c.seats p)) _ _ y at
        (λ _. record { seen = let a = (sound.own p).clear.seen in let b = (sound.own other).clear.seen in omega (arith, a, b); clear = refl; stamp = inl refl })) (same_Some _ _ e)

    by_test : (b : Bool) → (if b then None else with_part c p (join (c.seats p) (c.seats other))) ≡ Some d → Kept d
    by_test true e = absurd (cc)
    by_test false e = from _ refl e

-- a step that notes no bound and draws no range
plain_kept : (c : Core) (p : ℕ) (k : Kind) (d : Core) → NotesNone k → DrawsNone k → MeetsOne k → Sound c → after_event c p k ≡ Some d → Kept d
plain_kept c p k d notes draws one sound e =
    let m = moves c p k d one e in
    let same = keeps_log p k (word_at c (spot_of p k)) (c.seats p) c.shared draws in
    let tail = same.tail in
    kept_from c p m.part (shared_after p k (word_at c (spot_of p k)) (c.seats p) c.shared) d sound (omega (arith, tail))
    (subst (λ n. Sees c.shared.tail n (c.seats p) m.part) (sym tail) (sees c p k d notes (sound.own p).clear.seen m)) (sym m.is)

-- Each event keeps what looks promise.
pub kept : (c : Core) (p : ℕ) (k : Kind) (d : Core) → Sound c → after_event c p k ≡ Some d → Kept d
kept c p (kind.AddTail size) d sound e =
    let m = moves c p (kind.AddTail size) d tt e in
    kept_from c p m.part (shared_after p (kind.AddTail size) c.shared.tail (c.seats p) c.shared) d sound (omega arith)
    (sees_draw c.shared.tail (c.seats p) (sound.own p).clear.seen p size (c.seats p).place m.part m.after) (sym m.is)
kept c p (kind.LoadState other bound) d sound e = look_kept c p other bound d sound (moves c p (kind.LoadState other bound) d tt e)
kept c p (kind.Split other) d sound e = split_kept c p other d sound e
kept c p (kind.Join other) d sound e = join_kept c p other d sound e
kept c p k d sound e = plain_kept c p k d tt tt tt sound e
