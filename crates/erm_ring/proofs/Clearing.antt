-- What was gathered is cleared, word by word, and then stored as flushed.
use Rattle.std.proofs.Common.{◌≡◌, ℕ, ◌+◌, ◌<◌, ◌≤◌, ◌⊎◌, ⊎_elim, Bool, true, false, not, ◌&&◌, Option, Some, is_some, refl, sym, ap, ◌∙◌, subst, inl, inr, arith}
use Rattle.std.specs.Prelude.{if◌then◌else◌, IsSome}
use Rattle.erm_machine.specs.declared.event.Kind.TheVariants as kind
use Rattle.erm_machine.specs.declared.part.Flushing.{Flushing}
use Rattle.erm_machine.specs.declared.part.Flushing.TheVariants as flushing
use Rattle.erm_machine.specs.declared.part.Part.{Part}
use Rattle.erm_machine.specs.declared.place.Place.{Place}
use Rattle.erm_machine.specs.declared.place.Place.TheVariants.{Sealed}
use Rattle.erm_machine.specs.Core.{Core, spot_of, word_at}
use Rattle.erm_machine.specs.Flushing.{clear_ring, load_flushed, store_flushed, with_flushing}
use Rattle.erm_machine.specs.Lives.{IsPin}
use Rattle.erm_machine.specs.Log.{Gathering, IsFlushing}
use Rattle.erm_machine.specs.Seat.{is_sealed, is_vacant}
use Rattle.erm_machine.specs.Sound.{Sound}
use Rattle.erm_machine.specs.Step.{part_after}
use Rattle.erm_machine.proofs.QuietKinds.{moves}
use Rattle.erm_core_flush.specs.Turns.{turn_of}
use Rattle.erm_core_flush.proofs.Turns.{clear_turns, first_turns, store_turns}
use Rattle.erm_model.specs.RowTransaction.{Law}
use Rattle.erm_rule.specs.declared.view.Book.{Book}
use Rattle.erm_rule.specs.declared.view.View.{View}
use Rattle.erm_rule.specs.Books.{IsAfter}
use Rattle.erm_rule.specs.Hands.{IsKnown}
use Rattle.erm_rule.specs.Steps.{Booked, Ready}
use Rattle.erm_rule.specs.Views.{IsView, part_in, part_of, with_part}
use Rattle.erm_rule.proofs.Courses.{goes_both, goes_step}
use Rattle.erm_rule.proofs.Telling.{changed_here}
use Rattle.erm_cells.proofs.Views.{told_is, told_next, when_true}
use Rattle.erm_ring.specs.Turns.{DidClear, MayClear}
use Rattle.erm_ring.proofs.Gathering.{booked_is, booked_known, flush_taken, has_part, onward_in}
use Rattle.erm_ring.proofs.Turning.{F, IsClearing, flushed_kept, ready_turns, taken_by}

pin_unsealed : (pl : Place) → IsPin pl → is_sealed pl ≡ false
pin_unsealed (Sealed tail stamp) pin = absurd pin
pin_unsealed _ pin = refl

unsealed_stays : (b a c : Bool) (l r : Part) → b ≡ false → (if b && a && c then l else r) ≡ r
unsealed_stays true a c l r e = absurd (cc)
unsealed_stays false a c l r e = refl

-- where the flush seat stands while the words from `from` to `to` are cleared: it has gathered them, or it clears
abbrev pub ClearedTo : (from to at : ℕ) → View → Part → View → Type 0
ClearedTo from to at v x w = ((at ≡ from) × (w ≡ with_part F x v)) ⊎ ((from < at) × (w ≡ with_part F (with_flushing (flushing.Clears at to) x) v))

-- the words up to `at` are cleared
pub record ClearLoop (b : Book) (from to at : ℕ) (e : Book) : Type 0 where
  pub view_is : ClearedTo from to at b.view (part_of b.view F) e.view
  pub known : IsKnown e.view
  pub goes : IsAfter b e

module _ (b : Book) (to : ℕ) (may : MayClear to b.view) where
  abbrev x : Part
  x = part_of b.view F

  has : part_in b.view F ≡ Some x
  has = has_part b.view may.held

  turn_then : (c : Core) → IsView b.view c → turn_of c ≡ flushing.Gathers may.tail may.from to to to
  turn_then c is = ap (λ (z : Part). z.flushing) (is F x has) ∙ may.gathered

  loads_flushed : (found : ℕ) (c : Core) → Sound c → IsView b.view c → part_after F kind.LoadFlushed found c.shared x ≡ Some x
  loads_flushed found c sound is =
      let taken : is_vacant x.place ≡ false = subst (λ (z : Part). is_vacant z.place ≡ false) (is F x has) (flush_taken c sound) in
      let unsealed : is_sealed x.place ≡ false = subst (λ (z : Part). is_sealed z.place ≡ false) (is F x has) (pin_unsealed (c.seats F).place ((sound.own F).lives.pinned refl)) in
      ap (load_flushed found x) may.gathered ∙ when_true (not (is_vacant x.place)) _ (ap not taken) ∙ ap Some (unsealed_stays (is_sealed x.place) _ _ _ x unsealed)

  pub flushed_loads : Ready b.view F kind.LoadFlushed
  flushed_loads c sound is =
      subst (λ (z : Part). IsSome (part_after F kind.LoadFlushed (word_at c (spot_of F kind.LoadFlushed)) c.shared z)) (sym (is F x has))
      (ap (λ (o : Option Part). is_some o) (loads_flushed (word_at c (spot_of F kind.LoadFlushed)) c sound is))

  module _ (law : Law) (from : ℕ) (e : Book) (first : Booked law b F kind.LoadFlushed from e) where
    pub from_is : from ≡ may.from
    from_is =
        let told = first.under.told in
        let g : Gathering told.before.shared told.before.seats (told.before.seats F).gathered_to may.tail may.from to to to =
        subst (IsFlushing told.before.shared told.before.seats (told.before.seats F).gathered_to) (turn_then told.before told.is_view) told.sound.common.log.turn in
        sym (g.from_flushed ∙ told.met)

    pub clear_most : from ≤ to
    clear_most = let start = from_is in let some = may.some in omega (arith, start, some)

    pub clear_starts : ClearLoop b from to from e
    clear_starts = record {
      view_is = inl (refl, told_is b.view F kind.LoadFlushed from e.view x x has first.under.told (loads_flushed from first.under.told.before first.under.told.sound first.under.told.is_view));
      known = booked_known law b F kind.LoadFlushed from e first;
      goes = goes_step law b F kind.LoadFlushed from e first;
    }

    module _ (at : ℕ) (f : Book) (loop : ClearLoop b from to at f) where
      gathers_here : f.view ≡ with_part F x b.view → (c : Core) → IsView f.view c → turn_of c ≡ flushing.Gathers may.tail may.from to to to
      gathers_here is c of = ap (λ (z : Part). z.flushing) (of F x (changed_here b.view F f.view x x has is)) ∙ may.gathered

      clears_here : f.view ≡ with_part F (with_flushing (flushing.Clears at to) x) b.view → (c : Core) → IsView f.view c → turn_of c ≡ flushing.Clears at to
      clears_here is c of = ap (λ (z : Part). z.flushing) (of F (with_flushing (flushing.Clears at to) x) (changed_here b.view F f.view (with_flushing (flushing.Clears at to) x) x has is))

      pub clear_held : IsSome (part_in f.view F)
      clear_held =
          ⊎_elim
          (λ (t : (at ≡ from) × (f.view ≡ with_part F x b.view)). ap (λ (o : Option Part). is_some o) (changed_here b.view F f.view x x has t.1))
          (λ (t : (from < at) × (f.view ≡ with_part F (with_flushing (flushing.Clears at to) x) b.view)).
          ap (λ (o : Option Part). is_some o) (changed_here b.view F f.view (with_flushing (flushing.Clears at to) x) x has t.1))
          loop.view_is

      pub clear_ready : at < to → Ready f.view F (kind.ClearRing at)
      clear_ready less =
          ⊎_elim
          (λ (t : (at ≡ from) × (f.view ≡ with_part F x b.view)).
          let here : at ≡ may.from = t.0 ∙ from_is in
          subst (λ (n : ℕ). Ready f.view F (kind.ClearRing n)) (sym here)
          (ready_turns f.view (kind.ClearRing may.from) tt (λ c sound of. (_, first_turns c sound may.tail may.from to to to (gathers_here t.1 c of) refl may.some))))
          (λ (t : (from < at) × (f.view ≡ with_part F (with_flushing (flushing.Clears at to) x) b.view)).
          ready_turns f.view (kind.ClearRing at) tt (λ c sound of. (_, clear_turns c sound at to (clears_here t.1 c of) less)))
          loop.view_is

      pub clear_goes_on : at < to → (found : ℕ) (g : Book) → Booked law f F (kind.ClearRing at) found g → ClearLoop b from to (at + 1) g
      clear_goes_on less found g booked = record {
        view_is = inr (
          omega_above,
          ⊎_elim
              (λ (t : (at ≡ from) × (f.view ≡ with_part F x b.view)).
              told_next b.view F (kind.ClearRing at) found f.view g.view x x (with_flushing (flushing.Clears (at + 1) to) x) has t.1 booked.under.told
              (first_part t.0 (subst (λ (z : Part). part_after F (kind.ClearRing at) found booked.under.told.before.shared z ≡ Some booked.under.told.part)
              (booked.under.told.is_view F x (changed_here b.view F f.view x x has t.1)) booked.under.told.part_is)))
              (λ (t : (from < at) × (f.view ≡ with_part F (with_flushing (flushing.Clears at to) x) b.view)).
              let y : Part = with_flushing (flushing.Clears at to) x in
              told_next b.view F (kind.ClearRing at) found f.view g.view y x (with_flushing (flushing.Clears (at + 1) to) x) has t.1 booked.under.told
              (later_part (subst (λ (z : Part). part_after F (kind.ClearRing at) found booked.under.told.before.shared z ≡ Some booked.under.told.part)
              (booked.under.told.is_view F y (changed_here b.view F f.view y x has t.1)) booked.under.told.part_is)))
              loop.view_is,
        );
        known = booked_known law f F (kind.ClearRing at) found g booked;
        goes = goes_both b f g loop.goes (goes_step law f F (kind.ClearRing at) found g booked);
      }
        where
          omega_above : from < at + 1
          omega_above =
              ⊎_elim (λ (t : (at ≡ from) × (f.view ≡ with_part F x b.view)). let e = t.0 in omega (arith, e))
              (λ (t : (from < at) × (f.view ≡ with_part F (with_flushing (flushing.Clears at to) x) b.view)). let e = t.0 in omega (arith, e)) loop.view_is

          first_part : at ≡ from → clear_ring at x x.flushing ≡ Some booked.under.told.part → clear_ring at x x.flushing ≡ Some (with_flushing (flushing.Clears (at + 1) to) x)
          first_part same e =
              let at_from : clear_ring at x (flushing.Gathers may.tail may.from to to to) ≡ Some booked.under.told.part = subst (λ (fl : Flushing). clear_ring at x fl ≡ Some booked.under.told.part) may.gathered e in
              let is : with_flushing (flushing.Clears (may.from + 1) to) x ≡ booked.under.told.part = taken_by _ _ _ at_from in
              e ∙ ap Some (sym is) ∙ ap (λ (n : ℕ). Some (with_flushing (flushing.Clears (n + 1) to) x)) (sym (same ∙ from_is))

          later_part : clear_ring at (with_flushing (flushing.Clears at to) x) (flushing.Clears at to) ≡ Some booked.under.told.part →
              clear_ring at (with_flushing (flushing.Clears at to) x) (flushing.Clears at to) ≡ Some (with_flushing (flushing.Clears (at + 1) to) x)
          later_part e = e ∙ ap Some (sym (taken_by _ _ _ e))

      module _ (all : to ≤ at) (most : at ≤ to) where
        ends_clearing : f.view ≡ with_part F (with_flushing (flushing.Clears to to) x) b.view
        ends_clearing =
            ⊎_elim
            (λ (t : (at ≡ from) × (f.view ≡ with_part F x b.view)). let here = t.0 in let start = from_is in let some = may.some in absurd (omega (arith, here, start, some, all)))
            (λ (t : (from < at) × (f.view ≡ with_part F (with_flushing (flushing.Clears at to) x) b.view)).
            let same : at ≡ to = omega (arith, all, most) in
            t.1 ∙ ap (λ (n : ℕ). with_part F (with_flushing (flushing.Clears n to) x) b.view) same)
            loop.view_is

        ending_here : (c : Core) → IsView f.view c → turn_of c ≡ flushing.Clears to to
        ending_here c of = ap (λ (z : Part). z.flushing) (of F (with_flushing (flushing.Clears to to) x) (changed_here b.view F f.view (with_flushing (flushing.Clears to to) x) x has ends_clearing))

        pub store_ready : Ready f.view F (kind.StoreFlushed to)
        store_ready = ready_turns f.view (kind.StoreFlushed to) tt (λ c sound of. let t = store_turns c sound to (ending_here c of) in (_, t.0))

        pub did_clear : (found : ℕ) (g : Book) → Booked law f F (kind.StoreFlushed to) found g → DidClear b to g
        did_clear found g booked = record {
          view_is = still;
          known = booked_known law f F (kind.StoreFlushed to) found g booked;
          is = booked_is law f F (kind.StoreFlushed to) found g booked;
          goes = goes_both b f g loop.goes (goes_step law f F (kind.StoreFlushed to) found g booked);
          flushed = onward_in law (λ c. c.shared.flushed ≡ to) f F (kind.StoreFlushed to) found g booked
              (λ c d of passes e. flushed_kept c passes.1.0 passes.1.1 d passes.0 (λ clears. subst IsClearing (still_turn c of) clears) passes.1.2 ∙ e)
              (λ c d of met event. ap (λ (z : Core). z.shared.flushed) (moves c F (kind.StoreFlushed to) d tt event).is);
        }
          where
            y : Part
            y = with_flushing (flushing.Clears to to) x

            stored : store_flushed to (with_flushing (flushing.Clears to to) x) (flushing.Clears to to) ≡ Some booked.under.told.part
            stored = subst (λ (z : Part). part_after F (kind.StoreFlushed to) found booked.under.told.before.shared z ≡ Some booked.under.told.part)
                (booked.under.told.is_view F (with_flushing (flushing.Clears to to) x) (changed_here b.view F f.view (with_flushing (flushing.Clears to to) x) x has ends_clearing)) booked.under.told.part_is

            still : g.view ≡ with_part F (with_flushing flushing.Still x) b.view
            still = told_next b.view F (kind.StoreFlushed to) found f.view g.view (with_flushing (flushing.Clears to to) x) x (with_flushing flushing.Still x) has ends_clearing booked.under.told
                (stored ∙ ap Some (sym (taken_by _ _ _ stored)))

            still_turn : (c : Core) → IsView g.view c → turn_of c ≡ flushing.Still
            still_turn c of = ap (λ (z : Part). z.flushing) (of F (with_flushing flushing.Still x) (changed_here b.view F g.view (with_flushing flushing.Still x) x has still))
