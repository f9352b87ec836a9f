-- The three steps of a begin.
use Rattle.std.proofs.Common.{◌≡◌, ℕ, ◌<◌, ◌≤◌, ⊎_elim, Bool, true, false, not, eqb, Some, is_some, refl, sym, ap, ◌∙◌, subst, arith, eq-eqb}
use Rattle.std.specs.Prelude.{if◌then◌else◌, IsSome}
use Rattle.std.proofs.lemmas.Bool.{and_parts, cases_eq, leb-true}
use Rattle.erm_machine.specs.declared.attempt.Attempt.{Attempt}
use Rattle.erm_machine.specs.declared.limits.TheConstants.{STOP}
use Rattle.erm_machine.specs.declared.event.Kind.TheVariants as kind
use Rattle.erm_machine.specs.declared.event.TailUse.TheVariants as purpose
use Rattle.erm_machine.specs.declared.part.Part.{Part}
use Rattle.erm_machine.specs.declared.place.Place.{Place}
use Rattle.erm_machine.specs.declared.place.Place.TheVariants.{Idle, Begun, Announced}
use Rattle.erm_machine.specs.Begins.{BeginsAt, IsTail}
use Rattle.erm_machine.specs.Life.{load_tail_to_begin}
use Rattle.erm_machine.specs.Seat.{when, saw, has_number, is_vacant}
use Rattle.erm_machine.specs.Words.{is_flusher, refuses}
use Rattle.erm_model.specs.Member.{◌∈◌}
use Rattle.erm_rule.specs.declared.view.View.{View}
use Rattle.erm_rule.specs.Steps.{Ready, Told}
use Rattle.erm_rule.specs.Views.{part_in, part_of, with_part}
use Rattle.erm_rule.proofs.Numbered.{known_after}
use Rattle.erm_rule.proofs.Telling.{held_part, ready_by, told_first, told_after, changed_here, changed_other}
use Rattle.erm_seats.specs.Calls.{begun_part, DidBegin, IsPastSeen}
use Rattle.erm_seats.proofs.Stamps.{over_below, view_below}

not_true : (b : Bool) → not b ≡ true → b ≡ false
not_true true e = absurd (cc)
not_true false e = refl

pub some_when : (b : Bool) (x : Part) → b ≡ true → IsSome (when b x)
some_when b x e = ap (λ (t : Bool). is_some (when t x)) e

pub when_is : (b : Bool) (x z : Part) → when b x ≡ Some z → z ≡ x
when_is true x z e = cc
when_is false x z e = absurd (cc)

-- the part once the first tail is loaded, and once it is announced
abbrev pub loaded_part : ℕ → Part → Part
loaded_part tail x = record x { place = Begun tail; seen = tail }

abbrev pub announced_part : ℕ → Part → Part
announced_part tail x = record x { place = Announced tail; seen = tail }

abbrev first_part : ℕ → ℕ → Part → Part
first_part who tail x = saw tail (record x { place = if refuses who tail then Idle else Begun tail })

-- the first load finds a tail that is at least what each seat of the pass had seen
pub first_past : (v : View) (who tail : ℕ) (w : View) → Told v who (kind.LoadTail purpose.Begin) tail w → IsPastSeen v tail
first_past v who tail w first q z there = subst (λ (now : ℕ). z.seen ≤ now) first.met (view_below first.before v first.sound first.is_view q z there)

module _ (v : View) (who : ℕ) (x : Part) (has : part_in v who ≡ Some x) (number : has_number who x ≡ true) where
  module _ (idle : x.place ≡ Idle) where
    pub ready_first : Ready v who (kind.LoadTail purpose.Begin)
    ready_first =
        ready_by v who (kind.LoadTail purpose.Begin) x has
        (λ c sound is. subst (λ (pl : Place). IsSome (load_tail_to_begin who c.shared.tail x pl)) (sym idle) (some_when (has_number who x) (first_part who c.shared.tail x) number))

    first_loaded : (tail : ℕ) (w : View) → Told v who (kind.LoadTail purpose.Begin) tail w → w ≡ with_part who (first_part who tail x) v
    first_loaded tail w told =
        told_first v who (kind.LoadTail purpose.Begin) tail w x (first_part who tail x) has told
        (λ s z e. when_is (has_number who x) (first_part who tail x) z (subst (λ (pl : Place). load_tail_to_begin who tail x pl ≡ Some z) idle e))

    -- a refusal changes what was seen alone
    pub stopped_view : (tail : ℕ) (w : View) → Told v who (kind.LoadTail purpose.Begin) tail w → refuses who tail ≡ true → w ≡ with_part who (saw tail x) v
    stopped_view tail w told refused =
        first_loaded tail w told
        ∙ ap (λ (b : Bool). with_part who (saw tail (record x { place = if b then Idle else Begun tail })) v) refused
        ∙ ap (λ (pl : Place). with_part who (record x { place = pl; seen = tail }) v) (sym idle)

    pub loaded_view : (tail : ℕ) (w : View) → Told v who (kind.LoadTail purpose.Begin) tail w → refuses who tail ≡ false → w ≡ with_part who (loaded_part tail x) v
    loaded_view tail w told low =
        first_loaded tail w told ∙ ap (λ (b : Bool). with_part who (saw tail (record x { place = if b then Idle else Begun tail })) v) low

  pub ready_announce : (tail : ℕ) (w : View) → w ≡ with_part who (loaded_part tail x) v → Ready w who (kind.StoreBegin tail)
  ready_announce tail w is =
      ready_by w who (kind.StoreBegin tail) (loaded_part tail x) (changed_here v who w (loaded_part tail x) x has is)
      (λ c sound at. some_when (eqb tail tail) (announced_part tail x) (eq-eqb tail tail refl))

  pub announced_view : (tail found : ℕ) (w u : View) → w ≡ with_part who (loaded_part tail x) v → Told w who (kind.StoreBegin tail) found u → u ≡ with_part who (announced_part tail x) v
  announced_view tail found w u is told =
      told_after v who (kind.StoreBegin tail) found w u (loaded_part tail x) x (announced_part tail x) has is told
      (λ s z e. when_is (eqb tail tail) (announced_part tail x) z e)

  pub ready_second : (tail : ℕ) (u : View) → u ≡ with_part who (announced_part tail x) v → Ready u who (kind.LoadTail purpose.Begin)
  ready_second tail u is =
      ready_by u who (kind.LoadTail purpose.Begin) (announced_part tail x) (changed_here v who u (announced_part tail x) x has is)
      (λ c sound at. some_when (has_number who x) (begun_part who tail c.shared.tail x) number)

  module _ (tail begin : ℕ) (u w : View) (is : u ≡ with_part who (announced_part tail x) v) (told : Told u who (kind.LoadTail purpose.Begin) begin w) where
    pub begun_view : w ≡ with_part who (begun_part who tail begin x) v
    begun_view =
        told_after v who (kind.LoadTail purpose.Begin) begin u w (announced_part tail x) x (begun_part who tail begin x) has is told
        (λ s z e. when_is (has_number who x) (begun_part who tail begin x) z e)

    here : told.before.seats who ≡ announced_part tail x
    here = told.is_view who (announced_part tail x) (changed_here v who u (announced_part tail x) x has is)

    announced_tail : IsTail tail begin
    announced_tail =
        subst (λ (now : ℕ). IsTail tail now) told.met
        (subst (λ (z : Part). BeginsAt z.place z.current.begin told.before.shared.tail) here (told.sound.own who).begins.begins)

    pub announced_positive : 0 < tail
    announced_positive = announced_tail.0

    pub announced_low : tail ≤ begin
    announced_low = announced_tail.1

    pub above_over : (t : Attempt) → t ∈ x.over → t.stamp < begin
    above_over t m = subst (λ (now : ℕ). t.stamp < now) told.met (over_below told.before who (announced_part tail x) told.sound here t m)

    -- the other seats of the pass, and the own one, whose first load came after what it had seen
    pub past_seen : (w1 : View) → Told v who (kind.LoadTail purpose.Begin) tail w1 → IsPastSeen v begin
    past_seen w1 first q z there =
        ⊎_elim
        (λ (same : q ≡ who).
        let old : z.seen ≤ tail = first_past v who tail w1 first q z there in
        let low = announced_low in
        omega (arith, old, low))
        (λ (other : q ≡ who → ⊥). subst (λ (now : ℕ). z.seen ≤ now) told.met (view_below told.before u told.sound told.is_view q z (changed_other v who q u (announced_part tail x) z other is there)))
        (cases_eq q who)

-- a tail that is refused
pub stopped_tail : (who tail : ℕ) → refuses who tail ≡ true → (STOP ≤ tail) × (is_flusher who ≡ false)
stopped_tail who tail refused = (leb-true STOP tail (and_parts _ _ refused).1, not_true (is_flusher who) (and_parts _ _ refused).0)

-- the whole begin, from what its steps tell
pub did_begin : (v : View) (who : ℕ) → (part_of v who).place ≡ Idle → has_number who (part_of v who) ≡ true → (tail begin : ℕ) → refuses who tail ≡ false → (w1 w2 w3 : View) →
    Told v who (kind.LoadTail purpose.Begin) tail w1 → w2 ≡ with_part who (announced_part tail (part_of v who)) v → Told w2 who (kind.LoadTail purpose.Begin) begin w3 → DidBegin v who begin w3
did_begin v who idle number tail begin low w1 w2 w3 first is second =
    let has = held_part v who (ap is_vacant idle) in
    record {
      announced = tail;
      positive = announced_positive v who (part_of v who) has number tail begin w2 w3 is second;
      low = low;
      at_least = announced_low v who (part_of v who) has number tail begin w2 w3 is second;
      view_is = begun_view v who (part_of v who) has number tail begin w2 w3 is second;
      above = above_over v who (part_of v who) has number tail begin w2 w3 is second;
      past = past_seen v who (part_of v who) has number tail begin w2 w3 is second w1 first;
      known = known_after w2 who (kind.LoadTail purpose.Begin) begin w3 second;
    }
