-- The core step, from what the parts of a running step say.
use Rattle.std.proofs.Common.{◌≡◌, ℕ, ◌+◌, ◌^◌, ◌<◌, ◌≤◌, Bool, true, false, cond, not, ◌&&◌, eqb, max, Option, Some, None, refl, sym, ap, ◌∙◌, subst, arith}
use Rattle.std.specs.Prelude.{if◌then◌else◌}
use Rattle.std.proofs.lemmas.Bool.{and_parts, leb-true}
use Rattle.erm_machine.specs.declared.event.Answer.{Answer}
use Rattle.erm_machine.specs.declared.event.Answer.TheVariants as answer
use Rattle.erm_machine.specs.declared.event.Kind.{Kind}
use Rattle.erm_machine.specs.declared.event.Kind.TheVariants as kind
use Rattle.erm_machine.specs.declared.limits.TheConstants.{GREATEST_BLOCK}
use Rattle.erm_machine.specs.declared.part.Part.{Part}
use Rattle.erm_machine.specs.declared.place.Place.{Place}
use Rattle.erm_machine.specs.declared.place.Place.TheVariants.{Sealing, Idle}
use Rattle.erm_machine.specs.Core.{Core, spot_of, word_at}
use Rattle.erm_machine.specs.Life.{add_tail, split, join}
use Rattle.erm_machine.specs.Seat.{is_vacant}
use Rattle.erm_machine.specs.Sound.{Sound}
use Rattle.erm_machine.specs.Step.{part_after, shared_after, moved, is_known, after_event, with_part, told, step_to, core_step}
use Rattle.erm_machine.specs.Words.{put, is_seat}
use Rattle.erm_core.specs.declared.state.State.{State}
use Rattle.erm_core.specs.Cores.{core_of, shared_of, DrawFits}
use Rattle.erm_core.specs.Kinds.{MeetsOne, event_at}

-- the state after a step that meets one word
pub one_word : (c : Core) (p : ℕ) (k : Kind) → MeetsOne k →
    after_event c p k ≡ (if is_known k then moved p k (word_at c (spot_of p k)) c (part_after p k (word_at c (spot_of p k)) c.shared (c.seats p)) else None)
one_word c p (kind.Split other) m = absurd m
one_word c p (kind.Join other) m = absurd m
one_word c p _ m = refl

-- a step whose guard is met
pub taken_step : (c : Core) (p : ℕ) (k : Kind) (found : ℕ) (y : Part) (d : Core) → MeetsOne k → is_known k ≡ true → found ≡ word_at c (spot_of p k) →
    part_after p k found c.shared (c.seats p) ≡ Some y →
    d ≡ record { shared = shared_after p k found (c.seats p) c.shared; seats = put c.seats p y } →
    ◌≡◌ {A = Answer × Core} (told k found, d) (core_step c (event_at p k))
taken_step c p k found y d one known is after state =
    let w = word_at c (spot_of p k) in
    let after_w : part_after p k w c.shared (c.seats p) ≡ Some y = subst (λ n. part_after p k n c.shared (c.seats p) ≡ Some y) is after in
    let state_w : d ≡ record { shared = shared_after p k w (c.seats p) c.shared; seats = put c.seats p y } =
    subst (λ n. d ≡ record { shared = shared_after p k n (c.seats p) c.shared; seats = put c.seats p y }) is state in
    let event : after_event c p k ≡ Some d =
    one_word c p k one ∙ ap (λ (b : Bool). if b then moved p k w c (part_after p k w c.shared (c.seats p)) else None) known
    ∙ ap (λ (o : Option Part). moved p k w c o) after_w ∙ ap (λ (e : Core). Some e) (sym state_w) in
    ap (λ n. let r : Answer × Core = (told k n, d) in r) is ∙ sym (ap (λ (o : Option Core). step_to c (told k w) o) event)

-- a step whose guard isn't met
pub failed_step : (c : Core) (p : ℕ) (k : Kind) (d : Core) → after_event c p k ≡ None → d ≡ c → ◌≡◌ {A = Answer × Core} (answer.Failed, d) (core_step c (event_at p k))
failed_step c p k d none same =
    ap (λ (e : Core). let r : Answer × Core = (answer.Failed, e) in r) same ∙ sym (ap (λ (o : Option Core). step_to c (told k (word_at c (spot_of p k))) o) none)

-- an object above the limit is met by no step
pub unknown_none : (c : Core) (p : ℕ) (k : Kind) → MeetsOne k → is_known k ≡ false → after_event c p k ≡ None
unknown_none c p k one unknown =
    one_word c p k one ∙ ap (λ (b : Bool). if b then moved p k (word_at c (spot_of p k)) c (part_after p k (word_at c (spot_of p k)) c.shared (c.seats p)) else None) unknown

-- the seat doesn't take the step
pub refused_none : (c : Core) (p : ℕ) (k : Kind) (found : ℕ) → MeetsOne k → is_known k ≡ true → found ≡ word_at c (spot_of p k) →
    part_after p k found c.shared (c.seats p) ≡ None → after_event c p k ≡ None
refused_none c p k found one known is none =
    let w = word_at c (spot_of p k) in
    let none_w : part_after p k w c.shared (c.seats p) ≡ None = subst (λ n. part_after p k n c.shared (c.seats p) ≡ None) is none in
    one_word c p k one ∙ ap (λ (b : Bool). if b then moved p k w c (part_after p k w c.shared (c.seats p)) else None) known
    ∙ ap (λ (o : Option Part). moved p k w c o) none_w

-- a range that is drawn from a sound state ends below 2 ^ 64
draw_small : (p size found : ℕ) (x : Part) (pl : Place) (y : Part) → add_tail p size found x pl ≡ Some y → size ≤ GREATEST_BLOCK
draw_small p size found x (Sealing tail) y e = by_guard _ _ e (λ g.
    let most = leb-true size GREATEST_BLOCK (and_parts _ _ g).1 in
    omega (arith, most))
  where
    by_guard : (z : Part) (b : Bool) → cond b (Some z) None ≡ Some y → (b ≡ true → size ≤ GREATEST_BLOCK) → size ≤ GREATEST_BLOCK
    by_guard z true e f = f refl
    by_guard z false e f = absurd (cc)
draw_small p size found x _ y e = absurd (cc)

pub draw_fits : (c : Core) (p size found : ℕ) (y : Part) → Sound c → part_after p (kind.AddTail size) found c.shared (c.seats p) ≡ Some y → c.shared.tail + size < 2 ^ 64
draw_fits c p size found y sound e =
    let small = draw_small p size found (c.seats p) (c.seats p).place y e in
    let low = sound.common.ranges.below in
    omega (arith, small, low)

-- two states are one where what is shared and the seats' parts are
pub core_path : (c d : Core) → c.shared ≡ d.shared → c.seats ≡ d.seats → c ≡ d
core_path c d p q = λ i. record { shared = p i; seats = q i }

-- a split, from the two tests in turn
by_tests : (a b : Bool) (y : Part) → (if a then None else (if b then Some y else None)) ≡ (if not a && b then Some y else None)
by_tests true b y = refl
by_tests false true y = refl
by_tests false false y = refl

by_two_tests : (a b : Bool) (y : Part) → (if a then None else (if b then None else Some y)) ≡ (if not a && not b then Some y else None)
by_two_tests true b y = refl
by_two_tests false true y = refl
by_two_tests false false y = refl

pub split_is : (x o : Part) (by : Place) (seen : ℕ) → by ≡ x.place → seen ≡ x.seen →
    (if is_vacant by then None else (if is_vacant o.place then Some (record o { place = Idle; seen = seen }) else None)) ≡ split x o
split_is x o by seen at saw =
    by_tests (is_vacant by) (is_vacant o.place) (record o { place = Idle; seen = seen })
    ∙ ap (λ pl. if not (is_vacant pl) && is_vacant o.place then Some (record o { place = Idle; seen = seen }) else None) at
    ∙ ap (λ n. if not (is_vacant x.place) && is_vacant o.place then Some (record o { place = Idle; seen = n }) else None) saw

pub join_is : (x o : Part) (place : Place) (seen : ℕ) → place ≡ o.place → seen ≡ o.seen →
    (if is_vacant x.place then None else (if is_vacant place then None else Some (record x { seen = max x.seen seen }))) ≡ join x o
join_is x o place seen at saw =
    by_two_tests (is_vacant x.place) (is_vacant place) (record x { seen = max x.seen seen })
    ∙ ap (λ pl. if not (is_vacant x.place) && not (is_vacant pl) then Some (record x { seen = max x.seen seen }) else None) at
    ∙ ap (λ n. if not (is_vacant x.place) && not (is_vacant o.place) then Some (record x { seen = max x.seen n }) else None) saw

-- the core step of a split, of a join
pub split_step : (c : Core) (p other : ℕ) (b : Bool) (y : Part) (d : Core) → (not (eqb other p) && is_seat other) ≡ true →
    split (c.seats p) (c.seats other) ≡ (if b then Some y else None) → d ≡ (if b then record c { seats = put c.seats other y } else c) →
    ◌≡◌ {A = Answer × Core} ((if b then answer.Done else answer.Failed), d) (core_step c (event_at p (kind.Split other)))
split_step c p other true y d test after same =
    let event : after_event c p (kind.Split other) ≡ Some d =
    ap (λ (b : Bool). if b then with_part c other (split (c.seats p) (c.seats other)) else None) test ∙ ap (λ (o : Option Part). with_part c other o) after ∙ ap (λ (e : Core). Some e) (sym same) in
    sym (ap (λ (o : Option Core). step_to c answer.Done o) event)
split_step c p other false y d test after same =
    failed_step c p (kind.Split other) d
    (ap (λ (b : Bool). if b then with_part c other (split (c.seats p) (c.seats other)) else None) test ∙ ap (λ (o : Option Part). with_part c other o) after) same

pub join_step : (c : Core) (p other : ℕ) (b : Bool) (y : Part) (d : Core) → eqb other p ≡ false →
    join (c.seats p) (c.seats other) ≡ (if b then Some y else None) → d ≡ (if b then record c { seats = put c.seats p y } else c) →
    ◌≡◌ {A = Answer × Core} ((if b then answer.Done else answer.Failed), d) (core_step c (event_at p (kind.Join other)))
join_step c p other true y d test after same =
    let event : after_event c p (kind.Join other) ≡ Some d =
    ap (λ (b : Bool). if b then None else with_part c p (join (c.seats p) (c.seats other))) test ∙ ap (λ (o : Option Part). with_part c p o) after ∙ ap (λ (e : Core). Some e) (sym same) in
    sym (ap (λ (o : Option Core). step_to c answer.Done o) event)
join_step c p other false y d test after same =
    failed_step c p (kind.Join other) d
    (ap (λ (b : Bool). if b then None else with_part c p (join (c.seats p) (c.seats other))) test ∙ ap (λ (o : Option Part). with_part c p o) after) same

-- what a draw needs after the seat has taken its step
pub fits_after : (s t : State) (p : ℕ) (k : Kind) (found : ℕ) (y : Part) → Sound (core_of s) → found ≡ word_at (core_of s) (spot_of p k) →
    part_after p k found (shared_of s) ((core_of s).seats p) ≡ Some y → t.tail ≡ s.tail → DrawFits t k found
fits_after s t p (kind.AddTail size) found y sound is after same =
    (is ∙ sym same, let h = draw_fits (core_of s) p size found y sound after in omega (arith, h, same))
fits_after s t p _ found y sound is after same = tt
