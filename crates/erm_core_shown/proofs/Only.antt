-- Sessions alone have transactions: a seat without words never has one.
use Rattle.std.proofs.Common.{◌≡◌, ℕ, ◌<◌, ◌≤◌, ⊎_elim, Bool, true, false, Option, Some, None, refl, sym, ap, ◌∙◌, arith}
use Rattle.std.specs.Prelude.{if◌then◌else◌, nat_lt, nat_le}
use Rattle.std.proofs.lemmas.Bool.{cases_eq, leb-true, ltb-true}
use Rattle.std.proofs.lemmas.Option.{same_Some}
use Rattle.erm_machine.specs.declared.event.Kind.{Kind}
use Rattle.erm_machine.specs.declared.event.Kind.TheVariants as kind
use Rattle.erm_machine.specs.declared.event.TailUse.TheVariants as purpose
use Rattle.erm_machine.specs.declared.limits.TheConstants.{SESSIONS}
use Rattle.erm_machine.specs.declared.part.Part.{Part}
use Rattle.erm_machine.specs.declared.place.Place.{Place}
use Rattle.erm_machine.specs.declared.place.Place.TheVariants.{Vacant}
use Rattle.erm_machine.specs.declared.task.Task.{Task}
use Rattle.erm_machine.specs.declared.task.Task.TheVariants as task
use Rattle.erm_machine.specs.Core.{Core, Shared, spot_of, word_at}
use Rattle.erm_machine.specs.Life.{add_tail, decide, join, load_begin, load_tail_for_horizon, load_tail_to_begin, split, store_begin, store_state}
use Rattle.erm_machine.specs.Sound.{Sound}
use Rattle.erm_machine.specs.Step.{after_event, part_after, with_part}
use Rattle.erm_machine.specs.Words.{is_flusher, is_seat, put}
use Rattle.erm_machine.proofs.Frames.{put_other, put_same}
use Rattle.erm_machine.proofs.Guards.{when_then}
use Rattle.erm_machine.proofs.QuietKinds.{MeetsOne, moves, quiet_kind}
use Rattle.erm_core_shown.specs.Shown.{HasOnly, NoneElse}

abbrev OverSame : Part → Part → Type 0
OverSame x y = y.over ≡ x.over

-- A STEP of a vacant seat leaves what is over
horizon_same : (found : ℕ) (x : Part) (t : Task) (y : Part) → load_tail_for_horizon found x t ≡ Some y → OverSame x y
horizon_same found x (task.Claimed version) y e = when_then (OverSame x) _ _ y e (λ _. refl)
horizon_same found x _ y e = absurd (cc)

bounds_same : (p other found : ℕ) (x : Part) (t : Task) (y : Part) → load_begin p other found x t ≡ Some y → OverSame x y
bounds_same p other found x (task.Horizon version least next) y e = when_then (OverSame x) _ _ y e (λ _. refl)
bounds_same p other found x (task.Surveys next) y e = when_then (OverSame x) _ _ y e (λ _. refl)
bounds_same p other found x _ y e = absurd (cc)

vacant_begins : (p found : ℕ) (x y : Part) (pl : Place) → pl ≡ Vacant → load_tail_to_begin p found x pl ≡ Some y → OverSame x y
vacant_begins p found x y Vacant at e = absurd (cc)
vacant_begins p found x y pl at e = absurd (cc)

vacant_draws : (p size found : ℕ) (x y : Part) (pl : Place) → pl ≡ Vacant → add_tail p size found x pl ≡ Some y → OverSame x y
vacant_draws p size found x y Vacant at e = absurd (cc)
vacant_draws p size found x y pl at e = absurd (cc)

vacant_announces : (p value : ℕ) (x y : Part) (pl : Place) → pl ≡ Vacant → store_begin p value x pl ≡ Some y → OverSame x y
vacant_announces p value x y Vacant at e = absurd (cc)
vacant_announces p value x y pl at e = absurd (cc)

vacant_stores : (p value : ℕ) (x y : Part) (pl : Place) → pl ≡ Vacant → store_state p value x pl ≡ Some y → OverSame x y
vacant_stores p value x y Vacant at e = absurd (cc)
vacant_stores p value x y pl at e = absurd (cc)

vacant_decides : (at header : ℕ) (x y : Part) (pl : Place) (t : Task) → pl ≡ Vacant → decide at header x pl t ≡ Some y → OverSame x y
vacant_decides at header x y Vacant t is e = absurd (cc)
vacant_decides at header x y pl t is e = absurd (cc)

vacant_same : (p : ℕ) (k : Kind) (found : ℕ) (s : Shared) (x y : Part) → x.place ≡ Vacant → part_after p k found s x ≡ Some y → OverSame x y
vacant_same p (kind.LoadTail purpose.Begin) found s x y at e = vacant_begins p found x y x.place at e
vacant_same p (kind.LoadTail purpose.Horizon) found s x y at e = horizon_same found x x.task y e
vacant_same p (kind.LoadTail purpose.Gather) found s x y at e = when_then (OverSame x) _ _ y e (λ _. refl)
vacant_same p (kind.AddTail size) found s x y at e = vacant_draws p size found x y x.place at e
vacant_same p (kind.StoreBegin value) found s x y at e = vacant_announces p value x y x.place at e
vacant_same p (kind.StoreState value) found s x y at e = vacant_stores p value x y x.place at e
vacant_same p (kind.LoadBegin other) found s x y at e = bounds_same p other found x x.task y e
vacant_same p (kind.LoadState other bound) found s x y at e = when_then (OverSame x) _ _ y e (λ _. refl)
vacant_same p (kind.Split other) found s x y at e = absurd (cc)
vacant_same p (kind.Join other) found s x y at e = absurd (cc)
vacant_same p (kind.Decide place header) found s x y at e = vacant_decides place header x y x.place x.task at e
vacant_same p k found s x y at e = (quiet_kind p k found s x y tt e).steady.over

-- AN EVENT leaves what is over at a seat that has no words.
put_over : (f : ℕ → Part) (k q : ℕ) (y : Part) → OverSame (f k) y → OverSame (f q) (put f k y q)
put_over f k q y same =
    ⊎_elim
    (λ (at : q ≡ k). ap (λ (n : ℕ). (put f k y n).over) at ∙ ap (λ (x : Part). x.over) (put_same f k y) ∙ same ∙ ap (λ (n : ℕ). (f n).over) (sym at))
    (λ (other : q ≡ k → ⊥). ap (λ (x : Part). x.over) (put_other f k y q other))
    (cases_eq q k)

with_over : (c d : Core) (k q : ℕ) (o : Option Part) → ((y : Part) → o ≡ Some y → OverSame (c.seats k) y) → with_part c k o ≡ Some d → OverSame (c.seats q) (d.seats q)
with_over c d k q None keeps e = absurd (cc)
with_over c d k q (Some y) keeps e = ap (λ (z : Core). (z.seats q).over) (sym (same_Some (record c { seats = put c.seats k y }) d e)) ∙ put_over c.seats k q y (keeps y refl)

split_over : (c d : Core) (p other q : ℕ) (b : Bool) → (if b then with_part c other (split (c.seats p) (c.seats other)) else None) ≡ Some d → OverSame (c.seats q) (d.seats q)
split_over c d p other q true e = with_over c d other q (split (c.seats p) (c.seats other)) (λ y at. when_then (OverSame (c.seats other)) _ _ y at (λ _. refl)) e
split_over c d p other q false e = absurd (cc)

join_over : (c d : Core) (p other q : ℕ) (b : Bool) → (if b then None else with_part c p (join (c.seats p) (c.seats other))) ≡ Some d → OverSame (c.seats q) (d.seats q)
join_over c d p other q true e = absurd (cc)
join_over c d p other q false e = with_over c d p q (join (c.seats p) (c.seats other)) (λ y at. when_then (OverSame (c.seats p)) _ _ y at (λ _. refl)) e

step_over : (c d : Core) (p q : ℕ) (k : Kind) → MeetsOne k → (c.seats q).place ≡ Vacant → after_event c p k ≡ Some d → OverSame (c.seats q) (d.seats q)
step_over c d p q k one vacant e =
    let m = moves c p k d one e in
    let seats : (d.seats q).over ≡ (put c.seats p m.part q).over = ap (λ (z : Core). (z.seats q).over) m.is in
    ⊎_elim
    (λ (at : q ≡ p).
    let place : (c.seats p).place ≡ Vacant = ap (λ (n : ℕ). (c.seats n).place) (sym at) ∙ vacant in
    seats ∙ put_over c.seats p q m.part (vacant_same p k (word_at c (spot_of p k)) c.shared (c.seats p) m.part place m.after))
    (λ (other : q ≡ p → ⊥). seats ∙ ap (λ (x : Part). x.over) (put_other c.seats p m.part q other))
    (cases_eq q p)

event_over : (c d : Core) (p q : ℕ) (k : Kind) → (c.seats q).place ≡ Vacant → after_event c p k ≡ Some d → OverSame (c.seats q) (d.seats q)
event_over c d p q (kind.Split other) vacant e = split_over c d p other q _ e
event_over c d p q (kind.Join other) vacant e = join_over c d p other q _ e
event_over c d p q k vacant e = step_over c d p q k tt vacant e

-- what is neither a session's seat nor the flusher's has no words
wordless : (q : ℕ) → (0 < q → q ≤ SESSIONS → ⊥) → is_flusher q ≡ false → is_seat q ≡ false
wordless q none plain = by_tests (nat_lt 0 q) (nat_le q SESSIONS) refl refl
  where
    by_tests : (a b : Bool) → nat_lt 0 q ≡ a → nat_le q SESSIONS ≡ b → is_seat q ≡ false
    by_tests true true above within = absurd (none (ltb-true 0 q above) (leb-true q SESSIONS within))
    by_tests a b above within = cc

pub none_after : (c d : Core) (p : ℕ) (k : Kind) → Sound c → NoneElse c → after_event c p k ≡ Some d → NoneElse d
none_after c d p k sound none e q wordless_is = event_over c d p q k ((sound.own q).ranges.seat_of wordless_is) e ∙ none q wordless_is

pub only_sessions : (c : Core) → Sound c → NoneElse c → HasOnly SESSIONS c
only_sessions c sound none = record {
  few = omega arith;
  vacant = λ q other plain. (sound.own q).ranges.seat_of (wordless q other plain);
  unused = λ q other plain. none q (wordless q other plain);
}
