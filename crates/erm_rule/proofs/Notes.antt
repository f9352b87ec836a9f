-- Bounds that a seat has noted never go down.
use Rattle.std.proofs.Common.{◌≡◌, ◌≢◌, ℕ, ◌<◌, ◌≤◌, ⊎_elim, Bool, true, false, List, length, get_or, max, Option, Some, None, refl, sym, ap, subst, arith, get_or-set_same, get_or-set_other}
use Rattle.std.specs.Prelude.{if◌then◌else◌}
use Rattle.std.proofs.lemmas.Bool.{cases_eq, cases_lt}
use Rattle.std.proofs.lemmas.List.{get_or_past}
use Rattle.std.proofs.lemmas.Option.{same_Some}
use Rattle.erm_machine.specs.declared.attempt.Decision.TheVariants.{Abort}
use Rattle.erm_machine.specs.declared.event.Kind.{Kind}
use Rattle.erm_machine.specs.declared.event.Kind.TheVariants as kind
use Rattle.erm_machine.specs.declared.event.TailUse.TheVariants as purpose
use Rattle.erm_machine.specs.declared.part.Part.{Part}
use Rattle.erm_machine.specs.declared.place.Place.{Place}
use Rattle.erm_machine.specs.declared.place.Place.TheVariants.{Idle, Begun, Announced, Active, Sealing, Drawn, Sealed, Decided, Leaving}
use Rattle.erm_machine.specs.declared.task.Task.{Task}
use Rattle.erm_machine.specs.declared.task.Task.TheVariants as task
use Rattle.erm_machine.specs.Core.{Core, Shared, blank}
use Rattle.erm_machine.specs.Life.{load_tail_to_begin, load_tail_for_horizon, load_tail_to_gather, add_tail, aborted, store_begin, store_state, load_begin, load_state, noted, split, join, decide}
use Rattle.erm_machine.specs.Seat.{with_current, over}
use Rattle.erm_machine.specs.Sound.{Sound}
use Rattle.erm_machine.specs.Step as step
use Rattle.erm_machine.specs.Step.{part_after, after_event}
use Rattle.erm_machine.specs.Words.{put, is_flusher}
use Rattle.erm_machine.proofs.Backs.{active_begin_then}
use Rattle.erm_machine.proofs.Frames.{at_cases}
use Rattle.erm_machine.proofs.Guards.{when_then, either_way}
use Rattle.erm_machine.proofs.QuietKinds.{Moves, moves, quiet_kind}
use Rattle.erm_rule.specs.declared.view.View.{View}
use Rattle.erm_rule.specs.Views.{IsView, part_in}

-- each bound noted is at least the old one
pub record NotesMore (x y : Part) : Type 0 where
  pub more : (q : ℕ) → get_or x.clear q 0 ≤ get_or y.clear q 0

same_notes : (x y : Part) → y.clear ≡ x.clear → NotesMore x y
same_notes x y e = record { more = λ q. let same : get_or y.clear q 0 ≡ get_or x.clear q 0 = ap (λ (l : List ℕ). get_or l q 0) e in omega (arith, same) }

noted_more : (other bound q : ℕ) (l : List ℕ) → get_or l q 0 ≤ get_or (noted other bound l) q 0
noted_more other bound q l =
    ⊎_elim
    (λ (same : q ≡ other).
    ⊎_elim
    (λ (within : other < length l).
    let is : get_or (noted other bound l) other 0 ≡ max (get_or l other 0) bound = get_or-set_same l other (max (get_or l other 0) bound) 0 within in
    subst (λ (n : ℕ). get_or l n 0 ≤ get_or (noted other bound l) n 0) (sym same) (omega (arith, is)))
    (λ (past : length l ≤ other). let none : get_or l q 0 ≡ 0 = get_or_past l q 0 (omega (arith, past, same)) in omega (arith, none))
    (cases_lt other (length l)))
    (λ (ne : q ≡ other → ⊥). let is : get_or (noted other bound l) q 0 ≡ get_or l q 0 = get_or-set_other l other q (max (get_or l other 0) bound) 0 ne in omega (arith, is))
    (cases_eq q other)

notes_tail : (p found : ℕ) (x : Part) (pl : Place) (y : Part) → load_tail_to_begin p found x pl ≡ Some y → NotesMore x y
notes_tail p found x Idle y e = when_then (NotesMore x) _ _ y e (λ _. same_notes x _ refl)
notes_tail p found x (Announced tail) y e = when_then (NotesMore x) _ _ y e (λ _. same_notes x _ refl)
notes_tail p found x _ y e = absurd (cc)

notes_horizon : (found : ℕ) (x : Part) (t : Task) (y : Part) → load_tail_for_horizon found x t ≡ Some y → NotesMore x y
notes_horizon found x (task.Claimed version) y e = when_then (NotesMore x) _ _ y e (λ _. same_notes x _ refl)
notes_horizon found x _ y e = absurd (cc)

notes_gather : (p found : ℕ) (x y : Part) → load_tail_to_gather p found x ≡ Some y → NotesMore x y
notes_gather p found x y e = when_then (NotesMore x) _ _ y e (λ _. same_notes x _ refl)

notes_drawn : (p size found : ℕ) (x : Part) (pl : Place) (y : Part) → add_tail p size found x pl ≡ Some y → NotesMore x y
notes_drawn p size found x (Sealing tail) y e = when_then (NotesMore x) _ _ y e (λ _. same_notes x _ refl)
notes_drawn p size found x _ y e = absurd (cc)

aborted_notes : (p : ℕ) (x : Part) → (aborted p x).clear ≡ x.clear
aborted_notes p x = either_way (λ (z : Part). z.clear ≡ x.clear) (is_flusher p) (with_current blank x) (over Abort x) (λ _. refl) (λ _. refl)

notes_begin : (p value : ℕ) (x : Part) (pl : Place) (y : Part) → store_begin p value x pl ≡ Some y → NotesMore x y
notes_begin p value x (Begun tail) y e = when_then (NotesMore x) _ _ y e (λ _. same_notes x _ refl)
notes_begin p value x (Active tail) y e =
    active_begin_then (NotesMore x) p value tail x y e (λ _ _. same_notes x _ (aborted_notes p (record x { place = Idle; task = task.Rest }))) (λ _ _ _ _. same_notes x _ refl)
notes_begin p value x (Decided tail stamp) y e = when_then (NotesMore x) _ _ y e (λ _. same_notes x _ refl)
notes_begin p value x _ y e = absurd (cc)

notes_state : (p value : ℕ) (x : Part) (pl : Place) (y : Part) → store_state p value x pl ≡ Some y → NotesMore x y
notes_state p value x (Active tail) y e = when_then (NotesMore x) _ _ y e (λ _. same_notes x _ refl)
notes_state p value x (Drawn tail stamp) y e = when_then (NotesMore x) _ _ y e (λ _. same_notes x _ refl)
notes_state p value x (Leaving stamp) y e = when_then (NotesMore x) _ _ y e (λ _. same_notes x _ refl)
notes_state p value x _ y e = absurd (cc)

notes_load_begin : (p other found : ℕ) (x : Part) (t : Task) (y : Part) → load_begin p other found x t ≡ Some y → NotesMore x y
notes_load_begin p other found x (task.Horizon version least next) y e = when_then (NotesMore x) _ _ y e (λ _. same_notes x _ refl)
notes_load_begin p other found x (task.Surveys next) y e = when_then (NotesMore x) _ _ y e (λ _. same_notes x _ refl)
notes_load_begin p other found x _ y e = absurd (cc)

notes_look : (p other bound found : ℕ) (x y : Part) → load_state p other bound found x ≡ Some y → NotesMore x y
notes_look p other bound found x y e =
    when_then (NotesMore x) _ _ y e (λ _. record {
      more = λ q. either_way (λ (l : List ℕ). get_or x.clear q 0 ≤ get_or l q 0) _ (noted other bound x.clear) x.clear (λ _. noted_more other bound q x.clear) (λ _. omega arith);
    })

notes_decided : (at header : ℕ) (x : Part) (pl : Place) (t : Task) (y : Part) → decide at header x pl t ≡ Some y → NotesMore x y
notes_decided at header x (Sealed tail stamp) (task.Fills words) y e = when_then (NotesMore x) _ _ y e (λ _. same_notes x _ refl)
notes_decided at header x _ _ y e = absurd (cc)

-- a step of each kind
pub notes_kept : (p : ℕ) (k : Kind) (found : ℕ) (s : Shared) (x y : Part) → part_after p k found s x ≡ Some y → NotesMore x y
notes_kept p (kind.LoadTail purpose.Begin) found s x y e = notes_tail p found x x.place y e
notes_kept p (kind.LoadTail purpose.Horizon) found s x y e = notes_horizon found x x.task y e
notes_kept p (kind.LoadTail purpose.Gather) found s x y e = notes_gather p found x y e
notes_kept p (kind.AddTail size) found s x y e = notes_drawn p size found x x.place y e
notes_kept p (kind.StoreBegin value) found s x y e = notes_begin p value x x.place y e
notes_kept p (kind.StoreState value) found s x y e = notes_state p value x x.place y e
notes_kept p (kind.LoadBegin other) found s x y e = notes_load_begin p other found x x.task y e
notes_kept p (kind.LoadState other bound) found s x y e = notes_look p other bound found x y e
notes_kept p (kind.Split other) found s x y e = absurd (cc)
notes_kept p (kind.Join other) found s x y e = absurd (cc)
notes_kept p (kind.Decide at header) found s x y e = notes_decided at header x x.place x.task y e
notes_kept p k found s x y e = same_notes x y (quiet_kind p k found s x y tt e).clear

-- a split and a join
notes_split : (x other y : Part) → split x other ≡ Some y → NotesMore other y
notes_split x other y e = when_then (NotesMore other) _ _ y e (λ _. same_notes other _ refl)

notes_join : (x other y : Part) → join x other ≡ Some y → NotesMore x y
notes_join x other y e = when_then (NotesMore x) _ _ y e (λ _. same_notes x _ refl)

-- each seat after a change of one part
at_each : (c : Core) (p : ℕ) (y : Part) → NotesMore (c.seats p) y → (q : ℕ) → NotesMore (c.seats q) (put c.seats p y q)
at_each c p y more q =
    at_cases (λ z. NotesMore (c.seats q) z) c.seats p y q (λ is. subst (λ n. NotesMore (c.seats n) y) (sym is) more) (λ _. same_notes (c.seats q) (c.seats q) refl)

with_one : (c : Core) (p : ℕ) (o : Option Part) (d : Core) → ((y : Part) → o ≡ Some y → NotesMore (c.seats p) y) → step.with_part c p o ≡ Some d → (q : ℕ) → NotesMore (c.seats q) (d.seats q)
with_one c p None d more e q = absurd (cc)
with_one c p (Some y) d more e q = subst (λ (z : Core). NotesMore (c.seats q) (z.seats q)) (same_Some _ _ e) (at_each c p y (more y refl) q)

when_core : (b : Bool) (o : Option Core) (d : Core) → (if b then o else None) ≡ Some d → o ≡ Some d
when_core true o d e = e
when_core false o d e = absurd (cc)

unless_core : (b : Bool) (o : Option Core) (d : Core) → (if b then None else o) ≡ Some d → o ≡ Some d
unless_core true o d e = absurd (cc)
unless_core false o d e = e

after_move : (c : Core) (p : ℕ) (k : Kind) (d : Core) → Moves c p k d → (q : ℕ) → NotesMore (c.seats q) (d.seats q)
after_move c p k d m q =
    subst (λ (z : Core). NotesMore (c.seats q) (z.seats q)) (sym m.is) (at_each c p m.part (notes_kept p k _ c.shared (c.seats p) m.part m.after) q)

-- an event of each kind
pub event_kept : (c d : Core) (p : ℕ) (k : Kind) → after_event c p k ≡ Some d → (q : ℕ) → NotesMore (c.seats q) (d.seats q)
event_kept c d p (kind.Split other) e q =
    with_one c other (split (c.seats p) (c.seats other)) d (λ y. notes_split (c.seats p) (c.seats other) y) (when_core _ _ d e) q
event_kept c d p (kind.Join other) e q =
    with_one c p (join (c.seats p) (c.seats other)) d (λ y. notes_join (c.seats p) (c.seats other) y) (unless_core _ _ d e) q
event_kept c d p k e q = after_move c p k d (moves c p k d tt e) q

-- what a note says
pub note_holds : (c : Core) (v : View) (who q bound : ℕ) (x : Part) → Sound c → IsView v c → part_in v who ≡ Some x → q ≢ who → bound ≤ get_or x.clear q 0 →
    0 < (c.seats q).current.stamp → bound ≤ (c.seats q).current.stamp
note_holds c v who q bound x sound sees has ne noted_one unfinished =
    let above : get_or (c.seats who).clear q 0 ≤ (c.seats q).current.stamp = (sound.both who q (λ same. ne (sym same))).clear.above unfinished in
    let is : get_or (c.seats who).clear q 0 ≡ get_or x.clear q 0 = ap (λ (z : Part). get_or z.clear q 0) (sees who x has) in
    omega (arith, above, is, noted_one)
