-- The words of the table, as a step leaves them: the one that it meets, and all others, which stay.
use Rattle.std.proofs.Common.{◌≡◌, ◌≢◌, ℕ, ◌%◌, Bool, true, length, Option, Some, None, refl, sym, ap, ◌∙◌, subst, arith, eqb-true, get_or-set_same, get_or-set_other}
use Rattle.std.specs.Prelude.{if◌then◌else◌, IfSome}
use Rattle.std.proofs.lemmas.Bool.{and_parts}
use Rattle.erm_layout.specs.declared.word.Word.{Word}
use Rattle.erm_layout.specs.declared.word.Word.TheVariants as word
use Rattle.erm_layout.specs.Layout.{HasNumber, IsInCell}
use Rattle.erm_layout.specs.Spots.{word_of_spot}
use Rattle.erm_machine.specs.declared.limits.TheConstants.{RING_WORDS}
use Rattle.erm_machine.specs.declared.attempt.Decision.TheVariants.{Abort}
use Rattle.erm_machine.specs.declared.event.Counter.{Counter}
use Rattle.erm_machine.specs.declared.event.Counter.TheVariants.{Objects, Cells}
use Rattle.erm_machine.specs.declared.event.Kind.{Kind}
use Rattle.erm_machine.specs.declared.event.Kind.TheVariants as kind
use Rattle.erm_machine.specs.declared.event.TailUse.TheVariants as purpose
use Rattle.erm_machine.specs.declared.part.Part.{Part}
use Rattle.erm_machine.specs.declared.place.Place.{Place}
use Rattle.erm_machine.specs.declared.place.Place.TheVariants.{Idle, Begun, Announced, Active, Sealing, Drawn, Sealed, Decided, Leaving}
use Rattle.erm_machine.specs.declared.task.Task.{Task}
use Rattle.erm_machine.specs.declared.task.Task.TheVariants as task
use Rattle.erm_machine.specs.declared.version.Cell.{Cell}
use Rattle.erm_machine.specs.declared.version.CellWord.{CellWord}
use Rattle.erm_machine.specs.declared.version.CellWord.TheVariants as cells
use Rattle.erm_machine.specs.declared.version.Version.{Version}
use Rattle.erm_machine.specs.Core.{Core, Object, Shared, blank, drawn_of, spot_of, word_at}
use Rattle.erm_machine.specs.Life.{load_tail_to_begin, load_tail_for_horizon, load_tail_to_gather, add_tail, aborted, store_begin, store_state, load_begin, load_back, store_back, load_state, decide}
use Rattle.erm_machine.specs.Seat.{with_current, over, end_of}
use Rattle.erm_machine.specs.Step.{part_after, stored, shared_after, with_counter, added, installed, moved, is_known, after_event}
use Rattle.erm_machine.specs.Words.{put, begin_of, state_of, cell_word, set_word, is_flusher}
use Rattle.erm_machine.proofs.Backs.{active_begin_then}
use Rattle.erm_machine.proofs.Frames.{at_cases, put_same, put_other}
use Rattle.erm_machine.proofs.Guards.{when_then, either_way}
use Rattle.erm_machine.proofs.Objects.{same_objects}
use Rattle.erm_machine.proofs.QuietKinds.{quiet_kind, keeps_log}
use Rattle.erm_core_back.proofs.Gazes.{watches}
use Rattle.erm_rule.specs.Cells.{word_in, change, cells_after}

-- the begin word and the state word after a step of this kind, by the place before
abbrev pub begin_after : Kind → Place → ℕ
begin_after (kind.StoreBegin value) pl = value
begin_after _ pl = begin_of pl

abbrev pub state_after : Kind → Place → ℕ
state_after (kind.StoreState value) pl = value
state_after _ pl = state_of pl

-- the two words of a part, from those of the place before
pub record Has (begin state : ℕ) (y : Part) : Type 0 where
  pub begin_is : begin_of y.place ≡ begin
  pub state_is : state_of y.place ≡ state

at_place : (x : Part) (pl : Place) (y : Part) → x.place ≡ pl → Has (begin_of pl) (state_of pl) y → Has (begin_of x.place) (state_of x.place) y
at_place x pl y at h = subst (λ q. Has (begin_of q) (state_of q) y) (sym at) h

same_place : (x y : Part) → y.place ≡ x.place → Has (begin_of x.place) (state_of x.place) y
same_place x y e = record { begin_is = ap begin_of e; state_is = ap state_of e }

has_tail : (p found : ℕ) (x : Part) (pl : Place) (y : Part) → load_tail_to_begin p found x pl ≡ Some y → Has (begin_of pl) (state_of pl) y
has_tail p found x Idle y e = when_then (Has 0 0) _ _ y e (λ _. record {
  begin_is = either_way (λ q. begin_of q ≡ 0) _ Idle (Begun found) (λ _. refl) (λ _. refl);
  state_is = either_way (λ q. state_of q ≡ 0) _ Idle (Begun found) (λ _. refl) (λ _. refl);
})
has_tail p found x (Announced tail) y e = when_then (Has tail 0) _ _ y e (λ _. record { begin_is = refl; state_is = refl })
has_tail p found x _ y e = absurd (cc)

has_horizon : (found : ℕ) (x : Part) (t : Task) (y : Part) → load_tail_for_horizon found x t ≡ Some y → Has (begin_of x.place) (state_of x.place) y
has_horizon found x (task.Claimed version) y e = when_then (Has (begin_of x.place) (state_of x.place)) _ _ y e (λ _. record { begin_is = refl; state_is = refl })
has_horizon found x _ y e = absurd (cc)

has_gather : (p found : ℕ) (x y : Part) → load_tail_to_gather p found x ≡ Some y → Has (begin_of x.place) (state_of x.place) y
has_gather p found x y e = when_then (Has (begin_of x.place) (state_of x.place)) _ _ y e (λ _. record { begin_is = refl; state_is = refl })

has_drawn : (p size found : ℕ) (x : Part) (pl : Place) (y : Part) → add_tail p size found x pl ≡ Some y → Has (begin_of pl) (state_of pl) y
has_drawn p size found x (Sealing tail) y e = when_then (Has tail 1) _ _ y e (λ _. record { begin_is = refl; state_is = refl })
has_drawn p size found x _ y e = absurd (cc)

aborted_place : (p : ℕ) (x : Part) → (aborted p x).place ≡ x.place
aborted_place p x = either_way (λ (z : Part). z.place ≡ x.place) (is_flusher p) (with_current blank x) (over Abort x) (λ _. refl) (λ _. refl)

has_begin : (p value : ℕ) (x : Part) (pl : Place) (y : Part) → store_begin p value x pl ≡ Some y → Has value (state_of pl) y
has_begin p value x (Begun tail) y e = when_then (Has value 0) _ _ y e (λ g. record { begin_is = sym (eqb-true value tail g); state_is = refl })
has_begin p value x (Active tail) y e =
    active_begin_then (Has value 0) p value tail x y e
    (λ zero _.
    let same = aborted_place p (record x { place = Idle; task = task.Rest }) in
    record { begin_is = ap begin_of same ∙ sym zero; state_is = ap state_of same })
    (λ _ _ _ _. record { begin_is = refl; state_is = refl })
has_begin p value x (Decided tail stamp) y e =
    when_then (Has value stamp) _ _ y e (λ g. record { begin_is = sym (eqb-true value 0 (and_parts _ _ (and_parts _ _ g).0).0); state_is = refl })
has_begin p value x _ y e = absurd (cc)

has_state : (p value : ℕ) (x : Part) (pl : Place) (y : Part) → store_state p value x pl ≡ Some y → Has (begin_of pl) value y
has_state p value x (Active tail) y e =
    when_then (Has tail value) _ _ y e (λ g. record { begin_is = refl; state_is = sym (eqb-true value 1 (and_parts _ _ (and_parts _ _ g).0).0) })
has_state p value x (Drawn tail stamp) y e = when_then (Has tail value) _ _ y e (λ g. record { begin_is = refl; state_is = sym (eqb-true value stamp g) })
has_state p value x (Leaving stamp) y e = when_then (Has 0 value) _ _ y e (λ g. record { begin_is = refl; state_is = sym (eqb-true value 0 g) })
has_state p value x _ y e = absurd (cc)

has_load_begin : (p other found : ℕ) (x : Part) (t : Task) (y : Part) → load_begin p other found x t ≡ Some y → Has (begin_of x.place) (state_of x.place) y
has_load_begin p other found x (task.Horizon version least next) y e =
    when_then (Has (begin_of x.place) (state_of x.place)) _ _ y e (λ _. record { begin_is = refl; state_is = refl })
has_load_begin p other found x (task.Surveys next) y e =
    when_then (Has (begin_of x.place) (state_of x.place)) _ _ y e (λ _. record { begin_is = refl; state_is = refl })
has_load_begin p other found x _ y e = absurd (cc)

has_load_state : (p other bound found : ℕ) (x y : Part) → load_state p other bound found x ≡ Some y → Has (begin_of x.place) (state_of x.place) y
has_load_state p other bound found x y e = when_then (Has (begin_of x.place) (state_of x.place)) _ _ y e (λ _. record { begin_is = refl; state_is = refl })

has_decided : (at header : ℕ) (x : Part) (pl : Place) (t : Task) (y : Part) → decide at header x pl t ≡ Some y → Has (begin_of pl) (state_of pl) y
has_decided at header x (Sealed tail stamp) (task.Fills words) y e =
    when_then (Has tail stamp) _ _ y e (λ _. record { begin_is = refl; state_is = refl })
has_decided at header x _ _ y e = absurd (cc)

-- the words of the seat that steps
pub own_words_after : (p : ℕ) (k : Kind) (found : ℕ) (s : Shared) (x y : Part) → part_after p k found s x ≡ Some y → Has (begin_after k x.place) (state_after k x.place) y
own_words_after p (kind.LoadTail purpose.Begin) found s x y e = has_tail p found x x.place y e
own_words_after p (kind.LoadTail purpose.Horizon) found s x y e = has_horizon found x x.task y e
own_words_after p (kind.LoadTail purpose.Gather) found s x y e = has_gather p found x y e
own_words_after p (kind.AddTail size) found s x y e = has_drawn p size found x x.place y e
own_words_after p (kind.StoreBegin value) found s x y e = has_begin p value x x.place y e
own_words_after p (kind.StoreState value) found s x y e = has_state p value x x.place y e
own_words_after p (kind.LoadBegin other) found s x y e = has_load_begin p other found x x.task y e
own_words_after p (kind.LoadState other bound) found s x y e = has_load_state p other bound found x y e
own_words_after p (kind.Split other) found s x y e = absurd (cc)
own_words_after p (kind.Join other) found s x y e = absurd (cc)
own_words_after p (kind.Decide at header) found s x y e = has_decided at header x x.place x.task y e
own_words_after p k found s x y e = same_place x y (quiet_kind p k found s x y tt e).steady.place

-- the back word of a part after a step of this kind
abbrev pub back_after : Kind → ℕ → ℕ
back_after (kind.StoreBack value) back = value
back_after _ back = back

has_back : (value : ℕ) (x : Part) (pl : Place) (y : Part) → store_back value x pl ≡ Some y → y.back ≡ value
has_back value x (Decided tail stamp) y e = when_then (λ (z : Part). z.back ≡ value) _ _ y e (λ _. refl)
has_back value x _ y e = absurd (cc)

b_tail : (p found : ℕ) (x : Part) (pl : Place) (y : Part) → load_tail_to_begin p found x pl ≡ Some y → y.back ≡ x.back
b_tail p found x Idle y e = when_then (λ (z : Part). z.back ≡ x.back) _ _ y e (λ _. refl)
b_tail p found x (Announced tail) y e = when_then (λ (z : Part). z.back ≡ x.back) _ _ y e (λ _. refl)
b_tail p found x _ y e = absurd (cc)

b_horizon : (found : ℕ) (x : Part) (t : Task) (y : Part) → load_tail_for_horizon found x t ≡ Some y → y.back ≡ x.back
b_horizon found x (task.Claimed version) y e = when_then (λ (z : Part). z.back ≡ x.back) _ _ y e (λ _. refl)
b_horizon found x _ y e = absurd (cc)

b_drawn : (p size found : ℕ) (x : Part) (pl : Place) (y : Part) → add_tail p size found x pl ≡ Some y → y.back ≡ x.back
b_drawn p size found x (Sealing tail) y e = when_then (λ (z : Part). z.back ≡ x.back) _ _ y e (λ _. refl)
b_drawn p size found x _ y e = absurd (cc)

aborted_back : (p : ℕ) (x : Part) → (aborted p x).back ≡ x.back
aborted_back p x = either_way (λ (z : Part). z.back ≡ x.back) (is_flusher p) (with_current blank x) (over Abort x) (λ _. refl) (λ _. refl)

b_begin : (p value : ℕ) (x : Part) (pl : Place) (y : Part) → store_begin p value x pl ≡ Some y → y.back ≡ x.back
b_begin p value x (Begun tail) y e = when_then (λ (z : Part). z.back ≡ x.back) _ _ y e (λ _. refl)
b_begin p value x (Active tail) y e =
    active_begin_then (λ (z : Part). z.back ≡ x.back) p value tail x y e (λ _ _. aborted_back p (record x { place = Idle; task = task.Rest })) (λ _ _ _ _. refl)
b_begin p value x (Decided tail stamp) y e = when_then (λ (z : Part). z.back ≡ x.back) _ _ y e (λ _. refl)
b_begin p value x _ y e = absurd (cc)

b_state : (p value : ℕ) (x : Part) (pl : Place) (y : Part) → store_state p value x pl ≡ Some y → y.back ≡ x.back
b_state p value x (Active tail) y e = when_then (λ (z : Part). z.back ≡ x.back) _ _ y e (λ _. refl)
b_state p value x (Drawn tail stamp) y e = when_then (λ (z : Part). z.back ≡ x.back) _ _ y e (λ _. refl)
b_state p value x (Leaving stamp) y e = when_then (λ (z : Part). z.back ≡ x.back) _ _ y e (λ _. refl)
b_state p value x _ y e = absurd (cc)

b_load_begin : (p other found : ℕ) (x : Part) (t : Task) (y : Part) → load_begin p other found x t ≡ Some y → y.back ≡ x.back
b_load_begin p other found x (task.Horizon version least next) y e = when_then (λ (z : Part). z.back ≡ x.back) _ _ y e (λ _. refl)
b_load_begin p other found x (task.Surveys next) y e = when_then (λ (z : Part). z.back ≡ x.back) _ _ y e (λ _. refl)
b_load_begin p other found x _ y e = absurd (cc)

b_load_back : (other found : ℕ) (x : Part) (t : Task) (y : Part) → load_back other found x t ≡ Some y → y.back ≡ x.back
b_load_back other found x (task.Behind next) y e = when_then (λ (z : Part). z.back ≡ x.back) _ _ y e (λ _. refl)
b_load_back other found x _ y e = absurd (cc)

b_decided : (at header : ℕ) (x : Part) (pl : Place) (t : Task) (y : Part) → decide at header x pl t ≡ Some y → y.back ≡ x.back
b_decided at header x (Sealed tail stamp) (task.Fills words) y e = when_then (λ (z : Part). z.back ≡ x.back) _ _ y e (λ _. refl)
b_decided at header x _ _ y e = absurd (cc)

pub own_back_after : (p : ℕ) (k : Kind) (found : ℕ) (s : Shared) (x y : Part) → part_after p k found s x ≡ Some y → y.back ≡ back_after k x.back
own_back_after p (kind.StoreBack value) found s x y e = has_back value x x.place y e
own_back_after p (kind.LoadTail purpose.Begin) found s x y e = b_tail p found x x.place y e
own_back_after p (kind.LoadTail purpose.Horizon) found s x y e = b_horizon found x x.task y e
own_back_after p (kind.LoadTail purpose.Gather) found s x y e = when_then (λ (z : Part). z.back ≡ x.back) _ _ y e (λ _. refl)
own_back_after p (kind.AddTail size) found s x y e = b_drawn p size found x x.place y e
own_back_after p (kind.StoreBegin value) found s x y e = b_begin p value x x.place y e
own_back_after p (kind.StoreState value) found s x y e = b_state p value x x.place y e
own_back_after p (kind.LoadBegin other) found s x y e = b_load_begin p other found x x.task y e
own_back_after p (kind.LoadState other bound) found s x y e = when_then (λ (z : Part). z.back ≡ x.back) _ _ y e (λ _. refl)
own_back_after p (kind.Split other) found s x y e = absurd (cc)
own_back_after p (kind.Join other) found s x y e = absurd (cc)
own_back_after p (kind.Decide at header) found s x y e = b_decided at header x x.place x.task y e
own_back_after p (kind.LoadBack other) found s x y e = b_load_back other found x x.task y e
own_back_after p k found s x y e = (watches p k found s x y tt e).back

-- the state after a step of one seat
abbrev pub next : Core → ℕ → Kind → Part → Core
next c p k y = record { shared = shared_after p k (word_at c (spot_of p k)) (c.seats p) c.shared; seats = put c.seats p y }

taken_by : (c : Core) (p : ℕ) (k : Kind) (y : Part) (b : Bool) (o : Option Part) → b ≡ true → o ≡ Some y →
    (if b then moved p k (word_at c (spot_of p k)) c o else None) ≡ Some (next c p k y)
taken_by c p k y b o known at =
    subst (λ (t : Bool). (if t then moved p k (word_at c (spot_of p k)) c o else None) ≡ Some (next c p k y)) (sym known)
    (subst (λ (r : Option Part). moved p k (word_at c (spot_of p k)) c r ≡ Some (next c p k y)) (sym at) refl)

-- a step whose guard is met is an event
pub event_is : (c : Core) (p : ℕ) (k : Kind) (y : Part) → is_known k ≡ true → part_after p k (word_at c (spot_of p k)) c.shared (c.seats p) ≡ Some y →
    after_event c p k ≡ Some (next c p k y)
event_is c p (kind.Split other) y known at = absurd (cc)
event_is c p (kind.Join other) y known at = absurd (cc)
event_is c p k y known at = taken_by c p k y (is_known k) (part_after p k (word_at c (spot_of p k)) c.shared (c.seats p)) known at

-- what a change of one word of a cell leaves of each word
set_other : (w : CellWord) (n : ℕ) (cell : Cell) (u : CellWord) → w ≢ u → cell_word u (set_word w n cell) ≡ cell_word u cell
set_other cells.Stamp n cell cells.Stamp ne = absurd (ne refl)
set_other cells.Link n cell cells.Link ne = absurd (ne refl)
set_other cells.Readers n cell cells.Readers ne = absurd (ne refl)
set_other cells.ReaderStamp n cell cells.ReaderStamp ne = absurd (ne refl)
set_other cells.Overwriter n cell cells.Overwriter ne = absurd (ne refl)
set_other cells.OverwriterSucc n cell cells.OverwriterSucc ne = absurd (ne refl)
set_other (cells.Row j) n cell (cells.Row k) ne = get_or-set_other cell.row j k n 0 (λ same. ne (ap cells.Row (sym same)))
set_other _ n cell _ ne = refl

set_same : (w : CellWord) (n : ℕ) (cell : Cell) → IsInCell w → length cell.row ≡ 16 → cell_word w (set_word w n cell) ≡ n
set_same (cells.Row k) n cell within long = get_or-set_same cell.row k n 0 (omega (arith, within, long))
set_same _ n cell within long = refl

change_same : (cell : ℕ) (w : CellWord) (n : ℕ) (map : ℕ → Cell) → IsInCell w → length (map cell).row ≡ 16 → cell_word w (change cell w n map cell) ≡ n
change_same cell w n map within long = ap (cell_word w) (put_same map cell (set_word w n (map cell))) ∙ set_same w n (map cell) within long

-- a word of some cell that isn't the one changed
change_unmet : (cell : ℕ) (w : CellWord) (n : ℕ) (map : ℕ → Cell) (d : ℕ) (u : CellWord) → Some (word.Cell cell w) ≢ Some (word.Cell d u) → cell_word u (change cell w n map d) ≡ cell_word u (map d)
change_unmet cell w n map d u ne =
    at_cases (λ z. cell_word u z ≡ cell_word u (map d)) map cell (set_word w n (map cell)) d
    (λ same. set_other w n (map cell) u (λ also. ne (both same also)) ∙ ap (λ (m : ℕ). cell_word u (map m)) (sym same)) (λ _. refl)
  where
    both : d ≡ cell → w ≡ u → Some (word.Cell cell w) ≡ Some (word.Cell d u)
    both same also = cc

-- an entry, where another's object changes, or nothing of its own but versions
entry_kept : (f : ℕ → Object) (at : ℕ) (u : Object) (oid : ℕ) → u.entry ≡ (f at).entry → (put f at u oid).entry ≡ (f oid).entry
entry_kept f at u oid e = at_cases (λ z. z.entry ≡ (f oid).entry) f at u oid (λ same. e ∙ ap (λ (n : ℕ). (f n).entry) (sym same)) (λ _. refl)

entry_other : (f : ℕ → Object) (at : ℕ) (u : Object) (oid : ℕ) → Some (word.Entry at) ≢ Some (word.Entry oid) → (put f at u oid).entry ≡ (f oid).entry
entry_other f at u oid ne = ap (λ (z : Object). z.entry) (put_other f at u oid (λ same. ne (ap (λ n. Some (word.Entry n)) (sym same))))

entry_installed : (head : ℕ) (v : Option Version) (o : Object) → (installed head v o).entry ≡ head
entry_installed head None o = refl
entry_installed head (Some v) o = refl

-- what a counter leaves
counter_flushed : (counter : Counter) (n : ℕ) (s : Shared) → (with_counter counter n s).flushed ≡ s.flushed
counter_flushed Objects n s = refl
counter_flushed Cells n s = refl

counter_ring : (counter : Counter) (n place : ℕ) (s : Shared) → (with_counter counter n s).ring place ≡ s.ring place
counter_ring Objects n place s = refl
counter_ring Cells n place s = refl

counter_other : (counter other : Counter) (n : ℕ) (s : Shared) → Some (word.Counter counter) ≢ Some (word.Counter other) → drawn_of other (with_counter counter n s) ≡ drawn_of other s
counter_other Objects Objects n s ne = absurd (ne refl)
counter_other Cells Cells n s ne = absurd (ne refl)
counter_other Objects Cells n s ne = refl
counter_other Cells Objects n s ne = refl

counter_same : (counter : Counter) (n : ℕ) (s : Shared) → drawn_of counter (with_counter counter n s) ≡ n
counter_same Objects n s = refl
counter_same Cells n s = refl

ring_other : (f : ℕ → ℕ) (at n place : ℕ) → Some (word.Ring at) ≢ Some (word.Ring place) → put f at n place ≡ f place
ring_other f at n place ne = put_other f at n place (λ same. ne (ap (λ m. Some (word.Ring m)) (sym same)))

-- a fact of the word of a spot
pub if_some : (o : Option Word) (P : Word → Type 0) (u : Word) → o ≡ Some u → P u → IfSome o P
if_some o P u e h = subst (λ (q : Option Word). IfSome q P) (sym e) h

pub from_some : (o : Option Word) (P : Word → Type 0) (u : Word) → o ≡ Some u → IfSome o P → P u
from_some o P u e h = subst (λ (q : Option Word). IfSome q P) e h

module _ (c : Core) (p : ℕ) (y : Part) where
  -- the words of any seat, where the step doesn't change the own one
  begin_kept : (q : ℕ) → (q ≡ p → begin_of y.place ≡ begin_of (c.seats p).place) → begin_of (put c.seats p y q).place ≡ begin_of (c.seats q).place
  begin_kept q own =
      at_cases (λ z. begin_of z.place ≡ begin_of (c.seats q).place) c.seats p y q
      (λ is. subst (λ n. begin_of y.place ≡ begin_of (c.seats n).place) (sym is) (own is)) (λ _. refl)

  state_kept : (q : ℕ) → (q ≡ p → state_of y.place ≡ state_of (c.seats p).place) → state_of (put c.seats p y q).place ≡ state_of (c.seats q).place
  state_kept q own =
      at_cases (λ z. state_of z.place ≡ state_of (c.seats q).place) c.seats p y q
      (λ is. subst (λ n. state_of y.place ≡ state_of (c.seats n).place) (sym is) (own is)) (λ _. refl)

  back_kept : (q : ℕ) → (q ≡ p → y.back ≡ (c.seats p).back) → (put c.seats p y q).back ≡ (c.seats q).back
  back_kept q own =
      at_cases (λ (z : Part). z.back ≡ (c.seats q).back) c.seats p y q
      (λ is. subst (λ n. y.back ≡ (c.seats n).back) (sym is) (own is)) (λ _. refl)

  -- the word that a step of this kind meets isn't this one
  abbrev Unmet : Kind → Word → Type 0
  Unmet k u = word_of_spot (spot_of p k) ≢ Some u

  tail_unmet : (k : Kind) → Unmet k word.Tail → (next c p k y).shared.tail ≡ c.shared.tail
  tail_unmet (kind.AddTail size) ne = absurd (ne refl)
  tail_unmet k ne = (keeps_log p k (word_at c (spot_of p k)) (c.seats p) c.shared tt).tail

  flushed_unmet : (k : Kind) → Unmet k word.Flushed → (next c p k y).shared.flushed ≡ c.shared.flushed
  flushed_unmet (kind.StoreFlushed value) ne = absurd (ne refl)
  flushed_unmet (kind.AddCounter counter) ne = counter_flushed counter _ c.shared
  flushed_unmet _ ne = refl

  counter_unmet : (k : Kind) (other : Counter) → Unmet k (word.Counter other) → drawn_of other (next c p k y).shared ≡ drawn_of other c.shared
  counter_unmet (kind.AddCounter counter) other ne = counter_other counter other _ c.shared ne
  counter_unmet _ Objects ne = refl
  counter_unmet _ Cells ne = refl

  begin_unmet : (k : Kind) (q : ℕ) → Has (begin_after k (c.seats p).place) (state_after k (c.seats p).place) y → Unmet k (word.Begin q) →
      begin_of ((next c p k y).seats q).place ≡ begin_of (c.seats q).place
  begin_unmet (kind.StoreBegin value) q own ne = begin_kept q (λ is. absurd (ne (ap (λ n. Some (word.Begin n)) (sym is))))
  begin_unmet k q own ne = begin_kept q (λ _. own.begin_is)

  state_unmet : (k : Kind) (q : ℕ) → Has (begin_after k (c.seats p).place) (state_after k (c.seats p).place) y → Unmet k (word.State q) →
      state_of ((next c p k y).seats q).place ≡ state_of (c.seats q).place
  state_unmet (kind.StoreState value) q own ne = state_kept q (λ is. absurd (ne (ap (λ n. Some (word.State n)) (sym is))))
  state_unmet k q own ne = state_kept q (λ _. own.state_is)

  back_unmet : (k : Kind) (q : ℕ) → y.back ≡ back_after k (c.seats p).back → Unmet k (word.Back q) → ((next c p k y).seats q).back ≡ (c.seats q).back
  back_unmet (kind.StoreBack value) q own ne = back_kept q (λ is. absurd (ne (ap (λ n. Some (word.Back n)) (sym is))))
  back_unmet k q own ne = back_kept q (λ _. own)

  entry_unmet : (k : Kind) (oid : ℕ) → Unmet k (word.Entry oid) → ((next c p k y).shared.objects oid).entry ≡ (c.shared.objects oid).entry
  entry_unmet (kind.Claim at seen number) oid ne = entry_other c.shared.objects at _ oid ne
  entry_unmet (kind.Install at head) oid ne = entry_other c.shared.objects at _ oid ne
  entry_unmet (kind.SetReader v) oid ne = entry_kept c.shared.objects v.oid _ oid refl
  entry_unmet (kind.ClearReader v) oid ne = entry_kept c.shared.objects v.oid _ oid refl
  entry_unmet (kind.RaiseReader v value) oid ne = entry_kept c.shared.objects v.oid _ oid refl
  entry_unmet (kind.StoreSucc v value) oid ne = entry_kept c.shared.objects v.oid _ oid refl
  entry_unmet (kind.StoreOverwriter v value) oid ne = entry_kept c.shared.objects v.oid _ oid refl
  entry_unmet (kind.SwapLink v) oid ne = entry_kept c.shared.objects v.oid _ oid refl
  entry_unmet k oid ne = ap (λ (f : ℕ → Object). (f oid).entry) (same_objects p k (word_at c (spot_of p k)) (c.seats p) c.shared tt)

  cell_unmet : (k : Kind) (n : ℕ) (map : ℕ → Cell) (cell : ℕ) (w : CellWord) → Unmet k (word.Cell cell w) → cell_word w (cells_after k n map cell) ≡ cell_word w (map cell)
  cell_unmet (kind.StoreCell place at u value) n map cell w ne = change_unmet at u n map cell w ne
  cell_unmet (kind.SetReader v) n map cell w ne = change_unmet v.cell cells.Readers n map cell w ne
  cell_unmet (kind.ClearReader v) n map cell w ne = change_unmet v.cell cells.Readers n map cell w ne
  cell_unmet (kind.RaiseReader v value) n map cell w ne = change_unmet v.cell cells.ReaderStamp n map cell w ne
  cell_unmet (kind.StoreSucc v value) n map cell w ne = change_unmet v.cell cells.OverwriterSucc n map cell w ne
  cell_unmet (kind.StoreOverwriter v value) n map cell w ne = change_unmet v.cell cells.Overwriter n map cell w ne
  cell_unmet (kind.SwapLink v) n map cell w ne = change_unmet v.cell cells.Link n map cell w ne
  cell_unmet _ n map cell w ne = refl

  ring_unmet : (k : Kind) (place : ℕ) → Unmet k (word.Ring place) → (next c p k y).shared.ring place ≡ c.shared.ring place
  ring_unmet (kind.StoreRing at value) place ne = ring_other c.shared.ring (at % RING_WORDS) value place ne
  ring_unmet (kind.Decide at header) place ne = ring_other c.shared.ring (at % RING_WORDS) header place ne
  ring_unmet (kind.ClearRing at) place ne = ring_other c.shared.ring (at % RING_WORDS) 0 place ne
  ring_unmet (kind.AddCounter counter) place ne = counter_ring counter _ place c.shared
  ring_unmet _ place ne = refl

  -- each word that isn't met stays
  pub unmet_after : (k : Kind) (n : ℕ) (map : ℕ → Cell) → part_after p k (word_at c (spot_of p k)) c.shared (c.seats p) ≡ Some y → (u : Word) → Unmet k u →
      word_in (next c p k y) (cells_after k n map) u ≡ word_in c map u
  unmet_after k n map at word.Tail ne = tail_unmet k ne
  unmet_after k n map at word.Flushed ne = flushed_unmet k ne
  unmet_after k n map at (word.Counter counter) ne = counter_unmet k counter ne
  unmet_after k n map at (word.Begin q) ne = begin_unmet k q (own_words_after p k _ c.shared (c.seats p) y at) ne
  unmet_after k n map at (word.State q) ne = state_unmet k q (own_words_after p k _ c.shared (c.seats p) y at) ne
  unmet_after k n map at (word.Entry oid) ne = entry_unmet k oid ne
  unmet_after k n map at (word.Cell cell w) ne = cell_unmet k n map cell w ne
  unmet_after k n map at (word.Ring place) ne = ring_unmet k place ne
  unmet_after k n map at (word.Back q) ne = back_unmet k q (own_back_after p k _ c.shared (c.seats p) y at) ne

  -- the word met is what the step stores
  met_by : (k : Kind) (map : ℕ → Cell) → ((cell : ℕ) → length (map cell).row ≡ 16) → Has (begin_after k (c.seats p).place) (state_after k (c.seats p).place) y →
      y.back ≡ back_after k (c.seats p).back →
      IfSome (word_of_spot (spot_of p k)) HasNumber → IfSome (word_of_spot (spot_of p k)) (λ u. word_in c map u ≡ word_at c (spot_of p k)) →
      IfSome (word_of_spot (spot_of p k)) (λ u. word_in (next c p k y) (cells_after k (stored p k (word_at c (spot_of p k))) map) u ≡ stored p k (word_at c (spot_of p k)))
  met_by (kind.LoadTail reason) map rows own back has is = refl
  met_by (kind.AddTail size) map rows own back has is = refl
  met_by (kind.StoreBegin value) map rows own back has is = ap (λ (z : Part). begin_of z.place) (put_same c.seats p y) ∙ own.begin_is
  met_by (kind.StoreState value) map rows own back has is = ap (λ (z : Part). state_of z.place) (put_same c.seats p y) ∙ own.state_is
  met_by (kind.LoadBegin other) map rows own back has is = begin_kept other (λ _. own.begin_is)
  met_by (kind.LoadState other bound) map rows own back has is = state_kept other (λ _. own.state_is)
  met_by (kind.Split other) map rows own back has is = tt
  met_by (kind.Join other) map rows own back has is = tt
  met_by (kind.LoadEntry oid) map rows own back has is = refl
  met_by (kind.Claim oid seen number) map rows own back has is = ap (λ (o : Object). o.entry) (put_same c.shared.objects oid _)
  met_by (kind.Install oid head) map rows own back has is =
      ap (λ (o : Object). o.entry) (put_same c.shared.objects oid _) ∙ entry_installed head (added head (c.seats p) (end_of (c.seats p).task)) (c.shared.objects oid)
  met_by (kind.LoadCell v w) map rows own back has is = is
  met_by (kind.StoreCell place cell w value) map rows own back has is = change_same cell w value map has.1 (rows cell)
  met_by (kind.LoadCounter counter) map rows own back has is = refl
  met_by (kind.AddCounter counter) map rows own back has is = counter_same counter _ c.shared
  met_by (kind.SetReader v) map rows own back has is = change_same v.cell cells.Readers _ map tt (rows v.cell)
  met_by (kind.ClearReader v) map rows own back has is = change_same v.cell cells.Readers _ map tt (rows v.cell)
  met_by (kind.LoadReaders v) map rows own back has is = is
  met_by (kind.LoadStamp v w) map rows own back has is = is
  met_by (kind.RaiseReader v value) map rows own back has is = change_same v.cell cells.ReaderStamp _ map tt (rows v.cell)
  met_by (kind.StoreSucc v value) map rows own back has is = change_same v.cell cells.OverwriterSucc value map tt (rows v.cell)
  met_by (kind.StoreOverwriter v value) map rows own back has is = change_same v.cell cells.Overwriter value map tt (rows v.cell)
  met_by (kind.StoreRing at value) map rows own back has is = put_same c.shared.ring (at % RING_WORDS) value
  met_by (kind.Decide at header) map rows own back has is = put_same c.shared.ring (at % RING_WORDS) header
  met_by (kind.LoadRing at) map rows own back has is = refl
  met_by (kind.ClearRing at) map rows own back has is = put_same c.shared.ring (at % RING_WORDS) 0
  met_by (kind.StoreFlushed value) map rows own back has is = refl
  met_by kind.LoadFlushed map rows own back has is = refl
  met_by (kind.SwapLink v) map rows own back has is = change_same v.cell cells.Link 0 map tt (rows v.cell)
  met_by (kind.LoadDetached v) map rows own back has is = is
  met_by (kind.StoreBack value) map rows own back has is = ap (λ (z : Part). z.back) (put_same c.seats p y) ∙ back
  met_by (kind.LoadBack other) map rows own back has is = back_kept other (λ _. back)
  met_by (kind.Unset claim) map rows own back has is = tt

  pub met_after : (k : Kind) (map : ℕ → Cell) → ((cell : ℕ) → length (map cell).row ≡ 16) → part_after p k (word_at c (spot_of p k)) c.shared (c.seats p) ≡ Some y →
      (u : Word) → word_of_spot (spot_of p k) ≡ Some u → HasNumber u → IfSome (word_of_spot (spot_of p k)) (λ v. word_in c map v ≡ word_at c (spot_of p k)) →
      word_in (next c p k y) (cells_after k (stored p k (word_at c (spot_of p k))) map) u ≡ stored p k (word_at c (spot_of p k))
  met_after k map rows at u met has is =
      from_some (word_of_spot (spot_of p k)) (λ v. word_in (next c p k y) (cells_after k (stored p k (word_at c (spot_of p k))) map) v ≡ stored p k (word_at c (spot_of p k))) u met
      (met_by k map rows (own_words_after p k _ c.shared (c.seats p) y at) (own_back_after p k _ c.shared (c.seats p) y at) (if_some (word_of_spot (spot_of p k)) HasNumber u met has) is)
