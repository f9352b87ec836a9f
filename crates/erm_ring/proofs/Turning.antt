-- The flush seat's part in a turn, step by step; and that no other step stores the place flushed.
use Rattle.std.proofs.Common.{◌≡◌, ◌≢◌, ℕ, ◌+◌, ◌<◌, ◌≤◌, Bool, true, false, max, Option, Some, None, is_some, eqb-true, refl, sym, ap, ◌∙◌, subst, arith}
use Rattle.std.specs.Prelude.{if◌then◌else◌, ◌==◌, nat_lt}
use Rattle.std.proofs.lemmas.Bool.{le-ltb, lt-ltb, ne_eqb}
use Rattle.std.proofs.lemmas.Option.{same_Some}
use Rattle.erm_machine.specs.declared.event.Kind.{Kind}
use Rattle.erm_machine.specs.declared.event.Kind.TheVariants as kind
use Rattle.erm_machine.specs.declared.limits.TheConstants.{FLUSH_SEAT}
use Rattle.erm_machine.specs.declared.part.Flushing.{Flushing}
use Rattle.erm_machine.specs.declared.part.Flushing.TheVariants as flushing
use Rattle.erm_machine.specs.declared.part.Part.{Part}
use Rattle.erm_machine.specs.Core.{Core, Shared, spot_of, word_at}
use Rattle.erm_machine.specs.Flushing.{gathered_word, load_ring, size_of, store_flushed, with_flushing}
use Rattle.erm_machine.specs.Life.{join, split}
use Rattle.erm_machine.specs.Seat.{saw}
use Rattle.erm_machine.specs.Sound.{Sound}
use Rattle.erm_machine.specs.Step.{after_event, with_part}
use Rattle.erm_machine.proofs.QuietKinds.{MeetsOne, Moves, moves}
use Rattle.erm_core_ring.proofs.Aside.{LeavesWords, leaves_words}
use Rattle.erm_core_ring.proofs.Flush.{flusher_is, turning}
use Rattle.erm_core_flush.specs.Turns.{Turns, turn_of}
use Rattle.erm_rule.specs.declared.view.View.{View}
use Rattle.erm_rule.specs.Steps.{Ready}
use Rattle.erm_rule.specs.Views.{IsView}

abbrev pub F : ℕ
F = FLUSH_SEAT

-- a step of the flush seat is ready where it is taken in each sound state with the view's parts
pub ready_turns : (v : View) (k : Kind) → MeetsOne k → ((c : Core) → Sound c → IsView v c → (to : Flushing) × Turns c k to) → Ready v F k
ready_turns v k one turns c sound is =
    let t = (turns c sound is).1 in
    ap (λ (o : Option Part). is_some o) (moves c F k t.after one t.takes).after

-- THE PLACE FLUSHED stays while the flush seat clears nothing.
abbrev pub IsClearing : Flushing → Type 0
IsClearing (flushing.Clears next to) = Unit {0}
IsClearing f = ⊥

-- a step that is taken stores it where the flush seat clears
stores_clearing : (c : Core) (sound : Sound c) (p value : ℕ) (fl : Flushing) (y : Part) → (c.seats p).flushing ≡ fl → store_flushed value (c.seats p) fl ≡ Some y → IsClearing (turn_of c)
stores_clearing c sound p value (flushing.Clears next to) y at e =
    let flusher = turning c sound p (flushing.Clears next to) (λ (n : flushing.Clears next to ≡ flushing.Still). cc) at in
    subst IsClearing (sym (ap (λ (n : ℕ). (c.seats n).flushing) (flusher_is c sound p flusher) ∙ at)) tt
stores_clearing c sound p value _ y at e = absurd (cc)

same_words : (c : Core) (p : ℕ) (k : Kind) (d : Core) → LeavesWords k → Moves c p k d → d.shared.flushed ≡ c.shared.flushed
same_words c p k d leaves m = ap (λ (e : Core). e.shared.flushed) m.is ∙ (leaves_words p k (word_at c (spot_of p k)) (c.seats p) c.shared leaves).flushed

part_same : (c : Core) (q : ℕ) (o : Option Part) (d : Core) → with_part c q o ≡ Some d → d.shared.flushed ≡ c.shared.flushed
part_same c q None d e = absurd (cc)
part_same c q (Some y) d e = sym (ap (λ (f : Core). f.shared.flushed) (same_Some _ _ e))

split_same : (c : Core) (p other : ℕ) (d : Core) (b : Bool) → (if b then with_part c other (split (c.seats p) (c.seats other)) else None) ≡ Some d → d.shared.flushed ≡ c.shared.flushed
split_same c p other d true e = part_same c other _ d e
split_same c p other d false e = absurd (cc)

join_same : (c : Core) (p other : ℕ) (d : Core) (b : Bool) → (if b then None else with_part c p (join (c.seats p) (c.seats other))) ≡ Some d → d.shared.flushed ≡ c.shared.flushed
join_same c p other d true e = absurd (cc)
join_same c p other d false e = part_same c p _ d e

word_same : (c : Core) (p : ℕ) (k : Kind) (d : Core) → LeavesWords k → MeetsOne k → after_event c p k ≡ Some d → d.shared.flushed ≡ c.shared.flushed
word_same c p k d leaves one e = same_words c p k d leaves (moves c p k d one e)

shared_same : (c d : Core) (t : Shared) → d.shared ≡ t → t.flushed ≡ c.shared.flushed → d.shared.flushed ≡ c.shared.flushed
shared_same c d t is same = ap (λ (s : Shared). s.flushed) is ∙ same

pub flushed_kept : (c : Core) (p : ℕ) (k : Kind) (d : Core) → Sound c → (IsClearing (turn_of c) → ⊥) → after_event c p k ≡ Some d → d.shared.flushed ≡ c.shared.flushed
flushed_kept c p (kind.AddTail size) d sound still e = ap (λ (f : Core). f.shared.flushed) (moves c p (kind.AddTail size) d tt e).is
flushed_kept c p (kind.StoreRing at value) d sound still e = ap (λ (f : Core). f.shared.flushed) (moves c p (kind.StoreRing at value) d tt e).is
flushed_kept c p (kind.Decide at header) d sound still e = ap (λ (f : Core). f.shared.flushed) (moves c p (kind.Decide at header) d tt e).is
flushed_kept c p (kind.ClearRing at) d sound still e = ap (λ (f : Core). f.shared.flushed) (moves c p (kind.ClearRing at) d tt e).is
flushed_kept c p (kind.StoreFlushed value) d sound still e =
    let m = moves c p (kind.StoreFlushed value) d tt e in
    absurd (still (stores_clearing c sound p value (c.seats p).flushing m.part refl m.after))
flushed_kept c p (kind.Split other) d sound still e = split_same c p other d _ e
flushed_kept c p (kind.Join other) d sound still e = join_same c p other d _ e
flushed_kept c p k d sound still e = word_same c p k d tt tt e

-- THE PARTS OF A GATHER. The tail is loaded, and then the place flushed.
abbrev pub tail_part : ℕ → Part → Part
tail_part tail x = saw tail (record x { flushing = flushing.Tail tail })

-- the words from `from` on are gathered up to `next`, of a block from `block` to `end`
abbrev pub gathering_part : (tail from block next end : ℕ) → Part → Part
gathering_part tail from block next end x = record (saw tail x) { flushing = flushing.Gathers tail from block next end; gathered_to = max x.gathered_to block }

max_low : (g n : ℕ) → n ≤ g → max g n ≡ g
max_low g n low = omega (arith, low)

max_both : (g m n : ℕ) → m ≤ n → max (max g m) n ≡ max g n
max_both g m n low = omega (arith, low)

pub starts_at : (tail from : ℕ) (x : Part) → from ≤ x.gathered_to → record (tail_part tail x) { flushing = flushing.Gathers tail from from from from } ≡ gathering_part tail from from from from x
starts_at tail from x low = ap (λ (n : ℕ). record (saw tail x) { flushing = flushing.Gathers tail from from from from; gathered_to = n }) (sym (max_low x.gathered_to from low))

-- where the block in hand begins, once its next word is loaded
abbrev pub block_after : (block next end : ℕ) → ℕ
block_after block next end = if (next + 1) == end then end else block

word_by : (b : Bool) (tail from block next end : ℕ) (f : Flushing) (x : Part) → (b ≡ true → next + 1 ≡ end) → block ≤ end →
    (if b then record (record (saw tail x) { flushing = f; gathered_to = max x.gathered_to block }) { flushing = flushing.Gathers tail from end end end; gathered_to = max (max x.gathered_to block) end }
    else with_flushing (flushing.Gathers tail from block (next + 1) end) (record (saw tail x) { flushing = f; gathered_to = max x.gathered_to block }))
    ≡ gathering_part tail from (if b then end else block) (next + 1) end x
word_by true tail from block next end f x last low =
    ap (λ (n : ℕ). record (saw tail x) { flushing = flushing.Gathers tail from end end end; gathered_to = n }) (max_both x.gathered_to block end low)
    ∙ ap (λ (n : ℕ). record (saw tail x) { flushing = flushing.Gathers tail from end n end; gathered_to = max x.gathered_to end }) (sym (last refl))
word_by false tail from block next end f x last low = refl

pub word_part : (tail from block next end : ℕ) (f : Flushing) (x : Part) → block ≤ end →
    gathered_word tail from block next end (record (saw tail x) { flushing = f; gathered_to = max x.gathered_to block }) ≡ gathering_part tail from (block_after block next end) (next + 1) end x
word_part tail from block next end f x low = word_by ((next + 1) == end) tail from block next end f x (λ e. eqb-true (next + 1) end e) low

pub taken_by : (b : Bool) (z y : Part) → (if b then Some z else None) ≡ Some y → z ≡ y
taken_by true z y e = same_Some z y e
taken_by false z y e = absurd (cc)

if_true : (b : Bool) (l r : Part) → b ≡ true → (if b then l else r) ≡ l
if_true true l r e = refl
if_true false l r e = absurd (cc)

if_false : (b : Bool) (l r : Part) → b ≡ false → (if b then l else r) ≡ r
if_false true l r e = absurd (cc)
if_false false l r e = refl

-- a word of a block is loaded, which isn't its header
pub middle_part : (tail from block next end word : ℕ) (x z : Part) → next < end → block ≤ end →
    load_ring next word (gathering_part tail from block next end x) (flushing.Gathers tail from block next end) ≡ Some z → z ≡ gathering_part tail from (block_after block next end) (next + 1) end x
middle_part tail from block next end word x z inside low e =
    sym (taken_by _ _ z e) ∙ if_true (nat_lt next end) _ _ (lt-ltb next end inside) ∙ word_part tail from block next end (flushing.Gathers tail from block next end) x low

-- a header that isn't 0 is loaded
pub header_part : (tail from next word : ℕ) (x z : Part) → word ≢ 0 →
    load_ring next word (gathering_part tail from next next next x) (flushing.Gathers tail from next next next) ≡ Some z →
    z ≡ gathering_part tail from (block_after next next (next + size_of word)) (next + 1) (next + size_of word) x
header_part tail from next word x z some e =
    sym (taken_by _ _ z e) ∙ if_false (nat_lt next next) _ _ (le-ltb next next (omega arith)) ∙ if_false (word == 0) _ _ (ne_eqb word 0 some)
    ∙ word_part tail from next next (next + size_of word) (flushing.Gathers tail from next next next) x (omega arith)

-- a header that is 0 leaves the part
pub zero_part : (tail from next : ℕ) (x z : Part) →
    load_ring next 0 (gathering_part tail from next next next x) (flushing.Gathers tail from next next next) ≡ Some z → z ≡ gathering_part tail from next next next x
zero_part tail from next x z e = sym (taken_by _ _ z e) ∙ if_false (nat_lt next next) _ _ (le-ltb next next (omega arith))
