-- What is flushed stays so, and the words of decided blocks stay.
use Rattle.std.proofs.Common.{◌≡◌, ℕ, ◌<◌, ◌≤◌, ⊎_elim, Bool, true, false, eqb-true, Option, Some, None, slice_get, refl, sym, ap, ◌∙◌, subst, arith}
use Rattle.std.specs.Prelude.{if◌then◌else◌}
use Rattle.std.proofs.lemmas.Bool.{and_parts, cases_lt}
use Rattle.std.proofs.lemmas.Option.{same_Some}
use Rattle.erm_model.specs.Member.{◌∈◌}
use Rattle.erm_machine.specs.declared.attempt.Attempt.{Attempt}
use Rattle.erm_machine.specs.declared.event.Kind.{Kind}
use Rattle.erm_machine.specs.declared.event.Kind.TheVariants as kind
use Rattle.erm_machine.specs.declared.part.Flushing.{Flushing}
use Rattle.erm_machine.specs.declared.part.Flushing.TheVariants as flushing
use Rattle.erm_machine.specs.declared.part.Part.{Part}
use Rattle.erm_machine.specs.Core.{Core, spot_of, word_at}
use Rattle.erm_machine.specs.Facts.{all_of}
use Rattle.erm_machine.specs.Flushing.{store_flushed}
use Rattle.erm_machine.specs.declared.version.Span.{Span}
use Rattle.erm_machine.specs.Life.{join, split}
use Rattle.erm_machine.specs.Log.{Clearing, DecidedBelow, IsFlushing, block_word}
use Rattle.erm_machine.specs.Sound.{Sound}
use Rattle.erm_machine.specs.Step.{after_event, with_part}
use Rattle.erm_machine.proofs.Guards.{when_then}
use Rattle.erm_machine.proofs.QuietKinds.{MeetsOne, Moves, moves}
use Rattle.erm_core_ring.proofs.Aside.{LeavesWords, leaves_words}
use Rattle.erm_core_ring.proofs.Flush.{log_here, turning}
use Rattle.erm_core_ring.proofs.Onward.{same_words}
use Rattle.erm_core_ring.proofs.Spans.{end_apart, range_in, span_of, span_once}
use Rattle.erm_core_ssn.proofs.MarksAscend.{ascending}
use Rattle.erm_core_flush.specs.Turns.{LogWord}
use Rattle.erm_core_flush.proofs.Forth.{forth}

-- the words of a decided block stay
pub words_stay : (c d : Core) (seat place word : ℕ) (k : Kind) → Sound c → after_event c seat k ≡ Some d → LogWord c.seats place word → LogWord d.seats place word
words_stay c d seat place word k sound e w =
    let is = w.decided in
    let a = forth c seat k d sound e is.seat w.holder is.stands is.drawn is.decided in
    let b = a.is in
    let stamp = b.stamp in
    let size = b.size in
    let drawn = is.drawn in
    let within = w.within in
    let place_is = w.place_is in
    record {
      holder = a.new;
      decided = record { seat = is.seat; stands = a.stands; drawn = omega (arith, drawn, stamp); decided = λ u. is.decided (sym b.decision ∙ u) };
      at = w.at;
      within = omega (arith, within, size);
      place_is = omega (arith, place_is, stamp);
      word_is = same_words w.holder a.new b.header b.block w.at ∙ w.word_is;
    }

-- all ranges below the place flushed are decided
pub flushed_decided : (c : Core) → Sound c → DecidedBelow c.seats c.shared.flushed
flushed_decided c sound q t m drawn below =
    let gathered = sound.common.log.gathered in
    let low = gathered.onward.1 in (
      (gathered.decided q t m drawn (omega (arith, below, low))).0,
      end_apart c.shared.opening c.shared.tail c.shared.log sound.common.ranges.end_to_end c.shared.flushed gathered.flushed (span_of q t)
          (range_in c.shared q (c.seats q) (sound.own q).ranges t m drawn) below,
    )

-- flushed never falls
stored_above : (c : Core) (sound : Sound c) (p value : ℕ) (fl : Flushing) (y : Part) → (c.seats p).flushing ≡ fl → store_flushed value (c.seats p) fl ≡ Some y → c.shared.flushed ≤ value
stored_above c sound p value (flushing.Clears next to) y at e =
    when_then (λ _. c.shared.flushed ≤ value) _ _ y e (λ g.
    let a = and_parts _ _ g in
    let same = eqb-true value to a.1 in
    let flusher = turning c sound p (flushing.Clears next to) (λ (n : flushing.Clears next to ≡ flushing.Still). cc) at in
    let clearing : Clearing c.shared (c.seats p).gathered_to next to = subst (IsFlushing c.shared c.seats (c.seats p).gathered_to) at (log_here c sound p flusher).turn in
    let o = clearing.onward in
    let low = o.0 in
    let up = o.1 in
    omega (arith, low, up, same))
stored_above c sound p value _ y at e = absurd (cc)

same_flushed : (c : Core) (p : ℕ) (k : Kind) (d : Core) → LeavesWords k → Moves c p k d → c.shared.flushed ≤ d.shared.flushed
same_flushed c p k d leaves m =
    subst (λ (e : Core). c.shared.flushed ≤ e.shared.flushed) (sym m.is)
    (let h = (leaves_words p k (word_at c (spot_of p k)) (c.seats p) c.shared leaves).flushed in omega (arith, h))

part_flushed : (c : Core) (q : ℕ) (o : Option Part) (d : Core) → with_part c q o ≡ Some d → c.shared.flushed ≤ d.shared.flushed
part_flushed c q None d e = absurd (cc)
part_flushed c q (Some y) d e = subst (λ (f : Core). c.shared.flushed ≤ f.shared.flushed) (same_Some _ _ e) (omega arith)

split_flushed : (c : Core) (p other : ℕ) (d : Core) (b : Bool) → (if b then with_part c other (split (c.seats p) (c.seats other)) else None) ≡ Some d → c.shared.flushed ≤ d.shared.flushed
split_flushed c p other d true e = part_flushed c other _ d e
split_flushed c p other d false e = absurd (cc)

join_flushed : (c : Core) (p other : ℕ) (d : Core) (b : Bool) → (if b then None else with_part c p (join (c.seats p) (c.seats other))) ≡ Some d → c.shared.flushed ≤ d.shared.flushed
join_flushed c p other d true e = absurd (cc)
join_flushed c p other d false e = part_flushed c p _ d e

word_flushed : (c : Core) (p : ℕ) (k : Kind) (d : Core) → LeavesWords k → MeetsOne k → after_event c p k ≡ Some d → c.shared.flushed ≤ d.shared.flushed
word_flushed c p k d leaves one e = same_flushed c p k d leaves (moves c p k d one e)

pub flushed_rises : (c : Core) (p : ℕ) (k : Kind) (d : Core) → Sound c → after_event c p k ≡ Some d → c.shared.flushed ≤ d.shared.flushed
flushed_rises c p (kind.AddTail size) d sound e = let m = moves c p (kind.AddTail size) d tt e in subst (λ (f : Core). c.shared.flushed ≤ f.shared.flushed) (sym m.is) (omega arith)
flushed_rises c p (kind.StoreRing at value) d sound e = let m = moves c p (kind.StoreRing at value) d tt e in subst (λ (f : Core). c.shared.flushed ≤ f.shared.flushed) (sym m.is) (omega arith)
flushed_rises c p (kind.Decide at header) d sound e = let m = moves c p (kind.Decide at header) d tt e in subst (λ (f : Core). c.shared.flushed ≤ f.shared.flushed) (sym m.is) (omega arith)
flushed_rises c p (kind.ClearRing at) d sound e = let m = moves c p (kind.ClearRing at) d tt e in subst (λ (f : Core). c.shared.flushed ≤ f.shared.flushed) (sym m.is) (omega arith)
flushed_rises c p (kind.StoreFlushed value) d sound e =
    let m = moves c p (kind.StoreFlushed value) d tt e in
    subst (λ (f : Core). c.shared.flushed ≤ f.shared.flushed) (sym m.is) (stored_above c sound p value (c.seats p).flushing m.part refl m.after)
flushed_rises c p (kind.Split other) d sound e = split_flushed c p other d _ e
flushed_rises c p (kind.Join other) d sound e = join_flushed c p other d _ e
flushed_rises c p k d sound e = word_flushed c p k d tt tt e

-- two transactions of a seat with one stamp are one
same_place : (c : Core) (q j k : ℕ) (t u : Attempt) → Sound c → slice_get (all_of (c.seats q)) j ≡ Some t → slice_get (all_of (c.seats q)) k ≡ Some u → 0 < t.stamp → t.stamp ≡ u.stamp → t ≡ u
same_place c q j k t u sound at also drawn same =
    ⊎_elim
    (λ (less : j < k). absurd (let h = ascending c q j k t u sound less at also drawn (omega (arith, drawn, same)) in omega (arith, h, same)))
    (λ (up : k ≤ j).
    ⊎_elim
    (λ (less : k < j). absurd (let h = ascending c q k j u t sound less also at (omega (arith, drawn, same)) drawn in omega (arith, h, same)))
    (λ (low : j ≤ k). let one : j ≡ k = omega (arith, up, low) in same_Some _ _ (sym at ∙ ap (slice_get (all_of (c.seats q))) one ∙ also))
    (cases_lt k j))
    (cases_lt j k)

-- the log's word at a place is one
pub one_word : (c : Core) (place v w : ℕ) → Sound c → LogWord c.seats place v → LogWord c.seats place w → v ≡ w
one_word c place v w sound a b =
    let da = a.decided in
    let db = b.decided in
    let wa = a.within in
    let wb = b.within in
    let pa = a.place_is in
    let pb = b.place_is in
    let one = span_once c.shared.opening c.shared.tail c.shared.log sound.common.ranges.end_to_end (span_of da.seat a.holder) (span_of db.seat b.holder)
    (range_in c.shared da.seat (c.seats da.seat) (sound.own da.seat).ranges a.holder da.stands da.drawn) (range_in c.shared db.seat (c.seats db.seat) (sound.own db.seat).ranges b.holder db.stands db.drawn)
    (omega (arith, wa, wb, pa, pb)) (omega (arith, wa, wb, pa, pb))
    in
    let seat : da.seat ≡ db.seat = ap (λ (r : Span). r.seat) one in
    let stamp : a.holder.stamp ≡ b.holder.stamp = ap (λ (r : Span). r.start) one in
    let there : b.holder ∈ all_of (c.seats da.seat) = subst (λ n. b.holder ∈ all_of (c.seats n)) (sym seat) db.stands in
    let same = same_place c da.seat da.stands.0 there.0 a.holder b.holder sound da.stands.1 there.1 da.drawn stamp in
    let at : a.at ≡ b.at = omega (arith, stamp, pa, pb) in
    sym a.word_is ∙ ap (λ (t : Attempt). block_word t a.at) same ∙ ap (block_word b.holder) at ∙ b.word_is
