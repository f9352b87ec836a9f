-- What a gather of the flush seat tells of its table's log.
use Rattle.std.proofs.Common.{◌≡◌, ℕ, ◌+◌, ◌<◌, ◌≤◌, ◌⊎◌, ⊎_elim, inl, inr, List, [], ◌++◌, length, max, take, Some, refl, sym, ap, ◌∙◌, subst, arith}
use Rattle.erm_core_turns.proofs.Blocks.{place_of, place_upto}
use Rattle.erm_core_turns.proofs.LogIs.{Lists, More}
use Rattle.erm_core_turns.specs.Turns.{gathered_place}
use Rattle.erm_gathered.proofs.Lasting.{BlocksBehind, BlocksStay}
use Rattle.erm_ring.proofs.Between.{gathered_stays, gathers_clears}
use Rattle.erm_log_list.specs.LogOf.{IsDecidedUpTo}
use Rattle.erm_log_view.specs.Views.{MayFlush, Sees, SeesBlocks, StopsBy}
use Rattle.erm_core_flush.specs.Turns.{IsOpenAt}
use Rattle.erm_machine.specs.declared.limits.TheConstants.{FLUSH_SEAT, RING_WORDS}
use Rattle.erm_machine.specs.declared.part.Flushing.TheVariants as flushing
use Rattle.erm_machine.specs.Log.{IsFlushing}
use Rattle.erm_machine.specs.Core.{Core}
use Rattle.erm_model.specs.RowTransaction.{Law}
use Rattle.erm_ring.specs.Turns.{DidGather, Gathers, MayClear, MayGather, WasOpen}
use Rattle.erm_rule.specs.declared.view.Book.{Book}
use Rattle.erm_rule.specs.declared.view.Start.{Start}
use Rattle.erm_rule.specs.Books.{IsAfter, IsBookOf}
use Rattle.erm_world.specs.declared.gathered.Gathered.{Gathered}
use Rattle.erm_world.specs.declared.gathered.Gathered.TheVariants.{Empty, Unfilled, Words}
use Rattle.erm_record.specs.Stored.{stored_length}
use Rattle.erm_world.specs.Log.{IsEnd, IsLog, Log, gathered_to, place_behind}
use Rattle.erm_desk.specs.Known.{AwaitsLog, HasEnded, HasPin, HasStopped, IsFlushedTo, KnowsBlocks, KnowsLog, ended_log, flushed_log, pending_log}
use Rattle.erm_desk.specs.Turns.{DidLook, DidStore}
use Rattle.erm_rule.proofs.Courses.{joined_later}
use Rattle.std.proofs.lemmas.Bool.{cases_lt}
use Rattle.erm_desk.proofs.Ended.{flushed_is, log_on, pending_is}
use Rattle.erm_desk.proofs.Fronts.{OneSpelling}
use Rattle.erm_desk.proofs.Full.{full_open}
use Rattle.erm_desk.proofs.Lawful.{clear_under, look_under}
use Rattle.erm_desk.proofs.Onward.{grows, knows_after}
use Rattle.erm_desk.proofs.Opened.{IsOf, state_is}
use Rattle.erm_desk.proofs.PinFront.{up_to}
use Rattle.erm_desk.proofs.PinKept.{pin_cleared, pin_ends, pin_gathered}
use Rattle.erm_desk.proofs.Stays.{ended_after}

pub knows_is : (law : Law) (b : Book) (l : Log) → KnowsLog law b l → IsLog law.meets l
knows_is law b l k = k.end.is_log

pub awaits_is : (law : Law) (b : Book) (l : Log) → AwaitsLog law b l → IsLog law.meets l
awaits_is law b l a = a.end.is_log

-- A GATHER, from one book to another
module _ (b e : Book) (tail from to : ℕ) (words : List ℕ) (did : DidGather b tail from to words e) where
  pub goes : IsAfter b e
  goes c is = let g = did.began c is in record { start = g.state; is = g.is; state = g.state; since = (0, refl); met = tt; later = g.later }

  -- it began where the log was flushed
  pub here : (place : ℕ) → IsFlushedTo b place → from ≡ place
  here place flushed = let g = did.began did.known.core did.is in sym g.flushed_is ∙ flushed g.state g.is

  pub still : (place : ℕ) → MayGather b.view → IsFlushedTo b place → IsFlushedTo e place
  still place may flushed c is = (gathered_stays tail from to words b e may did c is).0 ∙ here place flushed

  decided : MayGather b.view → (c : Core) → IsBookOf e c → IsDecidedUpTo c to
  decided may c is =
      let turn = (gathered_stays tail from to words b e may did c is).1 in
      let there : place_of c ≡ to = ap (gathered_place c.shared.flushed) turn in
      subst (IsDecidedUpTo c) there (place_upto c is.sound).0

  -- no further than the flush seat has gathered
  gathered_low : MayGather b.view → (c : Core) → IsBookOf e c → to ≤ (c.seats FLUSH_SEAT).gathered_to
  gathered_low may c is =
      let turn = (gathered_stays tail from to words b e may did c is).1 in
      let there : place_of c ≡ to = ap (gathered_place c.shared.flushed) turn in
      subst (λ (p : ℕ). p ≤ (c.seats FLUSH_SEAT).gathered_to) there (place_upto c is.sound).2

  -- the log had ended there
  has_ended : (place : ℕ) → tail ≤ place → HasEnded b place e
  has_ended place low c is =
      let g = did.began c is in
      let at = g.tail_is in
      record { start = g.state; is = g.is; state = g.state; since = (0, refl); met = omega (arith, at, low); later = g.later }

module _ (law : Law) (lists : Lists law) (more : More law) (one : OneSpelling) (short : (row : List ℕ) → stored_length row ≤ length row) (stay : BlocksStay) (behind : BlocksBehind) where
  sees_words : (b e : Book) (l : Log) (at count : ℕ) (words : List ℕ) → MayGather b.view → KnowsLog law b l → DidLook law b (Words at count) words e
      → (m : Log) × AwaitsLog law e m × SeesBlocks l m at count words
  sees_words b e l at count words may k look =
      let o = b.start in
      let tail = look.gathers.0 in
      let did = look.gathers.1 in
      let some = look.gathers.2 in
      let u = look_under law (Words at count) words b e look.took in
      let is_here = here b e tail at (at + count) (take count words) did (place_behind o.tail k.blocks) k.flushed in
      let after = goes b e tail at (at + count) (take count words) did in
      let g = grows law lists one stay behind o b e k.blocks k.knows at (at + count) (take count words) is_here after did.whole u
      (decided b e tail at (at + count) (take count words) did may u.core u.is)
      in
      let to = g.to_is in
      let all = k.blocks ++ g.more in
      let end = place_behind o.tail all in
      let last = max l.tail end in
      let start : e.start ≡ o = u.start in
      let of : IsOf o u.core = subst (λ (s : Start). IsOf s u.core) start (state_is e u.core u.is) in
      let upto : IsDecidedUpTo u.core end = subst (IsDecidedUpTo u.core) (sym to) (decided b e tail at (at + count) (take count words) did may u.core u.is) in
      let deep = gathered_low b e tail at (at + count) (take count words) did may u.core u.is in
      let pin = pin_gathered tail at (at + count) (take count words) b e l.pinned did k.end.pin in
      let ends : (place : ℕ) → l.pinned ≡ Some place → place ≤ end → IsEnd (flushed_log o all) place =
      λ place same low.
      let found = up_to law lists more one short o u.core u.under of all g.knows.log (g.knows.whole u.core u.is) place
      (pin_ends e.view u.core place u.is.is_view u.under.begins (subst (HasPin e.view) same pin)) upto (omega (arith, to, deep)) low
      in record { front = found.front; rest = found.rest; split = found.split; behind = found.behind }
      in
      let old = k.end.is_log.places in
      let new = g.knows.log.places in
      let is_log = pending_is law.meets o k.blocks g.more l last k.end.is_log k.is g.knows.log (omega arith) (omega arith) (omega (arith, old, new)) ends in
      let met : (c : Core) → IsBookOf e c → last ≤ c.shared.tail =
      λ c is.
      let one = ended_after b e l.tail after k.end.ended c is in
      let two = (decided b e tail at (at + count) (take count words) did may c is).within in omega (arith, one, two, to)
      in
      let m = ended_log (pending_log o k.blocks g.more) last l.pinned in
      let seen : SeesBlocks (ended_log (flushed_log o k.blocks) l.tail l.pinned) m at count words = record {
        at_is = is_here;
        some = some;
        front = k.blocks;
        blocks = g.more;
        flushed_is = refl;
        gathered = refl;
        more = (g.more, refl);
        words_are = g.words_are;
        count_is = to ∙ ap (λ (n : ℕ). n + count) is_here;
      } in (
        m,
        record {
          front = k.blocks;
          blocks = g.more;
          is = ap (λ (x : Start). ended_log (pending_log x k.blocks g.more) last l.pinned) (sym u.start);
          knows = subst (λ (x : Start). KnowsBlocks law x e (k.blocks ++ g.more)) (sym u.start) g.knows;
          flushed = subst (λ (x : Start). IsFlushedTo e (place_behind x.tail k.blocks)) (sym u.start)
              (still b e tail at (at + count) (take count words) did (place_behind o.tail k.blocks) may k.flushed);
          end = record { is_log = is_log; pin = pin; ended = met };
        },
        subst (λ (x : Log). SeesBlocks x m at count words) (sym k.is) seen,
      )

  -- nothing was gathered
  sees_none : (b e : Book) (l : Log) (g : Gathered) (words given : List ℕ) (tail at : ℕ) → MayGather b.view → KnowsLog law b l → DidLook law b g words e → DidGather b tail at at given e
      → (at ≡ l.flushed) × KnowsLog law e l
  sees_none b e l g words given tail at may k look did =
      let o = b.start in
      let place = place_behind o.tail k.blocks in
      let u = look_under law g words b e look.took in
      let at_is = here b e tail at at given did place k.flushed in (
        at_is ∙ sym (ap (λ (x : Log). x.flushed) k.is),
        log_on stay law b e l k (goes b e tail at at given did) u.start (still b e tail at at given did place may k.flushed) (pin_gathered tail at at given b e l.pinned did k.end.pin),
      )

  pub sees : {S : Type 0} (book_of : S → Book) (s t : S) (g : Gathered) (words : List ℕ) (l : Log) → MayGather (book_of s).view → KnowsLog law (book_of s) l → DidLook law (book_of s) g words (book_of t)
      → Sees (λ (x : S) (m : Log). KnowsLog law (book_of x) m) (λ (x : S) (m : Log). AwaitsLog law (book_of x) m) g l words t
  sees book_of s t (Empty at) words l may k look = sees_none (book_of s) (book_of t) l (Empty at) words [] at at may k look look.gathers
  sees book_of s t (Unfilled at) words l may k look = sees_none (book_of s) (book_of t) l (Unfilled at) words [] look.gathers.0 at may k look look.gathers.1
  sees book_of s t (Words at count) words l may k look = sees_words (book_of s) (book_of t) l at count words may k look

  -- what was gathered is flushed
  pub stored : (b e : Book) (end : ℕ) (l : Log) → AwaitsLog law b l → end ≡ gathered_to l → DidStore law b end e → KnowsLog law e (record l { flushed = end })
  stored b e end l a to store =
      let o = b.start in
      let all = a.front ++ a.blocks in
      let u = clear_under law end b e store.took in
      let end_is : end ≡ place_behind o.tail all = to ∙ ap gathered_to a.is in
      let n = record l { flushed = end } in
      record {
        blocks = all;
        is = ap (λ (x : Log). record x { flushed = end }) a.is ∙ ap (λ (n : ℕ). record (ended_log (flushed_log o all) l.tail l.pinned) { flushed = n }) end_is
            ∙ ap (λ (x : Start). ended_log (flushed_log x all) l.tail l.pinned) (sym u.start);
        knows = subst (λ (x : Start). KnowsBlocks law x e all) (sym u.start) (knows_after stay law o b e all store.clears.goes u.start a.knows);
        flushed = λ c is. store.clears.flushed c is ∙ end_is ∙ ap (λ (x : Start). place_behind x.tail all) (sym u.start);
        end = record {
          is_log = flushed_is law.meets l end a.end.is_log to;
          pin = pin_cleared end b e l.pinned store.clears a.end.pin;
          ended = ended_after b e l.tail store.clears.goes a.end.ended;
        };
      }

-- WHY IT STOPPED
module _ (b e : Book) (tail from to : ℕ) (words : List ℕ) (did : DidGather b tail from to words e) (may : MayGather b.view) where
  -- where the ring is full
  full_stop : to ≡ from + RING_WORDS → HasStopped b to e
  full_stop full c is =
      let g = goes b e tail from to words did c is in
      let stays = gathered_stays tail from to words b e may did c is in
      let turn : IsFlushing c.shared c.seats (c.seats FLUSH_SEAT).gathered_to (flushing.Gathers tail from to to to) =
      subst (IsFlushing c.shared c.seats (c.seats FLUSH_SEAT).gathered_to) stays.1 is.sound.common.log.turn
      in
      let at = stays.0 in
      let stop : (c.shared.tail ≤ to) ⊎ IsOpenAt c.seats to =
      ⊎_elim (λ (low : to < c.shared.tail). inr (full_open c is.sound to turn.whole low (omega (arith, at, full)))) (λ (ends : c.shared.tail ≤ to). inl ends) (cases_lt to c.shared.tail)
      in
      record { start = g.start; is = g.is; state = c; since = joined_later g.start g.state c g.since g.later; met = stop; later = (0, refl) }

  stop_here : (tail ≤ to) ⊎ (to ≡ from + RING_WORDS) ⊎ WasOpen b to e → HasStopped b to e
  stop_here (inl ended) = λ c is.
      let w = has_ended b e tail from to words did to ended c is in record { start = w.start; is = w.is; state = w.state; since = w.since; met = inl w.met; later = w.later }
  stop_here (inr (inl full)) = full_stop full
  stop_here (inr (inr opened)) = λ c is. let w = opened c is in record { start = w.start; is = w.is; state = w.state; since = w.since; met = inr w.met; later = w.later }

pub stops : {S : Type 0} (law : Law) (book_of : S → Book) (g : Gathered) (s t : S) (words : List ℕ) → MayGather (book_of s).view → DidLook law (book_of s) g words (book_of t)
    → StopsBy (λ (x : S) (place : ℕ) (y : S). HasEnded (book_of x) place (book_of y)) (λ (x : S) (place : ℕ) (y : S). WasOpen (book_of x) place (book_of y))
    (λ (x : S) (place : ℕ) (y : S). HasStopped (book_of x) place (book_of y)) g s t
stops law book_of (Empty at) s t words may look = has_ended (book_of s) (book_of t) at at at [] look.gathers at (omega arith)
stops law book_of (Unfilled at) s t words may look = look.gathers.3
stops law book_of (Words at count) s t words may look =
    let did = look.gathers.1 in stop_here (book_of s) (book_of t) look.gathers.0 at (at + count) (take count words) did may did.stops

-- WHAT MAY BE CLEARED
pub may_clear : {S : Type 0} (book_of : S → Book) (b : Book) (g : Gathered) (words : List ℕ) (t : S) → MayGather b.view → Gathers g b words (book_of t)
    → MayFlush (λ (end : ℕ) (x : S). MayClear end (book_of x).view) g t
may_clear book_of b (Empty at) words t may did = tt
may_clear book_of b (Unfilled at) words t may did = tt
may_clear book_of b (Words at count) words t may did = gathers_clears at count b words (book_of t) may did
