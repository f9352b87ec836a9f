-- A seal of a session of the word table, beside others.
use Rattle.std.proofs.Common.{◌≡◌, ℕ, ◌+◌, ◌^◌, ◌≤◌, ◌<◌, List, [], ◌∷◌, map, Some, refl, sym, ap, ◌∙◌, subst, arith, le_trans}
use Rattle.erm_model.specs.declared.outcome.Phase.TheVariants as phase
use Rattle.erm_model.specs.Lawful.{IsLawfulRecord}
use Rattle.erm_model.specs.RowTransaction.{Law}
use Rattle.erm_machine.specs.declared.attempt.Claim.{Claim}
use Rattle.erm_machine.specs.declared.event.Kind.{Kind}
use Rattle.erm_machine.specs.declared.event.Kind.TheVariants as kind
use Rattle.erm_machine.specs.declared.limits.TheConstants.{GREATEST_BLOCK}
use Rattle.erm_machine.specs.declared.part.Part.{Part}
use Rattle.erm_machine.specs.Core.{Core}
use Rattle.erm_machine.specs.Decided.{record_of}
use Rattle.erm_machine.specs.Sound.{Sound}
use Rattle.erm_machine.specs.Step.{after_event}
use Rattle.erm_record.specs.Stored.{block_words}
use Rattle.erm_core_met.proofs.Rings.{size_is}
use Rattle.erm_core_stays.specs.Staying.{Rises}
use Rattle.erm_core_steps.proofs.Quiet.{IsActive}
use Rattle.erm_core_steps.proofs.Stamps.{draws_lawfully, sealing, size_shown}
use Rattle.erm_core_view.specs.Views.{session_of, work_of}
use Rattle.erm_core_view.proofs.Moved.{changes_one}
use Rattle.erm_core_view.proofs.Parts.{current_stands}
use Rattle.erm_rule.specs.declared.view.Book.{Book}
use Rattle.erm_rule.specs.Books.{IsAfter, IsBookOf}
use Rattle.erm_rule.specs.Views.{part_in, part_of}
use Rattle.erm_rule.proofs.Courses.{onward}
use Rattle.erm_rule.proofs.Telling.{changed_here, part_of-changed}
use Rattle.erm_rule.proofs.Wents.{took_goes}
use Rattle.erm_seats.specs.Calls.{sealed_part}
use Rattle.erm_seats.specs.Calls as seats
use Rattle.erm_seats.specs.Took.{TookSeal}
use Rattle.erm_beside.specs.Calls.{After}
use Rattle.erm_beside.specs.Later.{IsLater}
use Rattle.erm_lone.proofs.Later.{world_seals}
use Rattle.erm_world.specs.Calls.{DidSeal}
use Rattle.erm_world.specs.Laws.{IsLawfulWork}
use Rattle.erm_world.specs.World.{Finished, Session, View, Work, phase_at, size_of, work_at}
use Rattle.erm_world.specs.World as world
use Rattle.erm_own_view.specs.Own.{MayCall, own_view}
use Rattle.erm_own_view.proofs.Along.{found_then, state_before}
use Rattle.erm_own_view.proofs.Own.{own_becomes, own_is, own_passes}
use Rattle.erm_shared_session.proofs.Own.{own_place, own_starts, own_work}
use Rattle.erm_shared_session.proofs.Standing.{IsSeen}
use Rattle.erm_core_shown.specs.Shown.{given_up_of}
use Rattle.erm_core_shown.proofs.Given.{given_stays}

module _ (law : Law) (seat tail flushed : ℕ) (b : Book) (may : MayCall law seat tail flushed b) (active : phase_at (own_view seat tail flushed b) seat ≡ phase.Active) where
  abbrev x : Part
  x = part_of b.view seat

  -- a transaction that keeps the law of rows in the world keeps it in the machine
  pub own_lawful : IsLawfulWork law (work_at (own_view seat tail flushed b) seat) → IsLawfulRecord law (record_of seat x.current)
  own_lawful lawful =
      let now : Core = record { shared = may.core.shared; seats = λ q. part_of b.view q } in
      let next : Core = record { shared = may.core.shared; seats = λ q. sealing 0 (part_of b.view q) } in
      let at : IsActive seat now = record { session = may.session; active = own_place law seat tail flushed b may active; starts = own_starts law seat tail flushed b may active } in
      draws_lawfully law 0 seat now next at (record { tail = 0; session = may.session; is = refl })
      (subst (IsLawfulWork law) (ap (λ (r : Session). world.work_of r.stand) (own_is seat tail flushed b)) lawful)

-- how many words the block of the seat's transaction takes
abbrev pub block_of : Book → ℕ → ℕ
block_of b seat = block_words (map (λ (c : Claim). c.row) (part_of b.view seat).current.writes)

-- THE RANGE lies in the log of a state in which the seat has sealed.
pub record Drawn (stamp size : ℕ) : Type 0 where
  pub few : size ≤ GREATEST_BLOCK
  pub low : stamp < 2 ^ 61

pub drawn : (seat size stamp : ℕ) (b e : Book) → part_in b.view seat ≡ Some (part_of b.view seat) → seats.DidSeal b.view seat size stamp e.view → Drawn stamp size
drawn seat size stamp b e held did =
    let x = part_of b.view seat in
    let c = did.known.core in
    let here : c.seats seat ≡ sealed_part size stamp x =
    did.known.is_view seat (sealed_part size stamp x) (changed_here b.view seat e.view (sealed_part size stamp x) x held did.view_is)
    in
    let stamp_is : (c.seats seat).current.stamp ≡ stamp = ap (λ (y : Part). y.current.stamp) here in
    let size_at : (c.seats seat).current.size ≡ size = ap (λ (y : Part). y.current.size) here in
    let positive = did.positive in
    let most = size_is c seat did.known.sound (omega (arith, stamp_is, positive)) in
    let within = (did.known.sound.own seat).decided.drawn (c.seats seat).current (current_stands (c.seats seat)) in
    let below = did.known.sound.common.ranges.below in
    record { few = omega (arith, most, size_at); low = omega (arith, within, below, stamp_is) }

module _ (law : Law) (seat tail flushed stamp : ℕ) (b e : Book) (may : MayCall law seat tail flushed b) (start : e.start ≡ b.start) (held : part_in b.view seat ≡ Some (part_of b.view seat))
    (rises : (c d : Core) (q : ℕ) (k : Kind) → Sound c → after_event c q k ≡ Some d → Rises c.shared d.shared)
    (seen : (z : Book) → IsAfter b z → IsSeen tail flushed z) (took : TookSeal law seat (block_of b seat) stamp b e) where
  abbrev size : ℕ
  size = block_of b seat

  abbrev m : Book
  m = took.took.1.0

  abbrev n : Book
  n = took.took.0

  -- the log's end was the stamp, at or above what was seen
  met : tail ≤ stamp
  met =
      let booked = took.took.1.2 in
      let goes = took_goes law seat ((kind.StoreState 1, took.first) ∷ []) b m took.took.1.1 in
      let low = (seen m goes booked.under.told.before (state_before law m seat (kind.AddTail size) stamp n booked)).0 in
      let is : booked.under.told.before.shared.tail ≡ stamp = booked.under.told.met in
      omega (arith, low, is)

  -- and lies behind the block since
  behind : (c : Core) → IsBookOf n c → stamp + size ≤ c.shared.tail
  behind c is =
      let booked = took.took.1.2 in
      onward (λ (d : Core). stamp + size ≤ d.shared.tail) m seat (kind.AddTail size) stamp n.view
      (λ d f _ passes at. le_trans at (rises d f passes.1.0 passes.1.1 passes.0 passes.1.2).tail)
      (λ d f of found event.
      let one = (changes_one 0 seat d f (kind.AddTail size) of.sound tt event).tail in
      let at : d.shared.tail ≡ stamp = found in
      omega (arith, one, at)) c (subst (λ (z : Book). IsBookOf z c) booked.book_is is)

  ended : (c : Core) → IsBookOf e c → stamp + size ≤ c.shared.tail
  ended c is =
      found_then law (λ (d : Core). stamp + size ≤ d.shared.tail) (λ d f passes at. le_trans at (rises d f passes.1.0 passes.1.1 passes.0 passes.1.2).tail) n seat (kind.StoreState stamp) took.last e took.took.2
      (λ d of found. behind d of) c is

  pub record Seals : Type 0 where
    pub more : tail ≤ stamp + size
    pub seen_now : IsSeen (stamp + size) flushed e
    pub did : After seat (λ u t. DidSeal u seat stamp t) (own_view seat tail flushed b) (own_view seat (stamp + size) flushed e)
    pub later : IsLater ((own_view seat tail flushed b).session seat) ((own_view seat (stamp + size) flushed e).session seat)

  pub seals : phase_at (own_view seat tail flushed b) seat ≡ phase.Active
      → ((own_view seat tail flushed b).session seat).stand ≡ world.active (world.work_of ((own_view seat tail flushed b).session seat).stand)
      → seats.DidSeal b.view seat size stamp e.view → Seals
  seals active stand did =
      let x = part_of b.view seat in
      let u : View = own_view seat stamp flushed b in
      let t : View = own_view seat (stamp + size) flushed e in
      let w : Work = work_at u seat in
      let work : w ≡ work_of x.current = own_work law seat tail flushed b may active in
      let after : part_of e.view seat ≡ sealed_part size stamp x = part_of-changed b.view seat e.view (sealed_part size stamp x) x held did.view_is in
      let s : Session = record { over = (u.session seat).over; stand = world.sealed w stamp } in
      let shown : session_of (part_of e.view seat) ≡ s =
      ap session_of after ∙ ap (λ (fs : List Finished). let r : Session = record { over = fs; stand = world.sealed (work_of x.current) stamp } in r) (sym (ap (λ (r : Session). r.over) (own_is seat stamp flushed b)))
      ∙ ap (λ (v : Work). let r : Session = record { over = (u.session seat).over; stand = world.sealed v stamp } in r) (sym work)
      in
      let becomes = own_becomes seat stamp flushed b e s start shown (ap given_up_of after ∙ given_stays x (sealed_part size stamp x) refl refl) in
      let sized : size ≡ size_of w = sym (size_shown x.current) ∙ ap size_of (sym work) in
      let within = drawn seat size stamp b e held did in
      let few = within.few in
      let sealed : DidSeal u seat stamp t = record {
        stamp_is = refl;
        own = becomes.own;
        others = becomes.others;
        opening = becomes.opening;
        tail = ap (λ (k : ℕ). stamp + k) sized;
        fits = omega (arith, few, sized);
        flushed = refl;
        pinned = refl;
        given_up = becomes.given_up;
        saves = λ q other. refl;
      } in
      let low = met in
      let goes = took_goes law seat ((kind.StoreState stamp, took.last) ∷ (kind.AddTail size, stamp) ∷ (kind.StoreState 1, took.first) ∷ []) b e took.took in
      record {
        more = omega (arith, low);
        seen_now = λ c is. (ended c is, (seen e goes c is).1);
        did = (u, own_passes seat tail flushed stamp flushed b low (omega arith), sealed);
        later = (world_seals u t seat stamp (world.work_of (u.session seat).stand) stand sealed).session seat;
      }
