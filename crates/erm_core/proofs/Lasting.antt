-- Room that was made lasts: steps that add nothing leave it, and so do those of other seats.
use Rattle.std.proofs.Common.{◌≡◌, ◌≢◌, ℕ, ◌+◌, ◌*◌, ◌<◌, ◌≤◌, ⊎_elim, true, false, List, map, length, get_or, Some, None, refl, ap, ◌∙◌, subst, arith, slice_get, vec_len}
use Rattle.std.proofs.lemmas.List.{get_or-map, get_or_past, length-map}
use Rattle.std.proofs.lemmas.Option.{slice_get_cases, slice_get_within, slice_get-get_or, get_or_from_slice_get}
use Rattle.erm_machine.specs.declared.event.Kind.{Kind}
use Rattle.erm_machine.specs.declared.event.Kind.TheVariants as kind
use Rattle.erm_machine.specs.declared.event.TailUse.TheVariants as purpose
use Rattle.erm_machine.specs.declared.part.Part.{Part}
use Rattle.erm_machine.specs.declared.place.Place.TheVariants.{Vacant, Idle}
use Rattle.erm_machine.specs.declared.version.VersionAt.{VersionAt}
use Rattle.erm_machine.specs.Core.{fresh_part, no_object}
use Rattle.erm_machine.specs.Words.{is_flusher}
use Rattle.erm_kept.specs.declared.object.ObjectState.{ObjectState}
use Rattle.erm_kept.specs.Objects.{object_of, chain_len}
use Rattle.erm_seat.specs.declared.seat.SeatState.{SeatState}
use Rattle.erm_seat.specs.Parts.{part_of}
use Rattle.erm_seat.specs.Needs.{lasting, one}
use Rattle.erm_seat.specs.Rooms.{no_growth, growth_in, Growth, GoesOn, HasBeginRoom, HasClaimRoom, HasSpareRoom, Leaves}
use Rattle.erm_core.specs.declared.need.Need.{Need}
use Rattle.erm_core.specs.declared.need.Need.TheVariants as need
use Rattle.erm_core.specs.declared.state.State.{State}
use Rattle.erm_core.specs.Cores.{core_of, objects_of}
use Rattle.erm_core.specs.Rooms.{cells_of_need, AddsNothing, GoesOnAfter, IsSteady, HasCallRoom, HasNeedRoom, HasRoom, HasSwapRoom, HasVersionRoom, LeavesChain, LeavesNeed, LeavesRoom, SharedHasNeedRoom}
use Rattle.erm_core.specs.Seats.{versions_in}
use Rattle.erm_core.proofs.Rooms.{cut_few, object_kept}

-- a seat from which nothing was taken, and to which nothing was added
module _ (x y : SeatState) (goes : GoesOn no_growth x y) where
  begin_lasts : HasBeginRoom x → HasBeginRoom y
  begin_lasts h =
      let over = goes.over in
      let words = goes.grows.words in
      let capacity = goes.seat.over in
      let block_capacity = goes.lists.block in
      let four : lasting y.flushes 4 ≡ lasting x.flushes 4 = ap (λ b. lasting b 4) goes.seat.flushes in
      let single : lasting y.flushes 1 ≡ lasting x.flushes 1 = ap (λ b. lasting b 1) goes.seat.flushes in
      let promise : one y.promised ≡ one x.promised = ap one goes.promised in
      let over_room = h.over in
      let block_room = h.block in
      let log_room = h.log in
      record {
        over = omega (arith, over, capacity, single, over_room);
        block = omega (arith, words, block_capacity, four, block_room);
        log = omega (arith, promise, single, log_room);
      }

  spare_lasts : (cells less : ℕ) → less ≤ cells → HasSpareRoom x cells → HasSpareRoom y less
  spare_lasts cells less few h =
      let spare = goes.grows.spare in
      let claims = goes.grows.claims in
      let capacity = goes.seat.spare in
      omega (arith, spare, claims, capacity, few, h)

  claim_lasts : HasClaimRoom x → HasClaimRoom y
  claim_lasts h =
      let spare = goes.grows.spare in
      let claims = goes.grows.claims in
      let words = goes.grows.words in
      let spare_capacity = goes.seat.spare in
      let claims_capacity = goes.lists.writes in
      let block_capacity = goes.lists.block in
      let claims_room = h.claims in
      let block_room = h.block in
      let spare_room = h.spare in
      record {
        claims = omega (arith, claims, claims_capacity, claims_room);
        block = omega (arith, claims, words, block_capacity, block_room);
        spare = omega (arith, spare, claims, spare_capacity, spare_room);
      }

  need_lasts : (n : Need) (cells less : ℕ) → less ≤ cells → HasNeedRoom x n cells → HasNeedRoom y n less
  need_lasts need.Begin cells less few h = begin_lasts h
  need_lasts need.Read cells less few h = let reads = goes.grows.reads in let capacity = goes.lists.reads in omega (arith, reads, capacity, h)
  need_lasts (need.Claim oid) cells less few h = record { claim = claim_lasts h.claim; cut = spare_lasts (cells + 1) (less + 1) (omega (arith, few)) h.cut }
  need_lasts need.Make cells less few h = let made = goes.grows.made in let capacity = goes.lists.made in omega (arith, made, capacity, h)

-- a kind that adds nothing
adds_nothing : (k : Kind) (cells : ℕ) (x y : SeatState) → AddsNothing k → Leaves k cells false x y → GoesOn no_growth x y
adds_nothing (kind.AddTail size) cells x y nothing h = absurd nothing
adds_nothing (kind.StoreBegin value) cells x y nothing h = absurd nothing
adds_nothing (kind.StoreState value) cells x y nothing h = absurd nothing
adds_nothing (kind.SetReader v) cells x y nothing h = absurd nothing
adds_nothing (kind.Claim oid seen number) cells x y nothing h = absurd nothing
adds_nothing (kind.AddCounter c) cells x y nothing h = absurd nothing
adds_nothing (kind.StoreRing at value) cells x y nothing h = absurd nothing
adds_nothing (kind.SwapLink v) cells x y nothing h = absurd nothing
adds_nothing (kind.Install oid head) cells x y nothing h = absurd nothing
adds_nothing k cells x y nothing h = h

-- an object of the table
kept_chain : (os : List ObjectState) (oid : ℕ) (o : ObjectState) → slice_get os oid ≡ Some o → chain_len (objects_of os oid) ≡ chain_len (object_of o)
kept_chain os oid o there = ap chain_len (object_kept os oid o there)

no_chain : (os : List ObjectState) (oid : ℕ) → length os ≤ oid → chain_len (objects_of os oid) ≤ 0
no_chain os oid past =
    let len = length-map os object_of in
    let none : chain_len (objects_of os oid) ≡ chain_len no_object = ap chain_len (get_or_past (map object_of os) oid no_object (omega (arith, len, past))) in
    omega (arith, none)

module _ (s t : State) (q : ℕ) (k : Kind) (left : LeavesRoom s t q k) where
  same_many : length t.objects.items ≡ length s.objects.items
  same_many =
      let here = t.objects.ok.0 in
      let there = s.objects.ok.0 in
      let all = t.all_objects in
      let were = s.all_objects in
      omega (arith, here, there, all, were)

  -- the object that stood where one stands
  was_there : (oid : ℕ) (u : ObjectState) → slice_get t.objects.items oid ≡ Some u → slice_get s.objects.items oid ≡ Some (get_or s.objects.items oid u)
  was_there oid u there =
      let low = slice_get_within t.objects.items oid u there in
      let many = same_many in
      slice_get-get_or s.objects.items oid u (omega (arith, low, many))

  -- a chain that is left gets no longer
  chain_le : (oid : ℕ) → LeavesChain k oid → chain_len (objects_of t.objects.items oid) ≤ chain_len (objects_of s.objects.items oid)
  chain_le oid leaves = ⊎_elim there past (slice_get_cases t.objects.items oid).1
    where
      there : (u : ObjectState) × (oid < length t.objects.items) × (slice_get t.objects.items oid ≡ Some u) × (get_or t.objects.items oid u ≡ u) →
          chain_len (objects_of t.objects.items oid) ≤ chain_len (objects_of s.objects.items oid)
      there h =
          let o = get_or s.objects.items oid h.0 in
          let was = was_there oid h.0 h.2 in
          let kept = left.objects oid o h.0 was h.2 in
          let more = kept.versions in
          let none = leaves.versions in
          let cut = kept.cut leaves.cut in
          let now = kept_chain t.objects.items oid h.0 h.2 in
          let before = kept_chain s.objects.items oid o was in
          let now_len = h.0.versions.ok.0 in
          let before_len = o.versions.ok.0 in
          omega (arith, more, none, cut, now, before, now_len, before_len)

      past : (length t.objects.items ≤ oid) × (slice_get t.objects.items oid ≡ None) → chain_len (objects_of t.objects.items oid) ≤ chain_len (objects_of s.objects.items oid)
      past h = let none = no_chain t.objects.items oid h.0 in omega (arith, none)

  version_lasts : (oid : ℕ) → versions_in k oid ≡ 0 → HasVersionRoom s oid → HasVersionRoom t oid
  version_lasts oid none h u there =
      let o = get_or s.objects.items oid u in
      let was = was_there oid u there in
      let kept = left.objects oid o u was there in
      let more = kept.versions in
      let room = kept.room in
      let before = h o was in
      omega (arith, more, none, room, before)

  cells_le : (n : Need) → LeavesNeed k n → cells_of_need t n ≤ cells_of_need s n
  cells_le (need.Claim oid) leaves = chain_le oid leaves
  cells_le _ leaves = omega arith

  shared_lasts : (n : Need) → LeavesNeed k n → SharedHasNeedRoom s n → SharedHasNeedRoom t n
  shared_lasts (need.Claim oid) leaves h = version_lasts oid leaves.versions h
  shared_lasts _ leaves h = tt

  -- a seat that was there and goes on keeps its room
  call_lasts : (p : ℕ) (n : Need) → LeavesNeed k n → ((y : SeatState) → slice_get t.seats.items p ≡ Some y → (x : SeatState) × (slice_get s.seats.items p ≡ Some x) × GoesOn no_growth x y) →
      HasCallRoom s p n → HasCallRoom t p n
  call_lasts p n leaves goes h = record {
    own = λ y there.
        let was = goes y there in
        need_lasts was.0 y was.2 n (cells_of_need s n) (cells_of_need t n) (cells_le n leaves) (h.own was.0 was.1);
    shared = shared_lasts n leaves h.shared;
  }

  swap_lasts : (p oid : ℕ) → LeavesChain k oid → ((y : SeatState) → slice_get t.seats.items p ≡ Some y → (x : SeatState) × (slice_get s.seats.items p ≡ Some x) × GoesOn no_growth x y) →
      HasSwapRoom s p oid → HasSwapRoom t p oid
  swap_lasts p oid leaves goes h y there =
      let was = goes y there in
      spare_lasts was.0 y was.2 (chain_len (objects_of s.objects.items oid)) (chain_len (objects_of t.objects.items oid)) (chain_le oid leaves) (h was.0 was.1)

  -- the seat that stood where one stands
  seat_was : (p : ℕ) (y : SeatState) → slice_get t.seats.items p ≡ Some y → slice_get s.seats.items p ≡ Some (get_or s.seats.items p y)
  seat_was p y there =
      let low = slice_get_within t.seats.items p y there in
      let here = t.seats.ok.0 in
      let were = s.seats.ok.0 in
      let all = t.all_seats in
      let all_before = s.all_seats in
      slice_get-get_or s.seats.items p y (omega (arith, low, here, were, all, all_before))

  other_goes : (p : ℕ) → p ≢ q → (y : SeatState) → slice_get t.seats.items p ≡ Some y → (x : SeatState) × (slice_get s.seats.items p ≡ Some x) × GoesOn no_growth x y
  other_goes p ne y there = (get_or s.seats.items p y, seat_was p y there, left.others p (get_or s.seats.items p y) y ne (seat_was p y there) there)

  own_goes : AddsNothing k → (y : SeatState) → slice_get t.seats.items q ≡ Some y → (x : SeatState) × (slice_get s.seats.items q ≡ Some x) × GoesOn no_growth x y
  own_goes nothing y there = (
    get_or s.seats.items q y,
    seat_was q y there,
    adds_nothing k _ (get_or s.seats.items q y) y nothing (left.own (get_or s.seats.items q y) y (seat_was q y there) there),
  )

  -- the room of a call lasts over steps of other seats
  pub others_leave : (p : ℕ) (n : Need) → p ≢ q → LeavesNeed k n → HasCallRoom s p n → HasCallRoom t p n
  others_leave p n ne leaves h = call_lasts p n leaves (other_goes p ne) h

  -- and over those of the own seat that add nothing
  pub own_leave : (n : Need) → AddsNothing k → LeavesNeed k n → HasCallRoom s q n → HasCallRoom t q n
  own_leave n nothing leaves h = call_lasts q n leaves (own_goes nothing) h

  pub others_leave_swap : (p oid : ℕ) → p ≢ q → LeavesChain k oid → HasSwapRoom s p oid → HasSwapRoom t p oid
  others_leave_swap p oid ne leaves h = swap_lasts p oid leaves (other_goes p ne) h

  pub own_leave_swap : (oid : ℕ) → AddsNothing k → LeavesChain k oid → HasSwapRoom s q oid → HasSwapRoom t q oid
  own_leave_swap oid nothing leaves h = swap_lasts q oid leaves (own_goes nothing) h

-- the exchange of a claim leaves room for its cut
pub claim_leaves : (s t : State) (p oid seen number : ℕ) → LeavesRoom s t p (kind.Claim oid seen number) → HasCallRoom s p (need.Claim oid) → HasSwapRoom t p oid
claim_leaves s t p oid seen number left h y there =
    let k = kind.Claim oid seen number in
    let was = seat_was s t p k left p y there in
    let x = get_or s.seats.items p y in
    let goes = left.own x y was there in
    let cut = (h.own x was).cut in
    let spare = goes.grows.spare in
    let claims = goes.grows.claims in
    let capacity = goes.seat.spare in
    let chain = chain_le s t p k left oid (record { versions = refl; cut = tt }) in
    omega (arith, cut, spare, claims, capacity, chain)

-- the room for a cut serves the swap
pub swap_serves : (s : State) (p oid : ℕ) (v : VersionAt) → v.oid ≡ oid → HasSwapRoom s p oid → HasRoom s p (kind.SwapLink v)
swap_serves s p oid v is h = record {
  shared = tt;
  own = λ x there.
      let cut = h x there in
      let few = cut_few v.place (objects_of s.objects.items v.oid) in
      let same : chain_len (objects_of s.objects.items v.oid) ≡ chain_len (objects_of s.objects.items oid) = ap (λ n. chain_len (objects_of s.objects.items n)) is in
      omega (arith, cut, few, same);
}

-- a seat as the machine has it
seat_kept : (s : State) (p : ℕ) (x : SeatState) → slice_get s.seats.items p ≡ Some x → (core_of s).seats p ≡ part_of x
seat_kept s p x there =
    get_or-map part_of s.seats.items p x (fresh_part Vacant s.run s.opening) (slice_get_within s.seats.items p x there) ∙ ap part_of (get_or_from_slice_get s.seats.items p x x there)

steady_goes : (g : Growth) (x y : SeatState) → GoesOn g x y → IsSteady (part_of x) (part_of y) → GoesOn no_growth x y
steady_goes g x y goes steady =
    let reads = steady.reads in
    let claims = steady.claims in
    let made = steady.made in
    let words = steady.words in
    let spare = steady.spare in
    let reads_x = x.current.reads.ok.0 in
    let reads_y = y.current.reads.ok.0 in
    let claims_x = x.current.writes.ok.0 in
    let claims_y = y.current.writes.ok.0 in
    let made_x = x.current.made.ok.0 in
    let made_y = y.current.made.ok.0 in
    let words_x = x.current.block.ok.0 in
    let words_y = y.current.block.ok.0 in
    let spare_x = x.spare.ok.0 in
    let spare_y = y.spare.ok.0 in
    record {
      seat = goes.seat;
      over = goes.over;
      promised = goes.promised;
      lists = goes.lists;
      grows = record {
        reads = omega (arith, reads, reads_x, reads_y);
        claims = omega (arith, claims, claims_x, claims_y);
        made = omega (arith, made, made_x, made_y);
        words = omega (arith, words, words_x, words_y);
        spare = omega (arith, spare, spare_x, spare_y);
      };
    }

after_kind : (k : Kind) (cells : ℕ) (x y : SeatState) → GoesOnAfter k → Leaves k cells false x y → GoesOn (growth_in k cells) x y
after_kind (kind.AddTail size) cells x y on h = absurd on
after_kind (kind.StoreBegin value) cells x y on h = absurd on
after_kind (kind.StoreState value) cells x y on h = absurd on
after_kind k cells x y on h = h

-- a step that adds nothing in fact leaves the room of a call, whatever its kind might have added
pub steady_leaves : (s t : State) (p : ℕ) (k : Kind) (n : Need) → LeavesRoom s t p k → GoesOnAfter k → IsSteady ((core_of s).seats p) ((core_of t).seats p) → LeavesNeed k n →
    HasCallRoom s p n → HasCallRoom t p n
steady_leaves s t p k n left on steady leaves h =
    call_lasts s t p k left p n leaves
    (λ y there.
    let was = seat_was s t p k left p y there in
    let x = get_or s.seats.items p y in
    let goes = after_kind k _ x y on (left.own x y was there) in
    let parts : IsSteady (part_of x) (part_of y) = subst (λ (z : Part). IsSteady z (part_of y)) (seat_kept s p x was) (subst (λ (z : Part). IsSteady ((core_of s).seats p) z) (seat_kept t p y there) steady) in
    (x, was, steady_goes _ x y goes parts))
    h

-- once a transaction has begun its second load of the tail needs no room
pub second_load : (s : State) (p : ℕ) → ((core_of s).seats p).place ≢ Idle → HasRoom s p (kind.LoadTail purpose.Begin)
second_load s p begun = record {
  shared = tt;
  own = λ x there idle. absurd (begun (ap (λ (z : Part). z.place) (seat_kept s p x there) ∙ idle));
}

-- a pin of the flush seat needs no room
pin_room : (x : SeatState) → x.flushes ≡ true → HasBeginRoom x
pin_room x is =
    let four : lasting x.flushes 4 ≡ lasting true 4 = ap (λ b. lasting b 4) is in
    let single : lasting x.flushes 1 ≡ lasting true 1 = ap (λ b. lasting b 1) is in
    let over = x.over_room in
    let block = x.block_room in
    record { over = omega (arith, single, over); block = omega (arith, four, block); log = omega (arith, single) }

pub pin_serves : (s : State) (p : ℕ) → is_flusher p ≡ true → HasRoom s p (kind.LoadTail purpose.Begin)
pin_serves s p is = record { shared = tt; own = λ x there _. pin_room x (s.numbered p x there ∙ is) }

-- a range of a block with a row for each claim at most needs no room
pub small_draw : (s : State) (p size : ℕ) → ((x : SeatState) → slice_get s.seats.items p ≡ Some x → size ≤ 5 + 17 * vec_len x.current.writes) → HasRoom s p (kind.AddTail size)
small_draw s p size small = record {
  shared = tt;
  own = λ x there most greater. let less = small x there in absurd (omega (arith, less, greater));
}
