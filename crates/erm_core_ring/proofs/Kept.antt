-- Each event keeps the log.
use Rattle.std.proofs.Common.{◌≡◌, ℕ, ◌+◌, ◌-◌, ◌≤◌, Bool, true, ◌&&◌, leb, Some, refl, sym, subst, arith}
use Rattle.std.proofs.lemmas.Bool.{and_parts}
use Rattle.erm_machine.specs.declared.event.Kind.{Kind}
use Rattle.erm_machine.specs.declared.event.Kind.TheVariants as kind
use Rattle.erm_machine.specs.declared.event.TailUse.{TailUse}
use Rattle.erm_machine.specs.declared.event.TailUse.TheVariants as purpose
use Rattle.erm_machine.specs.declared.limits.TheConstants.{RING_WORDS}
use Rattle.erm_machine.specs.declared.part.Flushing.{Flushing}
use Rattle.erm_machine.specs.declared.part.Flushing.TheVariants as flushing
use Rattle.erm_machine.specs.declared.part.Part.{Part}
use Rattle.erm_machine.specs.declared.task.Task.TheVariants as task
use Rattle.erm_machine.specs.Core.{Core, spot_of, word_at}
use Rattle.erm_machine.specs.Flushing.{clear_ring, load_flushed, load_ring, store_flushed}
use Rattle.erm_machine.specs.Life.{load_tail_to_gather}
use Rattle.erm_machine.specs.Log.{ring_at}
use Rattle.erm_machine.specs.Settling.{filled, has_room, load_flushed_to_settle}
use Rattle.erm_machine.specs.Sound.{Sound}
use Rattle.erm_machine.specs.Step.{after_event}
use Rattle.erm_machine.specs.Words.{put}
use Rattle.erm_machine.proofs.Guards.{either_way, some_then, when_then}
use Rattle.erm_machine.proofs.QuietKinds.{IsQuiet, MeetsOne, Moves, moves, quiet_kind}
use Rattle.erm_core_ring.proofs.Aside.{Kept, LeavesWords}
use Rattle.erm_core_ring.proofs.Clears.{clears, stores_flushed}
use Rattle.erm_core_ring.proofs.Flush.{flushed_kept, ring_kept, tail_kept, turning}
use Rattle.erm_core_ring.proofs.Moved.{Leaves, announces, begins, horizons, join_kept, kept_leaves, loads_begin, looks, seals, split_kept}
use Rattle.erm_core_ring.proofs.Onward.{same_block}
use Rattle.erm_core_ring.proofs.Own.{keeps_current, steady_blocks, steady_own}
use Rattle.erm_core_ring.proofs.Stays.{IsAside, stays_kind}
use Rattle.erm_core_ring.proofs.Writes.{decides, draws, fills}

-- a step that leaves the seat at its place, and its block
aside_kept : (c : Core) (p : ℕ) (k : Kind) (d : Core) → IsAside k → IsQuiet k → LeavesWords k → MeetsOne k → Sound c → after_event c p k ≡ Some d → Kept d
aside_kept c p k d aside quiet words one sound e =
    let m = moves c p k d one e in
    let x = c.seats p in
    let steady = (quiet_kind p k (word_at c (spot_of p k)) c.shared x m.part quiet m.after).steady in
    let stays = stays_kind p k (word_at c (spot_of p k)) c.shared x m.part aside m.after in
    kept_leaves c p k d sound words m (record {
      keeps = steady_blocks x x.task m.part steady stays;
      flushing = stays.flushing;
      gathered_to = stays.gathered_to;
      own = steady_own c.shared p x (sound.own p).log x.task m.part steady stays refl;
    })

-- the tail that is loaded to gather
gathers : (c : Core) (p : ℕ) (y : Part) → Sound c → load_tail_to_gather p c.shared.tail (c.seats p) ≡ Some y → Kept (record { shared = c.shared; seats = put c.seats p y })
gathers c p y sound e =
    when_then (λ z. Kept (record { shared = c.shared; seats = put c.seats p z })) _ _ y e (λ g.
    let a = and_parts _ _ g in tail_kept c sound p (and_parts _ _ a.0).0 a.1)

tails : (c : Core) (p : ℕ) (reason : TailUse) (d : Core) → Sound c → Moves c p (kind.LoadTail reason) d → Kept d
tails c p purpose.Begin d sound m = kept_leaves c p (kind.LoadTail purpose.Begin) d sound tt m (begins c sound p c.shared.tail (c.seats p).place m.part refl m.after)
tails c p purpose.Horizon d sound m = kept_leaves c p (kind.LoadTail purpose.Horizon) d sound tt m (horizons c sound p c.shared.tail (c.seats p).task m.part refl m.after)
tails c p purpose.Gather d sound m = subst Kept (sym m.is) (gathers c p m.part sound m.after)

-- a settle that has found room
room_is : (flushed : ℕ) (stamp size : ℕ) → (leb size RING_WORDS && leb (stamp - (RING_WORDS - size)) flushed) ≡ true → stamp + size ≤ flushed + RING_WORDS
room_is flushed stamp size found = grind arith

settles : (c : Core) (p : ℕ) → Sound c → Leaves c p (load_flushed_to_settle c.shared.flushed (c.seats p))
settles c p sound = either_way (Leaves c p) _ _ _ (begun _) (λ _. as_it_is)
  where
    begun : (b : Bool) → (b && has_room c.shared.flushed (c.seats p).current) ≡ true → Leaves c p (record (c.seats p) { task = task.Settles 0 0 })
    begun b g =
        let own = (sound.own p).log in
        record {
          keeps = keeps_current (c.seats p) (record (c.seats p) { task = task.Settles 0 0 }) refl (λ _. same_block (c.seats p).current (c.seats p).current refl);
          flushing = refl;
          gathered_to = refl;
          own = record {
            undecided = own.undecided;
            headers = own.headers;
            fits = own.fits;
            fits_now = λ _. room_is c.shared.flushed (c.seats p).current.stamp (c.seats p).current.size (and_parts b (has_room c.shared.flushed (c.seats p).current) g).1;
            still = own.still;
            taken = own.taken;
          };
        }

    as_it_is : Leaves c p (c.seats p)
    as_it_is = record {
      keeps = keeps_current (c.seats p) (c.seats p) refl (λ _. same_block (c.seats p).current (c.seats p).current refl);
      flushing = refl;
      gathered_to = refl;
      own = (sound.own p).log;
    }

-- flushed is loaded, to gather or to settle
loads_flushed : (c : Core) (p : ℕ) (fl : Flushing) (d : Core) (sound : Sound c) (m : Moves c p kind.LoadFlushed d) → (c.seats p).flushing ≡ fl →
    load_flushed c.shared.flushed (c.seats p) fl ≡ Some m.part → Kept d
loads_flushed c p (flushing.Tail tail) d sound m at e =
    subst Kept (sym m.is)
    (some_then (λ z. Kept (record { shared = c.shared; seats = put c.seats p z })) _ m.part e
    (flushed_kept c sound p (turning c sound p (flushing.Tail tail) (λ (n : flushing.Tail tail ≡ flushing.Still). cc) at) tail at))
loads_flushed c p fl d sound m at e = kept_leaves c p kind.LoadFlushed d sound tt m (when_then (Leaves c p) _ _ m.part e (λ _. settles c p sound))

loads_ring : (c : Core) (p place : ℕ) (fl : Flushing) (d : Core) (sound : Sound c) (m : Moves c p (kind.LoadRing place) d) → (c.seats p).flushing ≡ fl →
    load_ring place (ring_at c.shared place) (c.seats p) fl ≡ Some m.part → Kept d
loads_ring c p place (flushing.Gathers tail from block next end) d sound m at e =
    subst Kept (sym m.is)
    (ring_kept c sound p (turning c sound p (flushing.Gathers tail from block next end) (λ (n : flushing.Gathers tail from block next end ≡ flushing.Still). cc) at) tail from block next end at place m.part e)
loads_ring c p place _ d sound m at e = absurd (cc)

clears_ring : (c : Core) (p place : ℕ) (fl : Flushing) (d : Core) (sound : Sound c) (m : Moves c p (kind.ClearRing place) d) → (c.seats p).flushing ≡ fl →
    clear_ring place (c.seats p) fl ≡ Some m.part → Kept d
clears_ring c p place flushing.Still d sound m at e = absurd (cc)
clears_ring c p place fl d sound m at e = subst Kept (sym m.is) (clears c sound p (turning c sound p fl (λ n. cc) at) place fl m.part at e)

stores : (c : Core) (p value : ℕ) (fl : Flushing) (d : Core) (sound : Sound c) (m : Moves c p (kind.StoreFlushed value) d) → (c.seats p).flushing ≡ fl →
    store_flushed value (c.seats p) fl ≡ Some m.part → Kept d
stores c p value flushing.Still d sound m at e = absurd (cc)
stores c p value fl d sound m at e = subst Kept (sym m.is) (stores_flushed c sound p (turning c sound p fl (λ n. cc) at) value fl m.part at e)

-- Each event keeps the log.
pub kept : (c : Core) (p : ℕ) (k : Kind) (d : Core) → Sound c → after_event c p k ≡ Some d → Kept d
kept c p (kind.LoadTail reason) d sound e = tails c p reason d sound (moves c p (kind.LoadTail reason) d tt e)
kept c p (kind.AddTail size) d sound e =
    let m = moves c p (kind.AddTail size) d tt e in subst Kept (sym m.is) (draws c sound p size (c.seats p).place m.part refl m.after)
kept c p (kind.StoreBegin value) d sound e =
    let m = moves c p (kind.StoreBegin value) d tt e in kept_leaves c p (kind.StoreBegin value) d sound tt m (announces c sound p value (c.seats p).place m.part refl m.after)
kept c p (kind.StoreState value) d sound e =
    let m = moves c p (kind.StoreState value) d tt e in kept_leaves c p (kind.StoreState value) d sound tt m (seals c sound p value (c.seats p).place m.part refl m.after)
kept c p (kind.LoadBegin other) d sound e =
    let m = moves c p (kind.LoadBegin other) d tt e in
    kept_leaves c p (kind.LoadBegin other) d sound tt m (loads_begin c sound p other (word_at c (spot_of p (kind.LoadBegin other))) (c.seats p).task m.part refl m.after)
kept c p (kind.LoadState other bound) d sound e =
    let m = moves c p (kind.LoadState other bound) d tt e in
    kept_leaves c p (kind.LoadState other bound) d sound tt m (looks c sound p other bound (word_at c (spot_of p (kind.LoadState other bound))) m.part m.after)
kept c p (kind.Split other) d sound e = split_kept c p other d sound e
kept c p (kind.Join other) d sound e = join_kept c p other d sound e
kept c p (kind.StoreRing at value) d sound e =
    let m = moves c p (kind.StoreRing at value) d tt e in subst Kept (sym m.is) (fills c sound p at value (filled (c.seats p).current (c.seats p).task) m.part refl m.after)
kept c p (kind.Decide at header) d sound e =
    let m = moves c p (kind.Decide at header) d tt e in subst Kept (sym m.is) (decides c sound p at header (c.seats p).place (c.seats p).task m.part refl refl m.after)
kept c p (kind.LoadRing at) d sound e = let m = moves c p (kind.LoadRing at) d tt e in loads_ring c p at (c.seats p).flushing d sound m refl m.after
kept c p (kind.ClearRing at) d sound e = let m = moves c p (kind.ClearRing at) d tt e in clears_ring c p at (c.seats p).flushing d sound m refl m.after
kept c p (kind.StoreFlushed value) d sound e = let m = moves c p (kind.StoreFlushed value) d tt e in stores c p value (c.seats p).flushing d sound m refl m.after
kept c p kind.LoadFlushed d sound e = let m = moves c p kind.LoadFlushed d tt e in loads_flushed c p (c.seats p).flushing d sound m refl m.after
kept c p k d sound e = aside_kept c p k d tt tt tt tt sound e
