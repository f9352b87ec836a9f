-- A log that is pinned or unpinned, and what stays so of it.
use Rattle.std.proofs.Common.{◌≡◌, ℕ, ◌≤◌, ◌⊎◌, ◌++◌, Bool, List, Option, Some, None, IfSome, IsSome, Result, Ok, Err, sym, ap, ◌∙◌, subst, arith, inl, inr}
use Rattle.erm_model.specs.Rows.{Rows}
use Rattle.erm_flush.specs.Turns.{GoesOn}
use Rattle.erm_outside.specs.Disk.{Step, Tells}
use Rattle.erm_world.specs.Log.{IsWait, Log}
use Rattle.erm_ckpt.specs.declared.slot.Slot.{Slot}
use Rattle.erm_ckpt.specs.declared.slot.Slots.{Slots}
use Rattle.erm_ckpt.specs.Slots.{next_first}
use Rattle.erm_checkpoint.specs.declared.stops.CheckpointStop.{CheckpointStop}
use Rattle.erm_checkpoint.specs.declared.stops.CheckpointStop.TheVariants.{DiskFault, Failed, NotYet, Unfilled}
use Rattle.erm_checkpoint.specs.Taken.{Checkpoints, GoesOnTo, HoldsLog, HoldsLogFrom, SavesLog, slot_at_end, Takes, TakesAll, TakesAt}

-- the log with another end and pin
abbrev other_pin : Log → ℕ → Option ℕ → Log
other_pin log tail pinned = record log { tail = tail; pinned = pinned }

-- what was pinned, where a checkpoint was taken
pub still_pinned : (result : Result Unit CheckpointStop) (was now : Bool) (l m : Log) → TakesAt result was now l m → m ≡ record l { gathered = m.gathered; flushed = m.flushed }
still_pinned (Ok x) was now l m takes = takes.2.log
still_pinned (Err (Unfilled at)) was now l m takes = takes.2.log
still_pinned (Err (NotYet seat seen)) was now l m takes = takes.2.log
still_pinned (Err DiskFault) was now l m takes = takes.2.log
still_pinned (Err Failed) was now l m takes =
    takes.2 ∙ ap (λ (x : Log). let y : Log = record l { gathered = x.gathered; flushed = x.flushed } in y) (sym takes.2)

-- the log after a pin, steps of a checkpoint, and an unpin
pub record Turned (l n m : Log) (stamp : ℕ) : Type 0 where
  pub pinned : Log
  pub pin : pinned ≡ record l { tail = stamp; pinned = Some stamp }
  pub steps : n ≡ record pinned { gathered = n.gathered; flushed = n.flushed }
  pub unpin : m ≡ record n { pinned = None }
  pub was_unpinned : l.pinned ≡ None
  pub low : l.tail ≤ stamp

abbrev pub tail_is : (l n m : Log) (stamp : ℕ) → Turned l n m stamp → m.tail ≡ stamp
tail_is l n m stamp t = ap (λ (x : Log). x.tail) t.unpin ∙ ap (λ (x : Log). x.tail) t.steps ∙ ap (λ (x : Log). x.tail) t.pin

-- the log again, with its end and what was gathered
log_is : (l n m : Log) (stamp : ℕ) → Turned l n m stamp → m ≡ record l { tail = m.tail; gathered = m.gathered; flushed = m.flushed }
log_is l n m stamp t =
    let g : m.gathered ≡ n.gathered = ap (λ (x : Log). x.gathered) t.unpin in
    let f : m.flushed ≡ n.flushed = ap (λ (x : Log). x.flushed) t.unpin in
    let tail = tail_is l n m stamp t in
    let make : ℕ → List _ → ℕ → Log = λ b xs place. record l { tail = b; gathered = xs; flushed = place } in
    let one : m ≡ record t.pinned { gathered = n.gathered; flushed = n.flushed; pinned = None } = t.unpin ∙ ap (λ (x : Log). let y : Log = record x { pinned = None } in y) t.steps in
    let two : m ≡ record l { tail = stamp; gathered = n.gathered; flushed = n.flushed; pinned = None } =
    one ∙ ap (λ (x : Log). let y : Log = record x { gathered = n.gathered; flushed = n.flushed; pinned = None } in y) t.pin in
    let three : m ≡ make stamp n.gathered n.flushed =
    two ∙ ap (λ (p : Option ℕ). let y : Log = record l { tail = stamp; gathered = n.gathered; flushed = n.flushed; pinned = p } in y) (sym t.was_unpinned) in
    three ∙ ap (λ (b : ℕ). make b n.gathered n.flushed) (sym tail) ∙ ap (λ (xs : List _). make m.tail xs n.flushed) (sym g) ∙ ap (make m.tail m.gathered) (sym f)

goes_on_to : (l n m : Log) (stamp : ℕ) (t : Turned l n m stamp) → GoesOn t.pinned n → GoesOnTo l m
goes_on_to l n m stamp t on =
    let tail = tail_is l n m stamp t in
    let low = t.low in
    let g : m.gathered ≡ n.gathered = ap (λ (x : Log). x.gathered) t.unpin in
    let f : m.flushed ≡ n.flushed = ap (λ (x : Log). x.flushed) t.unpin in
    let was : t.pinned.flushed ≡ l.flushed = ap (λ (x : Log). x.flushed) t.pin in
    let further = on.further in
    record {
      log = log_is l n m stamp t;
      tail = omega (arith, tail, low);
      more = (on.more.0, g ∙ on.more.1 ∙ ap (λ (x : Log). x.gathered ++ on.more.0) t.pin);
      further = omega (arith, f, was, further);
    }

-- what a turn answers
pub turn_ok : (l n m : Log) (stamp : ℕ) (was now : Bool) (t : Turned l n m stamp) → TakesAt (Ok tt) was now t.pinned n → Checkpoints (Ok stamp) was now l m
turn_ok l n m stamp was now t takes =
    let f : m.flushed ≡ n.flushed = ap (λ (x : Log). x.flushed) t.unpin in
    let same : m.tail ≡ n.tail = ap (λ (x : Log). x.tail) t.unpin in
    (takes.0, takes.1, goes_on_to l n m stamp t takes.2, tail_is l n m stamp t, f ∙ takes.3 ∙ sym same ∙ tail_is l n m stamp t)

pub turn_err : (stop : CheckpointStop) (l n m : Log) (stamp : ℕ) (was now : Bool) (t : Turned l n m stamp) → TakesAt (Err stop) was now t.pinned n → Checkpoints (Err stop) was now l m
turn_err (Unfilled at) l n m stamp was now t takes =
    let f : m.flushed ≡ n.flushed = ap (λ (x : Log). x.flushed) t.unpin in
    let same : m.tail ≡ n.tail = ap (λ (x : Log). x.tail) t.unpin in
    let less = takes.4 in
    (takes.0, takes.1, goes_on_to l n m stamp t takes.2, f ∙ takes.3, omega (arith, less, same), subst (λ (x : Log). IsSome (x.undecided at)) (sym t.unpin) takes.5)
turn_err (NotYet seat seen) l n m stamp was now t takes =
    let f : m.flushed ≡ n.flushed = ap (λ (x : Log). x.flushed) t.unpin in
    let same : m.tail ≡ n.tail = ap (λ (x : Log). x.tail) t.unpin in
    let pins : n.pinned ≡ Some n.tail =
    ap (λ (x : Log). x.pinned) t.steps ∙ ap (λ (x : Log). x.pinned) t.pin ∙ ap (λ (b : ℕ). Some b) (sym (ap (λ (x : Log). x.tail) t.steps ∙ ap (λ (x : Log). x.tail) t.pin)) in
    let again : n ≡ record m { pinned = Some m.tail } =
    ap (λ (p : Option ℕ). let y : Log = record n { pinned = p } in y) pins ∙ ap (λ (x : Log). let y : Log = record x { pinned = Some x.tail } in y) (sym t.unpin) in
    let wait = takes.4 in
    (takes.0, takes.1, goes_on_to l n m stamp t takes.2, f ∙ takes.3 ∙ sym same, (wait.0, wait.1, subst (λ (x : Log). IsWait x wait.0 (record { seat = seat; seen = seen })) again wait.2))
turn_err DiskFault l n m stamp was now t takes = (takes.0, takes.1, goes_on_to l n m stamp t takes.2)
turn_err Failed l n m stamp was now t takes =
    let g : m.gathered ≡ l.gathered = ap (λ (x : Log). x.gathered) t.unpin ∙ ap (λ (x : Log). x.gathered) takes.2 ∙ ap (λ (x : Log). x.gathered) t.pin in
    let f : m.flushed ≡ l.flushed = ap (λ (x : Log). x.flushed) t.unpin ∙ ap (λ (x : Log). x.flushed) takes.2 ∙ ap (λ (x : Log). x.flushed) t.pin in
    let make : List _ → ℕ → Log = λ xs place. record l { tail = m.tail; gathered = xs; flushed = place } in
    let tail = tail_is l n m stamp t in
    let low = t.low in
    (takes.0, takes.1, log_is l n m stamp t ∙ ap (λ (xs : List _). make xs m.flushed) g ∙ ap (make l.gathered) f, omega (arith, tail, low))

-- ---- what a disk holds of it

module _ (sound : Rows → Type 0) where
  abbrev pub holds_other : (log : Log) (tail : ℕ) (pinned : Option ℕ) (slots : Slots) (steps : List Step) → HoldsLog sound log slots steps → HoldsLog sound (other_pin log tail pinned) slots steps
  holds_other log tail pinned slots steps h = record {
    ready = record { settled = h.ready.settled; fresh = h.ready.fresh };
    pair = h.pair;
    names = h.names;
    begins = h.begins;
    front = h.front;
    rest = h.rest;
    split = h.split;
    to = h.to;
    there = h.there;
    meets = h.meets;
  }

  pub told_holds_other : (log now : Log) (tail : ℕ) (pinned : Option ℕ) (slots : Slots) (told : Option (List Step)) → now ≡ other_pin log tail pinned → IfSome told (HoldsLog sound log slots) → IfSome told (HoldsLog sound now slots)
  told_holds_other log now tail pinned slots None same held = tt
  told_holds_other log now tail pinned slots (Some steps) same held = subst (λ (x : Log). HoldsLog sound x slots steps) (sym same) (holds_other log tail pinned slots steps held)

  pub told_lasts_other : (log now : Log) (tail : ℕ) (pinned : Option ℕ) (slots : Slots) (stamp : ℕ) (told : Option (List Step)) → now ≡ other_pin log tail pinned
      → IfSome told (HoldsLogFrom sound log slots stamp) → IfSome told (HoldsLogFrom sound now slots stamp)
  told_lasts_other log now tail pinned slots stamp None same held = tt
  told_lasts_other log now tail pinned slots stamp (Some steps) same held =
      subst (λ (x : Log). HoldsLogFrom sound x slots stamp steps) (sym same) (record { holds = holds_other log tail pinned slots steps held.holds; some = held.some; from = held.from })

  pub told_holds_from : (log : Log) (slots : Slots) (stamp : ℕ) (told : Option (List Step)) → IfSome told (HoldsLogFrom sound log slots stamp) → IfSome told (HoldsLog sound log slots)
  told_holds_from log slots stamp None held = tt
  told_holds_from log slots stamp (Some steps) held = held.holds

  saves_other : (log : Log) (tail : ℕ) (pinned : Option ℕ) (slots : Slots) (slot : Slot) (mid new : List Step) → (new ≡ mid) ⊎ SavesLog sound log slots slot mid new
      → (new ≡ mid) ⊎ SavesLog sound (other_pin log tail pinned) slots slot mid new
  saves_other log tail pinned slots slot mid new (inl same) = inl same
  saves_other log tail pinned slots slot mid new (inr s) = inr (record {
    holds = holds_other log tail pinned slots mid s.holds;
    checkpoint = s.checkpoint;
    slot_is = s.slot_is;
    may = s.may;
    saves = s.saves;
  })

  pub told_takes_other : (place : ℕ) (log now : Log) (tail : ℕ) (pinned : Option ℕ) (slots : Slots) (slot : Slot) (before after : Option (List Step)) → now ≡ other_pin log tail pinned
      → Tells (Takes sound place log slots slot) before after → Tells (Takes sound place now slots slot) before after
  told_takes_other place log now tail pinned slots slot None after same told = told
  told_takes_other place log now tail pinned slots slot (Some old) after same (new, told, takes) = (
    new,
    told,
    subst (λ (x : Log). Takes sound place x slots slot old new) (sym same) (record {
      mid = takes.mid;
      flushes = record { front = takes.flushes.front; blocks = takes.flushes.blocks; split = takes.flushes.split; place_is = takes.flushes.place_is; writes = takes.flushes.writes; few = takes.flushes.few };
      saves = saves_other log tail pinned slots slot takes.mid new takes.saves;
    }),
  )

  pub told_turn : (l p n m : Log) (stamp run first : ℕ) (slots : Slots) (before after : Option (List Step)) → p ≡ record l { tail = stamp; pinned = Some stamp }
      → n ≡ record p { gathered = n.gathered; flushed = n.flushed } → m ≡ record n { pinned = None } → first ≡ next_first slots
      → Tells (Takes sound p.flushed n slots (record { stamp = stamp; run = run; first = first })) before after → Tells (Takes sound l.flushed m slots (slot_at_end m run slots)) before after
  told_turn l p n m stamp run first slots before after pin steps unpin first_is told =
      let make : ℕ → ℕ → Slot = λ s f. record { stamp = s; run = run; first = f } in
      let tail : m.tail ≡ stamp = ap (λ (x : Log). x.tail) unpin ∙ ap (λ (x : Log). x.tail) steps ∙ ap (λ (x : Log). x.tail) pin in
      let slot_is : make stamp first ≡ slot_at_end m run slots = ap (λ (s : ℕ). make s first) (sym tail) ∙ ap (make m.tail) first_is in
      let place : p.flushed ≡ l.flushed = ap (λ (x : Log). x.flushed) pin in
      subst (λ (slot : Slot). Tells (Takes sound l.flushed m slots slot) before after) slot_is
      (told_takes_other l.flushed n m n.tail None slots (make stamp first) before after unpin
      (subst (λ (at : ℕ). Tells (Takes sound at n slots (make stamp first)) before after) place told))

  pub told_all_other : (place : ℕ) (log now : Log) (tail : ℕ) (pinned : Option ℕ) (slots : Slots) (slot : Slot) (before after : Option (List Step)) → now ≡ other_pin log tail pinned
      → Tells (TakesAll sound place log slots slot) before after → Tells (TakesAll sound place now slots slot) before after
  told_all_other place log now tail pinned slots slot None after same told = told
  told_all_other place log now tail pinned slots slot (Some old) after same (new, told, takes) = (
    new,
    told,
    subst (λ (x : Log). TakesAll sound place x slots slot old new) (sym same) (record {
      mid = takes.mid;
      flushes = record { front = takes.flushes.front; blocks = takes.flushes.blocks; split = takes.flushes.split; place_is = takes.flushes.place_is; writes = takes.flushes.writes; few = takes.flushes.few };
      holds = holds_other log tail pinned slots takes.mid takes.holds;
      checkpoint = takes.checkpoint;
      slot_is = takes.slot_is;
      may = takes.may;
      saves = takes.saves;
    }),
  )

  pub told_turn_all : (l p n m : Log) (stamp run first : ℕ) (slots : Slots) (before after : Option (List Step)) → p ≡ record l { tail = stamp; pinned = Some stamp }
      → n ≡ record p { gathered = n.gathered; flushed = n.flushed } → m ≡ record n { pinned = None } → first ≡ next_first slots
      → Tells (TakesAll sound p.flushed n slots (record { stamp = stamp; run = run; first = first })) before after → Tells (TakesAll sound l.flushed m slots (slot_at_end m run slots)) before after
  told_turn_all l p n m stamp run first slots before after pin steps unpin first_is told =
      let make : ℕ → ℕ → Slot = λ s f. record { stamp = s; run = run; first = f } in
      let tail : m.tail ≡ stamp = ap (λ (x : Log). x.tail) unpin ∙ ap (λ (x : Log). x.tail) steps ∙ ap (λ (x : Log). x.tail) pin in
      let slot_is : make stamp first ≡ slot_at_end m run slots = ap (λ (s : ℕ). make s first) (sym tail) ∙ ap (make m.tail) first_is in
      let place : p.flushed ≡ l.flushed = ap (λ (x : Log). x.flushed) pin in
      subst (λ (slot : Slot). Tells (TakesAll sound l.flushed m slots slot) before after) slot_is
      (told_all_other l.flushed n m n.tail None slots (make stamp first) before after unpin
      (subst (λ (at : ℕ). Tells (TakesAll sound at n slots (make stamp first)) before after) place told))
