-- The flush seat's turn goes on, or waits for a block.
use Rattle.std.proofs.Common.{◌≡◌, ℕ, ◌+◌, ◌-◌, ◌<◌, ◌≤◌, ◌⊎◌, ⊎_elim, true, ltb, refl, sym, ap, ◌∙◌, subst, inl, inr, arith}
use Rattle.std.specs.Prelude.{if◌then◌else◌, ◌==◌}
use Rattle.std.proofs.lemmas.Bool.{cases_lt, cond-false, cond-true, eq-eqb, eqb-true, le-ltb, lt-ltb}
use Rattle.erm_model.specs.Member.{◌∈◌}
use Rattle.erm_model.proofs.Members.{∈-push}
use Rattle.erm_machine.specs.declared.attempt.Attempt.{Attempt}
use Rattle.erm_machine.specs.declared.event.Kind.{Kind}
use Rattle.erm_machine.specs.declared.event.Kind.TheVariants as kind
use Rattle.erm_machine.specs.declared.event.TailUse.TheVariants as purpose
use Rattle.erm_machine.specs.declared.limits.TheConstants.{FLUSH_SEAT}
use Rattle.erm_machine.specs.declared.part.Flushing.{Flushing}
use Rattle.erm_machine.specs.declared.part.Flushing.TheVariants as flushing
use Rattle.erm_machine.specs.Core.{Core}
use Rattle.erm_machine.specs.Flushing.{size_of}
use Rattle.erm_machine.specs.Life.{is_between}
use Rattle.erm_machine.specs.Log.{Clearing, Gathering, IsFlushing, ring_at}
use Rattle.erm_machine.specs.Sound.{Sound}
use Rattle.erm_machine.specs.Step.{after_event}
use Rattle.erm_machine.proofs.Guards.{either_way}
use Rattle.erm_core_calls.specs.Ending.{Ahead, IsLess, ahead_by, fewer_stages, less_left}
use Rattle.erm_core_ring.proofs.Kept.{kept}
use Rattle.erm_core_flush.specs.Turns.{GathersNoMore, GathersOn, Turns, after_word, turn_of}
use Rattle.erm_core_flush.proofs.Turns.{clear_turns, first_turns, flushed_turns, store_turns, tail_turns, word_turns}
use Rattle.erm_core_stall.specs.Waiting.{TurnsOn, WaitsFor, flush_turn, for_block, next_turn, seat_of, turn_ahead}

-- fewer stages, and less of one
fewer : (a b : Ahead) (i j x y : ℕ) → a ≡ ahead_by i x → b ≡ ahead_by j y → i < j → IsLess a b
fewer a b i j x y here there lt = let u = ap (λ (r : Ahead). r.stages) here in let v = ap (λ (r : Ahead). r.stages) there in fewer_stages (omega (arith, u, v, lt))

shorter : (a b : Ahead) (i x y : ℕ) → a ≡ ahead_by i x → b ≡ ahead_by i y → x < y → IsLess a b
shorter a b i x y here there lt =
    let u = ap (λ (r : Ahead). r.stages) here in
    let v = ap (λ (r : Ahead). r.stages) there in
    let m = ap (λ (r : Ahead). r.left) here in
    let n = ap (λ (r : Ahead). r.left) there in
    less_left (omega (arith, u, v)) (omega (arith, m, n, lt))

-- what lies ahead at each point of a turn
loaded_ahead : (flushed tail : ℕ) → flushed < tail → turn_ahead flushed (flushing.Tail tail) ≡ ahead_by 4 0
loaded_ahead flushed tail less = cond-true (ltb flushed tail) (ahead_by 4 0) (ahead_by 5 0) (lt-ltb flushed tail less)

stale_ahead : (flushed tail : ℕ) → tail ≤ flushed → turn_ahead flushed (flushing.Tail tail) ≡ ahead_by 5 0
stale_ahead flushed tail past = cond-false (ltb flushed tail) (ahead_by 4 0) (ahead_by 5 0) (le-ltb flushed tail past)

gathered_ahead : (flushed tail from block next end : ℕ) → from < end → turn_ahead flushed (flushing.Gathers tail from block next end) ≡ ahead_by 2 (end - next)
gathered_ahead flushed tail from block next end some = cond-true (ltb from end) (ahead_by 2 (end - next)) (if ltb from tail then ahead_by 3 0 else ahead_by 5 0) (lt-ltb from end some)

none_ahead : (flushed tail from block next end : ℕ) → end ≤ from → turn_ahead flushed (flushing.Gathers tail from block next end) ≡ (if ltb from tail then ahead_by 3 0 else ahead_by 5 0)
none_ahead flushed tail from block next end none = cond-false (ltb from end) (ahead_by 2 (end - next)) (if ltb from tail then ahead_by 3 0 else ahead_by 5 0) (le-ltb from end none)

-- the next step at each point of a gather
inside_next : (flushed tail from block next end : ℕ) → next < end → next_turn flushed (flushing.Gathers tail from block next end) ≡ kind.LoadRing next
inside_next flushed tail from block next end inside = ap (λ b. if b then kind.LoadRing next
    else if ltb from end then kind.ClearRing from
    else if ltb from tail then kind.LoadRing next
    else kind.LoadTail purpose.Gather) (lt-ltb next end inside)

gathered_next : (flushed tail from block next end : ℕ) → end ≤ next → from < end → next_turn flushed (flushing.Gathers tail from block next end) ≡ kind.ClearRing from
gathered_next flushed tail from block next end between some =
    ap (λ b. if b then kind.LoadRing next
    else if ltb from end then kind.ClearRing from
    else if ltb from tail then kind.LoadRing next
    else kind.LoadTail purpose.Gather) (le-ltb next end between)
    ∙ ap (λ b. if b then kind.ClearRing from
    else if ltb from tail then kind.LoadRing next
    else kind.LoadTail purpose.Gather) (lt-ltb from end some)

none_next : (flushed tail from block next end : ℕ) → end ≤ next → end ≤ from → next_turn flushed (flushing.Gathers tail from block next end)
    ≡ (if ltb from tail then kind.LoadRing next else kind.LoadTail purpose.Gather)
none_next flushed tail from block next end between none =
    ap (λ b. if b then kind.LoadRing next
    else if ltb from end then kind.ClearRing from
    else if ltb from tail then kind.LoadRing next
    else kind.LoadTail purpose.Gather) (le-ltb next end between)
    ∙ ap (λ b. if b then kind.ClearRing from
    else if ltb from tail then kind.LoadRing next
    else kind.LoadTail purpose.Gather) (le-ltb from end none)

module _ (c : Core) (sound : Sound c) (some : c.shared.flushed < c.shared.tail) where
  abbrev OnOrWaits : Type 0
  OnOrWaits = TurnsOn c ⊎ ((q : ℕ) × WaitsFor c flush_turn (seat_of q))

  -- a step of the flush seat that leaves less ahead
  turns_on : (k : Kind) (to : Flushing) → next_turn c.shared.flushed (turn_of c) ≡ k → (t : Turns c k to) → IsLess (turn_ahead c.shared.flushed to) (turn_ahead c.shared.flushed (turn_of c)) → TurnsOn c
  turns_on k to next t less = record {
    after = t.after;
    taken = ap (after_event c FLUSH_SEAT) next ∙ t.takes;
    nearer = inr (subst (λ g. IsLess (turn_ahead c.shared.flushed g) (turn_ahead c.shared.flushed (turn_of c))) (sym t.leads) less);
  }

  -- the tail is loaded, where nothing is gathered and there is more to load
  loads_tail : (at : Flushing) → turn_of c ≡ at → next_turn c.shared.flushed at ≡ kind.LoadTail purpose.Gather → is_between at ≡ true → turn_ahead c.shared.flushed at ≡ ahead_by 5 0 → TurnsOn c
  loads_tail at is next between ahead =
      turns_on (kind.LoadTail purpose.Gather) (flushing.Tail c.shared.tail) (ap (next_turn c.shared.flushed) is ∙ next) (tail_turns c sound (ap is_between is ∙ between))
      (fewer _ _ 4 5 0 0 (loaded_ahead c.shared.flushed c.shared.tail some) (ap (turn_ahead c.shared.flushed) is ∙ ahead) (omega arith))

  from_tail : (tail : ℕ) → turn_of c ≡ flushing.Tail tail → TurnsOn c
  from_tail tail is =
      let f = c.shared.flushed in
      ⊎_elim
      (λ (more : f < tail).
      turns_on kind.LoadFlushed (flushing.Gathers tail f f f f)
      (ap (next_turn f) is ∙ cond-true (ltb f tail) kind.LoadFlushed (kind.LoadTail purpose.Gather) (lt-ltb f tail more)) (flushed_turns c sound tail is)
      (fewer _ _ 3 4 0 0 (none_ahead f tail f f f f (omega arith) ∙ cond-true (ltb f tail) (ahead_by 3 0) (ahead_by 5 0) (lt-ltb f tail more)) (ap (turn_ahead f) is ∙ loaded_ahead f tail more) (omega arith)))
      (λ (past : tail ≤ f).
      loads_tail (flushing.Tail tail) is (cond-false (ltb f tail) kind.LoadFlushed (kind.LoadTail purpose.Gather) (le-ltb f tail past)) refl (stale_ahead f tail past))
      (cases_lt f tail)

  module _ (tail from block next end : ℕ) (is : turn_of c ≡ flushing.Gathers tail from block next end) where
    gathering : Gathering c.shared c.seats (c.seats FLUSH_SEAT).gathered_to tail from block next end
    gathering = subst (IsFlushing c.shared c.seats (c.seats FLUSH_SEAT).gathered_to) is sound.common.log.turn

    -- in the middle of a block
    inside : next < end → TurnsOn c
    inside more =
        let o = gathering.onward in
        let a = o.0 in
        let b = o.1 in
        let f = c.shared.flushed in
        let ahead : turn_ahead f (turn_of c) ≡ ahead_by 2 (end - next) = ap (turn_ahead f) is ∙ gathered_ahead f tail from block next end (omega (arith, a, b, more)) in
        ⊎_elim
        (λ (on : GathersOn c tail from block next end).
        turns_on (kind.LoadRing next) on.to (ap (next_turn f) is ∙ inside_next f tail from block next end more) on.on
        (subst (λ (g : Flushing). IsLess (turn_ahead f g) (turn_ahead f (turn_of c))) (sym (on.middle more))
        (either_way (λ (g : Flushing). IsLess (turn_ahead f g) (turn_ahead f (turn_of c))) ((next + 1) == end) (flushing.Gathers tail from end end end) (flushing.Gathers tail from block (next + 1) end)
        (λ _. shorter _ _ 2 (end - end) (end - next) (gathered_ahead f tail from end end end (omega (arith, a, b, more))) ahead (omega (arith, more)))
        (λ _. shorter _ _ 2 (end - (next + 1)) (end - next) (gathered_ahead f tail from block (next + 1) end (omega (arith, a, b, more))) ahead (omega (arith, more))))))
        (λ (stop : GathersNoMore c next end). let same = stop.between in absurd (omega (arith, same, more)))
        (word_turns c sound tail from block next end is (inl more))

    -- something is gathered
    clears : end ≤ next → from < end → TurnsOn c
    clears past more =
        let o = gathering.onward in
        let a = o.2 in
        let f = c.shared.flushed in
        turns_on (kind.ClearRing from) (flushing.Clears (from + 1) next) (ap (next_turn f) is ∙ gathered_next f tail from block next end past more)
        (first_turns c sound tail from block next end is (omega (arith, past, a)) (omega (arith, past, more)))
        (fewer _ _ 1 2 (next - (from + 1)) (end - next) refl (ap (turn_ahead f) is ∙ gathered_ahead f tail from block next end more) (omega arith))

    -- a gather that goes on has a block in hand
    goes_some : (to : Flushing) (e : ℕ) → (t : Turns c (kind.LoadRing next) to) → to ≡ after_word tail from next next e → from ≡ next → IsLess (turn_ahead c.shared.flushed to) (ahead_by 3 0)
    goes_some to e t leads first =
        let f = c.shared.flushed in
        let d = t.after in
        let turned : IsFlushing d.shared d.seats (d.seats FLUSH_SEAT).gathered_to (turn_of d) = (kept c FLUSH_SEAT (kind.LoadRing next) d sound t.takes).shared.turn in
        let there : IsFlushing d.shared d.seats (d.seats FLUSH_SEAT).gathered_to (after_word tail from next next e) = subst (IsFlushing d.shared d.seats (d.seats FLUSH_SEAT).gathered_to) (t.leads ∙ leads) turned in
        subst (λ (g : Flushing). IsLess (turn_ahead f g) (ahead_by 3 0)) (sym leads)
        (either_way (λ (g : Flushing). IsFlushing d.shared d.seats (d.seats FLUSH_SEAT).gathered_to g → IsLess (turn_ahead f g) (ahead_by 3 0)) ((next + 1) == e)
        (flushing.Gathers tail from e e e) (flushing.Gathers tail from next (next + 1) e)
        (λ whole _. let last = eqb-true (next + 1) e whole in fewer _ _ 2 3 (e - e) 0 (gathered_ahead f tail from e e e (omega (arith, last, first))) refl (omega arith))
        (λ _ g. let up = g.onward.2 in fewer _ _ 2 3 (e - (next + 1)) 0 (gathered_ahead f tail from next (next + 1) e (omega (arith, up, first))) refl (omega arith))
        there)

    -- nothing is gathered yet
    module _ (past : end ≤ next) (none : end ≤ from) where
      all_one : (from ≡ next) × (next ≡ end) × (from ≡ c.shared.flushed)
      all_one = let g = gathering in let o = g.onward in let a = o.0 in let b = o.1 in let d = o.2 in (omega (arith, a, b, d, past, none), omega (arith, d, past), g.from_flushed)

      waits : GathersNoMore c next end → OnOrWaits
      waits stop =
          let open_here = stop.unsettled in
          let q = open_here.seat in
          let t = open_here.holder in
          let starts = open_here.starts in
          let one = all_one.0 in
          let here = all_one.2 in
          ⊎_elim
          (λ (over : t ∈ (c.seats q).over). absurd ((sound.own q).ranges.decided t over open_here.undecided))
          (λ (is_current : t ≡ (c.seats q).current).
          let same = ap (λ (u : Attempt). u.stamp) is_current in
          inr (q, for_block q refl refl (omega (arith, same, starts, one, here)) (sym (ap (λ (u : Attempt). u.decision) is_current) ∙ open_here.undecided)))
          (∈-push (c.seats q).over (c.seats q).current t open_here.stands)

      loads : GathersOn c tail from block next end → from < tail → TurnsOn c
      loads on more =
          let f = c.shared.flushed in
          let ahead : turn_ahead f (turn_of c) ≡ ahead_by 3 0 = ap (turn_ahead f) is ∙ none_ahead f tail from block next end none ∙ cond-true (ltb from tail) (ahead_by 3 0) (ahead_by 5 0) (lt-ltb from tail more) in
          let h = on.header all_one.1 in
          turns_on (kind.LoadRing next) on.to
          (ap (next_turn f) is ∙ none_next f tail from block next end past none ∙ cond-true (ltb from tail) (kind.LoadRing next) (kind.LoadTail purpose.Gather) (lt-ltb from tail more)) on.on
          (subst (λ (a : Ahead). IsLess (turn_ahead f on.to) a) (sym ahead) (goes_some on.to (next + size_of (ring_at c.shared next)) on.on h.1 all_one.0))

      first_block : OnOrWaits
      first_block =
          let f = c.shared.flushed in
          let one = all_one.0 in
          ⊎_elim
          (λ (more : from < tail).
          ⊎_elim
          (λ (on : GathersOn c tail from block next end). inl (loads on more)) waits
          (word_turns c sound tail from block next end is (inr (omega (arith, one, more), omega (arith, one)))))
          (λ (stale : tail ≤ from).
          inl (loads_tail (flushing.Gathers tail from block next end) is
          (none_next f tail from block next end past none ∙ cond-false (ltb from tail) (kind.LoadRing next) (kind.LoadTail purpose.Gather) (le-ltb from tail stale))
          (eq-eqb next end all_one.1) (none_ahead f tail from block next end none ∙ cond-false (ltb from tail) (ahead_by 3 0) (ahead_by 5 0) (le-ltb from tail stale))))
          (cases_lt from tail)

    from_gather : OnOrWaits
    from_gather =
        ⊎_elim
        (λ (more : next < end). inl (inside more))
        (λ (past : end ≤ next).
        ⊎_elim (λ (more : from < end). inl (clears past more)) (λ (none : end ≤ from). first_block past none) (cases_lt from end))
        (cases_lt next end)

  from_clears : (next to : ℕ) → turn_of c ≡ flushing.Clears next to → TurnsOn c
  from_clears next to is =
      let f = c.shared.flushed in
      let clearing : Clearing c.shared (c.seats FLUSH_SEAT).gathered_to next to = subst (IsFlushing c.shared c.seats (c.seats FLUSH_SEAT).gathered_to) is sound.common.log.turn in
      let o = clearing.onward in
      let a = o.0 in
      let b = o.1 in
      ⊎_elim
      (λ (more : next < to).
      turns_on (kind.ClearRing next) (flushing.Clears (next + 1) to) (ap (next_turn f) is ∙ cond-true (ltb next to) (kind.ClearRing next) (kind.StoreFlushed to) (lt-ltb next to more)) (clear_turns c sound next to is more)
      (shorter _ _ 1 (to - (next + 1)) (to - next) refl (ap (turn_ahead f) is) (omega (arith, more))))
      (λ (past : to ≤ next).
      let last : next ≡ to = omega (arith, past, b) in
      let s = store_turns c sound to (is ∙ ap (λ n. flushing.Clears n to) last) in
      let there = s.1 in
      record {
        after = s.0.after;
        taken = ap (after_event c FLUSH_SEAT) (ap (next_turn f) is ∙ cond-false (ltb next to) (kind.ClearRing next) (kind.StoreFlushed to) (le-ltb next to past)) ∙ s.0.takes;
        nearer = inl (omega (arith, a, b, there));
      })
      (cases_lt next to)

  by_turn : (at : Flushing) → turn_of c ≡ at → OnOrWaits
  by_turn flushing.Still is = inl (loads_tail flushing.Still is refl refl refl)
  by_turn (flushing.Tail tail) is = inl (from_tail tail is)
  by_turn (flushing.Gathers tail from block next end) is = from_gather tail from block next end is
  by_turn (flushing.Clears next to) is = inl (from_clears next to is)

  pub turns : OnOrWaits
  turns = by_turn (turn_of c) refl
