-- A pin: the steps of a begin, and its end.
use Rattle.std.proofs.Common.{◌≡◌, ℕ, ◌≤◌, true, eqb, List, [], length, Option, Some, None, refl, sym, ap, ◌∙◌, subst, arith, Bool, false}
use Rattle.std.specs.Prelude.{IsSome, if◌then◌else◌}
use Rattle.std.proofs.lemmas.Bool.{and_from, eq-eqb, or_left}
use Rattle.erm_model.specs.declared.limits.TheConstants.{LAST_RUN}
use Rattle.erm_machine.specs.declared.attempt.Attempt.{Attempt}
use Rattle.erm_machine.specs.declared.event.Kind.TheVariants as kind
use Rattle.erm_machine.specs.declared.event.TailUse.TheVariants as purpose
use Rattle.erm_machine.specs.declared.limits.TheConstants.{FLUSH_SEAT}
use Rattle.erm_machine.specs.declared.part.Part.{Part}
use Rattle.erm_machine.specs.declared.place.Place.{Place}
use Rattle.erm_machine.specs.declared.place.Place.TheVariants.{Active, Announced, Begun, Idle, Sealed}
use Rattle.erm_machine.specs.declared.task.Task.{Task}
use Rattle.erm_machine.specs.declared.task.Task.TheVariants as task
use Rattle.erm_machine.specs.Core.{Core, begun, blank}
use Rattle.erm_machine.specs.Lives.{IsPin}
use Rattle.erm_machine.specs.declared.attempt.Claim.{Claim}
use Rattle.erm_machine.specs.declared.attempt.Read.{Read}
use Rattle.erm_machine.specs.Life.{has_ended, is_between, load_tail_to_begin, store_begin}
use Rattle.erm_machine.specs.Seat.{end_of, is_snapshot, may_start, saw, with_current}
use Rattle.erm_machine.specs.Sound.{Sound}
use Rattle.erm_machine.specs.Step.{after_event}
use Rattle.erm_core_calls.proofs.Moving.{met, stepped, taken}
use Rattle.erm_core_view.specs.Views.{IsBetween, IsQuiet, IsStill, pin_of}
use Rattle.erm_core_view.proofs.Snapshots.{starts_or_stands}
use Rattle.erm_core_turns.specs.Turns.{Flushes, blocks_below, gathered_place, log_of}
use Rattle.erm_core_turns.proofs.Turns.{flushes_both, log_same, one_after, part_stepped, quiet_turn, step_flushes}

abbrev F : ℕ
F = FLUSH_SEAT

-- where nothing is pinned the flush seat is idle, and else it is active
idle_at : (pl : Place) (u : Task) (t : Attempt) → IsBetween pl u → IsPin pl → pin_of pl t ≡ None → pl ≡ Idle
idle_at Idle u t between pin none = refl
idle_at (Active tail) u t between pin none = absurd (cc)
idle_at (Sealed tail stamp) u t between pin none = absurd pin
idle_at _ u t between pin none = absurd between

pub record IsPinned (x : Part) : Type 0 where
  pub tail : ℕ
  pub place : x.place ≡ Active tail
  pub starts : may_start x.task ≡ true

pinned_at : (pl : Place) (u : Task) (t : Attempt) → IsBetween pl u → is_snapshot u ≡ false → IsSome (pin_of pl t) → (tail : ℕ) × (pl ≡ Active tail) × (may_start u ≡ true)
pinned_at (Active tail) u t between plain some = (tail, refl, starts_or_stands u between plain)
pinned_at _ u t between plain some = absurd (cc)

module _ (sessions : ℕ) (c : Core) (sound : Sound c) (quiet : IsQuiet sessions c) where
  still : IsStill (c.seats F)
  still = quiet.flusher F refl

  pub unpinned : pin_of (c.seats F).place (c.seats F).current ≡ None → (c.seats F).place ≡ Idle
  unpinned none = idle_at (c.seats F).place (c.seats F).task (c.seats F).current still.rests ((sound.own F).lives.pinned refl) none

  pub is_pinned : IsSome (pin_of (c.seats F).place (c.seats F).current) → IsPinned (c.seats F)
  is_pinned some =
      let at = pinned_at (c.seats F).place (c.seats F).task (c.seats F).current still.rests still.plain some in
      record { tail = at.0; place = at.1; starts = at.2 }

-- the flush seat's part after each step of a begin
abbrev pub first_loaded : ℕ → Part → Part
first_loaded found x = saw found (record x { place = Begun found })

abbrev pub announced : ℕ → Part → Part
announced tail x = record x { place = Announced tail }

abbrev pub pinned_part : ℕ → ℕ → Part → Part
pinned_part tail found x = record x { place = Active tail; task = task.Rest; seen = found; current = begun x.number found }

pub first_steps : (c : Core) → (c.seats F).place ≡ Idle
    → after_event c F (kind.LoadTail purpose.Begin) ≡ Some (stepped c F (kind.LoadTail purpose.Begin) (first_loaded c.shared.tail (c.seats F)))
first_steps c idle =
    taken c F (kind.LoadTail purpose.Begin) (first_loaded c.shared.tail (c.seats F)) tt refl
    (met _ _ _ (ap (load_tail_to_begin F c.shared.tail (c.seats F)) idle) refl)

pub announce_steps : (c : Core) (tail : ℕ) → (c.seats F).place ≡ Begun tail
    → after_event c F (kind.StoreBegin tail) ≡ Some (stepped c F (kind.StoreBegin tail) (announced tail (c.seats F)))
announce_steps c tail at =
    taken c F (kind.StoreBegin tail) (announced tail (c.seats F)) tt refl (met _ _ _ (ap (store_begin F tail (c.seats F)) at) (eq-eqb tail tail refl))

pub second_steps : (c : Core) (tail : ℕ) → (c.seats F).place ≡ Announced tail
    → after_event c F (kind.LoadTail purpose.Begin) ≡ Some (stepped c F (kind.LoadTail purpose.Begin) (pinned_part tail c.shared.tail (c.seats F)))
second_steps c tail at =
    taken c F (kind.LoadTail purpose.Begin) (pinned_part tail c.shared.tail (c.seats F)) tt refl
    (met _ _ _ (ap (load_tail_to_begin F c.shared.tail (c.seats F)) at) refl)

-- after the first of them, the first two, and all three
pub begun_at : (b c : Core) → (b.seats F).place ≡ Idle → after_event b F (kind.LoadTail purpose.Begin) ≡ Some c → c.seats F ≡ first_loaded b.shared.tail (b.seats F)
begun_at b c idle e = part_stepped b c F (kind.LoadTail purpose.Begin) (first_loaded b.shared.tail (b.seats F)) (first_steps b idle) e

pub begun_place : (b c : Core) → (b.seats F).place ≡ Idle → after_event b F (kind.LoadTail purpose.Begin) ≡ Some c → (c.seats F).place ≡ Begun b.shared.tail
begun_place b c idle e = ap (λ (x : Part). x.place) (begun_at b c idle e)

pub announced_place : (c d : Core) (tail : ℕ) → (c.seats F).place ≡ Begun tail → after_event c F (kind.StoreBegin tail) ≡ Some d → (d.seats F).place ≡ Announced tail
announced_place c d tail at e = ap (λ (x : Part). x.place) (part_stepped c d F (kind.StoreBegin tail) (announced tail (c.seats F)) (announce_steps c tail at) e)

pub pin_done : (sessions : ℕ) (b c d e : Core) → IsQuiet sessions b → (b.seats F).place ≡ Idle → after_event b F (kind.LoadTail purpose.Begin) ≡ Some c
    → after_event c F (kind.StoreBegin b.shared.tail) ≡ Some d → after_event d F (kind.LoadTail purpose.Begin) ≡ Some e
    → Flushes b e × IsQuiet sessions e × (log_of sessions e ≡ record (log_of sessions b) { pinned = Some b.shared.tail }) × (d.shared.tail ≡ b.shared.tail)
pin_done sessions b c d e quiet idle one two three =
    let tail : ℕ = b.shared.tail in
    let place = begun_place b c idle one in
    let second = announced_place c d tail place two in
    let was : c.seats F ≡ first_loaded tail (b.seats F) = begun_at b c idle one in
    let next : d.seats F ≡ announced tail (c.seats F) = part_stepped c d F (kind.StoreBegin tail) (announced tail (c.seats F)) (announce_steps c tail place) two in
    let is : e.seats F ≡ pinned_part tail d.shared.tail (d.seats F) =
    part_stepped d e F (kind.LoadTail purpose.Begin) (pinned_part tail d.shared.tail (d.seats F)) (second_steps d tail second) three
    in
    let first_flush : Flushes b c = step_flushes b c (kind.LoadTail purpose.Begin) (first_loaded tail (b.seats F)) tt (first_steps b idle) one refl in
    let second_flush : Flushes c d = step_flushes c d (kind.StoreBegin tail) (announced tail (c.seats F)) tt (announce_steps c tail place) two refl in
    let third_flush : Flushes d e = step_flushes d e (kind.LoadTail purpose.Begin) (pinned_part tail d.shared.tail (d.seats F)) tt (second_steps d tail second) three refl in
    let upto : Flushes b d = flushes_both b c d first_flush second_flush in
    let all : Flushes b e = flushes_both b d e upto third_flush in
    let flushed : e.shared.flushed ≡ b.shared.flushed =
    ap (λ (to : Core). to.shared.flushed) (one_after d e _ F (kind.LoadTail purpose.Begin) (second_steps d tail second) three)
    ∙ ap (λ (to : Core). to.shared.flushed) (one_after c d _ F (kind.StoreBegin tail) (announce_steps c tail place) two)
    ∙ ap (λ (to : Core). to.shared.flushed) (one_after b c _ F (kind.LoadTail purpose.Begin) (first_steps b idle) one)
    in
    let flushing : (e.seats F).flushing ≡ (b.seats F).flushing =
    ap (λ (x : Part). x.flushing) is ∙ ap (λ (x : Part). x.flushing) next ∙ ap (λ (x : Part). x.flushing) was
    in
    let over : (e.seats F).over ≡ [] = all.over ∙ (quiet.flusher F refl).over in
    let begin : pin_of (e.seats F).place (e.seats F).current ≡ Some tail =
    ap (λ (x : Part). pin_of x.place x.current) is ∙ ap (λ (n : ℕ). Some n) upto.shared.tail
    in
    let still : IsStill (e.seats F) = record {
      over = over;
      reads = ap (λ (x : Part). x.current.reads) is;
      writes = ap (λ (x : Part). x.current.writes) is;
      made = ap (λ (x : Part). x.current.made) is;
      rests = subst (λ (x : Part). IsBetween x.place x.task) (sym is) refl;
      plain = ap (λ (x : Part). is_snapshot x.task) is;
      turn = ap is_between flushing ∙ (quiet.flusher F refl).turn;
      run = subst (λ (n : ℕ). n ≤ LAST_RUN) (sym (ap (λ (x : Part). x.run) is ∙ ap (λ (x : Part). x.run) next ∙ ap (λ (x : Part). x.run) was)) (quiet.flusher F refl).run;
    } in
    let opening = all.shared.opening in
    let last = all.shared.tail in
    let low = quiet.flushed.0 in
    let high = quiet.flushed.1 in
    let place_same : gathered_place e.shared.flushed (e.seats F).flushing ≡ gathered_place b.shared.flushed (b.seats F).flushing =
    ap (λ (n : ℕ). gathered_place n (e.seats F).flushing) flushed ∙ ap (gathered_place b.shared.flushed) flushing
    in (
      all,
      quiet_turn sessions b e quiet all still (omega (arith, opening, flushed, low), omega (arith, flushed, last, high)),
      log_same sessions b e quiet all
          ∙ ap (λ (n : ℕ). record (log_of sessions b) { flushed = n; gathered = blocks_below b (gathered_place e.shared.flushed (e.seats F).flushing); pinned = pin_of (e.seats F).place (e.seats F).current }) flushed
          ∙ ap (λ (n : ℕ). record (log_of sessions b) { gathered = blocks_below b n; pinned = pin_of (e.seats F).place (e.seats F).current }) place_same
          ∙ ap (λ (p : Option ℕ). record (log_of sessions b) { pinned = p }) begin,
      upto.shared.tail,
    )

-- THE END of a pin: the begin word is cleared, and nothing is left.
abbrev pub unpinned_part : Part → Part
unpinned_part x = with_current blank (record x { place = Idle; task = task.Rest })

pub end_starts : (u : Task) → may_start u ≡ true → end_of u ≡ Some (0, 0, 0, 0)
end_starts (task.Ends raised ended step cleared) e = absurd (cc)
end_starts (task.Copies word) e = absurd (cc)
end_starts (task.Writes claim word) e = absurd (cc)
end_starts u e = ap (λ (b : Bool). let o : Option (ℕ × ℕ × ℕ × ℕ) = if b then Some (0, 0, 0, 0) else None in o) (or_left (may_start u) (is_snapshot u) e)

ended_none : (t : Task) (x : Attempt) → may_start t ≡ true → x.writes ≡ [] → x.reads ≡ [] → has_ended x (end_of t) ≡ true
ended_none t x starts writes reads =
    ap (λ (e : Option (ℕ × ℕ × ℕ × ℕ)). has_ended x e) (end_starts t starts)
    ∙ and_from (eqb 0 (length x.writes)) (eqb 0 (length x.reads)) (ap (λ (ws : List Claim). eqb 0 (length ws)) writes) (ap (λ (rs : List Read). eqb 0 (length rs)) reads)

pub unpin_steps : (c : Core) → (at : IsPinned (c.seats F)) → IsStill (c.seats F) → after_event c F (kind.StoreBegin 0) ≡ Some (stepped c F (kind.StoreBegin 0) (unpinned_part (c.seats F)))
unpin_steps c at still =
    taken c F (kind.StoreBegin 0) (unpinned_part (c.seats F)) tt refl
    (met _ _ _ (ap (store_begin F 0 (c.seats F)) at.place) (ended_none (c.seats F).task (c.seats F).current at.starts still.writes still.reads))

pub unpin_done : (sessions : ℕ) (b c : Core) → IsQuiet sessions b → IsPinned (b.seats F) → after_event b F (kind.StoreBegin 0) ≡ Some c
    → Flushes b c × IsQuiet sessions c × (log_of sessions c ≡ record (log_of sessions b) { pinned = None })
unpin_done sessions b c quiet at e =
    let still = quiet.flusher F refl in
    let is : c.seats F ≡ unpinned_part (b.seats F) = part_stepped b c F (kind.StoreBegin 0) (unpinned_part (b.seats F)) (unpin_steps b at still) e in
    let all : Flushes b c = step_flushes b c (kind.StoreBegin 0) (unpinned_part (b.seats F)) tt (unpin_steps b at still) e refl in
    let flushed : c.shared.flushed ≡ b.shared.flushed = ap (λ (to : Core). to.shared.flushed) (one_after b c _ F (kind.StoreBegin 0) (unpin_steps b at still) e) in
    let flushing : (c.seats F).flushing ≡ (b.seats F).flushing = ap (λ (x : Part). x.flushing) is in
    let none : pin_of (c.seats F).place (c.seats F).current ≡ None = ap (λ (x : Part). pin_of x.place x.current) is in
    let after : IsStill (c.seats F) = record {
      over = all.over ∙ still.over;
      reads = ap (λ (x : Part). x.current.reads) is;
      writes = ap (λ (x : Part). x.current.writes) is;
      made = ap (λ (x : Part). x.current.made) is;
      rests = subst (λ (x : Part). IsBetween x.place x.task) (sym is) refl;
      plain = ap (λ (x : Part). is_snapshot x.task) is;
      turn = ap is_between flushing ∙ still.turn;
      run = subst (λ (n : ℕ). n ≤ LAST_RUN) (sym (ap (λ (x : Part). x.run) is)) still.run;
    } in
    let opening = all.shared.opening in
    let last = all.shared.tail in
    let low = quiet.flushed.0 in
    let high = quiet.flushed.1 in
    let place_same : gathered_place c.shared.flushed (c.seats F).flushing ≡ gathered_place b.shared.flushed (b.seats F).flushing =
    ap (λ (n : ℕ). gathered_place n (c.seats F).flushing) flushed ∙ ap (gathered_place b.shared.flushed) flushing
    in (
      all,
      quiet_turn sessions b c quiet all after (omega (arith, opening, flushed, low), omega (arith, flushed, last, high)),
      log_same sessions b c quiet all
          ∙ ap (λ (n : ℕ). record (log_of sessions b) { flushed = n; gathered = blocks_below b (gathered_place c.shared.flushed (c.seats F).flushing); pinned = pin_of (c.seats F).place (c.seats F).current }) flushed
          ∙ ap (λ (n : ℕ). record (log_of sessions b) { gathered = blocks_below b n; pinned = pin_of (c.seats F).place (c.seats F).current }) place_same
          ∙ ap (λ (p : Option ℕ). record (log_of sessions b) { pinned = p }) none,
    )
