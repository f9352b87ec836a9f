-- A begin: the tail is loaded, announced, and loaded once more.
use Rattle.std.proofs.Common.{◌≡◌, ◌≢◌, ℕ, ◌+◌, ◌<◌, ◌≤◌, Bool, true, false, ◌&&◌, not, leb, List, length, map, Some, refl, sym, ap, ◌∙◌, subst, arith}
use Rattle.std.specs.Prelude.{if◌then◌else◌}
use Rattle.std.proofs.lemmas.Bool.{and_from, cond-true, cond-false, eq-eqb, le-leb, lt-ltb, or_right}
use Rattle.std.proofs.lemmas.List.{length-map}
use Rattle.erm_model.specs.declared.outcome.Phase.TheVariants as phase
use Rattle.erm_machine.specs.declared.attempt.Attempt.{Attempt}
use Rattle.erm_machine.specs.declared.event.Kind.{Kind}
use Rattle.erm_machine.specs.declared.event.Kind.TheVariants as kind
use Rattle.erm_machine.specs.declared.event.TailUse.TheVariants as purpose
use Rattle.erm_machine.specs.declared.limits.TheConstants.{LAST_NUMBER, STOP}
use Rattle.erm_machine.specs.declared.part.Part.{Part}
use Rattle.erm_machine.specs.declared.place.Place.{Place}
use Rattle.erm_machine.specs.declared.place.Place.TheVariants.{Active, Announced, Begun, Idle, Sealed}
use Rattle.erm_machine.specs.declared.task.Task.{Task}
use Rattle.erm_machine.specs.declared.task.Task.TheVariants as task
use Rattle.erm_machine.specs.Core.{Core, begun}
use Rattle.erm_machine.specs.Life.{load_tail_to_begin, next_number, store_begin}
use Rattle.erm_machine.specs.Lives.{in_progress}
use Rattle.erm_machine.specs.Seat.{has_number, saw}
use Rattle.erm_machine.specs.Sound.{Sound}
use Rattle.erm_machine.specs.Step.{after_event}
use Rattle.erm_machine.specs.Words.{is_flusher, is_session, refuses}
use Rattle.erm_core_calls.proofs.Moving.{met, stepped, taken}
use Rattle.erm_core_view.specs.Views.{IsBetween, IsQuiet, finished_of, session_of, stand_of, view_of, work_of}
use Rattle.erm_core_view.proofs.Chained.{unsaved}
use Rattle.erm_core_view.proofs.Moved.{changes_one}
use Rattle.erm_core_view.proofs.Snapshots.{shown_not_idle}
use Rattle.erm_world.specs.Calls.{DidBegin}
use Rattle.erm_world.specs.World.{Finished, IsSession, Opening, Session, Stand, View, Work, phase_at, phase_of}
use Rattle.erm_world.specs.World as world
use Rattle.erm_core_steps.specs.Steps.{IsTaken}
use Rattle.erm_core_steps.proofs.Aborts.{no_flusher, session_plain}
use Rattle.erm_core_steps.proofs.Quiet.{quiet_after, session_of_few}
use Rattle.erm_core_steps.proofs.Unseen.{others_stay, unseen_step}
use Rattle.erm_core_turns.proofs.Turns.{part_stepped}

-- a session without a transaction
pub record IsIdle (seat : ℕ) (c : Core) : Type 0 where
  pub session : is_session seat ≡ true
  pub idle : (c.seats seat).place ≡ Idle
  pub rests : (c.seats seat).task ≡ task.Rest

idle_place : (pl : Place) (u : Task) (t : Attempt) → IsBetween pl u → phase_of (stand_of pl u t) ≡ phase.Idle → (pl ≡ Idle) × (u ≡ task.Rest)
idle_place Idle u t between e = (refl, between)
idle_place (Active tail) u t between e = absurd (shown_not_idle u t e)
idle_place (Sealed tail stamp) u t between e = absurd (cc)
idle_place _ u t between e = absurd between

pub idle_seat : (sessions seat : ℕ) (c : Core) → IsQuiet sessions c → IsSession (view_of sessions c) seat → phase_at (view_of sessions c) seat ≡ phase.Idle → IsIdle seat c
idle_seat sessions seat c quiet session idle =
    let at = idle_place (c.seats seat).place (c.seats seat).task (c.seats seat).current (quiet.between seat session.0 session.1) idle in
    record { session = session_of_few sessions seat c quiet session.0 session.1; idle = at.0; rests = at.1 }

-- its last number is the count of its transactions that are over
pub numbers_over : (seat : ℕ) (c : Core) → Sound c → IsIdle seat c → (c.seats seat).number ≡ length (session_of (c.seats seat)).over
numbers_over seat c sound at =
    let all = (sound.own seat).lives.number (session_plain seat at.session) in
    let none : in_progress (c.seats seat).place ≡ 0 = ap in_progress at.idle in
    let same : length (map finished_of (c.seats seat).over) ≡ length (c.seats seat).over = length-map (c.seats seat).over finished_of in
    omega (arith, all, none, same)

has_one : (seat : ℕ) (x : Part) → x.number < LAST_NUMBER → has_number seat x ≡ true
has_one seat x less = or_right (is_flusher seat) _ (lt-ltb x.number LAST_NUMBER less)

-- the part after the first load, the announcement and the second load
abbrev pub first_loaded : ℕ → ℕ → Part → Part
first_loaded seat found x = saw found (record x { place = if refuses seat found then Idle else Begun found })

abbrev pub announced : ℕ → Part → Part
announced tail x = record x { place = Announced tail }

abbrev pub second_loaded : ℕ → ℕ → ℕ → Part → Part
second_loaded seat tail found x = record x {
  place = Active tail;
  task = task.Rest;
  seen = found;
  number = next_number seat x.number;
  current = begun (next_number seat x.number) found;
}

first_steps : (seat : ℕ) (c : Core) → IsIdle seat c → (c.seats seat).number < LAST_NUMBER
    → after_event c seat (kind.LoadTail purpose.Begin) ≡ Some (stepped c seat (kind.LoadTail purpose.Begin) (first_loaded seat c.shared.tail (c.seats seat)))
first_steps seat c at less =
    taken c seat (kind.LoadTail purpose.Begin) (first_loaded seat c.shared.tail (c.seats seat)) tt refl
    (met _ _ _ (ap (load_tail_to_begin seat c.shared.tail (c.seats seat)) at.idle) (has_one seat (c.seats seat) less))

pub first_taken : (seat : ℕ) (c : Core) → IsIdle seat c → (c.seats seat).number < LAST_NUMBER → IsTaken c seat (kind.LoadTail purpose.Begin)
first_taken seat c at less = (_, first_steps seat c at less)

refuses_high : (seat tail : ℕ) → is_session seat ≡ true → STOP ≤ tail → refuses seat tail ≡ true
refuses_high seat tail session high = and_from _ _ (ap not (session_plain seat session)) (le-leb STOP tail high)

refuses_low : (seat tail : ℕ) → tail < STOP → refuses seat tail ≡ false
refuses_low seat tail low = and_none (not (is_flusher seat)) (leb STOP tail) (lt_leb STOP tail low)
  where
    lt_leb : (m n : ℕ) → n < m → leb m n ≡ false
    lt_leb m n less = grind arith

    and_none : (a b : Bool) → b ≡ false → (a && b) ≡ false
    and_none true b e = e
    and_none false b e = refl

-- an idle session shows no work
idle_stands : (pl : Place) (u : Task) (t : Attempt) → pl ≡ Idle → stand_of pl u t ≡ world.idle
idle_stands pl u t e = ap (λ (p : Place). stand_of p u t) e

-- The tail is at the end of the log: the session stays as it was.
pub log_ends : (sessions seat : ℕ) (c d : Core) → Sound c → IsQuiet sessions c → IsSession (view_of sessions c) seat → IsIdle seat c → (c.seats seat).number < LAST_NUMBER
    → STOP ≤ c.shared.tail → after_event c seat (kind.LoadTail purpose.Begin) ≡ Some d → IsQuiet sessions d × (view_of sessions d ≡ view_of sessions c)
log_ends sessions seat c d sound quiet session at less high e =
    let k : Kind = kind.LoadTail purpose.Begin in
    let tail0 : ℕ = c.shared.tail in
    let is : d.seats seat ≡ first_loaded seat tail0 (c.seats seat) = part_stepped c d seat k (first_loaded seat tail0 (c.seats seat)) (first_steps seat c at less) e in
    let place : (d.seats seat).place ≡ Idle = ap (λ (y : Part). y.place) is ∙ cond-true (refuses seat tail0) Idle (Begun tail0) (refuses_high seat tail0 at.session high) in
    let rests : (d.seats seat).task ≡ task.Rest = ap (λ (y : Part). y.task) is ∙ at.rests in
    let over : map finished_of (d.seats seat).over ≡ map finished_of (c.seats seat).over = ap (λ (y : Part). map finished_of y.over) is in
    let stand : stand_of (d.seats seat).place (d.seats seat).task (d.seats seat).current ≡ stand_of (c.seats seat).place (c.seats seat).task (c.seats seat).current =
    idle_stands (d.seats seat).place (d.seats seat).task (d.seats seat).current place ∙ sym (idle_stands (c.seats seat).place (c.seats seat).task (c.seats seat).current at.idle)
    in
    let made : List Finished → Stand → Session = λ fs s. record { over = fs; stand = s } in
    let shows : session_of (d.seats seat) ≡ session_of (c.seats seat) =
    ap (λ (fs : List Finished). made fs (stand_of (d.seats seat).place (d.seats seat).task (d.seats seat).current)) over ∙ ap (λ (s : Stand). made (map finished_of (c.seats seat).over) s) stand
    in
    let unseen = unseen_step sessions seat c d k sound tt refl refl e shows in
    let opening : d.shared.opening ≡ c.shared.opening = ap (λ (v : View). v.opening.tail) unseen.view in
    let flushed : d.shared.flushed ≡ c.shared.flushed = ap (λ (v : View). v.flushed) unseen.view in
    let tail : d.shared.tail ≡ c.shared.tail = ap (λ (v : View). v.tail) unseen.view in
    let low_ = quiet.flushed.0 in
    let high_ = quiet.flushed.1 in (
      quiet_after sessions seat c d quiet session unseen.others opening (between_idle (d.seats seat).place (d.seats seat).task place rests)
          (subst (λ (y : Part). 0 < y.current.stamp → y.current.size ≡ world.size_of (work_of y.current)) (sym is) (quiet.sized seat session.0 session.1))
          (omega (arith, opening, flushed, low_), omega (arith, tail, flushed, high_)),
      unseen.view,
    )
  where
    between_idle : (pl : Place) (u : Task) → pl ≡ Idle → u ≡ task.Rest → IsBetween pl u
    between_idle pl u place rests = subst (λ (p : Place). IsBetween p u) (sym place) rests

-- The tail is announced, and loaded once more.
pub begun_at : (seat : ℕ) (b c : Core) → IsIdle seat b → (b.seats seat).number < LAST_NUMBER → b.shared.tail < STOP → after_event b seat (kind.LoadTail purpose.Begin) ≡ Some c
    → c.seats seat ≡ record (saw b.shared.tail (b.seats seat)) { place = Begun b.shared.tail }
begun_at seat b c at less low e =
    let k : Kind = kind.LoadTail purpose.Begin in
    let tail : ℕ = b.shared.tail in
    let is : c.seats seat ≡ first_loaded seat tail (b.seats seat) = part_stepped b c seat k (first_loaded seat tail (b.seats seat)) (first_steps seat b at less) e in
    is ∙ ap (λ (r : Bool). saw tail (record (b.seats seat) { place = if r then Idle else Begun tail })) (refuses_low seat tail low)

announce_steps : (seat tail : ℕ) (c : Core) → (c.seats seat).place ≡ Begun tail
    → after_event c seat (kind.StoreBegin tail) ≡ Some (stepped c seat (kind.StoreBegin tail) (announced tail (c.seats seat)))
announce_steps seat tail c at =
    taken c seat (kind.StoreBegin tail) (announced tail (c.seats seat)) tt refl (met _ _ _ (ap (store_begin seat tail (c.seats seat)) at) (eq-eqb tail tail refl))

pub announce_taken : (seat tail : ℕ) (c : Core) → (c.seats seat).place ≡ Begun tail → IsTaken c seat (kind.StoreBegin tail)
announce_taken seat tail c at = (_, announce_steps seat tail c at)

pub announced_at : (seat tail : ℕ) (c d : Core) → (c.seats seat).place ≡ Begun tail → after_event c seat (kind.StoreBegin tail) ≡ Some d → d.seats seat ≡ announced tail (c.seats seat)
announced_at seat tail c d at e = part_stepped c d seat (kind.StoreBegin tail) (announced tail (c.seats seat)) (announce_steps seat tail c at) e

second_steps : (seat tail : ℕ) (c : Core) → (c.seats seat).place ≡ Announced tail → (c.seats seat).number < LAST_NUMBER
    → after_event c seat (kind.LoadTail purpose.Begin) ≡ Some (stepped c seat (kind.LoadTail purpose.Begin) (second_loaded seat tail c.shared.tail (c.seats seat)))
second_steps seat tail c at less =
    taken c seat (kind.LoadTail purpose.Begin) (second_loaded seat tail c.shared.tail (c.seats seat)) tt refl
    (met _ _ _ (ap (load_tail_to_begin seat c.shared.tail (c.seats seat)) at) (has_one seat (c.seats seat) less))

pub second_taken : (seat tail : ℕ) (c : Core) → (c.seats seat).place ≡ Announced tail → (c.seats seat).number < LAST_NUMBER → IsTaken c seat (kind.LoadTail purpose.Begin)
second_taken seat tail c at less = (_, second_steps seat tail c at less)

pub not_idle : (pl : Place) (tail : ℕ) → pl ≡ Announced tail → pl ≢ Idle
not_idle pl tail at = λ idle. let same : Announced tail ≡ Idle = sym at ∙ idle in absurd (cc)

-- what is known after the announcement
pub record IsAnnounced (seat : ℕ) (b c : Core) : Type 0 where
  pub place : (c.seats seat).place ≡ Announced b.shared.tail
  pub number : (c.seats seat).number ≡ (b.seats seat).number
  pub over : (c.seats seat).over ≡ (b.seats seat).over

pub is_announced : (seat : ℕ) (b c d : Core) → IsIdle seat b → (b.seats seat).number < LAST_NUMBER → b.shared.tail < STOP → after_event b seat (kind.LoadTail purpose.Begin) ≡ Some c
    → after_event c seat (kind.StoreBegin b.shared.tail) ≡ Some d → IsAnnounced seat b d
is_announced seat b c d at less low first second =
    let tail : ℕ = b.shared.tail in
    let one = begun_at seat b c at less low first in
    let two = announced_at seat tail c d (ap (λ (y : Part). y.place) one) second in
    record {
      place = ap (λ (y : Part). y.place) two;
      number = ap (λ (y : Part). y.number) two ∙ ap (λ (y : Part). y.number) one;
      over = ap (λ (y : Part). y.over) two ∙ ap (λ (y : Part). y.over) one;
    }

pub begin_done : (sessions seat : ℕ) (b c d e : Core) → Sound b → Sound c → Sound d → IsQuiet sessions b → IsSession (view_of sessions b) seat → IsIdle seat b
    → (b.seats seat).number < LAST_NUMBER → b.shared.tail < STOP → after_event b seat (kind.LoadTail purpose.Begin) ≡ Some c
    → after_event c seat (kind.StoreBegin b.shared.tail) ≡ Some d → after_event d seat (kind.LoadTail purpose.Begin) ≡ Some e
    → IsQuiet sessions e × DidBegin (view_of sessions b) seat d.shared.tail (view_of sessions e)
begin_done sessions seat b c d e sound_b sound_c sound_d quiet session at less low first second third =
    let k : Kind = kind.LoadTail purpose.Begin in
    let n : Kind = kind.StoreBegin b.shared.tail in
    let come = is_announced seat b c d at less low first second in
    let same = come.number in
    let begin : ℕ = d.shared.tail in
    let last : ℕ = next_number seat (d.seats seat).number in
    let is : e.seats seat ≡ second_loaded seat b.shared.tail begin (d.seats seat) =
    part_stepped d e seat k (second_loaded seat b.shared.tail begin (d.seats seat)) (second_steps seat b.shared.tail d come.place (omega (arith, less, same))) third
    in
    let one = changes_one sessions seat b c k sound_b tt first in
    let two = changes_one sessions seat c d n sound_c tt second in
    let three = changes_one sessions seat d e k sound_d tt third in
    let others : (q : ℕ) → q ≢ seat → e.seats q ≡ b.seats q =
    λ q other. others_stay d e seat k tt third q other ∙ others_stay c d seat n tt second q other ∙ others_stay b c seat k tt first q other
    in
    let opening : (view_of sessions e).opening ≡ (view_of sessions b).opening = three.opening ∙ two.opening ∙ one.opening in
    let flushed : e.shared.flushed ≡ b.shared.flushed = three.flushed ∙ two.flushed ∙ one.flushed in
    let tail_one = one.tail in
    let tail_two = two.tail in
    let tail_three = three.tail in
    let tail : e.shared.tail ≡ b.shared.tail = omega (arith, tail_one, tail_two, tail_three) in
    let opened : e.shared.opening ≡ b.shared.opening = ap (λ (o : Opening). o.tail) opening in
    let over : map finished_of (d.seats seat).over ≡ map finished_of (b.seats seat).over = ap (λ (ts : List Attempt). map finished_of ts) come.over in
    let all = numbers_over seat b sound_b at in
    let more : last ≡ (d.seats seat).number + 1 = cond-false (is_flusher seat) (d.seats seat).number ((d.seats seat).number + 1) (session_plain seat at.session) in
    let number : last ≡ length (map finished_of (b.seats seat).over) + 1 = omega (arith, more, same, all) in
    let made : List Finished → ℕ → Session = λ fs m. record { over = fs; stand = world.active (world.begun m begin) } in
    let stamp : (e.seats seat).current.stamp ≡ 0 = ap (λ (y : Part). y.current.stamp) is in
    let within = quiet.flushed.0 in
    let below = quiet.flushed.1 in (
      quiet_after sessions seat b e quiet session others (ap (λ (o : Opening). o.tail) opening) (subst (λ (y : Part). IsBetween y.place y.task) (sym is) refl) (λ some. absurd (omega (arith, some, stamp)))
          (omega (arith, opened, flushed, within), omega (arith, tail, flushed, below)),
      (
        omega (arith, all, less),
        low,
        omega (arith, tail_one, tail_two),
        record {
          own =
              ap session_of is ∙ ap (λ (fs : List Finished). made fs last) over ∙ ap (λ (m : ℕ). made (map finished_of (b.seats seat).over) m) number;
          others = λ q other. ap session_of (others q other);
          opening = opening;
          tail = tail;
          flushed = flushed;
          pinned = (let other = no_flusher seat at.session in three.pinned other ∙ two.pinned other ∙ one.pinned other);
          given_up = refl;
          saves = unsaved sessions seat b e (made (map finished_of (b.seats seat).over) (length (map finished_of (b.seats seat).over) + 1));
        },
      ),
    )
