-- Steps one after another, and what the view shows of them together.
use Rattle.std.proofs.Common.{◌≡◌, ◌≢◌, ℕ, ⊎_elim, true, List, [], ◌∷◌, ◌++◌, Option, Some, None, refl, sym, ap, ◌∙◌, subst}
use Rattle.std.proofs.lemmas.Bool.{cases_eq, cond-true}
use Rattle.std.proofs.Math.Path.{fun_ext}
use Rattle.erm_model.specs.declared.history.VersionWritten.{VersionWritten}
use Rattle.erm_machine.specs.declared.attempt.Attempt.{Attempt}
use Rattle.erm_machine.specs.declared.event.Event.{Event}
use Rattle.erm_machine.specs.declared.event.Kind.{Kind}
use Rattle.erm_machine.specs.declared.event.Kind.TheVariants as kind
use Rattle.erm_machine.specs.declared.limits.TheConstants.{FLUSH_SEAT}
use Rattle.erm_machine.specs.declared.part.Part.{Part}
use Rattle.erm_machine.specs.declared.place.Place.{Place}
use Rattle.erm_machine.specs.declared.place.Place.TheVariants.{Active}
use Rattle.erm_machine.specs.Core.{Core, Shared, spot_of, word_at}
use Rattle.erm_machine.specs.Lawful.{opening_rows}
use Rattle.erm_machine.specs.Step.{after_event, core_step, is_known, moved, part_after, run_from, shared_after, step_to, told}
use Rattle.erm_machine.specs.Words.{put}
use Rattle.erm_machine.proofs.Frames.{put_other, put_same}
use Rattle.erm_world.specs.Calls.{Becomes, KeepsSaves}
use Rattle.erm_world.specs.World.{GivenUp, Opening, Session, View, phase_of}
use Rattle.erm_world.proofs.Saves.{becomes_then, without}
use Rattle.erm_core_view.specs.Steps.{MeetsOne}
use Rattle.erm_core_view.specs.Views.{pin_of, session_of, view_of}

-- the first event is taken, and the others follow
pub taken : (c d : Core) (seat : ℕ) (k : Kind) (es : List Event) → after_event c seat k ≡ Some d → run_from c (record { seat = seat; kind = k } ∷ es) ≡ run_from d es
taken c d seat k es e = ap (λ (o : Option Core). run_from (step_to c (told k (word_at c (spot_of seat k))) o).1 es) e

-- three events of a seat are taken
pub three_taken : (c d e f : Core) (seat : ℕ) (j k l : Kind) → after_event c seat j ≡ Some d → after_event d seat k ≡ Some e → after_event e seat l ≡ Some f
    → run_from c (record { seat = seat; kind = j } ∷ record { seat = seat; kind = k } ∷ record { seat = seat; kind = l } ∷ []) ≡ f
three_taken c d e f seat j k l first second third =
    let last : List Event = record { seat = seat; kind = l } ∷ [] in
    taken c d seat j (record { seat = seat; kind = k } ∷ last) first ∙ taken d e seat k last second ∙ taken e f seat l [] third

-- a step whose guard is met
pub goes : (c : Core) (seat : ℕ) (k : Kind) (y : Part) → MeetsOne k → is_known k ≡ true → part_after seat k (word_at c (spot_of seat k)) c.shared (c.seats seat) ≡ Some y
    → after_event c seat k ≡ Some (record { shared = shared_after seat k (word_at c (spot_of seat k)) (c.seats seat) c.shared; seats = put c.seats seat y })
goes c seat (kind.Split other) y one known e = absurd one
goes c seat (kind.Join other) y one known e = absurd one
goes c seat k y one known e =
    cond-true (is_known k) (moved seat k (word_at c (spot_of seat k)) c (part_after seat k (word_at c (spot_of seat k)) c.shared (c.seats seat))) None known
    ∙ ap (λ (o : Option Part). moved seat k (word_at c (spot_of seat k)) c o) e

-- a seat's own steps, which change its part alone
pub record Alone (seat : ℕ) (c : Core) (y : Part) (d : Core) : Type 0 where
  pub shared : d.shared ≡ c.shared
  pub others : (q : ℕ) → q ≢ seat → d.seats q ≡ c.seats q
  pub own : d.seats seat ≡ y

pub alone_put : (seat : ℕ) (c : Core) (y : Part) → Alone seat c y (record { shared = c.shared; seats = put c.seats seat y })
alone_put seat c y = record { shared = refl; others = λ q other. put_other c.seats seat y q other; own = put_same c.seats seat y }

pub alone_then : (seat : ℕ) (c : Core) (y : Part) (d : Core) (z : Part) (e : Core) → Alone seat c y d → Alone seat d z e → Alone seat c z e
alone_then seat c y d z e first second = record {
  shared = second.shared ∙ first.shared;
  others = λ q other. second.others q other ∙ first.others q other;
  own = second.own;
}

-- two transactions of one place that begin at one place are one pin, if that place is one of a pin
pub pin_same : (pl : Place) (t u : Attempt) → u.begin ≡ t.begin → pin_of pl u ≡ pin_of pl t
pin_same (Active tail) t u begin = ap (λ (n : ℕ). Some n) begin
pin_same _ t u begin = refl

-- it pins as before where it isn't the flush seat, or its part has the same pin
pub alone_pins : (sessions seat : ℕ) (c : Core) (y : Part) (d : Core) → Alone seat c y d → (seat ≡ FLUSH_SEAT → pin_of y.place y.current ≡ pin_of (c.seats seat).place (c.seats seat).current)
    → (view_of sessions d).pinned ≡ (view_of sessions c).pinned
alone_pins sessions seat c y d alone pin =
    ⊎_elim
    (λ (here : seat ≡ FLUSH_SEAT).
    subst (λ n. pin_of (d.seats n).place (d.seats n).current ≡ pin_of (c.seats n).place (c.seats n).current) here (ap (λ (x : Part). pin_of x.place x.current) alone.own ∙ pin here))
    (λ (other : seat ≡ FLUSH_SEAT → ⊥). ap (λ (x : Part). pin_of x.place x.current) (alone.others FLUSH_SEAT (λ same. other (sym same))))
    (cases_eq seat FLUSH_SEAT)

-- the view of a state tells no savepoints
pub unsaved : (sessions seat : ℕ) (c d : Core) (s : Session) → KeepsSaves (view_of sessions c) seat s (view_of sessions d)
unsaved sessions seat c d s = record { own = without s.stand (session_of (c.seats seat)).stand; others = λ q other. refl }

pub alone_shows : (sessions seat : ℕ) (c : Core) (y : Part) (d : Core) (s : Session) → Alone seat c y d
    → (seat ≡ FLUSH_SEAT → pin_of y.place y.current ≡ pin_of (c.seats seat).place (c.seats seat).current) → session_of y ≡ s → Becomes (view_of sessions c) seat s (view_of sessions d)
alone_shows sessions seat c y d s alone pin is = record {
  own = ap session_of alone.own ∙ is;
  others = λ q other. ap session_of (alone.others q other);
  opening = ap (λ (shared : Shared). opening_from sessions shared) alone.shared;
  tail = ap (λ (shared : Shared). shared.tail) alone.shared;
  flushed = ap (λ (shared : Shared). shared.flushed) alone.shared;
  pinned = alone_pins sessions seat c y d alone pin;
  given_up = refl;
  saves = unsaved sessions seat c d s;
}
  where
    opening_from : ℕ → Shared → Opening
    opening_from sessions shared = record {
      rows = opening_rows shared;
      tail = shared.opening;
      run = shared.run;
      first = shared.first;
      cells = shared.cell_limit;
      sessions = sessions;
      cuts = 0;
    }

-- it still is what it was
pub becomes_same : (sessions seat : ℕ) (c d e : Core) → Becomes (view_of sessions c) seat (session_of (c.seats seat)) (view_of sessions d)
    → Becomes (view_of sessions d) seat (session_of (d.seats seat)) (view_of sessions e) → Becomes (view_of sessions c) seat (session_of (c.seats seat)) (view_of sessions e)
becomes_same sessions seat c d e first second =
    subst (λ (s : Session). Becomes (view_of sessions c) seat s (view_of sessions e)) first.own
    (becomes_then (view_of sessions c) seat (session_of (c.seats seat)) (view_of sessions d) (session_of (d.seats seat)) (view_of sessions e)
    (λ active. ap (λ (s : Session). phase_of s.stand) (sym first.own) ∙ active) first second)

-- a world whose session becomes what it was is the same, with the same savepoints
same_fields : (o p : Opening) (s r : ℕ → Session) (tail end flushed synced : ℕ) (pin pinned : Option ℕ) (given up : ℕ → List GivenUp) (held kept : ℕ → List (List VersionWritten)) → o ≡ p → s ≡ r → tail ≡ end → flushed ≡ synced
    → pin ≡ pinned → given ≡ up → held ≡ kept
    → ◌≡◌ {A = View} (record { opening = o; session = s; tail = tail; flushed = flushed; pinned = pin; given_up = given; saves = held })
    (record { opening = p; session = r; tail = end; flushed = synced; pinned = pinned; given_up = up; saves = kept })
same_fields o p s r tail end flushed synced pin pinned given up held kept a b c d e f g = cc

pub same_view : (v : View) (seat : ℕ) (t : View) → t.saves ≡ v.saves → Becomes v seat (v.session seat) t → t ≡ v
same_view v seat t saves becomes =
    let sessions : t.session ≡ v.session = fun_ext (λ q.
    ⊎_elim (λ (same : q ≡ seat). subst (λ (n : ℕ). t.session n ≡ v.session n) (sym same) becomes.own)
    (λ (other : q ≡ seat → ⊥). becomes.others q other) (cases_eq q seat)) in
    same_fields t.opening v.opening t.session v.session t.tail v.tail t.flushed v.flushed t.pinned v.pinned t.given_up v.given_up t.saves v.saves becomes.opening sessions becomes.tail becomes.flushed becomes.pinned
    becomes.given_up saves

-- events behind others
pub run_append : (es fs : List Event) (c : Core) → run_from c (es ++ fs) ≡ run_from (run_from c es) fs
run_append [] fs c = refl
run_append (e ∷ es) fs c = run_append es fs (core_step c e).1
