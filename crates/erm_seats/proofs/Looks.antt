-- The one step of a look.
use Rattle.std.proofs.Common.{◌≡◌, ◌≢◌, ℕ, ◌<◌, ◌≤◌, Bool, true, false, ◌&&◌, not, eqb, leb, length, get_or, max, Some, refl, ap, ◌∙◌, subst, arith, get_or-set_same}
use Rattle.std.specs.Prelude.{if◌then◌else◌}
use Rattle.std.proofs.lemmas.Bool.{le-leb, ne_eqb}
use Rattle.erm_machine.specs.declared.limits.TheConstants.{ANNOUNCERS}
use Rattle.erm_machine.specs.declared.event.Kind.TheVariants as kind
use Rattle.erm_machine.specs.declared.part.Part.{Part}
use Rattle.erm_machine.specs.Core.{Core}
use Rattle.erm_machine.specs.Life.{after_clear, noted}
use Rattle.erm_machine.specs.Seat.{is_vacant}
use Rattle.erm_machine.specs.Sound.{Sound}
use Rattle.erm_machine.specs.Words.{is_clear, is_seat}
use Rattle.erm_rule.specs.declared.view.View.{View}
use Rattle.erm_rule.specs.Steps.{Ready, Told}
use Rattle.erm_rule.specs.Views.{part_in, part_of, with_part, IsView}
use Rattle.erm_rule.proofs.Parts.{with_part-same}
use Rattle.erm_rule.specs.Hands.{IsKnown}
use Rattle.erm_rule.proofs.Numbered.{known_after}
use Rattle.erm_rule.proofs.Telling.{ready_by, told_first, part_of-changed}
use Rattle.erm_seats.specs.Calls.{clear_part, FindsState, StaysClear}
use Rattle.erm_seats.proofs.Beginning.{some_when, when_is}

-- the law of notes
abbrev pub NotesHold : Type 0
NotesHold = (c : Core) (v : View) (who q bound : ℕ) (x : Part) → Sound c → IsView v c → part_in v who ≡ Some x → q ≢ who → bound ≤ get_or x.clear q 0 → 0 < (c.seats q).current.stamp → bound ≤ (c.seats q).current.stamp

three : (a b c : Bool) → a ≡ false → b ≡ false → c ≡ true → (not a && not b && c) ≡ true
three a b c e f g = cc

-- a seat with words has a note
has_note : (seat : ℕ) → is_seat seat ≡ true → seat < ANNOUNCERS
has_note seat words = grind arith

abbrev looked_part : ℕ → ℕ → ℕ → Part → Part
looked_part seat bound found x = record x {
  task = if is_clear found bound then after_clear seat bound x x.task else x.task;
  clear = if is_clear found bound then noted seat bound x.clear else x.clear;
}

module _ (v : View) (who : ℕ) (x : Part) (has : part_in v who ≡ Some x) (seat bound : ℕ) where
  pub ready_look : is_vacant x.place ≡ false → seat ≢ who → bound ≤ x.seen → Ready v who (kind.LoadState seat bound)
  ready_look taken other low =
      ready_by v who (kind.LoadState seat bound) x has
      (λ c sound is. some_when (not (is_vacant x.place) && not (eqb seat who) && leb bound x.seen) _
      (three (is_vacant x.place) (eqb seat who) (leb bound x.seen) taken (ne_eqb seat who other) (le-leb bound x.seen low)))

  module _ (found : ℕ) (w : View) (told : Told v who (kind.LoadState seat bound) found w) where
    looked_view : w ≡ with_part who (looked_part seat bound found x) v
    looked_view =
        told_first v who (kind.LoadState seat bound) found w x (looked_part seat bound found x) has told
        (λ s z e. when_is (not (is_vacant x.place) && not (eqb seat who) && leb bound x.seen) (looked_part seat bound found x) z e)

    pub clear_view : is_clear found bound ≡ true → w ≡ with_part who (clear_part seat bound x) v
    clear_view clear =
        looked_view
        ∙ ap (λ (b : Bool). with_part who (record x { task = if b then after_clear seat bound x x.task else x.task; clear = if b then noted seat bound x.clear else x.clear }) v) clear

    pub same_view : is_clear found bound ≡ false → w ≡ v
    same_view unclear =
        looked_view
        ∙ ap (λ (b : Bool). with_part who (record x { task = if b then after_clear seat bound x x.task else x.task; clear = if b then noted seat bound x.clear else x.clear }) v) unclear
        ∙ with_part-same who x v told.in_order has

    pub finds : FindsState v seat found
    finds = record { core = told.before; sound = told.sound; is_view = told.is_view; state_is = told.met }

    bound_noted : is_seat seat ≡ true → bound ≤ get_or (noted seat bound x.clear) seat 0
    bound_noted words =
        let as_many : length x.clear ≡ ANNOUNCERS = subst (λ (z : Part). length z.clear ≡ ANNOUNCERS) (told.is_view who x has) (told.sound.own who).clear.notes in
        let low : seat < ANNOUNCERS = has_note seat words in
        let is = get_or-set_same x.clear seat (max (get_or x.clear seat 0) bound) 0 (omega (arith, as_many, low)) in
        omega (arith, is)

    -- now and for ever
    pub stays_clear : NotesHold → seat ≢ who → is_seat seat ≡ true → is_clear found bound ≡ true → StaysClear who seat bound (part_of w who).clear
    stays_clear notes_hold other words clear c u y sound sees there at_least unfinished =
        let now : part_of w who ≡ clear_part seat bound x = part_of-changed v who w (clear_part seat bound x) x has (clear_view clear) in
        let more : get_or (noted seat bound x.clear) seat 0 ≤ get_or y.clear seat 0 = subst (λ (z : Part). get_or z.clear seat 0 ≤ get_or y.clear seat 0) now (at_least seat) in
        let noted_one = bound_noted words in
        notes_hold c u who seat bound y sound sees there other (omega (arith, noted_one, more)) unfinished

  -- the two answers, by the word found
  module _ (found : ℕ) (w : View) (told : Told v who (kind.LoadState seat bound) found w) where
    pub did_wait : is_clear found bound ≡ false → (seat ≡ seat) × FindsState v seat found × (is_clear found bound ≡ false) × (w ≡ v) × IsKnown w
    did_wait unclear = (refl, finds found w told, unclear, same_view found w told unclear, known_after v who (kind.LoadState seat bound) found w told)

    pub did_clear : is_clear found bound ≡ true → ((n : ℕ) × FindsState v seat n × (is_clear n bound ≡ true)) × (w ≡ with_part who (clear_part seat bound x) v) × IsKnown w
    did_clear clear = ((found, finds found w told, clear), clear_view found w told clear, known_after v who (kind.LoadState seat bound) found w told)
