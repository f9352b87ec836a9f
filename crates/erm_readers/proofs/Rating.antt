-- A version registered is rated: its overwriter's stamp is loaded and, where it has one, that one's successor stamp.
use Rattle.std.proofs.Common.{◌≡◌, ◌≢◌, ℕ, ◌<◌, Bool, true, false, Option, Some, None, refl, sym, ap, ◌∙◌, subst, eqb}
use Rattle.std.specs.Prelude.{if◌then◌else◌}
use Rattle.std.proofs.lemmas.Bool.{eq-eqb, ne_eqb}
use Rattle.erm_machine.specs.declared.event.Kind.TheVariants as kind
use Rattle.erm_machine.specs.declared.limits.TheConstants.{OBJECT_LIMIT}
use Rattle.erm_machine.specs.declared.part.Part.{Part}
use Rattle.erm_machine.specs.declared.task.Task.{Task}
use Rattle.erm_machine.specs.declared.task.Task.TheVariants as task
use Rattle.erm_machine.specs.declared.version.CellWord.TheVariants as word
use Rattle.erm_machine.specs.declared.version.VersionAt.{VersionAt}
use Rattle.erm_machine.specs.Core.{Shared, spot_of, word_at}
use Rattle.erm_machine.specs.Reading.{load_active_stamp}
use Rattle.erm_machine.specs.Seat.{with_task, is_active, same_version, with_succ}
use Rattle.erm_machine.specs.Sound.{Own}
use Rattle.erm_machine.specs.Step.{part_after}
use Rattle.erm_rule.specs.declared.view.View.{View}
use Rattle.erm_rule.specs.Hands.{IsKnown, in_hand}
use Rattle.erm_rule.specs.Steps.{Ready, Told}
use Rattle.erm_rule.specs.Views.{part_in, part_of, with_part}
use Rattle.erm_rule.proofs.Telling.{changed_here, is_held, part_of-changed}
use Rattle.erm_cells.specs.Hands.{rated_at, rated_version, stamp_kind}
use Rattle.erm_cells.proofs.Heads.{has}
use Rattle.erm_cells.proofs.Views.{when_true, first_branch, ready_at, told_is, told_next}
use Rattle.erm_readers.specs.Calls.{DidRateRead, IsRegistered, words_of}
use Rattle.erm_readers.proofs.Loads.{stamp_leaves, stamp_loaded}
use Rattle.erm_readers.proofs.Seats.{known_there, object_met, same_self}

-- the version registered is the one in hand
registered_is : (t : Task) (cell : ℕ) → IsRegistered t cell → t ≡ task.Registered (in_hand t)
registered_is (task.Registered version) cell h = refl
registered_is _ cell h = absurd h

registered_cell : (t : Task) (cell : ℕ) → IsRegistered t cell → (in_hand t).cell ≡ cell
registered_cell (task.Registered version) cell h = h
registered_cell _ cell h = absurd h

rated_there : (x : Part) (t : Task) (cell : ℕ) → IsRegistered t cell → rated_at x t ≡ in_hand t
rated_there x (task.Registered version) cell h = refl
rated_there x _ cell h = absurd h

-- the successor stamp of an overwriter, if there is one
abbrev succ_if : Bool → ℕ → Option ℕ
succ_if none succ = if none then None else Some succ

-- the part rated by an overwriter's stamp and its successor stamp
abbrev rated_by : VersionAt → ℕ → ℕ → Bool → Part → Part
rated_by version overwriter succ none x = record x {
  task = task.Rated version;
  current = if none then x.current else with_succ succ overwriter x.current;
}

module _ (v : View) (who cell : ℕ) (active : is_active (part_of v who).place ≡ true) (registered : IsRegistered (part_of v who).task cell) where
  abbrev x : Part
  x = part_of v who

  abbrev hand : VersionAt
  hand = in_hand x.task

  -- the overwriter's stamp
  pub rates_hand : rated_version x ≡ hand
  rates_hand = rated_there x x.task cell registered

  pub cell_of_rated : (rated_version x).cell ≡ cell
  cell_of_rated = ap (λ (n : VersionAt). n.cell) rates_hand ∙ registered_cell x.task cell registered

  abbrev marked_part : ℕ → Bool → Part
  marked_part found none = with_task (if none then task.Rated hand else task.Overtaken hand found) x

  after_mark : (found : ℕ) (s : Shared) → part_after who (kind.LoadStamp hand word.Overwriter) found s x ≡ Some (marked_part found (eqb found 0))
  after_mark found s =
      first_branch (is_active x.place) (load_active_stamp found hand word.Overwriter x x.task) _ _ active
      (subst (λ (t : Task). load_active_stamp found hand word.Overwriter x t ≡ Some (marked_part found (eqb found 0))) (sym (registered_is x.task cell registered))
      (when_true (same_version hand hand) (marked_part found (eqb found 0)) (same_self hand)))

  ready_hand : Ready v who (kind.LoadStamp hand word.Overwriter)
  ready_hand =
      ready_at v who (kind.LoadStamp hand word.Overwriter) x (has v who active)
      (λ c. marked_part (word_at c (spot_of who (kind.LoadStamp hand word.Overwriter))) (eqb (word_at c (spot_of who (kind.LoadStamp hand word.Overwriter))) 0))
      (λ c sound. after_mark (word_at c (spot_of who (kind.LoadStamp hand word.Overwriter))) c.shared)

  pub ready_mark : Ready v who (stamp_kind x word.Overwriter)
  ready_mark = subst (λ (n : VersionAt). Ready v who (kind.LoadStamp n word.Overwriter)) (sym rates_hand) ready_hand

  object_of_hand : IsKnown v → hand.oid < OBJECT_LIMIT
  object_of_hand known = object_met v who (kind.LoadStamp hand word.Overwriter) hand word.Overwriter known (is_held v who x (has v who active)) tt ready_hand (λ m. m) refl

  pub object_of_rated : IsKnown v → (rated_version x).oid < OBJECT_LIMIT
  object_of_rated known = subst (λ (n : VersionAt). n.oid < OBJECT_LIMIT) (sym rates_hand) (object_of_hand known)

  module _ (known : IsKnown v) (overwriter : ℕ) (u : View) (first : Told v who (stamp_kind x word.Overwriter) overwriter u) where
    mark_told : Told v who (kind.LoadStamp hand word.Overwriter) overwriter u
    mark_told = subst (λ (n : VersionAt). Told v who (kind.LoadStamp n word.Overwriter) overwriter u) rates_hand first

    marked_is : u ≡ with_part who (marked_part overwriter (eqb overwriter 0)) v
    marked_is =
        told_is v who (kind.LoadStamp hand word.Overwriter) overwriter u x (marked_part overwriter (eqb overwriter 0)) (has v who active) mark_told
        (after_mark overwriter mark_told.before.shared)

    -- there is none
    pub did_rate_none : overwriter ≡ 0 → DidRateRead v who None u
    did_rate_none none =
        let now = known_there v who (kind.LoadStamp hand word.Overwriter) overwriter u mark_told in
        let words : (words_of now.core hand).overwriter ≡ 0 = stamp_loaded v who hand (object_of_hand known) overwriter u word.Overwriter mark_told ∙ none in
        record {
          known = now;
          succ_is = sym (ap (λ (b : Bool). succ_if b (words_of now.core hand).overwriter_succ) (eq-eqb (words_of now.core hand).overwriter 0 words));
          view_is = marked_is
              ∙ ap (λ (b : Bool). with_part who (marked_part overwriter b) v) (eq-eqb overwriter 0 none)
              ∙ ap (λ (b : Bool). with_part who (rated_by hand (words_of now.core hand).overwriter (words_of now.core hand).overwriter_succ b x) v)
              (sym (eq-eqb (words_of now.core hand).overwriter 0 words));
        }

    -- its successor stamp
    module _ (some : overwriter ≢ 0) where
      abbrev overtaken : Part
      overtaken = with_task (task.Overtaken hand overwriter) x

      here : u ≡ with_part who overtaken v
      here = marked_is ∙ ap (λ (b : Bool). with_part who (marked_part overwriter b) v) (ne_eqb overwriter 0 some)

      pub has_overtaken : part_in u who ≡ Some overtaken
      has_overtaken = changed_here v who u overtaken x (has v who active) here

      part_is : part_of u who ≡ overtaken
      part_is = part_of-changed v who u overtaken x (has v who active) here

      pub known_overtaken : IsKnown u
      known_overtaken = known_there v who (kind.LoadStamp hand word.Overwriter) overwriter u mark_told

      pub object_of_overtaken : (rated_version (part_of u who)).oid < OBJECT_LIMIT
      object_of_overtaken = subst (λ (z : Part). (rated_version z).oid < OBJECT_LIMIT) (sym part_is) (object_of_hand known)

      pub cell_of_overtaken : (rated_version (part_of u who)).cell ≡ cell
      cell_of_overtaken = ap (λ (z : Part). (rated_version z).cell) part_is ∙ registered_cell x.task cell registered

      pub rates_still : rated_version (part_of u who) ≡ hand
      rates_still = ap (λ (z : Part). rated_version z) part_is

      after_succ : (found : ℕ) (s : Shared) → part_after who (kind.LoadStamp hand word.OverwriterSucc) found s overtaken ≡ Some (rated_by hand overwriter found false x)
      after_succ found s =
          first_branch (is_active x.place) (load_active_stamp found hand word.OverwriterSucc overtaken overtaken.task) _ _ active
          (when_true (same_version hand hand) (rated_by hand overwriter found false x) (same_self hand))

      pub ready_succ : Ready u who (stamp_kind (part_of u who) word.OverwriterSucc)
      ready_succ =
          subst (λ (z : Part). Ready u who (stamp_kind z word.OverwriterSucc)) (sym part_is)
          (ready_at u who (kind.LoadStamp hand word.OverwriterSucc) overtaken has_overtaken
          (λ c. rated_by hand overwriter (word_at c (spot_of who (kind.LoadStamp hand word.OverwriterSucc))) false x)
          (λ c sound. after_succ (word_at c (spot_of who (kind.LoadStamp hand word.OverwriterSucc))) c.shared))

      module _ (succ : ℕ) (w : View) (second : Told u who (stamp_kind (part_of u who) word.OverwriterSucc) succ w) where
        succ_told : Told u who (kind.LoadStamp hand word.OverwriterSucc) succ w
        succ_told = subst (λ (z : Part). Told u who (stamp_kind z word.OverwriterSucc) succ w) part_is second

        rated_is : w ≡ with_part who (rated_by hand overwriter succ false x) v
        rated_is =
            told_next v who (kind.LoadStamp hand word.OverwriterSucc) succ u w overtaken x (rated_by hand overwriter succ false x) (has v who active) here succ_told
            (after_succ succ succ_told.before.shared)

        -- the overwriter's stamp is still the one that was loaded
        own_before : Own succ_told.before.shared who overtaken
        own_before = subst (λ (z : Part). Own succ_told.before.shared who z) (succ_told.is_view who overtaken has_overtaken) (succ_told.sound.own who)

        mark_stays : (words_of succ_told.after hand).overwriter ≡ overwriter
        mark_stays =
            ap (λ (s : Shared). (words_of (record succ_told.after { shared = s }) hand).overwriter)
            (stamp_leaves u who hand (object_of_hand known) succ w word.OverwriterSucc succ_told)
            ∙ own_before.decided.in_hand.0

        pub did_rate : DidRateRead v who (Some succ) w
        did_rate =
            let now = known_there u who (kind.LoadStamp hand word.OverwriterSucc) succ w succ_told in
            let loaded : (words_of now.core hand).overwriter_succ ≡ succ = stamp_loaded u who hand (object_of_hand known) succ w word.OverwriterSucc succ_told in
            record {
              known = now;
              succ_is = ap (λ (n : ℕ). Some n) (sym loaded)
                  ∙ sym (ap (λ (b : Bool). succ_if b (words_of now.core hand).overwriter_succ) (ap (λ (n : ℕ). eqb n 0) mark_stays ∙ ne_eqb overwriter 0 some));
              view_is = rated_is
                  ∙ ap (λ (n : ℕ). with_part who (rated_by hand n succ false x) v) (sym mark_stays)
                  ∙ ap (λ (n : ℕ). with_part who (rated_by hand (words_of now.core hand).overwriter n false x) v) (sym loaded)
                  ∙ ap (λ (b : Bool). with_part who (rated_by hand (words_of now.core hand).overwriter (words_of now.core hand).overwriter_succ b x) v)
                  (sym (ap (λ (n : ℕ). eqb n 0) mark_stays ∙ ne_eqb overwriter 0 some));
            }
