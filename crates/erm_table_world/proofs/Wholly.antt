-- What each step of a pass with all seats makes of its one state.
use Rattle.std.proofs.Common.{◌≡◌, ◌≢◌, ◌⊎◌, ◌≤◌, inl, inr, ℕ, true, List, [], ◌∷◌, Option, Some, unwrap_or, refl, sym, ap, ◌∙◌, subst, arith}
use Rattle.erm_model.specs.declared.limits.TheConstants.{TABLE_CELLS}
use Rattle.erm_model.specs.RowTransaction.{Law}
use Rattle.erm_machine.specs.declared.event.Kind.{Kind}
use Rattle.erm_machine.specs.declared.event.Kind.TheVariants as kind
use Rattle.erm_machine.specs.declared.part.Part.{Part}
use Rattle.erm_machine.specs.declared.place.Place.TheVariants.{Vacant}
use Rattle.erm_machine.specs.Core.{Core, Shared, fresh_part, spot_of, word_at}
use Rattle.erm_machine.specs.Lawful.{Lawful}
use Rattle.erm_machine.specs.Sound.{Sound}
use Rattle.erm_machine.specs.Step.{after_event, part_after}
use Rattle.erm_machine.specs.Words.{is_seat, is_session}
use Rattle.erm_core_blocks.specs.Spelled.{AreSpelled}
use Rattle.erm_core_ring.proofs.Begins.{begins_kept}
use Rattle.erm_core_view.specs.Steps.{MeetsOne}
use Rattle.erm_core_view.specs.Views.{view_of}
use Rattle.erm_core_view.proofs.Moved.{changes_one}
use Rattle.erm_core_stays.proofs.Numbers.{rises}
use Rattle.erm_core_steps.proofs.Unseen.{others_stay}
use Rattle.erm_rule.specs.declared.view.Book.{Book}
use Rattle.erm_rule.specs.declared.view.Held.{Held}
use Rattle.erm_rule.specs.declared.view.Taken.{Taken}
use Rattle.erm_rule.specs.declared.view.View.{View}
use Rattle.erm_rule.specs.Steps.{Booked}
use Rattle.erm_rule.specs.Hands.{IsKnown}
use Rattle.erm_rule.specs.Newest.{CutsAtNewest}
use Rattle.erm_rule.specs.Views.{IsInOrder, IsView, NotAmong, part_among, part_in, part_of, with_part}
use Rattle.erm_rule.specs.Went.{AreWhole, HasAll, Took, core_of}
use Rattle.erm_rule.proofs.Parts.{none_there, order_after, part_in-same, split_at}
use Rattle.erm_rule.proofs.Whole.{leaves}
use Rattle.erm_model.specs.Member.{◌∈◌}
use Rattle.std.proofs.lemmas.Bool.{eqb-false}
use Rattle.std.specs.Prelude.{◌==◌, if◌then◌else◌, Bool, false}
use Rattle.erm_table_world.specs.Covered.{IsCovered}
use Rattle.erm_table_world.specs.Stands.{IsStateful}
use Rattle.erm_table_world.proofs.Covered.{step_covered}

-- a step that is taken is no split and no join
one_met : (who : ℕ) (k : Kind) (found : ℕ) (s : Shared) (x y : Part) → part_after who k found s x ≡ Some y → MeetsOne k
one_met who (kind.Split other) found s x y e = absurd (cc)
one_met who (kind.Join other) found s x y e = absurd (cc)
one_met who _ found s x y e = tt

-- a step leads from the one state to the next, and has met this word
pub record Runs (law : Law) (b : Book) (who : ℕ) (k : Kind) (found : ℕ) (e : Book) : Type 0 where
  pub one : MeetsOne k
  pub event : after_event (core_of b) who k ≡ Some (core_of e)
  pub met : word_at (core_of b) (spot_of who k) ≡ found
  pub state : IsStateful law e

pub runs : (law : Law) (b : Book) (who : ℕ) (k : Kind) (found : ℕ) (e : Book) → Booked law b who k found e → IsStateful law b → Runs law b who k found e
runs law b who k found e booked state =
    let l = leaves law b who k found e booked state.whole in
    let told = booked.under.told in
    record {
      one = one_met who k found told.before.shared (told.before.seats who) told.part told.part_is;
      event = l.event;
      met = l.met;
      state = record {
        whole = l.whole;
        sound = record {
          sound = subst Sound l.after told.sound_after;
          lawful = subst (λ (z : Core). Lawful law z.shared z.seats) l.after booked.under.lawful_after;
          spelled = subst AreSpelled l.after booked.under.spelled_after;
          begins = begins_kept (core_of b) who k (core_of e) state.sound.sound state.sound.begins l.event;
        };
        is_view = subst (IsView e.view) l.after told.is_view_after;
        in_order = subst IsInOrder (sym told.view_is) (order_after who told.part b.view told.in_order);
        cuts = subst CutsAtNewest l.after told.cuts_after;
        limit = subst (λ (z : Core). z.shared.cell_limit ≡ TABLE_CELLS) l.after told.limit_after;
      };
    }

-- what steps of one seat leave of the others, of the opening, and of how many cells are drawn
pub record Ran (law : Law) (sessions who : ℕ) (b e : Book) : Type 0 where
  pub state : IsStateful law e
  pub others : (q : ℕ) → q ≢ who → (core_of e).seats q ≡ (core_of b).seats q
  pub opening : (view_of sessions (core_of e)).opening ≡ (view_of sessions (core_of b)).opening
  pub covered : is_session who ≡ true → IsCovered (core_of b) → IsCovered (core_of e)
  pub drawn : (core_of b).shared.cells_drawn ≤ (core_of e).shared.cells_drawn

pub ran_none : (law : Law) (sessions who : ℕ) (b : Book) → IsStateful law b → Ran law sessions who b b
ran_none law sessions who b state = record { state = state; others = λ q other. refl; opening = refl; covered = λ session covered. covered; drawn = omega arith }

pub ran_more : (law : Law) (sessions who : ℕ) (b m e : Book) → Ran law sessions who b m → Ran law sessions who m e → Ran law sessions who b e
ran_more law sessions who b m e first second = record {
  state = second.state;
  others = λ q other. second.others q other ∙ first.others q other;
  opening = second.opening ∙ first.opening;
  covered = λ session covered. second.covered session (first.covered session covered);
  drawn = let less = first.drawn in let more = second.drawn in omega (arith, less, more);
}

pub ran_one : (law : Law) (sessions who : ℕ) (k : Kind) (found : ℕ) (b e : Book) → Booked law b who k found e → IsStateful law b → Ran law sessions who b e
ran_one law sessions who k found b e booked state =
    let run = runs law b who k found e booked state in
    record {
      state = run.state;
      others = others_stay (core_of b) (core_of e) who k run.one run.event;
      opening = (changes_one sessions who (core_of b) (core_of e) k state.sound.sound run.one run.event).opening;
      covered = λ session covered. step_covered (core_of b) (core_of e) who session state.sound.sound covered k run.one run.event;
      drawn = (rises (core_of b) (core_of e) who k state.sound.sound run.event).cells_drawn;
    }

pub took_ran : (law : Law) (sessions who : ℕ) (steps : List (Kind × ℕ)) (b e : Book) → Took law who steps b e → IsStateful law b → Ran law sessions who b e
took_ran law sessions who [] b e same state = subst (λ (z : Book). Ran law sessions who b z) (sym same) (ran_none law sessions who b state)
took_ran law sessions who (s ∷ steps) b e took state =
    let first = took_ran law sessions who steps b took.0 took.1 state in
    ran_more law sessions who b took.0 e first (ran_one law sessions who s.0 s.1 took.0 e took.2 first.state)

-- a pass with all seats has each seat's part
held_by : (q : ℕ) (h : Held) (hs : List Held) (t : Bool) → (h.seat == q) ≡ t → (NotAmong q (h ∷ hs) → ⊥) → ((NotAmong q hs → ⊥) → (x : Part) × (part_among q hs ≡ Some x))
    → (x : Part) × (part_among q (h ∷ hs) ≡ Some x)
held_by q h hs true is all rest = (h.part, ap (λ (t : Bool). if t then Some h.part else part_among q hs) is)
held_by q h hs false is all rest =
    let later = rest (λ none. all (λ g among. not_here g none (split_at h g hs among))) in
    (later.0, ap (λ (t : Bool). if t then Some h.part else part_among q hs) is ∙ later.1)
  where
    not_here : (g : Held) → NotAmong q hs → (h ≡ g) ⊎ (g ∈ hs) → g.seat ≢ q
    not_here g none (inl same) = λ at. eqb-false h.seat q is (ap (λ (z : Held). z.seat) same ∙ at)
    not_here g none (inr among) = none g among

held_part : (q : ℕ) (hs : List Held) → (NotAmong q hs → ⊥) → (x : Part) × (part_among q hs ≡ Some x)
held_part q [] all = absurd (all (λ h among. absurd (none_there h among)))
held_part q (h ∷ hs) all = held_by q h hs (h.seat == q) refl all (held_part q hs)

all_held : (v : View) (ms : List Taken) → AreWhole v ms → HasAll v
all_held v [] whole = whole
all_held v (m ∷ ms) whole = whole.0

-- the part that the view has of a seat is the state's
pub part_is : (law : Law) (b : Book) (who : ℕ) → IsStateful law b → is_seat who ≡ true → part_of b.view who ≡ (core_of b).seats who
part_is law b who state seat =
    let held = held_part who b.view.held (all_held b.view b.taken state.whole who seat) in
    ap (λ (o : Option Part). unwrap_or o (fresh_part Vacant 0 0)) held.1 ∙ sym (state.is_view who held.0 held.1)

-- so a part that is set is the state's
pub part_set : (law : Law) (b e : Book) (who : ℕ) (y : Part) → IsStateful law b → IsStateful law e → is_seat who ≡ true → e.view ≡ with_part who y b.view → (core_of e).seats who ≡ y
part_set law b e who y before after seat view =
    let held = held_part who b.view.held (all_held b.view b.taken before.whole who seat) in
    after.is_view who y (subst (λ (v : View). part_in v who ≡ Some y) (sym view) (part_in-same b.view who held.0 y held.1))

-- and the view's
pub part_put : (law : Law) (b : Book) (who : ℕ) (y : Part) → IsStateful law b → is_seat who ≡ true → part_of (with_part who y b.view) who ≡ y
part_put law b who y state seat =
    let held = held_part who b.view.held (all_held b.view b.taken state.whole who seat) in
    ap (λ (o : Option Part). unwrap_or o (fresh_part Vacant 0 0)) (part_in-same b.view who held.0 y held.1)

-- the pass's view is one of a sound state
pub known_of : (law : Law) (b : Book) → IsStateful law b → IsKnown b.view
known_of law b state = record {
  core = core_of b;
  sound = state.sound.sound;
  cuts = state.cuts;
  is_view = state.is_view;
  limit = state.limit;
  in_order = state.in_order;
}
