-- What a session beside others is as a transaction over rows.
use Rattle.std.specs.Prelude.{◌≡◌, ℕ, ◌≤◌, true, is_some}
use Rattle.erm_model.specs.declared.outcome.Phase.TheVariants.{Active}
use Rattle.erm_model.specs.Lawful.{times_made}
use Rattle.erm_model.specs.RowTransaction.{Event, Face, Law}
use Rattle.erm_world.specs.Face.{Answered, Grows}
use Rattle.erm_world.specs.Laws.{FitsWork}
use Rattle.erm_world.specs.Works.{is_claimed, row_read, seen_by}
use Rattle.erm_world.specs.World.{View, phase_at, work_at}
use Rattle.erm_beside.specs.Calls.{After, RefusedBeside}
use Rattle.erm_beside.specs.Ends.{MetBeside}
use Rattle.erm_beside.specs.Laws.{GoesOnward}

-- the session goes on with its transaction, while others go on with theirs
pub record GoesBeside (seat : ℕ) (v t : View) : Type 0 where
  pub own : Grows (v.session seat) (t.session seat)
  pub opening : t.opening ≡ v.opening
  pub tail : v.tail ≤ t.tail
  pub flushed : v.flushed ≤ t.flushed
  pub saves : phase_at t seat ≡ Active → t.saves seat ≡ v.saves seat

-- others went on, and then the call of which this was the event was answered
abbrev pub AnsweredAfter : ℕ → Event → View → View → Type 0
AnsweredAfter seat event v t = After seat (λ u w. Answered u seat event w) v t

-- A session of a seat as a transaction: it may have begun on the arrays that fit its work, and sees what its claims leave laid over them. A
-- refusal is told by its own part, and by what was met of others, whichever world all end in.
abbrev pub beside_face : {S : Type 0} → Law → (S → View) → (S → ℕ) → (S → Type 0) → (S → View → Type 0) → (S → S → Type 0) → Face S
beside_face law own seat stands ends one = record {
  law = law;
  active = λ s. stands s × (phase_at (own s) (seat s) ≡ Active);
  fits = λ s begun. FitsWork law (work_at (own s) (seat s)) begun;
  rows = λ s begun. seen_by (work_at (own s) (seat s)) begun;
  made = λ s x. times_made (work_at (own s) (seat s)).made x;
  claims = λ s x. is_claimed (work_at (own s) (seat s)).claims x ≡ true;
  reads = λ s x. is_some (row_read (work_at (own s) (seat s)).reads x) ≡ true;
  follows = λ s t. one s t × (stands s → stands t) × GoesOnward (seat s) (seat t) (ends s) (ends t) × GoesBeside (seat s) (own s) (own t);
  answers = λ s event t. GoesOnward (seat s) (seat t) (ends s) (ends t) × AnsweredAfter (seat s) event (own s) (own t);
  stops = λ s asked why t. GoesOnward (seat s) (seat t) (ends s) (ends t) × After (seat s) (RefusedBeside (seat s) asked why) (own s) (own t)
      × ((f : View) → ends t f → MetBeside f (seat s) asked why (own s) (own t));
}
