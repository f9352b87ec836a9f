-- The own bits are cleared one after another.
use Rattle.std.proofs.Common.{◌≡◌, ℕ, ◌+◌, ◌<◌, true, ◌||◌, List, length, get_or, Option, Some, None, refl, sym, ap, ◌∙◌, subst, arith}
use Rattle.erm_machine.specs.declared.attempt.Decision.TheVariants.{Commit}
use Rattle.erm_machine.specs.declared.event.Kind.TheVariants as kind
use Rattle.erm_machine.specs.declared.part.Part.{Part}
use Rattle.erm_machine.specs.declared.task.Task.{Task}
use Rattle.erm_machine.specs.declared.task.Task.TheVariants as task
use Rattle.erm_machine.specs.Seat.{end_of, is_active, is_decided, read_at, with_task}
use Rattle.erm_model.specs.RowTransaction.{Law}
use Rattle.erm_rule.specs.declared.view.Book.{Book}
use Rattle.erm_rule.specs.declared.view.View.{View}
use Rattle.erm_rule.specs.Hands.{IsKnown}
use Rattle.erm_rule.specs.Steps.{Booked}
use Rattle.erm_rule.specs.Views.{part_in, part_of, with_part}
use Rattle.erm_rule.proofs.Telling.{held_part}
use Rattle.erm_cells.specs.Hands.{clear_kind, cleared_by, next_cleared}
use Rattle.erm_readers.specs.Calls.{cleared_once, DidUnregister, IsClearing}
use Rattle.erm_precommit.specs.declared.pre.KeptRead.{KeptRead}
use Rattle.erm_precommit.specs.Pre.{no_read_kept}
use Rattle.erm_ends.specs.Ends.{DidClearReads, HasCome, MayClearReads}
use Rattle.erm_ends.proofs.Going.{chain, come_part, ending_taken, starts_there}

-- how many bits are cleared, by how far an end has come
abbrev cleared_at : Option (ℕ × ℕ × ℕ × ℕ) → ℕ
cleared_at None = 0
cleared_at (Some e) = e.3

cleared_there : (t : Task) → cleared_by t ≡ cleared_at (end_of t)
cleared_there (task.Ends raised ended step cleared) = refl
cleared_there _ = refl

-- so many bits are cleared
pub record ClearLoop (v : View) (who n : ℕ) (u : View) : Type 0 where
  pub raised : ℕ
  pub step : ℕ
  pub come : HasCome v who (part_of v who) (raised, length (part_of v who).current.writes, step, n) u
  pub all_raised : (part_of v who).current.decision ≡ Commit → raised ≡ length (part_of v who).current.reads

module _ (v : View) (who : ℕ) (kept : List KeptRead) (known : IsKnown v) (may : MayClearReads kept (part_of v who)) where
  abbrev x : Part
  x = part_of v who

  has : part_in v who ≡ Some x
  has = held_part v who (ending_taken x.place may.place)

  pub clears_start : (u : View) → u ≡ v → ClearLoop v who 0 u
  clears_start u same =
      subst (λ (t : View). ClearLoop v who 0 t) (sym same)
      (record { raised = may.raised; step = may.step; come = starts_there v who (may.raised, length x.current.writes, may.step, 0) has known may.ends; all_raised = may.all_raised })

  module _ (u : View) (n : ℕ) (low : n < length kept) (loop : ClearLoop v who n u) where
    abbrev come : HasCome v who x (loop.raised, length x.current.writes, loop.step, n) u
    come = loop.come

    here : part_of u who ≡ with_task come.task x
    here = come_part v who x x (loop.raised, length x.current.writes, loop.step, n) u has come

    within : n < length x.current.reads
    within = let count = may.reads.count in omega (arith, count, low)

    pub clear_ending : (is_decided (part_of u who).place || is_active (part_of u who).place) ≡ true
    clear_ending = ap (λ (z : Part). is_decided z.place || is_active z.place) here ∙ may.place

    pub clear_clearing : IsClearing (part_of u who).current (end_of (part_of u who).task)
    clear_clearing =
        subst (λ (z : Part). IsClearing z.current (end_of z.task)) (sym here)
        (subst (λ (o : Option (ℕ × ℕ × ℕ × ℕ)). IsClearing x.current o) (sym come.ends) (refl, within, loop.all_raised))

    pub clear_cell : (next_cleared (part_of u who)).cell ≡ (get_or kept n no_read_kept).cell
    clear_cell =
        ap (λ (z : Part). (next_cleared z).cell) here
        ∙ ap (λ (m : ℕ). (read_at x.current m).version.cell) (cleared_there come.task ∙ ap cleared_at come.ends)
        ∙ sym (may.reads.each n within).cell

    pub clears_go_on : (w : View) → DidUnregister u who w → ClearLoop v who (n + 1) w
    clears_go_on w did = record {
      raised = loop.raised;
      step = loop.step;
      come = record {
        task = task.Ends loop.raised (length x.current.writes) loop.step (n + 1);
        ends = refl;
        view_is = chain v who u w x (with_task come.task x) (λ z. with_task (cleared_once (end_of z.task)) z) has come.view_is did.view_is
            ∙ ap (λ (o : Option (ℕ × ℕ × ℕ × ℕ)). with_part who (with_task (cleared_once o) x) v) come.ends;
        known = did.known;
      };
      all_raised = loop.all_raised;
    }

    -- the clear is of the read at this place
    pub cleared_next : (law : Law) (m e : Book) (found : ℕ) → Booked law m who (clear_kind (part_of u who)) found e → (word : ℕ) × Booked law m who (kind.ClearReader (read_at x.current n).version) word e
    cleared_next law m e found booked = (
      found,
      subst (λ (k : ℕ). Booked law m who (kind.ClearReader (read_at x.current k).version) found e) (cleared_there come.task ∙ ap cleared_at come.ends)
          (subst (λ (z : Part). Booked law m who (clear_kind z) found e) here booked),
    )

  pub did_clear_all : (u : View) (n : ℕ) → n ≡ length kept → ClearLoop v who n u → DidClearReads v who u
  did_clear_all u n all loop = record {
    raised = loop.raised;
    step = loop.step;
    come = subst (λ (m : ℕ). HasCome v who x (loop.raised, length x.current.writes, loop.step, m) u) (all ∙ may.reads.count) loop.come;
  }
