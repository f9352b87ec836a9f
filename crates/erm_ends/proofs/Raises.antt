-- Reader stamps are raised one after another.
use Rattle.std.proofs.Common.{◌≡◌, ℕ, ◌+◌, ◌<◌, true, List, length, get_or, Some, sym, ap, ◌∙◌, subst, arith}
use Rattle.erm_machine.specs.declared.attempt.Decision.TheVariants.{Commit}
use Rattle.erm_machine.specs.declared.event.Kind.TheVariants as kind
use Rattle.erm_machine.specs.declared.part.Part.{Part}
use Rattle.erm_machine.specs.declared.task.Task.{Task}
use Rattle.erm_machine.specs.declared.task.Task.TheVariants as task
use Rattle.erm_machine.specs.Readers.{raised}
use Rattle.erm_machine.specs.Seat.{is_decided, read_at, with_task}
use Rattle.erm_machine.specs.Sound.{Own}
use Rattle.erm_model.specs.RowTransaction.{Law}
use Rattle.erm_rule.specs.declared.view.Book.{Book}
use Rattle.erm_rule.specs.declared.view.View.{View}
use Rattle.erm_rule.specs.Hands.{IsKnown}
use Rattle.erm_rule.specs.Steps.{Booked}
use Rattle.erm_rule.specs.Views.{part_in, part_of, with_part}
use Rattle.erm_rule.proofs.Parts.{with_part-same}
use Rattle.erm_rule.proofs.Telling.{changed_here, held_part, part_of-changed}
use Rattle.erm_cells.specs.Hands.{next_raised, raise_kind}
use Rattle.erm_readers.specs.Calls.{DidRaise, IsRaising, raised_once}
use Rattle.erm_readers.proofs.Seats.{raised_ending}
use Rattle.erm_precommit.specs.declared.pre.KeptRead.{KeptRead}
use Rattle.erm_precommit.specs.Pre.{no_read_kept}
use Rattle.erm_ends.specs.Commits.{DidRaiseReads, MayRaiseReads}
use Rattle.erm_ends.specs.Took.{WasRaised}
use Rattle.erm_ends.proofs.Going.{chain, ending_taken}
use Rattle.erm_ends.proofs.Leaves.{decided_ends}

-- so many reader stamps are raised
abbrev pub raised_to : ℕ → Part → Part
raised_to n x = with_task (task.Ends n 0 0 0) x

pub record RaiseLoop (v : View) (who n : ℕ) (u : View) : Type 0 where
  pub view_is : u ≡ with_part who (raised_to n (part_of v who)) v
  pub known : IsKnown u

module _ (v : View) (who : ℕ) (kept : List KeptRead) (stamp : ℕ) (known : IsKnown v) (may : MayRaiseReads kept stamp (part_of v who)) where
  abbrev x : Part
  x = part_of v who

  has : part_in v who ≡ Some x
  has = held_part v who (ending_taken x.place (decided_ends x.place may.decided))

  pub raises_start : (u : View) → u ≡ v → RaiseLoop v who 0 u
  raises_start u same = record {
    view_is = same ∙ sym (ap (λ (t : Task). with_part who (with_task t x) v) (sym may.ends) ∙ with_part-same who x v known.in_order has);
    known = subst IsKnown (sym same) known;
  }

  module _ (u : View) (n : ℕ) (low : n < length kept) (loop : RaiseLoop v who n u) where
    within : n < length x.current.reads
    within = let count = may.reads.count in omega (arith, count, low)

    here : part_of u who ≡ raised_to n x
    here = part_of-changed v who u (raised_to n x) x has loop.view_is

    pub raise_decided : is_decided (part_of u who).place ≡ true
    raise_decided = ap (λ (z : Part). is_decided z.place) here ∙ may.decided

    pub raise_committed : (part_of u who).current.decision ≡ Commit
    raise_committed = ap (λ (z : Part). z.current.decision) here ∙ may.committed

    pub raise_raising : IsRaising (part_of u who).current (part_of u who).task
    raise_raising = subst (λ (z : Part). IsRaising z.current z.task) (sym here) within

    pub raise_cell : (next_raised (part_of u who)).cell ≡ (get_or kept n no_read_kept).cell
    raise_cell = ap (λ (z : Part). (next_raised z).cell) here ∙ sym (may.reads.each n within).cell

    pub raise_stamp : (part_of u who).current.stamp ≡ stamp
    raise_stamp = ap (λ (z : Part). z.current.stamp) here ∙ may.stamp_is

    pub raises_go_on : (w : View) → DidRaise u who w → RaiseLoop v who (n + 1) w
    raises_go_on w did = record {
      view_is = chain v who u w x (raised_to n x) (λ z. with_task (raised_once z.task) z) has loop.view_is did.view_is;
      known = did.known;
    }

    -- the raise is pinned to its step
    pub raised_next : (law : Law) (m e : Book) (found : ℕ) → RaiseLoop v who (n + 1) e.view → Booked law m who (raise_kind (part_of u who) stamp) found e
        → WasRaised law who (read_at x.current n).version x.current.stamp m e
    raised_next law m e found then booked = record {
      found = found;
      step = subst (λ (k : ℕ). Booked law m who (kind.RaiseReader (read_at x.current n).version k) found e) (sym may.stamp_is)
          (subst (λ (z : Part). Booked law m who (raise_kind z stamp) found e) here booked);
      raised = λ c of.
          let y : Part = raised_to (n + 1) x in
          let own : Own c.shared who y = subst (λ (z : Part). Own c.shared who z) (of.is_view who y (changed_here v who e.view y x has then.view_is)) (of.sound.own who) in
          let more : raised y ≡ n + 1 = raised_ending x.place y.task (length x.current.reads) (decided_ends x.place may.decided) in
          own.readers.raising may.committed n (omega (arith, more)) within;
    }

  pub did_raise_all : (u : View) (n : ℕ) → n ≡ length kept → RaiseLoop v who n u → DidRaiseReads v who u
  did_raise_all u n all loop =
      let same : n ≡ length x.current.reads = all ∙ may.reads.count in
      record {
        view_is = subst (λ (m : ℕ). u ≡ with_part who (raised_to m x) v) same loop.view_is;
        known = loop.known;
      }
