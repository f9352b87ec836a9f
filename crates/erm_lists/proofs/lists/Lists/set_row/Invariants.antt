use Rattle.std.proofs.Common.{◌≡◌, ◌≢◌, ℕ, drop}
use Rattle.erm_machine.specs.Step.{run_from}
use Rattle.erm_sound.specs.Kept.{SoundUnder}
use Rattle.erm_core.specs.Cores.{core_of}
use Rattle.erm_core_view.specs.Steps.{stores_from}
use Rattle.erm_core_steps.specs.Claiming.{IsStoring}
use Rattle.erm_core_steps.specs.Reads.{closed_window}
use Rattle.erm_lists.proofs.lists.Lists.set_row.Given as goal

abbrev pub invariant-loop-k : goal.invariant-loop-k
invariant-loop-k g l = record {
  sound : SoundUnder g.L.RowLaw.law (core_of l.self.state);
  sessions : l.self.sessions ≡ l.fn.self.sessions;
  others : (q : ℕ) → q ≢ l.seat → (core_of l.self.state).seats q ≡ (core_of l.fn.self.state).seats q;
  storing : IsStoring l.seat l.claim l.cell l.k (core_of l.self.state);
  window : closed_window ((core_of l.self.state).seats l.seat).current ≡ closed_window ((core_of l.fn.self.state).seats l.seat).current;
  runs : run_from (core_of l.fn.self.state) (stores_from l.seat l.claim l.cell 0 l.words)
      ≡ run_from (core_of l.self.state) (stores_from l.seat l.claim l.cell l.k (drop l.k l.words));
}
