use Rattle.std.proofs.Common.{◌≡◌}
use Rattle.erm_sound.specs.Kept.{SoundUnder}
use Rattle.erm_core.specs.Cores.{core_of}
use Rattle.erm_lists.proofs.SafeReads.{RowLoop}
use Rattle.erm_lists.proofs.lists.Lists.load_row.Given as goal

abbrev pub invariant-loop-k : goal.invariant-loop-k
invariant-loop-k g l = record {
  sound : SoundUnder g.L.RowLaw.law (core_of l.self.state);
  sessions : l.self.sessions ≡ l.fn.self.sessions;
  rows : RowLoop l.seat l.k l.row (core_of l.fn.self.state) (core_of l.self.state);
}
