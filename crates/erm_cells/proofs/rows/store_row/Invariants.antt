use Rattle.erm_rule.specs.Steps.{Fits}
use Rattle.erm_cells.proofs.Storing.{RowLoop}
use Rattle.erm_cells.proofs.rows.store_row.Given as goal
use Rattle.erm_rule.specs.Views.{part_of}
use Rattle.std.specs.Prelude.{slice_index}
use Rattle.erm_machine.specs.declared.version.CellWord.TheVariants as word
use Rattle.erm_cells.specs.Placed.{place_of}
use Rattle.erm_cells.specs.Took.{TookStores}

abbrev pub invariant-loop-k : goal.invariant-loop-k
invariant-loop-k g l = Fits l.t.words.shared.table_id l.p × RowLoop l.fn.p.me.0.view l.who l.cell l.k l.row l.p.me.0.view × TookStores g.L.RowLaw.law l.who (place_of l.cell (part_of l.fn.p.me.0.view l.who)) l.cell (λ n. word.Row n) (λ n. slice_index l.row n) l.k l.fn.p.me.0 l.p.me.0
