use Rattle.erm_rule.specs.Steps.{Fits}
use Rattle.erm_rule.specs.Views.{part_of}
use Rattle.erm_cells.specs.Placed.{place_of}
use Rattle.erm_cells.proofs.Heading.{HeadLoop, heading}
use Rattle.erm_cells.proofs.head_words.store_head.Given as goal
use Rattle.erm_cells.specs.Heads.{head_value_at, head_word_at}
use Rattle.erm_cells.specs.Took.{TookStores}

abbrev pub invariant-loop-step : goal.invariant-loop-step
invariant-loop-step g l =
    Fits l.t.words.shared.table_id l.p
    × HeadLoop l.fn.p.me.0.view l.who (heading (place_of l.cell (part_of l.fn.p.me.0.view l.who)) l.stamp l.older l.step (part_of l.fn.p.me.0.view l.who)) l.p.me.0.view
    × TookStores g.L.RowLaw.law l.who (place_of l.cell (part_of l.fn.p.me.0.view l.who)) l.cell head_word_at (λ n. head_value_at l.stamp l.older (head_word_at n)) l.step l.fn.p.me.0 l.p.me.0
