use Rattle.erm_world.proofs.Blocks.{chain_stands, one_is_front, one_list}
use Rattle.erm_world.proofs.laws.blocks_are_one.Goals as goal

pub returns-clause-chains : goal.returns-clause-chains
returns-clause-chains g c = chain_stands g.L.RowLaw.law.meets

pub returns-clause-fronts : goal.returns-clause-fronts
returns-clause-fronts g c = λ v run at xs ys is. one_is_front g.L.RowLaw.law v is run at xs ys

pub returns-clause-same : goal.returns-clause-same
returns-clause-same g c = λ v run at xs ys is. one_list g.L.RowLaw.law v is run at xs ys
