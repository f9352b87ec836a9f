use Rattle.std.proofs.Common.{Some}
use Rattle.erm_model.proofs.Stays.{after_all-staying_ops, staying_among, staying_ops_on_map}
use Rattle.erm_model.proofs.laws.what_stays_leaves_the_map.Goals as goal

pub returns-clause-among : goal.returns-clause-among
returns-clause-among c ops op there = (staying_among Some ops op there, staying_ops_on_map ops op there)

pub returns-clause-after : goal.returns-clause-after
returns-clause-after c = after_all-staying_ops
