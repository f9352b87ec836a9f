use Rattle.erm_model.specs.History.{below}
use Rattle.erm_safe_laws.proofs.Between.{stands_between}
use Rattle.erm_safe_laws.proofs.safe_snapshots_have_a_place.Goals as goal

pub returns : goal.returns
returns c h opening snapshot certified order serial b some safe =
    let late = c.safe_stamps_divide.ensures h opening snapshot certified b safe in
    let own = c.serial_order_is_unique.ensures.exists (below b h) (c.prefixes_stand_alone.ensures.certified h certified b) in
    stands_between h opening order b certified late serial own.0 own.1 (c.rows_run_serially.ensures.newest_below h opening snapshot certified b own.0 own.1 some)
    (λ oid stamp other_stamp row other first second. (c.versions_are_unique.ensures.newest h opening snapshot certified oid b stamp other_stamp row other first second).1)
