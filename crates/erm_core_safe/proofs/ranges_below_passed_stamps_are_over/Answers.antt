use Rattle.erm_core_safe.proofs.Stamps.{below_decided, none_below}
use Rattle.erm_core_safe.proofs.ranges_below_passed_stamps_are_over.Goals as goal

pub returns-clause-nobody : goal.returns-clause-nobody
returns-clause-nobody g c b oid sound passed q holds = none_below c b sound passed oid q holds

pub returns-clause-decided : goal.returns-clause-decided
returns-clause-decided g c b sound passed q t m some low = below_decided c b sound passed q t m some low
