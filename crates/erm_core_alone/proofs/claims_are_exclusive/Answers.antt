use Rattle.std.proofs.Common.{ap, sym, subst, refl, arith}
use Rattle.erm_model.specs.declared.history.TransactionRecord.{TransactionRecord}
use Rattle.erm_model.specs.History.{Makes}
use Rattle.erm_machine.specs.Decided.{written_of}
use Rattle.erm_machine.proofs.Histories.{history_has}
use Rattle.erm_machine.proofs.Listed.{∈-map_from}
use Rattle.erm_core_alone.specs.Alone.{MayStand}
use Rattle.erm_core_alone.proofs.claims_are_exclusive.Goals as goal

pub returns : goal.returns
returns c core seat t w u sound alone stands claimed within makes less =
    let by = history_has core.seats u within in
    let stamp = ap (λ (r : TransactionRecord). r.stamp) by.is in
    let made = subst (λ (r : TransactionRecord). Makes r w.version.oid) (sym by.is) makes in
    let positive = (sound.own by.seat).decided.positive by.attempt by.stands by.commit in
    let most = (alone seat by.seat).apart t by.attempt w.version.oid w.stamp stands by.stands (written_of w, ∈-map_from written_of t.writes w claimed, refl, refl) made
    (subst MayStand (sym by.commit) tt) positive (omega (arith, stamp, less)) in
    let newest = c.reads_and_claims_are_snapshots.ensures.claims core sound seat t w stands claimed in
    omega (arith, stamp, most, newest.below)
