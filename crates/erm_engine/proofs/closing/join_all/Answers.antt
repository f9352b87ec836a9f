use Rattle.std.proofs.Common.{map}
use Rattle.erm_rule.specs.Books.{book}
use Rattle.erm_engine.proofs.Joining.{are_joined}
use Rattle.erm_engine.proofs.Taken.{then_taken}
use Rattle.erm_engine.proofs.closing.join_all.Goals as goal

pub returns : goal.returns
returns g c =
    let ss = c.args.sessions.items in
    let ps = c.args.idle.items in
    let a = book c.args.flush.now in
    let m = book c.take_sessions.new.p in
    let e = book c.take_passes.new.p in
    let taken = then_taken (map (λ s. book s.pass) ss) (map book ps) a m e c.take_sessions.ensures.taken c.take_passes.ensures.taken in
    let idle = c.requires.idle in
    record {
      fits = c.take_passes.ensures.fits;
      joined = are_joined g.L.RowLaw.law c.args.table.now ss ps _ idle.0 idle.1 a e taken c.requires.sessions idle.2;
      taken = taken;
    }
