use Rattle.std.proofs.Common.{List, ℕ, Option, refl, ap, ◌∙◌, subst, arith}
use Rattle.erm_model.specs.Rows.{rows_of}
use Rattle.erm_node.specs.TreeMap.{map_of_rows}
use Rattle.erm_outside.specs.Disk.{Step}
use Rattle.erm_recover.specs.Recovering.{state_recovered}
use Rattle.erm_disk_run.specs.Opened.{OpensEachLog}
use Rattle.erm_disk_run.proofs.Opened.{found_told}
use Rattle.erm_disk_run.proofs.log.open_log_on_disk.Goals as goal

pub returns-clause-opened : goal.returns-clause-opened
returns-clause-opened g c =
    let r = c.in_ok-recovered.recovered in
    let read = c.in_ok-recovered.ensures in
    let low = read.low in
    let above = read.above in (
      state_recovered r,
      record {
        found = found_told (g.D.Disk.told c.args.disk.now) r read.recovered (omega (arith, low, above)) read.end read.run read.meets;
        low = c.in_ok-tail.ensures.low;
        run_low = c.in_ok-tail.ensures.run_low;
        rows = refl;
        many = read.count;
        tail = c.in_ok-tail.ensures.tail;
        disk =
            subst (λ (before : Option (List Step)). OpensEachLog (state_recovered r) r.slots before (g.D.Disk.told c.open_recovered.new.disk)) read.told
            c.in_ok-tail.ensures.disk;
        map = c.in_ok-map.ensures ∙ ap (λ (rows : List (List ℕ)). map_of_rows (rows_of rows)) c.deref.ensures.value;
        stamp = refl;
        run = refl;
      },
    )
