use Rattle.std.proofs.Common.{◌∙◌, refl, arith}
use Rattle.std.proofs.lemmas.Result.{err_from_is_err_and}
use Rattle.erm_ckpt.specs.Checkpoint.{checkpoint_of}
use Rattle.erm_ship.proofs.Laying.{is_laid}
use Rattle.erm_ship.proofs.base.lay_base.Goals as goal

pub returns-in_err-slot-clause-laid : goal.returns-in_err-slot-clause-laid
returns-in_err-slot-clause-laid g c = let p = err_from_is_err_and c.from_residual.result c.from_residual.ensures.1 in rw p.1 tt

pub returns-in_err-slot-clause-misses : goal.returns-in_err-slot-clause-misses
returns-in_err-slot-clause-misses g c = let p = err_from_is_err_and c.from_residual.result c.from_residual.ensures.1 in rw (p.1, p.2) c.in_err-slot.ensures.misses

pub returns-clause-laid : goal.returns-clause-laid
returns-clause-laid g c =
    let is = is_laid (g.D.Disk.told c.args.disk.now) c.args.slots.now c.in_ok-slot.slot c.find_base.new.rows (c.find_base.auto.rows ∙ c.requires.rows) c.in_ok-slot.ensures.found c.spell_base-size.ensures.is c.spell_base-size.ensures.rows in
    record {
      checkpoint = checkpoint_of c.in_ok-slot.slot c.find_base.new.rows;
      is = is.is;
      few = omega (arith, c.spell_base-size.ensures.few, c.spell_base-size.auto.words);
      words_are = c.spell_base-size.ensures.spelled;
      at = refl;
      run = refl;
      recovers = is.recovers;
    }
