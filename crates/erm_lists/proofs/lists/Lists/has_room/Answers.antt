use Rattle.std.proofs.Common.{◌≡◌, true, sym, subst, ap, ◌∙◌}
use Rattle.std.specs.Prelude.{Result, Ok, Err, OnOk, is_ok}
use Rattle.erm_machine.specs.Core.{Core}
use Rattle.erm_sound.specs.Kept.{SoundUnder}
use Rattle.erm_core_view.specs.Views.{IsQuiet, view_of}
use Rattle.erm_lists.proofs.lists.Lists.has_room.Goals as goal

-- what holds of a value holds where there is one
where_ok : {A E P : Type 0} (r : Result A E) → OnOk r P → is_ok r ≡ true → P
where_ok (Ok value) holds e = holds
where_ok (Err error) holds e = absurd (cc)

pub returns-clause-room : goal.returns-clause-room
returns-clause-room g c e = where_ok c.room.result c.room.ensures.ok (sym c.is_ok.ensures.value ∙ e)

pub returns-clause-stands : goal.returns-clause-stands
returns-clause-stands g c =
    let same = sym c.room.ensures.core in
    record {
      sound = subst (SoundUnder g.L.RowLaw.law) same c.requires.stands.sound;
      quiet = subst (IsQuiet c.args.self.now.sessions) same c.requires.stands.quiet;
    }

pub returns-clause-view : goal.returns-clause-view
returns-clause-view g c = ap (λ (d : Core). view_of c.args.self.now.sessions d) c.room.ensures.core

pub returns-clause-core : goal.returns-clause-core
returns-clause-core g c = c.room.ensures.core
