use Rattle.std.proofs.Common.{◌≡◌, ℕ, ◌≤◌, ◌<◌, List, [], length, get_or, sym, ◌∙◌, subst, arith}
use Rattle.erm_model.specs.declared.limits.TheConstants.{SESSIONS, TABLE_CELLS}
use Rattle.erm_machine.specs.declared.limits.TheConstants.{FLUSH_SEAT}
use Rattle.erm_machine.specs.declared.place.Place.TheVariants.{Idle}
use Rattle.erm_machine.specs.Sound.{Sound}
use Rattle.erm_ring.specs.Turns.{MayGather}
use Rattle.erm_rule.specs.declared.view.Book.{Book}
use Rattle.erm_rule.specs.Rule.{first_core, first_rows}
use Rattle.erm_rule.specs.declared.view.View.{View}
use Rattle.erm_rule.specs.Views.{MayJoin, part_of}
use Rattle.erm_shared_session.specs.Handing.{HasHandedOut}
use Rattle.erm_sound.specs.Kept.{SoundUnder}
use Rattle.erm_table_world.proofs.Opening.{first_meets, first_unreached, row_wide}
use Rattle.erm_engine.specs.Opened.{IsUnflushed}
use Rattle.erm_engine.proofs.GivenUp.{new_idle}
use Rattle.erm_engine.proofs.Handed.{opened_rows, opened_serializable, rest_gathers, rest_joins, rest_unpinned}
use Rattle.erm_engine.proofs.Unflushed.{first_unflushed}
use Rattle.erm_engine.proofs.opening.open.Goals as goal

pub give_sessions-requires-clause-given : goal.give_sessions-requires-clause-given
give_sessions-requires-clause-given g c =
    let o = c.args.opening.now in
    let law = g.L.RowLaw.law in
    let r = c.requires in
    let count = sym o.rows.ok.0 ∙ r.rows in
    let wide = subst (λ (l : List (List ℕ)). (oid : ℕ) → oid < length l → length (get_or l oid []) ≡ 16) c.as_slice.ensures.value c.rows_are_whole.ensures in
    let positive : 0 < o.tail = (let behind = r.positive in omega (arith, behind)) in
    let handed =
    c.sessions_handed_out_may_call.ensures.first o r.none positive r.low r.first (row_wide o count wide) (first_meets o count law c.respects_rows.ensures r.meets)
    (first_unreached o count law c.respects_rows.ensures r.meets r.unreached)
    in
    record {
      fits = c.in_ok-table.ensures.fits;
      handed = subst (λ (b : Book). HasHandedOut law o 0 b) (sym c.in_ok-table.ensures.book) handed;
      unflushed = subst (λ (b : Book). IsUnflushed o b) (sym c.in_ok-table.ensures.book) (first_unflushed o);
    }

pub end_all-requires : goal.end_all-requires
end_all-requires g c = record { idle = new_idle g.L.RowLaw.law c.in_ok-table.table c.args.opening.now c.args.sessions c.in_ok-given.given.items c.in_ok-given.ensures.sessions }

pub returns-in-Ok : goal.returns-in-Ok
returns-in-Ok g c =
    let o = c.args.opening.now in
    let law = g.L.RowLaw.law in
    let r = c.requires in
    let count = sym o.rows.ok.0 ∙ r.rows in
    let wide = subst (λ (l : List (List ℕ)). (oid : ℕ) → oid < length l → length (get_or l oid []) ≡ 16) c.as_slice.ensures.value c.rows_are_whole.ensures in
    let positive : 0 < o.tail = (let behind = r.positive in omega (arith, behind)) in
    let few : o.sessions ≤ SESSIONS = (let none = r.none in omega (arith, none)) in
    let sound : Sound (first_core o) =
    c.openings_are_sound.ensures o.sessions (first_rows o) o.tail o.run o.first TABLE_CELLS few positive r.low r.first (omega arith) (omega arith) (row_wide o count wide)
    in
    let under : SoundUnder law (first_core o) =
    c.openings_are_lawful.ensures o.sessions (first_rows o) o.tail o.run o.first TABLE_CELLS sound (first_meets o count law c.respects_rows.ensures r.meets)
    (first_unreached o count law c.respects_rows.ensures r.meets r.unreached)
    in
    let rest = c.in-Ok.ensures.rest in
    record {
      key = c.in_ok-table.ensures.opening;
      sessions = c.in_ok-given.ensures.sessions;
      idle = c.in-Ok.ensures.idle;
      fits = rest.fits;
      gathers = subst MayGather (sym rest.handed.view_is) (rest_gathers o SESSIONS (omega arith));
      unpinned = subst (λ (v : View). (part_of v FLUSH_SEAT).place ≡ Idle) (sym rest.handed.view_is) (rest_unpinned o SESSIONS (omega arith));
      joins = subst MayJoin (sym rest.handed.view_is) (rest_joins o SESSIONS (omega arith));
      start = rest.handed.start;
      unflushed = rest.unflushed;
      rows = opened_rows o count;
      serializable = opened_serializable law o under;
    }
