use Rattle.std.proofs.Common.{◌≡◌, ℕ, ◌<◌, List, [], length, get_or, IfSome, sym, ◌∙◌, subst, arith}
use Rattle.erm_model.specs.declared.limits.TheConstants.{TABLE_CELLS}
use Rattle.erm_machine.specs.Sound.{Sound}
use Rattle.erm_sound.specs.Kept.{SoundUnder}
use Rattle.erm_rule.specs.declared.view.Book.{Book}
use Rattle.erm_rule.specs.Rule.{first_core, first_rows}
use Rattle.erm_rule.specs.Went.{core_of}
use Rattle.erm_table_world.specs.Flusher.{pin_in}
use Rattle.erm_table_world.specs.Stands.{AreSessions, StandsAt}
use Rattle.erm_table_world.proofs.Opening.{first_meets, first_sessions, first_stands, first_unpinned, first_unreached, row_wide}
use Rattle.erm_table_world.proofs.table_world.TableWorld.open.Goals as goal

pub returns-clause-stands : goal.returns-clause-stands
returns-clause-stands g c =
    let o = c.args.opening.now in
    let law = g.L.RowLaw.law in
    let r = c.requires in
    let count = sym o.rows.ok.0 ∙ r.rows in
    let wide = subst (λ (l : List (List ℕ)). (oid : ℕ) → oid < length l → length (get_or l oid []) ≡ 16) c.as_slice.ensures.value c.rows_are_whole.ensures in
    let positive : 0 < o.tail = (let behind = r.positive in omega (arith, behind)) in
    let sound : Sound (first_core o) =
    c.openings_are_sound.ensures o.sessions (first_rows o) o.tail o.run o.first TABLE_CELLS r.few positive r.low r.first (omega arith) (omega arith) (row_wide o count wide)
    in
    let under : SoundUnder law (first_core o) =
    c.openings_are_lawful.ensures o.sessions (first_rows o) o.tail o.run o.first TABLE_CELLS sound (first_meets o count law c.respects_rows.ensures r.meets)
    (first_unreached o count law c.respects_rows.ensures r.meets r.unreached)
    in
    let book = c.in_ok-table.ensures.book in
    record {
      fits = c.in_ok-table.ensures.fits;
      at = subst (λ (b : Book). StandsAt law o.sessions b) (sym book) (first_stands o law under r.few r.positive r.run_high);
      count = c.in_ok-sessions.ensures.count;
      sessions = subst (λ (b : Book). AreSessions c.in_ok-sessions.sessions.items (core_of b)) (sym book) (first_sessions o c.in_ok-sessions.sessions.items c.in_ok-sessions.ensures.count r.few c.in_ok-sessions.ensures.new);
      pin = subst (λ (b : Book). IfSome (pin_in b) (λ place. 0 ≡ place)) (sym book) (first_unpinned o 0);
    }
