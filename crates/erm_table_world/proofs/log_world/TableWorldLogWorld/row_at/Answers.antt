use Rattle.std.proofs.Common.{ℕ, Option, IfSome, ap, sym, subst}
use Rattle.erm_core_steps.specs.Pinned.{IsNewestRow}
use Rattle.erm_core_steps.proofs.Lasting.{row_lasts}
use Rattle.erm_rule.specs.Books.{book}
use Rattle.erm_rule.specs.Went.{core_of}
use Rattle.erm_world.specs.Log.{Log}
use Rattle.erm_table_world.specs.Stands.{table_log, table_view}
use Rattle.erm_core_steps.proofs.Results.{err_to, ok_to}
use Rattle.erm_table_world.proofs.Turned.{after_turn, for_some, some_pin, still_keeps, still_stands, table_kept}
use Rattle.erm_table_world.proofs.log_world.TableWorldLogWorld.row_at.Goals as goal

pub row_at-requires-clause-stands : goal.row_at-requires-clause-stands
row_at-requires-clause-stands g c = for_some g.L.RowLaw.law c.args.self.now c.requires.stands.stands

pub row_at-requires-clause-pinned : goal.row_at-requires-clause-pinned
row_at-requires-clause-pinned g c =
    let w = c.args.self.now in
    let stands = c.requires.stands.stands in
    some_pin (table_log w).pinned w.pin c.requires.pinned stands.pin

pub returns-clause-stands : goal.returns-clause-stands
returns-clause-stands g c =
    let w = c.args.self.now in
    let stands = c.requires.stands.stands in
    let done = c.row_at.ensures in
    c.standing_worlds_have_laws.ensures (after_turn w c.row_at.new.p w.pin)
    (still_stands g.L.RowLaw.law w stands c.row_at.new.p done.fits (done.turned w.count stands.at) (ap (λ (log : Log). log.pinned) (done.same w.count stands.at)))

pub returns-clause-keeps : goal.returns-clause-keeps
returns-clause-keeps g c =
    let w = c.args.self.now in
    let stands = c.requires.stands.stands in
    let done = c.row_at.ensures in
    still_keeps g.L.RowLaw.law w stands c.row_at.new.p done.fits (done.turned w.count stands.at) (ap (λ (log : Log). log.pinned) (done.same w.count stands.at))

pub returns-clause-same : goal.returns-clause-same
returns-clause-same g c = let stands = c.requires.stands.stands in c.row_at.ensures.same c.args.self.now.count stands.at

pub returns-clause-row : goal.returns-clause-row
returns-clause-row g c =
    let w = c.args.self.now in
    let stands = c.requires.stands.stands in
    ok_to c.row_at.result _ _ (λ row told. told w.count stands.at) c.row_at.ensures.row

pub returns-clause-clear : goal.returns-clause-clear
returns-clause-clear g c =
    let w = c.args.self.now in
    let stands = c.requires.stands.stands in
    ok_to c.row_at.result _ _ (λ row told. told w.count stands.at) c.row_at.ensures.clear

pub returns-clause-lasts : goal.returns-clause-lasts
returns-clause-lasts g c =
    let law = g.L.RowLaw.law in
    let w = c.args.self.now in
    let stands = c.requires.stands.stands in
    let done = c.row_at.ensures in
    let to = after_turn w c.row_at.new.p w.pin in
    let now = still_stands law w stands c.row_at.new.p done.fits (done.turned w.count stands.at) (ap (λ (log : Log). log.pinned) (done.same w.count stands.at)) in
    let pin = some_pin (table_log w).pinned w.pin c.requires.pinned stands.pin in
    ok_to c.row_at.result _ _
    (λ row newest later keeps.
    let standing = keeps.stands now in
    let d = core_of (book later.pass) in
    let serial = c.views_are_serializable.ensures later.count d standing.at.state.sound standing.at.quiet in
    row_lasts law c.blocks_are_a_log_list.ensures c.logs_go_on.ensures.more (table_view to) (table_log w) later.count d standing.at.state.sound standing.at.quiet serial (table_kept to later keeps.sessions) c.args.oid row
    (subst (λ (o : Option ℕ). IfSome o (IsNewestRow (table_view to) c.args.oid row)) (sym pin) (newest w.count stands.at)))
    done.newest

pub returns-clause-wait : goal.returns-clause-wait
returns-clause-wait g c =
    let w = c.args.self.now in
    let stands = c.requires.stands.stands in
    err_to c.row_at.result _ _ (λ wait told. told w.count stands.at) c.row_at.ensures.wait
