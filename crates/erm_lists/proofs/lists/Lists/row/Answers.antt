use Rattle.std.proofs.Common.{◌≡◌, ℕ, ◌-◌, ◌<◌, List, length, sym, ap, ◌∙◌, subst, arith}
use Rattle.std.specs.Prelude.{slice_index_or}
use Rattle.erm_machine.specs.Core.{Object, newest, no_version, version_at}
use Rattle.erm_machine.specs.declared.version.Version.{Version}
use Rattle.erm_model.specs.History.{rows_after}
use Rattle.erm_core.specs.Cores.{core_of}
use Rattle.erm_core_steps.specs.Pinned.{IsNewestRow}
use Rattle.erm_lists.specs.Stands.{lists_view}
use Rattle.erm_world.specs.World.{history_of}
use Rattle.erm_core_steps.proofs.FinalRows.{commits_below, final_row}
use Rattle.erm_lists.proofs.lists.Lists.row.Goals as goal

pub returns-clause-newest : goal.returns-clause-newest
returns-clause-newest g c =
    let b = core_of c.args.self.now.state in
    let oid = c.args.oid in
    let row : c.last_row.result ≡ (version_at (b.shared.objects oid) (newest (b.shared.objects oid))).words.row =
    c.last_row.ensures ∙ ap (λ (vs : List Version). (slice_index_or vs (length vs - 1) no_version).words.row) c.as_slice.ensures.value
    ∙ ap (λ (o : Object). (version_at o (newest o)).words.row) c.object.ensures
    in
    subst (λ (r : List ℕ). IsNewestRow (lists_view c.args.self.now) oid r (lists_view c.args.self.now).tail) (sym row)
    (final_row c.args.self.now.sessions oid b c.requires.stands.sound.sound c.requires.stands.quiet c.requires.object)

pub returns-clause-serial : goal.returns-clause-serial
returns-clause-serial g c = λ order serial.
    let v = lists_view c.args.self.now in
    let lawful = c.views_are_serializable.ensures c.args.self.now.sessions (core_of c.args.self.now.state) c.requires.stands.sound c.requires.stands.quiet in
    let own = returns-clause-newest g c in
    let positive : 0 < v.tail = (let opened = lawful.opened in let up = lawful.flushed in omega (arith, opened, up.0, up.1)) in
    let rows = c.rows_run_serially.ensures.newest (history_of v) v.opening.rows lawful.snapshots lawful.certified order serial v.tail positive (commits_below g.L.RowLaw.law v lawful) c.args.oid in
    (c.versions_are_unique.ensures.newest (history_of v) v.opening.rows lawful.snapshots lawful.certified c.args.oid v.tail own.stamp rows.0 c.last_row.result
    (rows_after order v.opening.rows c.args.oid) own.newest rows.1).1
