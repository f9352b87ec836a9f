use Rattle.std.proofs.Common.{◌≡◌, ap, ◌∙◌, sym, refl, subst, Some}
use Rattle.std.specs.Prelude.{slice_index}
use Rattle.erm_core.specs.Cores.{core_of}
use Rattle.erm_core_steps.specs.Steps.{IsTaken, found_in}
use Rattle.erm_machine.specs.declared.event.Kind.TheVariants as kind
use Rattle.erm_machine.specs.declared.version.CellWord.TheVariants as word
use Rattle.erm_machine.specs.declared.version.VersionAt.{VersionAt}
use Rattle.erm_machine.specs.Core.{version_at}
use Rattle.erm_machine.specs.Step.{after_event}
use Rattle.erm_lists.specs.Snapshots.{version_found}
use Rattle.erm_lists.proofs.SafeReads.{row_goes_on, row_loaded, row_starts, row_taken}
use Rattle.erm_lists.proofs.lists.Lists.load_row.Goals as goal

pub loop-k-init : goal.loop-k-init
loop-k-init g c = record { sound = c.requires.sound; sessions = refl; rows = row_starts c.args.seat _ (core_of c.args.self.now.state) refl }

pub go-requires-clause-taken : goal.go-requires-clause-taken
go-requires-clause-taken g c =
    let seat = c.args.seat in
    let start = core_of c.args.self.now.state in
    let now = core_of c.loop-k.self.state in
    let inv = c.loop-k.invariant in
    let same : c.version_found-version.result ≡ version_found (start.seats seat).task = c.version_found-version.ensures ∙ ap version_found c.task.ensures in
    subst (λ (v : VersionAt). IsTaken now seat (kind.LoadCell v (word.Row c.loop-k.k))) (sym same)
    (row_taken seat start c.requires.sound.sound c.requires.reader c.requires.found c.loop-k.k c.loop-k.row now inv.sound.sound inv.rows c.loop-k-test.true)

pub loop-k-preserved : goal.loop-k-preserved
loop-k-preserved g c =
    let seat = c.args.seat in
    let start = core_of c.args.self.now.state in
    let now = core_of c.loop-k.self.state in
    let after = core_of c.go.new.self.state in
    let inv = c.loop-k.invariant in
    let k = c.loop-k.k in
    let same : c.version_found-version.result ≡ version_found (start.seats seat).task = c.version_found-version.ensures ∙ ap version_found c.task.ensures in
    let found =
    c.found.ensures ∙ ap found_in c.go.ensures.answer ∙ ap (λ (v : VersionAt). slice_index (version_at (now.shared.objects v.oid) v.place).words.row k) same
    in
    let event = subst (λ (v : VersionAt). after_event now seat (kind.LoadCell v (word.Row k)) ≡ Some after) same c.go.ensures.after in
    record {
      sound = c.go.ensures.sound;
      sessions = c.go.ensures.sessions ∙ inv.sessions;
      rows =
          row_goes_on seat start c.requires.sound.sound c.requires.reader c.requires.found k c.loop-k.row now inv.sound.sound inv.rows after c.found.result
          c.loop-k-test.true event found;
    }

pub returns-clause-looks : goal.returns-clause-looks
returns-clause-looks g c = c.loop-k.invariant.rows.looks

pub returns-clause-stays : goal.returns-clause-stays
returns-clause-stays g c = c.loop-k.invariant.rows.stays

pub returns-clause-row : goal.returns-clause-row
returns-clause-row g c =
    let inv = c.loop-k.invariant in
    row_loaded c.args.seat (core_of c.args.self.now.state) c.requires.sound.sound c.requires.reader c.requires.found c.loop-k.k c.loop-k.row (core_of c.loop-k.self.state)
    inv.sound.sound inv.rows c.loop-k-test.false
