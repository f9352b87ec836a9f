use Rattle.std.proofs.Common.{◌≡◌, ℕ, ap, ◌∙◌, sym, refl, subst}
use Rattle.erm_core.specs.Cores.{core_of}
use Rattle.erm_core_view.specs.Views.{IsQuiet, view_of}
use Rattle.erm_machine.specs.Core.{Shared, version_at}
use Rattle.erm_lists.specs.Snapshots.{has_found, object_in_hand, version_found}
use Rattle.erm_lists.proofs.SafeLooks.{looks_both, safe_seat}
use Rattle.erm_lists.proofs.SafeReads.{entry_looks, entry_taken, found_at, head_task, read_done, still_reads}
use Rattle.erm_lists.proofs.lists.Lists.safe_read.Goals as goal

pub go-requires-clause-taken : goal.go-requires-clause-taken
go-requires-clause-taken g c =
    let n = c.args.self.now.sessions in
    let seat = c.args.seat in
    let oid = c.args.oid in
    let before = core_of c.args.self.now.state in
    let at = safe_seat n seat before c.requires.stands.quiet c.requires.session c.requires.safe in
    entry_taken before seat oid at c.requires.object

pub walk_safe-requires-clause-reader : goal.walk_safe-requires-clause-reader
walk_safe-requires-clause-reader g c =
    let n = c.args.self.now.sessions in
    let seat = c.args.seat in
    let oid = c.args.oid in
    let before = core_of c.args.self.now.state in
    let at = safe_seat n seat before c.requires.stands.quiet c.requires.session c.requires.safe in
    let loaded = core_of c.go.new.self.state in
    let entry = entry_looks before loaded seat oid at c.requires.object c.go.ensures.after in
    still_reads seat (head_task before oid) before loaded at entry refl

pub load_row-requires-clause-found : goal.load_row-requires-clause-found
load_row-requires-clause-found g c =
    let n = c.args.self.now.sessions in
    let seat = c.args.seat in
    let oid = c.args.oid in
    let before = core_of c.args.self.now.state in
    let at = safe_seat n seat before c.requires.stands.quiet c.requires.session c.requires.safe in
    let loaded = core_of c.go.new.self.state in
    let entry = entry_looks before loaded seat oid at c.requires.object c.go.ensures.after in
    let found = core_of c.walk_safe.new.self.state in
    let there =
    found_at (found.seats seat).task oid (c.walk_safe.ensures.object ∙ ap object_in_hand entry.task_is) c.walk_safe.ensures.done
    in
    ap has_found there.0

pub returns-clause-stands : goal.returns-clause-stands
returns-clause-stands g c =
    let n = c.args.self.now.sessions in
    let seat = c.args.seat in
    let oid = c.args.oid in
    let before = core_of c.args.self.now.state in
    let at = safe_seat n seat before c.requires.stands.quiet c.requires.session c.requires.safe in
    let loaded = core_of c.go.new.self.state in
    let entry = entry_looks before loaded seat oid at c.requires.object c.go.ensures.after in
    let found = core_of c.walk_safe.new.self.state in
    let there =
    found_at (found.seats seat).task oid (c.walk_safe.ensures.object ∙ ap object_in_hand entry.task_is) c.walk_safe.ensures.done
    in
    let after = core_of c.load_row.new.self.state in
    let v = version_found (found.seats seat).task in
    let looks =
    looks_both seat before found after (looks_both seat before loaded found entry.looks c.walk_safe.ensures.looks) c.load_row.ensures.looks
    in
    let row : c.load_row.result ≡ (version_at (after.shared.objects v.oid) v.place).words.row =
    c.load_row.ensures.row ∙ ap (λ (s : Shared). (version_at (s.objects v.oid) v.place).words.row) (sym c.load_row.ensures.looks.shared)
    in
    let done =
    read_done n seat oid c.load_row.result before after v c.load_row.ensures.sound.sound c.requires.stands.quiet c.requires.session at looks
    (c.load_row.ensures.stays ∙ there.0) there.1 c.requires.object row
    in
    let same : c.load_row.new.self.sessions ≡ n = c.load_row.ensures.sessions ∙ c.walk_safe.ensures.sessions ∙ c.go.ensures.sessions in
    record { sound = c.load_row.ensures.sound; quiet = subst (λ (m : ℕ). IsQuiet m after) (sym same) done.quiet }

pub returns-clause-same : goal.returns-clause-same
returns-clause-same g c =
    let n = c.args.self.now.sessions in
    let seat = c.args.seat in
    let oid = c.args.oid in
    let before = core_of c.args.self.now.state in
    let at = safe_seat n seat before c.requires.stands.quiet c.requires.session c.requires.safe in
    let loaded = core_of c.go.new.self.state in
    let entry = entry_looks before loaded seat oid at c.requires.object c.go.ensures.after in
    let found = core_of c.walk_safe.new.self.state in
    let there =
    found_at (found.seats seat).task oid (c.walk_safe.ensures.object ∙ ap object_in_hand entry.task_is) c.walk_safe.ensures.done
    in
    let after = core_of c.load_row.new.self.state in
    let v = version_found (found.seats seat).task in
    let looks =
    looks_both seat before found after (looks_both seat before loaded found entry.looks c.walk_safe.ensures.looks) c.load_row.ensures.looks
    in
    let row : c.load_row.result ≡ (version_at (after.shared.objects v.oid) v.place).words.row =
    c.load_row.ensures.row ∙ ap (λ (s : Shared). (version_at (s.objects v.oid) v.place).words.row) (sym c.load_row.ensures.looks.shared)
    in
    let done =
    read_done n seat oid c.load_row.result before after v c.load_row.ensures.sound.sound c.requires.stands.quiet c.requires.session at looks
    (c.load_row.ensures.stays ∙ there.0) there.1 c.requires.object row
    in
    let same : c.load_row.new.self.sessions ≡ n = c.load_row.ensures.sessions ∙ c.walk_safe.ensures.sessions ∙ c.go.ensures.sessions in
    ap (λ (m : ℕ). view_of m after) same ∙ done.same

pub returns-clause-row : goal.returns-clause-row
returns-clause-row g c =
    let n = c.args.self.now.sessions in
    let seat = c.args.seat in
    let oid = c.args.oid in
    let before = core_of c.args.self.now.state in
    let at = safe_seat n seat before c.requires.stands.quiet c.requires.session c.requires.safe in
    let loaded = core_of c.go.new.self.state in
    let entry = entry_looks before loaded seat oid at c.requires.object c.go.ensures.after in
    let found = core_of c.walk_safe.new.self.state in
    let there =
    found_at (found.seats seat).task oid (c.walk_safe.ensures.object ∙ ap object_in_hand entry.task_is) c.walk_safe.ensures.done
    in
    let after = core_of c.load_row.new.self.state in
    let v = version_found (found.seats seat).task in
    let looks =
    looks_both seat before found after (looks_both seat before loaded found entry.looks c.walk_safe.ensures.looks) c.load_row.ensures.looks
    in
    let row : c.load_row.result ≡ (version_at (after.shared.objects v.oid) v.place).words.row =
    c.load_row.ensures.row ∙ ap (λ (s : Shared). (version_at (s.objects v.oid) v.place).words.row) (sym c.load_row.ensures.looks.shared)
    in
    let done =
    read_done n seat oid c.load_row.result before after v c.load_row.ensures.sound.sound c.requires.stands.quiet c.requires.session at looks
    (c.load_row.ensures.stays ∙ there.0) there.1 c.requires.object row
    in
    let same : c.load_row.new.self.sessions ≡ n = c.load_row.ensures.sessions ∙ c.walk_safe.ensures.sessions ∙ c.go.ensures.sessions in
    done.reads
