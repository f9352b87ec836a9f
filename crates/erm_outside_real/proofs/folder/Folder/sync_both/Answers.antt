use Rattle.std.proofs.Common.{IfSome}
use Rattle.erm_outside_real.specs.Calls.{BytesLast}
use Rattle.erm_outside_real.proofs.Lasting.{lasts_by_parts, on_ok}
use Rattle.erm_outside_real.proofs.folder.Folder.sync_both.Goals as goal

pub returns-clause-lasts : goal.returns-clause-lasts
returns-clause-lasts g c =
    let bytes : IfSome c.sync_entries.new.self.calls (BytesLast c.args.file) = c.sync_entries.ensures.bytes c.args.file c.in_ok-sync_bytes.ensures.bytes in
    lasts_by_parts c.args.file c.sync_entries.new.self.calls c.sync_entries.result (on_ok _ c.sync_entries.result bytes) c.sync_entries.ensures.entries
