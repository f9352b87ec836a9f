-- What lasts after calls.
use Rattle.std.proofs.Common.{◌≡◌, List, Option, None, Some, IfSome, Result, Ok, Err, OnOk}
use Rattle.erm_outside.specs.declared.disk.File.{File}
use Rattle.erm_outside_real.specs.declared.calls.Call.{Call}
use Rattle.erm_outside_real.specs.Calls.{BytesLast, EntriesLast, Lasts}

-- a file lasts where its bytes do and its entry does
pub lasts_by_parts : {T E : Type 0} (file : File) (calls : Option (List Call)) (r : Result T E)
    → OnOk r (IfSome calls (BytesLast file)) → OnOk r (IfSome calls EntriesLast) → OnOk r (IfSome calls (Lasts file))
lasts_by_parts file None (Ok x) bytes entry = tt
lasts_by_parts file (Some calls) (Ok x) bytes entry = record { bytes = bytes; entry = entry }
lasts_by_parts file calls (Err e) bytes entry = tt

-- what lasts whatever comes of a call, does so where it comes through
pub on_ok : {T E : Type 0} (P : Type 0) (r : Result T E) → P → OnOk r P
on_ok P (Ok x) p = p
on_ok P (Err e) p = tt
