use Rattle.std.proofs.Common.{◌≡◌, Some, slice_get, refl}
use Rattle.std.proofs.lemmas.Option.{slice_get_read}
use Rattle.erm_slow.proofs.Certificates.{open_by_stamps}
use Rattle.erm_slow.proofs.has_open_window.Goals as goal

pub returns : goal.returns
returns c =
    let h = c.args.history.now in
    let t = c.index-history-place.result in
    let at : slice_get h c.args.place ≡ Some t = slice_get_read h _ c.args.place t refl c.requires c.index-history-place.is in
    open_by_stamps h c.args.place t c.successor_stamp.result c.predecessor_stamp.result c.carries.result at (c.successor_stamp.ensures t at) c.predecessor_stamp.ensures c.carries.ensures
