use Rattle.std.proofs.Common.{◌≡◌, false, Ok, Err, refl, sym, ◌∙◌, subst}
use Rattle.atomic_table.specs.Seated.{TableId}
use Rattle.erm_ckpt.specs.declared.slot.Slot.{Slot}
use Rattle.erm_ckpt.specs.declared.slot.Slots.{Slots}
use Rattle.erm_desk.specs.Turns.{DidPin, EndsPin}
use Rattle.erm_desk_checkpoint.specs.Checkpoints.{CheckpointsTo}
use Rattle.erm_desk_checkpoint.specs.Kept.{IsKept, SeesSlots, sees_of}
use Rattle.erm_desk_checkpoint.proofs.Checkpointed.{held_pinned, may, still_pinned, turn_err, turn_ok}
use Rattle.erm_desk_checkpoint.proofs.Keeping.{GoLaws}
use Rattle.erm_rule.specs.Books.{book}
use Rattle.erm_rule.specs.Steps.{Fits}
use Rattle.erm_desk_checkpoint.proofs.desk.CheckpointDesk.checkpoint_turn.Goals as goal

pub save_behind-saved-requires-clause-may : goal.save_behind-saved-requires-clause-may
save_behind-saved-requires-clause-may g c =
    let law = g.L.RowLaw.law in
    let o = g.B.Naming.start in
    let laws : GoLaws law = record {
      stay = c.decided_blocks_stay.ensures.event;
      go = c.moments_go_on.ensures;
      begin = c.kept_logs_begin.ensures;
      join = c.writes_join.ensures;
      short = c.stored_words_tell_the_row.ensures.short;
    } in
    let slots = c.self.inside.slots in
    let s = sees_of (book c.self.inside.pass) (g.D.Disk.told c.self.inside.disk) (g.D.Disk.faults c.self.inside.disk) c.self.inside.flusher in
    let fine : s.failed ≡ false = sym c.has_failed.ensures ∙ c.if-has_failed.false in
    let b = book c.pin-stamp.new.p in
    let place = c.pin-stamp.result in
    let pins : DidPin law s.book place b = record { took = c.pin-stamp.ensures.took; pinned = c.pin-stamp.ensures.pinned; place_is = c.pin-stamp.ensures.place } in
    may law laws c.checkpoints_below_keep.ensures o g.B.Naming.began g.B.Naming.faults slots s c.self.invariant.3 fine b place pins c.pin-stamp.ensures.begun

pub save_behind-saved-requires-clause-held : goal.save_behind-saved-requires-clause-held
save_behind-saved-requires-clause-held g c =
    let law = g.L.RowLaw.law in
    let o = g.B.Naming.start in
    let laws : GoLaws law = record {
      stay = c.decided_blocks_stay.ensures.event;
      go = c.moments_go_on.ensures;
      begin = c.kept_logs_begin.ensures;
      join = c.writes_join.ensures;
      short = c.stored_words_tell_the_row.ensures.short;
    } in
    let slots = c.self.inside.slots in
    let s = sees_of (book c.self.inside.pass) (g.D.Disk.told c.self.inside.disk) (g.D.Disk.faults c.self.inside.disk) c.self.inside.flusher in
    let fine : s.failed ≡ false = sym c.has_failed.ensures ∙ c.if-has_failed.false in
    let b = book c.pin-stamp.new.p in
    let place = c.pin-stamp.result in
    let pins : DidPin law s.book place b = record { took = c.pin-stamp.ensures.took; pinned = c.pin-stamp.ensures.pinned; place_is = c.pin-stamp.ensures.place } in
    held_pinned law laws c.checkpoints_below_keep.ensures o g.B.Naming.began g.B.Naming.faults slots s c.self.invariant.3 fine b place pins c.pin-stamp.ensures.begun

pub unpin-requires-clause-pinned : goal.unpin-requires-clause-pinned
unpin-requires-clause-pinned g c =
    let law = g.L.RowLaw.law in
    let o = g.B.Naming.start in
    let laws : GoLaws law = record {
      stay = c.decided_blocks_stay.ensures.event;
      go = c.moments_go_on.ensures;
      begin = c.kept_logs_begin.ensures;
      join = c.writes_join.ensures;
      short = c.stored_words_tell_the_row.ensures.short;
    } in
    let slots = c.self.inside.slots in
    let s = sees_of (book c.self.inside.pass) (g.D.Disk.told c.self.inside.disk) (g.D.Disk.faults c.self.inside.disk) c.self.inside.flusher in
    let fine : s.failed ≡ false = sym c.has_failed.ensures ∙ c.if-has_failed.false in
    let b = book c.pin-stamp.new.p in
    let place = c.pin-stamp.result in
    let pins : DidPin law s.book place b = record { took = c.pin-stamp.ensures.took; pinned = c.pin-stamp.ensures.pinned; place_is = c.pin-stamp.ensures.place } in
    let slot : Slot = record { stamp = place; run = c.self.inside.run; first = c.next_first.result } in
    let last = sees_of (book c.save_behind-saved.new.pass) (g.D.Disk.told c.save_behind-saved.new.disk) (g.D.Disk.faults c.save_behind-saved.new.disk) c.save_behind-saved.new.flusher in
    (still_pinned law laws c.checkpoints_below_keep.ensures o g.B.Naming.began g.B.Naming.faults slots s c.self.invariant.3 fine b place pins c.pin-stamp.ensures.begun slot refl c.self.invariant.2 c.next_first.ensures c.save_behind-saved.result last c.save_behind-saved.ensures.saves).0

pub invariant_of-self : goal.invariant_of-self
invariant_of-self g c =
    let law = g.L.RowLaw.law in
    let o = g.B.Naming.start in
    let laws : GoLaws law = record {
      stay = c.decided_blocks_stay.ensures.event;
      go = c.moments_go_on.ensures;
      begin = c.kept_logs_begin.ensures;
      join = c.writes_join.ensures;
      short = c.stored_words_tell_the_row.ensures.short;
    } in
    let slots = c.self.inside.slots in
    let s = sees_of (book c.self.inside.pass) (g.D.Disk.told c.self.inside.disk) (g.D.Disk.faults c.self.inside.disk) c.self.inside.flusher in
    let fine : s.failed ≡ false = sym c.has_failed.ensures ∙ c.if-has_failed.false in
    let b = book c.pin-stamp.new.p in
    let place = c.pin-stamp.result in
    let pins : DidPin law s.book place b = record { took = c.pin-stamp.ensures.took; pinned = c.pin-stamp.ensures.pinned; place_is = c.pin-stamp.ensures.place } in
    let slot : Slot = record { stamp = place; run = c.self.inside.run; first = c.next_first.result } in
    let last = sees_of (book c.save_behind-saved.new.pass) (g.D.Disk.told c.save_behind-saved.new.disk) (g.D.Disk.faults c.save_behind-saved.new.disk) c.save_behind-saved.new.flusher in
    let e = book c.unpin.new.p in
    let ends : EndsPin law last.book e = record { found = c.unpin.ensures.took.0; step = c.unpin.ensures.took.1; unpins = c.unpin.ensures.unpinned } in
    let all = turn_err law laws c.checkpoints_below_keep.ensures o g.B.Naming.began g.B.Naming.faults slots s c.self.invariant.3 fine b place pins c.pin-stamp.ensures.begun last c.save_behind-saved.ensures.may e ends slot refl c.self.invariant.2 c.next_first.ensures c.in-Err.stop c.in-Err.ensures.saves in
    (subst (λ (i : TableId). Fits i c.unpin.new.p) c.requires.table c.unpin.ensures.fits, all.0.unpinned, c.self.invariant.2, all.0.still)

pub returns-in-Err-clause-checkpoints : goal.returns-in-Err-clause-checkpoints
returns-in-Err-clause-checkpoints g c =
    let law = g.L.RowLaw.law in
    let o = g.B.Naming.start in
    let laws : GoLaws law = record {
      stay = c.decided_blocks_stay.ensures.event;
      go = c.moments_go_on.ensures;
      begin = c.kept_logs_begin.ensures;
      join = c.writes_join.ensures;
      short = c.stored_words_tell_the_row.ensures.short;
    } in
    let slots = c.self.inside.slots in
    let s = sees_of (book c.self.inside.pass) (g.D.Disk.told c.self.inside.disk) (g.D.Disk.faults c.self.inside.disk) c.self.inside.flusher in
    let fine : s.failed ≡ false = sym c.has_failed.ensures ∙ c.if-has_failed.false in
    let b = book c.pin-stamp.new.p in
    let place = c.pin-stamp.result in
    let pins : DidPin law s.book place b = record { took = c.pin-stamp.ensures.took; pinned = c.pin-stamp.ensures.pinned; place_is = c.pin-stamp.ensures.place } in
    let slot : Slot = record { stamp = place; run = c.self.inside.run; first = c.next_first.result } in
    let last = sees_of (book c.save_behind-saved.new.pass) (g.D.Disk.told c.save_behind-saved.new.disk) (g.D.Disk.faults c.save_behind-saved.new.disk) c.save_behind-saved.new.flusher in
    let e = book c.unpin.new.p in
    let ends : EndsPin law last.book e = record { found = c.unpin.ensures.took.0; step = c.unpin.ensures.took.1; unpins = c.unpin.ensures.unpinned } in
    let all = turn_err law laws c.checkpoints_below_keep.ensures o g.B.Naming.began g.B.Naming.faults slots s c.self.invariant.3 fine b place pins c.pin-stamp.ensures.begun last c.save_behind-saved.ensures.may e ends slot refl c.self.invariant.2 c.next_first.ensures c.in-Err.stop c.in-Err.ensures.saves in
    let t = record last { book = e } in
    subst (λ (x : SeesSlots). CheckpointsTo law o x.slots (Err c.in-Err.stop) x.desk t) c.self.view_is all.1

pub invariant_of-self-2 : goal.invariant_of-self-2
invariant_of-self-2 g c =
    let law = g.L.RowLaw.law in
    let o = g.B.Naming.start in
    let laws : GoLaws law = record {
      stay = c.decided_blocks_stay.ensures.event;
      go = c.moments_go_on.ensures;
      begin = c.kept_logs_begin.ensures;
      join = c.writes_join.ensures;
      short = c.stored_words_tell_the_row.ensures.short;
    } in
    let slots = c.self.inside.slots in
    let s = sees_of (book c.self.inside.pass) (g.D.Disk.told c.self.inside.disk) (g.D.Disk.faults c.self.inside.disk) c.self.inside.flusher in
    let fine : s.failed ≡ false = sym c.has_failed.ensures ∙ c.if-has_failed.false in
    let b = book c.pin-stamp.new.p in
    let place = c.pin-stamp.result in
    let pins : DidPin law s.book place b = record { took = c.pin-stamp.ensures.took; pinned = c.pin-stamp.ensures.pinned; place_is = c.pin-stamp.ensures.place } in
    let slot : Slot = record { stamp = place; run = c.self.inside.run; first = c.next_first.result } in
    let last = sees_of (book c.save_behind-saved.new.pass) (g.D.Disk.told c.save_behind-saved.new.disk) (g.D.Disk.faults c.save_behind-saved.new.disk) c.save_behind-saved.new.flusher in
    let e = book c.unpin.new.p in
    let ends : EndsPin law last.book e = record { found = c.unpin.ensures.took.0; step = c.unpin.ensures.took.1; unpins = c.unpin.ensures.unpinned } in
    let all = turn_ok law laws c.checkpoints_below_keep.ensures o g.B.Naming.began g.B.Naming.faults slots s c.self.invariant.3 fine b place pins c.pin-stamp.ensures.begun last c.save_behind-saved.ensures.may e ends slot refl c.self.invariant.2 c.next_first.ensures c.in_default.field-0 c.in_default.ensures.saves in
    let t = record last { book = e } in
    (subst (λ (i : TableId). Fits i c.unpin.new.p) c.requires.table c.unpin.ensures.fits, all.unpinned, c.self.invariant.2, subst (λ (x : Slots). IsKept law o g.B.Naming.began g.B.Naming.faults x t) (sym c.put_slot.ensures) all.still)

pub returns-clause-checkpoints : goal.returns-clause-checkpoints
returns-clause-checkpoints g c =
    let law = g.L.RowLaw.law in
    let o = g.B.Naming.start in
    let laws : GoLaws law = record {
      stay = c.decided_blocks_stay.ensures.event;
      go = c.moments_go_on.ensures;
      begin = c.kept_logs_begin.ensures;
      join = c.writes_join.ensures;
      short = c.stored_words_tell_the_row.ensures.short;
    } in
    let slots = c.self.inside.slots in
    let s = sees_of (book c.self.inside.pass) (g.D.Disk.told c.self.inside.disk) (g.D.Disk.faults c.self.inside.disk) c.self.inside.flusher in
    let fine : s.failed ≡ false = sym c.has_failed.ensures ∙ c.if-has_failed.false in
    let b = book c.pin-stamp.new.p in
    let place = c.pin-stamp.result in
    let pins : DidPin law s.book place b = record { took = c.pin-stamp.ensures.took; pinned = c.pin-stamp.ensures.pinned; place_is = c.pin-stamp.ensures.place } in
    let slot : Slot = record { stamp = place; run = c.self.inside.run; first = c.next_first.result } in
    let last = sees_of (book c.save_behind-saved.new.pass) (g.D.Disk.told c.save_behind-saved.new.disk) (g.D.Disk.faults c.save_behind-saved.new.disk) c.save_behind-saved.new.flusher in
    let e = book c.unpin.new.p in
    let ends : EndsPin law last.book e = record { found = c.unpin.ensures.took.0; step = c.unpin.ensures.took.1; unpins = c.unpin.ensures.unpinned } in
    let all = turn_ok law laws c.checkpoints_below_keep.ensures o g.B.Naming.began g.B.Naming.faults slots s c.self.invariant.3 fine b place pins c.pin-stamp.ensures.begun last c.save_behind-saved.ensures.may e ends slot refl c.self.invariant.2 c.next_first.ensures c.in_default.field-0 c.in_default.ensures.saves in
    let t = record last { book = e } in
    subst (λ (x : SeesSlots). CheckpointsTo law o x.slots (Ok place) x.desk t) c.self.view_is (fine, all.did)
