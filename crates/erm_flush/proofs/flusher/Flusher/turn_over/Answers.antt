use Rattle.std.proofs.Common.{◌+◌, ℕ, List, refl, sym, subst, take, ◌∙◌}
use Rattle.erm_flush.proofs.Over.{end_at, flushed, tried}
use Rattle.erm_flush.proofs.Told.{was_ok, whole_buffer}
use Rattle.erm_log_disk.specs.Writes.{Lasts, OnlyWrites}
use Rattle.erm_world.specs.declared.gathered.Gathered.TheVariants.{Empty, Unfilled, Words}
use Rattle.erm_flush.proofs.flusher.Flusher.turn_over.Goals as goal

pub returns-in-Empty-clause-known : goal.returns-in-Empty-clause-known
returns-in-Empty-clause-known g c = λ l knows ready.
    let seen = c.gathers_are_known.ensures.sees c.args.world.now c.gather.new.self (Empty c.in-Empty.at) c.gather.new.words l c.requires.stands c.in-Empty.ensures.stands knows c.in-Empty.ensures.gathers in
    (seen.0, seen.1, c.gathers_are_known.ensures.stops c.args.world.now c.gather.new.self (Empty c.in-Empty.at) c.gather.new.words c.requires.stands c.in-Empty.ensures.gathers, refl)

pub returns-in-Unfilled-clause-known : goal.returns-in-Unfilled-clause-known
returns-in-Unfilled-clause-known g c = λ l knows ready.
    let seen = c.gathers_are_known.ensures.sees c.args.world.now c.gather.new.self (Unfilled c.in-Unfilled.at) c.gather.new.words l c.requires.stands c.in-Unfilled.ensures.stands knows
    c.in-Unfilled.ensures.gathers in
    (seen.0, seen.1, c.gathers_are_known.ensures.stops c.args.world.now c.gather.new.self (Unfilled c.in-Unfilled.at) c.gather.new.words c.requires.stands c.in-Unfilled.ensures.gathers, refl)

pub returns-then-is_err-clause-known : goal.returns-then-is_err-clause-known
returns-then-is_err-clause-known g c = λ l knows ready.
    let at = c.in-Words.at in
    let count = c.in-Words.count in
    let words = c.gather.new.words in
    let same = whole_buffer c.deref.result.now words _ c.self.inside.words.len _ c.deref.ensures.value c.in-Words.ensures.room c.self.invariant.0 in
    let seen = c.gathers_are_known.ensures.sees c.args.world.now c.gather.new.self (Words at count) words l c.requires.stands c.in-Words.ensures.stands knows c.in-Words.ensures.gathers in
    let stops = c.gathers_are_known.ensures.stops c.args.world.now c.gather.new.self (Words at count) words c.requires.stands c.in-Words.ensures.gathers in (
      seen.0,
      seen.1,
      tried g.V.LogView.stopped l seen.0 at count words seen.2 c.stored_words_tell_the_row.ensures.short c.stored_words_tell_the_row.ensures.whole g.V.LogView.rows_law.meets c.deref.result.now
          (g.D.Disk.told c.args.disk.now) (g.D.Disk.told c.write_log.new.disk) same c.in-Words.ensures.room (ready (sym c.self.view_is ∙ c.if-self.false)) c.args.world.now c.gather.new.self
          (c.gathers_are_known.ensures.gathered c.gather.new.self seen.0 c.in-Words.ensures.stands seen.1) stops c.write_log.ensures.writes,
    )

pub returns-clause-turn : goal.returns-clause-turn
returns-clause-turn g c =
    let at = c.in-Words.at in
    let count = c.in-Words.count in
    let words = c.gather.new.words in
    let before = g.D.Disk.told c.args.disk.now in
    let after = g.D.Disk.told c.write_log.new.disk in
    let same = whole_buffer c.deref.result.now words _ c.self.inside.words.len _ c.deref.ensures.value c.in-Words.ensures.room c.self.invariant.0 in
    let lasts = was_ok c.write_log.result (Lasts at (take count c.deref.result.now) before after) (sym c.is_err.ensures.value ∙ c.if-is_err.false) c.write_log.ensures.lasts in (
      sym c.self.view_is ∙ c.if-self.false,
      c.if-self.false,
      record {
        at = at;
        count = count;
        end_is = refl;
        mid = c.gather.new.self;
        write = record {
          words = words;
          room = c.in-Words.ensures.room;
          looks = c.in-Words.ensures.gathers;
          writes = subst (λ (ws : List ℕ). OnlyWrites at (take count ws) before after) same c.write_log.ensures.writes;
        };
        lasts = subst (λ (ws : List ℕ). Lasts at (take count ws) before after) same lasts;
        stores = c.flushed_to.ensures.flushes;
      },
    )

pub returns-clause-known : goal.returns-clause-known
returns-clause-known g c = λ l knows ready.
    let at = c.in-Words.at in
    let count = c.in-Words.count in
    let words = c.gather.new.words in
    let start = c.args.world.now in
    let mid = c.gather.new.self in
    let last = c.flushed_to.new.self in
    let before = g.D.Disk.told c.args.disk.now in
    let after = g.D.Disk.told c.write_log.new.disk in
    let laws = c.gathers_are_known.ensures in
    let same = whole_buffer c.deref.result.now words _ c.self.inside.words.len _ c.deref.ensures.value c.in-Words.ensures.room c.self.invariant.0 in
    let lasts = was_ok c.write_log.result (Lasts at (take count c.deref.result.now) before after) (sym c.is_err.ensures.value ∙ c.if-is_err.false) c.write_log.ensures.lasts in
    let seen = laws.sees start mid (Words at count) words l c.requires.stands c.in-Words.ensures.stands knows c.in-Words.ensures.gathers in
    let m = seen.0 in
    let to = end_at g.V.LogView.stopped l m at count words seen.2 in
    let known = laws.flushed mid last (at + count) m seen.1 to c.flushed_to.ensures.flushes in
    let stops = laws.stays start mid last (at + count) (at + count) (laws.stops start mid (Words at count) words c.requires.stands c.in-Words.ensures.gathers) c.flushed_to.ensures.flushes in (
      record m { flushed = at + count },
      known,
      flushed g.V.LogView.stopped l m at count words seen.2 c.stored_words_tell_the_row.ensures.short c.stored_words_tell_the_row.ensures.whole g.V.LogView.rows_law.meets c.deref.result.now
          before after same c.in-Words.ensures.room (ready (sym c.self.view_is ∙ c.if-self.false)) (at + count) start last refl
          (laws.log last (record m { flushed = at + count }) c.flushed_to.ensures.stands known) stops c.write_log.ensures.writes lasts,
    )
