use Rattle.erm_recover.proofs.Opened.{lasting_told, waited_told, written_told}
use Rattle.erm_recover.proofs.Waits.{none_told}
use Rattle.erm_recover.specs.Recovering.{state_recovered}
use Rattle.erm_recover.proofs.open.open_log.Goals as goal

pub returns-then-recovered-ge-LAST_RUN-clause-any_moment : goal.returns-then-recovered-ge-LAST_RUN-clause-any_moment
returns-then-recovered-ge-LAST_RUN-clause-any_moment g c = λ pair is. waited_told g.L.RowLaw.law.meets (state_recovered c.args.recovered.now) pair _ _ (none_told (g.D.Disk.told c.args.disk.now))

pub returns-then-recovered-ge-STOP-clause-any_moment : goal.returns-then-recovered-ge-STOP-clause-any_moment
returns-then-recovered-ge-STOP-clause-any_moment g c = λ pair is. waited_told g.L.RowLaw.law.meets (state_recovered c.args.recovered.now) pair _ _ (none_told (g.D.Disk.told c.args.disk.now))

pub returns-in_err-sync_pending-clause-any_moment : goal.returns-in_err-sync_pending-clause-any_moment
returns-in_err-sync_pending-clause-any_moment g c = λ pair is. waited_told g.L.RowLaw.law.meets (state_recovered c.args.recovered.now) pair _ _ c.sync_pending.ensures.waits

pub returns-in_err-write_log-clause-any_moment : goal.returns-in_err-write_log-clause-any_moment
returns-in_err-write_log-clause-any_moment g c = λ pair is.
    written_told c.stored_words_tell_the_row.ensures.short c.stored_words_tell_the_row.ensures.whole g.L.RowLaw.law.meets c.args.recovered.now pair c.respects_rows.ensures.meets c.requires.meets
    c.open_words-words.result c.open_words-words.ensures.words c.open_words-words.ensures.block _ _ _ c.in_ok-sync_pending.ensures.waits c.in_ok-sync_pending.ensures.settled c.requires.fresh is c.write_log.ensures.writes

pub returns-clause-any_moment : goal.returns-clause-any_moment
returns-clause-any_moment g c = λ pair is.
    written_told c.stored_words_tell_the_row.ensures.short c.stored_words_tell_the_row.ensures.whole g.L.RowLaw.law.meets c.args.recovered.now pair c.respects_rows.ensures.meets c.requires.meets
    c.open_words-words.result c.open_words-words.ensures.words c.open_words-words.ensures.block _ _ _ c.in_ok-sync_pending.ensures.waits c.in_ok-sync_pending.ensures.settled c.requires.fresh is c.write_log.ensures.writes

pub returns-clause-lasts : goal.returns-clause-lasts
returns-clause-lasts g c = λ pair is.
    lasting_told c.stored_words_tell_the_row.ensures.short c.stored_words_tell_the_row.ensures.whole g.L.RowLaw.law.meets c.args.recovered.now pair c.respects_rows.ensures.meets c.requires.meets
    c.open_words-words.result c.open_words-words.ensures.words c.open_words-words.ensures.block _ _ _ c.in_ok-sync_pending.ensures.waits c.in_ok-sync_pending.ensures.settled c.requires.fresh is c.write_log.ensures.writes c.in_ok-write_log.ensures.lasts
