-- Where the disk's fault cut a report at once off, each stamp that it tells of a transaction is in reach of the script's lines, since no line waits.
use Rattle.std.proofs.Common.{length, refl, sym, subst}
use Rattle.erm_model.specs.declared.outcome.Phase.{Phase}
use Rattle.erm_good_report.specs.GoodReport.{places_of}
use Rattle.erm_good_report.specs.Phases.{Closes}
use Rattle.erm_good_report.specs.Transactions.{transactions_of}
use Rattle.erm_good_report.proofs.InReach.{all_in_reach}
use Rattle.erm_good_report.proofs.Places.{never_untold}
use Rattle.erm_good_at_once.specs.CutReports.{answered_of, moment_in}
use Rattle.erm_good_at_once.specs.InReach.{CutOnesAreWithin, IsWithin}

pub cut_within : CutOnesAreWithin
cut_within opening names script lines cut =
    let part = answered_of cut.counts script in
    let told = transactions_of (length names) (places_of part cut.answers cut.closed) in
    all_in_reach (IsWithin opening script) part cut.answers cut.closed (length names) cut.owes.phases
    (λ c m. let unseen = cut.unseen c m in subst (λ (phase : Phase). Closes phase c.answer) (sym unseen.sealed) unseen.fits) cut.owes.stamps.sealed
    (λ i l a at given. (cut.owes.reach i l a at given).drawn)
    (λ i stamp l at drawn. absurd (never_untold (moment_in opening script part cut.answers told) part cut.answers told (λ i l. refl) (λ i l. refl) cut.owes.refusals i stamp drawn))
