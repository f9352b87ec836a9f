use Rattle.std.proofs.Common.{ℕ, refl, subst}
use Rattle.erm_machine.specs.declared.event.Kind.TheVariants.{LoadStamp}
use Rattle.erm_machine.specs.declared.version.CellWord.TheVariants.{Overwriter, OverwriterSucc}
use Rattle.erm_machine.specs.declared.version.VersionAt.{VersionAt}
use Rattle.erm_rule.specs.Steps.{Booked}
use Rattle.erm_rule.specs.Views.{part_of}
use Rattle.erm_cells.specs.Hands.{stamp_kind}
use Rattle.erm_rule.proofs.Telling.{is_held}
use Rattle.erm_cells.proofs.Heads.{has}
use Rattle.erm_readers.proofs.Rating.{cell_of_overtaken, cell_of_rated, did_rate, did_rate_none, has_overtaken, known_overtaken, object_of_overtaken, object_of_rated, rates_hand, rates_still, ready_mark, ready_succ}
use Rattle.erm_readers.proofs.reads.rate_read.Goals as goal

pub load_stamp-overwriter-requires-clause-held : goal.load_stamp-overwriter-requires-clause-held
load_stamp-overwriter-requires-clause-held g c = is_held c.args.p.now.me.0.view c.args.who _ (has c.args.p.now.me.0.view c.args.who c.requires.active)

pub load_stamp-overwriter-requires-clause-object : goal.load_stamp-overwriter-requires-clause-object
load_stamp-overwriter-requires-clause-object g c = object_of_rated c.args.p.now.me.0.view c.args.who c.args.cell c.requires.active c.requires.registered c.requires.known

pub load_stamp-overwriter-requires-clause-cell : goal.load_stamp-overwriter-requires-clause-cell
load_stamp-overwriter-requires-clause-cell g c = cell_of_rated c.args.p.now.me.0.view c.args.who c.args.cell c.requires.active c.requires.registered

pub load_stamp-overwriter-requires-clause-ready : goal.load_stamp-overwriter-requires-clause-ready
load_stamp-overwriter-requires-clause-ready g c = ready_mark c.args.p.now.me.0.view c.args.who c.args.cell c.requires.active c.requires.registered

pub returns-then-overwriter-eq0-clause-rated : goal.returns-then-overwriter-eq0-clause-rated
returns-then-overwriter-eq0-clause-rated g c = did_rate_none c.args.p.now.me.0.view c.args.who c.args.cell c.requires.active c.requires.registered c.requires.known c.load_stamp-overwriter.result _ c.load_stamp-overwriter.ensures.told.told c.if-overwriter-eq0.true

pub load_stamp-succ-requires-clause-held : goal.load_stamp-succ-requires-clause-held
load_stamp-succ-requires-clause-held g c = is_held _ c.args.who _ (has_overtaken c.args.p.now.me.0.view c.args.who c.args.cell c.requires.active c.requires.registered c.requires.known c.load_stamp-overwriter.result _ c.load_stamp-overwriter.ensures.told.told c.if-overwriter-eq0.false)

pub load_stamp-succ-requires-clause-known : goal.load_stamp-succ-requires-clause-known
load_stamp-succ-requires-clause-known g c = known_overtaken c.args.p.now.me.0.view c.args.who c.args.cell c.requires.active c.requires.registered c.requires.known c.load_stamp-overwriter.result _ c.load_stamp-overwriter.ensures.told.told c.if-overwriter-eq0.false

pub load_stamp-succ-requires-clause-object : goal.load_stamp-succ-requires-clause-object
load_stamp-succ-requires-clause-object g c = object_of_overtaken c.args.p.now.me.0.view c.args.who c.args.cell c.requires.active c.requires.registered c.requires.known c.load_stamp-overwriter.result _ c.load_stamp-overwriter.ensures.told.told c.if-overwriter-eq0.false

pub load_stamp-succ-requires-clause-cell : goal.load_stamp-succ-requires-clause-cell
load_stamp-succ-requires-clause-cell g c = cell_of_overtaken c.args.p.now.me.0.view c.args.who c.args.cell c.requires.active c.requires.registered c.requires.known c.load_stamp-overwriter.result _ c.load_stamp-overwriter.ensures.told.told c.if-overwriter-eq0.false

pub load_stamp-succ-requires-clause-ready : goal.load_stamp-succ-requires-clause-ready
load_stamp-succ-requires-clause-ready g c = ready_succ c.args.p.now.me.0.view c.args.who c.args.cell c.requires.active c.requires.registered c.requires.known c.load_stamp-overwriter.result _ c.load_stamp-overwriter.ensures.told.told c.if-overwriter-eq0.false

pub returns-clause-rated : goal.returns-clause-rated
returns-clause-rated g c = did_rate c.args.p.now.me.0.view c.args.who c.args.cell c.requires.active c.requires.registered c.requires.known c.load_stamp-overwriter.result _ c.load_stamp-overwriter.ensures.told.told c.if-overwriter-eq0.false c.load_stamp-succ.result _ c.load_stamp-succ.ensures.told.told

pub returns-then-overwriter-eq0-clause-took : goal.returns-then-overwriter-eq0-clause-took
returns-then-overwriter-eq0-clause-took g c = (
  c.args.p.now.me.0,
  refl,
  subst (λ (n : VersionAt). Booked g.L.RowLaw.law c.args.p.now.me.0 c.args.who (LoadStamp n Overwriter) 0 c.load_stamp-overwriter.new.p.me.0) (rates_hand c.args.p.now.me.0.view c.args.who c.args.cell c.requires.active c.requires.registered)
      (subst (λ (m : ℕ). Booked g.L.RowLaw.law c.args.p.now.me.0 c.args.who (stamp_kind (part_of c.args.p.now.me.0.view c.args.who) Overwriter) m c.load_stamp-overwriter.new.p.me.0) c.if-overwriter-eq0.true c.load_stamp-overwriter.ensures.booked),
)

pub returns-clause-took : goal.returns-clause-took
returns-clause-took g c = (
  c.load_stamp-overwriter.result,
  c.if-overwriter-eq0.false,
  (
    c.load_stamp-overwriter.new.p.me.0,
    (c.args.p.now.me.0, refl, subst (λ (n : VersionAt). Booked g.L.RowLaw.law c.args.p.now.me.0 c.args.who (LoadStamp n Overwriter) c.load_stamp-overwriter.result c.load_stamp-overwriter.new.p.me.0) (rates_hand c.args.p.now.me.0.view c.args.who c.args.cell c.requires.active c.requires.registered) c.load_stamp-overwriter.ensures.booked),
    subst (λ (n : VersionAt). Booked g.L.RowLaw.law c.load_stamp-overwriter.new.p.me.0 c.args.who (LoadStamp n OverwriterSucc) c.load_stamp-succ.result c.load_stamp-succ.new.p.me.0) (rates_still c.args.p.now.me.0.view c.args.who c.args.cell c.requires.active c.requires.registered c.requires.known c.load_stamp-overwriter.result _ c.load_stamp-overwriter.ensures.told.told c.if-overwriter-eq0.false) c.load_stamp-succ.ensures.booked,
  ),
)
