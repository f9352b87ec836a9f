-- What a line of a session that names a table reads, its tries and its last one together: each sees the same rows.
use Rattle.std.proofs.Common.{◌≡◌, ℕ, zero, suc, ◌≤◌, ◌⊎◌, true, List, Some, None, is_some, inl, inr, refl, sym, ◌∙◌, subst, arith}
use Rattle.erm_model.specs.declared.outcome.Phase.TheVariants.{Active}
use Rattle.erm_model.specs.declared.row_stop.RowStop.{RowStop}
use Rattle.erm_model.specs.declared.row_stop.RowStop.TheVariants as stop
use Rattle.erm_model.specs.History.{rows_after}
use Rattle.erm_model.specs.Lawful.{times_made}
use Rattle.erm_model.specs.RowTransaction.{Agrees, Asked, Event, OnlyReads, after_all, asked_claim, asked_make, asked_read}
use Rattle.erm_model.specs.Rows.{Rows}
use Rattle.erm_model.specs.Run.{Step}
use Rattle.erm_model.proofs.RowCalls.{after_all-OnlyReads}
use Rattle.erm_node.specs.Sound.{IsSound, sound_law}
use Rattle.erm_report.specs.declared.answer.Answer.{Answer}
use Rattle.erm_script.specs.declared.script.Command.{Command}
use Rattle.erm_script.specs.declared.script.Command.TheVariants as command
use Rattle.erm_script.specs.Script.{IsInRange}
use Rattle.erm_world.specs.Going.{Extends}
use Rattle.erm_world.specs.Laws.{FitsWork, IsLawfulWork, IsSerializable}
use Rattle.erm_world.specs.Onward.{extends_then}
use Rattle.erm_world.specs.Works.{row_read, seen_by}
use Rattle.erm_world.specs.World.{Has, IsSession, Session, View, Work, phase_at, work_at, work_of}
use Rattle.erm_maps.specs.Runs.{IsRunOf, kept_at}
use Rattle.erm_maps.proofs.Extended.{fitted_before}
use Rattle.erm_maps.proofs.Lawful.{fits_below}
use Rattle.erm_good_report.specs.Refusals.{reads_of}
use Rattle.erm_good_report.specs.Transactions.{table_of}
use Rattle.erm_lines.specs.Operations.{AsksOf, DidCalls, FrontOf, WholeOf}
use Rattle.erm_beside.specs.Calls.{After, RefusedBeside}
use Rattle.erm_lines_at_once.specs.Operations.{Beside, WasTried, WereCutBeside}
use Rattle.erm_causes.proofs.Coloured.{agrees_with}
use Rattle.erm_causes_at_once.proofs.Called.{Gone, calls_gone, cut_gone, cut_kept, cut_stays}
use Rattle.erm_causes_at_once.proofs.Line.{extended_made}
use Rattle.erm_told_limits.proofs.Arrays.{made_once}
use Rattle.erm_told_limits.proofs.Holds.{Laws}
use Rattle.erm_told_limits.proofs.Lines.{Looked, LookedSo}
use Rattle.erm_told_limits.proofs.Ran.{MovesAll, same_work}
use Rattle.erm_told_limits.proofs.Sought.{AreIn, IsSoughtBy, SeeksKey, SeeksOrWalks, are_sought, asks_sought, front_sought, whole_sought}

-- a line that names a table seeks one key, or may read all that there are
pub named_kind : (c : Command) (k : ℕ) → table_of c ≡ Some k → SeeksOrWalks c
named_kind (command.Get table key) k names = inl tt
named_kind (command.Put table key value) k names = inl tt
named_kind (command.Del table key) k names = inl tt
named_kind (command.Tidy table key) k names = inl tt
named_kind (command.Next table from) k names = inr (omega arith)
named_kind (command.Scan table low high) k names = inr (omega arith)
named_kind c k names = let no : None ≡ Some k = names in cc

-- what asks to read comes after reads alone
pub reads_front : (c : Command) (rows : Rows) (events : List Event) (oid : ℕ) → FrontOf c rows events → AsksOf c events rows (asked_read oid) → OnlyReads events
reads_front (command.Get table key) rows events oid front asks = front.0
reads_front (command.Put table key value) rows events oid front asks = asks.0
reads_front (command.Del table key) rows events oid front asks = front.0
reads_front (command.Next table from) rows events oid front asks = front.0
reads_front (command.Scan table low high) rows events oid front asks = front.0
reads_front (command.Tidy table key) rows events oid front asks = front.0
reads_front c rows events oid front asks = absurd front

-- so does what waits: a wait is for a read
pub waits_front : (c : Command) (rows : Rows) (events : List Event) (seat other seen : ℕ) (asked : Asked) (at t : View) → FrontOf c rows events → AsksOf c events rows asked
    → After seat (RefusedBeside seat asked (stop.NotYet other seen)) at t → OnlyReads events
waits_front c rows events seat other seen (asked_read oid) at t front asks refused = reads_front c rows events oid front asks
waits_front c rows events seat other seen (asked_claim oid) at t front asks (u, passes, refused) = absurd refused
waits_front c rows events seat other seen asked_make at t front asks (u, passes, refused) = absurd refused

-- rows on which a work began
pub record BeganIn (last : Work) : Type 0 where
  pub rows : Rows
  pub fits : FitsWork sound_law last rows
  pub once : (x : ℕ) → times_made last.made x ≤ 1

-- those of one in the world in which all end
pub began_in : (laws : Laws) (f : View) (seat : ℕ) → IsSession f seat → IsSerializable sound_law f → (last : Work) → Has f seat last → BeganIn last
began_in laws f seat session holds last has =
    let found = laws.rows_below f holds seat last session has in record {
      rows = rows_after found.order f.opening.rows;
      fits = fits_below sound_law f holds seat last session has found.order found.runs found.leaves;
      once = λ x. made_once laws.rows_below f holds seat last session has x;
    }

-- tries leave the work so that it goes on
pub tried_more : (f : View) (seat : ℕ) (c : Command) (n : ℕ) (v t : View) → phase_at v seat ≡ Active → WasTried f seat c n v t → Extends (work_at v seat) (work_at t seat)
tried_more f seat c zero v t active passes = subst (λ (s : Session). Extends (work_at v seat) (work_of s.stand)) (sym passes.own) (same_work (work_at v seat))
tried_more f seat c (suc n) v t active (u, (other, seen, cut), rest) =
    let why = stop.NotYet other seen in
    let kept = cut_kept f seat c why v u active cut refl in
    let first = subst (λ (s : Session). Extends (work_at v seat) (work_of s.stand)) (sym (cut_stays f seat c why v u active cut refl)) (cut_gone f seat c why v u active cut).more in
    extends_then (work_at v seat) (work_at u seat) (work_at t seat) first (tried_more f seat c n u t kept.phase rest)

-- A WORK'S OWN ROWS, where it goes on to one that began on these rows.
module _ (last : Work) (began : BeganIn last) where
  abbrev rows : Rows
  rows = began.rows

  -- calls from it ran on those that it saw
  pub record RanOn (w y : Work) (events : List Event) : Type 0 where
    pub sound : IsSound (seen_by w began.rows)
    pub agrees : Agrees sound_law events (seen_by w began.rows)
    pub seen : seen_by y began.rows ≡ after_all events (seen_by w began.rows)

  pub ran_on : (w y : Work) (events : List Event) → IsLawfulWork sound_law w → MovesAll sound_law w events y → Extends y last → RanOn w y events
  ran_on w y events lawful moves more =
      let fits_y : FitsWork sound_law y rows = fitted_before sound_law y last more rows began.fits in
      let on = agrees_with w y events moves lawful (λ x. let less = extended_made y last more x in let one = began.once x in omega (arith, less, one)) rows fits_y in
      record { sound = on.0; agrees = on.1; seen = moves.seen rows fits_y }

  -- A CALL THAT WAS CUT OFF.
  module _ (f : View) (seat : ℕ) (c : Command) (why : RowStop) (v t : View) (active : phase_at v seat ≡ Active) (cut : WereCutBeside f seat (FrontOf c) (AsksOf c) why v t) (steps : List Step)
      (run : IsRunOf (kept_at v seat) steps) (more : Extends (work_at cut.at seat) last) where
    abbrev array : Rows
    array = seen_by (work_at v seat) rows

    abbrev gone : Gone cut.events (v.session seat) (cut.at.session seat)
    gone = cut_gone f seat c why v t active cut

    pub on : RanOn (work_at v seat) (work_at cut.at seat) cut.events
    on = ran_on (work_at v seat) (work_at cut.at seat) cut.events run.lawful gone.moves more

    pub front : FrontOf c (seen_by (work_at v seat) began.rows) cut.events
    front = cut.of array on.sound on.agrees

    pub asks : AsksOf c cut.events (seen_by (work_at v seat) began.rows) cut.asked
    asks = cut.asks_so array on.sound on.agrees

  -- one that waits read alone
  pub waits_only : (f : View) (seat : ℕ) (c : Command) (other seen : ℕ) (v t : View) (active : phase_at v seat ≡ Active)
      → (cut : WereCutBeside f seat (FrontOf c) (AsksOf c) (stop.NotYet other seen) v t) (steps : List Step) → IsRunOf (kept_at v seat) steps → Extends (work_at cut.at seat) last
      → OnlyReads cut.events
  waits_only f seat c other seen v t active cut steps run more =
      let why = stop.NotYet other seen in
      waits_front c (seen_by (work_at v seat) rows) cut.events seat other seen cut.asked cut.at t (front f seat c why v t active cut steps run more)
      (asks f seat c why v t active cut steps run more) cut.refused

  -- WHERE IT SEEKS one key
  module _ (f : View) (seat : ℕ) (c : Command) (range : IsInRange c) (seeks : SeeksKey c) where
    -- a later work sees the same rows, and has read besides only what the command seeks there
    pub record SeesAs (w y : Work) : Type 0 where
      pub seen : seen_by y began.rows ≡ seen_by w began.rows
      pub reads : (x : ℕ) → is_some (row_read y.reads x) ≡ true → (is_some (row_read w.reads x) ≡ true) ⊎ IsSoughtBy c (seen_by w began.rows) x

    sees_itself : (w : Work) → SeesAs w w
    sees_itself w = record { seen = refl; reads = λ x read. inl read }

    -- a read by the later one is one of the earlier one's, or sought
    reads_then : (w y : Work) → SeesAs w y → (x : ℕ) → (is_some (row_read y.reads x) ≡ true) ⊎ IsSoughtBy c (seen_by y rows) x
        → (is_some (row_read w.reads x) ≡ true) ⊎ IsSoughtBy c (seen_by w rows) x
    reads_then w y same x (inl before) = same.reads x before
    reads_then w y same x (inr new) = inr (subst (λ (array : Rows). IsSoughtBy c array x) same.seen new)

    cut_reads : (why : RowStop) (v t : View) (active : phase_at v seat ≡ Active) (cut : WereCutBeside f seat (FrontOf c) (AsksOf c) why v t) (steps : List Step) → IsRunOf (kept_at v seat) steps
        → Extends (work_at cut.at seat) last → (x : ℕ) → is_some (row_read (work_at cut.at seat).reads x) ≡ true
        → (is_some (row_read (work_at v seat).reads x) ≡ true) ⊎ IsSoughtBy c (seen_by (work_at v seat) rows) x
    cut_reads why v t active cut steps run more x read =
        let gone = cut_gone f seat c why v t active cut in
        elim (gone.moves.reads x read) [
          | inl before ↦ inl before
          | inr new ↦ inr (front_sought c (seen_by (work_at v seat) rows) cut.events seeks (front f seat c why v t active cut steps run more) x new)
        ]

    -- THE TRIES see the same rows, one after another.
    pub tried_same : (n : ℕ) (v t : View) → phase_at v seat ≡ Active → WasTried f seat c n v t → (steps : List Step) → IsRunOf (kept_at v seat) steps → Extends (work_at t seat) last
        → SeesAs (work_at v seat) (work_at t seat)
    tried_same zero v t active passes steps run more = subst (λ (s : Session). SeesAs (work_at v seat) (work_of s.stand)) (sym passes.own) (sees_itself (work_at v seat))
    tried_same (suc n) v t active (u, (other, seen, cut), rest) steps run more =
        let why = stop.NotYet other seen in
        let kept = cut_kept f seat c why v u active cut refl in
        let same : u.session seat ≡ cut.at.session seat = cut_stays f seat c why v u active cut refl in
        let later = tried_same n u t kept.phase rest steps (cut.run refl steps run) more in
        let more_u = extends_then (work_at u seat) (work_at t seat) last (tried_more f seat c n u t kept.phase rest) more in
        let more_at = subst (λ (s : Session). Extends (work_of s.stand) last) same more_u in
        let ran = on f seat c why v u active cut steps run more_at in
        let only = waits_only f seat c other seen v u active cut steps run more_at in
        let first : SeesAs (work_at v seat) (work_at cut.at seat) = record {
          seen = ran.seen ∙ after_all-OnlyReads cut.events only (seen_by (work_at v seat) rows);
          reads = cut_reads why v u active cut steps run more_at;
        } in
        let there : SeesAs (work_at v seat) (work_at u seat) = subst (λ (s : Session). SeesAs (work_at v seat) (work_of s.stand)) (sym same) first in record {
          seen = later.seen ∙ there.seen;
          reads = λ x read. reads_then (work_at v seat) (work_at u seat) there x (later.reads x read);
        }

    -- WHAT IS SOUGHT stands in a list of so many at most.
    sought : (w : Work) → IsSound (seen_by w rows) → AreIn (λ x. IsSoughtBy c (seen_by w rows) x) (reads_of c)
    sought w sound = are_sought c (seen_by w rows) sound range seeks

    looked_so : (v t : View) → IsSound (seen_by (work_at v seat) rows) → ((x : ℕ) → is_some (row_read (work_at t seat).reads x) ≡ true
        → (is_some (row_read (work_at v seat).reads x) ≡ true) ⊎ IsSoughtBy c (seen_by (work_at v seat) rows) x) → Looked (reads_of c) v seat t
    looked_so v t sound reads =
        let some = sought (work_at v seat) sound in record {
          more = some.all;
          few = some.few;
          reads = λ x read. elim (reads x read) [ inl before ↦ inl before | inr new ↦ inr (some.has x new) ];
        }

    -- The last try, answered whole.
    pub whole_same : (a : Answer) (now : List Step) (v at t : View) (active : phase_at at seat ≡ Active) → (beside : Beside seat (λ x y. DidCalls x seat now (WholeOf c a) y) at t)
        → SeesAs (work_at v seat) (work_at at seat) → (steps : List Step) → IsRunOf (kept_at at seat) steps → Extends (work_at t seat) last → Looked (reads_of c) v seat t
    whole_same a now v at t active beside sees steps run more =
        let array = seen_by (work_at at seat) rows in
        let events = beside.did.events in
        let gone = calls_gone seat c a now at t active beside in
        let on = ran_on (work_at at seat) (work_at t seat) events run.lawful gone.moves more in
        let kind : WholeOf c a array events = (beside.did.of array on.sound on.agrees).0 in
        looked_so v t (subst IsSound sees.seen on.sound) (λ x read.
        reads_then (work_at v seat) (work_at at seat) sees x
        (elim (gone.moves.reads x read) [ inl before ↦ inl before | inr new ↦ inr (whole_sought c a array events seeks kind x new) ]))

    -- cut off, with what it asked for
    pub cut_same : (why : RowStop) (v at t : View) (active : phase_at at seat ≡ Active) (cut : WereCutBeside f seat (FrontOf c) (AsksOf c) why at t) → SeesAs (work_at v seat) (work_at at seat)
        → (steps : List Step) → IsRunOf (kept_at at seat) steps → Extends (work_at cut.at seat) last → LookedSo (reads_of c) v seat cut.at cut.asked
    cut_same why v at t active cut sees steps run more =
        let ran = on f seat c why at t active cut steps run more in
        let sound = subst IsSound sees.seen ran.sound in
        let some = sought (work_at v seat) sound in
        let reads = cut_reads why at t active cut steps run more in
        let asked = asks f seat c why at t active cut steps run more in record {
          looked = record {
            more = some.all;
            few = some.few;
            reads = λ x read. elim (reads_then (work_at v seat) (work_at at seat) sees x (reads x read)) [ inl before ↦ inl before | inr new ↦ inr (some.has x new) ];
          };
          asks = λ oid is.
              some.has oid (subst (λ (array : Rows). IsSoughtBy c array oid) sees.seen
              (asks_sought c (seen_by (work_at at seat) rows) cut.events oid seeks (subst (AsksOf c cut.events (seen_by (work_at at seat) rows)) is asked)));
        }
