-- What of each state of a book is the start's: where its log begins, its run, the rows found at opening, and that transactions begin where
-- ranges of the log end.
use Rattle.std.proofs.Common.{◌≡◌, ℕ, Some, refl, ap, ◌∙◌}
use Rattle.std.proofs.Math.Path.{fun_ext}
use Rattle.erm_machine.specs.declared.event.Kind.{Kind}
use Rattle.erm_machine.specs.declared.event.Kind.TheVariants as kind
use Rattle.erm_machine.specs.Core.{Core, spot_of, word_at}
use Rattle.erm_machine.specs.Lawful.{opening_rows}
use Rattle.erm_machine.specs.Sound.{Sound}
use Rattle.erm_machine.specs.Step.{after_event}
use Rattle.erm_machine.proofs.OpeningRows.{HasVersion, installs_version, rows_stay}
use Rattle.erm_machine.proofs.QuietKinds.{moves}
use Rattle.erm_core_ring.specs.Begins.{BeginAtEnds}
use Rattle.erm_core_ring.proofs.Begins.{begins_kept}
use Rattle.erm_core_stays.proofs.Numbers.{join_shared, rises, split_shared}
use Rattle.erm_sound.proofs.Openings.{opening_begins}
use Rattle.erm_model.specs.declared.limits.TheConstants.{TABLE_CELLS}
use Rattle.erm_rule.specs.declared.view.Book.{Book}
use Rattle.erm_rule.specs.declared.view.Start.{Start}
use Rattle.erm_rule.specs.Books.{IsBookOf, Passes}
use Rattle.erm_rule.specs.Openings.{start_core, start_rows}
use Rattle.erm_rule.proofs.Courses.{of_course}

-- an object that is installed has a version
has_version : (c : Core) (p : ℕ) (k : Kind) (d : Core) → Sound c → after_event c p k ≡ Some d → HasVersion k c.shared
has_version c p (kind.Install oid head) d sound e = installs_version c p oid head d sound e
has_version c p _ d sound e = tt

rows_same : (c d : Core) (p : ℕ) (k : Kind) → Sound c → after_event c p k ≡ Some d → opening_rows d.shared ≡ opening_rows c.shared
rows_same c d p (kind.Split other) sound e = ap opening_rows (split_shared c p other d _ e)
rows_same c d p (kind.Join other) sound e = ap opening_rows (join_shared c p other d _ e)
rows_same c d p k sound e =
    let m = moves c p k d tt e in
    ap (λ (f : Core). opening_rows f.shared) m.is ∙ fun_ext (λ oid. rows_stay p k (word_at c (spot_of p k)) (c.seats p) c.shared oid (has_version c p k d sound e))

-- the state is one of a table with this start
pub record IsOf (s : Start) (c : Core) : Type 0 where
  pub opening : c.shared.opening ≡ s.tail
  pub run : c.shared.run ≡ s.run
  pub rows : opening_rows c.shared ≡ opening_rows (start_core s).shared
  pub begins : BeginAtEnds c

first_is : (s : Start) → IsOf s (start_core s)
first_is s = record { opening = refl; run = refl; rows = refl; begins = opening_begins s.sessions (start_rows s.rows) s.tail s.run s.first TABLE_CELLS }

is_kept : (s : Start) (c d : Core) → Passes c d → IsOf s c → IsOf s d
is_kept s c d passes is =
    let sound = passes.0 in
    let seat = passes.1.0 in
    let k = passes.1.1 in
    let event = passes.1.2 in
    let up = rises c d seat k sound event in
    record {
      opening = up.opening ∙ is.opening;
      run = up.run ∙ is.run;
      rows = rows_same c d seat k sound event ∙ is.rows;
      begins = begins_kept c seat k d sound is.begins event;
    }

pub state_is : (b : Book) (c : Core) → IsBookOf b c → IsOf b.start c
state_is b c is = of_course (IsOf b.start) (is_kept b.start) (start_core b.start) b.view b.taken c (first_is b.start) is.course
