-- Guards read the own part and the word that is met, and nothing else.
use Rattle.std.proofs.Common.{◌≡◌, ℕ, Bool, true, false, cond, ◌&&◌, Option, Some, None, refl, is_some}
use Rattle.erm_machine.specs.declared.event.Counter.{Counter}
use Rattle.erm_machine.specs.declared.event.Counter.TheVariants.{Objects, Cells}
use Rattle.erm_machine.specs.declared.event.Kind.{Kind}
use Rattle.erm_machine.specs.declared.event.Kind.TheVariants as kind
use Rattle.erm_machine.specs.declared.part.Part.{Part}
use Rattle.erm_machine.specs.declared.task.Task.{Task}
use Rattle.erm_machine.specs.declared.task.Task.TheVariants as task
use Rattle.erm_machine.specs.declared.version.VersionAt.{VersionAt}
use Rattle.erm_machine.specs.Core.{Object, Shared}
use Rattle.erm_machine.specs.Reading.{entered, load_entry, load_safe_entry, claim, set_reader, swap_link, load_counter, add_counter}
use Rattle.erm_machine.specs.Seat.{is_active, is_safe, is_sealed, may_start, when, with_task}
use Rattle.erm_machine.specs.Settling.{load_read_entry}
use Rattle.erm_machine.specs.Step.{part_after}

same_guard : (b : Bool) (x y : Part) → is_some (cond b (Some x) None) ≡ is_some (cond b (Some y) None)
same_guard true x y = refl
same_guard false x y = refl

same_branch : (b : Bool) (l m n : Option Part) → is_some m ≡ is_some n → is_some (cond b l m) ≡ is_some (cond b l n)
same_branch true l m n e = refl
same_branch false l m n e = e

same_choice : (b : Bool) (l k m n : Option Part) → is_some l ≡ is_some k → is_some m ≡ is_some n → is_some (cond b l m) ≡ is_some (cond b k n)
same_choice true l k m n d e = d
same_choice false l k m n d e = e

entry_local : (seat oid found : ℕ) (o q : Object) (x : Part) (t : Task) → is_some (load_entry seat oid found o x t) ≡ is_some (load_entry seat oid found q x t)
entry_local seat oid found o q x (task.Cleared cleared) = same_guard _ _ _
entry_local seat oid found o q x t =
    same_choice (is_safe t) (load_safe_entry oid found o x) (load_safe_entry oid found q x)
    (when (is_active x.place && may_start t) (with_task (entered seat oid found o) x))
    (when (is_active x.place && may_start t) (with_task (entered seat oid found q) x))
    (same_guard _ _ _) (same_guard _ _ _)

claim_local : (seat oid seen number found : ℕ) (o q : Object) (x : Part) (t : Task) → is_some (claim seat oid seen number found o x t) ≡ is_some (claim seat oid seen number found q x t)
claim_local seat oid seen number found o q x (task.Found version stamp (Some entry)) = same_guard _ _ _
claim_local seat oid seen number found o q x _ = refl

reader_local : (seat : ℕ) (v : VersionAt) (o q : Object) (x : Part) (t : Task) → is_some (set_reader seat v o x t) ≡ is_some (set_reader seat v q x t)
reader_local seat v o q x (task.Found version stamp head) = same_guard _ _ _
reader_local seat v o q x _ = refl

link_local : (found : ℕ) (v : VersionAt) (o q : Object) (x : Part) (t : Task) → is_some (swap_link found v o x t) ≡ is_some (swap_link found v q x t)
link_local found v o q x (task.CutFound version horizon) = same_guard _ _ _
link_local found v o q x _ = refl

load_local : (cells more : ℕ) (n : Counter) (found : ℕ) (x : Part) (t : Task) → is_some (load_counter cells n found x t) ≡ is_some (load_counter more n found x t)
load_local cells more Objects found x t = refl
load_local cells more Cells found x task.Draws = same_guard _ _ _
load_local cells more Cells found x _ = refl

add_local : (cells more seat : ℕ) (n : Counter) (found : ℕ) (x : Part) (t : Task) → is_some (add_counter cells seat n found x t) ≡ is_some (add_counter more seat n found x t)
add_local cells more seat Objects found x task.Numbers = refl
add_local cells more seat Objects found x _ = refl
add_local cells more seat Cells found x task.Pool = same_guard _ _ _
add_local cells more seat Cells found x _ = refl

pub guards_local : (seat : ℕ) (k : Kind) (found : ℕ) (s t : Shared) (x : Part) → is_some (part_after seat k found s x) ≡ is_some (part_after seat k found t x)
guards_local seat (kind.LoadEntry oid) found s t x =
    same_branch (is_sealed x.place) (load_read_entry seat oid found x x.task) (load_entry seat oid found (s.objects oid) x x.task) (load_entry seat oid found (t.objects oid) x x.task)
    (entry_local seat oid found (s.objects oid) (t.objects oid) x x.task)
guards_local seat (kind.Claim oid seen number) found s t x = claim_local seat oid seen number found (s.objects oid) (t.objects oid) x x.task
guards_local seat (kind.SetReader v) found s t x = reader_local seat v (s.objects v.oid) (t.objects v.oid) x x.task
guards_local seat (kind.SwapLink v) found s t x = link_local found v (s.objects v.oid) (t.objects v.oid) x x.task
guards_local seat (kind.LoadCounter counter) found s t x = load_local s.cell_limit t.cell_limit counter found x x.task
guards_local seat (kind.AddCounter counter) found s t x = add_local s.cell_limit t.cell_limit seat counter found x x.task
guards_local seat _ found s t x = refl
