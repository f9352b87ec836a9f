-- A table on a log that was just opened: what is asked where its sessions run, and what its desk and its clients start from.
use Rattle.std.proofs.Common.{◌≡◌, ℕ, zero, suc, ◌+◌, ◌<◌, ◌≤◌, Bool, not, cond, List, [], ◌∷◌, length, replicate, Option, Some, None, IfSome, refl, sym, ap, ◌∙◌, subst, arith}
use Rattle.std.specs.Prelude.{if◌then◌else◌}
use Rattle.std.specs.List.{filter, range_with_len}
use Rattle.std.proofs.lemmas.Bool.{lt-ltb}
use Rattle.std.proofs.lemmas.List.{get_or_default}
use Rattle.erm_model.specs.Rows.{Rows, rows_of}
use Rattle.erm_model.specs.RowTransaction.{SameRows}
use Rattle.erm_model.specs.declared.limits.TheConstants.{LAST_RUN, LEAST_BLOCK, OID_LIMIT, STOP}
use Rattle.erm_machine.specs.declared.limits.TheConstants.{OBJECT_LIMIT}
use Rattle.erm_machine.specs.Core.{no_object, opened_object, version_at}
use Rattle.erm_node.specs.Sound.{IsSound, sound_law}
use Rattle.erm_node.specs.TreeMap.{map_of_rows}
use Rattle.erm_outside.specs.Disk.{Step, Tells}
use Rattle.erm_ckpt.specs.Recovered.{State}
use Rattle.erm_ckpt.specs.declared.slot.TheConstants.{LOG_START}
use Rattle.erm_world.specs.Laws.{IsSerializable}
use Rattle.erm_world.specs.World.{View}
use Rattle.erm_lines.specs.Executions.{IsOpeningOf, count_rows, is_zero}
use Rattle.erm_good_report.specs.Opening.{Opening as Reported}
use Rattle.erm_summary.specs.Summary.{opening_at}
use Rattle.erm_start.specs.Recovered.{IsFirstObject, IsOpenedLog}
use Rattle.erm_rule.specs.declared.view.Opening.{Opening}
use Rattle.erm_rule.specs.Openings.{start_of, start_rows}
use Rattle.erm_engine.specs.Opened.{opened_view}
use Rattle.erm_desk.specs.Desk.{IsHeld}
use Rattle.erm_desk.specs.Known.{flushed_log}
use Rattle.erm_disk_run.specs.Found.{StartsFrom}
use Rattle.erm_disk_run.specs.Opened.{OpensLog, WasLogOpened}
use Rattle.erm_disk_run.specs.declared.log.OpenedLog.{OpenedLog}
use Rattle.erm_disk_at_once.specs.Desks.{OpensTable}

-- what is so of what a disk tells after, wherever it tells what was done
told_after : (H : List Step → Type 0) (P : List Step → List Step → Type 0) (before after : Option (List Step)) → ((a b : List Step) → P a b → H b) → Tells P before after → IfSome after H
told_after H P None after so told = subst (λ (o : Option (List Step)). IfSome o H) (sym told) tt
told_after H P (Some old) after so (new, told, p) = subst (λ (o : Option (List Step)). IfSome o H) (sym told) (so old new p)

-- as many rows of a range aren't of zeros
same_count : (a b : Rows) (from n : ℕ) → ((oid : ℕ) → oid < from + n → a oid ≡ b oid)
    → filter (λ oid. not (is_zero (a oid))) (range_with_len from n) ≡ filter (λ oid. not (is_zero (b oid))) (range_with_len from n)
same_count a b from zero same = refl
same_count a b from (suc n) same =
    ap (λ (row : List ℕ). cond (not (is_zero row)) (from ∷ filter (λ oid. not (is_zero (a oid))) (range_with_len (from + 1) n)) (filter (λ oid. not (is_zero (a oid))) (range_with_len (from + 1) n)))
    (same from (omega arith))
    ∙ ap (λ (oids : List ℕ). cond (not (is_zero (b from))) (from ∷ oids) oids) (same_count a b (from + 1) n (λ oid less. same oid (omega (arith, less))))

counts_same : (a b : Rows) → SameRows a b → count_rows a ≡ count_rows b
counts_same a b same = ap (λ (oids : List ℕ). length oids) (same_count a b 0 OID_LIMIT (λ oid less. same oid (omega (arith, less))))

-- the opening of a table on a log that was just opened, whose first object is this one
abbrev pub opening_on : OpenedLog → ℕ → Opening
opening_on opened first = record { sessions = 0; tail = opened.tail; run = opened.start.run; first = first; rows = opened.rows }

-- the world of the table as it was opened
abbrev pub begun_on : OpenedLog → ℕ → View
begun_on opened first = opened_view (start_of (opening_on opened first))

-- as a report starts from it
abbrev pub told_on : OpenedLog → ℕ → Reported
told_on opened first = opening_at opened.start (count_rows (begun_on opened first).opening.rows) (begun_on opened first).opening.first

module _ (before mid : Option (List Step)) (state : State) (opened : OpenedLog) (was : WasLogOpened before mid state opened) (first : ℕ) where
  abbrev o : Opening
  o = opening_on opened first

  abbrev v : View
  v = begun_on opened first

  pub sound_rows : IsSound (rows_of opened.rows.items)
  sound_rows = subst IsSound (sym was.rows) was.found.are_sound

  -- the table's rows are those found, for the objects
  table_rows : SameRows v.opening.rows (rows_of opened.rows.items)
  table_rows oid below =
      ap (λ (b : Bool). (version_at (if b then opened_object (start_rows opened.rows.items) oid else no_object) 0).words.row) (lt-ltb oid OBJECT_LIMIT below)
      ∙ get_or_default opened.rows.items oid (replicate 16 0) [] (let many = was.many in omega (arith, below, many))

  state_rows : SameRows v.opening.rows state.rows
  state_rows oid below = table_rows oid below ∙ ap (λ (r : Rows). r oid) was.rows

  pub opens_table : OpensTable state (start_of o)
  opens_table = record { low = was.low; run_low = was.run_low; tail = was.tail; run = was.run; rows = state_rows }

  just_opened : IsOpenedLog state.rows (state.at + LEAST_BLOCK) (state.run + 1) (flushed_log (start_of o) [])
  just_opened = record { at = was.tail; run = was.run; rows = state_rows; tail = was.tail; flushed = was.tail; gathered = refl; pinned = refl }

  -- the disk holds its log
  pub held : IfSome mid (IsHeld sound_law (start_of o) [])
  held = told_after (IsHeld sound_law (start_of o) []) (OpensLog state (flushed_log (start_of o) []) opened.slots) before mid (λ a b opens. (opened.slots, opens.holds)) (was.disk (flushed_log (start_of o) []) just_opened)

  pub behind : LOG_START < opened.tail
  behind = let low = was.found.low in let tail = was.tail in omega (arith, low, tail)

  pub low_tail : opened.tail ≤ STOP + 4
  low_tail = let low = was.low in let tail = was.tail in omega (arith, low, tail)

  pub low_run : opened.start.run ≤ LAST_RUN
  low_run = let low = was.run_low in let run = was.run in omega (arith, low, run)

  pub starts_from : IsFirstObject (rows_of opened.rows.items) first → StartsFrom state (told_on opened first)
  starts_from is_first = record {
    map = was.map;
    stamp = was.stamp;
    run = was.run;
    rows = counts_same v.opening.rows state.rows state_rows;
    first = subst (λ (r : Rows). IsFirstObject r first) was.rows is_first;
  }

  module _ (is_first : IsFirstObject (rows_of opened.rows.items) first) (maps : (a b : Rows) → SameRows a b → IsSound a → map_of_rows a ≡ map_of_rows b) (begins : IsSerializable sound_law v) where
    same_map : opened.start.map ≡ map_of_rows v.opening.rows
    same_map = was.map ∙ sym (maps v.opening.rows state.rows state_rows begins.opening_meets)

    pub is_opening : IsOpeningOf v (told_on opened first)
    is_opening = record {
      map = same_map;
      stamp = was.tail ∙ ap (λ (n : ℕ). n + LEAST_BLOCK) (sym was.stamp);
      rows = refl;
      first = refl;
      cells = (omega arith, omega arith);
    }
