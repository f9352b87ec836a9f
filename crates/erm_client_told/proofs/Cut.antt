-- Transcripts, one behind another, as a script that was cut off.
use Rattle.std.proofs.Common.{◌≡◌, ℕ, ◌+◌, ◌≤◌, List, length, Some, sym, ap, ◌∙◌, subst, arith}
use Rattle.std.specs.List.{slice_get}
use Rattle.std.proofs.lemmas.List.{length-map}
use Rattle.std.proofs.lemmas.Option.{slice_get-map}
use Rattle.std.specs.Option.{option_map}
use Rattle.erm_client.proofs.Joined.{among}
use Rattle.erm_client.specs.declared.transcript.Transcript.{Transcript}
use Rattle.erm_client.specs.Laws.{AreFrom, answers_of, lines_of}
use Rattle.erm_client_told.proofs.Lines.{answered_all, answered_lines, answers_at, even_all, lines_at}
use Rattle.erm_client_told.specs.Told.{TranscriptsAreACutRun, answers_by, parts_of}
use Rattle.erm_good_at_once.specs.CutReports.{answered_of}
use Rattle.erm_joined.specs.Merged.{AreMerged, counts_of}
use Rattle.erm_lines.specs.Executions.{IsOpened}
use Rattle.erm_model.specs.declared.limits.TheConstants.{LAST_NUMBER}
use Rattle.erm_script.specs.declared.script.ScriptLine.{ScriptLine}
use Rattle.erm_threads.proofs.Jobs.{map_from}
use Rattle.erm_works.proofs.Places.{count_of}
use Rattle.erm_works.specs.Cuts.{WorksAreACutRun}
use Rattle.erm_works.specs.Works.{IsSplit}
use Rattle.erm_world.specs.World.{View}

-- how many answers the session of a place has
pub counted : (all : List Transcript) (k : ℕ) (c : Transcript) → slice_get all k ≡ Some c → counts_of (answers_by all) (1 + k) ≡ length c.answers.items
counted all k c at =
    let there : slice_get (answers_by all) k ≡ Some c.answers.items = slice_get-map (λ (x : Transcript). x.answers.items) all k ∙ ap (option_map (λ (x : Transcript). x.answers.items)) at in
    ap (counts_of (answers_by all)) (omega arith) ∙ count_of (answers_by all) k c.answers.items there

-- so these lines were answered
pub answered_are : (all : List Transcript) → AreFrom 1 all → answered_of (counts_of (answers_by all)) (lines_of all) ≡ answered_lines all
answered_are all are = answered_all 1 all (counts_of (answers_by all)) are (counted all)

pub merged : (all : List Transcript) → AreFrom 1 all → AreMerged (answered_of (counts_of (answers_by all)) (lines_of all)) (answers_by all) (answers_of all)
merged all are = subst (λ (ls : List ScriptLine). AreMerged ls (answers_by all) (answers_of all)) (sym (answered_are all are)) (record {
  many = even_all 1 all are;
  own = λ k part at. let it = map_from (λ (c : Transcript). c.answers.items) all k part at in answers_at (k + 1) 1 k all it.0 (omega arith) are it.1 ∙ it.2;
})

-- the script of all is split into them
pub split : (v : View) (all : List Transcript) → IsOpened v → AreFrom 1 all → length (lines_of all) ≤ LAST_NUMBER → length all ≤ v.opening.sessions → IsSplit v (lines_of all) (parts_of all)
split v all opened are few sessions =
    let many = length-map all (λ (c : Transcript). c.lines.items) in
    record {
      opened = opened;
      ranges = λ l there. (among 1 all l are there).line.range;
      few = few;
      seats = λ l there. let so = among 1 all l are there in (so.above, omega (arith, so.within, many));
      sessions = omega (arith, sessions, many);
      own = λ k lines at. let it = map_from (λ (c : Transcript). c.lines.items) all k lines at in sym it.2 ∙ sym (lines_at (k + 1) 1 k all it.0 (omega arith) are it.1);
    }

pub are_cut : WorksAreACutRun → TranscriptsAreACutRun
are_cut law v f all closed opened are few sessions works =
    law v f (lines_of all) (parts_of all) (answers_by all) closed (answers_of all) (split v all opened are few sessions) works (merged all are)
