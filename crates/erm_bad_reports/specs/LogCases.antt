-- Small reports that tell of a checkpoint where none may be.
use Rattle.std.specs.Prelude.{[], ◌∷◌}
use Rattle.erm_report.specs.declared.answer.Answer.TheVariants as answer
use Rattle.erm_script.specs.declared.script.Command.TheVariants as command
use Rattle.erm_bad_reports.specs.Clauses.{Case}
use Rattle.erm_bad_reports.specs.Cases.{a_line, case_of, commit_by, of_log, one_name}

-- a transaction is sealed, and is decided only afterwards
abbrev pub checkpoint_beside_sealed : Case
checkpoint_beside_sealed = case_of one_name (a_line command.Begin ∷ a_line command.Seal ∷ of_log command.Checkpoint ∷ a_line command.Settle ∷ [])
    (answer.Began 13 ∷ answer.Sealed 13 ∷ answer.Checkpointed 18 ∷ answer.Committed 13 13 0 ∷ []) (commit_by 1 1 13 13 13 0 [] ∷ []) []

-- an earlier checkpoint told a greater place
abbrev pub checkpoint_goes_back : Case
checkpoint_goes_back = case_of one_name (of_log command.Checkpoint ∷ of_log command.Checkpoint ∷ []) (answer.Checkpointed 18 ∷ answer.Checkpointed 13 ∷ []) [] []
