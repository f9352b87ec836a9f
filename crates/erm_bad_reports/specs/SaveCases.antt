-- Small reports with savepoints: bad ones, each of which breaks one clause, and good ones. Their lines may have been run in turn, or at once.
use Rattle.std.specs.Prelude.{ℕ, List, [], ◌∷◌, ◌++◌, map, Option, Some, None}
use Rattle.erm_model.specs.Database.{at}
use Rattle.erm_model.specs.Run.{Step}
use Rattle.erm_model.specs.declared.operation.Op.TheVariants as op
use Rattle.erm_model.specs.declared.operation.Reply.TheVariants as reply
use Rattle.erm_report.specs.declared.answer.Answer.TheVariants as answer
use Rattle.erm_script.specs.declared.script.Command.TheVariants as command
use Rattle.erm_good_report.specs.Opening.{Mode}
use Rattle.erm_good_report.specs.Transactions.{Exchange}
use Rattle.erm_bad_reports.specs.Clauses.{Case}
use Rattle.erm_bad_reports.specs.Cases.{a_line, b_line, case_of, commit_by, one_name, two_names}

-- a savepoint that is made, and one that isn't, since there are as many as there may be; a way back, and one to no savepoint
abbrev pub saved : ℕ → Exchange
saved held = record { asked = command.Save; answer = answer.Saved held }

abbrev pub full : Exchange
full = record { asked = command.Save; answer = answer.SavesFull }

abbrev pub back : ℕ → Exchange
back n = record { asked = command.Back n; answer = answer.Back n }

abbrev pub no_save : (n held : ℕ) → Exchange
no_save n held = record { asked = command.Back n; answer = answer.NoSave held }

-- a put of a key, and a get of it
abbrev pub puts : ℕ → Exchange
puts value = record { asked = command.Put 0 1 (value ∷ []); answer = answer.Replied reply.Done }

abbrev pub gets : Option (List ℕ) → Exchange
gets value = record { asked = command.Get 0 1; answer = answer.Replied (reply.Value value) }

-- a transaction of one session that has these lines, and then aborts
abbrev pub given_up : Mode → List Exchange → Case
given_up mode lines = record (case_of one_name
    (a_line command.Begin ∷ map (λ e. a_line e.asked) lines ++ a_line command.Abort ∷ [])
    (answer.Began 13 ∷ map (λ e. e.answer) lines ++ answer.Aborted ∷ []) [] []) { mode = mode }

-- the second savepoint is told for the first one; a ninth one is made; there are too many after seven; no savepoint where there is one; back to one
-- where there is none; back to number 0; another number is told held than there are; back to one that a way back has forgotten; it counts as held; a
-- refused way back has forgotten one
abbrev pub lines_miscounted : List (List Exchange)
lines_miscounted =
    (saved 2 ∷ [])
    ∷ (saved 1 ∷ saved 2 ∷ saved 3 ∷ saved 4 ∷ saved 5 ∷ saved 6 ∷ saved 7 ∷ saved 8 ∷ saved 9 ∷ [])
    ∷ (saved 1 ∷ saved 2 ∷ saved 3 ∷ saved 4 ∷ saved 5 ∷ saved 6 ∷ saved 7 ∷ full ∷ [])
    ∷ (saved 1 ∷ no_save 1 1 ∷ [])
    ∷ (back 1 ∷ [])
    ∷ (saved 1 ∷ back 0 ∷ [])
    ∷ (saved 1 ∷ no_save 2 2 ∷ [])
    ∷ (saved 1 ∷ saved 2 ∷ back 1 ∷ back 2 ∷ [])
    ∷ (saved 1 ∷ saved 2 ∷ back 1 ∷ saved 3 ∷ [])
    ∷ (saved 1 ∷ no_save 2 1 ∷ saved 1 ∷ [])
    ∷ []

-- an undone value is read; the value that the key had at the savepoint is gone; it is still the one put since; a refused way back has undone a put
abbrev pub lines_misread : List (List Exchange)
lines_misread =
    (saved 1 ∷ puts 1 ∷ back 1 ∷ gets (Some (1 ∷ [])) ∷ [])
    ∷ (puts 1 ∷ saved 1 ∷ puts 2 ∷ back 1 ∷ gets None ∷ [])
    ∷ (puts 1 ∷ saved 1 ∷ puts 2 ∷ back 1 ∷ gets (Some (2 ∷ [])) ∷ [])
    ∷ (saved 1 ∷ puts 1 ∷ no_save 2 1 ∷ gets None ∷ [])
    ∷ []

-- a transaction begins with a savepoint of the one before
abbrev pub held_from_before : Mode → Case
held_from_before mode = record (case_of one_name
    (a_line command.Begin ∷ a_line command.Save ∷ a_line command.Commit ∷ a_line command.Begin ∷ a_line command.Save ∷ a_line command.Abort ∷ [])
    (answer.Began 13 ∷ answer.Saved 1 ∷ answer.Committed 13 13 0 ∷ answer.Began 18 ∷ answer.Saved 2 ∷ answer.Aborted ∷ [])
    (commit_by 1 1 13 13 13 0 (record { op = op.Save; reply = reply.Done } ∷ []) ∷ []) []) { mode = mode }

-- the operations of a transaction whose put is undone
abbrev pub undone_steps : List Step
undone_steps = record { op = op.Save; reply = reply.Done } ∷ record { op = op.Put 0 1 (1 ∷ []); reply = reply.Done } ∷ record { op = op.Back 1; reply = reply.Done } ∷ []

-- it commits, and the map has the value that was put
abbrev pub undone_was_left : Mode → Case
undone_was_left mode = record (case_of one_name
    (a_line command.Begin ∷ a_line command.Save ∷ a_line (command.Put 0 1 (1 ∷ [])) ∷ a_line (command.Back 1) ∷ a_line command.Commit ∷ [])
    (answer.Began 13 ∷ answer.Saved 1 ∷ answer.Replied reply.Done ∷ answer.Back 1 ∷ answer.Committed 13 13 0 ∷ [])
    (commit_by 1 1 13 13 13 0 undone_steps ∷ []) (record { key = at 0 1; value = 1 ∷ [] } ∷ [])) { mode = mode }

-- ---- phases
-- a session that has no transaction makes a savepoint; a sealed one does; a snapshot that only reads does
abbrev pub saved_idle : Mode → Case
saved_idle mode = record (case_of one_name (a_line command.Save ∷ []) (answer.Saved 1 ∷ []) [] []) { mode = mode }

abbrev pub saved_sealed : Mode → Case
saved_sealed mode = record (case_of one_name
    (a_line command.Begin ∷ a_line command.Seal ∷ a_line command.Save ∷ a_line command.Settle ∷ [])
    (answer.Began 13 ∷ answer.Sealed 13 ∷ answer.Saved 1 ∷ answer.Committed 13 13 0 ∷ [])
    (commit_by 1 1 13 13 13 0 (record { op = op.Save; reply = reply.Done } ∷ []) ∷ []) []) { mode = mode }

abbrev pub saved_safe : Mode → Case
saved_safe mode = record (case_of one_name (a_line command.Safe ∷ a_line command.Save ∷ a_line command.Abort ∷ []) (answer.Safe 13 ∷ answer.Saved 1 ∷ answer.Aborted ∷ []) [] []) { mode = mode }

-- ---- windows
-- The second session got a key, and went back to before that; the first one put it again, and went back, and committed. The successor stamp of the
-- second one is above that commit's.
abbrev pub undone_lines_forgotten : Mode → Case
undone_lines_forgotten mode = record (case_of two_names
    (a_line command.Begin ∷ a_line (command.Put 0 1 (1 ∷ [])) ∷ a_line command.Commit
    ∷ b_line command.Begin ∷ b_line command.Save ∷ b_line (command.Get 0 1) ∷ b_line (command.Back 1)
    ∷ a_line command.Begin ∷ a_line command.Save ∷ a_line (command.Put 0 1 (2 ∷ [])) ∷ a_line (command.Back 1) ∷ a_line command.Commit ∷ b_line command.Commit ∷ [])
    (answer.Began 13 ∷ answer.Replied reply.Done ∷ answer.Committed 13 13 0
    ∷ answer.Began 33 ∷ answer.Saved 1 ∷ answer.Replied (reply.Value (Some (1 ∷ []))) ∷ answer.Back 1
    ∷ answer.Began 33 ∷ answer.Saved 1 ∷ answer.Replied reply.Done ∷ answer.Back 1 ∷ answer.Committed 33 33 13 ∷ answer.Committed 42 42 13 ∷ [])
    (commit_by 1 1 13 13 13 0 (record { op = op.Put 0 1 (1 ∷ []); reply = reply.Done } ∷ [])
    ∷ commit_by 1 2 33 33 33 13 (record { op = op.Save; reply = reply.Done } ∷ record { op = op.Put 0 1 (2 ∷ []); reply = reply.Done } ∷ record { op = op.Back 1; reply = reply.Done } ∷ [])
    ∷ commit_by 2 1 33 42 42 13 (record { op = op.Save; reply = reply.Done } ∷ record { op = op.Get 0 1; reply = reply.Value (Some (1 ∷ [])) } ∷ record { op = op.Back 1; reply = reply.Done } ∷ []) ∷ [])
    (record { key = at 0 1; value = 1 ∷ [] } ∷ [])) { mode = mode }

-- A key was put; the next transaction put it again, went back, and committed; the third one got the key. Its predecessor stamp is below the second
-- one's stamp, whose put was undone, and overwrote the key's record all the same.
abbrev pub undone_put_forgotten : Mode → Case
undone_put_forgotten mode = record (case_of one_name
    (a_line command.Begin ∷ a_line (command.Put 0 1 (1 ∷ [])) ∷ a_line command.Commit
    ∷ a_line command.Begin ∷ a_line command.Save ∷ a_line (command.Put 0 1 (2 ∷ [])) ∷ a_line (command.Back 1) ∷ a_line command.Commit
    ∷ a_line command.Begin ∷ a_line (command.Get 0 1) ∷ a_line command.Commit ∷ [])
    (answer.Began 13 ∷ answer.Replied reply.Done ∷ answer.Committed 13 13 0
    ∷ answer.Began 33 ∷ answer.Saved 1 ∷ answer.Replied reply.Done ∷ answer.Back 1 ∷ answer.Committed 33 33 13
    ∷ answer.Began 42 ∷ answer.Replied (reply.Value (Some (1 ∷ []))) ∷ answer.Committed 42 42 13 ∷ [])
    (commit_by 1 1 13 13 13 0 (record { op = op.Put 0 1 (1 ∷ []); reply = reply.Done } ∷ [])
    ∷ commit_by 1 2 33 33 33 13 (record { op = op.Save; reply = reply.Done } ∷ record { op = op.Put 0 1 (2 ∷ []); reply = reply.Done } ∷ record { op = op.Back 1; reply = reply.Done } ∷ [])
    ∷ commit_by 1 3 42 42 42 13 (record { op = op.Get 0 1; reply = reply.Value (Some (1 ∷ [])) } ∷ []) ∷ [])
    (record { key = at 0 1; value = 1 ∷ [] } ∷ [])) { mode = mode }

-- ---- good reports
-- A commit puts two keys. The next transaction makes a savepoint, puts one of them again, gets what it put, goes back, and gets what the commit put; there
-- is no second savepoint to go back to.
abbrev pub gone_back : Mode → Case
gone_back mode = record (case_of one_name
    (a_line command.Begin ∷ a_line (command.Put 0 20 (187 ∷ [])) ∷ a_line (command.Put 0 10 (170 ∷ [])) ∷ a_line command.Commit
    ∷ a_line command.Begin ∷ a_line command.Save ∷ a_line (command.Put 0 10 (193 ∷ [])) ∷ a_line (command.Get 0 10) ∷ a_line (command.Back 1) ∷ a_line (command.Get 0 10) ∷ a_line (command.Back 2)
    ∷ a_line command.Commit ∷ [])
    (answer.Began 13 ∷ answer.Replied reply.Done ∷ answer.Replied reply.Done ∷ answer.Committed 13 13 0
    ∷ answer.Began 38 ∷ answer.Saved 1 ∷ answer.Replied reply.Done ∷ answer.Replied (reply.Value (Some (193 ∷ []))) ∷ answer.Back 1 ∷ answer.Replied (reply.Value (Some (170 ∷ []))) ∷ answer.NoSave 1
    ∷ answer.Committed 38 38 13 ∷ [])
    (commit_by 1 1 13 13 13 0 (record { op = op.Put 0 20 (187 ∷ []); reply = reply.Done } ∷ record { op = op.Put 0 10 (170 ∷ []); reply = reply.Done } ∷ [])
    ∷ commit_by 1 2 38 38 38 13
    (record { op = op.Save; reply = reply.Done } ∷ record { op = op.Put 0 10 (193 ∷ []); reply = reply.Done } ∷ record { op = op.Get 0 10; reply = reply.Value (Some (193 ∷ [])) }
    ∷ record { op = op.Back 1; reply = reply.Done } ∷ record { op = op.Get 0 10; reply = reply.Value (Some (170 ∷ [])) } ∷ []) ∷ [])
    (record { key = at 0 10; value = 170 ∷ [] } ∷ record { key = at 0 20; value = 187 ∷ [] } ∷ [])) { mode = mode }

-- A key that was put is still claimed when its transaction has gone back: the second session's put finds the owner.
abbrev pub claim_stays : Mode → Case
claim_stays mode = record (case_of two_names
    (a_line command.Begin ∷ a_line command.Save ∷ a_line (command.Put 0 1 (1 ∷ [])) ∷ a_line (command.Back 1) ∷ b_line command.Begin ∷ b_line (command.Put 0 1 (2 ∷ [])) ∷ a_line command.Commit ∷ [])
    (answer.Began 13 ∷ answer.Saved 1 ∷ answer.Replied reply.Done ∷ answer.Back 1 ∷ answer.Began 13 ∷ answer.Owned 1 1 ∷ answer.Committed 13 13 0 ∷ [])
    (commit_by 1 1 13 13 13 0 undone_steps ∷ []) []) { mode = mode }

-- A new key whose put is undone has no record, and no window need be tight by it; but the put is a cause of the predecessor stamp of the transaction that
-- gets the key afterwards.
abbrev pub new_key_undone : Mode → Case
new_key_undone mode = record (case_of one_name
    (a_line command.Begin ∷ a_line command.Save ∷ a_line (command.Put 0 1 (1 ∷ [])) ∷ a_line (command.Back 1) ∷ a_line command.Commit
    ∷ a_line command.Begin ∷ a_line (command.Get 0 1) ∷ a_line command.Commit ∷ [])
    (answer.Began 13 ∷ answer.Saved 1 ∷ answer.Replied reply.Done ∷ answer.Back 1 ∷ answer.Committed 13 13 0
    ∷ answer.Began 33 ∷ answer.Replied (reply.Value None) ∷ answer.Committed 33 33 13 ∷ [])
    (commit_by 1 1 13 13 13 0 undone_steps ∷ commit_by 1 2 33 33 33 13 (record { op = op.Get 0 1; reply = reply.Value None } ∷ []) ∷ []) []) { mode = mode }
