-- The log of the world in lists, with the savepoints of its sessions' transactions.
use Rattle.std.proofs.Common.{◌≡◌, List, ap, refl, ◌∙◌}
use Rattle.erm_model.specs.declared.history.VersionWritten.{VersionWritten}
use Rattle.erm_model.specs.RowTransaction.{Law}
use Rattle.erm_core_steps.specs.Keeping as keeping
use Rattle.erm_lists.specs.Logs as lists
use Rattle.erm_lists.specs.Stands as lists_stands
use Rattle.erm_lists.specs.Stands.{lists_view}
use Rattle.erm_plain.specs.Stands.{held_by, plain_view}
use Rattle.erm_plain.specs.declared.plain.Plain.{Plain}
use Rattle.erm_world.specs.Log.{Log}
use Rattle.erm_world.specs.Whole as whole

abbrev pub plain_log : {L : Type 0} → Plain L → Log
plain_log p = lists.lists_log p.lists

-- a flusher's calls leave the sessions and what they hold, the opening and the end of the log
pub record KeepsSessions {L : Type 0} (law : Law) (p q : Plain L) : Type 0 where
  pub lists : lists.KeepsSessions law p.lists q.lists
  pub saves : q.saves ≡ p.saves

-- no call keeps them, and calls one after another do
pub keeps_itself : {L : Type 0} (law : Law) (p : Plain L) → KeepsSessions law p p
keeps_itself law p = record { lists = keeping.keeps_itself (lists_stands.Stands law) lists_view p.lists; saves = refl }

pub keeps_on : {L : Type 0} (law : Law) (p q r : Plain L) → KeepsSessions law p q → KeepsSessions law q r → KeepsSessions law p r
keeps_on law p q r first second = record {
  lists = keeping.keeps_on (lists_stands.Stands law) lists_view p.lists q.lists r.lists first.lists second.lists;
  saves = second.saves ∙ first.saves;
}

-- they leave the view's sessions
pub sessions_stay : {L : Type 0} (law : Law) (p q : Plain L) → KeepsSessions law p q → whole.KeepsSessions (plain_view p) (plain_view q)
sessions_stay law p q keeps = record {
  session = keeps.lists.sessions.session;
  opening = keeps.lists.sessions.opening;
  tail = keeps.lists.sessions.tail;
  saves = λ seat session. ap (λ (held : List (List (List VersionWritten))). held_by held seat) keeps.saves;
}
