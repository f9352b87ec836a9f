-- How a line that names a table was answered: whole, cut off with its transaction going on, or with its transaction ended.
use Rattle.std.proofs.Common.{◌≡◌, ℕ, false, List, [], Option, Some, None, refl, sym, ap, subst}
use Rattle.erm_model.specs.declared.history.VersionRead.{VersionRead}
use Rattle.erm_model.specs.declared.history.VersionWritten.{VersionWritten}
use Rattle.erm_model.specs.declared.outcome.Phase.TheVariants.{Active}
use Rattle.erm_model.specs.declared.row_stop.RowStop.{RowStop}
use Rattle.erm_model.specs.declared.row_stop.RowStop.TheVariants as stop
use Rattle.erm_model.specs.RowTransaction.{Asked, asked_claim, asked_make, asked_read, ends}
use Rattle.erm_model.specs.Run.{Step}
use Rattle.erm_node.specs.Sound.{sound_law}
use Rattle.erm_world.specs.Calls.{IsDone, IsShut}
use Rattle.erm_world.specs.Face.{WasRefused}
use Rattle.erm_world.specs.Works.{claiming, reading}
use Rattle.erm_world.specs.World.{View, Work, history_of, phase_at, phase_of, work_at}
use Rattle.erm_world.specs.World as world
use Rattle.erm_world.proofs.Txns.{stopped}
use Rattle.erm_report.specs.declared.answer.Answer.{Answer}
use Rattle.erm_report.specs.declared.answer.Answer.TheVariants as answer
use Rattle.erm_script.specs.declared.script.Command.{Command}
use Rattle.erm_good_report.specs.Transactions.{Aborts, Ending, Excludes, Progress, ended, goes_on, heard}
use Rattle.erm_lines.specs.Answers.{DidOperation, WasRefusedAs, stop_told}
use Rattle.erm_lines.specs.Operations.{AsksOf, DidCalls, FrontOf, WereCutOff, WholeOf}
use Rattle.erm_told_limits.proofs.Ran.{ran}

-- what the last call left of the work besides, where its refusal ended the transaction
pub data Last (asked : Asked) (w u : Work) : Type 0 where
  same_work : u ≡ w → Last asked w u
  read : (r : VersionRead) → asked ≡ asked_read r.oid → u ≡ reading r w → Last asked w u
  claimed : (c : VersionWritten) → asked ≡ asked_claim c.oid → u ≡ claiming c w → Last asked w u

-- An answer is heard as one that lets the transaction go on, or as one that ends it.
abbrev pub GoesOnBy : Answer → Type 0
GoesOnBy a = (seat : ℕ) (asked : Option Command) (p : Progress) → heard seat asked a p ≡ goes_on asked a p

abbrev pub EndsBy : Answer → Ending → Type 0
EndsBy a ending = (seat : ℕ) (asked : Option Command) (p : Progress) → heard seat asked a p ≡ ended ending (goes_on asked a p)

-- how one that ended was closed, if it was excluded
abbrev pub ShutAs : Ending → View → ℕ → Work → Type 0
ShutAs (Excludes None succ pred) v seat w = IsShut v seat w succ pred
ShutAs (Excludes (Some stamp) succ pred) v seat w = ⊥
ShutAs ending v seat w = Unit {0}

pub data Operated (v : View) (seat : ℕ) (c : Command) (a : Answer) (u : View) : Type 0 where
  whole : (steps : List Step) → DidCalls v seat steps (WholeOf c a) u → GoesOnBy a → Operated v seat c a u
  stayed : (why : RowStop) (did : WereCutOff v seat (FrontOf c) (AsksOf c) why u) → u ≡ did.at → ends why ≡ false → GoesOnBy a → Operated v seat c a u
  out : (why : RowStop) (did : WereCutOff v seat (FrontOf c) (AsksOf c) why u) (w : Work) (ending : Ending) → Last did.asked (work_at did.at seat) w → IsDone did.at seat w world.aborts u
      → ShutAs ending did.at seat w → EndsBy a ending → Operated v seat c a u

module _ (v u : View) (seat : ℕ) where
  pub owned_done : (other number : ℕ) (asked : Asked) → WasRefused v seat asked (stop.Owned other number) u → IsDone v seat (work_at v seat) world.aborts u
  owned_done other number (asked_read oid) refused = absurd refused
  owned_done other number (asked_claim oid) refused = refused.1
  owned_done other number asked_make refused = absurd refused

  pub newer_done : (stamp : ℕ) (asked : Asked) → WasRefused v seat asked (stop.Newer stamp) u → IsDone v seat (work_at v seat) world.aborts u
  newer_done stamp (asked_read oid) refused = absurd refused
  newer_done stamp (asked_claim oid) refused = refused.1
  newer_done stamp asked_make refused = absurd refused

  -- one that was excluded early
  pub record Shut (asked : Asked) (succ pred : ℕ) : Type 0 where
    pub work : Work
    pub last : Last asked (work_at v seat) work
    pub done : IsDone v seat work world.aborts u
    pub shut : IsShut v seat work succ pred

  pub excluded_done : (succ pred : ℕ) (asked : Asked) → WasRefused v seat asked (stop.Excluded succ pred) u → Shut asked succ pred
  excluded_done succ pred (asked_read oid) (new, few, clear, (r, at, done, shut)) =
      record { work = reading r (work_at v seat); last = read r (ap asked_read (sym at)) refl; done = done; shut = shut }
  excluded_done succ pred (asked_claim oid) (may, unowned, current, (c, at, done, shut)) =
      record { work = claiming c (work_at v seat); last = claimed c (ap asked_claim (sym at)) refl; done = done; shut = shut }
  excluded_done succ pred asked_make refused = absurd refused

module _ (v u : View) (seat : ℕ) (c : Command) (active : phase_at v seat ≡ Active) where
  still_there : (why : RowStop) (did : WereCutOff v seat (FrontOf c) (AsksOf c) why u) → ends why ≡ false → u ≡ did.at
  still_there why did stays =
      let gone = ran sound_law did.events v did.at seat active did.ran in
      (stopped did.at seat did.asked why u (ap phase_of gone.0.stand) did.refused).stays stays

  cut : (a : Answer) (why : RowStop) → stop_told why ≡ Some a → WereCutOff v seat (FrontOf c) (AsksOf c) why u → Operated v seat c a u
  cut a (stop.NotYet other seen) told did = let same : answer.WaitSeat other seen ≡ a = cc in
      stayed (stop.NotYet other seen) did (still_there (stop.NotYet other seen) did refl) refl (subst GoesOnBy same (λ q asked p. refl))
  cut a stop.ReadsFull told did = let same : answer.ReadsFull ≡ a = cc in
      stayed stop.ReadsFull did (still_there stop.ReadsFull did refl) refl (subst GoesOnBy same (λ q asked p. refl))
  cut a (stop.Owned other number) told did = let same : answer.Owned other number ≡ a = cc in
      out (stop.Owned other number) did (work_at did.at seat) Aborts (same_work refl) (owned_done did.at u seat other number did.asked did.refused) tt (subst (λ (b : Answer). EndsBy b Aborts) same (λ q asked p. refl))
  cut a (stop.Newer stamp) told did = let same : answer.Newer stamp ≡ a = cc in
      out (stop.Newer stamp) did (work_at did.at seat) Aborts (same_work refl) (newer_done did.at u seat stamp did.asked did.refused) tt (subst (λ (b : Answer). EndsBy b Aborts) same (λ q asked p. refl))
  cut a stop.WritesFull told did = let same : answer.WritesFull ≡ a = cc in
      stayed stop.WritesFull did (still_there stop.WritesFull did refl) refl (subst GoesOnBy same (λ q asked p. refl))
  cut a (stop.CellsFull drawn) told did = let same : answer.CellsFull drawn ≡ a = cc in
      stayed (stop.CellsFull drawn) did (still_there (stop.CellsFull drawn) did refl) refl (subst GoesOnBy same (λ q asked p. refl))
  cut a (stop.OidsFull drawn) told did = let same : answer.OidsFull drawn ≡ a = cc in
      stayed (stop.OidsFull drawn) did (still_there (stop.OidsFull drawn) did refl) refl (subst GoesOnBy same (λ q asked p. refl))
  cut a (stop.Excluded succ pred) told did =
      let same : answer.ExcludedEarly succ pred ≡ a = cc in
      let shut = excluded_done did.at u seat succ pred did.asked did.refused in
      out (stop.Excluded succ pred) did shut.work (Excludes None succ pred) shut.last shut.done shut.shut (subst (λ (b : Answer). EndsBy b (Excludes None succ pred)) same (λ q asked p. refl))
  cut a stop.Memory told did = let no : None ≡ Some a = told in cc

  refused_as : (a : Answer) → WasRefusedAs v seat c a u → Operated v seat c a u
  refused_as a (why, told, did) = cut a why told did

  pub operated : (a : Answer) → DidOperation v seat c a u → Operated v seat c a u
  operated (answer.Replied r) (op, is, did) = whole _ did (λ q asked p. refl)
  operated (answer.Cut cells) (none, few, did) = whole [] did (λ q asked p. refl)
  operated a did = refused_as a did
