-- A sealed session that has read nothing, and begins its settle: it comes to the readers of what it claimed first.
use Rattle.std.proofs.Common.{◌≡◌, ℕ, ◌<◌, true, List, length, get_or, sym, ap, ◌∙◌, subst}
use Rattle.erm_cells.specs.Hands.{settled_claim}
use Rattle.erm_machine.specs.declared.event.Kind.TheVariants as kind
use Rattle.erm_machine.specs.declared.task.Task.{Task}
use Rattle.erm_machine.specs.declared.task.Task.TheVariants as task
use Rattle.erm_precommit.specs.declared.pre.KeptClaim.{KeptClaim}
use Rattle.erm_precommit.specs.declared.pre.Pre.{Pre}
use Rattle.erm_precommit.specs.Pre.{fits_ring, no_claim_kept}
use Rattle.erm_precommit.specs.Settle.{task_of, Stands}
use Rattle.erm_precommit.proofs.Overwritten.{readers_cell}
use Rattle.erm_precommit.proofs.Starts.{start_comes, start_ready, start_stands}
use Rattle.erm_readers.specs.Calls.{IsAtReaders}
use Rattle.erm_rule.specs.declared.view.View.{View}
use Rattle.erm_rule.specs.Steps.{Ready, Told}
use Rattle.erm_rule.specs.Views.{part_of}
use Rattle.erm_session.specs.declared.session.Session.{Session}
use Rattle.erm_session.specs.declared.session.Stage.TheVariants as stage
use Rattle.erm_session.specs.Session.{IsSession, StageIs}

pub settle_ready : (pre : Pre) (s : Session) (v : View) → s.stage ≡ stage.Sealed pre → IsSession s (part_of v s.seat) → Ready v s.seat kind.LoadFlushed
settle_ready pre s v stage_is is =
    let was : StageIs (stage.Sealed pre) (part_of v s.seat) = subst (λ t. StageIs t (part_of v s.seat)) stage_is is.kept.stage in
    start_ready pre v s.seat was.0 was.1 was.2

module _ (pre : Pre) (s : Session) (v w : View) (flushed : ℕ) (stage_is : s.stage ≡ stage.Sealed pre) (is : IsSession s (part_of v s.seat)) (told : Told v s.seat kind.LoadFlushed flushed w) (room : fits_ring pre flushed ≡ true) where
  was : StageIs (stage.Sealed pre) (part_of v s.seat)
  was = subst (λ t. StageIs t (part_of v s.seat)) stage_is is.kept.stage

  -- the settle begins
  pub begun_stands : Stands pre w s.seat
  begun_stands = start_stands pre v s.seat was.0 was.1 was.2 flushed w told room

  -- it has read nothing, and claimed something
  module _ (unread : length pre.reads.value.items ≡ 0) (claims : List KeptClaim) (claims_are : claims ≡ pre.claims.value.items) (some : 0 < length claims) where
    claimed : 0 < length pre.claims.value.items
    claimed = subst (λ (l : List KeptClaim). 0 < length l) claims_are some

    at : task_of w s.seat ≡ task.Settles (length pre.reads.value.items) 0
    at = start_comes pre v s.seat was.0 was.1 was.2 flushed w told room ∙ ap (λ (n : ℕ). task.Settles n 0) (sym unread)

    pub at_readers : IsAtReaders (part_of w s.seat).current (part_of w s.seat).task
    at_readers =
        subst (λ (t : Task). IsAtReaders (part_of w s.seat).current t) (sym at)
        (begun_stands.kept.read_count, subst (λ (n : ℕ). 0 < n) begun_stands.kept.claim_count claimed)

    pub first_cell : (claim : KeptClaim) → claim ≡ get_or claims 0 no_claim_kept → (settled_claim (part_of w s.seat)).cell ≡ claim.overwritten
    first_cell claim e =
        readers_cell pre w s.seat begun_stands 0 claim (e ∙ ap (λ (l : List KeptClaim). get_or l 0 no_claim_kept) claims_are) at claimed
