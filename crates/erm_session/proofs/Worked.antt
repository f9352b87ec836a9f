-- A sealed session, whose settle went on.
use Rattle.std.proofs.Common.{◌≡◌, map, sym, ap, ◌∙◌, subst}
use Rattle.erm_cells.specs.Spare.{SpareIs}
use Rattle.erm_machine.specs.declared.attempt.Claim.{Claim}
use Rattle.erm_machine.specs.declared.attempt.Read.{Read}
use Rattle.erm_machine.specs.declared.part.Part.{Part}
use Rattle.erm_precommit.specs.declared.pre.Pre.{Pre}
use Rattle.erm_precommit.specs.Settle.{reached_part, Stands, WentOn}
use Rattle.erm_record.specs.Stored.{block_words}
use Rattle.erm_rule.specs.declared.view.View.{View}
use Rattle.erm_rule.specs.Views.{part_of}
use Rattle.erm_rule.proofs.Telling.{part_of-changed}
use Rattle.erm_session.specs.declared.session.Session.{Session}
use Rattle.erm_session.specs.declared.session.Stage.TheVariants as stage
use Rattle.erm_session.specs.Session.{IsSession, StageIs}
use Rattle.erm_session.proofs.Skewing.{session_held}

-- what the session keeps is its seat's still, with the transaction as the settle left it
module _ (s : Session) (old new : Pre) (v w : View) (stage_is : s.stage ≡ stage.Sealed old) (is : IsSession s (part_of v s.seat)) (went : WentOn v s.seat w) (stands : Stands new w s.seat) where
  there : part_of w s.seat ≡ reached_part went.task went.succ went.from went.pred went.notes (part_of v s.seat)
  there = part_of-changed v s.seat w (reached_part went.task went.succ went.from went.pred went.notes (part_of v s.seat)) (part_of v s.seat) (session_held v s.seat s is) went.view_is

  was : StageIs (stage.Sealed old) (part_of v s.seat)
  was = subst (λ t. StageIs t (part_of v s.seat)) stage_is is.kept.stage

  pub settled_session : IsSession (record s { stage = stage.Sealed new }) (part_of w s.seat)
  settled_session = record {
    kept = record {
      session = is.kept.session;
      run = is.kept.run ∙ sym (ap (λ (z : Part). z.run) there);
      low = is.kept.low;
      number = is.kept.number ∙ sym (ap (λ (z : Part). z.number) there);
      stage = (
        stands.sealed,
        stands.may,
        stands.kept,
        ap (λ (z : Part). z.current.number) there ∙ was.3 ∙ sym (ap (λ (z : Part). z.number) there),
        ap (λ (z : Part). z.current.size) there ∙ was.4 ∙ sym (ap (λ (z : Part). block_words (map (λ (c : Claim). c.row) z.current.writes)) there),
      );
      room = tt;
      spare = subst (λ (z : Part). SpareIs s.spare z) (sym there) is.kept.spare;
      room_read = is.kept.room_read;
      room_claimed = is.kept.room_claimed;
      block = is.kept.block;
    };
    rows_read = is.rows_read ∙ sym (ap (λ (z : Part). map (λ (r : Read). r.row) z.current.reads) there);
    rows_claimed = is.rows_claimed ∙ sym (ap (λ (z : Part). map (λ (c : Claim). c.row) z.current.writes) there);
    window = tt;
    saves = tt;
  }
