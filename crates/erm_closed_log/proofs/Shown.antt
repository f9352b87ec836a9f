-- What a quiet state shows has the blocks, and the sealed transactions, of its view.
use Rattle.std.proofs.Common.{◌≡◌, ℕ, sym, ap, ◌∙◌, subst}
use Rattle.erm_block.specs.declared.block.Block.{Block}
use Rattle.erm_core_shown.specs.Shown.{shown_of, shown_session}
use Rattle.erm_core_shown.proofs.Parts.{shown_between}
use Rattle.erm_core_view.specs.Views.{IsQuiet, session_of, view_of}
use Rattle.erm_machine.specs.Core.{Core}
use Rattle.erm_model.specs.Member.{◌∈◌}
use Rattle.erm_world.specs.Log.{Undecided}
use Rattle.erm_world.specs.Whole.{IsBlockOf, IsSealedAt}
use Rattle.erm_world.specs.World.{IsSession, Session}

module _ (sessions : ℕ) (c : Core) (quiet : IsQuiet sessions c) where
  same_session : (q : ℕ) → IsSession (view_of sessions c) q → shown_session (c.seats q) ≡ session_of (c.seats q)
  same_session q session = shown_between (c.seats q) (quiet.between q session.0 session.1)

  pub block_shown : (run : ℕ) (b : Block) → IsBlockOf (view_of sessions c) run b → IsBlockOf (shown_of sessions c) run b
  block_shown run b is = record {
    session = is.session;
    of = is.of;
    over = subst (λ (s : Session). is.of ∈ s.over) (sym (same_session b.seat is.session)) is.over;
    stamps = is.stamps;
    kind_is = is.kind_is;
    run_is = is.run_is;
    number = is.number;
    count = is.count;
    size = is.size;
    rows = is.rows;
  }

  pub sealed_shown : (place : ℕ) (u : Undecided) → IsSealedAt (view_of sessions c) place u → IsSealedAt (shown_of sessions c) place u
  sealed_shown place u is = record {
    session = is.session;
    work = is.work;
    stand = ap (λ (s : Session). s.stand) (same_session u.seat is.session) ∙ is.stand;
    claims = is.claims;
  }

  pub sealed_viewed : (place : ℕ) (u : Undecided) → IsSealedAt (shown_of sessions c) place u → IsSealedAt (view_of sessions c) place u
  sealed_viewed place u is = record {
    session = is.session;
    work = is.work;
    stand = ap (λ (s : Session). s.stand) (sym (same_session u.seat is.session)) ∙ is.stand;
    claims = is.claims;
  }
