-- Sessions that are given up.
use Rattle.std.proofs.Common.{◌≡◌, ℕ, List, [], ◌∷◌, sym, ap, subst}
use Rattle.erm_model.specs.RowTransaction.{Law}
use Rattle.erm_rule.specs.declared.rule.Table.{Table}
use Rattle.erm_rule.specs.declared.view.Book.{Book}
use Rattle.erm_rule.specs.declared.view.Opening.{Opening}
use Rattle.erm_rule.specs.Books.{both_books}
use Rattle.erm_rule.specs.Views.{MayJoin}
use Rattle.erm_shared_session.specs.declared.session.TableSession.{TableSession}
use Rattle.erm_shared_session.specs.Stands.{seat_of}
use Rattle.erm_world.specs.World.{View, phase_at}
use Rattle.erm_engine.specs.Closed.{AllIdle}
use Rattle.erm_engine.specs.Opened.{AreNew}
use Rattle.erm_engine.specs.Taken.{HasTaken}
use Rattle.erm_engine.proofs.Taken.{one_taken}

-- those that were just handed out are idle
pub new_idle : {L : Type 0} (law : Law) (table : Table L) (o : Opening) (count : ℕ) (ss : List (TableSession L)) → AreNew law table o count ss → AllIdle ss
new_idle law table o count ss new k s at = ap (λ (v : View). phase_at v (seat_of s)) (new.each k s at).own

-- a pass that took in another
pub took_one : (a b e : Book) → e ≡ both_books a b → MayJoin a.view → MayJoin b.view → HasTaken (b ∷ []) a e
took_one a b e is may also = subst (λ (z : Book). HasTaken (b ∷ []) a z) (sym is) (one_taken a b may also)
