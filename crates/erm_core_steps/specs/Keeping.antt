-- What a flusher's calls keep of a world, whatever it keeps its state in.
use Rattle.std.proofs.Common.{◌<◌, ◌≤◌, refl, sym, ◌∙◌, subst}
use Rattle.erm_model.specs.RowTransaction.{Law, SameLaw}
use Rattle.erm_world.specs.Whole as whole
use Rattle.erm_world.specs.World.{Opening, View}

-- A world that stands does so after a flusher's calls, and they leave its sessions, its opening and the end of its log.
pub record KeepsSessions {W : Type 0} (is_standing : W → Type 0) (view : W → View) (p q : W) : Type 0 where
  pub stands : is_standing p → is_standing q
  pub sessions : whole.KeepsSessions (view p) (view q)

-- no call keeps them, and calls one after another do
pub keeps_itself : {W : Type 0} (is_standing : W → Type 0) (view : W → View) (p : W) → KeepsSessions is_standing view p p
keeps_itself is_standing view p = record { stands = λ stands. stands; sessions = record { session = λ seat is. refl; opening = refl; tail = refl; saves = λ seat is. refl } }

pub keeps_on : {W : Type 0} (is_standing : W → Type 0) (view : W → View) (p q r : W) → KeepsSessions is_standing view p q → KeepsSessions is_standing view q r → KeepsSessions is_standing view p r
keeps_on is_standing view p q r one more =
    let first = one.sessions in
    let second = more.sessions in
    record {
      stands = λ stands. more.stands (one.stands stands);
      sessions = record {
        session = λ seat is. second.session seat (subst (λ (o : Opening). (0 < seat) × (seat ≤ o.sessions)) (sym first.opening) is) ∙ first.session seat is;
        opening = second.opening ∙ first.opening;
        tail = second.tail ∙ first.tail;
        saves = λ seat is. second.saves seat (subst (λ (o : Opening). (0 < seat) × (seat ≤ o.sessions)) (sym first.opening) is) ∙ first.saves seat is;
      };
    }

-- a law says the same as itself
pub one_law : (law : Law) → SameLaw law law
one_law law = record { meets = λ rows. (λ meets. meets, λ meets. meets); reach = λ rows oid. refl }
