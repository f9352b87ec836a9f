-- The savepoints of a view: what becomes of them by what a session does.
use Rattle.std.proofs.Common.{◌≡◌, ◌≢◌, ℕ, cond, Bool, List, [], refl, ap, ◌∙◌, subst, eq-eqb, ne_eqb}
use Rattle.erm_model.specs.declared.history.VersionWritten.{VersionWritten}
use Rattle.erm_model.specs.declared.outcome.Phase.TheVariants.{Active, Idle}
use Rattle.erm_world.specs.Calls.{Becomes, KeepsOwnSaves, KeepsSaves, Works}
use Rattle.erm_world.specs.Saves.{holding}
use Rattle.erm_world.specs.Snapshots.{snapshot_not_active}
use Rattle.erm_world.specs.World.{Finished, Session, Stand, View, Work, phase_at, phase_of}
use Rattle.erm_world.specs.World as world

-- THE OWN ONES. They stay where a transaction in progress goes on.
pub kept_by : (before : Stand) (w : Work) (held held_before : List (List VersionWritten)) → phase_of before ≡ Active → KeepsOwnSaves (world.active w) before held held_before
    → held ≡ held_before
kept_by world.idle w held held_before active keeps = absurd (cc)
kept_by (world.active u) w held held_before active keeps = keeps
kept_by (world.sealed u stamp) w held held_before active keeps = absurd (cc)
kept_by (world.snapshot s) w held held_before active keeps = absurd (snapshot_not_active s active)

-- one that begins has none
pub none_by : (before : Stand) (w : Work) (held held_before : List (List VersionWritten)) → (phase_of before ≡ Active → ⊥) → KeepsOwnSaves (world.active w) before held held_before → held ≡ []
none_by world.idle w held held_before rests keeps = keeps
none_by (world.active u) w held held_before rests keeps = absurd (rests refl)
none_by (world.sealed u stamp) w held held_before rests keeps = keeps
none_by (world.snapshot s) w held held_before rests keeps = keeps

-- the same ones are kept where the session isn't active, or was so before
pub same_by : (now before : Stand) (held : List (List VersionWritten)) → (phase_of now ≡ Active → phase_of before ≡ Active) → KeepsOwnSaves now before held held
same_by world.idle before held so = tt
same_by (world.sealed w stamp) before held so = tt
same_by (world.snapshot s) before held so = tt
same_by (world.active w) world.idle held so = absurd (cc (so refl))
same_by (world.active w) (world.active u) held so = refl
same_by (world.active w) (world.sealed u stamp) held so = absurd (cc (so refl))
same_by (world.active w) (world.snapshot s) held so = absurd (snapshot_not_active s (so refl))

-- and where there are none
pub without : (now before : Stand) → KeepsOwnSaves now before [] []
without world.idle before = tt
without (world.sealed w stamp) before = tt
without (world.snapshot s) before = tt
without (world.active w) world.idle = refl
without (world.active w) (world.active u) = refl
without (world.active w) (world.sealed u stamp) = refl
without (world.active w) (world.snapshot s) = refl

-- a session that stood so, and so again, and isn't active then, or was so in between
pub then_by : (last now before : Stand) (held held_then held_before : List (List VersionWritten)) → (phase_of last ≡ Active → phase_of now ≡ Active)
    → KeepsOwnSaves now before held_then held_before → KeepsOwnSaves last now held held_then → KeepsOwnSaves last before held held_before
then_by world.idle now before held held_then held_before so first second = tt
then_by (world.sealed w stamp) now before held held_then held_before so first second = tt
then_by (world.snapshot s) now before held held_then held_before so first second = tt
then_by (world.active w) world.idle before held held_then held_before so first second = absurd (cc (so refl))
then_by (world.active w) (world.sealed u stamp) before held held_then held_before so first second = absurd (cc (so refl))
then_by (world.active w) (world.snapshot s) before held held_then held_before so first second = absurd (snapshot_not_active s (so refl))
then_by (world.active w) (world.active u) world.idle held held_then held_before so first second = second ∙ first
then_by (world.active w) (world.active u) (world.active x) held held_then held_before so first second = second ∙ first
then_by (world.active w) (world.active u) (world.sealed x stamp) held held_then held_before so first second = second ∙ first
then_by (world.active w) (world.active u) (world.snapshot s) held held_then held_before so first second = second ∙ first

-- THE SESSIONS. The savepoints of a transaction that goes on stay, and one that begins has none.
pub works_keeps : (v t : View) (seat : ℕ) (w : Work) → phase_at v seat ≡ Active → Works v seat w t → t.saves seat ≡ v.saves seat
works_keeps v t seat w active now = kept_by (v.session seat).stand w (t.saves seat) (v.saves seat) active now.saves.own

pub begins_without : (v t : View) (seat : ℕ) (w : Work) → phase_at v seat ≡ Idle → Works v seat w t → t.saves seat ≡ []
begins_without v t seat w idle now = none_by (v.session seat).stand w (t.saves seat) (v.saves seat) (λ active. cc) now.saves.own

-- one session that becomes this one, and then another
pub keeps_then : (v : View) (seat : ℕ) (s : Session) (u : View) (r : Session) (t : View) → (phase_of r.stand ≡ Active → phase_of s.stand ≡ Active)
    → Becomes v seat s u → Becomes u seat r t → KeepsSaves v seat r t
keeps_then v seat s u r t so first second = record {
  own =
      let next : KeepsOwnSaves r.stand s.stand (t.saves seat) (u.saves seat) =
      subst (λ (x : Session). KeepsOwnSaves r.stand x.stand (t.saves seat) (u.saves seat)) first.own second.saves.own
      in then_by r.stand s.stand (v.session seat).stand (t.saves seat) (u.saves seat) (v.saves seat) so first.saves.own next;
  others = λ q another. second.saves.others q another ∙ first.saves.others q another;
}

pub becomes_then : (v : View) (seat : ℕ) (s : Session) (u : View) (r : Session) (t : View) → (phase_of r.stand ≡ Active → phase_of s.stand ≡ Active)
    → Becomes v seat s u → Becomes u seat r t → Becomes v seat r t
becomes_then v seat s u r t so first second = record {
  own = second.own;
  others = λ q another. second.others q another ∙ first.others q another;
  opening = second.opening ∙ first.opening;
  tail = second.tail ∙ first.tail;
  flushed = second.flushed ∙ first.flushed;
  pinned = second.pinned ∙ first.pinned;
  given_up = second.given_up ∙ first.given_up;
  saves = keeps_then v seat s u r t so first second;
}

-- a transaction that goes on twice
pub works_then : (v u t : View) (seat : ℕ) (w x : Work) → Works v seat w u → Works u seat x t → Works v seat x t
works_then v u t seat w x first second =
    let over : (u.session seat).over ≡ (v.session seat).over = ap (λ (s : Session). s.over) first.own in
    becomes_then v seat (record { over = (v.session seat).over; stand = world.active w }) u (record { over = (v.session seat).over; stand = world.active x }) t (λ active. refl) first
    (subst (λ (fs : List Finished). Becomes u seat (record { over = fs; stand = world.active x }) t) over second)

-- one that goes nowhere
pub works_nowhere : (v : View) (seat : ℕ) (w : Work) → (v.session seat).stand ≡ world.active w → Works v seat w v
works_nowhere v seat w is = record {
  own = ap (λ (stand : Stand). record { over = (v.session seat).over; stand = stand }) is;
  others = λ q another. refl;
  opening = refl;
  tail = refl;
  flushed = refl;
  pinned = refl;
  given_up = refl;
  saves = record { own = same_by (world.active w) (v.session seat).stand (v.saves seat) (λ active. ap phase_of is); others = λ q another. refl };
}

-- HOLDING. The savepoints that the session holds, and those of the others.
pub held_now : (v : View) (seat : ℕ) (held : List (List VersionWritten)) → (holding seat held v).saves seat ≡ held
held_now v seat held = ap (λ (b : Bool). cond b held (v.saves seat)) (eq-eqb seat seat refl)

pub held_others : (v : View) (seat : ℕ) (held : List (List VersionWritten)) (q : ℕ) → q ≢ seat → (holding seat held v).saves q ≡ v.saves q
held_others v seat held q another = ap (λ (b : Bool). cond b held (v.saves q)) (ne_eqb q seat another)
