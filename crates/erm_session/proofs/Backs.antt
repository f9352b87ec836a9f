-- A session goes back to a savepoint, one claim after another.
use Rattle.std.proofs.Common.{◌≡◌, ℕ, zero, suc, ◌<◌, ◌≤◌, Bool, true, false, List, [], ◌∷◌, ◌++◌, length, map, take, set, get_or, Some, None, Option, refl, sym, ap, ◌∙◌, subst, arith}
use Rattle.std.proofs.lemmas.List.{get_or-map, length-map, length_push, length-take, map-append, take-map}
use Rattle.erm_cells.specs.Calls.{starts_anew}
use Rattle.erm_cells.specs.Took.{IsStoreStep}
use Rattle.erm_cells.proofs.Heads.{has}
use Rattle.erm_cells.proofs.Took.{row_went}
use Rattle.erm_machine.specs.declared.attempt.Claim.{Claim}
use Rattle.erm_machine.specs.declared.event.Kind.{Kind}
use Rattle.erm_machine.specs.declared.event.Kind.TheVariants as kind
use Rattle.erm_machine.specs.declared.part.Part.{Part}
use Rattle.erm_machine.specs.declared.task.Task.{Task}
use Rattle.erm_machine.specs.declared.task.Task.TheVariants as task
use Rattle.erm_machine.specs.Core.{claim_at, no_claim}
use Rattle.erm_machine.specs.Decided.{written_of}
use Rattle.erm_machine.specs.Seat.{is_active, with_claim}
use Rattle.erm_model.specs.declared.history.VersionWritten.{VersionWritten}
use Rattle.erm_model.specs.declared.outcome.Phase.TheVariants as phase
use Rattle.erm_model.specs.RowTransaction.{Law}
use Rattle.erm_rows.specs.declared.active.Active.{Active}
use Rattle.erm_rule.specs.declared.view.Book.{Book}
use Rattle.erm_rule.specs.declared.view.View.{View}
use Rattle.erm_rule.specs.Hands.{IsKnown}
use Rattle.erm_rule.specs.Views.{part_of, with_part}
use Rattle.erm_rule.specs.Went.{IsStillStep, Went}
use Rattle.erm_rule.proofs.Parts.{with_part-again, with_part-same}
use Rattle.erm_rule.proofs.Telling.{part_of-changed}
use Rattle.erm_rule.proofs.Wents.{went_as, went_more, went_none, went_step}
use Rattle.erm_model.specs.declared.limits.TheConstants.{SAVES}
use Rattle.erm_savepoints.specs.Saves.{row_saved, row_set, rows_set, KeptSaves}
use Rattle.erm_savepoints.proofs.Filled.{rows_set_long}
use Rattle.erm_session.specs.declared.session.Session.{Session}
use Rattle.erm_session.specs.declared.session.Stage.{Stage}
use Rattle.erm_session.specs.declared.session.Stage.TheVariants as stage
use Rattle.erm_session.specs.Saves.{AreSaves, HasSaves, claim_saved, claims_saved, saves_at}
use Rattle.erm_session.specs.Saving.{AddsSave, ClaimGoesBack, GoesBack, IsBackStep, TookBacks, TookClaimBack, TookRowAt, claim_back, claims_back, with_writes}
use Rattle.erm_session.specs.Session.{IsSession, phase_of}
use Rattle.erm_session.proofs.Goes.{active, starts}
use Rattle.erm_session.proofs.Saved.{all_front, all_more, go_found, left, points_go, ClaimsGo, Rows}

-- SAVE. A session that keeps other savepoints
has_with : (g : Stage) (s n : KeptSaves) (x : Part) → HasSaves g s x → (AreSaves s x → AreSaves n x) → HasSaves g n x
has_with (stage.Active t) s n x held on = on held
has_with stage.Idle s n x held on = tt
has_with (stage.Sealed t) s n x held on = tt
has_with (stage.Pending begin next) s n x held on = tt
has_with (stage.Safe begin) s n x held on = tt

pub with_saves : (s : Session) (n : KeptSaves) (x : Part) → IsSession s x → (AreSaves s.saves x → AreSaves n x) → IsSession (record s { saves = n }) x
with_saves s n x is on = record {
  kept = record {
    session = is.kept.session;
    run = is.kept.run;
    low = is.kept.low;
    number = is.kept.number;
    stage = is.kept.stage;
    room = is.kept.room;
    spare = is.kept.spare;
    room_read = is.kept.room_read;
    room_claimed = is.kept.room_claimed;
    block = is.kept.block;
  };
  rows_read = is.rows_read;
  rows_claimed = is.rows_claimed;
  window = is.window;
  saves = has_with s.stage s.saves n x is.saves on;
}

pub has_active : (g : Stage) (s : KeptSaves) (x : Part) → phase_of g ≡ phase.Active → HasSaves g s x → AreSaves s x
has_active (stage.Active t) s x at held = held
has_active stage.Idle s x at held = absurd (cc)
has_active (stage.Sealed t) s x at held = absurd (cc)
has_active (stage.Pending begin next) s x at held = absurd (cc)
has_active (stage.Safe begin) s x at held = absurd (cc)

pub active_of : (g : Stage) → phase_of g ≡ phase.Active → (t : Active) × (g ≡ stage.Active t)
active_of (stage.Active t) at = (t, refl)
active_of stage.Idle at = absurd (cc)
active_of (stage.Sealed t) at = absurd (cc)
active_of (stage.Pending begin next) at = absurd (cc)
active_of (stage.Safe begin) at = absurd (cc)

-- a claim is saved as it is
one_saved : (w : Claim) (b : Bool) → w.is_set ≡ b → (w.is_set ≡ false → w.row ≡ w.base) → claim_saved (row_set w.row b) (written_of w) ≡ written_of w
one_saved w true is kept = ap (λ (b : Bool). record (written_of w) { is_set = b }) (sym is)
one_saved w false is kept =
    ap (λ (r : List ℕ). record (written_of w) { row = r; is_set = false }) (sym (kept is)) ∙ ap (λ (b : Bool). record (written_of w) { is_set = b }) (sym is)

saved_so : (ws : List Claim) → ((k : ℕ) → k < length ws → (get_or ws k no_claim).is_set ≡ false → (get_or ws k no_claim).row ≡ (get_or ws k no_claim).base)
    → claims_saved (rows_set (map (λ (w : Claim). w.row) ws) (map (λ (w : Claim). w.is_set) ws)) (map written_of ws) ≡ map written_of ws
saved_so [] kept = refl
saved_so (w ∷ ws) kept =
    ap (λ (c : VersionWritten). c ∷ claims_saved (rows_set (map (λ (u : Claim). u.row) ws) (map (λ (u : Claim). u.is_set) ws)) (map written_of ws))
    (one_saved w w.is_set refl (kept 0 (omega arith)))
    ∙ ap (λ (cs : List VersionWritten). written_of w ∷ cs) (saved_so ws (λ k within. kept (suc k) (omega (arith, within))))

saved_more : (g : Stage) (points : List Rows) (last : Rows) (x : Part) → phase_of g ≡ phase.Active → claims_saved last (map written_of x.current.writes) ≡ map written_of x.current.writes
    → saves_at g (points ++ last ∷ []) x ≡ saves_at g points x ++ map written_of x.current.writes ∷ []
saved_more (stage.Active t) points last x at same =
    map-append (λ (saved : Rows). claims_saved saved (map written_of x.current.writes)) points (last ∷ [])
    ∙ ap (λ (cs : List VersionWritten). map (λ (saved : Rows). claims_saved saved (map written_of x.current.writes)) points ++ cs ∷ []) same
saved_more stage.Idle points last x at same = absurd (cc)
saved_more (stage.Sealed t) points last x at same = absurd (cc)
saved_more (stage.Pending begin next) points last x at same = absurd (cc)
saved_more (stage.Safe begin) points last x at same = absurd (cc)

module _ (s : Session) (n : KeptSaves) (active : phase_of s.stage ≡ phase.Active) (room : length s.saves.points < SAVES)
    (is : n ≡ record s.saves { points = s.saves.points ++ rows_set s.rows_claimed.items s.saves.is_set ∷ [] }) where
  abbrev last : Rows
  last = rows_set s.rows_claimed.items s.saves.is_set

  last_is : (x : Part) → IsSession s x → last ≡ rows_set (map (λ (w : Claim). w.row) x.current.writes) (map (λ (w : Claim). w.is_set) x.current.writes)
  last_is x stands =
      ap (λ (rows : List (List ℕ)). rows_set rows s.saves.is_set) stands.rows_claimed
      ∙ ap (λ (bs : List Bool). rows_set (map (λ (w : Claim). w.row) x.current.writes) bs) (has_active s.stage s.saves x active stands.saves).is_set

  last_long : (x : Part) → IsSession s x → length last ≤ length x.current.writes
  last_long x stands =
      let rows = length-map x.current.writes (λ (w : Claim). w.row) in
      let sets = length-map x.current.writes (λ (w : Claim). w.is_set) in
      let all = rows_set_long (map (λ (w : Claim). w.row) x.current.writes) (map (λ (w : Claim). w.is_set) x.current.writes) (omega (arith, rows, sets)) in
      let long = ap (λ (saved : Rows). length saved) (last_is x stands) in
      omega (arith, rows, all, long)

  pub saving_session : (x : Part) → IsSession s x → IsSession (record s { saves = n }) x
  saving_session x stands = with_saves s n x stands (λ saves. subst (λ (m : KeptSaves). AreSaves m x) (sym is) (record {
    found = saves.found;
    is_set = saves.is_set;
    within = all_more (length x.current.writes) s.saves.points last (last_long x stands) saves.within;
    few = let more = length_push s.saves.points last in omega (arith, more, room);
  }))

  pub adds_save : (held : ℕ) → held ≡ length n.points → AddsSave s held (record s { saves = n })
  adds_save held held_is = record {
    room = room;
    held_is = held_is ∙ ap (λ (m : KeptSaves). length m.points) is ∙ (let more = length_push s.saves.points last in omega (arith, more));
    shows = λ x stands rows.
        ap (λ (m : KeptSaves). saves_at s.stage m.points x) is
        ∙ saved_more s.stage s.saves.points last x active (ap (λ (saved : Rows). claims_saved saved (map written_of x.current.writes)) (last_is x stands) ∙ saved_so x.current.writes rows);
  }

-- BACK. So many claims have gone back, the first ones.
abbrev pub half : ℕ → Rows → List Claim → List Claim
half zero saved ws = ws
half (suc k) saved [] = []
half (suc k) [] (w ∷ ws) = claim_back None w ∷ half k [] ws
half (suc k) (s ∷ saved) (w ∷ ws) = claim_back s w ∷ half k saved ws

pub half_next : (k : ℕ) (saved : Rows) (ws : List Claim) → k < length ws → set (half k saved ws) k (claim_back (row_saved saved k) (get_or (half k saved ws) k no_claim)) ≡ half (suc k) saved ws
half_next zero saved [] within = absurd (omega (arith, within))
half_next zero [] (w ∷ ws) within = refl
half_next zero (s ∷ saved) (w ∷ ws) within = refl
half_next (suc k) saved [] within = absurd (omega (arith, within))
half_next (suc k) [] (w ∷ ws) within = ap (λ (us : List Claim). claim_back None w ∷ us) (half_next k [] ws (omega (arith, within)))
half_next (suc k) (s ∷ saved) (w ∷ ws) within = ap (λ (us : List Claim). claim_back s w ∷ us) (half_next k saved ws (omega (arith, within)))

pub half_all : (saved : Rows) (ws : List Claim) → half (length ws) saved ws ≡ claims_back saved ws
half_all saved [] = refl
half_all [] (w ∷ ws) = ap (λ (us : List Claim). claim_back None w ∷ us) (half_all [] ws)
half_all (s ∷ saved) (w ∷ ws) = ap (λ (us : List Claim). claim_back s w ∷ us) (half_all saved ws)

-- a claim that goes back found what it found
back_base : (s : Option (List ℕ)) (w : Claim) → (claim_back s w).base ≡ w.base
back_base (Some row) w = refl
back_base None w = refl

back_left : (s : Option (List ℕ)) (w : Claim) → left (written_of (claim_back s w)) ≡ left (written_of w)
back_left (Some row) w = refl
back_left None w = refl

half_same : {X : Type 0} (f : Claim → X) → ((s : Option (List ℕ)) (w : Claim) → f (claim_back s w) ≡ f w) → (k : ℕ) (saved : Rows) (ws : List Claim) → map f (half k saved ws) ≡ map f ws
half_same f stays zero saved ws = refl
half_same f stays (suc k) saved [] = refl
half_same f stays (suc k) [] (w ∷ ws) = ap (λ xs. f (claim_back None w) ∷ xs) (half_same f stays k [] ws) ∙ ap (λ x. x ∷ map f ws) (stays None w)
half_same f stays (suc k) (s ∷ saved) (w ∷ ws) = ap (λ xs. f (claim_back s w) ∷ xs) (half_same f stays k saved ws) ∙ ap (λ x. x ∷ map f ws) (stays s w)

pub half_base : (k : ℕ) (saved : Rows) (ws : List Claim) → map (λ (w : Claim). w.base) (half k saved ws) ≡ map (λ (w : Claim). w.base) ws
half_base k saved ws = half_same (λ (w : Claim). w.base) back_base k saved ws

pub half_long : (k : ℕ) (saved : Rows) (ws : List Claim) → length (half k saved ws) ≡ length ws
half_long k saved ws =
    sym (length-map (half k saved ws) (λ (w : Claim). w.base)) ∙ ap (λ (rs : List (List ℕ)). length rs) (half_base k saved ws) ∙ length-map ws (λ (w : Claim). w.base)

pub half_go : (k : ℕ) (saved : Rows) (ws : List Claim) → ClaimsGo ws (half k saved ws)
half_go k saved ws = go_found ws (half k saved ws) (half_same (λ (w : Claim). left (written_of w)) back_left k saved ws)

-- the view then
pub record SoFar (v : View) (who : ℕ) (saved : Rows) (k : ℕ) (w : View) : Type 0 where
  pub task : Task
  pub starts : starts_anew task ≡ true
  pub view_is : w ≡ with_part who (with_writes task (half k saved (part_of v who).current.writes) (part_of v who)) v
  pub known : IsKnown w

module _ (v : View) (who : ℕ) (active : is_active (part_of v who).place ≡ true) (saved : Rows) where
  abbrev x : Part
  x = part_of v who

  abbrev so : Task → ℕ → Part
  so t k = with_writes t (half k saved x.current.writes) x

  pub none_yet : IsKnown v → starts_anew x.task ≡ true → SoFar v who saved 0 v
  none_yet known starts = record { task = x.task; starts = starts; view_is = sym (with_part-same who x v known.in_order (has v who active)); known = known }

  module _ (k : ℕ) (u : View) (sofar : SoFar v who saved k u) where
    pub part_so : part_of u who ≡ so sofar.task k
    part_so = part_of-changed v who u (so sofar.task k) x (has v who active) sofar.view_is

    pub long_so : length (part_of u who).current.writes ≡ length x.current.writes
    long_so = ap (λ (p : Part). length p.current.writes) part_so ∙ half_long k saved x.current.writes

    pub base_so : k < length x.current.writes → (claim_at (part_of u who).current k).base ≡ (claim_at x.current k).base
    base_so within =
        let long = half_long k saved x.current.writes in
        ap (λ (p : Part). (claim_at p.current k).base) part_so
        ∙ sym (get_or-map (λ (w : Claim). w.base) (half k saved x.current.writes) k no_claim [] (omega (arith, within, long)))
        ∙ ap (λ (rs : List (List ℕ)). get_or rs k []) (half_base k saved x.current.writes)
        ∙ get_or-map (λ (w : Claim). w.base) x.current.writes k no_claim [] within

    pub one_more : (w : View) → k < length x.current.writes → ClaimGoesBack u who k (row_saved saved k) w → SoFar v who saved (suc k) w
    one_more w within did = record {
      task = task.Rest;
      starts = refl;
      view_is = did.view_is
          ∙ ap (λ (p : Part). with_part who (record p { task = task.Rest; current = with_claim k (claim_back (row_saved saved k) (claim_at p.current k)) p.current }) u) part_so
          ∙ ap (λ (ws : List Claim). with_part who (with_writes task.Rest ws x) u) (half_next k saved x.current.writes within)
          ∙ ap (λ (z : View). with_part who (so task.Rest (suc k)) z) sofar.view_is
          ∙ with_part-again who (so sofar.task k) (so task.Rest (suc k)) v;
      known = did.known;
    }

    pub all_back : k ≡ length x.current.writes → GoesBack v who saved u
    all_back end = record {
      task = sofar.task;
      starts = sofar.starts;
      view_is = sofar.view_is
          ∙ ap (λ (n : ℕ). with_part who (so sofar.task n) v) end
          ∙ ap (λ (ws : List Claim). with_part who (with_writes sofar.task ws x) v) (half_all saved x.current.writes);
      known = sofar.known;
    }

    pub go_so : ClaimsGo x.current.writes (part_of u who).current.writes
    go_so = subst (λ (p : Part). ClaimsGo x.current.writes p.current.writes) (sym part_so) (half_go k saved x.current.writes)

-- the savepoints made since are gone
pub cut_saves : (s : KeptSaves) (n : ℕ) (x : Part) → AreSaves s x → AreSaves (record s { points = take n s.points }) x
cut_saves s n x is = record {
  found = is.found;
  is_set = is.is_set;
  within = all_front (length x.current.writes) n s.points is.within;
  few = let least = length-take n s.points in let most = is.few in omega (arith, least, most);
}

pub cut_shows : (g h : Stage) (s : KeptSaves) (points : List Rows) (n : ℕ) (x y : Part) → phase_of g ≡ phase.Active → phase_of h ≡ phase.Active → HasSaves g s x → points ≡ s.points
    → ClaimsGo x.current.writes y.current.writes → saves_at h (take n points) y ≡ take n (saves_at g s.points x)
cut_shows (stage.Active t) (stage.Active u) s points n x y at on held same go =
    ap (λ (ps : List Rows). map (λ (saved : Rows). claims_saved saved (map written_of y.current.writes)) (take n ps)) same
    ∙ points_go (take n s.points) x.current.writes y.current.writes (all_front (length x.current.writes) n s.points held.within) go
    ∙ sym (take-map (λ (saved : Rows). claims_saved saved (map written_of x.current.writes)) n s.points)
cut_shows (stage.Active t) stage.Idle s points n x y at on held same go = absurd (cc)
cut_shows (stage.Active t) (stage.Sealed u) s points n x y at on held same go = absurd (cc)
cut_shows (stage.Active t) (stage.Pending begin next) s points n x y at on held same go = absurd (cc)
cut_shows (stage.Active t) (stage.Safe begin) s points n x y at on held same go = absurd (cc)
cut_shows stage.Idle h s points n x y at on held same go = absurd (cc)
cut_shows (stage.Sealed u) h s points n x y at on held same go = absurd (cc)
cut_shows (stage.Pending begin next) h s points n x y at on held same go = absurd (cc)
cut_shows (stage.Safe begin) h s points n x y at on held same go = absurd (cc)

-- STEPS. Stores into own cells, and steps by which no write has set a row.
store_back : (k : Kind) (found : ℕ) → IsStoreStep k found → IsBackStep k found
store_back (kind.StoreCell claim cell w value) found is = tt
store_back _ found is = absurd is

row_back : (law : Law) (who place : ℕ) (row : List ℕ) (b e : Book) → TookRowAt law who place row b e → Went law who IsBackStep b e
row_back law who place row b e took = went_as law who IsStoreStep IsBackStep b e store_back (row_went law who took.cell row b e took.stores)

one_back : (law : Law) (who place : ℕ) (saved : Option (List ℕ)) (base : List ℕ) (b e : Book) → TookClaimBack law who place saved base b e → Went law who IsBackStep b e
one_back law who place (Some row) base b e took = row_back law who place row b e took
one_back law who place None base b e took = went_step law who IsBackStep b took.stored e (kind.Unset place) 0 (row_back law who place base b took.stored took.stores) tt took.unset

pub backs_went : (law : Law) (who : ℕ) (saved : Rows) (k : ℕ) (b e : Book) → TookBacks law who saved k b e → Went law who IsBackStep b e
backs_went law who saved zero b e same = subst (λ (z : Book). Went law who IsBackStep b z) (sym same) (went_none law who IsBackStep b)
backs_went law who saved (suc k) b e took =
    went_more law who IsBackStep b took.0 e (backs_went law who saved k b took.0 took.1) (one_back law who k (row_saved saved k) (claim_at (part_of b.view who).current k).base took.0 e took.2)

back_still : (k : Kind) (found : ℕ) → IsBackStep k found → IsStillStep k found
back_still (kind.StoreCell claim cell w value) found is = tt
back_still (kind.Unset claim) found is = tt
back_still _ found is = absurd is

pub backs_still : (law : Law) (who : ℕ) (b e : Book) → Went law who IsBackStep b e → Went law who IsStillStep b e
backs_still law who b e went = went_as law who IsBackStep IsStillStep b e back_still went

-- there is a claim for each row kept
pub rows_claims : (s : Session) (x : Part) → IsSession s x → length s.rows_claimed.items ≡ length x.current.writes
rows_claims s x is = ap (λ (rs : List (List ℕ)). length rs) is.rows_claimed ∙ length-map x.current.writes (λ (w : Claim). w.row)

-- the seat's part of an active session
pub seat_active : (s : Session) (x : Part) → IsSession s x → phase_of s.stage ≡ phase.Active → is_active x.place ≡ true
seat_active s x is at = active s x is.kept (active_of s.stage at).0 (active_of s.stage at).1

pub seat_starts : (s : Session) (x : Part) → IsSession s x → phase_of s.stage ≡ phase.Active → starts_anew x.task ≡ true
seat_starts s x is at = starts s x is.kept (active_of s.stage at).0 (active_of s.stage at).1
