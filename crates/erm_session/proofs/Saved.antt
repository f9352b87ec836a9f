-- What a session keeps of its savepoints follows its seat's part.
use Rattle.std.proofs.Common.{◌≡◌, ℕ, zero, suc, ◌≤◌, ◌<◌, Bool, true, false, List, [], ◌∷◌, ◌++◌, length, map, take, set, get_or, Option, None, Some, refl, sym, ap, ◌∙◌, subst, arith}
use Rattle.std.proofs.lemmas.List.{append-nil, length-map, length-set, length_push, map-append, map-set}
use Rattle.std.specs.List.{AllByRecursion}
use Rattle.std.specs.Prelude.{if◌then◌else◌, IfErr, IfOk, Result, Ok, Err}
use Rattle.erm_machine.specs.declared.attempt.Claim.{Claim}
use Rattle.erm_machine.specs.declared.part.Part.{Part}
use Rattle.erm_machine.specs.Core.{claim_at, no_claim}
use Rattle.erm_machine.specs.Decided.{written_of}
use Rattle.erm_model.specs.declared.history.VersionWritten.{VersionWritten}
use Rattle.erm_model.specs.declared.outcome.Phase.TheVariants as phase
use Rattle.erm_model.specs.declared.outcome.Phase.{Phase}
use Rattle.erm_model.specs.declared.row_stop.RowStop.{RowStop}
use Rattle.erm_rows.specs.declared.active.Active.{Active}
use Rattle.erm_rule.specs.declared.view.View.{View}
use Rattle.erm_rule.specs.Views.{part_of}
use Rattle.erm_savepoints.specs.Saves.{no_saves, KeptSaves}
use Rattle.erm_session.specs.Calls.{IsRefusedPhase, is_end}
use Rattle.erm_session.specs.declared.session.Session.{Session}
use Rattle.erm_session.specs.declared.session.Stage.{Stage}
use Rattle.erm_session.specs.declared.session.Stage.TheVariants as stage
use Rattle.erm_session.specs.Saves.{AreSaves, HasSaves, claim_saved, claims_saved, saves_at, saves_of}
use Rattle.erm_session.specs.Saving.{StaySaved}
use Rattle.erm_session.specs.Session.{phase_of}

-- a savepoint's rows: of each claim the row that a write had set
abbrev pub Rows : Type 0
Rows = List (Option (List ℕ))

-- LENGTHS
pub all_within : (n m : ℕ) (points : List Rows) → n ≤ m → AllByRecursion (λ (saved : Rows). length saved ≤ n) points → AllByRecursion (λ (saved : Rows). length saved ≤ m) points
all_within n m [] less all = tt
all_within n m (saved ∷ points) less all = (let here = all.0 in omega (arith, here, less), all_within n m points less all.1)

pub all_front : (n k : ℕ) (points : List Rows) → AllByRecursion (λ (saved : Rows). length saved ≤ n) points → AllByRecursion (λ (saved : Rows). length saved ≤ n) (take k points)
all_front n zero points all = tt
all_front n (suc k) [] all = tt
all_front n (suc k) (saved ∷ points) all = (all.0, all_front n k points all.1)

pub all_more : (n : ℕ) (points : List Rows) (last : Rows) → length last ≤ n → AllByRecursion (λ (saved : Rows). length saved ≤ n) points → AllByRecursion (λ (saved : Rows). length saved ≤ n) (points ++ last ∷ [])
all_more n [] last low all = (low, tt)
all_more n (saved ∷ points) last low all = (all.0, all_more n points last low all.1)

-- STAGES. An active one keeps its savepoints.
pub saves_on : (g h : Stage) (s n : KeptSaves) (x y : Part) → phase_of g ≡ phase.Active → HasSaves g s x → (AreSaves s x → AreSaves n y) → HasSaves h n y
saves_on (stage.Active t) (stage.Active u) s n x y at has on = on has
saves_on (stage.Active t) stage.Idle s n x y at has on = tt
saves_on (stage.Active t) (stage.Sealed u) s n x y at has on = tt
saves_on (stage.Active t) (stage.Pending begin next) s n x y at has on = tt
saves_on (stage.Active t) (stage.Safe begin) s n x y at has on = tt
saves_on stage.Idle h s n x y at has on = absurd (cc)
saves_on (stage.Sealed u) h s n x y at has on = absurd (cc)
saves_on (stage.Pending begin next) h s n x y at has on = absurd (cc)
saves_on (stage.Safe begin) h s n x y at has on = absurd (cc)

pub has_at : (g : Stage) (s : KeptSaves) (x : Part) (t : Active) → g ≡ stage.Active t → HasSaves g s x → AreSaves s x
has_at g s x t at has = subst (λ (h : Stage). HasSaves h s x) at has

-- there is room for what one claim more found
pub found_few : (s : KeptSaves) (x : Part) (n : ℕ) → AreSaves s x → length x.current.writes < n → length s.found < n
found_few s x n is few =
    let found = ap (λ (rs : List (List ℕ)). length rs) is.found in
    let all = length-map x.current.writes (λ (w : Claim). w.base) in
    omega (arith, found, all, few)

-- where the claims are as they were
pub saves_stay : (s : KeptSaves) (x y : Part) → y.current.writes ≡ x.current.writes → AreSaves s x → AreSaves s y
saves_stay s x y same is = record {
  found = is.found ∙ sym (ap (λ (ws : List Claim). map (λ (w : Claim). w.base) ws) same);
  is_set = is.is_set ∙ sym (ap (λ (ws : List Claim). map (λ (w : Claim). w.is_set) ws) same);
  within = subst (λ (ws : List Claim). AllByRecursion (λ (saved : Rows). length saved ≤ length ws) s.points) (sym same) is.within;
  few = is.few;
}

pub has_same : (g : Stage) (s : KeptSaves) (x y : Part) → y.current.writes ≡ x.current.writes → HasSaves g s x → HasSaves g s y
has_same (stage.Active t) s x y same has = saves_stay s x y same has
has_same stage.Idle s x y same has = tt
has_same (stage.Sealed t) s x y same has = tt
has_same (stage.Pending begin next) s x y same has = tt
has_same (stage.Safe begin) s x y same has = tt

-- without a transaction that is active there is nothing to keep
pub has_idle : (g : Stage) (s : KeptSaves) (x : Part) → phase_of g ≡ phase.Idle → HasSaves g s x
has_idle stage.Idle s x e = tt
has_idle (stage.Active t) s x e = absurd (cc)
has_idle (stage.Sealed t) s x e = absurd (cc)
has_idle (stage.Pending begin next) s x e = absurd (cc)
has_idle (stage.Safe begin) s x e = absurd (cc)

-- a transaction that has done nothing yet has no savepoint
pub new_saves : (y : Part) → y.current.writes ≡ [] → AreSaves no_saves y
new_saves y none = record {
  found = sym (ap (λ (ws : List Claim). map (λ (w : Claim). w.base) ws) none);
  is_set = sym (ap (λ (ws : List Claim). map (λ (w : Claim). w.is_set) ws) none);
  within = tt;
  few = omega arith;
}

-- WHAT THE CLAIMS WERE follows from what they found.
abbrev pub left : VersionWritten → VersionWritten
left c = record c { row = c.base; is_set = false }

saved_same : (s : Option (List ℕ)) (c d : VersionWritten) → left c ≡ left d → claim_saved s c ≡ claim_saved s d
saved_same (Some row) c d same = ap (λ (u : VersionWritten). record u { row = row; is_set = true }) same
saved_same None c d same = same

none_left : (c : VersionWritten) (cs : List VersionWritten) → ◌≡◌ {A = List VersionWritten} [] (c ∷ cs) → ⊥
none_left c cs same = cc

head_same : (c d : VersionWritten) (cs ds : List VersionWritten) → ◌≡◌ {A = List VersionWritten} (c ∷ cs) (d ∷ ds) → c ≡ d
head_same c d cs ds same = cc

rest_same : (c d : VersionWritten) (cs ds : List VersionWritten) → ◌≡◌ {A = List VersionWritten} (c ∷ cs) (d ∷ ds) → cs ≡ ds
rest_same c d cs ds same = cc

pub claims_same : (saved : Rows) (cs ds : List VersionWritten) → map left cs ≡ map left ds → claims_saved saved cs ≡ claims_saved saved ds
claims_same [] cs ds same = refl
claims_same (s ∷ saved) [] [] same = refl
claims_same (s ∷ saved) [] (d ∷ ds) same = absurd (none_left (left d) (map left ds) same)
claims_same (s ∷ saved) (c ∷ cs) [] same = absurd (none_left (left c) (map left cs) (sym same))
claims_same (s ∷ saved) (c ∷ cs) (d ∷ ds) same =
    ap (λ (u : VersionWritten). u ∷ claims_saved saved cs) (saved_same s c d (head_same (left c) (left d) (map left cs) (map left ds) same))
    ∙ ap (λ (us : List VersionWritten). claim_saved s d ∷ us) (claims_same saved cs ds (rest_same (left c) (left d) (map left cs) (map left ds) same))

pub points_same : (points : List Rows) (cs ds : List VersionWritten) → map left cs ≡ map left ds
    → map (λ (saved : Rows). claims_saved saved cs) points ≡ map (λ (saved : Rows). claims_saved saved ds) points
points_same [] cs ds same = refl
points_same (saved ∷ points) cs ds same =
    ap (λ (us : List VersionWritten). us ∷ map (λ (now : Rows). claims_saved now cs) points) (claims_same saved cs ds same)
    ∙ ap (λ (rest : List (List VersionWritten)). claims_saved saved ds ∷ rest) (points_same points cs ds same)

-- and a claim made since is none of a savepoint's
claims_front : (saved : Rows) (cs more : List VersionWritten) → length saved ≤ length cs → claims_saved saved (cs ++ more) ≡ claims_saved saved cs
claims_front [] cs more low = refl
claims_front (s ∷ saved) [] more low = absurd (omega (arith, low))
claims_front (s ∷ saved) (c ∷ cs) more low = ap (λ (us : List VersionWritten). claim_saved s c ∷ us) (claims_front saved cs more (omega (arith, low)))

pub points_front : (points : List Rows) (cs more : List VersionWritten) → AllByRecursion (λ (saved : Rows). length saved ≤ length cs) points
    → map (λ (saved : Rows). claims_saved saved (cs ++ more)) points ≡ map (λ (saved : Rows). claims_saved saved cs) points
points_front [] cs more all = refl
points_front (saved ∷ points) cs more all =
    ap (λ (us : List VersionWritten). us ∷ map (λ (now : Rows). claims_saved now (cs ++ more)) points) (claims_front saved cs more all.0)
    ∙ ap (λ (rest : List (List VersionWritten)). claims_saved saved cs ∷ rest) (points_front points cs more all.1)

-- as many are shown as are held
pub shown_long : (g : Stage) (points : List Rows) (x : Part) → phase_of g ≡ phase.Active → length (saves_at g points x) ≡ length points
shown_long (stage.Active t) points x at = length-map points (λ (saved : Rows). claims_saved saved (map written_of x.current.writes))
shown_long stage.Idle points x at = absurd (cc)
shown_long (stage.Sealed t) points x at = absurd (cc)
shown_long (stage.Pending begin next) points x at = absurd (cc)
shown_long (stage.Safe begin) points x at = absurd (cc)

-- CLAIMS GO ON: those that there were found what they found, and others may follow.
abbrev pub found_so : List Claim → List VersionWritten
found_so ws = map left (map written_of ws)

pub record ClaimsGo (ws us : List Claim) : Type 0 where
  pub more : List VersionWritten
  pub found : found_so us ≡ found_so ws ++ more

pub go_same : (ws us : List Claim) → us ≡ ws → ClaimsGo ws us
go_same ws us same = record { more = []; found = ap found_so same ∙ sym (append-nil (found_so ws)) }

pub go_more : (ws us : List Claim) (w : Claim) → us ≡ ws ++ w ∷ [] → ClaimsGo ws us
go_more ws us w is = record {
  more = left (written_of w) ∷ [];
  found = ap found_so is ∙ ap (λ (cs : List VersionWritten). map left cs) (map-append written_of ws (w ∷ [])) ∙ map-append left (map written_of ws) (written_of w ∷ []);
}

-- a list is as it was where an element is set to what it was
pub set_same : {X : Type 0} (f : Claim → X) (ws : List Claim) (place : ℕ) (w : Claim) → f w ≡ f (get_or ws place no_claim) → map f (set ws place w) ≡ map f ws
set_same f [] place w same = refl
set_same f (u ∷ ws) zero w same = ap (λ x. x ∷ map f ws) same
set_same f (u ∷ ws) (suc place) w same = ap (λ xs. f u ∷ xs) (set_same f ws place w same)

both_maps : (ws : List Claim) → found_so ws ≡ map (λ (w : Claim). left (written_of w)) ws
both_maps [] = refl
both_maps (w ∷ ws) = ap (λ (cs : List VersionWritten). left (written_of w) ∷ cs) (both_maps ws)

pub go_set : (ws us : List Claim) (place : ℕ) (w : Claim) → us ≡ set ws place w → left (written_of w) ≡ left (written_of (get_or ws place no_claim)) → ClaimsGo ws us
go_set ws us place w is same = record {
  more = [];
  found = ap found_so is ∙ both_maps (set ws place w) ∙ set_same (λ (u : Claim). left (written_of u)) ws place w same ∙ sym (both_maps ws) ∙ sym (append-nil (found_so ws));
}

pub go_found : (ws us : List Claim) → map (λ (w : Claim). left (written_of w)) us ≡ map (λ (w : Claim). left (written_of w)) ws → ClaimsGo ws us
go_found ws us same = record { more = []; found = both_maps us ∙ same ∙ sym (both_maps ws) ∙ sym (append-nil (found_so ws)) }

left_twice : (cs : List VersionWritten) → map left (map left cs) ≡ map left cs
left_twice [] = refl
left_twice (c ∷ cs) = ap (λ (ds : List VersionWritten). left c ∷ ds) (left_twice cs)

pub points_go : (points : List Rows) (ws us : List Claim) → AllByRecursion (λ (saved : Rows). length saved ≤ length ws) points → ClaimsGo ws us
    → map (λ (saved : Rows). claims_saved saved (map written_of us)) points ≡ map (λ (saved : Rows). claims_saved saved (map written_of ws)) points
points_go points ws us within go =
    let long : length ws ≡ length (found_so ws) = sym (length-map (map written_of ws) left ∙ length-map ws written_of) in
    points_same points (map written_of us) (found_so us) (sym (left_twice (map written_of us)))
    ∙ ap (λ (cs : List VersionWritten). map (λ (saved : Rows). claims_saved saved cs) points) go.found
    ∙ points_front points (found_so ws) go.more (subst (λ (n : ℕ). AllByRecursion (λ (saved : Rows). length saved ≤ n) points) long within)
    ∙ points_same points (found_so ws) (map written_of ws) (left_twice (map written_of ws))

-- what is shown of an active transaction's savepoints stays
pub shows_on : (g h : Stage) (s n : KeptSaves) (x y : Part) → phase_of g ≡ phase.Active → HasSaves g s x → n.points ≡ s.points → ClaimsGo x.current.writes y.current.writes → phase_of h ≡ phase.Active
    → saves_at h n.points y ≡ saves_at g s.points x
shows_on (stage.Active t) (stage.Active u) s n x y at has same go on =
    ap (λ (points : List Rows). map (λ (saved : Rows). claims_saved saved (map written_of y.current.writes)) points) same ∙ points_go s.points x.current.writes y.current.writes has.within go
shows_on (stage.Active t) stage.Idle s n x y at has same go on = absurd (cc)
shows_on (stage.Active t) (stage.Sealed u) s n x y at has same go on = absurd (cc)
shows_on (stage.Active t) (stage.Pending begin next) s n x y at has same go on = absurd (cc)
shows_on (stage.Active t) (stage.Safe begin) s n x y at has same go on = absurd (cc)
shows_on stage.Idle h s n x y at has same go on = absurd (cc)
shows_on (stage.Sealed u) h s n x y at has same go on = absurd (cc)
shows_on (stage.Pending begin next) h s n x y at has same go on = absurd (cc)
shows_on (stage.Safe begin) h s n x y at has same go on = absurd (cc)

-- nothing is shown of a part but its claims
pub shows_same : (g : Stage) (points : List Rows) (x y : Part) → y.current.writes ≡ x.current.writes → saves_at g points y ≡ saves_at g points x
shows_same (stage.Active t) points x y same = ap (λ (ws : List Claim). map (λ (saved : Rows). claims_saved saved (map written_of ws)) points) same
shows_same stage.Idle points x y same = refl
shows_same (stage.Sealed t) points x y same = refl
shows_same (stage.Pending begin next) points x y same = refl
shows_same (stage.Safe begin) points x y same = refl

-- one claim more, which found this row
pub saves_more : (s : KeptSaves) (x y : Part) (w : Claim) (row : List ℕ) → y.current.writes ≡ x.current.writes ++ w ∷ [] → row ≡ w.base → w.is_set ≡ false → AreSaves s x
    → AreSaves (record s { found = s.found ++ row ∷ []; is_set = s.is_set ++ false ∷ [] }) y
saves_more s x y w row writes row_is unset is = record {
  found = ap (λ (rs : List (List ℕ)). rs ++ row ∷ []) is.found
      ∙ ap (λ (r : List ℕ). map (λ (u : Claim). u.base) x.current.writes ++ r ∷ []) row_is
      ∙ sym (map-append (λ (u : Claim). u.base) x.current.writes (w ∷ []))
      ∙ sym (ap (λ (ws : List Claim). map (λ (u : Claim). u.base) ws) writes);
  is_set = ap (λ (bs : List Bool). bs ++ false ∷ []) is.is_set
      ∙ ap (λ (b : Bool). map (λ (u : Claim). u.is_set) x.current.writes ++ b ∷ []) (sym unset)
      ∙ sym (map-append (λ (u : Claim). u.is_set) x.current.writes (w ∷ []))
      ∙ sym (ap (λ (ws : List Claim). map (λ (u : Claim). u.is_set) ws) writes);
  within = all_within (length x.current.writes) (length y.current.writes) s.points
      (let more = length_push x.current.writes w in let same = ap (λ (ws : List Claim). length ws) writes in omega (arith, more, same)) is.within;
  few = is.few;
}

-- of the claim at a place a write has set the row, or has not
pub saves_set : (s : KeptSaves) (x y : Part) (place : ℕ) (w : Claim) (b : Bool) → y.current.writes ≡ set x.current.writes place w → w.base ≡ (claim_at x.current place).base → w.is_set ≡ b → AreSaves s x
    → AreSaves (record s { is_set = set s.is_set place b }) y
saves_set s x y place w b writes base is_set is = record {
  found = is.found ∙ sym (set_same (λ (u : Claim). u.base) x.current.writes place w base) ∙ sym (ap (λ (ws : List Claim). map (λ (u : Claim). u.base) ws) writes);
  is_set = ap (λ (bs : List Bool). set bs place b) is.is_set
      ∙ ap (λ (c : Bool). set (map (λ (u : Claim). u.is_set) x.current.writes) place c) (sym is_set)
      ∙ sym (map-set (λ (u : Claim). u.is_set) x.current.writes place w)
      ∙ sym (ap (λ (ws : List Claim). map (λ (u : Claim). u.is_set) ws) writes);
  within = subst (λ (n : ℕ). AllByRecursion (λ (saved : Rows). length saved ≤ n) s.points) (sym (ap (λ (ws : List Claim). length ws) writes ∙ length-set x.current.writes place w)) is.within;
  few = is.few;
}

-- a call was refused, after which the transaction goes on
pub goes_after : (why : RowStop) (p : Phase) → IsRefusedPhase why p → p ≡ phase.Active → is_end why ≡ false
goes_after why p refused on = by (is_end why) refused
  where
    by : (ends : Bool) → p ≡ (if ends then phase.Idle else phase.Active) → ends ≡ false
    by true is = absurd (cc)
    by false is = refl

-- it is left as it was
pub stays_where : (n m : Session) (s : Session) (w u : View) (who : ℕ) (why : RowStop) (x : Part) → IsRefusedPhase why (phase_of m.stage) → (is_end why ≡ false → m ≡ n) → (is_end why ≡ false → w ≡ u)
    → (is_end why ≡ false → phase_of n.stage ≡ phase.Active → saves_of n (part_of u who) ≡ saves_of s x) → StaySaved s x m (part_of w who)
stays_where n m s w u who why x refused left stays same on =
    let goes = goes_after why (phase_of m.stage) refused on in
    let there : m ≡ n = left goes in
    ap (λ (z : Session). saves_of z (part_of w who)) there
    ∙ ap (λ (z : View). saves_of n (part_of z who)) (stays goes)
    ∙ same goes (ap (λ (z : Session). phase_of z.stage) (sym there) ∙ on)

-- without a transaction that is active none is shown
pub none_shown : (g : Stage) (points : List Rows) (x : Part) → (phase_of g ≡ phase.Active → ⊥) → saves_at g points x ≡ []
none_shown (stage.Active t) points x none = absurd (none refl)
none_shown stage.Idle points x none = refl
none_shown (stage.Sealed t) points x none = refl
none_shown (stage.Pending begin next) points x none = refl
none_shown (stage.Safe begin) points x none = refl

-- where the session isn't active then nothing is said
pub stays_past : (s n : Session) (x y : Part) (p : Phase) → phase_of n.stage ≡ p → (p ≡ phase.Active → ⊥) → StaySaved s x n y
stays_past s n x y p is none on = absurd (none (sym is ∙ on))

-- one that was idle had none, and has none where it has begun
pub stays_begun : {A B : Type 0} (r : Result A B) (s n : Session) (x y : Part) → phase_of s.stage ≡ phase.Idle → IfOk r (λ z. saves_of n y ≡ []) → IfErr r (λ z. phase_of n.stage ≡ phase.Idle) → StaySaved s x n y
stays_begun (Ok z) s n x y idle none still on = none ∙ sym (none_shown s.stage s.saves.points x (λ at. absurd (cc)))
stays_begun (Err z) s n x y idle none still on = absurd (cc)
