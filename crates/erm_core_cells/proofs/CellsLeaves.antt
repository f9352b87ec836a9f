-- What most steps leave: the objects that a seat made, the cells that are its own, and no counter to be raised.
use Rattle.std.proofs.Common.{◌≡◌, ℕ, ◌+◌, ◌-◌, ◌<◌, ◌≤◌, ⊎_elim, Bool, true, cond, eqb, List, [], ◌∷◌, ◌++◌, count_by, length, set, get_or, length-set, Option, Some, None, is_none, refl, sym, ap, ◌∙◌, subst, arith}
use Rattle.std.specs.Prelude.{if◌then◌else◌, flat_map}
use Rattle.std.proofs.lemmas.Bool.{cases_eq}
use Rattle.std.proofs.lemmas.List.{append-nil, get_or-set_other}
use Rattle.std.proofs.lemmas.List.Sums.{sum_by_push}
use Rattle.std.proofs.lemmas.Grind.{flat_map-append, get_or-set_at}
use Rattle.erm_machine.specs.declared.attempt.Attempt.{Attempt}
use Rattle.erm_machine.specs.declared.attempt.Claim.{Claim}
use Rattle.erm_machine.specs.declared.attempt.Decision.{Decision}
use Rattle.erm_machine.specs.declared.attempt.OwnCell.{OwnCell}
use Rattle.erm_machine.specs.declared.part.Part.{Part}
use Rattle.erm_machine.specs.declared.place.Place.TheVariants.{Idle}
use Rattle.erm_machine.specs.declared.task.Task.{Task}
use Rattle.erm_machine.specs.declared.task.Task.TheVariants as task
use Rattle.erm_machine.specs.Cells.{own_times, MayWant, WantsCell}
use Rattle.erm_machine.specs.Core.{blank, claim_at, no_claim}
use Rattle.erm_machine.specs.Numbers.{numbers, pools, made_of}
use Rattle.erm_machine.specs.Seat.{is_own, with_claim, with_current, over}
use Rattle.erm_machine.proofs.Guards.{either_way}
use Rattle.erm_core_cells.proofs.CellsCounts.{count_set-same, count_none}

-- how often a cell stands among the own ones of a list of claims
abbrev pub times_in : ℕ → List Claim → ℕ
times_in cell ws = count_by (λ w. is_own cell w.own) ws

-- each of these claims that is held has its own cell, but the last one where the task may still want one
abbrev pub BareAt : List Claim → Task → Type 0
BareAt ws t = (k : ℕ) → k < length ws → (get_or ws k no_claim).held ≡ true → (get_or ws k no_claim).own ≡ None → (k ≡ length ws - 1) × MayWant t

-- what a seat keeps of the objects made, and of what it is to draw; its task was t
pub record KeepsMade (x : Part) (t : Task) (y : Part) : Type 0 where
  pub made : made_of y ≡ made_of x
  pub numbers : numbers y.task ≤ numbers t
  pub pools : pools y.task ≤ pools t

-- what it keeps of cells
pub record KeepsCells (x : Part) (t : Task) (y : Part) : Type 0 where
  pub times : (cell : ℕ) → own_times cell y ≡ own_times cell x
  pub wants : WantsCell x t → WantsCell y y.task
  pub bare : BareAt x.current.writes t → BareAt y.current.writes y.task

pub record Leaves (x : Part) (t : Task) (y : Part) : Type 0 where
  pub made : KeepsMade x t y
  pub cells : KeepsCells x t y

-- a task in which no counter is to be raised, and no claim waits for its cell
pub record Plain (t : Task) : Type 0 where
  pub numbers : numbers t ≡ 0
  pub pools : pools t ≡ 0
  pub wants : (x : Part) → WantsCell x t

-- tasks that aren't so
abbrev pub IsPlain : Task → Type 0
IsPlain task.Numbers = ⊥
IsPlain task.Pool = ⊥
IsPlain task.Draws = ⊥
IsPlain task.Refused = ⊥
IsPlain _ = Unit {0}

pub plain_from : (t : Task) → IsPlain t → Plain t
plain_from task.Numbers p = absurd p
plain_from task.Pool p = absurd p
plain_from task.Draws p = absurd p
plain_from task.Refused p = absurd p
plain_from _ p = record { numbers = refl; pools = refl; wants = λ x. tt }

pub plain_if : (b : Bool) (t u : Task) → Plain t → Plain u → Plain (if b then t else u)
plain_if b t u f g = either_way Plain b t u (λ _. f) (λ _. g)

-- no more claims of the second list are held, or without a cell
pub record NoMoreBare (ws us : List Claim) : Type 0 where
  pub within : (k : ℕ) → k < length us → k < length ws
  pub held : (k : ℕ) → k < length us → (get_or us k no_claim).held ≡ true → (get_or ws k no_claim).held ≡ true
  pub none : (k : ℕ) → k < length us → (get_or us k no_claim).own ≡ None → (get_or ws k no_claim).own ≡ None

pub no_more_same : (ws : List Claim) → NoMoreBare ws ws
no_more_same ws = record { within = λ k within. within; held = λ k within h. h; none = λ k within h. h }

-- one claim changes, to one that is held, or without a cell, only where it was
pub no_more_set : (ws : List Claim) (place : ℕ) (w : Claim) → (w.held ≡ true → (get_or ws place no_claim).held ≡ true)
    → (w.own ≡ None → (get_or ws place no_claim).own ≡ None) → NoMoreBare ws (set ws place w)
no_more_set ws place w held none = record {
  within = λ k within. omega (arith, length-set ws place w, within);
  held = λ k within. at_place (λ (v u : Claim). v.held ≡ true → u.held ≡ true) held (λ v h. h) k within;
  none = λ k within. at_place (λ (v u : Claim). v.own ≡ None → u.own ≡ None) none (λ v h. h) k within;
}
  where
    at_place : (P : Claim → Claim → Type 0) → P w (get_or ws place no_claim) → ((v : Claim) → P v v) → (k : ℕ) → k < length (set ws place w)
        → P (get_or (set ws place w) k no_claim) (get_or ws k no_claim)
    at_place P there here k within =
        ⊎_elim
        (λ (same : k ≡ place).
        let e : get_or (set ws place w) k no_claim ≡ w = get_or-set_at ws place k w no_claim same (omega (arith, length-set ws place w, within, same)) in
        subst (λ v. P v (get_or ws k no_claim)) (sym e) (subst (λ n. P w (get_or ws n no_claim)) (sym same) there))
        (λ (other : k ≡ place → ⊥).
        let e : get_or (set ws place w) k no_claim ≡ get_or ws k no_claim = get_or-set_other ws place k w no_claim other in
        subst (λ v. P v (get_or ws k no_claim)) (sym e) (here (get_or ws k no_claim)))
        (cases_eq k place)

-- the last claim gets its cell
pub bare_given : (ws : List Claim) (own : OwnCell) (t u : Task) → 0 < length ws → BareAt ws t → BareAt (set ws (length ws - 1) (record (get_or ws (length ws - 1) no_claim) { own = Some own })) u
bare_given ws own t u some b = λ k within held none.
    let w : Claim = record (get_or ws (length ws - 1) no_claim) { own = Some own } in
    ⊎_elim
    (λ (same : k ≡ length ws - 1).
    let e : get_or (set ws (length ws - 1) w) k no_claim ≡ w = get_or-set_at ws (length ws - 1) k w no_claim same (omega (arith, some)) in
    let own_is : (get_or (set ws (length ws - 1) w) k no_claim).own ≡ Some own = ap (λ (z : Claim). z.own) e in
    absurd (cc))
    (λ (other : k ≡ length ws - 1 → ⊥).
    let e : get_or (set ws (length ws - 1) w) k no_claim ≡ get_or ws k no_claim = get_or-set_other ws (length ws - 1) k w no_claim other in
    absurd (other (b k (omega (arith, length-set ws (length ws - 1) w, within)) (subst (λ (z : Claim). z.held ≡ true) e held) (subst (λ (z : Claim). z.own ≡ None) e none)).0))
    (cases_eq k (length ws - 1))

-- what a task asks of a part whose current transaction stays
pub record KeepsTask (x : Part) (t u : Task) : Type 0 where
  pub numbers : numbers u ≤ numbers t
  pub pools : pools u ≤ pools t
  pub wants : WantsCell x t → WantsCell x u
  pub bare : BareAt x.current.writes t → BareAt x.current.writes u

-- where no claim of a list may be without its cell, none of a list with no more claims, held or without a cell, is
pub bare_quits : (ws us : List Claim) (t u : Task) → (MayWant t → ⊥) → NoMoreBare ws us → BareAt ws t → BareAt us u
bare_quits ws us t u quits same b = λ k within held none. absurd (quits (b k (same.within k within) (same.held k within held) (same.none k within none)).1)

-- claims that stay, where the task may want a cell before and after
pub bare_wants : (ws : List Claim) (t u : Task) → MayWant u → BareAt ws t → BareAt ws u
bare_wants ws t u may b = λ k within held none. ((b k within held none).0, may)

pub keeps_plain : (x : Part) (t u : Task) → Plain u → (MayWant t → ⊥) → KeepsTask x t u
keeps_plain x t u p quits = record {
  numbers = let h = p.numbers in omega (arith, h);
  pools = let h = p.pools in omega (arith, h);
  wants = λ _. p.wants x;
  bare = bare_quits x.current.writes x.current.writes t u quits (no_more_same x.current.writes);
}

-- the same to a task that may still want a cell
pub keeps_want : (x : Part) (t u : Task) → Plain u → MayWant u → KeepsTask x t u
keeps_want x t u p may = record {
  numbers = let h = p.numbers in omega (arith, h);
  pools = let h = p.pools in omega (arith, h);
  wants = λ _. p.wants x;
  bare = bare_wants x.current.writes t u may;
}

pub keeps_same : (x : Part) (t : Task) → KeepsTask x t t
keeps_same x t = record { numbers = omega arith; pools = omega arith; wants = λ h. h; bare = λ h. h }

pub keeps_if : (x : Part) (t : Task) (b : Bool) (u v : Task) → KeepsTask x t u → KeepsTask x t v → KeepsTask x t (if b then u else v)
keeps_if x t b u v f g = either_way (KeepsTask x t) b u v (λ _. f) (λ _. g)

-- the newest of these claims has no cell
abbrev pub LastBare : List Claim → Type 0
LastBare ws = (0 < length ws) × (is_none (get_or ws (length ws - 1) no_claim).own ≡ true)

pub wants_as : (x y : Part) (t : Task) → (LastBare x.current.writes → LastBare y.current.writes) → WantsCell x t → WantsCell y t
wants_as x y task.Draws f w = f w
wants_as x y task.Pool f w = f w
wants_as x y task.Refused f w = f w
wants_as x y _ f w = tt

-- the task changes, and no claim
pub leaves_task : (x : Part) (t : Task) (y : Part) → made_of y ≡ made_of x → y.current.writes ≡ x.current.writes → y.spare ≡ x.spare → KeepsTask x t y.task → Leaves x t y
leaves_task x t y made writes spare k = record {
  made = record { made = made; numbers = k.numbers; pools = k.pools };
  cells = record {
    times = λ cell. ap (λ (cs : List OwnCell). count_by (λ (own : OwnCell). eqb own.cell cell) cs + times_in cell y.current.writes) spare
        ∙ ap (λ (ws : List Claim). count_by (λ (own : OwnCell). eqb own.cell cell) x.spare + times_in cell ws) writes;
    wants = λ w. wants_as x y y.task (λ b. subst LastBare (sym writes) b) (k.wants w);
    bare = λ b. subst (λ ws. BareAt ws y.task) (sym writes) (k.bare b);
  };
}

-- to a task that asks nothing
pub leaves_plain : (x : Part) (t u : Task) → Plain u → (MayWant t → ⊥) → Leaves x t (record x { task = u })
leaves_plain x t u p quits = leaves_task x t _ refl refl refl (keeps_plain x t u p quits)

pub leaves_want : (x : Part) (t u : Task) → Plain u → MayWant u → Leaves x t (record x { task = u })
leaves_want x t u p may = leaves_task x t _ refl refl refl (keeps_want x t u p may)

-- a part that stays, but for what counts for neither
pub leaves_aside : (x y : Part) → made_of y ≡ made_of x → y.current.writes ≡ x.current.writes → y.spare ≡ x.spare → y.task ≡ x.task → Leaves x x.task y
leaves_aside x y made writes spare same = leaves_task x x.task y made writes spare (subst (λ u. KeepsTask x x.task u) (sym same) (keeps_same x x.task))

-- the current transaction changes in what it reads, or in its claims, whose cells stay
pub leaves_current : (x : Part) (t u : Task) (c : Attempt) → Plain u → c.made ≡ x.current.made → ((cell : ℕ) → times_in cell c.writes ≡ times_in cell x.current.writes)
    → (BareAt x.current.writes t → BareAt c.writes u) → Leaves x t (record x { task = u; current = c })
leaves_current x t u c p made times bare = record {
  made = record {
    made = ap (λ (ks : List ℕ). flat_map (λ (a : Attempt). a.made) x.over ++ ks) made;
    numbers = let h = p.numbers in omega (arith, h);
    pools = let h = p.pools in omega (arith, h);
  };
  cells = record {
    times = λ cell. ap (λ (n : ℕ). count_by (λ (own : OwnCell). eqb own.cell cell) x.spare + n) (times cell);
    wants = λ _. p.wants (record x { task = u; current = c });
    bare = bare;
  };
}

-- a claim changes, and its cell stays
pub times_set : (cell : ℕ) (t : Attempt) (place : ℕ) (w : Claim) → is_own cell w.own ≡ is_own cell (claim_at t place).own → times_in cell (with_claim place w t).writes ≡ times_in cell t.writes
times_set cell t place w same = count_set-same (λ (v : Claim). is_own cell v.own) t.writes place w no_claim same

-- a claim without a cell comes to the others
pub times_more : (cell : ℕ) (ws : List Claim) (w : Claim) → w.own ≡ None → times_in cell (ws ++ w ∷ []) ≡ times_in cell ws
times_more cell ws w none =
    let push = sum_by_push (λ (v : Claim). cond (is_own cell v.own) 1 0) ws w in
    let bare : ◌≡◌ {A = ℕ} (cond (is_own cell w.own) 1 0) 0 = ap (λ (o : Option OwnCell). cond (is_own cell o) 1 0) none in
    omega (arith, push, bare)

-- the current transaction is over, whose claims have no cells
pub leaves_over : (d : Decision) (x : Part) (t u : Task) → Plain u → ((k : ℕ) → k < length x.current.writes → (claim_at x.current k).own ≡ None) →
    Leaves x t (over d (record x { place = Idle; task = u }))
leaves_over d x t u p none = record {
  made = record {
    made = append-nil (flat_map (λ (a : Attempt). a.made) (x.over ++ record x.current { decision = d } ∷ []))
        ∙ flat_map-append (λ (a : Attempt). a.made) x.over (record x.current { decision = d } ∷ [])
        ∙ ap (λ (ks : List ℕ). flat_map (λ (a : Attempt). a.made) x.over ++ ks) (append-nil x.current.made);
    numbers = let h = p.numbers in omega (arith, h);
    pools = let h = p.pools in omega (arith, h);
  };
  cells = record {
    times = λ cell.
        let gone = count_none (λ (w : Claim). is_own cell w.own) x.current.writes no_claim (λ k within. ap (λ (o : Option OwnCell). is_own cell o) (none k within)) in
        omega (arith, gone);
    wants = λ _. p.wants (over d (record x { place = Idle; task = u }));
    bare = λ _ k within held none. absurd (omega (arith, within));
  };
}

-- the same where it leaves nothing, and has made nothing
pub leaves_dropped : (x : Part) (t u : Task) → Plain u → x.current.made ≡ [] → ((k : ℕ) → k < length x.current.writes → (claim_at x.current k).own ≡ None) →
    Leaves x t (with_current blank (record x { place = Idle; task = u }))
leaves_dropped x t u p unmade none = record {
  made = record {
    made = ap (λ (ks : List ℕ). flat_map (λ (a : Attempt). a.made) x.over ++ ks) (sym unmade);
    numbers = let h = p.numbers in omega (arith, h);
    pools = let h = p.pools in omega (arith, h);
  };
  cells = record {
    times = λ cell.
        let gone = count_none (λ (w : Claim). is_own cell w.own) x.current.writes no_claim (λ k within. ap (λ (o : Option OwnCell). is_own cell o) (none k within)) in
        omega (arith, gone);
    wants = λ _. p.wants (with_current blank (record x { place = Idle; task = u }));
    bare = λ _ k within held none. absurd (omega (arith, within));
  };
}
