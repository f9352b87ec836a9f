-- The causes of refusals for want of reads, claims, cells and objects, at a line of a run.
use Rattle.std.proofs.Common.{◌≡◌, ℕ, zero, suc, ◌+◌, ◌<◌, ◌≤◌, ◌⊎◌, ◌||◌, ◌==◌, Bool, true, List, [], ◌∷◌, ◌++◌, Option, Some, None, is_some, length, replicate, refl, sym, ap, ◌∙◌, subst, inl, inr, arith}
use Rattle.std.specs.List.{list_any}
use Rattle.std.proofs.lemmas.List.{length-append, length-map}
use Rattle.std.proofs.lemmas.Bool.Decides.{eqb_tells}
use Rattle.std.proofs.lemmas.List.Sums.{sum_by_push}
use Rattle.erm_model.specs.declared.history.VersionRead.{VersionRead}
use Rattle.erm_model.specs.declared.limits.TheConstants.{OID_LIMIT, READ_LIMIT, TABLES, WRITE_LIMIT}
use Rattle.erm_model.specs.declared.TheConstants.{ROW_WORDS}
use Rattle.erm_model.specs.declared.row_stop.RowStop.{RowStop}
use Rattle.erm_model.specs.declared.row_stop.RowStop.TheVariants as stop
use Rattle.erm_model.specs.RowTransaction.{Asked, asked_claim, asked_make, asked_read}
use Rattle.erm_model.specs.Rows.{Rows}
use Rattle.erm_node.specs.Sound.{IsSound, reached}
use Rattle.erm_world.specs.Calls.{AreAllMade, IsJustAbove}
use Rattle.erm_world.specs.Face.{WasRefused}
use Rattle.erm_world.specs.Works.{row_read}
use Rattle.erm_world.specs.World.{View, claims_by_all, made_by_all, work_at}
use Rattle.erm_world.specs.World as world
use Rattle.erm_report.specs.declared.answer.Answer.{Answer}
use Rattle.erm_script.specs.declared.script.Command.{Command}
use Rattle.erm_script.specs.declared.script.Command.TheVariants as command
use Rattle.erm_script.specs.declared.script.ScriptLine.{ScriptLine}
use Rattle.erm_script.specs.Script.{IsInRange}
use Rattle.erm_good_report.specs.Refusals.{claims_of, makes_of, total_of}
use Rattle.erm_good_report.specs.Transactions.{Exchange, Said, Transaction, progress_of, with_line}
use Rattle.erm_tree.specs.Change.{count_claims, count_makes}
use Rattle.erm_lines.specs.Executions.{count_rows}
use Rattle.erm_told_limits.specs.Limits.{AreInRange}
use Rattle.erm_told_limits.proofs.At.{At}
use Rattle.erm_told_limits.proofs.Heard.{may_claim, may_read}
use Rattle.erm_told_limits.proofs.Holds.{Laws}
use Rattle.erm_told_limits.proofs.Lines.{Cut, Known, cut_of}
use Rattle.erm_told_limits.proofs.Looks.{reads_line}
use Rattle.erm_told_limits.proofs.Pigeons.{Has, has_first, has_made, has_reached, has_read, has_second, filled, length_filled, length_roots, made_few, oids_read, read_before, read_few, roots}
use Rattle.erm_told_limits.proofs.Refused.{Full, was_full}
use Rattle.erm_told_limits.proofs.Totals.{all_made, claims_turned, length_all, made_turned, mades_turned, times_all}
use Rattle.erm_machine.proofs.Listed.{∈-first}
use Rattle.erm_world.proofs.Lists.{∈-last}

-- what each refusal says of the view at which it was given
module _ (v : View) (seat : ℕ) (t : View) where
  writes_at : (asked : Asked) → WasRefused v seat asked stop.WritesFull t → (oid : ℕ) × (asked ≡ asked_claim oid) × (length (work_at v seat).claims ≡ WRITE_LIMIT)
  writes_at (asked_read oid) did = absurd did
  writes_at (asked_claim oid) did = (oid, refl, did.2)
  writes_at asked_make did = absurd did

  cells_at : (drawn : ℕ) (asked : Asked) → WasRefused v seat asked (stop.CellsFull drawn) t → (oid : ℕ) × (asked ≡ asked_claim oid) × IsJustAbove v.opening.cells drawn × (v.opening.cells ≤ OID_LIMIT + claims_by_all v)
  cells_at drawn (asked_read oid) did = absurd did
  cells_at drawn (asked_claim oid) did = (oid, refl, did.4, did.5)
  cells_at drawn asked_make did = absurd did

  oids_at : (drawn : ℕ) (asked : Asked) → WasRefused v seat asked (stop.OidsFull drawn) t → (asked ≡ asked_make) × IsJustAbove OID_LIMIT drawn × AreAllMade v
  oids_at drawn (asked_read oid) did = absurd did
  oids_at drawn (asked_claim oid) did = absurd did
  oids_at drawn asked_make did = (refl, did.1, did.2)

  reads_at : (asked : Asked) → WasRefused v seat asked stop.ReadsFull t → (oid : ℕ) × (asked ≡ asked_read oid) × (t ≡ v) × (row_read (work_at v seat).reads oid ≡ None) × (length (work_at v seat).reads ≡ READ_LIMIT)
  reads_at (asked_read oid) did = (oid, refl, did.0, did.1.unread, did.2)
  reads_at (asked_claim oid) did = absurd did
  reads_at asked_make did = absurd did

-- a line of an operation counts for what it may claim
pub claims_line : (c : Command) (a : Answer) (u : Transaction) → 0 < claims_of c → may_claim u + claims_of c ≤ may_claim (with_line (Some c) a u)
claims_line (command.Put table key value) a u some = let one = sum_by_push (λ (x : Exchange). claims_of x.asked) u.lines (record { asked = command.Put table key value; answer = a }) in omega (arith, one)
claims_line (command.Del table key) a u some = let one = sum_by_push (λ (x : Exchange). claims_of x.asked) u.lines (record { asked = command.Del table key; answer = a }) in omega (arith, one)
claims_line (command.Tidy table key) a u some = let one = sum_by_push (λ (x : Exchange). claims_of x.asked) u.lines (record { asked = command.Tidy table key; answer = a }) in omega (arith, one)
claims_line c a u some = absurd (omega (arith, some))

-- whether a row was read before
is_read : (o : Option (List ℕ)) → (is_some o ≡ true) ⊎ (o ≡ None)
is_read None = inr refl
is_read (Some row) = inl refl

module _ (laws : Laws) (first : View) (ls : List ScriptLine) (said : List Said) (l : ScriptLine) (a : Answer) (at : At first ls said l a) where
  cut : (why : RowStop) → Full a why → Cut (Known l.command at.t) l.command at.v l.session why at.t
  cut why full =
      let was = was_full a why full at.v l at.t at.did in
      cut_of laws.rows_below laws.ways l.command at.v l.session at.t at.did.session at.serializable was.active (at.holds.runs l.session at.did.session was.active) why was.cut

  claims_next : total_of claims_of (ls ++ l ∷ []) ≡ total_of claims_of ls + claims_of l.command
  claims_next = sum_by_push (λ (k : ScriptLine). claims_of k.command) ls l

  makes_next : total_of makes_of (ls ++ l ∷ []) ≡ total_of makes_of ls + makes_of l.command
  makes_next = sum_by_push (λ (k : ScriptLine). makes_of k.command) ls l

  -- claims
  pub writes_cause : Full a stop.WritesFull → (u : Transaction) → (progress_of l.session said).current ≡ Some u → WRITE_LIMIT < may_claim (with_line (Some l.command) a u)
  writes_cause full u current =
      let line = cut stop.WritesFull full in
      let what = writes_at line.at l.session at.t line.asked line.refused in
      let less = line.less_claims what.0 what.1 in
      let own = at.holds.own l.session u at.did.session current in
      let counts = claims_line l.command a u (omega (arith, less)) in
      omega (arith, what.2, line.turned.own.now.claimed, less, own, counts)

  -- cells
  pub cells_cause : (drawn : ℕ) → Full a (stop.CellsFull drawn) → IsJustAbove first.opening.cells drawn × (first.opening.cells < OID_LIMIT + total_of claims_of (ls ++ l ∷ []))
  cells_cause drawn full =
      let line = cut (stop.CellsFull drawn) full in
      let what = cells_at line.at l.session at.t drawn line.asked line.refused in
      let less = line.less_claims what.0 what.1 in
      let opening : line.at.opening.cells ≡ first.opening.cells = ap (λ (o : world.Opening). o.cells) (line.turned.opening ∙ at.opening) in
      let grown = claims_turned (Known l.command at.t) (count_makes line.events) (count_claims line.events) 0 at.v l.session line.at at.did.session line.turned in
      (subst (λ (limit : ℕ). IsJustAbove limit drawn) opening what.2, omega (arith, opening, what.3, grown, less, at.holds.claims, claims_next))

  -- objects
  pub oids_cause : (drawn : ℕ) → Full a (stop.OidsFull drawn) → IsJustAbove OID_LIMIT drawn × (OID_LIMIT < first.opening.first + total_of makes_of (ls ++ l ∷ []))
  oids_cause drawn full =
      let line = cut (stop.OidsFull drawn) full in
      let what = oids_at line.at l.session at.t drawn line.asked line.refused in
      let less = line.less_makes what.0 in
      let opening : line.at.opening.first ≡ first.opening.first = ap (λ (o : world.Opening). o.first) (line.turned.opening ∙ at.opening) in
      let grown = mades_turned (Known l.command at.t) (count_makes line.events) (count_claims line.events) 0 at.v l.session line.at at.did.session line.turned in
      let most : OID_LIMIT ≤ first.opening.first + length (all_made line.at) =
      made_few first.opening.first OID_LIMIT (all_made line.at)
      (λ q above below. has_made (all_made line.at) q (let some = what.2 q (omega (arith, opening, above)) below in omega (arith, some, times_all line.at q)))
      in
      (what.1, omega (arith, most, length_all line.at, grown, less, at.holds.mades, makes_next))

  -- reads
  module _ (zeros : (rows : Rows) (x : ℕ) → IsSound rows → TABLES ≤ x → rows x ≡ replicate ROW_WORDS 0 → reached rows x ≡ 0) (range : AreInRange (ls ++ l ∷ [])) (full : Full a stop.ReadsFull) where
    line : Cut (Known l.command at.t) l.command at.v l.session stop.ReadsFull at.t
    line = cut stop.ReadsFull full

    same : line.at.opening ≡ first.opening
    same = line.turned.opening ∙ at.opening

    known_there : (x : ℕ) → 0 < reached line.at.opening.rows x + made_by_all line.at x → Has ((roots ++ filled first.opening.rows) ++ all_made line.at) x
    known_there x some = by_count (positive (reached line.at.opening.rows x))
      where
        positive : (n : ℕ) → (n ≡ 0) ⊎ (0 < n)
        positive zero = inl refl
        positive (suc n) = inr (omega arith)

        sound : IsSound first.opening.rows
        sound = subst (λ (o : world.Opening). IsSound o.rows) at.opening at.holds.serializable.opening_meets

        by_count : (reached line.at.opening.rows x ≡ 0) ⊎ (0 < reached line.at.opening.rows x) → Has ((roots ++ filled first.opening.rows) ++ all_made line.at) x
        by_count (inl none) = has_second (roots ++ filled first.opening.rows) (all_made line.at) x (has_made (all_made line.at) x (omega (arith, none, some, times_all line.at x)))
        by_count (inr more) =
            let there : reached first.opening.rows x ≡ reached line.at.opening.rows x = sym (ap (λ (o : world.Opening). reached o.rows x) same) in
            has_first (roots ++ filled first.opening.rows) (all_made line.at) x (has_reached zeros first.opening.rows x sound (omega (arith, there, more)))

    earlier : AreInRange ls
    earlier k m = range k (∈-first ls (l ∷ []) k m)

    own_range : IsInRange l.command
    own_range = range l (∈-last ls l)

    -- what was read before the line, or by it, may be
    read_known : at.t ≡ line.at → (x : ℕ) → is_some (row_read (work_at line.at l.session).reads x) ≡ true → 0 < reached line.at.opening.rows x + made_by_all line.at x
    read_known stays x read = by_time (line.turned.own.reads x read)
      where
        by_time : (is_some (row_read (work_at at.v l.session).reads x) ≡ true) ⊎ Known l.command at.t x → 0 < reached line.at.opening.rows x + made_by_all line.at x
        by_time (inl before) =
            let old = at.holds.known earlier l.session x at.did.session before in
            let more = made_turned (Known l.command at.t) (count_makes line.events) (count_claims line.events) 0 at.v l.session line.at at.did.session line.turned x in
            let still : reached line.at.opening.rows x ≡ reached at.v.opening.rows x = ap (λ (o : world.Opening). reached o.rows x) line.turned.opening in
            omega (arith, old, more, still)
        by_time (inr new) = subst (λ (y : View). 0 < reached y.opening.rows x + made_by_all y x) stays (new own_range)

    pub reads_cause : READ_LIMIT < TABLES + count_rows first.opening.rows + total_of makes_of (ls ++ l ∷ [])
    reads_cause =
        let rs = (work_at line.at l.session).reads in
        let what = reads_at line.at l.session at.t line.asked line.refused in
        let grown = mades_turned (Known l.command at.t) (count_makes line.events) (count_claims line.events) 0 at.v l.session line.at at.did.session line.turned in
        let wanted : 0 < reached line.at.opening.rows what.0 + made_by_all line.at what.0 =
        subst (λ (y : View). 0 < reached y.opening.rows what.0 + made_by_all y what.0) what.2 (line.known what.0 what.1 own_range) in
        let most : length rs + 1 ≤ length ((roots ++ filled first.opening.rows) ++ all_made line.at) =
        read_few rs what.0 ((roots ++ filled first.opening.rows) ++ all_made line.at) (line.turned.own.now.apart (at.holds.apart l.session at.did.session)) what.3
        (λ q has. elim (eqb_tells q what.0) as (λ _. Has ((roots ++ filled first.opening.rows) ++ all_made line.at) q) [
          | inl here ↦ known_there q (subst (λ (x : ℕ). 0 < reached line.at.opening.rows x + made_by_all line.at x) (sym here.1) wanted)
          | inr there ↦ known_there q (read_known what.2 q (read_before rs q (sym (ap (λ (b : Bool). b || list_any (λ x. q == x) (oids_read rs)) there.0) ∙ has)))
        ])
        in
        let parts = length-append (roots ++ filled first.opening.rows) (all_made line.at) in
        let front = length-append roots (filled first.opening.rows) in
        omega (arith, most, what.4, parts, front, length_roots, length_filled first.opening.rows, length_all line.at, grown, line.few_makes, at.holds.mades, makes_next)

    -- the own lines may read so many
    pub own_cause : (u : Transaction) → (progress_of l.session said).current ≡ Some u → READ_LIMIT < may_read (with_line (Some l.command) a u)
    own_cause u current =
        let rs = (work_at line.at l.session).reads in
        let old = (work_at at.v l.session).reads in
        let what = reads_at line.at l.session at.t line.asked line.refused in
        let counts = reads_line l.command a u in
        elim (at.holds.seeks earlier l.session u at.did.session current) as (λ _. READ_LIMIT < may_read (with_line (Some l.command) a u)) [
          | inr many ↦ omega (arith, many, counts)
          | inl few ↦ elim line.kind as (λ _. READ_LIMIT < may_read (with_line (Some l.command) a u)) [
            | inr walks ↦ omega (arith, walks, counts)
            | inl seeks ↦
                let looked = line.looked own_range seeks in
                let ys = oids_read old ++ looked.looked.more in
                let wanted : Has looked.looked.more what.0 = looked.asks what.0 what.1 in
                let most : length rs + 1 ≤ length ys =
                read_few rs what.0 ys (line.turned.own.now.apart (at.holds.apart l.session at.did.session)) what.3
                (λ q has. elim (eqb_tells q what.0) as (λ _. Has ys q) [
                  | inl here ↦ has_second (oids_read old) looked.looked.more q (subst (λ (x : ℕ). Has looked.looked.more x) (sym here.1) wanted)
                  | inr there ↦
                      let read = read_before rs q (sym (ap (λ (b : Bool). b || list_any (λ x. q == x) (oids_read rs)) there.0) ∙ has) in
                      elim (looked.looked.reads q read) as (λ _. Has ys q) [
                        | inl before ↦ has_first (oids_read old) looked.looked.more q (has_read old q before)
                        | inr new ↦ has_second (oids_read old) looked.looked.more q new
                      ]
                ])
                in
                let parts = length-append (oids_read old) looked.looked.more in
                let same = length-map old (λ (r : VersionRead). r.oid) in
                omega (arith, most, what.4, parts, same, few, looked.looked.few, counts)
          ]
        ]
