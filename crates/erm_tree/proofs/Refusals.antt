-- Changes that were cut off by a refusal: no row was set.
use Rattle.std.proofs.Common.{◌≡◌, ℕ, true, false, List, [], ◌∷◌, ◌++◌, map, length, replicate, Option, Some, None, refl, sym, ap, ◌∙◌, subst, inr}
use Rattle.std.specs.Prelude.{MatchOption}
use Rattle.std.proofs.lemmas.List.{append_assoc, length-replicate}
use Rattle.erm_model.specs.declared.row_stop.RowStop.{RowStop}
use Rattle.erm_model.specs.Rows.{Rows}
use Rattle.erm_model.specs.RowTransaction.{Event, did_read, did_claim, did_write, did_make, Asked, asked_read, asked_claim, asked_make, Law, TellsAll, Face, OnlyReads, WritesNothing, IsLawful, IsRefused, IsStopped, ends}
use Rattle.erm_model.proofs.RowCalls.{after_all-WritesNothing, Did-lawful, Runs-lawful, SameView-lawful, TellsAll-append, WritesNothing-OnlyReads, WritesNothing-append}
use Rattle.erm_node.specs.Sound.{levels_of}
use Rattle.erm_node.specs.TreeMap.{record_in}
use Rattle.erm_tree.specs.Calls.{AsksClaims, AsksMake, AsksReads, AreFirstMakes, IsPrefixOf, IsReady, ReadsAre, Reads, SawIn, DidBy, Ran}
use Rattle.erm_tree.specs.Change.{AreReadsThen, AsksDel, AsksPut, IsPrefix, IsPut, IsPutOfNew, makes_claims_writes}
use Rattle.erm_tree.specs.Insert.{Place, path_to, new_rows, objects_for}
use Rattle.erm_tree.specs.Reads.{IsOnWay}
use Rattle.erm_tree.proofs.Calls.{ReadsAre-append, Agrees-after_reads, IsRefused-among, IsStopped-after, IsStopped-then, IsStopped-among}
use Rattle.erm_tree.proofs.Phases.{AreQuiet, AreClaims-prefix, AreQuiet-append, AreQuiet-claims, AreQuiet-makes}

WritesNothing-quiet : (es : List Event) → AreQuiet es → WritesNothing es
WritesNothing-quiet [] quiet = tt
WritesNothing-quiet (did_read oid row ∷ es) quiet = absurd quiet
WritesNothing-quiet (did_claim oid ∷ es) quiet = WritesNothing-quiet es quiet
WritesNothing-quiet (did_write oid row ∷ es) quiet = absurd quiet
WritesNothing-quiet (did_make oid ∷ es) quiet = WritesNothing-quiet es quiet

ReadsAre-quiet : (P : ℕ → Type 0) (es : List Event) → AreQuiet es → ReadsAre P es
ReadsAre-quiet P [] quiet = tt
ReadsAre-quiet P (did_read oid row ∷ es) quiet = absurd quiet
ReadsAre-quiet P (did_claim oid ∷ es) quiet = ReadsAre-quiet P es quiet
ReadsAre-quiet P (did_write oid row ∷ es) quiet = absurd quiet
ReadsAre-quiet P (did_make oid ∷ es) quiet = ReadsAre-quiet P es quiet

-- reads that begin a whole call
Prefix-reads : (law : Law) (P : Rows → ℕ → Type 0) (whole : Rows → List Event → Type 0) → ((array : Rows) (es : List Event) → OnlyReads es → ReadsAre (P array) es → (others : List Event) × whole array (es ++ others))
    → (es : List Event) → Reads law P es → IsPrefix law P whole es
Prefix-reads law P whole begins es reads = record {
  none = WritesNothing-OnlyReads es reads.only;
  of = reads.of;
  rest = λ array meets agrees. begins array es reads.only (reads.of array meets agrees);
}

module _ {S : Type 0} (face : Face S) (goes_on : (a b c : S) → face.follows a b → face.follows b c → face.follows a c) (P : Rows → ℕ → Type 0) (may then_may : RowStop → Type 0) (among : (x : RowStop) → may x → then_may x)
    (whole : Rows → List Event → Type 0) (begins : (array : Rows) (es : List Event) → OnlyReads es → ReadsAre (P array) es → (others : List Event) × whole array (es ++ others)) (asks : List Event → Rows → Asked → Type 0) where
  -- reads that were cut off
  pub Refused-reads : ((es : List Event) (array : Rows) (asked : Asked) → OnlyReads es → AsksReads P es array asked → asks es array asked) → (s t : S) (stop : RowStop) → IsStopped face may (Reads face.law P) (AsksReads P) s stop t
      → IsStopped face then_may (IsPrefix face.law P whole) asks s stop t
  Refused-reads reads_ask s t stop stopped =
      IsStopped-among face goes_on may then_may (Reads face.law P) (IsPrefix face.law P whole) (AsksReads P) asks s t stop among (Prefix-reads face.law P whole begins) (λ es array asked is. reads_ask es array asked is.only) stopped

  -- a write after reads
  pub Refused-write : (s t u : S) (oid : ℕ) (stop : RowStop) (fact : Rows → Type 0) → ((es : List Event) (array : Rows) → face.law.meets array → fact array → asks es array (asked_claim oid))
      → SawIn face P s t fact → IsRefused face may t (asked_claim oid) stop u → IsStopped face then_may (IsPrefix face.law P whole) asks s stop u
  Refused-write s t u oid stop fact so seen refused =
      IsStopped-after face goes_on then_may (IsPrefix face.law P whole) asks s t u (asked_claim oid) stop seen.saw.events seen.saw.goes_on seen.saw.follows
      (Prefix-reads face.law P whole begins seen.saw.events seen.reads) (λ array meets agrees. so seen.saw.events array meets (seen.saw.saw array meets agrees))
      (IsRefused-among face goes_on may then_may t u (asked_claim oid) stop among refused)

  -- quiet calls after reads
  pub Refused-quiet : (then_kind : List Event → Type 0) (quiet_asks : List Event → Rows → Asked → Type 0) (s t u : S) (stop : RowStop) (fact : Rows → Type 0) → ((fs : List Event) → then_kind fs → AreQuiet fs)
      → ((es fs : List Event) (array : Rows) → OnlyReads es → ReadsAre (P array) es → then_kind fs → fact array → (others : List Event) × whole array ((es ++ fs) ++ others))
      → ((es fs : List Event) (array : Rows) (asked : Asked) → OnlyReads es → ReadsAre (P array) es → then_kind fs → fact array → quiet_asks fs array asked → asks (es ++ fs) array asked)
      → SawIn face P s t fact → IsStopped face may then_kind quiet_asks t stop u → IsStopped face then_may (IsPrefix face.law P whole) asks s stop u
  Refused-quiet then_kind quiet_asks s t u stop fact quiet begins_then lift seen stopped =
      let es = seen.saw.events in
      IsStopped-among face goes_on may then_may (IsPrefix face.law P whole) (IsPrefix face.law P whole) asks asks s u stop among (λ fs is. is) (λ fs array asked is so. so)
      (IsStopped-then face goes_on may then_kind (IsPrefix face.law P whole) quiet_asks asks s t u stop es seen.saw.goes_on.runs seen.saw.follows
      (λ fs is. record {
        none = WritesNothing-append es fs (WritesNothing-OnlyReads es seen.saw.reads) (WritesNothing-quiet fs (quiet fs is));
        of = λ array meets agrees.
            let parts = Agrees-after_reads face.law es fs array seen.saw.reads agrees in
            ReadsAre-append (P array) es fs (seen.reads.of array meets parts.0) (ReadsAre-quiet (P array) fs (quiet fs is));
        rest = λ array meets agrees.
            let parts = Agrees-after_reads face.law es fs array seen.saw.reads agrees in
            begins_then es fs array seen.saw.reads (seen.reads.of array meets parts.0) is (seen.saw.saw array meets parts.0);
      })
      (λ fs is asked so array meets agrees.
      let parts = Agrees-after_reads face.law es fs array seen.saw.reads agrees in
      lift es fs array asked seen.saw.reads (seen.reads.of array meets parts.0) is (seen.saw.saw array meets parts.0) (so array meets parts.1))
      stopped)

-- the first ones of a part are the first ones of the whole
IsPrefixOf-more : (ds fs es : List Event) → IsPrefixOf ds es → IsPrefixOf (ds ++ fs) es
IsPrefixOf-more ds fs es (others, is) = (others ++ fs, ap (λ (gs : List Event). gs ++ fs) is ∙ append_assoc es others fs)

-- and so are events and then the first ones of others
IsPrefixOf-after : (ds fs es : List Event) → IsPrefixOf fs es → IsPrefixOf (ds ++ fs) (ds ++ es)
IsPrefixOf-after ds fs es (others, is) = (others, ap (λ (gs : List Event). ds ++ gs) is ∙ sym (append_assoc ds es others))

-- events are the first ones of those by which these objects are made and then the objects of rows are claimed
pub record AreMakesThenClaims (made : List ℕ) (ws : List (ℕ × List ℕ)) (events : List Event) : Type 0 where
  pub quiet : AreQuiet events
  pub begins : IsPrefixOf (map did_make made ++ map (λ w. did_claim w.0) ws) events

-- and a claim that is asked for is the next one
abbrev pub AsksNextClaim : List ℕ → List (ℕ × List ℕ) → List Event → Rows → Asked → Type 0
AsksNextClaim made ws events rows (asked_read oid) = ⊥
AsksNextClaim made ws events rows (asked_claim oid) = IsPrefixOf (map did_make made ++ map (λ w. did_claim w.0) ws) (events ++ did_claim oid ∷ [])
AsksNextClaim made ws events rows asked_make = ⊥

AsksNextClaim-made : (made : List ℕ) (ws : List (ℕ × List ℕ)) (fs : List Event) (array : Rows) (asked : Asked) → AsksClaims ws fs array asked → AsksNextClaim made ws (map did_make made ++ fs) array asked
AsksNextClaim-made made ws fs array (asked_read oid) asks = absurd asks
AsksNextClaim-made made ws fs array (asked_claim oid) asks =
    let claims = map (λ (w : ℕ × List ℕ). did_claim w.0) ws in
    subst (IsPrefixOf (map did_make made ++ claims)) (sym (append_assoc (map did_make made) fs (did_claim oid ∷ []))) (IsPrefixOf-after (map did_make made) claims (fs ++ did_claim oid ∷ []) asks)
AsksNextClaim-made made ws fs array asked_make asks = absurd asks

-- claims that were cut off, after objects were made
pub IsStopped-made : {S : Type 0} (face : Face S) (goes_on : (a b c : S) → face.follows a b → face.follows b c → face.follows a c) (may : RowStop → Type 0) (s t u : S) (stop : RowStop) (made : List ℕ) (ws : List (ℕ × List ℕ))
    → Ran face s (map did_make made) t → IsStopped face may (IsPrefixOf (map (λ w. did_claim w.0) ws)) (AsksClaims ws) t stop u → IsStopped face may (AreMakesThenClaims made ws) (AsksNextClaim made ws) s stop u
IsStopped-made face goes_on may s t u stop made ws makes stopped =
    let es = map did_make made in
    IsStopped-then face goes_on may (IsPrefixOf (map (λ w. did_claim w.0) ws)) (AreMakesThenClaims made ws) (AsksClaims ws) (AsksNextClaim made ws) s t u stop es makes.goes_on.runs makes.follows
    (λ fs is. record {
      quiet = AreQuiet-append es fs (AreQuiet-makes made) (AreQuiet-claims fs (AreClaims-prefix ws fs is));
      begins = IsPrefixOf-after es (map (λ (w : ℕ × List ℕ). did_claim w.0) ws) fs is;
    })
    (λ fs is asked so array meets agrees.
    let after = (TellsAll-append face.law es fs array array agrees).1 in
    let same = after_all-WritesNothing es (WritesNothing-quiet es (AreQuiet-makes made)) array in
    AsksNextClaim-made made ws fs array asked (so array meets (subst (λ (seen : Rows). TellsAll face.law fs array seen) same after)))
    stopped

-- reads on the way to a key begin a put
pub IsPut-reads : (table key : ℕ) (row : List ℕ) (array : Rows) (es : List Event) → OnlyReads es → ReadsAre (IsOnWay table key array) es → (others : List Event) × IsPut array table key row (es ++ others)
IsPut-reads table key row array es only of =
    let path = path_to array (levels_of array table) table key in
    let made : List ℕ = replicate (objects_for path) 0 in
    let new = makes_claims_writes made (new_rows made key row path) in
    elim (record_in array table key) as (λ r. (others : List Event) × MatchOption r (IsPutOfNew array table key row (es ++ others)) (λ oid. AreReadsThen (IsOnWay table key array) (did_write oid row ∷ []) (es ++ others))) [
      | None ↦ (new, record { made = made; many = length-replicate (objects_for path) 0; then_all = record { reads = es; only = only; of = of; split = refl } })
      | Some oid ↦ (did_write oid row ∷ [], record { reads = es; only = only; of = of; split = refl })
    ]

-- and so do reads, and then the first ones of the events by which a new key is put
IsPut-new : (table key : ℕ) (row : List ℕ) (array : Rows) (es fs : List Event) (made : List ℕ) → OnlyReads es → ReadsAre (IsOnWay table key array) es → record_in array table key ≡ None
    → length made ≡ objects_for (path_to array (levels_of array table) table key) → IsPrefixOf (makes_claims_writes made (new_rows made key row (path_to array (levels_of array table) table key))) fs
    → (others : List Event) × IsPut array table key row ((es ++ fs) ++ others)
IsPut-new table key row array es fs made only of none many (others, is) =
    let whole = (es ++ fs) ++ others in (
      others,
      subst (λ (r : Option ℕ). MatchOption r (IsPutOfNew array table key row whole) (λ oid. AreReadsThen (IsOnWay table key array) (did_write oid row ∷ []) whole)) (sym none)
          (record { made = made; many = many; then_all = record { reads = es; only = only; of = of; split = append_assoc es fs others ∙ ap (λ (ds : List Event). es ++ ds) (sym is) } }),
    )

-- so that the put goes on by the next one of those
IsPut-next : (table key : ℕ) (row : List ℕ) (array : Rows) (es fs : List Event) (e : Event) (made : List ℕ) → OnlyReads es → ReadsAre (IsOnWay table key array) es → record_in array table key ≡ None
    → length made ≡ objects_for (path_to array (levels_of array table) table key)
    → IsPrefixOf (makes_claims_writes made (new_rows made key row (path_to array (levels_of array table) table key))) (fs ++ e ∷ [])
    → (others : List Event) × IsPut array table key row ((es ++ fs) ++ e ∷ others)
IsPut-next table key row array es fs e made only of none many begins =
    let (others, put) = IsPut-new table key row array es (fs ++ e ∷ []) made only of none many begins in
    let same : (es ++ (fs ++ e ∷ [])) ++ others ≡ (es ++ fs) ++ e ∷ others =
    ap (λ (ds : List Event). ds ++ others) (sym (append_assoc es fs (e ∷ []))) ∙ append_assoc (es ++ fs) (e ∷ []) others in
    (others, subst (IsPut array table key row) same put)

-- what a del asks for to find the record
pub AsksDel-reads : (table key : ℕ) (es : List Event) (array : Rows) (asked : Asked) → AsksReads (IsOnWay table key) es array asked → AsksDel table key es array asked
AsksDel-reads table key es array (asked_read oid) asks = asks
AsksDel-reads table key es array (asked_claim oid) asks = absurd asks
AsksDel-reads table key es array asked_make asks = absurd asks

-- what a put asks for to find the record or its place
pub AsksPut-reads : (table key : ℕ) (row : List ℕ) (es : List Event) (array : Rows) (asked : Asked) → OnlyReads es → AsksReads (IsOnWay table key) es array asked → AsksPut table key row es array asked
AsksPut-reads table key row es array (asked_read oid) only asks = (only, asks)
AsksPut-reads table key row es array (asked_claim oid) only asks = absurd asks
AsksPut-reads table key row es array asked_make only asks = absurd asks

module _ (table key : ℕ) (row : List ℕ) (es fs : List Event) (array : Rows) (only : OnlyReads es) (of : ReadsAre (IsOnWay table key array) es) (none : record_in array table key ≡ None) where
  abbrev here : List Place
  here = path_to array (levels_of array table) table key

  -- the events by which objects are made are the first ones of a put
  pub IsPut-makes : (count : ℕ) → count ≡ objects_for here → AreFirstMakes count fs → (others : List Event) × IsPut array table key row ((es ++ fs) ++ others)
  IsPut-makes count same (made, many, first) =
      IsPut-new table key row array es fs made only of none (many ∙ same) (IsPrefixOf-more (map did_make made) _ fs first)

  -- and what is asked for is what the put does next
  pub AsksPut-makes : (count : ℕ) → count ≡ objects_for here → (asked : Asked) → AsksMake count fs array asked → AsksPut table key row (es ++ fs) array asked
  AsksPut-makes count same (asked_read oid) asks = absurd asks
  AsksPut-makes count same (asked_claim oid) asks = absurd asks
  AsksPut-makes count same asked_make (oid, more) =
      let (made, many, first) = more in
      let (others, put) = IsPut-next table key row array es fs (did_make oid) made only of none (many ∙ same) (IsPrefixOf-more (map did_make made) _ (fs ++ did_make oid ∷ []) first) in
      (oid, others, put)

  module _ (made : List ℕ) (ws : List (ℕ × List ℕ)) (many : length made ≡ objects_for here) (planned : ws ≡ new_rows made key row here) where
    begins_all : (ds : List Event) → IsPrefixOf (map did_make made ++ map (λ w. did_claim w.0) ws) ds → IsPrefixOf (makes_claims_writes made (new_rows made key row here)) ds
    begins_all ds is =
        let claims = map (λ (w : ℕ × List ℕ). did_claim w.0) ws in
        let writes = map (λ (w : ℕ × List ℕ). did_write w.0 w.1) ws in
        subst (λ (gs : List Event). IsPrefixOf gs ds) (append_assoc (map did_make made) claims writes ∙ ap (makes_claims_writes made) planned)
        (IsPrefixOf-more (map did_make made ++ claims) writes ds is)

    -- so are the claims
    pub IsPut-claims : AreMakesThenClaims made ws fs → (others : List Event) × IsPut array table key row ((es ++ fs) ++ others)
    IsPut-claims is = IsPut-new table key row array es fs made only of none many (begins_all fs is.begins)

    pub AsksPut-claims : (asked : Asked) → AsksNextClaim made ws fs array asked → AsksPut table key row (es ++ fs) array asked
    AsksPut-claims (asked_read oid) asks = absurd asks
    AsksPut-claims (asked_claim oid) asks = inr (IsPut-next table key row array es fs (did_claim oid) made only of none many (begins_all (fs ++ did_claim oid ∷ []) asks))
    AsksPut-claims asked_make asks = absurd asks

module _ {S : Type 0} (face : Face S) where
  -- after a change the transaction may be called on
  pub Ready-did : (kind : Rows → List Event → Type 0) (s t : S) (change : Rows → Rows → Type 0) → IsLawful face s → DidBy face kind s t change → IsReady face t
  Ready-did kind s t change lawful did = record {
    active = did.did.goes_on.active;
    possible = did.did.goes_on.possible;
    lawful = Did-lawful face s t change lawful did.did;
  }

  -- after a refusal that didn't end it, it may be called on
  pub Ready-stopped : (may : RowStop → Type 0) (kind : List Event → Type 0) (asks : List Event → Rows → Asked → Type 0) (s t : S) (stop : RowStop) → ((es : List Event) → kind es → WritesNothing es) → IsLawful face s → face.active t → IsStopped face may kind asks s stop t → IsReady face t
  Ready-stopped may kind asks s t stop quiet lawful active stopped =
      elim (ends stop) as (λ b. ends stop ≡ b → IsReady face t) [
        | true ↦ λ e. absurd (stopped.refused.ended e active)
        | false ↦ λ e.
            let on = stopped.refused.stays e in
            let before = Runs-lawful face stopped.events s stopped.at lawful stopped.goes_on.runs (quiet stopped.events stopped.of_kind) in
            record { active = on.active; possible = on.possible; lawful = SameView-lawful face stopped.at t before on.same }
      ] refl
