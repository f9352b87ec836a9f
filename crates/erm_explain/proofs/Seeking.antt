-- Causes by what was found in the books.
use Rattle.std.proofs.Common.{◌≡◌, ◌≢◌, ℕ, ◌<◌, ◌≤◌, List, [], ◌∷◌, Option, Some, None, sym, ◌∙◌, subst}
use Rattle.std.specs.Prelude.{IfSome, IfNone}
use Rattle.erm_script.specs.declared.script.ScriptLine.{ScriptLine}
use Rattle.erm_explain.specs.declared.books.Books.{Books}
use Rattle.erm_explain.specs.declared.cause.Cause.{Cause}
use Rattle.erm_explain.specs.declared.links.Link.{Link}
use Rattle.erm_explain.specs.declared.links.Sought.TheVariants.{After, Before, Newer}
use Rattle.erm_explain.specs.declared.links.Touch.TheVariants.{Overwrites}
use Rattle.erm_explain.specs.declared.told.Told.{Told}
use Rattle.erm_explain.specs.Links.{Apart, IsFound, Links, NoneIsFound}
use Rattle.erm_explain.specs.ByBooks.{Closes, IsCurrent, IsExcluded, IsNewer, IsOwned, line_or_missing, places_with, window_of}

-- a session has one current transaction
same_current : (books : Books) (session : ℕ) (t u : Told) → IsCurrent books session t → IsCurrent books session u → t ≡ u
same_current books session t u a b = let both : Some t ≡ Some u = sym a ∙ b in cc

pub owner_is : (books : Books) (script : List ScriptLine) (place session seat number : ℕ) (told : Told) (others : List ℕ) (found : Option Link) (cause : Cause)
    → seat ≢ session → IsCurrent books seat told → told.number ≡ number → others ≡ told.lines.items
    → IfSome found (λ link. Links script Overwrites others (place ∷ []) link) → IfNone found (Apart script Overwrites others (place ∷ [])) → cause ≡ line_or_missing found
    → IsOwned books script place session seat number cause
owner_is books script place session seat number told others (Some link) cause another current numbered same links none is =
    subst (λ (x : Cause). IsOwned books script place session seat number x) (sym is) (record {
      another = another;
      told = told;
      current = current;
      number_is = numbered;
      links = subst (λ (xs : List ℕ). Links script Overwrites xs (place ∷ []) link) same links;
    })
owner_is books script place session seat number told others None cause another current numbered same links none is =
    subst (λ (x : Cause). IsOwned books script place session seat number x) (sym is) (λ differ other its number_is.
    subst (λ (t : Told). Apart script Overwrites t.lines.items (place ∷ [])) (same_current books seat told other current its)
    (subst (λ (xs : List ℕ). Apart script Overwrites xs (place ∷ [])) same none))

pub newer_is : (books : Books) (script : List ScriptLine) (place session stamp : ℕ) (own : Told) (over : List Told) (found : Option Link) (cause : Cause)
    → IsCurrent books session own → over ≡ books.over.items
    → IfSome found (λ link. IsFound script (Newer session own.begin stamp) over (place ∷ []) link) → IfNone found (NoneIsFound script (Newer session own.begin stamp) over (place ∷ []))
    → cause ≡ line_or_missing found → IsNewer books script place session stamp cause
newer_is books script place session stamp own over (Some link) cause current same found none is =
    subst (λ (x : Cause). IsNewer books script place session stamp x) (sym is)
    (own, current, subst (λ (ts : List Told). IsFound script (Newer session own.begin stamp) ts (place ∷ []) link) same found)
newer_is books script place session stamp own over None cause current same found none is =
    subst (λ (x : Cause). IsNewer books script place session stamp x) (sym is) (λ other its.
    subst (λ (t : Told). NoneIsFound script (Newer session t.begin stamp) books.over.items (place ∷ [])) (same_current books session own other current its)
    (subst (λ (ts : List Told). NoneIsFound script (Newer session own.begin stamp) ts (place ∷ [])) same none))

module _ (books : Books) (script : List ScriptLine) (place : ℕ) (line : ScriptLine) (bound : Option ℕ) (succ pred : ℕ) (own : Told) (current : IsCurrent books line.session own) where
  -- what was looked for at the two ends
  abbrev FoundAfter : Option Link → Type 0
  FoundAfter found = IfSome found (λ link. IsFound script (After own.begin bound succ) books.over.items (places_with own line place) link)
      × IfNone found (NoneIsFound script (After own.begin bound succ) books.over.items (places_with own line place))

  abbrev FoundBefore : Option Link → Type 0
  FoundBefore found = IfSome found (λ link. IsFound script (Before pred) books.over.items (places_with own line place) link)
      × IfNone found (NoneIsFound script (Before pred) books.over.items (places_with own line place))

  none_after : NoneIsFound script (After own.begin bound succ) books.over.items (places_with own line place) → (after before : Link) → Closes books script place line bound succ pred after before → ⊥
  none_after none after before closes =
      let same : closes.own ≡ own = same_current books line.session closes.own own closes.current current in
      let found = subst (λ (t : Told). IsFound script (After t.begin bound succ) books.over.items (places_with t line place) after) same closes.overwrites in
      none found.by found.of found.is after found.links

  none_before : NoneIsFound script (Before pred) books.over.items (places_with own line place) → (after before : Link) → Closes books script place line bound succ pred after before → ⊥
  none_before none after before closes =
      let same : closes.own ≡ own = same_current books line.session closes.own own closes.current current in
      let found = subst (λ (t : Told). IsFound script (Before pred) books.over.items (places_with t line place) before) same closes.touched in
      none found.by found.of found.is before found.links

  window_by : (after before : Option Link) → succ ≤ pred → IfSome bound (λ stamp. pred < stamp) → FoundAfter after → FoundBefore before
      → IsExcluded books script place line bound succ pred (window_of after before)
  window_by (Some a) (Some b) closed below first second =
      record { own = own; current = current; closed = closed; below = below; overwrites = first.0; touched = second.0 }
  window_by None before closed below first second = none_after first.1
  window_by (Some a) None closed below first second = none_before second.1

  pub window_is : (owns owns_too : List ℕ) (over over_too : List Told) (after before : Option Link) (cause : Cause) → succ ≤ pred → IfSome bound (λ stamp. pred < stamp)
      → owns ≡ places_with own line place → owns_too ≡ places_with own line place → over ≡ books.over.items → over_too ≡ books.over.items
      → IfSome after (λ link. IsFound script (After own.begin bound succ) over owns link) → IfNone after (NoneIsFound script (After own.begin bound succ) over owns)
      → IfSome before (λ link. IsFound script (Before pred) over_too owns_too link) → IfNone before (NoneIsFound script (Before pred) over_too owns_too)
      → cause ≡ window_of after before → IsExcluded books script place line bound succ pred cause
  window_is owns owns_too over over_too after before cause closed below owns_are owns_too_are over_is over_too_is found none found_before none_before is =
      subst (λ (x : Cause). IsExcluded books script place line bound succ pred x) (sym is)
      (window_by after before closed below (
        subst (λ (xs : List ℕ). IfSome after (λ link. IsFound script (After own.begin bound succ) books.over.items xs link)) owns_are
            (subst (λ (ts : List Told). IfSome after (λ link. IsFound script (After own.begin bound succ) ts owns link)) over_is found),
        subst (λ (xs : List ℕ). IfNone after (NoneIsFound script (After own.begin bound succ) books.over.items xs)) owns_are
            (subst (λ (ts : List Told). IfNone after (NoneIsFound script (After own.begin bound succ) ts owns)) over_is none),
      ) (
        subst (λ (xs : List ℕ). IfSome before (λ link. IsFound script (Before pred) books.over.items xs link)) owns_too_are
            (subst (λ (ts : List Told). IfSome before (λ link. IsFound script (Before pred) ts owns_too link)) over_too_is found_before),
        subst (λ (xs : List ℕ). IfNone before (NoneIsFound script (Before pred) books.over.items xs)) owns_too_are
            (subst (λ (ts : List Told). IfNone before (NoneIsFound script (Before pred) ts owns_too)) over_too_is none_before),
      ))
