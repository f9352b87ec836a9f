-- Bytes that are fed.
use Rattle.std.proofs.Common.{◌≡◌, ℕ, ◌≤◌, List, ◌++◌, length, drop, sym, ap, ◌∙◌}
use Rattle.std.proofs.lemmas.List.{drop-append-le}
use Rattle.erm_replica.specs.Stream.{Streamed, fed}

-- behind bytes of which some in front were forgotten
rest_more : (items forgot piece now : List ℕ) (read left : ℕ) → drop left forgot ≡ drop read items → left ≤ length forgot → now ≡ forgot ++ piece
    → drop left now ≡ drop read items ++ piece
rest_more items forgot piece now read left rest le e = ap (drop left) e ∙ drop-append-le left forgot piece le ∙ ap (λ (front : List ℕ). front ++ piece) rest

pub fed_more : (s : Streamed) (items forgot piece now : List ℕ) (read left : ℕ) → s.rest ≡ drop read items → drop left forgot ≡ drop read items → left ≤ length forgot → now ≡ forgot ++ piece
    → ◌≡◌ {A = Streamed} (record { place = s.place; log = s.log; rest = drop left now }) (fed s piece)
fed_more s items forgot piece now read left is rest le e =
    ap (λ (bytes : List ℕ). let t : Streamed = record { place = s.place; log = s.log; rest = bytes } in t)
    (rest_more items forgot piece now read left rest le e ∙ ap (λ (front : List ℕ). front ++ piece) (sym is))
