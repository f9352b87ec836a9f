use Rattle.std.proofs.Common.{arith, ◌≡◌, ◌+◌, nat_eq, inr, sym, ap, ◌∙◌}
use Rattle.std.specs.List.{position}
use Rattle.std.specs.Cmp.Lexicographic.{pointwise}
use Rattle.erm_script.proofs.Seats.{seat_at, none_at, position-map}
use Rattle.erm_script.proofs.sessions.Sessions.seat.Goals as goal

pub returns-in-Some-clause-seat : goal.returns-in-Some-clause-seat
returns-in-Some-clause-seat c =
    let same = position-map (λ k. k.items) (λ known. pointwise nat_eq c.bytes_of.result.items known) c.self.inside.names.keys in
    let found : position (λ known. pointwise nat_eq c.args.name.now known) c.args.self.now ≡ c.get_index_of.result =
    rw (sym c.bytes_of.ensures) (ap (position (λ known. pointwise nat_eq c.bytes_of.result.items known)) (sym c.self.view_is) ∙ sym same ∙ sym c.get_index_of.ensures.index) in
    seat_at c.args.most c.args.self.now c.args.name.now c.in-Some.place (found ∙ c.in-Some.is)

pub returns-in-None-clause-seat : goal.returns-in-None-clause-seat
returns-in-None-clause-seat c =
    let same = position-map (λ k. k.items) (λ known. pointwise nat_eq c.bytes_of.result.items known) c.self.inside.names.keys in
    let found : position (λ known. pointwise nat_eq c.args.name.now known) c.args.self.now ≡ c.get_index_of.result =
    rw (sym c.bytes_of.ensures) (ap (position (λ known. pointwise nat_eq c.bytes_of.result.items known)) (sym c.self.view_is) ∙ sym same ∙ sym c.get_index_of.ensures.index) in
    let count = c.len-count.ensures in
    let few = c.if-count-from.true in
    let most = c.from.ensures in
    inr (ap (λ n. n + 1) count, omega (arith, few, most, count), none_at c.args.self.now c.args.name.now (found ∙ c.in-None.is))

pub returns-in-None-2-clause-full : goal.returns-in-None-2-clause-full
returns-in-None-2-clause-full c =
    let same = position-map (λ k. k.items) (λ known. pointwise nat_eq c.bytes_of.result.items known) c.self.inside.names.keys in
    let found : position (λ known. pointwise nat_eq c.args.name.now known) c.args.self.now ≡ c.get_index_of.result =
    rw (sym c.bytes_of.ensures) (ap (position (λ known. pointwise nat_eq c.bytes_of.result.items known)) (sym c.self.view_is) ∙ sym same ∙ sym c.get_index_of.ensures.index) in
    let count = c.len-count.ensures in
    let full = c.if-count-from.false in
    let most = c.from.ensures in
    (none_at c.args.self.now c.args.name.now (found ∙ c.in-None-2.is), omega (arith, full, most, count))
