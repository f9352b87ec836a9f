use Rattle.std.proofs.Common.{rules}
use Rattle.erm_model.proofs.Ranges.{ahead_of, IsNextAt-none, IsNextAt-first}
use Rattle.erm_model.proofs.map.Map.next.Goals as goal

pub returns-in_err-key : goal.returns-in_err-key
returns-in_err-key c =
    let entries = c.self.inside.entries in
    let ahead = ahead_of entries c.args.table c.args.from _ _ _ _ c.new.ensures.start c.new.ensures.end c.in_err-key.ensures.steps.0 (c.range.ensures.in_range (search rules)) in
    rw (c.from_residual.ensures, ← c.self.view_is) (IsNextAt-none entries c.args.table c.args.from ahead)

pub returns : goal.returns
returns c =
    let entries = c.self.inside.entries in
    let ahead = ahead_of entries c.args.table c.args.from _ _ _ _ c.new.ensures.start c.new.ensures.end c.in_ok-key.ensures.steps (c.range.ensures.in_range (search rules)) in
    rw (c.copied.ensures, ← c.self.view_is) (IsNextAt-first entries c.args.table c.args.from _ _ ahead)
