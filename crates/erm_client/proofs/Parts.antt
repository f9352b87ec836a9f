-- What a client did, as its session's part of an execution.
use Rattle.std.proofs.Common.{◌≡◌, ◌+◌, length, subst, arith}
use Rattle.erm_client.proofs.Grown.{open_each}
use Rattle.erm_client.specs.Clients.{RanUpTo}
use Rattle.erm_client.specs.declared.transcript.Standing.{Standing}
use Rattle.erm_client.specs.Laws.{ClosedClientIsAPart, OpenClientIsAPart, StoppedClientIsACutPart}
use Rattle.erm_client.specs.Transcripts.{HasAnswers}
use Rattle.erm_worker.proofs.Parts.{closed, left, whole}

pub opened_part : OpenClientIsAPart
opened_part f v u t c moves ok opened ran passes end own =
    whole f c.seat c.lines.items c.answers.items v u t moves (subst (λ (s : Standing). RanUpTo s f c.seat c.lines.items c.answers.items v u) opened ran) (open_each c ok opened) passes end own

pub closed_part : ClosedClientIsAPart
closed_part f v u t c a moves ok opened ran did end own =
    closed f c.seat c.lines.items c.answers.items a v u t moves (subst (λ (s : Standing). RanUpTo s f c.seat c.lines.items c.answers.items v u) opened ran) (open_each c ok opened) did end own

pub stopped_part : StoppedClientIsACutPart
stopped_part f v t c moves ok stopped ran end own =
    let one : length c.answers.items + 1 ≡ length c.lines.items = subst (λ (s : Standing). HasAnswers s (length c.lines.items) (length c.answers.items)) stopped ok.each in
    left f c.seat c.lines.items c.answers.items v t moves (subst (λ (s : Standing). RanUpTo s f c.seat c.lines.items c.answers.items v t) stopped ran) (omega (arith, one)) end own
