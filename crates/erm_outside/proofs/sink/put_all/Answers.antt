use Rattle.std.proofs.Common.{◌≡◌, ◌++◌, ◌-◌, take, drop, length, ap, ◌∙◌, arith, length-drop}
use Rattle.std.proofs.lemmas.List.{take_all}
use Rattle.std.specs.Option.{option_map}
use Rattle.erm_outside.proofs.Puts.{puts_more}
use Rattle.erm_outside.proofs.sink.put_all.Goals as goal

pub loop-at-preserved : goal.loop-at-preserved
loop-at-preserved g c =
    let bytes = c.args.bytes.now in
    let written = g.K.Sink.written in
    let more : written c.put.new.self ≡ option_map (λ b. b ++ take c.in_ok-at.field-0 (drop c.loop-at.at bytes)) (written c.loop-at.sink) =
    (c.in_ok-at.ensures.written ∙ ap (λ piece. option_map (λ b. b ++ take c.in_ok-at.field-0 piece) (written c.loop-at.sink)) (take_all (length bytes - c.loop-at.at) (drop c.loop-at.at bytes) (omega (arith, length-drop c.loop-at.at bytes)))) in
    record {
      within = omega (arith, c.in_ok-at.ensures.within, length-drop c.loop-at.at bytes);
      put = puts_more bytes c.loop-at.at c.in_ok-at.field-0 (written c.args.sink.now) (written c.loop-at.sink) (written c.put.new.self) c.loop-at.invariant.put more;
      sound = c.in_ok-at.ensures.sound ∙ c.loop-at.invariant.sound;
    }
