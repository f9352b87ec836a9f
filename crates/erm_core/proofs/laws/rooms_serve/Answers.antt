use Rattle.erm_core.proofs.Lasting.{pin_serves, second_load, small_draw, swap_serves}
use Rattle.erm_core.proofs.Rooms.{call_serves, none_needed}
use Rattle.erm_core.proofs.laws.rooms_serve.Goals as goal

pub returns : goal.returns
returns c = record {
  call = λ s seat n k room is. call_serves s seat n room k is;
  none = none_needed;
  second = second_load;
  pin = pin_serves;
  draw = small_draw;
  swap = swap_serves;
}
