use Rattle.erm_log_words.proofs.Slots.{nothing_shows, whole_shows}
use Rattle.erm_log_words.proofs.files_show_their_slots.Goals as goal

pub returns : goal.returns
returns g c = record { whole = whole_shows g.S.SlotRule.is_slot; nothing = nothing_shows g.S.SlotRule.is_slot }
