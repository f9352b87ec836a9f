use Rattle.erm_sound.proofs.events_keep_law.Goals as goal

pub returns : goal.returns
returns g c core d seat kind under keeps e = record {
  sound = c.events_keep_sound.ensures core d seat kind under.sound e;
  lawful = c.law_is_kept.ensures core d seat kind under.sound under.lawful keeps.draws e;
  spelled = c.blocks_stay_spelled.ensures core d seat kind under.sound under.spelled keeps.decides e;
  begins = c.begins_stay_at_ends.ensures core d seat kind under.sound under.begins e;
}
