use Rattle.erm_core_flush.proofs.Stays.{one_word, words_stay}
use Rattle.erm_core_flush.proofs.log_words_stay.Goals as goal

pub returns-clause-stay : goal.returns-clause-stay
returns-clause-stay c core d seat place word kind sound e w = words_stay core d seat place word kind sound e w

pub returns-clause-one : goal.returns-clause-one
returns-clause-one c core place v w sound a b = one_word core place v w sound a b
