-- What a stream's reader keeps.
use Rattle.std.specs.Prelude.{◌≡◌, ℕ, ◌+◌, ◌<◌, ◌≤◌, Option, Some, None}
use Rattle.erm_model.specs.declared.limits.TheConstants.{LOG_END, OID_LIMIT}
use Rattle.erm_replica.specs.declared.item.LogPlace.{LogPlace}
use Rattle.erm_replica.specs.declared.stream.TheConstants.{ITEM_WORDS}

-- the place of the log, and how many words of the stream there are at most before it
abbrev pub last_place : Option LogPlace → ℕ
last_place None = 0
last_place (Some log) = log.at

abbrev pub most_words : Option LogPlace → ℕ
most_words None = 0
most_words (Some log) = ITEM_WORDS + log.at

-- So many of so many bytes are read, and there is room for the words of an item and for rows, unless there are no bytes. The log is not behind its
-- end, and the stream's place is in front of that of the log but for the checkpoint's words.
pub record IsReady (read bytes words rows place : ℕ) (log : Option LogPlace) : Type 0 where
  pub within : read ≤ bytes
  pub empty : words ≡ 0 → bytes ≡ 0
  pub room : 0 < words → words ≡ ITEM_WORDS
  pub rows_are : 0 < words → rows ≡ OID_LIMIT
  pub end : last_place log ≤ LOG_END
  pub near : place ≤ most_words log
