-- The packets file beside a programme: entries one after another, each a line's ordinal from 0, a space, and the packet words of that space, low
-- byte first. An entry is a head of twelve bytes, ordinal (8), space (2), words (2), and behind it two bytes for each word.
use Rattle.std.specs.Prelude.{ℕ, ◌+◌, ◌*◌, ◌/◌, ◌%◌, ◌^◌, ◌<◌, ◌≤◌, List, Bool, cond, not, ◌||◌, ltb, leb, eqb, length, Result, Ok, Err}
use Rattle.refusal.specs.declared.Refusal.{Refusal}
use Rattle.refusal.specs.Numbers.{wrong_length, bad_entry}
use Rattle.refusal.specs.Answer.{refuse, written_by}
use Rattle.refusal.specs.declared.Refused.{Refused}
use Rattle.refusal.specs.Reasons.{number_of}
use Rattle.words.specs.Words.{tab}
use Rattle.words.specs.Bytes.{number_from}
use Rattle.captions.specs.declared.Entry.{Entry}
use Rattle.captions.specs.declared.Head as judged

abbrev pub head_length : ℕ
head_length = 12

-- "space": 0 is the one between EAV and SAV, 1 the active part
abbrev pub most_space : ℕ
most_space = 1

-- no space holds more words
abbrev pub most_words : ℕ
most_words = 1440

-- no ordinal is as large: the key behind the last entry is a number of 64 bits
abbrev pub ordinal_bound : ℕ
ordinal_bound = 2 ^ 62

-- the byte of a head at a place: ordinal, space and words, low byte first
abbrev pub head_byte : Entry → ℕ → ℕ
head_byte e i =
    cond (ltb i 8) (e.ordinal / 256 ^ i % 256)
    (cond (eqb i 8) (e.space % 256)
    (cond (eqb i 9) (e.space / 256 % 256)
    (cond (eqb i 10) (e.words % 256) (e.words / 256 % 256))))

-- the head of an entry
unfoldable pub head_of : Entry → List ℕ
head_of e = tab head_length (head_byte e)

-- the entry that a head tells
unfoldable pub entry_of : List ℕ → Entry
entry_of head = record { ordinal = number_from head 0 8; space = number_from head 8 2; words = number_from head 10 2 }

-- an entry that a line can have
pub record Within (e : Entry) : Type 0 where
  pub ordinal : e.ordinal < ordinal_bound
  pub space : e.space ≤ most_space
  pub some : 0 < e.words
  pub words : e.words ≤ most_words

-- a number for each line and space, in the order in which entries stand
abbrev pub key_of : Entry → ℕ
key_of e = 2 * e.ordinal + e.space

-- An entry that is none where this is the least key that may come: a line or a space that there is not, no words or more than a space holds,
-- and one that does not rise.
unfoldable pub is_bad : ℕ → Entry → Bool
is_bad least e =
    leb ordinal_bound e.ordinal
    || (ltb most_space e.space || (eqb e.words 0 || (ltb most_words e.words || ltb (key_of e) least)))

-- What refuses a head where this is the least key that may come: one that is no head, and one that tells no entry.
unfoldable pub head_refusal : ℕ → List ℕ → Refusal
head_refusal least head = refuse (not (eqb (length head) head_length) || is_bad least (entry_of head)) bad_entry 0

-- the answer to a head: its number, the entry, and the least key that may come next
pub record Head : Type 0 where
  pub number : ℕ
  pub entry : Entry
  pub least : ℕ

-- the answer that a result tells, where this was the least key that might come
abbrev pub judged_told : ℕ → Result judged.Head Refused → Head
judged_told least (Ok head) = record { number = 0; entry = head.entry; least = head.least }
judged_told least (Err refused) =
    record { number = number_of refused.reason; entry = record { ordinal = 0; space = 0; words = 0 }; least = least }

-- the answer to a head that tells an entry: with it the least key that may come next
abbrev pub told_head : Entry → Head
told_head e = record { number = 0; entry = e; least = key_of e + 1 }

-- the whole answer; a refusal tells an entry all zero, and the key as it was
unfoldable pub head_judged : ℕ → List ℕ → Head
head_judged least head =
    cond (eqb (head_refusal least head).number 0) (told_head (entry_of head))
    (record { number = (head_refusal least head).number; entry = record { ordinal = 0; space = 0; words = 0 }; least = least })

-- what refuses to put a head into so many bytes
abbrev pub put_refusal : ℕ → Refusal
put_refusal room = refuse (not (eqb room head_length)) wrong_length 0

-- the bytes afterwards
unfoldable pub head_after : Entry → List ℕ → List ℕ
head_after e before = written_by (put_refusal (length before)) (head_of e) before
