-- Document 02, L6: what is wrong with the words of a space of a line, and the whole answer of judging it.
use Rattle.std.specs.Prelude.{ℕ, ◌+◌, ◌-◌, ◌%◌, List, cond, ◌||◌, ltb, leb, eqb, length, get_or, Result, Ok, Err}
use Rattle.refusal.specs.declared.Refusal.{Refusal}
use Rattle.refusal.specs.declared.Refused.{Refused}
use Rattle.refusal.specs.Numbers.{over_ten, no_fill, reserved, bad_parity, bad_checksum, packet_past}
use Rattle.refusal.specs.Answer.{first_from}
use Rattle.refusal.specs.Reasons.{number_of}
use Rattle.words.specs.Words.{most_word, least_sample, most_sample}
use Rattle.packets.specs.declared.due.What.{What}
use Rattle.packets.specs.declared.due.What.TheVariants.{Exactly, Header, Count, User, Checksum}
use Rattle.packets.specs.Packet.{header_of}
use Rattle.packets.specs.Due.{holder_at, due_at}

-- "15 bad header parity": the word is not the header word of its low eight bits
abbrev pub parity_wrong : ℕ → ℕ → ℕ
parity_wrong w otherwise = cond (eqb w (header_of (w % 256))) otherwise bad_parity

-- the number of what is wrong with a word of ten bits, by what is due, or 0
abbrev pub wrong_where : What → ℕ → ℕ
wrong_where (Exactly word) w = cond (eqb w word) 0 no_fill
wrong_where Header w = parity_wrong w 0
wrong_where (Count room) w = parity_wrong w (cond (ltb room (w % 256)) packet_past 0)
wrong_where User w = cond (ltb w least_sample || ltb most_sample w) reserved 0
wrong_where (Checksum word) w = cond (eqb w word) 0 bad_checksum

-- "At one offset 5 comes first, 15 before 17."
unfoldable pub fault_where : What → ℕ → ℕ
fault_where due w = cond (ltb most_word w) over_ten (wrong_where due w)

-- the fault at an offset of a space
unfoldable pub fault_at : (ℕ → ℕ) → ℕ → ℕ → ℕ → ℕ → ℕ → ℕ
unfolding due_at fault_where
fault_at word start stop even odd i = fault_where (due_at word start stop even odd i) (word i)

-- the word of a line at an offset
abbrev pub word_at : List ℕ → ℕ → ℕ
word_at words i = get_or words i 0

-- a space ends where the line does at the latest
abbrev pub stop_of : List ℕ → ℕ → ℕ
stop_of words end = cond (leb end (length words)) end (length words)

-- the answer to a space: its first fault, or number 0 and how many of its words are packets
pub record Space : Type 0 where
  pub number : ℕ
  pub place : ℕ
  pub packets : ℕ

-- such an answer of a result
abbrev pub space_told : Result ℕ Refused → Space
space_told (Ok packets) = record { number = 0; place = 0; packets = packets }
space_told (Err refused) = record { number = number_of refused.reason; place = refused.place; packets = 0 }

-- the lowest offset with any fault, or "how many words of each space are packets, 0 if it refuses"
unfoldable pub space_to : (ℕ → ℕ) → ℕ → ℕ → ℕ → ℕ → Space
unfolding fault_at holder_at
space_to word start stop even odd =
    let first = first_from (fault_at word start stop even odd) start (stop - start) in
    record {
      number = first.number;
      place = first.place;
      packets = cond (eqb first.number 0) (holder_at word start stop (stop - start) - start) 0;
    }

abbrev pub space_of : List ℕ → ℕ → ℕ → ℕ → ℕ → Space
space_of words start end even odd = space_to (word_at words) start (stop_of words end) even odd

-- "More words .., then they are judged as a space of just their length, by line offsets, with 10 wherever no packet starts": ready words for the
-- space that starts at an offset. No word is the fill that is due behind packets.
abbrev pub no_word : ℕ
no_word = most_word + 1

abbrev pub ready_fault : List ℕ → ℕ → ℕ → ℕ
ready_fault ready start i = fault_at (word_at ready) 0 (length ready) no_word no_word (i - start)

unfoldable pub ready_refusal : ℕ → List ℕ → Refusal
ready_refusal start ready = first_from (ready_fault ready start) start (length ready)
