-- Document 01, "The confirming program and the capture process": judging a line lent as bytes, "two per word, low byte first".
use Rattle.std.specs.Prelude.{ℕ, List, length}
use Rattle.refusal.specs.declared.Refusal.{Refusal}
use Rattle.words.specs.Bytes.{words_of}
use Rattle.system.specs.declared.walk.Walk.{Walk}
use Rattle.system.specs.declared.walk.Judgement.{Judgement}
use Rattle.system.specs.Walk.{line_bytes}
use Rattle.reader.specs.Judge.{line_refusal, line_judged}

-- "a byte count that is not twice the line's words is 3, place 0, in 3's turn"
abbrev pub bytes_refusal : Walk → List ℕ → Refusal
bytes_refusal w bytes = line_refusal (length bytes) (line_bytes w) w (words_of bytes)

-- the whole judgement; its offsets count words
abbrev pub judged_bytes : Walk → List ℕ → Judgement
judged_bytes w bytes = line_judged (length bytes) (line_bytes w) w (words_of bytes)
