-- When a line lent as bytes is refused, in the document's order: the table that the answer keeps to.
use Rattle.std.specs.Prelude.{ℕ, List, length}
use Rattle.refusal.specs.Table.{Row}
use Rattle.words.specs.Bytes.{words_of}
use Rattle.system.specs.declared.walk.Walk.{Walk}
use Rattle.system.specs.Walk.{line_bytes}
use Rattle.reader.specs.Refusals.{line_refusals}

abbrev pub bytes_refusals : Walk → List ℕ → Row
bytes_refusals w bytes = line_refusals (length bytes) (line_bytes w) w (words_of bytes)
