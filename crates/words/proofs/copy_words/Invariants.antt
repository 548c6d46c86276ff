-- `words::copy_words` meets its contract: each word passed is that of its bytes. Assumes nothing.
use Rattle.std.proofs.Common.{ℕ, ◌*◌, ◌<◌, ◌≡◌, get_or}
use Rattle.words.specs.Bytes.{word_of_bytes}
use Rattle.words.proofs.copy_words.Given as goal

abbrev pub invariant-loop-k : goal.invariant-loop-k
invariant-loop-k l = (j : ℕ) → j < l.k → get_or l.words j 0 ≡ word_of_bytes l.bytes (2 * j)
