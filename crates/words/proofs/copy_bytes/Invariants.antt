-- `words::copy_bytes` meets its contract: each byte passed is that of its word. Assumes nothing.
use Rattle.std.proofs.Common.{ℕ, ◌*◌, ◌<◌, ◌≡◌, get_or}
use Rattle.words.specs.Bytes.{byte_of_words}
use Rattle.words.proofs.copy_bytes.Given as goal

abbrev pub invariant-loop-k : goal.invariant-loop-k
invariant-loop-k l = (j : ℕ) → j < 2 * l.k → get_or l.bytes j 0 ≡ byte_of_words l.words j
