-- `words::copy_words` meets its contract: each word passed is that of its bytes. Assumes nothing.
use Rattle.std.proofs.Common.{◌*◌}
use native.Mathlib.Omega.{arith}
use Rattle.words.specs.Bytes.{word_of_bytes}
use Rattle.words.proofs.Tabs.{is_tab}
use Rattle.words.proofs.Stores.{store_more}
use Rattle.words.proofs.copy_words.Goals as goal

pub loop-k-preserved : goal.loop-k-preserved
loop-k-preserved c =
    store_more (λ k. word_of_bytes c.args.bytes.now (2 * k)) c.loop-k.words c.loop-k.k _ (omega arith) c.loop-k.invariant c.word_at.ensures

pub returns : goal.returns
returns c = is_tab _ _ c.loop-k.words (omega arith) (λ j h. c.loop-k.invariant j (omega arith))
