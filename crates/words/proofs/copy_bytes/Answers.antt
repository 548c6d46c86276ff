-- `words::copy_bytes` meets its contract: each byte passed is that of its word. Assumes nothing.
use Rattle.std.proofs.Common.{ℕ, ◌+◌, ◌*◌, ◌∙◌, sym, ap, List, length, get_or, set}
use native.Mathlib.Omega.{arith}
use Rattle.std.proofs.lemmas.List.{length-set}
use Rattle.words.specs.Bytes.{byte_of_words, bytes_of}
use Rattle.words.proofs.Tabs.{is_tab}
use Rattle.words.proofs.Stores.{store_more}
use Rattle.words.proofs.Bytes.{low_of_words, high_of_words}
use Rattle.words.proofs.copy_bytes.Goals as goal

pub loop-k-preserved : goal.loop-k-preserved
loop-k-preserved c =
    let words = c.args.words.now in
    let bytes = c.loop-k.bytes in
    let k : ℕ = c.loop-k.k in
    let low = get_or c.to_le_bytes.result 0 0 in
    λ j l.
    store_more (byte_of_words words) (set bytes (2 * k) low) (2 * k + 1) _ (simp length-set (omega arith))
    (store_more (byte_of_words words) bytes (2 * k) low (omega arith) c.loop-k.invariant
    (ap (λ (two : List ℕ). get_or two 0 0) c.to_le_bytes.ensures ∙ sym (low_of_words words k)))
    (ap (λ (two : List ℕ). get_or two 1 0) c.to_le_bytes.ensures ∙ omega (arith, c.type_inv.words k) ∙ sym (high_of_words words k)) j (omega arith)

pub returns : goal.returns
unfolding bytes_of
returns c =
    is_tab (byte_of_words c.args.words.now) (2 * length c.args.words.now) c.loop-k.bytes (omega arith) (λ j l. c.loop-k.invariant j (omega arith))
