-- `programme::extractor::pack_active` meets its contract: bytes of ten-bit words are taken, and their words packed. Assumes nothing.
use Prim.Native.Nat.{ℕ, ◌*◌, ◌<◌, ◌≤◌}
use mathlib.Core.Path.{◌≡◌, ap, ap₂, ◌∙◌}
use mathlib.Core.List.{List}
use lib.ListN.{length, get_or}
use Rattle.refusal.specs.declared.Refusal.{Refusal}
use Rattle.refusal.specs.Answer.{none, written_by}
use Rattle.refusal.proofs.Firsts.{same_number, written_accepted}
use Rattle.words.specs.Words.{most_word}
use Rattle.words.specs.Bytes.{words_of, pairs_refusal}
use Rattle.words.proofs.Bytes.{words_length, pairs_accepted}
use Rattle.line.specs.Samples.{active_length}
use Rattle.v210.specs.Row.{row_length, packed_of, pack_refusal}
use Rattle.v210.proofs.Theorems.{packed_accepted, pack_accepted_fills}
use Rattle.programme.proofs.Records.{told_ok}
use Rattle.programme.proofs.extractor.pack_active.Goals as goal

module _ (bytes words before : List ℕ) (room : ℕ) (size : length bytes ≡ 2 * active_length) (fits : room ≡ row_length)
    (small : (i : ℕ) → i < active_length → get_or (words_of bytes) i 0 ≤ most_word)
    (r : Refusal) (told : r ≡ pairs_refusal (length bytes) active_length) (left : words ≡ written_by r (words_of bytes) before)
  where
    taken : words ≡ words_of bytes
    taken = left ∙ written_accepted r _ before (same_number (told ∙ pairs_accepted (length bytes) active_length size))

    packs : pack_refusal words room ≡ none
    packs = ap₂ pack_refusal taken fits ∙ (packed_accepted (words_of bytes) (words_length bytes active_length size) small).0

pub unwrap-requires : goal.unwrap-requires
unwrap-requires c =
    told_ok c.to_words.result (c.to_words.ensures.answer ∙ pairs_accepted (length c.args.active.now) active_length c.requires.active_len.0)

pub unwrap-requires-2 : goal.unwrap-requires-2
unwrap-requires-2 c =
    let given = c.requires in
    let taken = c.to_words.ensures in
    told_ok c.pack.result
    (c.pack.ensures.answer ∙ packs c.args.active.now _ _ _ given.active_len.0 given.active_len.1 given.by_index _ taken.answer taken.words)

pub returns : goal.returns
returns c =
    let given = c.requires in
    let told = c.to_words.ensures in
    c.pack.ensures.row
    ∙ pack_accepted_fills _ _ (same_number (packs c.args.active.now _ _ _ given.active_len.0 given.active_len.1 given.by_index _ told.answer told.words))
    ∙ ap packed_of (taken c.args.active.now _ _ (length c.args.row.now) given.active_len.0 given.active_len.1 given.by_index _ told.answer told.words)
