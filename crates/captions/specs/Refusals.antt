-- When a head is refused: the table that the answer keeps to.
use Rattle.std.specs.Prelude.{ℕ, ◌<◌, ◌≤◌, ◌≡◌, List, ◌⊎◌, length}
use Rattle.refusal.specs.Numbers.{bad_entry}
use Rattle.refusal.specs.Table.{Row, when}
use Rattle.captions.specs.Entry.{head_length, ordinal_bound, most_space, most_words, entry_of, key_of}

abbrev pub head_refusals : ℕ → List ℕ → Row
head_refusals least head =
    when
    ((length head ≡ head_length → ⊥)
    ⊎ (ordinal_bound ≤ (entry_of head).ordinal)
    ⊎ (most_space < (entry_of head).space)
    ⊎ ((entry_of head).words ≡ 0)
    ⊎ (most_words < (entry_of head).words)
    ⊎ (key_of (entry_of head) < least))
    bad_entry 0
