-- `programme::extractor::gives_row` meets its contract: the fourth word is that of the line's EAV. Assumes nothing.
use Prim.Native.Nat.{ℕ, ◌*◌, ◌/◌, ◌≤◌}
use mathlib.Core.Path.{◌≡◌, sym, ap, ◌∙◌}
use mathlib.Core.Bool.{not}
use mathlib.Core.List.{List}
use native.Mathlib.Omega.{arith}
use lib.ListN.{length, get_or}
use Rattle.words.specs.Bytes.{word_of_bytes, words_of}
use Rattle.words.proofs.Tabs.{get_d_tab}
use Rattle.system.specs.declared.due.Due.{Due}
use Rattle.system.specs.Walk.{due_by}
use Rattle.programme.specs.Extract.{gives_row}
use Rattle.programme.proofs.extractor.gives_row.Goals as goal

fourth_word : (bytes : List ℕ) → 8 ≤ length bytes → get_or (words_of bytes) 3 0 ≡ word_of_bytes bytes 6
unfolding words_of
fourth_word bytes l = get_d_tab (λ k. word_of_bytes bytes (2 * k)) (length bytes / 2) 3 (omega arith)

pub returns : goal.returns
unfolding gives_row
returns c =
    let a = c.args in
    ap (λ (d : Due). not d.v) c.due.ensures
    ∙ ap (λ (n : ℕ). not (due_by a.walk n).v) (c.word_of.ensures ∙ sym (fourth_word a.bytes.now c.requires))
