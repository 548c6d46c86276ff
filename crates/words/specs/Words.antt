-- Document 01: words of ten bits, lists that are told by their elements, and the search for a word over 1023.
use Rattle.std.specs.Prelude.{ℕ, zero, suc, ◌<◌, ◌%◌, cond, eqb, List, [], ◌∷◌, ltb, length, get_or}
use Rattle.refusal.specs.declared.Refusal.{Refusal}
use Rattle.words.specs.declared.FillWords.{FillWords}
use Rattle.refusal.specs.Numbers.{over_ten}
use Rattle.refusal.specs.Answer.{first_from}
use Rattle.refusal.specs.Table.{Row, when, Lowest}

-- f i, f (i + 1), .. : n of them
unfoldable pub tab_from : (ℕ → ℕ) → ℕ → ℕ → List ℕ
tab_from f i zero = []
tab_from f i (suc n) = f i ∷ tab_from f (suc i) n

abbrev pub tab : ℕ → (ℕ → ℕ) → List ℕ
tab n f = tab_from f 0 n

-- the highest word of ten bits
abbrev pub most_word : ℕ
most_word = 1023

-- "A sample is 4 to 1019; 0 to 3 and 1020 to 1023 are reserved."
abbrev pub least_sample : ℕ
least_sample = 4

abbrev pub most_sample : ℕ
most_sample = 1019

-- fill, by offset: one word at even and one at odd offsets
abbrev pub fill_at : FillWords → ℕ → ℕ
fill_at fill offset = cond (eqb (offset % 2) 0) fill.even fill.odd

-- a number over its most is 5
abbrev pub fault_over : ℕ → ℕ → ℕ
fault_over most n = cond (ltb most n) over_ten 0

-- "5 at the first word over 1023, place its index"
abbrev pub over_at : List ℕ → ℕ → ℕ
over_at words i = fault_over most_word (get_or words i 0)

abbrev pub over_refusal : List ℕ → Refusal
over_refusal words = first_from (over_at words) 0 (length words)

-- the table of numbers over their most, and that of words
abbrev pub most_refusals : ℕ → (ℕ → ℕ) → ℕ → Row
most_refusals most number n = Lowest n (λ i. when (most < number i) over_ten i)

abbrev pub over_refusals : List ℕ → Row
over_refusals words = most_refusals most_word (λ i. get_or words i 0) (length words)
