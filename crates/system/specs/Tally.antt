-- Document 02, L9: the tally by its sentence, over the whole history of a walk: "the number of repaired codes on accepted lines since the
-- latest accepted line whose F differs from the accepted line before it, that line included, or since the start".
use Rattle.std.specs.Prelude.{◌≡◌, ℕ, zero, suc, ◌+◌, ◌*◌, ◌<◌, ◌≤◌, Bool, false, cond, List, [], ◌∷◌, ◌++◌, map, length, drop, slice_index}
use Rattle.std.specs.Bool.{xor}
use Rattle.refusal.specs.Answer.{none}
use Rattle.timing.specs.declared.Report.{Report}
use Rattle.timing.specs.Report.{repairs_of}
use Rattle.system.specs.declared.System.{System}
use Rattle.system.specs.declared.System.TheVariants.{Lines525, Lines625}
use Rattle.system.specs.declared.walk.Walk.{Walk}
use Rattle.system.specs.Figures.{system_of, f_of, next_line}
use Rattle.system.specs.Due.{due_with}
use Rattle.system.specs.Walk.{most_lines, walk_refusal, fresh_of, advanced_of}

-- an accepted line: its number, and how many of its codes were repaired
pub record Passed : Type 0 where
  pub line : ℕ
  pub repairs : ℕ

-- a sum over a list
unfoldable pub sum : List ℕ → ℕ
sum [] = 0
sum (n ∷ ns) = n + sum ns

-- "repaired codes on accepted lines"
abbrev pub repairs_on : List Passed → ℕ
repairs_on h = sum (map (λ (p : Passed). p.repairs) h)

-- F of the accepted line at a place of the history, the first at 0
abbrev pub f_at : System → List Passed → ℕ → Bool
f_at s h place = f_of s (slice_index (map (λ (p : Passed). p.line) h) place)

-- "whose F differs from the accepted line before it": the first has none before it
unfoldable pub differs_at : System → List Passed → ℕ → Bool
differs_at s h zero = false
differs_at s h (suc place) = xor (f_at s h (suc place)) (f_at s h place)

-- "the latest" of so many places at which something holds, or the first: "or since the start"
unfoldable pub latest : (ℕ → Bool) → ℕ → ℕ
latest holds zero = zero
latest holds (suc place) = cond (holds place) place (latest holds place)

-- the sentence
unfoldable pub field_repairs : System → List Passed → ℕ
field_repairs s h = repairs_on (drop (latest (differs_at s h) (length h)) h)

-- the history of lines in turn from a line number on, of which so many codes each were repaired
unfoldable pub passed_from : System → ℕ → List ℕ → List Passed
passed_from s line [] = []
passed_from s line (repairs ∷ rest) = record { line = line; repairs = repairs } ∷ passed_from s (next_line s line) rest

-- Samples (`sentence-samples`): of lines 2 to 5 of 525 line 4 is the latest, lines 4 and 5 count from the start, and of lines 624, 625, 1 and 2
-- of 625 line 1 is the latest.
abbrev pub SentenceSamples : Type 0
SentenceSamples =
    (field_repairs Lines525 (passed_from Lines525 2 (2 ∷ 1 ∷ 2 ∷ 0 ∷ [])) ≡ 2)
    × (field_repairs Lines525 (passed_from Lines525 4 (2 ∷ 1 ∷ [])) ≡ 3)
    × (field_repairs Lines625 (passed_from Lines625 624 (2 ∷ 2 ∷ 0 ∷ 1 ∷ [])) ≡ 1)

-- Walks that are reached from a fresh one, with their history: each line was accepted at a walk that refuses none, whatever V was due in it and
-- whatever its report.
pub data Reached (system start : ℕ) : List Passed → Walk → Type 0 where
  begun : Reached system start [] (fresh_of system start).walk
  then : {h : List Passed} {w : Walk} (v : Bool) (report : Report) → Reached system start h w → (walk_refusal w).number ≡ 0
      → Reached system start (h ++ (record { line = w.line; repairs = repairs_of report } ∷ []))
      (advanced_of w (due_with (system_of w.system) w.line v) report)

-- what is to hold at a walk with this history: the tally is what the sentence says, and exceeds no repairs, nor do those exceed twice the lines
pub record Tallied (system : ℕ) (h : List Passed) (w : Walk) : Type 0 where
  pub told : w.tally ≡ field_repairs (system_of system) h
  pub tally : w.tally ≤ w.repairs
  pub repairs : w.repairs ≤ 2 * w.lines

-- It does at every walk that is reached from a fresh one (`reached-tallied`).
abbrev pub ReachedTallied : Type 0
ReachedTallied =
    (system start : ℕ) (h : List Passed) (w : Walk) → (fresh_of system start).number ≡ 0 → Reached system start h w → Tallied system h w

-- So none of them refuses a line as long as there is room for one more (`reached-stands`).
abbrev pub ReachedStands : Type 0
ReachedStands =
    (system start : ℕ) (h : List Passed) (w : Walk) → (fresh_of system start).number ≡ 0 → Reached system start h w → w.lines < most_lines
    → walk_refusal w ≡ none
