-- The same run in steps, as bytes arrive: what one call takes of the bytes that lie ready, and what the end of the input adds.
use Rattle.std.specs.Prelude.{ℕ, zero, suc, ◌+◌, Bool, cond, not, ◌||◌, List, length, take, drop, ◌==◌, nat_lt}
use Rattle.intake.specs.Arrival.{Taking, fed_by}
use Rattle.system.specs.Walk.{walk_refusal, line_bytes}
use Rattle.confirmation.specs.declared.Run.{Run}
use Rattle.confirmation.specs.declared.Followed.{Followed}
use Rattle.confirmation.specs.Run.{judged_next}

-- nothing can be judged: the run has ended, or no byte is there
abbrev pub waits : Run → List ℕ → Bool
waits r bytes = not (r.number == 0) || length bytes == 0

-- At most k lines of the bytes that lie ready, from an offset on, up to the first refusal. A whole line is judged at once, and "any byte
-- after 10,000,000 lines" without waiting for its line. Told is the run and the offset of the first byte that is not taken.
unfoldable pub follow_from : ℕ → Run → List ℕ → ℕ → Followed
follow_from zero r bytes taken = record { run = r; taken = taken }
follow_from (suc k) r bytes taken =
    cond (waits r bytes) (record { run = r; taken = taken })
    (cond (not ((walk_refusal r.walk).number == 0)) (record { run = judged_next r bytes; taken = taken })
    (cond (nat_lt (length bytes) (line_bytes r.walk)) (record { run = r; taken = taken })
    (follow_from k (judged_next r (take (line_bytes r.walk) bytes)) (drop (line_bytes r.walk) bytes) (taken + line_bytes r.walk))))

unfoldable pub followed_of : Run → List ℕ → Followed
followed_of r bytes = follow_from (length bytes) r bytes 0

-- "Trailing bytes short of a line, or of a word, are refusal 3, place 0"
unfoldable pub closed_of : Run → List ℕ → Run
closed_of r bytes = cond (waits r bytes) r (judged_next r bytes)

-- Input that arrives in pieces: the bytes that were not taken stay and stand before the next piece, and the end closes the run.
abbrev pub following : Taking Run ℕ
following = record { after = λ r bytes. (followed_of r bytes).run; taken = λ r bytes. (followed_of r bytes).taken; closed = closed_of }

abbrev pub fed : Run → List ℕ → List (List ℕ) → Run
fed r held ps = fed_by following r held ps
