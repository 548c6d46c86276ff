-- Document 01, "Refusal numbers": "a slice has the wrong length: 0 words, 1 Y, 2 CB, 3 CR"; document 02, L6: 4 and 5 for ready packet words.
use Rattle.std.specs.Prelude.{ℕ, ◌+◌, ◌<◌, ◌≡◌, cond, not, [], ◌∷◌, ltb, eqb}
use Rattle.refusal.specs.declared.Refusal.{Refusal}
use Rattle.refusal.specs.Numbers.{wrong_length}
use Rattle.refusal.specs.Answer.{refuse, first_of}
use Rattle.refusal.specs.Table.{Row, when, ◌before◌}
use Rattle.system.specs.declared.System.{System}
use Rattle.system.specs.declared.due.Due.{Due}
use Rattle.system.specs.Figures.{line_length, sav_offset}
use Rattle.line.specs.Fault.{between_offset}
use Rattle.line.specs.Samples.{active_length, y_length, c_length}

-- "Words slices have exactly the line's length"
abbrev pub length_refusal : System → ℕ → Refusal
length_refusal s words = refuse (not (eqb words (line_length s))) wrong_length 0

abbrev pub length_refusals : System → ℕ → Row
length_refusals s words = when (words ≡ line_length s → ⊥) wrong_length 0

-- "Y, CB and CR exactly 720, 360, 360. Within 3 the lowest place is answered."
unfoldable pub buffer_refusal : ℕ → ℕ → ℕ → Refusal
buffer_refusal y cb cr =
    first_of
    (refuse (not (eqb y y_length)) wrong_length 1 ∷ refuse (not (eqb cb c_length)) wrong_length 2 ∷ refuse (not (eqb cr c_length)) wrong_length 3 ∷ [])

abbrev pub buffer_refusals : ℕ → ℕ → ℕ → Row
buffer_refusals y cb cr =
    when (y ≡ y_length → ⊥) wrong_length 1 before when (cb ≡ c_length → ⊥) wrong_length 2 before when (cr ≡ c_length → ⊥) wrong_length 3

-- how many ready words the active part holds: "any for the active part with V = 0" is too many
abbrev pub active_room : Due → ℕ
active_room d = cond d.v active_length 0

-- "More words than the space holds, or any for the active part with V = 0, is 3, place 4 or 5"
unfoldable pub room_refusal : Due → ℕ → ℕ → Refusal
room_refusal d between active =
    first_of
    (refuse (ltb (sav_offset d.system) (between_offset + between)) wrong_length 4 ∷ refuse (ltb (active_room d) active) wrong_length 5 ∷ [])

abbrev pub room_refusals : Due → ℕ → ℕ → Row
room_refusals d between active =
    when (sav_offset d.system < between_offset + between) wrong_length 4 before when (active_room d < active) wrong_length 5
