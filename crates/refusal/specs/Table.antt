-- "Each refusal comes exactly when its condition holds and none earlier in that document's order does", as a notion that does not
-- speak of how an answer is computed: a table of rows, and what it asks for.
use Rattle.std.specs.Prelude.{ℕ, ◌<◌, ◌≡◌, ◌⊎◌}
use Rattle.refusal.specs.declared.Refusal.{Refusal}
use Rattle.refusal.specs.Answer.{none}

-- A row, or a whole table: the refusals that it asks for.
abbrev pub Row : Type 1
Row = Refusal → Type 0

-- the row "number at place when the condition holds"
abbrev pub when : Type 0 → ℕ → ℕ → Row
when condition number place r = condition × (r ≡ record { number = number; place = place })

-- no refusal is asked for
abbrev pub Silent : Row → Type 0
Silent row = (r : Refusal) → row r → ⊥

-- the table that asks for none
abbrev pub no_rows : Row
no_rows r = ⊥

-- the first table, and where it is silent the second
infixr 10 ◌before◌
abbrev pub ◌before◌ : Row → Row → Row
(first before second) r = first r ⊎ (Silent first × second r)

-- the table of the lowest place below n whose own table asks for a refusal
pub record Lowest (n : ℕ) (at : ℕ → Row) (r : Refusal) : Type 0 where
  pub within : r.place < n
  pub asked : at r.place r
  pub lower : (j : ℕ) → j < r.place → Silent (at j)

-- A table decides: it asks for one refusal at the most.
abbrev pub Decides : Row → Type 0
Decides row = (r s : Refusal) → row r → row s → r ≡ s

-- An answer keeps to a table: it is a refusal that the table asks for, or the table is silent and the answer is that of acceptance.
abbrev pub Keeps : Row → Refusal → Type 0
Keeps table answer = (table answer × (answer.number ≡ 0 → ⊥)) ⊎ (Silent table × (answer ≡ none))
