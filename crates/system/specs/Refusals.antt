-- When a fresh walk and a walk refuse, in the document's order: the tables that their answers keep to.
use Rattle.std.specs.Prelude.{◌≡◌, ℕ, ◌*◌, ◌<◌, ◌≤◌, ◌⊎◌, ◌≢◌, Result, MatchResult}
use Rattle.refusal.specs.declared.Refused.{Refused}
use Rattle.refusal.specs.Reasons.{numbered}
use Rattle.refusal.specs.Numbers.{no_system, no_line, wrong_length, bad_counts}
use Rattle.refusal.specs.Table.{Row, when, ◌before◌}
use Rattle.system.specs.declared.System.{System}
use Rattle.system.specs.declared.System.TheVariants.{Lines525, Lines625}
use Rattle.system.specs.declared.walk.Walk.{Walk}
use Rattle.system.specs.Figures.{system_number, line_count, system_of}
use Rattle.system.specs.Walk.{most_lines}

-- "system is neither 525 nor 625"
abbrev pub NoSystem : ℕ → Type 0
NoSystem number = (number ≢ system_number Lines525) × (number ≢ system_number Lines625)

-- the system with this number, or refusal 1 where none has it
abbrev pub Names : ℕ → Result System Refused → Type 0
Names number r = MatchResult r (λ s. system_number s ≡ number) (λ refused. NoSystem number × (numbered refused ≡ record { number = no_system; place = 0 }))

-- "line number outside 1 to 525, or 1 to 625"
abbrev pub NoLine : ℕ → ℕ → Type 0
NoLine number line = (line < 1) ⊎ (line_count (system_of number) < line)

-- "lines read is 10,000,000 or more, or repairs exceed twice lines read", or the tally exceeds the repairs
abbrev pub BadCounts : Walk → Type 0
BadCounts w = (most_lines ≤ w.lines) ⊎ ((2 * w.lines < w.repairs) ⊎ (w.repairs < w.tally))

-- "A fresh walk: 1, 2", and so every call that is given the numbers of a system and of a line
abbrev pub named_refusals : ℕ → ℕ → Row
named_refusals number line = when (NoSystem number) no_system 0 before when (NoLine number line) no_line 0

-- "outside 10 to 20 is refusal 2; 625 ignores it"
abbrev pub NoFall : ℕ → ℕ → Type 0
NoFall number fall = (number ≡ system_number Lines525) × ((fall < 10) ⊎ (20 < fall))

-- and where a line is to be written
abbrev pub written_refusals : ℕ → ℕ → ℕ → Row
written_refusals number line fall = named_refusals number line before when (NoFall number fall) no_line 0

-- what refuses every line at a walk: "1, 2, 4"
abbrev pub walk_refusals : Walk → Row
walk_refusals w =
    when (NoSystem w.system) no_system 0 before when (NoLine w.system w.line) no_line 0 before when (BadCounts w) bad_counts 0

-- before the words are looked at: "1, 2, 4, 3", where so many are given and so many due
abbrev pub standing_refusals : Walk → ℕ → ℕ → Row
standing_refusals w given due = walk_refusals w before when (given ≢ due) wrong_length 0
