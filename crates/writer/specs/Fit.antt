-- All that writing asks for: acceptance told without how an answer is computed.
use Rattle.std.specs.Prelude.{ℕ, ◌≡◌, true}
use Rattle.system.specs.Figures.{line_length, is_system, system_of, is_fall}
use Rattle.system.specs.Walk.{is_line}
use Rattle.system.specs.Due.{due_of}
use Rattle.line.specs.Samples.{Content}
use Rattle.line.specs.Fit.{Fit}

-- the line with this number can be written of this content into this many words, where V of the first field falls at this line
pub record Writable (system line fall : ℕ) (c : Content) (room : ℕ) : Type 0 where
  pub a_system : is_system system ≡ true
  pub a_line : is_line system line ≡ true
  pub a_fall : is_fall (system_of system) fall ≡ true
  pub words : room ≡ line_length (system_of system)
  pub fit : Fit (due_of (system_of system) line fall) c
