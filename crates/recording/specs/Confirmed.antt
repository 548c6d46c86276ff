-- A recording as the confirming program is given it: bytes, the first four of them its header.
use Rattle.std.specs.Prelude.{ℕ, ◌*◌, ◌≡◌, length, drop}
use mathlib.Core.List.{List, ◌++◌, flatten, Memᴰ}
use Rattle.system.specs.Figures.{line_length, system_of}
use Rattle.confirmation.specs.Run.{header_length, header_system, header_start}

-- Bytes that hold a header with this system and start line, behind it these lines, two bytes for each word, and then the rest.
pub record Holds (bytes : List ℕ) (system start : ℕ) (lines : List (List ℕ)) (rest : List ℕ) : Type 0 where
  pub system_is : header_system bytes ≡ system
  pub start_is : header_start bytes ≡ start
  pub behind : drop header_length bytes ≡ flatten lines ++ rest
  pub whole : (line : List ℕ) → Memᴰ line lines → length line ≡ 2 * line_length (system_of system)
