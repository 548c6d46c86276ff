-- Which numbers the fault of a word of a space can have, and so the answer to a space: 17 at the most, and never 3, which is for lengths.
-- Assumes nothing.
use Prim.Native.Nat.{ℕ, ◌-◌, ◌%◌, ◌≤◌}
use mathlib.Core.Path.{◌≡◌}
use mathlib.Core.Bool.{cond, ◌||◌}
use native.Mathlib.Omega.{arith}
use lib.Dec.{ltb, eqb}
use Rattle.refusal.specs.Numbers.{wrong_length, over_ten, no_fill, reserved, bad_parity, bad_checksum, packet_past}
use Rattle.refusal.proofs.Cases.{by_cond}
use Rattle.words.specs.Words.{most_word, least_sample, most_sample}
use Rattle.packets.specs.declared.due.What.{What}
use Rattle.packets.specs.declared.due.What.TheVariants.{Exactly, Header, Count, User, Checksum}
use Rattle.packets.specs.Packet.{header_of}
use Rattle.packets.specs.Due.{due_at}
use Rattle.packets.specs.Fault.{wrong_where, fault_where, fault_at, space_to}
use Rattle.packets.proofs.Froms.{from_number}

-- ---- what holds of 0 and of each number that a word of a space can have holds of the number that it has
module _ (P : ℕ → Type 0) (well : P 0) (over : P over_ten) (fill : P no_fill) (user : P reserved) (parity : P bad_parity) (sum : P bad_checksum)
    (past : P packet_past) where
  by_wrong : (due : What) (w : ℕ) → P (wrong_where due w)
  by_wrong (Exactly word) w = by_cond P (eqb w word) 0 no_fill (λ t. well) (λ t. fill)
  by_wrong Header w = by_cond P (eqb w (header_of (w % 256))) 0 bad_parity (λ t. well) (λ t. parity)
  by_wrong (Count room) w =
      by_cond P (eqb w (header_of (w % 256))) (cond (ltb room (w % 256)) packet_past 0) bad_parity
      (λ t. by_cond P (ltb room (w % 256)) packet_past 0 (λ u. past) (λ u. well)) (λ t. parity)
  by_wrong User w = by_cond P (ltb w least_sample || ltb most_sample w) reserved 0 (λ t. user) (λ t. well)
  by_wrong (Checksum word) w = by_cond P (eqb w word) 0 bad_checksum (λ t. well) (λ t. sum)

  pub by_number : (due : What) (w : ℕ) → P (fault_where due w)
  unfolding fault_where
  by_number due w = by_cond P (ltb most_word w) over_ten (wrong_where due w) (λ t. over) (λ t. by_wrong due w)

  pub by_space_number : (word : ℕ → ℕ) (start stop even odd : ℕ) → P (space_to word start stop even odd).number
  unfolding space_to fault_at
  by_space_number word start stop even odd =
      from_number (fault_at word start stop even odd) P well (λ i. by_number (due_at word start stop even odd i) (word i)) (stop - start) start

-- ---- the bounds
pub fault_low : (due : What) (w : ℕ) → fault_where due w ≤ packet_past
fault_low =
    by_number (λ n. n ≤ packet_past) (omega arith) (omega arith) (omega arith) (omega arith) (omega arith) (omega arith) (omega arith)

pub fault_not_3 : (due : What) (w : ℕ) → fault_where due w ≡ wrong_length → ⊥
fault_not_3 =
    by_number (λ n. n ≡ wrong_length → ⊥) (λ e. omega arith) (λ e. omega arith) (λ e. omega arith) (λ e. omega arith) (λ e. omega arith)
    (λ e. omega arith) (λ e. omega arith)

pub space_low : (word : ℕ → ℕ) (start stop even odd : ℕ) → (space_to word start stop even odd).number ≤ packet_past
space_low =
    by_space_number (λ n. n ≤ packet_past) (omega arith) (omega arith) (omega arith) (omega arith) (omega arith) (omega arith) (omega arith)

pub space_not_3 : (word : ℕ → ℕ) (start stop even odd : ℕ) → (space_to word start stop even odd).number ≡ wrong_length → ⊥
space_not_3 =
    by_space_number (λ n. n ≡ wrong_length → ⊥) (λ e. omega arith) (λ e. omega arith) (λ e. omega arith) (λ e. omega arith) (λ e. omega arith)
    (λ e. omega arith) (λ e. omega arith)
