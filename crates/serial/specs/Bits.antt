-- Bits of a number, lowest first, as a list of Bool, and the number of a list of bits.
use Rattle.std.specs.Prelude.{Bool, true, false, List, [], ◌∷◌, ℕ, zero, suc, ◌+◌, ◌*◌, ◌/◌, ◌%◌}

-- exclusive or
infixr 35 ◌⊕◌
abbrev pub ◌⊕◌ : Bool → Bool → Bool
false ⊕ b = b
true ⊕ false = true
true ⊕ true = false

abbrev pub one? : ℕ → Bool
one? zero = false
one? (suc n) = true

abbrev pub digit : Bool → ℕ
digit false = 0
digit true = 1

-- the n low bits of w, "lowest bit of a word first"
abbrev pub bits : ℕ → ℕ → List Bool
bits zero w = []
bits (suc n) w = one? (w % 2) ∷ bits n (w / 2)

-- the number whose bits, lowest first, these are
abbrev pub num : List Bool → ℕ
num [] = 0
num (b ∷ bs) = num bs * 2 + digit b
