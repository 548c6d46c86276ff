-- A number of n bits and its list of n bits say the same, and laws of exclusive or by cases. Assumes nothing.
use mathlib.Core.Path.{◌≡◌, refl, sym, ap, ap₂, ◌∙◌}
use mathlib.Core.Bool.{Bool, true, false}
use mathlib.Core.List.{List, [], ◌∷◌}
use Prim.Native.Nat.{ℕ, zero, suc, ◌+◌, ◌*◌, ◌/◌, ◌%◌, ◌^◌, ◌<◌, ◌≤◌}
use native.Mathlib.Nat.{div-add-mod', mod-lt, pow-suc}
use native.Mathlib.Omega.{arith}
use lib.Arith.{digits_div, digits_mod, lt-one}
use lib.ListN.{length}
use Rattle.serial.specs.Bits.{◌⊕◌, one?, digit, bits, num}

pub xor_cancel : (a b : Bool) → (a ⊕ b) ⊕ b ≡ a
xor_cancel false false = refl
xor_cancel false true = refl
xor_cancel true false = refl
xor_cancel true true = refl

pub xor_false : (a : Bool) → a ⊕ false ≡ a
xor_false false = refl
xor_false true = refl

pub xor_assoc : (a b c : Bool) → (a ⊕ b) ⊕ c ≡ a ⊕ (b ⊕ c)
xor_assoc false b c = refl
xor_assoc true false c = refl
xor_assoc true true false = refl
xor_assoc true true true = refl

digit_lt : (b : Bool) → digit b < 2
digit_lt false = omega arith
digit_lt true = omega arith

one_digit : (b : Bool) → one? (digit b) ≡ b
one_digit false = refl
one_digit true = refl

pub digit_one : (n : ℕ) → n < 2 → digit (one? n) ≡ n
digit_one zero h = refl
digit_one (suc n) h = omega arith

-- a bit that is held as a number
pub digit_held : (n : ℕ) → n ≤ 1 → digit (one? (n % 2)) ≡ n
digit_held zero h = refl
digit_held (suc zero) h = refl
digit_held (suc (suc n)) h = absurd (omega arith)

-- the lowest bit of a list's number, and the number of the rest
pub num_odd : (b : Bool) (bs : List Bool) → num (b ∷ bs) % 2 ≡ digit b
num_odd b bs = digits_mod (num bs) (digit_lt b)

pub num_half : (b : Bool) (bs : List Bool) → num (b ∷ bs) / 2 ≡ num bs
num_half b bs = digits_div (num bs) (digit_lt b)

-- the bits of the number of a list are that list
pub bits_num : (bs : List Bool) → bits (length bs) (num bs) ≡ bs
bits_num [] = refl
bits_num (b ∷ bs) = ap₂ ◌∷◌ (ap one? (num_odd b bs) ∙ one_digit b) (ap (bits (length bs)) (num_half b bs) ∙ bits_num bs)

-- the number of the n low bits of a number of n bits is that number
pub num_bits : (n w : ℕ) → w < 2 ^ n → num (bits n w) ≡ w
num_bits zero w h = sym (lt-one h)
num_bits (suc n) w h =
    let half : w / 2 < 2 ^ n = omega (arith, pow-suc 2 n) in
    ap₂ (λ (x y : ℕ). x * 2 + y) (num_bits n (w / 2) half) (digit_one (w % 2) (mod-lt w (omega arith))) ∙ div-add-mod' w 2

pub num_lt : (bs : List Bool) → num bs < 2 ^ length bs
num_lt [] = omega arith
num_lt (b ∷ bs) = omega (arith, num_lt bs, digit_lt b, pow-suc 2 (length bs))
