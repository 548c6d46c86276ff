-- Shifts, masks and exclusive or of numbers, followed on their lists of bits, where they compute. Assumes nothing.
use mathlib.Core.Path.{◌≡◌, refl, sym, ap, ap₂, ◌∙◌}
use mathlib.Core.Bool.{Bool, true, false}
use mathlib.Core.List.{List, [], ◌∷◌, ◌++◌, reverse}
use Prim.Native.Nat.{ℕ, zero, suc, ◌+◌, ◌-◌, ◌*◌, ◌/◌, ◌%◌, ◌^◌, ◌<◌, ◌≤◌}
use native.Mathlib.Nat.{le_of_suc-le-suc, pow-suc, add-zero, mul-one, mod-one, div-one, zero-div, zero-mod, div-div-eq-div-mul, mul_assoc, mul_comm}
use native.Mathlib.Omega.{arith}
use lib.Arith.{mod-mul}
use lib.Pow.{pow_pos}
use lib.Bits.{bit_xor, bit_and, differ, xor_step, xor_zero_r, and_mask}
use lib.ListN.{length, get_or, take, drop, replicate}
use Rattle.serial.specs.Bits.{◌⊕◌, digit, bits, num}
use Rattle.serial.specs.Held.{past_in}
use Rattle.serial.proofs.Bits.{num_odd, num_half, bits_num, num_bits, num_lt}

-- exclusive or of two lists, the shorter one going on with zeros
abbrev pub xors : List Bool → List Bool → List Bool
xors [] ys = ys
xors (x ∷ xs) [] = x ∷ xs
xors (x ∷ xs) (y ∷ ys) = (x ⊕ y) ∷ xors xs ys

differ_digit : (a b : Bool) → differ (digit a) (digit b) ≡ digit (a ⊕ b)
differ_digit false false = refl
differ_digit false true = refl
differ_digit true false = refl
differ_digit true true = refl

num_xor : (xs ys : List Bool) → bit_xor (num xs) (num ys) ≡ num (xors xs ys)
num_xor [] ys = refl
num_xor (x ∷ xs) [] = xor_zero_r (num (x ∷ xs))
num_xor (x ∷ xs) (y ∷ ys) =
    xor_step (num (x ∷ xs)) (num (y ∷ ys))
    ∙ ap₂ (λ (m n : ℕ). m * 2 + n)
    (ap₂ bit_xor (num_half x xs) (num_half y ys) ∙ num_xor xs ys)
    (ap₂ differ (num_odd x xs) (num_odd y ys) ∙ differ_digit x y)

pub num_shr : (k : ℕ) (bs : List Bool) → num bs / 2 ^ k ≡ num (drop k bs)
num_shr zero bs = div-one (num bs)
num_shr (suc k) [] = zero-div (2 ^ suc k)
num_shr (suc k) (b ∷ bs) =
    ap (λ (x : ℕ). num (b ∷ bs) / x) (pow-suc 2 k ∙ mul_comm (2 ^ k) 2) ∙ sym (div-div-eq-div-mul (num (b ∷ bs)) 2 (2 ^ k))
    ∙ ap (λ (x : ℕ). x / 2 ^ k) (num_half b bs) ∙ num_shr k bs

num_shl : (k : ℕ) (bs : List Bool) → num bs * 2 ^ k ≡ num (replicate k false ++ bs)
num_shl zero bs = mul-one (num bs)
num_shl (suc k) bs =
    ap (λ (x : ℕ). num bs * x) (pow-suc 2 k) ∙ sym (mul_assoc (num bs) (2 ^ k) 2) ∙ ap (λ (x : ℕ). x * 2) (num_shl k bs)
    ∙ sym (add-zero _)

num_mod : (k : ℕ) (bs : List Bool) → num bs % 2 ^ k ≡ num (take k bs)
num_mod zero bs = mod-one (num bs)
num_mod (suc k) [] = zero-mod (2 ^ suc k)
num_mod (suc k) (b ∷ bs) =
    ap (λ (x : ℕ). num (b ∷ bs) % x) (pow-suc 2 k) ∙ mod-mul (num (b ∷ bs)) (pow_pos k) (omega arith)
    ∙ ap₂ (λ (x y : ℕ). x * 2 + y) (ap (λ (x : ℕ). x % 2 ^ k) (num_half b bs) ∙ num_mod k bs) (num_odd b bs)

-- x is the number of the bits bs. One rule for each operation: a proof follows the code by them, and the lists compute.
pub record Is (x : ℕ) (bs : List Bool) : Type 0 where
  pub eq : x ≡ num bs

pub is_bits : (n : ℕ) {x : ℕ} → x < 2 ^ n → Is x (bits n x)
is_bits n {x} h = record { eq = sym (num_bits n x h) }

-- a word, taken into a wider number
pub is_word : {x w : ℕ} → x ≡ w → w ≤ 1023 → Is x (bits 10 w)
is_word {x} {w} e h = record { eq = e ∙ sym (num_bits 10 w (omega arith)) }

pub is_xor : {x y : ℕ} {xs ys : List Bool} → Is x xs → Is y ys → Is (bit_xor x y) (xors xs ys)
is_xor {xs = xs} {ys = ys} p q = record { eq = ap₂ bit_xor p.eq q.eq ∙ num_xor xs ys }

pub is_shr : (k : ℕ) {x : ℕ} {xs : List Bool} → Is x xs → Is (x / 2 ^ k) (drop k xs)
is_shr k {xs = xs} p = record { eq = ap (λ (n : ℕ). n / 2 ^ k) p.eq ∙ num_shr k xs }

-- to the left, in 32 bits
pub is_shl : (k : ℕ) {x : ℕ} {xs : List Bool} → Is x xs → Is ((x * 2 ^ k) % 2 ^ 32) (take 32 (replicate k false ++ xs))
is_shl k {xs = xs} p = record {
  eq = ap (λ (n : ℕ). (n * 2 ^ k) % 2 ^ 32) p.eq ∙ ap (λ (n : ℕ). n % 2 ^ 32) (num_shl k xs)
      ∙ num_mod 32 (replicate k false ++ xs);
}

pub is_mod : (k : ℕ) {x : ℕ} {xs : List Bool} → Is x xs → Is (x % 2 ^ k) (take k xs)
is_mod k {xs = xs} p = record { eq = ap (λ (n : ℕ). n % 2 ^ k) p.eq ∙ num_mod k xs }

pub is_mask : (k : ℕ) {x : ℕ} {xs : List Bool} → Is x xs → Is (bit_and x (2 ^ k - 1)) (take k xs)
is_mask k {x} {xs} p = record { eq = and_mask x k ∙ (is_mod k p).eq }

-- a number of bits has those bits, and is below a power
pub is_list : {x : ℕ} {xs : List Bool} → Is x xs → bits (length xs) x ≡ xs
is_list {x} {xs} q = ap (bits (length xs)) q.eq ∙ bits_num xs

pub is_lt : {x : ℕ} {xs : List Bool} → Is x xs → x < 2 ^ length xs
is_lt {x} {xs} q = rw q.eq (num_lt xs)

pub is_nine : {x : ℕ} {xs : List Bool} → length xs ≡ 9 → Is x xs → x ≤ 511
is_nine e q = le_of_suc-le-suc (rw e at (is_lt q))

pub is_one : {x : ℕ} {xs : List Bool} → length xs ≡ 1 → Is x xs → x ≤ 1
is_one e q = le_of_suc-le-suc (rw e at (is_lt q))

-- the past that is held in two numbers, from their bits: nine, the earliest first, and one
pub past_is : {x y : ℕ} {xs ys : List Bool} → length xs ≡ 9 → length ys ≡ 1 → Is x xs → Is y ys
    → past_in x y ≡ record { scrambled = reverse xs; last = get_or ys 0 false }
past_is {x} {y} nine one is_x is_y =
    ap₂ (λ (u v : List Bool). record { scrambled = reverse u; last = get_or v 0 false })
    (ap (λ (n : ℕ). bits n x) (sym nine) ∙ is_list is_x)
    (ap (λ (n : ℕ). bits n y) (sym one) ∙ is_list is_y)
