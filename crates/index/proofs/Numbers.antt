-- Numbers as bytes. Assumes nothing.
use Prim.Native.Nat.{ℕ, zero, suc, ◌+◌, ◌*◌, ◌/◌, ◌%◌, ◌^◌, ◌<◌}
use mathlib.Core.Path.{◌≡◌, refl, ap, ◌∙◌}
use mathlib.Core.List.{List, [], ◌∷◌, ◌++◌}
use native.Mathlib.Omega.{arith}
use native.Mathlib.Nat.{div-add-mod, div-lt_iff_lt-mul, div-div-eq-div-mul, pow-suc}
use lib.ListN.{length, get_or}
use lib.Dec.{lit<}
use Rattle.words.specs.Bytes.{number_from, number_bytes}
use Rattle.index.specs.Entries.{Bytes, none, more}

-- ---- The number of some bytes, by their offset.
pub number_shift : (b : ℕ) (bytes : List ℕ) (i k : ℕ) → number_from (b ∷ bytes) (suc i) k ≡ number_from bytes i k
unfolding number_from
number_shift b bytes i zero = refl
number_shift b bytes i (suc k) = ap (λ (n : ℕ). get_or bytes i 0 + 256 * n) (number_shift b bytes (suc i) k)

pub number_past : (xs ys : List ℕ) (k : ℕ) → number_from (xs ++ ys) (length xs) k ≡ number_from ys 0 k
number_past [] ys k = refl
number_past (x ∷ xs) ys k = number_shift x (xs ++ ys) (length xs) k ∙ number_past xs ys k

-- ---- Bytes and their number.
-- the first bytes of a list that starts with a number's
pub number_first : (k n : ℕ) (rest : List ℕ) → n < 256 ^ k → number_from (number_bytes k n ++ rest) 0 k ≡ n
unfolding number_from number_bytes
number_first zero n rest l = omega arith
number_first (suc k) n rest l =
    let q : n / 256 < 256 ^ k = (div-lt_iff_lt-mul (lit< tt)).1 (omega (arith, pow-suc 256 k)) in
    let e = number_shift (n % 256) (number_bytes k (n / 256) ++ rest) 0 k ∙ number_first k (n / 256) rest q in
    omega (arith, e, div-add-mod n 256)

pub bytes_number : (bytes : List ℕ) → Bytes bytes → number_bytes (length bytes) (number_from bytes 0 (length bytes)) ≡ bytes
unfolding number_from number_bytes
bytes_number [] none = refl
bytes_number (b ∷ bytes) (more l h) =
    let n = number_from bytes 0 (length bytes) in
    let low : (b + 256 * n) % 256 ≡ b = omega arith in
    let high : (b + 256 * n) / 256 ≡ n = omega arith in
    rw (number_shift b bytes 0 (length bytes), low, high) (ap (λ (r : List ℕ). b ∷ r) (bytes_number bytes h))

-- ---- The bytes of a number, each by one quotient.
pub two_bytes : (n : ℕ) → n % 256 ∷ n / 256 % 256 ∷ [] ≡ number_bytes 2 n
unfolding number_bytes
two_bytes n = refl

pub four_bytes : (n : ℕ) → n % 256 ∷ n / 256 % 256 ∷ n / 65536 % 256 ∷ n / 16777216 % 256 ∷ [] ≡ number_bytes 4 n
unfolding number_bytes
four_bytes n = simp (div-div-eq-div-mul)

pub eight_bytes : (n : ℕ)
    → n % 256
    ∷ n / 256 % 256
    ∷ n / 65536 % 256
    ∷ n / 16777216 % 256
    ∷ n / 4294967296 % 256
    ∷ n / 1099511627776 % 256
    ∷ n / 281474976710656 % 256
    ∷ n / 72057594037927936 % 256
    ∷ []
    ≡ number_bytes 8 n
unfolding number_bytes
eight_bytes n = simp (div-div-eq-div-mul)
