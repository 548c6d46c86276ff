-- A word's coding in two halves, scrambling and then the channel code, and what is held after it. Assumes nothing.
use mathlib.Core.Path.{◌≡◌, refl, ap, ◌∙◌}
use mathlib.Core.Bool.{Bool, false}
use mathlib.Core.List.{List, [], ◌∷◌, ◌++◌}
use Prim.Native.Nat.{ℕ, zero, suc, ◌*◌, ◌/◌, ◌%◌, ◌^◌, ◌<◌, ◌≤◌}
use native.Mathlib.Omega.{arith}
use lib.Bits.{bit_xor, bit_and}
use lib.ListN.{take, drop, replicate}
use Rattle.serial.specs.declared.held.Held.{Held}
use Rattle.serial.specs.Bits.{◌⊕◌, one?, bits, num}
use Rattle.serial.specs.Serial.{scrambled_bit, coded, code_word, past_coding}
use Rattle.serial.specs.Calls.{short_delay, long_delay}
use Rattle.serial.specs.Held.{past_held, past_in}
use Rattle.serial.proofs.Bits.{xor_assoc, xor_false}
use Rattle.serial.proofs.Machine.{xors, Is, is_bits, is_xor, is_shr, is_shl, is_mask, is_list, past_is, is_nine, is_one}
use Rattle.serial.proofs.Steps.{code, after_code}

-- the scrambled bits of plain bits, after the scrambled bits of the past
abbrev pub scrambled_bits : List Bool → List Bool → List Bool
scrambled_bits past [] = []
scrambled_bits past (p ∷ ps) =
    let x = scrambled_bit short_delay long_delay past p in
    x ∷ scrambled_bits (x ∷ take 8 past) ps

-- the held bits four and none further on, as the low five bits need them
abbrev earlier_bits : List Bool → List Bool
earlier_bits held = xors (drop 4 held) held

-- ten plain bits, the low five of which scrambled are moved up by five and by nine
abbrev ten_scrambled : List Bool → List Bool → List Bool
ten_scrambled held plain =
    let low = xors plain (earlier_bits held) in
    take 10 (xors plain (xors (xors (take 32 (replicate 5 false ++ low)) (take 32 (replicate 9 false ++ low))) (earlier_bits held)))

scrambled_ten : (h : Held) (w : ℕ) → ten_scrambled (bits 9 h.scrambled) (bits 10 w) ≡ scrambled_bits (past_held h).scrambled (bits 10 w)
scrambled_ten h w = simp (xor_assoc, xor_false)

pub is_scrambled : (h : Held) (w : ℕ) {s : ℕ} → Is s (ten_scrambled (bits 9 h.scrambled) (bits 10 w))
    → Is s (scrambled_bits (past_held h).scrambled (bits 10 w))
is_scrambled h w is-s = record { eq = is-s.eq ∙ ap num (scrambled_ten h w) }

-- the channel bits of scrambled bits: the running exclusive or
abbrev pub running : Bool → List Bool → List Bool
running l [] = []
running l (x ∷ xs) = (x ⊕ l) ∷ running (x ⊕ l) xs

running_scrambled : (past : List Bool) (l : Bool) (ps : List Bool)
    → running l (scrambled_bits past ps) ≡ coded short_delay long_delay (record { scrambled = past; last = l }) ps
running_scrambled past l [] = refl
running_scrambled past l (p ∷ ps) =
    let x = scrambled_bit short_delay long_delay past p in
    ap (λ (t : List Bool). (x ⊕ l) ∷ t) (running_scrambled (x ∷ take 8 past) (x ⊕ l) ps)

-- bits xor themselves shifted by k, as lists and as numbers
abbrev gathered : ℕ → List Bool → List Bool
gathered k xs = xors xs (take 32 (replicate k false ++ xs))

gathered_all : (s : ℕ) (l : Bool)
    → take 10 (xors (gathered 8 (gathered 4 (gathered 2 (gathered 1 (bits 10 s))))) (replicate 10 l)) ≡ running l (bits 10 s)
gathered_all s l = simp (xor_assoc, xor_false)

-- 0 times 1023 is ten zeros, and 1 times 1023 ten ones
all_alike : (l : ℕ) → l < 2 → Is (l * 1023) (replicate 10 (one? (l % 2)))
all_alike zero h = record { eq = refl }
all_alike (suc zero) h = record { eq = refl }
all_alike (suc (suc l)) h = absurd (omega arith)

abbrev gather : ℕ → ℕ → ℕ
gather k x = bit_xor x ((x * 2 ^ k) % 2 ^ 32)

-- the channel code of ten scrambled bits, as it is computed
pub is_channel : {s l : ℕ} → s < 1024 → l < 2
    → Is (bit_and (bit_xor (gather 8 (gather 4 (gather 2 (gather 1 s)))) (l * 1023)) 1023) (running (one? (l % 2)) (bits 10 s))
is_channel {s} {l} hs hl =
    let one = is_bits 10 {x = s} hs in
    let two = is_xor one (is_shl 1 one) in
    let four = is_xor two (is_shl 2 two) in
    let eight = is_xor four (is_shl 4 four) in
    record { eq = (is_mask 10 (is_xor (is_xor eight (is_shl 8 eight)) (all_alike l hl))).eq ∙ ap num (gathered_all s (one? (l % 2))) }

-- Of the scrambled word s and the channel word y of a word w: y is the coded word, and the two hold the past after it.
module _ (h : Held) (w : ℕ) {s y : ℕ} (is-s : Is s (scrambled_bits (past_held h).scrambled (bits 10 w)))
    (is_y : Is y (running (past_held h).last (bits 10 s))) where
  is_coded : Is y (coded short_delay long_delay (past_held h) (bits 10 w))
  is_coded = record {
    eq = is_y.eq ∙ ap (λ (xs : List Bool). num (running (past_held h).last xs)) (is_list is-s)
        ∙ ap num (running_scrambled (past_held h).scrambled (past_held h).last (bits 10 w));
  }

  pub word_coded : y ≡ code (past_held h) w
  unfolding code_word
  word_coded = is_coded.eq

  pub past_coded : past_in (s / 2) (y / 512) ≡ after_code (past_held h) w
  unfolding past_coding
  past_coded = past_is refl refl (is_shr 1 is-s) (is_shr 9 is_coded)

  pub nine_coded : s / 2 ≤ 511
  nine_coded = is_nine refl (is_shr 1 is-s)

  pub one_coded : y / 512 ≤ 1
  one_coded = is_one refl (is_shr 9 is_coded)
