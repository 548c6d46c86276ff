-- When a word has no fault where something is due, and what then is known of it. Assumes nothing.
use Prim.Native.Nat.{ℕ, ◌%◌, ◌<◌, ◌≤◌}
use mathlib.Core.Path.{◌≡◌, refl}
use mathlib.Core.Bool.{Bool, true, false, cond, ◌||◌}
use native.Mathlib.Omega.{arith}
use lib.Dec.{ltb, eqb}
use borrow.Author.Tests.{le-ltb, ltb-false, eq-eqb, eqb-true}
use Rattle.refusal.specs.Numbers.{over_ten, no_fill, reserved, bad_parity, bad_checksum, packet_past}
use Rattle.refusal.proofs.Cases.{by_test}
use Rattle.words.specs.Words.{most_word, least_sample, most_sample}
use Rattle.words.proofs.Passes.{not_reserved}
use Rattle.packets.specs.declared.due.What.{What}
use Rattle.packets.specs.declared.due.What.TheVariants.{Exactly, Header, Count, User, Checksum}
use Rattle.packets.specs.Packet.{header_of, checksum_of}
use Rattle.packets.specs.Fault.{wrong_where, fault_where}

-- ---- header words and checksums are words of ten bits, and a header word tells its eight bits
pub header_low : (byte : ℕ) → byte < 256 → header_of byte % 256 ≡ byte
unfolding header_of
header_low byte l = omega arith

pub header_ten : (byte : ℕ) → byte < 256 → header_of byte ≤ most_word
unfolding header_of
header_ten byte l = omega arith

pub checksum_ten : (sum : ℕ) → checksum_of sum ≤ most_word
unfolding checksum_of
checksum_ten sum = omega arith

-- ---- no fault
pub exactly_well : (word w : ℕ) → word ≤ most_word → w ≡ word → fault_where (Exactly word) w ≡ 0
unfolding fault_where
exactly_well word w h e = rw e (simp (le-ltb _ _ h, eq-eqb word word refl))

pub checksum_well : (sum w : ℕ) → w ≡ checksum_of sum → fault_where (Checksum (checksum_of sum)) w ≡ 0
unfolding fault_where
checksum_well sum w e = rw e (simp (le-ltb _ _ (checksum_ten sum), eq-eqb (checksum_of sum) (checksum_of sum) refl))

pub header_well : (byte w : ℕ) → byte < 256 → w ≡ header_of byte → fault_where Header w ≡ 0
unfolding fault_where
header_well byte w l e =
    rw e (simp (le-ltb _ _ (header_ten byte l), header_low byte l, eq-eqb (header_of byte) (header_of byte) refl))

pub count_well : (room byte w : ℕ) → byte < 256 → byte ≤ room → w ≡ header_of byte → fault_where (Count room) w ≡ 0
unfolding fault_where
count_well room byte w l m e =
    rw e (simp (le-ltb _ _ (header_ten byte l), header_low byte l, eq-eqb (header_of byte) (header_of byte) refl, le-ltb _ _ m))

pub user_well : (w : ℕ) → least_sample ≤ w → w ≤ most_sample → fault_where User w ≡ 0
unfolding fault_where
user_well w l h =
    let ten : w ≤ most_word = omega arith in
    simp (le-ltb _ _ ten, le-ltb _ _ l, le-ltb _ _ h)

-- ---- what no fault tells
pub at_most_ten : (due : What) (w : ℕ) → fault_where due w ≡ 0 → (w ≤ most_word) × (wrong_where due w ≡ 0)
unfolding fault_where
at_most_ten due w e =
    by_test (ltb most_word w) (λ t. absurd (never (rw t at e))) (λ t. (ltb-false _ _ t, rw t at e))
  where
    never : over_ten ≡ 0 → ⊥
    never q = omega arith

-- the number that a test brings is not there, so the test fails; or passes, where it is brought otherwise
silent : (t : Bool) (n : ℕ) → (n ≡ 0 → ⊥) → cond t n 0 ≡ 0 → t ≡ false
silent true n positive e = absurd (positive e)
silent false n positive e = refl

passes : (t : Bool) (m n : ℕ) → (n ≡ 0 → ⊥) → cond t m n ≡ 0 → (t ≡ true) × (m ≡ 0)
passes true m n positive e = (refl, e)
passes false m n positive e = absurd (positive e)

pub exactly_told : (word w : ℕ) → fault_where (Exactly word) w ≡ 0 → w ≡ word
exactly_told word w e = eqb-true _ _ (passes (eqb w word) 0 no_fill (λ z. omega arith) (at_most_ten (Exactly word) w e).1).0

pub checksum_told : (word w : ℕ) → fault_where (Checksum word) w ≡ 0 → w ≡ word
checksum_told word w e = eqb-true _ _ (passes (eqb w word) 0 bad_checksum (λ z. omega arith) (at_most_ten (Checksum word) w e).1).0

pub header_told : (w : ℕ) → fault_where Header w ≡ 0 → w ≡ header_of (w % 256)
header_told w e =
    eqb-true _ _ (passes (eqb w (header_of (w % 256))) 0 bad_parity (λ z. omega arith) (at_most_ten Header w e).1).0

pub count_told : (room w : ℕ) → fault_where (Count room) w ≡ 0 → (w ≡ header_of (w % 256)) × (w % 256 ≤ room)
count_told room w e =
    let past = cond (ltb room (w % 256)) packet_past 0 in
    let k = passes (eqb w (header_of (w % 256))) past bad_parity (λ z. omega arith) (at_most_ten (Count room) w e).1 in
    (eqb-true _ _ k.0, ltb-false _ _ (silent (ltb room (w % 256)) packet_past (λ z. omega arith) k.1))

pub user_told : (w : ℕ) → fault_where User w ≡ 0 → (least_sample ≤ w) × (w ≤ most_sample)
user_told w e =
    not_reserved w (silent (ltb w least_sample || ltb most_sample w) reserved (λ z. omega arith) (at_most_ten User w e).1)
