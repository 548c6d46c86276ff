-- The parts of a line, from 0 to 3: where they start, which are spaces and how these are judged, and what is wrong at their offsets, so that a
-- scan that goes part by part finds the lowest fault. Assumes nothing.
use Prim.Native.Nat.{ℕ, zero, suc, ◌+◌, ◌-◌, ◌<◌, ◌≤◌}
use mathlib.Core.Path.{◌≡◌, refl, sym, ap, ◌∙◌}
use mathlib.Core.Bool.{true, false, cond, true≢false}
use mathlib.Core.List.{List}
use native.Mathlib.Omega.{arith}
use lib.Dec.{leb, eqb}
use lib.ListN.{length}
use borrow.Author.Tests.{le-leb, leb-true, leb-false}
use Rattle.refusal.specs.declared.Refusal.{Refusal}
use Rattle.std.specs.Prelude.{Some, Result, Ok, Err}
use Rattle.std.specs.Result.{result_ok, result_unwrap_or}
use Rattle.std.proofs.lemmas.Option.{same_Some, none-some}
use Rattle.refusal.specs.declared.Refused.{Refused}
use Rattle.refusal.specs.Answer.{none, first_from}
use Rattle.refusal.proofs.Cases.{by_cond, by_test}
use Rattle.refusal.proofs.Firsts.{same_number}
use Rattle.packets.specs.Due.{holder_at}
use Rattle.packets.specs.Fault.{space_told, word_at, space_to, space_of}
use Rattle.packets.specs.Fault as space
use Rattle.packets.proofs.Froms.{from_later, from_same}
use Rattle.packets.proofs.Walks.{space_back}
use Rattle.packets.proofs.Local.{holder_high}
use Rattle.system.specs.declared.System.{System}
use Rattle.system.specs.declared.due.Due.{Due}
use Rattle.system.specs.Figures.{line_length, sav_offset, active_offset}
use Rattle.system.proofs.Laws.{line_is_parts, sav_low}
use Rattle.line.specs.Offsets.{due_at}
use Rattle.line.specs.Fault.{fault_where, between_offset, fault_of, fault_at, word_refusal, active_space, packets_in}
use Rattle.line.proofs.Spaces.{eav_apart, sav_apart, active_space_is, fault_apart, fault_between, fault_active}
use Rattle.reader.specs.Passes.{part_start, part_is_space, part_space, words_start}

-- To show something of a number below four, show it of each.
pub by_four : (P : ℕ → Type 0) → P 0 → P 1 → P 2 → P 3 → (k : ℕ) → k < 4 → P k
by_four P p0 p1 p2 p3 zero l = p0
by_four P p0 p1 p2 p3 (suc zero) l = p1
by_four P p0 p1 p2 p3 (suc (suc zero)) l = p2
by_four P p0 p1 p2 p3 (suc (suc (suc zero))) l = p3
by_four P p0 p1 p2 p3 (suc (suc (suc (suc k)))) l = absurd (omega arith)

-- ---- where the parts start
-- no part starts past the line's end
pub part_within : (s : System) (part : ℕ) → part_start s part ≤ line_length s
part_within s part =
    let e = line_is_parts s in
    by_cond (λ n. n ≤ line_length s) (eqb part 0) 0 _ (λ t. omega arith)
    (λ f. by_cond (λ n. n ≤ line_length s) (eqb part 1) 4 _ (λ t. omega arith)
    (λ f. by_cond (λ n. n ≤ line_length s) (eqb part 2) (sav_offset s) _ (λ t. omega arith)
    (λ f. by_cond (λ n. n ≤ line_length s) (eqb part 3) (active_offset s) (line_length s) (λ t. omega arith) (λ f. omega arith))))

-- each part ends where the next starts
part_rises : (s : System) (part : ℕ) → part < 4 → part_start s part ≤ part_start s (part + 1)
part_rises s =
    by_four (λ part. part_start s part ≤ part_start s (part + 1)) (omega arith) (omega (arith, sav_low s)) (omega arith) (omega (arith, line_is_parts s))

-- ---- a space
-- a space that ends with the words at the latest is judged to its end
pub space_to_end : (words : List ℕ) (start end even odd : ℕ) → end ≤ length words
    → space_of words start end even odd ≡ space_to (word_at words) start end even odd
space_to_end words start end even odd l = simp (le-leb _ _ l)

-- what the result of judging a space tells
pub told_packets : (r : Result ℕ Refused) → result_unwrap_or r 0 ≡ (space_told r).packets
told_packets (Ok n) = refl
told_packets (Err refused) = refl

pub ok_told : (r : Result ℕ Refused) (n : ℕ) → result_ok r ≡ Some n → space_told r ≡ record { number = 0; place = 0; packets = n }
ok_told (Ok m) n e = ap (λ (k : ℕ). record { number = 0; place = 0; packets = k }) (same_Some m n e)
ok_told (Err refused) n e = absurd (none-some n e)

-- the packets of a space fit it
packets_fit : (word : ℕ → ℕ) (start stop even odd : ℕ) → (space_to word start stop even odd).packets ≤ stop - start
unfolding space_to
packets_fit word start stop even odd =
    by_cond (λ n. n ≤ stop - start) (eqb (first_from (space.fault_at word start stop even odd) start (stop - start)).number 0)
    (holder_at word start stop (stop - start) - start) 0 (λ t. omega (arith, holder_high word start stop (stop - start))) (λ t. omega arith)

-- and those of a line its two spaces
pub counts_within : (d : Due) (word : ℕ → ℕ)
    → (between_offset + (packets_in d word).between ≤ sav_offset d.system) × (active_offset d.system + (packets_in d word).active ≤ line_length d.system)
unfolding packets_in
counts_within d word = (
  omega (arith, packets_fit word between_offset (sav_offset d.system) d.fill.even d.fill.odd, sav_low d.system),
  by_cond (λ n. active_offset d.system + n ≤ line_length d.system) d.v (active_space d word).packets 0
      (λ v. omega (arith, packets_fit word (active_offset d.system) (line_length d.system) d.fill.even d.fill.odd, line_is_parts d.system))
      (λ v. omega (arith, line_is_parts d.system)),
)

-- ---- what is wrong at an offset of a part
module _ (d : Due) (word : ℕ → ℕ) (i : ℕ) where
  -- that is a space
  part_in_space : (part : ℕ) → part < 4 → part_is_space d part ≡ true → part_start d.system part ≤ i → i < part_start d.system (part + 1)
      → fault_of d word i ≡ space.fault_at word (part_start d.system part) (part_start d.system (part + 1)) d.fill.even d.fill.odd i
  part_in_space =
      by_four
      (λ part. part_is_space d part ≡ true → part_start d.system part ≤ i → i < part_start d.system (part + 1)
      → fault_of d word i ≡ space.fault_at word (part_start d.system part) (part_start d.system (part + 1)) d.fill.even d.fill.odd i)
      (λ t g l. absurd (true≢false (sym t))) (λ t g l. fault_between d word i g l)
      (λ t g l. absurd (true≢false (sym t))) (λ t g l. fault_active d word i g t)

  -- that is none
  part_apart : (part : ℕ) → part < 4 → part_is_space d part ≡ false → part_start d.system part ≤ i → i < part_start d.system (part + 1)
      → fault_of d word i ≡ fault_where (due_at d i) (word i)
  part_apart =
      by_four
      (λ part. part_is_space d part ≡ false → part_start d.system part ≤ i → i < part_start d.system (part + 1)
      → fault_of d word i ≡ fault_where (due_at d i) (word i))
      (λ t g l. fault_apart d word i (eav_apart d i l)) (λ t g l. absurd (true≢false t))
      (λ t g l. fault_apart d word i (sav_apart d i g l)) (λ t g l. fault_apart d word i (active_space_is d i g ∙ t))

  -- at an offset that the scan looks at
  pub looked_at : (part : ℕ) → part < 4 → words_start d part ≤ i → i < part_start d.system (part + 1)
      → fault_of d word i ≡ fault_where (due_at d i) (word i)
  looked_at part p =
      by_test (part_is_space d part)
      (λ t g l. absurd (never t g l))
      (λ t g l. part_apart part p t (rw t at g) l)
    where
      never : part_is_space d part ≡ true → words_start d part ≤ i → i < part_start d.system (part + 1) → ⊥
      never t g l = let h = rw t at g in omega arith

-- what is found among the first places is found among more
from_first : (f : ℕ → ℕ) (k i m : ℕ) → ((first_from f i k).number ≡ 0 → ⊥) → first_from f i (k + m) ≡ first_from f i k
unfolding first_from
from_first f zero i m n = absurd (n refl)
from_first f (suc k) i m n =
    let e : suc k + m ≡ suc (k + m) = omega arith in
    ap (first_from f i) e
    ∙ by_test (eqb (f i) 0) (λ t. simp t (from_first f k (suc i) m (rw t at n))) (λ t. simp t)

-- ---- the scan at a part, which found nothing before it
module _ (d : Due) (words : List ℕ) (part : ℕ) (in_line : part < 4)
    (before : (k : ℕ) → k < part_start d.system part → fault_at d words k ≡ 0) where
  abbrev start : ℕ
  start = part_start d.system part

  abbrev stop : ℕ
  stop = part_start d.system (part + 1)

  abbrev in_space : ℕ → ℕ
  in_space = space.fault_at (word_at words) start stop d.fill.even d.fill.odd

  part_faults : part_is_space d part ≡ true → (j : ℕ) → start ≤ j → j < start + (stop - start) → fault_at d words j ≡ in_space j
  part_faults t j g l = part_in_space d (word_at words) j part in_line t g (omega (arith, part_rises d.system part in_line))

  space_first : length words ≡ line_length d.system → part_is_space d part ≡ true → ((part_space d part words).number ≡ 0 → ⊥)
      → part_space d part words ≡ word_refusal d words
  unfolding space_to word_refusal
  space_first whole t n =
      let f = fault_at d words in
      let k = stop - start in
      let m = line_length d.system - stop in
      let size : length words ≡ start + (k + m) = omega (arith, part_rises d.system part in_line, part_within d.system (part + 1)) in
      let same = from_same f in_space k start (part_faults t) in
      let from : 0 + start ≡ start = omega arith in
      sym
      (ap (first_from f 0) size
      ∙ from_later f start 0 (k + m) (λ j g l. before j (omega arith))
      ∙ ap (λ (i : ℕ). first_from f i (k + m)) from
      ∙ from_first f k start m (λ z. n (sym (same_number same) ∙ z))
      ∙ same)

  space_clear : part_is_space d part ≡ true → (part_space d part words).number ≡ 0 → (k : ℕ) → k < stop → fault_at d words k ≡ 0
  space_clear t z k l =
      by_test (leb start k)
      (λ g.
      let from = leb-true start k g in
      part_in_space d (word_at words) k part in_line t from l ∙ space_back (word_at words) start stop d.fill.even d.fill.odd z k from l)
      (λ g. before k (leb-false start k g))

  -- what refuses the part as a space
  module _ (r : Refusal) (is-space : r ≡ cond (part_is_space d part) (part_space d part words) none) where
    -- where it refuses, it is the lowest fault of the line
    pub space_lowest : length words ≡ line_length d.system → (r.number ≡ 0 → ⊥) → r ≡ word_refusal d words
    space_lowest whole n =
        by_test (part_is_space d part)
        (λ t. let e : r ≡ part_space d part words = is-space ∙ simp t in
        e ∙ space_first whole t (λ z. n (same_number e ∙ z)))
        (λ t. let e : r ≡ none = is-space ∙ simp t in absurd (n (same_number e)))

    -- and where not, nothing is wrong before the words that are looked at one by one
    pub space_passed : r.number ≡ 0 → (k : ℕ) → k < words_start d part → fault_at d words k ≡ 0
    space_passed z k l =
        by_test (part_is_space d part)
        (λ t. let e : r ≡ part_space d part words = is-space ∙ simp t in
        space_clear t (sym (same_number e) ∙ z) k (rw t at l))
        (λ t. before k (rw t at l))
