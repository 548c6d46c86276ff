-- The numbers and places of a line's refusals are small enough for one 32-bit answer. Assumes nothing.
use Prim.Native.Nat.{ℕ, ◌*◌, ◌<◌}
use mathlib.Core.Path.{◌≡◌, refl}
use mathlib.Core.List.{List}
use mathlib.Core.Bool.{Bool, true, false, not, ◌||◌}
use native.Mathlib.Omega.{arith}
use lib.Dec.{ltb, leb, eqb}
use lib.ListN.{length}
use borrow.Author.Tests.{eqb-true, eqb-false}
use Rattle.refusal.specs.declared.Refusal.{Refusal}
use Rattle.refusal.specs.Numbers.{number_bound, no_system, no_line, wrong_length, bad_counts, over_ten, no_code, not_due, no_fill, reserved}
use Rattle.refusal.specs.Answer.{none, refuse, or_else, first_from}
use Rattle.refusal.proofs.Cases.{by_cond, by_test}
use Rattle.refusal.proofs.Firsts.{Found, nowhere, at, found, first_none, first_at}
use Rattle.words.specs.Words.{most_word, least_sample, most_sample}
use Rattle.words.specs.Bytes.{words_of}
use Rattle.words.proofs.Bytes.{words_length}
use Rattle.packets.specs.Fault.{word_at}
use Rattle.packets.proofs.Bounds.{fault_low as space-fault-low}
use Rattle.timing.specs.declared.Correction.{Correction}
use Rattle.timing.specs.declared.Correction.TheVariants.{Clean, Repaired, Refused}
use Rattle.timing.specs.declared.Report.{Report}
use Rattle.timing.specs.Code.{correction_of}
use Rattle.timing.specs.Report.{number_where, repairs_of}
use Rattle.timing.proofs.Laws.{Bounded, bounded}
use Rattle.system.specs.declared.due.Due.{Due}
use Rattle.system.specs.declared.walk.Walk.{Walk}
use Rattle.system.specs.Figures.{is_system, system_of}
use Rattle.system.specs.Walk.{most_lines, is_line, system_refusal, number_refusal, named_refusal, walk_refusal, line_words, line_bytes, standing_refusal, due_in}
use Rattle.system.proofs.Laws.{longest, at_most_two, accepted_stood}
use Rattle.line.specs.declared.What.{What}
use Rattle.line.specs.declared.What.TheVariants.{Ones, Zeros, Fourth, Fill, Sample}
use Rattle.line.specs.Offsets.{due_at}
use Rattle.line.specs.Fault.{least_ones, most_zeros, wrong_where, fault_where, fault_wanted, fault_of, fault_at, word_refusal}
use Rattle.line.proofs.Spaces.{by_wanted}
use Rattle.reader.proofs.Judged.{line_standing, line_words_are}
use Rattle.bytewise.specs.Bytes.{bytes_refusal}

-- a refusal that one answer can tell
pub record Small (r : Refusal) : Type 0 where
  pub number : r.number < number_bound
  pub place : r.place < 65536
  pub accepted : r.number ≡ 0 → r.place ≡ 0

small_none : Small none
small_none = record { number = omega arith; place = omega arith; accepted = λ e. refl }

small_refuse : (t : Bool) (n : ℕ) → n < number_bound → (n ≡ 0 → ⊥) → Small (refuse t n 0)
small_refuse true n low positive = record { number = low; place = omega arith; accepted = λ e. refl }
small_refuse false n low positive = small_none

small_or_else : (a b : Refusal) → Small a → Small b → Small (or_else a b)
unfolding or_else
small_or_else a b sa sb = by_cond Small (eqb a.number 0) b a (λ e. sb) (λ e. sa)

-- the number at one offset
number_where_low : (fvh : ℕ) (c : Correction) → Bounded c → number_where fvh c < number_bound
number_where_low fvh (Clean k) b = by_cond (λ n. n < number_bound) (eqb k fvh) 0 not_due (λ e. omega arith) (λ e. omega arith)
number_where_low fvh (Repaired k bit) b = by_cond (λ n. n < number_bound) (eqb k fvh) 0 not_due (λ e. omega arith) (λ e. omega arith)
number_where_low fvh (Refused n) b = b

wrong_low : (due : What) (w : ℕ) → wrong_where due w < number_bound
wrong_low Ones w = by_cond (λ n. n < number_bound) (ltb w least_ones) no_code 0 (λ e. omega arith) (λ e. omega arith)
wrong_low Zeros w = by_cond (λ n. n < number_bound) (ltb most_zeros w) no_code 0 (λ e. omega arith) (λ e. omega arith)
wrong_low (Fourth fvh) w = number_where_low fvh (correction_of w) (bounded w)
wrong_low (Fill word) w = by_cond (λ n. n < number_bound) (eqb w word) 0 no_fill (λ e. omega arith) (λ e. omega arith)
wrong_low Sample w = by_cond (λ n. n < number_bound) (ltb w least_sample || ltb most_sample w) reserved 0 (λ e. omega arith) (λ e. omega arith)

where_low : (due : What) (w : ℕ) → fault_where due w < number_bound
unfolding fault_where
where_low due w = by_cond (λ n. n < number_bound) (ltb most_word w) over_ten (wrong_where due w) (λ e. omega arith) (λ e. wrong_low due w)

fault_low : (d : Due) (words : List ℕ) (i : ℕ) → fault_at d words i < number_bound
unfolding fault_of
fault_low d words i =
    by_wanted d (word_at words) (λ wanted. fault_wanted wanted (word_at words i) < number_bound) i
    (λ due. omega (arith, space-fault-low due (word_at words i))) (λ outside. where_low (due_at d i) (word_at words i))

small_words : (d : Due) (words : List ℕ) → length words < 65536 → Small (word_refusal d words)
unfolding word_refusal
small_words d words l = go (found (fault_at d words) (length words))
  where
    go : Found (fault_at d words) (length words) → Small (first_from (fault_at d words) 0 (length words))
    go (nowhere h) = rw (first_none (fault_at d words) (length words) h) small_none
    go (at p q h b) =
        rw (first_at (fault_at d words) (length words) p q h b)
        (record { number = fault_low d words p; place = omega arith; accepted = λ e. absurd (b e) })

small_walk : (w : Walk) → Small (walk_refusal w)
unfolding walk_refusal named_refusal
small_walk w =
    small_or_else (named_refusal w.system w.line) _
    (small_or_else (system_refusal w.system) _ (small_refuse (not (is_system w.system)) no_system (omega arith) (λ z. omega arith))
    (small_or_else (number_refusal w.system w.line) none (small_refuse (not (is_line w.system w.line)) no_line (omega arith) (λ z. omega arith)) small_none))
    (small_refuse (leb most_lines w.lines || (ltb (2 * w.lines) w.repairs || ltb w.repairs w.tally)) bad_counts (omega arith) (λ z. omega arith))

pub small_bytes : (w : Walk) (bytes : List ℕ) → Small (bytes_refusal w bytes)
small_bytes w bytes =
    let standing = standing_refusal w (length bytes) (line_bytes w) in
    by_test (eqb standing.number 0)
    (λ t.
    let z = eqb-true _ _ t in
    let size = (accepted_stood w (length bytes) (line_bytes w) z).size in
    let short : length (words_of bytes) < 65536 = omega (arith, words_length bytes (line_words w) size, longest (system_of w.system)) in
    rw (line_words_are (length bytes) (line_bytes w) w (words_of bytes) z) (small_words (due_in w (words_of bytes)) (words_of bytes) short))
    (λ f.
    rw (line_standing (length bytes) (line_bytes w) w (words_of bytes) (eqb-false _ _ f))
    (small_or_else (walk_refusal w) _ (small_walk w) (small_refuse (not (eqb (length bytes) (line_bytes w))) wrong_length (omega arith) (λ z. omega arith))))

-- an accepted line's repairs are
pub repairs_low : (r : Report) → repairs_of r < 65536
repairs_low r = omega (arith, at_most_two r)
