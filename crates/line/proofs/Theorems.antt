-- The words of a line are refused exactly as the document's table says. Assumes nothing.
use Prim.Native.Nat.{ℕ, ◌+◌, ◌<◌, ◌≤◌}
use mathlib.Core.Path.{◌≡◌, refl}
use mathlib.Core.Bool.{true, false, cond, not}
use mathlib.Core.List.{List}
use mathlib.Core.Logic.{inl}
use native.Mathlib.Omega.{arith}
use lib.Dec.{ltb, eqb}
use lib.ListN.{length}
use borrow.Author.Tests.{lt-ltb, ltb-true, ltb-false}
use Rattle.refusal.specs.Table.{Row, when, ◌before◌, Decides, Keeps}
use Rattle.refusal.specs.Answer.{refuse}
use Rattle.refusal.proofs.Cases.{by_test}
use Rattle.refusal.proofs.Tables.{Numbers, numbers_when, numbers_before, keeps_when, keeps_unequal, keeps_before, keeps_last, keeps_lowest, decides_when, decides_before, decides_lowest}
use Rattle.packets.specs.Fault.{word_at}
use Rattle.timing.proofs.Theorems.{fourth_numbers, fourth_decides}
use Rattle.system.specs.declared.System.{System}
use Rattle.system.specs.Figures.{line_length, sav_offset}
use Rattle.system.specs.declared.due.Due.{Due}
use Rattle.system.specs.Due.{flags_of}
use Rattle.words.proofs.Passes.{reserved_test}
use Rattle.line.specs.Offsets.{due_at}
use Rattle.line.specs.Fault.{wrong_where, fault_where, between_offset, in_space, Wanted, apart, fault_wanted, fault_of, fault_at, word_refusal}
use Rattle.line.specs.Lengths.{length_refusal, length_refusals, buffer_refusal, buffer_refusals, active_room, room_refusal, room_refusals}
use Rattle.line.specs.Refusals.{where_refusals, wanted_refusals, offset_refusals, word_refusals}
use Rattle.line.specs.Samples.{y_length, c_length}
use Rattle.line.proofs.Spaces.{by_apart, by_wanted}
use Rattle.packets.proofs.Exact.{place_numbers, place_decides}
use Rattle.system.proofs.Laws.{flags_low}

-- ---- lengths
pub length_exact : (s : System) (words : ℕ) → Keeps (length_refusals s words) (length_refusal s words)
length_exact s words = keeps_unequal words (line_length s) 0

pub buffer_exact : (y cb cr : ℕ) → Keeps (buffer_refusals y cb cr) (buffer_refusal y cb cr)
unfolding buffer_refusal
buffer_exact y cb cr =
    keeps_before _ _ (refuse (not (eqb y y_length)) 3 1) _ (keeps_unequal y y_length 1)
    (keeps_before _ _ (refuse (not (eqb cb c_length)) 3 2) _ (keeps_unequal cb c_length 2)
    (keeps_last _ (refuse (not (eqb cr c_length)) 3 3) (keeps_unequal cr c_length 3)))

pub buffer_decides : (y cb cr : ℕ) → Decides (buffer_refusals y cb cr)
buffer_decides y cb cr =
    decides_before _ _ (decides_when (y ≡ y_length → ⊥) 3 1)
    (decides_before _ _ (decides_when (cb ≡ c_length → ⊥) 3 2) (decides_when (cr ≡ c_length → ⊥) 3 3))

-- ---- ready packet words
pub room_exact : (d : Due) (between active : ℕ) → Keeps (room_refusals d between active) (room_refusal d between active)
unfolding room_refusal
room_exact d between active =
    keeps_before _ _ (refuse (ltb (sav_offset d.system) (between_offset + between)) 3 4) _
    (keeps_when (ltb (sav_offset d.system) (between_offset + between)) (sav_offset d.system < between_offset + between) 3 4 (ltb-true _ _) (lt-ltb _ _) (λ z. omega arith))
    (keeps_last _ (refuse (ltb (active_room d) active) 3 5)
    (keeps_when (ltb (active_room d) active) (active_room d < active) 3 5 (ltb-true _ _) (lt-ltb _ _) (λ z. omega arith)))

pub room_decides : (d : Due) (between active : ℕ) → Decides (room_refusals d between active)
room_decides d between active = decides_before _ _ (decides_when _ 3 4) (decides_when _ 3 5)

-- ---- one offset
where_numbers : (d : Due) (w i : ℕ) → in_space d i ≡ false → w ≤ 1023 → Numbers (where_refusals (due_at d i) w i) (wrong_where (due_at d i) w) i
where_numbers d w i outside ten =
    by_apart d (λ due. Numbers (where_refusals due w i) (wrong_where due w) i) i outside
    (numbers_when (ltb w 1020) (w < 1020) 6 i (ltb-true _ _) (lt-ltb _ _) (λ z. omega arith))
    (numbers_when (ltb 3 w) (3 < w) 6 i (ltb-true _ _) (lt-ltb _ _) (λ z. omega arith))
    (λ e. fourth_numbers (flags_of d true) w i (flags_low d true) ten)
    (λ e. fourth_numbers (flags_of d false) w i (flags_low d false) ten)
    (λ v past. numbers_when _ _ 11 i (reserved_test w).0 (reserved_test w).1 (λ z. omega arith))

-- the row and the number of a word where this is wanted
abbrev wanted_row : Wanted → ℕ → ℕ → Row
wanted_row wanted w i = when (1023 < w) 5 i before wanted_refusals wanted w i

apart_numbers : (d : Due) (w i : ℕ) → in_space d i ≡ false → Numbers (wanted_row (apart (due_at d i)) w i) (fault_where (due_at d i) w) i
unfolding fault_where
apart_numbers d w i outside =
    by_test (ltb 1023 w) (λ e. over (ltb-true _ _ e))
    (λ e. numbers_before (ltb 1023 w) (1023 < w) 5 i _ _ (ltb-true _ _) (lt-ltb _ _) (λ z. omega arith) (where_numbers d w i outside (ltb-false _ _ e)))
  where
    over : 1023 < w → Numbers (wanted_row (apart (due_at d i)) w i) (cond (ltb 1023 w) 5 (wrong_where (due_at d i) w)) i
    over l = rw (lt-ltb _ _ l) (record { silent = λ z. absurd (omega arith); asked = λ n. inl (l, refl) })

offset_numbers : (d : Due) (words : List ℕ) (i : ℕ) → Numbers (offset_refusals d words i) (fault_at d words i) i
unfolding fault_of
offset_numbers d words i =
    let w : ℕ = word_at words i in
    by_wanted d (word_at words) (λ wanted. Numbers (wanted_row wanted w i) (fault_wanted wanted w) i) i
    (λ due. place_numbers due w i) (λ outside. apart_numbers d w i outside)

-- The lowest offset with any fault is answered, with the number that is first in the document's order there.
pub words_exact : (d : Due) (words : List ℕ) → Keeps (word_refusals d words) (word_refusal d words)
unfolding word_refusal
words_exact d words = keeps_lowest (offset_refusals d words) (fault_at d words) (length words) (λ j l. offset_numbers d words j)

pub words_decide : (d : Due) (words : List ℕ) → Decides (word_refusals d words)
words_decide d words =
    decides_lowest (length words) (offset_refusals d words)
    (λ i.
    let w : ℕ = word_at words i in
    by_wanted d (word_at words) (λ wanted. Decides (wanted_row wanted w i)) i (λ due. place_decides due w i)
    (λ outside. decides_before _ _ (decides_when (1023 < w) 5 i)
    (by_apart d (λ due. Decides (where_refusals due w i)) i outside
    (decides_when _ 6 i) (decides_when _ 6 i)
    (λ e. fourth_decides (flags_of d true) w i) (λ e. fourth_decides (flags_of d false) w i)
    (λ v past. decides_when _ 11 i))))
