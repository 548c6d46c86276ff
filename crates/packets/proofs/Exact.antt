-- The words of a space, and ready words, are refused exactly as the document's table says, and one input has one result. Assumes nothing.
use Prim.Native.Nat.{ℕ, ◌+◌, ◌-◌, ◌%◌, ◌<◌, ◌≤◌}
use mathlib.Core.Path.{◌≡◌, refl, sym, ap, subst, ◌∙◌}
use mathlib.Core.Bool.{cond, not}
use mathlib.Core.List.{List}
use mathlib.Core.Logic.{◌⊎◌, inl, inr}
use native.Mathlib.Omega.{arith}
use lib.Dec.{ltb, eqb}
use lib.ListN.{length}
use borrow.Author.Tests.{lt-ltb, ltb-true, ltb-false, ne_eqb, eqb-true, eqb-false}
use Rattle.refusal.specs.Numbers.{over_ten, no_fill, reserved, bad_parity, bad_checksum, packet_past}
use Rattle.refusal.specs.Answer.{first_from}
use Rattle.refusal.specs.Table.{Row, when, ◌before◌, Decides, Keeps}
use Rattle.refusal.proofs.Cases.{by_test, by_cond, not_true}
use Rattle.refusal.proofs.Tables.{Numbers, numbers_when, numbers_before, keeps_lowest, decides_when, decides_before, decides_lowest}
use Rattle.words.specs.Words.{most_word, least_sample, most_sample}
use Rattle.words.proofs.Passes.{reserved_test}
use Rattle.packets.specs.declared.due.What.{What}
use Rattle.packets.specs.declared.due.What.TheVariants.{Exactly, Header, Count, User, Checksum}
use Rattle.packets.specs.Packet.{header_of}
use Rattle.packets.specs.Due.{due_at}
use Rattle.packets.specs.Fault.{Space, wrong_where, fault_where, fault_at, word_at, space_of, no_word, ready_fault, ready_refusal}
use Rattle.packets.specs.Refusals.{BadParity, where_refusals, place_refusals, ready_refusals}
use Rattle.packets.proofs.Tests.{cond_not}
use Rattle.packets.proofs.Froms.{from_later, from_same}

-- ---- one word
-- a word that is not the one that is due, alone or before other rows
numbers_unlike : (w due n place : ℕ) → (n ≡ 0 → ⊥) → Numbers (when (w ≡ due → ⊥) n place) (cond (eqb w due) 0 n) place
numbers_unlike w due n place positive =
    subst (λ (m : ℕ). Numbers (when (w ≡ due → ⊥) n place) m place) (cond_not (eqb w due) n 0)
    (numbers_when (not (eqb w due)) (w ≡ due → ⊥) n place (λ t. eqb-false _ _ (not_true _ t)) (λ ne. ap not (ne_eqb _ _ ne)) positive)

unlike_before : (w due n place : ℕ) (rest : Row) (m : ℕ) → (n ≡ 0 → ⊥) → Numbers rest m place
    → Numbers (when (w ≡ due → ⊥) n place before rest) (cond (eqb w due) m n) place
unlike_before w due n place rest m positive k =
    subst (λ (r : ℕ). Numbers (when (w ≡ due → ⊥) n place before rest) r place) (cond_not (eqb w due) n m)
    (numbers_before (not (eqb w due)) (w ≡ due → ⊥) n place rest m (λ t. eqb-false _ _ (not_true _ t)) (λ ne. ap not (ne_eqb _ _ ne)) positive k)

where_numbers : (due : What) (w place : ℕ) → Numbers (where_refusals due w place) (wrong_where due w) place
where_numbers (Exactly word) w place = numbers_unlike w word no_fill place (λ z. omega arith)
where_numbers Header w place = numbers_unlike w (header_of (w % 256)) bad_parity place (λ z. omega arith)
where_numbers (Count room) w place =
    unlike_before w (header_of (w % 256)) bad_parity place _ _ (λ z. omega arith)
    (numbers_when (ltb room (w % 256)) (room < w % 256) packet_past place (ltb-true _ _) (lt-ltb _ _) (λ z. omega arith))
where_numbers User w place = numbers_when _ _ reserved place (reserved_test w).0 (reserved_test w).1 (λ z. omega arith)
where_numbers (Checksum word) w place = numbers_unlike w word bad_checksum place (λ z. omega arith)

-- what the number of a word's fault says of the word's rows: for a table of more than these
pub place_numbers : (due : What) (w place : ℕ) → Numbers (place_refusals due w place) (fault_where due w) place
unfolding fault_where
place_numbers due w place =
    numbers_before (ltb most_word w) (most_word < w) over_ten place _ _ (ltb-true _ _) (lt-ltb _ _) (λ z. omega arith) (where_numbers due w place)

-- the word by itself
pub place_exact : (due : What) (w place : ℕ)
    → Keeps (place_refusals due w place) (record { number = fault_where due w; place = cond (eqb (fault_where due w) 0) 0 place })
place_exact due w place = told (fault_where due w) (place_numbers due w place)
  where
    told : (n : ℕ) → Numbers (place_refusals due w place) n place
        → Keeps (place_refusals due w place) (record { number = n; place = cond (eqb n 0) 0 place })
    told n k =
        by_test (eqb n 0)
        (λ t. inr (k.silent (eqb-true _ _ t), simp t (ap (λ (m : ℕ). record { number = m; place = 0 }) (eqb-true _ _ t))))
        (λ t. simp t (inl (k.asked (eqb-false _ _ t), eqb-false _ _ t)))

pub place_decides : (due : What) (w place : ℕ) → Decides (place_refusals due w place)
place_decides due w place = decides_before _ _ (decides_when (most_word < w) over_ten place) (by_due due)
  where
    by_due : (due : What) → Decides (where_refusals due w place)
    by_due (Exactly word) = decides_when (w ≡ word → ⊥) no_fill place
    by_due Header = decides_when (BadParity w) bad_parity place
    by_due (Count room) =
        decides_before _ _ (decides_when (BadParity w) bad_parity place) (decides_when (room < w % 256) packet_past place)
    by_due User = decides_when ((w < least_sample) ⊎ (most_sample < w)) reserved place
    by_due (Checksum word) = decides_when (w ≡ word → ⊥) bad_checksum place

-- ---- ready words: the lowest offset of the line with any fault
module _ (start : ℕ) (ready : List ℕ) where
  abbrev at_offset : ℕ → Row
  at_offset i r =
      (start ≤ i) × place_refusals (due_at (word_at ready) 0 (length ready) no_word no_word (i - start)) (word_at ready (i - start)) i r

  -- below the first offset nothing is asked for, so nothing is wrong there
  abbrev from_offset : ℕ → ℕ
  from_offset i = cond (ltb i start) 0 (ready_fault ready start i)

  offset_numbers : (i : ℕ) → Numbers (at_offset i) (from_offset i) i
  unfolding fault_at
  offset_numbers i =
      by_cond (λ n. Numbers (at_offset i) n i) (ltb i start) 0 (ready_fault ready start i)
      (λ t. record { silent = λ z r q. let l = ltb-true i start t in omega (arith, q.0); asked = λ b. absurd (b refl) })
      (λ t.
      let k = place_numbers (due_at (word_at ready) 0 (length ready) no_word no_word (i - start)) (word_at ready (i - start)) i in
      record { silent = λ z r q. k.silent z r q.1; asked = λ b. (ltb-false _ _ t, k.asked b) })

  below : (i : ℕ) → i < start → from_offset i ≡ 0
  below i l = simp (lt-ltb _ _ l)

  beyond : (i : ℕ) → start ≤ i → from_offset i ≡ ready_fault ready start i
  beyond i l = by_test (ltb i start) (λ t. absurd (never (ltb-true _ _ t))) (λ t. simp t)
    where
      never : i < start → ⊥
      never m = omega arith

  as_one : first_from from_offset 0 (start + length ready) ≡ ready_refusal start ready
  unfolding ready_refusal
  as_one =
      let e : 0 + start ≡ start = omega arith in
      from_later from_offset start 0 (length ready) (λ j l m. below j (omega arith))
      ∙ ap (λ (i : ℕ). first_from from_offset i (length ready)) e
      ∙ from_same from_offset (ready_fault ready start) (length ready) start (λ j l m. beyond j l)

  pub ready_exact : Keeps (ready_refusals start ready) (ready_refusal start ready)
  ready_exact =
      subst (Keeps (ready_refusals start ready)) as_one
      (keeps_lowest at_offset from_offset (start + length ready) (λ j l. offset_numbers j))

  pub ready_decides : Decides (ready_refusals start ready)
  ready_decides =
      decides_lowest (start + length ready) at_offset (λ i r s x y.
      place_decides (due_at (word_at ready) 0 (length ready) no_word no_word (i - start)) (word_at ready (i - start)) i r s x.1 y.1)

-- ---- two results that the contract allows for one input are the same
pub judge_space_one_result : (words : List ℕ) (start end even odd : ℕ) (r s : Space) → r ≡ space_of words start end even odd
    → s ≡ space_of words start end even odd → r ≡ s
judge_space_one_result words start end even odd r s e f = e ∙ sym f
