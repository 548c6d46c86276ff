-- The writer's ready words: judged as a space of just their length, with a fill that no word is, they are packets and nothing else, so a
-- longer space of them and fill reads without a fault; and the packets of a space that reads without a fault are such ready words.
-- Assumes nothing.
use Prim.Native.Nat.{ℕ, ◌+◌, ◌-◌, ◌%◌, ◌<◌, ◌≤◌}
use mathlib.Core.Path.{◌≡◌, refl, sym, ap, subst, ◌∙◌}
use mathlib.Core.List.{List, [], ◌∷◌}
use native.Mathlib.Omega.{arith}
use lib.Dec.{ltb, eqb}
use lib.ListN.{length}
use borrow.Author.Tests.{ltb-true, ltb-false, eqb-true, eqb-false}
use Rattle.refusal.specs.Answer.{none, first_from}
use Rattle.refusal.proofs.Cases.{by_test, by_cond}
use Rattle.refusal.proofs.Firsts.{same_number}
use Rattle.words.specs.Words.{most_word}
use Rattle.packets.specs.Packet.{Packet, packet_words, size_of, sizes_of, fill_word, space_words, Stands, Writing}
use Rattle.packets.specs.Due.{due_at}
use Rattle.packets.specs.Fault.{Space, word_at, fault_at, space_to, no_word, ready_fault, ready_refusal}
use Rattle.packets.proofs.Froms.{from_none, from_moved}
use Rattle.packets.proofs.Walks.{space_back}
use Rattle.packets.proofs.Numbers.{at_most_ten}
use Rattle.packets.proofs.Layouts.{stands_left, stands_join, length_fill, get_d_fill}
use Rattle.packets.proofs.Written.{length_words}
use Rattle.packets.proofs.Theorems.{filled, tail, written_counts, written_reads, Written, read_is_written}

module _ (word : ℕ → ℕ) (stop even odd : ℕ) where
  -- fill follows the packets of a writing
  pub fill_follows : (ks : List Packet) (start : ℕ) → Writing word start stop even odd ks
      → (i : ℕ) → start + sizes_of ks ≤ i → i < stop → word i ≡ fill_word even odd i
  unfolding sizes_of
  fill_follows [] start w i l m = filled word stop even odd start w i (omega arith) m
  fill_follows (k ∷ ks) start w i l m = fill_follows ks (start + size_of k) (tail word stop even odd start k ks w) i (omega arith) m

-- the same packets in another place of another line, with another fill behind them
pub moved : (u v : ℕ → ℕ) (stop even odd stop' even' odd' : ℕ) (ks : List Packet) (a b : ℕ) → Writing u a stop even odd ks → b + sizes_of ks ≤ stop'
    → ((j : ℕ) → j < sizes_of ks → v (b + j) ≡ u (a + j))
    → ((i : ℕ) → b + sizes_of ks ≤ i → i < stop' → v i ≡ fill_word even' odd' i) → Writing v b stop' even' odd' ks
unfolding sizes_of space_words
moved u v stop even odd stop' even' odd' [] a b w fits same f =
    record {
      well = tt;
      fits = fits;
      stands = λ j m.
          let n : j < stop' - b = omega (arith, length_fill even' odd' (stop' - b) b) in
          f (b + j) (omega arith) (omega arith) ∙ sym (get_d_fill even' odd' (stop' - b) b j n);
    }
moved u v stop even odd stop' even' odd' (k ∷ ks) a b w fits same f =
    let later : (j : ℕ) → j < sizes_of ks → v (b + size_of k + j) ≡ u (a + size_of k + j) = λ j l.
    let e : b + size_of k + j ≡ b + (size_of k + j) = omega arith in
    let g : a + (size_of k + j) ≡ a + size_of k + j = omega arith in
    ap v e ∙ same (size_of k + j) (omega arith) ∙ ap u g in
    let rest = moved u v stop even odd stop' even' odd' ks (a + size_of k) (b + size_of k) (tail u stop even odd a k ks w) (omega arith)
    later (λ i l m. f i (omega arith) m) in
    record {
      well = w.well;
      fits = fits;
      stands = stands_join v b (packet_words k) (space_words even' odd' (b + size_of k) stop' ks)
          (λ j m. same j (omega (arith, length_words k)) ∙ stands_left u a (packet_words k) (space_words even odd (a + size_of k) stop ks) w.stands j m)
          (subst (λ (n : ℕ). Stands v (b + n) (space_words even' odd' (b + size_of k) stop' ks)) (sym (length_words k)) rest.stands);
    }

-- ---- ready words as a space of their own: its answer, at the offsets of the line
abbrev pub ready_space : List ℕ → Space
ready_space ready = space_to (word_at ready) 0 (length ready) no_word no_word

module _ (start : ℕ) (ready : List ℕ) where
  pub ready_none : (ready_space ready).number ≡ 0 → ready_refusal start ready ≡ none
  unfolding ready_refusal
  ready_none e =
      from_none (ready_fault ready start) (length ready) start
      (λ j l m. space_back (word_at ready) 0 (length ready) no_word no_word e (j - start) (omega arith) (omega arith))

  pub ready_at : ((ready_space ready).number ≡ 0 → ⊥)
      → ready_refusal start ready ≡ record { number = (ready_space ready).number; place = start + (ready_space ready).place }
  unfolding ready_refusal space_to
  ready_at b =
      let e : start ≡ start + 0 = omega arith in
      let n : length ready - 0 ≡ length ready = omega arith in
      ap (λ (i : ℕ). first_from (ready_fault ready start) i (length ready)) e
      ∙ rw n (from_moved (fault_at (word_at ready) 0 (length ready) no_word no_word) start (length ready) 0 (rw n at b))

  pub ready_number : (ready_refusal start ready).number ≡ (ready_space ready).number
  ready_number =
      by_test (eqb (ready_space ready).number 0)
      (λ t. same_number (ready_none (eqb-true _ _ t)) ∙ sym (eqb-true _ _ t))
      (λ t. same_number (ready_at (eqb-false _ _ t)))

  pub ready_none_back : (ready_refusal start ready).number ≡ 0 → (ready_space ready).number ≡ 0
  ready_none_back e = sym ready_number ∙ e

-- "then they are judged as a space of just their length, by line offsets, with 10 wherever no packet starts": where nothing is wrong with
-- them they stand in a line, and fill behind them, without a fault.
module _ (at : ℕ) (ready : List ℕ) (e : (ready_refusal at ready).number ≡ 0) where
  pub ready_written : Written (word_at ready) (length ready) no_word no_word 0
  ready_written = read_is_written (word_at ready) (length ready) no_word no_word 0 (omega arith) (ready_none_back at ready e)

  pub all_packets : sizes_of ready_written.packets ≡ length ready
  unfolding fault_at
  all_packets =
      by_test (ltb (sizes_of ready_written.packets) (length ready))
      (λ t. absurd (never (ltb-true _ _ t)))
      (λ t. omega (arith, ltb-false (sizes_of ready_written.packets) (length ready) t, ready_written.writing.fits))
    where
      never : sizes_of ready_written.packets < length ready → ⊥
      never m =
          let i : ℕ = sizes_of ready_written.packets in
          let w : word_at ready i ≡ no_word =
          fill_follows (word_at ready) (length ready) no_word no_word ready_written.packets 0 ready_written.writing i (omega arith) m
          ∙ by_cond (λ (n : ℕ). n ≡ no_word) (eqb (i % 2) 0) no_word no_word (λ t. refl) (λ t. refl) in
          let z = space_back (word_at ready) 0 (length ready) no_word no_word (ready_none_back at ready e) i (omega arith) m in
          omega (arith, (at_most_ten (due_at (word_at ready) 0 (length ready) no_word no_word i) (word_at ready i) z).0)

  pub ready_reads : (word : ℕ → ℕ) (start stop even odd : ℕ) → even ≤ most_word → odd ≤ most_word → start + length ready ≤ stop
      → Stands word start ready → ((i : ℕ) → start + length ready ≤ i → i < stop → word i ≡ fill_word even odd i)
      → space_to word start stop even odd ≡ record { number = 0; place = 0; packets = length ready }
  ready_reads word start stop even odd he ho fits s f =
      let n = all_packets in
      written_reads word stop even odd he ho ready_written.packets start
      (moved (word_at ready) word (length ready) no_word no_word stop even odd ready_written.packets 0 start ready_written.writing (omega arith)
      (λ j l. s j (omega arith) ∙ (let z : j ≡ 0 + j = omega arith in ap (word_at ready) z)) (λ i g h. f i (omega arith) h))
      ∙ rw n refl

-- ---- the other way: the packets of a space that reads without a fault are ready words, and fill follows them
pub record ReadReady (word : ℕ → ℕ) (start stop even odd : ℕ) : Type 0 where
  pub fits : start + (space_to word start stop even odd).packets ≤ stop
  pub ready : (at : ℕ) (words : List ℕ) → length words ≡ (space_to word start stop even odd).packets → Stands word start words
      → (ready_refusal at words).number ≡ 0
  pub fill : (i : ℕ) → start + (space_to word start stop even odd).packets ≤ i → i < stop → word i ≡ fill_word even odd i

module _ (word : ℕ → ℕ) (start stop even odd : ℕ) (l : start ≤ stop) (e : (space_to word start stop even odd).number ≡ 0) where
  abbrev written : Written word stop even odd start
  written = read_is_written word stop even odd start l e

  abbrev packets : List Packet
  packets = written.packets

  -- fill that stands without a fault is of ten bits
  fill_ten : (i : ℕ) → start + sizes_of packets ≤ i → i < stop → fill_word even odd i ≤ most_word
  unfolding fault_at
  fill_ten i g m =
      let w = fill_follows word stop even odd packets start written.writing i g m in
      let z = space_back word start stop even odd e i (omega arith) m in
      omega (arith, (at_most_ten (due_at word start stop even odd i) (word i) z).0)

  pub read_counts : (space_to word start stop even odd).packets ≡ sizes_of (read_is_written word stop even odd start l e).packets
  read_counts = ap (λ (s : Space). s.packets) (written_counts word stop even odd packets start fill_ten written.writing)

  packets_ready : (at : ℕ) (words : List ℕ) → length words ≡ (space_to word start stop even odd).packets → Stands word start words
      → (ready_refusal at words).number ≡ 0
  packets_ready at words n s =
      let size : sizes_of packets ≡ length words = omega (arith, read_counts) in
      let w = moved word (word_at words) stop even odd (length words) no_word no_word packets start 0 written.writing (omega arith)
      (λ j h. (let z : 0 + j ≡ j = omega arith in ap (word_at words) z) ∙ sym (s j (omega arith))) (λ i g h. absurd (omega arith)) in
      same_number (ready_none at words
      (ap (λ (q : Space). q.number) (written_counts (word_at words) (length words) no_word no_word packets 0 (λ i g h. absurd (omega arith)) w)))

  pub read_ready : ReadReady word start stop even odd
  read_ready =
      let n = read_counts in
      record {
        fits = omega (arith, written.writing.fits);
        ready = packets_ready;
        fill = λ i g m. fill_follows word stop even odd packets start written.writing i (omega arith) m;
      }
