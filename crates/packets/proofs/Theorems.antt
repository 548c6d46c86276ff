-- What is written reads without a fault, what reads without a fault is written, and no two lists of packets are written alike.
-- Assumes nothing.
use Prim.Native.Nat.{ℕ, zero, suc, ◌+◌, ◌-◌, ◌%◌, ◌<◌, ◌≤◌}
use mathlib.Core.Path.{◌≡◌, refl, sym, ap, subst, ◌∙◌}
use mathlib.Core.List.{List, [], ◌∷◌}
use mathlib.Core.Bool.{true, false, cond, true≢false}
use native.Mathlib.Omega.{arith}
use lib.Dec.{ltb, eqb}
use lib.ListN.{length, get_or}
use lib.Seq.{ext_get_or}
use borrow.Author.Tests.{ltb-true, ltb-false}
use Rattle.refusal.proofs.Cases.{by_test, by_cond}
use Rattle.words.specs.Words.{most_word}
use Rattle.packets.specs.Packet.{header_of, Packet, WellFormed, AllWell, packet_words, size_of, sizes_of, fill_word, space_words, Stands, Writing}
use Rattle.packets.specs.Due.{starts_at, size_at, due_in, holder_at, due_at}
use Rattle.packets.specs.Fault.{fault_where, fault_at, space_to}
use Rattle.packets.proofs.Openings.{started}
use Rattle.packets.proofs.Walks.{Quiet, space_none, space_back}
use Rattle.packets.proofs.Shifts.{holder_fill, due_fill, holder_after, due_in_is, due_after}
use Rattle.packets.proofs.Numbers.{header_low, exactly_well, exactly_told}
use Rattle.packets.proofs.Layouts.{stands_left, stands_right, stands_join, length_fill, get_d_fill}
use Rattle.packets.proofs.Written.{length_words, PacketAt, packet_at, stands_at, written_starts, written_count, written_well, read_at, read_size, read_fits, read_well, read_at_is}

module _ (word : ℕ → ℕ) (stop even odd : ℕ) where
  -- ---- a writing, packet by packet
  module _ (start : ℕ) (w : Writing word start stop even odd []) where
    pub filled : (i : ℕ) → start ≤ i → i < stop → word i ≡ fill_word even odd i
    unfolding space_words
    filled i l m =
        let e : start + (i - start) ≡ i = omega arith in
        let n : i - start < stop - start = omega arith in
        rw e at
        (w.stands (i - start) (omega (arith, length_fill even odd (stop - start) start)) ∙ get_d_fill even odd (stop - start) start (i - start) n)

    -- no packet starts in fill: its words at two offsets of one parity are the same
    no_start : starts_at word stop start ≡ false
    no_start = by_test (starts_at word stop start) (λ t. absurd (never t)) (λ t. t)
      where
        never : starts_at word stop start ≡ true → ⊥
        never t =
            let s = started word stop start t in
            let e : (start + 2) % 2 ≡ start % 2 = omega arith in
            let f : fill_word even odd (start + 2) ≡ fill_word even odd start = ap (λ (r : ℕ). cond (eqb r 0) even odd) e in
            let a = filled start (omega arith) (omega (arith, s.room)) in
            let b = filled (start + 2) (omega arith) (omega (arith, s.room)) in
            omega (arith, a, b, f, s.first, s.third)

  module _ (start : ℕ) (k : Packet) (ks : List Packet) (w : Writing word start stop even odd (k ∷ ks)) where
    head_at : PacketAt word start k
    unfolding space_words
    head_at = packet_at word start k (stands_left word start (packet_words k) _ w.stands)

    head_fits : start + size_of k ≤ stop
    unfolding sizes_of
    head_fits = omega (arith, w.fits)

    head_starts : starts_at word stop start ≡ true
    head_starts = written_starts word start k stop w.well.0 head_at head_fits

    head_size : size_at word start ≡ size_of k
    head_size = ap (λ (n : ℕ). 7 + n) (written_count word start k stop w.well.0 head_at head_fits)

    pub tail : Writing word (start + size_of k) stop even odd ks
    unfolding space_words sizes_of
    tail =
        record {
          well = w.well.1;
          fits = omega (arith, w.fits);
          stands = subst (λ (n : ℕ). Stands word (start + n) (space_words even odd (start + size_of k) stop ks)) (length_words k)
              (stands_right word start (packet_words k) (space_words even odd (start + size_of k) stop ks) w.stands);
        }

  -- ---- (a) what is written has no fault
  record Clean (start : ℕ) (ks : List Packet) : Type 0 where
    quiet : Quiet word start stop even odd stop
    ends : holder_at word start stop (stop - start) ≡ start + sizes_of ks

  -- where fill follows, it is of ten bits
  clean : (ks : List Packet) (start : ℕ) → ((i : ℕ) → start + sizes_of ks ≤ i → i < stop → fill_word even odd i ≤ most_word)
      → Writing word start stop even odd ks → Clean start ks
  unfolding fault_at sizes_of
  clean [] start h w =
      record {
        quiet = λ i l m.
            rw (due_fill word start stop (no_start start w) even odd i)
            (exactly_well (fill_word even odd i) _ (h i (omega arith) m) (filled start w i l m));
        ends = holder_fill word start stop (no_start start w) (stop - start) ∙ (let e : start ≡ start + 0 = omega arith in e);
      }
  clean (k ∷ ks) start h w =
      let t = head_starts start k ks w in
      let size = head_size start k ks w in
      let fits = head_fits start k ks w in
      let rest = clean ks (start + size_of k) (λ i l m. h i (omega arith) m) (tail start k ks w) in
      record {
        quiet = λ i l m.
            by_test (ltb i (start + size_at word start))
            (λ u.
            let q = ltb-true i (start + size_at word start) u in
            let e : start + (i - start) ≡ i = omega arith in
            let d = due_in_is word start stop t even odd (i - start) (omega arith) in
            let f = written_well word start k stop w.well.0 (head_at start k ks w) fits (i - start) (omega arith) in
            subst (λ (j : ℕ). fault_where (due_at word start stop even odd j) (word j) ≡ 0) e (rw d f))
            (λ u.
            let q = ltb-false i (start + size_at word start) u in
            rw (due_after word start stop t even odd i q, size) (rest.quiet i (omega arith) m));
        ends =
            (let n : stop - start ≡ size_at word start + (stop - (start + size_at word start)) = omega arith in
            ap (holder_at word start stop) n ∙ holder_after word start stop t (stop - (start + size_at word start))
            ∙ ap (λ (n : ℕ). holder_at word (start + n) stop (stop - (start + n))) size ∙ rest.ends
            ∙ (let e : start + size_of k + sizes_of ks ≡ start + (size_of k + sizes_of ks) = omega arith in e));
      }

  -- "for any list of well-formed packets whose words fit, written from start and followed by fill, the space has no fault and counts
  -- exactly those words"
  pub written_counts : (ks : List Packet) (start : ℕ) → ((i : ℕ) → start + sizes_of ks ≤ i → i < stop → fill_word even odd i ≤ most_word)
      → Writing word start stop even odd ks → space_to word start stop even odd ≡ record { number = 0; place = 0; packets = sizes_of ks }
  written_counts ks start h w =
      let c = clean ks start h w in
      space_none word start stop even odd c.quiet
      ∙ ap (λ (n : ℕ). record { number = 0; place = 0; packets = n })
      (ap (λ (n : ℕ). n - start) c.ends ∙ (let e : start + sizes_of ks - start ≡ sizes_of ks = omega arith in e))

  pub written_reads : even ≤ most_word → odd ≤ most_word → (ks : List Packet) (start : ℕ) → Writing word start stop even odd ks
      → space_to word start stop even odd ≡ record { number = 0; place = 0; packets = sizes_of ks }
  written_reads he ho ks start w =
      written_counts ks start (λ i l m. by_cond (λ (n : ℕ). n ≤ most_word) (eqb (i % 2) 0) even odd (λ t. he) (λ t. ho)) w

  -- ---- (b) what has no fault is written
  pub record Written (start : ℕ) : Type 0 where
    pub packets : List Packet
    pub writing : Writing word start stop even odd packets

  no_packets : (start : ℕ) → start ≤ stop → starts_at word stop start ≡ false → Quiet word start stop even odd stop → Written start
  unfolding fault_at space_words sizes_of
  no_packets start l f q =
      record {
        packets = [];
        writing = record {
          well = tt;
          fits = omega arith;
          stands = λ j m.
              let n : j < stop - start = omega (arith, length_fill even odd (stop - start) start) in
              exactly_told _ _ (rw (due_fill word start stop f even odd (start + j)) at (q (start + j) (omega arith) (omega arith)))
              ∙ sym (get_d_fill even odd (stop - start) start j n);
        };
      }

  module _ (start : ℕ) (t : starts_at word stop start ≡ true) (q : Quiet word start stop even odd stop) where
    in_packet : (j : ℕ) → j < size_at word start → start + j < stop → fault_where (due_in word stop start j) (word (start + j)) ≡ 0
    unfolding fault_at
    in_packet j l m = rw (due_in_is word start stop t even odd j l) at (q (start + j) (omega arith) m)

    after_packet : Quiet word (start + size_of (read_at word start)) stop even odd stop
    unfolding fault_at
    after_packet i l m =
        let size = read_size word stop start t in_packet in
        let g : start + size_at word start ≤ i = omega arith in
        subst (λ (n : ℕ). fault_where (due_at word (start + n) stop even odd i) (word i) ≡ 0) (sym size)
        (rw (due_after word start stop t even odd i g) at (q i (omega arith) m))

    one_more : Written (start + size_of (read_at word start)) → Written start
    unfolding space_words sizes_of
    one_more r =
        let k = read_at word start in
        record {
          packets = k ∷ r.packets;
          writing = record {
            well = (read_well word stop start t in_packet, r.writing.well);
            fits = omega (arith, r.writing.fits);
            stands = stands_join word start (packet_words k) (space_words even odd (start + size_of k) stop r.packets)
                (stands_at word start k (read_at_is word stop start t in_packet))
                (subst (λ (n : ℕ). Stands word (start + n) (space_words even odd (start + size_of k) stop r.packets)) (sym (length_words k))
                r.writing.stands);
          };
        }

  read_from : (m start : ℕ) → stop - start ≤ m → start ≤ stop → Quiet word start stop even odd stop → Written start
  read_from zero start n l q =
      by_test (starts_at word stop start) (λ t. absurd (never t)) (λ f. no_packets start l f q)
    where
      never : starts_at word stop start ≡ true → ⊥
      never t = omega (arith, (started word stop start t).room)
  read_from (suc m) start n l q =
      by_test (starts_at word stop start)
      (λ t.
      let size = read_size word stop start t (in_packet start t q) in
      let fits = read_fits word stop start t (in_packet start t q) in
      one_more start t q
      (read_from m (start + size_of (read_at word start)) (omega arith) (omega arith) (after_packet start t q)))
      (λ f. no_packets start l f q)

  -- "a space with no fault is the writing of some such list of packets followed by fill"
  pub read_is_written : (start : ℕ) → start ≤ stop → (space_to word start stop even odd).number ≡ 0 → Written start
  read_is_written start l e = read_from (stop - start) start (omega arith) l (space_back word start stop even odd e)

  -- ---- (c) one space is the writing of one list of packets only
  module _ (p : ℕ) (k l : Packet) (wk : WellFormed k) (wl : WellFormed l) (a : PacketAt word p k) (b : PacketAt word p l) where
    same_byte : (m n w : ℕ) → m < 256 → n < 256 → w ≡ header_of m → w ≡ header_of n → m ≡ n
    same_byte m n w hm hn e f = sym (header_low m hm) ∙ ap (λ (v : ℕ). v % 256) (sym e ∙ f) ∙ header_low n hn

    same_count : length k.users ≡ length l.users
    same_count = same_byte _ _ _ (omega (arith, wk.count_byte)) (omega (arith, wl.count_byte)) a.count b.count

    same_users : k.users ≡ l.users
    same_users =
        ext_get_or 0 k.users l.users same_count (λ j m. sym (a.user j m) ∙ b.user j (omega (arith, same_count)))

    same_packet : k ≡ l
    same_packet =
        ap (λ (n : ℕ). record { did = n; second = k.second; users = k.users }) (same_byte _ _ _ wk.did_byte wl.did_byte a.did b.did)
        ∙ ap (λ (n : ℕ). record { did = l.did; second = n; users = k.users }) (same_byte _ _ _ wk.second_byte wl.second_byte a.sdid b.sdid)
        ∙ ap (λ (us : List ℕ). record { did = l.did; second = l.second; users = us }) same_users

  pub one_list : (ks ls : List Packet) (start : ℕ) → Writing word start stop even odd ks → Writing word start stop even odd ls → ks ≡ ls
  one_list [] [] start v w = refl
  one_list [] (l ∷ ls) start v w = absurd (true≢false (sym (head_starts start l ls w) ∙ no_start start v))
  one_list (k ∷ ks) [] start v w = absurd (true≢false (sym (head_starts start k ks v) ∙ no_start start w))
  one_list (k ∷ ks) (l ∷ ls) start v w =
      let e = same_packet start k l v.well.0 w.well.0 (head_at start k ks v) (head_at start l ls w) in
      let v' = subst (λ (m : Packet). Writing word (start + size_of m) stop even odd ks) e (tail start k ks v) in
      ap (λ (m : Packet). m ∷ ks) e ∙ ap (λ (ms : List Packet). l ∷ ms) (one_list ks ls (start + size_of l) v' (tail start l ls w))

-- "two different lists of packets are written differently"
pub written_apart : (even odd start stop : ℕ) (ks ls : List Packet) → AllWell ks → AllWell ls → start + sizes_of ks ≤ stop → start + sizes_of ls ≤ stop
    → space_words even odd start stop ks ≡ space_words even odd start stop ls → ks ≡ ls
written_apart even odd start stop ks ls wk wl fk fl e =
    let word : ℕ → ℕ = λ i. get_or (space_words even odd start stop ks) (i - start) 0 in
    let stands : Stands word start (space_words even odd start stop ks) = λ j m. ap (λ (n : ℕ). get_or (space_words even odd start stop ks) n 0) (same start j) in
    one_list word stop even odd ks ls start (record { well = wk; fits = fk; stands = stands })
    (record { well = wl; fits = fl; stands = subst (λ (l : List ℕ). Stands word start l) e stands })
  where
    same : (i j : ℕ) → i + j - i ≡ j
    same i j = omega arith
