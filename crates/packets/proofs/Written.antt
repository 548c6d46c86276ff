-- A packet that stands in a line: what is known of its words, either way. Assumes nothing.
use Prim.Native.Nat.{ℕ, zero, suc, ◌+◌, ◌-◌, ◌%◌, ◌<◌, ◌≤◌}
use mathlib.Core.Path.{◌≡◌, refl, sym, ap, ◌∙◌}
use mathlib.Core.List.{List, [], ◌∷◌, ◌++◌}
use mathlib.Core.Bool.{Bool, true, false}
use native.Mathlib.Omega.{arith}
use lib.Dec.{ltb}
use lib.ListN.{length, get_or, length-append, get_or-append}
use lib.Seq.{get_or-append-add, get_or-append_seam}
use borrow.Author.Tests.{ltb-true, ltb-false}
use Rattle.refusal.proofs.Cases.{by_test}
use Rattle.words.specs.Words.{most_word, least_sample, most_sample}
use Rattle.packets.specs.Packet.{header_of, checksum_of, Packet, WellFormed, sum_of, body_of, packet_words, size_of, Stands}
use Rattle.packets.specs.Due.{starts_at, count_at, size_at, sum_from, due_in}
use Rattle.packets.specs.Fault.{fault_where}
use Rattle.packets.proofs.Openings.{started, starts}
use Rattle.packets.proofs.Numbers.{header_low, exactly_well, checksum_well, header_well, count_well, user_well, checksum_told, header_told, count_told, user_told}
use Rattle.packets.proofs.Layouts.{sum_stands}
use Rattle.packets.proofs.Shifts.{user_due, checksum_due}

pub length_words : (k : Packet) → length (packet_words k) ≡ size_of k
unfolding packet_words
length_words k = omega (arith, length-append k.users (checksum_of (sum_of (body_of k)) ∷ []))

-- the words of a packet by their places
pub record PacketAt (word : ℕ → ℕ) (p : ℕ) (k : Packet) : Type 0 where
  pub first : word p ≡ 0
  pub second : word (p + 1) ≡ most_word
  pub third : word (p + 2) ≡ most_word
  pub did : word (p + 3) ≡ header_of k.did
  pub sdid : word (p + 4) ≡ header_of k.second
  pub count : word (p + 5) ≡ header_of (length k.users)
  pub user : (j : ℕ) → j < length k.users → word (p + 6 + j) ≡ get_or k.users j 0
  pub checksum : word (p + 6 + length k.users) ≡ checksum_of (sum_of (body_of k))

module _ (word : ℕ → ℕ) (p : ℕ) (k : Packet) where
  -- the six words before the user words
  abbrev front : List ℕ
  front = 0 ∷ most_word ∷ most_word ∷ header_of k.did ∷ header_of k.second ∷ header_of (length k.users) ∷ []

  abbrev last : ℕ
  last = checksum_of (sum_of (body_of k))

  pub packet_at : Stands word p (packet_words k) → PacketAt word p k
  unfolding packet_words
  packet_at s =
      let size = length_words k in
      record {
        first = (let e : p ≡ p + 0 = omega arith in ap word e ∙ s 0 (omega arith));
        second = s 1 (omega arith);
        third = s 2 (omega arith);
        did = s 3 (omega arith);
        sdid = s 4 (omega arith);
        count = s 5 (omega arith);
        user = λ j l. past j (omega arith) ∙ get_or-append k.users (last ∷ []) 0 j l;
        checksum = past (length k.users) (omega arith) ∙ get_or-append_seam k.users last [] 0;
      }
    where
      past : (j : ℕ) → 6 + j < length (packet_words k) → word (p + 6 + j) ≡ get_or (k.users ++ last ∷ []) j 0
      past j l =
          let e : p + 6 + j ≡ p + (6 + j) = omega arith in
          ap word e ∙ s (6 + j) l ∙ get_or-append-add front (k.users ++ last ∷ []) j 0

  pub stands_at : PacketAt word p k → Stands word p (packet_words k)
  unfolding packet_words
  stands_at a zero l = let e : p + 0 ≡ p = omega arith in ap word e ∙ a.first
  stands_at a (suc zero) l = a.second
  stands_at a (suc (suc zero)) l = a.third
  stands_at a (suc (suc (suc zero))) l = a.did
  stands_at a (suc (suc (suc (suc zero)))) l = a.sdid
  stands_at a (suc (suc (suc (suc (suc zero))))) l = a.count
  stands_at a (suc (suc (suc (suc (suc (suc j)))))) l =
      by_test (ltb j (length k.users))
      (λ t. ap word place ∙ a.user j (ltb-true _ _ t) ∙ sym (get_or-append k.users (last ∷ []) 0 j (ltb-true _ _ t)))
      (λ t. let e = end (ltb-false _ _ t) in
      rw e (ap word place' ∙ a.checksum ∙ sym (get_or-append_seam k.users last [] 0)))
    where
      place : p + suc (suc (suc (suc (suc (suc j))))) ≡ p + 6 + j
      place = omega arith

      place' : p + suc (suc (suc (suc (suc (suc (length k.users)))))) ≡ p + 6 + length k.users
      place' = omega arith

      end : length k.users ≤ j → j ≡ length k.users
      end m = omega (arith, length-append k.users (last ∷ []))

  -- the words that the checksum covers
  body : word (p + 3) ≡ header_of k.did → word (p + 4) ≡ header_of k.second → word (p + 5) ≡ header_of (length k.users)
      → ((j : ℕ) → j < length k.users → word (p + 6 + j) ≡ get_or k.users j 0) → Stands word (p + 3) (body_of k)
  body d s c u zero l = let e : p + 3 + 0 ≡ p + 3 = omega arith in ap word e ∙ d
  body d s c u (suc zero) l = let e : p + 3 + 1 ≡ p + 4 = omega arith in ap word e ∙ s
  body d s c u (suc (suc zero)) l = let e : p + 3 + 2 ≡ p + 5 = omega arith in ap word e ∙ c
  body d s c u (suc (suc (suc j))) l = let e : p + 3 + suc (suc (suc j)) ≡ p + 6 + j = omega arith in ap word e ∙ u j (omega arith)

  -- ---- a packet that is written has no fault
  module _ (stop : ℕ) (w : WellFormed k) (a : PacketAt word p k) (fits : p + size_of k ≤ stop) where
    pub written_starts : starts_at word stop p ≡ true
    written_starts =
        starts word stop p (record { room = omega arith; first = a.first; second = a.second; third = a.third })

    pub written_count : count_at word p ≡ length k.users
    written_count = ap (λ (n : ℕ). n % 256) a.count ∙ header_low (length k.users) (omega (arith, w.count_byte))

    written_sum : sum_from word (p + 3) (3 + count_at word p) ≡ sum_of (body_of k)
    written_sum =
        let e : 3 + count_at word p ≡ length (body_of k) = omega (arith, written_count) in
        ap (sum_from word (p + 3)) e ∙ sum_stands word (body_of k) (p + 3) (body a.did a.sdid a.count a.user)

    pub written_well : (j : ℕ) → j < size_at word p → fault_where (due_in word stop p j) (word (p + j)) ≡ 0
    unfolding due_in
    written_well zero l = exactly_well 0 _ (omega arith) (let e : p + 0 ≡ p = omega arith in ap word e ∙ a.first)
    written_well (suc zero) l = exactly_well most_word _ (omega arith) a.second
    written_well (suc (suc zero)) l = exactly_well most_word _ (omega arith) a.third
    written_well (suc (suc (suc zero))) l = header_well k.did _ w.did_byte a.did
    written_well (suc (suc (suc (suc zero)))) l = header_well k.second _ w.second_byte a.sdid
    written_well (suc (suc (suc (suc (suc zero))))) l =
        count_well (stop - (p + 7)) (length k.users) _ (omega (arith, w.count_byte)) (omega arith) a.count
    written_well (suc (suc (suc (suc (suc (suc j)))))) l = late (ltb j (length k.users)) refl
      where
        n : suc (suc (suc (suc (suc (suc j))))) ≡ 6 + j
        n = omega arith

        place : p + (6 + j) ≡ p + 6 + j
        place = omega arith

        late : (t : Bool) → ltb j (length k.users) ≡ t
            → fault_where (due_in word stop p (suc (suc (suc (suc (suc (suc j))))))) (word (p + suc (suc (suc (suc (suc (suc j))))))) ≡ 0
        late true t =
            let m = ltb-true j (length k.users) t in
            let s = w.users_inside j m in
            let e = a.user j m in
            rw (n, place) (rw (user_due word stop p j (omega (arith, written_count)), e) (user_well _ s.0 s.1))
        late false t =
            let m : j ≡ count_at word p = omega (arith, ltb-false j (length k.users) t, written_count) in
            let e : word (p + 6 + count_at word p) ≡ checksum_of (sum_of (body_of k)) =
            ap (λ (i : ℕ). word (p + 6 + i)) written_count ∙ a.checksum in
            rw (n, place) (rw m (rw (checksum_due word stop p, written_sum) (checksum_well _ _ e)))

-- ---- where there is no fault, a packet is written
unfoldable pub words_from : (ℕ → ℕ) → ℕ → ℕ → List ℕ
words_from word i zero = []
words_from word i (suc n) = word i ∷ words_from word (suc i) n

length_from : (word : ℕ → ℕ) (n i : ℕ) → length (words_from word i n) ≡ n
unfolding words_from
length_from word zero i = refl
length_from word (suc n) i = ap suc (length_from word n (suc i))

get_d_from : (word : ℕ → ℕ) (n i j : ℕ) → j < n → get_or (words_from word i n) j 0 ≡ word (i + j)
unfolding words_from
get_d_from word zero i j l = absurd (omega arith)
get_d_from word (suc n) i zero l = let e : i ≡ i + 0 = omega arith in ap word e
get_d_from word (suc n) i (suc j) l =
    let e : suc i + j ≡ i + suc j = omega arith in get_d_from word n (suc i) j (omega arith) ∙ ap word e

-- the packet that is read at p
abbrev pub read_at : (ℕ → ℕ) → ℕ → Packet
read_at word p =
    record { did = word (p + 3) % 256; second = word (p + 4) % 256; users = words_from word (p + 6) (count_at word p) }

module _ (word : ℕ → ℕ) (stop p : ℕ) (t : starts_at word stop p ≡ true)
    (quiet : (j : ℕ) → j < size_at word p → p + j < stop → fault_where (due_in word stop p j) (word (p + j)) ≡ 0) where
  counted : (word (p + 5) ≡ header_of (word (p + 5) % 256)) × (count_at word p ≤ stop - (p + 7))
  unfolding due_in
  counted = count_told _ _ (quiet 5 (omega arith) (omega (arith, (started word stop p t).room)))

  pub read_size : size_of (read_at word p) ≡ size_at word p
  read_size = ap (λ (n : ℕ). 7 + n) (length_from word (count_at word p) (p + 6))

  pub read_fits : p + size_at word p ≤ stop
  read_fits = omega (arith, counted.1, (started word stop p t).room)

  read_user : (j : ℕ) → j < count_at word p → (least_sample ≤ word (p + 6 + j)) × (word (p + 6 + j) ≤ most_sample)
  read_user j l =
      let e : p + (6 + j) ≡ p + 6 + j = omega arith in
      user_told _ (rw (user_due word stop p j l, e) at (quiet (6 + j) (omega arith) (omega (arith, read_fits))))

  pub read_well : WellFormed (read_at word p)
  read_well =
      record {
        did_byte = omega arith;
        second_byte = omega arith;
        count_byte = omega (arith, length_from word (count_at word p) (p + 6));
        users_inside = λ j l.
            let m : j < count_at word p = omega (arith, length_from word (count_at word p) (p + 6)) in
            rw (get_d_from word (count_at word p) (p + 6) j m) (read_user j m);
      }

  read_checksum : word (p + 6 + count_at word p) ≡ checksum_of (sum_from word (p + 3) (3 + count_at word p))
  read_checksum =
      let e : p + (6 + count_at word p) ≡ p + 6 + count_at word p = omega arith in
      checksum_told _ _ (rw (checksum_due word stop p, e) at (quiet (6 + count_at word p) (omega arith) (omega (arith, read_fits))))

  pub read_at_is : PacketAt word p (read_at word p)
  unfolding due_in
  read_at_is =
      let s = started word stop p t in
      let size = length_from word (count_at word p) (p + 6) in
      let did = header_told _ (quiet 3 (omega arith) (omega (arith, read_fits))) in
      let sdid = header_told _ (quiet 4 (omega arith) (omega (arith, read_fits))) in
      let count : word (p + 5) ≡ header_of (length (read_at word p).users) = counted.0 ∙ ap header_of (sym size) in
      let user : (j : ℕ) → j < length (read_at word p).users → word (p + 6 + j) ≡ get_or (read_at word p).users j 0 =
      λ j l. sym (get_d_from word (count_at word p) (p + 6) j (omega (arith, size))) in
      record {
        first = s.first;
        second = s.second;
        third = s.third;
        did = did;
        sdid = sdid;
        count = count;
        user = user;
        checksum = ap (λ (n : ℕ). word (p + 6 + n)) size ∙ read_checksum ∙ ap checksum_of (sums did sdid count user);
      }
    where
      sums : word (p + 3) ≡ header_of (read_at word p).did → word (p + 4) ≡ header_of (read_at word p).second
          → word (p + 5) ≡ header_of (length (read_at word p).users)
          → ((j : ℕ) → j < length (read_at word p).users → word (p + 6 + j) ≡ get_or (read_at word p).users j 0)
          → sum_from word (p + 3) (3 + count_at word p) ≡ sum_of (body_of (read_at word p))
      sums d s c u =
          let e : 3 + count_at word p ≡ length (body_of (read_at word p)) = omega (arith, length_from word (count_at word p) (p + 6)) in
          ap (sum_from word (p + 3)) e ∙ sum_stands word (body_of (read_at word p)) (p + 3) (body word p (read_at word p) d s c u)
