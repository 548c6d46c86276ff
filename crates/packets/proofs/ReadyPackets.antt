-- Ready words without a fault are the words of well-formed packets one after another, of one list of them only, and such words are without
-- a fault. Assumes nothing.
use Prim.Native.Nat.{ℕ, ◌+◌, ◌-◌, ◌<◌}
use mathlib.Core.Path.{◌≡◌, refl, sym, ap, ◌∙◌}
use mathlib.Core.List.{List, [], ◌∷◌, ◌++◌}
use native.Mathlib.Omega.{arith}
use lib.ListN.{length, get_or, length-append}
use lib.Seq.{ext_get_or}
use Rattle.refusal.proofs.Firsts.{same_number}
use Rattle.packets.specs.Packet.{Packet, AllWell, packet_words, size_of, sizes_of, packets_words, fill_from, space_words}
use Rattle.packets.specs.Fault.{Space, word_at, no_word, ready_refusal}
use Rattle.packets.proofs.Written.{length_words}
use Rattle.packets.proofs.Theorems.{written_counts, written_apart}
use Rattle.packets.proofs.Ready.{ready_none, ready_written, all_packets}

pub length_packets : (ks : List Packet) → length (packets_words ks) ≡ sizes_of ks
unfolding packets_words sizes_of
length_packets [] = refl
length_packets (k ∷ ks) = omega (arith, length-append (packet_words k) (packets_words ks), length_words k, length_packets ks)

-- a space that packets fill holds their words and no fill
pub space_of_packets : (even odd : ℕ) (ks : List Packet) (start stop : ℕ) → start + sizes_of ks ≡ stop → space_words even odd start stop ks ≡ packets_words ks
unfolding space_words packets_words sizes_of
space_of_packets even odd [] start stop e =
    let n : stop - start ≡ 0 = omega arith in
    ap (fill_from even odd start) n
space_of_packets even odd (k ∷ ks) start stop e =
    ap (λ (l : List ℕ). packet_words k ++ l) (space_of_packets even odd ks (start + size_of k) stop (omega arith))

-- ready words that are packets
pub record ReadyPackets (ready : List ℕ) : Type 0 where
  pub packets : List Packet
  pub well : AllWell packets
  pub words : ready ≡ packets_words packets

module _ (at : ℕ) (ready : List ℕ) (e : (ready_refusal at ready).number ≡ 0) where
  abbrev ks : List Packet
  ks = (ready_written at ready e).packets

  as_words : ready ≡ packets_words ks
  as_words =
      let size = all_packets at ready e in
      let space = space_of_packets no_word no_word ks 0 (length ready) (omega arith) in
      let count = length_packets ks in
      ext_get_or 0 ready (packets_words ks) (omega arith) (λ j l.
      let z : j ≡ 0 + j = omega arith in
      let m : j < length (space_words no_word no_word 0 (length ready) ks) = omega (arith, ap length space) in
      ap (word_at ready) z ∙ (ready_written at ready e).writing.stands j m ∙ ap (λ (l : List ℕ). get_or l j 0) space)

  pub ready_is_packets : ReadyPackets ready
  ready_is_packets = record { packets = ks; well = (ready_written at ready e).writing.well; words = as_words }

pub packets_are_ready : (at : ℕ) (ks : List Packet) → AllWell ks → (ready_refusal at (packets_words ks)).number ≡ 0
packets_are_ready at ks well =
    let count = length_packets ks in
    let word = word_at (packets_words ks) in
    let stop : ℕ = length (packets_words ks) in
    let space = space_of_packets no_word no_word ks 0 stop (omega arith) in
    same_number (ready_none at (packets_words ks)
    (ap (λ (s : Space). s.number)
    (written_counts word stop no_word no_word ks 0 (λ i g m. absurd (omega arith))
    (record {
      well = well;
      fits = omega arith;
      stands = λ j m.
          let z : 0 + j ≡ j = omega arith in
          ap word z ∙ ap (λ (l : List ℕ). get_or l j 0) (sym space);
    }))))

pub one_ready : (ks ls : List Packet) → AllWell ks → AllWell ls → packets_words ks ≡ packets_words ls → ks ≡ ls
one_ready ks ls wk wl e =
    let size : sizes_of ls ≡ sizes_of ks = sym (length_packets ls) ∙ ap length (sym e) ∙ length_packets ks in
    written_apart 0 0 0 (sizes_of ks) ks ls wk wl (omega arith) (omega arith)
    (space_of_packets 0 0 ks 0 (sizes_of ks) (omega arith) ∙ e ∙ sym (space_of_packets 0 0 ls 0 (sizes_of ks) (omega arith)))
