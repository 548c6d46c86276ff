-- `packets::pass::packet_well` meets its contract: test by test. Assumes nothing.
use Rattle.std.proofs.Common.{ℕ, sym, ap, ◌∙◌, ◌≡◌, ◌+◌, ◌%◌, length, get_or}
use Rattle.std.specs.List.{slice_range}
use native.Mathlib.Omega.{arith}
use borrow.Author.Tests.{eqb-true}
use lib.Dec.{eqb}
use Rattle.refusal.proofs.Cases.{and_true}
use Rattle.words.proofs.Slices.{part_sampled, part_at, part_length}
use Rattle.packets.specs.Packet.{checksum_of}
use Rattle.packets.specs.Due.{sum_from}
use Rattle.packets.specs.Fault.{word_at}
use Rattle.packets.proofs.Layouts.{sum_stands}
use Rattle.packets.proofs.Passes.{packet_well}
use Rattle.packets.proofs.pass.packet_well.Goals as goal

pub returns : goal.returns
unfolding checksum_of
returns c =
    let a = c.args in
    let words = a.words.now in
    let word = word_at words in
    let p : ℕ = a.p in
    let told = c.low-count.ensures in
    let checksum : ℕ = p + 6 + c.low-count.result in
    let body = slice_range words (p + 3) checksum in
    let size : length body ≡ 3 + get_or words (p + 5) 0 % 256 = part_length words (p + 3) checksum (omega arith) ∙ omega (arith, told) in
    λ t.
    let five = and_true _ (eqb _ c.nine_bits.result) t in
    let four = and_true _ c.all_samples.result five.0 in
    let three = and_true _ c.header_well-3.result four.0 in
    let two = and_true c.header_well.result c.header_well-2.result three.0 in
    packet_well word (length words) p (omega arith) (omega arith) (eqb-true _ _ (sym c.header_well.ensures ∙ two.0))
    (eqb-true _ _ (sym c.header_well-2.ensures ∙ two.1)) (eqb-true _ _ (sym c.header_well-3.ensures ∙ three.1))
    (λ k l. part_sampled words (p + 6) checksum (omega arith) (c.all_samples.ensures.0 four.1) k (omega arith))
    (ap (λ (n : ℕ). word (p + 6 + n)) (sym told) ∙ eqb-true _ _ five.1 ∙ c.nine_bits.ensures
    ∙ ap checksum_of
    (c.sum_of-sum.ensures
    ∙ sym (sum_stands word body (p + 3) (λ j l. sym (part_at words (p + 3) checksum j (omega (arith, size)))))
    ∙ ap (sum_from word (p + 3)) size))
