-- `bytewise::pass::Line::space_in` meets its contract: what is judged is the part that the line's first words were copied into. Assumes nothing.
use Rattle.std.proofs.Common.{◌≡◌, ℕ, ◌-◌, ◌*◌, length, take, ap, ◌∙◌, arith, length-take-le, take_at}
use Rattle.refusal.proofs.Firsts.{same_number, written_accepted}
use Rattle.words.specs.Bytes.{words_of}
use Rattle.words.proofs.Bytes.{pairs_accepted}
use Rattle.system.proofs.Laws.{line_is_parts}
use Rattle.bytewise.proofs.Parts.{between_taken}
use Rattle.bytewise.proofs.pass.Line.space_in.Goals as goal

pub slice_bounds-to_words-end : goal.slice_bounds-to_words-end
slice_bounds-to_words-end c = omega (arith, c.sav_offset-sav.ensures, line_is_parts c.args.self.due.system)

pub returns : goal.returns
returns c =
    let a = c.args in
    let done = c.to_words in
    let m : ℕ = 2 * c.sav_offset-sav.result - 0 in
    let n : ℕ = c.sav_offset-sav.result - 0 in
    let same : m ≡ 2 * c.sav_offset-sav.result = omega arith in
    let given : length (take m a.self.bytes.now) ≡ m = length-take-le m a.self.bytes.now (omega (arith, c.sav_offset-sav.ensures, line_is_parts a.self.due.system)) in
    let held : length (take n a.room.now) ≡ n = length-take-le n a.room.now (omega (arith, c.sav_offset-sav.ensures)) in
    let fits : length (take m a.self.bytes.now) ≡ 2 * length (take n a.room.now) = omega (arith, given, held) in
    c.judge_space.ensures
    ∙ between_taken a.self.bytes.now a.self.due a.self.whole.size c.sav_offset-sav.result c.sav_offset-sav.ensures _
    (take_at done.new.words _ n (done.auto.words ∙ held) ∙ done.ensures.words
    ∙ written_accepted _ _ _ (same_number (done.ensures.answer ∙ pairs_accepted _ _ fits))
    ∙ ap (λ (k : ℕ). words_of (take k a.self.bytes.now)) same)
