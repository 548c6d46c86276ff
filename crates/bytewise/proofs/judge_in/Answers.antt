-- `bytewise::judge_in` meets its contract: what is judged is the part that the words were copied into. Assumes nothing.
use Rattle.std.proofs.Common.{◌≡◌, ℕ, ◌-◌, ◌*◌, length, take, ap, ◌∙◌, arith, length-take-le, take_at}
use Rattle.refusal.proofs.Firsts.{same_number, written_accepted}
use Rattle.words.proofs.Bytes.{pairs_accepted}
use Rattle.reader.specs.Judge.{judged_of}
use Rattle.bytewise.proofs.judge_in.Goals as goal

pub returns : goal.returns
returns c =
    let a = c.args in
    let done = c.to_words in
    let n : ℕ = a.count - 0 in
    let held : length (take n a.room.now) ≡ n = length-take-le n a.room.now (omega arith) in
    let fits : length a.bytes.now ≡ 2 * length (take n a.room.now) = omega (arith, held) in
    c.judge.ensures
    ∙ ap (judged_of a.walk)
    (take_at done.new.words _ n (done.auto.words ∙ held) ∙ done.ensures.words
    ∙ written_accepted _ _ _ (same_number (done.ensures.answer ∙ pairs_accepted _ _ fits)))
