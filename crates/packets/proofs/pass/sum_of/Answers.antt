-- `packets::pass::sum_of` meets its contract: the sum of the words' low nine bits, one after another. Assumes nothing.
use Rattle.std.proofs.Common.{rules, ℕ, ◌+◌, ◌%◌, ◌≡◌, ◌∙◌, refl, ap, List, [], ◌∷◌}
use Rattle.std.specs.List.{sum_by}
use Rattle.std.proofs.lemmas.List.Sums.{sum_by-cons}
use Rattle.packets.specs.Packet.{sum_of}
use Rattle.packets.proofs.pass.sum_of.Goals as goal

low_sum : (ws : List ℕ) → sum_by (λ w. w % 512) ws ≡ sum_of ws
unfolding sum_of
low_sum [] = refl
low_sum (w ∷ ws) = sum_by-cons (λ v. v % 512) w ws ∙ ap (λ (n : ℕ). w % 512 + n) (low_sum ws)

pub returns : goal.returns
returns c =
    let e : c.sum.result ≡ sum_by (λ w. w % 512) c.args.words.now = search rules in
    e ∙ low_sum c.args.words.now
