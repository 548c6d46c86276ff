-- `bytewise::pass::all_samples` meets its contract. The loop's invariant: where the highest key so far is a sample's, each word
-- passed is a sample. Assumes nothing.
use Rattle.std.proofs.Common.{◌≤ℤ◌, arith, to_z-of_z, w16, below_more}
use Rattle.bytewise.proofs.Keys.{key_under}
use Rattle.bytewise.proofs.pass.all_samples.Goals as goal

pub loop-k-init : goal.loop-k-init
loop-k-init c = (omega arith, λ e j l. absurd (omega arith))

pub loop-k-preserved : goal.loop-k-preserved
loop-k-preserved c = (
  omega arith,
  λ h.
      let most = c.max-highest.ensures in
      let low = rw (to_z-of_z {w = w16} {z = c.max-highest.result} (record { sfits = c.max-highest.type_inv })) at h in
      let other : c.key.result ≤ℤ c.max-highest.result = rw (to_z-of_z {w = w16} {z = c.key.result} (record { sfits = c.key.type_inv })) at most.other_bound in
      let here = c.key.ensures (key_under _ _ other low) in
      below_more _ _ (c.loop-k.invariant.1 (key_under _ _ most.self_bound low)) (rw c.word_at.ensures at here),
)

pub returns : goal.returns
returns c = λ e k l. c.loop-k.invariant.1 (c.is_sample_key.ensures e) k (omega arith)
