-- The keys of samples, the lowest signed numbers, by their bits and by comparison. Assumes nothing.
use Rattle.std.proofs.Common.{◌≡◌, ℕ, suc, ◌-◌, ◌<◌, ◌≤◌, Bool, true, false, T, ltb, leb, ℤ, pos, negsuc, sym, refl, true≢false, arith, w16, to_z, ltb-false, ltb-true, leb-true}
use Rattle.std.specs.Int.Signed.{lt_z, ◌≤ℤ◌}
use mir.Val.{sel}
use Rattle.bytewise.specs.Passes.{SampleKey}

-- the 16 bits of such a key
pub key_bits : (n : ℕ) → n < 65536 → SampleKey (to_z w16 n) → (32768 ≤ n) × (n ≤ 33783)
unfolding SampleKey
key_bits n l = go (ltb n 32768) refl
  where
    go : (t : Bool) → ltb n 32768 ≡ t → SampleKey (sel t (pos n) (negsuc (65536 - suc n))) → (32768 ≤ n) × (n ≤ 33783)
    go true e h = absurd h
    go false e h = let g : 32768 ≤ n = ltb-false n 32768 e in (g, omega arith)

true_of : (t : Bool) → T t → t ≡ true
true_of true h = refl
true_of false h = absurd h

-- what is at most one of them is one of them
pub key_under : (a b : ℤ) → a ≤ℤ b → SampleKey b → SampleKey a
unfolding SampleKey
key_under (pos m) (pos n) e h = absurd h
key_under (pos m) (negsuc n) e h = absurd e.le
key_under (negsuc m) (pos n) e h = absurd h
key_under (negsuc m) (negsuc n) e h = let g : n ≤ m = leb-true n m (true_of (leb n m) e.le) in omega arith

-- the test at the end
pub key_test : (a : ℤ) → lt_z a (negsuc 31751) ≡ true → SampleKey a
unfolding SampleKey
key_test (pos n) e = absurd (true≢false (sym e))
key_test (negsuc n) e = let g : 31751 < n = ltb-true 31751 n e in omega arith
