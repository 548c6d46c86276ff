-- A head as bytes: the entry comes back. Assumes nothing.
use Prim.Native.Nat.{ℕ, ◌+◌, ◌*◌, ◌/◌, ◌^◌, ◌<◌}
use mathlib.Core.Path.{◌≡◌}
use native.Mathlib.Omega.{arith}
use lib.ListN.{length}
use Rattle.words.specs.Words.{tab_from}
use Rattle.words.specs.Bytes.{number_from}
use Rattle.words.proofs.Tabs.{length_tab}
use Rattle.captions.specs.declared.Entry.{Entry}
use Rattle.captions.specs.Entry.{head_length, head_of, entry_of, Within}

pub head_length_is : (e : Entry) → length (head_of e) ≡ head_length
unfolding head_of
head_length_is e = length_tab _ head_length

-- digits of base 256 come to the number whose digits they are: n is a digit and 256 times the next number, up to the last
digits_back : (n n₁ n₂ n₃ n₄ n₅ n₆ n₇ d₀ d₁ d₂ d₃ d₄ d₅ d₆ d₇ : ℕ) → n ≡ d₀ + 256 * n₁ → n₁ ≡ d₁ + 256 * n₂ → n₂ ≡ d₂ + 256 * n₃
    → n₃ ≡ d₃ + 256 * n₄ → n₄ ≡ d₄ + 256 * n₅ → n₅ ≡ d₅ + 256 * n₆ → n₆ ≡ d₆ + 256 * n₇ → n₇ ≡ d₇
    → d₀ + 256 * (d₁ + 256 * (d₂ + 256 * (d₃ + 256 * (d₄ + 256 * (d₅ + 256 * (d₆ + 256 * (d₇ + 256 * 0))))))) ≡ n
digits_back n n₁ n₂ n₃ n₄ n₅ n₆ n₇ d₀ d₁ d₂ d₃ d₄ d₅ d₆ d₇ e₀ e₁ e₂ e₃ e₄ e₅ e₆ e₇ = omega arith

-- ---- the entry of a head
module _ (e : Entry) where
  ordinal_back : e.ordinal < 2 ^ 64 → number_from (head_of e) 0 8 ≡ e.ordinal
  unfolding number_from head_of tab_from
  ordinal_back l =
      let n = e.ordinal in
      digits_back n (n / 256) (n / 256 ^ 2) (n / 256 ^ 3) (n / 256 ^ 4) (n / 256 ^ 5) (n / 256 ^ 6) (n / 256 ^ 7) _ _ _ _ _ _ _ _
      (omega arith) (omega arith) (omega arith) (omega arith) (omega arith) (omega arith) (omega arith) (omega arith)

  space_back : e.space < 65536 → number_from (head_of e) 8 2 ≡ e.space
  unfolding number_from head_of tab_from
  space_back l = omega arith

  words_back : e.words < 65536 → number_from (head_of e) 10 2 ≡ e.words
  unfolding number_from head_of tab_from
  words_back l = omega arith

  pub entry_back : Within e → entry_of (head_of e) ≡ e
  unfolding entry_of
  entry_back w = simp (ordinal_back (omega (arith, w.ordinal)), space_back (omega (arith, w.space)), words_back (omega (arith, w.words)))
