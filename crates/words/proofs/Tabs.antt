-- Lists that are given by their elements. Assumes nothing.
use mathlib.Core.Path.{◌≡◌, refl, sym, ap, ◌∙◌}
use Prim.Native.Nat.{ℕ, zero, suc, ◌+◌, ◌<◌}
use native.Mathlib.Omega.{arith}
use mathlib.Core.List.{List}
use lib.ListN.{length, get_or}
use lib.Seq.{ext_get_or}
use Rattle.words.specs.Words.{tab_from, tab}

module _ (f : ℕ → ℕ) where
  length_from : (n i : ℕ) → length (tab_from f i n) ≡ n
  unfolding tab_from
  length_from zero i = refl
  length_from (suc n) i = ap suc (length_from n (suc i))

  pub length_tab : (n : ℕ) → length (tab n f) ≡ n
  length_tab n = length_from n 0

  get_d_from : (n i j : ℕ) → j < n → get_or (tab_from f i n) j 0 ≡ f (i + j)
  unfolding tab_from
  get_d_from zero i j l = elim l [ ]
  get_d_from (suc n) i zero l = ap f (omega arith)
  get_d_from (suc n) i (suc j) l = get_d_from n (suc i) j (omega arith) ∙ ap f (omega arith)

  pub get_d_tab : (n j : ℕ) → j < n → get_or (tab n f) j 0 ≡ f j
  get_d_tab n j l = get_d_from n 0 j l ∙ ap f (omega arith)

  -- a list of n elements, of which each is what f gives
  pub is_tab : (n : ℕ) (l : List ℕ) → length l ≡ n → ((j : ℕ) → j < n → get_or l j 0 ≡ f j) → l ≡ tab n f
  is_tab n l e h =
      ext_get_or 0 l (tab n f) (e ∙ sym (length_tab n)) (λ j lt. h j (omega arith) ∙ sym (get_d_tab n j (omega arith)))

-- two functions that agree below n give the same list
pub same_tab : (f g : ℕ → ℕ) (n : ℕ) → ((j : ℕ) → j < n → f j ≡ g j) → tab n f ≡ tab n g
same_tab f g n h = is_tab g n (tab n f) (length_tab f n) (λ j l. get_d_tab f n j l ∙ h j l)
