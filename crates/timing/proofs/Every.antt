-- A test that computes to true at each number below n holds of each number below n. Assumes nothing.
use mathlib.Core.Path.{◌≡◌, refl, sym, subst}
use mathlib.Core.Bool.{Bool, true, false, cond}
use mathlib.Core.Logic.{◌⊎◌, inl, inr, ⊎_elim}
use Prim.Native.Nat.{ℕ, zero, suc, ◌+◌, ◌<◌}
use native.Mathlib.Nat.{not-suc-le-zero, le_of_suc-le-suc}
use native.Mathlib.Omega.{arith}
use lib.Dec.{T}

abbrev pub both : Bool → Bool → Bool
both true b = b
both false b = false

pub both_left : (a b : Bool) → T (both a b) → T a
both_left true b t = tt
both_left false b t = t

pub both_right : (a b : Bool) → T (both a b) → T b
both_right true b t = t
both_right false b t = absurd t

pub joined : (a b : Bool) → T a → T b → T (both a b)
joined true b s t = t
joined false b s t = s

-- a test under a condition
abbrev pub implies : Bool → Bool → Bool
implies true b = b
implies false b = true

pub meet : (a b : Bool) → T (implies a b) → T a → T b
meet true b t s = t
meet false b t s = absurd s

-- the test f passes at each of the n numbers below n
abbrev pub every : ℕ → (ℕ → Bool) → Bool
every zero f = true
every (suc n) f = both (f n) (every n f)

-- how many numbers below n pass a test
abbrev pub count_below : ℕ → (ℕ → Bool) → ℕ
count_below zero f = 0
count_below (suc n) f = cond (f n) 1 0 + count_below n f

last_or_below : (k n : ℕ) → k < suc n → (k ≡ n) ⊎ (k < n)
last_or_below zero zero h = inl refl
last_or_below zero (suc n) h = inr (omega arith)
last_or_below (suc k) zero h = absurd (not-suc-le-zero (le_of_suc-le-suc h))
last_or_below (suc k) (suc n) h = ⊎_elim (λ e. inl (omega arith)) (λ l. inr (omega arith)) (last_or_below k n (omega arith))

pub lift : (n : ℕ) (f : ℕ → Bool) → T (every n f) → (k : ℕ) → k < n → T (f k)
lift zero f t k h = absurd (not-suc-le-zero h)
lift (suc n) f t k h =
    ⊎_elim (λ e. subst (λ (m : ℕ). T (f m)) (sym e) (both_left (f n) (every n f) t))
    (λ l. lift n f (both_right (f n) (every n f) t) k l) (last_or_below k n h)

-- over two and over three numbers
pub lift2 : (m n : ℕ) (f : ℕ → ℕ → Bool) → T (every m (λ i. every n (f i))) → (i j : ℕ) → i < m → j < n → T (f i j)
lift2 m n f t i j hi hj = lift n (f i) (lift m (λ i. every n (f i)) t i hi) j hj

pub lift3 : (m n l : ℕ) (f : ℕ → ℕ → ℕ → Bool) → T (every m (λ i. every n (λ j. every l (f i j))))
    → (i j k : ℕ) → i < m → j < n → k < l → T (f i j k)
lift3 m n l f t i j k hi hj hk = lift l (f i j) (lift2 m n (λ i j. every l (f i j)) t i j hi hj) k hk

-- and the other way round: a test that passes at each number below n
pub gather : (n : ℕ) (f : ℕ → Bool) → ((k : ℕ) → k < n → T (f k)) → T (every n f)
gather zero f h = tt
gather (suc n) f h = joined (f n) (every n f) (h n (omega arith)) (gather n f (λ k l. h k (omega arith)))
