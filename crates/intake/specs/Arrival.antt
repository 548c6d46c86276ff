-- How bytes arrive: what a read tells, how reads fill a buffer, how bytes are cut into pieces of one size, and how a state takes what arrives.
use Rattle.std.specs.Prelude.{ℕ, zero, suc, ◌+◌, ◌-◌, ◌%◌, ◌^◌, ◌≤◌, Bool, true, false, cond, ◌||◌, List, [], ◌∷◌, ◌++◌, length, take, drop, ℤ, pos, negsuc, ◌==◌}
use Rattle.io.specs.Counts.{clamp_len}
use Rattle.intake.specs.declared.Told.{Told}
use Rattle.intake.specs.declared.Told.TheVariants.{Failed, Ended, Bytes}
use Rattle.intake.specs.declared.Filled.{Filled}

-- a count below 0
abbrev pub is_negative : ℤ → Bool
is_negative (pos k) = false
is_negative (negsuc k) = true

-- What a read with this count told, where there was room for so many bytes: below 0 it failed, and 0 is the end of the input. A read into no
-- room tells nothing.
unfoldable pub told_of : ℤ → ℕ → Told
told_of got room =
    cond (room == 0 || is_negative got) Failed (cond (clamp_len got room == 0) Ended (Bytes (clamp_len got room)))

-- a read tells of no more bytes than there was room for, and of some
abbrev pub WithinRoom : Told → ℕ → Type 0
WithinRoom Failed room = Unit {0}
WithinRoom Ended room = Unit {0}
WithinRoom (Bytes count) room = (1 ≤ count) × (count ≤ room)

-- so many bytes were filled, and reading goes on
abbrev pub so_far : ℕ → Filled
so_far have = record { have = have; done = false; failed = false }

-- What was filled once a read told this, with so much room left: a failed read and the end of the input are told apart, and a full buffer
-- takes no more.
abbrev pub filled_after : Filled → Told → ℕ → Filled
filled_after f Failed room = record { have = f.have; done = true; failed = true }
filled_after f Ended room = record { have = f.have; done = true; failed = false }
filled_after f (Bytes count) room = record { have = (f.have + count) % 2 ^ 64; done = (count == room); failed = false }

-- the bytes of a buffer from one offset to another
abbrev pub part : ℕ → ℕ → List ℕ → List ℕ
part from to buffer = take (to - from) (drop from buffer)

-- bytes cut into pieces of n, of which the last may be short; at most k of them
unfoldable pub pieces : ℕ → ℕ → List ℕ → List (List ℕ)
pieces zero n bytes = []
pieces (suc k) n [] = []
pieces (suc k) n (b ∷ bytes) = take n (b ∷ bytes) ∷ pieces k n (drop n (b ∷ bytes))

-- all of them
abbrev pub all_pieces : ℕ → List ℕ → List (List ℕ)
all_pieces n bytes = pieces (length bytes) n bytes

-- Bytes that arrive in reads and fill a buffer of n: a full buffer is handed on, and at the end of the input what it holds, if anything.
unfoldable pub handed_on : ℕ → List ℕ → List (List ℕ) → List (List ℕ)
handed_on n held [] = all_pieces n held
handed_on n held (read ∷ rest) =
    cond (length (held ++ read) == n) ((held ++ read) ∷ handed_on n [] rest) (handed_on n (held ++ read) rest)

-- each read gives no more than there is room for, behind so many bytes that are held
abbrev pub Fits : ℕ → ℕ → List (List ℕ) → Type 0
Fits n held [] = Unit {0}
Fits n held (read ∷ rest) = (held + length read ≤ n) × Fits n (cond (held + length read == n) 0 (held + length read)) rest

-- How a state takes input: what it is once it has taken what it can of the elements that lie ready, how many of them that was, and what it
-- is at the end of the input, where so many are left.
pub record Taking (S A : Type 0) : Type 0 where
  pub after : S → List A → S
  pub taken : S → List A → ℕ
  pub closed : S → List A → S

-- Input that arrives in pieces: the elements that were not taken stay and stand before the next piece, and the end closes.
unfoldable pub fed_by : {S A : Type 0} → Taking S A → S → List A → List (List A) → S
fed_by by s held [] = by.closed s held
fed_by by s held (piece ∷ rest) =
    fed_by by (by.after s (held ++ piece)) (drop (by.taken s (held ++ piece)) (held ++ piece)) rest
