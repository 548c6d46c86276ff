-- Document 02, L10: the index of a list of repairs, its bytes, the entries that bytes hold, and what is asked of them.
use Rattle.std.specs.Prelude.{ℕ, zero, suc, ◌<◌, ◌≤◌, List, [], ◌∷◌, ◌++◌, Bool, true, cond, not, ◌&&◌, ◌||◌, ltb, leb, eqb}
use Rattle.words.specs.Bytes.{number_from, number_bytes}
use Rattle.index.specs.declared.entry.Entry.{Entry}

-- "four bytes ordinal, two bytes repairs": six
abbrev pub entry_length : ℕ
entry_length = 6

-- "an index of lines that were not clean, by ordinal from 0, .. in rising order", of the repairs of lines from an ordinal on
unfoldable pub index_from : ℕ → List ℕ → List Entry
index_from i [] = []
index_from i (r ∷ rs) = cond (eqb r 0) (index_from (suc i) rs) (record { ordinal = i; repairs = r } ∷ index_from (suc i) rs)

abbrev pub index_of : List ℕ → List Entry
index_of rs = index_from 0 rs

-- "four bytes ordinal, two bytes repairs, low byte first"
unfoldable pub entry_bytes : Entry → List ℕ
entry_bytes e = number_bytes 4 e.ordinal ++ number_bytes 2 e.repairs

unfoldable pub index_bytes : List Entry → List ℕ
index_bytes [] = []
index_bytes (e ∷ es) = entry_bytes e ++ index_bytes es

-- the entry of six bytes
unfoldable pub entry_of : List ℕ → Entry
entry_of bytes = record { ordinal = number_from bytes 0 4; repairs = number_from bytes 4 2 }

-- the entries of bytes: bytes short of an entry hold none
unfoldable pub entries_of : List ℕ → List Entry
entries_of [] = []
entries_of (b0 ∷ []) = []
entries_of (b0 ∷ b1 ∷ []) = []
entries_of (b0 ∷ b1 ∷ b2 ∷ []) = []
entries_of (b0 ∷ b1 ∷ b2 ∷ b3 ∷ []) = []
entries_of (b0 ∷ b1 ∷ b2 ∷ b3 ∷ b4 ∷ []) = []
entries_of (b0 ∷ b1 ∷ b2 ∷ b3 ∷ b4 ∷ b5 ∷ rest) = entry_of (b0 ∷ b1 ∷ b2 ∷ b3 ∷ b4 ∷ b5 ∷ []) ∷ entries_of rest

-- an entry that may stand where this ordinal is the least: it is below the lines, with 1 or 2 repairs
unfoldable pub entry_well : ℕ → ℕ → Entry → Bool
entry_well least lines e =
    leb least e.ordinal && ltb e.ordinal lines && (eqb e.repairs 1 || eqb e.repairs 2)

-- ordinals rise and are below the lines, and repairs are 1 or 2
unfoldable pub entries_well : ℕ → ℕ → List Entry → Bool
entries_well least lines [] = true
entries_well least lines (e ∷ es) = entry_well least lines e && entries_well (suc e.ordinal) lines es

-- "lines a to b", both included
abbrev pub within : ℕ → ℕ → ℕ → Bool
within a b i = leb a i && leb i b

-- no entry has an ordinal of a to b
unfoldable pub none_within : ℕ → ℕ → List Entry → Bool
none_within a b [] = true
none_within a b (e ∷ es) = not (within a b e.ordinal) && none_within a b es

-- the answer from reading every line: of the lines from an ordinal i on, each of a to b has no repairs
unfoldable pub clean_from : ℕ → ℕ → ℕ → List ℕ → Bool
clean_from a b i [] = true
clean_from a b i (r ∷ rs) = (not (within a b i) || eqb r 0) && clean_from a b (suc i) rs

abbrev pub clean : ℕ → ℕ → List ℕ → Bool
clean a b rs = clean_from a b 0 rs

-- the repairs of k lines from an ordinal on that an index tells
unfoldable pub repairs_from : ℕ → ℕ → List Entry → List ℕ
repairs_from zero i es = []
repairs_from (suc k) i [] = 0 ∷ repairs_from k (suc i) []
repairs_from (suc k) i (e ∷ es) =
    cond (eqb e.ordinal i) (e.repairs ∷ repairs_from k (suc i) es) (0 ∷ repairs_from k (suc i) (e ∷ es))

-- each of some lines has 0, 1 or 2 repairs
pub data Repairs : List ℕ → Type 0 where
  no_line : Repairs []
  line : {r : ℕ} {rs : List ℕ} → r ≤ 2 → Repairs rs → Repairs (r ∷ rs)

-- every number of a list is a byte
pub data Bytes : List ℕ → Type 0 where
  none : Bytes []
  more : {b : ℕ} {bytes : List ℕ} → b < 256 → Bytes bytes → Bytes (b ∷ bytes)
