-- Document 02, L6: what is due at each offset of a space of a line, whose words are told by their offsets.
use Rattle.std.specs.Prelude.{ℕ, zero, suc, ◌+◌, ◌-◌, ◌%◌, Bool, cond, ◌&&◌, ltb, eqb}
use Rattle.words.specs.Words.{most_word}
use Rattle.packets.specs.declared.due.What.{What}
use Rattle.packets.specs.declared.due.What.TheVariants.{Exactly, Header, Count, User, Checksum}
use Rattle.packets.specs.Packet.{checksum_of, fill_word}

-- "A packet starts only where at least seven words of its space are left and the first three are those"
unfoldable pub starts_at : (ℕ → ℕ) → ℕ → ℕ → Bool
starts_at word stop p = ltb (p + 6) stop && (eqb (word p) 0 && (eqb (word (p + 1)) most_word && eqb (word (p + 2)) most_word))

-- how many user words the count tells: its low eight bits
abbrev pub count_at : (ℕ → ℕ) → ℕ → ℕ
count_at word p = word (p + 5) % 256

-- and so how many words the packet has
abbrev pub size_at : (ℕ → ℕ) → ℕ → ℕ
size_at word p = 7 + count_at word p

-- the sum of the low nine bits of n words
unfoldable pub sum_from : (ℕ → ℕ) → ℕ → ℕ → ℕ
sum_from word p zero = 0
sum_from word p (suc n) = sum_from word p n + word (p + n) % 512

-- what is due k words after the start of the packet at p
unfoldable pub due_in : (ℕ → ℕ) → ℕ → ℕ → ℕ → What
unfolding sum_from
due_in word stop p k =
    cond (eqb k 0) (Exactly 0)
    (cond (ltb k 3) (Exactly most_word)
    (cond (ltb k 5) Header
    (cond (eqb k 5) (Count (stop - (p + 7)))
    (cond (ltb k (6 + count_at word p)) User (Checksum (checksum_of (sum_from word (p + 3) (k - 3))))))))

-- Where the packet, or the fill, starts that holds the offset k words after the start of the space: "Packets stand one after another", so one
-- that starts at p is followed at p and its size.
unfoldable pub holder_at : (ℕ → ℕ) → ℕ → ℕ → ℕ → ℕ
unfolding starts_at
holder_at word start stop zero = start
holder_at word start stop (suc k) =
    let p = holder_at word start stop k in
    cond (starts_at word stop p && eqb (start + suc k) (p + size_at word p)) (start + suc k) p

-- what is due at an offset in the packet or the fill that starts at p: "else fill is due"
unfoldable pub due_from : (ℕ → ℕ) → ℕ → ℕ → ℕ → ℕ → ℕ → What
unfolding starts_at due_in
due_from word stop even odd p i = cond (starts_at word stop p) (due_in word stop p (i - p)) (Exactly (fill_word even odd i))

-- what is due at an offset of the space
unfoldable pub due_at : (ℕ → ℕ) → ℕ → ℕ → ℕ → ℕ → ℕ → What
unfolding holder_at due_from
due_at word start stop even odd i = due_from word stop even odd (holder_at word start stop (i - start)) i
