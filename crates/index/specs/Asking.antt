-- The same in steps, for an index that arrives in pieces.
use Rattle.std.specs.Prelude.{ℕ, ◌+◌, ◌*◌, ◌-◌, ◌≤◌, List, [], ◌∷◌, Bool, true, false, cond, not, ◌&&◌, ◌||◌, ltb, leb, eqb, length}
use Rattle.refusal.specs.declared.Refusal.{Refusal}
use Rattle.refusal.specs.Numbers.{bad_parts}
use Rattle.refusal.specs.Answer.{refuse, or_else}
use Rattle.system.specs.Walk.{most_lines, named_refusal}
use Rattle.index.specs.declared.entry.Entry.{Entry}
use Rattle.index.specs.declared.trailer.Trailer.{Trailer}
use Rattle.index.specs.declared.question.Question.{Question}
use Rattle.index.specs.Entries.{entry_length, entry_of, entry_well, within}
use Rattle.index.specs.Parts.{trailer_length, trailer_of, line_size, range_refusal, Asked, asked_by}

-- what the trailer's numbers alone say of the parts: the index is taken to be six bytes per entry
unfoldable pub trailer_fits : ℕ → Trailer → ℕ → Bool
trailer_fits size t file =
    leb t.lines most_lines && eqb t.offset (t.lines * size) && eqb (t.offset + entry_length * t.entries + trailer_length) file

-- a question before the first byte of the index
unfoldable pub begun_of : ℕ → ℕ → List ℕ → ℕ → ℕ → ℕ → Question
begun_of system start trailer file a b =
    record {
      system = system;
      start = start;
      lines = (trailer_of trailer).lines;
      a = a;
      b = b;
      left = entry_length * (trailer_of trailer).entries;
      place = 0;
      c0 = 0;
      c1 = 0;
      c2 = 0;
      c3 = 0;
      c4 = 0;
      least = 0;
      unclean = false;
      wrong = not (eqb (length trailer) trailer_length && trailer_fits (line_size system) (trailer_of trailer) file);
    }

-- a question between two entries, with these numbers
unfoldable pub between : Question → ℕ → ℕ → Bool → Bool → Question
between q left least unclean wrong =
    record {
      system = q.system;
      start = q.start;
      lines = q.lines;
      a = q.a;
      b = q.b;
      left = left;
      place = 0;
      c0 = 0;
      c1 = 0;
      c2 = 0;
      c3 = 0;
      c4 = 0;
      least = least;
      unclean = unclean;
      wrong = wrong;
    }

abbrev pub settled : Question → Question
settled q = between q q.left q.least q.unclean q.wrong

-- a whole entry, after which so many bytes are left
abbrev pub entered : Question → ℕ → Entry → Question
entered q left e =
    between q left (e.ordinal + 1) (q.unclean || within q.a q.b e.ordinal)
    (q.wrong || not (entry_well q.least q.lines e))

-- one byte more of an entry that is not whole
unfoldable pub gathered : Question → ℕ → Question
gathered q byte =
    record {
      system = q.system;
      start = q.start;
      lines = q.lines;
      a = q.a;
      b = q.b;
      left = q.left - 1;
      place = q.place + 1;
      c0 = q.c1;
      c1 = q.c2;
      c2 = q.c3;
      c3 = q.c4;
      c4 = byte;
      least = q.least;
      unclean = q.unclean;
      wrong = q.wrong;
    }

-- a byte past the entries that the trailer tells
unfoldable pub too_many : Question → Question
too_many q =
    record {
      system = q.system;
      start = q.start;
      lines = q.lines;
      a = q.a;
      b = q.b;
      left = q.left;
      place = q.place;
      c0 = q.c0;
      c1 = q.c1;
      c2 = q.c2;
      c3 = q.c3;
      c4 = q.c4;
      least = q.least;
      unclean = q.unclean;
      wrong = true;
    }

-- one byte more
unfoldable pub step_of : Question → ℕ → Question
step_of q byte =
    cond (eqb q.left 0) (too_many q)
    (cond (ltb q.place 5) (gathered q byte)
    (entered q (q.left - 1) (entry_of (q.c0 ∷ q.c1 ∷ q.c2 ∷ q.c3 ∷ q.c4 ∷ byte ∷ []))))

-- a piece of the index more
unfoldable pub fed_of : Question → List ℕ → Question
fed_of q [] = q
fed_of q (byte ∷ bytes) = fed_of (step_of q byte) bytes

-- what refuses the parts, at the index's end: 1, 2, 19
unfoldable pub refusal_of : Question → Refusal
refusal_of q =
    or_else (named_refusal q.system q.start) (refuse (q.wrong || not (eqb q.left 0)) bad_parts 0)

-- the answer at the index's end
unfoldable pub closed_of : Question → Asked
closed_of q = asked_by (or_else (refusal_of q) (range_refusal q.lines q.a q.b)) (not q.unclean)

-- pieces of any sizes, one after the other
unfoldable pub fed_all : Question → List (List ℕ) → Question
fed_all q [] = q
fed_all q (piece ∷ pieces) = fed_all (fed_of q piece) pieces

-- For a private pass: some whole entries, at most those of so many bytes left and of so many bytes there, and at least one where there is one.
pub record Whole (due there count : ℕ) : Type 0 where
  pub left : entry_length * count ≤ due
  pub rest : entry_length * count ≤ there
  pub some : entry_length ≤ due → entry_length ≤ there → 1 ≤ count
