-- Document 01, "The confirming program": what a run over bytes comes to, whole, for every list of bytes.
use Rattle.std.specs.Prelude.{ℕ, cond, List, [], ◌∷◌, length, drop, ◌==◌, nat_lt}
use Rattle.intake.specs.Arrival.{all_pieces}
use Rattle.system.specs.declared.walk.Judgement.{Judgement}
use Rattle.system.specs.Walk.{fresh_of, line_bytes}
use Rattle.words.specs.Bytes.{word_of_bytes}
use Rattle.bytewise.specs.Bytes.{judged_bytes}
use Rattle.confirmation.specs.declared.Run.{Run}
use Rattle.confirmation.specs.declared.Outcome.{Outcome}

-- "16-bit words, low byte first: system, start line": four bytes
abbrev pub header_length : ℕ
header_length = 4

-- "Under 4 bytes of header count as system 0, start 0."
abbrev pub header_word : List ℕ → ℕ → ℕ
header_word bytes i = cond (nat_lt (length bytes) header_length) 0 (word_of_bytes bytes i)

abbrev pub header_system : List ℕ → ℕ
header_system bytes = header_word bytes 0

abbrev pub header_start : List ℕ → ℕ
header_start bytes = header_word bytes 2

-- a run of this system from this line on, before its lines: a fresh walk, or its refusal
abbrev pub fresh_run : ℕ → ℕ → Run
fresh_run system start =
    record {
      system = system;
      start = start;
      walk = (fresh_of system start).walk;
      number = (fresh_of system start).number;
      place = (fresh_of system start).place;
    }

-- a run after its header
unfoldable pub begun_of : List ℕ → Run
begun_of bytes = fresh_run (header_system bytes) (header_start bytes)

-- a run whose next line was judged so
abbrev pub run_after : Run → Judgement → Run
run_after r j = record { system = r.system; start = r.start; walk = j.walk; number = j.number; place = j.place }

-- a run after these bytes were judged as its next line: bytes short of a line are 3, "but any byte after 10,000,000 lines is refusal 4"
unfoldable pub judged_next : Run → List ℕ → Run
judged_next r bytes = run_after r (judged_bytes r.walk bytes)

-- "It stops at the first refusal."
unfoldable pub through : Run → List (List ℕ) → Run
through r [] = r
through r (piece ∷ rest) = cond (r.number == 0) (through (judged_next r piece) rest) r

-- the run over the bytes behind the header, cut into lines, of which the last may be short
unfoldable pub body_of : Run → List ℕ → Run
body_of r bytes = through r (all_pieces (line_bytes r.walk) bytes)

-- the whole run
unfoldable pub confirmed_of : List ℕ → Run
confirmed_of bytes = body_of (begun_of bytes) (drop header_length bytes)

-- "RESULT is number, awaited line, place; the line is 0 for an accepted run and for refusals 1 and 2."
unfoldable pub outcome_of : Run → Outcome
outcome_of r =
    record {
      system = r.system;
      start = r.start;
      lines = r.walk.lines;
      repairs = r.walk.repairs;
      number = r.number;
      line = cond (nat_lt r.number 3) 0 r.walk.line;
      place = r.place;
    }
