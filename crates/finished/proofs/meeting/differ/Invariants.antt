-- `finished::meeting::differ` meets its contract. The loop keeps that what is left of both tells the same as the whole. The measure is what is
-- left of ours. Assumes nothing.
use Rattle.std.proofs.Common.{◌≡◌, length}
use Rattle.std.specs.Slice.Iter.{chunks_exact_rest, chunks_exact_size}
use Rattle.index.specs.Entries.{entry_length, entries_of}
use Rattle.finished.specs.Check.{differing}
use Rattle.finished.proofs.meeting.differ.Given as goal

abbrev pub invariant-loop-their : goal.invariant-loop-their
invariant-loop-their l =
    record {
      our : chunks_exact_size l.our_rest ≡ entry_length;
      their : chunks_exact_size l.their_rest ≡ entry_length;
      same : differing (entries_of l.ours) (entries_of l.theirs)
          ≡ differing (entries_of (chunks_exact_rest l.our_rest)) (entries_of (chunks_exact_rest l.their_rest));
    }

abbrev pub decreases-loop-their : goal.decreases-loop-their
decreases-loop-their l = length (chunks_exact_rest l.our_rest)
