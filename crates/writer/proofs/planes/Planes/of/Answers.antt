-- `writer::planes::Planes::of` meets its contract: buffers whose lengths nothing refuses are measured. Assumes nothing.
use mathlib.Core.Path.{sym}
use Rattle.refusal.proofs.Firsts.{same_number}
use Rattle.line.proofs.Lengths.{accepted_measured}
use Rattle.writer.proofs.planes.Planes.of.Goals as goal

pub invariant_of-result : goal.invariant_of-result
invariant_of-result c = record { measured = accepted_measured _ (sym (same_number c.in_ok-buffer_refusal.ensures)) }
