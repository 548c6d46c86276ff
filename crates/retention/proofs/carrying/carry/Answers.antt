-- `retention::carrying::carry` cuts the buffer to lines that it has room for. Assumes nothing.
use Rattle.std.proofs.Common.{sym, arith, length-take-le}
use Rattle.retention.proofs.carrying.carry.Goals as goal

pub slice_bounds-run-end : goal.slice_bounds-run-end
slice_bounds-run-end c = sym (length-take-le _ _ (omega (arith, c.line_bytes-size.ensures.most)))
