-- The marked samples hold, by computation. Assumes nothing.
use mathlib.Core.Path.{refl}
use Rattle.timing.specs.Code.{fourth_of, correction_of}
use Rattle.system.specs.Figures.{v_of, v_written, f_of}
use Rattle.system.specs.Due.{due_with, due_of, flags_of}
use Rattle.line.specs.Offsets.{due_at}
use Rattle.line.specs.Fault.{fault_where}
use Rattle.serial.proofs.Theorems as serial
use Rattle.recording.specs.Marked.{Marked}

pub marked : Marked
unfolding fourth_of correction_of v_of v_written f_of due_with due_of flags_of due_at fault_where
marked =
    record {
      m1 = refl;
      m2 = refl;
      m3 = refl;
      m4 = refl;
      m5 = refl;
      m6 = refl;
      m7 = (refl, refl, refl);
      m8 = (refl, refl);
      m9 = (refl, refl, refl, refl);
      m10 = serial.m10;
      m11 = serial.m11;
    }
