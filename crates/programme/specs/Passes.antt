-- For private functions: no contract of a public call and no promise cites this file.
use Rattle.line.specs.Samples.{Packets}
use Rattle.programme.specs.declared.recorder.Given.{Given}

-- the ready words of what a line is to carry
abbrev pub packets_in : Given → Packets
packets_in g = record { between = g.between.now; active = g.active.now }
