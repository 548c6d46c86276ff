-- What judging and taking in turn leave, refused or accepted.
use Rattle.std.specs.Prelude.{ℕ, ◌≡◌, true, false, List}
use Rattle.timing.specs.Report.{clean_report}
use Rattle.system.specs.declared.walk.Walk.{Walk}
use Rattle.system.specs.Walk.{due_in}
use Rattle.system.specs.Judgement.{accepted_at, no_packets}
use Rattle.line.specs.Fault.{counts_of}
use Rattle.line.specs.Samples.{Samples, samples_of}
use Rattle.reader.specs.Judge.{report_of}
use Rattle.reader.specs.Take.{Turn}

-- what a refusal leaves as it was, of the judge or of taking
pub record Stands (w : Walk) (b : Samples) (t : Turn) : Type 0 where
  pub walk : t.judgement.walk ≡ w
  pub report : t.judgement.report ≡ clean_report
  pub packets : t.judgement.packets ≡ no_packets
  pub buffers : t.buffers ≡ b

-- what an accepted line leaves: the buffers hold its samples where its V is 0
pub record Advances (w : Walk) (words : List ℕ) (b : Samples) (t : Turn) : Type 0 where
  pub answer : t.judgement ≡ accepted_at w (due_in w words) (report_of (due_in w words) words) (counts_of (due_in w words) words)
  pub picture : (due_in w words).v ≡ false → t.buffers ≡ samples_of (due_in w words) words
  pub blank : (due_in w words).v ≡ true → t.buffers ≡ b
