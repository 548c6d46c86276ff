-- Document 01, "The walk", and document 02, L6: the answer to a line: number, place, report, the walk after it, and "how many words of each
-- space are packets".
use Rattle.std.specs.Prelude.{cond, ◌==◌}
use Rattle.refusal.specs.declared.Refusal.{Refusal}
use Rattle.timing.specs.declared.Report.{Report}
use Rattle.timing.specs.Report.{clean_report}
use Rattle.system.specs.declared.due.Due.{Due}
use Rattle.system.specs.declared.walk.Walk.{Walk}
use Rattle.system.specs.declared.walk.PacketWords.{PacketWords}
use Rattle.system.specs.declared.walk.Judgement.{Judgement}
use Rattle.system.specs.Walk.{advanced_of, moved_of}

-- no word of either space is a packet's
abbrev pub no_packets : PacketWords
no_packets = record { between = 0; active = 0 }

-- "A refused line leaves the walk standing ..; its report says clean for both codes", and of packets it tells "0 if it refuses"
abbrev pub refused_at : Walk → Refusal → Judgement
refused_at w r = record { number = r.number; place = r.place; report = clean_report; walk = w; packets = no_packets }

-- an accepted line advances the walk by what was due in it and its report
abbrev pub accepted_at : Walk → Due → Report → PacketWords → Judgement
accepted_at w d report packets = record { number = 0; place = 0; report = report; walk = advanced_of w d report; packets = packets }

-- the same with counts of 32 bits, for every walk
abbrev pub moved_at : Walk → Due → Report → PacketWords → Judgement
moved_at w d report packets = record { number = 0; place = 0; report = report; walk = moved_of w d report; packets = packets }

-- the judgement of a line that this refuses, or nothing, with what was due, and the report and the packets that it has where it is accepted
unfoldable pub judgement_of : Refusal → Walk → Due → Report → PacketWords → Judgement
judgement_of r w d report packets = cond (r.number == 0) (accepted_at w d report packets) (refused_at w r)
