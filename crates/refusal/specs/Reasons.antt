-- Document 01: "For any answer that is an enum, a definition gives this paper's number and values for each case. The promises use that
-- definition."
use Rattle.std.specs.Prelude.{ℕ, Option, Some, None, Result, Ok, Err}
use Rattle.refusal.specs.declared.Refusal.{Refusal}
use Rattle.refusal.specs.declared.Reason.{Reason}
use Rattle.refusal.specs.declared.Reason.TheVariants.{NoSystem, NoLine, WrongLength, BadCounts, Over, NoCode, BitNine, HopelessEven, NotDue, NoFill, Reserved, Outside, BadState, HopelessOdd, BadParity, BadChecksum, PacketPast, BadParts, BadRange, BadEntry}
use Rattle.refusal.specs.declared.Refused.{Refused}
use Rattle.refusal.specs.Numbers.{no_system, no_line, wrong_length, bad_counts, over_ten, no_code, bit_nine, hopeless_even, not_due, no_fill, reserved, outside, bad_state, hopeless_odd, bad_parity, bad_checksum, packet_past, bad_parts, bad_range, bad_entry}
use Rattle.refusal.specs.Answer.{none}

-- the number of each reason
abbrev pub number_of : Reason → ℕ
number_of NoSystem = no_system
number_of NoLine = no_line
number_of WrongLength = wrong_length
number_of BadCounts = bad_counts
number_of Over = over_ten
number_of NoCode = no_code
number_of BitNine = bit_nine
number_of HopelessEven = hopeless_even
number_of NotDue = not_due
number_of NoFill = no_fill
number_of Reserved = reserved
number_of Outside = outside
number_of BadState = bad_state
number_of HopelessOdd = hopeless_odd
number_of BadParity = bad_parity
number_of BadChecksum = bad_checksum
number_of PacketPast = packet_past
number_of BadParts = bad_parts
number_of BadRange = bad_range
number_of BadEntry = bad_entry

-- the number of what is wrong, if anything is
abbrev pub fault_number : Option Reason → ℕ
fault_number None = 0
fault_number (Some reason) = number_of reason

-- a refusal as number and place
abbrev pub numbered : Refused → Refusal
numbered refused = record { number = number_of refused.reason; place = refused.place }

-- the answer of a result: accepted, or the refusal
abbrev pub answered : {A : Type 0} → Result A Refused → Refusal
answered (Ok value) = none
answered (Err refused) = numbered refused
