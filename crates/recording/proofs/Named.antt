-- The constants of `refusal::Number`, which no call uses, are the numbers of the table's rows. Assumes nothing.
use mathlib.Core.Path.{◌≡◌, refl}
use Rattle.refusal.specs.declared.TheConstants.Number.{NO_SYSTEM, NO_LINE, WRONG_LENGTH, BAD_COUNTS, OVER, NO_CODE, BIT_NINE, HOPELESS_EVEN, NOT_DUE, NO_FILL, RESERVED, OUTSIDE, BAD_STATE, HOPELESS_ODD, BAD_PARITY, BAD_CHECKSUM, PACKET_PAST, BAD_PARTS, BAD_RANGE, BAD_ENTRY}
use Rattle.refusal.specs.Numbers.{no_system, no_line, wrong_length, bad_counts, over_ten, no_code, bit_nine, hopeless_even, not_due, no_fill, reserved, outside, bad_state, hopeless_odd, bad_parity, bad_checksum, packet_past, bad_parts, bad_range, bad_entry}

-- each constant is the definition's number
pub record NumbersNamed : Type 0 where
  pub is_no_system : NO_SYSTEM ≡ no_system
  pub is_no_line : NO_LINE ≡ no_line
  pub is_wrong_length : WRONG_LENGTH ≡ wrong_length
  pub is_bad_counts : BAD_COUNTS ≡ bad_counts
  pub is_over_ten : OVER ≡ over_ten
  pub is_no_code : NO_CODE ≡ no_code
  pub is_bit_nine : BIT_NINE ≡ bit_nine
  pub is_hopeless_even : HOPELESS_EVEN ≡ hopeless_even
  pub is_not_due : NOT_DUE ≡ not_due
  pub is_no_fill : NO_FILL ≡ no_fill
  pub is_reserved : RESERVED ≡ reserved
  pub is_outside : OUTSIDE ≡ outside
  pub is_bad_state : BAD_STATE ≡ bad_state
  pub is_hopeless_odd : HOPELESS_ODD ≡ hopeless_odd
  pub is_bad_parity : BAD_PARITY ≡ bad_parity
  pub is_bad_checksum : BAD_CHECKSUM ≡ bad_checksum
  pub is_packet_past : PACKET_PAST ≡ packet_past
  pub is_bad_parts : BAD_PARTS ≡ bad_parts
  pub is_bad_range : BAD_RANGE ≡ bad_range
  pub is_bad_entry : BAD_ENTRY ≡ bad_entry

pub numbers_named : NumbersNamed
numbers_named = record {
  is_no_system = refl;
  is_no_line = refl;
  is_wrong_length = refl;
  is_bad_counts = refl;
  is_over_ten = refl;
  is_no_code = refl;
  is_bit_nine = refl;
  is_hopeless_even = refl;
  is_not_due = refl;
  is_no_fill = refl;
  is_reserved = refl;
  is_outside = refl;
  is_bad_state = refl;
  is_hopeless_odd = refl;
  is_bad_parity = refl;
  is_bad_checksum = refl;
  is_packet_past = refl;
  is_bad_parts = refl;
  is_bad_range = refl;
  is_bad_entry = refl;
}
