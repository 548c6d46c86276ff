-- `timing::answers` meets its contract: each row passes the test of the table's rule, which is computed. Assumes nothing.
use native.Mathlib.Omega.{arith}
use Rattle.timing.proofs.Table.{row_right, in_row}
use Rattle.timing.proofs.answers.Goals as goal

pub returns-in-0 : goal.returns-in-0
unfolding row_right
returns-in-0 c = in_row 0 _ _ tt c.in-0.is

pub returns-in-1 : goal.returns-in-1
unfolding row_right
returns-in-1 c = in_row 1 _ _ tt c.in-1.is

pub returns-in-2 : goal.returns-in-2
unfolding row_right
returns-in-2 c = in_row 2 _ _ tt c.in-2.is

pub returns-in-3 : goal.returns-in-3
unfolding row_right
returns-in-3 c = in_row 3 _ _ tt c.in-3.is

pub returns-in-4 : goal.returns-in-4
unfolding row_right
returns-in-4 c = in_row 4 _ _ tt c.in-4.is

pub returns-in-5 : goal.returns-in-5
unfolding row_right
returns-in-5 c = in_row 5 _ _ tt c.in-5.is

pub returns-in-6 : goal.returns-in-6
unfolding row_right
returns-in-6 c = in_row 6 _ _ tt c.in-6.is

pub returns-in-7 : goal.returns-in-7
unfolding row_right
returns-in-7 c = in_row 7 _ _ tt c.in-7.is

pub returns-in-8 : goal.returns-in-8
unfolding row_right
returns-in-8 c = in_row 8 _ _ tt c.in-8.is

pub returns-in-9 : goal.returns-in-9
unfolding row_right
returns-in-9 c = in_row 9 _ _ tt c.in-9.is

pub returns-in-10 : goal.returns-in-10
unfolding row_right
returns-in-10 c = in_row 10 _ _ tt c.in-10.is

pub returns-in-11 : goal.returns-in-11
unfolding row_right
returns-in-11 c = in_row 11 _ _ tt c.in-11.is

pub returns-in-12 : goal.returns-in-12
unfolding row_right
returns-in-12 c = in_row 12 _ _ tt c.in-12.is

pub returns-in-13 : goal.returns-in-13
unfolding row_right
returns-in-13 c = in_row 13 _ _ tt c.in-13.is

pub returns-in-14 : goal.returns-in-14
unfolding row_right
returns-in-14 c = in_row 14 _ _ tt c.in-14.is

pub returns-in_default : goal.returns-in_default
unfolding row_right
returns-in_default c = in_row 15 _ _ tt (omega arith)
