-- `report::number::places` meets its contract: one more than the logarithm, and one of 0.
-- Assumes nothing.
use Rattle.report.proofs.DigitLaws.{digit_count_between, one_digit}
use Rattle.report.proofs.number.places.Goals as goal

pub returns-in-Some : goal.returns-in-Some
returns-in-Some c = digit_count_between c.args.n c.in-Some.k c.in-Some.ensures.power_le c.in-Some.ensures.next_power_gt c.in-Some.ensures.bound

pub returns-in-None : goal.returns-in-None
returns-in-None c = one_digit c.args.n c.in-None.ensures.none
