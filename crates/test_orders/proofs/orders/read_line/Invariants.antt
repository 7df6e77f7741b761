-- Byte by byte.
use Rattle.std.proofs.Common.{length, ◌-◌}
use Rattle.test_orders.proofs.orders.read_line.Given as goal

abbrev pub decreases-loop-i : goal.decreases-loop-i
decreases-loop-i l = length l.text - l.i
