-- The part is no longer than its line.
use Rattle.std.proofs.Common.{length, ap, arith}
use Rattle.deck.proofs.joining.put_part.Goals as goal

pub overflow_add-result : goal.overflow_add-result
overflow_add-result c = omega (arith, ap length c.part_of-part.ensures, c.requires)
