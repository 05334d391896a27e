-- `divisor` meets its contract: folding over sizes that are changed over on the way finds the same divisor (`gcd_of-fold`).
use Rattle.whole.specs.DivisorLaws.{gcd_of-fold}
use Rattle.whole.specs.Tests.{out-is}
use Rattle.kernel.proofs.divide.divisor.Goals as goal

pub returns : goal.returns
returns c =
    gcd_of-fold c.args.mx c.args.nx c.args.my c.args.ny c.args.w
    (simp (c.size.ensures, c.size-2.ensures, out-is, c.ranges.mx, c.ranges.nx) at c.smaller_first-least.ensures)
    (simp (c.size-3.ensures, out-is, c.ranges.my) at c.smaller_first-least-2.ensures)
    (simp (c.size-4.ensures, out-is, c.ranges.ny) at c.smaller_first-least-3.ensures)
    (simp (c.size-5.ensures, out-is, c.ranges.w) at c.smaller_first-least-4.ensures)
    c.gcd-of_two.ensures
    c.gcd-of_three.ensures
    c.gcd-of_four.ensures
    c.gcd.ensures
