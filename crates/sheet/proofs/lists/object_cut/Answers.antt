-- `object_cut` meets its contract, number by number.
use Rattle.whole.specs.Tests.{gave}
use Rattle.sheet.proofs.lists.object_cut.Goals as goal

pub returns : goal.returns
returns c =
    λ i. record {
      kind = gave c.number_at.type_inv c.number_at.ensures i;
      px = gave c.number_at-2.type_inv c.number_at-2.ensures i;
      py = gave c.number_at-3.type_inv c.number_at-3.ensures i;
      qx = gave c.number_at-4.type_inv c.number_at-4.ensures i;
      qy = gave c.number_at-5.type_inv c.number_at-5.ensures i;
      tag = gave c.number_at-6.type_inv c.number_at-6.ensures i;
    }
