-- `inserts::put_insert` meets its contract: kind, call and charge one behind another.
use Rattle.tariff.proofs.Bytes.{insert_put}
use Rattle.tariff.proofs.inserts.put_insert.Goals as goal

pub returns : goal.returns
returns c =
    let a = c.args in
    insert_put a.out.now a.at a.call a.charge c.put_u16.ensures c.put_u32.ensures c.put_u32-2.ensures
