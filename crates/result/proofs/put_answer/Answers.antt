use mathlib.Core.List.{[], ◌∷◌}
use mathlib.Core.Path.{refl}
use Prim.Native.Nat.{◌+◌}
use native.Mathlib.Omega.{arith}
use native.Mathlib.Numerals.{add-one}
use lib.ListN.{set, length-set}
use Rattle.spec.specs.Bytes.{two, four}
use Rattle.wire.specs.Over.{over}
use Rattle.wire.specs.Joined.{three}
use Rattle.result.specs.Marks.{row_bytes}
use Rattle.result.proofs.put_answer.Goals as goal

pub put_u16-requires : goal.put_u16-requires
put_u16-requires c = simp length-set (omega arith)

pub put_u32-requires : goal.put_u32-requires
put_u32-requires c =
    let long = simp length-set at c.put_u16.auto.s in
    omega arith

pub returns : goal.returns
unfolding row_bytes over two
returns c =
    let a = c.args in
    three {s₁ = set (set a.res.now a.at a.row.code) (a.at + 1) a.row.told} a.res.now (a.row.code ∷ a.row.told ∷ []) (two a.row.used) (four a.row.charge) a.at (a.at + 2) (a.at + 4)
    (simp add-one)
    c.put_u16.ensures
    c.put_u32.ensures
    refl
    (omega arith)
