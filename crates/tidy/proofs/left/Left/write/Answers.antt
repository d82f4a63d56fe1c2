-- `Left::write` meets its contract: the three parts are written one behind another.
use mathlib.Core.Path.{sym, ap, ◌∙◌}
use Prim.Native.Nat.{◌+◌, ◌*◌, ◌^◌}
use native.Mathlib.Omega.{arith}
use lib.ListN.{length}
use Rattle.wire.specs.OverLaws.{length_over}
use Rattle.tidy.proofs.Refused.{tidied-length}
use Rattle.tidy.proofs.Table.{fills, part_size, part_back}
use Rattle.tidy.proofs.Whole.{written}
use Rattle.tidy.proofs.left.Left.write.Goals as goal

pub put_directory-requires : goal.put_directory-requires
put_directory-requires c =
    let n = c.entries_at in
    let f = c.put_file in
    let d = c.depths-left in
    record {
      depth = c.requires.wanted.most;
      fills = fills c.args.self.now.file.given d.result.now d.ensures c.args.depth c.requires.wanted.least;
      size = part_size f.new.out 32 (32 + 2 * n.result) (2 * 2 ^ c.args.depth) (omega (arith, n.ensures.0)) (omega (arith, f.auto.out));
    }

pub returns : goal.returns
returns c =
    let file = c.args.self.now.file in
    let left = c.depths-left in
    let n = c.entries_at in
    let z = c.file_length-end in
    let f = c.put_file in
    let d = c.put_directory in
    let p = c.put_pages in
    let second = part_back f.new.out d.new.dir 32 (32 + 2 * n.result) d.auto.dir (omega arith) (omega (arith, f.auto.out)) in
    let size = ap length second ∙ length_over _ _ _ in
    let is = tidied-length file.given left.result.now left.ensures c.args.depth 0 c.requires.wanted in
    let third =
    part_back _ p.new.table (32 + 2 * n.result) z.result p.auto.table (omega (arith, n.ensures.0, z.ensures.0)) (omega (arith, size, f.auto.out))
    in
    record {
      size = z.ensures.0 ∙ sym is;
      output =
          written file.given left.result.now left.ensures c.args.depth c.requires.wanted c.args.out.now (32 + 2 * n.result) f.ensures (second ∙ rw d.ensures)
          (third ∙ rw p.ensures) (omega (arith, n.ensures.0));
    }
