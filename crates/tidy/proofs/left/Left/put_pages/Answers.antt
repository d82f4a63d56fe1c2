-- `Left::put_pages` meets its contract: the pages passed are written, and then one more; at the end, zeros.
use mathlib.Core.Path.{◌≡◌, sym, ap, ◌∙◌}
use Prim.Native.Nat.{◌+◌, ◌-◌, ◌*◌, ◌≤◌}
use native.Mathlib.Omega.{arith}
use lib.ListN.{length, replicate}
use Rattle.spec.specs.File.{zero_page}
use Rattle.spec.specs.Tidy.{pages_left}
use Rattle.laws.specs.Tools.{each_at}
use Rattle.laws.specs.Tidy.Starts.{start-zero}
use Rattle.tidy.specs.Charge.{file_in}
use Rattle.tidy.proofs.Known.{entries-most}
use Rattle.tidy.proofs.Table.{run_inside, start-more, small, own_fills, sizes, page_here, part_size, part_back, pages-none, pages-next, pages_all}
use Rattle.tidy.proofs.left.Left.put_pages.Goals as goal

pub loop-k-init : goal.loop-k-init
loop-k-init c =
    let f = c.args.self.now.file in
    let d = c.depths-left in
    record {
      at = sym (start-zero f.reader.header.depth d.result.now);
      written = pages-none f.reader.header.capacity (pages_left (file_in f)) (small f.given d.result.now d.ensures) c.args.table.now;
    }

pub overflow_mul-at : goal.overflow_mul-at
overflow_mul-at c =
    let f = c.args.self.now.file in
    let d = c.depths-left in
    let z = c.page_size-size in
    let s = sizes f.given d.result.now d.ensures z.result c.loop-k.k c.args.table.now z.ensures.0 c.requires (omega arith) in
    omega (arith, s.stop, s.whole)

pub overflow_add-end : goal.overflow_add-end
overflow_add-end c =
    let f = c.args.self.now.file in
    let d = c.depths-left in
    let z = c.page_size-size in
    let s = sizes f.given d.result.now d.ensures z.result c.loop-k.k c.args.table.now z.ensures.0 c.requires (omega arith) in
    omega (arith, s.next c.loop-k-test.true, s.whole)

pub overflow_mul-size : goal.overflow_mul-size
overflow_mul-size c =
    let f = c.args.self.now.file in
    let d = c.depths-left in
    let z = c.page_size-size in
    let ls = d.result.now in
    let s = sizes f.given ls d.ensures z.result (length ls) c.args.table.now z.ensures.0 c.requires (omega arith) in
    omega (arith, s.stop, s.whole)

pub slice_bounds-put_page-end : goal.slice_bounds-put_page-end
slice_bounds-put_page-end c =
    let f = c.args.self.now.file in
    let d = c.depths-left in
    let z = c.page_size-size in
    let s = sizes f.given d.result.now d.ensures z.result c.loop-k.k c.args.table.now z.ensures.0 c.requires (omega arith) in
    omega (arith, s.next c.loop-k-test.true)

pub put_page-requires : goal.put_page-requires
put_page-requires c =
    let f = c.args.self.now.file in
    let l = c.loop-k in
    let d = c.depths-left in
    let ls = d.result.now in
    let z = c.page_size-size in
    let taken = c.loop-k-test.true in
    let s = sizes f.given ls d.ensures z.result l.k c.args.table.now z.ensures.0 c.requires (omega arith) in
    let fill = own_fills f.given ls d.ensures in
    let at = z.result * l.k in
    let here = page_here f.given ls d.ensures l.k l.j taken l.invariant.at in
    record {
      deep = each_at ls l.k 0 taken fill.deep;
      within = run_inside f.reader.header.depth ls l.k l.j taken l.invariant.at fill.total;
      size = part_size l.table at (at + z.result) z.result (omega arith) (omega (arith, s.next taken)) ∙ z.ensures.0;
      few = rw here (each_at (pages_left (file_in f)) l.k zero_page (omega arith) (small f.given ls d.ensures));
    }

pub run-j-requires : goal.run-j-requires
run-j-requires c =
    let f = c.args.self.now.file in
    let d = c.depths-left in
    each_at d.result.now c.loop-k.k 0 c.loop-k-test.true (own_fills f.given d.result.now d.ensures).deep

pub overflow_add-j : goal.overflow_add-j
overflow_add-j c =
    let f = c.args.self.now.file in
    let l = c.loop-k in
    let d = c.depths-left in
    omega (
      arith,
      c.run-j.ensures.is,
      entries-most f.given,
      run_inside f.reader.header.depth d.result.now l.k l.j c.loop-k-test.true l.invariant.at (own_fills f.given d.result.now d.ensures).total,
    )

pub loop-k-preserved : goal.loop-k-preserved
loop-k-preserved c =
    let f = c.args.self.now.file in
    let h = f.reader.header in
    let l = c.loop-k in
    let d = c.depths-left in
    let ls = d.result.now in
    let z = c.page_size-size in
    let taken = c.loop-k-test.true in
    let s = sizes f.given ls d.ensures z.result l.k c.args.table.now z.ensures.0 c.requires (omega arith) in
    let p = c.put_page in
    let here = page_here f.given ls d.ensures l.k l.j taken l.invariant.at in
    let back = part_back l.table p.new.out (z.result * l.k) (z.result * l.k + z.result) p.auto.out (omega arith) (omega (arith, s.next taken)) in
    record {
      at = rw c.run-j.ensures.is (start-more h.depth ls l.k l.j taken l.invariant.at);
      written =
          pages-next h.capacity (pages_left (file_in f)) (small f.given ls d.ensures) c.args.table.now l.k (omega arith) l.invariant.written
          (back ∙ rw (z.ensures.0, p.ensures, here));
    }

pub slice_bounds-fill-count : goal.slice_bounds-fill-count
slice_bounds-fill-count c =
    let f = c.args.self.now.file in
    let d = c.depths-left in
    let z = c.page_size-size in
    let ls = d.result.now in
    let s = sizes f.given ls d.ensures z.result (length ls) c.args.table.now z.ensures.0 c.requires (omega arith) in
    omega (arith, s.stop, s.whole)

pub slice_bounds-fill-start : goal.slice_bounds-fill-start
slice_bounds-fill-start c =
    let f = c.args.self.now.file in
    let d = c.depths-left in
    let z = c.page_size-size in
    let ls = d.result.now in
    let s = sizes f.given ls d.ensures z.result (length ls) c.args.table.now z.ensures.0 c.requires (omega arith) in
    let within : z.result * length ls ≤ length c.loop-k.table = omega (arith, s.stop, s.whole) in
    within

pub returns : goal.returns
returns c =
    let f = c.args.self.now.file in
    let h = f.reader.header in
    let l = c.loop-k in
    let d = c.depths-left in
    let ls = d.result.now in
    let z = c.page_size-size in
    let s = sizes f.given ls d.ensures z.result (length ls) c.args.table.now z.ensures.0 c.requires (omega arith) in
    let at = z.result * length ls in
    let end = length l.table in
    let all : l.k ≡ length ls = omega arith in
    let rest = part_size l.table at end (end - at) (omega (arith, s.stop, s.whole)) (omega arith) in
    let zeros : c.fill.new.self ≡ replicate (end - at) 0 = c.fill.ensures.after (λ y e. e) ∙ ap (λ n. replicate n 0) rest in
    let back = part_back l.table c.fill.new.self at end c.fill.auto.self (omega (arith, s.stop, s.whole)) (omega arith) in
    pages_all h.capacity (pages_left (file_in f)) (small f.given ls d.ensures) c.args.table.now l.k h.pages at (end - at) (omega (arith, s.many)) (omega (arith, s.fewer))
    c.requires l.invariant.written (rw (all, z.ensures.0)) (omega (arith, s.whole, c.requires)) (back ∙ rw zeros)
