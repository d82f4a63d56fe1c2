-- The numbered lines of a section, one more at a time. No contract cites this file.
use mathlib.Core.Path.{◌≡◌, ap, ◌∙◌}
use mathlib.Core.List.{List, [], ◌∷◌, ◌++◌, map, append_assoc, append-nil, map-append}
use Prim.Native.Nat.{ℕ, suc, ◌+◌, ◌*◌, ◌<◌}
use native.Mathlib.Nat.{add-zero, zero-add}
use native.Mathlib.Omega.{arith}
use lib.ListN.{length, get_or, take, drop, length-map}
use Rattle.spec.specs.declared.Op.{Op}
use Rattle.spec.specs.Bytes.{parts}
use Rattle.spec.specs.File.{Page}
use Rattle.spec.specs.Job.{no_op}
use Rattle.spec.specs.Decode.{op_of, page_of}
use Rattle.spec.specs.Result.{Told, answer_of}
use Rattle.spec.specs.Report.{op_line, op_lines, page_line, page_lines}
use Rattle.laws.specs.Codec.Tools.{get_or_map}
use Rattle.laws.specs.Codec.Parts.{length-parts, part_at}
use Rattle.text.specs.Sections.{parts_more}

suc-add : (i n : ℕ) → suc i + n ≡ i + suc n
suc-add i n = omega arith

op_last
    : (i : ℕ) (ops : List Op) (xs : List Told) (x : Told)
    → op_lines i ops (xs ++ (x ∷ [])) ≡ op_lines i ops xs ++ op_line (i + length xs) (get_or ops (i + length xs) no_op) x
unfolding op_lines
op_last i ops [] x = rw (add-zero i) (append-nil _)
op_last i ops (y ∷ xs) x = rw (op_last (suc i) ops xs x, suc-add i (length xs), append_assoc)

page_last : (x : ℕ) (ps : List Page) (p : Page) → page_lines x (ps ++ (p ∷ [])) ≡ page_lines x ps ++ page_line (x + length ps) p
unfolding page_lines
page_last x [] p = rw (add-zero x) (append-nil _)
page_last x (q ∷ ps) p = rw (page_last (suc x) ps p, suc-add x (length ps), append_assoc)

-- n operations are told, and then one more
pub op-more
    : (m n : ℕ) (s t : List ℕ)
    → n < m
    → op_lines 0 (map op_of (parts m 10 s)) (map answer_of (parts (n + 1) 8 t))
    ≡ op_lines 0 (map op_of (parts m 10 s)) (map answer_of (parts n 8 t)) ++ op_line n (op_of (take 10 (drop (10 * n) s))) (answer_of (take 8 (drop (8 * n) t)))
op-more m n s t h =
    rw (parts_more n 8 t, map-append)
    (op_last 0 (map op_of (parts m 10 s)) (map answer_of (parts n 8 t)) (answer_of (take 8 (drop (8 * n) t)))
    ∙ rw (length-map, length-parts, zero-add)
    (ap (λ (o : Op). op_lines 0 (map op_of (parts m 10 s)) (map answer_of (parts n 8 t)) ++ op_line n o (answer_of (take 8 (drop (8 * n) t))))
    (get_or_map op_of (parts m 10 s) n [] no_op (rw length-parts h) ∙ ap op_of (part_at m 10 s n h))))

-- n pages are told, and then one more
pub page-more
    : (n size : ℕ) (t : List ℕ)
    → page_lines 1 (map page_of (parts (n + 1) size t))
    ≡ page_lines 1 (map page_of (parts n size t)) ++ page_line (n + 1) (page_of (take size (drop (size * n) t)))
page-more n size t =
    let e : 1 + n ≡ n + 1 = omega arith in
    rw (parts_more n size t, map-append)
    (page_last 1 (map page_of (parts n size t)) (page_of (take size (drop (size * n) t))) ∙ rw (length-map, length-parts, e))
