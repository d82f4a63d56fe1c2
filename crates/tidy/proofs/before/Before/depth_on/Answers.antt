-- `Before::depth_on` meets its contract: no depth below the one found leaves few enough records.
use Prim.Native.Nat.{ℕ, ◌<◌, ◌≤◌}
use native.Mathlib.Omega.{arith}
use Rattle.std.proofs.Common.{◌≡◌, sym, ◌∙◌, rules, tests}
use Rattle.std.specs.Prelude.{Option, None, Some}
use Rattle.std.specs.Option.{MatchOption, unwrap_or}
use mathlib.Core.List.{List}
use Rattle.std.proofs.lemmas.Iterator.{first_from_Range}
use Rattle.spec.specs.Decode.{file_of}
use Rattle.laws.specs.Tidy.Entries.{records_under, depth_on}
use Rattle.header.specs.declared.Header.{Header}
use Rattle.tidy.specs.Given.{Given}
use Rattle.tidy.proofs.Counting.{ends, stops}
use Rattle.tidy.proofs.before.Before.depth_on.Goals as goal

-- the first depth below g that leaves few enough records, or g
found
    : {h : Header} {b : List ℕ} (e : Given h b) (j : ℕ) (r : Option ℕ)
    → MatchOption r
    ((k : ℕ) → 0 ≤ k → k < h.depth → h.capacity < records_under (file_of b) k j)
    (λ i. (0 ≤ i) × (i < h.depth) × (records_under (file_of b) i j ≤ h.capacity) × ((k : ℕ) → 0 ≤ k → k < i → h.capacity < records_under (file_of b) k j))
    → unwrap_or r h.depth ≡ depth_on (file_of b) j
found e j None m = sym (ends e j (λ k u. m k (omega arith) u))
found e j (Some l) m = sym (stops e j l m.1 m.2 (λ k u. m.3 k (omega arith) u))

pub returns-clause-is : goal.returns-clause-is
returns-clause-is c =
    let s = c.args.self.now in
    let h = s.file.reader.header in
    let f = file_of s.file.reader.job.now in
    let j = c.args.j in
    let first =
    first_from_Range (record { start = 0; end = h.depth }) _ _ c.find.result (λ l. records_under f l j ≤ h.capacity) (λ l. h.capacity < records_under f l j)
    c.find.ensures.ran (λ l q k. search (rules, tests)) (λ l q k. search (rules, tests))
    in
    c.unwrap_or.ensures ∙ found s.file.given j c.find.result first
