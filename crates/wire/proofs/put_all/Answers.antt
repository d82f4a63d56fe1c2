use Rattle.std.proofs.Common.{◌≡◌, ◌∙◌, sym, ap, ℕ, ◌+◌, ◌*◌, ◌≤◌, ◌<◌, List, [], length, take, get_or, add-one, length-take-le, le_of_lt, take-suc}
use Rattle.spec.specs.Basics.{each}
use Rattle.laws.specs.Codec.Parts.{each_snoc, length_each}
use Rattle.laws.specs.Codec.Tools.{every}
use Rattle.wire.specs.Over.{over}
use Rattle.wire.specs.OverLaws.{over_none, over-over}
use Rattle.wire.specs.Low.{low, length_low}
use Rattle.wire.proofs.put_all.Goals as goal

none : (f : ℕ → List ℕ) (s : List ℕ) (at : ℕ) → s ≡ over s at (each f [])
unfolding each
none f s at = sym (over_none s at)

more
    : (n : ℕ) (s : List ℕ) (at i : ℕ) (xs : List ℕ)
    → n ≤ 8
    → i < length xs
    → over (over s at (each (low n) (take i xs))) (at + n * i) (low n (get_or xs i 0)) ≡ over s at (each (low n) (take (i + 1) xs))
more n s at i xs h l =
    let done = each (low n) (take i xs) in
    let long : length done ≡ n * i =
    length_each (low n) n (take i xs) (every (λ v. length_low n v h) (take i xs)) ∙ ap (λ (k : ℕ). n * k) (length-take-le i xs (le_of_lt l)) in
    over-over done (low n (get_or xs i 0)) s at (at + n * i) (ap (λ (k : ℕ). at + k) (sym long))
    ∙ ap (over s at) (sym (each_snoc (low n) (take i xs) (get_or xs i 0)) ∙ ap (each (low n)) (sym (take-suc xs i 0 l) ∙ ap (λ (k : ℕ). take k xs) (sym (add-one i))))

pub loop-i-init : goal.loop-i-init
loop-i-init g c = none (low g.row.N) c.args.s.now c.args.at

pub loop-i-preserved : goal.loop-i-preserved
loop-i-preserved g c =
    let a = c.args in
    let step = more g.row.N a.s.now a.at c.loop-i.i a.numbers.now c.requires.0 c.loop-i-test.true in
    cc step
