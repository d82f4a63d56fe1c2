use Rattle.std.proofs.Common.{◌≡◌, ℕ, ◌+◌, ◌-◌, ◌≤◌, arith, rules, length, replicate, ◌∙◌, ap}
use Rattle.std.proofs.lemmas.List.{length-replicate}
use Rattle.wire.specs.Parts.{over_between, length_part}
use Rattle.wire.proofs.clear.Goals as goal

pub returns : goal.returns
returns c =
    let a = c.args in
    let n : a.at + a.n - a.at ≡ a.n = omega arith in
    let whole : a.at + (a.at + a.n - a.at) ≤ length a.s.now = omega arith in
    let zeros : c.fill.new.self ≡ replicate a.n 0 =
    c.fill.ensures.after (search rules) ∙ ap (λ (k : ℕ). replicate k 0) (length_part a.s.now a.at (a.at + a.n - a.at) whole ∙ n) in
    over_between a.s.now (replicate a.n 0) c.fill.new.self a.at (a.at + a.n) zeros (omega (arith, length-replicate {A = ℕ} a.n 0)) (omega arith) (omega arith)
