use mathlib.Core.Path.{◌≡◌, sym, ◌∙◌}
use borrow.Author.Tests.{tests}
use Rattle.std.proofs.Common.{rules}
use Rattle.std.proofs.lemmas.Iterator.{YieldsList-from_slice}
use Rattle.std.proofs.lemmas.Iterator.Search.{position_from_yields_List}
use Rattle.std.specs.Prelude.{position, not, nat_eq}
use Rattle.laws.specs.Codec.Zeros.{not-zero-none}
use Rattle.job.proofs.Zeros.{found}
use Rattle.job.proofs.table.not_zero.Goals as goal

pub returns-then-is_zero : goal.returns-then-is_zero
returns-then-is_zero c = rw ((not-zero-none _ _).1 (sym c.is_zero.ensures ∙ c.if-is_zero.true))

pub returns-in_err-i : goal.returns-in_err-i
returns-in_err-i c =
    let e : c.position.result ≡ position (λ x. not (nat_eq x 0)) c.args.bytes.now =
    position_from_yields_List (λ x. not (nat_eq x 0)) _ _ c.position.result c.position.ensures.ran (YieldsList-from_slice c.args.bytes.now cc) (λ x b q k. search (rules, tests)) in
    rw c.from_residual.ensures (rw (sym e ∙ c.in_err-i.was) at (found c.args.bytes.now c.args.place))

pub returns : goal.returns
returns c =
    let e : c.position.result ≡ position (λ x. not (nat_eq x 0)) c.args.bytes.now =
    position_from_yields_List (λ x. not (nat_eq x 0)) _ _ c.position.result c.position.ensures.ran (YieldsList-from_slice c.args.bytes.now cc) (λ x b q k. search (rules, tests)) in
    rw (sym e ∙ c.in_ok-i.was) at (found c.args.bytes.now c.args.place)
