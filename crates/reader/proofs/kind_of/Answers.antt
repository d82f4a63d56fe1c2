use mathlib.Core.Path.{◌≡◌}
use mathlib.Core.Bool.{false}
use Rattle.std.specs.Prelude.{nat_eq}
use Rattle.reader.proofs.Numbers.{beyond}
use borrow.Author.Tests.{tests}
use Rattle.std.proofs.Common.{rules}
use Rattle.spec.specs.Basics.{if}
use Rattle.spec.specs.Job.{kind_of}
use Rattle.spec.specs.Check.{outside}
use Rattle.reader.proofs.kind_of.Goals as goal

pub returns-in-1 : goal.returns-in-1
unfolding kind_of if outside
returns-in-1 c = rw c.in-1.is

pub returns-in-2 : goal.returns-in-2
unfolding kind_of if outside
returns-in-2 c = rw c.in-2.is

pub returns-in-3 : goal.returns-in-3
unfolding kind_of if outside
returns-in-3 c = rw c.in-3.is

pub returns-in_default : goal.returns-in_default
unfolding if
returns-in_default c =
    let n = c.args.number in
    let one : nat_eq n 1 ≡ false = search (tests, rules) in
    let two : nat_eq n 2 ≡ false = search (tests, rules) in
    let three : nat_eq n 3 ≡ false = search (tests, rules) in
    rw (beyond n one two three)
