use Rattle.std.proofs.Common.{refl, arith}
use borrow.Author.Tests.{ne_eqb}
use Rattle.spec.specs.Basics.{if}
use Rattle.spec.specs.Bytes.{text}
use Rattle.spec.specs.Job.{kind_of}
use Rattle.spec.specs.Report.{kind_word}
use Rattle.words.proofs.kind_word.Goals as goal

pub returns-in-2-clause-word : goal.returns-in-2-clause-word
unfolding text kind_of kind_word if
returns-in-2-clause-word c = rw c.in-2.is refl

pub returns-in-3-clause-word : goal.returns-in-3-clause-word
unfolding text kind_of kind_word if
returns-in-3-clause-word c = rw c.in-3.is refl

pub returns-in_default-clause-word : goal.returns-in_default-clause-word
unfolding text kind_of kind_word if
returns-in_default-clause-word c = rw (ne_eqb c.args.kind 2 (λ e. omega arith), ne_eqb c.args.kind 3 (λ e. omega arith)) refl
