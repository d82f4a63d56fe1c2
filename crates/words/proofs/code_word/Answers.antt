use Rattle.std.proofs.Common.{◌≤◌, [], refl, sym, arith}
use Rattle.std.proofs.Math.ListN.{get_or-eq_default}
use Rattle.spec.specs.Bytes.{text}
use Rattle.spec.specs.Report.{code_words, code_word}
use Rattle.words.proofs.code_word.Goals as goal

pub returns-in-0-clause-word : goal.returns-in-0-clause-word
unfolding text code_word
returns-in-0-clause-word c = rw c.in-0.is refl

pub returns-in-1-clause-word : goal.returns-in-1-clause-word
unfolding text code_word
returns-in-1-clause-word c = rw c.in-1.is refl

pub returns-in-2-clause-word : goal.returns-in-2-clause-word
unfolding text code_word
returns-in-2-clause-word c = rw c.in-2.is refl

pub returns-in-3-clause-word : goal.returns-in-3-clause-word
unfolding text code_word
returns-in-3-clause-word c = rw c.in-3.is refl

pub returns-in-4-clause-word : goal.returns-in-4-clause-word
unfolding text code_word
returns-in-4-clause-word c = rw c.in-4.is refl

pub returns-in-5-clause-word : goal.returns-in-5-clause-word
unfolding text code_word
returns-in-5-clause-word c = rw c.in-5.is refl

pub returns-in-6-clause-word : goal.returns-in-6-clause-word
unfolding text code_word
returns-in-6-clause-word c = rw c.in-6.is refl

pub returns-in-7-clause-word : goal.returns-in-7-clause-word
unfolding text code_word
returns-in-7-clause-word c = rw c.in-7.is refl

pub returns-in-8-clause-word : goal.returns-in-8-clause-word
unfolding text code_word
returns-in-8-clause-word c = rw c.in-8.is refl

pub returns-in-9-clause-word : goal.returns-in-9-clause-word
unfolding text code_word
returns-in-9-clause-word c = rw c.in-9.is refl

pub returns-in_default-clause-word : goal.returns-in_default-clause-word
unfolding text code_word
returns-in_default-clause-word c =
    let none : 10 ≤ c.args.code = omega arith in
    sym (get_or-eq_default code_words [] none)
