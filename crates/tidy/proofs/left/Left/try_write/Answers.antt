-- `Left::try_write` meets its contract: refused by 19 or 11, or written.
use mathlib.Core.Path.{refl}
use Rattle.std.proofs.lemmas.Result.{err_from_is_err_and}
use Rattle.laws.specs.Codec.Answer.{no_fault, its_fault}
use Rattle.laws.specs.Tidy.Entries.{depths_left}
use Rattle.tidy.specs.Charge.{file_in}
use Rattle.tidy.proofs.Refused.{passed_wanted, passed_room, tidied-length}
use Rattle.wire.specs.Comes.{comes_refused, comes_done}
use Rattle.tidy.proofs.left.Left.try_write.Goals as goal

pub returns-in_err-wrong_output : goal.returns-in_err-wrong_output
returns-in_err-wrong_output c =
    let p = err_from_is_err_and c.from_residual.result c.from_residual.ensures.1 in
    rw (p.1, p.2) (comes_refused (its_fault c.wrong_output.ensures c.in_err-wrong_output.was))

pub write-requires : goal.write-requires
write-requires c =
    let f = c.args.self.now.file in
    let passed = no_fault c.wrong_output.ensures c.in_ok-wrong_output.was in
    record { wanted = passed_wanted _ _ _ passed; room = passed_room _ _ _ passed f.given (depths_left (file_in f) 0) refl }

pub returns : goal.returns
returns c =
    let f = c.args.self.now.file in
    let w = c.write in
    let passed = no_fault c.wrong_output.ensures c.in_ok-wrong_output.was in
    comes_done passed w.ensures.size w.ensures.output
    (rw (tidied-length f.given (depths_left (file_in f) 0) refl _ 0 (passed_wanted _ _ _ passed)) (passed_room _ _ _ passed f.given (depths_left (file_in f) 0) refl))
