-- `run::run_accepted` meets its contract: call by call, as proofs/Accepting says.
use Rattle.std.proofs.Common.{◌≡◌, ◌/◌, ◌∙◌, ap, length}
use Rattle.table.specs.Turns.{both}
use Rattle.table.specs.Told.{told}
use Rattle.header.specs.Counts.{counts_of}
use Rattle.reader.specs.Parts.{turns_in}
use Rattle.run.specs.Table.{all_turns}
use Rattle.run.proofs.Accepting.{start_asks, first, first_is, turns_may, tell_asks, finish_asks, all_ran}
use Rattle.run.proofs.run_accepted.Goals.{After-take_turns}
use Rattle.run.proofs.run_accepted.Goals as goal

-- the turns are taken
ended
    : (c : After-take_turns)
    → both c.take_turns.new.rows c.take_turns.new.work
    ≡ all_turns c.args.reader.header c.args.reader.job.now (length (turns_in (counts_of c.args.reader.header) c.args.reader.job.now) / 2)
    (first c.requires c.args.reader.header c.args.reader.heads.counts)
ended c =
    let r = c.args.reader in
    c.take_turns.ensures
    ∙ ap (all_turns r.header r.job.now (length (turns_in (counts_of r.header) r.job.now) / 2))
    (first_is c.requires r.header r.heads.counts c.start.ensures.rows c.start.ensures.work)

pub start-requires : goal.start-requires
start-requires c = start_asks c.requires c.args.reader.header c.args.reader.heads.counts

pub take_turns-requires : goal.take_turns-requires
take_turns-requires c =
    let r = c.args.reader in
    turns_may c.requires r.header r.heads.counts _ (first_is c.requires r.header r.heads.counts c.start.ensures.rows c.start.ensures.work)

pub tell_rows-under-requires : goal.tell_rows-under-requires
tell_rows-under-requires c =
    tell_asks c.requires c.args.reader.header c.args.reader.heads.counts _ (ended (goal.at.tell_rows-under-requires c).After-take_turns)

pub finish-total-requires : goal.finish-total-requires
finish-total-requires c =
    let t = c.tell_rows-under in
    rw c.shape_of.ensures
    (finish_asks c.requires c.args.reader.header c.args.reader.heads.counts _ (ended (goal.at.finish-total-requires c).After-take_turns)
    (told t.new.res t.new.work t.result)
    t.ensures)

pub returns : goal.returns
returns c =
    let r = c.args.reader in
    let q = c.take_turns in
    let t = c.tell_rows-under in
    all_ran c.requires r.header r.heads.counts _ (ended (goal.at.returns c).After-take_turns) (told t.new.res t.new.work t.result) t.ensures
    (q.auto.rows ∙ c.start.auto.rows)
    (t.auto.work ∙ q.auto.work ∙ c.start.auto.work)
    (rw c.shape_of.ensures at c.finish-total.ensures)
    c.clear.ensures
