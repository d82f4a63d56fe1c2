-- `run::start` meets its contract: the reader's sections are those of the job.
use Rattle.std.proofs.Common.{ap, ◌∙◌, length, replicate}
use Rattle.run.proofs.Begins.{loads_in}
use Rattle.run.proofs.start.Goals as goal

pub load_file-requires : goal.load_file-requires
load_file-requires c = rw (c.directory.ensures, c.page_table.ensures) (loads_in c.args.reader.heads c.args.work.now c.requires)

pub returns-clause-rows : goal.returns-clause-rows
returns-clause-rows c = c.fill.ensures ∙ ap (replicate (length c.args.rows.now)) c.blank.ensures
