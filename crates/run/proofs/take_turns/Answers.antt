-- `run::take_turns` meets its contract: the turns are those of the job's list.
use Rattle.run.specs.Table.{all_turns}
use Rattle.run.proofs.take_turns.Goals as goal

pub turns-requires : goal.turns-requires
unfolding all_turns
turns-requires c = rw (c.operations.ensures, c.turn_list.ensures, c.shape_of.ensures) c.requires

pub returns : goal.returns
unfolding all_turns
returns c = rw (c.operations.ensures, c.turn_list.ensures, c.shape_of.ensures) at c.turns.ensures
