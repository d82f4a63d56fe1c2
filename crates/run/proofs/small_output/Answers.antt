use Rattle.spec.specs.Job.{file_length}
use Rattle.spec.specs.Check.{result_size, small_output}
use Rattle.run.proofs.small_output.Goals as goal

pub returns : goal.returns
unfolding small_output result_size file_length
returns c = let e = c.args.reader.heads.counts in rw (← e, ← c.ops_offset.ensures.0) (c.small_for.ensures _ e)
