use Rattle.spec.specs.Decode.{header_of}
use Rattle.header.proofs.Header.read.Goals as goal

pub returns : goal.returns
unfolding header_of
returns c = cc
