use Rattle.std.proofs.Common.{refl}
use Rattle.record.specs.Blocks.{slots}
use Rattle.record.specs.Record.{blocks}
use Rattle.record_tests.proofs.example_stands.Goals as goal

pub returns : goal.returns
unfolding slots blocks
returns c = record { sixty_four = refl; reads = refl; writes = refl }
