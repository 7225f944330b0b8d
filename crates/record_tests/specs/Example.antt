-- The worked example's record is 64 bytes long, reads as its design, and is what its design is written as. Assumes nothing.
use Rattle.std.specs.Prelude.{◌≡◌, length, Ok}
use Rattle.example.specs.Example.{example, example_bytes}
use Rattle.record.specs.Record.{reads_as, record_of}

pub record OneRecord : Type 0 where
  pub sixty_four : length example_bytes ≡ 64
  pub reads : reads_as example_bytes ≡ Ok example
  pub writes : record_of example ≡ example_bytes
