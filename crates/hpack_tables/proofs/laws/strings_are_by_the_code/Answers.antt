use Rattle.hpack_tables.proofs.HuffmanLaws.{read, spelled, one}
use Rattle.hpack_tables.proofs.laws.strings_are_by_the_code.Goals as goal

pub returns-clause-read : goal.returns-clause-read
returns-clause-read c = read

pub returns-clause-spelled : goal.returns-clause-spelled
returns-clause-spelled c = spelled

pub returns-clause-one : goal.returns-clause-one
returns-clause-one c = one
