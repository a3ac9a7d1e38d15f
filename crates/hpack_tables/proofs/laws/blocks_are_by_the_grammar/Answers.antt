use Rattle.hpack_tables.proofs.LawBlock.{block_takes, block_again}
use Rattle.hpack_tables.proofs.laws.blocks_are_by_the_grammar.Goals as goal

pub returns-clause-read : goal.returns-clause-read
returns-clause-read c = block_takes

pub returns-clause-spelled : goal.returns-clause-spelled
returns-clause-spelled c = block_again
