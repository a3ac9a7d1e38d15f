use Rattle.hpack_tables.specs.Huffman.{all_codes}
use Rattle.hpack_tables.proofs.HuffmanCode.{is_in-from_Contains, prefix, complete}
use Rattle.hpack_tables.proofs.laws.code_is_complete.Goals as goal

pub returns-clause-prefix : goal.returns-clause-prefix
returns-clause-prefix c a b rest i j e =
    prefix a b rest (is_in-from_Contains all_codes a i) (is_in-from_Contains all_codes b j) e

pub returns-clause-complete : goal.returns-clause-complete
returns-clause-complete c = complete
