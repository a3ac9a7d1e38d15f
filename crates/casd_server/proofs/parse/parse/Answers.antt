use Rattle.casd_server.proofs.RecordLemmas.{is_found, is_read}
use Rattle.casd_server.proofs.parse.parse.Goals as goal

pub returns-clause-found : goal.returns-clause-found
returns-clause-found c = is_found c.args.line.now c.read.result c.read.ensures

pub returns-clause-only : goal.returns-clause-only
returns-clause-only c = λ r is same short. is_read c.args.line.now c.read.result r c.read.ensures is same short
