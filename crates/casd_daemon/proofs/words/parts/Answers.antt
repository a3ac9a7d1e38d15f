use Rattle.std.proofs.Common.{Some, None, sym}
use Rattle.casd_daemon.proofs.WordLaws.{split_sign}
use Rattle.casd_daemon.proofs.words.parts.Goals as goal

pub returns-in-Some-clause-name : goal.returns-in-Some-clause-name
returns-in-Some-clause-name c = (split_sign c.args.word.now (Some (c.in-Some.name, c.in-Some.value)) c.in-Some.ensures.cases).0

pub returns-in-Some-clause-value : goal.returns-in-Some-clause-value
returns-in-Some-clause-value c = sym (split_sign c.args.word.now (Some (c.in-Some.name, c.in-Some.value)) c.in-Some.ensures.cases).1

pub returns-in-None-clause-name : goal.returns-in-None-clause-name
returns-in-None-clause-name c = sym (split_sign c.args.word.now None c.in-None.ensures.cases).0

pub returns-in-None-clause-value : goal.returns-in-None-clause-value
returns-in-None-clause-value c = sym (split_sign c.args.word.now None c.in-None.ensures.cases).1
