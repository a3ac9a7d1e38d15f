use Rattle.std.proofs.Common.{Some, None, sym}
use Rattle.digest_types.proofs.PrintedText.{split_slash}
use Rattle.digest_types.proofs.parse.parts.Goals as goal

pub returns-in-Some-clause-hash : goal.returns-in-Some-clause-hash
returns-in-Some-clause-hash c = (split_slash c.args.text.now (Some (c.in-Some.hash, c.in-Some.size)) c.in-Some.ensures.cases).0

pub returns-in-Some-clause-size : goal.returns-in-Some-clause-size
returns-in-Some-clause-size c = sym (split_slash c.args.text.now (Some (c.in-Some.hash, c.in-Some.size)) c.in-Some.ensures.cases).1

pub returns-in-None-clause-hash : goal.returns-in-None-clause-hash
returns-in-None-clause-hash c = sym (split_slash c.args.text.now None c.in-None.ensures.cases).0

pub returns-in-None-clause-size : goal.returns-in-None-clause-size
returns-in-None-clause-size c = sym (split_slash c.args.text.now None c.in-None.ensures.cases).1
