use Rattle.std.proofs.Common.{rules, ◌≡◌, Ok, sym}
use Rattle.digest_types.specs.Parsing.{parsed}
use Rattle.digest_types.proofs.Decimals.{size_of-found}
use Rattle.digest_types.proofs.PrintedText.{parsed-found}
use Rattle.digest_types.proofs.digest.Digest.parse.Goals as goal

pub invariant_of-result : goal.invariant_of-result
invariant_of-result c = (size_of-found c.in-Some-size.size.now c.in-Some-size_in.size (sym c.in-Some-size_in.ensures)).0

pub returns-clause-is : goal.returns-clause-is
unfolding parsed
returns-clause-is c =
    let value : parsed c.args.text.now ≡ Ok (record { hash = c.in-Some.hash; size = c.in-Some-size_in.size }) = search rules in
    (parsed-found c.args.text.now _ value).0

pub returns-clause-printed : goal.returns-clause-printed
unfolding parsed
returns-clause-printed c =
    let value : parsed c.args.text.now ≡ Ok (record { hash = c.in-Some.hash; size = c.in-Some-size_in.size }) = search rules in
    (parsed-found c.args.text.now _ value).1
