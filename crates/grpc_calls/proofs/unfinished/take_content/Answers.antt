use Rattle.std.proofs.Common.{◌≡◌, List, ℕ, ◌++◌, Vec, Global, drop, ap, ◌∙◌, arith}
use Rattle.grpc_calls.specs.Prefix.{size_in}
use Rattle.grpc_calls.proofs.MessageLaws.{content_part, content_whole, content_less}
use Rattle.grpc_calls.proofs.unfinished.take_content.Goals as goal

pub returns-then-count-left-clause-takes : goal.returns-then-count-left-clause-takes
returns-then-count-left-clause-takes c =
    let size : c.size_of.result ≡ size_in (drop 1 c.args.prefix.now.items) = c.size_of.ensures ∙ ap (λ (x : List ℕ). size_in (drop 1 x)) c.as_slice.ensures.value in
    content_part c.args.prefix.now.items c.args.content.now.items c.args.bytes.now c.min-count.result c.extend_from_slice.new.self.items c.requires.part c.requires.whole
    (omega (arith, c.args.content.now.ok.0, c.args.prefix.now.ok.0, size)) (omega (arith, c.args.content.now.ok.0, c.args.prefix.now.ok.0, size)) (omega (arith, c.args.content.now.ok.0, c.args.prefix.now.ok.0, size)) c.in_ok-extend_from_slice.ensures.items

pub returns-clause-takes : goal.returns-clause-takes
returns-clause-takes c =
    let size : c.size_of.result ≡ size_in (drop 1 c.args.prefix.now.items) = c.size_of.ensures ∙ ap (λ (x : List ℕ). size_in (drop 1 x)) c.as_slice.ensures.value in
    let less = content_less c.args.prefix.now.items c.args.content.now.items c.requires.part c.requires.whole in
    content_whole c.args.prefix.now.items c.args.content.now.items c.args.bytes.now c.min-count.result c.extend_from_slice.new.self.items c.from_vec.result _ c.requires.part c.requires.whole
    (omega (arith, c.args.content.now.ok.0, c.args.prefix.now.ok.0, size, less)) (omega (arith, c.args.content.now.ok.0, c.args.prefix.now.ok.0, size, less)) (omega (arith, c.args.content.now.ok.0, c.args.prefix.now.ok.0, size, less)) c.in_ok-extend_from_slice.ensures.items (c.from_vec.ensures ∙ ap (λ (v : Vec ℕ Global). v.items) c.replace-whole.ensures.value) (ap (λ (xs : List ℕ). xs ++ c.replace-whole.new.dest.items) c.clear.ensures.items ∙ (ap (λ (v : Vec ℕ Global). v.items) c.replace-whole.ensures.after ∙ c.new.ensures.items))
