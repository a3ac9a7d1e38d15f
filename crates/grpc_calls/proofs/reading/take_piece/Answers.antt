use Rattle.std.specs.Prelude.{Result, Ok, Err, IfOk}
use Rattle.grpc_calls.proofs.TableLaws.{gives_end}
use Rattle.grpc_calls.proofs.reading.take_piece.Goals as goal

if_ok : {A E : Type 0} (r : Result A E) (P Q : A → Type 0) → ((x : A) → P x → Q x) → IfOk r P → IfOk r Q
if_ok (Ok x) P Q f h = f x h
if_ok (Err e) P Q f h = tt

pub returns : goal.returns
returns c = if_ok c.end_if.result _ _ (λ r h. gives_end c.args.end_stream c.args.client c.args.stream _ c.in_ok-reading.reading r c.args.events.now.items _ c.end_if.new.events.items c.in_ok-reading.ensures h) c.end_if.ensures
