use Rattle.std.proofs.Common.{◌≡◌, ◌≤◌, List, subst, sym, length}
use Rattle.std.specs.Prelude.{Result, Ok, Err, IfOk}
use Rattle.hpack_tables.specs.declared.header.Header.{Header}
use Rattle.hpack_tables.specs.Table.{list_size}
use Rattle.h2_session.specs.Codes.{max_list}
use Rattle.casd_base.specs.declared.status.Status.{Status}
use Rattle.grpc_calls.specs.Headers.{trailers}
use Rattle.grpc_calls.proofs.HeaderLaws.{trailers_small}
use Rattle.grpc_calls.proofs.answer.trailers.Goals as goal

small_if : {E : Type 0} (r : Result (List Header) E) (status : Status) → length status.text ≤ 4096 → IfOk r (λ headers. headers ≡ trailers status) → IfOk r (λ headers. list_size headers ≤ max_list)
small_if (Ok headers) status l e = subst (λ (x : List Header). list_size x ≤ max_list) (sym e) (trailers_small status l)
small_if (Err x) status l e = tt

pub returns-clause-small : goal.returns-clause-small
returns-clause-small c = small_if c.status_headers.result c.args.status.now c.requires c.status_headers.ensures
