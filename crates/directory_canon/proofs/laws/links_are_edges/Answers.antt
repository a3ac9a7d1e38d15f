use Rattle.std.proofs.Common.{◌≡◌, ℕ, List, None, Result, Ok, Err, refl, ap}
use Rattle.proto_wire.specs.Reading.{IsBytes}
use Rattle.directory_canon.specs.declared.node.Node.{Node}
use Rattle.directory_canon.specs.declared.error.DirError.{DirError}
use Rattle.directory_canon.specs.Canon.{Canon}
use Rattle.directory_canon.specs.Links.{edges_by, links}
use Rattle.directory_canon.specs.Reading.{canon_of}
use Rattle.directory_canon.proofs.CanonRead.{canon_read}
use Rattle.directory_canon.proofs.CanonFound.{canon_found}
use Rattle.directory_canon.proofs.laws.links_are_edges.Goals as goal

none_by : (bytes : List ℕ) (read : Result (List Node) DirError) → canon_of bytes ≡ read → IsBytes bytes → ((dir : List Node) → Canon dir bytes → ⊥) → edges_by (canon_of bytes) ≡ None
none_by bytes (Ok dir) e fits none = absurd (none dir (canon_found bytes dir fits e))
none_by bytes (Err d) e fits none = ap edges_by e

pub returns-clause-some : goal.returns-clause-some
unfolding links
returns-clause-some c = λ dir bytes canon. ap edges_by (canon_read bytes dir canon)

pub returns-clause-none : goal.returns-clause-none
unfolding links
returns-clause-none c = λ bytes fits none. none_by bytes (canon_of bytes) refl fits none
