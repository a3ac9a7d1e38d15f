-- The paths of the methods that are served, and of those of the same services that are not yet (Remote Execution API v2, ByteStream, and
-- the LocalContentAddressableStorage of BuildGrid).
use Rattle.std.specs.Prelude.{nat_eq, codes, find, ℕ, Bool, List, [], ◌∷◌, Option}
use Rattle.std.specs.List.{list_any}
use Rattle.std.specs.Cmp.Lexicographic.{pointwise}
use Rattle.live_calls.specs.declared.method.Method.{Method}
use Rattle.live_calls.specs.declared.method.Method.TheVariants as methods

abbrev pub path_of : Method → List ℕ
path_of methods.FindMissingBlobs = codes "/build.bazel.remote.execution.v2.ContentAddressableStorage/FindMissingBlobs"
path_of methods.BatchUpdateBlobs = codes "/build.bazel.remote.execution.v2.ContentAddressableStorage/BatchUpdateBlobs"
path_of methods.BatchReadBlobs = codes "/build.bazel.remote.execution.v2.ContentAddressableStorage/BatchReadBlobs"
path_of methods.Read = codes "/google.bytestream.ByteStream/Read"
path_of methods.QueryWriteStatus = codes "/google.bytestream.ByteStream/QueryWriteStatus"
path_of methods.GetCapabilities = codes "/build.bazel.remote.execution.v2.Capabilities/GetCapabilities"

abbrev pub all_methods : List Method
all_methods = methods.FindMissingBlobs ∷ methods.BatchUpdateBlobs ∷ methods.BatchReadBlobs ∷ methods.Read ∷ methods.QueryWriteStatus ∷ methods.GetCapabilities ∷ []

-- the method of a path, if it is one that is served
unfoldable pub method_of : List ℕ → Option Method
method_of path = find (λ m. pointwise nat_eq (path_of m) path) all_methods

abbrev pub unbuilt_paths : List (List ℕ)
unbuilt_paths =
    codes "/build.bazel.remote.execution.v2.ContentAddressableStorage/GetTree" ∷
    codes "/google.bytestream.ByteStream/Write" ∷
    codes "/build.buildgrid.LocalContentAddressableStorage/FetchMissingBlobs" ∷
    codes "/build.buildgrid.LocalContentAddressableStorage/UploadMissingBlobs" ∷
    codes "/build.buildgrid.LocalContentAddressableStorage/FetchTree" ∷
    codes "/build.buildgrid.LocalContentAddressableStorage/UploadTree" ∷
    codes "/build.buildgrid.LocalContentAddressableStorage/StageTree" ∷
    codes "/build.buildgrid.LocalContentAddressableStorage/CaptureTree" ∷
    codes "/build.buildgrid.LocalContentAddressableStorage/CaptureFiles" ∷
    []

-- whether a path is that of a method which is not served yet
unfoldable pub is_unbuilt : List ℕ → Bool
is_unbuilt path = list_any (λ p. pointwise nat_eq p path) unbuilt_paths
