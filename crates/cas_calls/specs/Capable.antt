-- GetCapabilities (Remote Execution API v2): the answer, which is constant.
use Rattle.std.specs.Prelude.{pos, ℕ, List, ◌∷◌, []}
use Rattle.cas_messages.specs.Table.{Value, ◌&◌}
use Rattle.cas_messages.specs.Spelling.{spelled}
use Rattle.cas_messages.specs.Tables.{server_capabilities}
use Rattle.cas_calls.specs.Limits.{max_batch}

-- SHA-256; batches of at most so many bytes of data; absolute targets of symbolic links are allowed; versions 2.0 to 2.3
abbrev pub capable : Value server_capabilities
capable = ((pos 1 ∷ []) & pos max_batch & pos 2 & tt) & (pos 2 & pos 0 & pos 0 & tt) & (pos 2 & pos 3 & pos 0 & tt) & tt

abbrev pub capabilities_spelled : List ℕ
capabilities_spelled = spelled server_capabilities capable
