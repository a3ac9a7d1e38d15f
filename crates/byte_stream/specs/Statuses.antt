-- The statuses that only these calls answer, with their texts.
use Rattle.std.specs.Prelude.{codes}
use Rattle.casd_base.specs.declared.code.Code.TheVariants as code
use Rattle.casd_base.specs.declared.status.Status.{Status}

-- a name that names no blob, or another one than before
abbrev pub bad_name : Status
bad_name = record { code = code.InvalidArgument; text = codes "bad name" }

-- a negative limit of a Read
abbrev pub bad_limit : Status
bad_limit = record { code = code.InvalidArgument; text = codes "bad limit" }

-- a Read that begins outside the blob
abbrev pub outside : Status
outside = record { code = code.OutOfRange; text = codes "bad offset" }

-- a Write that doesn't go on where it was
abbrev pub bad_offset : Status
bad_offset = record { code = code.InvalidArgument; text = codes "bad offset" }

-- a Write of more bytes than the blob has
abbrev pub too_much : Status
too_much = record { code = code.InvalidArgument; text = codes "too much data" }

-- a Write that ended before its blob was whole
abbrev pub unfinished : Status
unfinished = record { code = code.InvalidArgument; text = codes "upload not finished" }
