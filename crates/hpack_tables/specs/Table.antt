-- Headers, the static table and the dynamic table (RFC 7541, sections 2.3 and 4, appendix A).
use Rattle.std.specs.Prelude.{◌+◌, ◌-◌, nat_le, codes, ℕ, zero, suc, List, [], ◌∷◌, ◌++◌, length, sum_by, slice_get, Option, None, if◌then◌else◌}
use Rattle.hpack_tables.specs.declared.fault.HpackFault.{HpackFault}
use Rattle.hpack_tables.specs.declared.header.Header.{Header}

-- a header with this name and value
abbrev pub entry_of : List ℕ → List ℕ → Header
entry_of name value = record { name = name; value = value }

-- the static table, from index 1 on; an entry without a value has an empty value
unfoldable pub static_entries : List Header
static_entries =
    entry_of (codes ":authority") []
    ∷ entry_of (codes ":method") (codes "GET")
    ∷ entry_of (codes ":method") (codes "POST")
    ∷ entry_of (codes ":path") (codes "/")
    ∷ entry_of (codes ":path") (codes "/index.html")
    ∷ entry_of (codes ":scheme") (codes "http")
    ∷ entry_of (codes ":scheme") (codes "https")
    ∷ entry_of (codes ":status") (codes "200")
    ∷ entry_of (codes ":status") (codes "204")
    ∷ entry_of (codes ":status") (codes "206")
    ∷ entry_of (codes ":status") (codes "304")
    ∷ entry_of (codes ":status") (codes "400")
    ∷ entry_of (codes ":status") (codes "404")
    ∷ entry_of (codes ":status") (codes "500")
    ∷ entry_of (codes "accept-charset") []
    ∷ entry_of (codes "accept-encoding") (codes "gzip, deflate")
    ∷ entry_of (codes "accept-language") []
    ∷ entry_of (codes "accept-ranges") []
    ∷ entry_of (codes "accept") []
    ∷ entry_of (codes "access-control-allow-origin") []
    ∷ entry_of (codes "age") []
    ∷ entry_of (codes "allow") []
    ∷ entry_of (codes "authorization") []
    ∷ entry_of (codes "cache-control") []
    ∷ entry_of (codes "content-disposition") []
    ∷ entry_of (codes "content-encoding") []
    ∷ entry_of (codes "content-language") []
    ∷ entry_of (codes "content-length") []
    ∷ entry_of (codes "content-location") []
    ∷ entry_of (codes "content-range") []
    ∷ entry_of (codes "content-type") []
    ∷ entry_of (codes "cookie") []
    ∷ entry_of (codes "date") []
    ∷ entry_of (codes "etag") []
    ∷ entry_of (codes "expect") []
    ∷ entry_of (codes "expires") []
    ∷ entry_of (codes "from") []
    ∷ entry_of (codes "host") []
    ∷ entry_of (codes "if-match") []
    ∷ entry_of (codes "if-modified-since") []
    ∷ entry_of (codes "if-none-match") []
    ∷ entry_of (codes "if-range") []
    ∷ entry_of (codes "if-unmodified-since") []
    ∷ entry_of (codes "last-modified") []
    ∷ entry_of (codes "link") []
    ∷ entry_of (codes "location") []
    ∷ entry_of (codes "max-forwards") []
    ∷ entry_of (codes "proxy-authenticate") []
    ∷ entry_of (codes "proxy-authorization") []
    ∷ entry_of (codes "range") []
    ∷ entry_of (codes "referer") []
    ∷ entry_of (codes "refresh") []
    ∷ entry_of (codes "retry-after") []
    ∷ entry_of (codes "server") []
    ∷ entry_of (codes "set-cookie") []
    ∷ entry_of (codes "strict-transport-security") []
    ∷ entry_of (codes "transfer-encoding") []
    ∷ entry_of (codes "user-agent") []
    ∷ entry_of (codes "vary") []
    ∷ entry_of (codes "via") []
    ∷ entry_of (codes "www-authenticate") []
    ∷ []

-- The dynamic table: its entries, the newest first, and the most that their size may be, in bytes.
pub record HeaderTable : Type 0 where
  pub entries : List Header
  pub max : ℕ

-- a table without entries
abbrev pub new_table : ℕ → HeaderTable
new_table max = record { entries = []; max = max }

-- the size of a header in bytes: its name, its value and 32 (section 4.1)
abbrev pub size_of : Header → ℕ
size_of header = length header.name + length header.value + 32

-- the size of a list of headers in bytes
abbrev pub list_size : List Header → ℕ
list_size headers = sum_by size_of headers

-- As many entries from the newest on as have together at most `max` bytes: the oldest are evicted.
unfoldable pub fitting : ℕ → List Header → List Header
fitting max [] = []
fitting max (entry ∷ entries) = if nat_le (size_of entry) max then entry ∷ fitting (max - size_of entry) entries else []

-- One more entry. One that is larger than the table empties it (section 4.4).
abbrev pub with_entry : HeaderTable → Header → HeaderTable
with_entry t header = record t { entries = fitting t.max (header ∷ t.entries) }

-- another maximum size, in bytes (section 4.3)
abbrev pub with_max : HeaderTable → ℕ → HeaderTable
with_max t max = record { entries = fitting max t.entries; max = max }

-- the entry of an index: the static table, and after it the dynamic one; index 0 has none
unfoldable pub header_at : HeaderTable → ℕ → Option Header
header_at t zero = None
header_at t (suc place) = slice_get (static_entries ++ t.entries) place

-- What the blocks of one direction of a connection are decoded with: the dynamic table, and the refusal of a block, if one was
-- refused.
pub record TableState : Type 0 where
  pub dynamic : HeaderTable
  pub refusal : Option HpackFault

-- no block was refused
abbrev pub unrefused : HeaderTable → TableState
unrefused t = record { dynamic = t; refusal = None }
