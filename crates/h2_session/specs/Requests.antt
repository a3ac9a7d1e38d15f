-- Whether the headers of a request are malformed (RFC 9113, sections 8.2 and 8.3).
use Rattle.std.specs.Prelude.{◌+◌, ◌==◌, ◌&&◌, ◌||◌, not, nat_eq, nat_le, codes, ℕ, Bool, false, List, [], ◌∷◌, length, filter, drop}
use Rattle.std.specs.List.{list_all, list_any}
use Rattle.std.specs.Cmp.Lexicographic.{pointwise}
use Rattle.hpack_tables.specs.declared.header.Header.{Header}
use Rattle.hpack_tables.specs.Encoding.{has_name}

-- an upper-case letter of ASCII
abbrev pub is_upper : ℕ → Bool
is_upper b = nat_le 65 b && nat_le b 90

-- a name that isn't empty and has no upper-case letter (section 8.2.1)
abbrev pub is_name : List ℕ → Bool
is_name name = not (length name == 0) && not (list_any is_upper name)

-- a name that begins with a colon (section 8.3)
abbrev pub is_pseudo_name : List ℕ → Bool
is_pseudo_name [] = false
is_pseudo_name (b ∷ bs) = b == 58

abbrev pub is_pseudo : Header → Bool
is_pseudo header = is_pseudo_name header.name

-- a header that speaks of the connection (section 8.2.2)
abbrev pub is_connection_name : List ℕ → Bool
is_connection_name name =
    pointwise nat_eq name (codes "connection")
    || pointwise nat_eq name (codes "proxy-connection")
    || pointwise nat_eq name (codes "keep-alive")
    || pointwise nat_eq name (codes "transfer-encoding")
    || pointwise nat_eq name (codes "upgrade")

-- how many headers have this name
abbrev pub count_of : List ℕ → List Header → ℕ
count_of name headers = length (filter (has_name name) headers)

abbrev pub count_pseudo : List Header → ℕ
count_pseudo headers = length (filter is_pseudo headers)

-- no pseudo-header stands behind another header: those behind as many headers as there are pseudo-headers are none
abbrev pub pseudo_first : List Header → Bool
pseudo_first headers = not (list_any is_pseudo (drop (count_pseudo headers) headers))

-- `:method`, `:scheme` and `:path` are there once, `:authority` at most once, and no other pseudo-header (section 8.3.1)
abbrev pub has_request_line : List Header → Bool
has_request_line headers =
    count_of (codes ":method") headers == 1
    && count_of (codes ":scheme") headers == 1
    && count_of (codes ":path") headers == 1
    && nat_le (count_of (codes ":authority") headers) 1
    && count_pseudo headers == 3 + count_of (codes ":authority") headers

unfoldable pub is_malformed : List Header → Bool
is_malformed headers =
    not (list_all (λ (h : Header). is_name h.name) headers)
    || list_any (λ (h : Header). is_connection_name h.name) headers
    || not (pseudo_first headers)
    || not (has_request_line headers)
