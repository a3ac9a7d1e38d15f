-- The headers of requests and answers (gRPC over HTTP/2, Requests and Responses).
use Rattle.std.specs.Prelude.{◌==◌, ◌+◌, ◌-◌, ◌*◌, ◌&&◌, not, nat_le, nat_eq, codes, ℕ, Bool, true, false, List, [], ◌∷◌, length, take, Option, Some, None, if◌then◌else◌}
use Rattle.std.specs.List.{list_all}
use Rattle.std.specs.Fmt.{decimal}
use Rattle.std.specs.Str.Lossy.{utf8_valid_len}
use Rattle.std.specs.Cmp.Lexicographic.{pointwise}
use Rattle.hpack_tables.specs.declared.header.Header.{Header}
use Rattle.hpack_tables.specs.Table.{entry_of}
use Rattle.hpack_tables.specs.Encoding.{has_name}
use Rattle.casd_base.specs.Code.{number_of}
use Rattle.casd_base.specs.declared.code.Code.TheVariants as code
use Rattle.casd_base.specs.declared.status.Status.{Status}
use Rattle.grpc_calls.specs.Codes.{code_of}
use Rattle.grpc_calls.specs.Escape.{escaped, unescaped}
use Rattle.grpc_calls.specs.declared.refusal.Refusal.{Refusal}
use Rattle.grpc_calls.specs.declared.refusal.Refusal.TheVariants as refusals

-- the value of the first header with a name
abbrev pub value_of : List ℕ → List Header → Option (List ℕ)
value_of name [] = None
value_of name (h ∷ hs) = if has_name name h then Some h.value else value_of name hs

-- whether it is there and is this
abbrev pub is_value : List ℕ → Option (List ℕ) → Bool
is_value text None = false
is_value text (Some value) = pointwise nat_eq value text

-- whether it is there and begins with this
abbrev pub begins_with : List ℕ → Option (List ℕ) → Bool
begins_with text None = false
begins_with text (Some value) = pointwise nat_eq (take (length text) value) text

-- ---- a request

-- Why a request is answered by a status of HTTP alone: first its method, then the type of its content.
unfoldable pub refusal_of : List Header → Option Refusal
refusal_of headers =
    if not (is_value (codes "POST") (value_of (codes ":method") headers)) then Some refusals.Method
    else if not (begins_with (codes "application/grpc") (value_of (codes "content-type") headers)) then Some refusals.ContentType
    else None

-- a text; bytes that aren't UTF-8 give the empty one
abbrev pub text_or_empty : List ℕ → List ℕ
text_or_empty bytes = if utf8_valid_len bytes == length bytes then bytes else []

abbrev pub text_in : Option (List ℕ) → List ℕ
text_in None = []
text_in (Some bytes) = text_or_empty bytes

-- the path of the method that is called
abbrev pub path_of : List Header → List ℕ
path_of headers = text_in (value_of (codes ":path") headers)

-- 405 Method Not Allowed, 415 Unsupported Media Type (RFC 9110, sections 15.5.6 and 15.5.16)
abbrev pub refusal_text : Refusal → List ℕ
refusal_text refusals.Method = codes "405"
refusal_text refusals.ContentType = codes "415"

abbrev pub refusal_headers : Refusal → List Header
refusal_headers r = entry_of (codes ":status") (refusal_text r) ∷ []

-- a request of this end
unfoldable pub request_headers : List ℕ → List Header
request_headers path =
    entry_of (codes ":method") (codes "POST")
    ∷ entry_of (codes ":scheme") (codes "http")
    ∷ entry_of (codes ":path") path
    ∷ entry_of (codes ":authority") (codes "localhost")
    ∷ entry_of (codes "content-type") (codes "application/grpc")
    ∷ entry_of (codes "te") (codes "trailers")
    ∷ []

-- ---- an answer

-- the headers in front of its messages
unfoldable pub answer_headers : List Header
answer_headers = entry_of (codes ":status") (codes "200") ∷ entry_of (codes "content-type") (codes "application/grpc") ∷ []

abbrev pub message_header : List ℕ → List Header
message_header [] = []
message_header (b ∷ bs) = entry_of (codes "grpc-message") (escaped (b ∷ bs)) ∷ []

-- the trailers behind them
unfoldable pub trailers : Status → List Header
trailers status = entry_of (codes "grpc-status") (decimal (number_of status.code)) ∷ message_header status.text

-- ---- an answer that is read

unfoldable pub is_ok : List Header → Bool
is_ok headers = is_value (codes "200") (value_of (codes ":status") headers)

abbrev pub is_digit : ℕ → Bool
is_digit b = nat_le 48 b && nat_le b 57

-- decimal digits behind a number
abbrev pub number_on : ℕ → List ℕ → ℕ
number_on n [] = n
number_on n (d ∷ ds) = number_on (n * 10 + (d - 48)) ds

abbrev pub is_number : List ℕ → Bool
is_number [] = false
is_number (d ∷ ds) = list_all is_digit (d ∷ ds)

abbrev pub message_in : Option (List ℕ) → List ℕ
message_in None = []
message_in (Some value) = unescaped value

abbrev pub status_by : Option (List ℕ) → Option (List ℕ) → Option Status
status_by None message = None
status_by (Some digits) message =
    if is_number digits then Some (record { code = code_of (number_on 0 digits); text = message_in message }) else None

-- the status in trailers, if there is one in decimal digits
unfoldable pub status_in : List Header → Option Status
status_in headers = status_by (value_of (codes "grpc-status") headers) (value_of (codes "grpc-message") headers)

-- what a client tells of an answer that is none
abbrev pub bad_answer : Status
bad_answer = record { code = code.Internal; text = codes "bad answer" }
