-- The error codes that this end sends (RFC 9113, section 7), and its limits.
use Rattle.std.specs.Prelude.{ℕ}

abbrev pub no_error : ℕ
no_error = 0

abbrev pub protocol_error : ℕ
protocol_error = 1

abbrev pub flow_control_error : ℕ
flow_control_error = 3

abbrev pub stream_closed : ℕ
stream_closed = 5

abbrev pub refused_stream : ℕ
refused_stream = 7

abbrev pub compression_error : ℕ
compression_error = 9

abbrev pub enhance_your_calm : ℕ
enhance_your_calm = 11

-- the largest window, in bytes (section 6.9.1)
abbrev pub max_window : ℕ
max_window = 0x7fff_ffff

-- the window of the connection and of each stream at its beginning, in bytes (section 6.9.2)
abbrev pub first_window : ℕ
first_window = 65535

-- the largest payload of a frame, in bytes (section 4.2)
abbrev pub max_frame : ℕ
max_frame = 16384

-- the largest header block, in bytes
abbrev pub max_block : ℕ
max_block = 65536

-- how many streams a client may have open at once
abbrev pub max_streams : ℕ
max_streams = 100

-- the largest header list, in bytes: of each header its name, its value and 32
abbrev pub max_list : ℕ
max_list = 16384
