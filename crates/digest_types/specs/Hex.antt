-- Hex text in lower case.
use Rattle.std.specs.Prelude.{◌&&◌, ◌||◌, nat_le, ℕ, Bool, List, Option, None, if◌then◌else◌}
use Rattle.std.specs.List.{list_all}
use Rattle.std.specs.Result.{result_ok}
use Rattle.hex.specs.Hex.{decode_of}

-- `0` to `9`, or `a` to `f`
abbrev pub is_lower_digit : ℕ → Bool
is_lower_digit c = nat_le 48 c && nat_le c 57 || nat_le 97 c && nat_le c 102

-- the bytes that a text spells in lower-case hex
unfoldable pub unhex_of : List ℕ → Option (List ℕ)
unhex_of text = if list_all is_lower_digit text then result_ok (decode_of text) else None
