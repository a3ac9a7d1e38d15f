-- The words of the daemon, and what they ask for.
use Rattle.std.specs.Prelude.{◌==◌, ◌&&◌, ◌||◌, ◌^◌, not, nat_eq, nat_lt, nat_le, codes, ℕ, Bool, true, false, List, [], ◌∷◌, length, find, Option, Some, None, is_some, unwrap_or, if◌then◌else◌}
use Rattle.std.specs.List.{list_all, position_or_len, before_first, after_first}
use Rattle.std.specs.Cmp.Lexicographic.{pointwise}
use Rattle.digest_types.specs.Parsing.{is_digit, value_of}
use Rattle.store_core.specs.declared.state.Guard.{Guard}
use Rattle.store_core.specs.declared.state.Guard.TheVariants as guards
use Rattle.casd_daemon.specs.declared.option.Setting.{Setting}
use Rattle.casd_daemon.specs.declared.option.Setting.TheVariants as settings

-- what the words ask for: a socket, a folder, the marks, how many connections are served at most, and what guards a row
pub record Asked : Type 0 where
  pub socket : List ℕ
  pub folder : List ℕ
  pub low : ℕ
  pub high : ℕ
  pub guard : Guard
  pub connections : ℕ

-- What was read so far: the places and the values of the options, the option whose value the next word is, and whether `--`
-- was read.
pub record Reading : Type 0 where
  pub socket : Option (List ℕ)
  pub folder : Option (List ℕ)
  pub low : Option ℕ
  pub high : Option ℕ
  pub guard : Option Guard
  pub connections : Option ℕ
  pub awaited : Option Setting
  pub ended : Bool

abbrev pub nothing : Reading
nothing = record { socket = None; folder = None; low = None; high = None; guard = None; connections = None; awaited = None; ended = false }

-- how an option is written
abbrev pub name_of : Setting → List ℕ
name_of settings.QuotaLow = codes "--quota-low"
name_of settings.QuotaHigh = codes "--quota-high"
name_of settings.Connections = codes "--connections"
name_of settings.Guard = codes "--guard"

-- the option that is written so
unfoldable pub setting_of : List ℕ → Option Setting
setting_of text = find (λ s. pointwise nat_eq (name_of s) text) (settings.QuotaLow ∷ settings.QuotaHigh ∷ settings.Connections ∷ settings.Guard ∷ [])

abbrev pub begins_with_dash : List ℕ → Bool
begins_with_dash [] = false
begins_with_dash (c ∷ cs) = c == 45

abbrev pub is_sign : ℕ → Bool
is_sign c = c == 61

-- what stands before the first `=`, or the whole word
abbrev pub before_sign : List ℕ → List ℕ
before_sign text = before_first is_sign text

-- what follows the first `=`, if there is one
abbrev pub after_sign : List ℕ → Option (List ℕ)
after_sign text = if nat_lt (position_or_len is_sign text) (length text) then Some (after_first is_sign text) else None

-- 1 to 19 decimal digits, which stand for a number below 2^64
abbrev pub is_number : List ℕ → Bool
is_number text = nat_lt 0 (length text) && (nat_le (length text) 19 && list_all is_digit text)

unfoldable pub number_of : List ℕ → Option ℕ
number_of text = if is_number text && nat_lt (value_of 0 text) (2 ^ 64) then Some (value_of 0 text) else None

unfoldable pub guard_of : List ℕ → Option Guard
guard_of text =
    if pointwise nat_eq text (codes "leases") then Some guards.Leases
    else (if pointwise nat_eq text (codes "session") then Some guards.Session else None)

-- the first place is the socket, and the second the folder; neither is empty, and there is no third
abbrev pub with_place : Reading → List ℕ → Option Reading
with_place r text =
    if length text == 0 then None
    else (if not (is_some r.socket) then Some (record r { socket = Some text })
    else (if not (is_some r.folder) then Some (record r { folder = Some text }) else None))

-- the value of an option, which is there at most once
abbrev pub with_low : Reading → Option ℕ → Option ℕ → Option Reading
with_low r None (Some n) = Some (record r { low = Some n; awaited = None })
with_low r _ _ = None

abbrev pub with_high : Reading → Option ℕ → Option ℕ → Option Reading
with_high r None (Some n) = Some (record r { high = Some n; awaited = None })
with_high r _ _ = None

abbrev pub with_connections : Reading → Option ℕ → Option ℕ → Option Reading
with_connections r None (Some n) = Some (record r { connections = Some n; awaited = None })
with_connections r _ _ = None

abbrev pub with_guard : Reading → Option Guard → Option Guard → Option Reading
with_guard r None (Some g) = Some (record r { guard = Some g; awaited = None })
with_guard r _ _ = None

abbrev pub with_setting : Reading → Setting → List ℕ → Option Reading
with_setting r settings.QuotaLow text = with_low r r.low (number_of text)
with_setting r settings.QuotaHigh text = with_high r r.high (number_of text)
with_setting r settings.Connections text = with_connections r r.connections (number_of text)
with_setting r settings.Guard text = with_guard r r.guard (guard_of text)

-- a value doesn't begin with a dash
abbrev pub with_value : Reading → Setting → List ℕ → Option Reading
with_value r s text = if begins_with_dash text then None else with_setting r s text

-- an option with its value after `=`, or with its value in the next word
abbrev pub with_option : Reading → Option Setting → Option (List ℕ) → Option Reading
with_option r None value = None
with_option r (Some s) None = Some (record r { awaited = Some s })
with_option r (Some s) (Some value) = with_value r s value

-- a word that is no value of the option before it
abbrev pub with_plain : Reading → List ℕ → Option Reading
with_plain r text =
    if r.ended || not (begins_with_dash text) then with_place r text
    else (if pointwise nat_eq text (codes "--") then Some (record r { ended = true })
    else with_option r (setting_of (before_sign text)) (after_sign text))

-- one word more
abbrev pub with_word_at : Option Setting → Reading → List ℕ → Option Reading
with_word_at None r text = with_plain r text
with_word_at (Some s) r text = with_value r s text

abbrev pub with_word : Reading → List ℕ → Option Reading
with_word r text = with_word_at r.awaited r text

-- all words
abbrev pub then_words : Option Reading → List (List ℕ) → Option Reading
then_words r [] = r
then_words None (word ∷ words) = None
then_words (Some r) (word ∷ words) = then_words (with_word r word) words

-- The marks are in order and at most 2^62 bytes, and 1 to 2^21 connections are served.
abbrev pub may_ask : Asked → Bool
may_ask a = nat_le a.low a.high && (nat_le a.high (2 ^ 62) && (nat_lt 0 a.connections && nat_le a.connections (2 ^ 21)))

abbrev pub if_may : Asked → Option Asked
if_may a = if may_ask a then Some a else None

-- the places and options with what stands for an option that isn't there, once each option has its value
abbrev pub asked_at : Reading → Option (List ℕ) → Option (List ℕ) → Option Setting → Option Asked
asked_at r (Some socket) (Some folder) None = if_may (record {
  socket = socket;
  folder = folder;
  low = unwrap_or r.low 1_610_612_736;
  high = unwrap_or r.high 2_147_483_648;
  guard = unwrap_or r.guard guards.Leases;
  connections = unwrap_or r.connections (2 ^ 21);
})
asked_at r _ _ _ = None

abbrev pub asked_in : Option Reading → Option Asked
asked_in None = None
asked_in (Some r) = asked_at r r.socket r.folder r.awaited

-- What words of this form ask for: `serve SOCKET FOLDER` with `--quota-low N`, `--quota-high N`, `--connections N` and
-- `--guard leases` or `--guard session`, each at most once, in any place after `serve`, as two words or as `--name=VALUE`.
-- No word but an option begins with a dash; `--` ends the options. Other words ask for nothing.
unfoldable pub asked_by : List (List ℕ) → Option Asked
asked_by [] = None
asked_by (word ∷ words) = if pointwise nat_eq word (codes "serve") then asked_in (then_words (Some nothing) words) else None
