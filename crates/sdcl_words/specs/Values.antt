-- What the text of an argument stands for.
use Rattle.std.specs.Prelude.{ℕ, ◌&&◌, nat_le, List, [], ◌∷◌, Option, Some, None}
use Rattle.std.specs.Prelude.{if◌then◌else◌, option_and_then}
use Rattle.std.specs.Str.{bytes_eq}
use Rattle.sdcl_io.specs.Words.{number_word}
use Rattle.clap.specs.Words.{Row, Text, first_of}

-- n, where it is within the range
abbrev pub kept_within : ℕ → ℕ → ℕ → Option ℕ
kept_within low high n = if nat_le low n && nat_le n high then Some n else None

-- a number of 1 to 10 decimal digits within the range
abbrev pub number_in : ℕ → ℕ → Text → Option ℕ
number_in low high text = option_and_then (kept_within low high) (number_word text)

-- what the text stands for, as the first of these words that it is
abbrev pub meant_by : {T : Type 0} → List (Text × T) → Text → Option T
meant_by [] text = None
meant_by (row ∷ rows) text = if bytes_eq row.0 text then Some row.1 else meant_by rows text

-- what the values take a text for, and the default where there is none
abbrev pub or_default : {T : Type 0} → (Text → Option T) → T → Option Text → Option T
or_default values standard None = Some standard
or_default values standard (Some text) = values text

-- a number within a range, which has to be there
abbrev pub wanted_number : Text → ℕ → ℕ → List Row → Option ℕ
wanted_number name low high rows = option_and_then (number_in low high) (first_of name rows)

-- an option whose value is a number within a range
abbrev pub number_option : Text → ℕ → ℕ → ℕ → List Row → Option ℕ
number_option name low high standard rows =
    or_default (number_in low high) standard (first_of name rows)

-- an option whose value is one of these words
abbrev pub word_option : {T : Type 0} → Text → List (Text × T) → T → List Row → Option T
word_option name words standard rows =
    or_default (meant_by words) standard (first_of name rows)
